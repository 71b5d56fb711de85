-- What the pieces of noded edges have: they go rightwards, and they and the edges meet only at common ends.
use Rattle.std.proofs.Common.{◌≡◌, ◌++◌, ◌<ℤ◌, List, subst}
use Rattle.std.specs.List.{All, Contains}
use Rattle.std.proofs.lemmas.List.Elements.{All-contains, All-contains_itself, All-weaker, Contains-append_left, Contains-append_right}
use Rattle.plane.specs.declared.edge.Edge.{Edge}
use Rattle.plane.specs.SweepLine.Heights.{rightwards}
use Rattle.overlay.specs.declared.fill.pieces.Piece.{Piece}
use Rattle.overlay.specs.Fill.Filled.{AreNoded}
use Rattle.overlay.specs.Fill.Pieces.{ArePieces}
use Rattle.overlay.proofs.FillLemmas.Aside.{IsAside, aside}
use Rattle.overlay.proofs.FillLemmas.Level.{MeetOnly}
use Rattle.overlay.proofs.FillLemmas.Uncrossed.{MeetOnly-exchanged, MeetOnly-rightwards}

-- what holds of each element holds of all
pub All-among : {X : Type 0} (P : X → Type 0) (xs : List X) → ((x : X) → Contains xs x → P x) → All P xs
All-among P xs each = All-weaker (Contains xs) P each xs (All-contains_itself xs)

module _ (subject clip : List Edge) (noded : AreNoded (subject ++ clip)) (pieces : List Piece) (are : ArePieces subject clip pieces) where
  -- each piece goes rightwards
  pub onwards : (p : Piece) → Contains pieces p → p.edge.x0 <ℤ p.edge.x1
  onwards p among = All-contains (λ (q : Piece). q.edge.x0 <ℤ q.edge.x1) pieces p are.onwards among

  -- an edge and a piece
  pub meets : (edge : Edge) (p : Piece) → Contains (subject ++ clip) edge → Contains pieces p → MeetOnly edge p.edge
  meets edge p first second =
      let of = All-contains (λ (q : Piece). (e : Edge) × Contains (subject ++ clip) e × (rightwards e ≡ q.edge)) pieces p are.of second in
      let meet : MeetOnly of.0 edge = λ point of_one of_other. noded of.0 edge point of.1 first of_one of_other in
      MeetOnly-exchanged p.edge edge (subst (λ (e : Edge). MeetOnly e edge) of.2 (MeetOnly-rightwards of.0 edge meet))

  -- two pieces
  pub meet-pieces : (p q : Piece) → Contains pieces p → Contains pieces q → MeetOnly p.edge q.edge
  meet-pieces p q first second =
      let of = All-contains (λ (r : Piece). (e : Edge) × Contains (subject ++ clip) e × (rightwards e ≡ r.edge)) pieces p are.of first in
      subst (λ (e : Edge). MeetOnly e q.edge) of.2 (MeetOnly-rightwards of.0 q.edge (meets of.0 q of.1 second))

  -- so the edges keep off the inside of each piece
  pub subject-aside : (p : Piece) → Contains pieces p → All (IsAside p.edge) subject
  subject-aside p among = All-among (IsAside p.edge) subject (λ edge inside. aside p.edge edge (meets edge p (Contains-append_left subject clip edge inside) among))

  pub clip-aside : (p : Piece) → Contains pieces p → All (IsAside p.edge) clip
  clip-aside p among = All-among (IsAside p.edge) clip (λ edge inside. aside p.edge edge (meets edge p (Contains-append_right subject clip edge inside) among))
