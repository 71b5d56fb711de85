-- The edges kept: each is a piece or the reversed one, so they are as noded as the pieces are, and no two have the same ends.
use Rattle.std.proofs.Common.{◌≡◌, ◌≢◌, ◌⊎◌, ◌++◌, inl, inr, ◌<ℤ◌, Bool, true, false, List, get_or, [], ◌∷◌, ap, arith, refl, sym, subst, zero, suc, ◌∙◌}
use Rattle.std.specs.Int.Signed.{lt_z}
use Rattle.std.specs.List.{All, AllPairs, Contains}
use Rattle.std.proofs.lemmas.Int.{ints}
use Rattle.std.proofs.lemmas.List.Elements.{All-contains, All-head, All-tail}
use Rattle.std.proofs.lemmas.List.Kept.{AllPairs-cons}
use Rattle.i_tree.proofs.RootLemmas.Joined.{AllPairs-nil}
use Rattle.i_tree.proofs.RootLemmas.Lists.{AllPairs-head, AllPairs-tail}
use Rattle.plane.specs.declared.edge.Edge.{Edge}
use Rattle.plane.specs.SweepLine.Heights.{rightwards}
use Rattle.plane.proofs.SweepLineLemmas.Rightwards.{rightwards-left, rightwards-right}
use Rattle.overlay.specs.declared.fill.pieces.Piece.{Piece}
use Rattle.overlay.specs.Fill.Counts.{Counts, counts_below, counts_above, kept_edge, kept_edges}
use Rattle.overlay.specs.Fill.Filled.{AreNoded, AreDistinct, HaveSameEnds}
use Rattle.overlay.specs.Fill.Pieces.{ArePieces}
use Rattle.plane.specs.Ends.{reversed}
use Rattle.overlay.proofs.FillLemmas.Level.{MeetOnly, same-onwards}
use Rattle.overlay.proofs.FillLemmas.Premises.{All-among, onwards, meet-pieces}
use Rattle.overlay.proofs.FillLemmas.Uncrossed.{MeetOnly-reversed, MeetOnly-exchanged}

-- ---- edges with the same ends

-- whichever is named first, and one after another
pub same-exchanged : (one other : Edge) → HaveSameEnds one other → HaveSameEnds other one
same-exchanged one other (inl same) = inl (sym same)
same-exchanged one other (inr back) = inr (ap reversed (sym back))

pub same-trans : (one second third : Edge) → HaveSameEnds one second → HaveSameEnds second third → HaveSameEnds one third
same-trans one second third (inl same) (inl next) = inl (same ∙ next)
same-trans one second third (inl same) (inr next) = inr (same ∙ next)
same-trans one second third (inr back) (inl next) = inr (back ∙ ap reversed next)
same-trans one second third (inr back) (inr next) = inl (back ∙ ap reversed next)

-- an edge turned rightwards has the ends of the edge
pub same-rightwards : (edge : Edge) → HaveSameEnds (rightwards edge) edge
same-rightwards edge = by (lt_z edge.x1 edge.x0) refl
  where
    by : (t : Bool) → lt_z edge.x1 edge.x0 ≡ t → HaveSameEnds (rightwards edge) edge
    by true e = inr (rightwards-left edge e)
    by false e = inl (rightwards-right edge e)

-- they meet others alike
MeetOnly-same : (one second other : Edge) → HaveSameEnds one second → MeetOnly second other → MeetOnly one other
MeetOnly-same one second other (inl same) meet = subst (λ (e : Edge). MeetOnly e other) (sym same) meet
MeetOnly-same one second other (inr back) meet = subst (λ (e : Edge). MeetOnly e other) (sym back) (MeetOnly-reversed second other meet)

-- ---- which pieces the kept edges are of

-- the edge is one of the pieces', or the reversed one of it
record IsKeptOf (pieces : List Piece) (edge : Edge) : Type 0 where
  pub piece : Piece
  pub among : Contains pieces piece
  pub same : HaveSameEnds edge piece.edge

-- it has the first edge's ends, or is one of the others
first_or_others : (first : Edge) (others : List Edge) (start edge : Edge) → HaveSameEnds start first → Contains (start ∷ others) edge → HaveSameEnds edge first ⊎ Contains others edge
first_or_others first others start edge same (zero, inside, is) = inl (subst (λ (e : Edge). HaveSameEnds e first) is same)
first_or_others first others start edge same (suc k, inside, is) = inr (k, omega (arith, inside), is)

-- of a piece its edge is kept, or the reversed one, or none
kept_edge-cases : (below above : Bool) (first : Edge) (others : List Edge) (edge : Edge) → Contains (kept_edge below above first others) edge → HaveSameEnds edge first ⊎ Contains others edge
kept_edge-cases true true first others edge among = inr among
kept_edge-cases false false first others edge among = inr among
kept_edge-cases false true first others edge among = first_or_others first others first edge (inl refl) among
kept_edge-cases true false first others edge among = first_or_others first others (reversed first) edge (inr refl) among

module _ (inside : Counts → Bool) (subject clip : List Edge) where
  -- each kept edge is of a piece
  kept-piece : (pieces : List Piece) (edge : Edge) → Contains (kept_edges inside subject clip pieces) edge → IsKeptOf pieces edge
  kept-piece [] edge (k, within, is) = absurd (omega (arith, within))
  kept-piece (piece ∷ pieces) edge among =
      elim (kept_edge-cases (inside (counts_below subject clip piece)) (inside (counts_above subject clip piece)) piece.edge (kept_edges inside subject clip pieces) edge among) [
        | inl same ↦ record { piece = piece; among = (0, omega arith, refl); same = same }
        | inr later ↦
            let found = kept-piece pieces edge later in
            let within = found.among.1 in record {
              piece = found.piece;
              among = (suc found.among.0, omega (arith, within), found.among.2);
              same = found.same;
            }
      ]

  -- no two have the same ends, where no two pieces are of one edge
  one_distinct : (below above : Bool) (first : Edge) (others : List Edge) → All (λ edge. ¬ (HaveSameEnds first edge)) others → AreDistinct others → AreDistinct (kept_edge below above first others)
  one_distinct true true first others apart distinct = distinct
  one_distinct false false first others apart distinct = distinct
  one_distinct false true first others apart distinct = AllPairs-cons (λ one other. ¬ (HaveSameEnds one other)) first others apart distinct
  one_distinct true false first others apart distinct =
      AllPairs-cons (λ one other. ¬ (HaveSameEnds one other)) (reversed first) others
      (λ k d within same. apart k d within (same-trans first (reversed first) (get_or others k d) (inr refl) same)) distinct

  -- so no two of all have
  all_distinct : (pieces : List Piece) → All (λ piece. piece.edge.x0 <ℤ piece.edge.x1) pieces → AllPairs (λ one other. one.edge ≢ other.edge) pieces → AreDistinct (kept_edges inside subject clip pieces)
  all_distinct [] all distinct = AllPairs-nil (λ one other. ¬ (HaveSameEnds one other))
  all_distinct (piece ∷ pieces) all distinct =
      let rest = All-tail (λ (p : Piece). p.edge.x0 <ℤ p.edge.x1) piece pieces all in
      one_distinct (inside (counts_below subject clip piece)) (inside (counts_above subject clip piece)) piece.edge (kept_edges inside subject clip pieces)
      (All-among (λ edge. ¬ (HaveSameEnds piece.edge edge)) (kept_edges inside subject clip pieces) (λ edge among same.
      let of = kept-piece pieces edge among in
      All-contains (λ (p : Piece). piece.edge ≢ p.edge) pieces of.piece (AllPairs-head (λ (one other : Piece). one.edge ≢ other.edge) piece pieces distinct) of.among
      (same-onwards piece.edge of.piece.edge (All-head (λ (p : Piece). p.edge.x0 <ℤ p.edge.x1) piece pieces all) (All-contains (λ (p : Piece). p.edge.x0 <ℤ p.edge.x1) pieces of.piece rest of.among)
      (same-trans piece.edge edge of.piece.edge same of.same))))
      (all_distinct pieces rest (AllPairs-tail (λ (one other : Piece). one.edge ≢ other.edge) piece pieces distinct))

-- ---- the kept edges of pieces

module _ (subject clip : List Edge) (noded : AreNoded (subject ++ clip)) (pieces : List Piece) (are : ArePieces subject clip pieces) (inside : Counts → Bool) where
  -- they meet only at common ends
  pub kept-noded : AreNoded (kept_edges inside subject clip pieces)
  kept-noded one other point first second of_one of_other =
      let p = kept-piece inside subject clip pieces one first in
      let q = kept-piece inside subject clip pieces other second in
      let meet = MeetOnly-same one p.piece.edge q.piece.edge p.same (meet-pieces subject clip noded pieces are p.piece q.piece p.among q.among) in
      MeetOnly-exchanged other one (MeetOnly-same other q.piece.edge one q.same (MeetOnly-exchanged one q.piece.edge meet)) point of_one of_other

  -- no two have the same ends
  pub kept-distinct : AreDistinct (kept_edges inside subject clip pieces)
  kept-distinct = all_distinct inside subject clip pieces are.onwards are.distinct

  -- none is vertical
  slanted : (edge other : Edge) → HaveSameEnds edge other → other.x0 <ℤ other.x1 → edge.x1 ≢ edge.x0
  slanted edge other (inl same) some upright =
      let from = ap (λ (e : Edge). e.x0) same in
      let to = ap (λ (e : Edge). e.x1) same in
      omega (arith, ints, some, upright, from, to)
  slanted edge other (inr back) some upright =
      let from = ap (λ (e : Edge). e.x0) back in
      let to = ap (λ (e : Edge). e.x1) back in
      omega (arith, ints, some, upright, from, to)

  -- none is vertical or a point
  pub kept-onwards : (edge : Edge) → Contains (kept_edges inside subject clip pieces) edge → edge.x1 ≢ edge.x0
  kept-onwards edge among =
      let p = kept-piece inside subject clip pieces edge among in
      slanted edge p.piece.edge p.same (onwards subject clip noded pieces are p.piece p.among)

  -- each is one of the edges, or the reversed one of it
  either : (edge other : Edge) → HaveSameEnds edge other → Contains (subject ++ clip) other → Contains (subject ++ clip) edge ⊎ Contains (subject ++ clip) (reversed edge)
  either edge other (inl same) among = inl (subst (Contains (subject ++ clip)) (sym same) among)
  either edge other (inr back) among = inr (subst (Contains (subject ++ clip)) (ap reversed (sym back)) among)

  -- each is an edge of the subject or of the clip, one way or the other
  pub kept-of : (edge : Edge) → Contains (kept_edges inside subject clip pieces) edge → Contains (subject ++ clip) edge ⊎ Contains (subject ++ clip) (reversed edge)
  kept-of edge among =
      let p = kept-piece inside subject clip pieces edge among in
      let of = All-contains (λ (q : Piece). (e : Edge) × Contains (subject ++ clip) e × (rightwards e ≡ q.edge)) pieces p.piece are.of p.among in
      either edge of.0 (same-trans edge p.piece.edge of.0 p.same (subst (λ (e : Edge). HaveSameEnds e of.0) of.2 (same-rightwards of.0))) of.1
