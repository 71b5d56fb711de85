-- The sides of rings as the pieces of a fill.
use Rattle.std.proofs.Common.{◌≡◌, ◌≢◌, ◌<◌, ◌*◌, ◌^◌, ◌≤◌, ◌++◌, [], ◌∷◌, ℕ, Bool, true, false, cond, List, length, get_or, refl, sym, subst, ◌∙◌, append-nil, arith}
use Rattle.std.specs.List.{All, AllPairs, Contains}
use Rattle.std.specs.List.Sorted.{IsPermutation}
use Rattle.std.specs.Ordering.{int_eq}
use Rattle.std.proofs.Math.Nat.{mul-le-mul_left}
use Rattle.std.proofs.lemmas.List.Elements.{All-contains, All-contains_itself, All-weaker}
use Rattle.std.proofs.lemmas.List.Kept.{AllPairs-cons}
use Rattle.std.proofs.lemmas.List.Sorted.{IsPermutation-refl, length_permutation}
use Rattle.i_tree.proofs.RootLemmas.Lists.{AllPairs-head, AllPairs-tail}
use Rattle.plane.specs.declared.edge.Edge.{Edge}
use Rattle.plane.proofs.PairsLemmas.Bags.{AllPairs-permutation}
use Rattle.overlay.specs.declared.fill.pieces.Piece.{Piece}
use Rattle.overlay.specs.declared.fill.pieces.Operand.TheVariants.{Subject}
use Rattle.overlay.specs.Fill.Filled.{AreDistinct, AreNoded, HaveSameEnds}
use Rattle.overlay.specs.Fill.Begins.{BeginInOrder}
use Rattle.overlay.specs.Fill.Sweep.{AreFillPieces}
use Rattle.overlay.specs.Fill.Turned.{AreJoinOf, AreTurned, StandFor, piece_of, turned}
use Rattle.noding.specs.Windings.{IsClosed}
use Rattle.overlay.proofs.KeptLemmas.First.{turned-same}
use Rattle.overlay.proofs.PieceLemmas.Joined.{small-wider}
use Rattle.overlay.proofs.PieceLemmas.Made.{AreTurned-all, IsTurned, joined-pieces, joined-weigh, stand-turned, turned-length}
use Rattle.overlay.specs.Grouping.{pieces_of}
use Rattle.overlay.specs.declared.grouping.sides.Side.{Side}

-- ---- no two of them are of one edge

turned-of : (edges : List Edge) → All (IsTurned (edges ++ [])) (turned Subject edges)
turned-of edges = AreTurned-all edges [] (turned Subject edges) (subst (λ (list : List Piece). IsPermutation list (turned Subject edges)) (sym (append-nil (turned Subject edges))) (IsPermutation-refl (turned Subject edges)))

abbrev Differ : Piece → Piece → Type 0
Differ one other = one.edge ≢ other.edge

by_edge : (edge : Edge) (pieces : List Piece) (t : Bool) → AllPairs Differ pieces → All (Differ (piece_of Subject edge)) pieces → AllPairs Differ (cond t pieces (piece_of Subject edge ∷ pieces))
by_edge edge pieces true others first = others
by_edge edge pieces false others first = AllPairs-cons Differ (piece_of Subject edge) pieces first others

distinct-pieces : (edges : List Edge) → AreDistinct edges → AllPairs Differ (turned Subject edges)
distinct-pieces [] distinct = λ i j d less within. absurd (omega (arith, within))
distinct-pieces (edge ∷ edges) distinct =
    by_edge edge (turned Subject edges) (int_eq edge.x0 edge.x1) (distinct-pieces edges (AllPairs-tail (λ one other. ¬ (HaveSameEnds one other)) edge edges distinct))
    (All-weaker (IsTurned (edges ++ [])) (Differ (piece_of Subject edge)) differ (turned Subject edges) (turned-of edges))
  where
    differ : (piece : Piece) → IsTurned (edges ++ []) piece → Differ (piece_of Subject edge) piece
    differ piece of same =
        let among : Contains edges of.edge = subst (λ (list : List Edge). Contains list of.edge) (append-nil edges) of.among in
        All-contains (λ (other : Edge). ¬ (HaveSameEnds edge other)) edges of.edge (AllPairs-head (λ one other. ¬ (HaveSameEnds one other)) edge edges distinct) among
        (turned-same edge of.edge (same ∙ sym of.is))

-- ---- as pieces of a fill

some : (most n : ℕ) → 0 < n → most ≤ most * n
some most n more = let step : most * 1 ≤ most * n = mul-le-mul_left most (omega (arith, more)) in omega (arith, step)

join-none : (pieces : List Piece) → BeginInOrder pieces → AllPairs Differ pieces → AreJoinOf pieces pieces
join-none pieces order distinct = record {
  subject = λ test. refl;
  clip = λ test. refl;
  of = All-weaker (Contains pieces) (λ piece. (other : Piece) × Contains pieces other × (other.edge ≡ piece.edge)) (λ piece held. (piece, held, refl)) pieces (All-contains_itself pieces);
  order = order;
  distinct = distinct;
  few = omega arith;
  small = λ most are k d within. small-wider most (most * length pieces) (get_or pieces k d) (some most (length pieces) (omega (arith, within))) (are k d within);
}

differ-exchanged : (one other : Piece) → Differ one other → Differ other one
differ-exchanged one other differ same = differ (sym same)

pub AreFillPieces-sides : (edges : List Edge) (sides : List Side) → IsClosed edges → AreNoded edges → AreDistinct edges → IsPermutation (turned Subject edges) (pieces_of sides) → BeginInOrder (pieces_of sides) → length edges < 2 ^ 63 → AreFillPieces (pieces_of sides)
AreFillPieces-sides edges sides closed noded distinct moved in_order countable = record {
  subject = edges;
  clip = [];
  closed = closed;
  clip_closed = λ test. refl;
  noded = subst AreNoded (sym (append-nil edges)) noded;
  are = joined-pieces edges [] (pieces_of sides) (pieces_of sides) stand alone;
  order = in_order;
  most = stand.most * length (pieces_of sides);
  weigh = joined-weigh stand.most (pieces_of sides) (pieces_of sides) stand.small alone;
  countable = stand.countable;
}
  where
    turned_all : AreTurned edges [] (pieces_of sides)
    turned_all = subst (λ (list : List Piece). IsPermutation list (pieces_of sides)) (sym (append-nil (turned Subject edges))) moved

    few : length (pieces_of sides) < 2 ^ 63
    few = let same = length_permutation (turned Subject edges) (pieces_of sides) moved in let most = turned-length Subject edges in omega (arith, same, most, countable)

    stand : StandFor edges [] (pieces_of sides)
    stand = stand-turned edges [] (pieces_of sides) turned_all few

    alone : AreJoinOf (pieces_of sides) (pieces_of sides)
    alone = join-none (pieces_of sides) in_order (AllPairs-permutation Differ differ-exchanged (turned Subject edges) (pieces_of sides) moved (distinct-pieces edges distinct))
