-- From the edges of the subject and of the clip to their pieces.
use Rattle.std.proofs.Common.{◌≡◌, ◌≢◌, ◌≤◌, ◌<◌, ◌+◌, ◌*◌, ◌^◌, ◌++◌, ℕ, suc, [], ◌∷◌, inl, inr, Bool, true, false, cond, ◌&&◌, ℤ, pos, ◌+ℤ◌, ◌*ℤ◌, ◌≤ℤ◌, ◌<ℤ◌, List, length, get_or, refl, ap, ap₂, sym, subst, ◌∙◌, arith}
use Rattle.std.specs.Bool.{MatchBool}
use Rattle.std.specs.List.{All, Contains}
use Rattle.std.specs.List.Sorted.{IsPermutation, IsSortedBy}
use Rattle.std.specs.Int.Signed.{lt_z}
use Rattle.std.specs.Ordering.{int_eq}
use Rattle.std.proofs.lemmas.Int.{ints, clamps, by_lt_z}
use Rattle.std.proofs.lemmas.List.{length-append}
use Rattle.std.proofs.lemmas.List.Elements.{All-append, All-cons, All-contains, All-head, All-nil, All-tail, All-weaker, Contains-append_left, Contains-append_right}
use Rattle.std.proofs.lemmas.List.Sorted.{All-permutation, IsPermutation-refl, length_permutation, sorted_far}
use Rattle.i_tree.proofs.RootLemmas.Lists.{Contains-here, Contains-there}
use Rattle.plane.specs.declared.edge.Edge.{Edge}
use Rattle.plane.specs.Meet.Crosses.{IsWithin}
use Rattle.plane.specs.SweepLine.Heights.{run, rise, rightwards}
use Rattle.plane.proofs.SweepLineLemmas.Rightwards.{rightwards-left, rightwards-right}
use Rattle.overlay.specs.declared.fill.pieces.Piece.{Piece}
use Rattle.overlay.specs.declared.fill.pieces.Operand.{Operand}
use Rattle.overlay.specs.declared.fill.pieces.Operand.TheVariants.{Subject, Clip}
use Rattle.overlay.specs.Fill.Begins.{steps, BeginsUpto, BeginInOrder}
use Rattle.overlay.specs.Fill.Counts.{is_lower_on}
use Rattle.overlay.specs.Fill.Filled.{AreNoded}
use Rattle.overlay.specs.Fill.Pieces.{ArePieces, total, weight}
use Rattle.overlay.specs.Fill.Sweep.{WeighUpto}
use Rattle.overlay.specs.Fill.Turned.{AreJoinOf, AreSloped, AreTurned, AreUnjoined, BeginApart, IsSmall, StandFor, asked, piece_of, turned}
use Rattle.noding.specs.Windings.{IsClosed}
use Rattle.overlay.proofs.FillLemmas.Level.{MeetOnly}
use Rattle.overlay.proofs.FillLemmas.Order.{lower-asym, start-lower}
use Rattle.overlay.proofs.FillLemmas.Small.{unit_weight}
use Rattle.overlay.proofs.FillLemmas.Totals.{total-append, total-permutation}
use Rattle.overlay.proofs.FillLemmas.Uncrossed.{MeetOnly-exchanged, MeetOnly-rightwards}
use Rattle.overlay.proofs.FillLemmas.Weights.{weight-none}
use Rattle.overlay.proofs.PieceLemmas.Begins.{begins_before, not_before, weak_order}
use Rattle.overlay.proofs.PieceLemmas.Edges.{edge-is, equal, unequal}

-- ---- the pieces of edges

-- a piece of one of the edges: turned rightwards, and of one unit
pub record IsTurned (edges : List Edge) (piece : Piece) : Type 0 where
  pub edge : Edge
  pub among : Contains edges edge
  pub is : rightwards edge ≡ piece.edge
  pub onwards : piece.edge.x0 <ℤ piece.edge.x1
  pub small : IsSmall 1 piece

pub rightwards-onwards : (edge : Edge) → edge.x0 ≢ edge.x1 → (rightwards edge).x0 <ℤ (rightwards edge).x1
rightwards-onwards edge sloped = by (lt_z edge.x1 edge.x0) refl
  where
    by : (t : Bool) → lt_z edge.x1 edge.x0 ≡ t → (rightwards edge).x0 <ℤ (rightwards edge).x1
    by true e = subst (λ (right : Edge). right.x0 <ℤ right.x1) (sym (rightwards-left edge e)) (by_lt_z edge.x1 edge.x0 (λ h. h) (λ h. absurd (backwards e h)))
      where
        backwards : lt_z edge.x1 edge.x0 ≡ true → edge.x0 ≤ℤ edge.x1 → ⊥
        backwards e h = omega (arith, ints, e, h)
    by false e = subst (λ (right : Edge). right.x0 <ℤ right.x1) (sym (rightwards-right edge e)) (by_lt_z edge.x0 edge.x1 (λ h. h) (λ h. absurd (sloped (level e h))))
      where
        level : lt_z edge.x1 edge.x0 ≡ false → edge.x1 ≤ℤ edge.x0 → edge.x0 ≡ edge.x1
        level e h = omega (arith, ints, e, h)

piece-small : (operand : Operand) (edge : Edge) → IsSmall 1 (piece_of operand edge)
piece-small Subject edge =
    let of = unit_weight edge in
    record { from = of.from; upto = of.upto; clip_from = omega (arith, ints); clip_upto = omega (arith, ints) }
piece-small Clip edge =
    let of = unit_weight edge in
    record { from = omega (arith, ints); upto = omega (arith, ints); clip_from = of.from; clip_upto = of.upto }

piece-turned : (operand : Operand) (edges : List Edge) (edge : Edge) → Contains edges edge → edge.x0 ≢ edge.x1 → IsTurned edges (piece_of operand edge)
piece-turned Subject edges edge among sloped = record { edge = edge; among = among; is = refl; onwards = rightwards-onwards edge sloped; small = piece-small Subject edge }
piece-turned Clip edges edge among sloped = record { edge = edge; among = among; is = refl; onwards = rightwards-onwards edge sloped; small = piece-small Clip edge }

IsTurned-wider : (edges wider : List Edge) → ((edge : Edge) → Contains edges edge → Contains wider edge) → (piece : Piece) → IsTurned edges piece → IsTurned wider piece
IsTurned-wider edges wider more piece is = record { edge = is.edge; among = more is.edge is.among; is = is.is; onwards = is.onwards; small = is.small }

by_edge : (operand : Operand) (edge : Edge) (edges : List Edge) (pieces : List Piece) (t : Bool) → int_eq edge.x0 edge.x1 ≡ t → All (IsTurned (edge ∷ edges)) pieces → All (IsTurned (edge ∷ edges)) (cond t pieces (piece_of operand edge ∷ pieces))
by_edge operand edge edges pieces true e others = others
by_edge operand edge edges pieces false e others = All-cons (IsTurned (edge ∷ edges)) (piece_of operand edge) pieces (piece-turned operand (edge ∷ edges) edge (Contains-here edge edges) (unequal edge.x0 edge.x1 e)) others

turned-all : (operand : Operand) (edges : List Edge) → All (IsTurned edges) (turned operand edges)
turned-all operand [] = All-nil (IsTurned [])
turned-all operand (edge ∷ edges) =
    by_edge operand edge edges (turned operand edges) (int_eq edge.x0 edge.x1) refl
    (All-weaker (IsTurned edges) (IsTurned (edge ∷ edges)) (IsTurned-wider edges (edge ∷ edges) (λ one among. Contains-there edge edges one among)) (turned operand edges) (turned-all operand edges))

pub AreTurned-all : (subject clip : List Edge) (pieces : List Piece) → AreTurned subject clip pieces → All (IsTurned (subject ++ clip)) pieces
AreTurned-all subject clip pieces are =
    All-permutation (IsTurned (subject ++ clip)) (turned Subject subject ++ turned Clip clip) pieces are
    (All-append (IsTurned (subject ++ clip)) (turned Subject subject) (turned Clip clip)
    (All-weaker (IsTurned subject) (IsTurned (subject ++ clip)) (IsTurned-wider subject (subject ++ clip) (Contains-append_left subject clip)) (turned Subject subject) (turned-all Subject subject))
    (All-weaker (IsTurned clip) (IsTurned (subject ++ clip)) (IsTurned-wider clip (subject ++ clip) (Contains-append_right subject clip)) (turned Clip clip) (turned-all Clip clip)))

-- ---- what they weigh

module _ (test : Edge → Bool) where
  abbrev worth : Edge → ℤ
  worth edge = cond (test (rightwards edge)) (weight edge) (pos 0)

  nothing : (t : Bool) (w : ℤ) → w ≡ pos 0 → cond t w (pos 0) ≡ pos 0
  nothing true w is = is
  nothing false w is = refl

  no_more : (a b c : ℤ) → a ≡ b → c ≡ pos 0 → a ≡ (c +ℤ b)
  no_more a b c is none = omega (arith, ints, is, none)

  by_subject : (edge : Edge) (pieces : List Piece) (rest : ℤ) (t : Bool) → int_eq edge.x0 edge.x1 ≡ t → total (asked test (λ p. p.subject)) pieces ≡ rest
      → total (asked test (λ p. p.subject)) (cond t pieces (piece_of Subject edge ∷ pieces)) ≡ (worth edge +ℤ rest)
  by_subject edge pieces rest true e is = no_more (total (asked test (λ p. p.subject)) pieces) rest (worth edge) is (nothing (test (rightwards edge)) (weight edge) (weight-none edge (equal edge.x0 edge.x1 e)))
  by_subject edge pieces rest false e is = ap (λ z. worth edge +ℤ z) is

  subject-subject : (edges : List Edge) → total (asked test (λ p. p.subject)) (turned Subject edges) ≡ total worth edges
  subject-subject [] = refl
  subject-subject (edge ∷ edges) = by_subject edge (turned Subject edges) (total worth edges) (int_eq edge.x0 edge.x1) refl (subject-subject edges)

  by_clip : (edge : Edge) (pieces : List Piece) (rest : ℤ) (t : Bool) → int_eq edge.x0 edge.x1 ≡ t → total (asked test (λ p. p.clip)) pieces ≡ rest
      → total (asked test (λ p. p.clip)) (cond t pieces (piece_of Clip edge ∷ pieces)) ≡ (worth edge +ℤ rest)
  by_clip edge pieces rest true e is = no_more (total (asked test (λ p. p.clip)) pieces) rest (worth edge) is (nothing (test (rightwards edge)) (weight edge) (weight-none edge (equal edge.x0 edge.x1 e)))
  by_clip edge pieces rest false e is = ap (λ z. worth edge +ℤ z) is

  clip-clip : (edges : List Edge) → total (asked test (λ p. p.clip)) (turned Clip edges) ≡ total worth edges
  clip-clip [] = refl
  clip-clip (edge ∷ edges) = by_clip edge (turned Clip edges) (total worth edges) (int_eq edge.x0 edge.x1) refl (clip-clip edges)

  none_more : (f : Piece → ℤ) (piece : Piece) (pieces : List Piece) (t : Bool) → f piece ≡ pos 0 → total f pieces ≡ pos 0 → total f (cond t pieces (piece ∷ pieces)) ≡ pos 0
  none_more f piece pieces true is rest = rest
  none_more f piece pieces false is rest = ap₂ (λ a b. a +ℤ b) is rest

  subject-clip : (edges : List Edge) → total (asked test (λ p. p.clip)) (turned Subject edges) ≡ pos 0
  subject-clip [] = refl
  subject-clip (edge ∷ edges) = none_more (asked test (λ p. p.clip)) (piece_of Subject edge) (turned Subject edges) (int_eq edge.x0 edge.x1) (nothing (test (rightwards edge)) (pos 0) refl) (subject-clip edges)

  clip-subject : (edges : List Edge) → total (asked test (λ p. p.subject)) (turned Clip edges) ≡ pos 0
  clip-subject [] = refl
  clip-subject (edge ∷ edges) = none_more (asked test (λ p. p.subject)) (piece_of Clip edge) (turned Clip edges) (int_eq edge.x0 edge.x1) (nothing (test (rightwards edge)) (pos 0) refl) (clip-subject edges)

  first_only : (a b c : ℤ) → a ≡ b → c ≡ pos 0 → (a +ℤ c) ≡ b
  first_only a b c is none = omega (arith, ints, none, is)

  second_only : (a b c : ℤ) → a ≡ pos 0 → c ≡ b → (a +ℤ c) ≡ b
  second_only a b c none is = omega (arith, ints, none, is)

  pub turned-subject : (subject clip : List Edge) (pieces : List Piece) → AreTurned subject clip pieces → total worth subject ≡ total (asked test (λ p. p.subject)) pieces
  turned-subject subject clip pieces are =
      sym (total-permutation (asked test (λ p. p.subject)) (turned Subject subject ++ turned Clip clip) pieces are
      ∙ total-append (asked test (λ p. p.subject)) (turned Subject subject) (turned Clip clip)
      ∙ first_only (total (asked test (λ p. p.subject)) (turned Subject subject)) (total worth subject) (total (asked test (λ p. p.subject)) (turned Clip clip)) (subject-subject subject) (clip-subject clip))

  pub turned-clip : (subject clip : List Edge) (pieces : List Piece) → AreTurned subject clip pieces → total worth clip ≡ total (asked test (λ p. p.clip)) pieces
  turned-clip subject clip pieces are =
      sym (total-permutation (asked test (λ p. p.clip)) (turned Subject subject ++ turned Clip clip) pieces are
      ∙ total-append (asked test (λ p. p.clip)) (turned Subject subject) (turned Clip clip)
      ∙ second_only (total (asked test (λ p. p.clip)) (turned Subject subject)) (total worth clip) (total (asked test (λ p. p.clip)) (turned Clip clip)) (subject-clip subject) (clip-clip clip))

-- ---- pieces that begin alike

pub steps-run : (edge : Edge) → edge.x0 <ℤ edge.x1 → steps edge ≡ run edge
steps-run edge onwards = omega (arith, ints, clamps, onwards)

abbrev same_edge : Edge → Edge → Bool
same_edge one other = int_eq one.x0 other.x0 && (int_eq one.y0 other.y0 && (int_eq one.x1 other.x1 && int_eq one.y1 other.y1))

-- of two edges that start at one x and meet only at common ends, the one that begins no later is lower there
pub begins-lower : (one other : Edge) → MeetOnly one other → one ≢ other → one.x0 <ℤ one.x1 → other.x0 <ℤ other.x1 → one.x0 ≡ other.x0 → BeginsUpto one other → is_lower_on one.x0 one other ≡ true
begins-lower one other meet apart some some_too level (inl less) = absurd (omega (arith, ints, level, less))
begins-lower one other meet apart some some_too level (inr (same, inl less)) = start-lower one other meet apart some some_too level (inl less)
begins-lower one other meet apart some some_too level (inr (same, inr (even, flat))) =
    start-lower one other meet apart some some_too level (inr (even, slopes (rise one) (rise other) (steps other) (steps one) (run other) (run one) (steps-run other some_too) (steps-run one some) flat))
  where
    slopes : (a b m n k l : ℤ) → m ≡ k → n ≡ l → (a *ℤ m) ≤ℤ (b *ℤ n) → (a *ℤ k) ≤ℤ (b *ℤ l)
    slopes a b m n k l first second upto = subst (λ (z : ℤ). (a *ℤ z) ≤ℤ (b *ℤ l)) first (subst (λ (z : ℤ). (a *ℤ m) ≤ℤ (b *ℤ z)) second upto)

-- edges that meet only at common ends, and begin alike, are one
pub alike : (one other : Edge) → MeetOnly one other → one.x0 <ℤ one.x1 → other.x0 <ℤ other.x1 → BeginsUpto one other → BeginsUpto other one → one ≡ other
alike one other meet some some_too (inl less) (inl more) = absurd (omega (arith, ints, less, more))
alike one other meet some some_too (inl less) (inr (level, rest)) = absurd (omega (arith, ints, less, level))
alike one other meet some some_too (inr (level, rest)) (inl more) = absurd (omega (arith, ints, level, more))
alike one other meet some some_too (inr (level, inl less)) (inr (same, inl more)) = absurd (omega (arith, ints, less, more))
alike one other meet some some_too (inr (level, inl less)) (inr (same, inr (even, rest))) = absurd (omega (arith, ints, less, even))
alike one other meet some some_too (inr (level, inr (even, rest))) (inr (same, inl more)) = absurd (omega (arith, ints, even, more))
alike one other meet some some_too (inr (level, inr (even, flat))) (inr (same, inr (as_even, steep))) = by (same_edge one other) refl
  where
    by : (t : Bool) → same_edge one other ≡ t → one ≡ other
    by true e = subst (λ (t : Bool). MatchBool t (one ≡ other) (one ≢ other)) e (edge-is one other)
    by false e =
        let apart : one ≢ other = subst (λ (t : Bool). MatchBool t (one ≡ other) (one ≢ other)) e (edge-is one other) in
        let lower = begins-lower one other meet apart some some_too level (inr (level, inr (even, flat))) in
        let higher = begins-lower other one (MeetOnly-exchanged one other meet) (λ is. apart (sym is)) some_too some same (inr (same, inr (as_even, steep))) in
        absurd (never (sym (lower-asym one.x0 one other lower) ∙ subst (λ (x : ℤ). is_lower_on x other one ≡ true) same higher))
      where
        never : false ≡ true → ⊥
        never h = cc

pub stand-apart : (subject clip : List Edge) (pieces : List Piece) → AreNoded (subject ++ clip) → StandFor subject clip pieces → BeginApart pieces
stand-apart subject clip pieces noded stand one other first second upto back =
    let (edge, among, is) = All-contains Of pieces one stand.of first in
    let (edge', among', is') = All-contains Of pieces other stand.of second in
    let meet : MeetOnly edge edge' = λ point a b. noded edge edge' point among among' a b in
    let turned_meet = MeetOnly-rightwards edge edge' meet in
    let both_meet : MeetOnly (rightwards edge) (rightwards edge') =
    MeetOnly-exchanged (rightwards edge') (rightwards edge) (MeetOnly-rightwards edge' (rightwards edge) (MeetOnly-exchanged (rightwards edge) edge' turned_meet)) in
    alike one.edge other.edge (subst (λ (e : Edge). MeetOnly e other.edge) is (subst (λ (e : Edge). MeetOnly (rightwards edge) e) is' both_meet)) (All-contains Onwards pieces one stand.onwards first) (All-contains Onwards pieces other stand.onwards second) upto back
  where
    Of : Piece → Type 0
    Of piece = (edge : Edge) × Contains (subject ++ clip) edge × (rightwards edge ≡ piece.edge)

    Onwards : Piece → Type 0
    Onwards piece = piece.edge.x0 <ℤ piece.edge.x1

pub turned-units : (edges : List Edge) (pieces : List Piece) → All (IsTurned edges) pieces → All (IsSmall 1) pieces
turned-units edges pieces are = All-weaker (IsTurned edges) (IsSmall 1) (λ piece is. is.small) pieces are

-- edges turned stand for themselves
pub stand-turned : (subject clip : List Edge) (pieces : List Piece) → AreTurned subject clip pieces → length pieces < 2 ^ 63 → StandFor subject clip pieces
stand-turned subject clip pieces turned few =
    let all = AreTurned-all subject clip pieces turned in record {
      onwards = All-weaker (IsTurned (subject ++ clip)) (λ piece. piece.edge.x0 <ℤ piece.edge.x1) (λ piece is. is.onwards) pieces all;
      of = All-weaker (IsTurned (subject ++ clip)) (λ piece. (edge : Edge) × Contains (subject ++ clip) edge × (rightwards edge ≡ piece.edge)) (λ piece is. (is.edge, is.among, is.is)) pieces all;
      joined = λ test. turned-subject test subject clip pieces turned;
      clip_joined = λ test. turned-clip test subject clip pieces turned;
      most = 1;
      small = turned-units (subject ++ clip) pieces all;
      countable = omega (arith, few);
    }

-- in another order
pub stand-permutation : (subject clip : List Edge) (pieces sorted : List Piece) → IsPermutation pieces sorted → StandFor subject clip pieces → StandFor subject clip sorted
stand-permutation subject clip pieces sorted moved stand = record {
  onwards = All-permutation (λ piece. piece.edge.x0 <ℤ piece.edge.x1) pieces sorted moved stand.onwards;
  of = All-permutation (λ piece. (edge : Edge) × Contains (subject ++ clip) edge × (rightwards edge ≡ piece.edge)) pieces sorted moved stand.of;
  joined = λ test. stand.joined test ∙ sym (total-permutation (asked test (λ p. p.subject)) pieces sorted moved);
  clip_joined = λ test. stand.clip_joined test ∙ sym (total-permutation (asked test (λ p. p.clip)) pieces sorted moved);
  most = stand.most;
  small = All-permutation (IsSmall stand.most) pieces sorted moved stand.small;
  countable = subst (λ (n : ℕ). stand.most * n < 2 ^ 63) (sym (length_permutation pieces sorted moved)) stand.countable;
}

-- sorted by how they begin, they begin in order
pub sorted-order : (pieces : List Piece) → IsSortedBy begins_before pieces → BeginInOrder pieces
sorted-order pieces up i j d less within = not_before (get_or pieces j d) (get_or pieces i d) (sorted_far begins_before weak_order pieces up i j d (omega (arith, less)) within)

-- ---- joined

pub turned-length : (operand : Operand) (edges : List Edge) → length (turned operand edges) ≤ length edges
turned-length operand [] = omega arith
turned-length operand (edge ∷ edges) = by (int_eq edge.x0 edge.x1) (turned-length operand edges)
  where
    by : (t : Bool) → length (turned operand edges) ≤ length edges → length (cond t (turned operand edges) (piece_of operand edge ∷ turned operand edges)) ≤ length (edge ∷ edges)
    by true few = omega (arith, few)
    by false few = omega (arith, few)

pub turned-few : (subject clip : List Edge) (pieces : List Piece) → pieces ≡ turned Subject subject ++ turned Clip clip → length pieces ≤ length subject + length clip
turned-few subject clip pieces are =
    let all = ap (λ (list : List Piece). length list) are in
    let sum = length-append (turned Subject subject) (turned Clip clip) in
    let first = turned-length Subject subject in
    let second = turned-length Clip clip in
    omega (arith, all, sum, first, second)

-- where none is left out, none is vertical
AreSloped-turned : (operand : Operand) (edges : List Edge) → length edges ≤ length (turned operand edges) → AreSloped edges
AreSloped-turned operand [] all = All-nil (λ edge. edge.x1 ≢ edge.x0)
AreSloped-turned operand (edge ∷ edges) all = by (int_eq edge.x0 edge.x1) refl all (turned-length operand edges) (AreSloped-turned operand edges)
  where
    by : (t : Bool) → int_eq edge.x0 edge.x1 ≡ t → length (edge ∷ edges) ≤ length (cond t (turned operand edges) (piece_of operand edge ∷ turned operand edges)) → length (turned operand edges) ≤ length edges
        → (length edges ≤ length (turned operand edges) → AreSloped edges) → AreSloped (edge ∷ edges)
    by true e many few rest = absurd (omega (arith, few, many))
    by false e many few rest = All-cons (λ one. one.x1 ≢ one.x0) edge edges (λ same. unequal edge.x0 edge.x1 e (sym same)) (rest (omega (arith, many)))

pub AreSloped-both : (subject clip : List Edge) (pieces : List Piece) → pieces ≡ turned Subject subject ++ turned Clip clip → length subject + length clip ≤ length pieces → AreSloped subject × AreSloped clip
AreSloped-both subject clip pieces are many =
    let all = ap (λ (list : List Piece). length list) are in
    let sum = length-append (turned Subject subject) (turned Clip clip) in
    let first = turned-length Subject subject in
    let second = turned-length Clip clip in
    (AreSloped-turned Subject subject (omega (arith, all, sum, second, many)), AreSloped-turned Clip clip (omega (arith, all, sum, first, many)))

-- the edges of both, closed and noded, as they are turned
pub unjoined-turned : (subject clip : List Edge) (pieces : List Piece) → IsClosed subject → IsClosed clip → AreNoded (subject ++ clip) → pieces ≡ turned Subject subject ++ turned Clip clip → length subject + length clip < 2 ^ 63
    → AreUnjoined subject clip pieces
unjoined-turned subject clip pieces closed clip_closed noded are few = record {
  closed = closed;
  clip_closed = clip_closed;
  noded = noded;
  stand = stand-turned subject clip pieces (subst (λ (list : List Piece). IsPermutation list pieces) are (IsPermutation-refl pieces)) (let most = turned-few subject clip pieces are in omega (arith, most, few));
}

pub joined-pieces : (subject clip : List Edge) (pieces joined : List Piece) → StandFor subject clip pieces → AreJoinOf pieces joined → ArePieces subject clip joined
joined-pieces subject clip pieces joined stand join = record {
  onwards = λ k d within. (let (other, held, is) = join.of k d within in subst (λ (e : Edge). e.x0 <ℤ e.x1) is (All-contains (λ piece. piece.edge.x0 <ℤ piece.edge.x1) pieces other stand.onwards held));
  of = λ k d within. (
      let (other, held, is) = join.of k d within in
      let (edge, among, same) = All-contains (λ piece. (edge : Edge) × Contains (subject ++ clip) edge × (rightwards edge ≡ piece.edge)) pieces other stand.of held in
      (edge, among, same ∙ is));
  distinct = join.distinct;
  joined = λ test. stand.joined test ∙ join.subject test;
  clip_joined = λ test. stand.clip_joined test ∙ join.clip test;
}

-- ---- how much they weigh

within-more : (most n : ℕ) (a b : ℤ) → IsWithin most a → IsWithin (most * n) b → IsWithin (most * suc n) (a +ℤ b)
within-more most n a b first second =
    let from = first.from in
    let upto = first.upto in
    let from_too = second.from in
    let upto_too = second.upto in
    let step : most * suc n ≡ most * n + most = omega arith in
    record { from = omega (arith, ints, from, from_too, step); upto = omega (arith, ints, upto, upto_too, step) }

total-within : {X : Type 0} (most : ℕ) (f : X → ℤ) (xs : List X) → All (λ x. IsWithin most (f x)) xs → IsWithin (most * length xs) (total f xs)
total-within most f [] each = record { from = omega (arith, ints); upto = omega (arith, ints) }
total-within most f (x ∷ xs) each = within-more most (length xs) (f x) (total f xs) (All-head (λ x. IsWithin most (f x)) x xs each) (total-within most f xs (All-tail (λ x. IsWithin most (f x)) x xs each))

part-within : (most : ℕ) (t : Bool) (a : ℤ) → IsWithin most a → IsWithin most (cond t a (pos 0))
part-within most true a is = is
part-within most false a is = record { from = omega (arith, ints); upto = omega (arith, ints) }

-- whichever of small pieces are asked for, they weigh no more than as many as they are
pub joined-weigh : (most : ℕ) (pieces joined : List Piece) → All (IsSmall most) pieces → AreJoinOf pieces joined → WeighUpto (most * length pieces) joined
joined-weigh most pieces joined small join test = (
  subst (IsWithin (most * length pieces)) (join.subject test)
      (total-within most (asked test (λ p. p.subject)) pieces (All-weaker (IsSmall most) (λ p. IsWithin most (asked test (λ q. q.subject) p)) (λ p is. part-within most (test p.edge) p.subject (record { from = is.from; upto = is.upto })) pieces small)),
  subst (IsWithin (most * length pieces)) (join.clip test)
      (total-within most (asked test (λ p. p.clip)) pieces (All-weaker (IsSmall most) (λ p. IsWithin most (asked test (λ q. q.clip) p)) (λ p is. part-within most (test p.edge) p.clip (record { from = is.clip_from; upto = is.clip_upto })) pieces small)),
)
