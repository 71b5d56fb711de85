-- How many of some numbers, which rise, are less than another.
use Rattle.std.proofs.Common.{◌≡◌, ◌<◌, ◌≤◌, ◌-◌, ◌<ℤ◌, ◌≤ℤ◌, ℕ, ℤ, true, false, List, get_or, inl, inr, length, sym, subst, subst₂, ◌∙◌, arith}
use Rattle.std.specs.Int.Signed.{lt_z}
use Rattle.std.specs.List.Sorted.{IsPartitionPoint, IsPartitionedBy}
use Rattle.std.proofs.lemmas.Bool.{cases_lt}
use Rattle.std.proofs.lemmas.Int.{by_lt_z, ints}
use Rattle.std.proofs.lemmas.List.{get_or-map, get_or_default, length-map}
use Rattle.plane.specs.declared.edge.Edge.{Edge}
use Rattle.overlay.specs.Fill.Begins.{BeginInOrder, BeginsUpto}
use Rattle.overlay.specs.Grouping.{AreBefore, Rise, begins_of, no_side, pieces_of}
use Rattle.overlay.specs.declared.fill.pieces.Piece.{Piece}
use Rattle.overlay.specs.declared.grouping.sides.Side.{Side}
use Rattle.overlay.proofs.FillLemmas.Tests.{lt_is, lt_true}

module _ (xs : List ℤ) (rise : Rise xs) where
  pub rises : (i j : ℕ) (d : ℤ) → i ≤ j → j < length xs → get_or xs i d ≤ℤ get_or xs j d
  rises i j d upto within = elim (cases_lt i j) [
    | inl less ↦ rise i j d less within
    | inr from ↦ subst (λ (n : ℕ). get_or xs i d ≤ℤ get_or xs n d) (let same : i ≡ j = omega (arith, upto, from) in same) (omega (arith, ints))
  ]

  module _ (x : ℤ) where
    -- none less from a place on
    pub none-less : (count : ℕ) → (count < length xs → x ≤ℤ get_or xs count x) → (k : ℕ) (d : ℤ) → count ≤ k → k < length xs → x ≤ℤ get_or xs k d
    none-less count first k d from within =
        let here = first (omega (arith, from, within)) in
        let up = rises count k x from within in
        subst (λ (z : ℤ). x ≤ℤ z) (get_or_default xs k x d within) (omega (arith, ints, here, up))

    -- all less up to a place
    pub all-less : (count : ℕ) (d : ℤ) → count < length xs → get_or xs count d <ℤ x → (k : ℕ) (e : ℤ) → k ≤ count → get_or xs k e <ℤ x
    all-less count d within less k e upto =
        let up = rises k count d upto within in
        subst (λ (z : ℤ). z <ℤ x) (get_or_default xs k d e (omega (arith, upto, within))) (omega (arith, ints, less, up))

    pub before-at : (count : ℕ) → count ≤ length xs → ((k : ℕ) (d : ℤ) → k < count → get_or xs k d <ℤ x) → (count < length xs → x ≤ℤ get_or xs count x) → AreBefore xs x count
    before-at count within less first = record { within = within; less = less; upto = none-less count first }

    -- the last one less tells, if there is one
    pub before-last : (left : ℕ) (d : ℤ) → left ≤ length xs → ((k : ℕ) (e : ℤ) → left ≤ k → k < length xs → x ≤ℤ get_or xs k e) → (0 < left → get_or xs (left - 1) d <ℤ x) → AreBefore xs x left
    before-last left d within upto last = record {
      within = within;
      less = λ k e before. all-less (left - 1) d (omega (arith, within, before)) (last (omega (arith, before))) k e (omega (arith, before));
      upto = upto;
    }

    pub less-parted : IsPartitionedBy (λ y. lt_z y x) xs
    less-parted i j d upto within passes =
        let up = rises i j d upto within in
        let less = lt_is (get_or xs j d) x passes in
        lt_true (get_or xs i d) x (omega (arith, ints, up, less))

    pub before-parted : (count : ℕ) → count ≤ length xs → IsPartitionPoint (λ y. lt_z y x ≡ true) (λ y. lt_z y x ≡ false) xs count → AreBefore xs x count
    before-parted count within point = record {
      within = within;
      less = λ k d before. lt_is (get_or xs k d) x (point.0 k d (omega arith) before);
      upto = λ k d from inside. by_lt_z (get_or xs k d) x (λ less. absurd (never (sym (lt_true (get_or xs k d) x less) ∙ point.1 k d from inside))) (λ upto. upto);
    }
      where
        never : true ≡ false → ⊥
        never h = cc

-- where sides begin in order, the x at which they do rise
pub begins-rise : (sides : List Side) → BeginInOrder (pieces_of sides) → Rise (begins_of sides)
begins-rise sides order i j d less within =
    let size = length-map sides (λ (side : Side). side.piece.edge.x0) in
    let sizes = length-map sides (λ (side : Side). side.piece) in
    let inside : j < length sides = omega (arith, size, within) in
    subst₂ (λ (a b : ℤ). a ≤ℤ b) (sym (get_or-map (λ (side : Side). side.piece.edge.x0) sides i no_side d (omega (arith, less, inside)))) (sym (get_or-map (λ (side : Side). side.piece.edge.x0) sides j no_side d inside))
    (subst₂ (λ (one other : Piece). one.edge.x0 ≤ℤ other.edge.x0) (get_or-map (λ (side : Side). side.piece) sides i no_side no_side.piece (omega (arith, less, inside))) (get_or-map (λ (side : Side). side.piece) sides j no_side no_side.piece inside)
    (x_upto _ _ (order i j no_side.piece less (omega (arith, sizes, inside)))))
  where
    x_upto : (one other : Edge) → BeginsUpto one other → one.x0 ≤ℤ other.x0
    x_upto one other (inl less) = omega (arith, ints, less)
    x_upto one other (inr (same, rest)) = omega (arith, ints, same)
