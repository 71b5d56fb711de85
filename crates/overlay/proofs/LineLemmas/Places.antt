-- The order of places: any two compare, and what stands between two places of one line is of that line.
use Rattle.std.proofs.Common.{◌≡◌, Bool, true, false, true≢false, ℤ, ◌≤ℤ◌, ◌<ℤ◌, List, refl, ap, ap₂, sym, ◌∙◌, arith}
use Rattle.std.specs.Cmp.{IsTotalOrder, IsStrictWeakOrder}
use Rattle.std.specs.List.Sorted.{IsSortedBy}
use Rattle.std.specs.Ordering.{MatchOrdering, int_cmp, is_lt, ordering_reverse, ordering_then}
use Rattle.std.specs.declared.cmp.Ordering.{Ordering}
use Rattle.std.specs.declared.cmp.Ordering.TheVariants.{Less, Equal, Greater}
use Rattle.std.proofs.lemmas.Cmp.{int_cmp_total, int_ranked, on_total, then_total, tied_itself}
use Rattle.std.proofs.lemmas.Int.{ints}
use Rattle.std.proofs.lemmas.List.Sorted.{ranks_by, sorted_far}
use Rattle.plane.specs.declared.edge.Edge.{Edge}
use Rattle.overlay.specs.declared.boundary.lines.Change.{Change}
use Rattle.overlay.specs.declared.boundary.lines.Place.{Place}
use Rattle.overlay.specs.Lines.{AreInOrder, before, cmp_lines, cmp_places}

lines_total : IsTotalOrder cmp_lines
lines_total =
    then_total (on_total (λ (edge : Edge). edge.x0) int_cmp_total)
    (then_total (on_total (λ (edge : Edge). edge.y0) int_cmp_total)
    (then_total (on_total (λ (edge : Edge). edge.x1) int_cmp_total) (on_total (λ (edge : Edge). edge.y1) int_cmp_total)))

places_total : IsTotalOrder cmp_places
places_total = then_total (on_total (λ (place : Place). place.line) lines_total) (on_total (λ (place : Place). place.along) int_cmp_total)

-- ---- sorted changes

pub change_order : IsStrictWeakOrder (λ (one other : Change). before one.place other.place)
change_order = ranks_by places_total (λ (change : Change). change.place)

pub in_order : (changes : List Change) → IsSortedBy (λ (one other : Change). before one.place other.place) changes → AreInOrder changes
in_order changes sorted = λ i j d less within. sorted_far (λ (one other : Change). before one.place other.place) change_order changes sorted i j d (omega (arith, less)) within

-- ---- any order

is_less : (r : Ordering) → is_lt r ≡ true → r ≡ Less
is_less Less e = refl
is_less Equal e = cc
is_less Greater e = cc

is_equal : (r s : Ordering) → r ≡ ordering_reverse s → is_lt r ≡ false → is_lt s ≡ false → r ≡ Equal
is_equal Less s turned e f = cc
is_equal Equal s turned e f = refl
is_equal Greater Less turned e f = cc
is_equal Greater Equal turned e f = turned
is_equal Greater Greater turned e f = turned ∙ cc

both_equal : (r s : Ordering) → ordering_then r s ≡ Equal → (r ≡ Equal) × (s ≡ Equal)
both_equal Less s e = absurd cc
both_equal Equal s e = (refl, e)
both_equal Greater s e = absurd cc

not_first : (r s : Ordering) → is_lt (ordering_then r s) ≡ false → is_lt r ≡ false
not_first Less s e = e
not_first Equal s e = refl
not_first Greater s e = refl

not_second : (r s : Ordering) → r ≡ Equal → is_lt (ordering_then r s) ≡ false → is_lt s ≡ false
not_second r s same e = sym (ap (λ (t : Ordering). is_lt (ordering_then t s)) same) ∙ e

second_not : (r s : Ordering) → r ≡ Equal → is_lt s ≡ false → is_lt (ordering_then r s) ≡ false
second_not r s same e = ap (λ (t : Ordering). is_lt (ordering_then t s)) same ∙ e

same_numbers : (x y : ℤ) → int_cmp x y ≡ Equal → x ≡ y
same_numbers x y e = int_ranked x y Equal (sym e)

upto_numbers : (x y : ℤ) → is_lt (int_cmp y x) ≡ false → x ≤ℤ y
upto_numbers x y e = by (int_cmp y x) (int_ranked y x (int_cmp y x) refl) e
  where
    by : (r : Ordering) → MatchOrdering r (y <ℤ x) (y ≡ x) (x <ℤ y) → is_lt r ≡ false → x ≤ℤ y
    by Less h e = absurd (true≢false e)
    by Equal h e = omega (arith, ints, h)
    by Greater h e = omega (arith, ints, h)

numbers_upto : (x y : ℤ) → x ≤ℤ y → is_lt (int_cmp y x) ≡ false
numbers_upto x y h = by (int_cmp y x) (int_ranked y x (int_cmp y x) refl)
  where
    by : (r : Ordering) → MatchOrdering r (y <ℤ x) (y ≡ x) (x <ℤ y) → is_lt r ≡ false
    by Less less = absurd (omega (arith, ints, h, less))
    by Equal same = refl
    by Greater more = refl

same_lines : (one other : Edge) → cmp_lines one other ≡ Equal → one ≡ other
same_lines one other e =
    let (a, rest) = both_equal _ _ e in
    let (b, more) = both_equal _ _ rest in
    let (c, d) = both_equal _ _ more in
    ap₂ (λ (x y : ℤ). record { x0 = x; y0 = y; x1 = one.x1; y1 = one.y1 }) (same_numbers one.x0 other.x0 a) (same_numbers one.y0 other.y0 b)
    ∙ ap₂ (λ (x y : ℤ). record { x0 = other.x0; y0 = other.y0; x1 = x; y1 = y }) (same_numbers one.x1 other.x1 c) (same_numbers one.y1 other.y1 d)

-- ---- places

pub before-irrefl : (place : Place) → before place place ≡ false
before-irrefl place = ap is_lt (tied_itself places_total place)

pub before-trans : (one other third : Place) → before one other ≡ true → before other third ≡ true → before one third ≡ true
before-trans one other third first second =
    ap is_lt (places_total.trans one other third (is_less (cmp_places one other) first) (is_less (cmp_places other third) second))

pub before-same : (one other : Place) → before one other ≡ false → before other one ≡ false → one ≡ other
before-same one other first second =
    let (line, along) = both_equal _ _ (is_equal (cmp_places one other) (cmp_places other one) (places_total.antisymm one other) first second) in
    ap₂ (λ (edge : Edge) (z : ℤ). record { line = edge; along = z }) (same_lines one.line other.line line) (same_numbers one.along other.along along)

-- what is not behind another and that not behind a third is not behind this
pub upto-trans : (one other third : Place) → before other one ≡ false → before third other ≡ false → before third one ≡ false
upto-trans one other third first second = by (before third one) (before one other) refl refl
  where
    by : (s t : Bool) → before third one ≡ s → before one other ≡ t → s ≡ false
    by false t e f = refl
    by true true e f = absurd (true≢false (sym (before-trans third one other e f) ∙ second))
    by true false e f =
        let same = before-same one other f first in
        absurd (true≢false (sym e ∙ ap (λ (place : Place). before third place) same ∙ second))

pub before-upto : (one other third : Place) → before one other ≡ true → before third other ≡ false → before one third ≡ true
before-upto one other third first second = by (before one third) refl
  where
    by : (t : Bool) → before one third ≡ t → t ≡ true
    by true e = refl
    by false e = absurd (true≢false (sym first ∙ upto-trans other third one second e))

pub upto-before : (one other third : Place) → before other one ≡ false → before other third ≡ true → before one third ≡ true
upto-before one other third first second = by (before one third) refl
  where
    by : (t : Bool) → before one third ≡ t → t ≡ true
    by true e = refl
    by false e = absurd (true≢false (sym second ∙ upto-trans third one other e first))

pub before-not : (one other : Place) → before one other ≡ true → before other one ≡ false
before-not one other h = by (before other one) refl
  where
    by : (t : Bool) → before other one ≡ t → t ≡ false
    by false e = refl
    by true e = absurd (true≢false (sym (before-trans one other one h e) ∙ before-irrefl one))

-- ---- places of one line

pub upto-along : (one other : Place) → one.line ≡ other.line → one.along ≤ℤ other.along → before other one ≡ false
upto-along one other same upto =
    second_not (cmp_lines other.line one.line) (int_cmp other.along one.along)
    (ap (λ (edge : Edge). cmp_lines other.line edge) same ∙ tied_itself lines_total other.line)
    (numbers_upto one.along other.along upto)

pub along-upto : (one other : Place) → one.line ≡ other.line → before other one ≡ false → one.along ≤ℤ other.along
along-upto one other same upto =
    upto_numbers one.along other.along
    (not_second (cmp_lines other.line one.line) (int_cmp other.along one.along) (ap (λ (edge : Edge). cmp_lines other.line edge) same ∙ tied_itself lines_total other.line) upto)

pub before-along : (one other : Place) → one.line ≡ other.line → before one other ≡ true → one.along <ℤ other.along
before-along one other same less = by (int_cmp one.along other.along) (int_ranked one.along other.along (int_cmp one.along other.along) refl) refl
  where
    here : (r : Ordering) → int_cmp one.along other.along ≡ r → is_lt r ≡ true
    here r is =
        sym (ap is_lt is)
        ∙ sym (ap (λ (t : Ordering). is_lt (ordering_then t (int_cmp one.along other.along))) (ap (λ (edge : Edge). cmp_lines edge other.line) same ∙ tied_itself lines_total other.line))
        ∙ less

    by : (r : Ordering) → MatchOrdering r (one.along <ℤ other.along) (one.along ≡ other.along) (other.along <ℤ one.along) → int_cmp one.along other.along ≡ r → one.along <ℤ other.along
    by Less h is = h
    by Equal h is = absurd (true≢false (sym (here Equal is)))
    by Greater h is = absurd (true≢false (sym (here Greater is)))

pub line-between : (one other third : Place) → one.line ≡ third.line → before other one ≡ false → before third other ≡ false → other.line ≡ one.line
line-between one other third same first second =
    let left : is_lt (cmp_lines other.line one.line) ≡ false = not_first (cmp_lines other.line one.line) (int_cmp other.along one.along) first in
    let right : is_lt (cmp_lines third.line other.line) ≡ false = not_first (cmp_lines third.line other.line) (int_cmp third.along other.along) second in
    same_lines other.line one.line
    (is_equal (cmp_lines other.line one.line) (cmp_lines one.line other.line) (lines_total.antisymm other.line one.line) left (ap (λ (edge : Edge). is_lt (cmp_lines edge other.line)) same ∙ right))
