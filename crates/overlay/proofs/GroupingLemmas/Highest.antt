-- The highest of some sides below a hole's first one, and one side more.
use Rattle.std.proofs.Common.{◌≡◌, ◌≢◌, ◌⊎◌, inl, inr, ◌<◌, ◌++◌, [], ◌∷◌, ℕ, zero, suc, ℤ, pos, ◌-ℤ◌, ◌+ℤ◌, ◌*ℤ◌, ◌≤ℤ◌, ◌<ℤ◌, Bool, true, false, cond, ◌&&◌, List, Option, Some, None, get_or, refl, ap, sym, subst, subst₂, ◌∙◌, arith}
use Rattle.std.specs.Bool.{MatchBool}
use Rattle.std.specs.List.{Contains, flat_map}
use Rattle.std.specs.Prelude.{IfSome}
use Rattle.std.specs.declared.cmp.Ordering.{Ordering}
use Rattle.std.specs.declared.cmp.Ordering.TheVariants.{Less, Equal, Greater}
use Rattle.std.specs.Int.{int_max, int_min}
use Rattle.std.specs.Ordering.{int_cmp, is_lt, ordering_reverse}
use Rattle.std.proofs.lemmas.Cmp.{int_ranked}
use Rattle.std.proofs.lemmas.Int.{clamps, ints}
use Rattle.std.proofs.lemmas.List.Elements.{Contains-append_cases, Contains-get_or}
use Rattle.plane.specs.declared.edge.Edge.{Edge}
use Rattle.plane.specs.declared.point.Point.{Point}
use Rattle.plane.specs.declared.sweep_line.active.ActiveEdge.{ActiveEdge}
use Rattle.plane.specs.SweepLine.Active.{cmp_active, common_start, then_cmp}
use Rattle.plane.specs.SweepLine.Heights.{IsUpto, height_by_run, height_by_runs, rightwards, rise_by_run, run}
use Rattle.plane.proofs.MeetLemmas.Identities.{identity, minus, number, plus, times}
use Rattle.plane.proofs.SweepLineLemmas.Exchanged.{cmp_active-exchanged, greater_from_less, less_from_greater}
use Rattle.plane.proofs.SweepLineLemmas.Gaps.{product_above}
use Rattle.plane.proofs.SweepLineLemmas.Order.{in_order, level_upto, stands_upto}
use Rattle.plane.proofs.SweepLineLemmas.Uncrossed.{max_before}
use Rattle.noding.proofs.SnapLemmas.Numbers.{product_positive}
use Rattle.overlay.specs.Contours.Rings.{ring_edges}
use Rattle.overlay.specs.Fill.Counts.{is_lower_on, is_over}
use Rattle.overlay.specs.Fill.Filled.{AreNoded}
use Rattle.overlay.specs.Grouping.{AreEndsAbove, AreEndsUpto, IsBelow, IsHoleOf, IsSideOf, IsTold, is_first_or_above, with_side}
use Rattle.overlay.specs.declared.fill.pieces.Piece.{Piece}
use Rattle.overlay.specs.declared.grouping.holes.Hole.{Hole}
use Rattle.overlay.specs.declared.grouping.sides.Side.{Side}
use Rattle.overlay.proofs.FillLemmas.Level.{MeetOnly}
use Rattle.overlay.proofs.FillLemmas.Order.{height-start, lower-asym, lower-irrefl, lower-trans, stands-lower}
use Rattle.overlay.proofs.FillLemmas.Tests.{over_is, over_true}
use Rattle.overlay.proofs.FillLemmas.Uncrossed.{MeetOnly-exchanged}
use Rattle.overlay.proofs.GroupingLemmas.Bags.{Contains-in_flat_map}
use Rattle.overlay.proofs.KeptLemmas.Below.{upto-not_lower}
use Rattle.overlay.proofs.KeptLemmas.First.{turned-meet}
use Rattle.overlay.proofs.PieceLemmas.Edges.{edge-is}
use Rattle.overlay.proofs.PieceLemmas.Made.{rightwards-onwards}

-- ---- by the ends of an edge

-- how far an edge is below a height, times its run, by how far its ends are
below_by : (x x0 x1 y y0 y1 : ℤ) → ((y *ℤ (x1 -ℤ x0)) -ℤ ((y0 *ℤ (x1 -ℤ x)) +ℤ (y1 *ℤ (x -ℤ x0)))) ≡ (((x1 -ℤ x) *ℤ (y -ℤ y0)) +ℤ ((x -ℤ x0) *ℤ (y -ℤ y1)))
below_by x x0 x1 y y0 y1 =
    identity (minus (times (number y) (minus (number x1) (number x0))) (plus (times (number y0) (minus (number x1) (number x))) (times (number y1) (minus (number x) (number x0)))))
    (plus (times (minus (number x1) (number x)) (minus (number y) (number y0))) (times (minus (number x) (number x0)) (minus (number y) (number y1))))
    (omega arith)

above_by : (x x0 x1 y y0 y1 : ℤ) → (((y0 *ℤ (x1 -ℤ x)) +ℤ (y1 *ℤ (x -ℤ x0))) -ℤ (y *ℤ (x1 -ℤ x0))) ≡ (((x1 -ℤ x) *ℤ (y0 -ℤ y)) +ℤ ((x -ℤ x0) *ℤ (y1 -ℤ y)))
above_by x x0 x1 y y0 y1 =
    identity (minus (plus (times (number y0) (minus (number x1) (number x))) (times (number y1) (minus (number x) (number x0)))) (times (number y) (minus (number x1) (number x0))))
    (plus (times (minus (number x1) (number x)) (minus (number y0) (number y))) (times (minus (number x) (number x0)) (minus (number y1) (number y))))
    (omega arith)

never : true ≡ false → ⊥
never h = cc

-- ---- sides of rings

module _ (rings : List (List Point)) (side : Side) (is : IsSideOf rings side) where
  pub side-edge : side.piece.edge ≡ rightwards is.edge
  side-edge = ap (λ (piece : Piece). piece.edge) is.is

  pub side-among : Contains (flat_map ring_edges rings) is.edge
  side-among = Contains-in_flat_map ring_edges rings (get_or rings side.ring []) is.edge (Contains-get_or rings side.ring [] is.within) is.among

  pub side-right : side.piece.edge.x0 <ℤ side.piece.edge.x1
  side-right = subst (λ (e : Edge). e.x0 <ℤ e.x1) (sym side-edge) (rightwards-onwards is.edge is.sloped)

pub sides-meet : (rings : List (List Point)) (one other : Side) → AreNoded (flat_map ring_edges rings) → IsSideOf rings one → IsSideOf rings other → MeetOnly one.piece.edge other.piece.edge
sides-meet rings one other noded is is_too =
    subst₂ MeetOnly (sym (side-edge rings one is)) (sym (side-edge rings other is_too))
    (turned-meet (flat_map ring_edges rings) noded is.edge is_too.edge (side-among rings one is) (side-among rings other is_too))

-- ---- the order along the status tells which one is lower

pub same-or : (one other : Edge) → (one ≡ other) ⊎ (one ≢ other)
same-or one other = by _ (edge-is one other)
  where
    by : (t : Bool) → MatchBool t (one ≡ other) (one ≢ other) → (one ≡ other) ⊎ (one ≢ other)
    by true same = inl same
    by false differ = inr differ

abbrev standing : Edge → ActiveEdge
standing edge = record { edge = edge; place = 0 }

-- no edge stands before itself
not-before : (edge : Edge) → cmp_active (standing edge) (standing edge) ≡ Less → ⊥
not-before edge less = both (cmp_active (standing edge) (standing edge)) less (greater_from_less (standing edge) (standing edge) less)
  where
    both : (o : Ordering) → o ≡ Less → o ≡ Greater → ⊥
    both Less is is_too = cc
    both Equal is is_too = cc
    both Greater is is_too = cc

both-equal : (first rest : Ordering) → then_cmp first rest ≡ Equal → (first ≡ Equal) × (rest ≡ Equal)
both-equal Less rest is = cc
both-equal Equal rest is = (refl, is)
both-equal Greater rest is = cc

compared-equal : (a b : ℤ) → int_cmp a b ≡ Equal → a ≡ b
compared-equal a b is = int_ranked a b Equal (sym is)

-- of two that stand alike neither is lower
alike-upto : (one other : Edge) (x : ℤ) → cmp_active (standing one) (standing other) ≡ Equal → common_start (standing one) (standing other) ≤ℤ x → IsUpto one other x
alike-upto one other x is from =
    let (heights, rest) = both-equal _ _ is in
    let (slopes, last) = both-equal _ _ rest in
    let start = common_start (standing one) (standing other) in
    let level = compared-equal (height_by_runs one other start) (height_by_runs other one start) heights in
    let steep = compared-equal (rise_by_run one other) (rise_by_run other one) slopes in
    level_upto one other start x from level (omega (arith, ints, steep))

alike-exchanged : (one other : Edge) → cmp_active (standing one) (standing other) ≡ Equal → cmp_active (standing other) (standing one) ≡ Equal
alike-exchanged one other is = cmp_active-exchanged (standing one) (standing other) ∙ ap ordering_reverse is

alike-not_lower : (one other : Edge) (x : ℤ) → one.x0 ≤ℤ x → other.x0 ≤ℤ x → cmp_active (standing one) (standing other) ≡ Equal → is_lower_on x other one ≡ false
alike-not_lower one other x from from_too is =
    let start : common_start (standing one) (standing other) ≤ℤ x = max_before one.x0 other.x0 x from from_too in
    upto-not_lower one other x (alike-upto one other x is start) (alike-upto one other (x +ℤ pos 1) is (later (common_start (standing one) (standing other)) start))
  where
    later : (a : ℤ) → a ≤ℤ x → a ≤ℤ (x +ℤ pos 1)
    later a first = omega (arith, ints, first)

not_less : (o : Ordering) → (o ≡ Less → ⊥) → is_lt o ≡ false
not_less Less isnt = absurd (isnt refl)
not_less Equal isnt = refl
not_less Greater isnt = refl

module _ (one other : Edge) (x : ℤ) (meet : MeetOnly one other) (over : is_over x one ≡ true) (over_too : is_over x other ≡ true) where
  by-order : one ≢ other → (o : Ordering) → cmp_active (standing one) (standing other) ≡ o → is_lt o ≡ is_lower_on x one other
  by-order differ Less is = sym (stands-lower (standing one) (standing other) x meet differ over over_too is)
  by-order differ Greater is =
      sym (lower-asym x other one (stands-lower (standing other) (standing one) x (MeetOnly-exchanged one other meet) (λ same. differ (sym same)) over_too over (less_from_greater (standing one) (standing other) is)))
  by-order differ Equal is =
      let span = over_is x one over in
      let span_too = over_is x other over_too in
      sym (alike-not_lower other one x span_too.0 span.0 (alike-exchanged one other is))

  -- the order along the status tells whether the one is lower
  pub lower-told : is_lt (cmp_active (standing one) (standing other)) ≡ is_lower_on x one other
  lower-told = either (same-or one other)
    where
      either : (one ≡ other) ⊎ (one ≢ other) → is_lt (cmp_active (standing one) (standing other)) ≡ is_lower_on x one other
      either (inl same) =
          subst (λ (e : Edge). is_lt (cmp_active (standing one) (standing e)) ≡ is_lower_on x one e) same
          (not_less (cmp_active (standing one) (standing one)) (not-before one) ∙ sym (lower-irrefl x one))
      either (inr differ) = by-order differ (cmp_active (standing one) (standing other)) refl

-- ---- by the ends of an edge

-- where no end of it is above a height, it isn't
below-height : (edge : Edge) (y x : ℤ) → edge.x0 ≤ℤ x → x ≤ℤ edge.x1 → edge.y0 ≤ℤ y → edge.y1 ≤ℤ y → height_by_run edge x ≤ℤ (y *ℤ run edge)
below-height edge y x from upto first second =
    let one = product_above (edge.x1 -ℤ x) (y -ℤ edge.y0) (omega (arith, ints, upto)) (omega (arith, ints, first)) in
    let other = product_above (x -ℤ edge.x0) (y -ℤ edge.y1) (omega (arith, ints, from)) (omega (arith, ints, second)) in
    let is = below_by x edge.x0 edge.x1 y edge.y0 edge.y1 in
    omega (arith, ints, one, other, is)

from-height : (edge : Edge) (y x : ℤ) → edge.x0 ≤ℤ x → x ≤ℤ edge.x1 → y ≤ℤ edge.y0 → y ≤ℤ edge.y1 → (y *ℤ run edge) ≤ℤ height_by_run edge x
from-height edge y x from upto first second =
    let one = product_above (edge.x1 -ℤ x) (edge.y0 -ℤ y) (omega (arith, ints, upto)) (omega (arith, ints, first)) in
    let other = product_above (x -ℤ edge.x0) (edge.y1 -ℤ y) (omega (arith, ints, from)) (omega (arith, ints, second)) in
    let is = above_by x edge.x0 edge.x1 y edge.y0 edge.y1 in
    omega (arith, ints, one, other, is)

least-upto : (a b : ℤ) → (int_min a b ≤ℤ a) × (int_min a b ≤ℤ b)
least-upto a b = (omega (arith, ints, clamps), omega (arith, ints, clamps))

upto-least : (a b c : ℤ) → c ≤ℤ a → c ≤ℤ b → c ≤ℤ int_min a b
upto-least a b c first second = omega (arith, ints, clamps, first, second)

ends-upto : (one other : Edge) (x : ℤ) → AreEndsUpto one other → one.x0 <ℤ one.x1 → other.x0 <ℤ other.x1 → one.x0 ≤ℤ x → x ≤ℤ one.x1 → other.x0 ≤ℤ x → x ≤ℤ other.x1 → IsUpto one other x
ends-upto one other x ends some some_too from upto from_too upto_too =
    let least = int_min other.y0 other.y1 in
    let low = below-height one least x from upto (upto-least other.y0 other.y1 one.y0 ends.start.0 ends.start.1) (upto-least other.y0 other.y1 one.y1 ends.end.0 ends.end.1) in
    let parts = least-upto other.y0 other.y1 in
    let high = from-height other least x from_too upto_too parts.0 parts.1 in
    in_order (height_by_run one x) least (height_by_run other x) (run one) (pos 1) (run other) (omega (arith, ints, some)) (omega (arith, ints)) (omega (arith, ints, some_too))
    (unit-left (height_by_run one x) (least *ℤ run one) low) (unit-right (least *ℤ run other) (height_by_run other x) high)
  where
    unit-left : (a b : ℤ) → a ≤ℤ b → (a *ℤ pos 1) ≤ℤ b
    unit-left a b less = omega (arith, ints, less)

    unit-right : (a b : ℤ) → a ≤ℤ b → a ≤ℤ (b *ℤ pos 1)
    unit-right a b less = omega (arith, ints, less)

-- one whose ends aren't above another's isn't above it
pub under-not_lower : (one other : Edge) (x : ℤ) → AreEndsUpto one other → is_over x one ≡ true → is_over x other ≡ true → is_lower_on x other one ≡ false
under-not_lower one other x ends over over_too =
    let (from, before) = over_is x one over in
    let (from_too, before_too) = over_is x other over_too in
    let some : one.x0 <ℤ one.x1 = omega (arith, ints, from, before) in
    let some_too : other.x0 <ℤ other.x1 = omega (arith, ints, from_too, before_too) in
    upto-not_lower one other x
    (ends-upto one other x ends some some_too from (omega (arith, ints, before)) from_too (omega (arith, ints, before_too)))
    (ends-upto one other (x +ℤ pos 1) ends some some_too (omega (arith, ints, from)) (omega (arith, ints, before)) (omega (arith, ints, from_too)) (omega (arith, ints, before_too)))

-- one whose ends are above where another begins isn't below it there
pub above-not_lower : (one other : Edge) → MeetOnly one other → is_over other.x0 one ≡ true → other.x0 <ℤ other.x1 → AreEndsAbove other.y0 one → is_lower_on other.x0 one other ≡ false
above-not_lower one other meet over some above = by (is_lower_on other.x0 one other) refl
  where
    start : ℤ
    start = other.x0

    over_too : is_over other.x0 other ≡ true
    over_too = over_true other.x0 other (omega (arith, ints)) some

    higher : (other.y0 *ℤ run one) <ℤ height_by_run one other.x0
    higher =
        let (from, before) = over_is other.x0 one over in
        let first = product_positive (one.x1 -ℤ other.x0) (one.y0 -ℤ other.y0) (omega (arith, ints, before)) (let up = above.0 in omega (arith, ints, up)) in
        let second = product_above (other.x0 -ℤ one.x0) (one.y1 -ℤ other.y0) (omega (arith, ints, from)) (let up = above.1 in omega (arith, ints, up)) in
        let is = above_by other.x0 one.x0 one.x1 other.y0 one.y0 one.y1 in
        omega (arith, ints, first, second, is)

    is_less : (o : Ordering) → is_lt o ≡ true → o ≡ Less
    is_less Less is = refl
    is_less Equal is = cc
    is_less Greater is = cc

    latest : (a b : ℤ) → a ≤ℤ b → int_max a b ≡ b
    latest a b upto = omega (arith, ints, clamps, upto)

    upto-start : cmp_active (standing one) (standing other) ≡ Less → IsUpto one other other.x0
    upto-start less = subst (λ (x : ℤ). IsUpto one other x) (latest one.x0 other.x0 (over_is other.x0 one over).0) (stands_upto (standing one) (standing other) less)

    heights : (h r y m : ℤ) → (h *ℤ m) ≤ℤ (y *ℤ (m *ℤ r)) → pos 0 <ℤ m → (y *ℤ r) <ℤ h → ⊥
    heights h r y m upto wide less =
        let more = product_positive m (h -ℤ (y *ℤ r)) wide (omega (arith, ints, less)) in
        let is : (m *ℤ (h -ℤ (y *ℤ r))) ≡ ((h *ℤ m) -ℤ (y *ℤ (m *ℤ r))) = identity (times (number m) (minus (number h) (times (number y) (number r)))) (minus (times (number h) (number m)) (times (number y) (times (number m) (number r)))) (omega arith) in
        omega (arith, ints, upto, more, is)

    by : (t : Bool) → is_lower_on other.x0 one other ≡ t → is_lower_on other.x0 one other ≡ false
    by false is = is
    by true is =
        let less = is_less (cmp_active (standing one) (standing other)) (lower-told one other other.x0 meet over over_too ∙ is) in
        let upto = upto-start less in
        absurd (heights (height_by_run one other.x0) (run one) other.y0 (run other) (subst (λ (h : ℤ). (height_by_run one other.x0 *ℤ run other) ≤ℤ h) (height-start other one) upto) (omega (arith, ints, some)) higher)

-- what is found below a hole is over where it begins
pub found-over : (rings : List (List Point)) (hole : Hole) → IsHoleOf rings hole → IfSome hole.below (λ side. IsSideOf rings side × (is_over hole.first.piece.edge.x0 side.piece.edge ≡ true))
found-over rings hole of = by hole.below of.below
  where
    by : (below : Option Side) → IfSome below (λ side. IsSideOf rings side × IsBelow hole.first.piece.edge side.piece.edge) → IfSome below (λ side. IsSideOf rings side × (is_over hole.first.piece.edge.x0 side.piece.edge ≡ true))
    by None known = tt
    by (Some side) (is, below) = (is, below.over)

-- ---- one side more

-- the edge is one of them, or the last one
either : (edges : List Edge) (last edge : Edge) → Contains (edges ++ last ∷ []) edge → Contains edges edge ⊎ (last ≡ edge)
either edges last edge held = elim (Contains-append_cases edges (last ∷ []) edge held) [
  | inl before ↦ inl before
  | inr now ↦ inr (alone now)
]
  where
    alone : Contains (last ∷ []) edge → last ≡ edge
    alone (k, within, is) = by k within is
      where
        by : (k : ℕ) → k < 1 → get_or (last ∷ []) k edge ≡ edge → last ≡ edge
        by zero within is = is
        by (suc k) within is = absurd (omega (arith, within))

-- one that isn't below changes nothing
pub past-told : (edges : List Edge) (edge : Edge) (hole : Hole) → (IsBelow hole.first.piece.edge (rightwards edge) → ⊥) → IsTold edges hole → IsTold (edges ++ edge ∷ []) hole
past-told edges edge hole isnt told other held below = elim (either edges edge other held) [
  | inl before ↦ told other before below
  | inr last ↦ absurd (isnt (subst (λ (e : Edge). IsBelow hole.first.piece.edge (rightwards e)) (sym last) below))
]

module _ (rings : List (List Point)) (noded : AreNoded (flat_map ring_edges rings)) where
  pub hole-right : (hole : Hole) → IsHoleOf rings hole → hole.first.piece.edge.x0 <ℤ hole.first.piece.edge.x1
  hole-right hole of = side-right rings hole.first of.first

  -- what is found with it is of the rings too, and below
  pub with-of : (side : Side) (hole : Hole) → IsSideOf rings side → IsHoleOf rings hole → IsHoleOf rings (with_side side hole)
  with-of side hole is of =
      by (is_over hole.first.piece.edge.x0 side.piece.edge) (is_lower_on hole.first.piece.edge.x0 side.piece.edge hole.first.piece.edge) (is_first_or_above hole.first.piece.edge.x0 side hole.below) refl refl
    where
      by : (a b c : Bool) → is_over hole.first.piece.edge.x0 side.piece.edge ≡ a → is_lower_on hole.first.piece.edge.x0 side.piece.edge hole.first.piece.edge ≡ b
          → IsHoleOf rings (cond (a && (b && c)) (record { first = hole.first; below = Some side }) hole)
      by true true true over lower = record { first = of.first; below = (is, record { over = over; lower = lower }) }
      by true true false over lower = of
      by true false c over lower = of
      by false b c over lower = of

  -- so it is the highest of one more
  module _ (edges : List Edge) (side : Side) (edge : Edge) (hole : Hole) (is : IsSideOf rings side) (same : side.piece.edge ≡ rightwards edge) (of : IsHoleOf rings hole) (told : IsTold edges hole) where
    abbrev first : Edge
    first = hole.first.piece.edge

    abbrev x : ℤ
    x = first.x0

    told-past : (IsBelow first side.piece.edge → ⊥) → IsTold (edges ++ edge ∷ []) hole
    told-past isnt = past-told edges edge hole (λ below. isnt (subst (λ (e : Edge). IsBelow first e) (sym same) below)) told

    told-kept : (best : Side) → hole.below ≡ Some best → is_lower_on x best.piece.edge side.piece.edge ≡ false → IsTold (edges ++ edge ∷ []) hole
    told-kept best found isnt other held below = elim (either edges edge other held) [
      | inl before ↦ told other before below
      | inr last ↦ (best, found, subst (λ (e : Edge). is_lower_on x best.piece.edge e ≡ false) (same ∙ ap rightwards last) isnt)
    ]

    told-taken : (is_first_or_above x side hole.below ≡ true) → IsTold (edges ++ edge ∷ []) (record { first = hole.first; below = Some side })
    told-taken above other held below = (
      side,
      refl,
      elim (either edges edge other held) [
        | inl before ↦ higher other before below (is_lower_on x side.piece.edge (rightwards other)) refl
        | inr last ↦ subst (λ (e : Edge). is_lower_on x side.piece.edge e ≡ false) (same ∙ ap rightwards last) (lower-irrefl x side.piece.edge)
      ],
    )
      where
        higher : (other : Edge) → Contains edges other → IsBelow first (rightwards other) → (t : Bool) → is_lower_on x side.piece.edge (rightwards other) ≡ t → is_lower_on x side.piece.edge (rightwards other) ≡ false
        higher other before below false e = e
        higher other before below true e =
            let (best, found, isnt) = told other before below in
            let lower : is_lower_on x best.piece.edge side.piece.edge ≡ true = subst (λ (b : Option Side). is_first_or_above x side b ≡ true) found above in
            let (best_is, best_below) = subst (λ (b : Option Side). IfSome b (λ one. IsSideOf rings one × IsBelow first one.piece.edge)) found of.below in
            let (from, behind) = over_is x (rightwards other) below.over in
            let trans = lower-trans x best.piece.edge side.piece.edge (rightwards other) (side-right rings best best_is) (side-right rings side is) (omega (arith, ints, from, behind)) lower e in
            absurd (never (sym trans ∙ isnt))

    -- where it is compared
    pub told-with : IsTold (edges ++ edge ∷ []) (with_side side hole)
    told-with = by (is_over x side.piece.edge) (is_lower_on x side.piece.edge first) hole.below refl refl refl
      where
        found : (b : Bool) (best : Side) → hole.below ≡ Some best → is_lower_on x best.piece.edge side.piece.edge ≡ b → is_first_or_above x side hole.below ≡ b
        found b best is_best e = subst (λ (one : Option Side). is_first_or_above x side one ≡ b) (sym is_best) e

        last : (c : Bool) (best : Side) → hole.below ≡ Some best → is_lower_on x best.piece.edge side.piece.edge ≡ c → IsTold (edges ++ edge ∷ []) (cond c (record { first = hole.first; below = Some side }) hole)
        last true best is_best e = told-taken (found true best is_best e)
        last false best is_best e = told-kept best is_best e

        by : (a b : Bool) (below : Option Side) → is_over x side.piece.edge ≡ a → is_lower_on x side.piece.edge first ≡ b → hole.below ≡ below
            → IsTold (edges ++ edge ∷ []) (cond (a && (b && is_first_or_above x side below)) (record { first = hole.first; below = Some side }) hole)
        by false b below over lower at = told-past (λ is_below. never (sym is_below.over ∙ over))
        by true false below over lower at = told-past (λ is_below. never (sym is_below.lower ∙ lower))
        by true true None over lower at = told-taken (subst (λ (one : Option Side). is_first_or_above x side one ≡ true) (sym at) refl)
        by true true (Some best) over lower at = last (is_lower_on x best.piece.edge side.piece.edge) best at refl
