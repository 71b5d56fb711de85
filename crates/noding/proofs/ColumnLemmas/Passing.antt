-- An edge that passes a whole point between its ends reaches, as the sweep sees it, what is asked about the point.
use Rattle.std.proofs.Common.{◌≡◌, ◌≢◌, ◌∙◌, ap, arith, inl, inr, refl, subst, sym, ⊎_elim, Bool, true, false, pos, negsuc, ℕ, ◌≤◌, ◌<◌, ◌-◌, ◌⊎◌, ℤ, ◌+ℤ◌, ◌-ℤ◌, ◌*ℤ◌, ◌≤ℤ◌, ◌<ℤ◌, nat_lt, ◌^◌}
use Rattle.std.specs.Int.{saturate_to_bits}
use Rattle.std.specs.Int.RustNames.{unsigned_abs}
use Rattle.std.specs.Int.Signed.{lt_z}
use Rattle.std.proofs.lemmas.Int.{by_lt_z, clamps, ints}
use Rattle.plane.specs.declared.edge.Edge.{Edge}
use Rattle.plane.specs.declared.point.Point.{Point}
use Rattle.plane.specs.declared.columns.Asked.{Asked}
use Rattle.plane.specs.Columns.Asked.{Reaches}
use Rattle.plane.specs.Meet.Crosses.{IsWithin}
use Rattle.plane.specs.Meet.Edges.{IsOf, RationalPoint}
use Rattle.plane.specs.SweepLine.Heights.{height_by_run, rightwards, rise, run}
use Rattle.plane.proofs.MeetLemmas.Along.{over}
use Rattle.plane.proofs.MeetLemmas.Identities.{Term, at_most, at_most_of, identity, minus, number, plus, times}
use Rattle.plane.proofs.SweepLineLemmas.Gaps.{product_above}
use Rattle.plane.proofs.SweepLineLemmas.Rightwards.{rightwards-left, rightwards-right, turned}
use Rattle.noding.specs.Chains.{IsEnd}
use Rattle.noding.specs.Close.{PassesInside, PassesPoint}
use Rattle.noding.specs.Columns.Passing.{HasHeights, asked_around, asked_of, exchanged, is_steep, mirrored, mirrored_x, nowhere, swept_edge}
use Rattle.noding.specs.Rounding.{RoundsOn}
use Rattle.noding.proofs.ColumnLemmas.PassingShares.{IsHalfAbove, IsHalfBeside, height-from, height-upto, x-from, x-upto, y-end}
use Rattle.noding.proofs.SnapLemmas.Along.{Passes-in_box}
use Rattle.noding.proofs.SnapLemmas.Numbers.{below, below_of, n_of, natural}
use Rattle.noding.proofs.SnapLemmas.Reversed.{IsOf-reversed}

-- ---- an edge that goes to the right, and a point of it near to (x, y)

-- it is near to the whole point, and this is none of the edge's ends
pub record IsBeside (edge : Edge) (point : RationalPoint) (x y : ℤ) : Type 0 where
  pub of : IsOf edge point
  pub along_x : IsHalfAbove point.n point.x x
  pub along_y : IsHalfBeside point.n point.y y
  pub inside : ¬ (IsEnd edge x y)

-- it goes further along x than along y, or as far
pub record IsFlat (edge : Edge) : Type 0 where
  pub wide : edge.x0 ≢ edge.x1
  pub flat : unsigned_abs (edge.y1 -ℤ edge.y0) ≤ unsigned_abs (edge.x1 -ℤ edge.x0)

-- it covers x, at a height that is at most a unit from y
pub record IsNearAt (edge : Edge) (x y : ℤ) : Type 0 where
  pub from : edge.x0 ≤ℤ x
  pub before : x <ℤ edge.x1
  pub low : ((y -ℤ pos 1) *ℤ run edge) ≤ℤ height_by_run edge x
  pub high : height_by_run edge x ≤ℤ ((y +ℤ pos 1) *ℤ run edge)

within-flat : (w : ℕ) (r run : ℤ) → run ≡ pos w → unsigned_abs r ≤ unsigned_abs run → IsWithin w r
within-flat w (pos k) run is flat = (let less : k ≤ w = subst (λ (z : ℤ). k ≤ unsigned_abs z) is flat in record { from = omega (arith, ints); upto = omega (arith, ints, less) })
within-flat w (negsuc k) run is flat = (let less : unsigned_abs (negsuc k) ≤ w = subst (λ (z : ℤ). unsigned_abs (negsuc k) ≤ unsigned_abs z) is flat in record { from = omega (arith, ints, less); upto = omega (arith, ints) })

-- the edge, told by its start and how far it goes
near_by : (n a w : ℕ) (x0 x1 y0 y1 px py x y : ℤ) → 0 < n → a ≤ n → IsWithin w (y1 -ℤ y0) → x1 -ℤ x0 ≡ pos w → px ≡ ((pos n *ℤ x0) +ℤ (pos a *ℤ (x1 -ℤ x0))) → py ≡ ((pos n *ℤ y0) +ℤ (pos a *ℤ (y1 -ℤ y0)))
    → IsHalfAbove n px x → IsHalfBeside n py y → ¬ (IsEnd (record { x0 = x0; y0 = y0; x1 = x1; y1 = y1 }) x y) → IsNearAt (record { x0 = x0; y0 = y0; x1 = x1; y1 = y1 }) x y
near_by n a w x0 x1 y0 y1 px py x y some share flat is_run at_x at_y near_x near_y inside =
    let near_across = subst (λ (p : ℤ). IsHalfAbove n p x) (at_x ∙ ap (λ z. (pos n *ℤ x0) +ℤ (pos a *ℤ z)) is_run) near_x in
    let near_climbed = subst (λ (p : ℤ). IsHalfBeside n p y) at_y near_y in
    let r = y1 -ℤ y0 in
    let end_x : x0 +ℤ pos w ≡ x1 = omega (arith, ints, is_run) in
    let end_y : y0 +ℤ r ≡ y1 = omega (arith, ints) in
    let height : ((y0 *ℤ ((x0 +ℤ pos w) -ℤ x)) +ℤ ((y0 +ℤ r) *ℤ (x -ℤ x0))) ≡ ((y0 *ℤ (x1 -ℤ x)) +ℤ (y1 *ℤ (x -ℤ x0))) =
    ap (λ z. (y0 *ℤ (z -ℤ x)) +ℤ ((y0 +ℤ r) *ℤ (x -ℤ x0))) end_x ∙ ap (λ z. (y0 *ℤ (x1 -ℤ x)) +ℤ (z *ℤ (x -ℤ x0))) end_y in
    let low = height-from n a w x0 y0 r x y some share flat near_across near_climbed in
    let high = height-upto n a w x0 y0 r x y some share flat near_across near_climbed in
    let upto = x-upto n a w x0 y0 r x y some share flat near_across near_climbed in record {
      from = x-from n a w x0 y0 r x y some share flat near_across near_climbed;
      before = by_lt_z x x1 (λ is. is) (λ back.
          let same : x ≡ x0 +ℤ pos w = omega (arith, ints, back, upto, end_x) in
          absurd (inside (inr (same ∙ end_x, y-end n a w x0 y0 r x y some share flat near_across near_climbed same ∙ end_y))));
      low = subst (λ (h : ℤ). ((y -ℤ pos 1) *ℤ (x1 -ℤ x0)) ≤ℤ h) height (subst (λ (z : ℤ). ((y -ℤ pos 1) *ℤ z) ≤ℤ ((y0 *ℤ ((x0 +ℤ pos w) -ℤ x)) +ℤ ((y0 +ℤ r) *ℤ (x -ℤ x0)))) (sym is_run) low);
      high = subst (λ (h : ℤ). h ≤ℤ ((y +ℤ pos 1) *ℤ (x1 -ℤ x0))) height (subst (λ (z : ℤ). ((y0 *ℤ ((x0 +ℤ pos w) -ℤ x)) +ℤ ((y0 +ℤ r) *ℤ (x -ℤ x0))) ≤ℤ ((y +ℤ pos 1) *ℤ z)) (sym is_run) high);
    }

near-right : (edge : Edge) (point : RationalPoint) (x y : ℤ) → edge.x0 ≤ℤ edge.x1 → IsFlat edge → IsBeside edge point x y → IsNearAt edge x y
near-right edge point x y right is beside =
    let (a, at) = beside.of in
    let width = natural (run edge) (omega (arith, ints, right)) in
    near_by point.n a width.k edge.x0 edge.x1 edge.y0 edge.y1 point.x point.y x y point.positive at.share
    (within-flat width.k (rise edge) (run edge) width.is is.flat) width.is at.x at.y beside.along_x beside.along_y beside.inside

-- ---- any edge

abs_back : (a b : ℤ) → unsigned_abs (a -ℤ b) ≡ unsigned_abs (b -ℤ a)
abs_back a b = grind (arith, ints)

near-rightwards : (edge : Edge) (point : RationalPoint) (x y : ℤ) → IsFlat edge → IsBeside edge point x y → IsNearAt (rightwards edge) x y
near-rightwards edge point x y is beside = by (lt_z edge.x1 edge.x0) refl
  where
    by : (left : Bool) → lt_z edge.x1 edge.x0 ≡ left → IsNearAt (rightwards edge) x y
    by false onwards = subst (λ (e : Edge). IsNearAt e x y) (sym (rightwards-right edge onwards)) (near-right edge point x y (omega (arith, ints, onwards)) is beside)
    by true back = subst (λ (e : Edge). IsNearAt e x y) (sym (rightwards-left edge back))
        (near-right (turned edge) point x y (omega (arith, ints, back))
        (record {
          wide = λ same. is.wide (sym same);
          flat = rw (abs_back edge.y0 edge.y1, abs_back edge.x0 edge.x1) is.flat;
        })
        (record {
          of = IsOf-reversed edge point beside.of;
          along_x = beside.along_x;
          along_y = beside.along_y;
          inside = ⊎_elim (λ end. beside.inside (inr end)) (λ end. beside.inside (inl end));
        }))

-- ---- what is asked around a whole point

-- an edge's height between its ends is at least the least that both ends have, and at most the most
height-above : (m y0 y1 x0 x1 x : ℤ) → m ≤ℤ y0 → m ≤ℤ y1 → x0 ≤ℤ x → x ≤ℤ x1 → (m *ℤ (x1 -ℤ x0)) ≤ℤ ((y0 *ℤ (x1 -ℤ x)) +ℤ (y1 *ℤ (x -ℤ x0)))
height-above m y0 y1 x0 x1 x first last from upto =
    let one = at_most_of (n_of 0) (times (minus (number y0) (number m)) (minus (number x1) (number x))) (product_above (y0 -ℤ m) (x1 -ℤ x) (omega (arith, ints, first)) (omega (arith, ints, upto))) in
    let other = at_most_of (n_of 0) (times (minus (number y1) (number m)) (minus (number x) (number x0))) (product_above (y1 -ℤ m) (x -ℤ x0) (omega (arith, ints, last)) (omega (arith, ints, from))) in
    at_most (times (number m) (minus (number x1) (number x0))) (plus (times (number y0) (minus (number x1) (number x))) (times (number y1) (minus (number x) (number x0)))) (omega (arith, one, other))

height-below : (m y0 y1 x0 x1 x : ℤ) → y0 ≤ℤ m → y1 ≤ℤ m → x0 ≤ℤ x → x ≤ℤ x1 → ((y0 *ℤ (x1 -ℤ x)) +ℤ (y1 *ℤ (x -ℤ x0))) ≤ℤ (m *ℤ (x1 -ℤ x0))
height-below m y0 y1 x0 x1 x first last from upto =
    let one = at_most_of (n_of 0) (times (minus (number m) (number y0)) (minus (number x1) (number x))) (product_above (m -ℤ y0) (x1 -ℤ x) (omega (arith, ints, first)) (omega (arith, ints, upto))) in
    let other = at_most_of (n_of 0) (times (minus (number m) (number y1)) (minus (number x) (number x0))) (product_above (m -ℤ y1) (x -ℤ x0) (omega (arith, ints, last)) (omega (arith, ints, from))) in
    at_most (plus (times (number y0) (minus (number x1) (number x))) (times (number y1) (minus (number x) (number x0)))) (times (number m) (minus (number x1) (number x0))) (omega (arith, one, other))

abbrev least : ℤ
least = negsuc (2 ^ 31 - 1)

abbrev most : ℤ
most = pos (2 ^ 31 - 1)

-- a number saturated is itself, or the least or the most there is
low_cases : (z : ℤ) → (saturate_to_bits 31 z ≤ℤ z) ⊎ (saturate_to_bits 31 z ≡ least)
low_cases (pos n) = inl (grind arith)
low_cases (negsuc n) = grind arith

high_cases : (z : ℤ) → (z ≤ℤ saturate_to_bits 31 z) ⊎ (saturate_to_bits 31 z ≡ most)
high_cases (pos n) = grind arith
high_cases (negsuc n) = inl (grind arith)

-- so the edge reaches that
Reaches-near : (edge : Edge) (x y : ℤ) → IsNearAt (rightwards edge) (mirrored_x x) y → HasHeights (rightwards edge) → Reaches edge (asked_around x y)
Reaches-near edge x y near heights =
    let e = rightwards edge in
    let from = near.from in
    let before = near.before in
    let low = near.low in
    let high = near.high in
    let first = heights.first in
    let last = heights.last in
    let lowest = height-above least e.y0 e.y1 e.x0 e.x1 (mirrored_x x) (omega (arith, ints, first)) (omega (arith, ints, last)) from (omega (arith, ints, before)) in
    let highest = height-below most e.y0 e.y1 e.x0 e.x1 (mirrored_x x) (omega (arith, ints, first)) (omega (arith, ints, last)) from (omega (arith, ints, before)) in record {
      covers = record { from = from; before = before };
      within = (
        λ below. ⊎_elim
            (λ upto. let scaled = multiple (saturate_to_bits 31 (y -ℤ pos 1)) (y -ℤ pos 1) (run e) upto (omega (arith, ints, from, before)) in absurd (omega (arith, ints, below, scaled, low)))
            (λ same. let there = subst (λ (m : ℤ). height_by_run e (mirrored_x x) <ℤ (m *ℤ run e)) same below in absurd (omega (arith, ints, there, lowest)))
            (low_cases (y -ℤ pos 1)),
        ⊎_elim
            (λ upto. let scaled = multiple (y +ℤ pos 1) (saturate_to_bits 31 (y +ℤ pos 1)) (run e) upto (omega (arith, ints, from, before)) in omega (arith, ints, scaled, high))
            (λ same. subst (λ (m : ℤ). height_by_run e (mirrored_x x) ≤ℤ (m *ℤ run e)) (sym same) highest)
            (high_cases (y +ℤ pos 1)),
      );
    }
  where
    multiple : (a b w : ℤ) → a ≤ℤ b → pos 0 ≤ℤ w → (a *ℤ w) ≤ℤ (b *ℤ w)
    multiple a b w upto wide =
        let there = at_most_of (n_of 0) (times (minus (number b) (number a)) (number w)) (product_above (b -ℤ a) w (omega (arith, ints, upto)) wide) in
        at_most (times (number a) (number w)) (times (number b) (number w)) (omega (arith, there))

heights-rightwards : (edge : Edge) → HasHeights edge → HasHeights (rightwards edge)
heights-rightwards edge heights = by (lt_z edge.x1 edge.x0) refl
  where
    by : (left : Bool) → lt_z edge.x1 edge.x0 ≡ left → HasHeights (rightwards edge)
    by false onwards = subst HasHeights (sym (rightwards-right edge onwards)) heights
    by true back = subst HasHeights (sym (rightwards-left edge back)) (record { first = heights.last; last = heights.first })

-- ---- with right and left exchanged

mirrored_share : (n a : ℕ) (p from to : ℤ) → p ≡ ((pos n *ℤ from) +ℤ (pos a *ℤ (to -ℤ from))) → ((pos 0 -ℤ pos n) -ℤ p) ≡ ((pos n *ℤ mirrored_x from) +ℤ (pos a *ℤ (mirrored_x to -ℤ mirrored_x from)))
mirrored_share n a p from to is =
    ap (λ z. (pos 0 -ℤ pos n) -ℤ z) is
    ∙ identity (minus (minus (n_of 0) (n_of n)) (plus (times (n_of n) (number from)) (times (n_of a) (minus (number to) (number from)))))
    (plus (times (n_of n) (minus (number (negsuc 0)) (number from))) (times (n_of a) (minus (minus (number (negsuc 0)) (number to)) (minus (number (negsuc 0)) (number from))))) (omega arith)

mirrored_rounds : (n : ℕ) (p c : ℤ) → RoundsOn n p c → IsHalfAbove n ((pos 0 -ℤ pos n) -ℤ p) (mirrored_x c)
mirrored_rounds n p c rounds =
    let point : Term = minus (minus (n_of 0) (n_of n)) (number p) in
    let at : Term = minus (number (negsuc 0)) (number c) in
    let from = at_most_of (times (n_of n) (minus (times (n_of 2) (number c)) (n_of 1))) (times (n_of 2) (number p)) rounds.from in
    let upto = below_of (times (n_of 2) (number p)) (times (n_of n) (plus (times (n_of 2) (number c)) (n_of 1))) rounds.below in record {
      from = below (times (n_of n) (minus (times (n_of 2) at) (n_of 1))) (times (n_of 2) point) (omega (arith, upto));
      upto = at_most (times (n_of 2) point) (times (n_of n) (plus (times (n_of 2) at) (n_of 1))) (omega (arith, from));
    }

beside-mirrored : (edge : Edge) (x y : ℤ) → PassesInside edge x y → (point : RationalPoint) × IsBeside (mirrored edge) point (mirrored_x x) y
beside-mirrored edge x y ((point, (a, at), rounds), inside) = (
  record { n = point.n; x = (pos 0 -ℤ pos point.n) -ℤ point.x; y = point.y; positive = point.positive },
  record {
    of = (a, record { share = at.share; x = mirrored_share point.n a point.x edge.x0 edge.x1 at.x; y = at.y });
    along_x = mirrored_rounds point.n point.x x rounds.along_x;
    along_y = (let below = rounds.along_y.below in record { from = rounds.along_y.from; upto = omega (arith, ints, below) });
    inside = ⊎_elim (λ (is_x, is_y). inside (inl (back x edge.x0 is_x, is_y))) (λ (is_x, is_y). inside (inr (back x edge.x1 is_x, is_y)));
  },
)
  where
    back : (c d : ℤ) → mirrored_x c ≡ mirrored_x d → c ≡ d
    back c d is = omega (arith, ints, is)

-- an edge that isn't steep and passes a point between its ends isn't upright
wide-passed : (edge : Edge) (x y : ℤ) → unsigned_abs (edge.y1 -ℤ edge.y0) ≤ unsigned_abs (edge.x1 -ℤ edge.x0) → PassesInside edge x y → edge.x0 ≢ edge.x1
wide-passed edge x y flat (passes, inside) same =
    let box = Passes-in_box edge x y passes in
    let left = box.left in
    let right = box.right in
    let low = box.low in
    let high = box.high in
    let level : edge.y0 ≡ edge.y1 = level_by (edge.x1 -ℤ edge.x0) edge.y0 edge.y1 (omega (arith, ints, same)) flat in
    inside (inl (omega (arith, ints, clamps, left, right, same), omega (arith, ints, clamps, low, high, level)))
  where
    level_by : (run y0 y1 : ℤ) → run ≡ pos 0 → unsigned_abs (y1 -ℤ y0) ≤ unsigned_abs run → y0 ≡ y1
    level_by run y0 y1 none flat = (let upto = subst (λ (z : ℤ). unsigned_abs (y1 -ℤ y0) ≤ unsigned_abs z) none flat in grind (arith, ints))

Reaches-flat : (edge : Edge) (x y : ℤ) → unsigned_abs (edge.y1 -ℤ edge.y0) ≤ unsigned_abs (edge.x1 -ℤ edge.x0) → HasHeights (mirrored edge) → PassesInside edge x y → Reaches (mirrored edge) (asked_around x y)
Reaches-flat edge x y flat heights passes =
    let (point, beside) = beside-mirrored edge x y passes in
    let wide = wide-passed edge x y flat passes in
    let is : IsFlat (mirrored edge) = record { wide = λ same. wide (omega (arith, ints, same)); flat = rw (mirrored_abs edge.x1 edge.x0) flat } in
    Reaches-near (mirrored edge) x y (near-rightwards (mirrored edge) point (mirrored_x x) y is beside) (heights-rightwards (mirrored edge) heights)
  where
    mirrored_abs : (a b : ℤ) → unsigned_abs (mirrored_x a -ℤ mirrored_x b) ≡ unsigned_abs (a -ℤ b)
    mirrored_abs a b = (let turned : (mirrored_x a -ℤ mirrored_x b) ≡ (b -ℤ a) = omega (arith, ints) in ap unsigned_abs turned ∙ abs_back b a)

-- ---- with the axes exchanged

exchanged-passes : (edge : Edge) (x y : ℤ) → PassesInside edge x y → PassesInside (exchanged edge) y x
exchanged-passes edge x y ((point, (a, at), rounds), inside) = (
  (over point, (a, record { share = at.share; x = at.y; y = at.x }), record { along_x = rounds.along_y; along_y = rounds.along_x }),
  ⊎_elim (λ (is_y, is_x). inside (inl (is_x, is_y))) (λ (is_y, is_x). inside (inr (is_x, is_y))),
)

-- ---- steep edges, and the others

is_less : (m n : ℕ) → nat_lt m n ≡ true → m ≤ n
is_less m n is = grind (arith, is)

not_steep : (m n : ℕ) → nat_lt m n ≡ false → n ≤ m
not_steep m n is = grind (arith, is)

pub Reaches-passed : (steep : Bool) (edge : Edge) (point : Point) → HasHeights (swept_edge steep edge) → is_steep edge ≡ steep → PassesPoint edge point → Reaches (swept_edge steep edge) (asked_of steep point)
Reaches-passed true edge point heights is passes =
    let swept : swept_edge true edge ≡ mirrored (exchanged edge) = rw is refl in
    subst (λ (e : Edge). Reaches e (asked_around point.y point.x)) (sym swept)
    (Reaches-flat (exchanged edge) point.y point.x (is_less _ _ is) (subst HasHeights swept heights) (exchanged-passes edge point.x point.y passes))
Reaches-passed false edge point heights is passes =
    let swept : swept_edge false edge ≡ mirrored edge = rw is refl in
    subst (λ (e : Edge). Reaches e (asked_around point.x point.y)) (sym swept)
    (Reaches-flat edge point.x point.y (not_steep _ _ is) (subst HasHeights swept heights) passes)

-- what the sweep isn't for reaches nothing
pub Reaches-swept : (steep : Bool) (edge : Edge) (point : Point) → Reaches (swept_edge steep edge) (asked_of steep point) → is_steep edge ≡ steep
Reaches-swept steep edge point reaches = by steep (is_steep edge) refl reaches
  where
    none : {P : Type 0} (asked : Asked) → Reaches nowhere asked → P
    none asked reaches = (
        let same = rightwards-right nowhere refl in
        let from = subst (λ (e : Edge). e.x0 ≤ℤ asked.x) same reaches.covers.from in
        let before = subst (λ (e : Edge). asked.x <ℤ e.x1) same reaches.covers.before in
        absurd (omega (arith, ints, from, before))
        )

    by : (steep is : Bool) → is_steep edge ≡ is → Reaches (swept_edge steep edge) (asked_of steep point) → is_steep edge ≡ steep
    by true true same reaches = same
    by false false same reaches = same
    by true false same reaches = none (asked_of true point) (subst (λ (e : Edge). Reaches e (asked_of true point)) (rw same refl) reaches)
    by false true same reaches = none (asked_of false point) (subst (λ (e : Edge). Reaches e (asked_of false point)) (rw same refl) reaches)
