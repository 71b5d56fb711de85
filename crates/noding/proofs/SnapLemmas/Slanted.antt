-- Whether an edge that rises or falls passes a whole point, as a test of natural numbers.
use Rattle.std.proofs.Common.{◌⊎◌, inl, inr, arith, max, min, pos, refl, subst, suc, sym, zero, ℕ, ℤ, ◌*ℤ◌, ◌*◌, ◌+ℤ◌, ◌+◌, ◌-ℤ◌, ◌-◌, ◌<◌, ◌≡◌, ◌≤◌}
use Rattle.std.specs.Bool.{⊤}
use Rattle.std.proofs.Math.Nat.{le_of_mul-le-mul_left, lt_of_mul-lt-mul_left, mul-le-mul_left, mul-lt-mul_of_pos_left, mul-pos}
use Rattle.plane.specs.declared.edge.Edge.{Edge}
use Rattle.plane.specs.Meet.Edges.{IsOf, RationalPoint}
use Rattle.noding.specs.Chains.{Passes}
use Rattle.noding.specs.Rounding.{RoundsOn}
use Rattle.noding.proofs.SnapLemmas.Numbers.{below, below_of, minus_of, n_of}
use Rattle.plane.proofs.MeetLemmas.Identities.{at_most, at_most_of, minus, number, plus, times}

-- ---- what a share of an edge rounds to, on one axis

-- a of n parts of a way of w onwards round to d onwards
pub record RoundsUp (n a w d : ℕ) : Type 0 where
  pub from : n * (2 * d) ≤ 2 * (a * w) + n
  pub upto : 2 * (a * w) < n * (2 * d) + n

-- and of a way back to d back
pub record RoundsDown (n a w d : ℕ) : Type 0 where
  pub from : n * (2 * d) < 2 * (a * w) + n
  pub upto : 2 * (a * w) ≤ n * (2 * d) + n

module _ (n a w d : ℕ) (start way : ℤ) where
  module _ (goes : way ≡ pos w) where
    there : RoundsOn n ((pos n *ℤ start) +ℤ (pos a *ℤ pos w)) (start +ℤ pos d) → RoundsOn n ((pos n *ℤ start) +ℤ (pos a *ℤ way)) (start +ℤ pos d)
    there = subst (λ (z : ℤ). RoundsOn n ((pos n *ℤ start) +ℤ (pos a *ℤ z)) (start +ℤ pos d)) (sym goes)

    pub up_rounds : RoundsUp n a w d → RoundsOn n ((pos n *ℤ start) +ℤ (pos a *ℤ way)) (start +ℤ pos d)
    up_rounds tests =
        let p = plus (times (n_of n) (number start)) (times (n_of a) (n_of w)) in
        let c = plus (number start) (n_of d) in
        there (record {
          from = at_most (times (n_of n) (minus (times (n_of 2) c) (n_of 1))) (times (n_of 2) p) (omega (arith, tests.from));
          below = below (times (n_of 2) p) (times (n_of n) (plus (times (n_of 2) c) (n_of 1))) (omega (arith, tests.upto));
        })

    pub rounds_up : RoundsOn n ((pos n *ℤ start) +ℤ (pos a *ℤ way)) (start +ℤ pos d) → RoundsUp n a w d
    rounds_up rounds =
        let p = plus (times (n_of n) (number start)) (times (n_of a) (n_of w)) in
        let c = plus (number start) (n_of d) in
        let here : RoundsOn n ((pos n *ℤ start) +ℤ (pos a *ℤ pos w)) (start +ℤ pos d) = subst (λ (z : ℤ). RoundsOn n ((pos n *ℤ start) +ℤ (pos a *ℤ z)) (start +ℤ pos d)) goes rounds in record {
          from = omega (arith, at_most_of (times (n_of n) (minus (times (n_of 2) c) (n_of 1))) (times (n_of 2) p) here.from);
          upto = omega (arith, below_of (times (n_of 2) p) (times (n_of n) (plus (times (n_of 2) c) (n_of 1))) here.below);
        }

  module _ (goes : way ≡ (pos 0 -ℤ pos w)) where
    pub down_rounds : RoundsDown n a w d → RoundsOn n ((pos n *ℤ start) +ℤ (pos a *ℤ way)) (start -ℤ pos d)
    down_rounds tests =
        let p = plus (times (n_of n) (number start)) (times (n_of a) (minus_of w)) in
        let c = minus (number start) (n_of d) in
        let here : RoundsOn n ((pos n *ℤ start) +ℤ (pos a *ℤ (pos 0 -ℤ pos w))) (start -ℤ pos d) = record {
          from = at_most (times (n_of n) (minus (times (n_of 2) c) (n_of 1))) (times (n_of 2) p) (omega (arith, tests.upto));
          below = below (times (n_of 2) p) (times (n_of n) (plus (times (n_of 2) c) (n_of 1))) (omega (arith, tests.from));
        } in
        subst (λ (z : ℤ). RoundsOn n ((pos n *ℤ start) +ℤ (pos a *ℤ z)) (start -ℤ pos d)) (sym goes) here

    pub rounds_down : RoundsOn n ((pos n *ℤ start) +ℤ (pos a *ℤ way)) (start -ℤ pos d) → RoundsDown n a w d
    rounds_down rounds =
        let p = plus (times (n_of n) (number start)) (times (n_of a) (minus_of w)) in
        let c = minus (number start) (n_of d) in
        let here : RoundsOn n ((pos n *ℤ start) +ℤ (pos a *ℤ (pos 0 -ℤ pos w))) (start -ℤ pos d) = subst (λ (z : ℤ). RoundsOn n ((pos n *ℤ start) +ℤ (pos a *ℤ z)) (start -ℤ pos d)) goes rounds in record {
          from = omega (arith, below_of (times (n_of 2) p) (times (n_of n) (plus (times (n_of 2) c) (n_of 1))) here.below);
          upto = omega (arith, at_most_of (times (n_of n) (minus (times (n_of 2) c) (n_of 1))) (times (n_of 2) p) here.from);
        }

-- an edge passes what its point at a share rounds to
pub passes_share : (edge : Edge) (n a : ℕ) (x y : ℤ) → 0 < n → a ≤ n → RoundsOn n ((pos n *ℤ edge.x0) +ℤ (pos a *ℤ (edge.x1 -ℤ edge.x0))) x
    → RoundsOn n ((pos n *ℤ edge.y0) +ℤ (pos a *ℤ (edge.y1 -ℤ edge.y0))) y → Passes edge x y
passes_share edge n a x y some share along_x along_y =
    let point : RationalPoint = record {
      n = n;
      x = (pos n *ℤ edge.x0) +ℤ (pos a *ℤ (edge.x1 -ℤ edge.x0));
      y = (pos n *ℤ edge.y0) +ℤ (pos a *ℤ (edge.y1 -ℤ edge.y0));
      positive = some;
    } in
    let of : IsOf edge point = (a, record { share = share; x = refl; y = refl }) in (
      point,
      of,
      record { along_x = along_x; along_y = along_y },
    )

-- ---- a share that rounds to the point on both axes

-- where the edge goes onwards on both axes, if the corners are apart, and where it goes back along y
pub record Share (Apart : Type 0) (w h dx dy : ℕ) : Type 0 where
  pub n : ℕ
  pub a : ℕ
  pub some : 0 < n
  pub share : a ≤ n
  pub on_x : RoundsUp n a w dx
  pub up_y : Apart → RoundsUp n a h dy
  pub down_y : RoundsDown n a h dy

-- a point of the edge that is whole
exact : (w h dx dy n a : ℕ) → 0 < n → a ≤ n → a * w ≡ n * dx → a * h ≡ n * dy → Share ⊤ w h dx dy
exact w h dx dy n a some share along_x along_y = record {
  n = n;
  a = a;
  some = some;
  share = share;
  on_x = record { from = omega (arith, along_x); upto = omega (arith, along_x, some) };
  up_y = λ _. record { from = omega (arith, along_y); upto = omega (arith, along_y, some) };
  down_y = record { from = omega (arith, along_y, some); upto = omega (arith, along_y) };
}

-- all whole points of the box of an edge along an axis are
pub along_axis : (w h dx dy : ℕ) → dx ≤ w → dy ≤ h → (w ≡ 0) ⊎ (h ≡ 0) → Share ⊤ w h dx dy
along_axis zero zero zero zero in_x in_y level = exact 0 0 0 0 1 0 (omega arith) (omega arith) refl refl
along_axis zero (suc h) zero dy in_x in_y level = exact 0 (suc h) 0 dy (suc h) dy (omega arith) in_y (omega arith) (omega arith)
along_axis (suc w) zero dx zero in_x in_y level = exact (suc w) 0 dx 0 (suc w) dx (omega arith) in_x (omega arith) (omega arith)
along_axis (suc w) (suc h) dx dy in_x in_y (inl none) = absurd (omega (arith, none))
along_axis (suc w) (suc h) dx dy in_x in_y (inr none) = absurd (omega (arith, none))
along_axis zero h (suc dx) dy in_x in_y level = absurd (omega (arith, in_x))
along_axis w zero dx (suc dy) in_x in_y level = absurd (omega (arith, in_y))

-- the middle of the greater beginning and the least end of both stretches, of 4 w h parts
pub middle : (w h dx dy : ℕ) → 0 < w → 0 < h → dx ≤ w → dy ≤ h → 2 * (dx * h) ≤ (2 * (dy * w) + w) + h → 2 * (dy * w) < (2 * (dx * h) + h) + w → Share (2 * (dx * h) < (2 * (dy * w) + w) + h) w h dx dy
middle w h dx dy wide high in_x in_y first second =
    let x_upto = mul-le-mul_left h in_x in
    let y_upto = mul-le-mul_left w in_y in
    let some = mul-pos wide high in
    let upto_h = mul-le-mul_left h wide in
    let upto_w = mul-le-mul_left w high in
    let s = max (2 * (dx * h) - h) (2 * (dy * w) - w) + min (2 * (dx * h) + h) (min (2 * (dy * w) + w) (2 * (w * h))) in
    let from_x : 4 * (dx * h) ≤ s + 2 * h = omega (arith, x_upto, y_upto) in
    let upto_x : s < 4 * (dx * h) + 2 * h = omega (arith, x_upto, y_upto) in
    let from_y : 4 * (dy * w) < s + 2 * w = omega (arith, x_upto, y_upto, some, upto_h, upto_w) in
    let upto_y : s ≤ 4 * (dy * w) + 2 * w = omega (arith, x_upto, y_upto) in
    let left_x = mul-le-mul_left (2 * w) from_x in
    let right_x = mul-lt-mul_of_pos_left {k = 2 * w} upto_x (omega (arith, wide)) in
    let left_y = mul-lt-mul_of_pos_left {k = 2 * h} from_y (omega (arith, high)) in
    let right_y = mul-le-mul_left (2 * h) upto_y in record {
      n = 4 * (w * h);
      a = s;
      some = omega (arith, some);
      share = omega (arith, x_upto, y_upto);
      on_x = record { from = omega (arith, left_x); upto = omega (arith, right_x) };
      up_y = λ apart.
          let before : s < 4 * (dy * w) + 2 * w = omega (arith, x_upto, y_upto, apart) in
          let right = mul-lt-mul_of_pos_left {k = 2 * h} before (omega (arith, high)) in
          record { from = omega (arith, left_y); upto = omega (arith, right) };
      down_y = record { from = omega (arith, left_y); upto = omega (arith, right_y) };
    }

-- ---- the corners of a pixel that a share rounds into

-- two of them are on opposite sides of the edge
pub corner : (n a w h dx dy : ℕ) → 0 < w → n * (2 * dx) ≤ 2 * (a * w) + n → 2 * (a * h) < n * (2 * dy) + n → 2 * (dx * h) < (2 * (dy * w) + w) + h
corner n a w h dx dy wide from upto =
    let left = mul-le-mul_left h from in
    let right = mul-lt-mul_of_pos_left {k = w} upto wide in
    lt_of_mul-lt-mul_left n (omega (arith, left, right))

-- or one of them is on it
pub corner_on : (n a w h dx dy : ℕ) → 0 < n → n * (2 * dx) ≤ 2 * (a * w) + n → 2 * (a * h) ≤ n * (2 * dy) + n → 2 * (dx * h) ≤ (2 * (dy * w) + w) + h
corner_on n a w h dx dy some from upto =
    let left = mul-le-mul_left h from in
    let right = mul-le-mul_left w upto in
    le_of_mul-le-mul_left {k = n} (omega (arith, left, right)) some
