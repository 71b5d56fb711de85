-- Edges along the axes, which pass just the whole points that are of them.
use Rattle.std.proofs.Common.{◌≡◌, ◌≢◌, ◌⊎◌, inl, inr, ℕ, zero, suc, ◌*◌, ◌<◌, ℤ, pos, negsuc, ◌+ℤ◌, ◌-ℤ◌, ◌*ℤ◌, refl, sym, ap, ◌∙◌, subst, ⊎_elim, arith}
use Rattle.std.proofs.Math.Nat.{mul-le-mul_left, mul-pos}
use Rattle.std.proofs.lemmas.Int.{clamps, ints}
use Rattle.plane.specs.declared.edge.Edge.{Edge}
use Rattle.plane.specs.Meet.Crosses.{cross}
use Rattle.plane.specs.Meet.Edges.{IsOf}
use Rattle.noding.specs.Chains.{AreNotParallel, CrossAt, Passes}
use Rattle.noding.specs.Close.{PassesInside}
use Rattle.plane.specs.Lines.{IsAlongAxis}
use Rattle.noding.proofs.SnapLemmas.Along.{Passes-in_box}
use Rattle.noding.proofs.SnapLemmas.Crossing.{CrossAt-exchanged}
use Rattle.noding.proofs.SnapLemmas.Exact.{passes_level}
use Rattle.noding.proofs.SnapLemmas.Numbers.{n_of}
use Rattle.noding.proofs.SnapLemmas.Rounding.{RoundsOn-whole}
use Rattle.plane.proofs.MeetLemmas.Along.{Lies, flipped, lies, of-flipped, whole_point}
use Rattle.plane.proofs.MeetLemmas.Identities.{identity, minus, number, plus, times}

-- an upright edge passes points of its column alone
passes_upright : (edge : Edge) (x y : ℤ) → edge.x1 ≡ edge.x0 → Passes edge x y → x ≡ edge.x0
passes_upright edge x y upright (point, (a, at), rounds) =
    passes_level (flipped edge) y x upright (record { n = point.n; x = point.y; y = point.x; positive = point.positive }, (a, record { share = at.share; x = at.y; y = at.x }), record { along_x = rounds.along_y; along_y = rounds.along_x })

-- a whole point that such an edge passes between its ends is of it
level_on : (edge : Edge) (x y : ℤ) → edge.y1 ≡ edge.y0 → PassesInside edge x y → Lies edge x y
level_on edge x y level (passes, inside) =
    let box = Passes-in_box edge x y passes in
    let at = passes_level edge x y level passes in
    let line : ((x -ℤ edge.x0) *ℤ (edge.y1 -ℤ edge.y0)) ≡ ((y -ℤ edge.y0) *ℤ (edge.x1 -ℤ edge.x0)) =
    ap (λ z. (x -ℤ edge.x0) *ℤ (z -ℤ edge.y0)) level ∙ identity (times (minus (number x) (number edge.x0)) (minus (number edge.y0) (number edge.y0))) (times (minus (number edge.y0) (number edge.y0)) (minus (number edge.x1) (number edge.x0))) (omega arith)
    ∙ ap (λ z. (z -ℤ edge.y0) *ℤ (edge.x1 -ℤ edge.x0)) (sym at) in
    let left = box.left in
    let right = box.right in
    lies edge x y (λ same. inside (inl (omega (arith, ints, clamps, same, left, right), at))) left right line

upright_on : (edge : Edge) (x y : ℤ) → edge.x1 ≡ edge.x0 → PassesInside edge x y → Lies edge x y
upright_on edge x y upright (passes, inside) =
    let (point, (a, at), rounds) = passes in
    let over_there : Passes (flipped edge) y x = (record { n = point.n; x = point.y; y = point.x; positive = point.positive }, (a, record { share = at.share; x = at.y; y = at.x }), record { along_x = rounds.along_y; along_y = rounds.along_x }) in
    let there = level_on (flipped edge) y x upright (over_there, ⊎_elim (λ (one, other). inside (inl (other, one))) (λ (one, other). inside (inr (other, one)))) in record {
      n = there.n;
      some = there.some;
      of_edge = of-flipped edge (whole_point there.n there.some y x) there.of_edge;
    }

-- a share of more parts
IsOf-parts : (edge : Edge) (k n m : ℕ) (x y : ℤ) (some : 0 < n) (more : 0 < m) → m ≡ k * n → IsOf edge (whole_point n some x y) → IsOf edge (whole_point m more x y)
IsOf-parts edge k n m x y some more is (a, at) = (
  k * a,
  record { share = rw is (mul-le-mul_left k at.share); x = scaled_share x edge.x0 edge.x1 at.x; y = scaled_share y edge.y0 edge.y1 at.y },
)
  where
    scaled_share : (z from to : ℤ) → (pos n *ℤ z) ≡ ((pos n *ℤ from) +ℤ (pos a *ℤ (to -ℤ from))) → (pos m *ℤ z) ≡ ((pos m *ℤ from) +ℤ (pos (k * a) *ℤ (to -ℤ from)))
    scaled_share z from to at_share =
        let there : (pos (k * n) *ℤ z) ≡ ((pos (k * n) *ℤ from) +ℤ (pos (k * a) *ℤ (to -ℤ from))) =
        identity (times (n_of (k * n)) (number z)) (times (n_of k) (times (n_of n) (number z))) (omega arith)
        ∙ ap (λ p. pos k *ℤ p) at_share
        ∙ identity (times (n_of k) (plus (times (n_of n) (number from)) (times (n_of a) (minus (number to) (number from))))) (plus (times (n_of (k * n)) (number from)) (times (n_of (k * a)) (minus (number to) (number from)))) (omega arith) in
        subst (λ (j : ℕ). (pos j *ℤ z) ≡ ((pos j *ℤ from) +ℤ (pos (k * a) *ℤ (to -ℤ from)))) (sym is) there

-- a product of two numbers that aren't 0
pub some_product : (a b : ℤ) → a ≢ pos 0 → b ≢ pos 0 → (a *ℤ b) ≢ pos 0
some_product (pos zero) b some many is = some refl
some_product (pos (suc a)) (pos zero) some many is = many refl
some_product (negsuc a) (pos zero) some many is = many refl
some_product (pos (suc a)) (pos (suc b)) some many is = omega (arith, ints, is)
some_product (pos (suc a)) (negsuc b) some many is = omega (arith, ints, is)
some_product (negsuc a) (pos (suc b)) some many is = omega (arith, ints, is)
some_product (negsuc a) (negsuc b) some many is = omega (arith, ints, is)

-- a cross product of an upright way and a level one
cross_upright : (ux uy vx vy : ℤ) → ux ≡ pos 0 → vy ≡ pos 0 → cross ux uy vx vy ≡ (pos 0 -ℤ (uy *ℤ vx))
cross_upright ux uy vx vy first second =
    ap (λ z. cross z uy vx vy) first ∙ ap (λ z. cross (pos 0) uy vx z) second
    ∙ identity (minus (times (n_of 0) (n_of 0)) (times (number uy) (number vx))) (minus (n_of 0) (times (number uy) (number vx))) (omega arith)

-- an upright edge and a level one that pass a whole point between their ends cross there
pub CrossAt-upright : (edge other : Edge) (x y : ℤ) → edge.x1 ≡ edge.x0 → other.y1 ≡ other.y0 → PassesInside edge x y → PassesInside other x y → CrossAt edge other x y
CrossAt-upright edge other x y upright level first second =
    let one = upright_on edge x y upright first in
    let two = level_on other x y level second in
    let some : 0 < two.n * one.n = mul-pos two.some one.some in
    let of_one = IsOf-parts edge two.n one.n (two.n * one.n) x y one.some some refl one.of_edge in
    let of_two = IsOf-parts other one.n two.n (two.n * one.n) x y two.some some (omega arith) two.of_edge in (
      apart,
      (whole_point (two.n * one.n) some x y, of_one, of_two, record { along_x = RoundsOn-whole (two.n * one.n) x some; along_y = RoundsOn-whole (two.n * one.n) y some }),
    )
  where
    tall : (edge.y1 -ℤ edge.y0) ≢ pos 0
    tall none =
        let box = Passes-in_box edge x y first.0 in
        let low = box.low in
        let high = box.high in
        first.1 (inl (passes_upright edge x y upright first.0, omega (arith, ints, clamps, none, low, high)))

    wide : (other.x1 -ℤ other.x0) ≢ pos 0
    wide none =
        let box = Passes-in_box other x y second.0 in
        let left = box.left in
        let right = box.right in
        second.1 (inl (omega (arith, ints, clamps, none, left, right), passes_level other x y level second.0))

    apart : AreNotParallel edge other
    apart none =
        let is = cross_upright (edge.x1 -ℤ edge.x0) (edge.y1 -ℤ edge.y0) (other.x1 -ℤ other.x0) (other.y1 -ℤ other.y0) (omega (arith, ints, upright)) (omega (arith, ints, level)) in
        some_product (edge.y1 -ℤ edge.y0) (other.x1 -ℤ other.x0) tall wide (omega (arith, ints, is, none))

cross_nowhere : (ux uy vx vy : ℤ) → (ux ≡ pos 0) × (vx ≡ pos 0) ⊎ (uy ≡ pos 0) × (vy ≡ pos 0) → cross ux uy vx vy ≡ pos 0
cross_nowhere ux uy vx vy (inl (first, second)) =
    ap (λ z. cross z uy vx vy) first ∙ ap (λ z. cross (pos 0) uy z vy) second
    ∙ identity (minus (times (n_of 0) (number vy)) (times (number uy) (n_of 0))) (n_of 0) (omega arith)
cross_nowhere ux uy vx vy (inr (first, second)) =
    ap (λ z. cross ux z vx vy) first ∙ ap (λ z. cross ux (pos 0) vx z) second
    ∙ identity (minus (times (number ux) (n_of 0)) (times (n_of 0) (number vx))) (n_of 0) (omega arith)

-- of two edges along the axes that cross, another one that passes the crossing crosses one too
pub CrossAt-axes : (edge one other : Edge) (x y : ℤ) → IsAlongAxis edge → IsAlongAxis one → IsAlongAxis other → AreNotParallel one other → PassesInside edge x y → PassesInside one x y → PassesInside other x y → CrossAt edge one x y ⊎ CrossAt edge other x y
CrossAt-axes edge one other x y (inl upright) (inr level) other_is apart passes first second = inl (CrossAt-upright edge one x y upright level passes first)
CrossAt-axes edge one other x y (inr level) (inl upright) other_is apart passes first second = inl (CrossAt-exchanged one edge x y (CrossAt-upright one edge x y upright level first passes))
CrossAt-axes edge one other x y (inl upright) (inl first_upright) (inr level) apart passes first second = inr (CrossAt-upright edge other x y upright level passes second)
CrossAt-axes edge one other x y (inr level) (inr first_level) (inl upright) apart passes first second = inr (CrossAt-exchanged other edge x y (CrossAt-upright other edge x y upright level second passes))
CrossAt-axes edge one other x y (inl upright) (inl first_upright) (inl other_upright) apart passes first second =
    absurd (apart (cross_nowhere (one.x1 -ℤ one.x0) (one.y1 -ℤ one.y0) (other.x1 -ℤ other.x0) (other.y1 -ℤ other.y0) (inl (omega (arith, ints, first_upright), omega (arith, ints, other_upright)))))
CrossAt-axes edge one other x y (inr level) (inr first_level) (inr other_level) apart passes first second =
    absurd (apart (cross_nowhere (one.x1 -ℤ one.x0) (one.y1 -ℤ one.y0) (other.x1 -ℤ other.x0) (other.y1 -ℤ other.y0) (inr (omega (arith, ints, first_level), omega (arith, ints, other_level)))))
