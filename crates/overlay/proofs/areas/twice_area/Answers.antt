use Rattle.std.proofs.Common.{◌≡◌, ◌<◌, ◌^◌, ◌*◌, ℕ, ◌∷◌, ◌+◌, ◌-◌, List, ℤ, pos, ◌+ℤ◌, length, get_or, drop, ap, sym, refl, ◌∙◌, arith, rules, FitsSigned, Fits, w64, to_z}
use Rattle.std.specs.Int.{w128}
use Rattle.std.proofs.lemmas.Bool.{eqb-false}
use Rattle.std.proofs.lemmas.Int.{ints, to_z-of_z}
use Rattle.std.proofs.lemmas.List.{drop_more}
use Rattle.plane.specs.declared.point.Point.{Point}
use Rattle.plane.specs.Meet.Crosses.{IsWithin}
use Rattle.overlay.specs.Fill.Pieces.{total}
use Rattle.plane.specs.Ends.{edge_between}
use Rattle.noding.specs.Windings.{pieces}
use Rattle.overlay.specs.Areas.{swept, twice_area}
use Rattle.overlay.proofs.RingLemmas.{area-begins}
use Rattle.overlay.proofs.areas.twice_area.Goals as goal

abbrev none : Point
none = record { x = pos 0; y = pos 0 }

pub loop-to-init : goal.loop-to-init
loop-to-init c =
    let ring = c.args.ring.now in
    let begins = area-begins ring (get_or ring (length ring - 1) none) none (λ empty. eqb-false _ _ (sym c.is_empty.ensures ∙ c.if-is_empty.false) (ap (λ (points : List Point). length points) empty)) refl in (
      omega (arith, ints, begins),
      record { from = omega (arith, ints); upto = omega (arith, ints) },
    )

-- so many edges sweep no more than 128 bits count
fits : (sum more : ℤ) (k n : ℕ) → IsWithin (k * 2 ^ 63) sum → IsWithin (2 ^ 63) more → k < n → Fits w64 n → FitsSigned w128 (sum +ℤ more)
fits sum more k n within step inside wide =
    let from = within.from in
    let upto = within.upto in
    let step_from = step.from in
    let step_upto = step.upto in
    omega (arith, ints, from, upto, step_from, step_upto, inside, wide)

pub overflow_add-sum : goal.overflow_add-sum
overflow_add-sum c =
    let wide : Fits w64 (length c.args.ring.now) = search rules in
    let one : FitsSigned w128 c.swept-sum.result = record { sfits = c.swept-sum.type_inv } in
    simp to_z-of_z (fits _ c.swept-sum.result c.loop-to.to-index (length c.args.ring.now) c.loop-to.invariant.1 c.swept-sum.ensures.within c.loop-to-test.true wide)

pub loop-to-preserved : goal.loop-to-preserved
loop-to-preserved c =
    let ring = c.args.ring.now in
    let k = c.loop-to.to-index in
    let wide : Fits w64 (length c.args.ring.now) = search rules in
    let one : FitsSigned w128 c.swept-sum.result = record { sfits = c.swept-sum.type_inv } in
    let all : FitsSigned w128 (to_z w128 c.loop-to.sum-bits +ℤ c.swept-sum.result) = fits (to_z w128 c.loop-to.sum-bits) c.swept-sum.result k (length ring) c.loop-to.invariant.1 c.swept-sum.ensures.within c.loop-to-test.true wide in
    let sum = to_z w128 c.loop-to.sum-bits in
    let at = get_or ring k none in
    let rest = drop (k + 1) ring in
    let left : total swept (pieces (c.loop-to.from ∷ drop k ring)) ≡ swept (edge_between c.loop-to.from at) +ℤ total swept (pieces (at ∷ rest)) =
    ap (λ (points : List Point). total swept (pieces (c.loop-to.from ∷ points))) (drop_more ring k none c.loop-to-test.true) in
    let is = c.swept-sum.ensures.value in
    let before = c.loop-to.invariant.0 in
    let within = c.loop-to.invariant.1 in
    let from = within.from in
    let upto = within.upto in
    let step = c.swept-sum.ensures.within in
    let step_from = step.from in
    let step_upto = step.upto in (
      simp to_z-of_z (let sums : (sum +ℤ c.swept-sum.result) +ℤ total swept (pieces (at ∷ rest)) ≡ twice_area ring = omega (arith, ints, left, is, before) in sums),
      simp to_z-of_z (let bounds : IsWithin ((k + 1) * 2 ^ 63) (sum +ℤ c.swept-sum.result) = record { from = omega (arith, ints, from, step_from); upto = omega (arith, ints, upto, step_upto) } in bounds),
    )
