use Rattle.std.proofs.Common.{◌≡◌, ◌≤◌, ◌+◌, ◌-◌, ◌*◌, ◌^◌, ℤ, ◌+ℤ◌, ℕ, List, length, drop, take, get_or, subst, sym, to_z, w64, Fits, FitsSigned, arith, rules}
use Rattle.std.specs.Int.{w128}
use Rattle.std.proofs.lemmas.Int.{ints, to_z-of_z}
use Rattle.std.proofs.lemmas.List.{drop_more, length-take}
use Rattle.plane.specs.declared.point.Point.{Point}
use Rattle.plane.specs.Meet.Crosses.{IsWithin}
use Rattle.overlay.specs.Rings.{AreEnds}
use Rattle.uses.proofs.parcels.twice_area_of.Goals as goal

-- a part of so many points at most
between-upto : (start end : ℕ) (points : List Point) → length (take (end - start) (drop start points)) ≤ end - start
between-upto start end points = omega (arith, length-take (end - start) (drop start points))

-- what its area adds to the sum
added : (sum more : ℤ) (start end size : ℕ) → IsWithin (start * 2 ^ 63) sum → IsWithin (size * 2 ^ 63) more → start ≤ end → size ≤ end - start → IsWithin (end * 2 ^ 63) (sum +ℤ more)
added sum more start end size before within onwards upto =
    let before_from = before.from in
    let before_upto = before.upto in
    let from = within.from in
    let most = within.upto in
    record { from = omega (arith, ints, before_from, from, onwards, upto); upto = omega (arith, ints, before_upto, most, onwards, upto) }

-- the sum of so many points has room
fits : (sum : ℤ) (end count : ℕ) → IsWithin (end * 2 ^ 63) sum → end ≤ count → Fits w64 count → FitsSigned w128 sum
fits sum end count within inside wide =
    let from = within.from in
    let upto = within.upto in
    omega (arith, ints, from, upto, inside, wide)

pub loop-end-preserved : goal.loop-end-preserved
loop-end-preserved c =
    let k = c.loop-end.end-index in
    let points = c.args.polygons.now.points.items in
    let items = c.deref-end-items.result.now in
    let are : items ≡ c.args.polygons.now.ring_ends.items = c.deref-end-items.ensures.value in
    let ends = subst (λ (list : List ℕ). AreEnds c.loop-end.start (drop k list) (length points)) (sym are) c.loop-end.invariant.ends in
    let (onwards, inside, right) = subst (λ (list : List ℕ). AreEnds c.loop-end.start list (length points)) (drop_more items k 0 c.loop-end-test.true) ends in
    let within = c.twice_area-sum.ensures.within in
    let before = c.loop-end.invariant.sum in
    let end = get_or items k 0 in
    let wide : Fits w64 (length points) = search rules in
    let one : FitsSigned w128 c.twice_area-sum.result = record { sfits = c.twice_area-sum.type_inv } in
    let upto = added (to_z w128 c.loop-end.sum-bits) c.twice_area-sum.result c.loop-end.start end _ before within onwards (between-upto c.loop-end.start end c.deref.result.now) in
    let all = fits (to_z w128 c.loop-end.sum-bits +ℤ c.twice_area-sum.result) end (length points) upto inside wide in
    record {
      ends = subst (λ (list : List ℕ). AreEnds (get_or items k 0) (drop (k + 1) list) (length points)) are right;
      start = inside;
      sum = simp to_z-of_z upto;
    }
