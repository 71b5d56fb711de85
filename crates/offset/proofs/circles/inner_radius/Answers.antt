use Rattle.std.proofs.Common.{◌≡◌, ◌*◌, ◌+◌, ◌^◌, ◌<◌, ◌≤◌, ℕ, ℤ, pos, ◌<ℤ◌, get_or, length, to_z, w32, arith, subst, sym}
use Rattle.std.proofs.lemmas.Int.{ints, to_z_pos}
use Rattle.std.proofs.lemmas.List.Elements.{All-get_or}
use Rattle.plane.specs.declared.edge.Edge.{Edge}
use Rattle.overlay.specs.Areas.{swept}
use Rattle.offset.specs.Circle.{IsDistance, IsInner, IsRoot}
use Rattle.offset.specs.Raw.{nowhere}
use Rattle.offset.specs.Shape.{sides}
use Rattle.offset.proofs.CircleLemmas.{IsLeast, inner-of, least-more, root-most}
use Rattle.offset.proofs.ShapeLemmas.{length-sides}
use Rattle.offset.proofs.circles.inner_radius.Goals as goal

pub square_distance-requires : goal.square_distance-requires
square_distance-requires c =
    let corners = c.args.corners.now in
    let size = length-sides corners in
    subst (λ (side : Edge). pos 0 <ℤ swept side) (sym c.side_at.ensures)
    (All-get_or (λ (side : Edge). pos 0 <ℤ swept side) (sides corners) c.loop-index.index nowhere (omega (arith, size, c.loop-index-test.true)) c.requires.left)

pub loop-index-preserved : goal.loop-index-preserved
loop-index-preserved c =
    let corners = c.args.corners.now in
    let at : ℕ → Edge = λ k. get_or (sides corners) k nowhere in
    let most = c.unsigned_abs-reach.result * c.unsigned_abs-reach.result in
    subst (λ (least : ℕ). IsLeast at most (c.loop-index.index + 1) least) (sym c.min-least.ensures)
    (least-more at most c.loop-index.index c.loop-index.least c.square_distance.result c.loop-index.invariant
    (subst (λ (side : Edge). IsDistance side c.square_distance.result) c.side_at.ensures c.square_distance.ensures))

-- the root is at most the radius
low : (c : goal.After-isqrt) → c.isqrt.result ≤ c.unsigned_abs-reach.result
low c =
    let square_le = c.isqrt.ensures.square_le in
    let upto = c.loop-index.invariant.upto in
    root-most c.isqrt.result c.unsigned_abs-reach.result (omega (arith, square_le, upto))

small : (c : goal.After-isqrt) → c.isqrt.result < 2 ^ 31
small c =
    let below = low c in
    let value = c.unsigned_abs-reach.ensures.value in
    let from = c.requires.radius in
    let range = c.ranges.radius in
    omega (arith, ints, below, value, from, range)

pub overflow_cast-result : goal.overflow_cast-result
overflow_cast-result c = let fits = small c in omega (arith, ints, fits)

pub returns : goal.returns
returns c =
    let corners = c.args.corners.now in
    let reach = c.unsigned_abs-reach.result in
    let root = c.isqrt.result in
    let size = length-sides corners in
    let at_end : c.loop-index.index ≡ length (sides corners) = omega (arith, size, c.loop-index-test.false, c.loop-index.auto.index-end) in
    let found : IsRoot c.loop-index.least root = record { from = c.isqrt.ensures.square_le; below = c.isqrt.ensures.next_square_gt } in
    let is = inner-of (sides corners) reach c.loop-index.least root
    (subst (λ (n : ℕ). IsLeast (λ k. get_or (sides corners) k nowhere) (reach * reach) n c.loop-index.least) at_end c.loop-index.invariant) found in
    let radius_is : pos reach ≡ c.args.radius = (let value = c.unsigned_abs-reach.ensures.value in let from = c.requires.radius in let range = c.ranges.radius in omega (arith, ints, value, from, range)) in
    subst (λ (r : ℤ). IsInner r (sides corners) (to_z w32 root)) radius_is
    (subst (λ (z : ℤ). IsInner (pos reach) (sides corners) z) (sym (to_z_pos w32 root (small c))) is)
