use Rattle.std.proofs.Common.{◌≡◌, ◌∙◌, ◌+ℤ◌, ◌-ℤ◌, ◌<ℤ◌, ◌&&◌, ℤ, ap, ap₂, arith, Bool, pos, rules, sym, true}
use Rattle.std.specs.List.{list_all}
use Rattle.std.proofs.lemmas.Int.{ints}
use Rattle.plane.specs.Meet.Crosses.{cross}
use Rattle.offset.specs.Joins.{is_within_limit, point_at}
use Rattle.offset.specs.Shape.{sides}
use Rattle.offset.proofs.RawLemmas.{passes-lt}
use Rattle.offset.proofs.mitres.is_tip.Goals as goal

pub returns-then-cross_product_far-lt0 : goal.returns-then-cross_product_far-lt0
returns-then-cross_product_far-lt0 c =
    let x = c.args.x in
    let y = c.args.y in
    let plain : c.cross_product_far.result ≡ cross c.vector_between.result.x c.vector_between.result.y c.args.x c.args.y = search rules in
    let crossed = plain ∙ ap₂ (λ (u v : ℤ). cross u v x y) c.vector_between.ensures.x c.vector_between.ensures.y in
    let below : c.cross_product_far.result <ℤ pos 0 = search rules in
    let right = passes-lt (cross (c.args.to.x -ℤ c.args.from.x) (c.args.to.y -ℤ c.args.from.y) x y) (pos 0) (omega (arith, ints, crossed, below)) in
    let first : c.moved_on.result ≡ (c.args.from.x +ℤ x) = search rules in
    let second : c.moved_on-then-cross_product_far-lt0.result ≡ (c.args.from.y +ℤ y) = search rules in
    let is : c.is_of_limit.result ≡ list_all (is_within_limit c.args.limit (point_at c.moved_on.result c.moved_on-then-cross_product_far-lt0.result)) (sides c.args.corners.now) = search rules in
    is ∙ ap₂ (λ (u v : ℤ). list_all (is_within_limit c.args.limit (point_at u v)) (sides c.args.corners.now)) first second
    ∙ sym (ap (λ (t : Bool). t && list_all (is_within_limit c.args.limit (point_at (c.args.from.x +ℤ x) (c.args.from.y +ℤ y))) (sides c.args.corners.now)) right)
