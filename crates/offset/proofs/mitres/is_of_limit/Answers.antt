use Rattle.std.proofs.Common.{◌≡◌, ◌∙◌, ◌&&◌, ℤ, ap, ap₂, arith, Bool, false, subst₂, sym, to_z, of_z, true, FitsSigned}
use Rattle.std.specs.Int.{w128}
use Rattle.std.specs.List.{list_all}
use Rattle.std.proofs.lemmas.Int.{to_z-of_z}
use Rattle.std.proofs.lemmas.List.{take_all}
use Rattle.std.proofs.lemmas.List.Folds.{list_all_at, list_all_more}
use Rattle.offset.specs.Joins.{is_within_limit, point_at}
use Rattle.offset.specs.Raw.{nowhere}
use Rattle.offset.specs.Shape.{sides}
use Rattle.offset.proofs.ShapeLemmas.{length-sides}
use Rattle.offset.proofs.mitres.is_of_limit.Goals as goal

pub returns-then-not-is_within_limit : goal.returns-then-not-is_within_limit
returns-then-not-is_within_limit c =
    let corners = c.args.corners.now in
    let size = length-sides corners in
    let x = to_z w128 (of_z w128 c.args.x) in
    let y = to_z w128 (of_z w128 c.args.y) in
    let test = is_within_limit c.args.limit (point_at x y) in
    let is = ap test (sym c.side_at.ensures) ∙ sym c.is_within_limit.ensures ∙ c.if-not-is_within_limit.true in
    let found : false ≡ list_all test (sides corners) = sym (list_all_at test (sides corners) c.loop-index.index nowhere (omega (arith, size, c.loop-index-test.true)) is) in
    subst₂ (λ (u v : ℤ). false ≡ list_all (is_within_limit c.args.limit (point_at u v)) (sides corners)) (to_z-of_z w128 c.args.x c.ranges.x) (to_z-of_z w128 c.args.y c.ranges.y) found

pub loop-index-preserved : goal.loop-index-preserved
loop-index-preserved c =
    let corners = c.args.corners.now in
    let size = length-sides corners in
    let x = to_z w128 (of_z w128 c.args.x) in
    let y = to_z w128 (of_z w128 c.args.y) in
    let test = is_within_limit c.args.limit (point_at x y) in
    let is = ap test (sym c.side_at.ensures) ∙ sym c.is_within_limit.ensures ∙ c.if-not-is_within_limit.false in
    list_all_more test (sides corners) c.loop-index.index nowhere (omega (arith, size, c.loop-index-test.true)) ∙ ap₂ (λ (s t : Bool). s && t) c.loop-index.invariant is

pub returns : goal.returns
returns c =
    let corners = c.args.corners.now in
    let size = length-sides corners in
    let x = to_z w128 (of_z w128 c.args.x) in
    let y = to_z w128 (of_z w128 c.args.y) in
    let test = is_within_limit c.args.limit (point_at x y) in
    let found : true ≡ list_all test (sides corners) = sym (ap (list_all test) (sym (take_all c.loop-index.index (sides corners) (omega (arith, size, c.loop-index-test.false)))) ∙ c.loop-index.invariant) in
    subst₂ (λ (u v : ℤ). true ≡ list_all (is_within_limit c.args.limit (point_at u v)) (sides corners)) (to_z-of_z w128 c.args.x c.ranges.x) (to_z-of_z w128 c.args.y c.ranges.y) found
