use Rattle.std.proofs.Common.{ℕ, [], length, get_or, ap, sym, ◌∙◌, arith}
use Rattle.layers.specs.Shapes.{all_rings}
use Rattle.layers.proofs.ListLemmas.{length-lists_of}
use Rattle.layers.proofs.ParentLemmas.Outers.{outer-none, outer-first}
use Rattle.layers.proofs.parents.outer_ring.Goals as goal

pub returns-then-first-behind : goal.returns-then-first-behind
returns-then-first-behind c =
    let told = c.range_at-first.ensures in
    sym (outer-none (all_rings c.args.polygons) c.args.polygons.shape_ends.now c.args.place c.requires.place (sym told.start ∙ c.if-first-behind.true ∙ told.end))

pub returns : goal.returns
returns c =
    let polygons = c.args.polygons in
    let ends = polygons.shape_ends.now in
    let told = c.range_at-first.ensures in
    let (order, upto) = told.within (length polygons.ring_ends.now) c.requires.shapes.1 in
    let size = length-lists_of polygons.points.now 0 polygons.ring_ends.now in
    let start = told.start in
    let end = told.end in
    let differ = c.if-first-behind.false in
    c.list_at.ensures
    ∙ ap (λ (place : ℕ). get_or (all_rings polygons) place []) start
    ∙ sym (outer-first (all_rings polygons) ends c.args.place c.requires.place (omega (arith, order, start, end, differ)) (omega (arith, upto, end, size)))
