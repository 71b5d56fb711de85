use Rattle.std.proofs.Common.{[], sym, subst, arith}
use Rattle.std.proofs.lemmas.List.{length-map}
use Rattle.std.proofs.Math.ListN.{get_or-map}
use Rattle.layers.specs.Chains.{AppendsChains}
use Rattle.layers.specs.Shapes.{all_rings, edges_of_each, shape_edges, shapes_of}
use Rattle.layers.proofs.AroundLemmas.Made.{AreChainsOf-all, AreChainsUpto-more}
use Rattle.layers.proofs.ListLemmas.{length-lists_of}
use Rattle.layers.proofs.around.chains.chains_of.Goals as goal

pub loop-shape-preserved : goal.loop-shape-preserved
loop-shape-preserved g c =
    let shapes = c.args.shapes in
    let shape = c.loop-shape.shape in
    AreChainsUpto-more (edges_of_each shapes) shape c.loop-shape.chains.items c.append_shape.new.chains.items c.loop-shape.invariant
    (subst (λ edges. AppendsChains shape edges c.loop-shape.chains.items c.append_shape.new.chains.items) (sym (get_or-map shape_edges (shapes_of shapes) shape [])) c.in_ok-append_shape.ensures)

pub returns : goal.returns
returns g c =
    let shapes = c.args.shapes in
    let size = length-lists_of (all_rings shapes) 0 shapes.shape_ends.now in
    let many = length-map (shapes_of shapes) shape_edges in
    AreChainsOf-all (edges_of_each shapes) c.loop-shape.shape c.loop-shape.chains.items (omega (arith, size, many)) c.loop-shape.invariant
