use Rattle.std.proofs.Common.{◌≡◌, ◌++◌, ◌∷◌, [], length, get_or, append-nil, sym, subst, ap, ◌∙◌, arith}
use Rattle.std.specs.List.{between}
use Rattle.std.proofs.lemmas.List.Concat.{flat_map-append}
use Rattle.overlay.specs.Contours.Rings.{ring_edges}
use Rattle.layers.specs.Chains.{AppendsChains}
use Rattle.layers.specs.Shapes.{all_rings, shape_edges}
use Rattle.layers.proofs.AroundLemmas.Made.{AppendsChains-then}
use Rattle.layers.proofs.ListLemmas.{between-more, length-lists_of, lists_of-at}
use Rattle.layers.proofs.around.chains.append_shape.Goals as goal

pub loop-ring-preserved : goal.loop-ring-preserved
loop-ring-preserved g c =
    let rings = all_rings c.args.shapes in
    let first = c.range_at-first.result.0 in
    let at = c.loop-ring.ring in
    let ring = get_or rings at [] in
    let within = c.range_at-first.ensures.within (length c.args.shapes.ring_ends.now) c.requires.shapes.1 in
    let size = length-lists_of c.args.shapes.points.now 0 c.args.shapes.ring_ends.now in
    let edges = ap shape_edges (between-more rings first at [] (omega arith) (omega arith)) ∙ flat_map-append ring_edges (between first at rings) (ring ∷ []) ∙ ap (λ some. shape_edges (between first at rings) ++ some) (append-nil (ring_edges ring)) in
    let more = subst (λ some. AppendsChains c.args.shape (ring_edges some) c.loop-ring.chains.items c.append_ring.new.chains.items) c.list_at.ensures c.in_ok-append_ring.ensures in
    subst (λ some. AppendsChains c.args.shape some c.args.chains.now.items c.append_ring.new.chains.items) (sym edges)
    (AppendsChains-then c.args.shape (shape_edges (between first at rings)) (ring_edges ring) c.args.chains.now.items c.loop-ring.chains.items c.append_ring.new.chains.items c.loop-ring.invariant more)

pub returns : goal.returns
returns g c =
    let shapes = c.args.shapes in
    let within = c.range_at-first.ensures.within (length shapes.ring_ends.now) c.requires.shapes.1 in
    let last : c.loop-ring.ring ≡ get_or shapes.shape_ends.now c.args.shape 0 = omega arith in
    let here = lists_of-at (all_rings shapes) 0 shapes.shape_ends.now c.args.shape c.requires.shape in
    rw (here, ← last, ← c.range_at-first.ensures.start) c.loop-ring.invariant
