use Rattle.std.proofs.Common.{drop, take}
use Rattle.std.specs.List.{flat_map}
use Rattle.overlay.specs.Contours.Rings.{ring_edges}
use Rattle.overlay.proofs.BoundaryLemmas.Bounding.{filled-bounds, rings-bound}
use Rattle.overlay.proofs.BoundaryLemmas.Sloped.{HasSloped-next, HasSloped-permuted}
use Rattle.overlay.proofs.OverlayLemmas.{bounds-nest}
use Rattle.overlay.proofs.boundary.boundary.Goals as goal

pub returns-clause-ok : goal.returns-clause-ok
returns-clause-ok g c =
    let subject = take c.args.count c.args.edges.now in
    let clip = drop c.args.count c.args.edges.now in
    let edges = c.in_ok-bounding.bounding.items in
    let (pieces, clip_pieces, broken, filled) = c.in_ok-bounding.ensures.filled in
    let (rings, are, points, ends, sides) = c.in_ok-contours_in_place.ensures.ok in
    let bounds = filled-bounds subject clip pieces clip_pieces broken c.args.choice.rule c.args.choice.operation edges filled in (
      rings,
      rings-bound c.args.choice.rule c.args.choice.operation subject clip edges rings bounds are,
      HasSloped-permuted (flat_map ring_edges rings) edges are.all (HasSloped-next edges filled.vertical),
      bounds-nest c.args.choice.rule c.args.choice.operation subject clip edges bounds rings are sides,
      points,
      ends,
    )
