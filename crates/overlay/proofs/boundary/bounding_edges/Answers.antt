use Rattle.std.proofs.Common.{◌++◌, List, take, drop, ap, sym, subst, ◌∙◌}
use Rattle.plane.specs.declared.edge.Edge.{Edge}
use Rattle.overlay.specs.Fill.Filled.{IsFilled}
use Rattle.overlay.proofs.BoundaryLemmas.Bounding.{broken-unjoined}
use Rattle.overlay.proofs.boundary.bounding_edges.Goals as goal

pub fill_pieces-requires : goal.fill_pieces-requires
fill_pieces-requires g c =
    let (broken, broken_clip, are, stand, sloped) = c.in_ok-pieces.ensures.ok in
    (broken, broken_clip, broken-unjoined (take c.args.count c.args.edges.now) (drop c.args.count c.args.edges.now) broken broken_clip are c.requires.closed c.requires.clip_closed c.in_ok-pieces.field-0.pieces.items stand, sloped)

pub returns-clause-filled : goal.returns-clause-filled
returns-clause-filled g c =
    let (broken, broken_clip, are, stand, _) = c.in_ok-pieces.ensures.ok in
    let unjoined = broken-unjoined (take c.args.count c.args.edges.now) (drop c.args.count c.args.edges.now) broken broken_clip are c.requires.closed c.requires.clip_closed c.in_ok-pieces.field-0.pieces.items stand in
    let (edges, gained, filled) = c.in_ok-fill_pieces.ensures.ok broken broken_clip unjoined in
    (broken, broken_clip, are, subst (IsFilled c.args.choice.rule c.args.choice.operation broken broken_clip) (sym (gained ∙ ap (λ (before : List Edge). before ++ edges) c.in_ok-bounding.ensures.items)) filled)
