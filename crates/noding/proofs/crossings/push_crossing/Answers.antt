use Rattle.std.proofs.Common.{pos, get_or}
use Rattle.std.proofs.lemmas.Option.{slice_get-get_or}
use Rattle.plane.specs.declared.edge.Edge.{Edge}
use Rattle.noding.proofs.ChainLemmas.Crossings.{gains-crossed, gains-uncrossed}
use Rattle.noding.proofs.crossings.push_crossing.Goals as goal

abbrev none : Edge
none = record { x0 = pos 0; y0 = pos 0; x1 = pos 0; y1 = pos 0 }

pub returns-in_ok-push : goal.returns-in_ok-push
returns-in_ok-push g c =
    let edges = c.args.edges.now in
    let pair = c.args.pair in
    gains-crossed edges pair (get_or edges pair.0 none) (get_or edges pair.1 none) (slice_get-get_or edges pair.0 none c.requires.within.0) (slice_get-get_or edges pair.1 none c.requires.within.1)
    c.in-Some.point c.args.crossings.now.items c.push.new.self.items c.in-Some.ensures c.in_ok-push.ensures.items

pub returns-in_default : goal.returns-in_default
returns-in_default g c =
    let edges = c.args.edges.now in
    let pair = c.args.pair in
    gains-uncrossed edges pair (get_or edges pair.0 none) (get_or edges pair.1 none) (slice_get-get_or edges pair.0 none c.requires.within.0) (slice_get-get_or edges pair.1 none c.requires.within.1)
    c.args.crossings.now.items c.in_default.ensures
