use Rattle.std.proofs.Common.{rules}
use Rattle.noding.specs.Crossing.{IsThere, RoundsPart}
use Rattle.noding.proofs.crossing.round_part.Goals as goal

pub round_on_axis-requires-clause-common : goal.round_on_axis-requires-clause-common
round_on_axis-requires-clause-common c =
    let there : IsThere c.args.edge.x0 c.args.edge.x1 c.args.other.x0 c.args.other.x1 c.args.all c.args.first = c.requires.common.along_x in
    search rules

pub round_on_axis-requires-2-clause-common : goal.round_on_axis-requires-2-clause-common
round_on_axis-requires-2-clause-common c =
    let there : IsThere c.args.edge.y0 c.args.edge.y1 c.args.other.y0 c.args.other.y1 c.args.all c.args.first = c.requires.common.along_y in
    search rules

pub returns : goal.returns
returns c =
    let there : RoundsPart c.args.edge c.args.all c.args.first c.args.second c.round_on_axis.result c.round_on_axis-2.result = record {
      parts = search rules;
      along_x = search rules;
      along_y = search rules;
    } in
    search rules
