use Rattle.grid.proofs.PointLemmas.{told_once, IsTold-exact}
use Rattle.grid.proofs.units.point_of.Goals as goal

pub returns-clause-told : goal.returns-clause-told
returns-clause-told c = told_once c.args.grid.now c.args.position c.rounded.result c.rounded.ensures.nearest c.rounded.ensures.fault

pub returns-clause-exact : goal.returns-clause-exact
returns-clause-exact c = λ point fits finite is.
    told_once c.args.grid.now c.args.position c.rounded.result c.rounded.ensures.nearest c.rounded.ensures.fault point fits
    (IsTold-exact c.args.grid.now c.args.position point finite is)
