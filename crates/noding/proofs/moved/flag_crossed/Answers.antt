use Rattle.std.proofs.Common.{[], pos}
use Rattle.plane.specs.Gains.{IsOfSome}
use Rattle.noding.specs.Local.{IsPointBeside}
use Rattle.noding.specs.declared.crossings.Crossing.{Crossing}
use Rattle.plane.proofs.GainsLemmas.{gains-all, gains-next, gains-none, none_of}
use Rattle.noding.proofs.moved.flag_crossed.Goals as goal

pub loop-crossing-init : goal.loop-crossing-init
loop-crossing-init g c = (c.requires.found, gains-none (IsOfSome (IsPointBeside c.args.edges.now) []) c.args.crossed.now.items (none_of (IsPointBeside c.args.edges.now)))

pub loop-crossing-preserved : goal.loop-crossing-preserved
loop-crossing-preserved g c =
    let none : Crossing = record { one = 0; other = 0; point = record { x = pos 0; y = pos 0 } } in (
      c.in_ok-flag_crossing.ensures.found,
      gains-next (IsPointBeside c.args.edges.now) c.args.crossings.now c.loop-crossing.crossing-index none c.args.crossed.now.items c.loop-crossing.crossed.items c.flag_crossing.new.crossed.items
          c.loop-crossing-test.true c.loop-crossing.invariant.1 c.in_ok-flag_crossing.ensures.gains,
    )

pub returns-clause-gains : goal.returns-clause-gains
returns-clause-gains g c =
    gains-all (IsPointBeside c.args.edges.now) c.args.crossings.now c.loop-crossing.crossing-index c.args.crossed.now.items c.loop-crossing.crossed.items c.loop-crossing-test.false c.loop-crossing.invariant.1
