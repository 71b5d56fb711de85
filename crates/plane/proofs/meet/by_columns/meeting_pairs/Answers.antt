use Rattle.std.proofs.Common.{[]}
use Rattle.plane.specs.Meet.Columns.{IsMeetingOf}
use Rattle.plane.proofs.GainsLemmas.{gains-all, gains-next}
use Rattle.plane.proofs.meet.by_columns.meeting_pairs.Goals as goal

pub loop-pair-preserved : goal.loop-pair-preserved
loop-pair-preserved g c =
    gains-next (IsMeetingOf c.args.edges.now) c.args.near.now c.loop-pair.pair-index (0, 0) [] c.loop-pair.pairs.items c.append_if_meeting.new.pairs.items c.loop-pair-test.true c.loop-pair.invariant
    c.in_ok-append_if_meeting.ensures

pub returns : goal.returns
returns g c = gains-all (IsMeetingOf c.args.edges.now) c.args.near.now c.loop-pair.pair-index [] c.loop-pair.pairs.items c.loop-pair-test.false c.loop-pair.invariant
