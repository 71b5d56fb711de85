use Rattle.std.proofs.Common.{subst}
use Rattle.plane.specs.declared.meet.kinds.Meeting.{Meeting}
use Rattle.plane.specs.Meet.Kinds.{MeetSo}
use Rattle.overlay_tests.proofs.WalkLemmas.{touch-at_end}
use Rattle.overlay_tests.proofs.walks.meet_at_ends.Goals as goal

pub returns-in-Apart : goal.returns-in-Apart
returns-in-Apart c _ point of_one of_other =
    absurd (subst (λ (kind : Meeting). MeetSo c.args.one c.args.other kind) c.in-Apart.is c.how_they_meet.ensures (point, of_one, of_other))

pub returns-in-Touch : goal.returns-in-Touch
returns-in-Touch c told =
    let (common, first, second) = c.have_common_end.ensures told in
    let (met, of_both, single, at_end) = subst (λ (kind : Meeting). MeetSo c.args.one c.args.other kind) c.in-Touch.is c.how_they_meet.ensures in
    touch-at_end c.args.one c.args.other common single first second
