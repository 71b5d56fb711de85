use Rattle.std.proofs.Common.{inl, inr}
use Rattle.plane.proofs.MeetLemmas.Kinds.{touch-of_end, has_end-of_point}
use Rattle.plane.proofs.meet.kinds.how_they_meet.Goals as goal

pub returns-then-has_end_of : goal.returns-then-has_end_of
returns-then-has_end_of c =
    let touch = touch-of_end c.args.one c.args.other c.if-has_end_of.ensures in
    (touch.0, touch.1, c.if-share_two.ensures, inr touch.2)

pub returns-then-has_end_of-2 : goal.returns-then-has_end_of-2
returns-then-has_end_of-2 c =
    let touch = touch-of_end c.args.other c.args.one c.if-has_end_of-2.ensures in
    (touch.0, (touch.1.1, touch.1.0), c.if-share_two.ensures, inl touch.2)

pub returns : goal.returns
returns c =
    let shared = c.if-not-meet.ensures in (
      shared.0,
      (shared.1, shared.2),
      c.if-share_two.ensures,
      λ end. elim end [
        | inl of_one ↦ c.if-has_end_of-2.ensures (has_end-of_point c.args.other c.args.one shared.0 shared.2 of_one)
        | inr of_other ↦ c.if-has_end_of.ensures (has_end-of_point c.args.one c.args.other shared.0 shared.1 of_other)
      ],
    )
