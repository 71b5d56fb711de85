use Rattle.std.proofs.Common.{◌+◌, ◌++◌, [], ◌∷◌, refl, sym, subst, ap, ◌∙◌, arith, append_assoc, append-nil, take, length-append}
use Rattle.std.proofs.lemmas.List.{take_all, take_more}
use Rattle.runs.specs.StatusMachine.{State, beginning, Run, Step}
use Rattle.runs.specs.StatusProbes.{CanProbeAll, known_after}
use Rattle.runs.proofs.RunLemmas.Chain.{Chain-push}
use Rattle.runs.proofs.RunLemmas.KnownPairs.{next_command}
use Rattle.runs.proofs.RunLemmas.StatusSteps.{CanProbe-within, known_after-within, Step-room, Step-within}
use Rattle.runs.proofs.status.run_status.Goals as goal

pub loop-command-init : goal.loop-command-init
loop-command-init g c =
    record {
      room = omega (arith, (c.in_ok-reserve.ensures).ok);
      so_far = (
        [],
        g.C.StatusCollection.stored c.args.c.now,
        (c.in_ok-reserve.ensures).items ∙ sym (append-nil c.args.out.now.items),
        refl,
        omega arith,
        λ x h. h,
        c.requires,
        refl,
      );
    }

pub serve-reply-requires : goal.serve-reply-requires
serve-reply-requires g c =
    let (replies, known, are, count, more, within, can, run) = c.loop-command.invariant.so_far in
    let next = next_command c.args.commands.now c.loop-command.command-index c.command-item.result c.loop-command-test.true c.command-item.is in
    let can_next = subst (CanProbeAll g.K.ExpiredVal.expiration g.E.Ord.cmp (goal.G-pre g c.args.probe) known) next can in
    CanProbe-within g.K.ExpiredVal.expiration g.E.Ord.cmp (goal.G-pre g c.args.probe) c.command-item.result (g.C.StatusCollection.stored c.loop-command.c) known within can_next.0

pub loop-command-preserved : goal.loop-command-preserved
loop-command-preserved g c =
    let (replies, known, are, count, more, within, can, run) = c.loop-command.invariant.so_far in
    let expiration = g.K.ExpiredVal.expiration in
    let cmp_time = g.E.Ord.cmp in
    let may_answer = goal.G-post g c.args.probe in
    let stored = g.C.StatusCollection.stored in
    let room = g.C.StatusCollection.room c.args.c.now in
    let reply = c.serve-reply.result in
    let command = c.command-item.result in
    let commands = c.args.commands.now in
    let next = next_command commands c.loop-command.command-index command c.loop-command-test.true c.command-item.is in
    let can_next = subst (CanProbeAll expiration cmp_time (goal.G-pre g c.args.probe) known) next can in
    let one_more = take_more commands c.loop-command.command-index command c.loop-command-test.true ∙ ap (λ x. take c.loop-command.command-index commands ++ x ∷ []) (sym c.command-item.is) in
    let began = beginning {E = g.row.E.Denot} (stored c.args.c.now) in
    let now : State g.row.K.Denot g.row.E.Denot g.row.V.Denot = record { pairs = stored c.loop-command.c; last = c.loop-command.last } in
    let then : State g.row.K.Denot g.row.E.Denot g.row.V.Denot = record { pairs = stored c.serve-reply.new.c; last = c.serve-reply.new.last } in
    let step = Step-room expiration cmp_time may_answer room (g.C.StatusCollection.room c.loop-command.c) more now command reply then c.serve-reply.ensures.step in
    record {
      room = omega (arith, c.loop-command.invariant.room, c.push_reserved.ensures.len, c.push_reserved.ensures.capacity);
      so_far = (
        replies ++ reply ∷ [],
        known_after command known,
        c.push_reserved.ensures.items ∙ ap (λ items. items ++ reply ∷ []) are ∙ append_assoc c.args.out.now.items replies (reply ∷ []),
        length-append replies (reply ∷ []) ∙ ap (λ n. n + 1) count,
        omega (arith, more, c.serve-reply.ensures.room),
        λ x h. known_after-within command (stored c.loop-command.c) known within x (Step-within expiration cmp_time may_answer room now command reply then step x h),
        can_next.1,
        subst (λ commands. Run expiration cmp_time may_answer room began commands (replies ++ reply ∷ []) then) (sym one_more)
            (Chain-push (Step expiration cmp_time may_answer room) began now then (take c.loop-command.command-index commands) replies command reply run step),
      );
    }

pub returns-clause-run : goal.returns-clause-run
returns-clause-run g c =
    let (replies, known, are, count, more, within, can, run) = c.loop-command.invariant.so_far in
    let stored = g.C.StatusCollection.stored in
    let ended : State g.row.K.Denot g.row.E.Denot g.row.V.Denot = record { pairs = stored c.loop-command.c; last = c.loop-command.last } in (
      replies,
      are,
      omega (arith, count, c.loop-command-test.false, c.loop-command.auto.command-index-end),
      (
        c.loop-command.last,
        subst
            (λ commands. Run g.K.ExpiredVal.expiration g.E.Ord.cmp (goal.G-post g c.args.probe) (g.C.StatusCollection.room c.args.c.now) (beginning (stored c.args.c.now)) commands replies ended)
            (take_all c.loop-command.command-index c.args.commands.now c.loop-command-test.false) run,
      ),
    )
