use Rattle.std.proofs.Common.{◌++◌, [], ◌∷◌, refl, sym, subst, ap, ◌∙◌, arith, append_assoc, append-nil, take}
use Rattle.std.proofs.lemmas.List.{take_all, take_more}
use Rattle.std.proofs.lemmas.List.Elements.{All-contains}
use Rattle.std.specs.List.{Contains}
use Rattle.runs.specs.KeyMachine.{State, beginning, Run, Step}
use Rattle.runs.specs.Probes.{CanProbeAll, ProbesAllBy, known_after}
use Rattle.runs.proofs.RunLemmas.KnownPairs.{CanProbe-within, ProbesBy-within, known_after-within, next_command}
use Rattle.runs.specs.KeyReplies.{RepliesTo}
use Rattle.runs.proofs.RunLemmas.KeySteps.{RepliesTo-push, DoesAll-push, StandsFor-itself}
use Rattle.runs.proofs.RunLemmas.Chain.{Chain-push}
use Rattle.runs.proofs.keys.run_by.Goals as goal

pub loop-command-init : goal.loop-command-init
loop-command-init g c =
    let stored = g.C.KeyExpCollection.stored c.args.c.now in
    record {
      room = omega (arith, (c.in_ok-reserve.ensures).ok);
      so_far = (
        [],
        stored,
        (c.in_ok-reserve.ensures).items ∙ sym (append-nil c.args.out.now.items),
        tt,
        (refl, refl),
        λ x h. h,
        c.requires,
        λ order probes. (probes, stored, refl, StandsFor-itself g.K.ExpiredKey.expiration g.E.Ord.cmp stored),
      );
    }

pub serve-reply-requires : goal.serve-reply-requires
serve-reply-requires g c =
    let (replies, known, are, each, done, within, can, run) = c.loop-command.invariant.so_far in
    let can_now = subst (CanProbeAll g.K.ExpiredKey.expiration g.E.Ord.cmp (goal.G-pre g c.args.probe) known) (next_command c.args.commands.now c.loop-command.command-index c.command-item.result c.loop-command-test.true c.command-item.is) can in
    CanProbe-within g.K.ExpiredKey.expiration g.E.Ord.cmp (goal.G-pre g c.args.probe) c.command-item.result (g.C.KeyExpCollection.stored c.loop-command.c) known within can_now.0

pub loop-command-preserved : goal.loop-command-preserved
loop-command-preserved g c =
    let (replies, known, are, each, done, within, can, run) = c.loop-command.invariant.so_far in
    let expiration = g.K.ExpiredKey.expiration in
    let cmp_time = g.E.Ord.cmp in
    let cmp_key = g.K.Ord.cmp in
    let stored = g.C.KeyExpCollection.stored in
    let reply = c.serve-reply.result in
    let command = c.command-item.result in
    let commands = c.args.commands.now in
    let next = next_command commands c.loop-command.command-index command c.loop-command-test.true c.command-item.is in
    let can_next = subst (CanProbeAll expiration cmp_time (goal.G-pre g c.args.probe) known) next can in
    let one_more = take_more commands c.loop-command.command-index command c.loop-command-test.true ∙ ap (λ x. take c.loop-command.command-index commands ++ x ∷ []) (sym c.command-item.is) in
    record {
      room = omega (arith, c.loop-command.invariant.room, c.push_reserved.ensures.len, c.push_reserved.ensures.capacity);
      so_far = (
        replies ++ reply ∷ [],
        known_after command known,
        c.push_reserved.ensures.items ∙ ap (λ items. items ++ reply ∷ []) are ∙ append_assoc c.args.out.now.items replies (reply ∷ []),
        subst (λ served. RepliesTo served (replies ++ reply ∷ [])) (sym one_more) (RepliesTo-push (take c.loop-command.command-index commands) replies command reply each c.serve-reply.ensures.replies),
        DoesAll-push g.S.KeyCalls.does replies reply c.args.calls.now c.args.c.now c.loop-command.calls c.loop-command.c c.serve-reply.new.calls c.serve-reply.new.c done c.serve-reply.ensures.does,
        λ x h. known_after-within command (stored c.loop-command.c) known within x (All-contains (Contains (known_after command (stored c.loop-command.c))) (stored c.serve-reply.new.c) x c.serve-reply.ensures.known h),
        can_next.1,
        λ order probes.
            let (all_rest, accepted, so_far, stands) = run order probes in
            let rest = subst (ProbesAllBy expiration cmp_time cmp_key (goal.G-post g c.args.probe) order known) next all_rest in
            let here = ProbesBy-within expiration cmp_time cmp_key (goal.G-post g c.args.probe) order command (stored c.loop-command.c) known within rest.0 in
            let (accepted', step, stands') = c.serve-reply.ensures.steps order here accepted stands in
            let began = beginning {E = g.row.E.Denot} (stored c.args.c.now) in
            let now : State g.row.K.Denot g.row.E.Denot g.row.V.Denot = record { accepted = accepted; last = c.loop-command.last } in
            let then : State g.row.K.Denot g.row.E.Denot g.row.V.Denot = record { accepted = accepted'; last = c.serve-reply.new.last } in (
              rest.1,
              accepted',
              subst (λ commands. Run expiration cmp_time cmp_key order began commands (replies ++ reply ∷ []) then) (sym one_more)
                  (Chain-push (Step expiration cmp_time cmp_key order) began now then (take c.loop-command.command-index commands) replies command reply so_far step),
              stands',
            ),
      );
    }

pub returns-clause-run : goal.returns-clause-run
returns-clause-run g c =
    let (replies, known, are, each, done, within, can, run) = c.loop-command.invariant.so_far in (
      replies,
      are,
      subst (λ served. RepliesTo served replies) (take_all c.loop-command.command-index c.args.commands.now c.loop-command-test.false) each,
      done,
      λ order probes.
          let (rest, accepted, so_far, stands) = run order probes in
          let stored = g.C.KeyExpCollection.stored in
          let end : State g.row.K.Denot g.row.E.Denot g.row.V.Denot = record { accepted = accepted; last = c.loop-command.last } in
          (end, subst (λ commands. Run g.K.ExpiredKey.expiration g.E.Ord.cmp g.K.Ord.cmp order (beginning (stored c.args.c.now)) commands replies end) (take_all c.loop-command.command-index c.args.commands.now c.loop-command-test.false) so_far, stands),
    )
