use Rattle.std.proofs.Common.{◌+◌, ◌++◌, [], ◌∷◌, map, refl, sym, subst, ap, ◌∙◌, arith, append_assoc, append-nil, take, length-append}
use Rattle.std.proofs.lemmas.List.{take_all, take_more, map-append}
use Rattle.i_tree.specs.Seg.Buckets.{Buckets}
use Rattle.runs.specs.SegMachine.{reply_of, State, Step, Run}
use Rattle.runs.proofs.RunLemmas.Chain.{Chain-push}
use Rattle.runs.proofs.segments.run_segments.Goals as goal

pub loop-command-init : goal.loop-command-init
loop-command-init g c = record {
  room = omega (arith, (c.in_ok-reserve.ensures).ok);
  buckets = refl;
  so_far = ([], (c.in_ok-reserve.ensures).items ∙ sym (append-nil c.args.out.now.items), refl, λ bag stands. (bag, refl, stands));
}

pub loop-command-preserved : goal.loop-command-preserved
loop-command-preserved g c =
    let (replies, are, count, run) = c.loop-command.invariant.so_far in
    let reply = c.serve-reply.result in
    let command = c.command-item.result in
    let commands = take c.loop-command.command-index c.args.commands.now in
    let one_more = take_more c.args.commands.now c.loop-command.command-index command c.loop-command-test.true ∙ ap (λ x. commands ++ x ∷ []) (sym c.command-item.is) in
    record {
      room = omega (arith, c.loop-command.invariant.room, c.push_reserved.ensures.len, c.push_reserved.ensures.capacity);
      buckets = c.serve-reply.ensures.buckets ∙ c.loop-command.invariant.buckets;
      so_far = (
        replies ++ reply ∷ [],
        c.push_reserved.ensures.items ∙ ap (λ items. items ++ reply ∷ []) are ∙ append_assoc c.args.out.now.items replies (reply ∷ []),
        length-append replies (reply ∷ []) ∙ ap (λ n. n + 1) count,
        λ bag stands.
            let (end, so_far, stands_now) = run bag stands in
            let (end', step, stands') = c.serve-reply.ensures.serves end stands_now in
            let expiration = g.V.ExpiredVal.expiration in
            let cmp = g.E.Ord.cmp in
            let whole = g.R.LayoutNumber.whole in
            let buckets = c.args.tree.now.buckets in
            let began : State g.row.E.Denot g.row.V.Denot = record { bag = bag; latest = c.args.tree.now.latest } in
            let now : State g.row.E.Denot g.row.V.Denot = record { bag = end; latest = c.loop-command.tree.latest } in
            let then : State g.row.E.Denot g.row.V.Denot = record { bag = end'; latest = c.serve-reply.new.tree.latest } in (
              end',
              subst (λ served. Run expiration cmp whole buckets began served (map reply_of (replies ++ reply ∷ [])) then) (sym one_more)
                  (subst (λ replied. Run expiration cmp whole buckets began (commands ++ command ∷ []) replied then) (sym (map-append reply_of replies (reply ∷ [])))
                  (Chain-push (Step expiration cmp whole buckets) began now then commands (map reply_of replies) command (reply_of reply) so_far
                  (subst (λ (kept : Buckets). Step expiration cmp whole kept now command (reply_of reply) then) c.loop-command.invariant.buckets step))),
              stands',
            ),
      );
    }

pub returns-clause-run : goal.returns-clause-run
returns-clause-run g c =
    let (replies, are, count, run) = c.loop-command.invariant.so_far in
    let served = take_all c.loop-command.command-index c.args.commands.now c.loop-command-test.false in (
      replies,
      are,
      omega (arith, count, c.loop-command-test.false, c.loop-command.auto.command-index-end),
      λ bag stands.
          let (end, so_far, stands_now) = run bag stands in
          let began : State g.row.E.Denot g.row.V.Denot = record { bag = bag; latest = c.args.tree.now.latest } in
          let ended : State g.row.E.Denot g.row.V.Denot = record { bag = end; latest = c.loop-command.tree.latest } in
          (end, subst (λ commands. Run g.V.ExpiredVal.expiration g.E.Ord.cmp g.R.LayoutNumber.whole c.args.tree.now.buckets began commands (map reply_of replies) ended) served so_far, stands_now),
    )
