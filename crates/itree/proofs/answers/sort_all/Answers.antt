use Rattle.std.proofs.Common.{◌≡◌, length, map, take, arith, refl, subst}
use Rattle.std.proofs.lemmas.List.{take_all}
use Rattle.runs.specs.SegMachine.{reply_of}
use Rattle.itree.specs.Sorting.{SortsAll}
use Rattle.itree.proofs.Sorting.{sort_next, rest_next}
use Rattle.itree.proofs.answers.sort_all.Goals as goal

pub loop-reply-init : goal.loop-reply-init
loop-reply-init g c = record { sorted = tt; rest = refl }

pub loop-reply-preserved : goal.loop-reply-preserved
loop-reply-preserved g c =
    let before = c.args.replies.now in
    let now = c.loop-reply.reply-items in
    let i = c.loop-reply.reply-index in
    let same : length now ≡ length before = c.loop-reply.auto.reply-items in
    record {
      sorted = sort_next before now i c.sort_values.new.reply c.reply-item.result (omega (arith, same, c.loop-reply-test.true)) same c.loop-reply.invariant.rest c.loop-reply.invariant.sorted c.sort_values.ensures;
      rest = rest_next before now i c.sort_values.new.reply c.reply-item.result (omega (arith, same, c.loop-reply-test.true)) same c.loop-reply.invariant.rest;
    }

pub returns : goal.returns
returns g c =
    let before = c.args.replies.now in
    let now = c.loop-reply.reply-items in
    let i = c.loop-reply.reply-index in
    let same : length now ≡ length before = c.loop-reply.auto.reply-items in
    subst (λ found. SortsAll (map reply_of found) (map reply_of now)) (take_all i before c.loop-reply-test.false)
    (subst (λ listed. SortsAll (map reply_of (take i before)) (map reply_of listed)) (take_all i now (omega (arith, same, c.loop-reply-test.false))) c.loop-reply.invariant.sorted)
