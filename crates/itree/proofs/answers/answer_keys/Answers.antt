-- How a key stands to the sought one may be asked about every key, and is told by the keys' order.
use Rattle.std.proofs.Common.{◌≡◌, List, ◌++◌, ℤ, ap, ◌∙◌, rules}
use Rattle.std.specs.Cmp.{int_cmp_total}
use Rattle.std.specs.Ordering.{int_cmp}
use Rattle.i_tree.proofs.RootLemmas.Monotone.{IsMonotone-compare}
use Rattle.itree.specs.Replies.{key_reply_words, reply_lines}
use Rattle.itree.specs.Answers.{cmp_keys, cmp_sought}
use Rattle.runs.specs.declared.keys.KeyReply.{KeyReply}
use Rattle.itree.specs.declared.timed_key.TimedKey.{TimedKey}
use Rattle.runs.proofs.RunLemmas.KnownPairs.{CanProbeAll-always, ProbesAllBy-always}
use Rattle.itree.proofs.answers.answer_keys.Goals as goal

pub run_keys-requires : goal.run_keys-requires
run_keys-requires g c = search (rules, CanProbeAll-always)

pub returns-clause-answered : goal.returns-clause-answered
returns-clause-answered g c =
    let (replies, are, each, full, run) = c.in_ok-run_keys.ensures.run in
    let expiration = λ (timed : TimedKey). timed.expiration in
    let (end, is_run, stands) = run cmp_sought
    (ProbesAllBy-always expiration int_cmp cmp_keys (λ (sought : ℤ) (timed : TimedKey) answer. answer ≡ cmp_sought sought timed) cmp_sought (λ sought timed answer says. says) (λ sought pairs. IsMonotone-compare int_cmp_total (λ (timed : TimedKey). timed.key) sought pairs) (g.C.KeyExpCollection.stored c.args.collection.now) c.args.commands.now) in
    let items = c.deref.ensures.value ∙ are ∙ ap (λ (before : List (KeyReply ℤ)). before ++ replies) c.new-replies.ensures.items in
    record {
      replies = replies;
      end = end;
      run = is_run;
      written = c.in_ok-reply_text.ensures ∙ ap (reply_lines key_reply_words) items;
    }
