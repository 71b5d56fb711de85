use Rattle.std.proofs.Common.{List, ◌++◌, ℤ, ap, ◌∙◌}
use Rattle.i_tree.specs.Set.Pairs.{values}
use Rattle.itree.specs.Replies.{set_reply_words, reply_lines}
use Rattle.runs.specs.declared.sets.SetReply.{SetReply}
use Rattle.itree.specs.declared.set_key.SetKey.{SetKey}
use Rattle.itree.proofs.answers.answer_set.Goals as goal

pub returns-clause-answered : goal.returns-clause-answered
returns-clause-answered g c =
    let (replies, are, full, run) = c.in_ok-run_sets.ensures.run in
    let items = c.deref.ensures.value ∙ are ∙ ap (λ (before : List (SetReply ℤ SetKey)). before ++ replies) c.new-replies.ensures.items in
    record {
      replies = replies;
      end = values (g.C.SetCollection.pairs c.run_sets.new.c);
      run = run;
      written = c.in_ok-reply_text.ensures ∙ ap (reply_lines set_reply_words) items;
    }
