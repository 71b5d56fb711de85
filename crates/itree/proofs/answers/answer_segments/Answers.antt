use Rattle.std.proofs.Common.{◌≡◌, ℤ, List, Option, [], ◌++◌, length, map, ap, sym, subst, ◌∙◌}
use Rattle.std.proofs.lemmas.List.Sorted.{IsPermutation-refl}
use Rattle.std.specs.List.Sorted.{IsPermutation}
use Rattle.i_tree.specs.Seg.Members.{Member}
use Rattle.i_tree.proofs.RbLemmas.Slots.FreeSlots.{written_back}
use Rattle.runs.specs.SegMachine.{State, reply_of}
use Rattle.runs.specs.declared.segments.SegReply.{SegReply}
use Rattle.itree.specs.Replies.{seg_reply_words, reply_lines}
use Rattle.itree.specs.Sorting.{SortsAll}
use Rattle.itree.specs.declared.timed_val.TimedVal.{TimedVal}
use Rattle.itree.proofs.Sorting.{rising_all, sorted_run, lines_of_replies, IsRun}
use Rattle.itree.proofs.answers.answer_segments.Goals as goal

pub returns-clause-answered : goal.returns-clause-answered
returns-clause-answered g c =
    let (replies, are, count, run) = c.in_ok-run_segments.ensures.run in
    let (end, is_run, stands) = run [] (subst (λ (held : List (Member TimedVal)). IsPermutation [] held) (sym c.requires.empty) (IsPermutation-refl [])) in
    let listed = c.sort_all.new.replies in
    let found : c.deref_mut.result.now ≡ replies = c.deref_mut.ensures.value ∙ are ∙ ap (λ (before : List (SegReply TimedVal g.row.A.Denot)). before ++ replies) c.new-replies.ensures.items in
    let sorted : SortsAll (map reply_of replies) (map reply_of listed) =
    subst (λ (items : List (SegReply TimedVal g.row.A.Denot)). SortsAll (map reply_of items) (map reply_of listed)) found c.sort_all.ensures in
    let began : State ℤ TimedVal = record { bag = []; latest = c.args.tree.now.latest } in
    let ended : State ℤ TimedVal = record { bag = end; latest = c.run_segments.new.tree.latest } in
    let from_nothing = subst (λ (latest : Option ℤ). let start : State ℤ TimedVal = record { bag = []; latest = latest } in IsRun c.args.tree.now.buckets start c.args.commands.now (map reply_of replies) ended) c.requires.new is_run in
    let written : c.deref.result.now ≡ listed = c.deref.ensures.value ∙ written_back c.run_segments.new.out.len c.run_segments.new.out.items listed (c.sort_all.auto.replies ∙ ap length c.deref_mut.ensures.value) (sym c.deref_mut.ensures.len ∙ ap length c.deref_mut.ensures.value) in
    record {
      replies = map reply_of listed;
      end = ended;
      run = sorted_run c.args.tree.now.buckets _ c.args.commands.now (map reply_of replies) (map reply_of listed) ended sorted from_nothing;
      rising = rising_all (map reply_of replies) (map reply_of listed) sorted;
      written = c.in_ok-reply_text.ensures ∙ ap (reply_lines (λ reply. seg_reply_words (reply_of reply))) written ∙ lines_of_replies listed;
    }
