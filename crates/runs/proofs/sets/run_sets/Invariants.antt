use Rattle.std.proofs.Common.{◌≡◌, ◌≤◌, ◌+◌, ◌++◌, List, length, vec_len, vec_capacity}
use Rattle.std.specs.Vec.Iter.{into_iter_items, into_iter_len}
use Rattle.i_tree.specs.Set.Pairs.{values, IsOrdered}
use Rattle.runs.specs.SetMachine.{Run}
use Rattle.runs.specs.declared.sets.SetReply.{SetReply}
use Rattle.runs.proofs.RunLemmas.SetRoom.{KeepsSoFar}
use Rattle.runs.proofs.sets.run_sets.Given as goal

-- There is room for the replies to come, and the replies so far are a run over the commands so far. None of them is a refusal
-- before the set's room is full.
abbrev pub invariant-loop-command : goal.invariant-loop-command
invariant-loop-command g l =
    let key_of = g.V.KeyValue.key_of in
    let cmp = g.K.Ord.cmp in
    let pairs = g.C.SetCollection.pairs in
    record {
      can_next : (goal.iterator-loop-command g).can_next l.command-iterator;
      is_finite : (goal.iterator-loop-command g).is_finite l.command-iterator;
      in_all : l.yielded ++ into_iter_items l.command-iterator ≡ l.fn.commands.items;
      room : vec_len l.out + into_iter_len l.command-iterator ≤ vec_capacity l.out;
      in_order : IsOrdered key_of cmp (pairs l.c);
      so_far :
          (replies : List (SetReply g.row.K.Denot g.row.V.Denot))
          × (l.out.items ≡ l.fn.out.items ++ replies)
          × KeepsSoFar replies (g.C.SetCollection.room l.fn.c) (length (pairs l.fn.c)) (g.C.SetCollection.room l.c) (length (pairs l.c))
          × Run key_of cmp (values (pairs l.fn.c)) l.yielded replies (values (pairs l.c));
    }
