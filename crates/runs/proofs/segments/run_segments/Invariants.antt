use Rattle.std.proofs.Common.{◌≡◌, ◌≤◌, ◌+◌, ◌++◌, List, length, map, take, vec_len, vec_capacity}
use Rattle.i_tree.specs.Seg.Members.{Member}
use Rattle.runs.specs.SegMachine.{reply_of, StandsFor, Run}
use Rattle.runs.specs.declared.segments.SegReply.{SegReply}
use Rattle.runs.proofs.segments.run_segments.Given as goal

-- There is room for the replies to come. From whichever bag the tree stood for at the start, the replies so far are a run
-- over the commands so far, to a bag that it stands for now.
abbrev pub invariant-loop-command : goal.invariant-loop-command
invariant-loop-command g l =
    let expiration = g.V.ExpiredVal.expiration in
    let cmp = g.E.Ord.cmp in
    record {
      room : vec_len l.out + length l.commands ≤ vec_capacity l.out + l.command-index;
      buckets : l.tree.buckets ≡ l.fn.tree.buckets;
      so_far :
          (replies : List (SegReply g.row.V.Denot g.row.B.Denot))
          × (l.out.items ≡ l.fn.out.items ++ replies)
          × (length replies ≡ l.command-index)
          × ((bag : List (Member g.row.V.Denot)) → StandsFor expiration cmp l.fn.tree.members l.fn.tree.latest bag
          → (end : List (Member g.row.V.Denot))
          × Run expiration cmp g.R.LayoutNumber.whole l.fn.tree.buckets (record { bag = bag; latest = l.fn.tree.latest }) (take l.command-index l.commands) (map reply_of replies) (record { bag = end; latest = l.tree.latest })
          × StandsFor expiration cmp l.tree.members l.tree.latest end);
    }
