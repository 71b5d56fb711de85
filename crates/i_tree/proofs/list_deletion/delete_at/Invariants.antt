use Rattle.std.proofs.Common.{◌≡◌, ◌<◌, ◌-◌, vec_len, vec_capacity}
use Rattle.std.specs.List.{remove}
use Rattle.i_tree.proofs.list_deletion.delete_at.Given as goal

-- The item that goes has come further behind: without it the list is what it shall be.
abbrev pub invariant-loop-gone : goal.invariant-loop-gone
invariant-loop-gone g l =
    record {
      inside : l.gone < vec_len l.items;
      left : remove l.items.items l.gone ≡ remove l.fn.items.items l.fn.place;
      len : vec_len l.items ≡ vec_len l.fn.items;
      capacity : vec_capacity l.items ≡ vec_capacity l.fn.items;
    }

abbrev pub decreases-loop-gone : goal.decreases-loop-gone
decreases-loop-gone g l = vec_len l.items - l.gone
