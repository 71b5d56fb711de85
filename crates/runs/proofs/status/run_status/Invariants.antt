use Rattle.std.proofs.Common.{◌≡◌, ◌≤◌, ◌+◌, ◌++◌, List, length, take, drop, vec_len, vec_capacity}
use Rattle.runs.specs.StatusMachine.{beginning, Run}
use Rattle.runs.specs.StatusProbes.{CanProbeAll}
use Rattle.runs.specs.declared.status.StatusReply.{StatusReply}
use Rattle.i_tree.proofs.RootLemmas.Members.{Within}
use Rattle.runs.proofs.status.run_status.Given as goal

-- There is room for the replies to come, and those so far are a run over the commands so far. What is stored is among the known pairs, at which the probes to come may
-- be called; the room for pairs has not shrunk.
abbrev pub invariant-loop-command : goal.invariant-loop-command
invariant-loop-command g l =
    let stored = g.C.StatusCollection.stored in
    let pair_room = g.C.StatusCollection.room in
    let expiration = g.K.ExpiredVal.expiration in
    let cmp_time = g.E.Ord.cmp in
    record {
      room : vec_len l.out + length l.commands ≤ vec_capacity l.out + l.command-index;
      so_far :
          (replies : List (StatusReply g.row.K.Denot g.row.V.Denot))
          × (known : List (g.row.K.Denot × g.row.V.Denot))
          × (l.out.items ≡ l.fn.out.items ++ replies)
          × (length replies ≡ l.command-index)
          × (pair_room l.fn.c ≤ pair_room l.c)
          × Within (stored l.c) known
          × CanProbeAll expiration cmp_time (goal.G-pre g l.probe) known (drop l.command-index l.commands)
          × Run expiration cmp_time (goal.G-post g l.probe) (pair_room l.fn.c) (beginning (stored l.fn.c)) (take l.command-index l.commands) replies (record { pairs = stored l.c; last = l.last });
    }
