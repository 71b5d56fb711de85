use Rattle.std.proofs.Common.{◌≡◌, ◌≤◌, ◌+◌, ◌++◌, Ordering, List, length, take, drop, vec_len, vec_capacity}
use Rattle.runs.specs.declared.keys.KeyReply.{KeyReply}
use Rattle.runs.specs.KeyMachine.{beginning, Run}
use Rattle.runs.specs.Probes.{CanProbeAll, ProbesAllBy}
use Rattle.runs.specs.KeyReplies.{RepliesTo}
use Rattle.runs.specs.Effects.{DoesAll}
use Rattle.runs.specs.StandsFor.{StandsFor}
use Rattle.i_tree.proofs.RootLemmas.Members.{Within}
use Rattle.runs.proofs.keys.run_by.Given as goal

-- There is room for the replies to come, and those so far reply to the commands so far. What is stored is among the known pairs, at which the probes to come may be
-- called; and by each order by which they answer, the replies so far are a run over the commands so far.
abbrev pub invariant-loop-command : goal.invariant-loop-command
invariant-loop-command g l =
    let stored = g.C.KeyExpCollection.stored in
    let expiration = g.K.ExpiredKey.expiration in
    let cmp_time = g.E.Ord.cmp in
    let cmp_key = g.K.Ord.cmp in
    record {
      room : vec_len l.out + length l.commands ≤ vec_capacity l.out + l.command-index;
      so_far :
          (replies : List (KeyReply g.row.V.Denot))
          × (known : List (g.row.K.Denot × g.row.V.Denot))
          × (l.out.items ≡ l.fn.out.items ++ replies)
          × RepliesTo (take l.command-index l.commands) replies
          × DoesAll g.S.KeyCalls.does replies l.fn.calls l.fn.c l.calls l.c
          × Within (stored l.c) known
          × CanProbeAll expiration cmp_time (goal.G-pre g l.probe) known (drop l.command-index l.commands)
          × ((order : g.row.P.Denot → g.row.K.Denot → Ordering)
          → ProbesAllBy expiration cmp_time cmp_key (goal.G-post g l.probe) order (stored l.fn.c) l.commands
          → ProbesAllBy expiration cmp_time cmp_key (goal.G-post g l.probe) order known (drop l.command-index l.commands)
          × (accepted : List (g.row.K.Denot × g.row.V.Denot))
          × Run expiration cmp_time cmp_key order (beginning (stored l.fn.c)) (take l.command-index l.commands) replies (record { accepted = accepted; last = l.last })
          × StandsFor expiration cmp_time (stored l.c) accepted l.last);
    }
