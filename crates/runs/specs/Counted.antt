-- What a run of commands over a tree of expiring keys has counted, and what is stored then.
use Rattle.std.specs.Prelude.{◌≡◌, ◌≢◌, ℕ, ◌+◌, ◌*◌, ◌^◌, ◌<◌, ◌≤◌, List, All, length}
use Rattle.i_tree.specs.Expiring.Tree.{items}
use Rattle.i_tree.specs.Rb.RbTree.{Contents, slots}
use Rattle.i_tree.specs.Root.Steps.{Counts, Adds}
use Rattle.i_tree.specs.declared.Refusal.{Refusal}
use Rattle.runs.specs.KeyRoom.{one_if_inserted, accepted}
use Rattle.runs.specs.declared.keys.KeyCommand.{KeyCommand}
use Rattle.runs.specs.declared.keys.KeyCommand.TheVariants.{Clear}
use Rattle.runs.specs.declared.keys.KeyReply.{KeyReply}
use Rattle.runs.specs.declared.keys.KeyReply.TheVariants.{Refused, Cleared}

-- A run of the commands over a tree that stored so many entries, after which so many are stored. For n entries of k levels,
-- 2^k <= n + 1 < 2^(k + 1), where n counts those that were stored and those that were accepted.
pub record CountsRun {K E V P : Type 0} (commands : List (KeyCommand K E V P)) (replies : List (KeyReply V)) (old new : Counts) (stored stored' : ℕ) : Type 0 where
  pub made : Counts
  pub adds : Adds old new made
  pub rotations : made.rotations + 3 * stored' ≤ 5 * accepted replies + 3 * stored
  pub removes : made.removals + stored' ≤ accepted replies + stored
  pub removes_all : All (λ command. command ≢ Clear) commands → made.removals + stored' ≡ accepted replies + stored
  pub compares : (levels : ℕ) → stored + accepted replies + 1 < 2 ^ (levels + 1) → made.comparisons ≤ 2 * levels * length commands

-- What serving one command has counted, by its reply, and what it leaves. For the private contracts of the run.
pub record CountsOne {K V : Type 0} (reply : KeyReply V) (old : Counts) (tree : Contents (K × V)) (new : Counts) (tree' : Contents (K × V)) : Type 0 where
  pub made : Counts
  pub adds : Adds old new made
  pub compares : (levels : ℕ) → length (items tree.shape) + 1 < 2 ^ (levels + 1) → made.comparisons ≤ 2 * levels
  pub rotations : made.rotations ≤ 3 * made.removals + 2 * one_if_inserted reply
  pub stores : reply ≢ Cleared → length (items tree'.shape) + made.removals ≡ length (items tree.shape) + one_if_inserted reply
  pub clears : reply ≡ Cleared → (length (items tree'.shape) ≡ 0) × (made.removals ≡ 0)
  pub slots_stay : slots tree ≤ slots tree'
  pub refused : (cause : Refusal) → reply ≡ Refused cause → tree.spare ≡ 0
