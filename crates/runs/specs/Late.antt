-- A late command counts nothing, and leaves the room as it is.
use Rattle.std.proofs.Common.{ℕ, arith}
use Rattle.i_tree.specs.Rb.RbTree.{Contents}
use Rattle.i_tree.specs.Root.Steps.{Counts}
use Rattle.runs.specs.Counted.{CountsOne}
use Rattle.runs.specs.KeyRoom.{KeepsRoom}
use Rattle.runs.specs.declared.keys.KeyReply.TheVariants.{Late}

pub counts_late : {K V : Type 0} (steps : Counts) (tree : Contents (K × V)) → CountsOne Late steps tree steps tree
counts_late steps tree =
    record {
      made = record { comparisons = 0; tests = 0; removals = 0; rotations = 0 };
      adds = record { comparisons = omega arith; tests = omega arith; removals = omega arith; rotations = omega arith };
      compares = λ levels small. omega arith;
      rotations = omega arith;
      stores = λ _. omega arith;
      clears = λ is. absurd (cc (is));
      slots_stay = omega arith;
      refused = λ cause is. absurd (cc (is));
    }

pub keeps_late : {V : Type 0} (room stored : ℕ) → KeepsRoom {V = V} Late room stored room stored
keeps_late room stored = record { no_less = omega arith; stores = omega arith; refused = λ cause is. absurd (cc (is)) }
