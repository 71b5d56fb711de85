-- The laws of both counters.
use Rattle.std.proofs.Common.{arith}
use Rattle.std.specs.Prelude.{⊤}
use Rattle.i_tree.specs.Root.Steps.{Counts, Adds, Accumulates}

-- What is added to counts one after another is added at once.
pub Adds-accumulate : Accumulates Adds
Adds-accumulate =
    record {
      none = λ state. record { comparisons = omega arith; tests = omega arith; removals = omega arith; rotations = omega arith };
      both = λ old mid new first second before after. record {
        comparisons = omega (arith, before.comparisons, after.comparisons);
        tests = omega (arith, before.tests, after.tests);
        removals = omega (arith, before.removals, after.removals);
        rotations = omega (arith, before.rotations, after.rotations);
      };
    }

-- And where nothing is counted, nothing is said.
pub any-accumulate : {S : Type 0} → Accumulates (λ (old new : S) (made : Counts). ⊤)
any-accumulate = record { none = λ state. tt; both = λ old mid new first second before after. tt }
