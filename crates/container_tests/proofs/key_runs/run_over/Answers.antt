use Rattle.std.specs.Prelude.{⊤}
use Rattle.std.specs.Ordering.{int_cmp}
use Rattle.i_tree.specs.Expiring.Tree.{items}
use Rattle.runs.proofs.RunLemmas.KnownPairs.{CanProbeAll-always}
use Rattle.container_tests.specs.declared.timed_key.TimedKey.{TimedKey}
use Rattle.container_tests.proofs.key_runs.run_over.Goals as goal

-- the probe may always be called
pub run_key_tree_counted-requires : goal.run_key_tree_counted-requires
run_key_tree_counted-requires g c = CanProbeAll-always (λ (timed : TimedKey). timed.expiration) int_cmp (λ _ _. ⊤) (λ _ _. tt) (items c.args.tree.now.shape) c.args.commands.now
