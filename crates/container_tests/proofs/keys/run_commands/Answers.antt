use Rattle.std.specs.Prelude.{⊤}
use Rattle.std.specs.Ordering.{int_cmp}
use Rattle.runs.proofs.RunLemmas.KnownPairs.{CanProbeAll-always}
use Rattle.container_tests.specs.declared.timed_key.TimedKey.{TimedKey}
use Rattle.container_tests.proofs.keys.run_commands.Goals as goal

-- the probe may always be called
pub run_keys-requires : goal.run_keys-requires
run_keys-requires g c = CanProbeAll-always (λ (timed : TimedKey). timed.expiration) int_cmp (λ _ _. ⊤) (λ _ _. tt) (g.C.KeyExpCollection.stored c.args.keys.now) c.args.commands.now
