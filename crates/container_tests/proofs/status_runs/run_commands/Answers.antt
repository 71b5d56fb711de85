use Rattle.std.specs.Prelude.{⊤}
use Rattle.std.specs.Ordering.{int_cmp}
use Rattle.runs.proofs.RunLemmas.StatusSteps.{CanProbeAll-always}
use Rattle.container_tests.specs.declared.sloped.Sloped.{Sloped}
use Rattle.container_tests.proofs.status_runs.run_commands.Goals as goal

-- the probe may always be called
pub run_status-requires : goal.run_status-requires
run_status-requires g c = CanProbeAll-always (λ (sloped : Sloped). sloped.end) int_cmp (λ _ _. ⊤) (λ _ _. tt) (g.C.StatusCollection.stored c.args.status.now) c.args.commands.now
