use Rattle.std.proofs.Common.{List, subst}
use Rattle.noding.specs.Stops.{AreRuns}
use Rattle.noding.specs.declared.stops.Stop.{Stop}
use Rattle.noding.proofs.ChainLemmas.Runs.{AreNodeChains-runs}
use Rattle.noding.proofs.local.node.Goals as goal

pub returns-clause-ok : goal.returns-clause-ok
returns-clause-ok g c =
    let (chains, runs, points, ends) = c.in_ok-append_chains.ensures.ok in (
      chains,
      AreNodeChains-runs c.args.edges.now c.in_ok-stops.stops.items chains c.in_ok-stops.ensures.ok (subst (λ (stops : List Stop). AreRuns c.args.edges.now stops chains) c.deref.ensures.value runs),
      points,
      ends,
    )
