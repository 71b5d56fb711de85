use Rattle.std.proofs.Common.{ℕ, List, subst, subst₂}
use Rattle.plane.specs.declared.point.Point.{Point}
use Rattle.plane.specs.Pairs.Pairs.{ArePairsBetween}
use Rattle.noding.specs.Close.{PassesPoint}
use Rattle.plane.specs.Gains.{GainsThese, IsOfSome}
use Rattle.noding.specs.Stops.{IsStopAmong, IsStopAt}
use Rattle.noding.specs.declared.stops.Stop.{Stop}
use Rattle.plane.proofs.GainsLemmas.{gained-all}
use Rattle.noding.proofs.ChainLemmas.Stops.{AreStops-hot, gains-among}
use Rattle.noding.proofs.columns.stops.stops_by_columns.Goals as goal

pub returns-clause-ok : goal.returns-clause-ok
returns-clause-ok g c =
    let edges = c.args.edges.now in
    let points = c.in_ok-points.points.items in
    let passes = c.in_ok-passes.passes.items in
    let found = c.push_stops.new.stops.items in
    let passed = subst (λ (among : List Point). ArePairsBetween PassesPoint edges among passes) c.deref.ensures.value c.in_ok-passes.ensures.ok in
    let gains =
    subst₂ (λ (among : List Point) (pairs : List (ℕ × ℕ)). GainsThese (IsOfSome (IsStopAt edges among) pairs) c.new-stops.result.items found) c.deref-2.ensures.value c.deref-3.ensures.value
    c.in_ok-push_stops.ensures in
    let all = subst (λ (before : List Stop). GainsThese (IsStopAmong edges points) before found) c.new-stops.ensures.items (gains-among edges points passes c.new-stops.result.items found passed gains) in
    AreStops-hot edges points found c.sort_stops.new.stops.items c.in_ok-points.ensures (gained-all (IsStopAmong edges points) found all) c.in_ok-sort_stops.ensures.same c.in_ok-sort_stops.ensures.in_order
