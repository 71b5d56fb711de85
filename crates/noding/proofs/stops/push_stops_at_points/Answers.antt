use Rattle.std.proofs.Common.{ℕ, List, subst}
use Rattle.plane.specs.Gains.{GainsThese, IsOfSome}
use Rattle.plane.specs.Pairs.Pairs.{ArePairsBetween}
use Rattle.noding.specs.Sections.{IsStopIn, PassesHere}
use Rattle.noding.specs.Stops.{IsStopAt}
use Rattle.noding.specs.declared.sections.Section.{Section}
use Rattle.noding.proofs.ChainLemmas.Sections.{gains-here}
use Rattle.noding.proofs.ChainLemmas.Stops.{gains-among}
use Rattle.noding.proofs.stops.push_stops_at_points.Goals as goal

pub returns-in_default-clause-ok : goal.returns-in_default-clause-ok
returns-in_default-clause-ok g c =
    let edges = c.args.edges.now in
    let points = c.args.points.now in
    gains-among edges points c.in_ok-passes-2.passes.items c.args.stops.now.items c.push_stops.new.stops.items c.in_ok-passes-2.ensures.ok
    (subst (λ (passes : List (ℕ × ℕ)). GainsThese (IsOfSome (IsStopAt edges points) passes) c.args.stops.now.items c.push_stops.new.stops.items) c.deref-in_default.ensures.value c.in_ok-push_stops.ensures)

pub returns-clause-ok : goal.returns-clause-ok
returns-clause-ok g c =
    let edges = c.args.edges.now in
    let points = c.args.points.now in
    let sections = c.in_ok-sections.sections.items in
    let passes = c.in-Some.passes.items in
    let before = c.args.stops.now.items in
    let after = c.push_stops_here.new.stops.items in
    gains-here edges sections points passes before after c.in_ok-sections.ensures
    (subst (λ (list : List Section). ArePairsBetween PassesHere list points passes) c.deref.ensures.value (rw c.in-Some.is at c.in_ok-passes.ensures.ok))
    (subst (λ (told : List (ℕ × ℕ)). GainsThese (IsOfSome (IsStopIn sections points) told) before after) c.deref-3.ensures.value
    (subst (λ (list : List Section). GainsThese (IsOfSome (IsStopIn list points) c.deref-3.result.now) before after) c.deref-2.ensures.value c.in_ok-push_stops_here.ensures))
