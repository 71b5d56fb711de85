use Rattle.std.proofs.Common.{◌≡◌, ◌++◌, ◌∙◌, ◌⊎◌, ◌↔◌, [], inl, inr, ℕ, List, ap, arith, length, subst, sym, ⊎_elim}
use Rattle.std.specs.Bool.{◌==◌}
use Rattle.std.specs.List.{All, Contains}
use Rattle.plane.specs.Gains.{GainsThese, HaveSame, IsOfSome}
use Rattle.noding.specs.Beside.{IsStopBeside, PassesItsEdge}
use Rattle.noding.specs.Stops.{IsStopAtCrossing, IsStopOfPair}
use Rattle.noding.specs.declared.stops.Stop.{Stop}
use Rattle.noding.proofs.ChainLemmas.Crossings.{within-crossed}
use Rattle.noding.proofs.ChainLemmas.Passed.{AreStops-beside, all-passed, same-none}
use Rattle.noding.proofs.ChainLemmas.Spreading.{empty-told}
use Rattle.noding.proofs.stops.stops_by_pairs.Goals as goal

-- what was there and what was gained, once all is in order
gained : (Is Now : Stop → Type 0) (ends all sorted : List Stop) → ((stop : Stop) → Contains ends stop ↔ Is stop) → GainsThese Now ends all → HaveSame all sorted → (stop : Stop) → Contains sorted stop ↔ (Is stop ⊎ Now stop)
gained Is Now ends all sorted told gains same stop = (
  λ held. ⊎_elim (λ earlier. inl ((told stop).0 earlier)) inr ((gains stop).0 ((same stop).0 held)),
  λ is. (same stop).1 ((gains stop).1 (⊎_elim (λ earlier. inl ((told stop).1 earlier)) inr is)),
)

pub push_stops_of_crossings-requires : goal.push_stops_of_crossings-requires
push_stops_of_crossings-requires g c = within-crossed c.args.edges.now c.args.pairs.now c.args.crossings.now c.requires.crossed

pub stops_beside-requires-clause-passed : goal.stops_beside-requires-clause-passed
stops_beside-requires-clause-passed g c =
    let edges = c.args.edges.now in
    let pairs = c.args.pairs.now in
    let crossings = c.args.crossings.now in
    let sorted = c.sort_stops.new.stops.items in
    let told = gained (IsOfSome (IsStopOfPair edges) pairs) (IsOfSome (IsStopAtCrossing edges) crossings) c.args.stops.items c.push_stops_of_crossings.new.stops.items sorted c.requires.ends c.in_ok-push_stops_of_crossings.ensures c.in_ok-sort_stops.ensures.same in
    subst (All (PassesItsEdge edges)) (sym c.deref.ensures.value) (all-passed edges pairs crossings c.requires.close c.requires.crossed c.requires.none sorted told)

pub returns-then-is_empty-clause-ok : goal.returns-then-is_empty-clause-ok
returns-then-is_empty-clause-ok g c =
    let edges = c.args.edges.now in
    let pairs = c.args.pairs.now in
    let crossings = c.args.crossings.now in
    let sorted = c.sort_stops.new.stops.items in
    let beside = c.in_ok-beside.beside.items in
    let told = gained (IsOfSome (IsStopOfPair edges) pairs) (IsOfSome (IsStopAtCrossing edges) crossings) c.args.stops.items c.push_stops_of_crossings.new.stops.items sorted c.requires.ends c.in_ok-push_stops_of_crossings.ensures c.in_ok-sort_stops.ensures.same in
    let gains = subst (λ (stops : List Stop). GainsThese (IsOfSome (IsStopBeside edges stops) pairs) stops (stops ++ beside)) c.deref.ensures.value c.in_ok-beside.ensures in
    let made = c.in_ok-beside.beside.ok.0 in
    let long : c.in_ok-beside.beside.len ≡ length beside = omega (arith, made) in
    let none : beside ≡ [] = empty-told beside c.is_empty.result (c.is_empty.ensures ∙ ap (λ (n : ℕ). n == 0) long) c.if-is_empty.true in
    AreStops-beside edges pairs crossings c.requires.close c.requires.crossed c.requires.none sorted told (sorted ++ beside) gains sorted (same-none sorted beside none) c.in_ok-sort_stops.ensures.in_order

pub returns-clause-ok : goal.returns-clause-ok
returns-clause-ok g c =
    let edges = c.args.edges.now in
    let pairs = c.args.pairs.now in
    let crossings = c.args.crossings.now in
    let sorted = c.sort_stops.new.stops.items in
    let beside = c.in_ok-beside.beside.items in
    let all = c.extend_from_slice.new.self.items in
    let told = gained (IsOfSome (IsStopOfPair edges) pairs) (IsOfSome (IsStopAtCrossing edges) crossings) c.args.stops.items c.push_stops_of_crossings.new.stops.items sorted c.requires.ends c.in_ok-push_stops_of_crossings.ensures c.in_ok-sort_stops.ensures.same in
    let gains = subst (λ (stops : List Stop). GainsThese (IsOfSome (IsStopBeside edges stops) pairs) stops (stops ++ beside)) c.deref.ensures.value c.in_ok-beside.ensures in
    let more = subst (GainsThese (IsOfSome (IsStopBeside edges sorted) pairs) sorted) (sym (c.in_ok-extend_from_slice.ensures.items ∙ ap (λ (list : List Stop). sorted ++ list) c.deref-2.ensures.value)) gains in
    AreStops-beside edges pairs crossings c.requires.close c.requires.crossed c.requires.none sorted told all more c.sort_stops-2.new.stops.items c.in_ok-sort_stops-2.ensures.same c.in_ok-sort_stops-2.ensures.in_order
