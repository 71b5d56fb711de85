use Rattle.std.proofs.Common.{◌≡◌, [], List, ℕ, pos, subst, sym, ap, length, ◌∙◌, ◌++◌, arith}
use Rattle.std.specs.Bool.{◌==◌}
use Rattle.std.specs.List.{flat_map}
use Rattle.plane.specs.declared.edge.Edge.{Edge}
use Rattle.plane.specs.declared.point.Point.{Point}
use Rattle.noding.specs.Moving.{AreVisits}
use Rattle.noding.specs.Offsets.{AreJoined, offsets}
use Rattle.noding.proofs.ChainLemmas.Runs.{AreChains-runs}
use Rattle.noding.proofs.ChainLemmas.Spreading.{AreMoved-early, empty-told}
use Rattle.noding.proofs.ChainLemmas.Visits.{AreVisits-permutation}
use Rattle.noding.proofs.moved.flag_rest.Goals as goal

-- lists that were appended to nothing
joined_by : (chains : List (List Point)) (passed passed_before : List Point) (ends ends_before : List ℕ) → passed_before ≡ [] → ends_before ≡ [] → passed ≡ passed_before ++ flat_map (λ chain. chain) chains → ends ≡ ends_before ++ offsets (length passed_before) chains
    → AreJoined chains passed ends
joined_by chains passed passed_before ends ends_before none none_ends points stops =
    (points ∙ ap (λ list. list ++ flat_map (λ chain. chain) chains) none, stops ∙ ap (λ list. list ++ offsets (length passed_before) chains) none_ends ∙ ap (λ (list : List Point). offsets (length list) chains) none)

pub returns-then-is_empty : goal.returns-then-is_empty
returns-then-is_empty g c =
    let none : Edge = record { x0 = pos 0; y0 = pos 0; x1 = pos 0; y1 = pos 0 } in
    let made = c.args.visits.ok.0 in
    let long : c.args.visits.len ≡ length c.args.visits.items = omega (arith, made) in
    AreMoved-early c.args.edges.now none c.args.moved.now.flags.items c.args.moved.now.order.items c.args.visits.items c.requires.found c.requires.visits (empty-told c.args.visits.items c.is_empty.result (c.is_empty.ensures ∙ ap (λ (n : ℕ). n == 0) long) c.if-is_empty.true)

pub flag_passed-requires-clause-chains : goal.flag_passed-requires-clause-chains
flag_passed-requires-clause-chains g c =
    let (chains, are, points, ends) = c.in_ok-append_chains.ensures.ok in
    (chains, AreChains-runs c.args.edges.now c.args.stops.now chains c.requires.stops are, joined_by chains _ _ _ _ c.new-passed.ensures.items c.new-passed_ends.ensures.items (c.deref.ensures.value ∙ points) (c.deref-2.ensures.value ∙ ends))

pub flag_passed-requires-clause-visits : goal.flag_passed-requires-clause-visits
flag_passed-requires-clause-visits g c =
    let flags = c.args.moved.now.flags.items in
    let sorted = c.sort_visits.new.visits.items in
    subst (AreVisits c.args.edges.now flags) (sym c.deref-3.ensures.value) (AreVisits-permutation c.args.edges.now flags c.args.visits.items sorted c.requires.visits c.in_ok-sort_visits.ensures.same)
