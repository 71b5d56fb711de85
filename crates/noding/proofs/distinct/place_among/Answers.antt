use Rattle.std.proofs.Common.{◌≡◌, ◌<◌, ◌-◌, Some, slice_get, List, length, sym, ap, ◌∙◌, arith}
use Rattle.std.proofs.lemmas.Option.{slice_get-get_or}
use Rattle.plane.specs.declared.edge.Edge.{Edge}
use Rattle.i_tree.proofs.RbLemmas.Slots.Growth.{slice_get-append_end}
use Rattle.noding.proofs.ChainLemmas.Distinct.{edge-same}
use Rattle.noding.proofs.distinct.place_among.Goals as goal

pub returns-then-eq-clause-place : goal.returns-then-eq-clause-place
returns-then-eq-clause-place g c =
    let edges = c.args.distinct.now.items in
    let place = c.len-place.result in
    let told = c.len-place.ensures in
    let long : place ≡ length edges = omega (arith, told) in
    let some : 0 < place = c.if-place-gt0.true in
    let same = edge-same c.index.result.now c.args.edge (sym c.eq.ensures ∙ c.if-eq.true) in
    slice_get-get_or edges (place - 1) c.index.result.now (omega (arith, long, some)) ∙ ap Some (sym c.index.ensures ∙ same)

pub returns-clause-place : goal.returns-clause-place
returns-clause-place g c =
    let edges = c.args.distinct.now.items in
    let place = c.len-place.result in
    let told = c.len-place.ensures in
    let long : place ≡ length edges = omega (arith, told) in
    ap (λ (items : List Edge). slice_get items place) c.in_ok-push.ensures.items ∙ slice_get-append_end edges place c.args.edge long
