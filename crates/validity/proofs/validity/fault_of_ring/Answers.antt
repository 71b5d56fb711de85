use Rattle.std.proofs.Common.{◌∙◌, ◌++◌, [], true, List, length, get_or, ap, ap₂, subst, arith}
use Rattle.plane.specs.declared.edge.Edge.{Edge}
use Rattle.plane.specs.declared.point.Point.{Point}
use Rattle.plane.specs.Pairs.Pairs.{PairAt}
use Rattle.overlay.proofs.EachRing.{rings-size}
use Rattle.overlay.specs.Contours.Rings.{real_edges, ring_edges}
use Rattle.validity.specs.Given.{rings_at}
use Rattle.validity.specs.Meeting.{MayNotMeet}
use Rattle.validity.specs.Validity.{HasWrongPair}
use Rattle.validity.proofs.Checked.{simple-made, wrong-told}
use Rattle.validity.proofs.Framed.{none-is, some-is}
use Rattle.validity.proofs.validity.fault_of_ring.Goals as goal

pub returns-then-len-lt3-clause-ok : goal.returns-then-len-lt3-clause-ok
returns-then-len-lt3-clause-ok g c =
    let are = c.in_ok-append_real_ones.ensures ∙ ap₂ (λ (before : List Edge) (ring : List Point). before ++ real_edges (ring_edges ring)) c.new-edges.ensures.items c.ring_at.ensures in
    let size = rings-size c.args.set.rings.points.now 0 c.args.set.rings.ends.now in
    let inside = c.requires.ring in
    let same = ap (λ (edges : List Edge). length edges) are in
    let told = c.len.ensures in
    let few = c.if-len-lt3.true in
    (omega (arith, size, inside), omega (arith, same, told, few))

pub returns-in_default-clause-ok : goal.returns-in_default-clause-ok
returns-in_default-clause-ok g c =
    let are = c.in_ok-append_real_ones.ensures ∙ ap₂ (λ (before : List Edge) (ring : List Point). before ++ real_edges (ring_edges ring)) c.new-edges.ensures.items c.ring_at.ensures in
    let same = ap (λ (edges : List Edge). length edges) c.deref.ensures.value in
    let told = c.len.ensures in
    let enough = c.if-len-lt3.false in
    simple-made (get_or (rings_at c.args.set.rings) c.args.ring []) c.deref.result.now (c.deref.ensures.value ∙ are) (omega (arith, same, told, enough)) (none-is _ _ c.in_ok-pair.field-0 c.in_default.is c.in_ok-pair.ensures.ok)

pub returns-clause-ok : goal.returns-clause-ok
returns-clause-ok g c =
    let are = c.in_ok-append_real_ones.ensures ∙ ap₂ (λ (before : List Edge) (ring : List Point). before ++ real_edges (ring_edges ring)) c.new-edges.ensures.items c.ring_at.ensures in
    let size = rings-size c.args.set.rings.points.now 0 c.args.set.rings.ends.now in
    let inside = c.requires.ring in
    let places = c.in-Some.pair in
    let found = some-is _ _ c.in_ok-pair.field-0 places c.in-Some.is c.in_ok-pair.ensures.ok in
    let told = wrong-told true c.append_real_ones.new.edges.items places.0 places.1 c.index.result.now c.index-2.result.now c.index.ensures c.index-2.ensures
    (subst (λ (edges : List Edge). PairAt (MayNotMeet true) edges places.0 places.1) c.deref.ensures.value found) in
    (omega (arith, size, inside), subst (λ (edges : List Edge). HasWrongPair true edges c.index.result.now c.index-2.result.now) are told)
