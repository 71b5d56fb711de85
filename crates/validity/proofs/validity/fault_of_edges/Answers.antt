use Rattle.std.proofs.Common.{◌∙◌, [], false, List, get_or, map, subst, arith}
use Rattle.std.proofs.lemmas.Bool.{MatchBool-at_true}
use Rattle.plane.specs.declared.edge.Edge.{Edge}
use Rattle.plane.specs.Pairs.Pairs.{PairAt}
use Rattle.overlay.specs.Polygons.{rings_of}
use Rattle.tiles.proofs.InPlace.{HasEnds-joined}
use Rattle.tiles.proofs.JoinLists.{length-lists_of}
use Rattle.validity.specs.Given.{directed, polygons_of, rings_at}
use Rattle.validity.specs.Meeting.{AllMayMeet, MayNotMeet}
use Rattle.validity.specs.Validity.{HasWrongPair}
use Rattle.validity.proofs.Alone.{alone-touches, one-touches, polygon-simple}
use Rattle.validity.proofs.Checked.{wrong-told}
use Rattle.validity.proofs.Framed.{none-is, some-is}
use Rattle.validity.proofs.validity.fault_of_edges.Goals as goal

pub returns-then-is_one_ring-clause-ok : goal.returns-then-is_one_ring-clause-ok
returns-then-is_one_ring-clause-ok g c =
    let (one, ring) = MatchBool-at_true _ _ c.if-is_one_ring.true c.is_one_ring.ensures in
    let size = length-lists_of (rings_at c.args.set.rings) 0 c.args.set.polygon_ends.now in
    one-touches (polygons_of c.args.set) one
    (alone-touches (get_or (polygons_of c.args.set) 0 []) ring
    (polygon-simple (rings_at c.args.set.rings) c.args.set.polygon_ends.now 0 (omega (arith, size, one)) c.requires.simple))

pub edges_of-requires : goal.edges_of-requires
edges_of-requires g c = (HasEnds-joined (rings_of (map directed (polygons_of c.args.set))) _ _ c.rings.result c.rings.ensures.points c.rings.ensures.ends c.in_ok-all.ensures.ok).0

pub returns-in_default-clause-ok : goal.returns-in_default-clause-ok
returns-in_default-clause-ok g c =
    let are = c.deref.ensures.value ∙ c.in_ok-edges.ensures ∙ (HasEnds-joined (rings_of (map directed (polygons_of c.args.set))) _ _ c.rings.result c.rings.ensures.points c.rings.ensures.ends c.in_ok-all.ensures.ok).1 in
    subst (λ (edges : List Edge). AllMayMeet false edges) are (none-is _ _ c.in_ok-pair.field-0 c.in_default.is c.in_ok-pair.ensures.ok)

pub returns-clause-ok : goal.returns-clause-ok
returns-clause-ok g c =
    let are = c.in_ok-edges.ensures ∙ (HasEnds-joined (rings_of (map directed (polygons_of c.args.set))) _ _ c.rings.result c.rings.ensures.points c.rings.ensures.ends c.in_ok-all.ensures.ok).1 in
    let places = c.in-Some.pair in
    let found = some-is _ _ c.in_ok-pair.field-0 places c.in-Some.is c.in_ok-pair.ensures.ok in
    let told = wrong-told false c.in_ok-edges.edges.items places.0 places.1 c.index.result.now c.index-2.result.now c.index.ensures c.index-2.ensures
    (subst (λ (edges : List Edge). PairAt (MayNotMeet false) edges places.0 places.1) c.deref.ensures.value found) in
    subst (λ (edges : List Edge). HasWrongPair false edges c.index.result.now c.index-2.result.now) are told
