-- Where the rings of a polygon share points along no circle, their outlines touch along no circle: so its inside is one piece.
use Rattle.std.proofs.Common.{◌≢◌, ◌<◌, inl, inr, ℕ, ℤ, pos, List, [], ◌∷◌, get_or, length, map, refl, subst, sym, arith}
use Rattle.std.specs.List.{All, Contains, flat_map}
use Rattle.std.proofs.lemmas.Int.{by_lt_z, ints}
use Rattle.std.proofs.lemmas.List.{get_or-map, length-map}
use Rattle.std.proofs.lemmas.List.Concat.{flat_map-append}
use Rattle.std.proofs.lemmas.List.Elements.{All-cons, All-head, All-nil, All-tail, Contains-append_left, Contains-append_right, Contains-get_or}
use Rattle.i_tree.proofs.RootLemmas.Joined.{AllPairs-behind, AllPairs-front}
use Rattle.i_tree.proofs.RootLemmas.Members.{Contains-from_filter}
use Rattle.plane.specs.declared.edge.Edge.{Edge}
use Rattle.plane.specs.declared.point.Point.{Point}
use Rattle.plane.specs.Ends.{end_of, start_of}
use Rattle.plane.specs.Meet.Edges.{RationalPoint}
use Rattle.plane.specs.Meet.Kinds.{HasPoint, IsAt, IsEnd}
use Rattle.plane.proofs.MeetLemmas.Along.{whole_point}
use Rattle.noding.specs.Meeting.{MeetAtEnds}
use Rattle.overlay.specs.Contours.Outlines.{outline}
use Rattle.overlay.specs.Contours.Rings.{has_two_ends, real_edges, ring_edges}
use Rattle.overlay.specs.Fill.Filled.{AreDistinct, AreNoded, HaveSameEnds}
use Rattle.overlay.specs.OnePiece.{AlongNoCircle, ShareAlongNoCircle, SharesIn, TouchAlongNoCircle, TouchesIn}
use Rattle.overlay.specs.Overlay.{polygon_edges}
use Rattle.overlay.specs.Polygons.{rings_of}
use Rattle.overlay.proofs.FillLemmas.Kept.{same-exchanged}
use Rattle.overlay.proofs.GroupingLemmas.Bags.{Contains-in_flat_map}
use Rattle.overlay.proofs.GroupingLemmas.Edges.{ring-ends}
use Rattle.overlay.proofs.GroupingLemmas.Swept.{one-ring}
use Rattle.overlay.proofs.UncrossedLemmas.Covered.{outline-carried}
use Rattle.overlay.proofs.UncrossedLemmas.Finer.{at-finer, common-whole, one-point}

-- ---- fewer touches

-- Where touches go along no circle, some of them go along none, either.
pub fewer-touches : (more few : ℕ → Point → Type 0) → ((place : ℕ) (point : Point) → few place point → more place point) → AlongNoCircle more → AlongNoCircle few
fewer-touches more few among free place point touch =
    let comes = free place point (among place point touch) in record {
      side = comes.side;
      alike = λ one other at first second away other_away. comes.alike one other at (among one at first) (among other at second) away other_away;
      across = λ other second apart. comes.across other (among other point second) apart;
    }

-- ---- from an outline to its ring

-- a whole point of an edge of an outline is of an edge of the ring
outline-has : (ring : List Point) (over : Edge) (x y : ℤ) → Contains (ring_edges (outline ring)) over → HasPoint over x y → (edge : Edge) × Contains (ring_edges ring) edge × HasPoint edge x y
outline-has ring over x y held (point, of, at) =
    let found = outline-carried ring over held point of in
    (found.edge, found.among, (found.finer, found.of, at-finer found.k point found.finer x y found.is at))

-- an end of an edge of a ring is a point of the ring
end-held : (ring : List Point) (edge : Edge) (spot : RationalPoint) (point : Point) → Contains (ring_edges ring) edge → IsAt spot point.x point.y → IsEnd edge spot → Contains ring point
end-held ring edge spot point held at (inl start) = subst (λ (p : Point). Contains ring p) (one-point spot (start_of edge) point start at) (ring-ends ring edge held).0
end-held ring edge spot point held at (inr end) = subst (λ (p : Point). Contains ring p) (one-point spot (end_of edge) point end at) (ring-ends ring edge held).1

-- edges with other ends meet at ends of both
both-ends : (one other : Edge) (spot : RationalPoint) → ¬ (HaveSameEnds one other) → MeetAtEnds one other spot → IsEnd one spot × IsEnd other spot
both-ends one other spot apart (inl ends) = ends
both-ends one other spot apart (inr same) = absurd (apart same)

module _ (whole : List (List Point)) (noded : AreNoded (flat_map ring_edges whole)) (distinct : AreDistinct (flat_map ring_edges whole)) where
  -- edges of two of the rings have other ends
  ends-differ : (i j : ℕ) → i ≢ j → i < length whole → j < length whole → (one other : Edge) → Contains (ring_edges (get_or whole i [])) one → Contains (ring_edges (get_or whole j [])) other → ¬ (HaveSameEnds one other)
  ends-differ i j apart within within_too one other first second same =
      by_lt_z (pos i) (pos j)
      (λ before. one-ring whole distinct i j (omega (arith, ints, before)) within_too one other first second same)
      (λ upto. by_lt_z (pos j) (pos i)
      (λ behind. one-ring whole distinct j i (omega (arith, ints, behind)) within other one second first (same-exchanged one other same))
      (λ from. apart (omega (arith, ints, upto, from))))

  among-all : (k : ℕ) → k < length whole → (edge : Edge) → Contains (ring_edges (get_or whole k [])) edge → Contains (flat_map ring_edges whole) edge
  among-all k within edge held = Contains-in_flat_map ring_edges whole (get_or whole k []) edge (Contains-get_or whole k [] within) held

  -- where an edge of an outline has a point an edge of its ring does
  of-ring : (k : ℕ) → k < length whole → (over : Edge) (x y : ℤ) → Contains (real_edges (ring_edges (get_or (map outline whole) k []))) over → HasPoint over x y → (edge : Edge) × Contains (ring_edges (get_or whole k [])) edge × HasPoint edge x y
  of-ring k within over x y held on =
      outline-has (get_or whole k []) over x y
      (subst (λ (ring : List Point). Contains (ring_edges ring) over) (get_or-map outline whole k [] [] within) (Contains-from_filter has_two_ends (ring_edges (get_or (map outline whole) k [])) over held).0)
      on

  -- Where outlines touch their rings share the point.
  pub touches-shared : (place : ℕ) (point : Point) → TouchesIn (map outline whole) place point → SharesIn whole place point
  touches-shared place point touch =
      let within = subst (λ (n : ℕ). place < n) (length-map whole outline) touch.within in
      let other_within = subst (λ (n : ℕ). touch.other < n) (length-map whole outline) touch.other_within in
      let (edge, here, on) = of-ring place within touch.edge point.x point.y touch.held touch.on in
      let (other_edge, there, other_on) = of-ring touch.other other_within touch.other_edge point.x point.y touch.other_held touch.other_on in
      let (n, some, of_one, of_other) = common-whole edge other_edge point.x point.y on other_on in
      let spot = whole_point n some point.x point.y in
      let at : IsAt spot point.x point.y = record { x_is = refl; y_is = refl } in
      let apart = ends-differ place touch.other (λ same. touch.apart (sym same)) within other_within edge other_edge here there in
      let (end, other_end) = both-ends edge other_edge spot apart (noded edge other_edge spot (among-all place within edge here) (among-all touch.other other_within other_edge there) of_one of_other) in record {
        other = touch.other;
        apart = touch.apart;
        within = within;
        other_within = other_within;
        held = end-held (get_or whole place []) edge spot point here at end;
        other_held = end-held (get_or whole touch.other []) other_edge spot point there at other_end;
      }

  -- So where they share points along no circle the outlines touch along none.
  pub pieces-outlined : ShareAlongNoCircle whole → TouchAlongNoCircle (map outline whole)
  pieces-outlined free = fewer-touches (SharesIn whole) (TouchesIn (map outline whole)) touches-shared free

-- ---- many polygons

-- They don't have the same ends.
abbrev Differ : Edge → Edge → Type 0
Differ one other = ¬ (HaveSameEnds one other)

-- So it is with each of many polygons.
pub pieces-each : (whole : List (List (List Point))) → AreNoded (polygon_edges whole) → AreDistinct (polygon_edges whole) → All ShareAlongNoCircle whole → All TouchAlongNoCircle (map (λ polygon. map outline polygon) whole)
pieces-each [] noded distinct each = All-nil TouchAlongNoCircle
pieces-each (polygon ∷ others) noded distinct each =
    let first = flat_map ring_edges polygon in
    let rest = polygon_edges others in
    let split = flat_map-append ring_edges polygon (rings_of others) in
    let noded_all = subst AreNoded split noded in
    let distinct_all = subst AreDistinct split distinct in
    All-cons TouchAlongNoCircle (map outline polygon) (map (λ one. map outline one) others)
    (pieces-outlined polygon (λ one other spot held held_too. noded_all one other spot (Contains-append_left first rest one held) (Contains-append_left first rest other held_too))
    (AllPairs-front Differ first rest distinct_all) (All-head ShareAlongNoCircle polygon others each))
    (pieces-each others (λ one other spot held held_too. noded_all one other spot (Contains-append_right first rest one held) (Contains-append_right first rest other held_too))
    (AllPairs-behind Differ first rest distinct_all) (All-tail ShareAlongNoCircle polygon others each))
