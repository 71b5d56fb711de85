-- Overlays of groups, one after another.
use Rattle.std.proofs.Common.{◌≡◌, ◌++◌, ◌∷◌, [], ℕ, ◌+◌, ◌<◌, ◌≤◌, List, length, get_or, map, refl, sym, subst, ap, ap₂, ◌∙◌, append_assoc, append-nil, arith, inl, inr}
use Rattle.std.specs.List.{All, flat_map}
use Rattle.std.proofs.lemmas.Bool.{cases_lt}
use Rattle.std.proofs.lemmas.List.{get_or-map, get_or_append_left, get_or_push, length-append, length-map}
use Rattle.plane.specs.declared.edge.Edge.{Edge}
use Rattle.plane.specs.declared.point.Point.{Point}
use Rattle.overlay.specs.declared.fill.rules.FillRule.{FillRule}
use Rattle.overlay.specs.declared.fill.rules.Operation.{Operation}
use Rattle.overlay.specs.Contours.Rings.{ring_edges}
use Rattle.noding.specs.Offsets.{AreJoined, offsets}
use Rattle.overlay.specs.Overlay.{IsOverlay}
use Rattle.overlay.specs.Polygons.{AreAppended, rings_of}
use Rattle.overlay.specs.Rings.{HasEnds, edges_of}
use Rattle.overlay.specs.declared.rings.Rings.{Rings}
use Rattle.overlay.proofs.Callers.{AreEnds-joined, rings-joined}
use Rattle.layers.specs.Each.{AreOverlays}
use Rattle.layers.specs.Gathered.{group_edges, group_rings}
use Rattle.layers.specs.Shapes.{edges_of_groups, groups_of, rings_at, shape_edges}
use Rattle.layers.specs.declared.gathered.Group.{Group}
use Rattle.layers.specs.declared.shapes.Groups.{Groups}
use Rattle.layers.specs.declared.shapes.Shapes.{Shapes}
use Rattle.layers.proofs.GatheredLemmas.{AreGathered-more}
use Rattle.std.proofs.lemmas.List.Concat.{flat_map-append}
use Rattle.noding.proofs.ChainLemmas.Standing.{length-offsets}
use Rattle.layers.proofs.ListLemmas.{length-lists_of, offsets-append, offsets-moved, offsets-upto}

-- ---- polygons behind polygons

-- nothing is appended
pub AreAppended-none : (points : List Point) (ring_ends polygon_ends : List ℕ) → AreAppended [] points points ring_ends ring_ends polygon_ends polygon_ends
AreAppended-none points ring_ends polygon_ends = record {
  points_are = sym (append-nil points);
  rings_are = sym (append-nil ring_ends);
  polygons_are = sym (append-nil polygon_ends);
}

-- polygons are appended, and then others
pub AreAppended-more : (polygons others : List (List (List Point))) (points points' points'' : List Point) (ring_ends ring_ends' ring_ends'' polygon_ends polygon_ends' polygon_ends'' : List ℕ)
    → AreAppended polygons points points' ring_ends ring_ends' polygon_ends polygon_ends' → AreAppended others points' points'' ring_ends' ring_ends'' polygon_ends' polygon_ends''
    → AreAppended (polygons ++ others) points points'' ring_ends ring_ends'' polygon_ends polygon_ends''
AreAppended-more polygons others points points' points'' ring_ends ring_ends' ring_ends'' polygon_ends polygon_ends' polygon_ends'' are more =
    let joined = flat_map-append (λ (polygon : List (List Point)). polygon) polygons others in
    let rings = AreGathered-more (rings_of polygons) (rings_of others) points points' points'' ring_ends ring_ends' ring_ends''
    (record { items_are = are.points_are; ends_are = are.rings_are }) (record { items_are = more.points_are; ends_are = more.rings_are }) in
    let told = length-offsets (length points) (rings_of polygons) in
    let size : length ring_ends' ≡ length ring_ends + length (rings_of polygons) =
    ap (λ (ends : List ℕ). length ends) are.rings_are ∙ length-append ring_ends (offsets (length points) (rings_of polygons)) ∙ ap (λ (n : ℕ). length ring_ends + n) told in
    record {
      points_are = rings.items_are ∙ ap (λ (all : List (List Point)). points ++ flat_map (λ ring. ring) all) (sym joined);
      rings_are = rings.ends_are ∙ ap (λ (all : List (List Point)). ring_ends ++ offsets (length points) all) (sym joined);
      polygons_are = more.polygons_are
          ∙ ap₂ (λ (ends : List ℕ) (n : ℕ). ends ++ offsets n others) are.polygons_are size
          ∙ append_assoc polygon_ends (offsets (length ring_ends) polygons) (offsets (length ring_ends + length (rings_of polygons)) others)
          ∙ ap (λ (ends : List ℕ). polygon_ends ++ ends) (sym (offsets-append (length ring_ends) polygons others));
    }

-- polygons that stand alone stop where they can
pub AreAppended-ends : (polygons : List (List (List Point))) (points : List Point) (ring_ends polygon_ends : List ℕ) → AreAppended polygons [] points [] ring_ends [] polygon_ends
    → All (λ end. end ≤ length points) ring_ends × All (λ end. end ≤ length ring_ends) polygon_ends
AreAppended-ends polygons points ring_ends polygon_ends alone =
    let size = ap (λ (all : List Point). length all) alone.points_are in
    let count = ap (λ (ends : List ℕ). length ends) alone.rings_are ∙ length-offsets 0 (rings_of polygons) in (
      subst (All (λ end. end ≤ length points)) (sym alone.rings_are) (offsets-upto 0 (rings_of polygons) (length points) (omega (arith, size))),
      subst (All (λ end. end ≤ length ring_ends)) (sym alone.polygons_are) (offsets-upto 0 polygons (length ring_ends) (omega (arith, count))),
    )

-- polygons that stand alone are moved behind others
pub AreAppended-moved : (polygons : List (List (List Point))) (points made points' : List Point) (ring_ends made_rings ring_ends' polygon_ends made_polygons polygon_ends' : List ℕ)
    → AreAppended polygons [] made [] made_rings [] made_polygons
    → points' ≡ points ++ made → ring_ends' ≡ ring_ends ++ map (λ end. length points + end) made_rings → polygon_ends' ≡ polygon_ends ++ map (λ end. length ring_ends + end) made_polygons
    → AreAppended polygons points points' ring_ends ring_ends' polygon_ends polygon_ends'
AreAppended-moved polygons points made points' ring_ends made_rings ring_ends' polygon_ends made_polygons polygon_ends' alone points_are rings_are polygons_are = record {
  points_are = points_are ∙ ap (λ (all : List Point). points ++ all) alone.points_are;
  rings_are = rings_are ∙ ap (λ (ends : List ℕ). ring_ends ++ map (λ end. length points + end) ends) alone.rings_are ∙ ap (λ (ends : List ℕ). ring_ends ++ ends) (moved (length points) (rings_of polygons));
  polygons_are = polygons_are ∙ ap (λ (ends : List ℕ). polygon_ends ++ map (λ end. length ring_ends + end) ends) alone.polygons_are ∙ ap (λ (ends : List ℕ). polygon_ends ++ ends) (moved (length ring_ends) polygons);
}
  where
    moved : {X : Type 0} (by : ℕ) (lists : List (List X)) → map (λ end. by + end) (offsets 0 lists) ≡ offsets by lists
    moved by lists = offsets-moved by 0 lists ∙ ap (λ (n : ℕ). offsets n lists) (let same : by + 0 ≡ by = omega arith in same)

-- ---- groups

-- The overlays of the first groups, as many as these.
pub record AreOverlaysUpto (rule : FillRule) (operation : Operation) (subjects clips : List (List Edge)) (count : ℕ) (each : List (List (List (List Point)))) : Type 0 where
  pub as_many : length each ≡ count
  pub are : (place : ℕ) → place < length each → IsOverlay rule operation (get_or subjects place []) (get_or clips place []) (get_or each place [])

module _ (rule : FillRule) (operation : Operation) (subjects clips : List (List Edge)) where
  pub AreOverlaysUpto-none : AreOverlaysUpto rule operation subjects clips 0 []
  AreOverlaysUpto-none = record { as_many = refl; are = λ place within. absurd (omega arith) }

  pub AreOverlaysUpto-more : (count : ℕ) (each : List (List (List (List Point)))) (polygons : List (List (List Point))) → AreOverlaysUpto rule operation subjects clips count each
      → IsOverlay rule operation (get_or subjects count []) (get_or clips count []) polygons → AreOverlaysUpto rule operation subjects clips (count + 1) (each ++ polygons ∷ [])
  AreOverlaysUpto-more count each polygons are is = record {
    as_many = (let sum = length-append each (polygons ∷ []) in let many = are.as_many in omega (arith, sum, many));
    are = λ place within. elim (cases_lt place (length each)) [
      | inl before ↦ subst (IsOverlay rule operation (get_or subjects place []) (get_or clips place [])) (sym (get_or_append_left each (polygons ∷ []) [] place before)) (are.are place before)
      | inr behind ↦
          let sum = length-append each (polygons ∷ []) in
          let many = are.as_many in
          let last : length each ≡ place = omega (arith, behind, within, sum) in
          let here : count ≡ place = omega (arith, last, many) in
          subst (IsOverlay rule operation (get_or subjects place []) (get_or clips place [])) (sym (get_or_push each polygons [] place last))
          (subst (λ (n : ℕ). IsOverlay rule operation (get_or subjects n []) (get_or clips n []) polygons) here is)
    ];
  }

  pub AreOverlaysUpto-all : (count : ℕ) (each : List (List (List (List Point)))) → count ≡ length subjects → count ≡ length clips → AreOverlaysUpto rule operation subjects clips count each → AreOverlays rule operation subjects clips each
  AreOverlaysUpto-all count each all all_clips are = record {
    as_many = are.as_many ∙ all;
    as_many_clips = are.as_many ∙ all_clips;
    are = are.are;
  }

-- ---- rings that are gathered

-- Rings that are joined stop where they can, and their edges are those of the rings.
pub HasEnds-joined : (rings : List (List Point)) (points : List Point) (ends : List ℕ) (lent : Rings) → lent.points.now ≡ points → lent.ends.now ≡ ends → AreJoined rings points ends → HasEnds lent × (edges_of lent ≡ flat_map ring_edges rings)
HasEnds-joined rings points ends lent points_are ends_are (items_are, stops_are) = (
  AreEnds-joined rings lent.points.now lent.ends.now (points_are ∙ items_are, ends_are ∙ stops_are),
  ap (λ (all : List (List Point)). flat_map ring_edges all) (rings-joined rings lent.points.now lent.ends.now (points_are ∙ items_are, ends_are ∙ stops_are)),
)

-- ---- one group more

-- the edges of one group
pub edges_of_groups-at : (shapes : Shapes) (groups : Groups) (group : Group) (k : ℕ) → k < length groups.ends.now → group_rings group ≡ rings_at shapes (get_or (groups_of groups) k []) → group_edges group ≡ get_or (edges_of_groups shapes groups) k []
edges_of_groups-at shapes groups group k within is =
    let size = length-lists_of groups.places.now 0 groups.ends.now in
    ap shape_edges is ∙ sym (get_or-map (λ (places : List ℕ). shape_edges (rings_at shapes places)) (groups_of groups) k [] [] (omega (arith, size, within)))

-- how many groups there are
pub length-edges_of_groups : (shapes : Shapes) (groups : Groups) → length (edges_of_groups shapes groups) ≡ length groups.ends.now
length-edges_of_groups shapes groups = length-map (groups_of groups) (λ (places : List ℕ). shape_edges (rings_at shapes places)) ∙ length-lists_of groups.places.now 0 groups.ends.now

-- the polygons of one group stand behind those of the others
pub AreAppended-group : (each : List (List (List (List Point)))) (polygons : List (List (List Point))) (points points' points'' : List Point) (ring_ends ring_ends' ring_ends'' polygon_ends polygon_ends' polygon_ends'' : List ℕ)
    → AreAppended (flat_map (λ group. group) each) points points' ring_ends ring_ends' polygon_ends polygon_ends' → AreAppended polygons points' points'' ring_ends' ring_ends'' polygon_ends' polygon_ends''
    → AreAppended (flat_map (λ group. group) (each ++ polygons ∷ [])) points points'' ring_ends ring_ends'' polygon_ends polygon_ends''
AreAppended-group each polygons points points' points'' ring_ends ring_ends' ring_ends'' polygon_ends polygon_ends' polygon_ends'' are more =
    let all = flat_map-append (λ (group : List (List (List Point))). group) each (polygons ∷ []) in
    rw (all, append-nil polygons)
    (AreAppended-more (flat_map (λ (group : List (List (List Point))). group) each) polygons points points' points'' ring_ends ring_ends' ring_ends'' polygon_ends polygon_ends' polygon_ends'' are more)

-- and where they stop is told behind where these do
pub ends-group : (each : List (List (List (List Point)))) (polygons : List (List (List Point))) (points points' : List Point) (ring_ends ring_ends' polygon_ends polygon_ends' ends ends' ends'' : List ℕ) (end : ℕ)
    → AreAppended (flat_map (λ group. group) (each ++ polygons ∷ [])) points points' ring_ends ring_ends' polygon_ends polygon_ends' → ends' ≡ ends ++ offsets (length polygon_ends) each → end ≡ length polygon_ends' → ends'' ≡ ends' ++ end ∷ []
    → ends'' ≡ ends ++ offsets (length polygon_ends) (each ++ polygons ∷ [])
ends-group each polygons points points' ring_ends ring_ends' polygon_ends polygon_ends' ends ends' ends'' end are told is more =
    let start = length polygon_ends in
    let all = flat_map (λ (group : List (List (List Point))). group) (each ++ polygons ∷ []) in
    let before = flat_map (λ (group : List (List (List Point))). group) each in
    let joined : length all ≡ length before + length polygons =
    ap (λ (list : List (List (List Point))). length list) (flat_map-append (λ (group : List (List (List Point))). group) each (polygons ∷ []) ∙ ap (λ (list : List (List (List Point))). before ++ list) (append-nil polygons))
    ∙ length-append before polygons in
    let count : length polygon_ends' ≡ start + length all = ap (λ (list : List ℕ). length list) are.polygons_are ∙ length-append polygon_ends (offsets (length ring_ends) all) ∙ ap (λ (n : ℕ). start + n) (length-offsets (length ring_ends) all) in
    let last : end ≡ (start + length before) + length polygons = omega (arith, is, count, joined) in
    more
    ∙ ap₂ (λ (list : List ℕ) (n : ℕ). list ++ n ∷ []) told last
    ∙ append_assoc ends (offsets start each) (((start + length before) + length polygons) ∷ [])
    ∙ ap (λ (list : List ℕ). ends ++ list) (sym (offsets-append start each (polygons ∷ [])))
