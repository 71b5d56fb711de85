-- An outline runs the way its ring does.
use Rattle.std.proofs.Common.{◌≡◌, ◌≢◌, inl, inr, [], ◌∷◌, zero, suc, false, ◌<ℤ◌, List, Option, Some, None, map, refl, ap, sym, subst, ◌∙◌, arith}
use Rattle.std.specs.List.{All, Contains, flat_map}
use Rattle.std.proofs.lemmas.Int.{by_lt_z, ints}
use Rattle.std.proofs.lemmas.List.Elements.{All-cons, All-contains, All-head, All-nil, All-tail, Contains-append_left, Contains-append_right}
use Rattle.i_tree.proofs.RootLemmas.Joined.{All-behind, All-front, All-to_map, AllPairs-behind, AllPairs-front}
use Rattle.i_tree.proofs.RootLemmas.Lists.{AllPairs-head, AllPairs-tail, Contains-here, Contains-there}
use Rattle.plane.specs.declared.edge.Edge.{Edge}
use Rattle.plane.specs.declared.point.Point.{Point}
use Rattle.plane.specs.Ends.{edge_between, end_of, start_of}
use Rattle.plane.specs.SweepLine.Heights.{rightwards}
use Rattle.overlay.specs.Contours.Outlines.{IsStraight, bends, next_or, outline}
use Rattle.overlay.specs.Contours.Rings.{ring_edges}
use Rattle.overlay.specs.Fill.Begins.{BeginsUpto}
use Rattle.overlay.specs.Fill.Filled.{AreDistinct, AreNoded, HaveSameEnds}
use Rattle.overlay.specs.Grouping.{edges_from}
use Rattle.overlay.specs.Polygons.{IsPolygon, first_sloped, is_counterclockwise, rings_of, runs_rightwards}
use Rattle.overlay.proofs.ContourLemmas.Bends.{Ends, Leads, Reaches, bends-by, ends-there, last_from, leads-last, leads-on, leads-straight, outline-is, outline-some, reaches}
use Rattle.overlay.proofs.GroupingLemmas.Sides.{BeginsBy, first-by_whole, second-by_whole, whole-by_first, whole-by_second}
use Rattle.overlay.proofs.ContourLemmas.Straight.{straight-early}
use Rattle.overlay.proofs.FillLemmas.Kept.{same-exchanged}
use Rattle.overlay.proofs.FillLemmas.Tests.{lt_same}
use Rattle.overlay.proofs.GroupingLemmas.Begins.{Told, told-all}
use Rattle.overlay.proofs.GroupingLemmas.Corners.{closing-among, way}
use Rattle.overlay.proofs.GroupingLemmas.Edges.{edges_from-first}
use Rattle.overlay.proofs.KeptLemmas.First.{turned-meet, turned-same}
use Rattle.overlay.proofs.PieceLemmas.Begins.{BeginsUpto-trans}
use Rattle.overlay.proofs.PieceLemmas.Made.{alike, rightwards-onwards}

-- ---- one edge

itself : (edge : Edge) → BeginsBy edge edge
itself edge sloped = (sloped, inr (refl, inr (refl, omega (arith, ints))))

BeginsBy-trans : (one other third : Edge) → BeginsBy one other → BeginsBy other third → BeginsBy one third
BeginsBy-trans one other third first second sloped =
    let (between, later) = second sloped in
    let (is, sooner) = first between in
    (is, BeginsUpto-trans (rightwards one) (rightwards other) (rightwards third) sooner later)

-- the edge to the next point that is kept begins by each on the way
begins-by : (kept before next end : Point) → Leads kept before next → Reaches kept next end → BeginsBy (edge_between kept end) (edge_between before next)
begins-by kept before next end leads ends =
    BeginsBy-trans (edge_between kept end) (edge_between kept next) (edge_between before next) (by_reached ends) (by_led leads)
  where
    by_reached : Reaches kept next end → BeginsBy (edge_between kept end) (edge_between kept next)
    by_reached (inl same) = subst (λ (p : Point). BeginsBy (edge_between kept p) (edge_between kept next)) same (itself (edge_between kept next))
    by_reached (inr is) = whole-by_first kept next end is

    by_led : Leads kept before next → BeginsBy (edge_between kept next) (edge_between before next)
    by_led (inl same) = subst (λ (p : Point). BeginsBy (edge_between p next) (edge_between before next)) (sym same) (itself (edge_between before next))
    by_led (inr is) = whole-by_second kept before next is

reached-early : (kept first at last : Point) → Reaches kept first at → IsStraight kept at last → IsStraight kept first last
reached-early kept first at last (inl same) is = subst (λ (p : Point). IsStraight kept p last) (sym same) is
reached-early kept first at last (inr early) is = straight-early kept first at last early is

Reaches-trans : (kept first at last : Point) → Reaches kept first at → Reaches kept at last → Reaches kept first last
Reaches-trans kept first at last early (inl same) = subst (λ (p : Point). Reaches kept first p) same early
Reaches-trans kept first at last early (inr is) = inr (reached-early kept first at last early is)

-- ---- the edges of a way, and those over its bends

-- each of the former begins no sooner than some of the latter
covered : (kept before : Point) (points : List Point) (behind end : Point) → Ends (last_from before points) behind end → Leads kept before (next_or points behind)
    → (edge : Edge) → Contains (way before points behind) edge → (over : Edge) × Contains (way kept (bends before points behind) end) over × BeginsBy over edge
covered kept before points behind end ends leads edge (zero, within, is) =
    let next = next_or (bends before points behind) end in (
      edge_between kept next,
      Contains-here (edge_between kept next) (edges_from (bends before points behind) end),
      subst (BeginsBy (edge_between kept next)) is (begins-by kept before (next_or points behind) next leads (reaches kept before points behind end ends leads)),
    )
covered kept before [] behind end ends leads edge (suc k, within, is) = absurd (omega (arith, within))
covered kept before (at ∷ points) behind end ends leads edge (suc k, within, is) =
    let held : Contains (way at points behind) edge = (k, omega (arith, within), is) in
    bends-by (λ list. (over : Edge) × Contains (way kept list end) over × BeginsBy over edge) before at points behind
    (λ straight. covered kept at points behind end ends (leads-on kept before at (next_or points behind) leads straight) edge held)
    (let (over, among, begins) = covered at at points behind end ends (inl refl) edge held in (
      over,
      Contains-there (edge_between kept at) (way at (bends at points behind) end) over among,
      begins,
    ))

-- An edge goes along the edges at its two ends, which are among these.
record Goes (edges : List Edge) (edge : Edge) : Type 0 where
  next : Point
  leaves : Contains edges (edge_between (start_of edge) next)
  reaches_end : Reaches (start_of edge) next (end_of edge)
  before : Point
  comes : Contains edges (edge_between before (end_of edge))
  leads_there : Leads (start_of edge) before (end_of edge)

-- It begins no later, and goes the same way along x.
abbrev Sooner : Edge → Edge → Type 0
Sooner over edge = BeginsUpto (rightwards edge) (rightwards over) × (over.x0 <ℤ over.x1 → edge.x0 <ℤ edge.x1) × (edge.x0 <ℤ edge.x1 → over.x0 <ℤ over.x1)

-- an edge comes to a point, on the way from the last point that is kept
abbrev ComesTo : List Edge → Point → Point → Type 0
ComesTo edges kept end = (before : Point) × Contains edges (edge_between before end) × Leads kept before end

module _ (edges : List Edge) where
  comes-to : (kept before : Point) (points : List Point) (behind : Point) → ((edge : Edge) → Contains (way before points behind) edge → Contains edges edge) → Leads kept before (next_or points behind)
      → ComesTo edges kept (next_or (bends before points behind) behind)
  comes-to kept before [] behind among leads = (before, among (edge_between before behind) (Contains-here (edge_between before behind) []), leads)
  comes-to kept before (at ∷ points) behind among leads =
      let first = edge_between before at in
      let rest = way at points behind in
      bends-by (λ list. ComesTo edges kept (next_or list behind)) before at points behind
      (λ straight. comes-to kept at points behind (λ edge held. among edge (Contains-there first rest edge held)) (leads-on kept before at (next_or points behind) leads straight))
      (before, among first (Contains-here first rest), leads)

  -- so do all edges over the bends
  all-go : (kept next before : Point) (points : List Point) (behind end : Point) → Ends (last_from before points) behind end → ((from : Point) → Leads from (last_from before points) behind → ComesTo edges from end)
      → ((edge : Edge) → Contains (way before points behind) edge → Contains edges edge) → Leads kept before (next_or points behind) → Contains edges (edge_between kept next) → Reaches kept next (next_or points behind)
      → (over : Edge) → Contains (way kept (bends before points behind) end) over → Goes edges over
  all-go kept next before [] behind end ends comes among leads leaves early over (zero, within, is) =
      let (last, to_end, leads_on) = comes kept leads in
      subst (Goes edges) is (record {
        next = next;
        leaves = leaves;
        reaches_end = Reaches-trans kept next behind end early (ends kept leads);
        before = last;
        comes = to_end;
        leads_there = leads_on;
      })
  all-go kept next before [] behind end ends comes among leads leaves early over (suc k, within, is) = absurd (omega (arith, within))
  all-go kept next before (at ∷ points) behind end ends comes among leads leaves early over held =
      let after = next_or points behind in
      let first = edge_between before at in
      let rest = way at points behind in
      let inside : (edge : Edge) → Contains rest edge → Contains edges edge = λ edge there. among edge (Contains-there first rest edge there) in
      bends-by (λ list. Contains (way kept list end) over → Goes edges over) before at points behind
      (λ straight. all-go kept next at points behind end ends comes inside (leads-on kept before at after leads straight) leaves (inr (reached-early kept next at after early (leads-straight kept before at after leads straight))) over)
      (by (all-go at after at points behind end ends comes inside (inl refl) (inside (edge_between at after) (Contains-here (edge_between at after) (edges_from points behind))) (inl refl) over))
      held
    where
      by : (Contains (way at (bends at points behind) end) over → Goes edges over) → Contains (edge_between kept at ∷ way at (bends at points behind) end) over → Goes edges over
      by later (zero, within, is) = subst (Goes edges) is (record {
        next = next;
        leaves = leaves;
        reaches_end = early;
        before = before;
        comes = among (edge_between before at) (Contains-here (edge_between before at) (way at points behind));
        leads_there = leads;
      })
      by later (suc k, within, is) = later (k, omega (arith, within), is)

  -- so an edge among these begins no later, and goes the same way
  sooner-edge : (over : Edge) → over.x1 ≢ over.x0 → Goes edges over → (edge : Edge) × Contains edges edge × (edge.x1 ≢ edge.x0) × Sooner over edge
  sooner-edge over sloped goes =
      by_lt_z over.x0 over.x1
      (λ more.
      let (is, begins) = out goes.reaches_end more in
      (edge_between from goes.next, goes.leaves, (λ same. omega (arith, ints, is, same)), (begins, (λ _. is), (λ _. more))))
      (λ upto. by_lt_z over.x1 over.x0
      (λ less.
      let (is, begins) = in_ goes.leads_there less in
      (edge_between goes.before to, goes.comes, (λ same. omega (arith, ints, is, same)), (begins, (λ more. absurd (omega (arith, ints, less, more))), (λ more. absurd (omega (arith, ints, is, more))))))
      (λ from. absurd (sloped (omega (arith, ints, upto, from)))))
    where
      from : Point
      from = start_of over

      to : Point
      to = end_of over

      out : Reaches from goes.next to → over.x0 <ℤ over.x1 → (from.x <ℤ goes.next.x) × BeginsUpto (rightwards (edge_between from goes.next)) (rightwards over)
      out (inl same) more = subst (λ (p : Point). (from.x <ℤ p.x) × BeginsUpto (rightwards (edge_between from p)) (rightwards over)) (sym same) (more, (itself over sloped).1)
      out (inr is) more = first-by_whole from goes.next to is more

      in_ : Leads from goes.before to → over.x1 <ℤ over.x0 → (to.x <ℤ goes.before.x) × BeginsUpto (rightwards (edge_between goes.before to)) (rightwards over)
      in_ (inl same) less = subst (λ (p : Point). (to.x <ℤ p.x) × BeginsUpto (rightwards (edge_between p to)) (rightwards over)) same (less, (itself over sloped).1)
      in_ (inr is) less = second-by_whole from goes.before to is less

-- ---- the first ones

-- of distinct edges two with the same ends are one
pub same-one : (edges : List Edge) (one other : Edge) → AreDistinct edges → Contains edges one → Contains edges other → HaveSameEnds one other → one ≡ other
same-one [] one other distinct (k, within, is) second same = absurd (omega (arith, within))
same-one (edge ∷ edges) one other distinct (zero, within, is) (zero, within', is') same = sym is ∙ is'
same-one (edge ∷ edges) one other distinct (zero, within, is) (suc k, within', is') same =
    absurd (All-contains (λ (e : Edge). ¬ (HaveSameEnds edge e)) edges other (AllPairs-head (λ (a b : Edge). ¬ (HaveSameEnds a b)) edge edges distinct) (k, omega (arith, within'), is') (subst (λ (e : Edge). HaveSameEnds e other) (sym is) same))
same-one (edge ∷ edges) one other distinct (suc k, within, is) (zero, within', is') same =
    absurd (All-contains (λ (e : Edge). ¬ (HaveSameEnds edge e)) edges one (AllPairs-head (λ (a b : Edge). ¬ (HaveSameEnds a b)) edge edges distinct) (k, omega (arith, within), is) (subst (λ (e : Edge). HaveSameEnds e one) (sym is') (same-exchanged one other same)))
same-one (edge ∷ edges) one other distinct (suc k, within, is) (suc j, within', is') same =
    same-one edges one other (AllPairs-tail (λ (a b : Edge). ¬ (HaveSameEnds a b)) edge edges distinct) (k, omega (arith, within), is) (j, omega (arith, within'), is') same

module _ (edges overs : List Edge) (noded : AreNoded edges) (distinct : AreDistinct edges) (cover : (edge : Edge) → Contains edges edge → (over : Edge) × Contains overs over × BeginsBy over edge)
    (go : (over : Edge) → Contains overs over → over.x1 ≢ over.x0 → (edge : Edge) × Contains edges edge × (edge.x1 ≢ edge.x0) × Sooner over edge) where
  runs-alike : (best best_over : Option Edge) → Told edges best → Told overs best_over → runs_rightwards best_over ≡ runs_rightwards best
  runs-alike None None told told_over = refl
  runs-alike None (Some over) told told_over = let (edge, among, sloped, _) = go over told_over.among told_over.sloped in absurd (told edge among sloped)
  runs-alike (Some edge) None told told_over = let (over, among, begins) = cover edge told.among in absurd (told_over over among (begins told.sloped).0)
  runs-alike (Some first) (Some over) told told_over =
      let (edge, among, sloped, (begins, there, back)) = go over told_over.among told_over.sloped in
      let (above, among_above, sooner) = cover first told.among in
      let (is, upto_first) = sooner told.sloped in
      let upto : BeginsUpto (rightwards edge) (rightwards first) =
      BeginsUpto-trans (rightwards edge) (rightwards over) (rightwards first) begins (BeginsUpto-trans (rightwards over) (rightwards above) (rightwards first) (told_over.begins above among_above is) upto_first) in
      let one : edge ≡ first =
      same-one edges edge first distinct among told.among (turned-same edge first
      (alike (rightwards edge) (rightwards first) (turned-meet edges noded edge first among told.among) (rightwards-onwards edge (λ same. sloped (sym same))) (rightwards-onwards first (λ same. told.sloped (sym same)))
      upto (told.begins edge among sloped))) in
      lt_same over.x0 over.x1 first.x0 first.x1
      (λ more. subst (λ (e : Edge). e.x0 <ℤ e.x1) one (there more))
      (λ more. back (subst (λ (e : Edge). e.x0 <ℤ e.x1) (sym one) more))

-- An outline runs the way its ring does, where the ring's edges meet only at common ends and are distinct.
pub outline-runs : (ring : List Point) → AreNoded (ring_edges ring) → AreDistinct (ring_edges ring) → is_counterclockwise (outline ring) ≡ is_counterclockwise ring
outline-runs [] noded distinct = refl
outline-runs (first ∷ others) noded distinct =
    ap (λ (kept : List Point). is_counterclockwise kept) (outline-is first others)
    ∙ go all (subst (λ (kept : List Point). kept ≢ []) (outline-is first others) (outline-some first others))
    (λ edge held. covered (last_from last all) last (first ∷ others) first (next_or all first) ends (leads-last last last (first ∷ others) first (inl refl)) edge (Contains-there (edge_between last first) round edge held))
    (λ over held. all-go round last first last (first ∷ others) first (next_or all first) ends (λ from leads. comes-to round from last (first ∷ others) first among leads) among (inl refl) (closing-among first others first) (inl refl) over held)
  where
    last : Point
    last = last_from first others

    all : List Point
    all = bends last (first ∷ others) first

    round : List Edge
    round = way first others first

    is_round : ring_edges (first ∷ others) ≡ round
    is_round = edges_from-first (first ∷ others)

    ends : Ends last first (next_or all first)
    ends kept leads = reaches kept last (first ∷ others) first first (ends-there last first) leads

    among : (edge : Edge) → Contains (way last (first ∷ others) first) edge → Contains round edge
    among edge (zero, within, is) = subst (λ (e : Edge). Contains round e) is (closing-among first others first)
    among edge (suc k, within, is) = (k, omega (arith, within), is)

    go : (kept : List Point) → kept ≢ [] → ((edge : Edge) → Contains round edge → (over : Edge) × Contains (way (last_from last kept) kept (next_or kept first)) over × BeginsBy over edge)
        → ((over : Edge) → Contains (way last kept (next_or kept first)) over → Goes round over) → is_counterclockwise kept ≡ is_counterclockwise (first ∷ others)
    go [] some cover goes = absurd (some refl)
    go (next ∷ kept) some cover goes =
        let overs = way next kept next in
        ap (λ (edges : List Edge). runs_rightwards (first_sloped None edges)) (edges_from-first (next ∷ kept))
        ∙ runs-alike round overs (subst AreNoded is_round noded) (subst AreDistinct is_round distinct)
        (λ edge held. (let (over, inside, begins) = cover edge held in (over, closed over inside, begins)))
        (λ over held sloped. sooner-edge round over sloped (goes over (Contains-there (edge_between last next) overs over held)))
        (first_sloped None round) (first_sloped None overs) (told-all round) (told-all overs)
        ∙ sym (ap (λ (edges : List Edge). runs_rightwards (first_sloped None edges)) is_round)
      where
        closed : (over : Edge) → Contains (way (last_from next kept) (next ∷ kept) next) over → Contains (way next kept next) over
        closed over (zero, within, is) = subst (λ (e : Edge). Contains (way next kept next) e) is (closing-among next kept next)
        closed over (suc k, within, is) = (k, omega (arith, within), is)

-- ---- polygons

-- The outline runs the way the ring does.
abbrev RunsAlike : List Point → Type 0
RunsAlike ring = is_counterclockwise (outline ring) ≡ is_counterclockwise ring

pub outlines-run : (rings : List (List Point)) → AreNoded (flat_map ring_edges rings) → AreDistinct (flat_map ring_edges rings) → All (λ ring. is_counterclockwise (outline ring) ≡ is_counterclockwise ring) rings
outlines-run [] noded distinct = All-nil RunsAlike
outlines-run (ring ∷ rings) noded distinct =
    let first = ring_edges ring in
    let rest = flat_map ring_edges rings in
    All-cons RunsAlike ring rings
    (outline-runs ring (λ one other point held held_too. noded one other point (Contains-append_left first rest one held) (Contains-append_left first rest other held_too))
    (AllPairs-front (λ (one other : Edge). ¬ (HaveSameEnds one other)) first rest distinct))
    (outlines-run rings (λ one other point held held_too. noded one other point (Contains-append_right first rest one held) (Contains-append_right first rest other held_too))
    (AllPairs-behind (λ (one other : Edge). ¬ (HaveSameEnds one other)) first rest distinct))

IsPolygon-outlined : (rings : List (List Point)) → All RunsAlike rings → IsPolygon rings → IsPolygon (map outline rings)
IsPolygon-outlined rings alike is =
    let all : All RunsAlike (is.outer ∷ is.holes) = subst (All RunsAlike) is.is alike in
    let behind = All-tail RunsAlike is.outer is.holes all in
    record {
      outer = outline is.outer;
      holes = map outline is.holes;
      is = ap (λ (list : List (List Point)). map outline list) is.is;
      outwards = All-head RunsAlike is.outer is.holes all ∙ is.outwards;
      inwards = All-to_map (λ (ring : List Point). is_counterclockwise ring ≡ false) outline is.holes (λ k d within. behind k d within ∙ is.inwards k d within);
    }

-- So polygons stay polygons.
pub polygons-outlined : (polygons : List (List (List Point))) → All (λ ring. is_counterclockwise (outline ring) ≡ is_counterclockwise ring) (rings_of polygons) → All IsPolygon polygons
    → All IsPolygon (map (λ polygon. map outline polygon) polygons)
polygons-outlined [] alike are = All-nil IsPolygon
polygons-outlined (polygon ∷ polygons) alike are =
    All-cons IsPolygon (map outline polygon) (map (λ one. map outline one) polygons)
    (IsPolygon-outlined polygon (All-front RunsAlike polygon (rings_of polygons) alike) (All-head IsPolygon polygon polygons are))
    (polygons-outlined polygons (All-behind RunsAlike polygon (rings_of polygons) alike) (All-tail IsPolygon polygon polygons are))
