-- Each point of an edge of an outline is of an edge of its ring, which goes the same way.
use Rattle.std.proofs.Common.{◌≡◌, ◌≢◌, inl, ◌++◌, [], ◌∷◌, zero, suc, ℕ, ◌*◌, List, map, refl, sym, subst, ⊎_elim, arith}
use Rattle.std.specs.List.{Contains, flat_map}
use Rattle.std.proofs.lemmas.Int.{ints}
use Rattle.std.proofs.lemmas.List.Elements.{Contains-append_cases, Contains-append_left, Contains-append_right}
use Rattle.i_tree.proofs.RootLemmas.Lists.{Contains-here, Contains-there}
use Rattle.plane.specs.declared.edge.Edge.{Edge}
use Rattle.plane.specs.declared.point.Point.{Point}
use Rattle.plane.specs.Ends.{edge_between, end_of, start_of}
use Rattle.plane.specs.Meet.Edges.{IsOf, RationalPoint}
use Rattle.noding.proofs.SnapLemmas.Local.{IsFiner}
use Rattle.overlay.specs.Contours.Outlines.{IsStraight, bends, next_or, outline}
use Rattle.overlay.specs.Contours.Rings.{ring_edges}
use Rattle.overlay.specs.Grouping.{edges_from}
use Rattle.overlay.proofs.ContourLemmas.Bends.{Leads, bends-by, last_from, leads-on, leads-straight, outline-is, outline-some}
use Rattle.overlay.proofs.ContourLemmas.Straight.{straight-nowhere, whole, whole-first}
use Rattle.overlay.proofs.GroupingLemmas.Corners.{closing-among, way}
use Rattle.overlay.proofs.GroupingLemmas.Edges.{edges_from-first}
use Rattle.overlay.proofs.UncrossedLemmas.Finer.{AreParallel, finer-twice, parallel-itself, parallel-through}
use Rattle.overlay.proofs.UncrossedLemmas.Split.{first-apart, split-straight}

-- One of these edges goes an edge's way, and has the point, over some multiple of its denominator.
pub record IsCarried (edges : List Edge) (over : Edge) (point : RationalPoint) : Type 0 where
  pub edge : Edge
  pub among : Contains edges edge
  pub parallel : AreParallel over edge
  pub k : ℕ
  pub finer : RationalPoint
  pub is : IsFiner k point finer
  pub of : IsOf edge finer

-- So is each point of the edge.
abbrev pub AllCarried : List Edge → Edge → Type 0
AllCarried edges over = (point : RationalPoint) → IsOf over point → IsCarried edges over point

-- an edge among these carries itself
pub carries-itself : (edges : List Edge) (edge : Edge) → Contains edges edge → AllCarried edges edge
carries-itself edges edge among point of = record {
  edge = edge;
  among = among;
  parallel = parallel-itself edge;
  k = 1;
  finer = point;
  is = record { n = omega arith; x = omega (arith, ints); y = omega (arith, ints) };
  of = of;
}

module _ (edges : List Edge) where
  -- what is carried over a finer point is carried, by what goes the same way
  carried-by : (over part : Edge) (k : ℕ) (point finer : RationalPoint) → IsFiner k point finer → start_of part ≢ end_of part → AreParallel over part → IsCarried edges part finer → IsCarried edges over point
  carried-by over part k point finer is proper parallel carried = record {
    edge = carried.edge;
    among = carried.among;
    parallel = parallel-through over part carried.edge proper parallel carried.parallel;
    k = carried.k * k;
    finer = carried.finer;
    is = finer-twice carried.k k point finer carried.finer is carried.is;
    of = carried.of;
  }

  -- the whole of a straight way is carried where both its parts are
  carried-straight : (a b c : Point) → IsStraight a b c → AllCarried edges (edge_between a b) → AllCarried edges (edge_between b c) → AllCarried edges (edge_between a c)
  carried-straight a b c is first second point of =
      ⊎_elim
      (λ has. carried-by (edge_between a c) (edge_between a b) has.k point has.finer has.is (first-apart a b c is) (whole-first a b c is).0 (first has.finer has.of))
      (λ has. carried-by (edge_between a c) (edge_between b c) has.k point has.finer has.is (second-apart a b c is) (whole a b c is).0 (second has.finer has.of))
      (split-straight a b c is point of)
    where
      second-apart : (a b c : Point) → IsStraight a b c → b ≢ c
      second-apart a b c is same = straight-nowhere a b (subst (λ (p : Point). IsStraight a b p) (sym same) is)

  -- the edge from the last point that is kept to the next one that is
  carried-onwards : (kept before : Point) (points : List Point) (behind : Point) → ((edge : Edge) → Contains (way before points behind) edge → Contains edges edge) → Leads kept before (next_or points behind)
      → AllCarried edges (edge_between kept (next_or points behind)) → AllCarried edges (edge_between kept (next_or (bends before points behind) behind))
  carried-onwards kept before [] behind among leads carried = carried
  carried-onwards kept before (at ∷ points) behind among leads carried =
      let after = next_or points behind in
      let first = edge_between before at in
      let rest = way at points behind in
      let next = edge_between at after in
      let next_carried = carries-itself edges next (among next (Contains-there first rest next (Contains-here next (edges_from points behind)))) in
      bends-by (λ list. AllCarried edges (edge_between kept (next_or list behind))) before at points behind
      (λ straight. carried-onwards kept at points behind (λ edge held. among edge (Contains-there first rest edge held)) (leads-on kept before at after leads straight)
      (carried-straight kept at after (leads-straight kept before at after leads straight) carried next_carried))
      carried

  -- all edges over the bends
  carried-all : (kept before : Point) (points : List Point) (behind end : Point)
      → ((from : Point) → Leads from (last_from before points) behind → AllCarried edges (edge_between from behind) → AllCarried edges (edge_between from end))
      → ((edge : Edge) → Contains (way before points behind) edge → Contains edges edge) → Leads kept before (next_or points behind) → AllCarried edges (edge_between kept (next_or points behind))
      → (over : Edge) → Contains (way kept (bends before points behind) end) over → AllCarried edges over
  carried-all kept before [] behind end closing among leads carried over (zero, within, is) = subst (AllCarried edges) is (closing kept leads carried)
  carried-all kept before [] behind end closing among leads carried over (suc k, within, is) = absurd (omega (arith, within))
  carried-all kept before (at ∷ points) behind end closing among leads carried over held =
      let after = next_or points behind in
      let first = edge_between before at in
      let rest = way at points behind in
      let next = edge_between at after in
      let inside : (edge : Edge) → Contains rest edge → Contains edges edge = λ edge there. among edge (Contains-there first rest edge there) in
      let next_carried = carries-itself edges next (inside next (Contains-here next (edges_from points behind))) in
      bends-by (λ list. Contains (way kept list end) over → AllCarried edges over) before at points behind
      (λ straight. carried-all kept at points behind end closing inside (leads-on kept before at after leads straight) (carried-straight kept at after (leads-straight kept before at after leads straight) carried next_carried) over)
      (by (carried-all at at points behind end closing inside (inl refl) next_carried over))
      held
    where
      by : (Contains (way at (bends at points behind) end) over → AllCarried edges over) → Contains (edge_between kept at ∷ way at (bends at points behind) end) over → AllCarried edges over
      by later (zero, within, is) = subst (AllCarried edges) is carried
      by later (suc k, within, is) = later (k, omega (arith, within), is)

-- The edges of an outline are carried by those of its ring.
pub outline-carried : (ring : List Point) (over : Edge) → Contains (ring_edges (outline ring)) over → AllCarried (ring_edges ring) over
outline-carried [] over (k, within, is) = absurd (omega (arith, within))
outline-carried (first ∷ others) over held =
    subst (λ (edges : List Edge). AllCarried edges over) (sym is_round)
    (go all (subst (λ (kept : List Point). kept ≢ []) (outline-is first others) (outline-some first others))
    (λ edge inside. carried-all round last last (first ∷ others) first (next_or all first)
    (λ from leads carried. carried-onwards round from last (first ∷ others) first among leads carried)
    among (inl refl) (carries-itself round (edge_between last first) (closing-among first others first)) edge inside)
    (subst (λ (kept : List Point). Contains (ring_edges kept) over) (outline-is first others) held))
  where
    last : Point
    last = last_from first others

    all : List Point
    all = bends last (first ∷ others) first

    round : List Edge
    round = way first others first

    is_round : ring_edges (first ∷ others) ≡ round
    is_round = edges_from-first (first ∷ others)

    among : (edge : Edge) → Contains (way last (first ∷ others) first) edge → Contains round edge
    among edge (zero, within, is) = subst (λ (e : Edge). Contains round e) is (closing-among first others first)
    among edge (suc k, within, is) = (k, omega (arith, within), is)

    go : (kept : List Point) → kept ≢ [] → ((edge : Edge) → Contains (way last kept (next_or kept first)) edge → AllCarried round edge) → Contains (ring_edges kept) over → AllCarried round over
    go [] some carried inside = absurd (some refl)
    go (next ∷ kept) some carried inside =
        carried over (Contains-there (edge_between last next) (way next kept next) over (subst (λ (edges : List Edge). Contains edges over) (edges_from-first (next ∷ kept)) inside))

-- what is carried by some is carried by more
pub carried-more : (some all : List Edge) (over : Edge) → ((edge : Edge) → Contains some edge → Contains all edge) → AllCarried some over → AllCarried all over
carried-more some all over more carried point of =
    let found = carried point of in record {
      edge = found.edge;
      among = more found.edge found.among;
      parallel = found.parallel;
      k = found.k;
      finer = found.finer;
      is = found.is;
      of = found.of;
    }

-- So are those of outlines.
pub outlines-carried : (rings : List (List Point)) (over : Edge) → Contains (flat_map ring_edges (map outline rings)) over → AllCarried (flat_map ring_edges rings) over
outlines-carried [] over (k, within, is) = absurd (omega (arith, within))
outlines-carried (ring ∷ rings) over held =
    let first = ring_edges ring in
    let rest = flat_map ring_edges rings in
    ⊎_elim
    (λ here. carried-more first (first ++ rest) over (Contains-append_left first rest) (outline-carried ring over here))
    (λ later. carried-more rest (first ++ rest) over (Contains-append_right first rest) (outlines-carried rings over later))
    (Contains-append_cases (ring_edges (outline ring)) (flat_map ring_edges (map outline rings)) over held)
