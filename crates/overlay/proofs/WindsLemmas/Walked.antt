-- A walk along edges that wind once around a point or not at all goes on along the next edge clockwise; so on the left of all edges
-- that it cuts off any closed list of them winds as often.
use Rattle.std.proofs.Common.{◌≡◌, ◌≢◌, ◌⊎◌, inl, inr, ℕ, zero, suc, ◌+◌, ◌<◌, ◌≤◌, ◌++◌, ◌∷◌, ℤ, pos, Bool, true, false, List, [], Option, Some, None, IsPermutation, get_or, length, map, set, refl, ap, ap₂, sym, subst, subst₂, ◌∙◌, arith}
use Rattle.std.specs.List.{All, Contains, count_by, flat_map}
use Rattle.std.specs.Option.{MatchOption}
use Rattle.std.proofs.lemmas.Bool.{cases_eq}
use Rattle.std.proofs.lemmas.List.{get_or-map, length-map}
use Rattle.std.proofs.lemmas.List.Elements.{All-append, All-cons, All-contains, All-nil, All-weaker, Contains-append_cases, Contains-append_left, Contains-append_right, Contains-get_or}
use Rattle.std.proofs.lemmas.List.Sorted.{All-permutation, Contains-permutation, IsPermutation-sym}
use Rattle.std.proofs.lemmas.Option.{same_Some}
use Rattle.plane.specs.declared.edge.Edge.{Edge}
use Rattle.plane.specs.declared.point.Point.{Point}
use Rattle.plane.specs.Ends.{edge_between, end_of, reversed, start_of}
use Rattle.plane.specs.Meet.Edges.{RationalPoint}
use Rattle.plane.proofs.PairsLemmas.Bags.{AllPairs-permutation, Contains-from_map, Contains-map}
use Rattle.noding.specs.Windings.{IsClosed, winding}
use Rattle.noding.proofs.SnapLemmas.Windings.{winding-permutation}
use Rattle.overlay.specs.Contours.Order.{IsCorner, edge_at, point_at}
use Rattle.overlay.specs.Contours.Rings.{ring_edges}
use Rattle.overlay.specs.Contours.Turns.{IsFirstAround, Leaves, NoneLeaves, TakesFirst}
use Rattle.overlay.specs.Contours.Walks.{ArePairs, IsMarked, IsOff, path, unwalked}
use Rattle.overlay.specs.Fill.Filled.{AreDistinct, AreNoded, HaveSameEnds}
use Rattle.overlay.specs.Sides.{AreBorders, HaveOneLeft, IsLow, KeepSides, left_of, sheared, sheared_edge}
use Rattle.overlay.proofs.AreaLemmas.Sheared.{AreDistinct-sheared, AreNoded-sheared, sheared-same}
use Rattle.overlay.proofs.AreaLemmas.Slanted.{slanted-sloped}
use Rattle.overlay.proofs.AreaLemmas.Touching.{point-or}
use Rattle.overlay.proofs.AreaLemmas.Wedges.{IsNextAround}
use Rattle.overlay.proofs.AreaLemmas.Wide.{all-low}
use Rattle.overlay.proofs.ContourLemmas.Rings.{corners-differ, path-more}
use Rattle.overlay.proofs.FillLemmas.Balance.{AreBalanced, balanced}
use Rattle.overlay.proofs.FillLemmas.Premises.{All-among}
use Rattle.overlay.proofs.WindsLemmas.Corners.{left-alike}
use Rattle.overlay.proofs.WindsLemmas.Leaning.{sheared-once}
use Rattle.overlay.proofs.WindsLemmas.Moved.{count_by-map}
use Rattle.overlay.proofs.WindsLemmas.Paired.{IsOneOrNone}
use Rattle.overlay.proofs.WindsLemmas.Pairs.{ArePairsBut, EndsAt, HasCome, IsNextPlace, goes-next, goes-off, meets, next-place, pairs-back, pairs-begin, pairs-end}
use Rattle.overlay.proofs.WindsLemmas.Told.{first-alone, next-first}

-- ---- sheared edges

-- closed edges stay closed
pub closed-sheared : (n : ℕ) (edges : List Edge) → IsClosed edges → IsClosed (map (sheared_edge n) edges)
closed-sheared n edges closed test =
    count_by-map (sheared_edge n) (λ edge. test (start_of edge)) (λ edge. test (sheared n (start_of edge))) edges (All-among (λ edge. test (start_of (sheared_edge n edge)) ≡ test (sheared n (start_of edge))) edges (λ edge among. refl))
    ∙ closed (λ point. test (sheared n point))
    ∙ sym (count_by-map (sheared_edge n) (λ edge. test (end_of edge)) (λ edge. test (sheared n (end_of edge))) edges (All-among (λ edge. test (end_of (sheared_edge n edge)) ≡ test (sheared n (end_of edge))) edges (λ edge among. refl)))

-- those that aren't walked are the sheared ones
unwalked-sheared : (f : Edge → Edge) (edges : List Edge) (used : List Bool) → unwalked (map f edges) used ≡ map f (unwalked edges used)
unwalked-sheared f [] used = refl
unwalked-sheared f (edge ∷ edges) [] = refl
unwalked-sheared f (edge ∷ edges) (true ∷ used) = unwalked-sheared f edges used
unwalked-sheared f (edge ∷ edges) (false ∷ used) = ap (λ (rest : List Edge). f edge ∷ rest) (unwalked-sheared f edges used)

-- ---- a walk

module _ (sorted : List Edge) where
  -- All of these edges have as much on their left as this one.
  abbrev pub AreAlike : List Edge → Edge → Type 0
  AreAlike edges edge =
      (n b : ℕ) → b + b < n → All (IsLow b) sorted → (mine : List Edge) → IsClosed mine → ((e : Edge) → Contains mine e → Contains sorted e) → (one : Edge) → Contains edges one
      → left_of (map (sheared_edge n) mine) (sheared_edge n one) ≡ left_of (map (sheared_edge n) mine) (sheared_edge n edge)

  -- It has come by the edge at this place, by which it goes to the corner where it is.
  pub record HasComeBy (used : List Bool) (stack : List ℕ) (corner : ℕ) (start back : Point) (next : Option ℕ) (last : ℕ) : Type 0 where
    pub inside : last < length sorted
    pub ends : end_of (edge_at sorted last) ≡ point_at sorted corner
    pub back_is : back ≡ point_at sorted last
    pub come : (n b : ℕ) → b + b < n → All (IsLow b) sorted → HasCome (map (sheared_edge n) sorted) used (sheared n start) last
    pub alike : AreAlike (path sorted stack corner) (edge_at sorted last)
    pub takes : TakesFirst sorted used back (point_at sorted corner) next

  -- Rings so far, and where the walk is.
  pub record IsAlong (used : List Bool) (stack : List ℕ) (corner first : ℕ) (rings : List (List Point)) (back : Point) (next : Option ℕ) : Type 0 where
    pub sides : KeepSides sorted rings
    pub begins : point_at sorted (get_or (stack ++ corner ∷ []) 0 0) ≡ point_at sorted first
    pub now : ((next ≡ Some first) × (stack ≡ []) × ArePairs sorted used) ⊎ ((last : ℕ) × HasComeBy used stack corner (point_at sorted first) back next last)

module _ (sorted : List Edge) (are : AreBorders sorted) (closed : IsClosed sorted) where
  -- what stands where nothing does
  abbrev nothing : Edge
  nothing = record { x0 = pos 0; y0 = pos 0; x1 = pos 0; y1 = pos 0 }

  held : (k : ℕ) → k < length sorted → Contains sorted (edge_at sorted k)
  held k inside = Contains-get_or sorted k nothing inside

  two-ends : (k : ℕ) → k < length sorted → point_at sorted k ≢ end_of (edge_at sorted k)
  two-ends k inside = All-contains (λ (e : Edge). start_of e ≢ end_of e) sorted (edge_at sorted k) are.two_ends (held k inside)

  module _ (n b : ℕ) (wide : b + b < n) (low : All (IsLow b) sorted) where
    abbrev leant : List Edge
    leant = map (sheared_edge n) sorted

    some : 0 < n
    some = omega (arith, wide)

    noded : AreNoded leant
    noded = AreNoded-sheared n some sorted are.noded

    distinct : AreDistinct leant
    distinct = AreDistinct-sheared n some sorted are.distinct

    sloped : All (λ edge. edge.x0 ≢ edge.x1) leant
    sloped = All-among (λ (edge : Edge). edge.x0 ≢ edge.x1) leant (slanted-sloped sorted are.two_ends n b wide low)

    once : (point : RationalPoint) → IsOneOrNone (winding leant point)
    once = sheared-once sorted are closed n b wide low

    even : AreBalanced leant
    even = balanced leant (closed-sheared n sorted closed)

    size : length leant ≡ length sorted
    size = length-map sorted (sheared_edge n)

    at-leant : (k : ℕ) → k < length sorted → edge_at leant k ≡ sheared_edge n (edge_at sorted k)
    at-leant k inside = get_or-map (sheared_edge n) sorted k nothing nothing inside

    ends-leant : (k : ℕ) → k < length sorted → end_of (edge_at leant k) ≡ sheared n (end_of (edge_at sorted k))
    ends-leant k inside = ap (λ (e : Edge). end_of e) (at-leant k inside)

    -- the next place in the sheared edges is that of the first one around
    first-around : (i j : ℕ) → IsNextPlace leant i j → IsFirstAround sorted (point_at sorted i) (end_of (edge_at sorted i)) j
    first-around i j next =
        let i_in : i < length sorted = subst (λ (m : ℕ). i < m) size next.0 in
        let j_in : j < length sorted = subst (λ (m : ℕ). j < m) size next.1 in
        let there : sheared n (point_at sorted j) ≡ sheared n (end_of (edge_at sorted i)) =
        sym (ap (λ (e : Edge). start_of e) (at-leant j j_in)) ∙ meets leant noded distinct sloped once even i j next ∙ ends-leant i i_in in
        next-first sorted are n b wide low (end_of (edge_at sorted i)) (point_at sorted i) i i_in refl refl j j_in (sheared-same n some (point_at sorted j) (end_of (edge_at sorted i)) there)
        (subst₂ (λ (e f : Edge). IsNextAround leant (sheared n (end_of (edge_at sorted i))) e f) (at-leant i i_in) (at-leant j j_in)
        (subst (λ (p : Point). IsNextAround leant p (edge_at leant i) (edge_at leant j)) (ends-leant i i_in) next.2))

    -- so it is the next place
    next-around : (i j : ℕ) → i < length sorted → IsFirstAround sorted (point_at sorted i) (end_of (edge_at sorted i)) j → IsNextPlace leant i j
    next-around i j inside is =
        let (k, next) = next-place leant noded distinct sloped once even i (subst (λ (m : ℕ). i < m) (sym size) inside) in
        subst (IsNextPlace leant i) (first-alone sorted (point_at sorted i) (end_of (edge_at sorted i)) k j (two-ends i inside) (first-around i k next) is) next

    -- ---- pairs

    pub pairs-to : (used : List Bool) → ArePairs sorted used → ArePairsBut leant used (λ i. ⊥)
    pairs-to used pairs i j next isnt = pairs i j (subst (λ (m : ℕ). i < m) size next.0) (first-around i j next)

    pub pairs-from : (used : List Bool) → ArePairsBut leant used (λ i. ⊥) → ArePairs sorted used
    pairs-from used pairs i j inside is = pairs i j (next-around i j inside is) (λ h. h)

    -- ---- one step

    leaves-leant : (used : List Bool) (at : Point) (place : ℕ) → Leaves sorted used at place → Leaves leant used (sheared n at) place
    leaves-leant used at place leaves = record {
      inside = subst (λ (m : ℕ). place < m) (sym size) leaves.inside;
      unused = leaves.unused;
      starts = ap (λ (e : Edge). start_of e) (at-leant place leaves.inside) ∙ ap (sheared n) leaves.starts;
    }

    size-used : (used : List Bool) → length used ≡ length sorted → length used ≡ length leant
    size-used used same = same ∙ sym size

    -- as a walk begins
    pub begins-step : (used : List Bool) (start : Point) (place : ℕ) → length used ≡ length sorted → ArePairs sorted used → Leaves sorted used start place → HasCome leant (set used place true) (sheared n start) place
    begins-step used start place same pairs leaves =
        goes-off leant noded distinct sloped once even used (size-used used same) (sheared n start) place (pairs-begin leant used (sheared n start) (pairs-to used pairs)) (leaves-leant used start place leaves)

    -- where it is back
    back-at : (start : Point) (last : ℕ) → last < length sorted → end_of (edge_at sorted last) ≡ start → EndsAt leant (sheared n start) last
    back-at start last inside ends = ends-leant last inside ∙ ap (sheared n) ends

    pub back-step : (used : List Bool) (start : Point) (last place : ℕ) → length used ≡ length sorted → last < length sorted → HasCome leant used (sheared n start) last → end_of (edge_at sorted last) ≡ start → Leaves sorted used start place
        → HasCome leant (set used place true) (sheared n start) place
    back-step used start last place same inside come ends leaves =
        goes-off leant noded distinct sloped once even used (size-used used same) (sheared n start) place (pairs-back leant used (sheared n start) last come (back-at start last inside ends)) (leaves-leant used start place leaves)

    -- and else: it goes along the next edge
    away : (start : Point) (last : ℕ) → last < length sorted → end_of (edge_at sorted last) ≢ start → ¬ (EndsAt leant (sheared n start) last)
    away start last inside differ ends = differ (sheared-same n some (end_of (edge_at sorted last)) start (sym (ends-leant last inside) ∙ ends))

    pub next-step : (used : List Bool) (start : Point) (last place : ℕ) → length used ≡ length sorted → last < length sorted → HasCome leant used (sheared n start) last → end_of (edge_at sorted last) ≢ start
        → TakesFirst sorted used (point_at sorted last) (end_of (edge_at sorted last)) (Some place) → IsNextPlace leant last place × HasCome leant (set used place true) (sheared n start) place
    next-step used start last place same inside come differ takes =
        let off = away start last inside differ in
        let (k, next) = next-place leant noded distinct sloped once even last (subst (λ (m : ℕ). last < m) (sym size) inside) in
        let taken : place ≡ k = same_Some place k (takes last k inside refl refl (first-around last k next) (come.waits off k next)) in
        let is : IsNextPlace leant last place = subst (IsNextPlace leant last) (sym taken) next in (
          is,
          goes-next leant noded distinct sloped once even used (size-used used same) (sheared n start) last place come off is,
        )

    -- there the number on the left stays
    pub left-stays : (i j : ℕ) → IsNextPlace leant i j → (mine : List Edge) → IsClosed mine → ((edge : Edge) → Contains mine edge → Contains sorted edge)
        → left_of (map (sheared_edge n) mine) (sheared_edge n (edge_at sorted i)) ≡ left_of (map (sheared_edge n) mine) (sheared_edge n (edge_at sorted j))
    left-stays i j next mine mine_closed into =
        let i_in : i < length sorted = subst (λ (m : ℕ). i < m) size next.0 in
        let j_in : j < length sorted = subst (λ (m : ℕ). j < m) size next.1 in
        subst₂ (λ (e f : Edge). left_of (map (sheared_edge n) mine) e ≡ left_of (map (sheared_edge n) mine) f) (at-leant i i_in) (at-leant j j_in)
        (left-alike leant noded distinct sloped once even (end_of (edge_at leant i)) (edge_at leant i) (edge_at leant j) next.2 (map (sheared_edge n) mine) (balanced (map (sheared_edge n) mine) (closed-sheared n mine mine_closed)) among refl)
      where
        among : (edge : Edge) → Contains (map (sheared_edge n) mine) edge → Contains leant edge
        among edge inside = let (before, held_it, is) = Contains-from_map (sheared_edge n) mine edge inside in subst (Contains leant) is (Contains-map (sheared_edge n) sorted before (into before held_it))

    -- where it ends
    pub end-pairs : (used : List Bool) (start : Point) (last : ℕ) → length used ≡ length sorted → last < length sorted → HasCome leant used (sheared n start) last → end_of (edge_at sorted last) ≡ start → NoneLeaves sorted used start
        → IsClosed (unwalked sorted used) → ArePairs sorted used
    end-pairs used start last same inside come ends none rest =
        pairs-from used
        (pairs-end leant noded distinct sloped once even used (size-used used same) (sheared n start) (pairs-back leant used (sheared n start) last come (back-at start last inside ends)) none-leant
        (subst IsClosed (sym (unwalked-sheared (sheared_edge n) sorted used)) (closed-sheared n (unwalked sorted used) rest)))
      where
        none-leant : NoneLeaves leant used (sheared n start)
        none-leant k leaves =
            let inside : k < length sorted = subst (λ (m : ℕ). k < m) size leaves.inside in
            none k (record { inside = inside; unused = leaves.unused; starts = sheared-same n some (point_at sorted k) start (sym (ap (λ (e : Edge). start_of e) (at-leant k inside)) ∙ leaves.starts) })

  -- as it begins
  pub along-begins : (used : List Bool) (stack : List ℕ) (corner first : ℕ) (back : Point) → stack ≡ [] → point_at sorted corner ≡ point_at sorted first → ArePairs sorted used → IsAlong sorted used stack corner first [] back (Some first)
  along-begins used stack corner first back none same pairs = record {
    sides = λ n b wide low. All-nil (λ (ring : List Point). HaveOneLeft n sorted (ring_edges ring));
    begins = subst (λ (list : List ℕ). point_at sorted (get_or (list ++ corner ∷ []) 0 0) ≡ point_at sorted first) (sym none) same;
    now = inl (refl, none, pairs);
  }

  -- where the walk is back it is over no corner
  over-none : (marks stack : List ℕ) (corner first : ℕ) → IsMarked sorted marks stack → IsCorner sorted corner → IsOff stack corner → point_at sorted (get_or (stack ++ corner ∷ []) 0 0) ≡ point_at sorted first
      → point_at sorted corner ≡ point_at sorted first → stack ≡ []
  over-none marks [] corner first marked is off begins same = refl
  over-none marks (zeroth ∷ others) corner first marked is off begins same =
      absurd (corners-differ sorted zeroth corner (marked.corners 0 (omega arith)) is (off 0 (omega arith)) (begins ∙ sym same))

  -- a walk over no corner has no edges
  no-path : (stack : List ℕ) (corner : ℕ) → stack ≡ [] → (edge : Edge) → Contains (path sorted stack corner) edge → ⊥
  no-path stack corner none edge inside = let (k, less, is) = subst (λ (list : List ℕ). Contains (path sorted list corner) edge) none inside in omega (arith, less)

  module _ (used : List Bool) (marks stack : List ℕ) (corner first : ℕ) (rings : List (List Point)) (back : Point) (place : ℕ) (same : length used ≡ length sorted) (marked : IsMarked sorted marks stack) (is : IsCorner sorted corner)
      (off : IsOff stack corner) (leaves : Leaves sorted used (point_at sorted corner) place) (along : IsAlong sorted used stack corner first rings back (Some place)) where
    abbrev start : Point
    start = point_at sorted first

    abbrev edge : Edge
    edge = edge_at sorted place

    abbrev Stepped : Type 0
    Stepped = ((n b : ℕ) → b + b < n → All (IsLow b) sorted → HasCome (map (sheared_edge n) sorted) (set used place true) (sheared n start) place) × AreAlike sorted (path sorted stack corner) edge

    -- as it begins, and where it is back, it goes off along any edge
    off-alike : stack ≡ [] → AreAlike sorted (path sorted stack corner) edge
    off-alike none n b wide low mine mine_closed into one inside = absurd (no-path stack corner none one inside)

    at-start : point_at sorted corner ≡ start → Leaves sorted used start place
    at-start here = subst (λ (p : Point). Leaves sorted used p place) here leaves

    step : Stepped
    step = by along.now
      where
        by : ((Some place ≡ Some first) × (stack ≡ []) × ArePairs sorted used) ⊎ ((last : ℕ) × HasComeBy sorted used stack corner start back (Some place) last) → Stepped
        by (inl (next, none, pairs)) = (
          (λ n b wide low. begins-step n b wide low used start place same pairs (at-start (sym (ap (λ (list : List ℕ). point_at sorted (get_or (list ++ corner ∷ []) 0 0)) none) ∙ along.begins))),
          off-alike none,
        )
        by (inr (last, by_last)) = elim (point-or (point_at sorted corner) start) [
          | inl here ↦ (
            (λ n b wide low. back-step n b wide low used start last place same by_last.inside (by_last.come n b wide low) (by_last.ends ∙ here) (at-start here)),
            off-alike (over-none marks stack corner first marked is off along.begins here),
          )
          | inr elsewhere ↦
              let takes : TakesFirst sorted used (point_at sorted last) (end_of (edge_at sorted last)) (Some place) =
              subst₂ (λ (p q : Point). TakesFirst sorted used p q (Some place)) by_last.back_is (sym by_last.ends) by_last.takes in
              let go : (n b : ℕ) → (wide : b + b < n) → (low : All (IsLow b) sorted) → IsNextPlace (map (sheared_edge n) sorted) last place × HasCome (map (sheared_edge n) sorted) (set used place true) (sheared n start) place =
              λ n b wide low. next-step n b wide low used start last place same by_last.inside (by_last.come n b wide low) (λ h. elsewhere (sym by_last.ends ∙ h)) takes in (
                (λ n b wide low. (go n b wide low).1),
                (λ n b wide low mine mine_closed into one inside. by_last.alike n b wide low mine mine_closed into one inside ∙ left-stays n b wide low last place (go n b wide low).0 mine mine_closed into),
              )
        ]

    -- The walk goes along the edge, and loops are cut off.
    module _ (next_corner : ℕ) (stack_after : List ℕ) (others : List (List Point)) (next : Option ℕ) (ends : point_at sorted next_corner ≡ end_of edge)
        (cut : IsPermutation (flat_map ring_edges others ++ path sorted stack_after next_corner) (path sorted (stack ++ corner ∷ []) next_corner))
        (begun : get_or (stack_after ++ next_corner ∷ []) 0 0 ≡ get_or ((stack ++ corner ∷ []) ++ next_corner ∷ []) 0 0) (takes : TakesFirst sorted (set used place true) (point_at sorted place) (point_at sorted next_corner) next) where
      -- all edges of the walk, and of the loops, have as much on their left
      whole : AreAlike sorted (flat_map ring_edges others ++ path sorted stack_after next_corner) edge
      whole n b wide low mine mine_closed into one inside = by (Contains-append_cases (path sorted stack corner) (edge_between (point_at sorted corner) (point_at sorted next_corner) ∷ []) one
          (subst (λ (list : List Edge). Contains list one) (path-more sorted stack corner next_corner) (Contains-permutation (flat_map ring_edges others ++ path sorted stack_after next_corner) (path sorted (stack ++ corner ∷ []) next_corner) one cut inside)))
        where
          by : Contains (path sorted stack corner) one ⊎ Contains (edge_between (point_at sorted corner) (point_at sorted next_corner) ∷ []) one
              → left_of (map (sheared_edge n) mine) (sheared_edge n one) ≡ left_of (map (sheared_edge n) mine) (sheared_edge n edge)
          by (inl before) = step.1 n b wide low mine mine_closed into one before
          by (inr last) =
              let is_last : one ≡ edge = sym (only (edge_between (point_at sorted corner) (point_at sorted next_corner)) one last) ∙ ap₂ edge_between (sym leaves.starts) ends in
              ap (λ (e : Edge). left_of (map (sheared_edge n) mine) (sheared_edge n e)) is_last
            where
              only : (e f : Edge) → Contains (e ∷ []) f → e ≡ f
              only e f (k, less, there) = let zero_is : k ≡ 0 = omega (arith, less) in sym (ap (λ (m : ℕ). get_or (e ∷ []) m f) zero_is) ∙ there

      new-rings : KeepSides sorted others
      new-rings n b wide low = each others (λ one inside. Contains-append_left (flat_map ring_edges others) (path sorted stack_after next_corner) one inside)
        where
          each : (list : List (List Point)) → ((one : Edge) → Contains (flat_map ring_edges list) one → Contains (flat_map ring_edges others ++ path sorted stack_after next_corner) one) → All (λ ring. HaveOneLeft n sorted (ring_edges ring)) list
          each [] among = All-nil (λ (ring : List Point). HaveOneLeft n sorted (ring_edges ring))
          each (ring ∷ list) among =
              All-cons (λ (r : List Point). HaveOneLeft n sorted (ring_edges r)) ring list
              (λ mine mine_closed into one other one_in other_in.
              whole n b wide low mine mine_closed into one (among one (Contains-append_left (ring_edges ring) (flat_map ring_edges list) one one_in))
              ∙ sym (whole n b wide low mine mine_closed into other (among other (Contains-append_left (ring_edges ring) (flat_map ring_edges list) other other_in))))
              (each list (λ one inside. among one (Contains-append_right (ring_edges ring) (flat_map ring_edges list) one inside)))

      pub along-step : IsAlong sorted (set used place true) stack_after next_corner first (rings ++ others) (point_at sorted place) next
      along-step = record {
        sides = λ n b wide low. All-append (λ (ring : List Point). HaveOneLeft n sorted (ring_edges ring)) rings others (along.sides n b wide low) (new-rings n b wide low);
        begins = ap (λ (k : ℕ). point_at sorted k) (begun ∙ first-of stack) ∙ along.begins;
        now = inr (
          place,
          record {
            inside = leaves.inside;
            ends = sym ends;
            back_is = refl;
            come = step.0;
            alike = λ n b wide low mine mine_closed into one inside. whole n b wide low mine mine_closed into one (Contains-append_right (flat_map ring_edges others) (path sorted stack_after next_corner) one inside);
            takes = takes;
          },
        );
      }
        where
          first-of : (list : List ℕ) → get_or ((list ++ corner ∷ []) ++ next_corner ∷ []) 0 0 ≡ get_or (list ++ corner ∷ []) 0 0
          first-of [] = refl
          first-of (k ∷ list) = refl

  -- where it ends, all are pairs again
  pub along-ends : (used : List Bool) (stack : List ℕ) (corner first : ℕ) (rings : List (List Point)) (back : Point) → length used ≡ length sorted → stack ≡ [] → NoneLeaves sorted used (point_at sorted corner) → IsClosed (unwalked sorted used)
      → IsAlong sorted used stack corner first rings back None → KeepSides sorted rings × ArePairs sorted used
  along-ends used stack corner first rings back same none leaves rest along = (along.sides, by along.now)
    where
      here : point_at sorted corner ≡ point_at sorted first
      here = sym (ap (λ (list : List ℕ). point_at sorted (get_or (list ++ corner ∷ []) 0 0)) none) ∙ along.begins

      by : ((None ≡ Some first) × (stack ≡ []) × ArePairs sorted used) ⊎ ((last : ℕ) × HasComeBy sorted used stack corner (point_at sorted first) back None last) → ArePairs sorted used
      by (inl (next, none_over, pairs)) = absurd cc
      by (inr (last, by_last)) =
          let (b, low) = all-low sorted in
          let wide : b + b < suc (b + b) = omega arith in
          end-pairs (suc (b + b)) b wide low used (point_at sorted first) last same by_last.inside (by_last.come (suc (b + b)) b wide low) (by_last.ends ∙ here) (subst (NoneLeaves sorted used) here leaves) rest

-- ---- at first

-- no more are left than there were
unwalked-most : (edges : List Edge) (used : List Bool) → length (unwalked edges used) ≤ length edges
unwalked-most [] used = omega arith
unwalked-most (edge ∷ edges) [] = omega arith
unwalked-most (edge ∷ edges) (true ∷ used) = let most = unwalked-most edges used in omega (arith, most)
unwalked-most (edge ∷ edges) (false ∷ used) = let most = unwalked-most edges used in omega (arith, most)

-- where none is walked all are pairs
pub none-walked : (edges : List Edge) (used : List Bool) → unwalked edges used ≡ edges → (k : ℕ) → k < length edges → length used ≡ length edges → get_or used k true ≡ false
none-walked [] used all k inside size = absurd (omega (arith, inside))
none-walked (edge ∷ edges) [] all k inside size = absurd (omega (arith, size))
none-walked (edge ∷ edges) (true ∷ used) all k inside size =
    let long = ap (λ (list : List Edge). length list) all in let most = unwalked-most edges used in absurd (omega (arith, long, most))
none-walked (edge ∷ edges) (false ∷ used) all zero inside size = refl
none-walked (edge ∷ edges) (false ∷ used) all (suc k) inside size = none-walked edges used (same-tail all) k (omega (arith, inside)) (omega (arith, size))
  where
    same-tail : edge ∷ unwalked edges used ≡ edge ∷ edges → unwalked edges used ≡ edges
    same-tail same = cc

pub pairs-at_first : (sorted : List Edge) (used : List Bool) → unwalked sorted used ≡ sorted → length used ≡ length sorted → ArePairs sorted used
pairs-at_first sorted used all size i j inside is = none-walked sorted used all i inside size ∙ sym (none-walked sorted used all j is.inside size)

-- ---- rings of more, and of edges in another order

pub sides-more : (sorted : List Edge) (rings others : List (List Point)) → KeepSides sorted rings → KeepSides sorted others → KeepSides sorted (rings ++ others)
sides-more sorted rings others first second n b wide low = All-append (λ (ring : List Point). HaveOneLeft n sorted (ring_edges ring)) rings others (first n b wide low) (second n b wide low)

pub sides-none : (sorted : List Edge) → KeepSides sorted []
sides-none sorted n b wide low = All-nil (λ (ring : List Point). HaveOneLeft n sorted (ring_edges ring))

borders-permuted : (edges sorted : List Edge) → IsPermutation edges sorted → AreBorders edges → AreBorders sorted
borders-permuted edges sorted moved are = record {
  noded = λ one other point first second. are.noded one other point (back one first) (back other second);
  distinct = AllPairs-permutation (λ (one other : Edge). ¬ (HaveSameEnds one other)) turned edges sorted moved are.distinct;
  two_ends = All-permutation (λ (edge : Edge). start_of edge ≢ end_of edge) edges sorted moved are.two_ends;
  once = λ point. subst IsOneOrNone (sym (winding-permutation edges sorted point moved)) (are.once point);
}
  where
    back : (edge : Edge) → Contains sorted edge → Contains edges edge
    back edge = Contains-permutation sorted edges edge (IsPermutation-sym edges sorted moved)

    turned : (one other : Edge) → ¬ (HaveSameEnds one other) → ¬ (HaveSameEnds other one)
    turned one other differ (inl same) = differ (inl (sym same))
    turned one other differ (inr same) = differ (inr (sym (ap reversed same)))

pub sides-permuted : (edges sorted : List Edge) (rings : List (List Point)) → IsPermutation edges sorted → (AreBorders sorted → KeepSides sorted rings) → AreBorders edges → KeepSides edges rings
sides-permuted edges sorted rings moved sides are n b wide low =
    All-weaker (λ (ring : List Point). HaveOneLeft n sorted (ring_edges ring)) (λ (ring : List Point). HaveOneLeft n edges (ring_edges ring))
    (λ ring one_left mine closed into. one_left mine closed (λ edge held. Contains-permutation edges sorted edge moved (into edge held))) rings
    (sides (borders-permuted edges sorted moved are) n b wide (All-permutation (IsLow b) edges sorted moved low))
