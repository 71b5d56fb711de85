-- The shapes at the points of paths and the parallelograms along their edges wind around the points of the sum of these paths and
-- the shape, and around no others.
use Rattle.std.proofs.Common.{◌≡◌, ◌≢◌, ◌⊎◌, inl, inr, ⊎_elim, ℕ, zero, suc, ◌*◌, ℤ, pos, ◌+ℤ◌, ◌-ℤ◌, ◌*ℤ◌, ◌≤ℤ◌, ◌<ℤ◌, List, [], ◌∷◌, ◌++◌, refl, ap, ap₂, subst, sym, ◌∙◌, arith}
use Rattle.std.specs.List.{All, Contains, flat_map}
use Rattle.std.proofs.lemmas.Int.{by_lt_z, ints}
use Rattle.std.proofs.lemmas.List.Elements.{All-contains, Contains-append_left, Contains-append_right}
use Rattle.i_tree.proofs.RootLemmas.Lists.{Contains-here, Contains-there}
use Rattle.plane.specs.declared.edge.Edge.{Edge}
use Rattle.plane.specs.declared.point.Point.{Point}
use Rattle.plane.specs.Ends.{edge_between, end_of, start_of}
use Rattle.plane.specs.Meet.Edges.{IsOf, RationalPoint}
use Rattle.plane.specs.Meet.Kinds.{IsAt}
use Rattle.plane.proofs.MeetLemmas.Along.{goes}
use Rattle.plane.proofs.MeetLemmas.Identities.{identity, minus, number, plus, times}
use Rattle.noding.specs.Windings.{IsClosed, pieces, winding}
use Rattle.noding.proofs.SnapLemmas.Numbers.{n_of}
use Rattle.overlay.specs.Fill.Pieces.{total}
use Rattle.overlay.proofs.FillLemmas.Premises.{All-among}
use Rattle.overlay.proofs.FillLemmas.Totals.{total-append, total-none, total-same}
use Rattle.overlay.proofs.GroupingLemmas.Bags.{Contains-in_flat_map}
use Rattle.offset.specs.Lines.{IsOfPath, IsOfPaths, along, raw_of_path, raw_of_paths, shape_at}
use Rattle.offset.specs.Raw.{GoesThrough, furthest, moved}
use Rattle.offset.specs.Shape.{IsConvexAroundOrigin, IsIn}
use Rattle.offset.specs.Sum.{IsOfSumWith}
use Rattle.plane.specs.Ends.{reversed}
use Rattle.offset.proofs.LineLemmas.Along.{along-closed, along-gain, along-proper}
use Rattle.offset.proofs.LineLemmas.Around.{seen_from, shape-closed, shape-gain, shape-inside, shape-natural, shape-strictly}
use Rattle.offset.proofs.LineLemmas.Covers.{edge-covers, point-inside}
use Rattle.offset.proofs.LineLemmas.Round.{closed-of, gain}
use Rattle.offset.proofs.PieceLemmas.Parts.{passed_by-reversed, total-flat, total-from, total-natural, total-some}
use Rattle.offset.proofs.PieceLemmas.Sides.{all_passed, passed_by, winding-passed}

-- both ends of a piece are points of the path
piece-ends : (path : List Point) (edge : Edge) → Contains (pieces path) edge → Contains path (start_of edge) × Contains path (end_of edge)
piece-ends [] edge (k, within, is) = absurd (omega (arith, within))
piece-ends (one ∷ []) edge (k, within, is) = absurd (omega (arith, within))
piece-ends (one ∷ next ∷ others) edge (zero, within, is) = ((0, omega arith, ap start_of is), (1, omega arith, ap end_of is))
piece-ends (one ∷ next ∷ others) edge (suc k, within, is) =
    let (first, second) = piece-ends (next ∷ others) edge (k, omega (arith, within), is) in
    (Contains-there one (next ∷ others) (start_of edge) first, Contains-there one (next ∷ others) (end_of edge) second)

-- an edge that is a point counts nothing
none-passed : (edge : Edge) (point : RationalPoint) → start_of edge ≡ end_of edge → passed_by edge point ≡ pos 0
none-passed edge point same =
    let back = passed_by-reversed edge point in
    let turned : passed_by (reversed edge) point ≡ passed_by edge point = ap (λ (e : Edge). passed_by e point) (ap₂ edge_between (sym same) same) in
    omega (arith, ints, back, turned)

module _ (corners : List Point) (convex : IsConvexAroundOrigin corners) where
  -- ---- closed

  path-gain : (give : Point → ℤ) (path : List Point) → total (gain give) (raw_of_path corners path) ≡ pos 0
  path-gain give path =
      let first = total-flat (gain give) (shape_at corners) path ∙ total-none (λ (at : Point). total (gain give) (shape_at corners at)) path (All-among (λ (at : Point). total (gain give) (shape_at corners at) ≡ pos 0) path (λ at held. shape-gain corners convex at give)) in
      let second = total-flat (gain give) (along corners) (pieces path) ∙ total-none (λ (edge : Edge). total (gain give) (along corners edge)) (pieces path) (All-among (λ (edge : Edge). total (gain give) (along corners edge) ≡ pos 0) (pieces path) (λ edge held. along-gain corners convex edge give)) in
      let sum = total-append (gain give) (flat_map (shape_at corners) path) (flat_map (along corners) (pieces path)) in
      omega (arith, ints, first, second, sum)

  -- All of them are closed.
  pub paths-closed : (paths : List (List Point)) → IsClosed (raw_of_paths corners paths)
  paths-closed paths = closed-of (raw_of_paths corners paths)
      (λ give. total-flat (gain give) (raw_of_path corners) paths ∙ total-none (λ (path : List Point). total (gain give) (raw_of_path corners path)) paths (All-among (λ (path : List Point). total (gain give) (raw_of_path corners path) ≡ pos 0) paths (λ path held. path-gain give path)))

  module _ (point : RationalPoint) where
    abbrev passes : Edge → ℤ
    passes edge = passed_by edge point

    abbrev shape_winds : Point → ℤ
    shape_winds at = total passes (shape_at corners at)

    abbrev along_winds : Edge → ℤ
    along_winds edge = total passes (along corners edge)

    abbrev path_winds : List Point → ℤ
    path_winds path = total shape_winds path +ℤ total along_winds (pieces path)

    -- ---- what they wind

    paths-wind : (paths : List (List Point)) → winding (raw_of_paths corners paths) point ≡ total path_winds paths
    paths-wind paths =
        winding-passed (raw_of_paths corners paths) point
        ∙ total-flat passes (raw_of_path corners) paths
        ∙ total-same (λ (path : List Point). total passes (raw_of_path corners path)) path_winds paths (All-among (λ (path : List Point). total passes (raw_of_path corners path) ≡ path_winds path) paths (λ path held. each path))
      where
        each : (path : List Point) → total passes (raw_of_path corners path) ≡ path_winds path
        each path =
            total-append passes (flat_map (shape_at corners) path) (flat_map (along corners) (pieces path))
            ∙ ap₂ (λ (y z : ℤ). y +ℤ z) (total-flat passes (shape_at corners) path) (total-flat passes (along corners) (pieces path))

    shape-above : (at : Point) → pos 0 ≤ℤ shape_winds at
    shape-above at = subst (λ z. pos 0 ≤ℤ z) (winding-passed (shape_at corners at) point) (shape-natural corners convex at point)

    -- an edge that is a point has a parallelogram that winds around nothing
    along-none : (edge : Edge) → (edge.x0 ≡ edge.x1) × (edge.y0 ≡ edge.y1) → along_winds edge ≡ pos 0
    along-none edge (same_x, same_y) =
        let first = none-passed (edge_between (moved a u) (moved a v)) point (ap (moved a) same) in
        let third = none-passed (edge_between (moved b v) (moved b u)) point (ap (moved b) (sym same)) in
        let second : passed_by (edge_between (moved v a) (moved v b)) point ≡ passed_by (edge_between (moved u a) (moved u b)) point = ap (λ (p : Point). passed_by (edge_between (moved p a) (moved p b)) point) (sym same) in
        let back = passed_by-reversed (edge_between (moved u a) (moved u b)) point in
        omega (arith, ints, first, third, second, back)
      where
        a : Point
        a = furthest corners edge

        b : Point
        b = furthest corners (reversed edge)

        u : Point
        u = start_of edge

        v : Point
        v = end_of edge

        same : start_of edge ≡ end_of edge
        same = ap₂ at same_x same_y
          where
            at : ℤ → ℤ → Point
            at x y = record { x = x; y = y }

    is-proper : (edge : Edge) → (edge.x0 ≢ edge.x1) ⊎ (edge.y0 ≢ edge.y1) → start_of edge ≢ end_of edge
    is-proper edge (inl apart) same = apart (ap (λ (p : Point). p.x) same)
    is-proper edge (inr apart) same = apart (ap (λ (p : Point). p.y) same)

    along-above : (edge : Edge) → pos 0 ≤ℤ along_winds edge
    along-above edge = by (goes edge)
      where
        by : ((edge.x0 ≢ edge.x1) ⊎ (edge.y0 ≢ edge.y1)) ⊎ ((edge.x0 ≡ edge.x1) × (edge.y0 ≡ edge.y1)) → pos 0 ≤ℤ along_winds edge
        by (inl apart) = subst (λ z. pos 0 ≤ℤ z) (winding-passed (along corners edge) point) (along-proper corners convex edge (is-proper edge apart) point)
        by (inr same) = let none = along-none edge same in omega (arith, ints, none)

    shapes-above : (path : List Point) → All (λ at. pos 0 ≤ℤ shape_winds at) path
    shapes-above path = All-among (λ (at : Point). pos 0 ≤ℤ shape_winds at) path (λ at held. shape-above at)

    alongs-above : (path : List Point) → All (λ edge. pos 0 ≤ℤ along_winds edge) (pieces path)
    alongs-above path = All-among (λ (edge : Edge). pos 0 ≤ℤ along_winds edge) (pieces path) (λ edge held. along-above edge)

    path-above : (path : List Point) → pos 0 ≤ℤ path_winds path
    path-above path =
        let first = total-natural shape_winds path (shapes-above path) in
        let second = total-natural along_winds (pieces path) (alongs-above path) in
        omega (arith, ints, first, second)

    paths-above : (paths : List (List Point)) → All (λ path. pos 0 ≤ℤ path_winds path) paths
    paths-above paths = All-among (λ (path : List Point). pos 0 ≤ℤ path_winds path) paths (λ path held. path-above path)

    -- They wind around no point less than not at all.
    pub paths-natural : (paths : List (List Point)) → pos 0 ≤ℤ winding (raw_of_paths corners paths) point
    paths-natural paths = let is = paths-wind paths in let more = total-natural path_winds paths (paths-above paths) in omega (arith, ints, is, more)

    -- ---- not too much

    at-sum : (paths : List (List Point)) (path : List Point) → Contains paths path → (at : Point) → Contains path at → IsIn corners (seen_from point at) → IsOfSumWith (λ from. IsOfPaths paths from) corners point
    at-sum paths path among at held inside = record {
      from = record { n = 1; x = at.x; y = at.y; positive = omega arith };
      by = seen_from point at;
      inside = (path, among, inl (at, held, record { x_is = omega (arith, ints); y_is = omega (arith, ints) }));
      of_shape = inside;
      x = adds point.n point.x at.x;
      y = adds point.n point.y at.y;
    }
      where
        adds : (n : ℕ) (p a : ℤ) → (pos (1 * n) *ℤ p) ≡ (pos n *ℤ ((a *ℤ pos n) +ℤ ((p -ℤ (pos n *ℤ a)) *ℤ pos 1)))
        adds n p a = identity (times (n_of (1 * n)) (number p)) (times (n_of n) (plus (times (number a) (n_of n)) (times (minus (number p) (times (n_of n) (number a))) (n_of 1)))) (omega arith)

    edge-sum : (paths : List (List Point)) (path : List Point) → Contains paths path → (edge : Edge) → Contains (pieces path) edge → IsOfSumWith (λ from. IsOf edge from) corners point → IsOfSumWith (λ from. IsOfPaths paths from) corners point
    edge-sum paths path among edge held sum = record { from = sum.from; by = sum.by; inside = (path, among, inr (edge, held, sum.inside)); of_shape = sum.of_shape; x = sum.x; y = sum.y }

    -- Where they wind around a point, this is of the sum.
    pub paths-sum : (paths : List (List Point)) → winding (raw_of_paths corners paths) point ≢ pos 0 → IsOfSumWith (λ from. IsOfPaths paths from) corners point
    paths-sum paths winds =
        let (path, among, some) = total-some path_winds paths (λ none. winds (paths-wind paths ∙ none)) in
        by_lt_z (pos 0) (total shape_winds path)
        (λ above. shape path among (total-some shape_winds path (λ none. omega (arith, ints, above, none))))
        (λ upto.
        let from = total-natural shape_winds path (shapes-above path) in
        band path among (total-some along_winds (pieces path) (λ none. some (omega (arith, ints, upto, from, none)))))
      where
        shape : (path : List Point) → Contains paths path → (at : Point) × Contains path at × (shape_winds at ≢ pos 0) → IsOfSumWith (λ from. IsOfPaths paths from) corners point
        shape path among (at, held, some) = at-sum paths path among at held (shape-closed corners convex at point (λ none. some (sym (winding-passed (shape_at corners at) point) ∙ none)))

        band : (path : List Point) → Contains paths path → (edge : Edge) × Contains (pieces path) edge × (along_winds edge ≢ pos 0) → IsOfSumWith (λ from. IsOfPaths paths from) corners point
        band path among (edge, held, some) = by (goes edge)
          where
            by : ((edge.x0 ≢ edge.x1) ⊎ (edge.y0 ≢ edge.y1)) ⊎ ((edge.x0 ≡ edge.x1) × (edge.y0 ≡ edge.y1)) → IsOfSumWith (λ from. IsOfPaths paths from) corners point
            by (inl apart) = edge-sum paths path among edge held (along-closed corners convex edge (is-proper edge apart) point (λ none. some (sym (winding-passed (along corners edge) point) ∙ none)))
            by (inr same) = absurd (some (along-none edge same))

    -- ---- not too little

    module _ (paths : List (List Point)) (off : All (λ edge. ¬ (GoesThrough edge point)) (raw_of_paths corners paths)) where
      off-edge : (edge : Edge) → Contains (raw_of_paths corners paths) edge → ¬ (GoesThrough edge point)
      off-edge edge held = All-contains (λ (e : Edge). ¬ (GoesThrough e point)) (raw_of_paths corners paths) edge off held

      off-shape : (path : List Point) → Contains paths path → (at : Point) → Contains path at → (edge : Edge) → Contains (shape_at corners at) edge → ¬ (GoesThrough edge point)
      off-shape path among at held edge inside =
          off-edge edge (Contains-in_flat_map (raw_of_path corners) paths path edge among
          (Contains-append_left (flat_map (shape_at corners) path) (flat_map (along corners) (pieces path)) edge (Contains-in_flat_map (shape_at corners) path at edge held inside)))

      off-along : (path : List Point) → Contains paths path → (piece : Edge) → Contains (pieces path) piece → (edge : Edge) → Contains (along corners piece) edge → ¬ (GoesThrough edge point)
      off-along path among piece held edge inside =
          off-edge edge (Contains-in_flat_map (raw_of_path corners) paths path edge among
          (Contains-append_right (flat_map (shape_at corners) path) (flat_map (along corners) (pieces path)) edge (Contains-in_flat_map (along corners) (pieces path) piece edge held inside)))

      path-winds : (path : List Point) → Contains paths path → pos 0 <ℤ path_winds path → pos 0 <ℤ winding (raw_of_paths corners paths) point
      path-winds path among some =
          let is = paths-wind paths in
          let all = total-from path_winds paths (paths-above paths) path among in
          omega (arith, ints, is, all, some)

      shape-wound : (path : List Point) → Contains paths path → (at : Point) → Contains path at → pos 0 <ℤ winding (shape_at corners at) point → pos 0 <ℤ winding (raw_of_paths corners paths) point
      shape-wound path among at held some =
          let is = winding-passed (shape_at corners at) point in
          let one = total-from shape_winds path (shapes-above path) at held in
          let other = total-natural along_winds (pieces path) (alongs-above path) in
          path-winds path among (omega (arith, ints, is, some, one, other))

      along-wound : (path : List Point) → Contains paths path → (edge : Edge) → Contains (pieces path) edge → pos 0 <ℤ winding (along corners edge) point → pos 0 <ℤ winding (raw_of_paths corners paths) point
      along-wound path among edge held some =
          let is = winding-passed (along corners edge) point in
          let one = total-from along_winds (pieces path) (alongs-above path) edge held in
          let other = total-natural shape_winds path (shapes-above path) in
          path-winds path among (omega (arith, ints, is, some, one, other))

      from-shape : (path : List Point) → Contains paths path → (at : Point) → Contains path at → IsIn corners (seen_from point at) → pos 0 <ℤ winding (raw_of_paths corners paths) point
      from-shape path among at held inside = shape-wound path among at held (shape-inside corners convex at point (shape-strictly corners convex at point inside (off-shape path among at held)))

      -- the point alone, as an edge
      alone : (at : Point) (from : RationalPoint) → IsAt from at.x at.y → IsOf (edge_between at at) from
      alone at from is = (0, record { share = omega arith; x = is.x_is ∙ last from.n at.x; y = is.y_is ∙ last from.n at.y })
        where
          last : (n : ℕ) (z : ℤ) → (pos n *ℤ z) ≡ ((pos n *ℤ z) +ℤ (pos 0 *ℤ (z -ℤ z)))
          last n z = identity (times (n_of n) (number z)) (plus (times (n_of n) (number z)) (times (n_of 0) (minus (number z) (number z)))) (omega arith)

      -- They wind around each point of the sum that isn't of them.
      pub paths-cover : IsOfSumWith (λ from. IsOfPaths paths from) corners point → pos 0 <ℤ winding (raw_of_paths corners paths) point
      paths-cover sum = by sum.inside
        where
          by : IsOfPaths paths sum.from → pos 0 <ℤ winding (raw_of_paths corners paths) point
          by (path, among, inl (at, held, is)) =
              from-shape path among at held
              (point-inside corners convex (edge_between at at) point (record { from = sum.from; by = sum.by; inside = alone at sum.from is; of_shape = sum.of_shape; x = sum.x; y = sum.y }) (refl, refl))
          by (path, among, inr (edge, held, of)) = along_or (goes edge)
            where
              of_edge : IsOfSumWith (λ from. IsOf edge from) corners point
              of_edge = record { from = sum.from; by = sum.by; inside = of; of_shape = sum.of_shape; x = sum.x; y = sum.y }

              ends : Contains path (start_of edge) × Contains path (end_of edge)
              ends = piece-ends path edge held

              along_or : ((edge.x0 ≢ edge.x1) ⊎ (edge.y0 ≢ edge.y1)) ⊎ ((edge.x0 ≡ edge.x1) × (edge.y0 ≡ edge.y1)) → pos 0 <ℤ winding (raw_of_paths corners paths) point
              along_or (inr same) = from-shape path among (start_of edge) ends.0 (point-inside corners convex edge point of_edge same)
              along_or (inl apart) =
                  ⊎_elim (shape-wound path among (start_of edge) ends.0)
                  (λ rest. ⊎_elim (shape-wound path among (end_of edge) ends.1) (along-wound path among edge held) rest)
                  (edge-covers corners convex edge point of_edge (is-proper edge apart) (off-shape path among (start_of edge) ends.0) (off-shape path among (end_of edge) ends.1) (off-along path among edge held))
