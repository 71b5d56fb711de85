-- What is moved among the chords of stretches is moved among all their edges.
use Rattle.std.proofs.Common.{◌≡◌, ◌++◌, ◌⊎◌, inl, inr, zero, suc, ℕ, ℤ, List, [], ◌∷◌, length, map, refl, sym, subst, arith}
use Rattle.std.specs.List.{All, AllPairs, Contains, flat_map}
use Rattle.std.proofs.lemmas.Bool.{cases_lt}
use Rattle.std.proofs.lemmas.List.Elements.{All-contains}
use Rattle.i_tree.proofs.RootLemmas.Lists.{Contains-here, Contains-there}
use Rattle.plane.specs.declared.edge.Edge.{Edge}
use Rattle.plane.specs.declared.point.Point.{Point}
use Rattle.plane.proofs.PairsLemmas.Bags.{Contains-from_map, Contains-map}
use Rattle.overlay.proofs.GroupingLemmas.Bags.{Contains-in_flat_map}
use Rattle.noding.specs.Chains.{CrossAt, IsEnd, IsHot}
use Rattle.noding.specs.Local.{CrossBeside, IsMoved, MovesInRound, PassesBeside}
use Rattle.plane.specs.Ends.{edge_between, end_of, start_of}
use Rattle.noding.specs.Windings.{pieces}
use Rattle.noding.proofs.ChainLemmas.Local.{CrossBeside-exchanged, has_end}
use Rattle.noding.proofs.SnapLemmas.Along.{point_at}
use Rattle.noding.proofs.SnapLemmas.Crossing.{CrossAt-exchanged, CrossAt-itself}
use Rattle.noding.proofs.SnapLemmas.Local.{common_whole, moves-hot}
use Rattle.monotone_chains.specs.Stretches.{IsLong, IsStretch, chord}
use Rattle.monotone_chains.proofs.StretchLemmas.Adjoin.{passed-adjoin}
use Rattle.monotone_chains.proofs.StretchLemmas.Boxes.{ClearIfLong, IsEnd-tip, IsTip, clear-any, tip-held}
use Rattle.monotone_chains.proofs.StretchLemmas.Unbroken.{hot-tip}
use Rattle.monotone_chains.proofs.StretchLemmas.Ways.{chord-way}
use Rattle.monotone_chains.proofs.StretchLemmas.Wound.{single-pieces}

-- ---- ends

-- An edge among these has this end.
abbrev pub HasEndAmong : List Edge → ℤ → ℤ → Type 0
HasEndAmong edges x y = (edge : Edge) × Contains edges edge × IsEnd edge x y

-- the first of points, and the last
first_held : (from : Point) (inner : List Point) (to : Point) → HasEndAmong (pieces (from ∷ (inner ++ to ∷ []))) from.x from.y
first_held from [] to = (edge_between from to, Contains-here (edge_between from to) [], inl (refl, refl))
first_held from (next ∷ inner) to = (edge_between from next, Contains-here (edge_between from next) (pieces (next ∷ (inner ++ to ∷ []))), inl (refl, refl))

last_held : (from : Point) (inner : List Point) (to : Point) → HasEndAmong (pieces (from ∷ (inner ++ to ∷ []))) to.x to.y
last_held from [] to = (edge_between from to, Contains-here (edge_between from to) [], inr (refl, refl))
last_held from (next ∷ inner) to =
    let (edge, held, end) = last_held next inner to in
    (edge, Contains-there (edge_between from next) (pieces (next ∷ (inner ++ to ∷ []))) edge held, end)

-- so an end of a stretch's chord is one of an edge of the stretch
end-held : (s : List Point) → IsStretch s → (x y : ℤ) → IsEnd (chord s) x y → HasEndAmong (pieces s) x y
end-held s is x y end = go end
  where
    from : HasEndAmong (pieces s) (chord s).x0 (chord s).y0
    from =
        let way = chord-way s is.some in
        subst (λ (points : List Point). HasEndAmong (pieces points) (chord s).x0 (chord s).y0) (sym way.is) (first_held (start_of (chord s)) way.inner (end_of (chord s)))

    to : HasEndAmong (pieces s) (chord s).x1 (chord s).y1
    to =
        let way = chord-way s is.some in
        subst (λ (points : List Point). HasEndAmong (pieces points) (chord s).x1 (chord s).y1) (sym way.is) (last_held (start_of (chord s)) way.inner (end_of (chord s)))

    go : IsEnd (chord s) x y → HasEndAmong (pieces s) x y
    go (inl (at_x, at_y)) = subst (λ (a : ℤ). HasEndAmong (pieces s) a y) (sym at_x) (subst (λ (b : ℤ). HasEndAmong (pieces s) (chord s).x0 b) (sym at_y) from)
    go (inr (at_x, at_y)) = subst (λ (a : ℤ). HasEndAmong (pieces s) a y) (sym at_x) (subst (λ (b : ℤ). HasEndAmong (pieces s) (chord s).x1 b) (sym at_y) to)

-- ---- chords

module _ (all : List (List Point)) (each : All IsStretch all) (clear : AllPairs ClearIfLong all) where
  abbrev edges : List Edge
  edges = flat_map pieces all

  is_stretch : (s : List Point) → Contains all s → IsStretch s
  is_stretch s among = All-contains IsStretch all s each among

  -- the chord of a stretch of a single edge is one of the edges
  single-held : (s : List Point) → Contains all s → ¬ (IsLong s) → Contains edges (chord s)
  single-held s among short =
      Contains-in_flat_map pieces all s (chord s) among
      (subst (λ (list : List Edge). Contains list (chord s)) (sym (single-pieces s (is_stretch s among) short)) (Contains-here (chord s) []))

  -- an end of a chord is hot among the edges
  hot-by_end : (s : List Point) → Contains all s → (x y : ℤ) → IsEnd (chord s) x y → IsHot edges x y
  hot-by_end s among x y end =
      let (edge, held, is) = end-held s (is_stretch s among) x y end in
      inl (edge, Contains-in_flat_map pieces all s edge among held, is)

  -- where the chord of a long stretch crosses another one is an end of it
  long-crossing : (s t : List Point) → Contains all s → Contains all t → IsLong s → (h : Point) → CrossAt (chord s) (chord t) h.x h.y → IsTip s h
  long-crossing s t first second long h cross = passed cross
    where
      hot : IsHot (map chord all) h.x h.y
      hot = inr (chord s, chord t, Contains-map chord all s first, Contains-map chord all t second, cross)

      passed : CrossAt (chord s) (chord t) h.x h.y → IsTip s h
      passed (slanted, (point, of_one, of_other, rounds)) = hot-tip all each clear s first long h (point, of_one, rounds) hot

  -- what is hot among the chords is hot among the edges
  hot-by_crossing : (s t : List Point) → Contains all s → Contains all t → (h : Point) → CrossAt (chord s) (chord t) h.x h.y → IsHot edges h.x h.y
  hot-by_crossing s t first second h cross = elim (cases_lt 2 (length s)) [
    | inl long ↦ hot-by_end s first h.x h.y (IsEnd-tip s h (long-crossing s t first second long h cross))
    | inr few ↦ elim (cases_lt 2 (length t)) [
      | inl long ↦ hot-by_end t second h.x h.y (IsEnd-tip t h (long-crossing t s second first long h (CrossAt-exchanged (chord s) (chord t) h.x h.y cross)))
      | inr few_too ↦ inr (chord s, chord t, single-held s first (λ long. omega (arith, long, few)), single-held t second (λ long. omega (arith, long, few_too)), cross)
    ]
  ]

  pub hot-among : (h : Point) → IsHot (map chord all) h.x h.y → IsHot edges h.x h.y
  hot-among h (inl (edge, held, end)) =
      let (s, among, is) = Contains-from_map chord all edge held in
      hot-by_end s among h.x h.y (subst (λ (e : Edge). IsEnd e h.x h.y) (sym is) end)
  hot-among h (inr (one, other, first, second, cross)) =
      let (s, among, is) = Contains-from_map chord all one first in
      let (t, among_too, is_too) = Contains-from_map chord all other second in
      hot-by_crossing s t among among_too h (subst (λ (e : Edge). CrossAt e (chord t) h.x h.y) (sym is) (subst (λ (e : Edge). CrossAt one e h.x h.y) (sym is_too) cross))

  -- the chord of a long stretch crosses none at a point with fractions
  long-whole : (s t : List Point) → Contains all s → Contains all t → IsLong s → (h : Point) → ¬ (CrossBeside (chord s) (chord t) h.x h.y)
  long-whole s t first second long h (slanted, (point, of_one, of_other, rounds, beside)) = go (clear-any all clear s t first second)
    where
      cross : CrossAt (chord s) (chord t) h.x h.y
      cross = (slanted, (point, of_one, of_other, rounds))

      tip : IsTip s h
      tip = long-crossing s t first second long h cross

      go : (s ≡ t) ⊎ ClearIfLong s t → ⊥
      go (inl same) = CrossAt-itself (chord t) h.x h.y (subst (λ (v : List Point). CrossAt (chord v) (chord t) h.x h.y) same cross)
      go (inr clear_if) =
          let adjoin = passed-adjoin s t (is_stretch s first) (is_stretch t second) (clear_if (inl long)) h.x h.y (point, of_one, rounds) (point, of_other, rounds) in
          let one : h ≡ adjoin.at = adjoin.only h (tip-held s (is_stretch s first) h tip) adjoin.x_is in
          beside
          (common_whole (chord s) (chord t) point h.x h.y slanted of_one of_other (has_end (chord s) h.x h.y (IsEnd-tip s h tip))
          (has_end (chord t) h.x h.y (IsEnd-tip t h (subst (IsTip t) (sym one) adjoin.tip_other))))

  -- nor is it moved
  pub long-still : (s : List Point) → Contains all s → IsLong s → (round : ℕ) → ¬ (PassesBeside (MovesInRound (map chord all) round) (chord s))
  long-still s among long round (x, y, moves, passes, beside) =
      beside (has_end (chord s) x y (IsEnd-tip s (point_at x y) (hot-tip all each clear s among long (point_at x y) passes (moves-hot (map chord all) round x y moves))))

  -- what moves edges among the chords moves edges among the edges
  beside-among : (s t : List Point) → Contains all s → Contains all t → (h : Point) → CrossBeside (chord s) (chord t) h.x h.y → MovesInRound edges 0 h.x h.y
  beside-among s t first second h cross = (
    chord s,
    chord t,
    single-held s first (λ long. long-whole s t first second long h cross),
    single-held t second (λ long. long-whole t s second first long h (CrossBeside-exchanged (chord s) (chord t) h.x h.y cross)),
    cross,
  )

  moves-among : (round : ℕ) (x y : ℤ) → MovesInRound (map chord all) round x y → MovesInRound edges round x y
  moves-among zero x y (one, other, first, second, cross) =
      let (s, among, is) = Contains-from_map chord all one first in
      let (t, among_too, is_too) = Contains-from_map chord all other second in
      beside-among s t among among_too (point_at x y) (subst (λ (e : Edge). CrossBeside e (chord t) x y) (sym is) (subst (λ (e : Edge). CrossBeside one e x y) (sym is_too) cross))
  moves-among (suc round) x y (hot, (edge, held, passes, (a, b, moves, passes_there, beside))) =
      let (s, among, is) = Contains-from_map chord all edge held in
      let still : ¬ (IsLong s) = λ long. long-still s among long round (subst (PassesBeside (MovesInRound (map chord all) round)) (sym is) (a, b, moves, passes_there, beside)) in
      (hot-among (point_at x y) hot, (edge, subst (Contains edges) is (single-held s among still), passes, (a, b, moves-among round a b moves, passes_there, beside)))

  pub moved-among : (edge : Edge) → IsMoved (map chord all) edge → IsMoved edges edge
  moved-among edge (x, y, (round, moves), passes, beside) = (x, y, (round, moves-among round x y moves), passes, beside)
