-- The chain of a long stretch's chord is its two ends.
use Rattle.std.proofs.Common.{◌≡◌, ◌≢◌, ◌⊎◌, inl, inr, ⊎_elim, List, [], ◌∷◌, map, sym, ap, ap₂, ◌∙◌, subst, arith}
use Rattle.std.specs.List.{All, AllPairs, Contains}
use Rattle.std.proofs.lemmas.List.Elements.{All-contains}
use Rattle.i_tree.proofs.RootLemmas.Lists.{Contains-here, Contains-there}
use Rattle.plane.specs.declared.edge.Edge.{Edge}
use Rattle.plane.specs.declared.point.Point.{Point}
use Rattle.plane.proofs.PairsLemmas.Bags.{Contains-from_map, Contains-map}
use Rattle.noding.specs.Chains.{CrossAt, IsEnd, IsHot, Passes}
use Rattle.noding.specs.Local.{IsNodeChain}
use Rattle.plane.specs.Ends.{end_of, start_of}
use Rattle.noding.specs.Windings.{pieces}
use Rattle.monotone_chains.specs.Stretches.{IsLong, IsStretch, chord}
use Rattle.noding.proofs.ChainLemmas.Crossings.{CrossAt-end}
use Rattle.noding.proofs.SnapLemmas.Along.{point_at}
use Rattle.noding.proofs.Callers.{end-hot}
use Rattle.noding.proofs.SnapLemmas.Crossing.{CrossAt-itself}
use Rattle.noding.proofs.SnapLemmas.Local.{IsPath-noded}
use Rattle.noding.proofs.SnapLemmas.Paths.{IsPath}
use Rattle.monotone_chains.proofs.StretchLemmas.Adjoin.{Adjoin, passed-adjoin}
use Rattle.monotone_chains.proofs.StretchLemmas.Boxes.{ClearIfLong, IsEnd-tip, IsTip, chord-sloped, clear-any, tip-IsEnd, tip-held}

-- ---- a chain of which each point is an end of its edge

two_points : (edge : Edge) (chain : List Point) → edge.x1 ≢ edge.x0 → ((c : Point) → Contains chain c → (c ≡ start_of edge) ⊎ (c ≡ end_of edge)) → AllPairs (λ c d. c ≢ d) chain → IsPath edge chain → chain ≡ start_of edge ∷ end_of edge ∷ []
two_points edge [] sloped tips once path = absurd path
two_points edge (from ∷ []) sloped tips once (x, y, passed, (end_x, end_y)) = absurd (sloped (sym end_x ∙ x))
two_points edge (from ∷ to ∷ []) sloped tips once (x, y, passed, (order, passes, (end_x, end_y))) = ap₂ (λ (c d : Point). c ∷ d ∷ []) (ap₂ point_at x y) (ap₂ point_at end_x end_y)
two_points edge (from ∷ to ∷ next ∷ others) sloped tips once (x, y, passed, goes) =
    let start : from ≡ start_of edge = ap₂ point_at x y in
    let second : to ≡ end_of edge = ⊎_elim (λ is. absurd (once 0 1 from (omega arith) (omega arith) (start ∙ sym is))) (λ is. is) (tips to (Contains-there from (to ∷ next ∷ others) to (Contains-here to (next ∷ others)))) in
    let third : next ≡ end_of edge = ⊎_elim (λ is. absurd (once 0 2 from (omega arith) (omega arith) (start ∙ sym is))) (λ is. is) (tips next (Contains-there from (to ∷ next ∷ others) next (Contains-there to (next ∷ others) next (Contains-here next others)))) in
    absurd (once 1 2 from (omega arith) (omega arith) (second ∙ sym third))

-- ---- among stretches

module _ (all : List (List Point)) (each : All IsStretch all) (clear : AllPairs ClearIfLong all) where
  is_stretch : (s : List Point) → Contains all s → IsStretch s
  is_stretch s among = All-contains IsStretch all s each among

  module _ (s : List Point) (among : Contains all s) (long : IsLong s) (h : Point) (passes : Passes (chord s) h.x h.y) where
    -- a stretch whose chord passes it too is this one, or adjoins it
    beside : (t : List Point) → Contains all t → Passes (chord t) h.x h.y → (s ≡ t) ⊎ Adjoin s t h.x
    beside t among_too passes_too =
        ⊎_elim inl (λ clear_if. inr (passed-adjoin s t (is_stretch s among) (is_stretch t among_too) (clear_if (inl long)) h.x h.y passes passes_too))
        (clear-any all clear s t among among_too)

    -- an end of a chord
    hot_end : (t : List Point) → Contains all t → IsEnd (chord t) h.x h.y → IsTip s h
    hot_end t among_too end = go (beside t among_too (end-hot (map chord all) (chord t) h.x h.y (Contains-map chord all t among_too) end).1)
      where
        go : (s ≡ t) ⊎ Adjoin s t h.x → IsTip s h
        go (inl same) = tip-IsEnd s h (subst (λ (u : List Point). IsEnd (chord u) h.x h.y) (sym same) end)
        go (inr adjoin) = subst (IsTip s) (sym (adjoin.only_other h (tip-held t (is_stretch t among_too) h (tip-IsEnd t h end)) adjoin.x_is)) adjoin.tip

    -- a crossing of two
    hot_crossing : (t u : List Point) → Contains all t → Contains all u → CrossAt (chord t) (chord u) h.x h.y → IsTip s h
    hot_crossing t u first second (slanted, (point, of_one, of_other, rounds)) =
        go (beside t first (point, of_one, rounds)) (beside u second (point, of_other, rounds))
      where
        cross : CrossAt (chord t) (chord u) h.x h.y
        cross = (slanted, (point, of_one, of_other, rounds))

        -- the chords share an end, so they cross there
        by_end : (c : Point) → IsEnd (chord t) c.x c.y → IsEnd (chord u) c.x c.y → IsTip s h
        by_end c one other = hot_end t first (CrossAt-end (chord t) (chord u) h.x h.y (c.x, c.y, one, other) cross)

        end_of_same : (v : List Point) (c : Point) → s ≡ v → IsTip s c → IsEnd (chord v) c.x c.y
        end_of_same v c same tip = subst (λ (w : List Point). IsEnd (chord w) c.x c.y) same (IsEnd-tip s c tip)

        go : (s ≡ t) ⊎ Adjoin s t h.x → (s ≡ u) ⊎ Adjoin s u h.x → IsTip s h
        go (inl same) (inl same_too) = absurd (CrossAt-itself (chord u) h.x h.y (subst (λ (v : List Point). CrossAt (chord v) (chord u) h.x h.y) (sym same ∙ same_too) cross))
        go (inl same) (inr adjoin) = by_end adjoin.at (end_of_same t adjoin.at same adjoin.tip) (IsEnd-tip u adjoin.at adjoin.tip_other)
        go (inr adjoin) (inl same) = by_end adjoin.at (IsEnd-tip t adjoin.at adjoin.tip_other) (end_of_same u adjoin.at same adjoin.tip)
        go (inr adjoin) (inr other) =
            let one : adjoin.at ≡ other.at = other.only adjoin.at adjoin.of (sym adjoin.x_is ∙ other.x_is) in
            by_end adjoin.at (IsEnd-tip t adjoin.at adjoin.tip_other) (subst (λ (c : Point). IsEnd (chord u) c.x c.y) (sym one) (IsEnd-tip u other.at other.tip_other))

    -- so a hot point that the chord of a long stretch passes is one of its ends
    pub hot-tip : IsHot (map chord all) h.x h.y → IsTip s h
    hot-tip (inl (edge, held, end)) =
        let (t, among_too, is) = Contains-from_map chord all edge held in
        hot_end t among_too (subst (λ (e : Edge). IsEnd e h.x h.y) (sym is) end)
    hot-tip (inr (one, other, first, second, cross)) =
        let (t, among_one, is_one) = Contains-from_map chord all one first in
        let (u, among_other, is_other) = Contains-from_map chord all other second in
        hot_crossing t u among_one among_other (subst (λ (e : Edge). CrossAt e (chord u) h.x h.y) (sym is_one) (subst (λ (e : Edge). CrossAt one e h.x h.y) (sym is_other) cross))

  -- where that is long, the chain is the chord's two ends
  pub chain-unbroken : (s : List Point) → Contains all s → IsLong s → (chain : List Point) → IsNodeChain (map chord all) (chord s) chain → chain ≡ start_of (chord s) ∷ end_of (chord s) ∷ []
  chain-unbroken s among long chain is =
      two_points (chord s) chain (chord-sloped s (is_stretch s among) long)
      (λ c held. let (hot, passes, node) = (is.exact c).0 held in hot-tip s among long c passes hot)
      is.once (IsPath-noded (map chord all) (chord s) chain is (Contains-map chord all s among))

  -- and its one piece is the chord
  pub pieces-unbroken : (s : List Point) → Contains all s → IsLong s → (chain : List Point) → IsNodeChain (map chord all) (chord s) chain → pieces chain ≡ chord s ∷ []
  pieces-unbroken s among long chain is = ap pieces (chain-unbroken s among long chain is)
