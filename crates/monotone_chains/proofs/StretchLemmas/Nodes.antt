-- The edge of a stretch of a single edge has the same nodes among the chords of stretches as among all their edges.
use Rattle.std.proofs.Common.{◌≡◌, ◌⊎◌, inl, inr, zero, suc, ℕ, ℤ, List, [], ◌∷◌, length, map, refl, sym, subst, arith}
use Rattle.std.specs.List.{All, AllPairs, Contains, flat_map}
use Rattle.std.proofs.lemmas.Bool.{cases_lt}
use Rattle.std.proofs.lemmas.List.Elements.{All-contains}
use Rattle.i_tree.proofs.RootLemmas.Lists.{Contains-here}
use Rattle.plane.specs.declared.edge.Edge.{Edge}
use Rattle.plane.specs.declared.point.Point.{Point}
use Rattle.plane.proofs.PairsLemmas.Bags.{Contains-map}
use Rattle.overlay.proofs.GroupingLemmas.Bags.{Contains-flat_map}
use Rattle.noding.specs.Chains.{CrossAt, IsEnd, IsHot, Passes}
use Rattle.noding.specs.Local.{IsMoved, IsNode, IsNodeChain, MovesInRound}
use Rattle.noding.specs.Windings.{pieces}
use Rattle.monotone_chains.specs.Stretches.{IsLong, IsStretch, chord}
use Rattle.noding.proofs.Callers.{end-hot}
use Rattle.noding.proofs.ChainLemmas.Local.{CrossBeside-exchanged}
use Rattle.noding.proofs.SnapLemmas.Along.{point_at}
use Rattle.monotone_chains.proofs.StretchLemmas.Boxes.{ClearIfLong}
use Rattle.monotone_chains.proofs.StretchLemmas.Moved.{hot-among, moved-among}
use Rattle.monotone_chains.proofs.StretchLemmas.Resting.{Joins, hot-end, long-crossing, long-rests, passed-joins}
use Rattle.monotone_chains.proofs.StretchLemmas.Wound.{single-pieces}

module _ (all : List (List Point)) (each : All IsStretch all) (clear : AllPairs ClearIfLong all) where
  abbrev edges : List Edge
  edges = flat_map pieces all

  abbrev chords : List Edge
  chords = map chord all

  is_stretch : (s : List Point) → Contains all s → IsStretch s
  is_stretch s among = All-contains IsStretch all s each among

  -- the edge of a stretch of a single one is its chord, and among the chords
  single_held : (t : List Point) → Contains all t → ¬ (IsLong t) → (edge : Edge) → Contains (pieces t) edge → Contains chords edge
  single_held t among short edge held = of_one (subst (λ (list : List Edge). Contains list edge) (single-pieces t (is_stretch t among) short) held)
    where
      of_one : Contains (chord t ∷ []) edge → Contains chords edge
      of_one (zero, within, is) = subst (Contains chords) is (Contains-map chord all t among)
      of_one (suc k, within, is) = absurd (omega (arith, within))

  module _ (t : List Point) (among : Contains all t) (short : ¬ (IsLong t)) (edge : Edge) (held : Contains (pieces t) edge) (h : Point) (passes : Passes edge h.x h.y) where
    -- an end of some edge that it passes is hot among the chords
    by_end : (u : List Point) → Contains all u → (other : Edge) → Contains (pieces u) other → Passes other h.x h.y → IsEnd other h.x h.y → IsHot chords h.x h.y
    by_end u among_too other held_too passes_too end = elim (cases_lt 2 (length u)) [
      | inl long ↦ inl (edge, single_held t among short edge held, end_too (passed-joins all each clear u among_too long other held_too t among edge held h.x h.y passes_too passes))
      | inr few ↦ inl (other, single_held u among_too (λ long. omega (arith, long, few)) other held_too, end)
    ]
      where
        end_too : (other ≡ edge) ⊎ Joins other edge h.x → IsEnd edge h.x h.y
        end_too (inl same) = subst (λ (e : Edge). IsEnd e h.x h.y) same end
        end_too (inr joins) = subst (λ (p : Point). IsEnd edge p.x p.y) (sym (joins.only h end refl)) joins.other_end

    -- and so is what two edges cross at
    by_crossing : (u v : List Point) → Contains all u → Contains all v → (one other : Edge) → Contains (pieces u) one → Contains (pieces v) other → CrossAt one other h.x h.y → IsHot edges h.x h.y → IsHot chords h.x h.y
    by_crossing u v first second one other held_one held_other (slanted, (point, of_one, of_other, rounds)) hot = elim (cases_lt 2 (length u)) [
      | inl long ↦ by_end u first one held_one (point, of_one, rounds) (hot-end all each clear u first long one held_one h (point, of_one, rounds) hot)
      | inr few ↦ elim (cases_lt 2 (length v)) [
        | inl long ↦ by_end v second other held_other (point, of_other, rounds) (hot-end all each clear v second long other held_other h (point, of_other, rounds) hot)
        | inr few_too ↦ inr (
          one,
          other,
          single_held u first (λ long. omega (arith, long, few)) one held_one,
          single_held v second (λ long. omega (arith, long, few_too)) other held_other,
          (slanted, (point, of_one, of_other, rounds)),
        )
      ]
    ]

    -- what is hot among the edges is hot among the chords
    pub hot-chords : IsHot edges h.x h.y → IsHot chords h.x h.y
    hot-chords (inl (other, among_edges, end)) =
        let (u, among_too, held_too) = Contains-flat_map pieces all other among_edges in
        by_end u among_too other held_too (end-hot (pieces u) other h.x h.y held_too end).1 end
    hot-chords (inr (one, other, first, second, cross)) =
        let (u, among_one, held_one) = Contains-flat_map pieces all one first in
        let (v, among_other, held_other) = Contains-flat_map pieces all other second in
        by_crossing u v among_one among_other one other held_one held_other cross (inr (one, other, first, second, cross))

  -- ---- what is moved

  -- what moves edges among the edges moves edges among the chords
  moves-chords : (round : ℕ) (x y : ℤ) → MovesInRound edges round x y → MovesInRound chords round x y
  moves-chords zero x y (one, other, first, second, cross) =
      let (t, among, held) = Contains-flat_map pieces all one first in
      let (u, among_too, held_too) = Contains-flat_map pieces all other second in (
        one,
        other,
        single_held t among (λ long. long-crossing all each clear t among long one held u among_too other held_too x y cross) one held,
        single_held u among_too (λ long. long-crossing all each clear u among_too long other held_too t among one held x y (CrossBeside-exchanged one other x y cross)) other held_too,
        cross,
      )
  moves-chords (suc round) x y (hot, (edge, among_edges, passes, (a, b, moves, passes_there, beside))) =
      let (t, among, held) = Contains-flat_map pieces all edge among_edges in
      let short : ¬ (IsLong t) = λ long. long-rests all each clear t among long edge held round (a, b, moves, passes_there, beside) in
      (hot-chords t among short edge held (point_at x y) passes hot, (edge, single_held t among short edge held, passes, (a, b, moves-chords round a b moves, passes_there, beside)))

  moved-chords : (edge : Edge) → IsMoved edges edge → IsMoved chords edge
  moved-chords edge (x, y, (round, moves), passes, beside) = (x, y, (round, moves-chords round x y moves), passes, beside)

  -- ---- chains

  -- so the chain of a single edge among the chords is its chain among the edges
  pub single-chain : (t : List Point) → Contains all t → ¬ (IsLong t) → (chain : List Point) → IsNodeChain chords (chord t) chain → IsNodeChain edges (chord t) chain
  single-chain t among short chain is = record {
    in_order = is.in_order;
    once = is.once;
    exact = λ c. (λ inside. node c ((is.exact c).0 inside), λ told. (is.exact c).1 (node_back c told));
  }
    where
      held : Contains (pieces t) (chord t)
      held = subst (λ (list : List Edge). Contains list (chord t)) (sym (single-pieces t (is_stretch t among) short)) (Contains-here (chord t) [])

      node : (c : Point) → IsNode chords (chord t) c.x c.y → IsNode edges (chord t) c.x c.y
      node c (hot, passes, inl on) = (hot-among all each clear c hot, passes, inl on)
      node c (hot, passes, inr moved) = (hot-among all each clear c hot, passes, inr (moved-among all each clear (chord t) moved))

      node_back : (c : Point) → IsNode edges (chord t) c.x c.y → IsNode chords (chord t) c.x c.y
      node_back c (hot, passes, inl on) = (hot-chords t among short (chord t) held c passes hot, passes, inl on)
      node_back c (hot, passes, inr moved) = (hot-chords t among short (chord t) held c passes hot, passes, inr (moved-chords (chord t) moved))
