-- Along a ring beside which a polygon's rings wind alike all together, each of these by itself winds alike on both sides of a point
-- at which it comes free of the others.
use Rattle.std.proofs.Common.{◌≡◌, ◌≢◌, ◌⊎◌, ◌<◌, inl, inr, zero, suc, ℕ, ℤ, ◌+ℤ◌, Bool, true, false, not, ◌&&◌, cond, List, [], ◌∷◌, get_or, length, refl, ap, sym, subst, ◌∙◌, arith}
use Rattle.std.specs.List.{All, Contains, flat_map}
use Rattle.std.proofs.lemmas.Int.{ints}
use Rattle.std.proofs.lemmas.List.Elements.{Contains-get_or}
use Rattle.i_tree.proofs.RootLemmas.Lists.{Contains-here, Contains-there}
use Rattle.plane.specs.declared.edge.Edge.{Edge}
use Rattle.plane.specs.declared.point.Point.{Point}
use Rattle.plane.specs.Ends.{end_of, start_of}
use Rattle.overlay.specs.Contours.Rings.{IsRing, ring_edges}
use Rattle.overlay.specs.Fill.Filled.{AreDistinct, AreNoded}
use Rattle.overlay.specs.Sides.{left_of, sheared, sheared_edge}
use Rattle.overlay.proofs.AreaLemmas.Touching.{Away, Touches, touches-or}
use Rattle.overlay.proofs.FillLemmas.Balance.{AreBalanced}
use Rattle.overlay.proofs.TouchLemmas.AtPoint.{away-alike}
use Rattle.overlay.proofs.TouchLemmas.Picked.{is_place, is_place-own, is_place-same, left-one, left-parts, picked, picked-all, picked-balanced, picked-of, picked-same}
use Rattle.overlay.proofs.TouchLemmas.RoundRing.{round-ring}

-- One of the edges touches the point, or all are away from it.
pub any-touch : (at : Point) (edges : List Edge) → ((edge : Edge) × Contains edges edge × Touches at edge) ⊎ ((edge : Edge) → Contains edges edge → Away at edge)
any-touch at [] = inr (λ edge (k, within, is). absurd (omega (arith, within)))
any-touch at (first ∷ others) =
    elim (touches-or at first) [
      | inl touches ↦ inl (first, Contains-here first others, touches)
      | inr away ↦ elim (any-touch at others) [
        | inl found ↦ (let (edge, held, touches) = found in inl (edge, Contains-there first others edge held, touches))
        | inr all ↦ inr (λ edge held. either edge away all held)
      ]
    ]
  where
    either : (edge : Edge) → Away at first → ((other : Edge) → Contains others other → Away at other) → Contains (first ∷ others) edge → Away at edge
    either edge away all (zero, within, is) = subst (Away at) is away
    either edge away all (suc k, within, is) = all edge (k, omega (arith, within), is)

-- The two are on one side, as the test tells.
abbrev on_side : Bool → Bool → Bool
on_side mine other = cond mine other (not other)

never : false ≡ true → ⊥
never h = cc

is-on : (mine other : Bool) → on_side mine other ≡ true → other ≡ mine
is-on true true on = refl
is-on true false on = absurd (never on)
is-on false true on = absurd (never on)
is-on false false on = refl

is-off : (mine other : Bool) → not (on_side mine other) ≡ true → other ≢ mine
is-off true true off = absurd (never off)
is-off true false off = λ same. never same
is-off false true off = λ same. never (sym same)
is-off false false off = absurd (never off)

itself : (mine : Bool) → on_side mine mine ≡ true
itself true = refl
itself false = refl

-- a test that passes one place passes there together with it
at-place : (test : ℕ → Bool) (place : ℕ) → test place ≡ true → (k : ℕ) → (test k && is_place k place) ≡ is_place k place
at-place test place passes k = by (is_place k place) refl
  where
    alone : (t : Bool) → (t && false) ≡ false
    alone true = refl
    alone false = refl

    by : (t : Bool) → is_place k place ≡ t → (test k && t) ≡ t
    by true is = ap (λ (s : Bool). s && true) (ap test (is_place-same k place is) ∙ passes)
    by false isnt = alone (test k)

-- what is not the place, and passes
both-pass : (t u : Bool) → (t && not u) ≡ true → (t ≡ true) × (u ≡ false)
both-pass true true on = absurd (never on)
both-pass true false on = (refl, refl)
both-pass false u on = absurd (never on)

not-place : (place k : ℕ) → is_place k place ≡ false → k ≢ place
not-place place k isnt same = never (sym isnt ∙ subst (λ (j : ℕ). is_place j place ≡ true) (sym same) (is_place-own place))

-- An edge of the list at this place has the point as an end, once that is sheared.
abbrev pub Passes : ℕ → List (List Edge) → ℕ → Point → Type 0
Passes n lists k at = (k < length lists) × ((edge : Edge) × Contains (get_or lists k []) edge × Touches (sheared n at) edge)

module _ (n : ℕ) (edges : List Edge) (noded : AreNoded edges) (distinct : AreDistinct edges) (sloped : All (λ edge. edge.x0 ≢ edge.x1) edges) (rings : List (List Edge)) (even : (list : List Edge) → Contains rings list → AreBalanced list)
    (into : (list : List Edge) → Contains rings list → (edge : Edge) → Contains list edge → Contains edges edge) where
  picked-into : (test : ℕ → Bool) (edge : Edge) → Contains (picked test rings) edge → Contains edges edge
  picked-into test edge held = let (k, within, passes, on) = picked-of test rings edge held in into (get_or rings k []) (Contains-get_or rings k [] within) edge on

  module _ (ring : List Point) (is : IsRing ring) (its : (edge : Edge) → Contains (ring_edges ring) edge → Contains edges (sheared_edge n edge))
      (alike : (one other : Edge) → Contains (ring_edges ring) one → Contains (ring_edges ring) other → left_of (flat_map (λ list. list) rings) (sheared_edge n one) ≡ left_of (flat_map (λ list. list) rings) (sheared_edge n other))
      (place : ℕ) (within : place < length rings) (point : Point) (side : ℕ → Bool) (together : (j k : ℕ) (at : Point) → Passes n rings j at → Passes n rings k at → at ≢ point → side j ≡ side k) (across : (k : ℕ) → Passes n rings k point → k ≢ place → side k ≢ side place) where
    abbrev test : ℕ → Bool
    test k = on_side (side place) (side k)

    abbrev off : ℕ → Bool
    off k = not (test k)

    abbrev mine : List Edge
    mine = picked test rings

    abbrev rest : List Edge
    rest = picked off rings

    abbrev others : List Edge
    others = picked (λ k. test k && not (is_place k place)) rings

    -- what all wind is what those on the side wind and what the rest does
    both-sides : (edge : Edge) → left_of (flat_map (λ list. list) rings) edge ≡ (left_of mine edge +ℤ left_of rest edge)
    both-sides edge = ap (λ (list : List Edge). left_of list edge) (sym (picked-all rings)) ∙ left-parts (λ k. true) test rings edge

    -- what those on the side wind is what the ring winds and what the others on the side do
    with-others : (edge : Edge) → left_of mine edge ≡ (left_of (get_or rings place []) edge +ℤ left_of others edge)
    with-others edge =
        left-parts test (λ k. is_place k place) rings edge
        ∙ ap (λ (z : ℤ). z +ℤ left_of others edge)
        (ap (λ (list : List Edge). left_of list edge) (picked-same (λ k. test k && is_place k place) (λ k. is_place k place) rings (at-place test place (itself (side place)))) ∙ left-one rings place edge within)

    -- lists that are picked wind alike beside edges at a point from which they are away
    away-picked : (some : ℕ → Bool) (at : Point) → ((edge : Edge) → Contains (picked some rings) edge → Away (sheared n at) edge) → (one other : Edge) → Contains (ring_edges ring) one → Contains (ring_edges ring) other → end_of one ≡ at → start_of other ≡ at
        → left_of (picked some rings) (sheared_edge n one) ≡ left_of (picked some rings) (sheared_edge n other)
    away-picked some at away one other held held_too ends starts =
        away-alike edges noded distinct sloped (picked some rings) (picked-balanced some rings even) (picked-into some) (sheared n at) away (sheared_edge n one) (sheared_edge n other) (its one held) (its other held_too)
        (inr (ap (sheared n) ends)) (inl (ap (sheared n) starts))

    -- where one on the side touches a point, the rest is away from it
    rest-away : (at : Point) → at ≢ point → (edge : Edge) → Contains mine edge → Touches (sheared n at) edge → (other : Edge) → Contains rest other → Away (sheared n at) other
    rest-away at apart edge held touches other held_too =
        elim (touches-or (sheared n at) other) [
          | inr away ↦ away
          | inl touches_too ↦ (
              let (j, inside, passes, on) = picked-of test rings edge held in
              let (k, inside_too, fails, on_too) = picked-of off rings other held_too in
              absurd (is-off (side place) (side k) fails (sym (together j k at (inside, (edge, on, touches)) (inside_too, (other, on_too, touches_too)) apart) ∙ is-on (side place) (side j) passes)))
        ]

    sum-same : (a b c d e f : ℤ) → a ≡ (b +ℤ c) → d ≡ (e +ℤ f) → a ≡ d → c ≡ f → b ≡ e
    sum-same a b c d e f first second same same_too = omega (arith, ints, first, second, same, same_too)

    -- So those on the side wind alike from each edge of the ring to the next one, but at the point.
    step : (one other : Edge) → Contains (ring_edges ring) one → Contains (ring_edges ring) other → end_of one ≡ start_of other → end_of one ≢ point → left_of mine (sheared_edge n one) ≡ left_of mine (sheared_edge n other)
    step one other held held_too meet apart =
        elim (any-touch (sheared n (end_of one)) mine) [
          | inr away ↦ away-picked test (end_of one) away one other held held_too refl (sym meet)
          | inl found ↦ (
              let (edge, on, touches) = found in
              sum-same (left_of (flat_map (λ list. list) rings) (sheared_edge n one)) (left_of mine (sheared_edge n one)) (left_of rest (sheared_edge n one))
              (left_of (flat_map (λ list. list) rings) (sheared_edge n other)) (left_of mine (sheared_edge n other)) (left_of rest (sheared_edge n other))
              (both-sides (sheared_edge n one)) (both-sides (sheared_edge n other)) (alike one other held held_too)
              (away-picked off (end_of one) (rest-away (end_of one) apart edge on touches) one other held held_too refl (sym meet)))
        ]

    -- the others on the side are away from the point
    others-away : (edge : Edge) → Contains others edge → Away (sheared n point) edge
    others-away edge held =
        elim (touches-or (sheared n point) edge) [
          | inr away ↦ away
          | inl touches ↦ (
              let (k, inside, passes, on) = picked-of (λ k. test k && not (is_place k place)) rings edge held in
              let (tested, elsewhere) = both-pass (test k) (is_place k place) passes in
              absurd (across k (inside, (edge, on, touches)) (not-place place k elsewhere) (is-on (side place) (side k) tested)))
        ]

    -- So the ring at the place winds alike on both sides of the point, too.
    pub stays : (c d : Edge) → Contains (ring_edges ring) c → Contains (ring_edges ring) d → end_of c ≡ point → start_of d ≡ point
        → left_of (get_or rings place []) (sheared_edge n c) ≡ left_of (get_or rings place []) (sheared_edge n d)
    stays c d held held_too ends starts =
        sum-same (left_of mine (sheared_edge n c)) (left_of (get_or rings place []) (sheared_edge n c)) (left_of others (sheared_edge n c))
        (left_of mine (sheared_edge n d)) (left_of (get_or rings place []) (sheared_edge n d)) (left_of others (sheared_edge n d))
        (with-others (sheared_edge n c)) (with-others (sheared_edge n d))
        (round-ring ring is (λ (edge : Edge). left_of mine (sheared_edge n edge)) point step c d held held_too ends starts)
        (away-picked (λ k. test k && not (is_place k place)) point others-away c d held held_too ends starts)
