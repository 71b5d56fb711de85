-- What some of the edges wind just below an edge and just above it, told at a point that is one of its ends: of all edges at the
-- point it is the lowest one over the stretch before it or behind it, or the highest one, or the next one below another.
use Rattle.std.proofs.Common.{◌≡◌, ◌≢◌, ◌⊎◌, inl, inr, ℤ, pos, ◌+ℤ◌, ◌<ℤ◌, Bool, true, false, cond, not, ◌&&◌, List, refl, ap, sym, subst, ◌∙◌, arith}
use Rattle.std.specs.Bool.{MatchBool}
use Rattle.std.specs.List.{All, Contains}
use Rattle.std.proofs.lemmas.Bool.{and_left}
use Rattle.std.proofs.lemmas.Int.{ints}
use Rattle.std.proofs.lemmas.List.Elements.{All-contains}
use Rattle.plane.specs.declared.edge.Edge.{Edge}
use Rattle.plane.specs.declared.point.Point.{Point}
use Rattle.plane.specs.SweepLine.Heights.{rightwards}
use Rattle.overlay.specs.Fill.Counts.{is_over, is_lower_on, below_on}
use Rattle.overlay.specs.Fill.Filled.{AreDistinct, AreNoded, HaveSameEnds}
use Rattle.overlay.specs.Fill.Pieces.{total, weight}
use Rattle.overlay.proofs.AreaLemmas.Beneath.{beneath, is_upto_point, not_above}
use Rattle.overlay.specs.Sides.{along, is_edge, just_above, just_below, upto_on}
use Rattle.overlay.proofs.AreaLemmas.Touching.{Away, Touches, and-alike, and-never, below-off, lower-off, no-beneath, not-above-off, touches-or, upto-off, upto-touching}
use Rattle.overlay.proofs.FillLemmas.Along.{count-along}
use Rattle.overlay.proofs.FillLemmas.Aside.{IsAside, aside}
use Rattle.overlay.proofs.FillLemmas.Balance.{AreBalanced}
use Rattle.overlay.proofs.FillLemmas.Level.{MeetOnly}
use Rattle.overlay.proofs.FillLemmas.Order.{lower-apart, lower-asym, lower-irrefl, lower-trans}
use Rattle.overlay.proofs.FillLemmas.Premises.{All-among}
use Rattle.overlay.proofs.FillLemmas.Tests.{over_is}
use Rattle.overlay.proofs.FillLemmas.Totals.{total-same, total-sum}
use Rattle.overlay.proofs.FillLemmas.Uncrossed.{MeetOnly-exchanged, MeetOnly-rightwards}
use Rattle.overlay.proofs.KeptLemmas.First.{total-one, turned-meet, turned-same}
use Rattle.overlay.proofs.PieceLemmas.Edges.{edge-is}
use Rattle.overlay.proofs.PieceLemmas.Made.{rightwards-onwards}

-- ---- tests

pub not-true : (t : Bool) → ¬ (t ≡ true) → t ≡ false
not-true true isnt = absurd (isnt refl)
not-true false isnt = refl

never : true ≡ false → ⊥
never h = cc

-- what the test of two edges tells
pub told-same : (one other : Edge) (t : Bool) → is_edge one other ≡ t → MatchBool t (one ≡ other) (one ≢ other)
told-same one other t is = subst (λ (s : Bool). MatchBool s (one ≡ other) (one ≢ other)) is (edge-is one other)

-- an edge that isn't above counts below, or is the edge itself
counts-itself : (over above below same : Bool) (w : ℤ) → same ≡ true → over ≡ true → above ≡ false → below ≡ false → cond (over && not above) w (pos 0) ≡ (cond (over && below) w (pos 0) +ℤ cond same w (pos 0))
counts-itself true false false true w first second third fourth = omega (arith, ints)
counts-itself over above below same w first second third fourth = cc

counts-below : (over above below same : Bool) (w : ℤ) → same ≡ false → (over ≡ true → not above ≡ below) → cond (over && not above) w (pos 0) ≡ (cond (over && below) w (pos 0) +ℤ cond same w (pos 0))
counts-below over above below same w first second =
    nothing (cond (over && not above) w (pos 0)) (cond (over && below) w (pos 0)) (cond same w (pos 0)) (ap (λ t. cond t w (pos 0)) (and-alike over (not above) below second)) (ap (λ t. cond t w (pos 0)) first)
  where
    nothing : (a b c : ℤ) → a ≡ b → c ≡ pos 0 → a ≡ (b +ℤ c)
    nothing a b c same none = omega (arith, ints, same, none)

-- what distinct edges weigh along one of them is its own weight
pub along-own : (edges : List Edge) (edge : Edge) → AreDistinct edges → Contains edges edge → total (along (rightwards edge)) edges ≡ weight edge
along-own edges edge distinct among =
    total-one (along (rightwards edge)) edge edges among distinct (λ other held differ. apart other differ (is_edge (rightwards other) (rightwards edge)) refl)
    ∙ itself (is_edge (rightwards edge) (rightwards edge)) refl
  where
    apart : (other : Edge) → ¬ (HaveSameEnds other edge) → (t : Bool) → is_edge (rightwards other) (rightwards edge) ≡ t → along (rightwards edge) other ≡ pos 0
    apart other differ true is = absurd (differ (turned-same other edge (told-same (rightwards other) (rightwards edge) true is)))
    apart other differ false is = ap (λ t. cond t (weight other) (pos 0)) is

    itself : (t : Bool) → is_edge (rightwards edge) (rightwards edge) ≡ t → along (rightwards edge) edge ≡ weight edge
    itself true is = ap (λ t. cond t (weight edge) (pos 0)) is
    itself false is = absurd (told-same (rightwards edge) (rightwards edge) false is refl)

-- ---- just above an edge

module _ (edges : List Edge) (noded : AreNoded edges) (one : Edge) (among : Contains edges one) (x : ℤ) (over : is_over x (rightwards one) ≡ true) where
  abbrev r : Edge
  r = rightwards one

  -- an edge that isn't above it is below it, or it is the edge itself
  parts : (edge : Edge) → Contains edges edge → upto_on x r edge ≡ (below_on x r edge +ℤ along r edge)
  parts edge inside = by (is_edge (rightwards edge) r) refl
    where
      alike : (rightwards edge ≢ r) → is_over x (rightwards edge) ≡ true → not (is_lower_on x r (rightwards edge)) ≡ is_lower_on x (rightwards edge) r
      alike differ over_too =
          elim (lower-apart (rightwards edge) r x (turned-meet edges noded edge one inside among) differ over_too over) [
            | inl lower ↦ ap not (lower-asym x (rightwards edge) r lower) ∙ sym lower
            | inr above ↦ ap not above ∙ sym (lower-asym x r (rightwards edge) above)
          ]

      by : (t : Bool) → is_edge (rightwards edge) r ≡ t → upto_on x r edge ≡ (below_on x r edge +ℤ along r edge)
      by true is =
          let same = told-same (rightwards edge) r true is in
          counts-itself (is_over x (rightwards edge)) (is_lower_on x r (rightwards edge)) (is_lower_on x (rightwards edge) r) (is_edge (rightwards edge) r) (weight edge)
          is (ap (is_over x) same ∙ over) (ap (is_lower_on x r) same ∙ lower-irrefl x r) (ap (λ (s : Edge). is_lower_on x s r) same ∙ lower-irrefl x r)
      by false is =
          counts-below (is_over x (rightwards edge)) (is_lower_on x r (rightwards edge)) (is_lower_on x (rightwards edge) r) (is_edge (rightwards edge) r) (weight edge)
          is (alike (told-same (rightwards edge) r false is))

  -- so what isn't above it is what is below it, and the edge itself
  pub upto-parts : (mine : List Edge) → ((edge : Edge) → Contains mine edge → Contains edges edge) → total (upto_on x r) mine ≡ (total (below_on x r) mine +ℤ total (along r) mine)
  upto-parts mine into =
      total-same (upto_on x r) (λ edge. below_on x r edge +ℤ along r edge) mine (All-among (λ edge. upto_on x r edge ≡ (below_on x r edge +ℤ along r edge)) mine (λ edge held. parts edge (into edge held)))
      ∙ total-sum (below_on x r) (along r) mine

  module _ (mine : List Edge) (closed : AreBalanced mine) (into : (edge : Edge) → Contains mine edge → Contains edges edge) where
    -- What is just below it, told over this stretch.
    pub here : just_below mine one ≡ total (below_on x r) mine
    here =
        let span = over_is x r over in
        sym (count-along r x mine closed (All-among (IsAside r) mine (λ edge held. aside r edge (meets edge (into edge held)))) span.0 span.1)
      where
        meets : (edge : Edge) → Contains edges edge → MeetOnly edge r
        meets edge inside = MeetOnly-exchanged r edge (MeetOnly-rightwards one edge (λ point of_one of_edge. noded one edge point among inside of_one of_edge))

    -- What is just above it.
    pub above : just_above mine one ≡ total (upto_on x r) mine
    above = ap (λ (z : ℤ). z +ℤ total (along r) mine) here ∙ sym (upto-parts mine into)

-- ---- between two edges

module _ (edges : List Edge) (noded : AreNoded edges) (sloped : All (λ edge. edge.x0 ≢ edge.x1) edges) (mine : List Edge) (closed : AreBalanced mine) (into : (edge : Edge) → Contains mine edge → Contains edges edge) where
  -- Where over a stretch none is between the two, they wind just above the lower one as just below the other.
  pub between : (one other : Edge) → Contains edges one → Contains edges other → (x : ℤ) → is_over x (rightwards one) ≡ true → is_over x (rightwards other) ≡ true → is_lower_on x (rightwards one) (rightwards other) ≡ true
      → ((edge : Edge) → Contains edges edge → is_over x (rightwards edge) ≡ true → is_lower_on x (rightwards one) (rightwards edge) ≡ true → ¬ (is_lower_on x (rightwards edge) (rightwards other) ≡ true))
      → just_above mine one ≡ just_below mine other
  between one other among among_too x over over_too less none =
      above edges noded one among x over mine closed into
      ∙ total-same (upto_on x (rightwards one)) (below_on x (rightwards other)) mine
      (All-among (λ edge. upto_on x (rightwards one) edge ≡ below_on x (rightwards other) edge) mine
      (λ edge held.
      ap (λ t. cond t (weight edge) (pos 0)) (and-alike (is_over x (rightwards edge)) (not (is_lower_on x (rightwards one) (rightwards edge))) (is_lower_on x (rightwards edge) (rightwards other))
      (λ over_it. by edge (into edge held) over_it (is_lower_on x (rightwards one) (rightwards edge)) refl))))
      ∙ sym (here edges noded other among_too x over_too mine closed into)
    where
      onwards : (edge : Edge) → Contains edges edge → (rightwards edge).x0 <ℤ (rightwards edge).x1
      onwards edge inside = rightwards-onwards edge (All-contains (λ (e : Edge). e.x0 ≢ e.x1) edges edge sloped inside)

      lower : (edge : Edge) → Contains edges edge → is_over x (rightwards edge) ≡ true → is_lower_on x (rightwards one) (rightwards edge) ≡ false → (t : Bool) → is_edge (rightwards edge) (rightwards one) ≡ t
          → is_lower_on x (rightwards edge) (rightwards other) ≡ true
      lower edge inside over_it isnt true is = subst (λ (r : Edge). is_lower_on x r (rightwards other) ≡ true) (sym (told-same (rightwards edge) (rightwards one) true is)) less
      lower edge inside over_it isnt false is =
          elim (lower-apart (rightwards edge) (rightwards one) x (turned-meet edges noded edge one inside among) (told-same (rightwards edge) (rightwards one) false is) over_it over) [
            | inl below ↦ lower-trans x (rightwards edge) (rightwards one) (rightwards other) (onwards edge inside) (onwards one among) (onwards other among_too) below less
            | inr higher ↦ absurd (never (sym higher ∙ isnt))
          ]

      by : (edge : Edge) → Contains edges edge → is_over x (rightwards edge) ≡ true → (t : Bool) → is_lower_on x (rightwards one) (rightwards edge) ≡ t → not (is_lower_on x (rightwards one) (rightwards edge)) ≡ is_lower_on x (rightwards edge) (rightwards other)
      by edge inside over_it true is = ap not is ∙ sym (not-true (is_lower_on x (rightwards edge) (rightwards other)) (none edge inside over_it is))
      by edge inside over_it false is = ap not is ∙ sym (lower edge inside over_it is (is_edge (rightwards edge) (rightwards one)) refl)

-- ---- at a point

module _ (edges : List Edge) (noded : AreNoded edges) (sloped : All (λ edge. edge.x0 ≢ edge.x1) edges) (mine : List Edge) (closed : AreBalanced mine) (into : (edge : Edge) → Contains mine edge → Contains edges edge) (at : Point) where
  -- sums that are the same edge by edge, of edges that touch the point and of those that don't
  each : (f h : Edge → ℤ) → ((edge : Edge) → Contains edges edge → Touches at edge → f edge ≡ h edge) → ((edge : Edge) → Contains edges edge → Away at edge → f edge ≡ h edge) → total f mine ≡ total h mine
  each f h touching away =
      total-same f h mine (All-among (λ edge. f edge ≡ h edge) mine (λ edge held. elim (touches-or at edge) [ inl is ↦ touching edge (into edge held) is | inr off ↦ away edge (into edge held) off ]))

  module _ (one : Edge) (among : Contains edges one) (touches : Touches at one) (x : ℤ) (side : (at.x ≡ x) ⊎ (at.x ≡ (x +ℤ pos 1))) where
    -- Where no edge that touches the point is over the stretch, what doesn't pass above the point passes below it.
    pub empty : ((edge : Edge) → Contains edges edge → Touches at edge → is_over x (rightwards edge) ≡ false) → total (not_above at x) mine ≡ total (beneath at x) mine
    empty none =
        each (not_above at x) (beneath at x)
        (λ edge inside touching. ap (λ t. cond t (weight edge) (pos 0)) (and_left (is_over x (rightwards edge)) (is_upto_point at (rightwards edge)) (none edge inside touching)) ∙ sym (no-beneath at x edge touching))
        (λ edge inside away. not-above-off edges noded sloped at one among touches x side edge inside away)

    module _ (over : is_over x (rightwards one) ≡ true) where
      abbrev g : Edge
      g = rightwards one

      -- Of all that touch the point none is lower there.
      pub lowest : ((edge : Edge) → Contains edges edge → Touches at edge → is_over x (rightwards edge) ≡ true → ¬ (is_lower_on x (rightwards edge) g ≡ true)) → just_below mine one ≡ total (beneath at x) mine
      lowest none =
          here edges noded one among x over mine closed into
          ∙ each (below_on x g) (beneath at x)
          (λ edge inside touching.
          ap (λ t. cond t (weight edge) (pos 0)) (and-never (is_over x (rightwards edge)) (is_lower_on x (rightwards edge) g) (λ over_too. not-true (is_lower_on x (rightwards edge) g) (none edge inside touching over_too)))
          ∙ sym (no-beneath at x edge touching))
          (λ edge inside away. below-off edges noded sloped at one among touches x side over edge inside away)

      -- None is higher.
      pub highest : ((edge : Edge) → Contains edges edge → Touches at edge → is_over x (rightwards edge) ≡ true → ¬ (is_lower_on x g (rightwards edge) ≡ true)) → just_above mine one ≡ total (not_above at x) mine
      highest none =
          above edges noded one among x over mine closed into
          ∙ each (upto_on x g) (not_above at x)
          (λ edge inside touching.
          ap (λ t. cond t (weight edge) (pos 0)) (and-alike (is_over x (rightwards edge)) (not (is_lower_on x g (rightwards edge))) (is_upto_point at (rightwards edge))
          (λ over_too. ap not (not-true (is_lower_on x g (rightwards edge)) (none edge inside touching over_too)) ∙ sym (upto-touching at edge touching))))
          (λ edge inside away. upto-off edges noded sloped at one among touches x side over edge inside away ∙ sym (not-above-off edges noded sloped at one among touches x side edge inside away))

  -- None of all that touch the point is between the two.
  pub next : (one other : Edge) → Contains edges one → Contains edges other → Touches at one → Touches at other → (x : ℤ) → (at.x ≡ x) ⊎ (at.x ≡ (x +ℤ pos 1)) → is_over x (rightwards one) ≡ true → is_over x (rightwards other) ≡ true
      → is_lower_on x (rightwards one) (rightwards other) ≡ true
      → ((edge : Edge) → Contains edges edge → Touches at edge → is_over x (rightwards edge) ≡ true → is_lower_on x (rightwards one) (rightwards edge) ≡ true → ¬ (is_lower_on x (rightwards edge) (rightwards other) ≡ true))
      → just_above mine one ≡ just_below mine other
  next one other among among_too touches touches_too x side over over_too less none =
      between edges noded sloped mine closed into one other among among_too x over over_too less
      (λ edge inside over_it low_one low_other. elim (touches-or at edge) [
        | inl touching ↦ none edge inside touching over_it low_one low_other
        | inr away ↦ never (sym low_other ∙ (lower-off edges noded sloped at other among_too touches_too x side over_too edge inside away over_it
            ∙ sym (lower-off edges noded sloped at one among touches x side over edge inside away over_it)) ∙ lower-asym x (rightwards one) (rightwards edge) low_one)
      ])
