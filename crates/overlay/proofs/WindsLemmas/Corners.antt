-- Around a point at which edges meet that wind once around a point or not at all, edges that end there and edges that start there
-- take turns; and some of them wind alike on the left of one that ends there and of the next one clockwise, which starts there.
use Rattle.std.proofs.Common.{◌≡◌, ◌≢◌, inl, inr, ℕ, ℤ, pos, negsuc, ◌+ℤ◌, ◌-ℤ◌, ◌*ℤ◌, ◌<ℤ◌, Bool, true, cond, ◌&&◌, List, ap, ap₂, sym, ◌∙◌, arith}
use Rattle.std.specs.Int.Signed.{lt_z}
use Rattle.std.specs.List.{All, Contains}
use Rattle.std.specs.Prelude.{int_le, int_lt}
use Rattle.std.proofs.lemmas.Int.{by_lt_z, ints}
use Rattle.std.proofs.lemmas.List.Elements.{All-contains}
use Rattle.plane.specs.declared.edge.Edge.{Edge}
use Rattle.plane.specs.declared.point.Point.{Point}
use Rattle.plane.specs.Ends.{end_of, start_of}
use Rattle.plane.specs.Meet.Edges.{RationalPoint}
use Rattle.plane.specs.SweepLine.Heights.{rightwards, run}
use Rattle.plane.proofs.MeetLemmas.Identities.{identity, minus, number, plus, times}
use Rattle.noding.specs.Windings.{winding}
use Rattle.noding.proofs.SnapLemmas.Counted.{is_counted}
use Rattle.noding.proofs.SnapLemmas.Numbers.{n_of}
use Rattle.overlay.specs.Fill.Counts.{is_over}
use Rattle.overlay.specs.Fill.Filled.{AreDistinct, AreNoded}
use Rattle.overlay.specs.Fill.Pieces.{total, weight}
use Rattle.overlay.proofs.AreaLemmas.Fans.{along-own, upto-parts}
use Rattle.overlay.specs.Sides.{along, just_above, just_below, left_of, right_of, upto_on}
use Rattle.overlay.proofs.AreaLemmas.Wedges.{IsNextAround, clockwise_of, counter_of, left-ending, left-starting, right-ending, right-starting, same-between}
use Rattle.overlay.proofs.BoundaryLemmas.Apart.{lower, upper, winds-more}
use Rattle.overlay.proofs.FillLemmas.Balance.{AreBalanced}
use Rattle.overlay.proofs.FillLemmas.Premises.{All-among}
use Rattle.overlay.proofs.FillLemmas.Tests.{lt_false, lt_true, over_true}
use Rattle.overlay.proofs.FillLemmas.Totals.{total-same}
use Rattle.overlay.proofs.FillLemmas.Weights.{weight-left, weight-right}
use Rattle.overlay.proofs.FillLemmas.Wound.{winding-total}
use Rattle.overlay.proofs.PieceLemmas.Made.{rightwards-onwards}
use Rattle.overlay.proofs.WindsLemmas.Each.{Middle, counted-half, half_way, middle_of}
use Rattle.overlay.proofs.WindsLemmas.Paired.{IsOneOrNone}

-- ---- points with the same numbers

abbrev counts : ℕ → ℤ → ℤ → Edge → Bool
counts n x y edge =
    (int_le (pos n *ℤ edge.x0) x && int_lt x (pos n *ℤ edge.x1))
    && int_le ((edge.y0 *ℤ ((pos n *ℤ edge.x1) -ℤ x)) +ℤ (edge.y1 *ℤ (x -ℤ (pos n *ℤ edge.x0)))) (y *ℤ run edge)

-- around them edges wind alike
alike-at : (edges : List Edge) (p q : RationalPoint) → p.n ≡ q.n → p.x ≡ q.x → p.y ≡ q.y → winding edges p ≡ winding edges q
alike-at edges p q n_is x_is y_is =
    winding-total edges p
    ∙ total-same (λ edge. cond (is_counted (rightwards edge) p) (weight edge) (pos 0)) (λ edge. cond (is_counted (rightwards edge) q) (weight edge) (pos 0)) edges
    (All-among (λ edge. cond (is_counted (rightwards edge) p) (weight edge) (pos 0) ≡ cond (is_counted (rightwards edge) q) (weight edge) (pos 0)) edges
    (λ edge held. ap (λ (t : Bool). cond t (weight edge) (pos 0)) (same (rightwards edge))))
    ∙ sym (winding-total edges q)
  where
    same : (edge : Edge) → is_counted edge p ≡ is_counted edge q
    same edge = ap (λ (n : ℕ). counts n p.x p.y edge) n_is ∙ ap₂ (λ (x y : ℤ). counts q.n x y edge) x_is y_is

module _ (edges : List Edge) (noded : AreNoded edges) (distinct : AreDistinct edges) (sloped : All (λ edge. edge.x0 ≢ edge.x1) edges) (once : (point : RationalPoint) → IsOneOrNone (winding edges point)) where
  has-slope : (edge : Edge) → Contains edges edge → edge.x0 ≢ edge.x1
  has-slope edge among = All-contains (λ (e : Edge). e.x0 ≢ e.x1) edges edge sloped among

  -- ---- on both sides of an edge

  module _ (edge : Edge) (among : Contains edges edge) where
    abbrev r : Edge
    r = rightwards edge

    onwards : r.x0 <ℤ r.x1
    onwards = rightwards-onwards edge (has-slope edge among)

    over : is_over r.x0 r ≡ true
    over = let some = onwards in over_true r.x0 r (omega (arith, ints)) some

    middle : Middle r r.x0
    middle = middle_of r r.x0 onwards

    -- the edge's point half way along its first stretch
    abbrev half : RationalPoint
    half = half_way r r.x0 middle

    -- just above the edge some of them wind as around it
    above-some : (mine : List Edge) → ((other : Edge) → Contains mine other → Contains edges other) → just_above mine edge ≡ winding mine half
    above-some mine into =
        sym (upto-parts edges noded edge among r.x0 over mine into)
        ∙ total-same (upto_on r.x0 r) (λ other. cond (is_counted (rightwards other) half) (weight other) (pos 0)) mine
        (All-among (λ other. upto_on r.x0 r other ≡ cond (is_counted (rightwards other) half) (weight other) (pos 0)) mine
        (λ other held. ap (λ (t : Bool). cond t (weight other) (pos 0)) (sym (counted-half r r.x0 middle (rightwards other)))))
        ∙ sym (winding-total mine half)

    pub winds-above : (mine : List Edge) → ((other : Edge) → Contains mine other → Contains edges other) → (point : RationalPoint) × (just_above mine edge ≡ winding mine point)
    winds-above mine into = (half, above-some mine into)

    above : just_above edges edge ≡ winding edges half
    above = above-some edges (λ other held. held)

    -- it is the edge's point in its column
    abbrev column : RationalPoint
    column = record { n = 2; x = (pos 2 *ℤ r.x0) +ℤ pos 1; y = pos 0; positive = omega arith }

    behind : (pos 2 *ℤ r.x0) <ℤ ((pos 2 *ℤ r.x0) +ℤ pos 1)
    behind = omega (arith, ints)

    before : ((pos 2 *ℤ r.x0) +ℤ pos 1) <ℤ (pos 2 *ℤ r.x1)
    before = let some = onwards in omega (arith, ints, some)

    abbrev above_it : RationalPoint
    above_it = upper edges noded distinct edge among (has-slope edge among) column behind before middle.k middle.is

    abbrev below_it : RationalPoint
    below_it = lower edges noded distinct edge among (has-slope edge among) column behind before middle.k middle.is

    same-point : winding edges half ≡ winding edges above_it
    same-point =
        alike-at edges half above_it (omega arith)
        (identity (times (plus (times (n_of 2) (number r.x0)) (n_of 1)) (n_of middle.k)) (times (n_of middle.k) (plus (times (n_of 2) (number r.x0)) (n_of 1))) (omega arith))
        (identity
        (plus (plus (times (number r.y0) (minus (number r.x1) (number r.x0))) (times (number r.y1) (minus (number r.x0) (number r.x0)))) (plus (times (number r.y0) (minus (number r.x1) (plus (number r.x0) (n_of 1)))) (times (number r.y1) (minus (plus (number r.x0) (n_of 1)) (number r.x0)))))
        (plus (times (number r.y0) (minus (times (n_of 2) (number r.x1)) (plus (times (n_of 2) (number r.x0)) (n_of 1)))) (times (number r.y1) (minus (plus (times (n_of 2) (number r.x0)) (n_of 1)) (times (n_of 2) (number r.x0)))))
        (omega arith))

    more : winding edges above_it ≡ (winding edges below_it +ℤ weight edge)
    more = winds-more edges noded distinct edge among (has-slope edge among) column behind before middle.k middle.is

    -- on the left once, and on the right not at all
    sides : (left_of edges edge ≡ pos 1) × (right_of edges edge ≡ pos 0)
    sides =
        by_lt_z edge.x0 edge.x1
        (λ goes.
        let (one, none) = right (just_below edges edge) (total (along (rightwards edge)) edges) (winding edges above_it) (winding edges below_it) (weight edge) (above ∙ same-point) (along-own edges edge distinct among) more (weight-right edge goes) (once above_it) (once below_it) in
        let told = lt_true edge.x0 edge.x1 goes in
        (ap (λ t. cond t (just_above edges edge) (just_below edges edge)) told ∙ one, ap (λ t. cond t (just_below edges edge) (just_above edges edge)) told ∙ none))
        (λ upto.
        let back : edge.x1 <ℤ edge.x0 = by_lt_z edge.x1 edge.x0 (λ h. h) (λ from. absurd (has-slope edge among (omega (arith, ints, upto, from)))) in
        let (none, one) = left (just_below edges edge) (total (along (rightwards edge)) edges) (winding edges above_it) (winding edges below_it) (weight edge) (above ∙ same-point) (along-own edges edge distinct among) more (weight-left edge back) (once above_it) (once below_it) in
        let told = lt_false edge.x0 edge.x1 upto in
        (ap (λ t. cond t (just_above edges edge) (just_below edges edge)) told ∙ one, ap (λ t. cond t (just_below edges edge) (just_above edges edge)) told ∙ none))
      where
        right : (b o u l w : ℤ) → (b +ℤ o) ≡ u → o ≡ w → u ≡ (l +ℤ w) → w ≡ pos 1 → IsOneOrNone u → IsOneOrNone l → ((b +ℤ o) ≡ pos 1) × (b ≡ pos 0)
        right b o u l w first second third one (inl none) (inl none_too) = absurd (omega (arith, ints, third, one, none, none_too))
        right b o u l w first second third one (inl none) (inr once_too) = absurd (omega (arith, ints, third, one, none, once_too))
        right b o u l w first second third one (inr is_one) (inl none) = (omega (arith, ints, first, is_one), omega (arith, ints, first, second, one, is_one))
        right b o u l w first second third one (inr is_one) (inr once_too) = absurd (omega (arith, ints, third, one, is_one, once_too))

        left : (b o u l w : ℤ) → (b +ℤ o) ≡ u → o ≡ w → u ≡ (l +ℤ w) → w ≡ negsuc 0 → IsOneOrNone u → IsOneOrNone l → ((b +ℤ o) ≡ pos 0) × (b ≡ pos 1)
        left b o u l w first second third one (inl none) (inl none_too) = absurd (omega (arith, ints, third, one, none, none_too))
        left b o u l w first second third one (inl none) (inr once_too) = (omega (arith, ints, first, none), omega (arith, ints, first, second, one, none))
        left b o u l w first second third one (inr is_one) (inl none) = absurd (omega (arith, ints, third, one, is_one, none))
        left b o u l w first second third one (inr is_one) (inr once_too) = absurd (omega (arith, ints, third, one, is_one, once_too))

  -- On the left of each edge they wind once, and on the right not at all.
  pub left-once : (edge : Edge) → Contains edges edge → left_of edges edge ≡ pos 1
  left-once edge among = (sides edge among).0

  pub right-none : (edge : Edge) → Contains edges edge → right_of edges edge ≡ pos 0
  right-none edge among = (sides edge among).1

  -- ---- around a point

  module _ (closed : AreBalanced edges) (at : Point) (one other : Edge) (is : IsNextAround edges at one other) where
    apart : (a b : ℤ) → a ≡ b → a ≡ pos 1 → b ≡ pos 0 → ⊥
    apart a b same first second = omega (arith, ints, same, first, second)

    slope_too : other.x0 ≢ other.x1
    slope_too = has-slope other is.among_too

    between : (mine : List Edge) → AreBalanced mine → ((edge : Edge) → Contains mine edge → Contains edges edge) → clockwise_of mine at one ≡ counter_of mine at other
    between mine balanced into = same-between edges noded distinct sloped mine balanced into at one other is

    -- Clockwise behind an edge that ends there the next one starts there.
    pub starts-next : end_of one ≡ at → start_of other ≡ at
    starts-next ends =
        elim is.touches_too [
          | inl starts ↦ starts
          | inr ends_too ↦ absurd (apart (left_of edges one) (right_of edges other)
              (left-ending edges at one ends ∙ between edges closed (λ edge held. held) ∙ sym (right-ending edges at other ends_too)) (left-once one is.among) (right-none other is.among_too))
        ]

    -- And behind one that starts there the next one ends there.
    pub ends-next : start_of one ≡ at → end_of other ≡ at
    ends-next starts =
        elim is.touches_too [
          | inl starts_too ↦ absurd (apart (left_of edges other) (right_of edges one)
              (left-starting edges at other slope_too starts_too ∙ sym (between edges closed (λ edge held. held)) ∙ sym (right-starting edges at one (has-slope one is.among) starts)) (left-once other is.among_too) (right-none one is.among))
          | inr ends ↦ ends
        ]

    -- Some closed edges of them wind alike on the left of the one that ends there and of the next one.
    pub left-alike : (mine : List Edge) → AreBalanced mine → ((edge : Edge) → Contains mine edge → Contains edges edge) → end_of one ≡ at → left_of mine one ≡ left_of mine other
    left-alike mine balanced into ends = left-ending mine at one ends ∙ between mine balanced into ∙ sym (left-starting mine at other slope_too (starts-next ends))
