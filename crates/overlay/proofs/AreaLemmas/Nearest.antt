-- Around a point each of the edges that have it as an end has one next edge clockwise, and is that of one edge alone.
use Rattle.std.proofs.Common.{◌≡◌, ◌≢◌, ◌⊎◌, inl, inr, ℕ, ℤ, pos, ◌-ℤ◌, ◌<ℤ◌, Bool, true, false, List, refl, ap, sym, subst, ◌∙◌, arith}
use Rattle.std.specs.List.{All, Contains}
use Rattle.std.proofs.lemmas.Int.{ints}
use Rattle.std.proofs.lemmas.List.Elements.{All-contains, Contains-get_or}
use Rattle.plane.specs.declared.edge.Edge.{Edge}
use Rattle.plane.specs.declared.point.Point.{Point}
use Rattle.plane.specs.Ends.{end_of, start_of}
use Rattle.plane.specs.SweepLine.Heights.{rightwards}
use Rattle.noding.specs.Windings.{count}
use Rattle.overlay.specs.Contours.Order.{edge_at}
use Rattle.overlay.specs.Contours.Turns.{ComesBefore, Direction, IsLeftmost, Leaves, direction_between}
use Rattle.overlay.specs.Fill.Filled.{AreDistinct, AreNoded, HaveSameEnds}
use Rattle.overlay.proofs.AreaLemmas.Fans.{told-same}
use Rattle.overlay.specs.Sides.{is_edge}
use Rattle.overlay.proofs.AreaLemmas.Touching.{Away, Touches, touches-or}
use Rattle.overlay.proofs.AreaLemmas.Wedges.{FromLeft, IsNextAround, ToRight, lower-left, lower-right, sided, way-end, way-start, way_from}
use Rattle.overlay.proofs.ContourLemmas.Clockwise.{AreApart, comes-first, comes-once, comes-or, turn, turn-back}
use Rattle.overlay.proofs.ContourLemmas.Counts.{is_at, is_at-itself, is_at-other}
use Rattle.overlay.proofs.ContourLemmas.Turns.{ComesBefore-itself, ComesBefore-trans}
use Rattle.overlay.proofs.FillLemmas.Balance.{AreBalanced, carried}
use Rattle.overlay.proofs.FillLemmas.Least.{first-of}
use Rattle.overlay.proofs.FillLemmas.Order.{lower-apart}
use Rattle.overlay.proofs.GroupingLemmas.Outlined.{same-one}
use Rattle.overlay.proofs.KeptLemmas.First.{total-one, turned-meet, turned-same}

abbrev none : Edge
none = record { x0 = pos 0; y0 = pos 0; x1 = pos 0; y1 = pos 0 }

edge-or : (one other : Edge) → (one ≡ other) ⊎ (one ≢ other)
edge-or one other = by (is_edge one other) refl
  where
    by : (t : Bool) → is_edge one other ≡ t → (one ≡ other) ⊎ (one ≢ other)
    by true is = inl (told-same one other true is)
    by false is = inr (told-same one other false is)

module _ (edges : List Edge) (noded : AreNoded edges) (distinct : AreDistinct edges) (sloped : All (λ edge. edge.x0 ≢ edge.x1) edges) (at : Point) where
  has-slope : (edge : Edge) → Contains edges edge → edge.x0 ≢ edge.x1
  has-slope edge inside = All-contains (λ (e : Edge). e.x0 ≢ e.x1) edges edge sloped inside

  abbrev way : Edge → Direction
  way edge = way_from at edge

  -- different edges go to different sides of the point, or one of them is lower
  pub ways-apart : (one other : Edge) → Contains edges one → Contains edges other → Touches at one → Touches at other → one ≢ other → AreApart (way one) (way other)
  ways-apart one other among among_too touches touches_too apart = by (sided at one (has-slope one among) touches) (sided at other (has-slope other among_too) touches_too)
    where
      differ : rightwards one ≢ rightwards other
      differ same = apart (same-one edges one other distinct among among_too (turned-same one other same))

      back : turn (way other) (way one) <ℤ pos 0 → pos 0 <ℤ turn (way one) (way other)
      back less = let is = turn-back (way other) (way one) in omega (arith, ints, less, is)

      by : FromLeft at one ⊎ ToRight at one → FromLeft at other ⊎ ToRight at other → AreApart (way one) (way other)
      by (inl left) (inr right) = inl (inl (left.left, right.right))
      by (inr right) (inl left) = inl (inr (right.right, left.left))
      by (inl left) (inl left_too) = inr (
        inl (left.left, left_too.left),
        elim (lower-apart (rightwards one) (rightwards other) (at.x -ℤ pos 1) (turned-meet edges noded one other among among_too) differ left.over left_too.over) [
          | inl lower ↦ inl (lower-left at one other left left_too lower)
          | inr higher ↦ inr (back (lower-left at other one left_too left higher))
        ],
      )
      by (inr right) (inr right_too) = inr (
        inr (right.right, right_too.right),
        elim (lower-apart (rightwards one) (rightwards other) at.x (turned-meet edges noded one other among among_too) differ right.over right_too.over) [
          | inl lower ↦ inr (back (lower-right at one other right right_too lower))
          | inr higher ↦ inl (lower-right at other one right_too right higher)
        ],
      )

  -- Of the edges clockwise from one that has the point as an end no two are next.
  pub next-alone : (one other another : Edge) → IsNextAround edges at one other → IsNextAround edges at one another → other ≡ another
  next-alone one other another is is_too =
      elim (edge-or other another) [
        | inl same ↦ same
        | inr differ ↦ elim (comes-first (way one) (way other) (way another) (ways-apart one other is.among is.among_too is.touches is.touches_too is.apart)
            (ways-apart one another is.among is_too.among_too is.touches is_too.touches_too is_too.apart) (ways-apart other another is.among_too is_too.among_too is.touches_too is_too.touches_too differ)) [
              | inl first ↦ absurd (is_too.first other is.among_too is.touches_too (λ same. is.apart (sym same)) first)
              | inr first ↦ absurd (is.first another is_too.among_too is_too.touches_too (λ same. is_too.apart (sym same)) first)
            ]
      ]

  -- And none is the next one of two.
  pub next-once : (one another other : Edge) → IsNextAround edges at one other → IsNextAround edges at another other → one ≡ another
  next-once one another other is is_too =
      elim (edge-or one another) [
        | inl same ↦ same
        | inr differ ↦ absurd (never differ)
      ]
    where
      never : ¬ (one ≢ another)
      never differ =
          let both = ways-apart one another is.among is_too.among is.touches is_too.touches differ in
          let both_back = ways-apart another one is_too.among is.among is_too.touches is.touches (λ same. differ (sym same)) in
          let first = ways-apart one other is.among is.among_too is.touches is.touches_too is.apart in
          let second = ways-apart another other is_too.among is_too.among_too is_too.touches is_too.touches_too is_too.apart in
          let first_back = ways-apart other one is.among_too is.among is.touches_too is.touches (λ same. is.apart (sym same)) in
          let second_back = ways-apart other another is_too.among_too is_too.among is_too.touches_too is_too.touches (λ same. is_too.apart (sym same)) in
          comes-once (way one) (way another) (way other) both first second
          (elim (comes-first (way one) (way other) (way another) first both second_back) [ inl before ↦ before | inr after ↦ absurd (is.first another is_too.among is_too.touches (λ same. differ (sym same)) after) ])
          (elim (comes-first (way another) (way other) (way one) second both_back first_back) [ inl before ↦ before | inr after ↦ absurd (is_too.first one is.among is.touches differ after) ])

  -- The edge that turns furthest left of those that aren't walked is the next one clockwise from the edge that a walk comes by,
  -- where that isn't walked.
  pub leftmost-next : (used : List Bool) (place k : ℕ) (one : Edge) → end_of one ≡ at → IsNextAround edges at one (edge_at edges k) → Leaves edges used at k → IsLeftmost edges used (start_of one) at place → edge_at edges place ≡ edge_at edges k
  leftmost-next used place k one ends is leaves leftmost = elim (edge-or e other) [ inl same ↦ same | inr differ ↦ absurd (never differ) ]
    where
      e : Edge
      e = edge_at edges place

      other : Edge
      other = edge_at edges k

      inside : Contains edges e
      inside = Contains-get_or edges place none leftmost.leaves.inside

      two-ends : start_of one ≢ at
      two-ends same = has-slope one is.among (ap (λ (p : Point). p.x) (same ∙ sym ends))

      apart : e ≢ one
      apart same = two-ends (sym (ap (λ (edge : Edge). start_of edge) same) ∙ leftmost.leaves.starts)

      turns : ¬ (ComesBefore (way one) (way other) (way e))
      turns comes =
          leftmost.first two-ends k leaves
          (subst (λ (d : Direction). ComesBefore d (direction_between at (end_of other)) (direction_between at (end_of e))) (way-end at one ends)
          (subst (λ (d : Direction). ComesBefore (way one) d (direction_between at (end_of e))) (way-start at other leaves.starts)
          (subst (λ (d : Direction). ComesBefore (way one) (way other) d) (way-start at e leftmost.leaves.starts) comes)))

      never : ¬ (e ≢ other)
      never differ =
          elim (comes-first (way one) (way e) (way other) (ways-apart one e is.among inside is.touches (inl leftmost.leaves.starts) (λ same. apart (sym same)))
          (ways-apart one other is.among is.among_too is.touches is.touches_too is.apart) (ways-apart e other inside is.among_too (inl leftmost.leaves.starts) is.touches_too differ)) [
            | inl first ↦ is.first e inside (inl leftmost.leaves.starts) apart first
            | inr first ↦ turns first
          ]

  -- ---- there is one

  module _ (one : Edge) (among : Contains edges one) (touches : Touches at one) where
    -- an edge that could be it
    record IsOther (edge : Edge) : Type 0 where
      inside : Contains edges edge
      touching : Touches at edge
      apart : edge ≢ one

    other-or : (edge : Edge) → Contains edges edge → IsOther edge ⊎ (¬ (IsOther edge))
    other-or edge inside = by (touches-or at edge) (edge-or edge one)
      where
        by : Touches at edge ⊎ Away at edge → (edge ≡ one) ⊎ (edge ≢ one) → IsOther edge ⊎ (¬ (IsOther edge))
        by (inl touching) (inr apart) = inl (record { inside = inside; touching = touching; apart = apart })
        by (inl touching) (inl same) = inr (λ is. is.apart same)
        by (inr away) which = inr (λ is. gone is.touching)
          where
            gone : ¬ (Touches at edge)
            gone (inl starts) = away.0 starts
            gone (inr ends) = away.1 ends

    steep : ((way one).x ≡ pos 0) × ((way one).y ≡ pos 0) → ⊥
    steep none = by (sided at one (has-slope one among) touches) none.0
      where
        by : FromLeft at one ⊎ ToRight at one → (way one).x ≡ pos 0 → ⊥
        by (inl left) level = let less = left.left in omega (arith, ints, less, level)
        by (inr right) level = let more = right.right in omega (arith, ints, more, level)

    abbrev Before : Edge → Edge → Type 0
    Before edge other = ComesBefore (way one) (way edge) (way other)

    -- where no other edge had the point as an end, the edges wouldn't be closed
    some-other : AreBalanced edges → ((edge : Edge) → Contains edges edge → ¬ (IsOther edge)) → ⊥
    some-other closed none = by touches (sym (total-one (carried (is_at at)) one edges among distinct nothing) ∙ closed (is_at at))
      where
        off : (p : Point) → p ≢ at → count (is_at at p) ≡ pos 0
        off p apart = ap count (is_at-other at p apart)

        on : (p : Point) → p ≡ at → count (is_at at p) ≡ pos 1
        on p is = ap count (ap (is_at at) is ∙ is_at-itself at)

        less : (a b : ℤ) → a ≡ pos 0 → b ≡ pos 0 → (a -ℤ b) ≡ pos 0
        less a b first second = omega (arith, ints, first, second)

        unlike : (a b : ℤ) → ((a ≡ pos 1) × (b ≡ pos 0)) ⊎ ((a ≡ pos 0) × (b ≡ pos 1)) → (a -ℤ b) ≢ pos 0
        unlike a b (inl (first, second)) level = omega (arith, ints, first, second, level)
        unlike a b (inr (first, second)) level = omega (arith, ints, first, second, level)

        nothing : (edge : Edge) → Contains edges edge → ¬ (HaveSameEnds edge one) → carried (is_at at) edge ≡ pos 0
        nothing edge inside differ =
            elim (touches-or at edge) [
              | inl touching ↦ absurd (none edge inside (record { inside = inside; touching = touching; apart = λ same. differ (inl same) }))
              | inr away ↦ less (count (is_at at (end_of edge))) (count (is_at at (start_of edge))) (off (end_of edge) away.1) (off (start_of edge) away.0)
            ]

        two-ends : start_of one ≢ end_of one
        two-ends same = has-slope one among (ap (λ (p : Point). p.x) same)

        by : Touches at one → carried (is_at at) one ≡ pos 0 → ⊥
        by (inl starts) level = unlike (count (is_at at (end_of one))) (count (is_at at (start_of one))) (inr (off (end_of one) (λ ends. two-ends (starts ∙ sym ends)), on (start_of one) starts)) level
        by (inr ends) level = unlike (count (is_at at (end_of one))) (count (is_at at (start_of one))) (inl (on (end_of one) ends, off (start_of one) (λ starts. two-ends (starts ∙ sym ends)))) level

    -- Of closed edges each that has the point as an end has a next one clockwise.
    pub next-some : AreBalanced edges → (other : Edge) × IsNextAround edges at one other
    next-some closed =
        elim (first-of IsOther Before (λ edge other is is_too. comes-or (way one) (way edge) (way other)) (λ edge is. ComesBefore-itself (way one) (way edge))
        (λ edge other third is is_too is_third. ComesBefore-trans (way one) (way edge) (way other) (way third) steep) edges other-or) [
          | inl (other, first) ↦ (
            other,
            record {
              among = among;
              among_too = first.is.inside;
              touches = touches;
              touches_too = first.is.touching;
              apart = λ same. first.is.apart (sym same);
              first = λ edge inside touching differ. first.none edge inside (record { inside = inside; touching = touching; apart = differ });
            },
          )
          | inr none ↦ absurd (some-other closed none)
        ]
