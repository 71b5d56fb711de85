-- Points along which x rises: of their pieces just one covers an x between the first and the last.
use Rattle.std.proofs.Common.{◌≡◌, ℕ, ◌<◌, ◌-◌, pos, ◌*ℤ◌, ◌<ℤ◌, ◌≤ℤ◌, List, [], ◌∷◌, length, arith, ap, refl, ◌∙◌}
use Rattle.std.specs.List.{Contains}
use Rattle.std.proofs.lemmas.Int.{by_lt_z, ints}
use Rattle.i_tree.proofs.RootLemmas.Lists.{AllPairs-tail, Contains-here, Contains-there}
use Rattle.plane.specs.declared.edge.Edge.{Edge}
use Rattle.plane.specs.declared.point.Point.{Point}
use Rattle.plane.specs.Meet.Edges.{RationalPoint}
use Rattle.plane.proofs.MeetLemmas.Identities.{scaled}
use Rattle.overlay.specs.Contours.Outlines.{ring_point}
use Rattle.plane.specs.Ends.{edge_between, end_of, start_of}
use Rattle.noding.specs.Windings.{pieces, winding, count}
use Rattle.monotone_chains.specs.Stretches.{Rises, chord}
use Rattle.noding.proofs.SnapLemmas.Counted.{added, is_low, under}
use Rattle.noding.proofs.SnapLemmas.Heights.{Covering}
use Rattle.noding.proofs.SnapLemmas.Numbers.{both_zero}
use Rattle.noding.proofs.SnapLemmas.Windings.{after, before, under-right, winding-added, within}

-- ---- the last of some points

abbrev pub last_of : Point → List Point → Point
last_of from [] = from
last_of from (to ∷ others) = last_of to others

ring_last : (from : Point) (others : List Point) → ring_point (from ∷ others) (length others) ≡ last_of from others
ring_last from [] = refl
ring_last from (to ∷ others) = ring_last to others

-- a chord ends there
pub chord-last : (from : Point) (others : List Point) → (chord (from ∷ others)).x1 ≡ (last_of from others).x
chord-last from others =
    let one : length (from ∷ others) - 1 ≡ length others = omega arith in
    ap (λ (k : ℕ). (ring_point (from ∷ others) k).x) one ∙ ap (λ (p : Point). p.x) (ring_last from others)

-- ---- points along which x rises

rises-first : (from to : Point) (others : List Point) → Rises (from ∷ to ∷ others) → from.x <ℤ to.x
rises-first from to others rises = rises 0 1 from (omega arith) (omega arith)

rises-rest : (from : Point) (others : List Point) → Rises (from ∷ others) → Rises others
rises-rest from others rises = AllPairs-tail (λ one later. one.x <ℤ later.x) from others rises

rises-last : (from : Point) (others : List Point) → Rises (from ∷ others) → from.x ≤ℤ (last_of from others).x
rises-last from [] rises = omega (arith, ints)
rises-last from (to ∷ others) rises =
    let next = rises-first from to others rises in
    let upto = rises-last to others (rises-rest from (to ∷ others) rises) in
    omega (arith, ints, next, upto)

-- so a chord doesn't go leftwards
pub rising-onwards : (points : List Point) → Rises points → (chord points).x0 ≤ℤ (chord points).x1
rising-onwards [] rises = omega (arith, ints)
rising-onwards (from ∷ others) rises =
    let upto = rises-last from others rises in
    let last = chord-last from others in
    omega (arith, ints, upto, last)

-- The piece that covers the point's x, and what all pieces count there.
pub record Crossed (points : List Point) (point : RationalPoint) : Type 0 where
  pub piece : Edge
  pub from : Contains points (start_of piece)
  pub to : Contains points (end_of piece)
  pub covers : Covering piece point
  pub sum : added (pieces points) point ≡ count (is_low piece point)

module _ (point : RationalPoint) where
  -- before the first point they count nothing
  sum_before : (from : Point) (others : List Point) → Rises (from ∷ others) → point.x <ℤ (pos point.n *ℤ from.x) → added (pieces (from ∷ others)) point ≡ pos 0
  sum_before from [] rises is = refl
  sum_before from (to ∷ others) rises is =
      let next = rises-first from to others rises in
      let further = scaled point.n from.x to.x (omega (arith, ints, next)) in
      both_zero (under (edge_between from to) point) (added (pieces (to ∷ others)) point)
      (under-right (edge_between from to) point (omega (arith, ints, next)) ∙ before (edge_between from to) point is)
      (sum_before to others (rises-rest from (to ∷ others) rises) (omega (arith, ints, is, further)))

  -- nor behind the last
  sum_after : (from : Point) (others : List Point) → Rises (from ∷ others) → (pos point.n *ℤ (last_of from others).x) ≤ℤ point.x → added (pieces (from ∷ others)) point ≡ pos 0
  sum_after from [] rises is = refl
  sum_after from (to ∷ others) rises is =
      let next = rises-first from to others rises in
      let rest = rises-rest from (to ∷ others) rises in
      let further = scaled point.n to.x (last_of to others).x (rises-last to others rest) in
      both_zero (under (edge_between from to) point) (added (pieces (to ∷ others)) point)
      (under-right (edge_between from to) point (omega (arith, ints, next)) ∙ after (edge_between from to) point (omega (arith, ints, is, further)))
      (sum_after to others rest is)

  -- between both, one covers the point's x
  sum_within : (from : Point) (others : List Point) → Rises (from ∷ others) → (pos point.n *ℤ from.x) ≤ℤ point.x → point.x <ℤ (pos point.n *ℤ (last_of from others).x) → Crossed (from ∷ others) point
  sum_within from [] rises late early = absurd (omega (arith, ints, late, early))
  sum_within from (to ∷ others) rises late early =
      let next = rises-first from to others rises in
      let rest = rises-rest from (to ∷ others) rises in
      let own = under-right (edge_between from to) point (omega (arith, ints, next)) in
      by_lt_z point.x (pos point.n *ℤ to.x)
      (λ inside.
      let c : Covering (edge_between from to) point = record { from = late; before = inside } in
      let here = within (edge_between from to) point c in
      let later = sum_before to others rest inside in record {
        piece = edge_between from to;
        from = Contains-here from (to ∷ others);
        to = Contains-there from (to ∷ others) to (Contains-here to others);
        covers = c;
        sum = omega (arith, ints, own, here, later);
      })
      (λ further.
      let here = after (edge_between from to) point further in
      let found = sum_within to others rest further early in
      let later = found.sum in record {
        piece = found.piece;
        from = Contains-there from (to ∷ others) (start_of found.piece) found.from;
        to = Contains-there from (to ∷ others) (end_of found.piece) found.to;
        covers = found.covers;
        sum = omega (arith, ints, own, here, later);
      })

  -- ---- the same by the chord's ends

  pub rising-before : (points : List Point) → Rises points → point.x <ℤ (pos point.n *ℤ (chord points).x0) → winding (pieces points) point ≡ pos 0
  rising-before [] rises is = refl
  rising-before (from ∷ others) rises is = winding-added (pieces (from ∷ others)) point ∙ sum_before from others rises is

  pub rising-after : (points : List Point) → Rises points → (pos point.n *ℤ (chord points).x1) ≤ℤ point.x → winding (pieces points) point ≡ pos 0
  rising-after [] rises is = refl
  rising-after (from ∷ others) rises is =
      winding-added (pieces (from ∷ others)) point ∙ sum_after from others rises (rw (← chord-last from others) is)

  pub rising-crossed : (points : List Point) → Rises points → 0 < length points → Covering (chord points) point → Crossed points point
  rising-crossed [] rises some c = absurd (omega (arith, some))
  rising-crossed (from ∷ others) rises some c =
      let before : point.x <ℤ (pos point.n *ℤ (last_of from others).x) = rw (← chord-last from others) c.before in
      sum_within from others rises c.from before

  pub winding-crossed : (points : List Point) (crossed : Crossed points point) → winding (pieces points) point ≡ count (is_low crossed.piece point)
  winding-crossed points crossed = winding-added (pieces points) point ∙ crossed.sum
