-- From a corner that is cut back, and on, to a band that has the point.
use Rattle.std.proofs.Common.{◌≡◌, ◌≢◌, ◌⊎◌, inl, inr, ⊎_elim, ℕ, zero, suc, ◌+◌, ◌-◌, ◌<◌, ◌≤◌, ℤ, pos, ◌≤ℤ◌, ◌<ℤ◌, List, length, refl, subst, sym, arith}
use Rattle.std.specs.List.{Contains}
use Rattle.std.proofs.lemmas.Bool.{cases_lt}
use Rattle.std.proofs.lemmas.Int.{by_lt_z, ints}
use Rattle.plane.specs.declared.edge.Edge.{Edge}
use Rattle.plane.specs.declared.point.Point.{Point}
use Rattle.plane.specs.Ends.{end_of, start_of}
use Rattle.plane.specs.Meet.Edges.{RationalPoint}
use Rattle.offset.specs.Cuts.{IsSafe, LieLeft, LieRight, edge_at, end_spoke, start_spoke, tips}
use Rattle.offset.specs.Raw.{furthest, moved_edge}
use Rattle.offset.specs.Shape.{IsConvexAroundOrigin, sides}
use Rattle.offset.proofs.CoverLemmas.Lines.{IsLeftOfBand}
use Rattle.offset.proofs.CoverLemmas.Sides.{ahead, side_of}
use Rattle.offset.proofs.CoverLemmas.Vectors.{crossed, reach, turn_back, wide}
use Rattle.offset.proofs.PieceLemmas.Convex.{furthest-is, furthest-pair, shape-of}
use Rattle.offset.proofs.CutLemmas.Steps.{IsWithin, farther, gentle-back, gentle-on, in-band, nearer, spoke-ahead, spoke-behind}
use Rattle.offset.proofs.CutLemmas.Triangles.{IsCutOff, cut-left, cut-right, cut-within}

-- The point is on none of these lines: along the edge, from its ends along its furthest corner, and along the edge moved by that.
pub record IsOffEdge (corners : List Point) (edge : Edge) (point : RationalPoint) : Type 0 where
  pub off : side_of edge point ≢ pos 0
  pub start : crossed (furthest corners edge) (ahead point (start_of edge)) ≢ pos 0
  pub end : crossed (furthest corners edge) (ahead point (end_of edge)) ≢ pos 0
  pub band : side_of (moved_edge (furthest corners edge) edge) point ≢ pos 0

module _ (corners : List Point) (edges : List Edge) (point : RationalPoint) where
  -- The point is in what is cut off at the corner behind the edge at this place.
  abbrev pub HasCut : ℕ → Type 0
  HasCut index = IsCutOff (end_of (edge_at edges index)) (furthest corners (edge_at edges index)) (furthest corners (edge_at edges (index + 1))) point

  -- It is in the band of the edge at this place.
  abbrev pub HasBand : ℕ → Type 0
  HasBand place = IsLeftOfBand (edge_at edges place) (furthest corners (edge_at edges place)) point

  -- It is behind the start of that edge.
  abbrev pub IsBehind : ℕ → Type 0
  IsBehind place = crossed (furthest corners (edge_at edges place)) (ahead point (start_of (edge_at edges place))) <ℤ pos 0

  -- At this place or before it there is an edge whose band has the point, which is behind the start of each edge from the next one
  -- up to this place.
  abbrev pub HasBandBack : ℕ → Type 0
  HasBandBack from = (place : ℕ) × (place ≤ from) × HasBand place × ((between : ℕ) → place < between → between ≤ from → IsBehind between)

  -- Behind this place there is an edge whose band has the point.
  abbrev pub HasBandOn : ℕ → Type 0
  HasBandOn index = (place : ℕ) × (index < place) × (place < length edges) × HasBand place

-- a number that isn't 0
below-none : (z : ℤ) → z ≤ℤ pos 0 → z ≢ pos 0 → z <ℤ pos 0
below-none z upto some = omega (arith, ints, upto, some)

above-none : (z : ℤ) → pos 0 ≤ℤ z → z ≢ pos 0 → pos 0 <ℤ z
above-none z from some = omega (arith, ints, from, some)

-- The furthest corner reaches no side further than that is.
reach-furthest : (corners : List Point) → IsConvexAroundOrigin corners → (edge : Edge) → start_of edge ≢ end_of edge → (side : Edge) → Contains (sides corners) side → reach side (furthest corners edge) ≤ℤ wide side
reach-furthest corners convex edge proper side of =
    let (two, held, is) = furthest-pair corners convex edge proper in
    let shape = shape-of corners convex in
    subst (λ (corner : Point). reach side corner ≤ℤ wide side) (furthest-is corners convex edge two held is) (shape.convex side two.1 of (shape.corner two.0 two.1 held).after)

module _ (corners : List Point) (convex : IsConvexAroundOrigin corners) (edges : List Edge) (proper : (place : ℕ) → place < length edges → start_of (edge_at edges place) ≢ end_of (edge_at edges place)) (joined : (place : ℕ) → place + 1 < length edges → end_of (edge_at edges place) ≡ start_of (edge_at edges (place + 1))) (point : RationalPoint) (generic : (place : ℕ) → place < length edges → IsOffEdge corners (edge_at edges place) point) where
  -- the furthest corner of the edge at this place
  abbrev corner : ℕ → Point
  corner place = furthest corners (edge_at edges place)

  -- how far the point is ahead of the edge's start, and of its end
  abbrev from_start : ℕ → ℤ
  from_start place = crossed (corner place) (ahead point (start_of (edge_at edges place)))

  abbrev from_end : ℕ → ℤ
  from_end place = crossed (corner place) (ahead point (end_of (edge_at edges place)))

  -- it is within the shape at the edge's end, and at its start
  abbrev WithinEnd : ℕ → Type 0
  WithinEnd place = IsWithin (sides corners) (end_of (edge_at edges place)) point

  abbrev WithinStart : ℕ → Type 0
  WithinStart place = IsWithin (sides corners) (start_of (edge_at edges place)) point

  -- where it is within the shape at an end of an edge, to the right of that, and between its ends, the band has it
  band-has : (place : ℕ) → place < length edges → WithinEnd place ⊎ WithinStart place → side_of (edge_at edges place) point ≤ℤ pos 0 → pos 0 <ℤ from_start place → from_end place <ℤ pos 0 → HasBand corners edges point place
  band-has place inside within right from upto =
      let off = generic place inside in
      in-band corners convex (edge_at edges place) (proper place inside) point within
      (below-none (side_of (edge_at edges place) point) right off.off)
      from upto off.band

  module _ (index : ℕ) (safe : IsSafe corners edges index) (cut : HasCut corners edges point index) where
    -- the point is within the shape at the corner
    within : WithinEnd index
    within side of =
        cut-within (end_of (edge_at edges index)) (corner index) (corner (index + 1)) point cut side
        (let some = (shape-of corners convex).around side of in omega (arith, ints, some))
        (reach-furthest corners convex (edge_at edges index) (proper index (let inside = safe.inside in omega (arith, inside))) side of)
        (reach-furthest corners convex (edge_at edges (index + 1)) (proper (index + 1) safe.inside) side of)

    -- what all tips of what is cut off lie right of, the point does, and what they lie left of
    right-of : (line : Edge) → LieRight line (tips corners (edge_at edges index) (edge_at edges (index + 1))) → side_of line point ≤ℤ pos 0
    right-of line all = cut-right (end_of (edge_at edges index)) (corner index) (corner (index + 1)) point cut line all

    left-of : (line : Edge) → LieLeft line (tips corners (edge_at edges index) (edge_at edges (index + 1))) → pos 0 ≤ℤ side_of line point
    left-of line all = cut-left (end_of (edge_at edges index)) (corner index) (corner (index + 1)) point cut line all

    -- ---- back

    -- from an edge to the one before, where the point is behind the start of the edge
    back : (place : ℕ) → safe.back.first ≤ place → place < index → WithinEnd (place + 1) → from_start (place + 1) ≤ℤ pos 0 → WithinEnd place × (from_end place ≤ℤ pos 0)
    back place after before is behind =
        let inside = safe.inside in
        let here : place < length edges = omega (arith, before, inside) in
        let next : place + 1 < length edges = omega (arith, before, inside) in
        let join = joined place next in
        let right = right-of (edge_at edges (place + 1)) (safe.back.right (place + 1) (omega (arith, after)) (omega (arith, before))) in (
          subst (λ (at : Point). IsWithin (sides corners) at point) (sym join) (nearer corners convex (edge_at edges (place + 1)) (proper (place + 1) next) point is right behind),
          gentle-back corners convex (edge_at edges place) (edge_at edges (place + 1)) join (safe.back.gentle place after before) (proper place here) (proper (place + 1) next) point right behind,
        )

    -- what is found before is found from the next place, too
    further : (place : ℕ) → IsBehind corners edges point (place + 1) → HasBandBack corners edges point place → HasBandBack corners edges point (place + 1)
    further place behind found =
        let (at, upto, has, between) = found in (
          at,
          omega (arith, upto),
          has,
          λ other over other_upto. ⊎_elim
              (λ below. between other over (omega (arith, below)))
              (λ last. let same : place + 1 ≡ other = omega (arith, last, other_upto) in subst (IsBehind corners edges point) same behind)
              (cases_lt other (place + 1)),
        )

    -- the one edge that has it, or the point is behind its start
    here-or : (place : ℕ) → safe.back.first ≤ place → place ≤ index → WithinEnd place → from_end place ≤ℤ pos 0 → (from_start place <ℤ pos 0 → HasBandBack corners edges point place) → HasBandBack corners edges point place
    here-or place after upto is behind else =
        let inside = safe.inside in
        let here : place < length edges = omega (arith, upto, inside) in
        let off = generic place here in
        by_lt_z (pos 0) (from_start place)
        (λ ahead_of. (
          place,
          omega arith,
          band-has place here (inl is) (right-of (edge_at edges place) (safe.back.right place after upto)) ahead_of (below-none (from_end place) behind off.end),
          λ other over other_upto. absurd (omega (arith, over, other_upto)),
        ))
        (λ not_ahead. else (below-none (from_start place) not_ahead off.start))

    back-from : (count place : ℕ) → safe.back.first + count ≡ place → place ≤ index → WithinEnd place → from_end place ≤ℤ pos 0 → HasBandBack corners edges point place
    back-from zero place is upto state behind =
        here-or place (omega (arith, is)) upto state behind
        (λ below.
        let left = left-of (start_spoke corners (edge_at edges safe.back.first)) safe.back.ahead in
        let same = spoke-ahead corners (edge_at edges safe.back.first) point in
        let first : pos 0 ≤ℤ from_start safe.back.first = omega (arith, ints, left, same) in
        let from = subst (λ (n : ℕ). pos 0 ≤ℤ from_start n) (let one : safe.back.first ≡ place = omega (arith, is) in one) first in
        absurd (omega (arith, ints, from, below)))
    back-from (suc count) place is upto state behind =
        here-or place (omega (arith, is)) upto state behind
        (λ below.
        let before = safe.back.first + count in
        let next : before + 1 ≡ place = omega (arith, is) in
        subst (λ (n : ℕ). n ≤ index → WithinEnd n → from_start n <ℤ pos 0 → HasBandBack corners edges point n) next
        (λ next_upto next_state next_below.
        let (is_within, is_behind) = back before (omega arith) (omega (arith, next_upto)) next_state (omega (arith, ints, next_below)) in
        further before next_below (back-from count before refl (omega (arith, next_upto)) is_within is_behind))
        upto state below)

    -- ---- on

    -- from an edge to the next one, where the point is ahead of the end of the edge
    forth : (place : ℕ) → index < place → place < safe.on.last → WithinStart place → pos 0 ≤ℤ from_end place → WithinStart (place + 1) × (pos 0 ≤ℤ from_start (place + 1))
    forth place after before is on =
        let inside = safe.on.inside in
        let here : place < length edges = omega (arith, before, inside) in
        let next : place + 1 < length edges = omega (arith, before, inside) in
        let join = joined place next in
        let right = right-of (edge_at edges place) (safe.on.right place after (omega (arith, before))) in (
          subst (λ (at : Point). IsWithin (sides corners) at point) join (farther corners convex (edge_at edges place) (proper place here) point is right on),
          gentle-on corners convex (edge_at edges place) (edge_at edges (place + 1)) join (safe.on.gentle place after before) (proper place here) (proper (place + 1) next) point right on,
        )

    -- the one edge that has it, or the point is ahead of its end
    here-or-on : (place : ℕ) → index < place → place ≤ safe.on.last → WithinStart place → pos 0 ≤ℤ from_start place → (pos 0 <ℤ from_end place → HasBandOn corners edges point index) → HasBandOn corners edges point index
    here-or-on place after upto is from else =
        let inside = safe.on.inside in
        let here : place < length edges = omega (arith, upto, inside) in
        let off = generic place here in
        by_lt_z (from_end place) (pos 0)
        (λ below. (
          place,
          after,
          here,
          band-has place here (inr is) (right-of (edge_at edges place) (safe.on.right place after upto)) (above-none (from_start place) from off.start) below,
        ))
        (λ not_below. else (above-none (from_end place) not_below off.end))

    on-from : (count place : ℕ) → place + count ≡ safe.on.last → index < place → WithinStart place → pos 0 ≤ℤ from_start place → HasBandOn corners edges point index
    on-from zero place is after state from =
        here-or-on place after (omega (arith, is)) state from
        (λ above.
        let right = right-of (end_spoke corners (edge_at edges safe.on.last)) safe.on.behind in
        let same = spoke-behind corners (edge_at edges safe.on.last) point in
        let last : from_end safe.on.last ≤ℤ pos 0 = omega (arith, ints, right, same) in
        let upto = subst (λ (n : ℕ). from_end n ≤ℤ pos 0) (let one : safe.on.last ≡ place = omega (arith, is) in one) last in
        absurd (omega (arith, ints, upto, above)))
    on-from (suc count) place is after state from =
        here-or-on place after (omega (arith, is)) state from
        (λ above.
        let (is_within, is_ahead) = forth place after (omega (arith, is)) state (omega (arith, ints, above)) in
        on-from count (place + 1) (omega (arith, is)) (omega (arith, after)) is_within is_ahead)

  -- Back from a corner that is cut there is an edge whose band has the point, which is behind the starts of all edges between.
  pub band-back : (index : ℕ) → IsSafe corners edges index → HasCut corners edges point index → HasBandBack corners edges point index
  band-back index safe cut =
      let upto = safe.back.upto in
      let turned = turn_back (corner index) (ahead point (end_of (edge_at edges index))) in
      let by_to = cut.by_to in
      back-from index safe cut (index - safe.back.first) index (omega (arith, upto)) (omega arith) (within index safe cut) (omega (arith, ints, turned, by_to))

  -- On from it there is one, too.
  pub band-on : (index : ℕ) → IsSafe corners edges index → HasCut corners edges point index → HasBandOn corners edges point index
  band-on index safe cut =
      let from = safe.on.from in
      let join = joined index safe.inside in
      on-from index safe cut (safe.on.last - (index + 1)) (index + 1) (omega (arith, from)) (omega arith)
      (subst (λ (at : Point). IsWithin (sides corners) at point) join (within index safe cut))
      (subst (λ (at : Point). pos 0 ≤ℤ crossed (corner (index + 1)) (ahead point at)) join cut.by_from)

  -- The corner before an edge isn't cut where the point is behind the start of the edge.
  pub no-other : (index : ℕ) → index + 1 < length edges → IsBehind corners edges point (index + 1) → HasCut corners edges point index → ⊥
  no-other index inside behind cut =
      let from = subst (λ (at : Point). pos 0 ≤ℤ crossed (corner (index + 1)) (ahead point at)) (joined index inside) cut.by_from in
      omega (arith, ints, from, behind)
