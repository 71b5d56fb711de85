-- What edges and stretches count for two points in one column, where they are aside of both, or the same line tells them from both.
use Rattle.std.proofs.Common.{◌≡◌, ◌⊎◌, inl, inr, ℕ, ◌*◌, ◌<◌, ◌-◌, ℤ, pos, ◌+ℤ◌, ◌*ℤ◌, ◌<ℤ◌, ◌≤ℤ◌, List, [], ◌∷◌, length, arith, ap, sym, ◌∙◌}
use Rattle.std.specs.List.{Contains}
use Rattle.std.proofs.lemmas.Int.{by_lt_z, ints}
use Rattle.std.proofs.lemmas.List.Elements.{Contains-get_or}
use Rattle.plane.specs.declared.edge.Edge.{Edge}
use Rattle.plane.specs.declared.point.Point.{Point}
use Rattle.plane.specs.Meet.Edges.{RationalPoint}
use Rattle.plane.proofs.MeetLemmas.Identities.{identity, number, plus, scaled, times}
use Rattle.overlay.specs.Contours.Outlines.{ring_point}
use Rattle.plane.specs.Ends.{end_of, reversed, start_of}
use Rattle.noding.specs.Windings.{pieces, winding, count}
use Rattle.monotone_chains.specs.Stretches.{Rises, chord}
use Rattle.noding.proofs.SnapLemmas.Counted.{counted, is_low}
use Rattle.noding.proofs.SnapLemmas.Heights.{Covering}
use Rattle.noding.proofs.SnapLemmas.Numbers.{n_of}
use Rattle.noding.proofs.SnapLemmas.Windings.{after, before, under-right, winding-added, within}
use Rattle.monotone_chains.proofs.StretchLemmas.Rising.{Crossed, rising-after, rising-before, rising-crossed, rising-onwards, winding-crossed}
use Rattle.monotone_chains.proofs.StretchLemmas.Sides.{along, beyond-low}

-- ---- two points in one column

-- The other stands in the point's column, over a multiple of its denominator.
pub record IsMoved (point other : RationalPoint) : Type 0 where
  pub m : ℕ
  pub some : 0 < m
  pub n : other.n ≡ m * point.n
  pub x : other.x ≡ (pos m *ℤ point.x)

module _ (point other : RationalPoint) (moved : IsMoved point other) (z : ℤ) where
  -- what is a multiple of one's denominator
  whole_is : (pos other.n *ℤ z) ≡ (pos moved.m *ℤ (pos point.n *ℤ z))
  whole_is = ap (λ (k : ℕ). pos k *ℤ z) moved.n ∙ identity (times (n_of (moved.m * point.n)) (number z)) (times (n_of moved.m) (times (n_of point.n) (number z))) (omega arith)

  pub moved-upto : (pos point.n *ℤ z) ≤ℤ point.x → (pos other.n *ℤ z) ≤ℤ other.x
  moved-upto upto =
      let there = scaled moved.m (pos point.n *ℤ z) point.x upto in
      let same = whole_is in
      let x = moved.x in
      omega (arith, ints, there, same, x)

  pub moved-below : point.x <ℤ (pos point.n *ℤ z) → other.x <ℤ (pos other.n *ℤ z)
  moved-below below =
      let there = scaled moved.m (point.x +ℤ pos 1) (pos point.n *ℤ z) (omega (arith, ints, below)) in
      let one_more : (pos moved.m *ℤ (point.x +ℤ pos 1)) ≡ ((pos moved.m *ℤ point.x) +ℤ pos moved.m) = identity (times (n_of moved.m) (plus (number point.x) (n_of 1))) (plus (times (n_of moved.m) (number point.x)) (n_of moved.m)) (omega arith) in
      let same = whole_is in
      let x = moved.x in
      let some = moved.some in
      omega (arith, ints, there, one_more, same, x, some)

pub covering-moved : (edge : Edge) (point other : RationalPoint) → IsMoved point other → Covering edge point → Covering edge other
covering-moved edge point other moved c = record {
  from = moved-upto point other moved edge.x0 c.from;
  before = moved-below point other moved edge.x1 c.before;
}

-- ---- an edge

-- A line tells both points from both ends of the edge.
pub record IsTold (edge : Edge) (point other : RationalPoint) : Type 0 where
  pub u : ℤ
  pub v : ℤ
  pub k : ℤ
  pub from : k <ℤ along u v edge.x0 edge.y0
  pub to : k <ℤ along u v edge.x1 edge.y1
  pub at_point : along u v point.x point.y ≤ℤ (pos point.n *ℤ k)
  pub at_other : along u v other.x other.y ≤ℤ (pos other.n *ℤ k)

-- The edge is left of the column, or right of it, or told from both points.
abbrev pub IsAside : Edge → RationalPoint → RationalPoint → Type 0
IsAside edge point other =
    (((pos point.n *ℤ edge.x0) ≤ℤ point.x) × ((pos point.n *ℤ edge.x1) ≤ℤ point.x)
    ⊎ (point.x <ℤ (pos point.n *ℤ edge.x0)) × (point.x <ℤ (pos point.n *ℤ edge.x1)))
    ⊎ IsTold edge point other

IsAside-reversed : (edge : Edge) (point other : RationalPoint) → IsAside edge point other → IsAside (reversed edge) point other
IsAside-reversed edge point other (inl (inl (from, to))) = inl (inl (to, from))
IsAside-reversed edge point other (inl (inr (from, to))) = inl (inr (to, from))
IsAside-reversed edge point other (inr told) = inr (record {
  u = told.u;
  v = told.v;
  k = told.k;
  from = told.to;
  to = told.from;
  at_point = told.at_point;
  at_other = told.at_other;
})

-- it is on one side of both
told-low : (edge : Edge) (point other : RationalPoint) → Covering edge point → Covering edge other → IsTold edge point other → is_low edge point ≡ is_low edge other
told-low edge point other c d told =
    beyond-low edge point c told.u told.v told.k told.from told.to told.at_point
    ∙ sym (beyond-low edge other d told.u told.v told.k told.from told.to told.at_other)

module _ (point other : RationalPoint) (moved : IsMoved point other) where
  counted-aside : (edge : Edge) → IsAside edge point other → counted edge point ≡ counted edge other
  counted-aside edge (inl (inl (from, to))) = after edge point to ∙ sym (after edge other (moved-upto point other moved edge.x1 to))
  counted-aside edge (inl (inr (from, to))) = before edge point from ∙ sym (before edge other (moved-below point other moved edge.x0 from))
  counted-aside edge (inr told) =
      by_lt_z point.x (pos point.n *ℤ edge.x0)
      (λ early. before edge point early ∙ sym (before edge other (moved-below point other moved edge.x0 early)))
      (λ late. by_lt_z point.x (pos point.n *ℤ edge.x1)
      (λ inside.
      let c : Covering edge point = record { from = late; before = inside } in
      let d = covering-moved edge point other moved c in
      within edge point c ∙ ap count (told-low edge point other c d told) ∙ sym (within edge other d))
      (λ past. after edge point past ∙ sym (after edge other (moved-upto point other moved edge.x1 past))))

  -- an edge that is aside counts the same for both
  pub winding-aside : (edge : Edge) → IsAside edge point other → winding (edge ∷ []) point ≡ winding (edge ∷ []) other
  winding-aside edge aside =
      let one = winding-added (edge ∷ []) point in
      let two = winding-added (edge ∷ []) other in
      let on = counted-aside edge aside in
      let back = counted-aside (reversed edge) (IsAside-reversed edge point other aside) in
      omega (arith, ints, one, two, on, back)

-- ---- points along which x rises

-- A line tells both points from all of these.
pub record AreTold (points : List Point) (point other : RationalPoint) : Type 0 where
  pub u : ℤ
  pub v : ℤ
  pub k : ℤ
  pub beyond : (q : Point) → Contains points q → k <ℤ along u v q.x q.y
  pub at_point : along u v point.x point.y ≤ℤ (pos point.n *ℤ k)
  pub at_other : along u v other.x other.y ≤ℤ (pos other.n *ℤ k)

abbrev pub AreAside : List Point → RationalPoint → RationalPoint → Type 0
AreAside points point other =
    (((q : Point) → Contains points q → (pos point.n *ℤ q.x) ≤ℤ point.x) ⊎ ((q : Point) → Contains points q → point.x <ℤ (pos point.n *ℤ q.x)))
    ⊎ AreTold points point other

-- an edge that goes rightwards, where it covers a point, counts whether it is low there
pub winding-covered : (edge : Edge) (point : RationalPoint) → edge.x0 ≤ℤ edge.x1 → Covering edge point → winding (edge ∷ []) point ≡ count (is_low edge point)
winding-covered edge point onwards c =
    let sum = winding-added (edge ∷ []) point in
    let own = under-right edge point onwards in
    let here = within edge point c in
    omega (arith, ints, sum, own, here)

-- and where it doesn't, nothing
winding-before : (edge : Edge) (point : RationalPoint) → edge.x0 ≤ℤ edge.x1 → point.x <ℤ (pos point.n *ℤ edge.x0) → winding (edge ∷ []) point ≡ pos 0
winding-before edge point onwards early =
    let sum = winding-added (edge ∷ []) point in
    let own = under-right edge point onwards in
    let here = before edge point early in
    omega (arith, ints, sum, own, here)

winding-after : (edge : Edge) (point : RationalPoint) → edge.x0 ≤ℤ edge.x1 → (pos point.n *ℤ edge.x1) ≤ℤ point.x → winding (edge ∷ []) point ≡ pos 0
winding-after edge point onwards late =
    let sum = winding-added (edge ∷ []) point in
    let own = under-right edge point onwards in
    let here = after edge point late in
    omega (arith, ints, sum, own, here)

module _ (points : List Point) (rises : Rises points) (point other : RationalPoint) (moved : IsMoved point other) where
  -- before the first they count nothing, as their chord does, and behind the last
  pub rising-early : point.x <ℤ (pos point.n *ℤ (chord points).x0) → winding (pieces points) point ≡ winding (chord points ∷ []) other
  rising-early early =
      rising-before point points rises early
      ∙ sym (winding-before (chord points) other (rising-onwards points rises) (moved-below point other moved (chord points).x0 early))

  pub rising-late : (pos point.n *ℤ (chord points).x1) ≤ℤ point.x → winding (pieces points) point ≡ winding (chord points ∷ []) other
  rising-late late =
      rising-after point points rises late
      ∙ sym (winding-after (chord points) other (rising-onwards points rises) (moved-upto point other moved (chord points).x1 late))

  -- between both they do where the piece there is on the side that the chord is on
  pub rising-inside : (c : Covering (chord points) point) (crossed : Crossed points point) → is_low crossed.piece point ≡ is_low (chord points) other → winding (pieces points) point ≡ winding (chord points ∷ []) other
  rising-inside c crossed same =
      winding-crossed point points crossed
      ∙ ap count same
      ∙ sym (winding-covered (chord points) other (rising-onwards points rises) (covering-moved (chord points) point other moved c))

  -- points that are aside count as much for the one point as their chord for the other
  pub rising-aside : 0 < length points → AreAside points point other → winding (pieces points) point ≡ winding (chord points ∷ []) other
  rising-aside some (inl (inl left)) = rising-late (left (end_of (chord points)) (Contains-get_or points (length points - 1) (ring_point [] 0) (omega (arith, some))))
  rising-aside some (inl (inr right)) = rising-early (right (start_of (chord points)) (Contains-get_or points 0 (ring_point [] 0) some))
  rising-aside some (inr told) =
      by_lt_z point.x (pos point.n *ℤ (chord points).x0) rising-early
      (λ late. by_lt_z point.x (pos point.n *ℤ (chord points).x1)
      (λ inside.
      let c : Covering (chord points) point = record { from = late; before = inside } in
      let crossed = rising-crossed point points rises some c in
      rising-inside c crossed
      (beyond-low crossed.piece point crossed.covers told.u told.v told.k (told.beyond (start_of crossed.piece) crossed.from) (told.beyond (end_of crossed.piece) crossed.to) told.at_point
      ∙ sym (beyond-low (chord points) other (covering-moved (chord points) point other moved c) told.u told.v told.k
      (told.beyond (start_of (chord points)) (Contains-get_or points 0 (ring_point [] 0) some))
      (told.beyond (end_of (chord points)) (Contains-get_or points (length points - 1) (ring_point [] 0) (omega (arith, some))))
      told.at_other)))
      rising-late)
