-- The raw curve of rings that bound a region winds around the points of the sum of this region and a shape more often than around
-- the others.
use Rattle.std.proofs.Common.{◌≡◌, ◌≢◌, ◌⊎◌, inl, inr, ⊎_elim, ℕ, zero, suc, ◌*◌, ℤ, pos, ◌+ℤ◌, ◌-ℤ◌, ◌*ℤ◌, ◌≤ℤ◌, ◌<ℤ◌, ◌&&◌, Bool, true, false, List, [], ◌∷◌, ◌++◌, refl, ap, ap₂, subst, sym, ◌∙◌, arith}
use Rattle.std.specs.List.{All, Contains, flat_map}
use Rattle.std.specs.Prelude.{int_le, int_lt}
use Rattle.std.proofs.lemmas.Int.{by_lt_z, ints}
use Rattle.std.proofs.lemmas.List.Elements.{All-cons, All-contains, All-nil}
use Rattle.std.proofs.lemmas.Bool.{and_from}
use Rattle.i_tree.proofs.RootLemmas.Lists.{Contains-filter}
use Rattle.plane.specs.declared.edge.Edge.{Edge}
use Rattle.plane.specs.declared.point.Point.{Point}
use Rattle.plane.specs.Ends.{edge_between, end_of, start_of}
use Rattle.plane.specs.Meet.Edges.{RationalPoint}
use Rattle.plane.proofs.MeetLemmas.Identities.{identity, minus, number, times}
use Rattle.noding.specs.Windings.{winding}
use Rattle.overlay.specs.Areas.{swept}
use Rattle.overlay.specs.Contours.Rings.{ring_edges}
use Rattle.overlay.proofs.FillLemmas.Premises.{All-among}
use Rattle.overlay.proofs.GroupingLemmas.Bags.{Contains-flat_map, Contains-in_flat_map}
use Rattle.offset.specs.Raw.{GoesThrough, fan, furthest, is_furthest, is_of_fan, moved, moved_edge, raw_edges}
use Rattle.offset.specs.Shape.{IsConvexAroundOrigin, neighbours, sides, turn}
use Rattle.offset.specs.Sum.{IsOfSum, IsOfSumBeyond}
use Rattle.offset.proofs.CoverLemmas.Cover.{IsCovered, IsKnown, IsRound, LastOfSide, RightOfInner, covered}
use Rattle.offset.proofs.CoverLemmas.Lines.{generic-off, left-of_band, left-of_triangle, lines, lines_of, lines_of_two}
use Rattle.offset.proofs.CoverLemmas.Reached.{reached}
use Rattle.offset.proofs.CoverLemmas.Sides.{side_of}
use Rattle.offset.proofs.PieceLemmas.Convex.{furthest-is, furthest-tells, shape-of}
use Rattle.offset.proofs.PieceLemmas.Parts.{Follows, raw-natural, raw-of_band, raw-of_part}
use Rattle.offset.proofs.PieceLemmas.Rounds.{IsJoined, neighbours-held, next-held, previous-held, ring-joined}
use Rattle.offset.proofs.PieceLemmas.Shifts.{from-generic}
use Rattle.offset.proofs.PieceLemmas.Sides.{left_by}
use Rattle.offset.proofs.PieceLemmas.Sums.{HaveNear, not-too-much}
use Rattle.offset.proofs.RawLemmas.{passes-le, passes-lt}
use Rattle.offset.proofs.SideLemmas.Close.{close-once}
use Rattle.offset.proofs.SideLemmas.Corners.{ends-last}
use Rattle.offset.proofs.SideLemmas.Inner.{BoundOnce}
use Rattle.offset.proofs.SideLemmas.Right.{goes-right}
use Rattle.offset.proofs.SideLemmas.Turns.{goes-on}
use Rattle.offset.proofs.SideLemmas.Ways.{crossed-between}

-- ---- the lines that a point is to be off

-- an edge that is moved has two ends still
moved-proper : (by from to : Point) → from ≢ to → moved by from ≢ moved by to
moved-proper by from to proper same =
    let x = ap (λ (p : Point). p.x) same in
    let y = ap (λ (p : Point). p.y) same in
    proper (ap₂ at (omega (arith, ints, x)) (omega (arith, ints, y)))
  where
    at : ℤ → ℤ → Point
    at a b = record { x = a; y = b }

-- so has the way from a point to where it is moved by a corner that isn't the origin
way-proper : (by from : Point) → by ≢ record { x = pos 0; y = pos 0 } → from ≢ moved by from
way-proper by from some same =
    let x = ap (λ (p : Point). p.x) same in
    let y = ap (λ (p : Point). p.y) same in
    some (ap₂ at (omega (arith, ints, x)) (omega (arith, ints, y)))
  where
    at : ℤ → ℤ → Point
    at a b = record { x = a; y = b }

-- a side that the origin lies left of has two ends, and doesn't begin at the origin
side-proper : (side : Edge) → pos 0 <ℤ swept side → start_of side ≢ end_of side
side-proper side left same =
    let x = ap (λ (p : Point). p.x) same in
    let y = ap (λ (p : Point). p.y) same in
    let along = ap₂ (λ (a b : ℤ). (side.x0 *ℤ b) -ℤ (side.y0 *ℤ a)) (sym x) (sym y) in
    let none = identity (minus (times (number side.x0) (number side.y0)) (times (number side.y0) (number side.x0))) (number (pos 0)) (omega arith) in
    omega (arith, ints, left, along, none)

starts-off : (side : Edge) → pos 0 <ℤ swept side → start_of side ≢ record { x = pos 0; y = pos 0 }
starts-off side left same =
    let x = ap (λ (p : Point). p.x) same in
    let y = ap (λ (p : Point). p.y) same in
    let along = ap₂ (λ (a b : ℤ). (a *ℤ side.y1) -ℤ (b *ℤ side.x1)) x y in
    let none = identity (minus (times (number (pos 0)) (number side.y1)) (times (number (pos 0)) (number side.x1))) (number (pos 0)) (omega arith) in
    omega (arith, ints, left, along, none)

-- ---- the theorem

module _ (corners : List Point) (convex : IsConvexAroundOrigin corners) (rings : List (List Point)) (bounds : BoundOnce (flat_map ring_edges rings)) where
  abbrev edges : List Edge
  edges = flat_map ring_edges rings

  abbrev pairs_of : List Point → List (Edge × Edge)
  pairs_of ring = neighbours (ring_edges ring)

  abbrev joints : List (Edge × Edge)
  joints = flat_map pairs_of rings

  around : (side : Edge) → Contains (sides corners) side → pos 0 <ℤ swept side
  around side held = All-contains (λ (e : Edge). pos 0 <ℤ swept e) (sides corners) side convex.left held

  follows-of : (edge next : Edge) → Contains joints (edge, next) → Follows rings edge next
  follows-of edge next held = Contains-flat_map pairs_of rings (edge, next) held

  -- the rings go round
  round : IsRound edges joints
  round = record {
    joint = λ one other held.
        let (ring, among, pair) = follows-of one other held in
        let (first, second) = neighbours-held (ring_edges ring) one other pair in
        record {
          before = Contains-in_flat_map ring_edges rings ring one among first;
          after = Contains-in_flat_map ring_edges rings ring other among second;
          joined = All-contains IsJoined (pairs_of ring) (one, other) (ring-joined ring) pair;
        };
    next = λ edge held.
        let (ring, among, inside) = Contains-flat_map ring_edges rings edge held in
        let (other, pair) = next-held (ring_edges ring) edge inside in
        (other, Contains-in_flat_map pairs_of rings ring (edge, other) among pair);
    previous = λ edge held.
        let (ring, among, inside) = Contains-flat_map ring_edges rings edge held in
        let (other, pair) = previous-held (ring_edges ring) edge inside in
        (other, Contains-in_flat_map pairs_of rings ring (other, edge) among pair);
  }

  -- an edge ends at each end from which the way to a point outside is next
  last-of : (point : RationalPoint) → winding edges point ≡ bounds.outer → LastOfSide edges point
  last-of point none vertex x y some only ahead ending starting off = ends-last edges bounds point none off vertex some only

  -- Each of the lines has two ends.
  pub lines-proper : All (λ line. start_of line ≢ end_of line) (lines (sides corners) edges)
  lines-proper = All-among (λ (line : Edge). start_of line ≢ end_of line) (lines (sides corners) edges) each
    where
      of_two : (edge side : Edge) → Contains edges edge → Contains (sides corners) side → (line : Edge) → Contains (lines_of_two edge side) line → start_of line ≢ end_of line
      of_two edge side held of_side line inside =
          All-contains (λ (e : Edge). start_of e ≢ end_of e) (lines_of_two edge side) line
          (all-four (edge_between (start_of edge) (moved (start_of side) (start_of edge))) (edge_between (end_of edge) (moved (start_of side) (end_of edge))) (moved_edge (start_of side) edge) (moved_edge (end_of edge) side)
          (way-proper (start_of side) (start_of edge) (starts-off side (around side of_side)))
          (way-proper (start_of side) (end_of edge) (starts-off side (around side of_side)))
          (moved-proper (start_of side) (start_of edge) (end_of edge) (All-contains (λ (e : Edge). start_of e ≢ end_of e) edges edge bounds.two_ends held))
          (moved-proper (end_of edge) (start_of side) (end_of side) (side-proper side (around side of_side))))
          inside
        where
          all-four : (a b c d : Edge) → start_of a ≢ end_of a → start_of b ≢ end_of b → start_of c ≢ end_of c → start_of d ≢ end_of d → All (λ (e : Edge). start_of e ≢ end_of e) (a ∷ b ∷ c ∷ d ∷ [])
          all-four a b c d one two three four = All-cons P a (b ∷ c ∷ d ∷ []) one (All-cons P b (c ∷ d ∷ []) two (All-cons P c (d ∷ []) three (All-cons P d [] four (All-nil P))))
            where
              P : Edge → Type 0
              P e = start_of e ≢ end_of e

      each : (line : Edge) → Contains (lines (sides corners) edges) line → start_of line ≢ end_of line
      each line held = of_one (Contains-flat_map (lines_of (sides corners)) edges line held)
        where
          of_one : (edge : Edge) × Contains edges edge × Contains (lines_of (sides corners) edge) line → start_of line ≢ end_of line
          of_one (edge, among, (zero, within, is)) = subst (λ (e : Edge). start_of e ≢ end_of e) is (All-contains (λ (e : Edge). start_of e ≢ end_of e) edges edge bounds.two_ends among)
          of_one (edge, among, (suc k, within, is)) =
              let (side, of_side, inside) = Contains-flat_map (lines_of_two edge) (sides corners) line (k, omega (arith, within), is) in
              of_two edge side among of_side line inside

  -- there are points inside near each point of them
  pub has-near : HaveNear bounds.outer edges
  has-near edge base k among of =
      let (point, one, close) = close-once edges bounds edge base among of k in (
        point,
        ((close.right, upwards k (pos base.n *ℤ point.x) (pos point.n *ℤ base.x) (pos (base.n * point.n)) close.left), (close.above, upwards k (pos base.n *ℤ point.y) (pos point.n *ℤ base.y) (pos (base.n * point.n)) close.below)),
        λ none. omega (arith, ints, one, none),
      )
    where
      upwards : (k : ℕ) (a b m : ℤ) → (pos k *ℤ (b -ℤ a)) ≤ℤ m → (pos 0 -ℤ m) ≤ℤ (pos k *ℤ (a -ℤ b))
      upwards k a b m most =
          let same = identity (times (number (pos k)) (minus (number a) (number b))) (minus (number (pos 0)) (times (number (pos k)) (minus (number b) (number a)))) (omega arith) in
          omega (arith, ints, most, same)

  module _ (point : RationalPoint) where
    -- around a point of a band or a triangle the raw curve winds
    covered-winds : bounds.outer ≤ℤ winding edges point → IsCovered (sides corners) (neighbours (sides corners)) edges joints point → bounds.outer <ℤ winding (raw_edges corners rings) point
    covered-winds natural (inl is) =
        let (ring, among, inside) = Contains-flat_map ring_edges rings is.edge is.among in
        let (next, pair) = next-held (ring_edges ring) is.edge inside in
        let left = left-of_band edges (neighbours (sides corners)) point is in
        let corner = furthest-is corners convex is.edge (is.one, is.corner) is.furthest.pair (furthest-tells is.edge (is.one, is.corner) is.furthest.before is.furthest.after) in
        raw-of_band corners convex rings bounds.two_ends point bounds.outer is.edge next (ring, among, pair) natural
        left.behind
        (subst (λ (c : Point). pos 0 <ℤ left_by (edge_between (start_of is.edge) (moved c (start_of is.edge))) point) corner left.from)
        (subst (λ (c : Point). pos 0 <ℤ left_by (moved_edge c is.edge) point) corner left.before)
        (subst (λ (c : Point). pos 0 <ℤ left_by (edge_between (moved c (end_of is.edge)) (end_of is.edge)) point) corner left.upto)
    covered-winds natural (inr is) =
        let left = left-of_triangle (sides corners) joints point is in
        raw-of_part corners convex rings bounds.two_ends point bounds.outer is.edge is.next is.side (follows-of is.edge is.next is.joint) is.left
        (Contains-filter (is_of_fan is.edge is.next) (sides corners) is.side (of_fan (turn is.edge is.side) (turn is.next is.side) is.from is.upto) is.of)
        natural left.from left.before left.upto
      where
        of_fan : (a b : ℤ) → pos 0 ≤ℤ a → b <ℤ pos 0 → (int_le (pos 0) a && int_lt b (pos 0)) ≡ true
        of_fan a b from upto = and_from (int_le (pos 0) a) (int_lt b (pos 0)) (passes-le (pos 0) a from) (passes-lt b (pos 0) upto)

    -- around a point of the sum that is off the lines it does
    winds-generic : All (λ line. left_by line point ≢ pos 0) (lines (sides corners) edges) → IsOfSumBeyond bounds.outer edges corners point → winding (raw_edges corners rings) point ≢ bounds.outer
    winds-generic off sum = ⊎_elim around-region beside-region (bounds.once point)
      where
        beside-region : winding edges point ≡ (bounds.outer +ℤ pos 1) → winding (raw_edges corners rings) point ≢ bounds.outer
        beside-region one none = let natural = raw-natural corners convex rings bounds.two_ends point in omega (arith, ints, one, none, natural)

        around-region : winding edges point ≡ bounds.outer → winding (raw_edges corners rings) point ≢ bounds.outer
        around-region none nothing =
            let crossed = crossed-between edges bounds.closed sum.from point (λ same. sum.inside (same ∙ none)) in
            let is_reached = reached (sides corners) around sum.from sum.by point crossed.point crossed.a crossed.m (record { x = sum.x; y = sum.y })
            (λ side held. All-contains (λ (e : Edge). pos 0 ≤ℤ side_of e sum.by) (sides corners) side sum.of_shape held) crossed.on in
            let right : RightOfInner edges point = λ edge from among of inner only apart. goes-right edges bounds edge from point among of inner none only apart in
            let known : IsKnown (sides corners) (neighbours (sides corners)) edges joints point = record {
              shape = shape-of corners convex;
              round = round;
              generic = generic-off (sides corners) edges point off;
              last = last-of point none;
              none_back = goes-on edges bounds.noded bounds.distinct bounds.two_ends;
            } in
            let found = covered (sides corners) (neighbours (sides corners)) edges joints point known right crossed.edge crossed.point crossed.among crossed.of is_reached in
            let winds = covered-winds (let same = none in omega (arith, ints, same)) found in
            omega (arith, ints, winds, nothing)

  -- The raw curve winds around each point of the sum unlike around those outside.
  pub not-too-little : (point : RationalPoint) → IsOfSumBeyond bounds.outer edges corners point → winding (raw_edges corners rings) point ≢ bounds.outer
  not-too-little point sum = from-generic bounds.outer edges (raw_edges corners rings) (lines (sides corners) edges) corners lines-proper winds-generic point sum

  -- around a point that isn't of it, it winds more often than around those outside where this is of the sum, and else just so
  -- often
  winds-sum : (point : RationalPoint) → All (λ edge. ¬ (GoesThrough edge point)) (raw_edges corners rings)
      → (IsOfSumBeyond bounds.outer edges corners point × (bounds.outer <ℤ winding (raw_edges corners rings) point)) ⊎ ((¬ (IsOfSumBeyond bounds.outer edges corners point)) × (winding (raw_edges corners rings) point ≡ bounds.outer))
  winds-sum point off =
      by_lt_z bounds.outer (winding (raw_edges corners rings) point)
      (λ above. inl (not-too-much corners convex bounds.outer rings bounds.two_ends has-near point off (λ none. omega (arith, ints, above, none)), above))
      (λ upto.
      let natural = raw-natural corners convex rings bounds.two_ends point in
      let none = never (winding edges point) (winding (raw_edges corners rings) point) (bounds.once point) natural upto in
      inr ((λ sum. not-too-little point sum none), none))
    where
      never : (e r : ℤ) → (e ≡ bounds.outer) ⊎ (e ≡ (bounds.outer +ℤ pos 1)) → e ≤ℤ r → r ≤ℤ bounds.outer → r ≡ bounds.outer
      never e r (inl none) from upto = omega (arith, ints, none, from, upto)
      never e r (inr one) from upto = absurd (omega (arith, ints, one, from, upto))

-- Where the rings wind around nothing outside, it winds around the points of the sum, and around no others.
pub winds-only : (corners : List Point) → IsConvexAroundOrigin corners → (rings : List (List Point)) (bounds : BoundOnce (flat_map ring_edges rings)) → bounds.outer ≡ pos 0 → (point : RationalPoint)
    → All (λ edge. ¬ (GoesThrough edge point)) (raw_edges corners rings)
    → (IsOfSum (flat_map ring_edges rings) corners point × (pos 0 <ℤ winding (raw_edges corners rings) point)) ⊎ ((¬ (IsOfSum (flat_map ring_edges rings) corners point)) × (winding (raw_edges corners rings) point ≡ pos 0))
winds-only corners convex rings bounds outside point off =
    subst (λ (outer : ℤ). (IsOfSumBeyond outer (flat_map ring_edges rings) corners point × (outer <ℤ winding (raw_edges corners rings) point)) ⊎ ((¬ (IsOfSumBeyond outer (flat_map ring_edges rings) corners point)) × (winding (raw_edges corners rings) point ≡ outer)))
    outside (winds-sum corners convex rings bounds point off)
