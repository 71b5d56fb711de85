-- Rings of distinct edges that meet only at common ends have three corners.
use Rattle.std.proofs.Common.{◌≡◌, ◌≢◌, inl, inr, ◌<◌, ◌≤◌, [], ◌∷◌, ℕ, ℤ, pos, ◌+ℤ◌, ◌-ℤ◌, ◌*ℤ◌, ◌≤ℤ◌, ◌<ℤ◌, List, length, map, refl, ap, ap₂, sym, subst, ◌∙◌, arith}
use Rattle.std.specs.List.{All, Contains, flat_map}
use Rattle.std.proofs.lemmas.Int.{by_lt_z, ints}
use Rattle.std.proofs.lemmas.List.Elements.{All-cons, All-contains, All-head, All-nil, All-tail, Contains-append_left, Contains-append_right}
use Rattle.i_tree.proofs.RootLemmas.Joined.{AllPairs-behind, AllPairs-front}
use Rattle.i_tree.proofs.RootLemmas.Lists.{AllPairs-head, AllPairs-tail, Contains-here, Contains-there}
use Rattle.plane.specs.declared.edge.Edge.{Edge}
use Rattle.plane.specs.declared.point.Point.{Point}
use Rattle.plane.specs.Ends.{edge_between, end_of, start_of}
use Rattle.plane.specs.Meet.Crosses.{cross}
use Rattle.plane.specs.Meet.Edges.{IsOf, RationalPoint}
use Rattle.plane.specs.Meet.Kinds.{IsAt}
use Rattle.plane.proofs.MeetLemmas.Along.{Lies, ends, starts, whole_point}
use Rattle.plane.proofs.MeetLemmas.Identities.{identity, minus, number, plus, times, unscaled}
use Rattle.overlay.specs.Contours.Outlines.{IsStraight, next_or, outline}
use Rattle.overlay.specs.Contours.Rings.{IsRing, ring_edges}
use Rattle.overlay.specs.Contours.Turns.{dot}
use Rattle.overlay.specs.Fill.Filled.{AreDistinct, AreNoded, HaveSameEnds}
use Rattle.overlay.specs.Grouping.{edges_from}
use Rattle.noding.specs.Meeting.{MeetAtEnds}
use Rattle.overlay.proofs.ContourLemmas.Bends.{last_from}
use Rattle.overlay.proofs.ContourLemmas.Three.{Turns, three-bends, turn}
use Rattle.overlay.proofs.ContourLemmas.Turns.{across, along, some_square}
use Rattle.overlay.proofs.ContourLemmas.Ways.{without_minus, without_plus}
use Rattle.overlay.proofs.FillLemmas.Kept.{same-exchanged}
use Rattle.overlay.proofs.GroupingLemmas.Edges.{edges_from-first}
use Rattle.noding.proofs.SnapLemmas.Numbers.{n_of, natural}
use Rattle.noding.proofs.SnapLemmas.Reversed.{IsOf-reversed}

-- ---- points

point-same : (p q : Point) → p.x ≡ q.x → p.y ≡ q.y → p ≡ q
point-same p q level even = ap₂ (λ (x y : ℤ). point x y) level even
  where
    point : ℤ → ℤ → Point
    point x y = record { x = x; y = y }

-- the way from one point to another goes somewhere
some-way : (at to : Point) → at ≢ to → pos 0 <ℤ dot (to.x -ℤ at.x) (to.y -ℤ at.y) (to.x -ℤ at.x) (to.y -ℤ at.y)
some-way at to apart =
    some_square (to.x -ℤ at.x) (to.y -ℤ at.y) (λ (level, even). apart (point-same at to (none at.x to.x level) (none at.y to.y even)))
  where
    none : (a b : ℤ) → (b -ℤ a) ≡ pos 0 → a ≡ b
    none a b is = omega (arith, ints, is)

times-same : (n : ℕ) (a b : ℤ) → 0 < n → (pos n *ℤ a) ≡ (pos n *ℤ b) → a ≡ b
times-same n a b some is =
    let upto = unscaled n a b some (at_most_by (pos n *ℤ a) (pos n *ℤ b) is) in
    let from = unscaled n b a some (at_most_by (pos n *ℤ b) (pos n *ℤ a) (sym is)) in
    omega (arith, ints, upto, from)
  where
    at_most_by : (c d : ℤ) → c ≡ d → c ≤ℤ d
    at_most_by c d same = omega (arith, ints, same)

whole-same : (n : ℕ) (some : 0 < n) (p q : Point) → IsAt (whole_point n some p.x p.y) q.x q.y → p ≡ q
whole-same n some p q at = point-same p q (times-same n p.x q.x some at.x_is) (times-same n p.y q.y some at.y_is)

-- ---- ways that lie along each other

lies-by : (n a b z : ℤ) → (n *ℤ (b -ℤ a)) ≡ z → (n *ℤ b) ≡ ((n *ℤ a) +ℤ z)
lies-by n a b z is =
    identity (times (number n) (number b)) (plus (times (number n) (number a)) (times (number n) (minus (number b) (number a)))) (omega arith) ∙ ap (λ (d : ℤ). (n *ℤ a) +ℤ d) is

share-x : (rx ry vx vy : ℤ) → cross rx ry vx vy ≡ pos 0 → (dot rx ry rx ry *ℤ vx) ≡ (dot rx ry vx vy *ℤ rx)
share-x rx ry vx vy none =
    identity (times (along rx ry rx ry) (number vx)) (minus (times (along rx ry vx vy) (number rx)) (times (across rx ry vx vy) (number ry))) (omega arith)
    ∙ without_minus (dot rx ry vx vy) rx (cross rx ry vx vy) ry none

share-y : (rx ry vx vy : ℤ) → cross rx ry vx vy ≡ pos 0 → (dot rx ry rx ry *ℤ vy) ≡ (dot rx ry vx vy *ℤ ry)
share-y rx ry vx vy none =
    identity (times (along rx ry rx ry) (number vy)) (plus (times (along rx ry vx vy) (number ry)) (times (across rx ry vx vy) (number rx))) (omega arith)
    ∙ without_plus (dot rx ry vx vy) ry (cross rx ry vx vy) rx none

-- a point along the way to another one, and no further than that, is of the edge to it
pub lies-before : (at far near : Point) → at ≢ far → cross (far.x -ℤ at.x) (far.y -ℤ at.y) (near.x -ℤ at.x) (near.y -ℤ at.y) ≡ pos 0
    → pos 0 ≤ℤ dot (far.x -ℤ at.x) (far.y -ℤ at.y) (near.x -ℤ at.x) (near.y -ℤ at.y)
    → dot (far.x -ℤ at.x) (far.y -ℤ at.y) (near.x -ℤ at.x) (near.y -ℤ at.y) ≤ℤ dot (far.x -ℤ at.x) (far.y -ℤ at.y) (far.x -ℤ at.x) (far.y -ℤ at.y)
    → Lies (edge_between at far) near.x near.y
lies-before at far near apart none above upto =
    let rx = far.x -ℤ at.x in
    let ry = far.y -ℤ at.y in
    let vx = near.x -ℤ at.x in
    let vy = near.y -ℤ at.y in
    let whole = some-way at far apart in
    let size = natural (dot rx ry rx ry) (positive (dot rx ry rx ry) whole) in
    let part = natural (dot rx ry vx vy) above in
    let size_is = size.is in
    let part_is = part.is in
    record {
      n = size.k;
      some = more (dot rx ry rx ry) size.k size.is whole;
      of_edge = (
        part.k,
        record {
          share = less (dot rx ry vx vy) (dot rx ry rx ry) part.k size.k part.is size.is upto;
          x = subst (λ (n : ℤ). (n *ℤ near.x) ≡ ((n *ℤ at.x) +ℤ (pos part.k *ℤ rx))) size.is (lies-by (dot rx ry rx ry) at.x near.x (pos part.k *ℤ rx) (share-x rx ry vx vy none ∙ ap (λ (a : ℤ). a *ℤ rx) part.is));
          y = subst (λ (n : ℤ). (n *ℤ near.y) ≡ ((n *ℤ at.y) +ℤ (pos part.k *ℤ ry))) size.is (lies-by (dot rx ry rx ry) at.y near.y (pos part.k *ℤ ry) (share-y rx ry vx vy none ∙ ap (λ (a : ℤ). a *ℤ ry) part.is));
        },
      );
    }
  where
    positive : (z : ℤ) → pos 0 <ℤ z → pos 0 ≤ℤ z
    positive z some = omega (arith, ints, some)

    more : (z : ℤ) (k : ℕ) → z ≡ pos k → pos 0 <ℤ z → 0 < k
    more z k is some = omega (arith, ints, is, some)

    less : (a b : ℤ) (k n : ℕ) → a ≡ pos k → b ≡ pos n → a ≤ℤ b → k ≤ n
    less a b k n is is_too below = omega (arith, ints, is, is_too, below)

-- ---- corners

module _ (before at after : Point) where
  abbrev rx : ℤ
  rx = before.x -ℤ at.x

  abbrev ry : ℤ
  ry = before.y -ℤ at.y

  abbrev vx : ℤ
  vx = after.x -ℤ at.x

  abbrev vy : ℤ
  vy = after.y -ℤ at.y

  -- the way back, by the way there
  cross-back : cross rx ry vx vy ≡ (pos 0 -ℤ turn before at after)
  cross-back =
      identity (minus (times (minus (number before.x) (number at.x)) (minus (number after.y) (number at.y))) (times (minus (number before.y) (number at.y)) (minus (number after.x) (number at.x))))
      (minus (n_of 0) (minus (times (minus (number at.x) (number before.x)) (minus (number after.y) (number at.y))) (times (minus (number at.y) (number before.y)) (minus (number after.x) (number at.x))))) (omega arith)

  dot-back : dot rx ry vx vy ≡ (pos 0 -ℤ dot (at.x -ℤ before.x) (at.y -ℤ before.y) vx vy)
  dot-back =
      identity (plus (times (minus (number before.x) (number at.x)) (minus (number after.x) (number at.x))) (times (minus (number before.y) (number at.y)) (minus (number after.y) (number at.y))))
      (minus (n_of 0) (plus (times (minus (number at.x) (number before.x)) (minus (number after.x) (number at.x))) (times (minus (number at.y) (number before.y)) (minus (number after.y) (number at.y))))) (omega arith)

  cross-turned : cross vx vy rx ry ≡ turn before at after
  cross-turned =
      identity (minus (times (minus (number after.x) (number at.x)) (minus (number before.y) (number at.y))) (times (minus (number after.y) (number at.y)) (minus (number before.x) (number at.x))))
      (minus (times (minus (number at.x) (number before.x)) (minus (number after.y) (number at.y))) (times (minus (number at.y) (number before.y)) (minus (number after.x) (number at.x)))) (omega arith)

  dot-turned : dot vx vy rx ry ≡ dot rx ry vx vy
  dot-turned = identity (along vx vy rx ry) (along rx ry vx vy) (omega arith)

  -- the square of the way between the two
  dot-between : dot (after.x -ℤ before.x) (after.y -ℤ before.y) (after.x -ℤ before.x) (after.y -ℤ before.y) ≡ ((dot rx ry rx ry +ℤ dot vx vy vx vy) -ℤ (dot rx ry vx vy +ℤ dot rx ry vx vy))
  dot-between =
      let ax = minus (number before.x) (number at.x) in
      let ay = minus (number before.y) (number at.y) in
      let bx = minus (number after.x) (number at.x) in
      let by = minus (number after.y) (number at.y) in
      let wx = minus (number after.x) (number before.x) in
      let wy = minus (number after.y) (number before.y) in
      identity (plus (times wx wx) (times wy wy)) (minus (plus (plus (times ax ax) (times ay ay)) (plus (times bx bx) (times by by))) (plus (plus (times ax bx) (times ay by)) (plus (times ax bx) (times ay by)))) (omega arith)

  abbrev there : Edge
  there = edge_between before at

  abbrev on : Edge
  on = edge_between at after

  module _ (noded : (point : RationalPoint) → IsOf there point → IsOf on point → MeetAtEnds there on point) (some : before ≢ at) (some_too : at ≢ after) (apart : ¬ (HaveSameEnds there on)) where
    -- what is behind isn't of the edge there, but its start
    short : ¬ (Lies (edge_between at before) after.x after.y)
    short lies = go (noded point (IsOf-reversed (edge_between at before) point lies.of_edge) (ends on lies.n lies.some))
      where
        point : RationalPoint
        point = whole_point lies.n lies.some after.x after.y

        go : MeetAtEnds there on point → ⊥
        go (inl (inl start, end)) = apart (inr (ap (λ (p : Point). edge_between p at) (sym (whole-same lies.n lies.some after before start))))
        go (inl (inr start, end)) = some_too (sym (whole-same lies.n lies.some after at start))
        go (inr same) = apart same

    -- nor is what was before of the edge on
    long : ¬ (Lies (edge_between at after) before.x before.y)
    long lies = go (noded point (starts there lies.n lies.some) lies.of_edge)
      where
        point : RationalPoint
        point = whole_point lies.n lies.some before.x before.y

        go : MeetAtEnds there on point → ⊥
        go (inl (start, inl end)) = some (whole-same lies.n lies.some before at end)
        go (inl (start, inr end)) = apart (inr (ap (λ (p : Point). edge_between p at) (whole-same lies.n lies.some before after end)))
        go (inr same) = apart same

    -- so it doesn't turn right back
    ahead : turn before at after ≡ pos 0 → IsStraight before at after
    ahead none = by_lt_z (pos 0) (dot (at.x -ℤ before.x) (at.y -ℤ before.y) vx vy) (λ more. record { along = none; ahead = more }) (λ upto. absurd (back upto))
      where
        level : cross rx ry vx vy ≡ pos 0
        level = let same = cross-back in omega (arith, ints, same, none)

        level_too : cross vx vy rx ry ≡ pos 0
        level_too = cross-turned ∙ none

        back : dot (at.x -ℤ before.x) (at.y -ℤ before.y) vx vy ≤ℤ pos 0 → ⊥
        back upto =
            let turned = dot-back in
            let above : pos 0 ≤ℤ dot rx ry vx vy = omega (arith, ints, turned, upto) in
            by_lt_z (dot rx ry rx ry) (dot rx ry vx vy)
            (λ further.
            let same = dot-turned in
            let sum = dot-between in
            let square = some-way before after (λ same_too. apart (inr (ap (λ (p : Point). edge_between p at) same_too))) in
            long (lies-before at after before some_too level_too (omega (arith, ints, same, above)) (omega (arith, ints, same, sum, square, further))))
            (λ no_further. short (lies-before at before after (λ same. some (sym same)) level above no_further))

-- ---- rings

-- the edges from a point over others to the one behind them
abbrev pub way : Point → List Point → Point → List Edge
way from points to = edge_between from (next_or points to) ∷ edges_from points to

-- the last of them
pub closing-among : (from : Point) (points : List Point) (to : Point) → Contains (way from points to) (edge_between (last_from from points) to)
closing-among from [] to = Contains-here (edge_between from to) []
closing-among from (next ∷ points) to = Contains-there (edge_between from next) (way next points to) (edge_between (last_from next points) to) (closing-among next points to)

module _ (edges : List Edge) (noded : AreNoded edges) (two_ends : All (λ edge. start_of edge ≢ end_of edge) edges) where
  apart_ends : (from to : Point) → Contains edges (edge_between from to) → from ≢ to
  apart_ends from to among = All-contains (λ (edge : Edge). start_of edge ≢ end_of edge) edges (edge_between from to) two_ends among

  abbrev Differ : Edge → Edge → Type 0
  Differ one other = ¬ (HaveSameEnds one other)

  one-corner : (before at after : Point) → Contains edges (edge_between before at) → Contains edges (edge_between at after) → ¬ (HaveSameEnds (edge_between before at) (edge_between at after))
      → turn before at after ≡ pos 0 → IsStraight before at after
  one-corner before at after first second apart =
      ahead before at after (λ point of_one of_other. noded (edge_between before at) (edge_between at after) point first second of_one of_other)
      (apart_ends before at first) (apart_ends at after second) apart

  -- along some points
  corners-along : (before : Point) (points : List Point) (behind : Point) → ((edge : Edge) → Contains (way before points behind) edge → Contains edges edge) → AreDistinct (way before points behind) → Turns before points behind
  corners-along before [] behind among distinct = tt
  corners-along before (at ∷ points) behind among distinct =
      let next = next_or points behind in
      let first = edge_between before at in
      let rest = way at points behind in
      let inside : (edge : Edge) → Contains rest edge → Contains edges edge = λ edge held. among edge (Contains-there first rest edge held) in (
        one-corner before at next (among first (Contains-here first rest)) (inside (edge_between at next) (Contains-here (edge_between at next) (edges_from points behind)))
            (All-head (Differ first) (edge_between at next) (edges_from points behind) (AllPairs-head Differ first rest distinct)),
        corners-along at points behind inside (AllPairs-tail Differ first rest distinct),
      )

  -- where it closes
  closing-apart : (first : Point) (others : List Point) → ((edge : Edge) → Contains (way first others first) edge → Contains edges edge) → AreDistinct (way first others first)
      → ¬ (HaveSameEnds (edge_between (last_from first others) first) (edge_between first (next_or others first)))
  closing-apart first [] among distinct same = apart_ends first first (among (edge_between first first) (Contains-here (edge_between first first) [])) refl
  closing-apart first (next ∷ others) among distinct same =
      let last = edge_between (last_from next others) first in
      All-contains (Differ (edge_between first next)) (way next others first) last (AllPairs-head Differ (edge_between first next) (way next others first) distinct) (closing-among next others first)
      (same-exchanged last (edge_between first next) same)

  pub ring-corners : (ring : List Point) → ring ≢ [] → ((edge : Edge) → Contains (ring_edges ring) edge → Contains edges edge) → AreDistinct (ring_edges ring) → 3 ≤ length (outline ring)
  ring-corners [] some among distinct = absurd (some refl)
  ring-corners (first ∷ others) some among distinct =
      let all = way first others first in
      let is = edges_from-first (first ∷ others) in
      let inside : (edge : Edge) → Contains all edge → Contains edges edge = λ edge held. among edge (subst (λ (list : List Edge). Contains list edge) (sym is) held) in
      let apart : AreDistinct all = subst AreDistinct is distinct in
      let last = last_from first others in
      three-bends first others (
        one-corner last first (next_or others first) (inside (edge_between last first) (closing-among first others first))
            (inside (edge_between first (next_or others first)) (Contains-here (edge_between first (next_or others first)) (edges_from others first)))
            (closing-apart first others inside apart),
        corners-along first others first inside apart,
      )

  -- Where the edges of rings are among them, and distinct, each outline has three corners.
  pub rings-corners : (rings : List (List Point)) → All IsRing rings → ((edge : Edge) → Contains (flat_map ring_edges rings) edge → Contains edges edge) → AreDistinct (flat_map ring_edges rings) → All (λ ring. 3 ≤ length ring) (map outline rings)
  rings-corners [] each among distinct = All-nil (λ (ring : List Point). 3 ≤ length ring)
  rings-corners (ring ∷ rings) each among distinct =
      let rest = flat_map ring_edges rings in
      All-cons (λ (one : List Point). 3 ≤ length one) (outline ring) (map outline rings)
      (ring-corners ring (All-head IsRing ring rings each).some (λ edge held. among edge (Contains-append_left (ring_edges ring) rest edge held)) (AllPairs-front Differ (ring_edges ring) rest distinct))
      (rings-corners rings (All-tail IsRing ring rings each) (λ edge held. among edge (Contains-append_right (ring_edges ring) rest edge held)) (AllPairs-behind Differ (ring_edges ring) rest distinct))
