-- Each point of a ring lies on an edge of its outline.
use Rattle.std.proofs.Common.{◌≡◌, ◌≢◌, inl, inr, [], ◌∷◌, zero, suc, ℤ, pos, ◌+ℤ◌, ◌-ℤ◌, ◌<ℤ◌, ◌≤ℤ◌, List, refl, sym, subst, arith}
use Rattle.std.specs.List.{Contains}
use Rattle.std.proofs.lemmas.Int.{ints}
use Rattle.i_tree.proofs.RootLemmas.Lists.{Contains-here, Contains-there}
use Rattle.plane.specs.declared.edge.Edge.{Edge}
use Rattle.plane.specs.declared.point.Point.{Point}
use Rattle.plane.specs.Ends.{edge_between}
use Rattle.plane.specs.Meet.Kinds.{HasPoint}
use Rattle.plane.proofs.MeetLemmas.Along.{starts, whole_point}
use Rattle.plane.proofs.MeetLemmas.Identities.{identity, minus, number, plus, times}
use Rattle.overlay.specs.Contours.Outlines.{IsStraight, bends, next_or, outline}
use Rattle.overlay.specs.Contours.Rings.{ring_edges}
use Rattle.overlay.specs.Contours.Turns.{dot}
use Rattle.overlay.specs.Grouping.{edges_from}
use Rattle.overlay.proofs.ContourLemmas.Bends.{Ends, Leads, Reaches, bends-by, ends-there, last_from, leads-last, leads-on, outline-is, outline-some, reaches}
use Rattle.overlay.proofs.ContourLemmas.Straight.{straight-early, straight-home, whole, whole-first}
use Rattle.overlay.proofs.GroupingLemmas.Corners.{closing-among, lies-before, way}
use Rattle.overlay.proofs.GroupingLemmas.Edges.{edges_from-first}

-- ---- the point between the ends of a straight way

-- a number that is more than a part by something isn't below that
upto : (all part rest : ℤ) → all ≡ (part +ℤ rest) → pos 0 <ℤ rest → part ≤ℤ all
upto all part rest sum some = omega (arith, ints, sum, some)

-- a number above 0 isn't negative
weak : (z : ℤ) → pos 0 <ℤ z → pos 0 ≤ℤ z
weak z some = omega (arith, ints, some)

-- The point over which it goes straight on is of the whole way.
pub has-between : (a b c : Point) → IsStraight a b c → HasPoint (edge_between a c) b.x b.y
has-between a b c is =
    let first = whole-first a b c is in
    let wx = c.x -ℤ a.x in
    let wy = c.y -ℤ a.y in
    let found = lies-before a c b apart first.0 (weak (dot wx wy (b.x -ℤ a.x) (b.y -ℤ a.y)) first.1)
    (upto (dot wx wy wx wy) (dot wx wy (b.x -ℤ a.x) (b.y -ℤ a.y)) (dot wx wy (c.x -ℤ b.x) (c.y -ℤ b.y)) sum (whole a b c is).1) in
    (whole_point found.n found.some b.x b.y, found.of_edge, record { x_is = refl; y_is = refl })
  where
    apart : a ≢ c
    apart same = straight-home a b (subst (λ (p : Point). IsStraight a b p) (sym same) is)

    sum : dot (c.x -ℤ a.x) (c.y -ℤ a.y) (c.x -ℤ a.x) (c.y -ℤ a.y) ≡ (dot (c.x -ℤ a.x) (c.y -ℤ a.y) (b.x -ℤ a.x) (b.y -ℤ a.y) +ℤ dot (c.x -ℤ a.x) (c.y -ℤ a.y) (c.x -ℤ b.x) (c.y -ℤ b.y))
    sum =
        identity (plus (times (minus (number c.x) (number a.x)) (minus (number c.x) (number a.x))) (times (minus (number c.y) (number a.y)) (minus (number c.y) (number a.y))))
        (plus (plus (times (minus (number c.x) (number a.x)) (minus (number b.x) (number a.x))) (times (minus (number c.y) (number a.y)) (minus (number b.y) (number a.y))))
        (plus (times (minus (number c.x) (number a.x)) (minus (number c.x) (number b.x))) (times (minus (number c.y) (number a.y)) (minus (number c.y) (number b.y)))))
        (omega arith)

-- An edge has the point at which it starts.
pub has-start : (from to : Point) → HasPoint (edge_between from to) from.x from.y
has-start from to = (whole_point 1 (omega arith) from.x from.y, starts (edge_between from to) 1 (omega arith), record { x_is = refl; y_is = refl })

-- ---- along the bends

-- One of the edges has the point.
abbrev pub IsOnSome : List Edge → Point → Type 0
IsOnSome edges at = (over : Edge) × Contains edges over × HasPoint over at.x at.y

-- one of more edges does, too
on-more : (some all : List Edge) (at : Point) → ((edge : Edge) → Contains some edge → Contains all edge) → IsOnSome some at → IsOnSome all at
on-more some all at more (over, held, has) = (over, more over held, has)

-- the edge from the last point that is kept to the next one has the point before that
has-before : (kept before next end : Point) → Leads kept before next → Reaches kept next end → HasPoint (edge_between kept end) before.x before.y
has-before kept before next end (inl same) reached = subst (λ (p : Point). HasPoint (edge_between p end) before.x before.y) (sym same) (has-start before end)
has-before kept before next end (inr is) (inl same) = has-between kept before end (subst (λ (p : Point). IsStraight kept before p) same is)
has-before kept before next end (inr is) (inr on) = has-between kept before end (straight-early kept before next end is on)

-- Each of the points, and the one before them, lies on an edge from that kept point over the bends to the end.
on-bends : (kept before : Point) (points : List Point) (behind end : Point) → Ends (last_from before points) behind end → Leads kept before (next_or points behind)
    → (at : Point) → Contains (before ∷ points) at → IsOnSome (way kept (bends before points behind) end) at
on-bends kept before points behind end ends leads at (zero, within, is) =
    let kept_on = bends before points behind in
    let first = edge_between kept (next_or kept_on end) in
    subst (λ (p : Point). IsOnSome (way kept kept_on end) p) is
    (first, Contains-here first (edges_from kept_on end), has-before kept before (next_or points behind) (next_or kept_on end) leads (reaches kept before points behind end ends leads))
on-bends kept before [] behind end ends leads at (suc k, within, is) = absurd (omega (arith, within))
on-bends kept before (next ∷ points) behind end ends leads at (suc k, within, is) =
    let later : Contains (next ∷ points) at = (k, omega (arith, within), is) in
    let rest = bends next points behind in
    bends-by (λ list. IsOnSome (way kept list end) at) before next points behind
    (λ straight. on-bends kept next points behind end ends (leads-on kept before next (next_or points behind) leads straight) at later)
    (on-more (way next rest end) (edge_between kept next ∷ way next rest end) at (λ edge held. Contains-there (edge_between kept next) (way next rest end) edge held)
    (on-bends next next points behind end ends (inl refl) at later))

-- ---- rings

-- Each point of a ring lies on an edge of its outline.
pub on-outline : (ring : List Point) (at : Point) → Contains ring at → (over : Edge) × Contains (ring_edges (outline ring)) over × HasPoint over at.x at.y
on-outline [] at (k, within, is) = absurd (omega (arith, within))
on-outline (first ∷ others) at among =
    subst (λ (kept : List Point). IsOnSome (ring_edges kept) at) (sym (outline-is first others))
    (go all (subst (λ (kept : List Point). kept ≢ []) (outline-is first others) (outline-some first others))
    (on-bends (last_from last all) last (first ∷ others) first (next_or all first)
    (λ kept leads. reaches kept last (first ∷ others) first first (ends-there last first) leads)
    (leads-last last last (first ∷ others) first (inl refl)) at (Contains-there last (first ∷ others) at among)))
  where
    last : Point
    last = last_from first others

    all : List Point
    all = bends last (first ∷ others) first

    go : (kept : List Point) → kept ≢ [] → IsOnSome (way (last_from last kept) kept (next_or kept first)) at → IsOnSome (ring_edges kept) at
    go [] some on = absurd (some refl)
    go (next ∷ kept) some on =
        subst (λ (edges : List Edge). IsOnSome edges at) (sym (edges_from-first (next ∷ kept)))
        (on-more (way (last_from next kept) (next ∷ kept) next) (way next kept next) at inside on)
      where
        inside : (edge : Edge) → Contains (way (last_from next kept) (next ∷ kept) next) edge → Contains (way next kept next) edge
        inside edge (zero, within, is) = subst (λ (e : Edge). Contains (way next kept next) e) is (closing-among next kept next)
        inside edge (suc k, within, is) = (k, omega (arith, within), is)
