-- An outline winds around each point as its ring does, has the same area, and is a ring.
use Rattle.std.proofs.Common.{◌≡◌, ◌≢◌, ◌⊎◌, inl, inr, ℕ, ◌-◌, ℤ, pos, ◌+ℤ◌, ◌-ℤ◌, true, false, List, [], ◌∷◌, ◌++◌, length, map, refl, sym, ap, ap₂, ◌∙◌, subst, arith}
use Rattle.std.specs.List.{All, AllPairs, flat_map}
use Rattle.std.proofs.lemmas.Bool.{cond_both}
use Rattle.std.proofs.lemmas.Int.{ints}
use Rattle.std.proofs.lemmas.List.Elements.{All-cons, All-head, All-nil, All-tail}
use Rattle.std.proofs.lemmas.List.Kept.{AllPairs-cons}
use Rattle.i_tree.proofs.RootLemmas.Lists.{AllPairs-head, AllPairs-tail}
use Rattle.plane.specs.Meet.Crosses.{cross}
use Rattle.plane.specs.Meet.Edges.{RationalPoint}
use Rattle.plane.specs.declared.edge.Edge.{Edge}
use Rattle.plane.specs.declared.point.Point.{Point}
use Rattle.overlay.specs.Contours.Outlines.{IsStraight, bends, goes_straight, next_or, outline, ring_point}
use Rattle.overlay.specs.Contours.Rings.{IsRing, ring_edges}
use Rattle.plane.specs.Ends.{edge_between}
use Rattle.noding.specs.Windings.{pieces, winding}
use Rattle.overlay.proofs.ContourLemmas.Outlines.{straight-is, straight-true}
use Rattle.overlay.proofs.ContourLemmas.Straight.{straight-further, straight-longer, straight-nowhere, under-nowhere, under-straight}
use Rattle.overlay.specs.Areas.{swept, twice_area}
use Rattle.overlay.specs.Fill.Pieces.{total}
use Rattle.plane.proofs.MeetLemmas.Identities.{identity, minus, number, plus, times}
use Rattle.noding.proofs.SnapLemmas.Counted.{added, under}
use Rattle.noding.proofs.SnapLemmas.Windings.{winding-added, winding-append}

-- what holds of the bends where it goes straight on at their first point, and where it doesn't
pub bends-either : (P : List Point → Type 0) (before at : Point) (points : List Point) (behind : Point) → (IsStraight before at (next_or points behind) → P (bends at points behind))
    → (¬ (IsStraight before at (next_or points behind)) → P (at ∷ bends at points behind)) → P (bends before (at ∷ points) behind)
bends-either P before at points behind skipped kept =
    cond_both (goes_straight before at (next_or points behind)) (bends at points behind) (at ∷ bends at points behind) P
    (λ is. skipped (straight-is before at (next_or points behind) is)) (λ bent. kept (λ straight. never (sym (straight-true before at (next_or points behind) straight) ∙ bent)))
  where
    never : true ≡ false → ⊥
    never h = cc

-- the same, whether it goes straight on there or not
pub bends-by : (P : List Point → Type 0) (before at : Point) (points : List Point) (behind : Point) → (IsStraight before at (next_or points behind) → P (bends at points behind)) → P (at ∷ bends at points behind)
    → P (bends before (at ∷ points) behind)
bends-by P before at points behind skipped kept = bends-either P before at points behind skipped (λ bent. kept)

-- ---- from the last point that is kept

-- The last point that is kept is this one, or from it straight over this one it goes to the next.
abbrev pub Leads : Point → Point → Point → Type 0
Leads kept before next = (kept ≡ before) ⊎ IsStraight kept before next

-- the last of the points, or if there is none the one before them
abbrev pub last_from : Point → List Point → Point
last_from from [] = from
last_from from (point ∷ points) = last_from point points

pub leads-straight : (kept before at next : Point) → Leads kept before at → IsStraight before at next → IsStraight kept at next
leads-straight kept before at next (inl same) is = subst (λ (p : Point). IsStraight p at next) (sym same) is
leads-straight kept before at next (inr so_far) is = straight-longer kept before at next so_far is

pub leads-on : (kept before at next : Point) → Leads kept before at → IsStraight before at next → Leads kept at next
leads-on kept before at next leads is = inr (leads-straight kept before at next leads is)

-- as far as the last of the points
pub leads-last : (kept before : Point) (points : List Point) (behind : Point) → Leads kept before (next_or points behind) → Leads (last_from kept (bends before points behind)) (last_from before points) behind
leads-last kept before [] behind leads = leads
leads-last kept before (at ∷ points) behind leads =
    bends-by (λ rest. Leads (last_from kept rest) (last_from at points) behind) before at points behind
    (λ straight. leads-last kept at points behind (leads-on kept before at (next_or points behind) leads straight))
    (leads-last at at points behind (inl refl))

-- The next point is this one, or straight over it there it goes on to this one.
abbrev pub Reaches : Point → Point → Point → Type 0
Reaches kept next end = (next ≡ end) ⊎ IsStraight kept next end

-- From a point that leads to the one behind the points, it reaches the next one that is kept.
abbrev pub Ends : Point → Point → Point → Type 0
Ends last behind end = (kept : Point) → Leads kept last behind → Reaches kept behind end

pub ends-there : (last behind : Point) → Ends last behind behind
ends-there last behind kept leads = inl refl

straight-reaches : (kept before next end : Point) → IsStraight kept before next → Reaches before next end → IsStraight kept before end
straight-reaches kept before next end is (inl same) = subst (λ (p : Point). IsStraight kept before p) same is
straight-reaches kept before next end is (inr more) = straight-further kept before next end is more

-- where it goes straight on, it does so as far as the next point that is kept
straight-next : (kept before : Point) (points : List Point) (behind end : Point) → Ends (last_from before points) behind end → IsStraight kept before (next_or points behind) → IsStraight kept before (next_or (bends before points behind) end)
straight-next kept before [] behind end ends is = straight-reaches kept before behind end is (ends before (inl refl))
straight-next kept before (at ∷ points) behind end ends is =
    bends-by (λ rest. IsStraight kept before (next_or rest end)) before at points behind
    (λ straight. straight-further kept before at (next_or (bends at points behind) end) is (straight-next before at points behind end ends straight))
    is

pub reaches : (kept before : Point) (points : List Point) (behind end : Point) → Ends (last_from before points) behind end → Leads kept before (next_or points behind)
    → Reaches kept (next_or points behind) (next_or (bends before points behind) end)
reaches kept before [] behind end ends leads = ends kept leads
reaches kept before (at ∷ points) behind end ends leads =
    bends-by (λ rest. Reaches kept at (next_or rest end)) before at points behind
    (λ straight. inr (straight-next kept at points behind end ends (leads-straight kept before at (next_or points behind) leads straight)))
    (inl refl)

leads-next : (kept before : Point) (points : List Point) (behind : Point) → Leads kept before (next_or points behind) → Leads kept before (next_or (bends before points behind) behind)
leads-next kept before points behind (inl same) = inl same
leads-next kept before points behind (inr is) = inr (straight-next kept before points behind behind (ends-there (last_from before points) behind) is)

-- ---- sums over edges that are the same over a straight way and over its whole

module _ (f : Edge → ℤ) (nowhere : (a : Point) → f (edge_between a a) ≡ pos 0)
    (straight : (a b c : Point) → IsStraight a b c → (f (edge_between a b) +ℤ f (edge_between b c)) ≡ f (edge_between a c)) where
  sum-leads : (kept before next : Point) → Leads kept before next → (f (edge_between kept before) +ℤ f (edge_between before next)) ≡ f (edge_between kept next)
  sum-leads kept before next (inl same) =
      subst (λ (p : Point). (f (edge_between p before) +ℤ f (edge_between before next)) ≡ f (edge_between p next)) (sym same)
      (let none = nowhere before in omega (arith, ints, none))
  sum-leads kept before next (inr is) = straight kept before next is

  -- the edges over the points give as much as those over the bends, up to the last point that is kept
  sum-bends : (kept before : Point) (points : List Point) (behind : Point) → Leads kept before (next_or points behind)
      → (f (edge_between kept before) +ℤ total f (pieces (before ∷ points)))
      ≡ (total f (pieces (kept ∷ bends before points behind)) +ℤ f (edge_between (last_from kept (bends before points behind)) (last_from before points)))
  sum-bends kept before [] behind leads = omega (arith, ints)
  sum-bends kept before (at ∷ points) behind leads =
      let first = sum-leads kept before at leads in
      bends-by (λ rest.
      (f (edge_between kept before) +ℤ (f (edge_between before at) +ℤ total f (pieces (at ∷ points))))
      ≡ (total f (pieces (kept ∷ rest)) +ℤ f (edge_between (last_from kept rest) (last_from at points)))) before at points behind
      (λ straight.
      let rest = sum-bends kept at points behind (leads-on kept before at (next_or points behind) leads straight) in
      omega (arith, ints, first, rest))
      (let rest = sum-bends at at points behind (inl refl) in
      let none = nowhere at in
      omega (arith, ints, first, rest, none))

  -- a path that goes on to one more point
  sum-more : (from : Point) (points : List Point) (to : Point) → total f (pieces (from ∷ points ++ to ∷ [])) ≡ (total f (pieces (from ∷ points)) +ℤ f (edge_between (last_from from points) to))
  sum-more from [] to = omega (arith, ints)
  sum-more from (next ∷ points) to = let rest = sum-more next points to in omega (arith, ints, rest)

  -- the edges of a ring, the last one first
  sum-ring : (first : Point) (others : List Point) → total f (ring_edges (first ∷ others)) ≡ (f (edge_between (last_from first others) first) +ℤ total f (pieces (first ∷ others)))
  sum-ring first others = let last = sum-more first others first in omega (arith, ints, last)

-- ---- rings

last-at : (first : Point) (others : List Point) → ring_point (first ∷ others) (length others) ≡ last_from first others
last-at first [] = refl
last-at first (next ∷ others) = last-at next others

ring-last : (first : Point) (others : List Point) → ring_point (first ∷ others) (length (first ∷ others) - 1) ≡ last_from first others
ring-last first others =
    let before : length (first ∷ others) - 1 ≡ length others = omega arith in
    ap (λ (place : ℕ). ring_point (first ∷ others) place) before ∙ last-at first others

pub outline-is : (first : Point) (others : List Point) → outline (first ∷ others) ≡ bends (last_from first others) (first ∷ others) first
outline-is first others = ap (λ (before : Point). bends before (first ∷ others) first) (ring-last first others)

-- The edges of an outline give as much as those of its ring.
pub sum-outline : (f : Edge → ℤ) → ((a : Point) → f (edge_between a a) ≡ pos 0) → ((a b c : Point) → IsStraight a b c → (f (edge_between a b) +ℤ f (edge_between b c)) ≡ f (edge_between a c))
    → (ring : List Point) → total f (ring_edges (outline ring)) ≡ total f (ring_edges ring)
sum-outline f nowhere straight [] = refl
sum-outline f nowhere straight (first ∷ others) =
    ap (λ (kept : List Point). total f (ring_edges kept)) (outline-is first others)
    ∙ same all (leads-next (last_from last all) last (first ∷ others) first (leads-last last last (first ∷ others) first (inl refl))) (sum-bends f nowhere straight last last (first ∷ others) first (inl refl))
  where
    last : Point
    last = last_from first others

    all : List Point
    all = bends last (first ∷ others) first

    same : (kept : List Point) → Leads (last_from last kept) last (next_or kept first)
        → (f (edge_between last last) +ℤ total f (pieces (last ∷ first ∷ others))) ≡ (total f (pieces (last ∷ kept)) +ℤ f (edge_between (last_from last kept) last))
        → total f (ring_edges kept) ≡ total f (ring_edges (first ∷ others))
    same [] leads sum =
        let whole = sum-ring f nowhere straight first others in
        let none = nowhere last in
        omega (arith, ints, sum, whole, none)
    same (next ∷ kept) leads sum =
        let whole = sum-ring f nowhere straight first others in
        let outer = sum-ring f nowhere straight next kept in
        let none = nowhere last in
        let over = sum-leads f nowhere straight (last_from next kept) last next leads in
        omega (arith, ints, sum, whole, outer, none, over)

-- what edges count for a point is such a sum
added-sum : (edges : List Edge) (point : RationalPoint) → added edges point ≡ total (λ edge. under edge point) edges
added-sum [] point = refl
added-sum (edge ∷ edges) point = ap (λ z. under edge point +ℤ z) (added-sum edges point)

-- An outline winds around each rational point as its ring does.
pub winding-outline : (ring : List Point) (point : RationalPoint) → winding (ring_edges (outline ring)) point ≡ winding (ring_edges ring) point
winding-outline ring point =
    winding-added (ring_edges (outline ring)) point
    ∙ added-sum (ring_edges (outline ring)) point
    ∙ sum-outline (λ edge. under edge point) (λ a. under-nowhere a point) (λ a b c is. under-straight a b c is point) ring
    ∙ sym (added-sum (ring_edges ring) point)
    ∙ sym (winding-added (ring_edges ring) point)

-- And it has the same area.
pub area-outline : (ring : List Point) → twice_area (outline ring) ≡ twice_area ring
area-outline ring = sum-outline swept swept-nowhere swept-straight ring
  where
    swept-nowhere : (a : Point) → swept (edge_between a a) ≡ pos 0
    swept-nowhere a = identity (minus (times (number a.x) (number a.y)) (times (number a.y) (number a.x))) (number (pos 0)) (omega arith)

    -- what two edges sweep is what the whole does, and what it turns from one to the other
    turned : (ax ay bx by cx cy : ℤ) → (cross ax ay bx by +ℤ cross bx by cx cy) ≡ (cross ax ay cx cy +ℤ cross (bx -ℤ ax) (by -ℤ ay) (cx -ℤ bx) (cy -ℤ by))
    turned ax ay bx by cx cy =
        identity
        (plus (minus (times (number ax) (number by)) (times (number ay) (number bx))) (minus (times (number bx) (number cy)) (times (number by) (number cx))))
        (plus (minus (times (number ax) (number cy)) (times (number ay) (number cx)))
        (minus (times (minus (number bx) (number ax)) (minus (number cy) (number by))) (times (minus (number by) (number ay)) (minus (number cx) (number bx)))))
        (omega arith)

    swept-straight : (a b c : Point) → IsStraight a b c → (swept (edge_between a b) +ℤ swept (edge_between b c)) ≡ swept (edge_between a c)
    swept-straight a b c is =
        let sum = turned a.x a.y b.x b.y c.x c.y in
        let none = is.along in
        omega (arith, ints, sum, none)

-- some point is kept
pub outline-some : (first : Point) (others : List Point) → outline (first ∷ others) ≢ []
outline-some first others =
    let last = ring_point (first ∷ others) (length (first ∷ others) - 1) in
    bends-by (λ kept. kept ≢ []) last first others first
    (λ straight none. straight-nowhere last first
    (subst (λ (kept : List Point). IsStraight last first (next_or kept first)) none (straight-next last first others first first (ends-there (last_from first others) first) straight)))
    (λ none. absurd cc)

-- the points that are kept are some of them
pub All-bends : (P : Point → Type 0) (before : Point) (points : List Point) (behind : Point) → All P points → All P (bends before points behind)
All-bends P before [] behind all = all
All-bends P before (at ∷ points) behind all =
    let rest = All-bends P at points behind (All-tail P at points all) in
    bends-by (All P) before at points behind (λ straight. rest) (All-cons P at (bends at points behind) (All-head P at points all) rest)

AllPairs-bends : (R : Point → Point → Type 0) (before : Point) (points : List Point) (behind : Point) → AllPairs R points → AllPairs R (bends before points behind)
AllPairs-bends R before [] behind all = all
AllPairs-bends R before (at ∷ points) behind all =
    let rest = AllPairs-bends R at points behind (AllPairs-tail R at points all) in
    bends-by (AllPairs R) before at points behind (λ straight. rest)
    (AllPairs-cons R at (bends at points behind) (All-bends (R at) at points behind (AllPairs-head R at points all)) rest)

-- An outline of a ring is a ring.
pub IsRing-outline : (ring : List Point) → IsRing ring → IsRing (outline ring)
IsRing-outline [] is = absurd (is.some refl)
IsRing-outline (first ∷ others) is = record {
  some = outline-some first others;
  once = AllPairs-bends (λ point later. point ≢ later) (ring_point (first ∷ others) (length (first ∷ others) - 1)) (first ∷ others) first is.once;
}

-- ---- many rings

pub winding-outlines : (rings : List (List Point)) (point : RationalPoint) → winding (flat_map ring_edges (map outline rings)) point ≡ winding (flat_map ring_edges rings) point
winding-outlines [] point = refl
winding-outlines (ring ∷ rings) point =
    winding-append (ring_edges (outline ring)) (flat_map ring_edges (map outline rings)) point
    ∙ ap₂ (λ (one other : ℤ). one +ℤ other) (winding-outline ring point) (winding-outlines rings point)
    ∙ sym (winding-append (ring_edges ring) (flat_map ring_edges rings) point)

pub AreRings-outlines : (rings : List (List Point)) → All IsRing rings → All IsRing (map outline rings)
AreRings-outlines [] are = All-nil IsRing
AreRings-outlines (ring ∷ rings) are =
    All-cons IsRing (outline ring) (map outline rings) (IsRing-outline ring (All-head IsRing ring rings are)) (AreRings-outlines rings (All-tail IsRing ring rings are))
