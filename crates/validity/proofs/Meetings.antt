-- What follows where edges meet as they may.
use Rattle.std.proofs.Common.{◌≡◌, ◌≢◌, ◌⊎◌, ⊎_elim, inl, inr, ℕ, zero, suc, ◌<◌, ℤ, pos, ◌*ℤ◌, Bool, true, false, List, Some, get_or, length, refl, ap, ap₂, sym, subst, ◌∙◌, arith}
use Rattle.std.specs.List.{AllPairs, slice_get}
use Rattle.std.proofs.lemmas.Option.{slice_get-get_or}
use Rattle.plane.specs.declared.edge.Edge.{Edge}
use Rattle.plane.specs.declared.meet.kinds.Meeting.TheVariants.{Apart, Cross, Share, Touch}
use Rattle.plane.specs.declared.point.Point.{Point}
use Rattle.plane.specs.Ends.{start_of}
use Rattle.plane.specs.Meet.Columns.{IsEndPoint}
use Rattle.plane.specs.Meet.Edges.{IsOf, RationalPoint}
use Rattle.plane.specs.Meet.Kinds.{AreSame, HasPoint, IsAt, IsEnd, MeetSo}
use Rattle.plane.proofs.MeetLemmas.Along.{ends, starts, whole_point}
use Rattle.plane.proofs.MeetLemmas.Identities.{identity, number, times}
use Rattle.noding.proofs.SnapLemmas.Numbers.{n_of}
use Rattle.overlay.specs.Fill.Filled.{AreNoded}
use Rattle.overlay.proofs.UncrossedLemmas.Finer.{AreParallel, IsWhole, common-whole, parallel-itself, times-same}
use Rattle.tiles.proofs.JoinSides.{never-beside}
use Rattle.tiles.proofs.JoinWinds.{AreUncrossed}
use Rattle.validity.specs.Meeting.{AllMayMeet, MayMeet, MeetInTurn}

-- one of two numbers is below the other, or they are the same
pub by_order : {P : Type 0} (i j : ℕ) → (i < j → P) → (i ≡ j → P) → (j < i → P) → P
by_order zero zero less same more = same refl
by_order zero (suc j) less same more = less (omega arith)
by_order (suc i) zero less same more = more (omega arith)
by_order (suc i) (suc j) less same more = by_order i j (λ below. less (omega (arith, below))) (λ is. same (ap suc is)) (λ above. more (omega (arith, above)))

some-same : {X : Type 0} (a b : X) → Some a ≡ Some b → a ≡ b
some-same a b h = cc

-- ---- points that are the same

pub swapped : (m n : ℕ) (a : ℤ) → (pos m *ℤ (pos n *ℤ a)) ≡ (pos n *ℤ (pos m *ℤ a))
swapped m n a = identity (times (n_of m) (times (n_of n) (number a))) (times (n_of n) (times (n_of m) (number a))) (omega arith)

-- a point that is the same as a whole one is this
moved-at : (point other : RationalPoint) (a b : ℤ) → AreSame point other → IsAt point a b → IsAt other a b
moved-at point other a b same at = record {
  x_is = times-same point.n other.x (pos other.n *ℤ a) point.positive (sym same.x ∙ ap (λ (z : ℤ). pos other.n *ℤ z) at.x_is ∙ swapped other.n point.n a);
  y_is = times-same point.n other.y (pos other.n *ℤ b) point.positive (sym same.y ∙ ap (λ (z : ℤ). pos other.n *ℤ z) at.y_is ∙ swapped other.n point.n b);
}

-- ---- edges that touch

-- what is of both is whole
touch-whole : (one other : Edge) → MeetSo one other Touch → (point : RationalPoint) → IsOf one point → IsOf other point → IsWhole point
touch-whole one other (at, both, alone, end) point of_one of_other =
    let same = alone at point both (of_one, of_other) in
    elim end [
      | inl (inl is) ↦ (one.x0, one.y0, moved-at at point one.x0 one.y0 same is)
      | inl (inr is) ↦ (one.x1, one.y1, moved-at at point one.x1 one.y1 same is)
      | inr (inl is) ↦ (other.x0, other.y0, moved-at at point other.x0 other.y0 same is)
      | inr (inr is) ↦ (other.x1, other.y1, moved-at at point other.x1 other.y1 same is)
    ]

-- each touches the other
pub touch-swapped : (one other : Edge) → MeetSo one other Touch → MeetSo other one Touch
touch-swapped one other (at, (of_one, of_other), alone, end) = (at, (of_other, of_one), λ first second (a, b) (c, d). alone first second (b, a) (d, c), ⊎_elim inr inl end)

-- an end of an edge is of it
end-of_edge : (edge : Edge) (point : Point) → IsEndPoint edge point → IsOf edge (whole_point 1 (omega arith) point.x point.y)
end-of_edge edge point (inl is) = subst (λ (p : Point). IsOf edge (whole_point 1 (omega arith) p.x p.y)) (sym is) (starts edge 1 (omega arith))
end-of_edge edge point (inr is) = subst (λ (p : Point). IsOf edge (whole_point 1 (omega arith) p.x p.y)) (sym is) (ends edge 1 (omega arith))

-- a point that is an end of it is one
end-at : (edge : Edge) (point : Point) (at : RationalPoint) → IsEndPoint edge point → IsAt at point.x point.y → IsEnd edge at
end-at edge point at (inl is) there = inl (subst (λ (p : Point). IsAt at p.x p.y) is there)
end-at edge point at (inr is) there = inr (subst (λ (p : Point). IsAt at p.x p.y) is there)

-- what is of both edges of a ring that meet in turn is an end of both
turn-ends : (one other : Edge) → MeetInTurn one other → (point : RationalPoint) → IsOf one point → IsOf other point → IsEnd one point × IsEnd other point
turn-ends one other turn point of_one of_other =
    let (at, both, alone, end) = turn.touch in
    let (common, of_first, of_second) = turn.common in
    let whole = whole_point 1 (omega arith) common.x common.y in
    let same = alone whole point (end-of_edge one common of_first, end-of_edge other common of_second) (of_one, of_other) in
    let there = moved-at whole point common.x common.y same (record { x_is = refl; y_is = refl }) in
    (end-at one common point of_first there, end-at other common point of_second there)

-- ---- edges at two places

module _ (in_ring : Bool) (edges : List Edge) (all : AllMayMeet in_ring edges) where
  pub at-places : (i j : ℕ) (one other : Edge) (point : RationalPoint) → i < j → slice_get edges i ≡ Some one → slice_get edges j ≡ Some other → IsOf one point → IsOf other point → MayMeet in_ring one other
  at-places i j one other point rising first second of_one of_other =
      let pair = all i j (record {
        one = one;
        other = other;
        rising = rising;
        first = first;
        second = second;
        meet = (point, of_one, of_other);
      }) in
      subst (λ (e : Edge). MayMeet in_ring one e) (some-same pair.other other (sym pair.second ∙ second))
      (subst (λ (e : Edge). MayMeet in_ring e pair.other) (some-same pair.one one (sym pair.first ∙ first)) pair.meet)

stands-at : (edges : List Edge) (edge : Edge) (k : ℕ) → k < length edges → get_or edges k edge ≡ edge → slice_get edges k ≡ Some edge
stands-at edges edge k within is = slice_get-get_or edges k edge within ∙ ap Some is

-- where each two touch none cross at a point with fractions
pub touch-uncrossed : (edges : List Edge) → AllMayMeet false edges → AreUncrossed edges
touch-uncrossed edges all one other x y (i, within, is) (j, within_too, is_too) crosses =
    by_order i j
    (λ below. never-beside one other x y (λ point of_one of_other. inl (touch-whole one other (at-places false edges all i j one other point below first second of_one of_other) point of_one of_other)) crosses)
    (λ same. crosses.0 (subst (λ (e : Edge). AreParallel one e) (some-same one other (sym first ∙ subst (λ (k : ℕ). slice_get edges k ≡ Some other) (sym same) second)) (parallel-itself one)))
    (λ above. never-beside one other x y (λ point of_one of_other. inl (touch-whole other one (at-places false edges all j i other one point above second first of_other of_one) point of_other of_one)) crosses)
  where
    first : slice_get edges i ≡ Some one
    first = stands-at edges one i within is

    second : slice_get edges j ≡ Some other
    second = stands-at edges other j within_too is_too

-- ---- the edges of a ring

module _ (edges : List Edge) (all : AllMayMeet true edges) where
  -- no two start at one point
  pub starts-once : AllPairs (λ one later. start_of one ≢ start_of later) edges
  starts-once i j d rising within same =
      let one = get_or edges i d in
      let other = get_or edges j d in
      let of_one = starts one 1 (omega arith) in
      let turn = at-places true edges all i j one other (whole_point 1 (omega arith) one.x0 one.y0) rising (slice_get-get_or edges i d (omega (arith, rising, within))) (slice_get-get_or edges j d within) of_one
      (subst (λ (p : Point). IsOf other (whole_point 1 (omega arith) p.x p.y)) (sym same) (starts other 1 (omega arith))) in
      turn.starts same

  -- they meet only at common ends
  pub ends-noded : AreNoded edges
  ends-noded one other point (i, within, is) (j, within_too, is_too) of_one of_other =
      by_order i j
      (λ below. inl (turn-ends one other (at-places true edges all i j one other point below first second of_one of_other) point of_one of_other))
      (λ same. inr (inl (some-same one other (sym first ∙ subst (λ (k : ℕ). slice_get edges k ≡ Some other) (sym same) second))))
      (λ above. let (a, b) = turn-ends other one (at-places true edges all j i other one point above second first of_other of_one) point of_other of_one in inl (b, a))
    where
      first : slice_get edges i ≡ Some one
      first = stands-at edges one i within is

      second : slice_get edges j ≡ Some other
      second = stands-at edges other j within_too is_too

-- ---- the point in which edges touch

-- a whole point of both is the only one
pub touch-only : (one other : Edge) (p q : Point) → MeetSo one other Touch → HasPoint one p.x p.y → HasPoint other p.x p.y → HasPoint one q.x q.y → HasPoint other q.x q.y → p ≡ q
touch-only one other p q (at, both, alone, end) on other_on on_too other_on_too =
    let (n, some, of_one, of_other) = common-whole one other p.x p.y on other_on in
    let (m, many, of_one_too, of_other_too) = common-whole one other q.x q.y on_too other_on_too in
    let there = moved-at (whole_point n some p.x p.y) (whole_point m many q.x q.y) p.x p.y (alone (whole_point n some p.x p.y) (whole_point m many q.x q.y) (of_one, of_other) (of_one_too, of_other_too)) (record { x_is = refl; y_is = refl }) in
    ap₂ (λ (x y : ℤ). (let point : Point = record { x = x; y = y } in point)) (times-same m p.x q.x many (sym there.x_is)) (times-same m p.y q.y many (sym there.y_is))

-- and an end of one of them
pub touch-ends : (one other : Edge) → MeetSo one other Touch → (HasPoint one other.x0 other.y0 ⊎ HasPoint one other.x1 other.y1) ⊎ (HasPoint other one.x0 one.y0 ⊎ HasPoint other one.x1 one.y1)
touch-ends one other (at, (of_one, of_other), alone, inl (inl is)) = inr (inl (at, of_other, is))
touch-ends one other (at, (of_one, of_other), alone, inl (inr is)) = inr (inr (at, of_other, is))
touch-ends one other (at, (of_one, of_other), alone, inr (inl is)) = inl (inl (at, of_one, is))
touch-ends one other (at, (of_one, of_other), alone, inr (inr is)) = inl (inr (at, of_one, is))

-- edges that meet otherwise don't touch
pub cross-no_touch : (one other : Edge) → MeetSo one other Cross → ¬ (MeetSo one other Touch)
cross-no_touch one other (point, both, most, no_end) (at, both_too, alone, end) =
    let same = alone at point both_too both in
    no_end (elim end [
      | inl (inl is) ↦ inl (inl (moved-at at point one.x0 one.y0 same is))
      | inl (inr is) ↦ inl (inr (moved-at at point one.x1 one.y1 same is))
      | inr (inl is) ↦ inr (inl (moved-at at point other.x0 other.y0 same is))
      | inr (inr is) ↦ inr (inr (moved-at at point other.x1 other.y1 same is))
    ])

pub share-no_touch : (one other : Edge) → MeetSo one other Share → ¬ (MeetSo one other Touch)
share-no_touch one other (first, second, both, both_too, apart) (at, there, alone, end) = apart (alone first second both both_too)

pub apart-no_touch : (one other : Edge) → MeetSo one other Apart → ¬ (MeetSo one other Touch)
apart-no_touch one other none (at, (of_one, of_other), alone, end) = none (at, of_one, of_other)
