-- Among all edges of stretches, those of a long one pass no hot points but their ends.
use Rattle.std.proofs.Common.{◌≡◌, ◌≢◌, ◌⊎◌, inl, inr, ⊎_elim, ℕ, ℤ, ◌≤ℤ◌, List, refl, sym, ap, ◌∙◌, subst, arith}
use Rattle.std.specs.List.{All, AllPairs, Contains, flat_map}
use Rattle.std.proofs.lemmas.Int.{by_lt_z, clamps, ints}
use Rattle.std.proofs.lemmas.List.Elements.{All-contains}
use Rattle.plane.specs.declared.edge.Edge.{Edge}
use Rattle.plane.specs.declared.point.Point.{Point}
use Rattle.overlay.proofs.GroupingLemmas.Bags.{Contains-flat_map}
use Rattle.noding.specs.Chains.{CrossAt, IsEnd, IsHot, Passes}
use Rattle.noding.specs.Close.{InBox}
use Rattle.noding.specs.Local.{CrossBeside, MovesInRound, PassesBeside}
use Rattle.plane.specs.Ends.{edge_between, end_of, start_of}
use Rattle.noding.specs.Windings.{pieces}
use Rattle.monotone_chains.specs.Stretches.{Falls, GoesOn, IsLong, IsStretch, Rises}
use Rattle.noding.proofs.Callers.{end-hot}
use Rattle.noding.proofs.ChainLemmas.Crossings.{CrossAt-end}
use Rattle.noding.proofs.ChainLemmas.Local.{has_end}
use Rattle.noding.proofs.SnapLemmas.Along.{Passes-in_box, from_at, point_at}
use Rattle.noding.proofs.SnapLemmas.Crossing.{CrossAt-exchanged, CrossAt-itself}
use Rattle.noding.proofs.SnapLemmas.Hulls.{IsNearHull, near-hull}
use Rattle.noding.proofs.SnapLemmas.Local.{common_whole, moves-hot}
use Rattle.noding.proofs.SnapLemmas.Near.{IsNear-piece}
use Rattle.noding.proofs.SnapLemmas.Rounding.{whole}
use Rattle.monotone_chains.proofs.StretchLemmas.Adjoin.{Adjoin, adjoin-on, near-adjoin}
use Rattle.monotone_chains.proofs.StretchLemmas.Boxes.{AllPairs-any, ClearIfLong, clear-any, long-ways}
use Rattle.monotone_chains.proofs.StretchLemmas.Inner.{goes-from, goes-upto}
use Rattle.monotone_chains.proofs.StretchLemmas.NodedWays.{Follows, follow, piece-points}

-- ---- two edges that come to one x

-- They have a common end there, and each has no other one.
pub record Joins (one other : Edge) (x : ℤ) : Type 0 where
  pub at : Point
  pub x_is : x ≡ at.x
  pub end : IsEnd one at.x at.y
  pub other_end : IsEnd other at.x at.y
  pub only : (p : Point) → IsEnd one p.x p.y → p.x ≡ x → p ≡ at
  pub only_other : (p : Point) → IsEnd other p.x p.y → p.x ≡ x → p ≡ at

Joins-exchanged : (one other : Edge) (x : ℤ) → Joins one other x → Joins other one x
Joins-exchanged one other x joins = record {
  at = joins.at;
  x_is = joins.x_is;
  end = joins.other_end;
  other_end = joins.end;
  only = joins.only_other;
  only_other = joins.only;
}

-- a point at which an edge starts or ends is an end of it, and the other way round
pub IsEnd-of : (edge : Edge) (p : Point) → (start_of edge ≡ p) ⊎ (end_of edge ≡ p) → IsEnd edge p.x p.y
IsEnd-of edge p (inl is) = inl (sym (ap (λ (q : Point). q.x) is), sym (ap (λ (q : Point). q.y) is))
IsEnd-of edge p (inr is) = inr (sym (ap (λ (q : Point). q.x) is), sym (ap (λ (q : Point). q.y) is))

-- each end of an edge of points is one of them
end-point : (points : List Point) (edge : Edge) → Contains (pieces points) edge → (p : Point) → IsEnd edge p.x p.y → Contains points p
end-point points edge held p (inl (at_x, at_y)) =
    subst (λ (a : ℤ). Contains points (point_at a p.y)) (sym at_x) (subst (λ (b : ℤ). Contains points (point_at edge.x0 b)) (sym at_y) (piece-points points edge held).0)
end-point points edge held p (inr (at_x, at_y)) =
    subst (λ (a : ℤ). Contains points (point_at a p.y)) (sym at_x) (subst (λ (b : ℤ). Contains points (point_at edge.x1 b)) (sym at_y) (piece-points points edge held).1)

-- ---- edges of one stretch

module _ (points : List Point) (ways : Rises points ⊎ Falls points) where
  -- no two points have one x
  only-at : (p q : Point) → Contains points p → Contains points q → p.x ≡ q.x → p ≡ q
  only-at p q first second same =
      ⊎_elim (λ one. one) (λ differ. absurd (differ same))
      (AllPairs-any (λ (a b : Point). a.x ≢ b.x) (λ a b differ level. differ (sym level)) points
      (λ k l d before within level. ⊎_elim
      (λ rises. let less = rises k l d before within in omega (arith, ints, less, level))
      (λ falls. let less = falls k l d before within in omega (arith, ints, less, level))
      ways)
      p q first second)

  -- one that comes behind the other begins where this ends
  joined : (one other : Edge) (x y : ℤ) → Contains (pieces points) one → Contains (pieces points) other → InBox one x y → InBox other x y → Follows one other → Joins one other x
  joined one other x y among among_too box other_box follows =
      let (first, second) = ends follows in
      let same : start_of other ≡ end_of one = only-at (start_of other) (end_of one) (piece-points points other among_too).0 (piece-points points one among).1 (second ∙ sym first) in
      let only : (edge : Edge) → Contains (pieces points) edge → (p : Point) → IsEnd edge p.x p.y → p.x ≡ x → p ≡ end_of one =
      λ edge held p end level. only-at p (end_of one) (end-point points edge held p end) (piece-points points one among).1 (level ∙ sym first) in record {
        at = end_of one;
        x_is = sym first;
        end = inr (refl, refl);
        other_end = IsEnd-of other (end_of one) (inl same);
        only = only one among;
        only_other = only other among_too;
      }
    where
      ends : Follows one other → (one.x1 ≡ x) × (other.x0 ≡ x)
      ends (inl (right, next, right_too)) =
          let upto = box.right in
          let from = other_box.left in (omega (arith, ints, clamps, right, next, right_too, upto, from), omega (arith, ints, clamps, right, next, right_too, upto, from))
      ends (inr (left, next, left_too)) =
          let from = box.left in
          let upto = other_box.right in (omega (arith, ints, clamps, left, next, left_too, upto, from), omega (arith, ints, clamps, left, next, left_too, upto, from))

  -- so two of them that come to one x are one, or join there
  same-joins : (one other : Edge) (x y : ℤ) → Contains (pieces points) one → Contains (pieces points) other → InBox one x y → InBox other x y → (one ≡ other) ⊎ Joins one other x
  same-joins one other x y among among_too box other_box = elim (AllPairs-any Either (λ a b either. ⊎_elim inr inl either) (pieces points) (λ k l d before within. inl (follow points ways k l d before within)) one other among among_too) [
    | inl same ↦ inl same
    | inr (inl behind) ↦ inr (joined one other x y among among_too box other_box behind)
    | inr (inr before) ↦ inr (Joins-exchanged other one x (joined other one x y among_too among other_box box before))
  ]
    where
      Either : Edge → Edge → Type 0
      Either a b = Follows a b ⊎ Follows b a

-- ---- edges of two

-- what an edge of points passes is near their hull
passed-hull : (points : List Point) (edge : Edge) → Contains (pieces points) edge → (x y : ℤ) → Passes edge x y → IsNearHull points (whole x y)
passed-hull points edge held x y passes =
    let (from, to) = piece-points points edge held in
    let point : Edge = edge_between (point_at x y) (point_at x y) in
    near-hull points edge (whole x y) from to (IsNear-piece edge point (whole x y) passes passes (0, from_at point))

-- an edge that comes to an x which is behind none of its ends, or before none, has an end there
end_at : (edge : Edge) (x y : ℤ) → InBox edge x y → (edge.x0 ≤ℤ x) × (edge.x1 ≤ℤ x) ⊎ (x ≤ℤ edge.x0) × (x ≤ℤ edge.x1) → (edge.x0 ≡ x) ⊎ (edge.x1 ≡ x)
end_at edge x y box (inl (from, to)) =
    let right = box.right in
    by_lt_z edge.x0 edge.x1 (λ less. inr (omega (arith, ints, clamps, from, to, right, less))) (λ upto. inl (omega (arith, ints, clamps, from, to, right, upto)))
end_at edge x y box (inr (from, to)) =
    let left = box.left in
    by_lt_z edge.x0 edge.x1 (λ less. inl (omega (arith, ints, clamps, from, to, left, less))) (λ upto. inr (omega (arith, ints, clamps, from, to, left, upto)))

-- where the points of both adjoin
joins-at : (s t : List Point) (one other : Edge) (x : ℤ) → Contains (pieces s) one → Contains (pieces t) other → Adjoin s t x → (one.x0 ≡ x) ⊎ (one.x1 ≡ x) → (other.x0 ≡ x) ⊎ (other.x1 ≡ x) → Joins one other x
joins-at s t one other x among among_too adjoin end other_end = record {
  at = adjoin.at;
  x_is = adjoin.x_is;
  end = IsEnd-of one adjoin.at (there end);
  other_end = IsEnd-of other adjoin.at (there_too other_end);
  only = λ p is level. adjoin.only p (end-point s one among p is) (level ∙ adjoin.x_is);
  only_other = λ p is level. adjoin.only_other p (end-point t other among_too p is) (level ∙ adjoin.x_is);
}
  where
    there : (one.x0 ≡ x) ⊎ (one.x1 ≡ x) → (start_of one ≡ adjoin.at) ⊎ (end_of one ≡ adjoin.at)
    there (inl level) = inl (adjoin.only (start_of one) (piece-points s one among).0 (level ∙ adjoin.x_is))
    there (inr level) = inr (adjoin.only (end_of one) (piece-points s one among).1 (level ∙ adjoin.x_is))

    there_too : (other.x0 ≡ x) ⊎ (other.x1 ≡ x) → (start_of other ≡ adjoin.at) ⊎ (end_of other ≡ adjoin.at)
    there_too (inl level) = inl (adjoin.only_other (start_of other) (piece-points t other among_too).0 (level ∙ adjoin.x_is))
    there_too (inr level) = inr (adjoin.only_other (end_of other) (piece-points t other among_too).1 (level ∙ adjoin.x_is))

-- and where the one goes on as the other
joins-on : (s t : List Point) → IsStretch s → IsStretch t → GoesOn s t → (one other : Edge) (x y : ℤ) → Contains (pieces s) one → Contains (pieces t) other → InBox one x y → InBox other x y → Joins one other x
joins-on s t is is_too goes one other x y among among_too box other_box =
    let (from, to) = piece-points s one among in
    let (other_from, other_to) = piece-points t other among_too in
    let a = goes-upto s t goes (start_of one) from in
    let b = goes-upto s t goes (end_of one) to in
    let c = goes-from s t goes (start_of other) other_from in
    let d = goes-from s t goes (end_of other) other_to in
    let right = box.right in
    let left = other_box.left in
    joins-at s t one other x among among_too
    (adjoin-on s t is is_too x (goes, omega (arith, ints, clamps, a, b, c, d, right, left)))
    (end_at one x y box (inl (omega (arith, ints, clamps, a, b, c, d, right, left), omega (arith, ints, clamps, a, b, c, d, right, left))))
    (end_at other x y other_box (inr (omega (arith, ints, clamps, a, b, c, d, right, left), omega (arith, ints, clamps, a, b, c, d, right, left))))

-- ---- among stretches

module _ (all : List (List Point)) (each : All IsStretch all) (clear : AllPairs ClearIfLong all) where
  abbrev edges : List Edge
  edges = flat_map pieces all

  is_stretch : (s : List Point) → Contains all s → IsStretch s
  is_stretch s among = All-contains IsStretch all s each among

  module _ (s : List Point) (among : Contains all s) (long : IsLong s) (edge : Edge) (held : Contains (pieces s) edge) where
    -- another edge that passes what this one passes is this one, or joins it there
    pub passed-joins : (t : List Point) → Contains all t → (other : Edge) → Contains (pieces t) other → (x y : ℤ) → Passes edge x y → Passes other x y → (edge ≡ other) ⊎ Joins edge other x
    passed-joins t among_too other held_too x y passes passes_too = elim (clear-any all clear s t among among_too) [
      | inl same ↦ same-joins s (long-ways s (is_stretch s among) long) edge other x y held (subst (λ (u : List Point). Contains (pieces u) other) (sym same) held_too) box other_box
      | inr clear_if ↦ inr (by (near-adjoin s t (clear_if (inl long)) (whole x y) (passed-hull s edge held x y passes) (passed-hull t other held_too x y passes_too)))
    ]
      where
        box : InBox edge x y
        box = Passes-in_box edge x y passes

        other_box : InBox other x y
        other_box = Passes-in_box other x y passes_too

        by : GoesOn s t ⊎ GoesOn t s → Joins edge other x
        by (inl goes) = joins-on s t (is_stretch s among) (is_stretch t among_too) goes edge other x y held held_too box other_box
        by (inr back) = Joins-exchanged other edge x (joins-on t s (is_stretch t among_too) (is_stretch s among) back other edge x y held_too held other_box box)

    module _ (h : Point) (passes : Passes edge h.x h.y) where
      -- an end of an edge
      by_end : (t : List Point) → Contains all t → (other : Edge) → Contains (pieces t) other → IsEnd other h.x h.y → IsEnd edge h.x h.y
      by_end t among_too other held_too end = elim (passed-joins t among_too other held_too h.x h.y passes (end-hot (pieces t) other h.x h.y held_too end).1) [
        | inl same ↦ subst (λ (e : Edge). IsEnd e h.x h.y) (sym same) end
        | inr joins ↦ subst (λ (p : Point). IsEnd edge p.x p.y) (sym (joins.only_other h end refl)) joins.end
      ]

      -- a crossing of two
      by_crossing : (t u : List Point) → Contains all t → Contains all u → (one other : Edge) → Contains (pieces t) one → Contains (pieces u) other → CrossAt one other h.x h.y → IsEnd edge h.x h.y
      by_crossing t u first second one other held_one held_other (slanted, (point, of_one, of_other, rounds)) =
          go (passed-joins t first one held_one h.x h.y passes (point, of_one, rounds)) (passed-joins u second other held_other h.x h.y passes (point, of_other, rounds))
        where
          cross : CrossAt one other h.x h.y
          cross = (slanted, (point, of_one, of_other, rounds))

          -- they share an end, so they cross there
          shared : (c : Point) → IsEnd one c.x c.y → IsEnd other c.x c.y → IsEnd edge h.x h.y
          shared c of_one of_other = by_end t first one held_one (CrossAt-end one other h.x h.y (c.x, c.y, of_one, of_other) cross)

          go : (edge ≡ one) ⊎ Joins edge one h.x → (edge ≡ other) ⊎ Joins edge other h.x → IsEnd edge h.x h.y
          go (inl same) (inl same_too) = absurd (CrossAt-itself other h.x h.y (subst (λ (e : Edge). CrossAt e other h.x h.y) (sym same ∙ same_too) cross))
          go (inl same) (inr joins) = shared joins.at (subst (λ (e : Edge). IsEnd e joins.at.x joins.at.y) same joins.end) joins.other_end
          go (inr joins) (inl same) = shared joins.at joins.other_end (subst (λ (e : Edge). IsEnd e joins.at.x joins.at.y) same joins.end)
          go (inr joins) (inr later) =
              let one_point : joins.at ≡ later.at = later.only joins.at joins.end (sym joins.x_is) in
              shared joins.at joins.other_end (subst (λ (c : Point). IsEnd other c.x c.y) (sym one_point) later.other_end)

      -- so a hot point that it passes is one of its ends
      pub hot-end : IsHot edges h.x h.y → IsEnd edge h.x h.y
      hot-end (inl (other, among_edges, end)) =
          let (t, among_too, held_too) = Contains-flat_map pieces all other among_edges in
          by_end t among_too other held_too end
      hot-end (inr (one, other, first, second, cross)) =
          let (t, among_one, held_one) = Contains-flat_map pieces all one first in
          let (u, among_other, held_other) = Contains-flat_map pieces all other second in
          by_crossing t u among_one among_other one other held_one held_other cross

    -- it passes no point that moves edges and doesn't lie on it
    pub long-rests : (round : ℕ) → ¬ (PassesBeside (MovesInRound edges round) edge)
    long-rests round (x, y, moves, passes, beside) = beside (has_end edge x y (hot-end (point_at x y) passes (moves-hot edges round x y moves)))

    -- and crosses none at a point with fractions
    pub long-crossing : (t : List Point) → Contains all t → (other : Edge) → Contains (pieces t) other → (x y : ℤ) → ¬ (CrossBeside edge other x y)
    long-crossing t among_too other held_too x y (slanted, (point, of_one, of_other, rounds, beside)) =
        go (passed-joins t among_too other held_too x y (point, of_one, rounds) (point, of_other, rounds))
      where
        cross : CrossAt edge other x y
        cross = (slanted, (point, of_one, of_other, rounds))

        go : (edge ≡ other) ⊎ Joins edge other x → ⊥
        go (inl same) = CrossAt-itself other x y (subst (λ (e : Edge). CrossAt e other x y) same cross)
        go (inr joins) =
            beside
            (common_whole edge other point x y slanted of_one of_other
            (has_end edge x y (CrossAt-end edge other x y (joins.at.x, joins.at.y, joins.end, joins.other_end) cross))
            (has_end other x y (CrossAt-end other edge x y (joins.at.x, joins.at.y, joins.other_end, joins.end) (CrossAt-exchanged edge other x y cross))))
