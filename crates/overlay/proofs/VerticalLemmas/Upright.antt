-- Edges along a column: where their points are, and their ends.
use Rattle.std.proofs.Common.{inl, inr, ℕ, ℤ, pos, ◌+◌, ◌-◌, ◌≤◌, ◌+ℤ◌, ◌-ℤ◌, ◌*ℤ◌, ◌≤ℤ◌, ◌≡◌, ◌⊎◌, sym, ap, ap₂, ◌∙◌, subst, arith}
use Rattle.std.proofs.lemmas.Int.{ints}
use Rattle.plane.specs.declared.edge.Edge.{Edge}
use Rattle.plane.specs.Meet.Edges.{IsOf, RationalPoint}
use Rattle.plane.specs.Meet.Kinds.{IsEnd}
use Rattle.plane.proofs.MeetLemmas.Identities.{identity, minus, number, plus, scaled, times}
use Rattle.overlay.specs.Fill.Filled.{HaveSameEnds}
use Rattle.plane.specs.Ends.{edge_between, reversed}
use Rattle.noding.proofs.SnapLemmas.Along.{point_at}
use Rattle.noding.proofs.SnapLemmas.Numbers.{n_of}
use Rattle.noding.proofs.SnapLemmas.Reversed.{IsOf-reversed}

-- It goes up or down between two heights of the column x.
pub record Upright (x low high : ℤ) (edge : Edge) : Type 0 where
  pub way : (edge ≡ edge_between (point_at x low) (point_at x high)) ⊎ (edge ≡ edge_between (point_at x high) (point_at x low))

-- where the point of it is
pub record Along (x low high : ℤ) (point : RationalPoint) : Type 0 where
  pub at : point.x ≡ (pos point.n *ℤ x)
  pub from : (pos point.n *ℤ low) ≤ℤ point.y
  pub upto : point.y ≤ℤ (pos point.n *ℤ high)

pub mean_from : (n a : ℕ) (low high : ℤ) → low ≤ℤ high → (pos n *ℤ low) ≤ℤ ((pos n *ℤ low) +ℤ (pos a *ℤ (high -ℤ low)))
mean_from n a low high is = let more = scaled a (pos 0) (high -ℤ low) (omega (arith, ints, is)) in let none : (pos a *ℤ pos 0) ≡ pos 0 = identity (times (n_of a) (n_of 0)) (n_of 0) (omega arith) in omega (arith, ints, more, none)

pub mean_upto : (n a : ℕ) (low high : ℤ) → a ≤ n → low ≤ℤ high → ((pos n *ℤ low) +ℤ (pos a *ℤ (high -ℤ low))) ≤ℤ (pos n *ℤ high)
mean_upto n a low high share is =
    let more = scaled (n - a) (pos 0) (high -ℤ low) (omega (arith, ints, is)) in
    let none : (pos (n - a) *ℤ pos 0) ≡ pos 0 = identity (times (n_of (n - a)) (n_of 0)) (n_of 0) (omega arith) in
    let whole : (n - a) + a ≡ n = omega (arith, share) in
    let all : (pos n *ℤ high) ≡ (((pos n *ℤ low) +ℤ (pos a *ℤ (high -ℤ low))) +ℤ (pos (n - a) *ℤ (high -ℤ low))) =
    subst (λ (m : ℕ). (pos m *ℤ high) ≡ (((pos m *ℤ low) +ℤ (pos a *ℤ (high -ℤ low))) +ℤ (pos (n - a) *ℤ (high -ℤ low)))) whole
    (identity (times (n_of ((n - a) + a)) (number high)) (plus (plus (times (n_of ((n - a) + a)) (number low)) (times (n_of a) (minus (number high) (number low)))) (times (n_of (n - a)) (minus (number high) (number low)))) (omega arith)) in
    omega (arith, ints, more, none, all)

level_x : (n a : ℕ) (x : ℤ) → ((pos n *ℤ x) +ℤ (pos a *ℤ (x -ℤ x))) ≡ (pos n *ℤ x)
level_x n a x = identity (plus (times (n_of n) (number x)) (times (n_of a) (minus (number x) (number x)))) (times (n_of n) (number x)) (omega arith)

along-up : (x low high : ℤ) (point : RationalPoint) → low ≤ℤ high → IsOf (edge_between (point_at x low) (point_at x high)) point → Along x low high point
along-up x low high point rising (a, at) =
    let from = mean_from point.n a low high rising in
    let upto = mean_upto point.n a low high at.share rising in
    let y = at.y in record {
      at = at.x ∙ level_x point.n a x;
      from = omega (arith, ints, from, y);
      upto = omega (arith, ints, upto, y);
    }

pub along : (x low high : ℤ) (edge : Edge) (point : RationalPoint) → low ≤ℤ high → Upright x low high edge → IsOf edge point → Along x low high point
along x low high edge point rising is of = go is.way
  where
    go : (edge ≡ edge_between (point_at x low) (point_at x high)) ⊎ (edge ≡ edge_between (point_at x high) (point_at x low)) → Along x low high point
    go (inl same) = along-up x low high point rising (subst (λ (e : Edge). IsOf e point) same of)
    go (inr same) = along-up x low high point rising (IsOf-reversed (edge_between (point_at x high) (point_at x low)) point (subst (λ (e : Edge). IsOf e point) same of))

-- its ends
pub low-end : (x low high : ℤ) (edge : Edge) (point : RationalPoint) → Upright x low high edge → point.x ≡ (pos point.n *ℤ x) → point.y ≡ (pos point.n *ℤ low) → IsEnd edge point
low-end x low high edge point is at_x at_y = go is.way
  where
    go : (edge ≡ edge_between (point_at x low) (point_at x high)) ⊎ (edge ≡ edge_between (point_at x high) (point_at x low)) → IsEnd edge point
    go (inl same) = subst (λ (e : Edge). IsEnd e point) (sym same) (inl (record { x_is = at_x; y_is = at_y }))
    go (inr same) = subst (λ (e : Edge). IsEnd e point) (sym same) (inr (record { x_is = at_x; y_is = at_y }))

pub high-end : (x low high : ℤ) (edge : Edge) (point : RationalPoint) → Upright x low high edge → point.x ≡ (pos point.n *ℤ x) → point.y ≡ (pos point.n *ℤ high) → IsEnd edge point
high-end x low high edge point is at_x at_y = go is.way
  where
    go : (edge ≡ edge_between (point_at x low) (point_at x high)) ⊎ (edge ≡ edge_between (point_at x high) (point_at x low)) → IsEnd edge point
    go (inl same) = subst (λ (e : Edge). IsEnd e point) (sym same) (inr (record { x_is = at_x; y_is = at_y }))
    go (inr same) = subst (λ (e : Edge). IsEnd e point) (sym same) (inl (record { x_is = at_x; y_is = at_y }))

pub upright-same : (x low high z other_low other_high : ℤ) (edge other : Edge) → Upright x low high edge → Upright z other_low other_high other → x ≡ z → low ≡ other_low → high ≡ other_high → HaveSameEnds edge other
upright-same x low high z other_low other_high edge other is other_is at first second = go is.way other_is.way
  where
    up_same : edge_between (point_at x low) (point_at x high) ≡ edge_between (point_at z other_low) (point_at z other_high)
    up_same = ap₂ (λ p q. edge_between p q) (ap₂ point_at at first) (ap₂ point_at at second)

    go : (edge ≡ edge_between (point_at x low) (point_at x high)) ⊎ (edge ≡ edge_between (point_at x high) (point_at x low))
        → (other ≡ edge_between (point_at z other_low) (point_at z other_high)) ⊎ (other ≡ edge_between (point_at z other_high) (point_at z other_low)) → HaveSameEnds edge other
    go (inl a) (inl b) = inl (a ∙ up_same ∙ sym b)
    go (inl a) (inr b) = inr (a ∙ up_same ∙ sym (ap reversed b))
    go (inr a) (inl b) = inr (a ∙ ap reversed up_same ∙ sym (ap reversed b))
    go (inr a) (inr b) = inl (a ∙ ap reversed up_same ∙ sym b)
