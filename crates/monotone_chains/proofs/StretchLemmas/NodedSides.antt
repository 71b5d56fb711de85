-- Edges on both sides of a column, or one beyond the other, as those of clear stretches are.
use Rattle.std.proofs.Common.{◌≡◌, ◌≢◌, ◌⊎◌, inl, inr, ℕ, ◌<◌, ◌≤◌, ℤ, pos, ◌+ℤ◌, ◌-ℤ◌, ◌*ℤ◌, ◌≤ℤ◌, ◌<ℤ◌, List, sym, ap, ap₂, ◌∙◌, arith}
use Rattle.std.specs.Int.{int_max, int_min}
use Rattle.std.proofs.lemmas.Int.{by_lt_z, clamps, ints}
use Rattle.plane.specs.declared.edge.Edge.{Edge}
use Rattle.plane.specs.declared.point.Point.{Point}
use Rattle.plane.specs.Meet.Edges.{IsAtShare, IsOf, RationalPoint}
use Rattle.plane.specs.Meet.Kinds.{IsEnd}
use Rattle.plane.proofs.MeetLemmas.Boxes.{way_above, way_below}
use Rattle.plane.proofs.MeetLemmas.Identities.{Term, identity, minus, number, plus, times, unscaled}
use Rattle.noding.specs.Meeting.{MeetAtEnds}
use Rattle.plane.specs.Ends.{end_of, reversed, start_of}
use Rattle.noding.specs.Windings.{further}
use Rattle.monotone_chains.specs.Stretches.{AreClear}
use Rattle.noding.proofs.SnapLemmas.Hobby.Ends.{exchange_meet}
use Rattle.noding.proofs.SnapLemmas.Numbers.{n_of, natural}
use Rattle.noding.proofs.SnapLemmas.Reversed.{IsOf-reversed}
use Rattle.monotone_chains.proofs.StretchLemmas.Inner.{goes-from, goes-upto}
use Rattle.monotone_chains.proofs.StretchLemmas.NodedNear.{AreNear, HasEnds, near-from, near-further, near-upto}

-- ---- a point of an edge in the column of one of its ends

zero-share : (a : ℕ) (w : ℤ) → pos 0 <ℤ w → (pos a *ℤ w) ≡ pos 0 → a ≡ 0
zero-share a w some none =
    let width = natural w (omega (arith, ints, some)) in
    let is = width.is in
    let turn : (pos width.k *ℤ pos a) ≡ (pos a *ℤ w) = identity (times (n_of width.k) (n_of a)) (times (n_of a) (n_of width.k)) (omega arith) ∙ ap (λ z. pos a *ℤ z) (sym is) in
    let zero : (pos width.k *ℤ pos 0) ≡ pos 0 = identity (times (n_of width.k) (n_of 0)) (n_of 0) (omega arith) in
    let upto = unscaled width.k (pos a) (pos 0) (omega (arith, ints, some, is)) (omega (arith, ints, turn, zero, none)) in
    omega (arith, ints, upto)

-- at the x of its start it is none of the way to the end
no-share : (n a : ℕ) (p x0 x1 : ℤ) → x1 ≢ x0 → p ≡ ((pos n *ℤ x0) +ℤ (pos a *ℤ (x1 -ℤ x0))) → p ≡ (pos n *ℤ x0) → a ≡ 0
no-share n a p x0 x1 sloped is at =
    let none : (pos a *ℤ (x1 -ℤ x0)) ≡ pos 0 = omega (arith, ints, is, at) in
    let back : (pos a *ℤ (x0 -ℤ x1)) ≡ (pos 0 -ℤ (pos a *ℤ (x1 -ℤ x0))) = identity (times (n_of a) (minus (number x0) (number x1))) (minus (n_of 0) (times (n_of a) (minus (number x1) (number x0)))) (omega arith) in
    by_lt_z x0 x1
    (λ up. zero-share a (x1 -ℤ x0) (omega (arith, ints, up)) none)
    (λ upto. by_lt_z x1 x0
    (λ down. zero-share a (x0 -ℤ x1) (omega (arith, ints, down)) (omega (arith, ints, back, none)))
    (λ from. absurd (sloped (omega (arith, ints, upto, from)))))

-- so it is the start
start-column : (edge : Edge) (point : RationalPoint) → edge.x1 ≢ edge.x0 → IsOf edge point → point.x ≡ (pos point.n *ℤ edge.x0) → IsEnd edge point
start-column edge point sloped (a, at) same =
    let none = no-share point.n a point.x edge.x0 edge.x1 sloped at.x same in
    let y : point.y ≡ ((pos point.n *ℤ edge.y0) +ℤ (pos 0 *ℤ (edge.y1 -ℤ edge.y0))) = at.y ∙ ap (λ (b : ℕ). (pos point.n *ℤ edge.y0) +ℤ (pos b *ℤ (edge.y1 -ℤ edge.y0))) none in
    inl (record {
      x_is = same;
      y_is = y ∙ identity (plus (times (n_of point.n) (number edge.y0)) (times (n_of 0) (minus (number edge.y1) (number edge.y0)))) (times (n_of point.n) (number edge.y0)) (omega arith);
    })

end-turned : (edge : Edge) (point : RationalPoint) → IsEnd (reversed edge) point → IsEnd edge point
end-turned edge point (inl to) = inr to
end-turned edge point (inr from) = inl from

-- ---- an edge on one side of a column

-- no point of it lies to the right of x; to the left
abbrev pub StaysLeft : Edge → ℤ → Type 0
StaysLeft edge x = (edge.x0 ≤ℤ x) × (edge.x1 ≤ℤ x)

abbrev pub StaysRight : Edge → ℤ → Type 0
StaysRight edge x = (x ≤ℤ edge.x0) × (x ≤ℤ edge.x1)

-- the point of it in the column is one of its ends
pub end-column : (edge : Edge) (point : RationalPoint) (x : ℤ) → edge.x1 ≢ edge.x0 → StaysLeft edge x ⊎ StaysRight edge x → IsOf edge point → point.x ≡ (pos point.n *ℤ x) → IsEnd edge point
end-column edge point x sloped side (a, share) at = elim (decide side) [
  | inl same ↦ start-column edge point sloped (a, share) (at ∙ ap (λ z. pos point.n *ℤ z) (sym same))
  | inr same ↦ end-turned edge point (start-column (reversed edge) point (λ is. sloped (sym is)) (IsOf-reversed edge point (a, share)) (at ∙ ap (λ z. pos point.n *ℤ z) (sym same)))
]
  where
    most : x ≤ℤ int_max edge.x0 edge.x1
    most =
        let upto = way_below point.n a (int_max edge.x0 edge.x1) edge.x0 edge.x1 share.share (omega (arith, ints, clamps)) (omega (arith, ints, clamps)) in
        let is = share.x in
        unscaled point.n x (int_max edge.x0 edge.x1) point.positive (omega (arith, ints, upto, is, at))

    least : int_min edge.x0 edge.x1 ≤ℤ x
    least =
        let from = way_above point.n a (int_min edge.x0 edge.x1) edge.x0 edge.x1 share.share (omega (arith, ints, clamps)) (omega (arith, ints, clamps)) in
        let is = share.x in
        unscaled point.n (int_min edge.x0 edge.x1) x point.positive (omega (arith, ints, from, is, at))

    decide : StaysLeft edge x ⊎ StaysRight edge x → (edge.x0 ≡ x) ⊎ (edge.x1 ≡ x)
    decide (inl (first, second)) =
        let upto = most in
        by_lt_z edge.x0 x (λ less. inr (omega (arith, ints, clamps, upto, less, second))) (λ back. inl (omega (arith, ints, back, first)))
    decide (inr (first, second)) =
        let from = least in
        by_lt_z x edge.x0 (λ more. inr (omega (arith, ints, clamps, from, more, second))) (λ back. inl (omega (arith, ints, back, first)))

-- ---- two edges, one on each side

abbrev pub AreBeside : Edge → Edge → Type 0
AreBeside one other = (x : ℤ) × StaysLeft one x × StaysRight other x

pub beside-meet : (one other : Edge) (point : RationalPoint) → AreBeside one other → one.x1 ≢ one.x0 → other.x1 ≢ other.x0 → IsOf one point → IsOf other point → MeetAtEnds one other point
beside-meet one other point (x, left, right) sloped other_sloped (a, share) (b, other_share) =
    let upto = way_below point.n a x one.x0 one.x1 share.share left.0 left.1 in
    let from = way_above point.n b x other.x0 other.x1 other_share.share right.0 right.1 in
    let is = share.x in
    let is_too = other_share.x in
    let at : point.x ≡ (pos point.n *ℤ x) = omega (arith, ints, upto, from, is, is_too) in
    inl (end-column one point x sloped (inl left) (a, share) at, end-column other point x other_sloped (inr right) (b, other_share) at)

-- each of the first two numbers is less than both others
pub record AreLess (a b c d : ℤ) : Type 0 where
  pub first : a <ℤ c
  pub first_too : a <ℤ d
  pub second : b <ℤ c
  pub second_too : b <ℤ d

-- no number is a share of the way between the first two, and of that between the others
less-apart : (n a b : ℕ) (p z0 z1 w0 w1 : ℤ) → 0 < n → a ≤ n → b ≤ n → p ≡ ((pos n *ℤ z0) +ℤ (pos a *ℤ (z1 -ℤ z0))) → p ≡ ((pos n *ℤ w0) +ℤ (pos b *ℤ (w1 -ℤ w0))) → ¬ (AreLess z0 z1 w0 w1)
less-apart n a b p z0 z1 w0 w1 some share other_share is is_too less =
    let upto = way_below n a (int_max z0 z1) z0 z1 share (omega (arith, ints, clamps)) (omega (arith, ints, clamps)) in
    let from = way_above n b (int_min w0 w1) w0 w1 other_share (omega (arith, ints, clamps)) (omega (arith, ints, clamps)) in
    let most = unscaled n (int_min w0 w1) (int_max z0 z1) some (omega (arith, ints, upto, from, is, is_too)) in
    omega (arith, ints, clamps, most, less)

-- ---- two edges, in some direction one beyond the other

-- both ends of the other lie further than both of the one
pub record Parted (one other : Edge) : Type 0 where
  pub u : ℤ
  pub v : ℤ
  pub less : AreLess (further u v (start_of one)) (further u v (end_of one)) (further u v (start_of other)) (further u v (end_of other))

-- how far a point of an edge lies
further-share : (u v : ℤ) (edge : Edge) (point : RationalPoint) (a : ℕ) → IsAtShare edge point a
    → ((u *ℤ point.x) +ℤ (v *ℤ point.y)) ≡ ((pos point.n *ℤ further u v (start_of edge)) +ℤ (pos a *ℤ (further u v (end_of edge) -ℤ further u v (start_of edge))))
further-share u v edge point a share =
    let at : ℤ → ℤ → Term = λ z w. plus (times (n_of point.n) (number z)) (times (n_of a) (minus (number w) (number z))) in
    let far : ℤ → ℤ → Term = λ x y. plus (times (number u) (number x)) (times (number v) (number y)) in
    ap₂ (λ x y. (u *ℤ x) +ℤ (v *ℤ y)) share.x share.y
    ∙ identity (plus (times (number u) (at edge.x0 edge.x1)) (times (number v) (at edge.y0 edge.y1)))
    (plus (times (n_of point.n) (far edge.x0 edge.y0)) (times (n_of a) (minus (far edge.x1 edge.y1) (far edge.x0 edge.y0)))) (omega arith)

parted-apart : (one other : Edge) (point : RationalPoint) → Parted one other → IsOf one point → IsOf other point → ⊥
parted-apart one other point parted (a, share) (b, other_share) =
    let u = parted.u in
    let v = parted.v in
    less-apart point.n a b ((u *ℤ point.x) +ℤ (v *ℤ point.y)) (further u v (start_of one)) (further u v (end_of one)) (further u v (start_of other)) (further u v (end_of other))
    point.positive share.share other_share.share (further-share u v one point a share) (further-share u v other point b other_share) parted.less

-- ---- of clear stretches

-- an edge between points of the one, and one whose ends are near the other
pub clear-sides : (s t : List Point) (one other : Edge) → AreClear s t → HasEnds s one → AreNear t other → (AreBeside one other ⊎ AreBeside other one) ⊎ Parted one other
clear-sides s t one other (inl apart) (from, to) (near_from, near_to) =
    inr (record {
      u = apart.u;
      v = apart.v;
      less = record {
        first = near-further s t apart (start_of one) other.x0 other.y0 from near_from;
        first_too = near-further s t apart (start_of one) other.x1 other.y1 from near_to;
        second = near-further s t apart (end_of one) other.x0 other.y0 to near_from;
        second_too = near-further s t apart (end_of one) other.x1 other.y1 to near_to;
      };
    })
clear-sides s t one other (inr (inl goes)) (from, to) (near_from, near_to) =
    inl (inl (
      goes.at.x,
      (goes-upto s t goes (start_of one) from, goes-upto s t goes (end_of one) to),
      (near-from t other.x0 other.y0 goes.at.x near_from (goes-from s t goes), near-from t other.x1 other.y1 goes.at.x near_to (goes-from s t goes)),
    ))
clear-sides s t one other (inr (inr goes)) (from, to) (near_from, near_to) =
    inl (inr (
      goes.at.x,
      (near-upto t other.x0 other.y0 goes.at.x near_from (goes-upto t s goes), near-upto t other.x1 other.y1 goes.at.x near_to (goes-upto t s goes)),
      (goes-from t s goes (start_of one) from, goes-from t s goes (end_of one) to),
    ))

-- two such edges that aren't vertical meet only at common ends
pub clear-meet : (s t : List Point) (one other : Edge) (point : RationalPoint) → AreClear s t → HasEnds s one → AreNear t other → one.x1 ≢ one.x0 → other.x1 ≢ other.x0 → IsOf one point → IsOf other point → MeetAtEnds one other point
clear-meet s t one other point clear ends near sloped other_sloped of_one of_other = elim (clear-sides s t one other clear ends near) [
  | inl (inl beside) ↦ beside-meet one other point beside sloped other_sloped of_one of_other
  | inl (inr beside) ↦ exchange_meet one other point (beside-meet other one point beside other_sloped sloped of_other of_one)
  | inr parted ↦ absurd (parted-apart one other point parted of_one of_other)
]

-- no edge that isn't vertical is both
pub clear-upright : (s t : List Point) (edge : Edge) → AreClear s t → HasEnds s edge → AreNear t edge → edge.x1 ≡ edge.x0
clear-upright s t edge clear ends near = elim (clear-sides s t edge edge clear ends near) [
  | inl (inl (x, left, right)) ↦ omega (arith, ints, left.0, left.1, right.0, right.1)
  | inl (inr (x, left, right)) ↦ omega (arith, ints, left.0, left.1, right.0, right.1)
  | inr parted ↦ let less = parted.less.first in absurd (omega (arith, ints, less))
]
