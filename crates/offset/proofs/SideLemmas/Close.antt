-- As near to a point of an edge as is asked for there are points inside of what the edges bound.
use Rattle.std.proofs.Common.{◌≡◌, ◌≢◌, ◌⊎◌, inl, inr, ℕ, suc, ◌+◌, ◌-◌, ◌*◌, ◌<◌, ◌≤◌, ℤ, pos, negsuc, ◌+ℤ◌, ◌-ℤ◌, ◌*ℤ◌, ◌<ℤ◌, ◌≤ℤ◌, List, refl, ap₂, sym, subst, ◌∙◌, arith}
use Rattle.std.specs.List.{Contains}
use Rattle.std.proofs.Math.Nat.{mul-le-mul_left, mul-pos}
use Rattle.std.proofs.lemmas.Int.{by_lt_z, ints}
use Rattle.std.proofs.lemmas.List.Elements.{All-contains}
use borrow.Author.Differences.{down, up}
use Rattle.plane.specs.declared.edge.Edge.{Edge}
use Rattle.plane.specs.declared.point.Point.{Point}
use Rattle.plane.specs.Ends.{end_of, start_of}
use Rattle.plane.specs.Meet.Crosses.{IsWithin, cross}
use Rattle.plane.specs.Meet.Edges.{IsAtShare, IsOf, RationalPoint}
use Rattle.plane.specs.Meet.Kinds.{IsEnd}
use Rattle.plane.proofs.MeetLemmas.Along.{goes}
use Rattle.plane.proofs.MeetLemmas.Identities.{IsWithin-product, identity, minus, number, plus, times}
use Rattle.noding.specs.Windings.{winding}
use Rattle.noding.proofs.SnapLemmas.Numbers.{n_of}
use Rattle.overlay.proofs.UncrossedLemmas.Finer.{times-same}
use Rattle.offset.proofs.CoverLemmas.Vectors.{crossed, way}
use Rattle.offset.proofs.SideLemmas.Aside.{near}
use Rattle.offset.proofs.SideLemmas.Inner.{BoundOnce, left-once}
use Rattle.offset.proofs.SideLemmas.Ways.{over}

-- On both axes the other point is at most one of so many parts of a unit from the point.
pub record IsCloseTo (parts : ℕ) (point other : RationalPoint) : Type 0 where
  pub right : (pos parts *ℤ ((pos point.n *ℤ other.x) -ℤ (pos other.n *ℤ point.x))) ≤ℤ pos (point.n * other.n)
  pub left : (pos parts *ℤ ((pos other.n *ℤ point.x) -ℤ (pos point.n *ℤ other.x))) ≤ℤ pos (point.n * other.n)
  pub above : (pos parts *ℤ ((pos point.n *ℤ other.y) -ℤ (pos other.n *ℤ point.y))) ≤ℤ pos (point.n * other.n)
  pub below : (pos parts *ℤ ((pos other.n *ℤ point.y) -ℤ (pos point.n *ℤ other.y))) ≤ℤ pos (point.n * other.n)

-- ---- a unit to the left

-- A vector of at most a unit that goes to the left of an edge.
record Left (edge : Edge) : Type 0 where
  vector : Point
  turns : pos 0 <ℤ crossed (way edge) vector
  short_x : IsWithin 1 vector.x
  short_y : IsWithin 1 vector.y

left : (edge : Edge) → start_of edge ≢ end_of edge → Left edge
left edge proper = by (goes edge)
  where
    dx : ℤ
    dx = edge.x1 -ℤ edge.x0

    dy : ℤ
    dy = edge.y1 -ℤ edge.y0

    turn-is : (x y : ℤ) → cross dx dy x y ≡ ((dx *ℤ y) -ℤ (dy *ℤ x))
    turn-is x y = refl

    zero_in : IsWithin 1 (pos 0)
    zero_in = record { from = omega (arith, ints); upto = omega (arith, ints) }

    one_in : IsWithin 1 (pos 1)
    one_in = record { from = omega (arith, ints); upto = omega (arith, ints) }

    less_in : IsWithin 1 (negsuc 0)
    less_in = record { from = omega (arith, ints); upto = omega (arith, ints) }

    by : ((edge.x0 ≢ edge.x1) ⊎ (edge.y0 ≢ edge.y1)) ⊎ ((edge.x0 ≡ edge.x1) × (edge.y0 ≡ edge.y1)) → Left edge
    by (inr (same_x, same_y)) = absurd (proper (ap₂ (λ (x y : ℤ). (let p : Point = record { x = x; y = y } in p)) same_x same_y))
    by (inl (inl apart)) =
        by_lt_z edge.x0 edge.x1
        (λ rightwards.
        let same = identity (minus (times (number dx) (n_of 1)) (times (number dy) (n_of 0))) (number dx) (omega arith) in
        record { vector = record { x = pos 0; y = pos 1 }; turns = omega (arith, ints, same, rightwards); short_x = zero_in; short_y = one_in })
        (λ upto.
        let same = identity (minus (times (number dx) (number (negsuc 0))) (times (number dy) (n_of 0))) (minus (n_of 0) (number dx)) (omega arith) in
        record { vector = record { x = pos 0; y = negsuc 0 }; turns = (let differ = apart in omega (arith, ints, same, upto, differ)); short_x = zero_in; short_y = less_in })
    by (inl (inr apart)) =
        by_lt_z edge.y0 edge.y1
        (λ upwards.
        let same = identity (minus (times (number dx) (n_of 0)) (times (number dy) (number (negsuc 0)))) (number dy) (omega arith) in
        record { vector = record { x = negsuc 0; y = pos 0 }; turns = omega (arith, ints, same, upwards); short_x = less_in; short_y = zero_in })
        (λ upto.
        let same = identity (minus (times (number dx) (n_of 0)) (times (number dy) (n_of 1))) (minus (n_of 0) (number dy)) (omega arith) in
        record { vector = record { x = pos 1; y = pos 0 }; turns = (let differ = apart in omega (arith, ints, same, upto, differ)); short_x = one_in; short_y = zero_in })

-- ---- a point inside the edge

-- a point of an edge strictly between its ends is none of these
pub between-no_end : (edge : Edge) (point : RationalPoint) (a : ℕ) → start_of edge ≢ end_of edge → IsAtShare edge point a → 0 < a → a < point.n → ¬ (IsEnd edge point)
between-no_end edge point a proper at after before (inl end) =
    proper (ap₂ (λ (x y : ℤ). (let p : Point = record { x = x; y = y } in p)) (on point.x edge.x0 edge.x1 at.x end.x_is) (on point.y edge.y0 edge.y1 at.y end.y_is))
  where
    on : (p c d : ℤ) → p ≡ ((pos point.n *ℤ c) +ℤ (pos a *ℤ (d -ℤ c))) → p ≡ (pos point.n *ℤ c) → c ≡ d
    on p c d first second =
        let split = identity (times (n_of a) (minus (number d) (number c))) (minus (times (n_of a) (number d)) (times (n_of a) (number c))) (omega arith) in
        times-same a c d after (omega (arith, ints, first, second, split))
between-no_end edge point a proper at after before (inr end) =
    proper (ap₂ (λ (x y : ℤ). (let p : Point = record { x = x; y = y } in p)) (on point.x edge.x0 edge.x1 at.x end.x_is) (on point.y edge.y0 edge.y1 at.y end.y_is))
  where
    b : ℕ
    b = point.n - a

    parts : b + a ≡ point.n
    parts = omega (arith, before)

    on : (p c d : ℤ) → p ≡ ((pos point.n *ℤ c) +ℤ (pos a *ℤ (d -ℤ c))) → p ≡ (pos point.n *ℤ d) → c ≡ d
    on p c d first second =
        let all : ((pos (b + a) *ℤ c) +ℤ (pos a *ℤ (d -ℤ c))) ≡ (pos (b + a) *ℤ d) = subst (λ (n : ℕ). ((pos n *ℤ c) +ℤ (pos a *ℤ (d -ℤ c))) ≡ (pos n *ℤ d)) (sym parts) (sym first ∙ second) in
        let split = identity (plus (times (n_of (b + a)) (number c)) (times (n_of a) (minus (number d) (number c)))) (plus (times (n_of b) (number c)) (times (n_of a) (number d))) (omega arith) in
        let other = identity (times (n_of (b + a)) (number d)) (plus (times (n_of b) (number d)) (times (n_of a) (number d))) (omega arith) in
        times-same b c d (omega (arith, before)) (omega (arith, ints, all, split, other))

-- the point moved a little towards the middle of the edge
module _ (edge : Edge) (at : RationalPoint) (a : ℕ) (share : IsAtShare edge at a) (k : ℕ) where
  abbrev moved_share : ℕ
  moved_share = (2 * k) * a + at.n

  abbrev moved : RationalPoint
  moved = over ((2 * (k + 1)) * at.n) (mul-pos (omega arith) at.positive)
      ((pos ((2 * (k + 1)) * at.n) *ℤ edge.x0) +ℤ (pos moved_share *ℤ (edge.x1 -ℤ edge.x0)))
      ((pos ((2 * (k + 1)) * at.n) *ℤ edge.y0) +ℤ (pos moved_share *ℤ (edge.y1 -ℤ edge.y0)))

  moved-before : moved_share < moved.n
  moved-before = let upto = mul-le-mul_left (2 * k) share.share in let some = at.positive in omega (arith, upto, some)

  moved-at : IsAtShare edge moved moved_share
  moved-at = let upto = moved-before in record { share = omega (arith, upto); x = refl; y = refl }

-- how far a point near the moved one is from the point, on one axis
module _ (n a k parts asked : ℕ) (c d v : ℤ) (positive : 0 < n) (some : 0 < parts) (share : a ≤ n) (short : IsWithin 1 v) (enough : asked ≤ parts)
    (small : IsWithin (k + 1) (pos asked *ℤ (d -ℤ c))) where
  abbrev at_x : ℤ
  at_x = (pos n *ℤ c) +ℤ (pos a *ℤ (d -ℤ c))

  abbrev moved_n : ℕ
  moved_n = (2 * (k + 1)) * n

  abbrev near_x : ℤ
  near_x = (pos parts *ℤ ((pos moved_n *ℤ c) +ℤ (pos ((2 * k) * a + n) *ℤ (d -ℤ c)))) +ℤ v

  abbrev slide : ℤ
  slide = (pos asked *ℤ (d -ℤ c)) *ℤ (pos n -ℤ pos (2 * a))

  slid : IsWithin ((k + 1) * n) slide
  slid = IsWithin-product (pos asked *ℤ (d -ℤ c)) (pos n -ℤ pos (2 * a)) (k + 1) n small (record { from = omega (arith, ints, share); upto = omega (arith, ints) })

  far-is : (pos asked *ℤ ((pos n *ℤ near_x) -ℤ (pos (moved_n * parts) *ℤ at_x))) ≡ ((pos (parts * n) *ℤ slide) +ℤ (pos (asked * n) *ℤ v))
  far-is =
      let w = minus (number d) (number c) in
      identity
      (times (n_of asked) (minus (times (n_of n) (plus (times (n_of parts) (plus (times (n_of moved_n) (number c)) (times (n_of ((2 * k) * a + n)) w))) (number v))) (times (n_of (moved_n * parts)) (plus (times (n_of n) (number c)) (times (n_of a) w)))))
      (plus (times (n_of (parts * n)) (times (times (n_of asked) w) (minus (n_of n) (n_of (2 * a))))) (times (n_of (asked * n)) (number v))) (omega arith)

  abbrev near_at_x : ℤ
  near_at_x = (pos n *ℤ near_x) -ℤ (pos (moved_n * parts) *ℤ at_x)

  sum-within : IsWithin ((parts * n) * ((k + 1) * n) + (asked * n) * 1) ((pos (parts * n) *ℤ slide) +ℤ (pos (asked * n) *ℤ v))
  sum-within =
      let one = IsWithin-product (pos (parts * n)) slide (parts * n) ((k + 1) * n) (record { from = omega (arith, ints); upto = omega (arith, ints) }) slid in
      let other = IsWithin-product (pos (asked * n)) v (asked * n) 1 (record { from = omega (arith, ints); upto = omega (arith, ints) }) short in
      let a_from = one.from in
      let a_upto = one.upto in
      let b_from = other.from in
      let b_upto = other.upto in
      record { from = omega (arith, ints, a_from, b_from); upto = omega (arith, ints, a_upto, b_upto) }

  most : (parts * n) * ((k + 1) * n) + (asked * n) * 1 ≤ n * (moved_n * parts)
  most =
      let first = mul-le-mul_left n enough in
      let second = mul-le-mul_left (parts * n) (at_least (k + 1) n (omega arith) positive) in
      let same : n * (moved_n * parts) ≡ (parts * n) * ((k + 1) * n) + (parts * n) * ((k + 1) * n) = omega arith in
      omega (arith, first, second, same)
    where
      at_least : (p q : ℕ) → 0 < p → 0 < q → 1 ≤ p * q
      at_least p q one other = mul-pos one other

  far : ((pos asked *ℤ near_at_x) ≤ℤ pos (n * (moved_n * parts))) × ((pos asked *ℤ ((pos (moved_n * parts) *ℤ at_x) -ℤ (pos n *ℤ near_x))) ≤ℤ pos (n * (moved_n * parts)))
  far =
      let is = far-is in
      let low = sum-within.from in
      let high = sum-within.upto in
      let upto = most in
      let back = identity (times (n_of asked) (minus (number (pos (moved_n * parts) *ℤ at_x)) (number (pos n *ℤ near_x)))) (minus (n_of 0) (times (n_of asked) (minus (number (pos n *ℤ near_x)) (number (pos (moved_n * parts) *ℤ at_x))))) (omega arith) in
      (omega (arith, ints, is, high, upto), omega (arith, ints, is, low, upto, back))

-- a number is within what it is from 0, and within more
size : ℤ → ℕ
size z = up z + down z

within_size : (z : ℤ) (m : ℕ) → up z + down z ≤ m → IsWithin m z
within_size z m more = record { from = omega (arith, ints, more); upto = omega (arith, ints, more) }

-- So near to any point of an edge there is a point inside.
pub close-once : (edges : List Edge) (bounds : BoundOnce edges) (edge : Edge) (at : RationalPoint) → Contains edges edge → IsOf edge at → (asked : ℕ) → (point : RationalPoint) × (winding edges point ≡ (bounds.outer +ℤ pos 1)) × IsCloseTo asked at point
close-once edges bounds edge at among (a, share) asked =
    let proper = All-contains (λ (e : Edge). start_of e ≢ end_of e) edges edge bounds.two_ends among in
    let unit = left edge proper in
    let wide = pos asked *ℤ (edge.x1 -ℤ edge.x0) in
    let tall = pos asked *ℤ (edge.y1 -ℤ edge.y0) in
    let k = (up wide + down wide) + (up tall + down tall) in
    let some = at.positive in
    let inside = between-no_end edge (moved edge at a share k) (moved_share edge at a share k) proper (moved-at edge at a share k) (omega (arith, some)) (moved-before edge at a share k) in
    let (least, once) = left-once edges bounds edge among (moved edge at a share k) (moved_share edge at a share k, moved-at edge at a share k) inside unit.vector unit.turns in
    let parts = suc (least + asked) in
    let along_x = far at.n a k parts asked edge.x0 edge.x1 unit.vector.x at.positive (omega arith) share.share unit.short_x (omega arith) (within_size wide (k + 1) (omega arith)) in
    let along_y = far at.n a k parts asked edge.y0 edge.y1 unit.vector.y at.positive (omega arith) share.share unit.short_y (omega arith) (within_size tall (k + 1) (omega arith)) in (
      near (moved edge at a share k) parts (omega arith) unit.vector,
      once parts (omega arith) (omega arith),
      record {
        right = subst (λ (z : ℤ). (pos asked *ℤ ((pos at.n *ℤ (near (moved edge at a share k) parts (omega arith) unit.vector).x) -ℤ (pos (((2 * (k + 1)) * at.n) * parts) *ℤ z))) ≤ℤ pos (at.n * (((2 * (k + 1)) * at.n) * parts))) (sym share.x) along_x.0;
        left = subst (λ (z : ℤ). (pos asked *ℤ ((pos (((2 * (k + 1)) * at.n) * parts) *ℤ z) -ℤ (pos at.n *ℤ (near (moved edge at a share k) parts (omega arith) unit.vector).x))) ≤ℤ pos (at.n * (((2 * (k + 1)) * at.n) * parts))) (sym share.x) along_x.1;
        above = subst (λ (z : ℤ). (pos asked *ℤ ((pos at.n *ℤ (near (moved edge at a share k) parts (omega arith) unit.vector).y) -ℤ (pos (((2 * (k + 1)) * at.n) * parts) *ℤ z))) ≤ℤ pos (at.n * (((2 * (k + 1)) * at.n) * parts))) (sym share.y) along_y.0;
        below = subst (λ (z : ℤ). (pos asked *ℤ ((pos (((2 * (k + 1)) * at.n) * parts) *ℤ z) -ℤ (pos at.n *ℤ (near (moved edge at a share k) parts (omega arith) unit.vector).y))) ≤ℤ pos (at.n * (((2 * (k + 1)) * at.n) * parts))) (sym share.y) along_y.1;
      },
    )
