-- Vectors, and what hangs together of their cross products.
use Rattle.std.proofs.Common.{pos, arith, ℤ, ◌*ℤ◌, ◌+ℤ◌, ◌-ℤ◌, ◌≡◌}
use Rattle.plane.specs.declared.edge.Edge.{Edge}
use Rattle.plane.specs.declared.point.Point.{Point}
use Rattle.plane.specs.Ends.{edge_between}
use Rattle.plane.specs.Meet.Crosses.{cross}
use Rattle.noding.proofs.SnapLemmas.Numbers.{cross-exchanged}
use Rattle.plane.proofs.MeetLemmas.Identities.{Term, identity, minus, number, plus, times}

-- The cross product of two vectors.
abbrev pub crossed : Point → Point → ℤ
crossed a b = cross a.x a.y b.x b.y

-- The way that an edge goes, as a vector.
abbrev pub way : Edge → Point
way edge = record { x = edge.x1 -ℤ edge.x0; y = edge.y1 -ℤ edge.y0 }

-- The cross product of a side's ends, which is above 0 where the origin lies left of it.
abbrev pub wide : Edge → ℤ
wide side = cross side.x0 side.y0 side.x1 side.y1

-- How far a vector reaches towards a side, times its length: as far as the side's points where it is the cross product of its
-- ends.
abbrev pub reach : Edge → Point → ℤ
reach side vector = crossed vector (way side)

-- vectors as expressions
pub record Terms : Type 0 where
  pub x : Term
  pub y : Term

abbrev pub term : Point → Terms
term a = record { x = number a.x; y = number a.y }

abbrev pub less_terms : Terms → Terms → Terms
less_terms a b = record { x = minus a.x b.x; y = minus a.y b.y }

abbrev pub crossing : Terms → Terms → Term
crossing a b = minus (times a.x b.y) (times a.y b.x)

-- of four vectors
pub plucker : (a b c d : Point) → ((crossed a b *ℤ crossed c d) +ℤ (crossed b c *ℤ crossed a d)) ≡ (crossed a c *ℤ crossed b d)
plucker a b c d =
    identity (plus (times (crossing (term a) (term b)) (crossing (term c) (term d))) (times (crossing (term b) (term c)) (crossing (term a) (term d)))) (times (crossing (term a) (term c)) (crossing (term b) (term d))) (omega arith)

-- two sides at a common corner
pub reach-next : (a b c v : Point) → ((reach (edge_between a b) v *ℤ wide (edge_between b c)) -ℤ (reach (edge_between b c) v *ℤ wide (edge_between a b))) ≡ (crossed (way (edge_between a b)) (way (edge_between b c)) *ℤ crossed v b)
reach-next a b c v =
    let first = crossing (term v) (less_terms (term b) (term a)) in
    let second = crossing (term v) (less_terms (term c) (term b)) in
    identity
    (minus (times first (crossing (term b) (term c))) (times second (crossing (term a) (term b))))
    (times (crossing (less_terms (term b) (term a)) (less_terms (term c) (term b))) (crossing (term v) (term b)))
    (omega arith)

-- two vectors the other way round
pub turn_back : (a b : Point) → crossed a b ≡ (pos 0 -ℤ crossed b a)
turn_back a b = cross-exchanged b.x b.y a.x a.y
