-- The whole points that an edge passes are in order along it.
use Rattle.std.proofs.Common.{ap, arith, inl, inr, pos, subst, sym, ℕ, ℤ, ◌*ℤ◌, ◌*◌, ◌+ℤ◌, ◌-ℤ◌, ◌<◌, ◌∙◌, ◌≡◌, ◌≤ℤ◌, ◌≤◌, ◌⊎◌}
use Rattle.std.proofs.lemmas.Int.{by_lt_z, clamps, ints}
use Rattle.std.specs.Int.{int_min, int_max}
use Rattle.plane.specs.declared.edge.Edge.{Edge}
use Rattle.plane.specs.declared.point.Point.{Point}
use Rattle.plane.specs.Meet.Edges.{IsAtShare, RationalPoint}
use Rattle.noding.specs.Chains.{Passes, Upto, UptoOn}
use Rattle.noding.specs.Close.{InBox}
use Rattle.noding.specs.Rounding.{RoundsOn, RoundsTo}
use Rattle.noding.proofs.SnapLemmas.Numbers.{n_of}
use Rattle.noding.proofs.SnapLemmas.Rounding.{RoundsTo-itself, RoundsOn-monotone, whole}
use Rattle.plane.proofs.MeetLemmas.Identities.{Term, at_most, at_most_of, identity, minus, number, plus, times}
use Rattle.plane.proofs.SweepLineLemmas.Gaps.{product_above}

-- the greater share of an edge that rises along the axis is at least as far
pub ahead : (n m a b : ℕ) (p q start end : ℤ) → a * m ≤ b * n → start ≤ℤ end → p ≡ ((pos n *ℤ start) +ℤ (pos a *ℤ (end -ℤ start))) → q ≡ ((pos m *ℤ start) +ℤ (pos b *ℤ (end -ℤ start))) → (pos m *ℤ p) ≤ℤ (pos n *ℤ q)
ahead n m a b p q start end order way first second =
    let at : ℕ → ℕ → Term = λ k s. plus (times (n_of k) (number start)) (times (n_of s) (minus (number end) (number start))) in
    let wide = at_most_of (n_of 0) (times (minus (n_of (b * n)) (n_of (a * m))) (minus (number end) (number start))) (product_above (pos (b * n) -ℤ pos (a * m)) (end -ℤ start) (omega (arith, ints)) (omega (arith, ints))) in
    let there : (pos m *ℤ ((pos n *ℤ start) +ℤ (pos a *ℤ (end -ℤ start)))) ≤ℤ (pos n *ℤ ((pos m *ℤ start) +ℤ (pos b *ℤ (end -ℤ start)))) =
    at_most (times (n_of m) (at n a)) (times (n_of n) (at m b)) (omega (arith, wide)) in
    subst (λ (z : ℤ). (pos m *ℤ z) ≤ℤ (pos n *ℤ q)) (sym first)
    (subst (λ (z : ℤ). (pos m *ℤ ((pos n *ℤ start) +ℤ (pos a *ℤ (end -ℤ start)))) ≤ℤ (pos n *ℤ z)) (sym second) there)

-- and of one that falls at most
behind : (n m a b : ℕ) (p q start end : ℤ) → a * m ≤ b * n → end ≤ℤ start → p ≡ ((pos n *ℤ start) +ℤ (pos a *ℤ (end -ℤ start))) → q ≡ ((pos m *ℤ start) +ℤ (pos b *ℤ (end -ℤ start))) → (pos n *ℤ q) ≤ℤ (pos m *ℤ p)
behind n m a b p q start end order way first second =
    let at : ℕ → ℕ → Term = λ k s. plus (times (n_of k) (number start)) (times (n_of s) (minus (number end) (number start))) in
    let wide = at_most_of (n_of 0) (times (minus (n_of (b * n)) (n_of (a * m))) (minus (number start) (number end))) (product_above (pos (b * n) -ℤ pos (a * m)) (start -ℤ end) (omega (arith, ints)) (omega (arith, ints))) in
    let there : (pos n *ℤ ((pos m *ℤ start) +ℤ (pos b *ℤ (end -ℤ start)))) ≤ℤ (pos m *ℤ ((pos n *ℤ start) +ℤ (pos a *ℤ (end -ℤ start)))) =
    at_most (times (n_of n) (at m b)) (times (n_of m) (at n a)) (omega (arith, wide)) in
    subst (λ (z : ℤ). (pos n *ℤ q) ≤ℤ (pos m *ℤ z)) (sym first)
    (subst (λ (z : ℤ). (pos n *ℤ z) ≤ℤ (pos m *ℤ ((pos n *ℤ start) +ℤ (pos a *ℤ (end -ℤ start))))) (sym second) there)

upto_on : (n m a b : ℕ) (p q c d start end : ℤ) → 0 < n → 0 < m → a * m ≤ b * n → p ≡ ((pos n *ℤ start) +ℤ (pos a *ℤ (end -ℤ start))) → q ≡ ((pos m *ℤ start) +ℤ (pos b *ℤ (end -ℤ start))) → RoundsOn n p c → RoundsOn m q d → UptoOn start end c d
upto_on n m a b p q c d start end some many order first second rounds other_rounds = record {
  rising = λ up. RoundsOn-monotone n m p q c d some many (ahead n m a b p q start end order up first second) rounds other_rounds;
  falling = λ down. RoundsOn-monotone m n q p d c many some (behind n m a b p q start end order down first second) other_rounds rounds;
}

-- of two points of an edge, what the one at the lesser share rounds to isn't behind what the other rounds to
pub Upto-by_shares : (edge : Edge) (x y other_x other_y : ℤ) (one other : RationalPoint) (a b : ℕ) → IsAtShare edge one a → IsAtShare edge other b → RoundsTo one x y → RoundsTo other other_x other_y → a * other.n ≤ b * one.n → Upto edge x y other_x other_y
Upto-by_shares edge x y other_x other_y one other a b first second rounds other_rounds order = record {
  along_x = upto_on one.n other.n a b one.x other.x x other_x edge.x0 edge.x1 one.positive other.positive order first.x second.x rounds.along_x other_rounds.along_x;
  along_y = upto_on one.n other.n a b one.y other.y y other_y edge.y0 edge.y1 one.positive other.positive order first.y second.y rounds.along_y other_rounds.along_y;
}

-- of two whole points that an edge passes one isn't behind the other
pub Passes-ordered : (edge : Edge) (x y other_x other_y : ℤ) → Passes edge x y → Passes edge other_x other_y → Upto edge x y other_x other_y ⊎ Upto edge other_x other_y x y
Passes-ordered edge x y other_x other_y (one, (a, first), rounds) (other, (b, second), other_rounds) =
    by_lt_z (pos (b * one.n)) (pos (a * other.n))
    (λ back. inr (Upto-by_shares edge other_x other_y x y other one b a second first other_rounds rounds (omega (arith, ints, back))))
    (λ order. inl (Upto-by_shares edge x y other_x other_y one other a b first second rounds other_rounds (omega (arith, ints, order))))

-- ---- the edge's ends are before and behind what it passes

start_on : (c d : ℤ) → c ≡ ((pos 1 *ℤ c) +ℤ (pos 0 *ℤ (d -ℤ c)))
start_on c d = identity (number c) (plus (times (n_of 1) (number c)) (times (n_of 0) (minus (number d) (number c)))) (omega arith)

end_on : (c d : ℤ) → d ≡ ((pos 1 *ℤ c) +ℤ (pos 1 *ℤ (d -ℤ c)))
end_on c d = identity (number d) (plus (times (n_of 1) (number c)) (times (n_of 1) (minus (number d) (number c)))) (omega arith)

-- the ends, by their shares
pub from_at : (edge : Edge) → IsAtShare edge (whole edge.x0 edge.y0) 0
from_at edge = record {
  share = omega arith;
  x = start_on edge.x0 edge.x1;
  y = start_on edge.y0 edge.y1;
}

pub to_at : (edge : Edge) → IsAtShare edge (whole edge.x1 edge.y1) 1
to_at edge = record {
  share = omega arith;
  x = end_on edge.x0 edge.x1;
  y = end_on edge.y0 edge.y1;
}

-- an edge's start isn't behind anything that it passes
pub Upto-from_start : (edge : Edge) (x y : ℤ) → Passes edge x y → Upto edge edge.x0 edge.y0 x y
Upto-from_start edge x y (point, (a, at), rounds) =
    Upto-by_shares edge edge.x0 edge.y0 x y (whole edge.x0 edge.y0) point 0 a (from_at edge) at (RoundsTo-itself edge.x0 edge.y0) rounds (omega arith)

-- and nothing that it passes is behind its end
pub Upto-to_end : (edge : Edge) (x y : ℤ) → Passes edge x y → Upto edge x y edge.x1 edge.y1
Upto-to_end edge x y (point, (a, at), rounds) =
    let share = at.share in
    Upto-by_shares edge x y edge.x1 edge.y1 point (whole edge.x1 edge.y1) a 1 at (to_at edge) rounds (RoundsTo-itself edge.x1 edge.y1) (omega arith)

-- an edge passes its ends
pub Passes-start : (edge : Edge) → Passes edge edge.x0 edge.y0
Passes-start edge = (whole edge.x0 edge.y0, (0, from_at edge), RoundsTo-itself edge.x0 edge.y0)

pub Passes-end : (edge : Edge) → Passes edge edge.x1 edge.y1
Passes-end edge = (whole edge.x1 edge.y1, (1, to_at edge), RoundsTo-itself edge.x1 edge.y1)

-- ---- points of which neither is behind the other are one

-- neither is behind the other
pub same_on : (from to c d : ℤ) → UptoOn from to c d → UptoOn from to d c → c ≡ d
same_on from to c d first second =
    by_lt_z from to
    (λ up.
    let one = first.rising (omega (arith, ints)) in
    let two = second.rising (omega (arith, ints)) in
    omega (arith, ints, one, two))
    (λ down.
    let one = first.falling down in
    let two = second.falling down in
    omega (arith, ints, one, two))

abbrev pub point_at : ℤ → ℤ → Point
point_at x y = record {
  x = x;
  y = y;
}

pub Upto-same : (edge : Edge) (c d : Point) → Upto edge c.x c.y d.x d.y → Upto edge d.x d.y c.x c.y → c ≡ d
Upto-same edge c d first second =
    let same_x = same_on edge.x0 edge.x1 c.x d.x first.along_x second.along_x in
    let same_y = same_on edge.y0 edge.y1 c.y d.y first.along_y second.along_y in
    ap (λ x. point_at x c.y) same_x ∙ ap (λ y. point_at d.x y) same_y

upto_on-itself : (from to c : ℤ) → UptoOn from to c c
upto_on-itself from to c = record {
  rising = λ up. omega (arith, ints);
  falling = λ down. omega (arith, ints);
}

-- no point is behind itself
pub Upto-itself : (edge : Edge) (c : Point) → Upto edge c.x c.y c.x c.y
Upto-itself edge c = record {
  along_x = upto_on-itself edge.x0 edge.x1 c.x;
  along_y = upto_on-itself edge.y0 edge.y1 c.y;
}

-- ---- what an edge passes lies in its box

within : (from to c : ℤ) → UptoOn from to from c → UptoOn from to c to → (int_min from to ≤ℤ c) × (c ≤ℤ int_max from to)
within from to c first second =
    by_lt_z from to
    (λ up.
    let low = first.rising (omega (arith, ints)) in
    let high = second.rising (omega (arith, ints)) in (omega (arith, ints, clamps, low), omega (arith, ints, clamps, high)))
    (λ down.
    let low = second.falling down in
    let high = first.falling down in (omega (arith, ints, clamps, low), omega (arith, ints, clamps, high)))

-- what an edge passes lies in its box
pub Passes-in_box : (edge : Edge) (x y : ℤ) → Passes edge x y → InBox edge x y
Passes-in_box edge x y passes =
    let first = Upto-from_start edge x y passes in
    let second = Upto-to_end edge x y passes in
    let along_x = within edge.x0 edge.x1 x first.along_x second.along_x in
    let along_y = within edge.y0 edge.y1 y first.along_y second.along_y in record {
      left = along_x.0;
      right = along_x.1;
      low = along_y.0;
      high = along_y.1;
    }
