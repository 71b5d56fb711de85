-- The order in which edges begin is one in which any two compare.
use Rattle.std.proofs.Common.{◌≡◌, ◌⊎◌, inl, inr, Bool, true, false, ℤ, pos, ◌+ℤ◌, ◌-ℤ◌, ◌*ℤ◌, ◌≤ℤ◌, ◌<ℤ◌, refl, sym, ◌∙◌, arith}
use Rattle.std.specs.Cmp.{IsStrictWeakOrder}
use Rattle.std.specs.Ordering.{MatchOrdering, int_cmp, is_lt}
use Rattle.std.specs.declared.cmp.Ordering.{Ordering}
use Rattle.std.specs.declared.cmp.Ordering.TheVariants.{Less, Equal, Greater}
use Rattle.std.proofs.lemmas.Cmp.{int_ranked}
use Rattle.std.proofs.lemmas.Int.{ints, clamps}
use Rattle.plane.specs.declared.edge.Edge.{Edge}
use Rattle.plane.specs.SweepLine.Active.{then_cmp}
use Rattle.plane.specs.SweepLine.Heights.{rise}
use Rattle.plane.proofs.MeetLemmas.Identities.{number, plus, minus, times, identity}
use Rattle.plane.proofs.SweepLineLemmas.Gaps.{product_above, quotient_above}
use Rattle.overlay.specs.declared.fill.pieces.Piece.{Piece}
use Rattle.overlay.specs.Fill.Begins.{steps, cmp_begins, BeginsUpto}

-- the test by which pieces are sorted
abbrev pub begins_before : Piece → Piece → Bool
begins_before one other = is_lt (cmp_begins one.edge other.edge)

-- of three pairs of numbers the first are less, or equal and the second are less, or equal and the third are at most
abbrev Upto : ℤ → ℤ → ℤ → ℤ → ℤ → ℤ → Type 0
Upto a b c d e f = (a <ℤ b) ⊎ (a ≡ b) × ((c <ℤ d) ⊎ (c ≡ d) × (e ≤ℤ f))

less_at : (e f : ℤ) → e <ℤ f → e ≤ℤ f
less_at e f less = omega (arith, ints, less)

same_at : (e f : ℤ) → f ≡ e → e ≤ℤ f
same_at e f same = omega (arith, ints, same)

not_less : (a b c d e f : ℤ) (r s t : Ordering) → MatchOrdering r (a <ℤ b) (a ≡ b) (b <ℤ a) → MatchOrdering s (c <ℤ d) (c ≡ d) (d <ℤ c) → MatchOrdering t (e <ℤ f) (e ≡ f) (f <ℤ e)
    → is_lt (then_cmp r (then_cmp s t)) ≡ false → Upto b a d c f e
not_less a b c d e f Less s t first second third told = cc
not_less a b c d e f Greater s t first second third told = inl first
not_less a b c d e f Equal Less t first second third told = cc
not_less a b c d e f Equal Greater t first second third told = inr (sym first, inl second)
not_less a b c d e f Equal Equal Less first second third told = cc
not_less a b c d e f Equal Equal Equal first second third told = inr (sym first, inr (sym second, same_at f e third))
not_less a b c d e f Equal Equal Greater first second third told = inr (sym first, inr (sym second, less_at f e third))

is_less : (a b c d e f : ℤ) (r s t : Ordering) → MatchOrdering r (a <ℤ b) (a ≡ b) (b <ℤ a) → MatchOrdering s (c <ℤ d) (c ≡ d) (d <ℤ c) → MatchOrdering t (e <ℤ f) (e ≡ f) (f <ℤ e)
    → is_lt (then_cmp r (then_cmp s t)) ≡ true → Upto a b c d e f
is_less a b c d e f Less s t first second third told = inl first
is_less a b c d e f Greater s t first second third told = cc
is_less a b c d e f Equal Less t first second third told = inr (first, inl second)
is_less a b c d e f Equal Greater t first second third told = cc
is_less a b c d e f Equal Equal Less first second third told = inr (first, inr (second, less_at e f third))
is_less a b c d e f Equal Equal Equal first second third told = cc
is_less a b c d e f Equal Equal Greater first second third told = cc

not_both : (a b c d e f : ℤ) (r s t : Ordering) → MatchOrdering r (a <ℤ b) (a ≡ b) (b <ℤ a) → MatchOrdering s (c <ℤ d) (c ≡ d) (d <ℤ c) → MatchOrdering t (e <ℤ f) (e ≡ f) (f <ℤ e)
    → Upto b a d c f e → is_lt (then_cmp r (then_cmp s t)) ≡ false
not_both a b c d e f Greater s t first second third upto = refl
not_both a b c d e f Equal Greater t first second third upto = refl
not_both a b c d e f Equal Equal Equal first second third upto = refl
not_both a b c d e f Equal Equal Greater first second third upto = refl
not_both a b c d e f Less s t first second third (inl less) = absurd (omega (arith, ints, first, less))
not_both a b c d e f Less s t first second third (inr (same, more)) = absurd (omega (arith, ints, first, same))
not_both a b c d e f Equal Less t first second third (inl less) = absurd (omega (arith, ints, first, less))
not_both a b c d e f Equal Less t first second third (inr (same, inl less)) = absurd (omega (arith, ints, second, less))
not_both a b c d e f Equal Less t first second third (inr (same, inr (level, more))) = absurd (omega (arith, ints, second, level))
not_both a b c d e f Equal Equal Less first second third (inl less) = absurd (omega (arith, ints, first, less))
not_both a b c d e f Equal Equal Less first second third (inr (same, inl less)) = absurd (omega (arith, ints, second, less))
not_both a b c d e f Equal Equal Less first second third (inr (same, inr (level, more))) = absurd (omega (arith, ints, third, more))

-- ---- edges

pub not_before : (one other : Piece) → begins_before one other ≡ false → BeginsUpto other.edge one.edge
not_before one other told =
    let a = one.edge in
    let b = other.edge in
    not_less a.x0 b.x0 a.y0 b.y0 (rise a *ℤ steps b) (rise b *ℤ steps a) (int_cmp a.x0 b.x0) (int_cmp a.y0 b.y0) (int_cmp (rise a *ℤ steps b) (rise b *ℤ steps a))
    (int_ranked a.x0 b.x0 (int_cmp a.x0 b.x0) refl) (int_ranked a.y0 b.y0 (int_cmp a.y0 b.y0) refl) (int_ranked (rise a *ℤ steps b) (rise b *ℤ steps a) (int_cmp (rise a *ℤ steps b) (rise b *ℤ steps a)) refl) told

before-upto : (one other : Piece) → begins_before one other ≡ true → BeginsUpto one.edge other.edge
before-upto one other told =
    let a = one.edge in
    let b = other.edge in
    is_less a.x0 b.x0 a.y0 b.y0 (rise a *ℤ steps b) (rise b *ℤ steps a) (int_cmp a.x0 b.x0) (int_cmp a.y0 b.y0) (int_cmp (rise a *ℤ steps b) (rise b *ℤ steps a))
    (int_ranked a.x0 b.x0 (int_cmp a.x0 b.x0) refl) (int_ranked a.y0 b.y0 (int_cmp a.y0 b.y0) refl) (int_ranked (rise a *ℤ steps b) (rise b *ℤ steps a) (int_cmp (rise a *ℤ steps b) (rise b *ℤ steps a)) refl) told

upto-before : (one other : Piece) → BeginsUpto other.edge one.edge → begins_before one other ≡ false
upto-before one other upto =
    let a = one.edge in
    let b = other.edge in
    not_both a.x0 b.x0 a.y0 b.y0 (rise a *ℤ steps b) (rise b *ℤ steps a) (int_cmp a.x0 b.x0) (int_cmp a.y0 b.y0) (int_cmp (rise a *ℤ steps b) (rise b *ℤ steps a))
    (int_ranked a.x0 b.x0 (int_cmp a.x0 b.x0) refl) (int_ranked a.y0 b.y0 (int_cmp a.y0 b.y0) refl) (int_ranked (rise a *ℤ steps b) (rise b *ℤ steps a) (int_cmp (rise a *ℤ steps b) (rise b *ℤ steps a)) refl) upto

steps-some : (edge : Edge) → pos 0 <ℤ steps edge
steps-some edge = omega (arith, ints, clamps)

-- slopes that are compared by cross-multiplying: a / m at most b / n, that at most c / k
slopes : (a b c m n k : ℤ) → pos 0 <ℤ m → pos 0 <ℤ n → pos 0 <ℤ k → (a *ℤ n) ≤ℤ (b *ℤ m) → (b *ℤ k) ≤ℤ (c *ℤ n) → (a *ℤ k) ≤ℤ (c *ℤ m)
slopes a b c m n k some other third first second =
    let left = product_above k ((b *ℤ m) -ℤ (a *ℤ n)) (omega (arith, ints, third)) (omega (arith, ints, first)) in
    let right = product_above m ((c *ℤ n) -ℤ (b *ℤ k)) (omega (arith, ints, some)) (omega (arith, ints, second)) in
    let all : (n *ℤ ((c *ℤ m) -ℤ (a *ℤ k))) ≡ ((k *ℤ ((b *ℤ m) -ℤ (a *ℤ n))) +ℤ (m *ℤ ((c *ℤ n) -ℤ (b *ℤ k)))) =
    identity (times (number n) (minus (times (number c) (number m)) (times (number a) (number k))))
    (plus (times (number k) (minus (times (number b) (number m)) (times (number a) (number n)))) (times (number m) (minus (times (number c) (number n)) (times (number b) (number k)))))
    (omega arith) in
    let sum : pos 0 ≤ℤ (n *ℤ ((c *ℤ m) -ℤ (a *ℤ k))) = omega (arith, ints, left, right, all) in
    let is = quotient_above n ((c *ℤ m) -ℤ (a *ℤ k)) other sum in
    omega (arith, ints, is)

pub BeginsUpto-trans : (one other third : Edge) → BeginsUpto one other → BeginsUpto other third → BeginsUpto one third
BeginsUpto-trans one other third (inl less) (inl more) = inl (omega (arith, ints, less, more))
BeginsUpto-trans one other third (inl less) (inr (same, rest)) = inl (omega (arith, ints, less, same))
BeginsUpto-trans one other third (inr (same, rest)) (inl more) = inl (omega (arith, ints, same, more))
BeginsUpto-trans one other third (inr (same, inl less)) (inr (level, inl more)) = inr (same ∙ level, inl (omega (arith, ints, less, more)))
BeginsUpto-trans one other third (inr (same, inl less)) (inr (level, inr (even, rest))) = inr (same ∙ level, inl (omega (arith, ints, less, even)))
BeginsUpto-trans one other third (inr (same, inr (even, rest))) (inr (level, inl more)) = inr (same ∙ level, inl (omega (arith, ints, even, more)))
BeginsUpto-trans one other third (inr (same, inr (even, flat))) (inr (level, inr (plain, steep))) =
    inr (same ∙ level, inr (even ∙ plain, slopes (rise one) (rise other) (rise third) (steps one) (steps other) (steps third) (steps-some one) (steps-some other) (steps-some third) flat steep))

pub weak_order : IsStrictWeakOrder begins_before
weak_order = record {
  one_way = λ one other told. upto-before other one (before-upto one other told);
  chain = λ one other third first second. upto-before one third (BeginsUpto-trans third.edge other.edge one.edge (not_before other third second) (not_before one other first));
}
