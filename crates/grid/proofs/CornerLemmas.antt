-- Corners of one more position.
use Rattle.std.proofs.Common.{◌≡◌, ◌∙◌, ℕ, ℤ, ◌+◌, ◌<◌, ◌≤ℤ◌, List, length, inl, inr, arith, sym, subst}
use Rattle.std.proofs.lemmas.Int.{ints}
use Rattle.std.proofs.lemmas.Bool.{cases_lt}
use Rattle.grid.specs.declared.position.Position.{Position}
use Rattle.grid.specs.Doubles.{in_leasts}
use Rattle.grid.specs.Fit.{IsFirst, IsOfTwo, AtMost, AtLeast}
use Rattle.grid.specs.Grid.{position_at}

more : (InOrder : ℤ → ℤ → Type 0) → ((a b c : ℤ) → InOrder a b → InOrder b c → InOrder a c)
    → (axis : Position → ℕ) (positions : List Position) (count bits next : ℕ) → count < length positions
    → IsFirst InOrder axis positions count bits → IsOfTwo InOrder bits (axis (position_at positions count)) next → IsFirst InOrder axis positions (count + 1) next
more InOrder trans axis positions count bits next within so_far two =
    record {
      of = elim two.of [
        | inl same ↦ (so_far.of.0, so_far.of.1, so_far.of.2 ∙ sym same)
        | inr other ↦ (count, within, sym other)
      ];
      first = λ k upto. elim (cases_lt k count) [
        | inl under ↦ trans (in_leasts next) (in_leasts bits) (in_leasts (axis (position_at positions k))) two.first (so_far.first k under)
        | inr from ↦
            let at : k ≡ count = omega arith in
            subst (λ (j : ℕ). InOrder (in_leasts next) (in_leasts (axis (position_at positions j)))) (sym at) two.second
      ];
    }

at_most_trans : (a b c : ℤ) → a ≤ℤ b → b ≤ℤ c → a ≤ℤ c
at_most_trans a b c first second = omega (arith, ints)

pub least_more : (axis : Position → ℕ) (positions : List Position) (count bits next : ℕ) → count < length positions
    → IsFirst AtMost axis positions count bits → IsOfTwo AtMost bits (axis (position_at positions count)) next → IsFirst AtMost axis positions (count + 1) next
least_more = more AtMost at_most_trans

pub greatest_more : (axis : Position → ℕ) (positions : List Position) (count bits next : ℕ) → count < length positions
    → IsFirst AtLeast axis positions count bits → IsOfTwo AtLeast bits (axis (position_at positions count)) next → IsFirst AtLeast axis positions (count + 1) next
greatest_more = more AtLeast (λ a b c first second. at_most_trans c b a second first)
