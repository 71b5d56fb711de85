-- Sums over whole numbers in a row.
use Rattle.std.proofs.Common.{◌≡◌, ℕ, zero, suc, ◌+◌, ℤ, pos, ◌+ℤ◌, ◌-ℤ◌, ◌≤ℤ◌, ◌<ℤ◌, Bool, true, false, cond, List, [], ◌∷◌, refl, ap, ap₂, arith, sym, subst, ◌∙◌}
use Rattle.std.specs.Int.Signed.{lt_z}
use Rattle.std.specs.List.{Contains}
use Rattle.std.proofs.lemmas.Int.{ints, by_lt_z}
use borrow.Author.Differences.{up, down}
use Rattle.plane.specs.declared.edge.Edge.{Edge}
use Rattle.plane.specs.Meet.Crosses.{IsWithin}
use Rattle.overlay.specs.Fill.Counts.{is_over}
use Rattle.overlay.specs.Fill.Pieces.{total}
use Rattle.overlay.proofs.FillLemmas.Tests.{lt_true, lt_false, over_true, over_early, over_late}
use Rattle.overlay.proofs.FillLemmas.Totals.{total-none, total-sum}
use Rattle.noding.proofs.SnapLemmas.Numbers.{both}

-- The sum of what n whole numbers in a row give, from the first one on.
abbrev pub along : ℤ → ℕ → (ℤ → ℤ) → ℤ
along first zero f = pos 0
along first (suc n) f = along first n f +ℤ f (first +ℤ pos n)

-- a sum of sums over a list is the list's sum of sums
pub along-total : {X : Type 0} (first : ℤ) (n : ℕ) (f : X → ℤ → ℤ) (xs : List X) → along first n (λ z. total (λ x. f x z) xs) ≡ total (λ x. along first n (f x)) xs
along-total first zero f xs = sym (total-none (λ x. pos 0) xs (λ k d inside. refl))
along-total first (suc n) f xs =
    ap (λ s. s +ℤ total (λ x. f x (first +ℤ pos n)) xs) (along-total first n f xs)
    ∙ sym (total-sum (λ x. along first n (f x)) (λ x. f x (first +ℤ pos n)) xs)

-- sums whose terms are the same
pub along-same : (first : ℤ) (n : ℕ) (f g : ℤ → ℤ) → ((z : ℤ) → f z ≡ g z) → along first n f ≡ along first n g
along-same first zero f g same = refl
along-same first (suc n) f g same = both (along first n f) (along first n g) (f (first +ℤ pos n)) (g (first +ℤ pos n)) (along-same first n f g same) (same (first +ℤ pos n))

-- a sum of nothing
pub along-none : (first : ℤ) (n : ℕ) → along first n (λ z. pos 0) ≡ pos 0
along-none first zero = refl
along-none first (suc n) = ap (λ s. s +ℤ pos 0) (along-none first n)

-- a sum of numbers that aren't above 0 isn't
not_above : (a b : ℤ) → a ≤ℤ pos 0 → b ≤ℤ pos 0 → (a +ℤ b) ≤ℤ pos 0
not_above a b one other = omega (arith, ints, one, other)

pub along-below : (first : ℤ) (n : ℕ) (f : ℤ → ℤ) → ((z : ℤ) → f z ≤ℤ pos 0) → along first n f ≤ℤ pos 0
along-below first zero f below = omega (arith, ints)
along-below first (suc n) f below = not_above (along first n f) (f (first +ℤ pos n)) (along-below first n f below) (below (first +ℤ pos n))

-- a sum of differences
apart : (a b c d e : ℤ) → c ≡ (d -ℤ e) → (c +ℤ (a -ℤ b)) ≡ ((d +ℤ a) -ℤ (e +ℤ b))
apart a b c d e is = omega (arith, ints, is)

pub along-difference : (first : ℤ) (n : ℕ) (f g : ℤ → ℤ) → along first n (λ z. f z -ℤ g z) ≡ (along first n f -ℤ along first n g)
along-difference first zero f g = omega (arith, ints)
along-difference first (suc n) f g =
    apart (f (first +ℤ pos n)) (g (first +ℤ pos n)) (along first n (λ z. f z -ℤ g z)) (along first n f) (along first n g) (along-difference first n f g)

-- ---- what a sum over an edge's stretch gains

module _ (r : Edge) (onwards : r.x0 <ℤ r.x1) where
  -- the x from z on that the edge has reached: its start's at first, and its end's at last
  abbrev reached : ℤ → ℤ
  reached z = cond (lt_z z r.x0) r.x0 (cond (lt_z z r.x1) z r.x1)

  -- by what the tests say
  chosen : (z : ℤ) (a b : Bool) → lt_z z r.x0 ≡ a → lt_z z r.x1 ≡ b → reached z ≡ cond a r.x0 (cond b z r.x1)
  chosen z a b first second = ap₂ (λ s t. cond s r.x0 (cond t z r.x1)) first second

  -- up to its start, on it, and from its end on
  reached-start : (z : ℤ) → z ≤ℤ r.x0 → reached z ≡ r.x0
  reached-start z before =
      by_lt_z z r.x0
      (λ less. ap (λ t. cond t r.x0 (cond (lt_z z r.x1) z r.x1)) (lt_true z r.x0 less))
      (λ from. let same : z ≡ r.x0 = omega (arith, ints, before, from) in chosen z false true (lt_false z r.x0 from) (lt_true z r.x1 (omega (arith, ints, same, onwards))) ∙ same)

  reached-end : (z : ℤ) → r.x1 ≤ℤ z → reached z ≡ r.x1
  reached-end z late = chosen z false false (lt_false z r.x0 (omega (arith, ints, late, onwards))) (lt_false z r.x1 late)

  reached-within : (z : ℤ) → r.x0 ≤ℤ z → z ≤ℤ r.x1 → reached z ≡ z
  reached-within z from upto =
      by_lt_z z r.x1
      (λ less. chosen z false true (lt_false z r.x0 from) (lt_true z r.x1 less))
      (λ late. let same : r.x1 ≡ z = omega (arith, ints, upto, late) in reached-end z late ∙ same)

  -- nothing is gained
  none : (a : ℤ) → (a -ℤ a) ≡ pos 0
  none a = omega (arith, ints)

  from_none : (a : ℤ) → (a +ℤ pos 0) ≡ a
  from_none a = omega (arith, ints)

  -- what is gained before, and then
  joined : (s c a b o : ℤ) → s ≡ (a -ℤ o) → (b -ℤ a) ≡ c → (s +ℤ c) ≡ (b -ℤ o)
  joined s c a b o first second = omega (arith, ints, first, second)

  -- from each number to the next the whole gains a part
  module _ (whole part : ℤ → ℤ) (step : (z : ℤ) → (whole (z +ℤ pos 1) -ℤ whole z) ≡ part z) where
    -- so on the edge it gains the part, and elsewhere nothing
    gained : (z : ℤ) → (whole (reached (z +ℤ pos 1)) -ℤ whole (reached z)) ≡ cond (is_over z r) (part z) (pos 0)
    gained z =
        by_lt_z z r.x0
        (λ early.
        ap₂ (λ a b. whole a -ℤ whole b) (reached-start (z +ℤ pos 1) (omega (arith, ints, early))) (reached-start z (omega (arith, ints, early)))
        ∙ none (whole r.x0)
        ∙ sym (ap (λ t. cond t (part z) (pos 0)) (over_early z r early)))
        (λ from. by_lt_z z r.x1
        (λ less.
        ap₂ (λ a b. whole a -ℤ whole b) (reached-within (z +ℤ pos 1) (omega (arith, ints, from)) (omega (arith, ints, less))) (reached-within z from (omega (arith, ints, less)))
        ∙ step z
        ∙ sym (ap (λ t. cond t (part z) (pos 0)) (over_true z r from less)))
        (λ late.
        ap₂ (λ a b. whole a -ℤ whole b) (reached-end (z +ℤ pos 1) (omega (arith, ints, late))) (reached-end z late)
        ∙ none (whole r.x1)
        ∙ sym (ap (λ t. cond t (part z) (pos 0)) (over_late z r late))))

    -- up to any number
    gained_upto : (first : ℤ) (n : ℕ) → along first n (λ z. cond (is_over z r) (part z) (pos 0)) ≡ (whole (reached (first +ℤ pos n)) -ℤ whole (reached first))
    gained_upto first zero = sym (ap (λ z. whole (reached z) -ℤ whole (reached first)) (from_none first) ∙ none (whole (reached first)))
    gained_upto first (suc n) =
        let next : (first +ℤ pos (suc n)) ≡ ((first +ℤ pos n) +ℤ pos 1) = omega (arith, ints) in
        joined (along first n (λ z. cond (is_over z r) (part z) (pos 0))) (cond (is_over (first +ℤ pos n) r) (part (first +ℤ pos n)) (pos 0))
        (whole (reached (first +ℤ pos n))) (whole (reached ((first +ℤ pos n) +ℤ pos 1))) (whole (reached first))
        (gained_upto first n) (gained (first +ℤ pos n))
        ∙ ap (λ z. whole (reached z) -ℤ whole (reached first)) (sym next)

    -- What the parts on the edge's stretch add up to is what the whole gains from its start to its end.
    pub along-over : (first : ℤ) (n : ℕ) → first ≤ℤ r.x0 → r.x1 ≤ℤ (first +ℤ pos n) → along first n (λ z. cond (is_over z r) (part z) (pos 0)) ≡ (whole r.x1 -ℤ whole r.x0)
    along-over first n from upto = gained_upto first n ∙ ap₂ (λ a b. whole a -ℤ whole b) (reached-end (first +ℤ pos n) upto) (reached-start first from)

-- ---- a range that has all that a list's elements give

-- How far from 0 the numbers are that the elements give, together.
abbrev pub reach : {X : Type 0} → (X → ℤ) → List X → ℕ
reach f [] = 0
reach f (x ∷ xs) = (up (f x) + down (f x)) + reach f xs

-- one of them is no further from 0
near_own : (z : ℤ) (n : ℕ) → IsWithin ((up z + down z) + n) z
near_own z n = record { from = omega (arith, ints); upto = omega (arith, ints) }

near_more : (z : ℤ) (m n : ℕ) → IsWithin n z → IsWithin (m + n) z
near_more z m n near = let from = near.from in let upto = near.upto in record { from = omega (arith, ints, from); upto = omega (arith, ints, upto) }

-- each of them is in reach
pub in-reach : {X : Type 0} (f : X → ℤ) (xs : List X) (x : X) → Contains xs x → IsWithin (reach f xs) (f x)
in-reach f [] x (k, inside, is) = absurd (omega (arith, inside))
in-reach f (y ∷ ys) x (zero, inside, is) = subst (λ z. IsWithin ((up (f y) + down (f y)) + reach f ys) (f z)) is (near_own (f y) (reach f ys))
in-reach f (y ∷ ys) x (suc k, inside, is) = near_more (f x) (up (f y) + down (f y)) (reach f ys) (in-reach f ys x (k, omega (arith, inside), is))
