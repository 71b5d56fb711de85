-- Linear functions that are positive at the end: they are positive at the start too, or there is a last time at which
-- one of them is 0, and none is negative then.
use Rattle.std.proofs.Common.{List, [], ap, arith, inl, inr, pos, subst, sym, ℕ, ℤ, ◌*ℤ◌, ◌+ℤ◌, ◌-ℤ◌, ◌<ℤ◌, ◌<◌, ◌∙◌, ◌∷◌, ◌≡◌, ◌≤ℤ◌, ◌⊎◌}
use Rattle.std.proofs.lemmas.Int.{by_lt_z, ints}
use borrow.Author.Differences.{down, up}
use Rattle.noding.proofs.SnapLemmas.Numbers.{above_sum, down_is, n_of, up_is}
use Rattle.plane.proofs.MeetLemmas.Identities.{Term, identity, minus, number, plus, times}
use Rattle.plane.proofs.SweepLineLemmas.Gaps.{product_above, quotient_above}

-- A linear function of the time, by its first and its last value.
pub record Linear : Type 0 where
  pub first : ℤ
  pub last : ℤ

-- what it is, times l + k, at the time that is k of l + k parts of the way
abbrev pub at : ℕ → ℕ → Linear → ℤ
at l k f = (pos l *ℤ f.first) +ℤ (pos k *ℤ f.last)

-- All are positive at the start; at the end; none is negative at the time; one is 0 at it.
abbrev pub AllFirst : List Linear → Type 0
AllFirst [] = Unit {0}
AllFirst (f ∷ fs) = (pos 0 <ℤ f.first) × AllFirst fs

abbrev pub AllLast : List Linear → Type 0
AllLast [] = Unit {0}
AllLast (f ∷ fs) = (pos 0 <ℤ f.last) × AllLast fs

abbrev pub AllAt : ℕ → ℕ → List Linear → Type 0
AllAt l k [] = Unit {0}
AllAt l k (f ∷ fs) = (pos 0 ≤ℤ at l k f) × AllAt l k fs

abbrev pub AnyZero : ℕ → ℕ → List Linear → Type 0
AnyZero l k [] = ⊥
AnyZero l k (f ∷ fs) = (at l k f ≡ pos 0) ⊎ AnyZero l k fs

-- A time before the end at which one is 0 and none is negative.
pub record Root (fs : List Linear) : Type 0 where
  pub l : ℕ
  pub k : ℕ
  pub early : 0 < l
  pub above : AllAt l k fs
  pub none : AnyZero l k fs

above_both : (l k : ℕ) (fs : List Linear) → AllFirst fs → AllLast fs → AllAt l k fs
above_both l k [] firsts lasts = tt
above_both l k (f ∷ fs) (first, firsts) (last, lasts) = (
  above_sum (pos l *ℤ f.first) (pos k *ℤ f.last) (product_above (pos l) f.first (omega (arith, ints)) (omega (arith, ints))) (product_above (pos k) f.last (omega (arith, ints)) (omega (arith, ints))),
  above_both l k fs firsts lasts,
)

root_is : (f : Linear) → f.first ≤ℤ pos 0 → pos 0 <ℤ f.last → at (up f.last) (down f.first) f ≡ pos 0
root_is f first last =
    ap (λ z. (z *ℤ f.first) +ℤ (pos (down f.first) *ℤ f.last)) (up_is f.last (omega (arith, ints)))
    ∙ ap (λ z. (f.last *ℤ f.first) +ℤ (z *ℤ f.last)) (down_is f.first first)
    ∙ identity (plus (times (number f.last) (number f.first)) (times (minus (n_of 0) (number f.first)) (number f.last))) (n_of 0) (omega arith)

-- where f is negative at a time, one that isn't negative there isn't at f's root, which is later
later_one : (l k : ℕ) (f g : Linear) → 0 < l → f.first ≤ℤ pos 0 → pos 0 <ℤ f.last → at l k f <ℤ pos 0 → pos 0 <ℤ g.last → pos 0 ≤ℤ at l k g → pos 0 ≤ℤ at (up f.last) (down f.first) g
later_one l k f g early first last less g_last above =
    let one = product_above f.last (at l k g) (omega (arith, ints)) above in
    let other = product_above g.last (pos 0 -ℤ at l k f) (omega (arith, ints)) (omega (arith, ints)) in
    let sum = above_sum (f.last *ℤ at l k g) (g.last *ℤ (pos 0 -ℤ at l k f)) one other in
    let time : Linear → Term = λ h. plus (times (n_of l) (number h.first)) (times (n_of k) (number h.last)) in
    let same : ((f.last *ℤ at l k g) +ℤ (g.last *ℤ (pos 0 -ℤ at l k f))) ≡ (pos l *ℤ ((f.last *ℤ g.first) +ℤ ((pos 0 -ℤ f.first) *ℤ g.last))) =
    identity (plus (times (number f.last) (time g)) (times (number g.last) (minus (n_of 0) (time f))))
    (times (n_of l) (plus (times (number f.last) (number g.first)) (times (minus (n_of 0) (number f.first)) (number g.last))))
    (omega arith) in
    let there = quotient_above (pos l) ((f.last *ℤ g.first) +ℤ ((pos 0 -ℤ f.first) *ℤ g.last)) (omega (arith, ints)) (subst (λ (z : ℤ). pos 0 ≤ℤ z) same sum) in
    let rewritten : at (up f.last) (down f.first) g ≡ ((f.last *ℤ g.first) +ℤ ((pos 0 -ℤ f.first) *ℤ g.last)) =
    ap (λ z. (z *ℤ g.first) +ℤ (pos (down f.first) *ℤ g.last)) (up_is f.last (omega (arith, ints)))
    ∙ ap (λ z. (f.last *ℤ g.first) +ℤ (z *ℤ g.last)) (down_is f.first first) in
    subst (λ (z : ℤ). pos 0 ≤ℤ z) (sym rewritten) there

-- so of all
later : (l k : ℕ) (f : Linear) (fs : List Linear) → 0 < l → f.first ≤ℤ pos 0 → pos 0 <ℤ f.last → at l k f <ℤ pos 0 → AllLast fs → AllAt l k fs → AllAt (up f.last) (down f.first) fs
later l k f [] early first last less lasts aboves = tt
later l k f (g ∷ gs) early first last less (g_last, lasts) (above, aboves) = (
  later_one l k f g early first last less g_last above,
  later l k f gs early first last less lasts aboves,
)

-- f isn't positive at the start if it is negative at a time
first_below : (l k : ℕ) (f : Linear) → pos 0 <ℤ f.last → at l k f <ℤ pos 0 → f.first ≤ℤ pos 0
first_below l k f last less =
    by_lt_z (pos 0) f.first
    (λ some.
    let above = above_both l k (f ∷ []) (some, tt) (last, tt) in absurd (omega (arith, ints, above.0)))
    (λ none. none)

-- the root of f is the last one
fresh : (f : Linear) (fs : List Linear) → f.first ≤ℤ pos 0 → pos 0 <ℤ f.last → AllAt (up f.last) (down f.first) fs → Root (f ∷ fs)
fresh f fs first last aboves =
    let is = root_is f first last in record {
      l = up f.last;
      k = down f.first;
      early = omega (arith, ints, last);
      above = (omega (arith, ints, is), aboves);
      none = inl is;
    }

-- the last root of the others is the last one
kept : (f : Linear) (fs : List Linear) (root : Root fs) → pos 0 ≤ℤ at root.l root.k f → Root (f ∷ fs)
kept f fs root above = record {
  l = root.l;
  k = root.k;
  early = root.early;
  above = (above, root.above);
  none = inr root.none;
}

-- by recursion over the functions, which keeps the last root so far
pub last_root : (fs : List Linear) → AllLast fs → AllFirst fs ⊎ Root fs
last_root [] lasts = inl tt
last_root (f ∷ fs) (last, lasts) =
    elim (last_root fs lasts) [
      | inl firsts ↦ by_lt_z (pos 0) f.first (λ some. inl (some, firsts)) (λ none. inr (fresh f fs none last (above_both (up f.last) (down f.first) fs firsts lasts)))
      | inr root ↦ by_lt_z (at root.l root.k f) (pos 0)
          (λ less.
          let first = first_below root.l root.k f last less in inr (fresh f fs first last (later root.l root.k f fs root.early first last less lasts root.above)))
          (λ above. inr (kept f fs root above))
    ]
