-- What the order of numbers answers of a last time and another one: whether that is at most the last.
use Rattle.std.proofs.Common.{◌≡◌, ℕ, ◌<◌, ◌≤◌, ℤ, ◌<ℤ◌, ◌≤ℤ◌, true, refl, arith}
use Rattle.std.specs.Ordering.{int_cmp, is_ge, nat_cmp, MatchOrdering}
use Rattle.std.specs.declared.cmp.Ordering.{Ordering}
use Rattle.std.specs.declared.cmp.Ordering.TheVariants.{Less, Equal, Greater}
use Rattle.std.proofs.lemmas.Bool.{false≢true}
use Rattle.std.proofs.lemmas.Cmp.{int_ranked, ranked}
use Rattle.std.proofs.lemmas.Int.{ints}

pub ge-upto : (last time : ℕ) → time ≤ last → is_ge (nat_cmp last time) ≡ true
ge-upto last time upto = told (nat_cmp last time) (ranked last time (nat_cmp last time) refl)
  where
    told : (r : Ordering) → MatchOrdering r (last < time) (last ≡ time) (time < last) → is_ge r ≡ true
    told Less before = absurd (omega arith)
    told Equal same = refl
    told Greater after = refl

pub int_ge-upto : (last time : ℤ) → time ≤ℤ last → is_ge (int_cmp last time) ≡ true
int_ge-upto last time upto = told (int_cmp last time) (int_ranked last time (int_cmp last time) refl)
  where
    told : (r : Ordering) → MatchOrdering r (last <ℤ time) (last ≡ time) (time <ℤ last) → is_ge r ≡ true
    told Less before = absurd (omega (arith, ints))
    told Equal same = refl
    told Greater after = refl

pub int_upto-ge : (last time : ℤ) → is_ge (int_cmp last time) ≡ true → time ≤ℤ last
int_upto-ge last time = told (int_cmp last time) (int_ranked last time (int_cmp last time) refl)
  where
    told : (r : Ordering) → MatchOrdering r (last <ℤ time) (last ≡ time) (time <ℤ last) → is_ge r ≡ true → time ≤ℤ last
    told Less before ge = absurd (false≢true ge)
    told Equal same ge = omega (arith, ints)
    told Greater after ge = omega (arith, ints)
