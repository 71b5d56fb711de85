-- Proofs for the laws of the layout numbers. They are no definitions, and stand here since a law of an implementation can cite
-- its own crate only in what stands in `specs`.
use Rattle.std.specs.Prelude.{◌≡◌, ℕ, ◌<◌, ◌≤◌, pos, ◌<ℤ◌, refl}
use Rattle.std.specs.Ordering.{MatchOrdering, nat_cmp, int_cmp}
use Rattle.std.specs.Cmp.{int_cmp_is}
use Rattle.std.specs.declared.cmp.Ordering.{Ordering}
use Rattle.std.specs.declared.cmp.Ordering.TheVariants.{Less, Equal, Greater}
use Rattle.std.proofs.Common.{ap, arith, lit≤}
use Rattle.std.proofs.lemmas.Cmp.{ranked}
use Rattle.std.proofs.lemmas.Int.{ints}

-- the order of unsigned numbers is that of whole numbers
pub nat_cmp-is_int_cmp : (first second : ℕ) → nat_cmp first second ≡ int_cmp (pos first) (pos second)
nat_cmp-is_int_cmp first second = int_cmp_is (pos first) (pos second) (nat_cmp first second) (told (nat_cmp first second) (ranked first second (nat_cmp first second) refl))
  where
    told : (answer : Ordering) → MatchOrdering answer (first < second) (first ≡ second) (second < first) → MatchOrdering answer (pos first <ℤ pos second) (pos first ≡ pos second) (pos second <ℤ pos first)
    told Less below = omega (arith, ints)
    told Equal same = ap pos same
    told Greater above = omega (arith, ints)

-- the least span of the unsigned types is at least 1
pub some-31 : 1 ≤ 31
some-31 = lit≤ tt
