-- What the buckets of two accepted ranges say of the ranges.
use Rattle.std.proofs.Common.{◌≡◌, ℕ, ◌+◌, ◌*◌, ◌/◌, ◌<◌, ◌≤◌, ℤ, pos, ◌+ℤ◌, ◌-ℤ◌, ◌<ℤ◌, ◌≤ℤ◌, true, leb, ◌&&◌, arith}
use Rattle.std.proofs.Math.Nat.{lt-div-mul-add, div-mul-le_self}
use Rattle.std.proofs.lemmas.Nat.{mul-le, le-div}
use Rattle.std.proofs.lemmas.Int.{ints}
use Rattle.std.proofs.lemmas.Bool.Decides.{nat_tests}
use Rattle.i_tree.specs.Seg.Buckets.{Buckets, distance, bucket, Filters}

distance_is : (start value : ℤ) → start ≤ℤ value → pos (distance start value) ≡ value -ℤ start
distance_is start value upwards = omega (arith, ints)

distance_rises : (start low high : ℤ) → start ≤ℤ low → low ≤ℤ high → distance start low ≤ distance start high
distance_rises start low high above upwards =
    omega (arith, ints)

quotient_rises : (w a b : ℕ) → 0 < w → a ≤ b → a / w ≤ b / w
quotient_rises w a b some upwards = let most : a / w * w ≤ a = div-mul-le_self a w in le-div (a / w) b w some (omega arith)

quotient_near : (w a b : ℕ) → 0 < w → a / w ≤ b / w → a < b + w
quotient_near w a b some upwards = grind (arith, lt-div-mul-add, mul-le, div-mul-le_self)

-- a number that isn't below another lies in no earlier bucket
pub bucket-rises : (buckets : Buckets) (low high : ℤ) → 0 < buckets.width → buckets.start ≤ℤ low → low ≤ℤ high → bucket buckets low ≤ bucket buckets high
bucket-rises buckets low high some above upwards =
    quotient_rises buckets.width (distance buckets.start low) (distance buckets.start high) some (distance_rises buckets.start low high above upwards)

overlap_from : (a b c d : ℕ) → a ≤ d → c ≤ b → (leb a d && leb c b) ≡ true
overlap_from a b c d first second = grind (arith, nat_tests)

overlap_first : (a b c d : ℕ) → (leb a d && leb c b) ≡ true → a ≤ d
overlap_first a b c d both = grind (arith, nat_tests)

overlap_second : (a b c d : ℕ) → (leb a d && leb c b) ≡ true → c ≤ b
overlap_second a b c d both = grind (arith, nat_tests)

-- where one number's bucket isn't behind another's, it lies less than a width behind it at most
near : (start low high : ℤ) (width : ℕ) → 0 < width → start ≤ℤ low → start ≤ℤ high → distance start low / width ≤ distance start high / width → low <ℤ (high +ℤ pos width)
near start low high width some above second_above upto = grind (arith, quotient_near, distance_is, ints)

-- buckets that have a width filter
pub filters : (buckets : Buckets) → 0 < buckets.width → Filters buckets
filters buckets some = record {
  misses_none = λ low high least greatest own accepted first second.
      overlap_from (bucket buckets low) (bucket buckets high) (bucket buckets least) (bucket buckets greatest)
      (quotient_rises buckets.width (distance buckets.start low) (distance buckets.start greatest) some (distance_rises buckets.start low greatest own.above first))
      (quotient_rises buckets.width (distance buckets.start least) (distance buckets.start high) some (distance_rises buckets.start least high accepted.above second));
  stays_near = λ low high least greatest own accepted meet.
      let above = own.above in
      let other_upwards = accepted.order in (
        near buckets.start low greatest buckets.width some own.above (omega (arith, ints)) (overlap_first (bucket buckets low) (bucket buckets high) (bucket buckets least) (bucket buckets greatest) meet),
        near buckets.start least high buckets.width some accepted.above (omega (arith, ints)) (overlap_second (bucket buckets low) (bucket buckets high) (bucket buckets least) (bucket buckets greatest) meet),
      );
}
