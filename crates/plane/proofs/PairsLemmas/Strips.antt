-- An item in a strip that it reaches: its heights there, counted from the strip's first one.
use Rattle.std.proofs.Common.{ℕ, ◌+◌, ◌*◌, ◌<◌, ◌≤◌, ℤ, pos, pow_mono, Option, Some, None, refl, arith}
use Rattle.std.specs.Option.{MatchOption, IsSome}
use Rattle.std.proofs.lemmas.Int.{ints}
use Rattle.std.proofs.lemmas.Nat.{pow_pos}
use Rattle.std.proofs.Math.Nat.{div-lt_iff_lt-mul, le-div_iff_mul-le}
use Rattle.i_tree.specs.Seg.Buckets.{Buckets, distance}
use Rattle.i_tree.specs.Seg.Ranges.{CanBeCut, IsCutInto}
use Rattle.plane.specs.Pairs.Strips.{width, strip_at, heights_of, IsOverStrip}
use Rattle.plane.specs.declared.pairs.strips.Strips.{Strips}

-- a strip has 32 heights at least
pub wide : (strips : Strips) → 32 ≤ width strips
wide strips = pow_mono {i = 5} strips.wide

module _ (strips : Strips) (strip : ℕ) where
  -- the strip begins at most at the height that lies in it or above it
  pub begins_upto : (height : ℤ) → strip ≤ strip_at strips height → strip * width strips ≤ distance strips.base height
  begins_upto height upto = (le-div_iff_mul-le {k = width strips} (pow_pos strips.bits)).0 upto

  -- the strip ends above the height that lies in it or below it
  pub ends_above : (height : ℤ) → strip_at strips height ≤ strip → distance strips.base height < strip * width strips + width strips
  ends_above height from =
      let below = (div-lt_iff_lt-mul {k = width strips} {x = distance strips.base height} {y = strip + 1} (pow_pos strips.bits)).0 (omega (arith, from)) in
      omega (arith, below)

-- the heights of a strip can be cut into buckets
pub CanBeCut-heights : (strips : Strips) → CanBeCut pos 31 (heights_of strips)
CanBeCut-heights strips =
    let some = wide strips in
    record { order = omega (arith, ints); wide = omega (arith, ints, some); allowed = omega (arith, ints, some) }

-- and then the buckets are those of a strip
pub IsOverStrip-cut : (strips : Strips) (buckets : Buckets) → IsCutInto pos (heights_of strips) buckets → IsOverStrip strips buckets
IsOverStrip-cut strips buckets cut = record { starts = cut.starts; ends = cut.ends }

-- where a range can be cut, there is a tree over it
pub IsSome-cut : {X P : Type 0} (made : Option X) → MatchOption made (¬ P) (λ _. P) → P → IsSome made
IsSome-cut None none can = absurd (none can)
IsSome-cut (Some x) made can = refl
