-- How a range of whole numbers is cut into buckets.
use Rattle.std.specs.Prelude.{◌≡◌, ℕ, ◌+◌, ◌*◌, ◌/◌, ◌^◌, ◌<◌, ◌≤◌, ℤ, pos, ◌+ℤ◌, ◌-ℤ◌, ◌<ℤ◌, ◌≤ℤ◌, unsigned_abs, Bool, true, ◌&&◌, leb}

-- a range of whole numbers, and the width of its buckets
pub record Buckets : Type 0 where
  pub start : ℤ
  pub end : ℤ
  pub width : ℕ

-- how far the second number lies above the first, which it isn't below
abbrev pub distance : ℤ → ℤ → ℕ
distance low high = unsigned_abs (high -ℤ low)

-- the least power of two, 32 of which are more than the span
pub record IsWidth (span width : ℕ) : Type 0 where
  pub power : (exponent : ℕ) × (width ≡ 2 ^ exponent)
  pub enough : span < 32 * width
  pub least : (exponent : ℕ) → span < 32 * 2 ^ exponent → width ≤ 2 ^ exponent

-- a range is wide enough to be cut: its span is neither below 16 nor below the least span of its number type
pub record HasLayout (least_span : ℕ) (start end : ℤ) : Type 0 where
  pub order : start ≤ℤ end
  pub wide : 16 ≤ distance start end
  pub allowed : least_span ≤ distance start end

-- the range is cut into buckets of the width of its span
pub record IsLayout (start end : ℤ) (buckets : Buckets) : Type 0 where
  pub starts : buckets.start ≡ start
  pub ends : buckets.end ≡ end
  pub width : IsWidth (distance start end) buckets.width

-- the bucket that a number of the range lies in
abbrev pub bucket : Buckets → ℤ → ℕ
bucket buckets value = distance buckets.start value / buckets.width

-- how many chunks of copies are kept: up to the leaf of the last bucket, which is node 31 and that bucket
abbrev pub chunk_count : Buckets → ℕ
chunk_count buckets = 32 + bucket buckets buckets.end

-- the range from the low to the high number is accepted
pub record Accepts (buckets : Buckets) (low high : ℤ) : Type 0 where
  pub above : buckets.start ≤ℤ low
  pub order : low ≤ℤ high
  pub below : high ≤ℤ buckets.end

-- some buckets next to each other, from the first to the last
pub record Interval : Type 0 where
  pub first : ℕ
  pub last : ℕ

abbrev pub between : ℕ → ℕ → Interval
between first last = record { first = first; last = last }

-- the buckets of an accepted range
abbrev pub interval : Buckets → ℤ → ℤ → Interval
interval buckets low high = between (bucket buckets low) (bucket buckets high)

-- two intervals have a bucket in common
abbrev pub overlap : Interval → Interval → Bool
overlap one other = leb one.first other.last && leb other.first one.last

-- What buckets say of a range that is stored and one that is asked for, both accepted: where the ranges overlap, their
-- buckets do too; where their buckets do, the ranges lie less than a width apart.
pub record Filters (buckets : Buckets) : Type 0 where
  pub misses_none : (low high least greatest : ℤ) → Accepts buckets low high → Accepts buckets least greatest
      → low ≤ℤ greatest → least ≤ℤ high → overlap (interval buckets low high) (interval buckets least greatest) ≡ true
  pub stays_near : (low high least greatest : ℤ) → Accepts buckets low high → Accepts buckets least greatest
      → overlap (interval buckets low high) (interval buckets least greatest) ≡ true
      → (low <ℤ (greatest +ℤ pos buckets.width)) × (least <ℤ (high +ℤ pos buckets.width))

-- a range that is cut into buckets of two to the scale: 16 of them, but not 32, lie within its span
pub record IsCut (start end : ℤ) (scale bits : ℕ) : Type 0 where
  pub order : start ≤ℤ end
  pub wide : 16 * 2 ^ scale ≤ distance start end
  pub enough : distance start end < 32 * 2 ^ scale
  pub shifted : scale < bits
