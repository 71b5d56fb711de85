-- Ranges of a caller's numbers over the buckets of a collection. `whole` gives the whole number that each stands for.
use Rattle.std.specs.Prelude.{ℕ, ℤ}
use Rattle.i_tree.specs.declared.seg.exp.SegRange.{SegRange}
use Rattle.i_tree.specs.Seg.Buckets.{Buckets, Interval, Accepts, HasLayout, IsLayout, interval}
use Rattle.i_tree.specs.Seg.Members.{Member, member_over}

module _ {R : Type 0} (whole : R → ℤ) where
  -- the range can be cut into buckets
  abbrev pub CanBeCut : ℕ → SegRange R → Type 0
  CanBeCut least_span range = HasLayout least_span (whole range.min) (whole range.max)

  -- and these are its buckets
  abbrev pub IsCutInto : SegRange R → Buckets → Type 0
  IsCutInto range buckets = IsLayout (whole range.min) (whole range.max) buckets

  -- the range is accepted: it goes upwards, and lies in that which the buckets are of
  abbrev pub IsAccepted : Buckets → SegRange R → Type 0
  IsAccepted buckets range = Accepts buckets (whole range.min) (whole range.max)

  -- the buckets that the range meets
  abbrev pub interval_over : Buckets → SegRange R → Interval
  interval_over buckets range = interval buckets (whole range.min) (whole range.max)

  -- the value over them
  abbrev pub segment_over : {V : Type 0} → Buckets → SegRange R → V → Member V
  segment_over buckets range value = member_over buckets (whole range.min) (whole range.max) value
