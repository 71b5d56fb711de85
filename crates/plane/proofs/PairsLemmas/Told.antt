-- When two items are told in a strip.
use Rattle.std.proofs.Common.{◌≡◌, ℕ, ◌≤◌, ℤ, pos, ◌<ℤ◌, ◌≤ℤ◌, Bool, true, false, arith}
use Rattle.std.specs.Int.{int_min, int_max}
use Rattle.std.specs.Bool.{MatchBool}
use Rattle.std.proofs.lemmas.Int.{ints, clamps}
use Rattle.std.proofs.Math.Pow.{shr_mono}
use Rattle.i_tree.specs.Seg.Buckets.{Buckets, Accepts, Filters, distance, overlap}
use Rattle.i_tree.specs.Seg.Ranges.{interval_over}
use Rattle.plane.specs.Pairs.Bounds.{IsBox, BoundsMeet, MeetInBoxes}
use Rattle.plane.specs.Pairs.Strips.{strip_at, range_in, Reaches, IsOverStrip}
use Rattle.plane.specs.Pairs.Sweep.{IsTold}
use Rattle.plane.specs.declared.pairs.items.Bounds.{Bounds}
use Rattle.plane.specs.declared.pairs.strips.Strips.{Strips}
use Rattle.plane.proofs.PairsLemmas.Strips.{wide, begins_upto, ends_above}

-- where two boxes meet, their heights do
heights_meet : (one other : Bounds) → IsBox one → IsBox other → BoundsMeet one other → int_max one.low other.low ≤ℤ int_min one.high other.high
heights_meet one other proper proper' meet =
    let first = meet.low in
    let second = meet.high in
    let own = proper.tall in
    let others = proper'.tall in
    omega (arith, ints, clamps, first, second, own, others)

-- how far a height lies above the base, for two of which one isn't above the other
distance_mono : (base low high : ℤ) → base ≤ℤ low → low ≤ℤ high → distance base low ≤ distance base high
distance_mono base low high above order = omega (arith, ints)

-- Of heights that aren't below the base.
module _ (strips : Strips) where
  -- a height lies in no strip above that of a greater height
  pub strip_at-mono : (low high : ℤ) → strips.base ≤ℤ low → low ≤ℤ high → strip_at strips low ≤ strip_at strips high
  strip_at-mono low high above order = shr_mono strips.bits (distance_mono strips.base low high above order)

  -- boxes that meet both reach the strip in which the greater of their lower sides lies
  pub Reaches-meeting : (one other : Bounds) → IsBox one → IsBox other → strips.base ≤ℤ one.low → strips.base ≤ℤ other.low → BoundsMeet one other → Reaches strips one (strip_at strips (int_max one.low other.low))
  Reaches-meeting one other proper proper' above above' meet =
      let meeting = heights_meet one other proper proper' meet in
      record {
        from = strip_at-mono one.low (int_max one.low other.low) above (omega (arith, ints, clamps));
        upto = strip_at-mono (int_max one.low other.low) one.high (omega (arith, ints, clamps)) (omega (arith, ints, clamps, meeting));
      }

  -- Of a strip, and buckets over its heights.
  module _ (strip : ℕ) (buckets : Buckets) (over : IsOverStrip strips buckets) where
    -- the heights there of a box that reaches the strip are accepted
    pub Accepts-in : (bounds : Bounds) → IsBox bounds → strips.base ≤ℤ bounds.low → Reaches strips bounds strip → Accepts buckets (pos (range_in strips strip bounds).min) (pos (range_in strips strip bounds).max)
    Accepts-in bounds proper above reaches =
        let begins = begins_upto strips strip bounds.high reaches.upto in
        let ends = ends_above strips strip bounds.low reaches.from in
        let rises = distance_mono strips.base bounds.low bounds.high above proper.tall in
        let some = wide strips in
        let start = over.starts in
        let end = over.ends in
        record {
          above = omega (arith, ints, start);
          order = omega (arith, ints, begins, ends, rises);
          below = omega (arith, ints, end);
        }

    -- where two boxes that reach it meet, their buckets there overlap
    pub overlaps : (one other : Bounds) → IsBox one → IsBox other → strips.base ≤ℤ one.low → strips.base ≤ℤ other.low → Reaches strips one strip → Reaches strips other strip → BoundsMeet one other → Filters buckets
        → overlap (interval_over pos buckets (range_in strips strip one)) (interval_over pos buckets (range_in strips strip other)) ≡ true
    overlaps one other proper proper' above above' reaches reaches' meet filters =
        filters.misses_none (pos (range_in strips strip one).min) (pos (range_in strips strip one).max) (pos (range_in strips strip other).min) (pos (range_in strips strip other).max)
        (Accepts-in one proper above reaches) (Accepts-in other proper' above' reaches') (near one other above reaches reaches' meet.low) (near other one above' reaches' reaches meet.high)
      where
        near : (first second : Bounds) → strips.base ≤ℤ first.low → Reaches strips first strip → Reaches strips second strip → first.low ≤ℤ second.high → pos (range_in strips strip first).min ≤ℤ pos (range_in strips strip second).max
        near first second above reaches reaches' order =
            let begins = begins_upto strips strip second.high reaches'.upto in
            let ends = ends_above strips strip first.low reaches.from in
            let rises = distance_mono strips.base first.low second.high above order in
            let some = wide strips in
            omega (arith, ints, begins, ends, rises, some)

-- Of two items and a strip: whether they are told there.
module _ {X : Type 0} {bounds : X → Bounds} {Meeting : X → X → Type 0} (boxed : MeetInBoxes bounds Meeting) (strips : Strips) (strip : ℕ) (one other : X) where
  -- in the strip of the greater of their lower sides, they are told where they meet
  pub told_where : (met : Bool) → strip_at strips (int_max (bounds one).low (bounds other).low) ≡ strip → MatchBool met (Meeting one other) (¬ (Meeting one other)) → MatchBool met (IsTold bounds Meeting strips strip one other) (¬ (IsTold bounds Meeting strips strip one other))
  told_where true here meet = record { meet = meet; here = here }
  told_where false here none = λ told. none told.meet

  -- they aren't told where their heights don't meet
  pub not_told_apart : int_min (bounds one).high (bounds other).high <ℤ int_max (bounds one).low (bounds other).low → ¬ (IsTold bounds Meeting strips strip one other)
  not_told_apart apart = λ told. let meeting = heights_meet (bounds one) (bounds other) (boxed.proper one) (boxed.proper other) (boxed.near one other told.meet) in omega (arith, ints, apart, meeting)
