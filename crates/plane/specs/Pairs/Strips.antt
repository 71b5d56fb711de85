-- Heights that are cut into strips of one width. For private contracts.
use Rattle.std.specs.Prelude.{◌≡◌, ◌⊎◌, ℕ, ◌+◌, ◌-◌, ◌*◌, ◌/◌, ◌^◌, ◌≤◌, ℤ, pos, min, List, length}
use Rattle.std.specs.List.{sum_by}
use Rattle.i_tree.specs.declared.seg.exp.SegRange.{SegRange}
use Rattle.i_tree.specs.Seg.Buckets.{Buckets, distance}
use Rattle.plane.specs.declared.pairs.items.Bounds.{Bounds}
use Rattle.plane.specs.declared.pairs.strips.Strips.{Strips}

-- how many heights a strip has
abbrev pub width : Strips → ℕ
width strips = 2 ^ strips.bits

-- the strip in which a height lies, which isn't below the base
abbrev pub strip_at : Strips → ℤ → ℕ
strip_at strips height = distance strips.base height / width strips

-- a box reaches the strip
pub record Reaches (strips : Strips) (bounds : Bounds) (strip : ℕ) : Type 0 where
  pub from : strip_at strips bounds.low ≤ strip
  pub upto : strip ≤ strip_at strips bounds.high

-- how many strips a box reaches
abbrev pub reached_by : Strips → Bounds → ℕ
reached_by strips bounds = strip_at strips bounds.high + 1 - strip_at strips bounds.low

-- how many the boxes of items reach, counted for each item
abbrev pub reached : {X : Type 0} → (X → Bounds) → Strips → List X → ℕ
reached bounds strips items = sum_by (λ item. reached_by strips (bounds item)) items

-- three strips an item at most, taken together
abbrev pub ReachFew : {X : Type 0} → (X → Bounds) → Strips → List X → Type 0
ReachFew bounds strips items = reached bounds strips items ≤ 3 * length items

-- Strips of so many bits are wide enough for so many items, whose heights, over a span in all, sum up to this: they are
-- as wide as can be, or one is enough for all, or few items reach several.
abbrev pub IsWideEnough : ℕ → ℕ → ℕ → ℕ → Type 0
IsWideEnough count span heights bits = (bits ≡ 31) ⊎ (span / 2 ^ bits ≡ 0) ⊎ (heights / 2 ^ bits ≤ count / 4)

-- the heights of a box that lie in a strip, counted from the strip's first one
abbrev pub range_in : Strips → ℕ → Bounds → SegRange ℕ
range_in strips strip bounds = record {
  min = distance strips.base bounds.low - strip * width strips;
  max = min (distance strips.base bounds.high - strip * width strips) (width strips - 1);
}

-- all heights of a strip, counted from its first one
abbrev pub heights_of : Strips → SegRange ℕ
heights_of strips = record { min = 0; max = width strips - 1 }

-- the buckets are those of a strip
pub record IsOverStrip (strips : Strips) (buckets : Buckets) : Type 0 where
  pub starts : buckets.start ≡ pos 0
  pub ends : buckets.end ≡ pos (width strips - 1)
