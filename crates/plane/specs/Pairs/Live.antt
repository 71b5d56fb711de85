-- What is live in a strip, in a list or in a tree. For private contracts.
use Rattle.std.specs.Prelude.{ℕ, ℤ, ◌≤ℤ◌, List, filter, map, if◌then◌else◌}
use Rattle.std.specs.Ordering.{int_cmp}
use Rattle.std.specs.declared.option.Option.{Option}
use Rattle.std.specs.declared.option.Option.TheVariants.{None}
use Rattle.i_tree.specs.Root.Live.{is_live}
use Rattle.i_tree.specs.Seg.Buckets.{Buckets}
use Rattle.i_tree.specs.Seg.Members.{Member}
use Rattle.plane.specs.Pairs.Strips.{Reaches}
use Rattle.plane.specs.Pairs.Sweep.{last_of, member_in}
use Rattle.plane.specs.declared.pairs.items.Bounds.{Bounds}
use Rattle.plane.specs.declared.pairs.live.Live.{Live}
use Rattle.plane.specs.declared.pairs.strips.Strips.{Strips}
use Rattle.plane.specs.declared.pairs.sweep.Placed.{Placed}

-- the item reaches the strip, and isn't below the base
pub record IsIn {X : Type 0} (bounds : X → Bounds) (strips : Strips) (strip : ℕ) (placed : Placed X) : Type 0 where
  pub above : strips.base ≤ℤ (bounds placed.item).low
  pub reaches : Reaches strips (bounds placed.item) strip

-- those of the items that are live at a time
abbrev pub live_items : {X : Type 0} → (X → Bounds) → ℤ → List (Placed X) → List (Placed X)
live_items bounds time items = filter (λ placed. is_live (last_of bounds) int_cmp time placed) items

-- each of them over its range in a strip
abbrev pub members_in : {X : Type 0} → (X → Bounds) → Strips → ℕ → Buckets → List (Placed X) → List (Member (Placed X))
members_in bounds strips strip buckets items = map (λ placed. member_in bounds strips strip buckets placed) items

-- what is held in a strip, the time of the latest query of the tree, and its buckets
pub record SweepStatus (X : Type 0) : Type 0 where
  pub buckets : Buckets
  pub latest : Option ℤ
  pub members : List (Member (Placed X))

-- that is what the tree holds, or the items of the list, and no query came then
abbrev pub held : {X A : Type 0} → (X → Bounds) → Strips → ℕ → Live X A → SweepStatus X
held bounds strips strip live = record {
  buckets = live.tree.buckets;
  latest = if live.is_few then None else live.tree.latest;
  members = if live.is_few then members_in bounds strips strip live.tree.buckets live.few.items else live.tree.members;
}
