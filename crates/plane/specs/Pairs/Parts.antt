-- The parts of items in the strips that their boxes reach, in the order in which they are served. For private contracts.
use Rattle.std.specs.Prelude.{◌≡◌, ◌≢◌, ◌⊎◌, ℕ, ◌<◌, ◌≤◌, ◌+◌, ◌<ℤ◌, List, Some, All, AllPairs, Contains, get_or, length, slice_get}
use Rattle.plane.specs.Pairs.Strips.{Reaches}
use Rattle.plane.specs.declared.pairs.items.Bounds.{Bounds}
use Rattle.plane.specs.declared.pairs.parts.Part.{Part}
use Rattle.plane.specs.declared.pairs.strips.Strips.{Strips}

-- the part in a strip of the item at a place, by its box
abbrev pub part_of : ℕ → Bounds → ℕ → Part
part_of place bounds strip = record { strip = strip; left = bounds.left; place = place }

-- the part is that of one of the items, in a strip that it reaches
pub record IsPartOf {X : Type 0} (bounds : X → Bounds) (strips : Strips) (items : List X) (part : Part) : Type 0 where
  pub item : X
  pub stands : slice_get items part.place ≡ Some item
  pub reaches : Reaches strips (bounds item) part.strip
  pub is : part ≡ part_of part.place (bounds item) part.strip

-- the parts are all those of which `Wanted` holds by their place and their strip, each once
pub record Lists {X : Type 0} (bounds : X → Bounds) (strips : Strips) (items : List X) (Wanted : ℕ → ℕ → Type 0) (parts : List Part) : Type 0 where
  pub each : (place strip : ℕ) (item : X) → slice_get items place ≡ Some item → Reaches strips (bounds item) strip → Wanted place strip → Contains parts (part_of place (bounds item) strip)
  pub of : All (λ part. IsPartOf bounds strips items part × Wanted part.place part.strip) parts
  pub once : AllPairs (λ part later. part ≢ later) parts

-- the first part is served before the second, or in either order
abbrev pub NotBehind : Part → Part → Type 0
NotBehind first second = (first.strip < second.strip) ⊎ ((first.strip ≡ second.strip)
    × ((first.left <ℤ second.left) ⊎ ((first.left ≡ second.left) × (first.place ≤ second.place))))

-- the parts are those of all items, each once, and in order
pub record AreParts {X : Type 0} (bounds : X → Bounds) (strips : Strips) (items : List X) (parts : List Part) : Type 0 where
  pub each : (place strip : ℕ) (item : X) → slice_get items place ≡ Some item → Reaches strips (bounds item) strip → Contains parts (part_of place (bounds item) strip)
  pub of : All (IsPartOf bounds strips items) parts
  pub once : AllPairs (λ part later. part ≢ later) parts
  pub in_order : AllPairs NotBehind parts

-- the item is that whose part stands at this place
abbrev pub IsItemOf : {X : Type 0} → List X → List Part → ℕ → X → Type 0
IsItemOf items parts place item = (part : Part) → item ≡ get_or items (get_or parts place part).place item

-- these are the items of the parts from a place on
abbrev pub AreReadAhead : {X : Type 0} → List X → List Part → ℕ → List X → Type 0
AreReadAhead {X} items parts from read = (i : ℕ) (item : X) → i < length read → IsItemOf items parts (from + i) (get_or read i item)
