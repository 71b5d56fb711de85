-- Stretches of several edges in a table, by their chords. For private contracts.
use Rattle.std.specs.List.Sorted.{IsSortedByKey}
use Rattle.std.specs.Ordering.{int_cmp, ordering_then}
use Rattle.std.specs.declared.cmp.Ordering.{Ordering}
use Rattle.std.specs.Prelude.{◌≡◌, ℕ, ◌<◌, List, All, Contains, get_or, length}
use Rattle.plane.specs.SweepLine.Heights.{rightwards}
use Rattle.plane.specs.declared.edge.Edge.{Edge}
use Rattle.monotone_chains.specs.Stretches.{IsLong, chord}
use Rattle.monotone_chains.specs.Stretches.Cut.{IsPart, way}
use Rattle.monotone_chains.specs.declared.stretches.parts.Part.{Part}
use Rattle.monotone_chains.specs.declared.stretches.widening.LongStretch.{LongStretch}

abbrev pub edge_cmp : Edge → Edge → Ordering
edge_cmp one other =
    ordering_then (int_cmp one.x0 other.x0) (ordering_then (int_cmp one.y0 other.y0) (ordering_then (int_cmp one.x1 other.x1) (int_cmp one.y1 other.y1)))

-- The stretch along the part at this place.
abbrev pub entry_of : ℕ → Part → LongStretch
entry_of place part = record { chord = rightwards (chord (way part)); place = place }

-- These are the long stretches along the parts before this place.
pub record HasLong (parts : List Part) (upto : ℕ) (table : List LongStretch) : Type 0 where
  pub each : All (λ entry. (k : ℕ) × (k < upto) × ((d : Part) → IsLong (way (get_or parts k d)) × (entry ≡ entry_of k (get_or parts k d)))) table
  pub all : (k : ℕ) (d : Part) → k < upto → IsLong (way (get_or parts k d)) → Contains table (entry_of k (get_or parts k d))

abbrev pub AreInOrder : List LongStretch → Type 0
AreInOrder table = IsSortedByKey (λ (entry : LongStretch). entry.chord) edge_cmp table

-- These are all long stretches in the order of their chords.
pub record IsTable (parts : List Part) (table : List LongStretch) : Type 0 where
  pub each : All IsPart parts
  pub long : HasLong parts (length parts) table
  pub in_order : AreInOrder table
