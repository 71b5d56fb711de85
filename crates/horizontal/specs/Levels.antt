-- Segments as levels in the store of a sweep. For the private contracts of `below`.
use Rattle.std.specs.Prelude.{ℤ, List, Option, Some}
use Rattle.std.specs.Ordering.{int_cmp}
use Rattle.std.specs.declared.cmp.Ordering.{Ordering}
use Rattle.i_tree.specs.Expiring.Live.{live_pairs, IsExpired}
use Rattle.horizontal.specs.declared.Level.{Level}
use Rattle.horizontal.specs.declared.Segment.{Segment}

-- a level and the height that is its value
abbrev pub Entry : Type 0
Entry = Level × Option ℤ

abbrev pub level_of : Segment → Level
level_of segment = record { y = segment.y; last = segment.x1 }

abbrev pub entry_of : Segment → Entry
entry_of segment = (level_of segment, Some segment.y)

-- levels are compared by their heights alone
abbrev pub cmp_levels : Level → Level → Ordering
cmp_levels first second = int_cmp first.y second.y

-- the entries that are live at an x, and whether one has expired there
abbrev pub live_entries : ℤ → List Entry → List Entry
live_entries x entries = live_pairs (λ level. level.last) int_cmp x entries

abbrev pub HasEnded : ℤ → Entry → Type 0
HasEnded x entry = IsExpired (λ (level : Level). level.last) int_cmp x entry
