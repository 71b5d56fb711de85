-- The positions of a ring, by the bytes among which it lies.
use Rattle.std.specs.Prelude.{ℕ, ◌+◌, ◌*◌, ◌-◌, ◌%◌, ◌^◌, Bool, List, [], ◌∷◌, map, slice_index, nat_lt, ◌==◌, ◌&&◌, ◌||◌, if◌then◌else◌}
use Rattle.std.specs.List.{range_with_len}
use Rattle.std.specs.Int.{w64, from_be_bytes, from_le_bytes}
use Rattle.grid.specs.declared.position.Position.{Position}
use Rattle.wkb.specs.declared.structure.RingAt.{RingAt}

-- The double that eight bytes say.
unfoldable pub double : Bool → List ℕ → ℕ → ℕ
double is_big_endian bytes place =
    let eight = slice_index bytes place ∷ slice_index bytes (place + 1) ∷ slice_index bytes (place + 2) ∷ slice_index bytes (place + 3)
    ∷ slice_index bytes (place + 4) ∷ slice_index bytes (place + 5) ∷ slice_index bytes (place + 6) ∷ slice_index bytes (place + 7) ∷ [] in
    if is_big_endian then from_be_bytes w64 eight else from_le_bytes w64 eight

-- x and y stand first in a position.
unfoldable pub position : List ℕ → RingAt → ℕ → Position
position bytes ring index =
    let place = ring.start + index * ring.stride in
    record { x = double ring.is_big_endian bytes place; y = double ring.is_big_endian bytes (place + 8) }

-- The same number: 0 and -0 are, and they alone differ by their bits.
abbrev pub is_same_number : ℕ → ℕ → Bool
is_same_number a b = a == b || (a % 2 ^ 63 == 0 && b % 2 ^ 63 == 0)

abbrev pub is_same_position : Position → Position → Bool
is_same_position p q = is_same_number p.x q.x && is_same_number p.y q.y

-- A ring of more than one position may end with its first one again.
unfoldable pub is_closed : List ℕ → RingAt → Bool
is_closed bytes ring = nat_lt 1 ring.count && is_same_position (position bytes ring 0) (position bytes ring (ring.count - 1))

abbrev pub open_count : List ℕ → RingAt → ℕ
open_count bytes ring = if is_closed bytes ring then ring.count - 1 else ring.count

-- The positions of a ring, each once.
unfoldable pub positions_of : List ℕ → RingAt → List Position
positions_of bytes ring = map (position bytes ring) (range_with_len 0 (open_count bytes ring))
