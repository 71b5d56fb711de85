-- Well-known binary: where the rings of a shape lie among its bytes, or what is wrong with these.
use Rattle.std.specs.Prelude.{◌≡◌, ℕ, zero, suc, ◌+◌, ◌*◌, ◌-◌, ◌/◌, ◌%◌, ◌≤◌, Bool, true, false, List, [], ◌∷◌, ◌++◌, length, slice_index, Result, Ok, Err, nat_lt, ◌==◌, ◌&&◌, ◌||◌, if◌then◌else◌}
use Rattle.std.specs.Int.{w32, from_be_bytes, from_le_bytes}
use Rattle.wkb.specs.declared.fault.FaultKind.{FaultKind}
use Rattle.wkb.specs.declared.fault.FaultKind.TheVariants.{Short, ByteOrder, Kind, Nested, LeftOver}
use Rattle.wkb.specs.declared.fault.Flaw.{Flaw}
use Rattle.wkb.specs.declared.fault.LayoutFault.{LayoutFault}
use Rattle.wkb.specs.declared.fault.LayoutFault.TheVariants.{Refused, Flawed}
use Rattle.wkb.specs.declared.header.Header.{Header}
use Rattle.wkb.specs.declared.structure.RingAt.{RingAt}

-- Reading goes on with what was read, or stops at the first flaw.
infixl 10 ◌>>=◌
abbrev pub ◌>>=◌ : {A B : Type 0} → Result A Flaw → (A → Result B Flaw) → Result B Flaw
(Ok x) >>= f = f x
(Err e) >>= f = Err e

abbrev pub flawed : {A : Type 0} → FaultKind → ℕ → Result A Flaw
flawed kind byte = Err (record { kind = kind; byte = byte })

-- What a function returned, seen by view, is what reading gives, unless memory was refused.
abbrev pub Fails : {Y : Type 0} → LayoutFault → Result Y Flaw → Type 0
Fails (Refused refusal) read = Unit {0}
Fails (Flawed flaw) read = read ≡ Err flaw

-- The result is what was read, as seen by the view, or it fails as reading does.
abbrev pub Gives : {X Y : Type 0} → (X → Y) → Result X LayoutFault → Result Y Flaw → Type 0
Gives view (Ok x) read = read ≡ Ok (view x)
Gives view (Err e) read = Fails e read

-- A fault of the bytes, and no refusal of memory.
abbrev pub IsFlaw : LayoutFault → Type 0
IsFlaw (Refused refusal) = ⊥
IsFlaw (Flawed flaw) = Unit {0}

-- Whether fewer bytes stand from a place on.
abbrev pub lacks : List ℕ → ℕ → ℕ → Bool
lacks bytes place size = nat_lt (length bytes - place) size

-- The number that four bytes say.
unfoldable pub word : Bool → List ℕ → ℕ → ℕ
word is_big_endian bytes place =
    let four = slice_index bytes place ∷ slice_index bytes (place + 1) ∷ slice_index bytes (place + 2) ∷ slice_index bytes (place + 3) ∷ [] in
    if is_big_endian then from_be_bytes w32 four else from_le_bytes w32 four

unfoldable pub word_at : Bool → List ℕ → ℕ → Result ℕ Flaw
word_at is_big_endian bytes place = if lacks bytes place 4 then flawed Short place else Ok (word is_big_endian bytes place)

-- ---- the head of a geometry

-- A type is a kind, a thousand for z, two for m and three for both, and PostGIS's flags: 2 ^ 31 for z, 2 ^ 30 for m, and 2 ^ 29 where a
-- reference system follows.
abbrev pub kind_of : ℕ → ℕ
kind_of code = code % 536870912 % 1000

abbrev pub thousands_of : ℕ → ℕ
thousands_of code = code % 536870912 / 1000

abbrev pub has_srid : ℕ → Bool
has_srid code = code / 536870912 % 2 == 1

abbrev pub has_z : ℕ → Bool
has_z code = code / 2147483648 % 2 == 1 || thousands_of code == 1 || thousands_of code == 3

abbrev pub has_m : ℕ → Bool
has_m code = code / 1073741824 % 2 == 1 || thousands_of code == 2 || thousands_of code == 3

-- How many bytes a position takes.
unfoldable pub stride_of : ℕ → ℕ
stride_of code = 16 + (if has_z code then 8 else 0) + (if has_m code then 8 else 0)

-- A polygon, a multipolygon or a collection.
abbrev pub is_known : ℕ → Bool
is_known code = nat_lt (thousands_of code) 4 && (kind_of code == 3 || kind_of code == 6 || kind_of code == 7)

-- The byte order: whether the highest byte of a number is its first.
unfoldable pub order_at : List ℕ → ℕ → Result Bool Flaw
order_at bytes place =
    if lacks bytes place 1 then flawed Short place
    else if slice_index bytes place == 0 then Ok true
    else if slice_index bytes place == 1 then Ok false
    else flawed ByteOrder place

-- The head whose order and type were read, with the reference system where one follows.
abbrev pub header_of : Bool → ℕ → List ℕ → ℕ → Result Header Flaw
header_of order code bytes place =
    if is_known code
    then (if has_srid code
    then (word_at order bytes (place + 5) >>= λ srid. Ok (record { is_big_endian = order; code = code; end = place + 9 }))
    else Ok (record { is_big_endian = order; code = code; end = place + 5 }))
    else flawed Kind (place + 1)

-- The byte order, the type, and the reference system where one follows.
unfoldable pub header_at : List ℕ → ℕ → Result Header Flaw
header_at bytes place = do
  order ← order_at bytes place
  code ← word_at order bytes (place + 1)
  header_of order code bytes place

-- ---- rings

-- A ring is a count, and that many positions.
unfoldable pub ring_at : Header → Bool → List ℕ → ℕ → Result RingAt Flaw
ring_at header is_hole bytes place = do
  count ← word_at header.is_big_endian bytes place
  if lacks bytes (place + 4) (count * stride_of header.code) then flawed Short (place + 4) else Ok (record { start = place + 4; count = count; stride = stride_of header.code; is_big_endian = header.is_big_endian; is_hole = is_hole })

-- The place behind a ring.
abbrev pub behind : RingAt → ℕ
behind ring = ring.start + ring.count * ring.stride

-- All positions of a ring lie among so many bytes.
abbrev pub LiesWithin : RingAt → ℕ → Type 0
LiesWithin ring size = (ring.start + ring.count * ring.stride ≤ size) × (16 ≤ ring.stride)

-- Rings one after the other, all of them holes but for the first, and the place behind them.
unfoldable pub rings_at : Header → Bool → ℕ → List ℕ → ℕ → Result (List RingAt × ℕ) Flaw
rings_at header is_hole zero bytes place = Ok ([], place)
rings_at header is_hole (suc count) bytes place = do
  ring ← ring_at header is_hole bytes place
  others ← rings_at header true count bytes (behind ring)
  Ok (ring ∷ others.0, others.1)

-- What is read stands behind what was.
abbrev pub with_front : List RingAt → Result (List RingAt × ℕ) Flaw → Result (List RingAt × ℕ) Flaw
with_front front read = read >>= λ x. Ok (front ++ x.0, x.1)

-- ---- geometries

-- A polygon behind its head: a count of rings, and these.
unfoldable pub polygon_at : Header → List ℕ → Result (List RingAt × ℕ) Flaw
polygon_at header bytes = do
  count ← word_at header.is_big_endian bytes header.end
  rings_at header false count bytes (header.end + 4)

-- A part of a multipolygon: a geometry that is a polygon.
unfoldable pub part_at : List ℕ → ℕ → Result (List RingAt × ℕ) Flaw
part_at bytes place = do
  header ← header_at bytes place
  if kind_of header.code == 3 then polygon_at header bytes else flawed Kind (place + 1)

-- Parts one after the other.
unfoldable pub parts_at : (ℕ → Result (List RingAt × ℕ) Flaw) → ℕ → ℕ → Result (List RingAt × ℕ) Flaw
parts_at part zero place = Ok ([], place)
parts_at part (suc count) place = do
  first ← part place
  others ← parts_at part count first.1
  Ok (first.0 ++ others.0, others.1)

-- A count, and that many parts.
unfoldable pub counted_at : (ℕ → Result (List RingAt × ℕ) Flaw) → Header → List ℕ → Result (List RingAt × ℕ) Flaw
counted_at part header bytes = do
  count ← word_at header.is_big_endian bytes header.end
  parts_at part count (header.end + 4)

-- A polygon, or a multipolygon: a count of polygons, and these.
unfoldable pub areas_at : Header → List ℕ → Result (List RingAt × ℕ) Flaw
areas_at header bytes = if kind_of header.code == 3 then polygon_at header bytes else counted_at (part_at bytes) header bytes

-- A geometry. It is nested at most so deep: the parts of a collection are one level deeper.
unfoldable pub geometry_at : ℕ → List ℕ → ℕ → Result (List RingAt × ℕ) Flaw
geometry_at zero bytes place = do
  header ← header_at bytes place
  if kind_of header.code == 7 then flawed Nested place else areas_at header bytes
geometry_at (suc nested) bytes place = do
  header ← header_at bytes place
  if kind_of header.code == 7 then counted_at (geometry_at nested bytes) header bytes else areas_at header bytes

-- A shape: a geometry, and nothing behind it.
unfoldable pub layout_of : ℕ → List ℕ → Result (List RingAt) Flaw
layout_of most_nested bytes = do
  shape ← geometry_at most_nested bytes 0
  if shape.1 == length bytes then Ok shape.0 else flawed LeftOver shape.1

-- ---- the reference system

abbrev pub number_or_0 : Result ℕ Flaw → ℕ
number_or_0 (Ok number) = number
number_or_0 (Err flaw) = 0

-- The number behind the type, where the type has the flag for it.
unfoldable pub srid_behind : List ℕ → Header → ℕ
srid_behind bytes header = if has_srid header.code then number_or_0 (word_at header.is_big_endian bytes 5) else 0

abbrev pub srid_in : List ℕ → Result Header Flaw → ℕ
srid_in bytes (Ok header) = srid_behind bytes header
srid_in bytes (Err flaw) = 0

-- The reference system that a shape tells, or 0.
abbrev pub srid_of : List ℕ → ℕ
srid_of bytes = srid_in bytes (header_at bytes 0)
