-- What is written is read again: each piece of it, at whatever place it stands.
use Rattle.std.proofs.Common.{◌≡◌, ℕ, zero, suc, ◌+◌, ◌-◌, ◌*◌, ◌^◌, ◌<◌, ◌≤◌, Bool, true, false, List, [], ◌∷◌, ◌++◌, length, map, get_or, Result, Ok, refl, sym, ap, subst, ◌∙◌, add_assoc, add-zero, zero-add, arith, length-append, eq-eqb}
use Rattle.std.specs.Prelude.{nat_lt, nat_eq}
use Rattle.std.specs.List.{flat_map, slice_index, range_with_len, AllByRecursion}
use Rattle.std.specs.Int.{w32, w64, from_le_bytes}
use Rattle.std.proofs.Math.ListN.{get_or-append}
use Rattle.std.proofs.Math.Seq.{get_or-append_seam}
use Rattle.std.proofs.lemmas.Bool.{le-ltb, lt-ltb, ne_eqb}
use Rattle.std.proofs.Math.Dec.{eqb-suc-zero}
use Rattle.std.proofs.lemmas.List.{get_or-append-add, map-append}
use Rattle.std.proofs.lemmas.List.Concat.{flat_map-cons}
use Rattle.std.proofs.lemmas.Nat.{from_le_bytes-to_le_bytes_4, from_le_bytes-to_le_bytes_8}
use Rattle.grid.specs.declared.position.Position.{Position}
use Rattle.wkb.specs.declared.fault.Flaw.{Flaw}
use Rattle.wkb.specs.declared.header.Header.{Header}
use Rattle.wkb.specs.declared.structure.RingAt.{RingAt}
use Rattle.wkb.specs.Format.{is_known, has_srid, kind_of, stride_of, word, word_at, order_at, header_at, ring_at, behind, rings_at, polygon_at, part_at, parts_at, counted_at, areas_at, geometry_at, layout_of}
use Rattle.wkb.specs.Coordinates.{double, position, is_same_position, is_closed, positions_of}
use Rattle.wkb.specs.Spelling.{four, eight, place, closed, ring, head, polygon, written}
use Rattle.wkb.specs.declared.writing.Form.TheVariants.{MultiPolygon}
use Rattle.wkb.proofs.Loops.{areas_here}
use Rattle.wkb.specs.Again.{ring_read, IsReadAs, marks, rings_of, IsPosition, IsRing, IsPolygon, ArePolygons}

-- A text stands at a place among the bytes.
pub record Has (bytes : List ℕ) (at : ℕ) (text : List ℕ) : Type 0 where
  pub room : at + length text ≤ length bytes
  pub same : (k : ℕ) → k < length text → slice_index bytes (at + k) ≡ slice_index text k

Has-left : (bytes : List ℕ) (at : ℕ) (a b : List ℕ) → Has bytes at (a ++ b) → Has bytes at a
Has-left bytes at a b h = record {
  room = omega (arith, h.room, length-append a b);
  same = λ k lt. h.same k (omega (arith, length-append a b)) ∙ get_or-append a b 0 k lt;
}

Has-right : (bytes : List ℕ) (at : ℕ) (a b : List ℕ) → Has bytes at (a ++ b) → Has bytes (at + length a) b
Has-right bytes at a b h = record {
  room = omega (arith, h.room, length-append a b);
  same = λ k lt. ap (λ (i : ℕ). slice_index bytes i) (add_assoc at (length a) k) ∙ h.same (length a + k) (omega (arith, length-append a b)) ∙ get_or-append-add a b k 0;
}

-- ---- numbers

pub word-here : (bytes : List ℕ) (at n : ℕ) → Has bytes at (four n) → n < 2 ^ 32 → word_at false bytes at ≡ Ok n
unfolding word_at word
word-here bytes at n h lt =
    let enough : nat_lt (length bytes - at) 4 ≡ false = le-ltb _ _ (omega (arith, h.room)) in
    let e0 = ap (λ (i : ℕ). slice_index bytes i) (sym (add-zero at)) ∙ h.same 0 (omega arith) in
    let e1 = h.same 1 (omega arith) in
    let e2 = h.same 2 (omega arith) in
    let e3 = h.same 3 (omega arith) in
    let bytes-are : (slice_index bytes at ∷ slice_index bytes (at + 1) ∷ slice_index bytes (at + 2) ∷ slice_index bytes (at + 3) ∷ []) ≡ four n = cc (e0, e1, e2, e3) in
    rw enough (ap (λ (bs : List ℕ). Ok (from_le_bytes w32 bs)) bytes-are ∙ ap (λ (m : ℕ). Ok m) (from_le_bytes-to_le_bytes_4 n lt))

double-here : (bytes : List ℕ) (at n : ℕ) → Has bytes at (eight n) → n < 2 ^ 64 → double false bytes at ≡ n
unfolding double
double-here bytes at n h lt =
    let e0 = ap (λ (i : ℕ). slice_index bytes i) (sym (add-zero at)) ∙ h.same 0 (omega arith) in
    let e1 = h.same 1 (omega arith) in
    let e2 = h.same 2 (omega arith) in
    let e3 = h.same 3 (omega arith) in
    let e4 = h.same 4 (omega arith) in
    let e5 = h.same 5 (omega arith) in
    let e6 = h.same 6 (omega arith) in
    let e7 = h.same 7 (omega arith) in
    let bytes-are : (slice_index bytes at ∷ slice_index bytes (at + 1) ∷ slice_index bytes (at + 2) ∷ slice_index bytes (at + 3) ∷ slice_index bytes (at + 4) ∷ slice_index bytes (at + 5) ∷ slice_index bytes (at + 6) ∷ slice_index bytes (at + 7) ∷ []) ≡ eight n = cc (e0, e1, e2, e3, e4, e5, e6, e7) in
    ap (λ (bs : List ℕ). from_le_bytes w64 bs) bytes-are ∙ from_le_bytes-to_le_bytes_8 n lt

-- ---- positions

position-is : (x y : ℕ) (p : Position) → x ≡ p.x → y ≡ p.y → (let q : Position = record { x = x; y = y } in q) ≡ p
position-is x y p ex ey =
    let made : ℕ → ℕ → Position = λ a b. record { x = a; y = b } in
    ap (λ (a : ℕ). made a y) ex ∙ ap (λ (b : ℕ). made p.x b) ey

length-place : (p : Position) → length (place p) ≡ 16
unfolding place
length-place p = refl

length-places : (qs : List Position) → length (flat_map place qs) ≡ length qs * 16
length-places [] = refl
length-places (q ∷ qs) = ap length (flat_map-cons place q qs) ∙ omega (arith, length-append (place q) (flat_map place qs), length-place q, length-places qs)

abbrev origin : Position
origin = record { x = 0; y = 0 }

place-here : (bytes : List ℕ) (at : ℕ) (q : Position) → Has bytes at (place q) → IsPosition q → (double false bytes at ≡ q.x) × (double false bytes (at + 8) ≡ q.y)
unfolding place
place-here bytes at q h fits =
    (double-here bytes at q.x (Has-left bytes at (eight q.x) (eight q.y) h) fits.0, double-here bytes (at + 8) q.y (Has-right bytes at (eight q.x) (eight q.y) h) fits.1)

places-here : (bytes : List ℕ) (at : ℕ) (qs : List Position) (k : ℕ) → Has bytes at (flat_map place qs) → AllByRecursion IsPosition qs → k < length qs
    → (double false bytes (at + k * 16) ≡ (get_or qs k origin).x) × (double false bytes (at + k * 16 + 8) ≡ (get_or qs k origin).y)
places-here bytes at [] k h fits lt = absurd (omega arith)
places-here bytes at (q ∷ qs) zero h fits lt =
    let both = subst (λ (t : List ℕ). Has bytes at t) (flat_map-cons place q qs) h in
    let here : at + 0 * 16 ≡ at = omega arith in
    rw here (place-here bytes at q (Has-left bytes at (place q) (flat_map place qs) both) fits.0)
places-here bytes at (q ∷ qs) (suc k) h fits lt =
    let both = subst (λ (t : List ℕ). Has bytes at t) (flat_map-cons place q qs) h in
    let next : at + length (place q) ≡ at + 16 = ap (λ (n : ℕ). at + n) (length-place q) in
    let rest = subst (λ (p : ℕ). Has bytes p (flat_map place qs)) next (Has-right bytes at (place q) (flat_map place qs) both) in
    let there : at + suc k * 16 ≡ at + 16 + k * 16 = omega arith in
    let below : k < length qs = omega arith in
    rw there (places-here bytes (at + 16) qs k rest fits.1 below)

firsts : {X : Type 0} (f : ℕ → X) (d : X) (xs : List X) (a : ℕ) → ((k : ℕ) → k < length xs → f (a + k) ≡ get_or xs k d) → map f (range_with_len a (length xs)) ≡ xs
firsts f d [] a h = refl
firsts f d (x ∷ xs) a h =
    let here : f a ≡ x = ap f (sym (add-zero a)) ∙ h 0 (omega arith) in
    let others = firsts f d xs (a + 1) (λ k lt. ap f (let e : a + 1 + k ≡ a + suc k = omega arith in e) ∙ h (suc k) (omega arith)) in
    ap (λ (y : _). y ∷ map f (range_with_len (a + 1) (length xs))) here ∙ ap (λ (ys : List _). x ∷ ys) others

-- ---- rings

length-ring : (ps : List Position) → length (ring ps) ≡ 4 + length (closed ps) * 16
unfolding ring
length-ring ps = omega (arith, length-append (four (length (closed ps))) (flat_map place (closed ps)), length-places (closed ps))

-- The ring that stands at a place, as the layout has it.
abbrev ring_here : Header → Bool → ℕ → List Position → RingAt
ring_here header is_hole at ps = record { start = at + 4; count = length (closed ps); stride = stride_of header.code; is_big_endian = header.is_big_endian; is_hole = is_hole }

ring_at-here : (header : Header) (is_hole : Bool) (bytes : List ℕ) (at : ℕ) (ps : List Position) → header.is_big_endian ≡ false → stride_of header.code ≡ 16 → Has bytes at (ring ps) → length (closed ps) < 2 ^ 32
    → ring_at header is_hole bytes at ≡ Ok (ring_here header is_hole at ps)
unfolding ring_at ring
ring_at-here header is_hole bytes at ps little wide h few =
    let front = Has-left bytes at (four (length (closed ps))) (flat_map place (closed ps)) h in
    let counted : word_at header.is_big_endian bytes at ≡ Ok (length (closed ps)) = rw little (word-here bytes at (length (closed ps)) front few) in
    let enough : nat_lt (length bytes - (at + 4)) (length (closed ps) * stride_of header.code) ≡ false =
    rw wide (le-ltb _ _ (omega (arith, h.room, length-append (four (length (closed ps))) (flat_map place (closed ps)), length-places (closed ps)))) in
    rw (counted, enough) refl

closed-count : (first : Position) (others : List Position) → length (closed (first ∷ others)) ≡ length (first ∷ others) + 1
closed-count first others = length-append (first ∷ others) (first ∷ [])

fits-more : (others : List Position) (last : Position) → AllByRecursion IsPosition others → IsPosition last → AllByRecursion IsPosition (others ++ last ∷ [])
fits-more [] last all one = (one, tt)
fits-more (p ∷ others) last all one = (all.0, fits-more others last all.1 one)

closed-fits : (ps : List Position) → IsRing ps → (length (closed ps) < 2 ^ 32) × AllByRecursion IsPosition (closed ps)
closed-fits [] fits = (omega arith, tt)
closed-fits (first ∷ others) fits = (omega (arith, closed-count first others, fits.0), (fits.1.0, fits-more others first fits.1.1 fits.1.0))

behind-here : (header : Header) (is_hole : Bool) (at : ℕ) (ps : List Position) → stride_of header.code ≡ 16 → behind (ring_here header is_hole at ps) ≡ at + length (ring ps)
behind-here header is_hole at ps wide = rw wide (omega (arith, length-ring ps))

same-self : (p : Position) → is_same_position p p ≡ true
same-self p =
    let x : nat_eq p.x p.x ≡ true = eq-eqb p.x p.x refl in
    let y : nat_eq p.y p.y ≡ true = eq-eqb p.y p.y refl in
    rw (x, y) refl

position-here : (header : Header) (is_hole : Bool) (bytes : List ℕ) (at : ℕ) (ps : List Position) (k : ℕ) → header.is_big_endian ≡ false → stride_of header.code ≡ 16
    → Has bytes (at + 4) (flat_map place (closed ps)) → AllByRecursion IsPosition (closed ps) → k < length (closed ps)
    → position bytes (ring_here header is_hole at ps) k ≡ get_or (closed ps) k origin
unfolding position
position-here header is_hole bytes at ps k little wide h fits lt =
    let both = places-here bytes (at + 4) (closed ps) k h fits lt in
    rw (little, wide) (position-is (double false bytes (at + 4 + k * 16)) (double false bytes (at + 4 + k * 16 + 8)) (get_or (closed ps) k origin) both.0 both.1)

positions_of-here : (header : Header) (is_hole : Bool) (bytes : List ℕ) (at : ℕ) (ps : List Position) → header.is_big_endian ≡ false → stride_of header.code ≡ 16
    → Has bytes (at + 4) (flat_map place (closed ps)) → AllByRecursion IsPosition (closed ps)
    → positions_of bytes (ring_here header is_hole at ps) ≡ ps
unfolding positions_of is_closed
positions_of-here header is_hole bytes at [] little wide h fits = refl
positions_of-here header is_hole bytes at (first ∷ others) little wide h fits =
    let ps = first ∷ others in
    let r = ring_here header is_hole at ps in
    let count = closed-count first others in
    let here : (k : ℕ) → k < length (closed ps) → position bytes r k ≡ get_or (closed ps) k origin = λ k lt. position-here header is_hole bytes at ps k little wide h fits lt in
    let many : nat_lt 1 (length (closed ps)) ≡ true = lt-ltb _ _ (omega (arith, count)) in
    let last : length (closed ps) - 1 ≡ length ps = omega (arith, count) in
    let first-is : position bytes r 0 ≡ first = here 0 (omega (arith, count)) in
    let last-is : position bytes r (length ps) ≡ first = here (length ps) (omega (arith, count)) ∙ get_or-append_seam ps first [] origin in
    let same : is_same_position (position bytes r 0) (position bytes r (length (closed ps) - 1)) ≡ true = rw (last, first-is, last-is) (same-self first) in
    let all : map (position bytes r) (range_with_len 0 (length ps)) ≡ ps = firsts (position bytes r) origin ps 0 (λ k lt. ap (position bytes r) (zero-add k) ∙ here k (omega (arith, count)) ∙ get_or-append ps (first ∷ []) origin k lt) in
    rw (many, same, last) all

-- Rings of a list, one after the other from a place on, that are read.
abbrev ReadsRings : Result (List RingAt × ℕ) Flaw → List ℕ → List (Bool × List Position) → ℕ → Type 0
ReadsRings read bytes marked end = (places : List RingAt) × (read ≡ Ok (places, end)) × (map (ring_read bytes) places ≡ marked)

-- The positions of a ring stand behind its count.
ring-positions : (bytes : List ℕ) (at : ℕ) (ps : List Position) → Has bytes at (ring ps) → Has bytes (at + 4) (flat_map place (closed ps))
unfolding ring
ring-positions bytes at ps h = Has-right bytes at (four (length (closed ps))) (flat_map place (closed ps)) h

rings_at-here : (header : Header) (is_hole : Bool) (bytes : List ℕ) (at : ℕ) (rings : List (List Position)) → header.is_big_endian ≡ false → stride_of header.code ≡ 16
    → Has bytes at (flat_map ring rings) → AllByRecursion IsRing rings → ReadsRings (rings_at header is_hole (length rings) bytes at) bytes (marks is_hole rings) (at + length (flat_map ring rings))
unfolding rings_at
rings_at-here header is_hole bytes at [] little wide h fits = ([], ap (λ (e : ℕ). Ok ([], e)) (sym (add-zero at)), refl)
rings_at-here header is_hole bytes at (ps ∷ others) little wide h fits =
    let both = subst (λ (t : List ℕ). Has bytes at t) (flat_map-cons ring ps others) h in
    let here = Has-left bytes at (ring ps) (flat_map ring others) both in
    let there = Has-right bytes at (ring ps) (flat_map ring others) both in
    let small = closed-fits ps fits.0 in
    let r = ring_here header is_hole at ps in
    let first = ring_at-here header is_hole bytes at ps little wide here small.0 in
    let rest = rings_at-here header true bytes (at + length (ring ps)) others little wide there fits.1 in
    let second : rings_at header true (length others) bytes (behind r) ≡ Ok (rest.0, at + length (ring ps) + length (flat_map ring others)) = ap (rings_at header true (length others) bytes) (behind-here header is_hole at ps wide) ∙ rest.1 in
    let end : at + length (ring ps) + length (flat_map ring others) ≡ at + length (flat_map ring (ps ∷ others)) = omega (arith, ap length (flat_map-cons ring ps others), length-append (ring ps) (flat_map ring others)) in
    let stands : positions_of bytes r ≡ ps = positions_of-here header is_hole bytes at ps little wide (ring-positions bytes at ps here) small.1 in
    (r ∷ rest.0, rw (first, second) (ap (λ (e : ℕ). Ok (r ∷ rest.0, e)) end), ap (λ (qs : List Position). (is_hole, qs) ∷ map (ring_read bytes) rest.0) stands ∙ ap (λ (others_read : List (Bool × List Position)). (is_hole, ps) ∷ others_read) rest.2)

-- ---- heads

-- A type of a kind, and whether a reference system follows.
record IsCode (kind code : ℕ) (flag : Bool) : Type 0 where
  known : is_known code ≡ true
  flagged : has_srid code ≡ flag
  is : kind_of code ≡ kind
  wide : stride_of code ≡ 16
  small : code < 2 ^ 32

polygon_plain : IsCode 3 3 false
unfolding stride_of
polygon_plain = record { known = refl; flagged = refl; is = refl; wide = refl; small = omega arith }

polygon_flagged : IsCode 3 (536870912 + 3) true
unfolding stride_of
polygon_flagged = record { known = refl; flagged = refl; is = refl; wide = refl; small = omega arith }

multipolygon_plain : IsCode 6 6 false
unfolding stride_of
multipolygon_plain = record { known = refl; flagged = refl; is = refl; wide = refl; small = omega arith }

multipolygon_flagged : IsCode 6 (536870912 + 6) true
unfolding stride_of
multipolygon_flagged = record { known = refl; flagged = refl; is = refl; wide = refl; small = omega arith }

-- The head that was read.
record IsHead (bytes : List ℕ) (at kind srid : ℕ) (header : Header) : Type 0 where
  found : header_at bytes at ≡ Ok header
  little : header.is_big_endian ≡ false
  is : kind_of header.code ≡ kind
  wide : stride_of header.code ≡ 16
  end : header.end ≡ at + length (head kind srid)

order-here : (bytes : List ℕ) (at : ℕ) (rest : List ℕ) → Has bytes at (1 ∷ rest) → order_at bytes at ≡ Ok false
unfolding order_at
order-here bytes at rest h =
    let enough : nat_lt (length bytes - at) 1 ≡ false = le-ltb _ _ (omega (arith, h.room)) in
    let one : slice_index bytes at ≡ 1 = ap (λ (i : ℕ). slice_index bytes i) (sym (add-zero at)) ∙ h.same 0 (omega arith) in
    rw (enough, one) refl

head-flagged : (kind s : ℕ) → head kind (suc s) ≡ 1 ∷ (four (536870912 + kind) ++ four (suc s))
unfolding head
head-flagged kind s = rw (eqb-suc-zero s) refl

header-here : (kind srid : ℕ) → IsCode kind kind false → IsCode kind (536870912 + kind) true → srid < 2 ^ 32 → (bytes : List ℕ) (at : ℕ) → Has bytes at (head kind srid) → (header : Header) × IsHead bytes at kind srid header
unfolding head header_at
header-here kind zero plain flagged lt bytes at h =
    let code-there = Has-right bytes at (1 ∷ []) (four kind) h in
    let order = order-here bytes at (four kind) h in
    let coded = word-here bytes (at + 1) kind code-there plain.small in
    (record { is_big_endian = false; code = kind; end = at + 5 }, record { found = rw (order, coded, plain.known, plain.flagged) refl; little = refl; is = plain.is; wide = plain.wide; end = refl })
header-here kind (suc s) plain flagged lt bytes at stands =
    let code = 536870912 + kind in
    let h = subst (λ (t : List ℕ). Has bytes at t) (head-flagged kind s) stands in
    let size : at + 9 ≡ at + length (head kind (suc s)) = ap (λ (t : List ℕ). at + length t) (sym (head-flagged kind s)) in
    let after = Has-right bytes at (1 ∷ []) (four code ++ four (suc s)) h in
    let order = order-here bytes at (four code ++ four (suc s)) h in
    let coded = word-here bytes (at + 1) code (Has-left bytes (at + 1) (four code) (four (suc s)) after) flagged.small in
    let place5 : at + 1 + 4 ≡ at + 5 = omega arith in
    let told = word-here bytes (at + 5) (suc s) (subst (λ (p : ℕ). Has bytes p (four (suc s))) place5 (Has-right bytes (at + 1) (four code) (four (suc s)) after)) lt in
    (record { is_big_endian = false; code = code; end = at + 9 }, record { found = rw (order, coded, flagged.known, flagged.flagged, told) refl; little = refl; is = flagged.is; wide = flagged.wide; end = size })

-- ---- geometries

-- A head, a count and pieces behind it.
counted : (bytes : List ℕ) (at kind srid : ℕ) (header : Header) (count : ℕ) (pieces : List ℕ) → IsHead bytes at kind srid header → count < 2 ^ 32 → Has bytes at (head kind srid ++ four count ++ pieces)
    → (word_at header.is_big_endian bytes header.end ≡ Ok count) × Has bytes (header.end + 4) pieces × (header.end + 4 + length pieces ≡ at + length (head kind srid ++ four count ++ pieces))
counted bytes at kind srid header count pieces is few h =
    let front = Has-left bytes at (head kind srid ++ four count) pieces h in
    let number = Has-right bytes at (head kind srid) (four count) front in
    let size : length (head kind srid ++ four count) ≡ length (head kind srid) + 4 = length-append (head kind srid) (four count) in
    let place-is : at + length (head kind srid ++ four count) ≡ header.end + 4 = omega (arith, size, is.end) in
    let behind-it = subst (λ (p : ℕ). Has bytes p pieces) place-is (Has-right bytes at (head kind srid ++ four count) pieces h) in
    (rw (is.little, is.end) (word-here bytes (at + length (head kind srid)) count number few), behind-it, omega (arith, place-is, length-append (head kind srid ++ four count) pieces))

polygon_at-here : (bytes : List ℕ) (at srid : ℕ) (header : Header) (rings : List (List Position)) → IsHead bytes at 3 srid header → IsPolygon rings → Has bytes at (polygon srid rings)
    → ReadsRings (polygon_at header bytes) bytes (rings_of rings) (at + length (polygon srid rings))
unfolding polygon_at polygon
polygon_at-here bytes at srid header rings is fits h =
    let parts = counted bytes at 3 srid header (length rings) (flat_map ring rings) is fits.0 h in
    let found = rings_at-here header false bytes (header.end + 4) rings is.little is.wide parts.1 fits.1 in
    (found.0, rw (parts.0, found.1) (ap (λ (e : ℕ). Ok (found.0, e)) parts.2), found.2)

part_at-here : (bytes : List ℕ) (at srid : ℕ) (rings : List (List Position)) → srid < 2 ^ 32 → IsPolygon rings → Has bytes at (polygon srid rings)
    → ReadsRings (part_at bytes at) bytes (rings_of rings) (at + length (polygon srid rings))
unfolding part_at polygon
part_at-here bytes at srid rings lt fits h =
    let front = Has-left bytes at (head 3 srid) (four (length rings)) (Has-left bytes at (head 3 srid ++ four (length rings)) (flat_map ring rings) h) in
    let header = header-here 3 srid polygon_plain polygon_flagged lt bytes at front in
    let test : nat_eq (kind_of header.0.code) 3 ≡ true = eq-eqb _ _ header.1.is in
    rw (header.1.found, test) (polygon_at-here bytes at srid header.0 rings header.1 fits h)

geometry_at-polygon : (nested : ℕ) (bytes : List ℕ) (at srid : ℕ) (rings : List (List Position)) → srid < 2 ^ 32 → IsPolygon rings → Has bytes at (polygon srid rings)
    → ReadsRings (geometry_at nested bytes at) bytes (rings_of rings) (at + length (polygon srid rings))
unfolding areas_at polygon
geometry_at-polygon nested bytes at srid rings lt fits h =
    let front = Has-left bytes at (head 3 srid) (four (length rings)) (Has-left bytes at (head 3 srid ++ four (length rings)) (flat_map ring rings) h) in
    let header = header-here 3 srid polygon_plain polygon_flagged lt bytes at front in
    let test : nat_eq (kind_of header.0.code) 3 ≡ true = eq-eqb _ _ header.1.is in
    let other : kind_of header.0.code ≡ 7 → ⊥ = λ (e : kind_of header.0.code ≡ 7). absurd (omega (arith, sym header.1.is ∙ e)) in
    rw (areas_here nested bytes at header.0 header.1.found other, test) (polygon_at-here bytes at srid header.0 rings header.1 fits h)

parts_at-here : (bytes : List ℕ) (at : ℕ) (polygons : List (List (List Position))) → AllByRecursion IsPolygon polygons → Has bytes at (flat_map (polygon 0) polygons)
    → ReadsRings (parts_at (part_at bytes) (length polygons) at) bytes (flat_map rings_of polygons) (at + length (flat_map (polygon 0) polygons))
unfolding parts_at
parts_at-here bytes at [] fits h = ([], ap (λ (e : ℕ). Ok ([], e)) (sym (add-zero at)), refl)
parts_at-here bytes at (rings ∷ others) fits h =
    let both = subst (λ (t : List ℕ). Has bytes at t) (flat_map-cons (polygon 0) rings others) h in
    let here = Has-left bytes at (polygon 0 rings) (flat_map (polygon 0) others) both in
    let there = Has-right bytes at (polygon 0 rings) (flat_map (polygon 0) others) both in
    let first = part_at-here bytes at 0 rings (omega arith) fits.0 here in
    let rest = parts_at-here bytes (at + length (polygon 0 rings)) others fits.1 there in
    let end : at + length (polygon 0 rings) + length (flat_map (polygon 0) others) ≡ at + length (flat_map (polygon 0) (rings ∷ others)) = omega (arith, ap length (flat_map-cons (polygon 0) rings others), length-append (polygon 0 rings) (flat_map (polygon 0) others)) in (
      first.0 ++ rest.0,
      rw (first.1, rest.1) (ap (λ (e : ℕ). Ok (first.0 ++ rest.0, e)) end),
      map-append (ring_read bytes) first.0 rest.0 ∙ ap (λ (rs : List (Bool × List Position)). rs ++ map (ring_read bytes) rest.0) first.2 ∙ ap (λ (rs : List (Bool × List Position)). rings_of rings ++ rs) rest.2 ∙ sym (flat_map-cons rings_of rings others),
    )

geometry_at-multipolygon : (nested : ℕ) (bytes : List ℕ) (at srid : ℕ) (polygons : List (List (List Position))) → srid < 2 ^ 32 → ArePolygons polygons → Has bytes at (head 6 srid ++ four (length polygons) ++ flat_map (polygon 0) polygons)
    → ReadsRings (geometry_at nested bytes at) bytes (flat_map rings_of polygons) (at + length (head 6 srid ++ four (length polygons) ++ flat_map (polygon 0) polygons))
unfolding areas_at counted_at
geometry_at-multipolygon nested bytes at srid polygons lt fits h =
    let front = Has-left bytes at (head 6 srid) (four (length polygons)) (Has-left bytes at (head 6 srid ++ four (length polygons)) (flat_map (polygon 0) polygons) h) in
    let header = header-here 6 srid multipolygon_plain multipolygon_flagged lt bytes at front in
    let test : nat_eq (kind_of header.0.code) 3 ≡ false = ne_eqb _ _ (λ (e : kind_of header.0.code ≡ 3). absurd (omega (arith, sym header.1.is ∙ e))) in
    let other : kind_of header.0.code ≡ 7 → ⊥ = λ (e : kind_of header.0.code ≡ 7). absurd (omega (arith, sym header.1.is ∙ e)) in
    let parts = counted bytes at 6 srid header.0 (length polygons) (flat_map (polygon 0) polygons) header.1 fits.0 h in
    let found = parts_at-here bytes (header.0.end + 4) polygons fits.1 parts.1 in
    rw (areas_here nested bytes at header.0 header.1.found other, test) (found.0, rw (parts.0, found.1) (ap (λ (e : ℕ). Ok (found.0, e)) parts.2), found.2)

-- ---- shapes

whole : (text : List ℕ) → Has text 0 text
whole text = record { room = omega (arith, zero-add (length text)); same = λ k lt. ap (λ (i : ℕ). slice_index text i) (zero-add k) }

-- A geometry that ends where the bytes do is a shape.
shape-here : (nested : ℕ) (text : List ℕ) (marked : List (Bool × List Position)) → ReadsRings (geometry_at nested text 0) text marked (0 + length text) → IsReadAs nested text marked
unfolding layout_of
shape-here nested text marked found =
    let all : nat_eq (0 + length text) (length text) ≡ true = eq-eqb _ _ (zero-add (length text)) in
    (found.0, rw (found.1, all) refl, found.2)

pub multipolygon-again : (nested srid : ℕ) (polygons : List (List (List Position))) → srid < 2 ^ 32 → ArePolygons polygons → IsReadAs nested (written MultiPolygon srid polygons) (flat_map rings_of polygons)
unfolding written
multipolygon-again nested srid polygons lt fits =
    let text = head 6 srid ++ four (length polygons) ++ flat_map (polygon 0) polygons in
    shape-here nested text (flat_map rings_of polygons) (geometry_at-multipolygon nested text 0 srid polygons lt fits (whole text))

pub polygon-again : (nested srid : ℕ) (rings : List (List Position)) → srid < 2 ^ 32 → IsPolygon rings → IsReadAs nested (polygon srid rings) (rings_of rings)
polygon-again nested srid rings lt fits =
    shape-here nested (polygon srid rings) (rings_of rings) (geometry_at-polygon nested (polygon srid rings) 0 srid rings lt fits (whole (polygon srid rings)))
