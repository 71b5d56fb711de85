-- The rings of a layout lie among the bytes.
use Rattle.std.proofs.Common.{◌≡◌, ℕ, zero, suc, ◌+◌, ◌-◌, ◌*◌, ◌≤◌, Bool, true, false, cond, List, [], ◌∷◌, ◌++◌, length, Result, Ok, Err, refl, subst, arith}
use Rattle.std.specs.Prelude.{nat_lt, nat_eq, OnOk}
use Rattle.std.specs.List.{AllByRecursion}
use Rattle.std.proofs.lemmas.Bool.{ltb-false}
use Rattle.wkb.specs.declared.fault.FaultKind.TheVariants.{Short, Kind, Nested, LeftOver}
use Rattle.wkb.specs.declared.fault.Flaw.{Flaw}
use Rattle.wkb.specs.declared.fault.LayoutFault.{LayoutFault}
use Rattle.wkb.specs.declared.header.Header.{Header}
use Rattle.wkb.specs.declared.structure.RingAt.{RingAt}
use Rattle.wkb.specs.Format.{◌>>=◌, Gives, LiesWithin, behind, flawed, kind_of, stride_of, word, word_at, header_at, ring_at, rings_at, polygon_at, part_at, parts_at, counted_at, areas_at, geometry_at, layout_of}
use Rattle.wkb.proofs.Loops.{ok_is}

bind_ok : {A B : Type 0} (r : Result A Flaw) (f : A → Result B Flaw) (y : B) → (r >>= f) ≡ Ok y → (x : A) × (r ≡ Ok x) × (f x ≡ Ok y)
bind_ok (Ok x) f y e = (x, refl, e)
bind_ok (Err d) f y e = absurd cc

guard_ok : {A : Type 0} (b : Bool) (d : Flaw) (x y : A) → cond b (Err d) (Ok x) ≡ Ok y → (b ≡ false) × (x ≡ y)
guard_ok true d x y e = absurd cc
guard_ok false d x y e = (refl, ok_is x y e)

word_fits : (order : Bool) (bytes : List ℕ) (at n : ℕ) → word_at order bytes at ≡ Ok n → at + 4 ≤ length bytes
unfolding word_at
word_fits order bytes at n e =
    let g = guard_ok (nat_lt (length bytes - at) 4) (record { kind = Short; byte = at }) (word order bytes at) n e in
    omega (arith, ltb-false (length bytes - at) 4 g.0)

wide : (code : ℕ) → 16 ≤ stride_of code
unfolding stride_of
wide code = omega arith

abbrev pub Lies : List ℕ → List RingAt → Type 0
Lies bytes rings = AllByRecursion (λ ring. LiesWithin ring (length bytes)) rings

Lies-append : (bytes : List ℕ) (a b : List RingAt) → Lies bytes a → Lies bytes b → Lies bytes (a ++ b)
Lies-append bytes [] b p q = q
Lies-append bytes (r ∷ a) b p q = (p.0, Lies-append bytes a b p.1 q)

ring_lies : (header : Header) (is_hole : Bool) (bytes : List ℕ) (at : ℕ) (r : RingAt) → ring_at header is_hole bytes at ≡ Ok r → LiesWithin r (length bytes)
unfolding ring_at
ring_lies header is_hole bytes at r e =
    let made : ℕ → RingAt = λ n. record { start = at + 4; count = n; stride = stride_of header.code; is_big_endian = header.is_big_endian; is_hole = is_hole } in
    let a = bind_ok (word_at header.is_big_endian bytes at) (λ n. cond (nat_lt (length bytes - (at + 4)) (n * stride_of header.code)) (flawed Short (at + 4)) (Ok (made n))) r e in
    let n = a.0 in
    let g = guard_ok (nat_lt (length bytes - (at + 4)) (n * stride_of header.code)) (record { kind = Short; byte = at + 4 }) (made n) r a.2 in
    let fits = word_fits header.is_big_endian bytes at n a.1 in
    let room = ltb-false (length bytes - (at + 4)) (n * stride_of header.code) g.0 in
    let whole : at + 4 + n * stride_of header.code ≤ length bytes = omega (arith, fits, room) in
    subst (λ (q : RingAt). LiesWithin q (length bytes)) g.1 (whole, wide header.code)

rings_lie : (header : Header) (is_hole : Bool) (count : ℕ) (bytes : List ℕ) (at : ℕ) (x : List RingAt × ℕ) → rings_at header is_hole count bytes at ≡ Ok x → Lies bytes x.0
unfolding rings_at
rings_lie header is_hole zero bytes at x e = subst (λ (y : List RingAt × ℕ). Lies bytes y.0) (ok_is ([], at) x e) tt
rings_lie header is_hole (suc count) bytes at x e =
    let a = bind_ok (ring_at header is_hole bytes at) (λ r. rings_at header true count bytes (behind r) >>= λ others. Ok (r ∷ others.0, others.1)) x e in
    let b = bind_ok (rings_at header true count bytes (behind a.0)) (λ others. Ok (a.0 ∷ others.0, others.1)) x a.2 in
    subst (λ (y : List RingAt × ℕ). Lies bytes y.0) (ok_is (a.0 ∷ b.0.0, b.0.1) x b.2) (ring_lies header is_hole bytes at a.0 a.1, rings_lie header true count bytes (behind a.0) b.0 b.1)

polygon_lies : (header : Header) (bytes : List ℕ) (x : List RingAt × ℕ) → polygon_at header bytes ≡ Ok x → Lies bytes x.0
unfolding polygon_at
polygon_lies header bytes x e =
    let a = bind_ok (word_at header.is_big_endian bytes header.end) (λ n. rings_at header false n bytes (header.end + 4)) x e in
    rings_lie header false a.0 bytes (header.end + 4) x a.2

chosen : {A : Type 0} (P : Type 0) (b : Bool) (r s : Result A Flaw) (x : A) → cond b r s ≡ Ok x → (r ≡ Ok x → P) → (s ≡ Ok x → P) → P
chosen P true r s x e on_true on_false = on_true e
chosen P false r s x e on_true on_false = on_false e

part_lies : (bytes : List ℕ) (at : ℕ) (x : List RingAt × ℕ) → part_at bytes at ≡ Ok x → Lies bytes x.0
unfolding part_at
part_lies bytes at x e =
    let a = bind_ok (header_at bytes at) (λ header. cond (nat_eq (kind_of header.code) 3) (polygon_at header bytes) (flawed Kind (at + 1))) x e in
    chosen (Lies bytes x.0) (nat_eq (kind_of a.0.code) 3) (polygon_at a.0 bytes) (flawed Kind (at + 1)) x a.2 (polygon_lies a.0 bytes x) (λ never. absurd cc)

parts_lie : (part : ℕ → Result (List RingAt × ℕ) Flaw) (bytes : List ℕ) → ((at : ℕ) (x : List RingAt × ℕ) → part at ≡ Ok x → Lies bytes x.0) → (count at : ℕ) (x : List RingAt × ℕ) → parts_at part count at ≡ Ok x → Lies bytes x.0
unfolding parts_at
parts_lie part bytes each zero at x e = subst (λ (y : List RingAt × ℕ). Lies bytes y.0) (ok_is ([], at) x e) tt
parts_lie part bytes each (suc count) at x e =
    let a = bind_ok (part at) (λ first. parts_at part count first.1 >>= λ others. Ok (first.0 ++ others.0, others.1)) x e in
    let b = bind_ok (parts_at part count a.0.1) (λ others. Ok (a.0.0 ++ others.0, others.1)) x a.2 in
    subst (λ (y : List RingAt × ℕ). Lies bytes y.0) (ok_is (a.0.0 ++ b.0.0, b.0.1) x b.2) (Lies-append bytes a.0.0 b.0.0 (each at a.0 a.1) (parts_lie part bytes each count a.0.1 b.0 b.1))

counted_lie : (part : ℕ → Result (List RingAt × ℕ) Flaw) (header : Header) (bytes : List ℕ) → ((at : ℕ) (x : List RingAt × ℕ) → part at ≡ Ok x → Lies bytes x.0) → (x : List RingAt × ℕ) → counted_at part header bytes ≡ Ok x → Lies bytes x.0
unfolding counted_at
counted_lie part header bytes each x e =
    let a = bind_ok (word_at header.is_big_endian bytes header.end) (λ n. parts_at part n (header.end + 4)) x e in
    parts_lie part bytes each a.0 (header.end + 4) x a.2

areas_lie : (header : Header) (bytes : List ℕ) (x : List RingAt × ℕ) → areas_at header bytes ≡ Ok x → Lies bytes x.0
unfolding areas_at
areas_lie header bytes x e = chosen (Lies bytes x.0) (nat_eq (kind_of header.code) 3) (polygon_at header bytes) (counted_at (part_at bytes) header bytes) x e (polygon_lies header bytes x) (counted_lie (part_at bytes) header bytes (part_lies bytes) x)

geometry_lies : (nested : ℕ) (bytes : List ℕ) (at : ℕ) (x : List RingAt × ℕ) → geometry_at nested bytes at ≡ Ok x → Lies bytes x.0
unfolding geometry_at
geometry_lies zero bytes at x e =
    let a = bind_ok (header_at bytes at) (λ header. cond (nat_eq (kind_of header.code) 7) (flawed Nested at) (areas_at header bytes)) x e in
    chosen (Lies bytes x.0) (nat_eq (kind_of a.0.code) 7) (flawed Nested at) (areas_at a.0 bytes) x a.2 (λ never. absurd cc) (areas_lie a.0 bytes x)
geometry_lies (suc nested) bytes at x e =
    let a = bind_ok (header_at bytes at) (λ header. cond (nat_eq (kind_of header.code) 7) (counted_at (geometry_at nested bytes) header bytes) (areas_at header bytes)) x e in
    chosen (Lies bytes x.0) (nat_eq (kind_of a.0.code) 7) (counted_at (geometry_at nested bytes) a.0 bytes) (areas_at a.0 bytes) x a.2 (counted_lie (geometry_at nested bytes) a.0 bytes (geometry_lies nested bytes) x) (areas_lie a.0 bytes x)

pub layout_lies : (nested : ℕ) (bytes : List ℕ) (rings : List RingAt) → layout_of nested bytes ≡ Ok rings → Lies bytes rings
unfolding layout_of
layout_lies nested bytes rings e =
    let a = bind_ok (geometry_at nested bytes 0) (λ shape. cond (nat_eq shape.1 (length bytes)) (Ok shape.0) (flawed LeftOver shape.1)) rings e in
    chosen (Lies bytes rings) (nat_eq a.0.1 (length bytes)) (Ok a.0.0) (flawed LeftOver a.0.1) rings a.2 (λ is. subst (λ (rs : List RingAt). Lies bytes rs) (ok_is a.0.0 rings is) (geometry_lies nested bytes 0 a.0 a.1)) (λ never. absurd cc)

-- So do the rings that a layout gives.
pub given_lie : {X : Type 0} (r : Result X LayoutFault) (nested : ℕ) (bytes : List ℕ) (rings : List RingAt) → Gives (λ _. rings) r (layout_of nested bytes) → OnOk r (Lies bytes rings)
given_lie (Ok x) nested bytes rings h = layout_lies nested bytes rings h
given_lie (Err e) nested bytes rings h = tt
