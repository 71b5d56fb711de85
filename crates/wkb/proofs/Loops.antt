-- Reading rings and parts one after the other, as loops do.
use Rattle.std.proofs.Common.{◌≡◌, ℕ, zero, suc, ◌-◌, ◌+◌, ◌≤◌, ◌<◌, Bool, true, List, [], ◌∷◌, ◌++◌, Result, Ok, Err, refl, sym, ap, ◌∙◌, append_assoc, arith, eq-eqb}
use Rattle.std.specs.Prelude.{nat_lt}
use Rattle.std.proofs.lemmas.List.{append-nil}
use Rattle.wkb.specs.declared.fault.Flaw.{Flaw}
use Rattle.wkb.specs.declared.fault.LayoutFault.{LayoutFault}
use Rattle.wkb.specs.declared.fault.LayoutFault.TheVariants.{Refused, Flawed}
use Rattle.wkb.specs.declared.header.Header.{Header}
use Rattle.wkb.specs.declared.structure.RingAt.{RingAt}
use Rattle.wkb.specs.Format.{◌>>=◌, Fails, behind, flawed, kind_of, word_at, header_at, ring_at, rings_at, parts_at, counted_at, areas_at, geometry_at, with_front}
use Rattle.wkb.specs.declared.fault.FaultKind.TheVariants.{Nested}
use Rattle.std.proofs.lemmas.Bool.{ne_eqb}

regroup : (front more : List RingAt) (read : Result (List RingAt × ℕ) Flaw) → with_front front (read >>= λ x. Ok (more ++ x.0, x.1)) ≡ with_front (front ++ more) read
regroup front more (Ok x) = ap (λ (rings : List RingAt). Ok (rings, x.1)) (sym (append_assoc front more x.0))
regroup front more (Err e) = refl

regroup_ring : (front : List RingAt) (ring : RingAt) (read : Result (List RingAt × ℕ) Flaw) → with_front front (read >>= λ x. Ok (ring ∷ x.0, x.1)) ≡ with_front (front ++ ring ∷ []) read
regroup_ring front ring (Ok x) = ap (λ (rings : List RingAt). Ok (rings, x.1)) (sym (append_assoc front (ring ∷ []) x.0))
regroup_ring front ring (Err e) = refl

abbrev pub done : {A : Type 0} → A → Result A Flaw
done x = Ok x

pub ok_is : {A : Type 0} (x y : A) → done x ≡ done y → x ≡ y
ok_is x y e = cc

-- ---- rings

one_ring : (front : List RingAt) (header : Header) (is_hole : Bool) (left : ℕ) (bytes : List ℕ) (place : ℕ) (ring : RingAt)
    → ring_at header is_hole bytes place ≡ Ok ring → with_front front (rings_at header is_hole (suc left) bytes place) ≡ with_front (front ++ ring ∷ []) (rings_at header true left bytes (behind ring))
unfolding rings_at
one_ring front header is_hole left bytes place ring h = rw h (regroup_ring front ring (rings_at header true left bytes (behind ring)))

pub rings-more : (front : List RingAt) (header : Header) (count i : ℕ) (bytes : List ℕ) (place : ℕ) (ring : RingAt) (total : Result (List RingAt × ℕ) Flaw)
    → i < count → ring_at header (nat_lt 0 i) bytes place ≡ Ok ring → with_front front (rings_at header (nat_lt 0 i) (count - i) bytes place) ≡ total
    → with_front (front ++ ring ∷ []) (rings_at header (nat_lt 0 (i + 1)) (count - (i + 1)) bytes (behind ring)) ≡ total
rings-more front header count i bytes place ring total lt h so_far =
    let k : count - i ≡ suc (count - (i + 1)) = omega arith in
    let later : nat_lt 0 (i + 1) ≡ true = grind arith in
    let one : with_front front (rings_at header (nat_lt 0 i) (count - i) bytes place) ≡ with_front (front ++ ring ∷ []) (rings_at header true (count - (i + 1)) bytes (behind ring)) =
    rw k (one_ring front header (nat_lt 0 i) (count - (i + 1)) bytes place ring h) in
    rw later (sym one ∙ so_far)

no_ring : (front : List RingAt) (header : Header) (is_hole : Bool) (left : ℕ) (bytes : List ℕ) (place : ℕ) (flaw : Flaw)
    → ring_at header is_hole bytes place ≡ Err flaw → with_front front (rings_at header is_hole (suc left) bytes place) ≡ Err flaw
unfolding rings_at
no_ring front header is_hole left bytes place flaw h = rw h refl

pub rings-stop : (e : LayoutFault) (front : List RingAt) (header : Header) (count i : ℕ) (bytes : List ℕ) (place : ℕ) (total : Result (List RingAt × ℕ) Flaw)
    → i < count → Fails e (ring_at header (nat_lt 0 i) bytes place) → with_front front (rings_at header (nat_lt 0 i) (count - i) bytes place) ≡ total → Fails e total
rings-stop (Refused r) front header count i bytes place total lt h so_far = tt
rings-stop (Flawed flaw) front header count i bytes place total lt h so_far =
    let k : count - i ≡ suc (count - (i + 1)) = omega arith in
    let one : with_front front (rings_at header (nat_lt 0 i) (count - i) bytes place) ≡ Err flaw = rw k (no_ring front header (nat_lt 0 i) (count - (i + 1)) bytes place flaw h) in
    sym so_far ∙ one

pub rings-end : (front : List RingAt) (header : Header) (is_hole : Bool) (count i : ℕ) (bytes : List ℕ) (place : ℕ) (total : Result (List RingAt × ℕ) Flaw)
    → count ≤ i → with_front front (rings_at header is_hole (count - i) bytes place) ≡ total → total ≡ Ok (front, place)
unfolding rings_at
rings-end front header is_hole count i bytes place total le so_far =
    let k : count - i ≡ 0 = omega arith in
    let one : with_front front (rings_at header is_hole (count - i) bytes place) ≡ Ok (front, place) = rw k (ap (λ (rings : List RingAt). Ok (rings, place)) (append-nil front)) in
    sym so_far ∙ one

-- ---- parts

abbrev Reader : Type 0
Reader = ℕ → Result (List RingAt × ℕ) Flaw

one_part : (front new : List RingAt) (read : Result (List RingAt × ℕ) Flaw) (rest : Reader) (end : ℕ) → with_front front read ≡ Ok (new, end)
    → with_front front (read >>= λ first. rest first.1 >>= λ others. Ok (first.0 ++ others.0, others.1)) ≡ with_front new (rest end)
one_part front new (Ok x) rest end h =
    regroup front x.0 (rest x.1) ∙ ap (λ (p : List RingAt × ℕ). with_front p.0 (rest p.1)) (ok_is (front ++ x.0, x.1) (new, end) h)
one_part front new (Err e) rest end h = absurd cc

pub parts-more : (part : ℕ → Result (List RingAt × ℕ) Flaw) (front new : List RingAt) (count i place end : ℕ) (total : Result (List RingAt × ℕ) Flaw)
    → i < count → with_front front (part place) ≡ Ok (new, end) → with_front front (parts_at part (count - i) place) ≡ total → with_front new (parts_at part (count - (i + 1)) end) ≡ total
unfolding parts_at
parts-more part front new count i place end total lt h so_far =
    let k : count - i ≡ suc (count - (i + 1)) = omega arith in
    let one : with_front front (parts_at part (count - i) place) ≡ with_front new (parts_at part (count - (i + 1)) end) = rw k (one_part front new (part place) (parts_at part (count - (i + 1))) end h) in
    sym one ∙ so_far

no_part : (front : List RingAt) (read : Result (List RingAt × ℕ) Flaw) (rest : (List RingAt × ℕ) → Result (List RingAt × ℕ) Flaw) (flaw : Flaw) → with_front front read ≡ Err flaw → with_front front (read >>= rest) ≡ Err flaw
no_part front (Ok x) rest flaw h = absurd cc
no_part front (Err e) rest flaw h = h

pub parts-stop : (e : LayoutFault) (part : ℕ → Result (List RingAt × ℕ) Flaw) (front : List RingAt) (count i place : ℕ) (total : Result (List RingAt × ℕ) Flaw)
    → i < count → Fails e (with_front front (part place)) → with_front front (parts_at part (count - i) place) ≡ total → Fails e total
unfolding parts_at
parts-stop (Refused r) part front count i place total lt h so_far = tt
parts-stop (Flawed flaw) part front count i place total lt h so_far =
    let k : count - i ≡ suc (count - (i + 1)) = omega arith in
    let one : with_front front (parts_at part (count - i) place) ≡ Err flaw = rw k (no_part front (part place) _ flaw h) in
    sym so_far ∙ one

pub parts-end : (part : ℕ → Result (List RingAt × ℕ) Flaw) (front : List RingAt) (count i place : ℕ) (total : Result (List RingAt × ℕ) Flaw)
    → count ≤ i → with_front front (parts_at part (count - i) place) ≡ total → total ≡ Ok (front, place)
unfolding parts_at
parts-end part front count i place total le so_far =
    let k : count - i ≡ 0 = omega arith in
    let one : with_front front (parts_at part (count - i) place) ≡ Ok (front, place) = rw k (ap (λ (rings : List RingAt). Ok (rings, place)) (append-nil front)) in
    sym so_far ∙ one

-- ---- geometries

ends_early : (e : LayoutFault) (front : List RingAt) {A : Type 0} (read : Result A Flaw) (rest : A → Result (List RingAt × ℕ) Flaw) → Fails e read → Fails e (with_front front (read >>= rest))
ends_early (Refused r) front read rest h = tt
ends_early (Flawed flaw) front read rest h = rw h refl

pub no_header : (e : LayoutFault) (front : List RingAt) (nested : ℕ) (bytes : List ℕ) (place : ℕ) → Fails e (header_at bytes place) → Fails e (with_front front (geometry_at nested bytes place))
unfolding geometry_at
no_header e front zero bytes place h = ends_early e front (header_at bytes place) _ h
no_header e front (suc nested) bytes place h = ends_early e front (header_at bytes place) _ h

pub areas_here : (nested : ℕ) (bytes : List ℕ) (place : ℕ) (header : Header) → header_at bytes place ≡ Ok header → (kind_of header.code ≡ 7 → ⊥) → geometry_at nested bytes place ≡ areas_at header bytes
unfolding geometry_at
areas_here zero bytes place header h other = let test = ne_eqb (kind_of header.code) 7 other in rw (h, test) refl
areas_here (suc nested) bytes place header h other = let test = ne_eqb (kind_of header.code) 7 other in rw (h, test) refl

pub nested_here : (nested : ℕ) (bytes : List ℕ) (place : ℕ) (header : Header) → header_at bytes place ≡ Ok header → kind_of header.code ≡ 7 → nested ≡ 0 → geometry_at nested bytes place ≡ flawed Nested place
unfolding geometry_at
nested_here zero bytes place header h is none = let test = eq-eqb (kind_of header.code) 7 is in rw (h, test) refl
nested_here (suc nested) bytes place header h is none = absurd (omega arith)

collection_here : (nested : ℕ) (bytes : List ℕ) (place : ℕ) (header : Header) → header_at bytes place ≡ Ok header → kind_of header.code ≡ 7 → (nested ≡ 0 → ⊥) → geometry_at nested bytes place ≡ counted_at (geometry_at (nested - 1) bytes) header bytes
unfolding geometry_at
collection_here zero bytes place header h is some = absurd (some refl)
collection_here (suc nested) bytes place header h is some =
    let test = eq-eqb (kind_of header.code) 7 is in
    let less : suc nested - 1 ≡ nested = omega arith in
    rw (less, h, test) refl

pub no_count : (e : LayoutFault) (front : List RingAt) (nested : ℕ) (bytes : List ℕ) (place : ℕ) (header : Header) → header_at bytes place ≡ Ok header → kind_of header.code ≡ 7 → (nested ≡ 0 → ⊥)
    → Fails e (word_at header.is_big_endian bytes header.end) → Fails e (with_front front (geometry_at nested bytes place))
unfolding counted_at
no_count e front nested bytes place header h is some fails = rw (collection_here nested bytes place header h is some) (ends_early e front (word_at header.is_big_endian bytes header.end) _ fails)

pub parts_here : (nested : ℕ) (bytes : List ℕ) (place : ℕ) (header : Header) (count : ℕ) → header_at bytes place ≡ Ok header → kind_of header.code ≡ 7 → (nested ≡ 0 → ⊥)
    → word_at header.is_big_endian bytes header.end ≡ Ok count → geometry_at nested bytes place ≡ parts_at (geometry_at (nested - 1) bytes) count (header.end + 4)
unfolding counted_at
parts_here nested bytes place header count h is some counted = rw (collection_here nested bytes place header h is some, counted) refl
