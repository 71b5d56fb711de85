-- What the points of a ring rest on.
use Rattle.std.proofs.Common.{◌≡◌, ℕ, ◌+◌, ◌-◌, ◌≤◌, ◌<◌, Bool, true, false, cond, List, [], ◌∷◌, ◌++◌, length, drop, get_or, refl, sym, ap, subst, ◌∙◌, arith, add-one, drop-cons, suc, inr, ◌^◌}
use Rattle.std.specs.Prelude.{min, slice_index}
use Rattle.std.proofs.lemmas.List.FromFn.{length-map-range_with_len}
use Rattle.std.proofs.lemmas.List.{get_or_default}
use Rattle.plane.specs.declared.point.Point.{Point}
use Rattle.grid.specs.declared.units.Grid.{Grid}
use Rattle.wkb.specs.declared.structure.RingAt.{RingAt}
use Rattle.wkb.specs.Coordinates.{position, open_count, is_closed, positions_of}
use Rattle.wkb.specs.declared.fault.LayoutFault.{LayoutFault}
use Rattle.wkb.specs.declared.fault.LayoutFault.TheVariants.{Refused, Flawed}
use Rattle.wkb.specs.Reading.{IsRing, IsRingFlaw, IsRingsFlaw, AppendsRings, IfFlawed, AppendsShape, AppendsShapes, IsShapeFlaw, IfFaulty, IsFaulty, fault_among, shape_bytes}

one_less : (b : Bool) (n : ℕ) → cond b (n - 1) n ≤ n
one_less true n = omega arith
one_less false n = omega arith

-- A ring has at most the positions that its count says.
pub few_positions : (bytes : List ℕ) (ring : RingAt) → length (positions_of bytes ring) ≤ ring.count
unfolding positions_of
few_positions bytes ring = omega (arith, length-map-range_with_len (position bytes ring) 0 (open_count bytes ring), one_less (is_closed bytes ring) ring.count)

-- ---- rings one after the other

abbrev pub no_ring : RingAt
no_ring = record { start = 0; count = 0; stride = 0; is_big_endian = false; is_hole = false }

pub one_more_ring : (grid : Grid) (bytes : List ℕ) (rings : List RingAt) (i : ℕ) (points new_points here last_points : List Point) (ends new_ends last_ends : List ℕ)
    → i < length rings → IsRing grid (get_or rings i no_ring).is_hole (positions_of bytes (get_or rings i no_ring)) here → new_points ≡ points ++ here → new_ends ≡ ends ++ length new_points ∷ []
    → AppendsRings grid bytes (drop (i + 1) rings) new_points last_points new_ends last_ends → AppendsRings grid bytes (drop i rings) points last_points ends last_ends
one_more_ring grid bytes rings i points new_points here last_points ends new_ends last_ends lt is more_points more_ends rest =
    let one = subst (λ (es : List ℕ). AppendsRings grid bytes (drop (i + 1) rings) new_points last_points es last_ends) more_ends rest in
    let two = subst (λ (ps : List Point). AppendsRings grid bytes (drop (i + 1) rings) ps last_points (ends ++ length ps ∷ []) last_ends) more_points one in
    let split : drop i rings ≡ get_or rings i no_ring ∷ drop (i + 1) rings = drop-cons rings i no_ring lt ∙ ap (λ (n : ℕ). get_or rings i no_ring ∷ drop n rings) (sym (add-one i)) in
    subst (λ (rs : List RingAt). AppendsRings grid bytes rs points last_points ends last_ends) (sym split) (here, is, two)

pub flaw_of_rings : (e : LayoutFault) (grid : Grid) (bytes : List ℕ) (rings : List RingAt) (i : ℕ) → i < length rings
    → IfFlawed e (λ flaw. IsRingFlaw grid (get_or rings i no_ring) (positions_of bytes (get_or rings i no_ring)) flaw) → IfFlawed e (λ flaw. IsRingsFlaw grid bytes rings flaw)
flaw_of_rings (Refused r) grid bytes rings i lt h = tt
flaw_of_rings (Flawed flaw) grid bytes rings i lt h = record { place = i; ring = get_or rings i no_ring; below = lt; stands = get_or_default rings i no_ring (get_or rings i no_ring) lt; is = h }

-- ---- shapes one after the other

pub one_more_shape : (grid : Grid) (most_nested : ℕ) (bytes offsets : List ℕ) (count shape : ℕ) (points new_points last_points : List Point) (ends new_ends last_ends shape_ends new_shape_ends last_shape_ends : List ℕ)
    → shape < count → AppendsShape grid most_nested (shape_bytes bytes offsets shape) points new_points ends new_ends → new_shape_ends ≡ shape_ends ++ length new_ends ∷ []
    → AppendsShapes grid most_nested bytes offsets (count - (shape + 1)) (shape + 1) new_points last_points new_ends last_ends new_shape_ends last_shape_ends
    → AppendsShapes grid most_nested bytes offsets (count - shape) shape points last_points ends last_ends shape_ends last_shape_ends
one_more_shape grid most_nested bytes offsets count shape points new_points last_points ends new_ends last_ends shape_ends new_shape_ends last_shape_ends lt is more rest =
    let one = subst (λ (es : List ℕ). AppendsShapes grid most_nested bytes offsets (count - (shape + 1)) (shape + 1) new_points last_points new_ends last_ends es last_shape_ends) more rest in
    let k : suc (count - (shape + 1)) ≡ count - shape = omega arith in
    subst (λ (n : ℕ). AppendsShapes grid most_nested bytes offsets n shape points last_points ends last_ends shape_ends last_shape_ends) k (new_points, new_ends, is, one)

pub fault_of_shape : (e : LayoutFault) (grid : Grid) (most_nested : ℕ) (bytes offsets : List ℕ) (shape start : ℕ) → shape + 1 < length offsets → start ≡ slice_index offsets shape
    → IfFlawed e (λ flaw. IsShapeFlaw grid most_nested (shape_bytes bytes offsets shape) flaw) → IfFaulty (fault_among e shape start) (λ fault. IsFaulty grid most_nested bytes offsets fault)
fault_of_shape (Refused r) grid most_nested bytes offsets shape start lt s h = tt
fault_of_shape (Flawed flaw) grid most_nested bytes offsets shape start lt s h =
    record { within = lt; is = inr (record { flaw = flaw; is = h; kind = refl; byte = ap (λ (n : ℕ). min (n + flaw.byte) (2 ^ 64 - 1)) s }) }
