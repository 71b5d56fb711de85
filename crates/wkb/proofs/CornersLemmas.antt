-- What the corners of shapes rest on.
use Rattle.std.proofs.Common.{◌≡◌, ℕ, suc, ◌+◌, ◌-◌, ◌<◌, List, [], ◌∷◌, ◌++◌, length, get_or, take, drop, refl, sym, subst, ap, ◌∙◌, inl, inr, arith, length-append, add-one, append_assoc, ◌^◌}
use Rattle.std.proofs.Math.Seq.{get_or-append_right, take-suc, take-length, drop-append_seam}
use Rattle.std.proofs.Math.ListN.{get_or-append}
use Rattle.std.proofs.lemmas.Bool.{cases_lt}
use Rattle.std.proofs.lemmas.Grind.{flat_map-append}
use Rattle.std.proofs.lemmas.List.{append-nil}
use Rattle.std.specs.List.{flat_map}
use Rattle.std.specs.Prelude.{min, slice_index}
use Rattle.grid.specs.declared.position.Position.{Position}
use Rattle.grid.specs.Fit.{AreFinite}
use Rattle.grid.specs.Grid.{IsFinitePosition}
use Rattle.wkb.specs.declared.fault.LayoutFault.{LayoutFault}
use Rattle.wkb.specs.declared.fault.LayoutFault.TheVariants.{Refused, Flawed}
use Rattle.wkb.specs.declared.structure.RingAt.{RingAt}
use Rattle.wkb.specs.Corners.{AppendsPositions, IsCornersFault, IsInfiniteFlaw, LaysPositions}
use Rattle.wkb.specs.Reading.{IfFaulty, IfFlawed, fault_among, shape_bytes}

-- All of both lists are finite.
pub AreFinite-append : (xs ys : List Position) → AreFinite xs → AreFinite ys → AreFinite (xs ++ ys)
AreFinite-append xs ys first second k lt =
    let none : Position = record { x = 0; y = 0 } in
    let size : length (xs ++ ys) ≡ length xs + length ys = length-append xs ys in
    elim (cases_lt k (length xs)) [
      | inl under ↦ subst IsFinitePosition (sym (get_or-append xs ys none k under)) (first k under)
      | inr from ↦
          let within : k - length xs < length ys = omega (arith, size, lt, from) in
          subst IsFinitePosition (sym (get_or-append_right xs ys k none from)) (second (k - length xs) within)
    ]

-- The positions of one more ring.
pub one_more : (f : RingAt → List Position) (rings : List RingAt) (i : ℕ) (d : RingAt) (front positions new_positions : List Position) → i < length rings
    → positions ≡ front ++ flat_map f (take i rings) → new_positions ≡ positions ++ f (get_or rings i d) → new_positions ≡ front ++ flat_map f (take (i + 1) rings)
one_more f rings i d front positions new_positions lt so_far more =
    let taken : take (i + 1) rings ≡ take i rings ++ (get_or rings i d ∷ []) = rw add-one (take-suc rings i d lt) in
    let here : flat_map f (take i rings ++ (get_or rings i d ∷ [])) ≡ flat_map f (take i rings) ++ flat_map f (get_or rings i d ∷ []) = flat_map-append f (take i rings) (get_or rings i d ∷ []) in
    let single : flat_map f (get_or rings i d ∷ []) ≡ f (get_or rings i d) = append-nil (f (get_or rings i d)) in
    more ∙ ap (λ (ps : List Position). ps ++ f (get_or rings i d)) so_far ∙ append_assoc front (flat_map f (take i rings)) (f (get_or rings i d))
    ∙ sym (ap (λ (ps : List Position). front ++ ps) (ap (λ (rs : List RingAt). flat_map f rs) taken ∙ here ∙ ap (λ (ps : List Position). flat_map f (take i rings) ++ ps) single))

-- ---- shapes one after the other

pub one_more_shape : (most_nested : ℕ) (bytes offsets : List ℕ) (count shape : ℕ) (positions new_positions last : List Position) → shape < count
    → LaysPositions most_nested (shape_bytes bytes offsets shape) positions new_positions
    → AppendsPositions most_nested bytes offsets (count - (shape + 1)) (shape + 1) new_positions last
    → AppendsPositions most_nested bytes offsets (count - shape) shape positions last
one_more_shape most_nested bytes offsets count shape positions new_positions last lt is rest =
    let k : suc (count - (shape + 1)) ≡ count - shape = omega arith in
    subst (λ (n : ℕ). AppendsPositions most_nested bytes offsets n shape positions last) k (new_positions, is, rest)

pub fault_of_shape : (e : LayoutFault) (most_nested : ℕ) (bytes offsets : List ℕ) (shape start : ℕ) → shape + 1 < length offsets → start ≡ slice_index offsets shape
    → IfFlawed e (λ flaw. IsInfiniteFlaw most_nested (shape_bytes bytes offsets shape) flaw) → IfFaulty (fault_among e shape start) (λ fault. IsCornersFault most_nested bytes offsets fault)
fault_of_shape (Refused r) most_nested bytes offsets shape start lt s h = tt
fault_of_shape (Flawed flaw) most_nested bytes offsets shape start lt s h =
    record { within = lt; is = inr (record { flaw = flaw; is = h; kind = refl; byte = ap (λ (n : ℕ). min (n + flaw.byte) (2 ^ 64 - 1)) s }) }

-- ---- what was put behind positions

pub behind_is : (old more all : List Position) (start : ℕ) → all ≡ old ++ more → start ≡ length old → take (length all - start) (drop start all) ≡ more
behind_is old more all start e s =
    let d : drop start all ≡ more = subst (λ (n : ℕ). drop n all ≡ more) (sym s) (subst (λ (ps : List Position). drop (length old) ps ≡ more) (sym e) (drop-append_seam old more)) in
    let whole : length all ≡ length old + length more = ap (λ (ps : List Position). length ps) e ∙ length-append old more in
    let n : length all - start ≡ length more = omega (arith, whole, s) in
    subst (λ (ps : List Position). take (length all - start) ps ≡ more) (sym d) (subst (λ (k : ℕ). take k more ≡ more) (sym n) (take-length more))
