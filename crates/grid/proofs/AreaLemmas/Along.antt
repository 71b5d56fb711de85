-- Sums along a path whose ends are told by their coordinates.
use Rattle.std.proofs.Common.{◌≡◌, ℕ, ◌+◌, suc, ◌<◌, ◌≤◌, subst, length, drop, get_or, add-one, drop-cons, List, [], ◌∷◌, ◌++◌, refl, sym, ◌∙◌, ap, arith}
use Rattle.std.specs.Prelude.{ℤ, pos, ◌+ℤ◌, ◌-ℤ◌, ◌*ℤ◌}
use Rattle.std.proofs.lemmas.Int.{ints}
use Rattle.std.proofs.lemmas.List.{drop_all}
use Rattle.std.specs.List.{All}
use Rattle.grid.specs.Area.{cross_of, sum_along, twice_area}
use Rattle.grid.specs.Doubles.{in_leasts}
use Rattle.grid.specs.Parts.{leasts_of, cross_of_parts}
use Rattle.grid.specs.declared.direction.PositionParts.{PositionParts}
use Rattle.grid.specs.declared.position.Position.{Position}

-- Where it is from (x, y) through all of the list to (close_x, close_y).
abbrev pub sum_from : ℤ → ℤ → List Position → ℤ → ℤ → ℤ
sum_from x y [] close_x close_y = (x *ℤ close_y) -ℤ (close_x *ℤ y)
sum_from x y (to ∷ rest) close_x close_y =
    ((x *ℤ in_leasts to.y) -ℤ (in_leasts to.x *ℤ y)) +ℤ sum_from (in_leasts to.x) (in_leasts to.y) rest close_x close_y

add-zero_ℤ : (z : ℤ) → z +ℤ pos 0 ≡ z
add-zero_ℤ z = omega (arith, ints)

zero-add_ℤ : (zero z : ℤ) → zero ≡ pos 0 → zero +ℤ z ≡ z
zero-add_ℤ zero z h = omega (arith, ints)

pub sum_along-is : (from : Position) (rest : List Position) (close : Position) → sum_along from (rest ++ (close ∷ [])) ≡ sum_from (in_leasts from.x) (in_leasts from.y) rest (in_leasts close.x) (in_leasts close.y)
sum_along-is from [] close = add-zero_ℤ (cross_of from close)
sum_along-is from (to ∷ rest) close = ap (λ (n : ℤ). cross_of from to +ℤ n) (sum_along-is to rest close)

-- The same at parts.
abbrev pub sum_between : PositionParts → List Position → PositionParts → ℤ
sum_between from rest close = sum_from (leasts_of from.x) (leasts_of from.y) rest (leasts_of close.x) (leasts_of close.y)

sum_from-to : (x y close_x close_y : ℤ) (p : Position) (rest : List Position) (to_x to_y : ℤ) → to_x ≡ in_leasts p.x → to_y ≡ in_leasts p.y → sum_from x y (p ∷ rest) close_x close_y ≡ ((x *ℤ to_y) -ℤ (to_x *ℤ y)) +ℤ sum_from to_x to_y rest close_x close_y
sum_from-to x y close_x close_y p rest to_x to_y h k =
    ap (λ (n : ℤ). ((x *ℤ in_leasts p.y) -ℤ (n *ℤ y)) +ℤ sum_from n (in_leasts p.y) rest close_x close_y) (sym h)
    ∙ ap (λ (n : ℤ). ((x *ℤ n) -ℤ (to_x *ℤ y)) +ℤ sum_from to_x n rest close_x close_y) (sym k)

moved_on : (area left next cross sum rest : ℤ) → area ≡ left +ℤ sum → sum ≡ cross +ℤ rest → next ≡ left +ℤ cross → area ≡ next +ℤ rest
moved_on area left next cross sum rest h k l = omega (arith, ints)

-- An edge further along.
pub sum_between-step : (area left next : ℤ) (from to close : PositionParts) (rest : List Position) (i : ℕ) (d : Position) → i < length rest → leasts_of to.x ≡ in_leasts (get_or rest i d).x → leasts_of to.y ≡ in_leasts (get_or rest i d).y → area ≡ left +ℤ sum_between from (drop i rest) close → next ≡ left +ℤ cross_of_parts from to → area ≡ next +ℤ sum_between to (drop (i + 1) rest) close
sum_between-step area left next from to close rest i d below h k l m =
    let parted : drop i rest ≡ get_or rest i d ∷ drop (i + 1) rest = rw add-one (drop-cons rest i d below) in
    let step : sum_between from (drop i rest) close ≡ cross_of_parts from to +ℤ sum_between to (drop (i + 1) rest) close =
    ap (λ (s : List Position). sum_between from s close) parted
    ∙ sum_from-to (leasts_of from.x) (leasts_of from.y) (leasts_of close.x) (leasts_of close.y) (get_or rest i d) (drop (i + 1) rest) (leasts_of to.x) (leasts_of to.y) h k in
    moved_on area left next (cross_of_parts from to) (sum_between from (drop i rest) close) (sum_between to (drop (i + 1) rest) close) l step m

-- The last edge, which closes the ring.
pub sum_between-end : (area left last : ℤ) (from close : PositionParts) (rest : List Position) (i : ℕ) → length rest ≤ i → area ≡ left +ℤ sum_between from (drop i rest) close → last ≡ left +ℤ cross_of_parts from close → last ≡ area
sum_between-end area left last from close rest i above h k =
    k ∙ sym (h ∙ ap (λ (s : List Position). left +ℤ sum_between from s close) (drop_all i rest above))

-- The ring as its first edge begins.
sum_from-ends : (x y close_x close_y : ℤ) (rest : List Position) (p : Position) → x ≡ in_leasts p.x → y ≡ in_leasts p.y → close_x ≡ x → close_y ≡ y → sum_from x y rest close_x close_y ≡ sum_from (in_leasts p.x) (in_leasts p.y) rest (in_leasts p.x) (in_leasts p.y)
sum_from-ends x y close_x close_y rest p h k l m = cc

pub sum_between-begin : (ring : List Position) (first : Position) (rest : List Position) (start : PositionParts) (left : ℤ) → ring ≡ first ∷ rest → leasts_of start.x ≡ in_leasts first.x → leasts_of start.y ≡ in_leasts first.y → left ≡ pos 0 → twice_area ring ≡ left +ℤ sum_between start rest start
sum_between-begin ring first rest start left e h k l =
    ap twice_area e ∙ sum_along-is first rest first
    ∙ sym (sum_from-ends (leasts_of start.x) (leasts_of start.y) (leasts_of start.x) (leasts_of start.y) rest first h k refl refl)
    ∙ sym (zero-add_ℤ left (sum_between start rest start) l)

-- What holds of all of a list holds of all behind its first.
pub All-behind : (P : Position → Type 0) (ring : List Position) (first : Position) (rest : List Position) → ring ≡ first ∷ rest → All P ring → (i : ℕ) (d : Position) → i < length rest → P (get_or rest i d)
All-behind P ring first rest e all i d below =
    let whole : All P (first ∷ rest) = subst (λ (s : List Position). All P s) e all in
    whole (suc i) d (omega arith)
