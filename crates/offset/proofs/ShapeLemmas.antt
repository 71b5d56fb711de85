-- Items with the ones behind them, round a list: how many there are, and which.
use Rattle.std.proofs.Common.{◌≡◌, ◌<◌, ◌+◌, ◌++◌, ◌∷◌, [], ℕ, zero, suc, ℤ, Bool, true, false, cond, nat_eq, pos, ◌<ℤ◌, ◌-ℤ◌, ◌*ℤ◌, List, length, get_or, map, refl, ap, ap₂, sym, ◌∙◌, arith, length-append, ◌⊎◌, inl, inr, ◌≤◌, subst}
use Rattle.std.specs.List.{All, AllWithin, zip}
use Rattle.std.proofs.lemmas.List.Elements.{All-from_all_within, All-get_or, AllWithin-more, AllWithin-upto}
use Rattle.std.proofs.lemmas.Bool.{cases_eq, eqb-false, eqb-true}
use Rattle.std.proofs.lemmas.List.{get_or-map, get_or_default, length-map}
use Rattle.std.proofs.Math.ListN.{get_or-append}
use Rattle.std.proofs.Math.Seq.{get_or-append_seam}
use Rattle.std.proofs.lemmas.Slice.Zip.{get_or-zip, length-zip}
use Rattle.plane.specs.declared.edge.Edge.{Edge}
use Rattle.plane.specs.declared.point.Point.{Point}
use Rattle.plane.specs.Ends.{edge_between}
use Rattle.plane.specs.Lines.{height_over}
use Rattle.overlay.specs.Areas.{swept}
use Rattle.plane.proofs.MeetLemmas.Identities.{identity, minus, number, times}
use Rattle.offset.specs.Raw.{nowhere}
use Rattle.offset.specs.Shape.{neighbours, next_place, sides}

-- what stands behind in the first list is left out
zip-longer : {X : Type 0} (xs zs ys : List X) → length xs ≡ length ys → zip (xs ++ zs) ys ≡ zip xs ys
zip-longer [] [] [] same = refl
zip-longer [] (z ∷ zs) [] same = refl
zip-longer [] zs (y ∷ ys) same = absurd (omega (arith, same))
zip-longer (x ∷ xs) zs [] same = absurd (omega (arith, same))
zip-longer (x ∷ xs) zs (y ∷ ys) same = ap (λ rest. (x, y) ∷ rest) (zip-longer xs zs ys (omega (arith, same)))

-- A side goes from a corner to the next one.
pub sides-neighbours : (corners : List Point) → sides corners ≡ map (λ two. edge_between two.0 two.1) (neighbours corners)
sides-neighbours [] = refl
sides-neighbours (first ∷ others) =
    ap (λ two. map (λ (two : Point × Point). edge_between two.0 two.1) two) (zip-longer (first ∷ others) (first ∷ []) (others ++ first ∷ []) (let size = length-append others (first ∷ []) in omega (arith, size)))

-- There is one for each item.
pub length-neighbours : {X : Type 0} (xs : List X) → length (neighbours xs) ≡ length xs
length-neighbours [] = refl
length-neighbours (first ∷ others) =
    let size = length-append others (first ∷ []) in
    let sizes = length-zip (first ∷ others) (others ++ first ∷ []) in
    omega (arith, size, sizes)

pub length-sides : (corners : List Point) → length (sides corners) ≡ length corners
length-sides corners = ap (λ (edges : List Edge). length edges) (sides-neighbours corners) ∙ length-map (neighbours corners) (λ two. edge_between two.0 two.1) ∙ length-neighbours corners

-- the item behind
behind : {X : Type 0} (first : X) (others : List X) (index : ℕ) (d e : X) (t : Bool) → nat_eq (index + 1) (length (first ∷ others)) ≡ t → index < length (first ∷ others)
    → get_or (others ++ first ∷ []) index e ≡ get_or (first ∷ others) (cond t 0 (index + 1)) d
behind first others index d e true is inside =
    ap (λ (n : ℕ). get_or (others ++ first ∷ []) n e) (let last : index ≡ length others = omega (arith, eqb-true (index + 1) (length (first ∷ others)) is) in last)
    ∙ get_or-append_seam others first [] e
behind first others index d e false isnt inside =
    let within : index < length others = (let other = eqb-false (index + 1) (length (first ∷ others)) isnt in by (cases_eq index (length others)) other) in
    get_or-append others (first ∷ []) e index within ∙ get_or_default others index e d within
    ∙ ap (λ (n : ℕ). get_or (first ∷ others) n d) (let next : suc index ≡ index + 1 = omega arith in next)
  where
    by : (index ≡ length others) ⊎ (index ≡ length others → ⊥) → (index + 1 ≡ length (first ∷ others) → ⊥) → index < length others
    by (inl same) other = absurd (other (omega (arith, same)))
    by (inr differ) other = omega (arith, differ, inside)

-- At each place stand the item and the one behind it.
pub neighbour-at : {X : Type 0} (xs : List X) (index : ℕ) (d : X) (e : X × X) → index < length xs → get_or (neighbours xs) index e ≡ (get_or xs index d, get_or xs (next_place index (length xs)) d)
neighbour-at [] index d e inside = absurd (omega (arith, inside))
neighbour-at (first ∷ others) index d e inside =
    let size = length-append others (first ∷ []) in
    get_or-zip (first ∷ others) (others ++ first ∷ []) index e inside (omega (arith, size, inside))
    ∙ ap₂ (λ (one other : _). (one, other)) (get_or_default (first ∷ others) index e.0 d inside) (behind first others index d e.1 (nat_eq (index + 1) (length (first ∷ others))) refl inside)

pub side-at : (corners : List Point) (index : ℕ) (d : Point) (e : Edge) → index < length corners
    → get_or (sides corners) index e ≡ edge_between (get_or corners index d) (get_or corners (next_place index (length corners)) d)
side-at corners index d e inside =
    let inside' : index < length (neighbours corners) = (let size = length-neighbours corners in omega (arith, size, inside)) in
    ap (λ (edges : List Edge). get_or edges index e) (sides-neighbours corners)
    ∙ get_or-map (λ two. edge_between two.0 two.1) (neighbours corners) index (d, d) e inside'
    ∙ ap (λ two. edge_between two.0 two.1) (neighbour-at corners index d (d, d) inside)

-- A side and the one behind it stand there together.
pub two-at : (corners : List Point) (index next : ℕ) (side after : Edge) → index < length corners → next ≡ next_place index (length corners) → side ≡ get_or (sides corners) index nowhere → after ≡ get_or (sides corners) next nowhere
    → (side, after) ≡ get_or (neighbours (sides corners)) index (nowhere, nowhere)
two-at corners index next side after inside at is after_is =
    let size = length-sides corners in
    ap₂ (λ (one other : Edge). (one, other)) is
    (after_is ∙ ap (λ (n : ℕ). get_or (sides corners) n nowhere) (at ∙ ap (λ (n : ℕ). next_place index n) (sym size)))
    ∙ sym (neighbour-at (sides corners) index nowhere (nowhere, nowhere) (omega (arith, size, inside)))

-- Before the last place it is the next number.
pub next-inside : (index count : ℕ) → index + 1 < count → next_place index count ≡ index + 1
next-inside index count inside = by (nat_eq (index + 1) count) refl
  where
    by : (t : Bool) → nat_eq (index + 1) count ≡ t → cond t 0 (index + 1) ≡ index + 1
    by true is = absurd (omega (arith, eqb-true (index + 1) count is, inside))
    by false isnt = refl

-- The next place is within, too.
pub next-within : (index count : ℕ) → index < count → next_place index count < count
next-within index count inside = by (nat_eq (index + 1) count) refl
  where
    by : (t : Bool) → nat_eq (index + 1) count ≡ t → cond t 0 (index + 1) < count
    by true is = omega (arith, inside)
    by false isnt = by' (cases_eq (index + 1) count)
      where
        by' : (index + 1 ≡ count) ⊎ (index + 1 ≡ count → ⊥) → index + 1 < count
        by' (inl same) = absurd (eqb-false (index + 1) count isnt same)
        by' (inr differ) = omega (arith, differ, inside)

-- The origin lies as far left of a side as the side sweeps around it.
pub height-origin : (side : Edge) → height_over side (record { x = pos 0; y = pos 0 }) ≡ swept side
height-origin side =
    identity
    (minus (times (minus (number side.x1) (number side.x0)) (minus (number (pos 0)) (number side.y0))) (times (minus (number side.y1) (number side.y0)) (minus (number (pos 0)) (number side.x0))))
    (minus (times (number side.x0) (number side.y1)) (times (number side.y0) (number side.x1)))
    (omega arith)

-- ---- what holds of each item so far

-- one item more
pub more : {X : Type 0} (P : X → Type 0) (xs : List X) (index : ℕ) (e item : X) → index < length xs → item ≡ get_or xs index e → P item → AllWithin P xs 0 index → AllWithin P xs 0 (index + 1)
more P xs index e item inside is holds before = AllWithin-more P xs 0 index before (λ d. subst P (is ∙ get_or_default xs index e d inside) holds)

-- an item of which it doesn't hold
pub not-all : {X : Type 0} (P : X → Type 0) (xs : List X) (index : ℕ) (e item : X) → index < length xs → item ≡ get_or xs index e → (P item → ⊥) → All P xs → ⊥
not-all P xs index e item inside is isnt all = isnt (subst P (sym is) (All-get_or P xs index e inside all))

-- all items
pub all-within : {X : Type 0} (P : X → Type 0) (xs : List X) (index : ℕ) → length xs ≤ index → AllWithin P xs 0 index → All P xs
all-within P xs index past within = All-from_all_within P xs (AllWithin-upto P xs 0 index (length xs) past within)
