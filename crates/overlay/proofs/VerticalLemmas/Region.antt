-- What ends upto a height of a column, less what starts, where edges bound a region: 1, 0 or -1.
use Rattle.std.proofs.Common.{Bool, List, [], ◌∷◌, true, false, inl, inr, ℕ, ℤ, pos, suc, zero, ◌+◌, ◌*◌, ◌<◌, ◌≤◌, ◌-ℤ◌, ◌*ℤ◌, ◌≤ℤ◌, ◌≡◌, ◌≢◌, ◌⊎◌, refl, sym, ap, ◌∙◌, arith}
use Rattle.std.proofs.lemmas.Int.{by_lt_z, ints}
use Rattle.std.proofs.lemmas.List.Elements.{All-head, All-tail}
use Rattle.std.specs.List.{All, Contains}
use Rattle.std.specs.Prelude.{int_le}
use Rattle.plane.specs.declared.edge.Edge.{Edge}
use Rattle.plane.specs.declared.point.Point.{Point}
use Rattle.plane.specs.Meet.Edges.{RationalPoint}
use Rattle.plane.proofs.MeetLemmas.Identities.{identity, number, scaled, times}
use Rattle.overlay.specs.Fill.Verticals.{BoundRegion}
use Rattle.plane.specs.Ends.{end_of, start_of}
use Rattle.noding.specs.Windings.{winding}
use Rattle.noding.proofs.SnapLemmas.Numbers.{n_of}
use Rattle.overlay.proofs.VerticalLemmas.Columns.{flow-windings, left_of, one_some, parts, right_of, size, size_of, sizes, upto_size}
use Rattle.overlay.proofs.VerticalLemmas.Flows.{Every, flow, flow-agree, is_upto, upto-at, upto-before, upto-behind}

-- what holds of each edge that is of the list
pub Every-from : (P : Edge → Type 0) (edges : List Edge) → ((edge : Edge) → Contains edges edge → P edge) → Every P edges
Every-from P [] each = tt
Every-from P (edge ∷ edges) each = (each edge (0, omega arith, refl), Every-from P edges (λ other (i, within, is). each other (suc i, omega (arith, within), is)))

pub Every-all : (P : Edge → Type 0) (edges : List Edge) → All P edges → Every P edges
Every-all P [] all = tt
Every-all P (edge ∷ edges) all = (All-head P edge edges all, Every-all P edges (All-tail P edge edges all))

-- each edge of the list is at most as large as all
pub size-among : (edges : List Edge) (edge : Edge) → Contains edges edge → size edge ≤ sizes edges
size-among [] edge (i, within, is) = absurd (omega (arith, within))
size-among (other ∷ edges) edge (zero, within, is) = let same = ap size is in omega (arith, same)
size-among (other ∷ edges) edge (suc i, within, is) = let rest = size-among edges edge (i, omega (arith, within), is) in omega (arith, rest)

-- between 0 and 1
pub bits : (z : ℤ) → (z ≡ pos 0) ⊎ (z ≡ pos 1) → (pos 0 ≤ℤ z) × (z ≤ℤ pos 1)
bits z (inl is) = (omega (arith, ints, is), omega (arith, ints, is))
bits z (inr is) = (omega (arith, ints, is), omega (arith, ints, is))

-- From some height on the edges wind around nothing: far up on the left, and so what ends upto a height, less what starts, is the
-- winding number left of it less that right of it.
module _ (k : ℕ) (edges : List Edge) (bound : ℤ) (low : bound ≤ℤ pos k) (outside : (point : RationalPoint) → (pos point.n *ℤ bound) ≤ℤ point.y → winding edges point ≡ pos 0) where
  pub left-high-none : (x : ℤ) → winding edges (left_of k x 1 (pos k) one_some) ≡ pos 0
  left-high-none x =
      let more = scaled (1 * parts k) bound (pos k) low in
      let same : (pos (1 * parts k) *ℤ pos k) ≡ (pos (parts k) *ℤ pos k) = identity (times (n_of (1 * parts k)) (n_of k)) (times (n_of (parts k)) (n_of k)) (omega arith) in
      outside (left_of k x 1 (pos k) one_some) (omega (arith, ints, more, same))

  pub flow-differs : sizes edges ≤ k → All (λ edge. edge.x1 ≢ edge.x0) edges → (x : ℤ) (n : ℕ) (y : ℤ) (some : 0 < n)
      → flow (is_upto x n y) edges ≡ (winding edges (left_of k x n y some) -ℤ winding edges (right_of x n y some))
  flow-differs small slanted x n y some =
      let sum = flow-windings k edges x n y some small (Every-all (λ edge. edge.x1 ≢ edge.x0) edges slanted) in
      let none = left-high-none x in
      omega (arith, ints, sum, none)

module _ (sloped : List Edge) (region : BoundRegion sloped) where
  -- at least the size of each edge, and the height from which on nothing is of the region
  abbrev pub extent : ℕ
  extent = sizes sloped + size_of region.bound

  bound_upto : region.bound ≤ℤ pos extent
  bound_upto = let low = upto_size region.bound in omega (arith, ints, low)

  -- far up on the left nothing is of the region
  high-none : (x : ℤ) → winding sloped (left_of extent x 1 (pos extent) one_some) ≡ pos 0
  high-none x = left-high-none extent sloped region.bound bound_upto region.outside x

  right-high-none : (x : ℤ) → winding sloped (right_of x 1 (pos extent) one_some) ≡ pos 0
  right-high-none x =
      let low = upto_size region.bound in
      region.outside (right_of x 1 (pos extent) one_some) (omega (arith, ints, low))

  -- what ends upto a height, less what starts, is the winding number left of it less that right of it
  pub flow-is : (x : ℤ) (n : ℕ) (y : ℤ) (some : 0 < n) → flow (is_upto x n y) sloped ≡ (winding sloped (left_of extent x n y some) -ℤ winding sloped (right_of x n y some))
  flow-is x n y some = flow-differs extent sloped region.bound bound_upto region.outside (omega arith) region.slanted x n y some

  pub flow-upto : (x : ℤ) (n : ℕ) (y : ℤ) → 0 < n → flow (is_upto x n y) sloped ≤ℤ pos 1
  flow-upto x n y some =
      let is = flow-is x n y some in
      let left = bits (winding sloped (left_of extent x n y some)) (region.winds (left_of extent x n y some)) in
      let right = bits (winding sloped (right_of x n y some)) (region.winds (right_of x n y some)) in
      let l = left.1 in
      let r = right.0 in
      omega (arith, ints, is, l, r)

  pub flow-from : (x : ℤ) (n : ℕ) (y : ℤ) → 0 < n → (pos 0 -ℤ pos 1) ≤ℤ flow (is_upto x n y) sloped
  flow-from x n y some =
      let is = flow-is x n y some in
      let left = bits (winding sloped (left_of extent x n y some)) (region.winds (left_of extent x n y some)) in
      let right = bits (winding sloped (right_of x n y some)) (region.winds (right_of x n y some)) in
      let l = left.0 in
      let r = right.1 in
      omega (arith, ints, is, l, r)

  -- an end of the edges
  abbrev pub IsEndAt : Point → Type 0
  IsEndAt point = (edge : Edge) × Contains sloped edge × ((point ≡ start_of edge) ⊎ (point ≡ end_of edge))

  -- tests of heights that agree at the column's ends
  pub column-agree : (x : ℤ) (n m : ℕ) (y z : ℤ) → ((point : Point) → IsEndAt point → point.x ≡ x → int_le (pos n *ℤ point.y) y ≡ int_le (pos m *ℤ point.y) z) → flow (is_upto x n y) sloped ≡ flow (is_upto x m z) sloped
  column-agree x n m y z agree =
      flow-agree (is_upto x n y) (is_upto x m z) sloped
      (Every-from (λ edge. (is_upto x n y (start_of edge) ≡ is_upto x m z (start_of edge)) × (is_upto x n y (end_of edge) ≡ is_upto x m z (end_of edge))) sloped
      (λ edge among. (point_agree (start_of edge) (edge, among, inl refl), point_agree (end_of edge) (edge, among, inr refl))))
    where
      point_agree : (point : Point) → IsEndAt point → is_upto x n y point ≡ is_upto x m z point
      point_agree point end =
          by_lt_z point.x x
          (λ less. upto-before x n y point less ∙ sym (upto-before x m z point less))
          (λ from. by_lt_z x point.x
          (λ more. upto-behind x n y point more ∙ sym (upto-behind x m z point more))
          (λ upto.
          let at : point.x ≡ x = omega (arith, ints, from, upto) in
          upto-at x n y point at ∙ agree point end at ∙ sym (upto-at x m z point at)))

  end_low : (point : Point) → IsEndAt point → point.y ≤ℤ pos extent
  end_low point (edge, among, inl is) =
      let small = size-among sloped edge among in
      let low = upto_size edge.y0 in
      let same = ap (λ (p : Point). p.y) is in
      omega (arith, ints, small, low, same)
  end_low point (edge, among, inr is) =
      let small = size-among sloped edge among in
      let low = upto_size edge.y1 in
      let same = ap (λ (p : Point). p.y) is in
      omega (arith, ints, small, low, same)

  yes : (a b : ℤ) → a ≤ℤ b → int_le a b ≡ true
  yes a b upto = go (int_le a b) refl
    where
      go : (t : Bool) → int_le a b ≡ t → int_le a b ≡ true
      go true e = e
      go false e = absurd (omega (arith, ints, e, upto))

  -- above the last end of a column it is 0
  pub flow-top : (x y : ℤ) → ((point : Point) → IsEndAt point → point.x ≡ x → point.y ≤ℤ y) → flow (is_upto x 1 y) sloped ≡ pos 0
  flow-top x y low =
      let high = flow-is x 1 (pos extent) one_some in
      let left = high-none x in
      let right = right-high-none x in
      column-agree x 1 1 y (pos extent)
      (λ point end at.
      let here = low point end at in
      let there = end_low point end in
      let once : (pos 1 *ℤ point.y) ≡ point.y = identity (times (n_of 1) (number point.y)) (number point.y) (omega arith) in
      yes (pos 1 *ℤ point.y) y (omega (arith, ints, here, once)) ∙ sym (yes (pos 1 *ℤ point.y) (pos extent) (omega (arith, ints, there, once))))
      ∙ omega (arith, ints, high, left, right)
