-- A ring that lies beyond one side of a widened window is nothing to the window.
use Rattle.std.proofs.Common.{◌≡◌, inl, inr, ℕ, ◌+◌, ◌<◌, ℤ, pos, ◌-ℤ◌, ◌≤ℤ◌, List, [], ◌∷◌, ◌++◌, get_or, length, take, refl, sym, subst, arith}
use Rattle.std.specs.Int.{int_max, int_min}
use Rattle.std.specs.List.{All}
use Rattle.std.specs.Bool.{MatchBool}
use Rattle.std.specs.Prelude.{◌↔◌, Bool, true, false}
use Rattle.std.proofs.lemmas.Int.{clamps, ints}
use Rattle.std.proofs.lemmas.List.{take_more}
use Rattle.std.proofs.lemmas.List.Elements.{All-cons, All-head, All-nil, All-push, All-tail}
use Rattle.i_tree.proofs.RootLemmas.Joined.{All-behind, All-front}
use Rattle.plane.specs.declared.point.Point.{Point}
use Rattle.plane.specs.Ends.{edge_between}
use Rattle.plane.specs.Meet.Edges.{RationalPoint}
use Rattle.noding.specs.Windings.{pieces, winding}
use Rattle.noding.proofs.SnapLemmas.Counted.{under}
use Rattle.noding.proofs.SnapLemmas.Windings.{winding-append}
use Rattle.overlay.specs.Contours.Rings.{ring_edges}
use Rattle.tiles.specs.Crop.{IsCropped}
use Rattle.tiles.specs.Join.{AreBeside, around_both}
use Rattle.tiles.specs.Pushing.{IsExtent}
use Rattle.tiles.specs.Window.{LiesBeyond, widened}
use Rattle.tiles.specs.declared.window.Window.{Window}
use Rattle.tiles.proofs.Beside.{IsInside, high-nothing, inside-widened, left-nothing, low-steps, right-nothing}
use Rattle.tiles.proofs.Chains.{winding-one}
use Rattle.tiles.proofs.Sides.{step}

-- ---- rings whose edges count a difference of what their ends do

module _ (point : RationalPoint) (f : Point → ℤ) (P : Point → Type 0) (differs : (one other : Point) → P one → P other → under (edge_between one other) point ≡ (f one -ℤ f other)) where
  chain-differs : (first last : Point) (others : List Point) → P first → All P (others ++ last ∷ []) → winding (pieces (first ∷ (others ++ last ∷ []))) point ≡ (f first -ℤ f last)
  chain-differs first last [] at all =
      let one = winding-one (edge_between first last) point in
      let is = differs first last at (All-head P last [] all) in
      omega (arith, ints, one, is)
  chain-differs first last (next ∷ others) at all =
      let there = All-head P next (others ++ last ∷ []) all in
      let sum = winding-append (edge_between first next ∷ []) (pieces (next ∷ (others ++ last ∷ []))) point in
      let one = winding-one (edge_between first next) point in
      let is = differs first next at there in
      let rest = chain-differs next last others there (All-tail P next (others ++ last ∷ []) all) in
      omega (arith, ints, sum, one, is, rest)

  ring-nothing : (ring : List Point) → All P ring → winding (ring_edges ring) point ≡ pos 0
  ring-nothing [] all = refl
  ring-nothing (first ∷ others) all =
      let at = All-head P first others all in
      let same = chain-differs first first others at (All-push P others first (All-tail P first others all) at) in
      omega (arith, ints, same)

module _ (window : Window) (ring : List Point) where
  -- all points beyond one side, or on it: nothing winds around a point inside
  beyond-nothing : LiesBeyond window ring → (point : RationalPoint) → IsInside window point → winding (ring_edges ring) point ≡ pos 0
  beyond-nothing (inl left) point inside =
      ring-nothing point (λ p. pos 0) (λ p. p.x ≤ℤ window.left)
      (λ one other first second. left-nothing window point inside one other first second)
      ring left
  beyond-nothing (inr (inl right)) point inside =
      ring-nothing point (λ p. pos 0) (λ p. window.right ≤ℤ p.x)
      (λ one other first second. right-nothing window point inside one other first second)
      ring right
  beyond-nothing (inr (inr (inl low))) point inside =
      ring-nothing point (λ p. step p.x point) (λ p. p.y ≤ℤ window.low)
      (λ one other first second. low-steps window point inside one other first second)
      ring low
  beyond-nothing (inr (inr (inr high))) point inside =
      ring-nothing point (λ p. pos 0) (λ p. window.high ≤ℤ p.y)
      (λ one other first second. high-nothing window point inside one other first second)
      ring high

pub beyond-cropped : (window : Window) (ring : List Point) → LiesBeyond (widened window) ring → IsCropped window ring []
beyond-cropped window ring is = record {
  winds = λ point within. sym (beyond-nothing (widened window) ring is point (inside-widened window point within));
  near = λ edge point (k, within, _). absurd (omega (arith, within));
  two_ends = λ edge (k, within, _). absurd (omega (arith, within));
  kept = λ edge (k, within, _). absurd (omega (arith, within));
  points = λ point (k, within, _). absurd (omega (arith, within));
  size = omega arith;
}

-- ---- how far points reach

abbrev pub at_point : Point → Window
at_point point = record { left = point.x; low = point.y; right = point.x; high = point.y }

pub extent-one : (point : Point) → IsExtent (at_point point) (point ∷ [])
extent-one point = record {
  left = λ z. one (λ p. z ≤ℤ p.x);
  low = λ z. one (λ p. z ≤ℤ p.y);
  right = λ z. one (λ p. p.x ≤ℤ z);
  high = λ z. one (λ p. p.y ≤ℤ z);
}
  where
    one : (P : Point → Type 0) → All P (point ∷ []) ↔ P point
    one P = (λ all. All-head P point [] all, λ is. All-cons P point [] is (All-nil P))

module _ (points : List Point) (next : Point) where
  upto-more : (f : Point → ℤ) (m z : ℤ) → All (λ p. f p ≤ℤ z) points ↔ (m ≤ℤ z) → All (λ p. f p ≤ℤ z) (points ++ next ∷ []) ↔ (int_max m (f next) ≤ℤ z)
  upto-more f m z told = (
    λ all.
        let first = told.0 (All-front (λ p. f p ≤ℤ z) points (next ∷ []) all) in
        let last = All-head (λ p. f p ≤ℤ z) next [] (All-behind (λ p. f p ≤ℤ z) points (next ∷ []) all) in
        omega (arith, ints, clamps, first, last),
    λ upto. All-push (λ p. f p ≤ℤ z) points next (told.1 (omega (arith, ints, clamps, upto))) (omega (arith, ints, clamps, upto)),
  )

  from-more : (f : Point → ℤ) (m z : ℤ) → All (λ p. z ≤ℤ f p) points ↔ (z ≤ℤ m) → All (λ p. z ≤ℤ f p) (points ++ next ∷ []) ↔ (z ≤ℤ int_min m (f next))
  from-more f m z told = (
    λ all.
        let first = told.0 (All-front (λ p. z ≤ℤ f p) points (next ∷ []) all) in
        let last = All-head (λ p. z ≤ℤ f p) next [] (All-behind (λ p. z ≤ℤ f p) points (next ∷ []) all) in
        omega (arith, ints, clamps, first, last),
    λ from. All-push (λ p. z ≤ℤ f p) points next (told.1 (omega (arith, ints, clamps, from))) (omega (arith, ints, clamps, from)),
  )

  extent-push : (extent : Window) → IsExtent extent points → IsExtent (around_both extent (at_point next)) (points ++ next ∷ [])
  extent-push extent is = record {
    left = λ z. from-more (λ p. p.x) extent.left z (is.left z);
    low = λ z. from-more (λ p. p.y) extent.low z (is.low z);
    right = λ z. upto-more (λ p. p.x) extent.right z (is.right z);
    high = λ z. upto-more (λ p. p.y) extent.high z (is.high z);
  }

-- one point more
pub extent-more : (extent : Window) (first : Point) (points : List Point) (i : ℕ) (d : Point) → i < length points → IsExtent extent (first ∷ take i points)
    → IsExtent (around_both extent (at_point (get_or points i d))) (first ∷ take (i + 1) points)
extent-more extent first points i d inside is =
    subst (λ (list : List Point). IsExtent (around_both extent (at_point (get_or points i d))) (first ∷ list)) (sym (take_more points i d inside))
    (extent-push (first ∷ take i points) (get_or points i d) extent is)

-- where the extent of a ring's points lies beyond a side they all do
module _ (window extent : Window) (first : Point) (ring : List Point) (is : IsExtent extent (first ∷ ring)) where
  beside-beyond : AreBeside extent window → LiesBeyond window ring
  beside-beyond (inl left) = inl (All-tail (λ p. p.x ≤ℤ window.left) first ring ((is.right window.left).1 left))
  beside-beyond (inr (inl right)) = inr (inl (All-tail (λ p. window.right ≤ℤ p.x) first ring ((is.left window.right).1 right)))
  beside-beyond (inr (inr (inl low))) = inr (inr (inl (All-tail (λ p. p.y ≤ℤ window.low) first ring ((is.high window.low).1 low))))
  beside-beyond (inr (inr (inr high))) = inr (inr (inr (All-tail (λ p. window.high ≤ℤ p.y) first ring ((is.low window.high).1 high))))

  module _ (some : 0 < length ring) (at : (d : Point) → first ≡ get_or ring 0 d) where
    whole : (P : Point → Type 0) → All P ring → All P (first ∷ ring)
    whole P all = All-cons P first ring (subst P (sym (at first)) (all 0 first some)) all

    beyond-beside : LiesBeyond window ring → AreBeside extent window
    beyond-beside (inl left) = inl ((is.right window.left).0 (whole (λ p. p.x ≤ℤ window.left) left))
    beyond-beside (inr (inl right)) = inr (inl ((is.left window.right).0 (whole (λ p. window.right ≤ℤ p.x) right)))
    beyond-beside (inr (inr (inl low))) = inr (inr (inl ((is.high window.low).0 (whole (λ p. p.y ≤ℤ window.low) low))))
    beyond-beside (inr (inr (inr high))) = inr (inr (inr ((is.low window.high).0 (whole (λ p. window.high ≤ℤ p.y) high))))

    pub beyond-decides : (r : Bool) → MatchBool r (AreBeside extent window) (¬ (AreBeside extent window)) → MatchBool r (LiesBeyond window ring) (¬ (LiesBeyond window ring))
    beyond-decides true beside = beside-beyond beside
    beyond-decides false not = λ beyond. not (beyond-beside beyond)
