-- What is inside of edges, by itself and within a border.
use Rattle.std.proofs.Common.{◌≡◌, ◌≢◌, ◌⊎◌, inl, inr, ℕ, ◌+◌, ◌<◌, Bool, true, false, ◌||◌, ℤ, pos, ◌-ℤ◌, ◌<ℤ◌, ◌≤ℤ◌, List, [], ◌∷◌, ◌++◌, ◌∙◌, append-nil, refl, ap, Option, Some, None, get_or, length, take, subst, sym, arith}
use Rattle.std.specs.Int.{int_max, int_min}
use Rattle.std.specs.Option.{MatchOption}
use Rattle.std.proofs.lemmas.Int.{by_lt_z, clamps, ints}
use Rattle.std.specs.List.{All, Contains, flat_map}
use Rattle.std.proofs.lemmas.List.Elements.{All-contains, All-more, All-weaker, Contains-append_cases}
use Rattle.std.proofs.lemmas.List.Concat.{flat_map-append}
use Rattle.plane.specs.declared.edge.Edge.{Edge}
use Rattle.plane.specs.declared.point.Point.{Point}
use Rattle.plane.specs.Ends.{end_of, start_of}
use Rattle.plane.specs.Meet.Edges.{RationalPoint}
use Rattle.noding.specs.Local.{CrossBeside}
use Rattle.noding.specs.Windings.{count, winding}
use Rattle.noding.proofs.SnapLemmas.Windings.{winding-append}
use Rattle.overlay.specs.declared.fill.rules.FillRule.{FillRule}
use Rattle.overlay.specs.declared.fill.rules.FillRule.TheVariants.{Negative, Positive}
use Rattle.overlay.specs.declared.fill.rules.Operation.TheVariants.{Union}
use Rattle.overlay.specs.Contours.Rings.{ring_edges}
use Rattle.overlay.specs.Fill.Rules.{is_inside}
use Rattle.overlay.specs.Overlay.{IsOverlay, polygon_edges}
use Rattle.overlay.proofs.Callers.{exact-everywhere}
use Rattle.overlay.proofs.ContourLemmas.Counts.{rings-closed}
use Rattle.overlay.proofs.UncrossedLemmas.Axes.{axes-meet}
use Rattle.tiles.specs.Tile.{turned_border}
use Rattle.tiles.specs.Window.{HasPoints, InWindow, IsWithin}
use Rattle.tiles.specs.declared.window.Window.{Window}
use Rattle.tiles.proofs.Border.{border-winds, borders-nothing, turned-along}
use Rattle.tiles.proofs.JoinOutside.{winds-within}
use Rattle.tiles.proofs.JoinSides.{EdgeWithin, beside-uncrossed, never-beside, uncrossed-exchanged}
use Rattle.tiles.proofs.JoinSome.{some-winds}
use Rattle.tiles.proofs.JoinUncrossed.{rings-ends, side-beside}
use Rattle.tiles.proofs.JoinWinds.{AreUncrossed, nothing-winds}
use Rattle.validity.specs.Validity.{WindOnce, WindOtherwise}

-- The window with the point in it, too.
abbrev pub widened_by : Window → Point → Window
widened_by window point = record {
  left = int_min window.left point.x;
  low = int_min window.low point.y;
  right = int_max window.right point.x;
  high = int_max window.high point.y;
}

-- ---- what is inside of edges

-- one of two tests is true, or none
none-true : (s t : Bool) → count (s || t) ≡ pos 0 → s ≡ false
none-true false t none = refl
none-true true t none = absurd (omega (arith, ints, none))

first-true : (s t : Bool) → t ≡ false → count (s || t) ≢ pos 0 → s ≡ true
first-true true t isnt any = refl
first-true false false isnt any = absurd (any refl)
first-true false true isnt any = absurd (never isnt)
  where
    never : true ≡ false → ⊥
    never h = cc

-- a number from 0 up to 1
by-number : (w : ℤ) → pos 0 ≤ℤ w → w ≤ℤ pos 1 → (w ≡ pos 0) ⊎ (w ≡ pos 1)
by-number w from upto =
    by_lt_z (pos 0) w (λ above. inr (let once : w ≡ pos 1 = omega (arith, ints, above, upto) in once)) (λ below. inl (let none : w ≡ pos 0 = omega (arith, ints, from, below) in none))

module _ (edges : List Edge) (found : List (List (List Point))) where
  -- the overlay of edges with nothing is exact
  inside-exact : (rule : FillRule) → IsOverlay rule Union edges [] found → AreUncrossed edges → (point : RationalPoint)
      → winding (polygon_edges found) point ≡ count (is_inside rule (winding edges point) || is_inside rule (winding [] point))
  inside-exact rule is uncrossed point = exact-everywhere rule Union edges [] found is (λ one other x y held held_too. uncrossed one other x y (alone one held) (alone other held_too)) point
    where
      alone : (edge : Edge) → Contains (edges ++ []) edge → Contains edges edge
      alone edge held = subst (λ (list : List Edge). Contains list edge) (append-nil edges) held

  -- where it is empty no point is inside by the rule
  none-inside : (rule : FillRule) → found ≡ [] → IsOverlay rule Union edges [] found → AreUncrossed edges → (point : RationalPoint) → is_inside rule (winding edges point) ≡ false
  none-inside rule none is uncrossed point =
      none-true (is_inside rule (winding edges point)) (is_inside rule (winding [] point))
      (sym (inside-exact rule is uncrossed point) ∙ ap (λ (polygons : List (List (List Point))). winding (polygon_edges polygons) point) none ∙ nothing-winds point)

  -- and else some point is
  some-inside : (rule : FillRule) → is_inside rule (pos 0) ≡ false → found ≢ [] → IsOverlay rule Union edges [] found → AreUncrossed edges → (point : RationalPoint) × (is_inside rule (winding edges point) ≡ true)
  some-inside rule outside any is uncrossed =
      let (point, winds) = some-winds rule Union edges [] found is any in (
        point,
        first-true (is_inside rule (winding edges point)) (is_inside rule (winding [] point)) (ap (is_inside rule) (nothing-winds point) ∙ outside)
            (λ none. winds (inside-exact rule is uncrossed point ∙ none)),
      )

  none-positive : found ≡ [] → IsOverlay Positive Union edges [] found → AreUncrossed edges → (point : RationalPoint) → winding edges point ≤ℤ pos 0
  none-positive none is uncrossed point = let isnt = none-inside Positive none is uncrossed point in omega (arith, ints, isnt)

  some-positive : found ≢ [] → IsOverlay Positive Union edges [] found → AreUncrossed edges → (point : RationalPoint) × (pos 0 <ℤ winding edges point)
  some-positive any is uncrossed = let (point, more) = some-inside Positive refl any is uncrossed in (point, omega (arith, ints, more))

  -- edges that wind once at most, and below 0 nowhere
  pub nothing-below : ((point : RationalPoint) → winding edges point ≤ℤ pos 1) → found ≡ [] → IsOverlay Negative Union edges [] found → AreUncrossed edges → WindOnce edges
  nothing-below most none is uncrossed point =
      let isnt = none-inside Negative none is uncrossed point in
      by-number (winding edges point) (omega (arith, ints, isnt)) (most point)

  -- or below 0 somewhere
  pub some-below : found ≢ [] → IsOverlay Negative Union edges [] found → AreUncrossed edges → WindOtherwise edges
  some-below any is uncrossed =
      let (point, less) = some-inside Negative refl any is uncrossed in
      (point, λ none. omega (arith, ints, less, none), λ once. omega (arith, ints, less, once))

-- ---- edges in a window

module _ (rings : List (List Point)) (whole : Window) (some : HasPoints whole) (all : All (IsWithin whole) (flat_map (λ ring. ring) rings)) (uncrossed : AreUncrossed (flat_map ring_edges rings)) where
  abbrev edges : List Edge
  edges = flat_map ring_edges rings

  abbrev sides : List Edge
  sides = ring_edges (turned_border whole)

  within : (edge : Edge) → Contains edges edge → EdgeWithin whole edge
  within edge held =
      let (start, end) = rings-ends rings edge held in
      record { start = All-contains (IsWithin whole) _ (start_of edge) all start; end = All-contains (IsWithin whole) _ (end_of edge) all end }

  -- none of both cross at a point with fractions
  framed-uncrossed : AreUncrossed (edges ++ sides)
  framed-uncrossed one other x y held held_too = by (Contains-append_cases edges sides one held) (Contains-append_cases edges sides other held_too)
    where
      by : Contains edges one ⊎ Contains sides one → Contains edges other ⊎ Contains sides other → ¬ (CrossBeside one other x y)
      by (inl first) (inl second) = uncrossed one other x y first second
      by (inl first) (inr second) = let (box, boxed, aside) = side-beside whole other some second in uncrossed-exchanged box whole other one x y aside boxed (within one first)
      by (inr first) (inl second) = let (box, boxed, aside) = side-beside whole one some first in beside-uncrossed box whole one other x y aside boxed (within other second)
      by (inr first) (inr second) = never-beside one other x y (λ point of_one of_other. axes-meet one other point (turned-along whole one first) (turned-along whole other second) of_one of_other)

  -- with the border they wind once less within the window
  framed-winds : (point : RationalPoint) → (InWindow whole point × (winding (edges ++ sides) point ≡ (winding edges point -ℤ pos 1))) ⊎ ((¬ (InWindow whole point)) × (winding (edges ++ sides) point ≡ winding edges point))
  framed-winds point =
      let sum = winding-append edges sides point in
      let both = borders-nothing whole point in
      elim (border-winds whole some point) [
        | inl (inside, around) ↦ inl (inside, omega (arith, ints, sum, both, around))
        | inr (beside, around) ↦ inr (beside, omega (arith, ints, sum, both, around))
      ]

  -- where nothing is wound around then they wind once at most
  pub nothing-above : ((point : RationalPoint) → pos 0 ≤ℤ winding edges point) → (found : List (List (List Point))) → found ≡ [] → IsOverlay Positive Union (edges ++ sides) [] found → WindOnce edges
  nothing-above least found none is point =
      let from = least point in
      let upto = none-positive (edges ++ sides) found none is framed-uncrossed point in
      by-number (winding edges point) from
      (elim (framed-winds point) [
        | inl (inside, less) ↦ (let most : winding edges point ≤ℤ pos 1 = omega (arith, ints, upto, less) in most)
        | inr (beside, same) ↦ (let most : winding edges point ≤ℤ pos 1 = omega (arith, ints, upto, same) in most)
      ])

  -- and where something is they wind more often
  pub some-above : (found : List (List (List Point))) → found ≢ [] → IsOverlay Positive Union (edges ++ sides) [] found → WindOtherwise edges
  some-above found any is =
      let (point, more) = some-positive (edges ++ sides) found any is framed-uncrossed in
      elim (framed-winds point) [
        | inl (inside, less) ↦ (point, λ none. omega (arith, ints, more, less, none), λ once. omega (arith, ints, more, less, once))
        | inr (beside, same) ↦
            elim (winds-within point whole edges (λ test. rings-closed test rings) within) [
              | inl is_in ↦ absurd (beside is_in)
              | inr nothing ↦ absurd (let level : pos 0 <ℤ pos 0 = omega (arith, ints, more, same, nothing) in omega (arith, ints, level))
            ]
      ]

-- ---- the window

-- widened to a point
pub window-more : (window : Window) (points : List Point) (k : ℕ) (d : Point) → k < length points → HasPoints window × All (IsWithin window) (take k points)
    → HasPoints (widened_by window (get_or points k d)) × All (IsWithin (widened_by window (get_or points k d))) (take (k + 1) points)
window-more window points k d inside (some, every) =
    let point = get_or points k d in
    let wide = some.wide in
    let tall = some.tall in (
      record { wide = omega (arith, ints, clamps, wide); tall = omega (arith, ints, clamps, tall) },
      All-more (IsWithin (widened_by window point)) points k d inside
          (All-weaker (IsWithin window) (IsWithin (widened_by window point)) (λ one is. within one is) (take k points) every)
          (record { from_left = omega (arith, ints, clamps); upto_right = omega (arith, ints, clamps); from_low = omega (arith, ints, clamps); upto_high = omega (arith, ints, clamps) }),
    )
  where
    within : (one : Point) → IsWithin window one → IsWithin (widened_by window (get_or points k d)) one
    within one is =
        let left = is.from_left in
        let right = is.upto_right in
        let low = is.from_low in
        let high = is.upto_high in record {
          from_left = omega (arith, ints, clamps, left);
          upto_right = omega (arith, ints, clamps, right);
          from_low = omega (arith, ints, clamps, low);
          upto_high = omega (arith, ints, clamps, high);
        }

-- the edges of rings and one more
pub edges-framed : (rings : List (List Point)) (border : List Point) → flat_map ring_edges (rings ++ border ∷ []) ≡ flat_map ring_edges rings ++ ring_edges border
edges-framed rings border = flat_map-append ring_edges rings (border ∷ []) ∙ ap (λ (edges : List Edge). flat_map ring_edges rings ++ edges) (append-nil (ring_edges border))

-- ---- choices

pub option-weaker : {X A C : Type 0} {B D : X → Type 0} (found : Option X) → (A → C) → ((x : X) → B x → D x) → MatchOption found A B → MatchOption found C D
option-weaker None none some is = none is
option-weaker (Some x) none some is = some x is

pub none-is : {X : Type 0} (A : Type 0) (B : X → Type 0) (found : Option X) → found ≡ None → MatchOption found A B → A
none-is {X} A B found is told = subst (λ (o : Option X). MatchOption o A B) is told

pub some-is : {X : Type 0} (A : Type 0) (B : X → Type 0) (found : Option X) (x : X) → found ≡ Some x → MatchOption found A B → B x
some-is {X} A B found x is told = subst (λ (o : Option X). MatchOption o A B) is told
