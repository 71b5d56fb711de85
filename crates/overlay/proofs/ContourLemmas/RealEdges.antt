-- The edges of rings, and those of them that have two ends.
use Rattle.std.proofs.Common.{◌≡◌, ◌≢◌, ◌<◌, ◌++◌, ◌∷◌, ◌-◌, ◌||◌, [], ℕ, Bool, true, false, not, List, length, get_or, refl, ap, ap₂, sym, ◌∙◌, arith}
use Rattle.std.specs.Ordering.{int_eq}
use Rattle.std.proofs.lemmas.Bool.Decides.{Decides-int_eq}
use Rattle.plane.specs.declared.edge.Edge.{Edge}
use Rattle.plane.specs.declared.point.Point.{Point}
use Rattle.overlay.specs.Contours.Rings.{has_two_ends, ring_edges}
use Rattle.plane.specs.Ends.{edge_between}
use Rattle.noding.specs.Windings.{pieces}

-- one point and none have no pieces
pub few_pieces : (points : List Point) → length points < 2 → pieces points ≡ []
few_pieces [] few = refl
few_pieces (point ∷ []) few = refl
few_pieces (point ∷ next ∷ points) few = absurd (omega (arith, few))

-- one point more
pub pieces-closing : (first : Point) (others : List Point) (to d : Point) → pieces (first ∷ (others ++ to ∷ [])) ≡ pieces (first ∷ others) ++ edge_between (get_or (first ∷ others) (length others) d) to ∷ []
pieces-closing first [] to d = refl
pieces-closing first (next ∷ others) to d = ap (λ (edges : List Edge). edge_between first next ∷ edges) (pieces-closing next others to d)

-- the edges of a ring are those along its points, and the one from the last to the first
pub closing : (ring : List Point) (last first d : Point) → ring ≢ [] → last ≡ get_or ring (length ring - 1) d → first ≡ get_or ring 0 d → ring_edges ring ≡ pieces ring ++ edge_between last first ∷ []
closing [] last first d some is begins = absurd (some refl)
closing (point ∷ others) last first d some is begins =
    pieces-closing point others point d
    ∙ ap (λ (n : ℕ). pieces (point ∷ others) ++ edge_between (get_or (point ∷ others) n d) point ∷ []) (let n : length others ≡ length (point ∷ others) - 1 = omega arith in n)
    ∙ ap₂ (λ (from to : Point). pieces (point ∷ others) ++ edge_between from to ∷ []) (sym is) (sym begins)

-- an edge without two ends begins where it ends, and one that does has none
pub points-same : (edge : Edge) → has_two_ends edge ≡ false → (edge.x0 ≡ edge.x1) × (edge.y0 ≡ edge.y1)
points-same edge isnt = by (int_eq edge.x0 edge.x1) (int_eq edge.y0 edge.y1) refl refl isnt
  where
    by : (s t : Bool) → int_eq edge.x0 edge.x1 ≡ s → int_eq edge.y0 edge.y1 ≡ t → (not s || not t) ≡ false → (edge.x0 ≡ edge.x1) × (edge.y0 ≡ edge.y1)
    by true true is_x is_y isnt = ((Decides-int_eq edge.x0 edge.x1).0 is_x, (Decides-int_eq edge.y0 edge.y1).0 is_y)
    by true false is_x is_y isnt = cc
    by false t is_x is_y isnt = cc

-- so one whose ends differ does have two
pub two_ends-differ : (edge : Edge) → ((edge.x0 ≡ edge.x1) × (edge.y0 ≡ edge.y1) → ⊥) → has_two_ends edge ≡ true
two_ends-differ edge differ = by (has_two_ends edge) refl
  where
    by : (t : Bool) → has_two_ends edge ≡ t → has_two_ends edge ≡ true
    by true is = is
    by false isnt = absurd (differ (points-same edge isnt))
