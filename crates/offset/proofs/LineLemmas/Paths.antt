-- The edges of a path, by number.
use Rattle.std.proofs.Common.{◌≡◌, ℕ, zero, suc, ◌+◌, ◌-◌, ◌<◌, List, [], ◌∷◌, get_or, length, refl, ap, ◌∙◌, arith}
use Rattle.plane.specs.declared.edge.Edge.{Edge}
use Rattle.plane.specs.declared.point.Point.{Point}
use Rattle.plane.specs.Ends.{edge_between}
use Rattle.noding.specs.Windings.{pieces}

-- There is one less than points.
pub length-pieces : (path : List Point) → length (pieces path) ≡ length path - 1
length-pieces [] = refl
length-pieces (one ∷ []) = refl
length-pieces (one ∷ next ∷ others) = let rest = length-pieces (next ∷ others) in omega (arith, rest)

-- Each goes from a point to the next one.
pub piece-at : (path : List Point) (index : ℕ) (d : Point) (e : Edge) → index + 1 < length path → get_or (pieces path) index e ≡ edge_between (get_or path index d) (get_or path (index + 1) d)
piece-at [] index d e inside = absurd (omega (arith, inside))
piece-at (one ∷ []) index d e inside = absurd (omega (arith, inside))
piece-at (one ∷ next ∷ others) zero d e inside = ap (λ (n : ℕ). edge_between one (get_or (one ∷ next ∷ others) n d)) (let same : 1 ≡ zero + 1 = omega arith in same)
piece-at (one ∷ next ∷ others) (suc index) d e inside =
    piece-at (next ∷ others) index d e (omega (arith, inside))
    ∙ ap (λ (n : ℕ). edge_between (get_or (next ∷ others) index d) (get_or (one ∷ next ∷ others) n d)) (let same : suc (index + 1) ≡ suc index + 1 = omega arith in same)
