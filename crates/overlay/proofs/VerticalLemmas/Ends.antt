-- The ends of edges, the left ones first.
use Rattle.std.proofs.Common.{Bool, List, [], ◌∷◌, ◌++◌, true, false, cond, map}
use Rattle.std.specs.Int.Signed.{lt_z}
use Rattle.std.specs.List.{flat_map}
use Rattle.std.specs.List.Sorted.{IsPermutation}
use Rattle.std.proofs.lemmas.List.Sorted.{IsPermutation-cons, IsPermutation-middle, IsPermutation-refl, IsPermutation-sym, IsPermutation-trans}
use Rattle.plane.specs.declared.edge.Edge.{Edge}
use Rattle.overlay.specs.Fill.Verticals.{both_ends, ending, left_end, right_end, starting}
use Rattle.overlay.specs.declared.fill.verticals.End.{End}

-- one end more in front of the left ones, and one in front of the right ones
with_both : (one other : End) (all left right : List End) → IsPermutation all (left ++ right) → IsPermutation (one ∷ other ∷ all) (one ∷ (left ++ other ∷ right))
with_both one other all left right moved =
    IsPermutation-cons one (other ∷ all) (left ++ other ∷ right)
    (IsPermutation-trans (other ∷ all) (other ∷ (left ++ right)) (left ++ other ∷ right) (IsPermutation-cons other all (left ++ right) moved)
    (IsPermutation-sym (left ++ other ∷ right) (other ∷ (left ++ right)) (IsPermutation-middle left other right)))

with_either : (turned : Bool) (one other : End) (all left right : List End) → IsPermutation all (left ++ right) → IsPermutation (one ∷ other ∷ all) (cond turned other one ∷ (left ++ cond turned one other ∷ right))
with_either false one other all left right moved = with_both one other all left right moved
with_either true one other all left right moved =
    IsPermutation-trans (one ∷ other ∷ all) (other ∷ one ∷ all) (other ∷ (left ++ one ∷ right)) (IsPermutation-middle (one ∷ []) other all) (with_both other one all left right moved)

pub left_first : (edges : List Edge) → IsPermutation (flat_map both_ends edges) (map left_end edges ++ map right_end edges)
left_first [] = IsPermutation-refl []
left_first (edge ∷ edges) =
    with_either (lt_z edge.x1 edge.x0) (starting edge) (ending edge) (flat_map both_ends edges) (map left_end edges) (map right_end edges) (left_first edges)
