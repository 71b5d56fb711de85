-- Parts of clipped lines. For private contracts.
use Rattle.std.specs.Prelude.{◌≡◌, ◌<◌, ◌⊎◌, ◌++◌, ℕ, Bool, true, false, not, List, [], ◌∷◌, All, Contains, MatchBool, get_or, length, map}
use Rattle.std.specs.List.{AllZip, flat_map}
use Rattle.plane.specs.declared.edge.Edge.{Edge}
use Rattle.plane.specs.declared.point.Point.{Point}
use Rattle.overlay.specs.declared.fill.rules.FillRule.{FillRule}
use Rattle.overlay.specs.Contours.Rings.{real_edges, ring_edges}
use Rattle.plane.specs.Ends.{end_of, start_of}
use Rattle.noding.specs.Offsets.{offsets}
use Rattle.layers.specs.declared.lines.Keep.{Keep}
use Rattle.layers.specs.declared.lines.Keep.TheVariants.{Inside, Outside}
use Rattle.layers.specs.Lines.{AreBrokenTogether, AreRuns, IsKept, line_edges}
use Rattle.layers.specs.Shapes.{lists_of}

-- ---- edges that follow each other

-- The edges lead from the one point to the other: each begins where the one before it ends.
abbrev pub LeadTo : Point → List Edge → Point → Type 0
LeadTo from [] to = from ≡ to
LeadTo from (edge ∷ edges) to = (start_of edge ≡ from) × LeadTo (end_of edge) edges to

-- They lead from some point to some other; and back to where they begin.
abbrev pub IsPath : List Edge → Type 0
IsPath edges = (from : Point) × (to : Point) × LeadTo from edges to

abbrev pub IsLoop : List Edge → Type 0
IsLoop edges = (from : Point) × LeadTo from edges from

-- The points along such edges: where the first begins, and where each ends.
abbrev pub points_along : List Edge → List Point
points_along [] = []
points_along (edge ∷ edges) = start_of edge ∷ map end_of (edge ∷ edges)

-- ---- edges that are broken together

-- The edges of a ring that go from one point to another.
abbrev pub real_ring : List Point → List Edge
real_ring ring = real_edges (ring_edges ring)

-- The edges are those of the lines and then those of the rings, and the numbers tell where those of each line stop, and those of each
-- ring.
pub record AreGathered (lines rings : List (List Point)) (edges : List Edge) (line_ends ring_ends : List ℕ) : Type 0 where
  pub is : edges ≡ flat_map line_edges lines ++ flat_map real_ring rings
  pub lines_end : line_ends ≡ offsets 0 (map line_edges lines)
  pub rings_end : ring_ends ≡ offsets (length (flat_map line_edges lines)) (map real_ring rings)

-- The edges are what lines, so many edges in all, and then rings are broken into, and the numbers tell where those of each line stop;
-- and where those of each ring stop among these. What a ring is broken into leads back to where it begins.
pub record AreBrokenEdges (lines rings : List (List Point)) (edges : List Edge) (count : ℕ) (line_ends ring_ends : List ℕ) : Type 0 where
  pub of_lines : List (List Edge)
  pub of_rings : List (List Edge)
  pub together : AreBrokenTogether lines (flat_map ring_edges rings) of_lines (flat_map (λ of_ring. of_ring) of_rings)
  pub loops : All IsLoop of_rings
  pub is : edges ≡ flat_map (λ of_line. of_line) of_lines ++ flat_map (λ of_ring. of_ring) of_rings
  pub count_is : count ≡ length (flat_map (λ of_line. of_line) of_lines)
  pub lines_end : line_ends ≡ offsets 0 of_lines
  pub rings_end : ring_ends ≡ offsets 0 of_rings

-- ---- which edges are kept

-- Each flag tells whether the edge at its place is kept.
abbrev pub AreTold : FillRule → Keep → List Edge → List Edge → List Bool → Type 0
AreTold rule keep rings edges flags = AllZip (λ edge flag. MatchBool flag (IsKept rule keep rings edge) (¬ (IsKept rule keep rings edge))) edges flags

-- The place is the first of one of the pairs.
abbrev pub IsFirst : List (ℕ × ℕ) → ℕ → Type 0
IsFirst pairs place = (other : ℕ) × Contains pairs (place, other)

-- The flag at a place is the mark if the place is the first of one of the pairs, and else the other flag.
abbrev pub IsMarked : List (ℕ × ℕ) → Bool → ℕ → Bool → Type 0
IsMarked pairs mark place flag = IsFirst pairs place × (flag ≡ mark) ⊎ (¬ (IsFirst pairs place)) × (flag ≡ not mark)

-- So many flags, each of which is.
pub record AreMarked (pairs : List (ℕ × ℕ)) (mark : Bool) (count : ℕ) (flags : List Bool) : Type 0 where
  pub count_is : length flags ≡ count
  pub each : (place : ℕ) (default : Bool) → place < count → IsMarked pairs mark place (get_or flags place default)

-- The flag of those edges whose middles lie inside.
abbrev pub mark_of : Keep → Bool
mark_of Inside = true
mark_of Outside = false

-- ---- runs of edges that are kept

-- The runs of edges that are kept, if these flags tell which are.
abbrev pub AreRunsBy : List Bool → List Edge → List (List Point) → Type 0
AreRunsBy flags edges runs = (rule : FillRule) (keep : Keep) (rings : List Edge) → AreTold rule keep rings edges flags → AreRuns (IsKept rule keep rings) edges runs

-- The runs of each of the lists of edges that stop at these ends.
abbrev pub AreRunsOfEach : List Bool → List Edge → List ℕ → List (List (List Point)) → Type 0
AreRunsOfEach flags edges ends runs = (rule : FillRule) (keep : Keep) (rings : List Edge) → AreTold rule keep rings edges flags → AllZip (AreRuns (IsKept rule keep rings)) (lists_of edges 0 ends) runs
