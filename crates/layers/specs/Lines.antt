-- Lines, and the pieces of them that lie inside of rings, or outside.
use Rattle.std.specs.Prelude.{◌≡◌, ◌≤◌, ◌++◌, ◌+ℤ◌, List, [], ◌∷◌, All, length, map, take}
use Rattle.std.proofs.Common.{lit<}
use Rattle.std.specs.List.{AllZip, flat_map}
use Rattle.plane.specs.declared.edge.Edge.{Edge}
use Rattle.plane.specs.declared.point.Point.{Point}
use Rattle.plane.specs.Meet.Edges.{RationalPoint}
use Rattle.overlay.specs.declared.fill.rules.FillRule.{FillRule}
use Rattle.overlay.specs.Contours.Rings.{real_edges}
use Rattle.noding.specs.Chains.{IsChain}
use Rattle.plane.specs.Lists.{Extends}
use Rattle.noding.specs.Windings.{pieces}
use Rattle.overlay.specs.Polygons.{AreAppended}
use Rattle.overlay.specs.Rings.{AreEnds}
use Rattle.layers.specs.declared.lines.Keep.{Keep}
use Rattle.layers.specs.declared.lines.Keep.TheVariants.{Inside, Outside}
use Rattle.layers.specs.declared.lines.Lines.{Lines}
use Rattle.layers.specs.declared.lines.Pieces.{Pieces}
use Rattle.layers.specs.declared.points.Border.TheVariants.{Closed}
use Rattle.layers.specs.Around.{LiesIn}
use Rattle.layers.specs.Shapes.{lists_of}

-- Each line stops where it begins or later, and none behind the points.
abbrev pub HasLines : Lines → Type 0
HasLines lines = AreEnds 0 lines.ends.now (length lines.points.now)

-- The lines: each has the points from where the one before it stops, up to where it stops.
abbrev pub lines_of : Lines → List (List Point)
lines_of lines = lists_of lines.points.now 0 lines.ends.now

-- The edges of a line: from each of its points to the next, where these are two.
abbrev pub line_edges : List Point → List Edge
line_edges line = real_edges (pieces line)

-- The edges that are broken together: those of the lines, and those of rings.
abbrev pub all_edges : List (List Point) → List Edge → List Edge
all_edges lines rings = flat_map line_edges lines ++ real_edges rings

-- What the edges of each line and those of rings are broken into, when all are broken together: the pieces of their chains.
pub record AreBrokenTogether (lines : List (List Point)) (rings : List Edge) (broken : List (List Edge)) (broken_rings : List Edge) : Type 0 where
  pub chains : List (List (List Point))
  pub ring_chains : List (List Point)
  pub are : AllZip (λ line of_line. AllZip (IsChain (all_edges lines rings)) (line_edges line) of_line) lines chains
  pub rings_are : AllZip (IsChain (all_edges lines rings)) (real_edges rings) ring_chains
  pub is : broken ≡ map (λ of_line. flat_map pieces of_line) chains
  pub rings_is : broken_rings ≡ flat_map pieces ring_chains

-- The middle of an edge.
abbrev pub middle : Edge → RationalPoint
middle edge = record { n = 2; x = edge.x0 +ℤ edge.x1; y = edge.y0 +ℤ edge.y1; positive = lit< tt }

-- An edge is kept where its middle lies inside of the rings, the border with it; or where it doesn't.
abbrev pub IsKept : FillRule → Keep → List Edge → Edge → Type 0
IsKept rule Inside rings edge = LiesIn rule Closed (middle edge) rings
IsKept rule Outside rings edge = ¬ (LiesIn rule Closed (middle edge) rings)

-- A run of edges that are kept, between others: none before it is, and none right behind it.
pub record IsRun (Kept : Edge → Type 0) (edges before : List Edge) (points : List Point) (after : List Edge) : Type 0 where
  pub is : edges ≡ before ++ (pieces points ++ after)
  pub long : 2 ≤ length points
  pub kept : All Kept (pieces points)
  pub left_out : All (λ edge. ¬ (Kept edge)) before
  pub ends : All (λ edge. ¬ (Kept edge)) (take 1 after)

-- All runs of edges that are kept, in order, by their points.
abbrev pub AreRuns : (Edge → Type 0) → List Edge → List (List Point) → Type 0
AreRuns Kept edges [] = All (λ edge. ¬ (Kept edge)) edges
AreRuns Kept edges (run ∷ runs) = (before : List Edge) × (after : List Edge) × IsRun Kept edges before run after × AreRuns Kept after runs

-- The pieces of each line that lie inside of rings, or those that don't: the runs of what is kept of what the line is broken into.
pub record AreClipped (rule : FillRule) (keep : Keep) (lines : List (List Point)) (rings : List Edge) (clipped : List (List (List Point))) : Type 0 where
  pub broken : List (List Edge)
  pub broken_rings : List Edge
  pub together : AreBrokenTogether lines rings broken broken_rings
  pub are : AllZip (AreRuns (IsKept rule keep broken_rings)) broken clipped

-- Pieces of each line stand behind what stood there: their points, where each piece stops among the points, and where the pieces of
-- each line stop among the pieces.
abbrev pub Appends : {A : Type 0} → List (List (List Point)) → Pieces A → Pieces A → Type 0
Appends clipped before after = AreAppended clipped before.points.items after.points.items before.piece_ends.items after.piece_ends.items before.line_ends.items after.line_ends.items

-- The pieces are as they were.
abbrev pub AreAsBefore : {A : Type 0} → Pieces A → Pieces A → Type 0
AreAsBefore before after = (after.points.items ≡ before.points.items) × (after.piece_ends.items ≡ before.piece_ends.items) × (after.line_ends.items ≡ before.line_ends.items)

-- Something may stand behind the pieces that were there.
abbrev pub AreExtended : {A : Type 0} → Pieces A → Pieces A → Type 0
AreExtended before after = Extends before.points.items after.points.items × Extends before.piece_ends.items after.piece_ends.items × Extends before.line_ends.items after.line_ends.items
