-- What the calls over many shapes answer, which C hands over in slices.
use Rattle.std.specs.List.{flat_map}
use Rattle.std.specs.Prelude.{◌≡◌, ◌⊎◌, ◌↔◌, ◌∷◌, ℕ, ℤ, List, Option, Some, None, length, map, reverse}
use Rattle.layers.specs.Around.{ArePairsIn, whole}
use Rattle.layers.specs.Boxes.{BoxesMeet}
use Rattle.layers.specs.Each.{AreOverlays, HaveLengths, HaveShapes}
use Rattle.layers.specs.Lines.{AreClipped, HasLines, lines_of}
use Rattle.layers.specs.Parents.{AreParents}
use Rattle.layers.specs.Shapes.{HasShapes, edges_of_each, edges_of_groups, shapes_of}
use Rattle.layers.specs.declared.lines.Keep.{Keep}
use Rattle.layers.specs.declared.lines.Lines.{Lines}
use Rattle.layers.specs.declared.points.Border.{Border}
use Rattle.layers.specs.declared.shapes.Groups.{Groups}
use Rattle.layers.specs.declared.shapes.Shapes.{Shapes}
use Rattle.noding.specs.Offsets.{offsets}
use Rattle.overlay.specs.declared.fill.rules.FillRule.{FillRule}
use Rattle.overlay.specs.declared.fill.rules.Operation.{Operation}
use Rattle.plane.specs.Pairs.Pairs.{ArePairsBetween}
use Rattle.plane.specs.declared.edge.Edge.{Edge}
use Rattle.plane.specs.declared.point.Point.{Point}
use Rattle.overlay.specs.Polygons.{rings_of}
use Rattle.overlay.specs.Rings.{HasEnds, edges_of}
use Rattle.overlay.specs.declared.rings.Rings.{Rings}
use Rattle.itree_c.specs.Choices.{number_of_border, number_of_keep, number_of_operation, number_of_rule, AreChoices, AreRuleAndBorder, AreRuleAndKeep}
use Rattle.itree_c.specs.Meetings.{pair_of}
use Rattle.itree_c.specs.declared.layers_parents.TheConstants.{NO_PARENT}
use Rattle.itree_c.specs.declared.pairs.Pairs.{Pairs}
use Rattle.itree_c.specs.declared.polygon_lists.PolygonLists.{PolygonLists}
use Rattle.itree_c.specs.declared.status.TheConstants.{ANSWERED, REFUSED, LENGTHS, CHOICE}

-- the points, list by list, and the offsets are 0 and where each list stops among the points, and 0 and where the lists of each
-- stop among all lists
abbrev pub AreHeld : List (List (List Point)) → PolygonLists → Type 0
AreHeld polygons held =
    (held.held_points.items ≡ flat_map (λ ring. ring) (rings_of polygons))
    × (held.held_ring_offsets.items ≡ 0 ∷ offsets 0 (rings_of polygons))
    × (held.held_polygon_offsets.items ≡ 0 ∷ offsets 0 polygons)

-- ---- overlays of groups

-- the polygons of each group are those of an overlay of its edges, and the ends are where those of each group stop among all
abbrev pub AreAllOfEach : FillRule → Operation → List (List Edge) → List (List Edge) → List ℕ → PolygonLists → Type 0
AreAllOfEach rule operation subjects clips ends held =
    (each : List (List (List (List Point)))) × AreOverlays rule operation subjects clips each
    × AreHeld (flat_map (λ polygons. polygons) each) held
    × (ends ≡ offsets 0 each)

-- at ANSWERED there are the polygons of all groups, by the rule and the operation of the numbers, and the ends are written; at each
-- other status there are none, and the ends are as they were
abbrev pub HoldsEach : Shapes → Groups → Shapes → Groups → ℤ → ℤ → List ℕ → List ℕ → ℤ → Option PolygonLists → Type 0
HoldsEach subjects subject_groups clips clip_groups rule operation before after status (Some held) =
    (status ≡ ANSWERED)
    × (named : FillRule) × (rule ≡ number_of_rule named) × (chosen : Operation) × (operation ≡ number_of_operation chosen)
    × AreAllOfEach named chosen (edges_of_groups subjects subject_groups) (edges_of_groups clips clip_groups) after held
HoldsEach subjects subject_groups clips clip_groups rule operation before after status None =
    ((status ≡ REFUSED) ⊎ (status ≡ LENGTHS) ⊎ (status ≡ CHOICE)) × (after ≡ before)

-- there are so many groups on both sides, all stops where it can, and the groups name shapes
abbrev pub AreRight : Shapes → Groups → Shapes → Groups → ℕ → Type 0
AreRight subjects subject_groups clips clip_groups count =
    HaveLengths subjects subject_groups clips clip_groups × HaveShapes subjects subject_groups clips clip_groups
    × (count ≡ length subject_groups.ends.now)

-- a call holds what its status says; that is CHOICE exactly where a number is none, and LENGTHS exactly where both are some, and
-- something stops where it can't, a group names no shape, or there is not one end for each group of both sides
abbrev pub AnswersEach : Shapes → Groups → Shapes → Groups → ℤ → ℤ → List ℕ → List ℕ → ℤ → Option PolygonLists → Type 0
AnswersEach subjects subject_groups clips clip_groups rule operation before after status made =
    HoldsEach subjects subject_groups clips clip_groups rule operation before after status made
    × ((status ≡ CHOICE) ↔ ¬ (AreChoices rule operation))
    × ((status ≡ LENGTHS) ↔ (AreChoices rule operation × ¬ (AreRight subjects subject_groups clips clip_groups (length before))))

-- ---- pairs of shapes whose boxes share a point

-- the pairs are those of a shape of the one list and one of the other, each once
abbrev pub AreAllBoxPairs : List (List (List Point)) → List (List (List Point)) → Pairs → Type 0
AreAllBoxPairs shapes others pairs =
    (all : List (ℕ × ℕ)) × ArePairsBetween BoxesMeet shapes others all × (pairs.held.items ≡ map pair_of (reverse all))

-- at ANSWERED there are all pairs, and at each other status none
abbrev pub HoldsBoxPairs : Shapes → Shapes → ℤ → Option Pairs → Type 0
HoldsBoxPairs shapes others status (Some pairs) = (status ≡ ANSWERED) × AreAllBoxPairs (shapes_of shapes) (shapes_of others) pairs
HoldsBoxPairs shapes others status None = (status ≡ REFUSED) ⊎ (status ≡ LENGTHS)

-- a call holds what its status says; that is LENGTHS exactly where something stops where it can't
abbrev pub AnswersBoxPairs : Shapes → Shapes → ℤ → Option Pairs → Type 0
AnswersBoxPairs shapes others status made =
    HoldsBoxPairs shapes others status made × ((status ≡ LENGTHS) ↔ ¬ (HasShapes shapes × HasShapes others))

-- ---- points in shapes

-- the pairs are those of a point and a shape in which it lies, each once, by point and then by shape
abbrev pub AreAllPointsIn : FillRule → Border → List Point → List (List Edge) → Pairs → Type 0
AreAllPointsIn rule border points shapes pairs =
    (all : List (ℕ × ℕ)) × ArePairsIn rule border (map whole points) shapes all × (pairs.held.items ≡ map pair_of all)

-- at ANSWERED there are all pairs, by the rule and the border of the numbers, and at each other status none
abbrev pub HoldsPointsIn : List Point → Shapes → ℤ → ℤ → ℤ → Option Pairs → Type 0
HoldsPointsIn points shapes rule border status (Some pairs) =
    (status ≡ ANSWERED)
    × (named : FillRule) × (rule ≡ number_of_rule named) × (chosen : Border) × (border ≡ number_of_border chosen)
    × AreAllPointsIn named chosen points (edges_of_each shapes) pairs
HoldsPointsIn points shapes rule border status None = (status ≡ REFUSED) ⊎ (status ≡ LENGTHS) ⊎ (status ≡ CHOICE)

-- a call holds what its status says; that is CHOICE exactly where a number is none, and LENGTHS exactly where both are some, and
-- something stops where it can't
abbrev pub AnswersPointsIn : List Point → Shapes → ℤ → ℤ → ℤ → Option Pairs → Type 0
AnswersPointsIn points shapes rule border status made =
    HoldsPointsIn points shapes rule border status made
    × ((status ≡ CHOICE) ↔ ¬ (AreRuleAndBorder rule border))
    × ((status ≡ LENGTHS) ↔ (AreRuleAndBorder rule border × ¬ (HasShapes shapes)))

-- ---- pieces of lines

-- the pieces of each line that lie on one side of rings, as the rings of a polygon
abbrev pub AreAllPieces : FillRule → Keep → List (List Point) → List Edge → PolygonLists → Type 0
AreAllPieces rule keep lines rings held =
    (clipped : List (List (List Point))) × AreClipped rule keep lines rings clipped × AreHeld clipped held

-- at ANSWERED there are all pieces, by the rule and the side of the numbers, and at each other status none
abbrev pub HoldsPieces : Lines → Rings → ℤ → ℤ → ℤ → Option PolygonLists → Type 0
HoldsPieces lines rings rule keep status (Some held) =
    (status ≡ ANSWERED)
    × (named : FillRule) × (rule ≡ number_of_rule named) × (chosen : Keep) × (keep ≡ number_of_keep chosen)
    × AreAllPieces named chosen (lines_of lines) (edges_of rings) held
HoldsPieces lines rings rule keep status None = (status ≡ REFUSED) ⊎ (status ≡ LENGTHS) ⊎ (status ≡ CHOICE)

-- a call holds what its status says; that is CHOICE exactly where a number is none, and LENGTHS exactly where both are some, and
-- something stops where it can't
abbrev pub AnswersPieces : Lines → Rings → ℤ → ℤ → ℤ → Option PolygonLists → Type 0
AnswersPieces lines rings rule keep status made =
    HoldsPieces lines rings rule keep status made
    × ((status ≡ CHOICE) ↔ ¬ (AreRuleAndKeep rule keep))
    × ((status ≡ LENGTHS) ↔ (AreRuleAndKeep rule keep × ¬ (HasLines lines × HasEnds rings)))

-- ---- parents

-- a parent as it is written: its place, or that of none
abbrev pub written_parent : Option ℕ → ℕ
written_parent (Some parent) = parent
written_parent None = NO_PARENT

-- the parents of polygons are written
abbrev pub WritesParents : List (List (List Point)) → List ℕ → Type 0
WritesParents polygons written = (parents : List (Option ℕ)) × AreParents polygons parents × (written ≡ map written_parent parents)

-- one of the three, and no other number
abbrev pub IsParentsStatus : ℤ → Type 0
IsParentsStatus status = (status ≡ ANSWERED) ⊎ (status ≡ REFUSED) ⊎ (status ≡ LENGTHS)
