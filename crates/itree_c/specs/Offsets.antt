-- What the calls on polygons that grow, and that shrink, and on lines that grow, answer, of what C hands over.
use Rattle.std.specs.Prelude.{◌≡◌, ◌⊎◌, ◌↔◌, ⊤, ℕ, ℤ, [], List, All, Option, Some, None, length}
use Rattle.overlay.specs.Boundary.{IsBoundary}
use Rattle.overlay.specs.Rings.{AreEnds, real_edges, rings_of}
use Rattle.overlay.specs.declared.fill.rules.FillRule.{FillRule}
use Rattle.overlay.specs.declared.fill.rules.Operation.TheVariants.{Union}
use Rattle.plane.specs.declared.edge.Edge.{Edge}
use Rattle.plane.specs.declared.point.Point.{Point}
use Rattle.offset.specs.Joins.{IsJoined, joined_edges}
use Rattle.offset.specs.Lines.{AreGrownLines, raw_of_paths}
use Rattle.offset.specs.Minkowski.{IsGrown, IsShrunk}
use Rattle.offset.specs.Raw.{IsIn32Bits, IsPointIn32Bits, raw_edges, raw_inside}
use Rattle.offset.specs.Shape.{IsConvexAroundOrigin, opposite_shape}
use Rattle.offset.specs.declared.fault.MinkowskiFault.{MinkowskiFault}
use Rattle.offset.specs.declared.fault.MinkowskiFault.TheVariants.{Lengths, Shape, Range, OutOfMemory}
use Rattle.offset.specs.declared.joins.Join.{Join}
use Rattle.itree_c.specs.Choices.{number_of_rule, AreRuleAndJoin, IsNumberOfRule, NamesJoin}
use Rattle.itree_c.specs.Layers.{AreHeld}
use Rattle.itree_c.specs.Overlay.{edges_of}
use Rattle.itree_c.specs.declared.polygon_lists.PolygonLists.{PolygonLists}
use Rattle.itree_c.specs.declared.status.TheConstants.{ANSWERED, REFUSED, LENGTHS, CHOICE, SHAPE, RANGE}

-- ---- what these calls share

-- why there are none: where a corner was out of range one is, and the other causes are told by clauses of their own
abbrev pub IsOffsetFault : Type 0 → MinkowskiFault → Type 0
IsOffsetFault leaves Lengths = ⊤
IsOffsetFault leaves Shape = ⊤
IsOffsetFault leaves Range = leaves
IsOffsetFault leaves OutOfMemory = ⊤

-- the status of a fault
abbrev pub status_of : MinkowskiFault → ℤ
status_of Lengths = LENGTHS
status_of Shape = SHAPE
status_of Range = RANGE
status_of OutOfMemory = REFUSED

-- at ANSWERED there are polygons such as are wanted, by the rule of the number; at each other status there are none, and at RANGE a
-- corner is out of it
abbrev pub HoldsByRule : (FillRule → PolygonLists → Type 0) → (FillRule → Type 0) → List Point → ℤ → ℤ → Option PolygonLists → Type 0
HoldsByRule are_wanted leaves shape rule status (Some held) =
    (status ≡ ANSWERED)
    × (named : FillRule) × (rule ≡ number_of_rule named)
    × IsConvexAroundOrigin shape × are_wanted named held
HoldsByRule are_wanted leaves shape rule status None =
    (status ≡ REFUSED) ⊎ (status ≡ LENGTHS) ⊎ (status ≡ CHOICE) ⊎ (status ≡ SHAPE)
    ⊎ ((status ≡ RANGE) × (named : FillRule) × (rule ≡ number_of_rule named) × leaves named)

-- a call holds what its status says; that is CHOICE exactly where no rule has the number, LENGTHS exactly where one has, and a ring
-- stops before it begins or behind the points, and SHAPE exactly where all that is well, and the shape isn't one
abbrev pub AnswersByRule : (FillRule → PolygonLists → Type 0) → (FillRule → Type 0) → List Point → List ℕ → List Point → ℤ → ℤ → Option PolygonLists → Type 0
AnswersByRule are_wanted leaves points ends shape rule status made =
    HoldsByRule are_wanted leaves shape rule status made
    × ((status ≡ CHOICE) ↔ ¬ (IsNumberOfRule rule))
    × ((status ≡ LENGTHS) ↔ (IsNumberOfRule rule × ¬ (AreEnds 0 ends (length points))))
    × ((status ≡ SHAPE) ↔ (IsNumberOfRule rule × AreEnds 0 ends (length points) × ¬ (IsConvexAroundOrigin shape)))

-- ---- polygons that grow

-- the polygons are what the inside of the edges becomes when it grows by the shape
abbrev pub AreAllGrown : FillRule → List Edge → List Point → PolygonLists → Type 0
AreAllGrown rule edges shape held = (grown : List (List (List Point))) × IsGrown rule edges shape grown × AreHeld grown held

-- a corner of the curve around the sum is no point of 32 bits
abbrev pub LeavesRange : FillRule → List Edge → List Point → Type 0
LeavesRange rule edges shape =
    (rings : List (List Point)) × IsBoundary rule Union (real_edges edges) [] rings × (¬ (All IsIn32Bits (raw_edges shape rings)))

-- what a call answers by which polygons grow
abbrev pub AnswersGrown : List Point → List ℕ → List Point → ℤ → ℤ → Option PolygonLists → Type 0
AnswersGrown points ends shape rule status made =
    AnswersByRule (λ named held. AreAllGrown named (edges_of points ends) shape held) (λ named. LeavesRange named (edges_of points ends) shape)
    points ends shape rule status made

-- ---- polygons that grow, with corners joined

-- the polygons are what the inside of the edges becomes when it grows by the shape, with corners joined so
abbrev pub AreAllJoined : Join → FillRule → List Edge → List Point → PolygonLists → Type 0
AreAllJoined join rule edges shape held = (grown : List (List (List Point))) × IsJoined join rule edges shape grown × AreHeld grown held

-- a corner of the curve with such joins, or the tip of a mitre, is no point of 32 bits
abbrev pub LeavesRangeJoined : Join → FillRule → List Edge → List Point → Type 0
LeavesRangeJoined join rule edges shape =
    (rings : List (List Point)) × IsBoundary rule Union (real_edges edges) [] rings × (¬ (All IsIn32Bits (joined_edges join shape rings)))

-- at ANSWERED there are all of these, by the rule of the number and with the join of the other and of the limit; at each other
-- status there are none, and at RANGE a corner is out of it
abbrev pub HoldsGrownJoined : List Edge → List Point → ℤ → ℤ → ℕ → ℤ → Option PolygonLists → Type 0
HoldsGrownJoined edges shape rule join limit status (Some held) =
    (status ≡ ANSWERED)
    × (named : FillRule) × (rule ≡ number_of_rule named) × (chosen : Join) × NamesJoin join limit chosen
    × IsConvexAroundOrigin shape × AreAllJoined chosen named edges shape held
HoldsGrownJoined edges shape rule join limit status None =
    (status ≡ REFUSED) ⊎ (status ≡ LENGTHS) ⊎ (status ≡ CHOICE) ⊎ (status ≡ SHAPE)
    ⊎ ((status ≡ RANGE)
    × (named : FillRule) × (rule ≡ number_of_rule named) × (chosen : Join) × NamesJoin join limit chosen × LeavesRangeJoined chosen named edges shape)

-- a call holds what its status says; that is CHOICE exactly where a number is none, LENGTHS exactly where both are some, and a ring
-- stops before it begins or behind the points, and SHAPE exactly where all that is well, and the shape isn't one
abbrev pub AnswersGrownJoined : List Point → List ℕ → List Point → ℤ → ℤ → ℕ → ℤ → Option PolygonLists → Type 0
AnswersGrownJoined points ends shape rule join limit status made =
    HoldsGrownJoined (edges_of points ends) shape rule join limit status made
    × ((status ≡ CHOICE) ↔ ¬ (AreRuleAndJoin rule join))
    × ((status ≡ LENGTHS) ↔ (AreRuleAndJoin rule join × ¬ (AreEnds 0 ends (length points))))
    × ((status ≡ SHAPE) ↔ (AreRuleAndJoin rule join × AreEnds 0 ends (length points) × ¬ (IsConvexAroundOrigin shape)))

-- ---- polygons that shrink

-- the polygons are what is left of the inside of the edges when it shrinks by the shape
abbrev pub AreAllShrunk : FillRule → List Edge → List Point → PolygonLists → Type 0
AreAllShrunk rule edges shape held = (left : List (List (List Point))) × IsShrunk rule edges shape left × AreHeld left held

-- a corner of the shape turned by half a turn, or of the curve around what is outside, is no point of 32 bits
abbrev pub LeavesRangeInside : FillRule → List Edge → List Point → Type 0
LeavesRangeInside rule edges shape =
    (¬ (All IsPointIn32Bits (opposite_shape shape)))
    ⊎ ((rings : List (List Point)) × IsBoundary rule Union (real_edges edges) [] rings × (¬ (All IsIn32Bits (raw_inside shape rings))))

-- what a call answers by which polygons shrink
abbrev pub AnswersShrunk : List Point → List ℕ → List Point → ℤ → ℤ → Option PolygonLists → Type 0
AnswersShrunk points ends shape rule status made =
    AnswersByRule (λ named held. AreAllShrunk named (edges_of points ends) shape held) (λ named. LeavesRangeInside named (edges_of points ends) shape)
    points ends shape rule status made

-- ---- lines that grow

-- the polygons are what the lines become when they grow by the shape
abbrev pub AreAllGrownLines : List (List Point) → List Point → PolygonLists → Type 0
AreAllGrownLines lines shape held = (grown : List (List (List Point))) × AreGrownLines lines shape grown × AreHeld grown held

-- a corner of the shape at a point, or of the parallelogram along an edge, is no point of 32 bits
abbrev pub LeavesRangeAlong : List (List Point) → List Point → Type 0
LeavesRangeAlong lines shape = ¬ (All IsIn32Bits (raw_of_paths shape lines))

-- at ANSWERED there are all of these; at each other status there are none, and at RANGE a corner is out of it
abbrev pub HoldsGrownLines : List (List Point) → List Point → ℤ → Option PolygonLists → Type 0
HoldsGrownLines lines shape status (Some held) =
    (status ≡ ANSWERED) × IsConvexAroundOrigin shape × AreAllGrownLines lines shape held
HoldsGrownLines lines shape status None =
    (status ≡ REFUSED) ⊎ (status ≡ LENGTHS) ⊎ (status ≡ SHAPE) ⊎ ((status ≡ RANGE) × LeavesRangeAlong lines shape)

-- a call holds what its status says; that is LENGTHS exactly where a line stops before it begins or behind the points, and SHAPE
-- exactly where none does, and the shape isn't one
abbrev pub AnswersGrownLines : List Point → List ℕ → List Point → ℤ → Option PolygonLists → Type 0
AnswersGrownLines points ends shape status made =
    HoldsGrownLines (rings_of points 0 ends) shape status made
    × ((status ≡ LENGTHS) ↔ ¬ (AreEnds 0 ends (length points)))
    × ((status ≡ SHAPE) ↔ (AreEnds 0 ends (length points) × ¬ (IsConvexAroundOrigin shape)))
