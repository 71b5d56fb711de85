-- What the calls over windows answer, of rings that C hands over.
use Rattle.std.specs.List.{AllZip, flat_map}
use Rattle.std.specs.Prelude.{◌≡◌, ◌⊎◌, ◌↔◌, ◌∷◌, ℕ, pos, ℤ, List, [], Option, Some, None, length}
use Rattle.noding.specs.Offsets.{offsets}
use Rattle.overlay.specs.Rings.{AreEnds, rings_of}
use Rattle.overlay.specs.declared.fill.rules.FillRule.{FillRule}
use Rattle.overlay.specs.declared.fill.rules.Operation.{Operation}
use Rattle.plane.specs.declared.edge.Edge.{Edge}
use Rattle.plane.specs.declared.point.Point.{Point}
use Rattle.tiles.specs.Crop.{IsCropped}
use Rattle.tiles.specs.Join.{CanJoin, IsJoinFault, IsJoined, tiles_of}
use Rattle.tiles.specs.Tile.{IsTile}
use Rattle.tiles.specs.Whole.{IsWhole}
use Rattle.tiles.specs.Window.{CanCropTo, LiesBeyond, widened}
use Rattle.tiles.specs.declared.join_fault.JoinFault.TheVariants.{Lengths, Empty, Overlap, Outside, Covered, OutOfMemory}
use Rattle.tiles.specs.declared.joined.given.Tiles.{Tiles}
use Rattle.tiles.specs.declared.window.Window.{Window}
use Rattle.itree_c.specs.Choices.{number_of_rule, number_of_operation, AreChoices}
use Rattle.itree_c.specs.Layers.{AreHeld}
use Rattle.itree_c.specs.Overlay.{edges_of}
use Rattle.itree_c.specs.declared.chains.Chains.{Chains}
use Rattle.itree_c.specs.declared.polygon_lists.PolygonLists.{PolygonLists}
use Rattle.itree_c.specs.declared.status.TheConstants.{ANSWERED, REFUSED, LENGTHS, CHOICE, WINDOW, UNFIT}

-- the polygons of what of an overlay's result lies in the window
abbrev pub AreAllOfTile : Window → FillRule → Operation → List Edge → List Edge → PolygonLists → Type 0
AreAllOfTile window rule operation subject clip held =
    (polygons : List (List (List Point))) × IsTile window rule operation subject clip polygons × AreHeld polygons held

-- at ANSWERED there are all of these, by the rule and the operation of the numbers; at each other status there are none
abbrev pub HoldsTile : Window → List Point → List ℕ → List Point → List ℕ → ℤ → ℤ → ℤ → Option PolygonLists → Type 0
HoldsTile window subject subject_ends clip clip_ends rule operation status (Some held) =
    (status ≡ ANSWERED)
    × (named : FillRule) × (rule ≡ number_of_rule named) × (chosen : Operation) × (operation ≡ number_of_operation chosen)
    × AreAllOfTile window named chosen (edges_of subject subject_ends) (edges_of clip clip_ends) held
HoldsTile window subject subject_ends clip clip_ends rule operation status None =
    (status ≡ REFUSED) ⊎ (status ≡ LENGTHS) ⊎ (status ≡ CHOICE) ⊎ (status ≡ WINDOW)

-- rings of both sides stop where they can
abbrev pub HaveEnds : List Point → List ℕ → List Point → List ℕ → Type 0
HaveEnds subject subject_ends clip clip_ends = AreEnds 0 subject_ends (length subject) × AreEnds 0 clip_ends (length clip)

-- a call holds what its status says; that is CHOICE exactly where a number is none, LENGTHS exactly where both are some, and a ring
-- stops before it begins or behind the points, and WINDOW exactly where all that is well, and no ring can be cropped to the window
abbrev pub AnswersTile : Window → List Point → List ℕ → List Point → List ℕ → ℤ → ℤ → ℤ → Option PolygonLists → Type 0
AnswersTile window subject subject_ends clip clip_ends rule operation status made =
    HoldsTile window subject subject_ends clip clip_ends rule operation status made
    × ((status ≡ CHOICE) ↔ ¬ (AreChoices rule operation))
    × ((status ≡ LENGTHS) ↔ (AreChoices rule operation × ¬ (HaveEnds subject subject_ends clip clip_ends)))
    × ((status ≡ WINDOW) ↔ (AreChoices rule operation × HaveEnds subject subject_ends clip clip_ends × ¬ (CanCropTo window)))

-- ---- rings cropped

-- the ring becomes this for the window: nothing, where all of its points lie beyond one side of the widened window, or on the
-- line along it
abbrev pub Becomes : Window → List Point → List Point → Type 0
Becomes window ring cropped = IsCropped window ring cropped × (LiesBeyond (widened window) ring → cropped ≡ [])

-- the points are those of what each ring becomes for the window, one after the other, and the offsets are 0 and where each stops
abbrev pub AreCropped : Window → List (List Point) → List Point → List ℕ → Type 0
AreCropped window rings points stops =
    (cropped : List (List Point)) × AllZip (Becomes window) rings cropped
    × (points ≡ flat_map (λ ring. ring) cropped) × (stops ≡ 0 ∷ offsets 0 cropped)

-- the chains held are these
abbrev pub AreAllCropped : Window → List (List Point) → Chains → Type 0
AreAllCropped window rings held = AreCropped window rings held.held_points.items held.held_offsets.items

-- at ANSWERED there is what each ring becomes; at each other status there is nothing
abbrev pub HoldsCrop : Window → List Point → List ℕ → ℤ → Option Chains → Type 0
HoldsCrop window points ends status (Some held) = (status ≡ ANSWERED) × AreAllCropped window (rings_of points 0 ends) held
HoldsCrop window points ends status None = (status ≡ REFUSED) ⊎ (status ≡ LENGTHS) ⊎ (status ≡ WINDOW)

-- a call holds what its status says; that is LENGTHS exactly where a ring stops before it begins or behind the points, and WINDOW
-- exactly where none does, and no ring can be cropped to the window
abbrev pub AnswersCrop : Window → List Point → List ℕ → ℤ → Option Chains → Type 0
AnswersCrop window points ends status made =
    HoldsCrop window points ends status made
    × ((status ≡ LENGTHS) ↔ ¬ (AreEnds 0 ends (length points)))
    × ((status ≡ WINDOW) ↔ (AreEnds 0 ends (length points) × ¬ (CanCropTo window)))

-- ---- the window that several make up

-- whether there is one is told, and then it is written
abbrev pub WritesWhole : List Window → ℤ → Window → Window → Type 0
WritesWhole windows found before after =
    ((found ≡ pos 1) × IsWhole after windows)
    ⊎ ((found ≡ pos 0) × ((whole : Window) → ¬ (IsWhole whole windows)) × (after ≡ before))

-- ---- tiles joined

-- the polygons of all windows, as one set
abbrev pub AreAllJoined : Tiles → PolygonLists → Type 0
AreAllJoined tiles held = (polygons : List (List (List Point))) × IsJoined (tiles_of tiles) polygons × AreHeld polygons held

-- at ANSWERED the tiles can be joined, and there are all polygons; at each other status there are none, for the cause that it tells
abbrev pub AnswersJoin : Tiles → ℤ → Option PolygonLists → Type 0
AnswersJoin tiles status (Some held) = (status ≡ ANSWERED) × CanJoin tiles × AreAllJoined tiles held
AnswersJoin tiles status None =
    ((status ≡ REFUSED) × IsJoinFault tiles OutOfMemory)
    ⊎ ((status ≡ LENGTHS) × IsJoinFault tiles Lengths)
    ⊎ ((status ≡ WINDOW) × (IsJoinFault tiles Empty ⊎ IsJoinFault tiles Overlap))
    ⊎ ((status ≡ UNFIT) × (IsJoinFault tiles Outside ⊎ IsJoinFault tiles Covered))
