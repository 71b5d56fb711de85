-- What the lines of rings say: points of the subject, or of what is taken with it, the clip or a shape. Lines of paths say theirs
-- as the subject's.
use Rattle.std.specs.Prelude.{ℕ, ℤ, List, [], ◌∷◌, Option, Some, None, codes}
use Rattle.std.specs.List.{filter_map, flat_map}
use Rattle.itree.specs.Grammar.{Says}
use Rattle.itree.specs.declared.lines.rings.RingKind.{RingKind}
use Rattle.itree.specs.declared.lines.rings.RingKind.TheVariants.{Overlay, Growth, Paths}
use Rattle.itree.specs.declared.lines.rings.RingList.{RingList}
use Rattle.itree.specs.declared.lines.rings.SaidRings.{SaidRings}
use Rattle.noding.specs.Offsets.{AreJoined}
use Rattle.plane.specs.declared.point.Point.{Point}

-- a ring of the subject, or another one
pub data RingLine : Type 0 where
  Subject : List Point → RingLine
  Other : List Point → RingLine

-- the word that begins a line of the subject
abbrev pub subject_name : RingKind → List ℕ
subject_name Overlay = codes "subject"
subject_name Growth = codes "subject"
subject_name Paths = codes "line"

-- the word that begins a line of what is taken with it
abbrev pub other_name : RingKind → List ℕ
other_name Overlay = codes "clip"
other_name Growth = codes "shape"
other_name Paths = codes "shape"

-- the x and the y of each point
abbrev pub coordinates : List Point → List ℤ
coordinates ring = flat_map (λ point. point.x ∷ point.y ∷ []) ring

-- the words say the ring
abbrev pub SaysRing : RingKind → List (List ℕ) → RingLine → Type 0
SaysRing kind words (Subject ring) = Says words (subject_name kind) (coordinates ring)
SaysRing kind words (Other ring) = Says words (other_name kind) (coordinates ring)

-- the ring, where one of the subject is said
abbrev pub subject_in : RingLine → Option (List Point)
subject_in (Subject ring) = Some ring
subject_in (Other ring) = None

-- the ring, where another one is said
abbrev pub other_in : RingLine → Option (List Point)
other_in (Subject ring) = None
other_in (Other ring) = Some ring

-- the rings of the subject that are said, in order
abbrev pub subject_of : List RingLine → List (List Point)
subject_of said = filter_map subject_in said

-- the other rings that are said, in order
abbrev pub others_of : List RingLine → List (List Point)
others_of said = filter_map other_in said

-- the corners of the shape that is said: those of its lines, one line after another
abbrev pub shape_of : List RingLine → List Point
shape_of said = flat_map (λ corners. corners) (others_of said)

-- these rings stand in the list, one behind the other
abbrev pub Holds : {A : Type 0} → RingList A → List (List Point) → Type 0
Holds list rings = AreJoined rings list.points.items list.ends.items

-- the rings that are said stand in two lists, those of the subject in the one
abbrev pub HoldsSaid : {A : Type 0} → SaidRings A → List RingLine → Type 0
HoldsSaid rings said = Holds rings.subject (subject_of said) × Holds rings.other (others_of said)
