-- Sections of edges, in whose boxes all lies that the edges pass. For private contracts.
use Rattle.std.specs.Prelude.{◌≡◌, ◌⊎◌, ℕ, ◌<◌, ◌≤◌, ◌*◌, ℤ, pos, ◌+ℤ◌, ◌-ℤ◌, ◌*ℤ◌, List, Contains, Some, slice_get}
use Rattle.plane.specs.declared.edge.Edge.{Edge}
use Rattle.plane.specs.declared.point.Point.{Point}
use Rattle.plane.specs.Meet.Edges.{IsAtShare, RationalPoint}
use Rattle.noding.specs.Chains.{Passes}
use Rattle.noding.specs.Close.{InBox, PassesPoint}
use Rattle.noding.specs.Rounding.{RoundsOn, RoundsTo}
use Rattle.noding.specs.Stops.{stop_of}
use Rattle.noding.specs.declared.sections.Section.{Section}
use Rattle.noding.specs.declared.stops.Stop.{Stop}

-- The section's edge passes the point between its ends, and this lies in the section's box.
abbrev pub PassesHere : Section → Point → Type 0
PassesHere section point = InBox section.chord point.x point.y × PassesPoint section.edge point

-- What the point rounds to that lies so many of all parts of the way along the edge.
pub record IsPartOf (edge : Edge) (part all : ℕ) (point : Point) : Type 0 where
  pub along_x : RoundsOn all ((pos all *ℤ edge.x0) +ℤ (pos part *ℤ (edge.x1 -ℤ edge.x0))) point.x
  pub along_y : RoundsOn all ((pos all *ℤ edge.y0) +ℤ (pos part *ℤ (edge.y1 -ℤ edge.y0))) point.y

-- Some section of the edge at this place has the whole point (x, y) in its box.
pub record IsHeld (place : ℕ) (edge : Edge) (x y : ℤ) (sections : List Section) : Type 0 where
  pub section : Section
  pub held : Contains sections section
  pub at : section.place ≡ place
  pub of : section.edge ≡ edge
  pub here : InBox section.chord x y

-- The list gains sections of the edge, in which lies what it passes on the first parts of the way.
pub record GainsParts (place : ℕ) (edge : Edge) (count all : ℕ) (before after : List Section) : Type 0 where
  pub keeps : (section : Section) → Contains before section → Contains after section
  pub of : (section : Section) → Contains after section → Contains before section ⊎ (section.place ≡ place) × (section.edge ≡ edge)
  pub each : (point : RationalPoint) (a : ℕ) (x y : ℤ) → IsAtShare edge point a → RoundsTo point x y → 0 < count → a * all ≤ count * point.n → IsHeld place edge x y after

-- These are sections of edges, in which lies what the first of these edges pass.
pub record AreSections (edges : List Edge) (count : ℕ) (sections : List Section) : Type 0 where
  pub of : (section : Section) → Contains sections section → slice_get edges section.place ≡ Some section.edge
  pub each : (place : ℕ) (edge : Edge) (x y : ℤ) → place < count → slice_get edges place ≡ Some edge → Passes edge x y → IsHeld place edge x y sections

-- The stop is that of the edge of the section at the first place of the pair, at the point at its second place.
pub record IsStopIn (sections : List Section) (points : List Point) (pair : ℕ × ℕ) (stop : Stop) : Type 0 where
  pub section : Section
  pub point : Point
  pub first : slice_get sections pair.0 ≡ Some section
  pub second : slice_get points pair.1 ≡ Some point
  pub is : stop ≡ stop_of section.place section.edge point.x point.y
