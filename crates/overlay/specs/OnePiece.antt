-- When the inside of a polygon is one piece: its rings touch along no circle.
use Rattle.std.specs.List.{count_by, flat_map}
use Rattle.std.specs.Prelude.{◌≡◌, ◌≢◌, ◌<◌, ℕ, Bool, List, [], Contains, get_or, length}
use Rattle.plane.specs.declared.edge.Edge.{Edge}
use Rattle.plane.specs.declared.point.Point.{Point}
use Rattle.plane.specs.declared.meet.kinds.Meeting.TheVariants.{Touch}
use Rattle.plane.specs.Ends.{end_of, start_of}
use Rattle.plane.specs.Meet.Kinds.{HasPoint, MeetSo}
use Rattle.noding.specs.Windings.{IsClosed}
use Rattle.overlay.specs.Contours.Rings.{real_edges, ring_edges}
use Rattle.overlay.specs.Joined.{is_same}

-- ---- where rings touch

-- The ring at this place and another one of the polygon touch in the point: an edge of each does.
pub record TouchesIn (rings : List (List Point)) (place : ℕ) (point : Point) : Type 0 where
  pub other : ℕ
  pub apart : other ≢ place
  pub within : place < length rings
  pub other_within : other < length rings
  pub edge : Edge
  pub other_edge : Edge
  pub held : Contains (real_edges (ring_edges (get_or rings place []))) edge
  pub other_held : Contains (real_edges (ring_edges (get_or rings other []))) other_edge
  pub touch : MeetSo edge other_edge Touch
  pub on : HasPoint edge point.x point.y
  pub other_on : HasPoint other_edge point.x point.y

-- The point is one of those of the ring at this place, and of those of another one of the polygon.
pub record SharesIn (rings : List (List Point)) (place : ℕ) (point : Point) : Type 0 where
  pub other : ℕ
  pub apart : other ≢ place
  pub within : place < length rings
  pub other_within : other < length rings
  pub held : Contains (get_or rings place []) point
  pub other_held : Contains (get_or rings other []) point

-- ---- circles

-- It is the ring at this place, and the point.
abbrev pub IsThere : ℕ → Point → ℕ → Point → Type 0
IsThere place point one at = (one ≡ place) × (at ≡ point)

-- Once the ring is cut free in the point, it isn't held by other touches to those that touch it there: rings fall into two sides,
-- so that those that touch it there are on the other side than it, and any others that touch in one point are on one side.
pub record ComesFreeBy (Touches : ℕ → Point → Type 0) (place : ℕ) (point : Point) : Type 0 where
  pub side : ℕ → Bool
  pub alike : (one other : ℕ) (at : Point) → Touches one at → Touches other at → ¬ (IsThere place point one at) → ¬ (IsThere place point other at) → side one ≡ side other
  pub across : (other : ℕ) → Touches other point → other ≢ place → side other ≢ side place

-- Wherever a ring touches others, it comes free there.
abbrev pub AlongNoCircle : (ℕ → Point → Type 0) → Type 0
AlongNoCircle Touches = (place : ℕ) (point : Point) → Touches place point → ComesFreeBy Touches place point

abbrev pub ComesFree : List (List Point) → ℕ → Point → Type 0
ComesFree rings = ComesFreeBy (TouchesIn rings)

-- The rings of a polygon touch along no circle. So the inside is one piece.
abbrev pub TouchAlongNoCircle : List (List Point) → Type 0
TouchAlongNoCircle rings = AlongNoCircle (TouchesIn rings)

-- They share points along no circle.
abbrev pub ShareAlongNoCircle : List (List Point) → Type 0
ShareAlongNoCircle rings = AlongNoCircle (SharesIn rings)

-- ---- closed edges of a polygon

-- Any closed edges of the polygon's go along an edge of a ring as often as along the next one: so around each ring as a whole.
abbrev pub GoWhole : List (List Point) → Type 0
GoWhole polygon =
    (some : List Edge) → IsClosed some → ((edge : Edge) → Contains some edge → Contains (flat_map ring_edges polygon) edge)
    → (ring : List Point) → Contains polygon ring → (one other : Edge) → Contains (ring_edges ring) one → Contains (ring_edges ring) other → end_of one ≡ start_of other
    → count_by (is_same one) some ≡ count_by (is_same other) some
