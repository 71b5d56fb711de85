-- Contacts of rings, and the graph that they make. For private contracts.
use Rattle.std.specs.Prelude.{◌≡◌, ◌≢◌, ◌⊎◌, ◌↔◌, ◌≤◌, ◌<◌, ◌+◌, ◌-◌, ℕ, pos, List, [], Some, AllPairs, Contains, get_or, length, slice_get}
use Rattle.forest.specs.Circles.{ends_at}
use Rattle.plane.specs.declared.edge.Edge.{Edge}
use Rattle.plane.specs.declared.meet.kinds.Meeting.TheVariants.{Touch}
use Rattle.plane.specs.declared.point.Point.{Point}
use Rattle.plane.specs.Meet.Kinds.{HasPoint, MeetSo}
use Rattle.overlay.specs.Contours.Rings.{real_edges, ring_edges}
use Rattle.overlay.specs.OnePiece.{TouchesIn}
use Rattle.validity.specs.declared.one_piece.Contact.{Contact}
use Rattle.validity.specs.declared.one_piece.OwnedEdge.{OwnedEdge}

abbrev pub edge_of : OwnedEdge → Edge
edge_of owned = owned.edge

-- It is the edge, with this number of a ring.
abbrev pub IsOwnedBy : ℕ → Edge → OwnedEdge → Type 0
IsOwnedBy ring edge owned = owned ≡ record { edge = edge; ring = ring }

-- These are the edges of the rings, each with the number of its ring.
abbrev pub AreOwned : List (List Point) → List OwnedEdge → Type 0
AreOwned rings list = (owned : OwnedEdge) → Contains list owned ↔ ((owned.ring < length rings) × Contains (real_edges (ring_edges (get_or rings owned.ring []))) owned.edge)

-- The edges are of two rings that touch, and the contact is that of one of these.
pub record IsContactOf (one other : OwnedEdge) (contact : Contact) : Type 0 where
  pub apart : one.ring ≢ other.ring
  pub touch : MeetSo one.edge other.edge Touch
  pub on : HasPoint one.edge contact.point.x contact.point.y
  pub other_on : HasPoint other.edge contact.point.x contact.point.y
  pub of : (contact.ring ≡ one.ring) ⊎ (contact.ring ≡ other.ring)

-- So it is of the edges at these places.
pub record IsContactAt (list : List OwnedEdge) (pair : ℕ × ℕ) (contact : Contact) : Type 0 where
  pub one : OwnedEdge
  pub other : OwnedEdge
  pub first : slice_get list pair.0 ≡ Some one
  pub second : slice_get list pair.1 ≡ Some other
  pub is : IsContactOf one other contact

-- The contacts are those of the rings, each once.
pub record AreContacts (rings : List (List Point)) (contacts : List Contact) : Type 0 where
  pub exact : (contact : Contact) → Contains contacts contact ↔ TouchesIn rings contact.ring contact.point
  pub once : AllPairs (λ one later. one ≢ later) contacts

-- Those in one point stand together.
abbrev pub AreTogether : List Contact → Type 0
AreTogether contacts =
    (i j k : ℕ) (one between other : Contact) → i < j → j < k → slice_get contacts i ≡ Some one → slice_get contacts j ≡ Some between → slice_get contacts k ≡ Some other
    → one.point ≡ other.point → one.point ≡ between.point

abbrev pub no_contact : Contact
no_contact = record { point = record { x = pos 0; y = pos 0 }; ring = 0 }

-- The point of the contact at this place isn't that of the one before it.
abbrev pub IsApartFromLast : List Contact → ℕ → Type 0
IsApartFromLast contacts place = (get_or contacts (place - 1) no_contact).point ≢ (get_or contacts place no_contact).point

-- It is, or the contact is the first one.
abbrev pub IsWithLast : List Contact → ℕ → Type 0
IsWithLast contacts place = (place ≡ 0) ⊎ ((get_or contacts (place - 1) no_contact).point ≡ (get_or contacts place no_contact).point)

-- The node behind this one is the next one, where the contact is in another point than the one before it.
abbrev pub GoesOn : List Contact → ℕ → ℕ → ℕ → Type 0
GoesOn contacts place node next = ((next ≡ node + 1) × (0 < place) × IsApartFromLast contacts place) ⊎ ((next ≡ node) × IsWithLast contacts place)

-- The edges of the graph go each from the ring of its contact to a node for the point, behind so many nodes for rings.
pub record IsGraphOf (count : ℕ) (contacts : List Contact) (graph : List (ℕ × ℕ)) : Type 0 where
  pub as_many : length graph ≡ length contacts
  pub ring : (k : ℕ) (contact : Contact) → k < length contacts → get_or contacts k contact ≡ contact → (ends_at graph k).0 ≡ contact.ring
  pub behind : (k : ℕ) → k < length contacts → count ≤ (ends_at graph k).1
  pub same : (j k : ℕ) (one other : Contact) → j < length contacts → k < length contacts → get_or contacts j one ≡ one → get_or contacts k other ≡ other → (ends_at graph j).1 ≡ (ends_at graph k).1 ↔ one.point ≡ other.point
