-- How rings are cut into parts, along which stretches go.
use Rattle.std.specs.Prelude.{◌≡◌, ◌⊎◌, ℕ, ◌<◌, ◌≤◌, Bool, true, false, List, ◌∷◌, ◌++◌, [], All, Contains, drop, get_or, length, map, take}
use Rattle.std.specs.List.{AllZip, flat_map}
use Rattle.plane.specs.declared.edge.Edge.{Edge}
use Rattle.plane.specs.declared.point.Point.{Point}
use Rattle.noding.specs.Windings.{pieces}
use Rattle.monotone_chains.specs.Stretches.{AreApart, AreClear, AreStretches, IsLong, IsStretch}
use Rattle.monotone_chains.specs.declared.stretches.parts.Part.{Part}

-- The points along which a part goes.
abbrev pub way : Part → List Point
way part = part.from ∷ (part.inner.now ++ part.to ∷ [])

-- The points of a part are a stretch.
abbrev pub IsPart : Part → Type 0
IsPart part = IsStretch (way part)

-- The edges along parts, one part after another.
abbrev pub edges_along : List Part → List Edge
edges_along parts = flat_map pieces (map way parts)

-- The stretches of the subject's edges go along the first parts, so many, and those of the clip's along the others.
abbrev pub AreCut : List Edge → List Edge → List Part → ℕ → Type 0
AreCut subject clip parts count =
    AreStretches subject clip (map way (take count parts)) (map way (drop count parts)) × (count ≤ length parts)

-- ---- for private contracts

-- Behind the parts before stand parts of these edges.
abbrev pub AppendsParts : List Edge → List Part → List Part → Type 0
AppendsParts edges before after = (group : List Part) × (edges ≡ edges_along group) × All IsPart group × (after ≡ before ++ group)

-- The part is an edge from a point to itself.
pub record IsPoint (part : Part) : Type 0 where
  pub none : part.inner.now ≡ []
  pub same : part.from ≡ part.to

-- The part has so many edges at most.
abbrev pub IsShort : ℕ → Part → Type 0
IsShort most part = length part.inner.now < most

-- What points are cut into.
pub record IsCutInto (points : List Point) (group : List Part) : Type 0 where
  pub is : pieces points ≡ edges_along group
  pub each : All IsPart group
  pub within : All (λ part. All (Contains points) (way part)) group

-- Behind the parts before stand those that the points are cut into, each of so many edges at most.
abbrev pub IsCutInParts : List Point → ℕ → List Part → List Part → Type 0
IsCutInParts points most before after = (group : List Part) × IsCutInto points group × All (IsShort most) group × (after ≡ before ++ group)

-- Any points of the one part and any of the other are clear of each other, if one of the parts has several edges.
abbrev pub AreClearParts : Part → Part → Type 0
AreClearParts one other =
    IsLong (way one) ⊎ IsLong (way other)
    → (some others : List Point) → All (Contains (way one)) some → All (Contains (way other)) others → AreClear some others

-- Two parts are both busy or clear of each other.
abbrev pub AreSettled : List Part → List Bool → Type 0
AreSettled parts busy =
    (i j : ℕ) (d : Part) → i < j → j < length parts → ((get_or busy i false ≡ true) × (get_or busy j false ≡ true)) ⊎ AreClearParts (get_or parts i d) (get_or parts j d)

-- The parts are cut anew: those that are busy into parts of few edges, and the others are kept.
pub record AreRefined (most : ℕ) (parts : List Part) (groups : List (List Part)) (busy : List Bool) : Type 0 where
  pub cut : AllZip (λ part group. IsCutInto (way part) group) parts groups
  pub kept : (k : ℕ) (d : Part) (e : List Part) → k < length parts → get_or busy k false ≡ false → get_or groups k e ≡ get_or parts k d ∷ []
  pub few : (k : ℕ) (e : List Part) → k < length parts → get_or busy k false ≡ true → All (IsShort most) (get_or groups k e)

-- One round of refining: the parts are cut so by some marks, and two of them are both busy or clear of each other.
pub record IsRound (most : ℕ) (parts : List Part) (groups : List (List Part)) : Type 0 where
  pub busy : List Bool
  pub refined : AreRefined most parts groups busy
  pub clear : AreSettled parts busy

-- The place is marked, and so are those that were before.
pub record Marks (place : ℕ) (before after : List Bool) : Type 0 where
  pub at : get_or after place false ≡ true
  pub keeps : (k : ℕ) → get_or before k false ≡ true → get_or after k false ≡ true

-- Both parts of the pair are marked, or some line keeps their points apart.
abbrev pub IsSettled : List Part → List Bool → ℕ × ℕ → Type 0
IsSettled parts busy pair =
    (d : Part) → ((get_or busy pair.0 false ≡ true) × (get_or busy pair.1 false ≡ true)) ⊎ AreApart (way (get_or parts pair.0 d)) (way (get_or parts pair.1 d))
