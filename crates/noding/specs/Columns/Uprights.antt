-- What is asked of a sweep by columns about upright edges. For private contracts.
use Rattle.std.specs.Prelude.{◌≡◌, ◌≢◌, ◌⊎◌, ◌<◌, ◌++◌, ◌∷◌, [], ℕ, List, All, Some, get_or, length, slice_get}
use Rattle.plane.specs.declared.edge.Edge.{Edge}
use Rattle.plane.specs.declared.columns.Asked.{Asked}
pub use Rattle.plane.specs.Meet.Columns.{asked_about}

-- The edge runs up or down, and is no point.
abbrev pub IsUpright : Edge → Type 0
IsUpright edge = (edge.x0 ≡ edge.x1) × (edge.y0 ≢ edge.y1)

-- The upright edge at this place is asked about, at its place among those.
pub record IsAskedAbout (places : List ℕ) (asked : List Asked) (place : ℕ) (edge : Edge) : Type 0 where
  pub at : ℕ
  pub stands : slice_get places at ≡ Some place
  pub is : slice_get asked at ≡ Some (asked_about edge)

-- Of the edges the upright ones are asked about, which are at these places.
pub record AreAsked (edges : List Edge) (places : List ℕ) (asked : List Asked) : Type 0 where
  pub size : length asked ≡ length places
  pub within : All (λ place. place < length edges) places
  pub all : (place : ℕ) (edge : Edge) → slice_get edges place ≡ Some edge → IsUpright edge → IsAskedAbout places asked place edge

-- The pair of an edge and of what is asked is that of the edge and of the upright one that this is about.
abbrev pub IsPairAbout : List ℕ → ℕ × ℕ → ℕ × ℕ → Type 0
IsPairAbout places met pair = pair ≡ (met.0, get_or places met.1 0)

-- Where the edge, which is at this place, is upright the lists gain its place and what is asked about it.
abbrev pub AppendsIfUpright : ℕ → Edge → List ℕ → List Asked → List ℕ → List Asked → Type 0
AppendsIfUpright place edge places asked new_places new_asked =
    IsUpright edge × (new_places ≡ places ++ place ∷ []) × (new_asked ≡ asked ++ asked_about edge ∷ [])
    ⊎ (¬ (IsUpright edge)) × (new_places ≡ places) × (new_asked ≡ asked)
