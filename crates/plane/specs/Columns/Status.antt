-- What contracts see of the status of a sweep by columns, and how its calls change it.
use Rattle.std.specs.Prelude.{◌≡◌, ◌≢◌, ◌<◌, ℕ, List, [], ◌∷◌, ◌++◌, length, All, Option, Some, None, map, slice_index}
use Rattle.i_tree.specs.Rb.Items.{items_of}
use Rattle.i_tree.specs.Rb.Shape.{first_handle}
use Rattle.i_tree.specs.declared.TheConstants.{EMPTY_REF}
use Rattle.plane.specs.declared.sweep_line.active.ActiveEdge.{ActiveEdge}
use Rattle.plane.specs.declared.columns.Asked.{Asked}
use Rattle.plane.specs.declared.columns.status.Exchanged.{Exchanged}
use Rattle.plane.specs.Columns.Asked.{IsBelowAsked, IsAboveAsked, IsWithinAsked}
use Rattle.plane.specs.Columns.Moments.{IsAbove, behind_column}

-- The active edges along the line, from the lowest on, and how many places of edges there are.
pub record Line : Type 0 where
  pub edges : List ActiveEdge
  pub places : ℕ

-- the item is one of the list
abbrev pub IsAmong : {X : Type 0} → List X → X → Type 0
IsAmong {X} list item = (front : List X) × (back : List X) × (list ≡ front ++ item ∷ back)

-- These are the handles of the entries, each at the place of its edge; at each other place stands that of none.
pub record AreHandlesOf (entries : List (ℕ × ActiveEdge)) (handles : List ℕ) : Type 0 where
  pub each : (handle : ℕ) (active : ActiveEdge) → IsAmong entries (handle, active) → (active.place < length handles) × (slice_index handles active.place ≡ handle)
  pub others : (place : ℕ) → place < length handles → slice_index handles place ≢ EMPTY_REF
      → (active : ActiveEdge) × IsAmong entries (slice_index handles place, active) × (active.place ≡ place)

-- the list begins with the edge, or is empty where there is none
abbrev pub BeginsWith : List ActiveEdge → Option ActiveEdge → Type 0
BeginsWith edges None = edges ≡ []
BeginsWith edges (Some first) = (rest : List ActiveEdge) × (edges ≡ first ∷ rest)

-- it ends with the edge, or is empty where there is none
abbrev pub EndsWith : List ActiveEdge → Option ActiveEdge → Type 0
EndsWith edges None = edges ≡ []
EndsWith edges (Some last) = (rest : List ActiveEdge) × (edges ≡ rest ++ last ∷ [])

-- the edge isn't above the one that begins, just behind the column at which it does
abbrev pub StandsBelow : ActiveEdge → ActiveEdge → Type 0
StandsBelow beginning other = ¬ (IsAbove other.edge beginning.edge (behind_column beginning.edge.x0))

-- Along the line some edges stand below one that begins, and behind them all others are above it.
pub record IsSplitAt (beginning : ActiveEdge) (edges front back : List ActiveEdge) : Type 0 where
  pub is : edges ≡ front ++ back
  pub below : All (StandsBelow beginning) front
  pub above : All (λ other. ¬ (StandsBelow beginning other)) back

-- The edge joins the line between those, and these two are next to it.
pub record JoinsLine (beginning : ActiveEdge) (before after : List ActiveEdge) (told : Option ActiveEdge × Option ActiveEdge) : Type 0 where
  pub front : List ActiveEdge
  pub back : List ActiveEdge
  pub split : IsSplitAt beginning before front back
  pub joined : after ≡ front ++ beginning ∷ back
  pub below : EndsWith front told.0
  pub above : BeginsWith back told.1

-- The edge at the place leaves the line, and these two were next to it.
pub record LeavesLine (place : ℕ) (before after : List ActiveEdge) (told : Option ActiveEdge × Option ActiveEdge) : Type 0 where
  pub front : List ActiveEdge
  pub ending : ActiveEdge
  pub back : List ActiveEdge
  pub was : before ≡ front ++ ending ∷ back
  pub is : ending.place ≡ place
  pub left : after ≡ front ++ back
  pub below : EndsWith front told.0
  pub above : BeginsWith back told.1

-- an edge at the place is of the line
abbrev pub IsOfLine : List ActiveEdge → ℕ → Type 0
IsOfLine edges place = (front : List ActiveEdge) × (active : ActiveEdge) × (back : List ActiveEdge) × (edges ≡ front ++ active ∷ back) × (active.place ≡ place)

-- the edges at the two places are of the line, the first directly below the second
pub record AreNext (below above : ℕ) (edges : List ActiveEdge) : Type 0 where
  pub front : List ActiveEdge
  pub lower : ActiveEdge
  pub upper : ActiveEdge
  pub back : List ActiveEdge
  pub is : edges ≡ front ++ lower ∷ upper ∷ back
  pub lower_is : lower.place ≡ below
  pub upper_is : upper.place ≡ above

-- The edges at the two places, which were next to each other, have changed places; these are the two and those around them.
pub record ExchangesNext (below above : ℕ) (before after : List ActiveEdge) (told : Exchanged) : Type 0 where
  pub front : List ActiveEdge
  pub back : List ActiveEdge
  pub was : before ≡ front ++ told.lower ∷ told.upper ∷ back
  pub is : after ≡ front ++ told.upper ∷ told.lower ∷ back
  pub lower_is : told.lower.place ≡ below
  pub upper_is : told.upper.place ≡ above
  pub under : EndsWith front told.under
  pub over : BeginsWith back told.over

-- Along the line first come the edges below what is asked, then those within it, then those above.
pub record IsSplitByAsked (asked : Asked) (edges front within back : List ActiveEdge) : Type 0 where
  pub is : edges ≡ front ++ within ++ back
  pub below : All (λ active. IsBelowAsked asked active.edge) front
  pub inside : All (λ active. IsWithinAsked asked active.edge) within
  pub above : All (λ active. IsAboveAsked asked active.edge) back

-- the list of pairs gains that of each of these edges' places and this place, in the order of the line
abbrev pub GainsMet : List ActiveEdge → ℕ → List (ℕ × ℕ) → List (ℕ × ℕ) → Type 0
GainsMet within place before after = after ≡ before ++ map (λ active. (active.place, place)) within

-- Below are definitions for the private contracts of the status.

-- The edges of two entries have changed places, which were next to each other between these; and those around them are told.
pub record IsExchange (front : List (ℕ × ActiveEdge)) (low : ℕ) (lower : ActiveEdge) (high : ℕ) (upper : ActiveEdge) (back after : List (ℕ × ActiveEdge)) (told : Exchanged) : Type 0 where
  pub is : after ≡ front ++ (low, upper) ∷ (high, lower) ∷ back
  pub lower_is : told.lower ≡ lower
  pub upper_is : told.upper ≡ upper
  pub under : EndsWith (items_of front) told.under
  pub over : BeginsWith (items_of back) told.over

-- The handle is that of the first edge which isn't below what is asked.
pub record IsFirstWithin (asked : Asked) (entries : List (ℕ × ActiveEdge)) (first : ℕ) : Type 0 where
  pub front : List ActiveEdge
  pub within : List ActiveEdge
  pub back : List ActiveEdge
  pub split : IsSplitByAsked asked (items_of entries) front within back
  pub passed : List (ℕ × ActiveEdge)
  pub rest : List (ℕ × ActiveEdge)
  pub cut : entries ≡ passed ++ rest
  pub rest_is : items_of rest ≡ within ++ back
  pub first_is : first ≡ first_handle rest
