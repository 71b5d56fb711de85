-- The active edges along a sweep line that has come to an x: sorted by height, there and just behind it; and neighbours that
-- don't cross, which keep them so.
use Rattle.std.specs.Prelude.{◌≡◌, ◌⊎◌, ◌<◌, ⊤, ℤ, pos, ◌+ℤ◌, ◌≤ℤ◌, ◌<ℤ◌, List, [], ◌∷◌, ◌++◌, All, AllPairs}
use Rattle.std.specs.declared.cmp.Ordering.TheVariants.{Less, Greater}
use Rattle.i_tree.specs.Root.Change.{Without}
use Rattle.plane.specs.declared.sweep_line.active.ActiveEdge.{ActiveEdge}
use Rattle.plane.specs.SweepLine.Active.{Entry, cmp_active, live_entries, IsExpiredAt}
use Rattle.plane.specs.SweepLine.Crossings.{Cross}
use Rattle.plane.specs.SweepLine.Heights.{IsUpto}

-- the one began before the other, or at one x and has the lower place
abbrev pub BeganBefore : ActiveEdge → ActiveEdge → Type 0
BeganBefore one other = (one.edge.x0 <ℤ other.edge.x0) ⊎ ((one.edge.x0 ≡ other.edge.x0) × (one.place < other.place))

-- of the entries no two cross
abbrev pub NoneCrossAmong : List Entry → Type 0
NoneCrossAmong entries = AllPairs (λ one other. ¬ (Cross one.0.edge other.0.edge)) entries

-- All have begun by x and end behind it; and none is above a later one, neither at x nor just behind it, at the next whole x,
-- which all of them span too.
pub record IsSortedAt (x : ℤ) (entries : List Entry) : Type 0 where
  pub active : All (λ entry. (entry.0.edge.x0 ≤ℤ x) × (x <ℤ entry.0.edge.x1)) entries
  pub here : AllPairs (λ one other. IsUpto one.0.edge other.0.edge x) entries
  pub behind : AllPairs (λ one other. IsUpto one.0.edge other.0.edge (x +ℤ pos 1)) entries

-- Some entries that have expired at x are gone, and the entry has joined the others, behind all live ones that are below it and
-- before all that are above.
pub record JoinsAt (x : ℤ) (entry : Entry) (before after : List Entry) : Type 0 where
  pub front : List Entry
  pub back : List Entry
  pub kept : Without (IsExpiredAt x) before (front ++ back)
  pub place : after ≡ front ++ entry ∷ back
  pub below : All (λ other. cmp_active other.0 entry.0 ≡ Less) (live_entries x front)
  pub above : All (λ other. cmp_active other.0 entry.0 ≡ Greater) (live_entries x back)

-- ---- by neighbours

-- R holds of each two that stand next to each other
abbrev pub Adjacent : {X : Type 0} → (X → X → Type 0) → List X → Type 0
Adjacent R [] = ⊤
Adjacent R (x ∷ []) = ⊤
Adjacent R (x ∷ y ∷ rest) = R x y × Adjacent R (y ∷ rest)

-- The edges that have begun and whose end isn't served, where the sweep has come to x: all go to the right and span x; they
-- stand in the order along the status, and by their heights at x; and two that are next to each other and live at x don't
-- cross. Where all are live they are sorted just behind x too, so that neighbours are all that has to be checked.
pub record IsLineAt (x : ℤ) (line : List Entry) : Type 0 where
  pub onwards : All (λ entry. entry.0.edge.x0 <ℤ entry.0.edge.x1) line
  pub spans : All (λ entry. (entry.0.edge.x0 ≤ℤ x) × (x ≤ℤ entry.0.edge.x1)) line
  pub order : AllPairs (λ one other. cmp_active one.0 other.0 ≡ Less) line
  pub sorted : AllPairs (λ one other. IsUpto one.0.edge other.0.edge x) line
  pub adjacent : Adjacent (λ one other. x <ℤ one.0.edge.x1 → x <ℤ other.0.edge.x1 → ¬ (Cross one.0.edge other.0.edge)) line

-- all of the line is live at x
abbrev pub AllLiveAt : ℤ → List Entry → Type 0
AllLiveAt x line = All (λ entry. x <ℤ entry.0.edge.x1) line
