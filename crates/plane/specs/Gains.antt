-- Lists that gain items, of which each may come more than once. For private contracts.
use Rattle.std.specs.Prelude.{◌↔◌, ◌⊎◌, List, Contains}

-- The list gains these and no other ones, each as often as you like.
abbrev pub GainsThese : {Y : Type 0} → (Y → Type 0) → List Y → List Y → Type 0
GainsThese {Y} Is before after = (y : Y) → Contains after y ↔ (Contains before y ⊎ Is y)

-- It stands so to one of the items.
abbrev pub IsOfSome : {X Y : Type 0} → (X → Y → Type 0) → List X → Y → Type 0
IsOfSome {X} Is items y = (x : X) × Contains items x × Is x y

-- The lists have the same items, each as often as you like.
abbrev pub HaveSame : {Y : Type 0} → List Y → List Y → Type 0
HaveSame {Y} before after = (y : Y) → Contains after y ↔ Contains before y
