-- The ends of a list.
use Rattle.std.specs.Prelude.{⊤, ◌≡◌, ◌⊎◌, List, [], ◌∷◌, ◌++◌}

-- the first element, if there is one, meets P
abbrev pub StartsIn : {X : Type 0} → (X → Type 0) → List X → Type 0
StartsIn P [] = ⊤
StartsIn P (x ∷ xs) = P x

-- the last element, if there is one, meets P
abbrev pub EndsIn : {X : Type 0} → (X → Type 0) → List X → Type 0
EndsIn {X} P xs = (xs ≡ []) ⊎ ((rest : List X) × (last : X) × (xs ≡ rest ++ last ∷ []) × P last)

-- what was found at the first element, or nothing where there is none
abbrev pub FirstFinds : {X A : Type 0} → (X → A → Type 0) → A → List X → A → Type 0
FirstFinds Finds nothing [] found = found ≡ nothing
FirstFinds Finds nothing (x ∷ xs) found = Finds x found

-- what was found at the last element, or nothing where there is none
abbrev pub LastFinds : {X A : Type 0} → (X → A → Type 0) → A → List X → A → Type 0
LastFinds {X} Finds nothing xs found =
    ((xs ≡ []) × (found ≡ nothing))
    ⊎ ((rest : List X) × (last : X) × (xs ≡ rest ++ last ∷ []) × Finds last found)
