-- Lists of pairs of a key and a value. `cmp` compares keys, and keys that it calls `Equal` are one place.
use Rattle.std.specs.Prelude.{◌≡◌, ◌≢◌, Bool, List, All, Any, AllPairs, MatchBool}
use Rattle.std.specs.declared.cmp.Ordering.{Ordering}
use Rattle.std.specs.declared.cmp.Ordering.TheVariants.{Less, Equal}

module _ {K V : Type 0} (cmp : K → K → Ordering) where
  -- some key of the list compares Equal
  abbrev pub HasKey : List (K × V) → K → Type 0
  HasKey pairs key = Any (λ pair. cmp pair.0 key ≡ Equal) pairs

  -- no key of the list compares Equal
  abbrev pub NoKey : List (K × V) → K → Type 0
  NoKey pairs key = All (λ pair. cmp pair.0 key ≢ Equal) pairs

  -- no key of the list compares Equal where it is new, and else some key does
  abbrev pub IsNewKey : List (K × V) → K → Bool → Type 0
  IsNewKey pairs key is_new = MatchBool is_new (NoKey pairs key) (HasKey pairs key)

  -- each key is below all later ones
  abbrev pub IsRising : List (K × V) → Type 0
  IsRising pairs = AllPairs (λ earlier later. cmp earlier.0 later.0 ≡ Less) pairs
