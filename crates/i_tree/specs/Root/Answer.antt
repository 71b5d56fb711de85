-- What a query answers from a list of pairs, in whatever order the pairs stand. `cmp` compares keys.
use Rattle.std.specs.Prelude.{◌≡◌, ◌≢◌, ◌≤◌, ◌⊎◌, List, All, Any, Contains}
use Rattle.std.specs.Ordering.{ordering_index}
use Rattle.std.specs.declared.cmp.Ordering.{Ordering}
use Rattle.std.specs.declared.cmp.Ordering.TheVariants.{Less, Equal, Greater}

-- at each key of the list, whatever a closure may answer is what the order says
abbrev pub AnswersBy : {K V : Type 0} → (K → Ordering → Type 0) → (K → Ordering) → List (K × V) → Type 0
AnswersBy may_answer order pairs = All (λ pair. (answer : Ordering) → may_answer pair.0 answer → answer ≡ order pair.0) pairs

module _ {K V : Type 0} (cmp : K → K → Ordering) where
  -- of the pairs whose keys meet P, this one has the greatest key
  pub record IsGreatest (P : K → Type 0) (pairs : List (K × V)) (pair : K × V) : Type 0 where
    pub contained : Contains pairs pair
    pub meets : P pair.0
    pub none_above : All (λ other. P other.0 → cmp other.0 pair.0 ≢ Greater) pairs

  -- the value of the greatest key that meets P, or the default where no key meets it
  abbrev pub GreatestOr : (K → Type 0) → List (K × V) → V → V → Type 0
  GreatestOr P pairs default value =
      ((pair : K × V) × IsGreatest P pairs pair × (value ≡ pair.1))
      ⊎ (All (λ pair. ¬ (P pair.0)) pairs × (value ≡ default))

  -- of the pairs whose keys meet P, this one has the least key
  pub record IsLeast (P : K → Type 0) (pairs : List (K × V)) (pair : K × V) : Type 0 where
    pub contained : Contains pairs pair
    pub meets : P pair.0
    pub none_below : All (λ other. P other.0 → cmp other.0 pair.0 ≢ Less) pairs

  -- the value of the least key that meets P, or the default where no key meets it
  abbrev pub LeastOr : (K → Type 0) → List (K × V) → V → V → Type 0
  LeastOr P pairs default value =
      ((pair : K × V) × IsLeast P pairs pair × (value ≡ pair.1))
      ⊎ (All (λ pair. ¬ (P pair.0)) pairs × (value ≡ default))

  -- the value of the greatest key below this one, or the default where none is below it
  abbrev pub Below : List (K × V) → K → V → V → Type 0
  Below pairs key default value = GreatestOr (λ other. cmp other key ≡ Less) pairs default value

  -- the value of a key that the order calls Equal, else of the greatest that it calls Less, else the default
  abbrev pub AtMost : List (K × V) → (K → Ordering) → V → V → Type 0
  AtMost pairs order default value =
      Any (λ pair. (order pair.0 ≡ Equal) × (value ≡ pair.1)) pairs
      ⊎ (All (λ pair. order pair.0 ≢ Equal) pairs × GreatestOr (λ key. order key ≡ Less) pairs default value)

  -- the value of the least key that the order calls Greater, or the default where it calls none so
  abbrev pub Above : List (K × V) → (K → Ordering) → V → V → Type 0
  Above pairs order default value = LeastOr (λ key. order key ≡ Greater) pairs default value

  -- for two keys of the list, the lower one never comes after the other in the order Less, Equal, Greater
  abbrev pub IsMonotone : (K → Ordering) → List (K × V) → Type 0
  IsMonotone order pairs =
      All (λ lower. All (λ upper. cmp lower.0 upper.0 ≡ Less → ordering_index (order lower.0) ≤ ordering_index (order upper.0)) pairs) pairs

  -- what a query by a closure answers: whatever order the closure answers by, where that is monotone, the value is at most
  -- by it
  abbrev pub AtMostBy : (K → Ordering → Type 0) → List (K × V) → V → V → Type 0
  AtMostBy may_answer pairs default value =
      (order : K → Ordering) → AnswersBy may_answer order pairs → IsMonotone order pairs → AtMost pairs order default value

  -- whatever order the closure answers by, where that is monotone, the value is above by it
  abbrev pub AboveBy : (K → Ordering → Type 0) → List (K × V) → V → V → Type 0
  AboveBy may_answer pairs default value =
      (order : K → Ordering) → AnswersBy may_answer order pairs → IsMonotone order pairs → Above pairs order default value
