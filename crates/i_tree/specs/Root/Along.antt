-- What is answered from a list of pairs in the order in which they stand along a line. No order of keys is known.
use Rattle.std.specs.Prelude.{◌≡◌, ◌≢◌, ◌≤◌, ◌⊎◌, List, ◌∷◌, ◌++◌, All, AllPairs, Any}
use Rattle.std.specs.Ordering.{ordering_index}
use Rattle.std.specs.declared.cmp.Ordering.{Ordering}
use Rattle.std.specs.declared.cmp.Ordering.TheVariants.{Less, Equal, Greater}
use Rattle.std.specs.declared.option.Option.{Option}
use Rattle.std.specs.declared.option.Option.TheVariants.{None, Some}
use Rattle.i_tree.specs.Root.Answer.{AnswersBy}

module _ {K V : Type 0} where
  -- of two pairs, the earlier one never comes after the later one in the order Less, Equal, Greater
  abbrev pub IsMonotoneAlong : (K → Ordering) → List (K × V) → Type 0
  IsMonotoneAlong order pairs = AllPairs (λ earlier later. ordering_index (order earlier.0) ≤ ordering_index (order later.0)) pairs

  -- this holds by each order that a closure's answers about these keys follow, and that is monotone along them
  abbrev pub ByEachOrder : (K → Ordering → Type 0) → List (K × V) → ((K → Ordering) → Type 0) → Type 0
  ByEachOrder may_answer pairs Holds =
      (order : K → Ordering) → AnswersBy may_answer order pairs → IsMonotoneAlong order pairs → Holds order

  -- the last pair that meets P, or none where none meets it
  abbrev pub IsLast : (K × V → Type 0) → List (K × V) → Option (K × V) → Type 0
  IsLast P pairs None = All (λ pair. ¬ (P pair)) pairs
  IsLast P pairs (Some pair) =
      (front : List (K × V)) × (back : List (K × V)) × (pairs ≡ front ++ pair ∷ back) × P pair × All (λ other. ¬ (P other)) back

  -- the first pair that meets P, or none where none meets it
  abbrev pub IsFirst : (K × V → Type 0) → List (K × V) → Option (K × V) → Type 0
  IsFirst P pairs None = All (λ pair. ¬ (P pair)) pairs
  IsFirst P pairs (Some pair) =
      (front : List (K × V)) × (back : List (K × V)) × (pairs ≡ front ++ pair ∷ back) × P pair × All (λ other. ¬ (P other)) front

  -- the value of a pair, or the default where there is none
  abbrev pub value_or : V → Option (K × V) → V
  value_or default None = default
  value_or default (Some pair) = pair.1

  -- the value of the last pair that meets P, or the default where none meets it
  abbrev pub LastOr : (K × V → Type 0) → List (K × V) → V → V → Type 0
  LastOr P pairs default value = (found : Option (K × V)) × IsLast P pairs found × (value ≡ value_or default found)

  -- the value of the first pair that meets P, or the default where none meets it
  abbrev pub FirstOr : (K × V → Type 0) → List (K × V) → V → V → Type 0
  FirstOr P pairs default value = (found : Option (K × V)) × IsFirst P pairs found × (value ≡ value_or default found)

  -- the order calls some pair Equal
  abbrev pub HasEqual : (K → Ordering) → List (K × V) → Type 0
  HasEqual order pairs = Any (λ pair. order pair.0 ≡ Equal) pairs

  -- the order calls no pair Equal
  abbrev pub NoneEqual : (K → Ordering) → List (K × V) → Type 0
  NoneEqual order pairs = All (λ pair. order pair.0 ≢ Equal) pairs

  -- the value of a pair that the order calls Equal, else of the last that it calls Less, else the default
  abbrev pub AtMostAlong : (K → Ordering) → List (K × V) → V → V → Type 0
  AtMostAlong order pairs default value =
      Any (λ pair. (order pair.0 ≡ Equal) × (value ≡ pair.1)) pairs
      ⊎ (NoneEqual order pairs × LastOr (λ pair. order pair.0 ≡ Less) pairs default value)

  -- the value of the first pair that the order calls Greater, or the default where it calls none so
  abbrev pub AboveAlong : (K → Ordering) → List (K × V) → V → V → Type 0
  AboveAlong order pairs default value = FirstOr (λ pair. order pair.0 ≡ Greater) pairs default value

  -- the last pair that the order doesn't call Greater, and the first that it does
  abbrev pub AreNeighbours : (K → Ordering) → List (K × V) → Option (K × V) × Option (K × V) → Type 0
  AreNeighbours order pairs found =
      IsLast (λ pair. order pair.0 ≢ Greater) pairs found.0 × IsFirst (λ pair. order pair.0 ≡ Greater) pairs found.1

  -- by each order that a closure's answers follow, the value of a pair that it calls Equal, else of the last that it calls Less
  abbrev pub AtMostAlongBy : (K → Ordering → Type 0) → List (K × V) → V → V → Type 0
  AtMostAlongBy may_answer pairs default value = ByEachOrder may_answer pairs (λ order. AtMostAlong order pairs default value)

  -- by each order that a closure's answers follow, the value of the first pair that it calls Greater
  abbrev pub AboveAlongBy : (K → Ordering → Type 0) → List (K × V) → V → V → Type 0
  AboveAlongBy may_answer pairs default value = ByEachOrder may_answer pairs (λ order. AboveAlong order pairs default value)

  -- by each order that a closure's answers follow, the last pair that it doesn't call Greater, and the first that it does
  abbrev pub AreNeighboursBy : (K → Ordering → Type 0) → List (K × V) → Option (K × V) × Option (K × V) → Type 0
  AreNeighboursBy may_answer pairs found = ByEachOrder may_answer pairs (λ order. AreNeighbours order pairs found)

  -- each order that a closure's answers follow calls no pair Equal
  abbrev pub NoneEqualBy : (K → Ordering → Type 0) → List (K × V) → Type 0
  NoneEqualBy may_answer pairs = ByEachOrder may_answer pairs (λ order. NoneEqual order pairs)
