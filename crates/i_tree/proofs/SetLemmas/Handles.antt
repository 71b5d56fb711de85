-- The handles of a set in a tree.
use Rattle.std.proofs.Common.{◌≡◌, ◌≢◌, ℕ, ◌≤◌, List, [], ◌∷◌, sym, ◌∙◌, arith}
use Rattle.std.specs.List.{All, AllPairs}
use Rattle.std.proofs.lemmas.List.Elements.{All-nil, All-cons}
use Rattle.std.proofs.lemmas.List.Kept.{AllPairs-cons}
use Rattle.i_tree.proofs.RootLemmas.Joined.{AllPairs-nil}
use Rattle.i_tree.specs.declared.TheConstants.{EMPTY_REF}
use Rattle.i_tree.specs.Set.Pairs.{AreApart}
use Rattle.i_tree.specs.Rb.Shape.{Shape, entries, AreHandles}
use Rattle.i_tree.proofs.RbLemmas.Shape.Contexts.{one_if_same-same, one_if_same-cases, occurs_among, occurs_among-entries}

module _ {V : Type 0} where
  all_other : (handle : ℕ) (pairs : List (ℕ × V)) → occurs_among handle pairs ≡ 0 → All (λ pair. handle ≢ pair.0) pairs
  all_other handle [] none = All-nil (λ (pair : ℕ × V). handle ≢ pair.0)
  all_other handle (pair ∷ rest) none =
      All-cons (λ (other : ℕ × V). handle ≢ other.0) pair rest ((one_if_same-cases handle pair.0).0 (omega arith)) (all_other handle rest (omega arith))

  pub none_is : (handle : ℕ) (pairs : List (ℕ × V)) → occurs_among handle pairs ≡ 0 → All (λ pair. pair.0 ≢ handle) pairs
  none_is handle [] none = All-nil (λ (pair : ℕ × V). pair.0 ≢ handle)
  none_is handle (pair ∷ rest) none =
      All-cons (λ (other : ℕ × V). other.0 ≢ handle) pair rest
      (λ same. (one_if_same-cases handle pair.0).0 (omega arith) (sym same)) (none_is handle rest (omega arith))

  each_once : (pairs : List (ℕ × V)) → ((handle : ℕ) → occurs_among handle pairs ≤ 1) → AllPairs (λ first second. first.0 ≢ second.0) pairs
  each_once [] once = AllPairs-nil (λ (first : ℕ × V) (second : ℕ × V). first.0 ≢ second.0)
  each_once (pair ∷ rest) once =
      AllPairs-cons (λ (first : ℕ × V) (second : ℕ × V). first.0 ≢ second.0) pair rest
      (all_other pair.0 rest (let here = one_if_same-same pair.0 in omega (arith, once pair.0)))
      (each_once rest (λ handle. omega (arith, once handle)))

  pub AreApart-from_handles : (tree : Shape V) → AreHandles tree → AreApart (entries tree)
  AreApart-from_handles tree handles = (
    each_once (entries tree) (λ handle. omega (arith, occurs_among-entries handle tree, handles.apart handle)),
    none_is EMPTY_REF (entries tree) (occurs_among-entries EMPTY_REF tree ∙ handles.none_empty),
  )
