-- A handle is live in a tree exactly where a value of the tree's entries has it.
use Rattle.std.proofs.Common.{◌≡◌, ◌==◌, ℕ, ◌<◌, Bool, true, false, List, [], ◌∷◌, refl, sym, ap, ◌∙◌, ⊎_elim, arith}
use Rattle.std.proofs.lemmas.Bool.{eqb-true, cases_lt}
use Rattle.i_tree.proofs.RbLemmas.Shape.Contexts.{occurs_among, occurs_among-entries}
use Rattle.i_tree.proofs.SetLemmas.Handles.{none_is}
use Rattle.i_tree.proofs.RootLemmas.Joined.{Any-here, Any-there}
use Rattle.i_tree.specs.Rb.Shape.{Shape, entries, occurs, one_if_same}
use Rattle.i_tree.specs.Set.Pairs.{HasHandle, LacksHandle}

module _ {V : Type 0} where
  -- a handle that stands in the pairs has a value there, and one that does not has none
  HasHandle-among : (wanted : ℕ) (pairs : List (ℕ × V)) → 0 < occurs_among wanted pairs → HasHandle pairs wanted
  HasHandle-among wanted [] some = absurd (omega (arith, some))
  HasHandle-among wanted (pair ∷ rest) some = by_test (wanted == pair.0) refl (HasHandle-among wanted rest)
    where
      by_test : (b : Bool) → wanted == pair.0 ≡ b → (0 < occurs_among wanted rest → HasHandle rest wanted) → HasHandle (pair ∷ rest) wanted
      by_test true same in_rest = Any-here (λ other. other.0 ≡ wanted) pair rest (sym (eqb-true wanted pair.0 same))
      by_test false differs in_rest =
          let apart : one_if_same wanted pair.0 ≡ 0 = rw differs refl in
          Any-there (λ other. other.0 ≡ wanted) pair rest (in_rest (omega (arith, some, apart)))

  pub HasHandle-live : (wanted : ℕ) (tree : Shape V) → 0 < occurs wanted tree → HasHandle (entries tree) wanted
  HasHandle-live wanted tree live = HasHandle-among wanted (entries tree) (omega (arith, occurs_among-entries wanted tree, live))

  pub LacksHandle-absent : (wanted : ℕ) (tree : Shape V) → occurs wanted tree ≡ 0 → LacksHandle (entries tree) wanted
  LacksHandle-absent wanted tree none = none_is wanted (entries tree) (occurs_among-entries wanted tree ∙ none)

  live_from-lacks : (wanted : ℕ) (pairs : List (ℕ × V)) → HasHandle pairs wanted → LacksHandle pairs wanted → ⊥
  live_from-lacks wanted pairs (k, pair, within, is, same) none = none k pair within (ap (λ (other : ℕ × V). other.0) is ∙ same)

  pub live-HasHandle : (wanted : ℕ) (tree : Shape V) → HasHandle (entries tree) wanted → 0 < occurs wanted tree
  live-HasHandle wanted tree has =
      ⊎_elim (λ live. live) (λ none. absurd (live_from-lacks wanted (entries tree) has (LacksHandle-absent wanted tree (omega arith)))) (cases_lt 0 (occurs wanted tree))
