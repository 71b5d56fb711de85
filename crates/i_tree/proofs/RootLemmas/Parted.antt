-- A place between pairs along a line: what is said of the two beside it tells of all.
use Rattle.std.proofs.Common.{◌≡◌, ℕ, ◌≤◌, Option, None, Some, List, [], ◌∷◌, take, drop, inl, inr, sym, subst, arith}
use Rattle.std.specs.List.{All, AllPairs}
use Rattle.std.specs.Option.{IfSome}
use Rattle.std.specs.Ordering.{ordering_index}
use Rattle.std.specs.declared.cmp.Ordering.{Ordering}
use Rattle.std.specs.declared.cmp.Ordering.TheVariants.{Less, Greater}
use Rattle.std.proofs.lemmas.List.{take-append-drop}
use Rattle.std.proofs.lemmas.List.Elements.{All-drop, All-head, All-take}
use Rattle.i_tree.proofs.RootLemmas.Along.{All-above, Rises}
use Rattle.i_tree.proofs.RootLemmas.Joined.{All-behind, All-from_end, AllPairs-behind, AllPairs-front}
use Rattle.i_tree.specs.Root.Answer.{AnswersBy}
use Rattle.i_tree.specs.Root.Along.{IsMonotoneAlong}
use Rattle.i_tree.specs.Root.Ends.{FirstFinds, LastFinds, StartsIn}

module _ {X : Type 0} (P : X → Type 0) where
  -- what holds of all holds of the last that is found, and of the first
  pub IfSome-last : (xs : List X) (found : Option X) → All P xs → LastFinds (λ x held. held ≡ Some x) None xs found → IfSome found P
  IfSome-last xs found all (inl (none, is)) = subst (λ (held : Option X). IfSome held P) (sym is) tt
  IfSome-last xs found all (inr (rest, last, cut, is)) =
      subst (λ (held : Option X). IfSome held P) (sym is) (All-head P last [] (All-behind P rest (last ∷ []) (subst (All P) cut all)))

  pub IfSome-first : (xs : List X) (found : Option X) → All P xs → FirstFinds (λ x held. held ≡ Some x) None xs found → IfSome found P
  IfSome-first [] found all is = subst (λ (held : Option X). IfSome held P) (sym is) tt
  IfSome-first (x ∷ xs) found all is = subst (λ (held : Option X). IfSome held P) (sym is) (All-head P x xs all)

module _ {K V : Type 0} (order : K → Ordering) (may_answer : K → Ordering → Type 0) where
  abbrev Agrees : K × V → Type 0
  Agrees pair = (answer : Ordering) → may_answer pair.0 answer → answer ≡ order pair.0

  less_before : (pairs : List (K × V)) (found : Option (K × V)) → AllPairs (Rises order) pairs → All Agrees pairs → LastFinds (λ pair held. held ≡ Some pair) None pairs found
      → IfSome found (λ pair. may_answer pair.0 Less) → All (λ pair. order pair.0 ≡ Less) pairs
  less_before pairs found rises agree last says =
      All-from_end (Rises order) (λ pair held. held ≡ Some pair) None found (λ pair. order pair.0 ≡ Less) Agrees
      (λ earlier later below less. less_below (order earlier.0) (order later.0) below less)
      (λ pair agrees is. sym (agrees Less (subst (λ (held : Option (K × V)). IfSome held (λ pair. may_answer pair.0 Less)) is says)))
      pairs rises agree last
    where
      less_below : (r s : Ordering) → ordering_index r ≤ ordering_index s → s ≡ Less → r ≡ Less
      less_below r s below less = grind arith

  greater_first : (pairs : List (K × V)) (found : Option (K × V)) → All Agrees pairs → FirstFinds (λ pair held. held ≡ Some pair) None pairs found → IfSome found (λ pair. may_answer pair.0 Greater)
      → StartsIn (λ pair. order pair.0 ≡ Greater) pairs
  greater_first [] found agree is says = tt
  greater_first (pair ∷ rest) found agree is says =
      sym (All-head Agrees pair rest agree Greater (subst (λ (held : Option (K × V)). IfSome held (λ other. may_answer other.0 Greater)) is says))

  pub parted_beside : (pairs : List (K × V)) (place : ℕ) (found : Option (K × V) × Option (K × V)) → LastFinds (λ pair held. held ≡ Some pair) None (take place pairs) found.0 → FirstFinds (λ pair held. held ≡ Some pair) None (drop place pairs) found.1
      → IfSome found.0 (λ pair. may_answer pair.0 Less) → IfSome found.1 (λ pair. may_answer pair.0 Greater) → AnswersBy may_answer order pairs → IsMonotoneAlong order pairs
      → All (λ pair. order pair.0 ≡ Less) (take place pairs) × All (λ pair. order pair.0 ≡ Greater) (drop place pairs)
  parted_beside pairs place found before behind less greater answers monotone =
      let rises = subst (AllPairs (Rises order)) (sym (take-append-drop place pairs)) monotone in (
        less_before (take place pairs) found.0 (AllPairs-front (Rises order) (take place pairs) (drop place pairs) rises) (All-take Agrees place pairs answers) before less,
        All-above order (drop place pairs) (AllPairs-behind (Rises order) (take place pairs) (drop place pairs) rises)
            (greater_first (drop place pairs) found.1 (All-drop Agrees place pairs answers) behind greater),
      )
