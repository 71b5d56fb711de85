-- Of the pairs in which each stands: how many, and the best.
use Rattle.std.proofs.Common.{◌≡◌, ◌≢◌, ℕ, zero, suc, ◌<◌, inl, inr, true, false, List, [], ◌∷◌, ◌++◌, Option, Some, None, IfSome, IsSomeAnd, length, length-set, get_or, set, refl, sym, ◌∙◌, subst, arith, get_or-set_other, get_or-set_same}
use Rattle.std.specs.List.{Contains}
use Rattle.std.proofs.lemmas.Bool.{cases_eq}
use Rattle.std.proofs.lemmas.Bool.Decides.{nat_tests}
use Rattle.std.proofs.lemmas.List.Elements.{All-push, All-weaker, Contains-push}
use Rattle.layers.specs.Parents.{AreBest, IsBest, IsNoBetter, is_of}

-- ---- the best

IsNoBetter-chain : (depths : List ℕ) (one other third : ℕ) → IsNoBetter depths one other → IsNoBetter depths other third → IsNoBetter depths one third
IsNoBetter-chain depths one other third (inl less) (inl more) = inl (omega (arith, less, more))
IsNoBetter-chain depths one other third (inl less) (inr (same, order)) = inl (omega (arith, less, same))
IsNoBetter-chain depths one other third (inr (same, order)) (inl more) = inl (omega (arith, same, more))
IsNoBetter-chain depths one other third (inr (same, order)) (inr (as_well, other_order)) = inr (omega (arith, same, as_well), omega (arith, order, other_order))

Contains-before : {X : Type 0} (xs : List X) (x y : X) → Contains xs x → Contains (xs ++ y ∷ []) x
Contains-before [] x y (k, within, is) = absurd (omega (arith, within))
Contains-before (z ∷ zs) x y (zero, within, is) = (0, omega arith, is)
Contains-before (z ∷ zs) x y (suc k, within, is) = let (j, inside, same) = Contains-before zs x y (k, omega (arith, within), is) in (suc j, omega (arith, inside), same)

module _ (depths : List ℕ) (pairs : List (ℕ × ℕ)) where
  -- the best stays the best where the next pair isn't of it
  IsBest-other : (place : ℕ) (best : Option ℕ) (pair : ℕ × ℕ) → is_of place pair ≡ false → IsBest depths pairs place best → IsBest depths (pairs ++ pair ∷ []) place best
  IsBest-other place None pair away are = All-push (λ (it : ℕ × ℕ). is_of place it ≡ false) pairs pair are away
  IsBest-other place (Some best) pair away (there, other, all) = (
    Contains-before pairs (place, best) pair there,
    other,
    All-push (λ (it : ℕ × ℕ). is_of place it ≡ true → IsNoBetter depths it.1 best) pairs pair all (λ is. absurd (cc)),
  )

  -- and where it is no better
  IsBest-kept : (place best around : ℕ) → IsNoBetter depths around best → IsBest depths pairs place (Some best) → IsBest depths (pairs ++ (place, around) ∷ []) place (Some best)
  IsBest-kept place best around worse (there, other, all) = (
    Contains-before pairs (place, best) (place, around) there,
    other,
    All-push (λ (it : ℕ × ℕ). is_of place it ≡ true → IsNoBetter depths it.1 best) pairs (place, around) all (λ is. worse),
  )

  -- else it is the next one
  IsBest-taken : (place around : ℕ) (best : Option ℕ) → place ≢ around → IfSome best (λ other. IsNoBetter depths other around) → IsBest depths pairs place best → IsBest depths (pairs ++ (place, around) ∷ []) place (Some around)
  IsBest-taken place around None differ better none = (
    Contains-push pairs (place, around),
    differ,
    All-push (λ (it : ℕ × ℕ). is_of place it ≡ true → IsNoBetter depths it.1 around) pairs (place, around)
        (All-weaker (λ (it : ℕ × ℕ). is_of place it ≡ false) (λ (it : ℕ × ℕ). is_of place it ≡ true → IsNoBetter depths it.1 around) (λ it away is. absurd (cc)) pairs none)
        (λ is. inr (refl, omega arith)),
  )
  IsBest-taken place around (Some best) differ better (there, other, all) = (
    Contains-push pairs (place, around),
    differ,
    All-push (λ (it : ℕ × ℕ). is_of place it ≡ true → IsNoBetter depths it.1 around) pairs (place, around)
        (All-weaker (λ (it : ℕ × ℕ). is_of place it ≡ true → IsNoBetter depths it.1 best) (λ (it : ℕ × ℕ). is_of place it ≡ true → IsNoBetter depths it.1 around) (λ it worse is. IsNoBetter-chain depths it.1 best around (worse is) better) pairs all)
        (λ is. inr (refl, omega arith)),
  )

-- ---- a step of the loops

module _ (depths : List ℕ) (pairs : List (ℕ × ℕ)) (found : List (Option ℕ)) (place around : ℕ) (are : AreBest depths pairs found) (within : place < length depths) where
  other-place : (k : ℕ) → k ≢ place → is_of k (place, around) ≡ false
  other-place k away = grind (arith, nat_tests)

  -- the pair is of one and itself
  pub AreBest-same : place ≡ around → AreBest depths (pairs ++ (place, around) ∷ []) found
  AreBest-same same = record {
    size = are.size;
    each = λ k inside. IsBest-other depths pairs k (get_or found k None) (place, around) (let no : is_of k (place, around) ≡ false = grind (arith, nat_tests) in no) (are.each k inside);
  }

  -- the best so far is as good
  pub AreBest-kept : IsSomeAnd (get_or found place None) (λ other. IsNoBetter depths around other) → AreBest depths (pairs ++ (place, around) ∷ []) found
  AreBest-kept worse = record {
    size = are.size;
    each = λ k inside. elim (cases_eq k place) [
      | inl here ↦ subst (λ (at : ℕ). IsBest depths (pairs ++ (place, around) ∷ []) at (get_or found at None)) (sym here) (kept (get_or found place None) worse (are.each place within))
      | inr away ↦ IsBest-other depths pairs k (get_or found k None) (place, around) (other-place k away) (are.each k inside)
    ];
  } where
    kept : (best : Option ℕ) → IsSomeAnd best (λ other. IsNoBetter depths around other) → IsBest depths pairs place best → IsBest depths (pairs ++ (place, around) ∷ []) place best
    kept None none is = absurd none
    kept (Some best) no_better is = IsBest-kept depths pairs place best around no_better is

  -- the pair has a better one
  pub AreBest-taken : place ≢ around → IfSome (get_or found place None) (λ other. IsNoBetter depths other around) → AreBest depths (pairs ++ (place, around) ∷ []) (set found place (Some around))
  AreBest-taken differ better = record {
    size = length-set found place (Some around) ∙ are.size;
    each = λ k inside. elim (cases_eq k place) [
      | inl here ↦ subst (λ (at : ℕ). IsBest depths (pairs ++ (place, around) ∷ []) at (get_or (set found place (Some around)) at None)) (sym here)
          (subst (λ (best : Option ℕ). IsBest depths (pairs ++ (place, around) ∷ []) place best) (sym (get_or-set_same found place (Some around) None (let size = are.size in omega (arith, size, within))))
          (IsBest-taken depths pairs place around (get_or found place None) differ better (are.each place within)))
      | inr away ↦ subst (λ (best : Option ℕ). IsBest depths (pairs ++ (place, around) ∷ []) k best) (sym (get_or-set_other found place k (Some around) None away))
          (IsBest-other depths pairs k (get_or found k None) (place, around) (other-place k away) (are.each k inside))
    ];
  }
