-- Of the items of a list that pass a test the first one, in an order that is decided.
use Rattle.std.proofs.Common.{◌⊎◌, inl, inr, zero, suc, List, [], ◌∷◌, subst, arith}
use Rattle.std.specs.List.{Contains}
use Rattle.i_tree.proofs.RootLemmas.Lists.{Contains-here, Contains-there}

module _ {X : Type 0} (P : X → Type 0) (Before : X → X → Type 0) (decided : (x y : X) → P x → P y → Before x y ⊎ (¬ (Before x y))) (itself : (x : X) → P x → ¬ (Before x x))
    (trans : (x y z : X) → P x → P y → P z → Before x y → Before y z → Before x z) where
  -- It is in the list, passes the test, and none that does comes before it.
  pub record IsFirstOf (xs : List X) (x : X) : Type 0 where
    pub among : Contains xs x
    pub is : P x
    pub none : (y : X) → Contains xs y → P y → ¬ (Before y x)

  -- what holds of the first one and of the others
  both : (Q : X → Type 0) (x : X) (xs : List X) → Q x → ((y : X) → Contains xs y → Q y) → (y : X) → Contains (x ∷ xs) y → Q y
  both Q x xs here there y (zero, within, is) = subst Q is here
  both Q x xs here there y (suc k, within, is) = there y (k, omega (arith, within), is)

  taken : (x : X) (xs : List X) → P x → (best : X) → IsFirstOf xs best → Before x best ⊎ (¬ (Before x best)) → (first : X) × IsFirstOf (x ∷ xs) first
  taken x xs is best first (inl before) = (
    x,
    record {
      among = Contains-here x xs;
      is = is;
      none = both (λ y. P y → ¬ (Before y x)) x xs (λ passes. itself x passes) (λ y held passes comes. first.none y held passes (trans y x best passes is first.is comes before));
    },
  )
  taken x xs is best first (inr after) = (
    best,
    record {
      among = Contains-there x xs best first.among;
      is = first.is;
      none = both (λ y. P y → ¬ (Before y best)) x xs (λ passes. after) first.none;
    },
  )

  -- It is there, or no item passes.
  pub first-of : (xs : List X) → ((x : X) → Contains xs x → P x ⊎ (¬ (P x))) → ((x : X) × IsFirstOf xs x) ⊎ ((x : X) → Contains xs x → ¬ (P x))
  first-of [] told = inr nothing
    where
      nothing : (x : X) → Contains [] x → ¬ (P x)
      nothing x (k, within, is) = absurd (omega (arith, within))
  first-of (x ∷ xs) told = by (told x (Contains-here x xs)) (first-of xs (λ y held. told y (Contains-there x xs y held)))
    where
      by : P x ⊎ (¬ (P x)) → ((best : X) × IsFirstOf xs best) ⊎ ((y : X) → Contains xs y → ¬ (P y)) → ((first : X) × IsFirstOf (x ∷ xs) first) ⊎ ((y : X) → Contains (x ∷ xs) y → ¬ (P y))
      by (inl is) (inl (best, first)) = inl (taken x xs is best first (decided x best is first.is))
      by (inl is) (inr none) = inl (
        x,
        record {
          among = Contains-here x xs;
          is = is;
          none = both (λ y. P y → ¬ (Before y x)) x xs (λ passes. itself x passes) (λ y held passes. absurd (none y held passes));
        },
      )
      by (inr isnt) (inl (best, first)) = inl (
        best,
        record {
          among = Contains-there x xs best first.among;
          is = first.is;
          none = both (λ y. P y → ¬ (Before y best)) x xs (λ passes. absurd (isnt passes)) first.none;
        },
      )
      by (inr isnt) (inr none) = inr (both (λ y. ¬ (P y)) x xs isnt none)
