-- The table of long stretches, part by part.
use Rattle.std.proofs.Common.{◌≡◌, inl, inr, ℕ, ◌+◌, ◌<◌, List, [], ◌∷◌, ◌++◌, get_or, length, sym, ap, ◌∙◌, subst, arith, IsPermutation}
use Rattle.std.specs.List.{Contains}
use Rattle.std.proofs.lemmas.Bool.{cases_lt}
use Rattle.std.proofs.lemmas.List.{get_or_default}
use Rattle.std.proofs.lemmas.List.Elements.{All-nil, All-push, All-weaker, Contains-append_left, Contains-push}
use Rattle.std.proofs.lemmas.List.Sorted.{All-permutation, Contains-permutation}
use Rattle.monotone_chains.specs.Stretches.{IsLong}
use Rattle.monotone_chains.specs.Stretches.Cut.{way}
use Rattle.monotone_chains.specs.Stretches.Widening.{HasLong, entry_of}
use Rattle.monotone_chains.specs.declared.stretches.parts.Part.{Part}
use Rattle.monotone_chains.specs.declared.stretches.widening.LongStretch.{LongStretch}

module _ (parts : List Part) where
  -- the entry is that of a long part before this place
  abbrev IsOneBefore : ℕ → LongStretch → Type 0
  IsOneBefore upto entry = (k : ℕ) × (k < upto) × ((d : Part) → IsLong (way (get_or parts k d)) × (entry ≡ entry_of k (get_or parts k d)))

  pub HasLong-none : HasLong parts 0 []
  HasLong-none = record {
    each = All-nil (IsOneBefore 0);
    all = λ k d before long. absurd (omega (arith, before));
  }

  one_more : (upto : ℕ) (entry : LongStretch) → IsOneBefore upto entry → IsOneBefore (upto + 1) entry
  one_more upto entry (k, before, is) = (k, omega (arith, before), is)

  module _ (upto : ℕ) (table : List LongStretch) (part : Part) (inside : upto < length parts) (here : get_or parts upto part ≡ part) (has : HasLong parts upto table) where
    at : (d : Part) → get_or parts upto d ≡ part
    at d = get_or_default parts upto d part inside ∙ here

    -- one more, which is appended if it is long
    HasLong-long : IsLong (way part) → HasLong parts (upto + 1) (table ++ entry_of upto part ∷ [])
    HasLong-long long = record {
      each = All-push (IsOneBefore (upto + 1)) table (entry_of upto part) (All-weaker (IsOneBefore upto) (IsOneBefore (upto + 1)) (one_more upto) table has.each)
          (upto, omega arith, λ d. (subst (λ (p : Part). IsLong (way p)) (sym (at d)) long, ap (entry_of upto) (sym (at d))));
      all = λ k d before other. elim (cases_lt k upto) [
        | inl earlier ↦ Contains-append_left table (entry_of upto part ∷ []) (entry_of k (get_or parts k d)) (has.all k d earlier other)
        | inr last ↦
            let same : upto ≡ k = omega (arith, last, before) in
            subst (λ (n : ℕ). Contains (table ++ entry_of upto part ∷ []) (entry_of n (get_or parts n d))) same
            (subst (λ (p : Part). Contains (table ++ entry_of upto part ∷ []) (entry_of upto p)) (sym (at d)) (Contains-push table (entry_of upto part)))
      ];
    }

    HasLong-short : ¬ (IsLong (way part)) → HasLong parts (upto + 1) table
    HasLong-short short = record {
      each = All-weaker (IsOneBefore upto) (IsOneBefore (upto + 1)) (one_more upto) table has.each;
      all = λ k d before other. elim (cases_lt k upto) [
        | inl earlier ↦ has.all k d earlier other
        | inr last ↦
            let same : k ≡ upto = omega (arith, last, before) in
            absurd (short (subst (λ (p : Part). IsLong (way p)) (at d) (subst (λ (n : ℕ). IsLong (way (get_or parts n d))) same other)))
      ];
    }

    pub HasLong-more : (table' : List LongStretch) → (IsLong (way part) → table' ≡ table ++ entry_of upto part ∷ []) → (¬ (IsLong (way part)) → table' ≡ table) → HasLong parts (upto + 1) table'
    HasLong-more table' long short = elim (cases_lt 2 (length (way part))) [
      | inl several ↦ subst (HasLong parts (upto + 1)) (sym (long several)) (HasLong-long several)
      | inr few ↦
          let none : ¬ (IsLong (way part)) = λ several. omega (arith, several, few) in
          subst (HasLong parts (upto + 1)) (sym (short none)) (HasLong-short none)
    ]

  pub HasLong-permuted : (upto : ℕ) (table table' : List LongStretch) → IsPermutation table table' → HasLong parts upto table → HasLong parts upto table'
  HasLong-permuted upto table table' permuted has = record {
    each = All-permutation (IsOneBefore upto) table table' permuted has.each;
    all = λ k d before long. Contains-permutation table table' (entry_of k (get_or parts k d)) permuted (has.all k d before long);
  }
