-- Pairs are places of the lists whose items they name.
use Rattle.std.proofs.Common.{◌≡◌, ◌⊎◌, inl, inr, ℕ, ◌<◌, Option, Some, None, List, ◌++◌, length, get_or, drop, ap, sym, ◌∙◌, subst}
use Rattle.std.specs.List.{All}
use Rattle.std.specs.Option.{IfSome, MatchOption}
use Rattle.std.proofs.Math.Seq.{drop-append_seam}
use Rattle.std.proofs.lemmas.List.Elements.{Contains-get_or}
use Rattle.std.proofs.lemmas.Option.{slice_get_within}
use Rattle.plane.specs.Pairs.Pairs.{PairAt, PairBetween, ArePairs, ArePairsBetween, AreMoreThan, GainsAll}

-- a pair of one list
pair_within : {X : Type 0} (Meeting : X → X → Type 0) (items : List X) (i j : ℕ) → PairAt Meeting items i j → (i < j) × (j < length items)
pair_within Meeting items i j pair = (pair.rising, slice_get_within items j pair.other pair.second)

-- and of two
between_within : {X Y : Type 0} (Meeting : X → Y → Type 0) (items : List X) (others : List Y) (i j : ℕ) → PairBetween Meeting items others i j → (i < length items) × (j < length others)
between_within Meeting items others i j pair = (slice_get_within items i pair.one pair.first, slice_get_within others j pair.other pair.second)

-- what holds of the pairs that a list gains holds of what is behind those that it had
gained : (P : ℕ × ℕ → Type 0) (before after pairs : List (ℕ × ℕ)) → after ≡ before ++ pairs → All P pairs → All P (drop (length before) after)
gained P before after pairs is all = subst (All P) (sym (ap (drop (length before)) is ∙ drop-append_seam before pairs)) all

pub gained-within : {X : Type 0} (Meeting : X → X → Type 0) (items : List X) (most : ℕ) (before after : List (ℕ × ℕ)) → GainsAll Meeting items most before after
    → All (λ pair. (pair.0 < pair.1) × (pair.1 < length items)) (drop (length before) after)
gained-within {X} Meeting items most before after (pairs, is, told) =
    gained (λ pair. (pair.0 < pair.1) × (pair.1 < length items)) before after pairs is
    (λ k d within. let pair = get_or pairs k d in pair_within Meeting items pair.0 pair.1 (of told k d within))
  where
    of : ArePairs Meeting items pairs ⊎ AreMoreThan Meeting items most pairs → (k : ℕ) (d : ℕ × ℕ) → k < length pairs → PairAt Meeting items (get_or pairs k d).0 (get_or pairs k d).1
    of (inl are) k d within = (are.exact (get_or pairs k d).0 (get_or pairs k d).1).0 (Contains-get_or pairs k d within)
    of (inr some) k d within = some.of k d within

-- and of a pair that is found
pub found-within : {X : Type 0} (Meeting : X → X → Type 0) (items : List X) (found : Option (ℕ × ℕ)) → MatchOption found ((i j : ℕ) → ¬ (PairAt Meeting items i j)) (λ pair. PairAt Meeting items pair.0 pair.1)
    → IfSome found (λ pair. (pair.0 < pair.1) × (pair.1 < length items))
found-within Meeting items None none = tt
found-within Meeting items (Some pair) meet = pair_within Meeting items pair.0 pair.1 meet

pub gained_between-within : {X Y : Type 0} (Meeting : X → Y → Type 0) (items : List X) (others : List Y) (before after : List (ℕ × ℕ)) → (pairs : List (ℕ × ℕ)) × (after ≡ before ++ pairs) × ArePairsBetween Meeting items others pairs
    → All (λ pair. (pair.0 < length items) × (pair.1 < length others)) (drop (length before) after)
gained_between-within Meeting items others before after (pairs, is, are) =
    gained (λ pair. (pair.0 < length items) × (pair.1 < length others)) before after pairs is
    (λ k d within. let pair = get_or pairs k d in between_within Meeting items others pair.0 pair.1 ((are.exact pair.0 pair.1).0 (Contains-get_or pairs k d within)))
