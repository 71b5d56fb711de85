-- All pairs, where there are no more than so many of them.
use Rattle.std.proofs.Common.{◌≡◌, ◌⊎◌, inl, inr, ℕ, ◌<◌, ◌≤◌, List, ◌++◌, length, get_or, leb, length-append, ap, arith}
use Rattle.std.specs.Bool.{MatchBool}
use Rattle.std.proofs.lemmas.Bool.{leb-true, leb-false}
use Rattle.std.proofs.lemmas.List.Elements.{Contains-get_or}
use Rattle.i_tree.proofs.RootLemmas.Lists.{MatchBool-by}
use Rattle.plane.specs.Pairs.Pairs.{ArePairs, AreMoreThan, GainsAll}

module _ {X : Type 0} (Meeting : X → X → Type 0) (items : List X) (most : ℕ) where
  -- what isn't more than so many is all
  all_upto : (pairs : List (ℕ × ℕ)) → length pairs ≤ most → ArePairs Meeting items pairs ⊎ AreMoreThan Meeting items most pairs → ArePairs Meeting items pairs
  all_upto pairs upto (inl are) = are
  all_upto pairs upto (inr some) = absurd (let more = some.more in omega (arith, more, upto))

  -- and all are more than so many, where they are
  more_than : (pairs : List (ℕ × ℕ)) → most < length pairs → ArePairs Meeting items pairs ⊎ AreMoreThan Meeting items most pairs → AreMoreThan Meeting items most pairs
  more_than pairs more (inl are) = record {
    more = more;
    once = are.once;
    of = λ k d within. let pair = get_or pairs k d in (are.exact pair.0 pair.1).0 (Contains-get_or pairs k d within);
  }
  more_than pairs more (inr some) = some

  -- a list that has no more than so many pairs gains all
  pub all_gained : (before after : List (ℕ × ℕ)) → length after ≤ most → GainsAll Meeting items most before after → (pairs : List (ℕ × ℕ)) × (after ≡ before ++ pairs) × ArePairs Meeting items pairs
  all_gained before after upto (pairs, is, told) =
      let size = ap length is in
      let both = length-append before pairs in
      (pairs, is, all_upto pairs (omega (arith, size, both, upto)) told)

  -- the number of pairs tells whether all are there
  pub told_upto : (pairs : List (ℕ × ℕ)) (count : ℕ) → count ≡ length pairs → ArePairs Meeting items pairs ⊎ AreMoreThan Meeting items most pairs
      → MatchBool (leb count most) (ArePairs Meeting items pairs × (length pairs ≤ most)) (AreMoreThan Meeting items most pairs)
  told_upto pairs count is told =
      MatchBool-by (leb count most) (ArePairs Meeting items pairs × (length pairs ≤ most)) (AreMoreThan Meeting items most pairs)
      (λ yes. let upto : length pairs ≤ most = omega (arith, is, leb-true count most yes) in (all_upto pairs upto told, upto))
      (λ no. more_than pairs (omega (arith, is, leb-false count most no)) told)
