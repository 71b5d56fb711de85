-- What is left of the entries of the status at a later x, and what a list has around one of its elements.
use Rattle.std.proofs.Common.{◌≡◌, ◌⊎◌, inl, inr, zero, suc, ℤ, ◌≤ℤ◌, false, List, [], ◌∷◌, ◌++◌, ⊎_elim, arith}
use Rattle.std.specs.List.{Contains}
use Rattle.std.proofs.lemmas.Bool.{both_ways}
use Rattle.std.proofs.lemmas.Int.{ints, by_lt_z}
use Rattle.std.proofs.lemmas.List.Elements.{Contains-append_left, Contains-append_right, Contains-append_cases}
use Rattle.i_tree.proofs.RootLemmas.Withouts.{filter-without}
use Rattle.i_tree.specs.Root.Change.{Without}
use Rattle.i_tree.specs.Root.Change.Without.{none, keeps, loses}
use Rattle.plane.specs.SweepLine.Active.{Entry, is_live_at, live_entries, IsExpiredAt}
use Rattle.plane.proofs.SweepLineLemmas.Live.{is_live_at-before, is_live_at-ended}

-- what has expired at x has later
expired_later : (x later : ℤ) → x ≤ℤ later → (entry : Entry) → IsExpiredAt x entry → is_live_at later entry ≡ false
expired_later x later onwards entry gone =
    by_lt_z x entry.0.edge.x1
    (λ before. absurd (both_ways (is_live_at x entry) gone (is_live_at-before x entry before)))
    (λ ended. is_live_at-ended later entry (omega (arith, ints, onwards, ended)))

-- what is live later is so without what has expired before
pub live-without : (x later : ℤ) → x ≤ℤ later → {before after : List Entry} → Without (IsExpiredAt x) before after → live_entries later before ≡ live_entries later after
live-without x later onwards kept = filter-without (is_live_at later) (expired_later x later onwards) kept

-- ---- around an element

module _ {X : Type 0} where
  here_or_there : (x : X) (xs : List X) (y : X) → Contains (x ∷ xs) y → (x ≡ y) ⊎ Contains xs y
  here_or_there x xs y (zero, within, is) = inl is
  here_or_there x xs y (suc k, within, is) = inr (k, omega arith, is)

  -- a member is this one, or one of those around it
  pub around_cases : (front : List X) (x : X) (back : List X) (y : X) → Contains (front ++ x ∷ back) y → (x ≡ y) ⊎ Contains (front ++ back) y
  around_cases front x back y held =
      ⊎_elim
      (λ before. inr (Contains-append_left front back y before))
      (λ from. ⊎_elim (λ this. inl this) (λ behind. inr (Contains-append_right front back y behind)) (here_or_there x back y from))
      (Contains-append_cases front (x ∷ back) y held)

  pub around_more : (front : List X) (x : X) (back : List X) (y : X) → Contains (front ++ back) y → Contains (front ++ x ∷ back) y
  around_more front x back y held =
      ⊎_elim
      (λ before. Contains-append_left front (x ∷ back) y before)
      (λ behind. Contains-append_right front (x ∷ back) y (Contains-append_right (x ∷ []) back y behind))
      (Contains-append_cases front back y held)

  pub Without-append : {MayGo : X → Type 0} {first first' second second' : List X} → Without MayGo first first' → Without MayGo second second' → Without MayGo (first ++ second) (first' ++ second')
  Without-append none rest = rest
  Without-append (keeps x more) rest = keeps x (Without-append more rest)
  Without-append (loses x goes more) rest = loses x goes (Without-append more rest)
