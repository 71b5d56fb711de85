-- What holds of a list by its members alone.
use Rattle.std.proofs.Common.{◌≡◌, zero, suc, Bool, true, List, [], ◌∷◌, get_or, sym, ap, ◌∙◌, arith}
use Rattle.std.specs.List.{All, Any, Contains, filter}
use Rattle.std.proofs.lemmas.Bool.{cond_both}
use Rattle.std.proofs.lemmas.List.Elements.{All-contains, Contains-get_or}
use Rattle.i_tree.specs.Root.Change.{Without}
use Rattle.i_tree.specs.Root.Change.Without.{none, keeps, loses}
use Rattle.i_tree.proofs.RootLemmas.Lists.{Contains-there}

module _ {X : Type 0} where
  -- each member of the first list is one of the second
  abbrev pub Within : List X → List X → Type 0
  Within xs ys = (x : X) → Contains xs x → Contains ys x

  pub Within-cons : (x : X) (xs ys : List X) → Within xs ys → Within (x ∷ xs) (x ∷ ys)
  Within-cons x xs ys within y (zero, inside, is) = (0, omega arith, is)
  Within-cons x xs ys within y (suc k, inside, is) = Contains-there x ys y (within y (k, omega arith, is))

  pub All-within : (P : X → Type 0) (xs ys : List X) → Within ys xs → All P xs → All P ys
  All-within P xs ys within h k d inside = All-contains P xs (get_or ys k d) h (within (get_or ys k d) (Contains-get_or ys k d inside))

  pub Any-within : (P : X → Type 0) (xs ys : List X) → Within xs ys → Any P xs → Any P ys
  Any-within P xs ys within (k, x, inside, is, p) =
      let found = within x (k, inside, is) in
      (found.0, x, found.1, found.2, p)

  -- what a filter keeps is a member that passes
  pub Contains-from_filter : (p : X → Bool) (xs : List X) (x : X) → Contains (filter p xs) x → Contains xs x × (p x ≡ true)
  Contains-from_filter p [] x (k, inside, is) = absurd (omega arith)
  Contains-from_filter p (y ∷ ys) x h = by_test (Contains-from_filter p ys x) h
    where
      there : Contains ys x × (p x ≡ true) → Contains (y ∷ ys) x × (p x ≡ true)
      there ((k, inside, is), passes) = ((suc k, omega arith, is), passes)

      at_kept : (Contains (filter p ys) x → Contains ys x × (p x ≡ true)) → p y ≡ true → Contains (y ∷ filter p ys) x → Contains (y ∷ ys) x × (p x ≡ true)
      at_kept rest passes (zero, inside, is) = ((0, omega arith, is), sym (ap p is) ∙ passes)
      at_kept rest passes (suc k, inside, is) = there (rest (k, omega arith, is))

      by_test : (Contains (filter p ys) x → Contains ys x × (p x ≡ true)) → Contains (filter p (y ∷ ys)) x → Contains (y ∷ ys) x × (p x ≡ true)
      by_test rest =
          cond_both (p y) (y ∷ filter p ys) (filter p ys) (λ zs. Contains zs x → Contains (y ∷ ys) x × (p x ≡ true)) (at_kept rest) (λ _ h. there (rest h))

module _ {X : Type 0} where
  -- what is left after some items went
  pub Without-within : {MayGo : X → Type 0} {before after : List X} → Without MayGo before after → Within after before
  Without-within none x h = h
  Without-within (keeps y rest) x (zero, inside, is) = (0, omega arith, is)
  Without-within (keeps {before = before} y rest) x (suc k, inside, is) = Contains-there y before x (Without-within rest x (k, omega arith, is))
  Without-within (loses {before = before} y goes rest) x h = Contains-there y before x (Without-within rest x h)

  -- none has to go
  pub Without-all : {MayGo : X → Type 0} (xs : List X) → Without MayGo xs xs
  Without-all [] = none
  Without-all (x ∷ xs) = keeps x (Without-all xs)
