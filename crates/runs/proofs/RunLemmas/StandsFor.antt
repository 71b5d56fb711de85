-- How stored pairs go on standing for accepted ones.
use Rattle.std.proofs.Common.{◌≡◌, true, false, List, [], ◌∷◌, ◌++◌, Option, Some, None, refl, sym, subst, ⊎_elim, append_assoc}
use Rattle.std.specs.Cmp.{IsTotalOrder}
use Rattle.std.specs.Ordering.{is_ge, is_lt}
use Rattle.std.specs.declared.cmp.Ordering.{Ordering}
use Rattle.std.specs.declared.cmp.Ordering.TheVariants.{Less, Equal, Greater}
use Rattle.std.specs.List.{All, insert}
use Rattle.std.specs.List.Sorted.{IsPermutation}
use Rattle.std.proofs.lemmas.Bool.{both_ways, false_from_ne_true}
use Rattle.std.proofs.lemmas.List.Elements.{All-nil, All-cons, All-append, All-contains, All-weaker, Contains-append_left, Contains-append_cases}
use Rattle.std.proofs.lemmas.List.Sorted.{IsPermutation-refl, IsPermutation-sym, IsPermutation-trans, IsPermutation-cons, IsPermutation-middle, IsPermutation-append_left, IsPermutation-insert, Contains-permutation}
use Rattle.i_tree.specs.Root.Change.{Without, Joins}
use Rattle.i_tree.specs.Root.Change.Without.{none, keeps, loses}
use Rattle.i_tree.specs.Expiring.Live.{live_pairs, IsExpired}
use Rattle.i_tree.specs.Root.Live.{is_live}
use Rattle.i_tree.proofs.ExpiringLemmas.Times.{is_live-before}
use Rattle.i_tree.proofs.RootLemmas.Lists.{Contains-filter}
use Rattle.i_tree.specs.Root.Late.{is_late}
use Rattle.runs.specs.StandsFor.{StandsFor}
use Rattle.i_tree.proofs.RootLemmas.Members.{Within, Contains-from_filter}

-- what is left and what is lost are together what there was
pub Without-parts : {X : Type 0} {MayGo : X → Type 0} {before after : List X} → Without MayGo before after → (lost : List X) × IsPermutation before (after ++ lost) × All MayGo lost
Without-parts {MayGo = MayGo} none = ([], IsPermutation-refl [], All-nil MayGo)
Without-parts (keeps {before = before} {after = after} x rest) =
    let (lost, together, all) = Without-parts rest in
    (lost, IsPermutation-cons x before (after ++ lost) together, all)
Without-parts {MayGo = MayGo} (loses {before = before} {after = after} x goes rest) =
    let (lost, together, all) = Without-parts rest in
    (x ∷ lost, IsPermutation-trans (x ∷ before) (x ∷ (after ++ lost)) (after ++ x ∷ lost) (IsPermutation-cons x before (after ++ lost) together) (IsPermutation-sym (after ++ x ∷ lost) (x ∷ (after ++ lost)) (IsPermutation-middle after x lost)), All-cons MayGo x lost goes all)

module _ {K E V : Type 0} (expiration : K → E) {cmp : E → E → Ordering} (o : IsTotalOrder cmp) where
  -- what is expired stays expired
  pub IsExpired-later : (last time : E) (pair : K × V) → is_lt (cmp time last) ≡ false → IsExpired expiration cmp last pair → IsExpired expiration cmp time pair
  IsExpired-later last time pair not_late expired =
      false_from_ne_true (is_live expiration cmp time pair.0) (λ live. both_ways (is_live expiration cmp last pair.0) expired (is_live-before o expiration last time pair.0 (at_or_after (cmp time last) not_late) live))
    where
      at_or_after : (r : Ordering) → is_lt r ≡ false → is_ge r ≡ true
      at_or_after Less h = absurd (both_ways true h refl)
      at_or_after Equal h = refl
      at_or_after Greater h = refl

  pub StandsFor-later : (stored accepted : List (K × V)) (last : Option E) (time : E) → is_late cmp last time ≡ false → StandsFor expiration cmp stored accepted last → StandsFor expiration cmp stored accepted (Some time)
  StandsFor-later stored accepted None time not_late stands =
      record { gone = stands.gone; together = stands.together; expired = subst (All (IsExpired expiration cmp time)) (sym stands.expired) (All-nil (IsExpired expiration cmp time)) }
  StandsFor-later stored accepted (Some last) time not_late stands =
      record { gone = stands.gone; together = stands.together; expired = All-weaker (IsExpired expiration cmp last) (IsExpired expiration cmp time) (λ pair. IsExpired-later last time pair not_late) stands.gone stands.expired }

  module _ (stored accepted : List (K × V)) (time : E) (stands : StandsFor expiration cmp stored accepted (Some time)) where
    -- the live pairs of the two are the same
    pub live_accepted : Within (live_pairs expiration cmp time stored) (live_pairs expiration cmp time accepted)
    live_accepted x h =
        let found = Contains-from_filter (λ pair. is_live expiration cmp time pair.0) stored x h in
        Contains-filter (λ pair. is_live expiration cmp time pair.0) accepted x found.1
        (Contains-permutation (stored ++ stands.gone) accepted x (IsPermutation-sym accepted (stored ++ stands.gone) stands.together) (Contains-append_left stored stands.gone x found.0))

    pub live_stored : Within (live_pairs expiration cmp time accepted) (live_pairs expiration cmp time stored)
    live_stored x h =
        let found = Contains-from_filter (λ pair. is_live expiration cmp time pair.0) accepted x h in
        ⊎_elim
        (λ here. Contains-filter (λ pair. is_live expiration cmp time pair.0) stored x found.1 here)
        (λ went. absurd (both_ways (is_live expiration cmp time x.0) (All-contains (IsExpired expiration cmp time) stands.gone x stands.expired went) found.1))
        (Contains-append_cases stored stands.gone x (Contains-permutation accepted (stored ++ stands.gone) x stands.together found.0))

    -- expired pairs may go
    pub StandsFor-without : (kept : List (K × V)) → Without (IsExpired expiration cmp time) stored kept → StandsFor expiration cmp kept accepted (Some time)
    StandsFor-without kept without =
        let (lost, together, expired) = Without-parts without in
        record {
          gone = lost ++ stands.gone;
          together = subst (IsPermutation accepted) (append_assoc kept lost stands.gone)
              (IsPermutation-trans accepted (stored ++ stands.gone) ((kept ++ lost) ++ stands.gone) stands.together (IsPermutation-append_left stands.gone stored (kept ++ lost) together));
          expired = All-append (IsExpired expiration cmp time) lost stands.gone expired stands.expired;
        }

    -- a pair that joins the stored ones joins the accepted ones
    pub StandsFor-joins : (pair : K × V) (stored' : List (K × V)) → Joins pair stored stored' → StandsFor expiration cmp stored' (pair ∷ accepted) (Some time)
    StandsFor-joins pair stored' (place, within, is) =
        record {
          gone = stands.gone;
          together = subst (λ pairs. IsPermutation (pair ∷ accepted) (pairs ++ stands.gone)) (sym is)
              (IsPermutation-trans (pair ∷ accepted) (pair ∷ (stored ++ stands.gone)) (insert stored place pair ++ stands.gone)
              (IsPermutation-cons pair accepted (stored ++ stands.gone) stands.together)
              (IsPermutation-append_left stands.gone (pair ∷ stored) (insert stored place pair) (IsPermutation-insert stored place pair)));
          expired = stands.expired;
        }
