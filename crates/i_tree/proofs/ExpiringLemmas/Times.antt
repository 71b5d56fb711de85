-- Facts on times and on what is live at them.
use Rattle.std.proofs.Common.{arith, ◌≡◌, ℕ, ◌+◌, ◌<◌, true, false, Option, Some, List, length, get_or, take, refl, ap, subst}
use Rattle.std.specs.Cmp.{IsTotalOrder, upto}
use Rattle.std.specs.Ordering.{is_ge, is_gt, is_lt, is_some_and, ord_min, partial_ge}
use Rattle.std.specs.declared.cmp.Ordering.{Ordering}
use Rattle.std.specs.declared.cmp.Ordering.TheVariants.{Less, Equal, Greater}
use Rattle.std.proofs.lemmas.Bool.{cond_both, both_ways}
use Rattle.std.proofs.lemmas.List.Elements.{All-more, All-weaker}
use Rattle.i_tree.specs.Expiring.Live.{live_pairs, NoneExpiresBefore}
use Rattle.i_tree.specs.Root.Live.{is_live}
use Rattle.i_tree.proofs.RootLemmas.Lists.{filter_all}
use Rattle.i_tree.proofs.RootLemmas.Orders.{gt-reversed, ge-reversed, at_or_after-reversed, not_after-reversed}

-- what `>=` answers, by `cmp`
pub ge_from_cmp : {E : Type 0} (partial-cmp : E → E → Option Ordering) (cmp : E → E → Ordering) → ((x y : E) → partial-cmp x y ≡ Some (cmp x y)) → (x y : E) → partial_ge partial-cmp x y ≡ is_ge (cmp x y)
ge_from_cmp partial-cmp cmp same x y = ap (is_some_and is_ge) (same x y)

module _ {E : Type 0} {cmp : E → E → Ordering} (o : IsTotalOrder cmp) where
  -- the lesser of two times is after nothing that the first is not after
  pub not_after-min : (a b x : E) → is_gt (cmp a x) ≡ false → is_gt (cmp (ord_min cmp a b) x) ≡ false
  not_after-min a b x h =
      cond_both (is_lt (cmp b a)) b a (λ m. is_gt (cmp m x) ≡ false)
      (λ below. upto o b a x (not_gt (cmp b a) below) h)
      (λ _. h)
    where
      not_gt : (r : Ordering) → is_lt r ≡ true → is_gt r ≡ false
      not_gt Less h = refl
      not_gt Equal h = refl
      not_gt Greater h = absurd (both_ways false refl h)

  -- nor is it after the second
  pub not_after-min_second : (a b : E) → is_gt (cmp (ord_min cmp a b) b) ≡ false
  not_after-min_second a b = grind (arith, cond_both, gt-reversed)

  -- times in descending order
  ge-trans : (a b c : E) → is_ge (cmp a b) ≡ true → is_ge (cmp b c) ≡ true → is_ge (cmp a c) ≡ true
  ge-trans a b c ab bc = not_after-reversed o a c (upto o c b a (at_or_after-reversed o b c bc) (at_or_after-reversed o a b ab))

  -- what is live at a time was live before
  pub is_live-before : {K : Type 0} (expiration : K → E) (time later : E) (key : K) → is_ge (cmp later time) ≡ true → is_live expiration cmp later key ≡ true → is_live expiration cmp time key ≡ true
  is_live-before expiration time later key after live = ge-trans (expiration key) later time live after

  module _ {K V : Type 0} (expiration : K → E) where
    -- none expires before a bound, and so none before the lesser of it and another time
    NoneExpiresBefore-min : (bound other : E) (pairs : List (K × V)) → NoneExpiresBefore expiration cmp bound pairs → NoneExpiresBefore expiration cmp (ord_min cmp bound other) pairs
    NoneExpiresBefore-min bound other pairs = grind (arith, All-weaker, not_after-min)

    -- a loop's step, which takes the lesser of the bound and the next expiration
    pub NoneExpiresBefore-more : (bound : E) (pairs : List (K × V)) (i : ℕ) (pair : K × V) → i < length pairs → pair ≡ get_or pairs i pair → NoneExpiresBefore expiration cmp bound (take i pairs) → NoneExpiresBefore expiration cmp (ord_min cmp bound (expiration pair.0)) (take (i + 1) pairs)
    NoneExpiresBefore-more bound pairs i pair within is h =
        let least = ord_min cmp bound (expiration pair.0) in
        let NotBefore : K × V → Type 0 = λ other. is_gt (cmp least (expiration other.0)) ≡ false in
        All-more NotBefore pairs i pair within
        (NoneExpiresBefore-min bound (expiration pair.0) (take i pairs) h)
        (subst NotBefore is (not_after-min_second bound (expiration pair.0)))

    -- up to a time before which nothing expires all are live
    pub live_pairs-early : (bound time : E) (pairs : List (K × V)) → is_ge (cmp bound time) ≡ true → NoneExpiresBefore expiration cmp bound pairs → live_pairs expiration cmp time pairs ≡ pairs
    live_pairs-early bound time pairs early h = grind (arith, filter_all, All-weaker, is_live-before, ge-reversed)
