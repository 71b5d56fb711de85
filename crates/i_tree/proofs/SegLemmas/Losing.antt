-- Copies that a walk removes, which are not live.
use Rattle.std.proofs.Common.{◌≡◌, ℕ, ◌<◌, Bool, true, false, List, [], ◌∷◌, ◌++◌, length, get_or, take, refl, ap, sym, ◌∙◌, subst, append_assoc, arith, IsPermutation}
use Rattle.std.specs.List.{All, filter, swap_remove}
use Rattle.std.specs.declared.cmp.Ordering.{Ordering}
use Rattle.std.specs.declared.option.Option.TheVariants.{Some}
use Rattle.std.proofs.lemmas.Bool.{cond-false, false≢true}
use Rattle.std.proofs.lemmas.List.{take-set, take-take}
use Rattle.std.proofs.lemmas.List.Elements.{All-nil, All-cons, All-head, All-tail, All-append, filter-append}
use Rattle.std.proofs.lemmas.List.Sorted.{IsPermutation-refl, IsPermutation-trans, IsPermutation-append_right, IsPermutation-swap_remove}
use Rattle.std.proofs.lemmas.Nat.Bits.{bit_at-zero}
use Rattle.i_tree.specs.Seg.Copies.{chunk_at, live_copies}
use Rattle.i_tree.specs.Root.Live.{is_live}
use Rattle.i_tree.specs.Seg.Nodes.{has_node}
use Rattle.i_tree.specs.Seg.Walk.{AllLive, LosesExpired, LosesExpiredAt, Cleans, HasPassed}
use Rattle.i_tree.proofs.RootLemmas.Lists.{filter_all}
use Rattle.i_tree.proofs.SegLemmas.Bags.{IsPermutation-filter}

-- the items before a place stay where the one there is removed by the last one's move
pub take-swap_remove : {X : Type 0} (xs : List X) (i : ℕ) (d : X) → i < length xs → take i (swap_remove xs i d) ≡ take i xs
take-swap_remove xs i d within = grind (arith, take-take, take-set)

-- no item passes where each fails
filter-none : {X : Type 0} (p : X → Bool) (xs : List X) → All (λ x. p x ≡ false) xs → filter p xs ≡ []
filter-none p [] fail = refl
filter-none p (x ∷ xs) fail =
    cond-false (p x) (x ∷ filter p xs) (filter p xs) (All-head (λ x. p x ≡ false) x xs fail) ∙ filter-none p xs (All-tail (λ x. p x ≡ false) x xs fail)

-- `expiration` gives a value's expiration, `cmp` compares expirations.
module _ {E V : Type 0} (expiration : V → E) (cmp : E → E → Ordering) (time : E) where
  abbrev IsExpired : ℕ × V → Type 0
  IsExpired copy = is_live expiration cmp time copy.1 ≡ false

  -- no copy went
  pub LosesExpired-none : (copies : List (ℕ × V)) → LosesExpired expiration cmp time copies copies
  LosesExpired-none copies = record { gone = []; expired = All-nil IsExpired; rest = IsPermutation-refl copies }

  -- some went, and then others
  pub LosesExpired-trans : (first second third : List (ℕ × V)) → LosesExpired expiration cmp time first second → LosesExpired expiration cmp time second third → LosesExpired expiration cmp time first third
  LosesExpired-trans first second third one other =
      record {
        gone = one.gone ++ other.gone;
        expired = All-append IsExpired one.gone other.gone one.expired other.expired;
        rest = subst (λ (all : List (ℕ × V)). IsPermutation first all) (sym (append_assoc one.gone other.gone third))
            (IsPermutation-trans first (one.gone ++ second) (one.gone ++ (other.gone ++ third)) one.rest (IsPermutation-append_right one.gone second (other.gone ++ third) other.rest));
      }

  -- one went
  pub LosesExpired-one : (copies : List (ℕ × V)) (i : ℕ) (copy : ℕ × V) → i < length copies → copy ≡ get_or copies i copy → is_live expiration cmp time copy.1 ≡ false → LosesExpired expiration cmp time copies (swap_remove copies i copy)
  LosesExpired-one copies i copy within is dead =
      record { gone = copy ∷ []; expired = All-cons IsExpired copy [] dead (All-nil IsExpired); rest = IsPermutation-swap_remove copies i copy within is }

  -- where all that are left are live, they are those that were
  LosesExpired-all : (before after : List (ℕ × V)) → LosesExpired expiration cmp time before after → AllLive expiration cmp time after → IsPermutation (live_copies expiration cmp (Some time) before) after
  LosesExpired-all before after loses live =
      subst (λ (kept : List (ℕ × V)). IsPermutation (live_copies expiration cmp (Some time) before) kept)
      (filter-append alive loses.gone after
      ∙ ap (λ (first : List (ℕ × V)). first ++ filter alive after) (filter-none alive loses.gone loses.expired)
      ∙ filter_all alive after live)
      (IsPermutation-filter alive before (loses.gone ++ after) loses.rest)
    where
      alive : ℕ × V → Bool
      alive copy = is_live expiration cmp time copy.1

  module _ (asked : ℕ) where
    pub LosesExpiredAt-none : (chunks : List (List (ℕ × V))) → LosesExpiredAt expiration cmp time asked chunks chunks
    LosesExpiredAt-none chunks = record { met = λ node has. LosesExpired-none (chunk_at node chunks); others = λ node lacks. refl }

    pub LosesExpiredAt-trans : (first second third : List (List (ℕ × V))) → LosesExpiredAt expiration cmp time asked first second → LosesExpiredAt expiration cmp time asked second third → LosesExpiredAt expiration cmp time asked first third
    LosesExpiredAt-trans first second third one other = grind (arith, LosesExpired-trans)

    -- a walk has passed nothing at its start
    pub HasPassed-start : (chunks : List (List (ℕ × V))) → HasPassed expiration cmp time asked asked 0 chunks
    HasPassed-start chunks = grind (arith, false≢true, All-nil)

    -- a query is whole once all copies at its nodes are live
    pub Cleans-from : (before after : List (List (ℕ × V))) → LosesExpiredAt expiration cmp time asked before after → ((node : ℕ) → has_node asked node ≡ true → AllLive expiration cmp time (chunk_at node after)) → Cleans expiration cmp time asked before after
    Cleans-from before after loses live = grind (arith, LosesExpired-all)

    -- as they are where a walk has no node left
    pub Cleans-ended : (left index : ℕ) (before after : List (List (ℕ × V))) → left ≡ 0 → LosesExpiredAt expiration cmp time asked before after → HasPassed expiration cmp time asked left index after → Cleans expiration cmp time asked before after
    Cleans-ended left index before after none loses passed = grind (arith, Cleans-from, bit_at-zero)

    -- also where its last part is
    pub Cleans-after : (first second third : List (List (ℕ × V))) → LosesExpiredAt expiration cmp time asked first second → Cleans expiration cmp time asked second third → Cleans expiration cmp time asked first third
    Cleans-after first second third loses cleans =
        record {
          live = cleans.live;
          met = λ node has. IsPermutation-trans _ _ _ (kept node has) (cleans.met node has);
          others = λ node lacks. cleans.others node lacks ∙ loses.others node lacks;
        }
      where
        kept : (node : ℕ) → has_node asked node ≡ true → IsPermutation (live_copies expiration cmp (Some time) (chunk_at node first)) (live_copies expiration cmp (Some time) (chunk_at node second))
        kept node has =
            let part = loses.met node has in
            subst (λ (live : List (ℕ × V)). IsPermutation (live_copies expiration cmp (Some time) (chunk_at node first)) live)
            (filter-append alive part.gone (chunk_at node second)
            ∙ ap (λ (gone : List (ℕ × V)). gone ++ filter alive (chunk_at node second)) (filter-none alive part.gone part.expired))
            (IsPermutation-filter alive (chunk_at node first) (part.gone ++ chunk_at node second) part.rest)
          where
            alive : ℕ × V → Bool
            alive copy = is_live expiration cmp time copy.1
