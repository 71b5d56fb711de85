-- A pass over pairs that moves the live ones to the front: each pair is written there, and counts where it is live.
use Rattle.std.proofs.Common.{◌≡◌, ℕ, ◌+◌, ◌<◌, Bool, true, false, List, length, set, take, get_or, get_or-set_same, refl, sym, ap, ◌∙◌, subst, arith}
use Rattle.std.specs.Cmp.{IsTotalOrder}
use Rattle.std.specs.Int.{from_bool}
use Rattle.std.specs.Ordering.{ord_min}
use Rattle.std.specs.declared.cmp.Ordering.{Ordering}
use Rattle.std.proofs.lemmas.List.{drop-set-lt, take-set, length-set}
use Rattle.std.proofs.lemmas.List.Filters.{FiltersInPlace, FiltersInPlace-more_no, FiltersInPlace-more_set}
use Rattle.i_tree.proofs.ExpiringLemmas.Times.{NoneExpiresBefore-more}
use Rattle.i_tree.specs.Expiring.Live.{NoneExpiresBefore}

module _ {X : Type 0} {p : X → Bool} {xs ys : List X} {k i : ℕ} (x : X) (packed : FiltersInPlace p xs ys k i) (inside : i < length ys) (is : x ≡ get_or ys i x) where
  pub packed-more : (b : Bool) (count : ℕ) → p x ≡ b → count ≡ k + from_bool b → FiltersInPlace p xs (set ys k x) count (i + 1)
  packed-more true count passes counts =
      subst (λ n. FiltersInPlace p xs (set ys k x) n (i + 1)) (sym counts) (FiltersInPlace-more_set packed inside passes is)
  packed-more false count fails counts =
      let rest = FiltersInPlace-more_no packed inside fails is in
      let same : count ≡ k = omega (arith, counts) in
      record {
        front = ap (λ n. take n (set ys k x)) same ∙ take-set ys k x ∙ rest.front;
        rest = drop-set-lt (i + 1) ys k x (omega (arith, packed.behind)) ∙ rest.rest;
        behind = omega (arith, packed.behind, same);
        within = rest.within;
        long = simp length-set rest.long;
      }

module _ {K V E : Type 0} {cmp : E → E → Ordering} (o : IsTotalOrder cmp) (expiration : K → E) where
  pub late-more : (b : Bool) (ys : List (K × V)) (k count : ℕ) (x : K × V) (bound next : E) → k < length ys → count ≡ k + from_bool b → (b ≡ true → next ≡ ord_min cmp bound (expiration x.0)) → (b ≡ false → next ≡ bound)
      → NoneExpiresBefore expiration cmp bound (take k ys) → NoneExpiresBefore expiration cmp next (take count (set ys k x))
  late-more true ys k count x bound next inside counts lesser stays late =
      let so_far : NoneExpiresBefore expiration cmp bound (take k (set ys k x)) = rw (take-set ys k x) late in
      rw (lesser refl, counts)
      (NoneExpiresBefore-more o expiration bound (set ys k x) k x (simp length-set inside) (sym (get_or-set_same ys k x x inside)) so_far)
  late-more false ys k count x bound next inside counts lesser stays late =
      let same : count ≡ k = omega (arith, counts) in
      rw (stays refl, same, take-set ys k x) late
