-- Whether a key is in a list: the value at its place alone may have it.
use Rattle.std.proofs.Common.{◌≡◌, ◌≢◌, ℕ, ◌+◌, ◌<◌, ◌≤◌, List, length, get_or, sym, ap, ◌∙◌, subst, arith}
use Rattle.std.specs.Cmp.{IsTotalOrder}
use Rattle.std.specs.declared.cmp.Ordering.{Ordering}
use Rattle.std.specs.declared.cmp.Ordering.TheVariants.{Less, Equal}
use Rattle.i_tree.proofs.RootLemmas.RisingKeys.{equal_at_place}
use Rattle.i_tree.proofs.SetLemmas.Positions.{IsPartitionPoint-keys, keyed_at, length-keyed, some_of}
use Rattle.i_tree.specs.Set.Pairs.{by_key, IsOrdered, HoldsKey, LacksKey}
use Rattle.i_tree.specs.Set.SetList.{numbered, IsPlaceFor}

module _ {K V : Type 0} (key_of : V → K) (cmp : K → K → Ordering) where
  pub HoldsKey-at_place : (xs : List V) (key : K) (place : ℕ) (x : V) → place < length xs → x ≡ get_or xs place x → cmp (key_of x) key ≡ Equal → HoldsKey key_of cmp (numbered xs) key
  HoldsKey-at_place xs key place x inside is equal =
      let pair : K × ℕ = (key_of x, 0 + place) in
      let at : get_or (by_key key_of (numbered xs)) place pair ≡ pair =
      keyed_at key_of xs place pair x inside ∙ ap (λ (value : V). (key_of value, 0 + place)) (sym is) in
      (place, pair, omega (arith, inside, length-keyed key_of xs), at, equal)

  pub LacksKey-at_place : (o : IsTotalOrder cmp) (xs : List V) (key : K) (place : ℕ) → place ≤ length xs → IsOrdered key_of cmp (numbered xs) → IsPlaceFor key_of cmp key xs place
      → ((value : V) → place < length xs → cmp (key_of (get_or xs place value)) key ≢ Equal) → LacksKey key_of cmp (numbered xs) key
  LacksKey-at_place o xs key place within ordered point differs k d inside level =
      let here = equal_at_place o (by_key key_of (numbered xs)) key place ordered (IsPartitionPoint-keys key_of (λ other. cmp other key ≡ Less) (λ other. cmp other key ≢ Less) xs place within point) k d inside level in
      let there : place < length xs = omega (arith, here, inside, length-keyed key_of xs) in
      let value = some_of xs place there in
      differs value there
      (sym (ap (λ (pair : K × ℕ). cmp pair.0 key) (keyed_at key_of xs place d value there))
      ∙ subst (λ n. cmp (get_or (by_key key_of (numbered xs)) n d).0 key ≡ Equal) here level)
