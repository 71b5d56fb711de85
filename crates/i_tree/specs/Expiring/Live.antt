-- Which pairs have a live key. `expiration` gives a key's expiration, and `cmp` compares expirations.
use Rattle.std.specs.Prelude.{◌≡◌, true, false, List, All, filter}
use Rattle.std.specs.Ordering.{is_gt}
use Rattle.std.specs.declared.cmp.Ordering.{Ordering}
use Rattle.i_tree.specs.Root.Live.{is_live}

module _ {K E : Type 0} (expiration : K → E) (cmp : E → E → Ordering) where
  -- the pairs whose keys are live at a time, in their order
  abbrev pub live_pairs : {V : Type 0} → E → List (K × V) → List (K × V)
  live_pairs time pairs = filter (λ pair. is_live expiration cmp time pair.0) pairs

  -- the key of each pair is live at a time
  abbrev pub AllLive : {V : Type 0} → E → List (K × V) → Type 0
  AllLive time pairs = All (λ pair. is_live expiration cmp time pair.0 ≡ true) pairs

  -- the pair's key is not live at a time
  abbrev pub IsExpired : {V : Type 0} → E → K × V → Type 0
  IsExpired time pair = is_live expiration cmp time pair.0 ≡ false

  -- no key of the pairs expires before a time
  abbrev pub NoneExpiresBefore : {V : Type 0} → E → List (K × V) → Type 0
  NoneExpiresBefore time pairs = All (λ pair. is_gt (cmp time (expiration pair.0)) ≡ false) pairs
