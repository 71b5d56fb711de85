-- A list from which expired pairs go before a pair is put.
use Rattle.std.proofs.Common.{◌≡◌, ℕ, ◌<◌, zero, suc, Bool, false, true, length, refl, ap, ◌∙◌, arith}
use Rattle.std.specs.List.{Any}
use Rattle.std.specs.declared.cmp.Ordering.{Ordering}
use Rattle.std.proofs.lemmas.Bool.{false≢true}
use Rattle.i_tree.proofs.RootLemmas.Lists.{filter_same_length, length-filter_le, length-filter_lt}
use Rattle.i_tree.proofs.RootLemmas.RisingKeys.{same_contents}
use Rattle.i_tree.specs.Expiring.List.{Contents, ListLeaves}
use Rattle.i_tree.specs.Expiring.Live.{IsExpired}
use Rattle.i_tree.specs.Root.Live.{is_live}

-- what would be accepted where there is room has none where it isn't
pub none_spare : (spare : ℕ) → (0 < spare → false ≡ true) → spare ≡ 0
none_spare zero accepted = refl
none_spare (suc n) accepted = absurd (false≢true (accepted (omega arith)))

-- where there is no room after the expired pairs went, there were none
module _ {K V E : Type 0} (expiration : K → E) (cmp : E → E → Ordering) (time : E) (old new : Contents K V) (leaves : ListLeaves expiration cmp time old new) (full : new.spare ≡ 0) where
  abbrev live : K × V → Bool
  live pair = is_live expiration cmp time pair.0

  pub nothing_went : new.pairs ≡ old.pairs
  nothing_went = leaves.keeps_live ∙ filter_same_length live old.pairs (omega (arith, full, leaves.room, ap length leaves.keeps_live, length-filter_le live old.pairs))

  pub had_no_spare : old.spare ≡ 0
  had_no_spare = omega (arith, full, leaves.room, ap length nothing_went)

  pub all_stayed : new ≡ old
  all_stayed = same_contents nothing_went (omega (arith, full, had_no_spare))

  pub none_was_expired : Any (IsExpired expiration cmp time) old.pairs → false ≡ true
  none_was_expired expired = absurd (omega (arith, length-filter_lt live old.pairs expired, ap length leaves.keeps_live, ap length nothing_went))
