-- Chunks without copies hold no member.
use Rattle.std.proofs.Common.{arith, ◌≡◌, ℕ, List, [], ◌∷◌, ◌++◌, replicate, refl, ap, ◌∙◌}
use Rattle.std.specs.declared.cmp.Ordering.{Ordering}
use Rattle.std.specs.declared.option.Option.{Option}
use Rattle.std.proofs.lemmas.Bool.{cases_lt}
use Rattle.std.proofs.lemmas.List.{length-replicate, get_or-replicate, get_or_past}
use Rattle.std.proofs.lemmas.List.Elements.{All-nil}
use Rattle.std.proofs.lemmas.List.Sorted.{IsPermutation-refl}
use Rattle.i_tree.specs.Seg.Buckets.{between}
use Rattle.i_tree.specs.Seg.Copies.{chunk_at, found_at, found_among, members_in, Holds}
use Rattle.i_tree.specs.Seg.Nodes.{nodes_of, meeting_set}

module _ {E V : Type 0} (expiration : V → E) (cmp : E → E → Ordering) (latest : Option E) (count : ℕ) where
  no_copies : (node : ℕ) → chunk_at {V = V} node (replicate count []) ≡ []
  no_copies node = grind (arith, cases_lt, get_or-replicate, get_or_past, length-replicate)

  none_found : (asked : ℕ) (nodes : List ℕ) → found_among {V = V} expiration cmp latest asked nodes (replicate count []) ≡ []
  none_found asked [] = refl
  none_found asked (node ∷ nodes) =
      ap (λ (copies : List (ℕ × V)). found_at expiration cmp latest asked node copies ++ found_among expiration cmp latest asked nodes (replicate count [])) (no_copies node) ∙ none_found asked nodes

  pub members_in-empty : members_in {V = V} expiration cmp latest (replicate count []) ≡ []
  members_in-empty = none_found (meeting_set (between 0 31)) (nodes_of (meeting_set (between 0 31)))

  pub holds-empty : Holds {V = V} expiration cmp latest count (replicate count []) (members_in expiration cmp latest (replicate count []))
  holds-empty = grind (arith, members_in-empty, length-replicate, no_copies, IsPermutation-refl, All-nil)
