-- What keys and values are asked, of lists that have the same members.
use Rattle.std.proofs.Common.{◌≡◌, ◌≢◌, List, inl, inr}
use Rattle.std.specs.declared.cmp.Ordering.{Ordering}
use Rattle.std.specs.declared.cmp.Ordering.TheVariants.{Less, Equal, Greater}
use Rattle.i_tree.specs.Root.Answer.{GreatestOr, AtMost}
use Rattle.i_tree.specs.Root.Pairs.{HasKey, NoKey}
use Rattle.i_tree.proofs.RootLemmas.Members.{Within, All-within, Any-within}

module _ {K V : Type 0} (cmp : K → K → Ordering) (xs ys : List (K × V)) (into : Within xs ys) (back : Within ys xs) where
  pub HasKey-members : (key : K) → HasKey cmp xs key → HasKey cmp ys key
  HasKey-members key = Any-within (λ pair. cmp pair.0 key ≡ Equal) xs ys into

  pub NoKey-members : (key : K) → NoKey cmp xs key → NoKey cmp ys key
  NoKey-members key = All-within (λ pair. cmp pair.0 key ≢ Equal) xs ys back

  pub GreatestOr-members : (P : K → Type 0) (default value : V) → GreatestOr cmp P xs default value → GreatestOr cmp P ys default value
  GreatestOr-members P default value (inl (pair, greatest, is)) =
      inl (
        pair,
        record {
          contained = into pair greatest.contained;
          meets = greatest.meets;
          none_above = All-within (λ other. P other.0 → cmp other.0 pair.0 ≢ Greater) xs ys back greatest.none_above;
        },
        is,
      )
  GreatestOr-members P default value (inr (none_meets, is)) = inr (All-within (λ pair. ¬ (P pair.0)) xs ys back none_meets, is)

  pub AtMost-members : (order : K → Ordering) (default value : V) → AtMost cmp xs order default value → AtMost cmp ys order default value
  AtMost-members order default value (inl equal) = inl (Any-within (λ pair. (order pair.0 ≡ Equal) × (value ≡ pair.1)) xs ys into equal)
  AtMost-members order default value (inr (none_equal, less)) =
      inr (All-within (λ pair. order pair.0 ≢ Equal) xs ys back none_equal, GreatestOr-members (λ key. order key ≡ Less) default value less)
