-- The pairs of an item with others, as they are told one after another.
use Rattle.std.proofs.Common.{◌≡◌, ◌≢◌, ℕ, ◌+◌, ◌<◌, min, max, List, [], ◌∷◌, ◌++◌, length, get_or, take, append-nil, append_assoc, sym, ap, ◌∙◌, subst, inl, inr, ⊎_elim, arith}
use Rattle.std.specs.List.{All, AllPairs, Contains}
use Rattle.std.proofs.lemmas.List.{take_more}
use Rattle.std.proofs.lemmas.List.Elements.{All-head, Contains-append_left, Contains-push, Contains-push_cases, All-contains, Contains-get_or}
use Rattle.std.proofs.lemmas.List.Quantifiers.{all_pairs_push}
use Rattle.i_tree.proofs.RootLemmas.Joined.{AllPairs-front, AllPairs-across}
use Rattle.plane.specs.Pairs.Sweep.{ArePairsWith, GainsPair, GainsPairs, IsTold, pair_of}
use Rattle.plane.specs.declared.pairs.strips.Strips.{Strips}
use Rattle.plane.specs.declared.pairs.sweep.Placed.{Placed}
use Rattle.plane.specs.declared.pairs.items.Bounds.{Bounds}

-- of two places with a third one, the pairs are the same only where the two are
pair_of-same : (place one other : ℕ) → pair_of place one ≡ pair_of place other → one ≡ other
pair_of-same place one other same =
    let first : min place one ≡ min place other = ap (λ (pair : ℕ × ℕ). pair.0) same in
    let second : max place one ≡ max place other = ap (λ (pair : ℕ × ℕ). pair.1) same in
    omega (arith, first, second)

module _ {X : Type 0} (bounds : X → Bounds) (Meeting : X → X → Type 0) (strips : Strips) (strip : ℕ) (placed : Placed X) where
  -- no others have no pairs
  ArePairsWith-nil : ArePairsWith bounds Meeting strips strip placed [] []
  ArePairsWith-nil = record {
    each = λ other within told. absurd (omega (arith, within.1));
    of = λ pair within. absurd (omega (arith, within.1));
    once = λ apart i j d below within. absurd (omega (arith, within));
  }

  module _ (others : List (Placed X)) (other : Placed X) (pairs : List (ℕ × ℕ)) (are : ArePairsWith bounds Meeting strips strip placed others pairs) where
    -- where pairs come from, they come from with one more of the others too
    abbrev Comes : List (Placed X) → ℕ × ℕ → Type 0
    Comes of pair = (one : Placed X) × Contains of one × IsTold bounds Meeting strips strip placed.item one.item × (pair ≡ pair_of placed.place one.place)

    still : (pair : ℕ × ℕ) → Comes others pair → Comes (others ++ other ∷ []) pair
    still pair (one, within, told, is) = (one, Contains-append_left others (other ∷ []) one within, told, is)

    apart_before : AllPairs (λ one later. one.place ≢ later.place) (others ++ other ∷ []) → AllPairs (λ one later. one.place ≢ later.place) others
    apart_before = AllPairs-front (λ (one later : Placed X). one.place ≢ later.place) others (other ∷ [])

    -- one more of them, with which it isn't told
    ArePairsWith-skip : ¬ (IsTold bounds Meeting strips strip placed.item other.item) → ArePairsWith bounds Meeting strips strip placed (others ++ other ∷ []) pairs
    ArePairsWith-skip none = record {
      each = λ one within told. ⊎_elim (λ before. are.each one before told)
          (λ is. absurd (none (subst (λ (last : Placed X). IsTold bounds Meeting strips strip placed.item last.item) (sym is) told)))
          (Contains-push_cases others other one within);
      of = λ pair within. still pair (are.of pair within);
      once = λ apart. are.once (apart_before apart);
    }

    -- one more of them, with which it is told
    ArePairsWith-push : IsTold bounds Meeting strips strip placed.item other.item → ArePairsWith bounds Meeting strips strip placed (others ++ other ∷ []) (pairs ++ pair_of placed.place other.place ∷ [])
    ArePairsWith-push told = record {
      each = λ one within told'. ⊎_elim (λ before. Contains-append_left pairs (pair ∷ []) (pair_of placed.place one.place) (are.each one before told'))
          (λ is. subst (λ (last : Placed X). Contains (pairs ++ pair ∷ []) (pair_of placed.place last.place)) is (Contains-push pairs pair))
          (Contains-push_cases others other one within);
      of = λ one within. ⊎_elim (λ before. still one (are.of one before))
          (λ is. (other, Contains-push others other, told, sym is))
          (Contains-push_cases pairs pair one within);
      once = λ apart. all_pairs_push (λ one later. one ≢ later) pairs pair (are.once (apart_before apart))
          (λ k d within same.
          let (one, among, _, is) = are.of (get_or pairs k d) (Contains-get_or pairs k d within) in
          let across = AllPairs-across (λ (first later : Placed X). first.place ≢ later.place) others (other ∷ []) apart in
          let differ = All-head (λ (later : Placed X). one.place ≢ later.place) other [] (All-contains (λ (first : Placed X). All (λ (later : Placed X). first.place ≢ later.place) (other ∷ [])) others one across among) in
          differ (pair_of-same placed.place one.place other.place (sym is ∙ same)));
    }
      where
        pair : ℕ × ℕ
        pair = pair_of placed.place other.place

  -- Steps of a loop over the others.
  module _ (others : List (Placed X)) (before : List (ℕ × ℕ)) where
    pub GainsPairs-none : GainsPairs bounds Meeting strips strip placed [] before before
    GainsPairs-none = ([], sym (append-nil before), ArePairsWith-nil)

    module _ (k : ℕ) (d : Placed X) (now : List (ℕ × ℕ)) (inside : k < length others) (gains : GainsPairs bounds Meeting strips strip placed (take k others) before now) where
      GainsPairs-skip : ¬ (IsTold bounds Meeting strips strip placed.item (get_or others k d).item) → GainsPairs bounds Meeting strips strip placed (take (k + 1) others) before now
      GainsPairs-skip none =
          let (pairs, is, are) = gains in (
            pairs,
            is,
            subst (λ (some : List (Placed X)). ArePairsWith bounds Meeting strips strip placed some pairs) (sym (take_more others k d inside))
                (ArePairsWith-skip (take k others) (get_or others k d) pairs are none),
          )

      GainsPairs-push : (after : List (ℕ × ℕ)) → IsTold bounds Meeting strips strip placed.item (get_or others k d).item → after ≡ now ++ pair_of placed.place (get_or others k d).place ∷ [] → GainsPairs bounds Meeting strips strip placed (take (k + 1) others) before after
      GainsPairs-push after told joined =
          let (pairs, is, are) = gains in
          let pair = pair_of placed.place (get_or others k d).place in (
            pairs ++ pair ∷ [],
            joined ∙ ap (λ (all : List (ℕ × ℕ)). all ++ pair ∷ []) is ∙ append_assoc before pairs (pair ∷ []),
            subst (λ (some : List (Placed X)). ArePairsWith bounds Meeting strips strip placed some (pairs ++ pair ∷ [])) (sym (take_more others k d inside))
                (ArePairsWith-push (take k others) (get_or others k d) pairs are told),
          )

      pub GainsPairs-more : (after : List (ℕ × ℕ)) → GainsPair bounds Meeting strips strip placed (get_or others k d) now after → GainsPairs bounds Meeting strips strip placed (take (k + 1) others) before after
      GainsPairs-more after (inl (told, joined)) = GainsPairs-push after told joined
      GainsPairs-more after (inr (none, same)) = subst (λ (list : List (ℕ × ℕ)). GainsPairs bounds Meeting strips strip placed (take (k + 1) others) before list) (sym same) (GainsPairs-skip none)
