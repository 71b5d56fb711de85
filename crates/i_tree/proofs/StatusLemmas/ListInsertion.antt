-- A pair that is put among the live ones of a list, behind all that are called Less and before all that are called Greater.
use Rattle.std.proofs.Common.{◌≡◌, ◌≢◌, ℕ, Bool, false, Option, None, Some, List, drop, take, refl, sym, subst}
use Rattle.std.specs.List.{All, filter, insert}
use Rattle.std.specs.declared.cmp.Ordering.{Ordering}
use Rattle.std.specs.declared.cmp.Ordering.TheVariants.{Less, Greater}
use Rattle.std.proofs.lemmas.List.{take-append-drop}
use Rattle.std.proofs.lemmas.List.Elements.{All-filter, All-weaker}
use Rattle.i_tree.proofs.RootLemmas.Along.{NoneEqual-between, neighbours_at_cut}
use Rattle.i_tree.proofs.RootLemmas.Lists.{Without-filter}
use Rattle.i_tree.specs.Root.Along.{AreNeighbours, ByEachOrder, NoneEqual}
use Rattle.i_tree.specs.Root.Change.{Without}
use Rattle.i_tree.specs.Root.Ends.{FirstFinds, LastFinds}
use Rattle.i_tree.specs.Status.Insertion.{JoinsAlong}

module _ {K V : Type 0} (is_live : K → Bool) (may_answer : K → Ordering → Type 0) (before : List (K × V)) (place : ℕ) where
  abbrev live : List (K × V) → List (K × V)
  live pairs = filter (λ pair. is_live pair.0) pairs

  -- the live pairs are cut at the place
  abbrev pub IsPlaced : List (K × V) → Type 0
  IsPlaced pairs = ByEachOrder may_answer pairs (λ order. All (λ pair. order pair.0 ≡ Less) (take place pairs) × All (λ pair. order pair.0 ≡ Greater) (drop place pairs))

  module _ (placed : IsPlaced (live before)) where
    pub none_equal : ByEachOrder may_answer (live before) (λ order. NoneEqual order (live before))
    none_equal order answers monotone =
        let (less, greater) = placed order answers monotone in
        subst (NoneEqual order) (take-append-drop place (live before)) (NoneEqual-between order (take place (live before)) (drop place (live before)) less greater)

    pub neighbours_placed : (found : Option (K × V) × Option (K × V)) → LastFinds (λ pair held. held ≡ Some pair) None (take place (live before)) found.0 → FirstFinds (λ pair held. held ≡ Some pair) None (drop place (live before)) found.1
        → ByEachOrder may_answer (live before) (λ order. AreNeighbours order (live before) found)
    neighbours_placed found last next order answers monotone =
        let (less, greater) = placed order answers monotone in
        neighbours_at_cut order (live before) place
        (All-weaker (λ (pair : K × V). order pair.0 ≡ Less) (λ pair. order pair.0 ≢ Greater) (λ pair is above. absurd (cc (is, above))) (take place (live before)) less) greater found last next

    pub joins_placed : (pair : K × V) → JoinsAlong is_live may_answer pair before (insert (live before) place pair)
    joins_placed pair =
        record {
          front = take place (live before);
          back = drop place (live before);
          kept = subst (Without (λ (other : K × V). is_live other.0 ≡ false) before) (sym (take-append-drop place (live before))) (Without-filter (λ (other : K × V). is_live other.0) before);
          place = refl;
          between = λ order answers monotone.
              let (less, greater) = placed order answers monotone in (
                All-filter (λ (other : K × V). is_live other.0) (λ (other : K × V). order other.0 ≡ Less) (take place (live before)) less,
                All-filter (λ (other : K × V). is_live other.0) (λ (other : K × V). order other.0 ≡ Greater) (drop place (live before)) greater,
              );
        }
