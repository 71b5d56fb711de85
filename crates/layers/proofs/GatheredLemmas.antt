-- Lists that are gathered behind what stood there.
use Rattle.std.proofs.Common.{◌≡◌, ℕ, ◌+◌, ◌<◌, ◌≤◌, List, [], ◌∷◌, ◌++◌, length, get_or, map, take, refl, subst, sym, ap, ap₂, ◌∙◌, append-nil, append_assoc}
use Rattle.std.specs.List.{flat_map}
use Rattle.std.proofs.lemmas.List.{length-append, map_more, take_all}
use Rattle.noding.specs.Offsets.{offsets}
use Rattle.layers.specs.Gathered.{AreGathered}
use Rattle.std.proofs.lemmas.List.Concat.{flat_map-append}
use Rattle.layers.proofs.ListLemmas.{offsets-append}

module _ {X : Type 0} where
  -- nothing is gathered
  pub AreGathered-none : (items : List X) (ends : List ℕ) → AreGathered [] items items ends ends
  AreGathered-none items ends = record { items_are = sym (append-nil items); ends_are = sym (append-nil ends) }

  -- one list is gathered
  pub AreGathered-one : (list items items' : List X) (ends ends' : List ℕ) (end : ℕ) → items' ≡ items ++ list → ends' ≡ ends ++ end ∷ [] → end ≡ length items' → AreGathered (list ∷ []) items items' ends ends'
  AreGathered-one list items items' ends ends' end items_are ends_are is = record {
    items_are = items_are ∙ ap (λ (l : List X). items ++ l) (sym (append-nil list));
    ends_are = ends_are ∙ ap (λ (n : ℕ). ends ++ n ∷ []) (is ∙ ap (λ (l : List X). length l) items_are ∙ length-append items list);
  }

  -- lists are gathered, and then others
  pub AreGathered-more : (lists others : List (List X)) (items items' items'' : List X) (ends ends' ends'' : List ℕ) → AreGathered lists items items' ends ends' → AreGathered others items' items'' ends' ends''
      → AreGathered (lists ++ others) items items'' ends ends''
  AreGathered-more lists others items items' items'' ends ends' ends'' are more =
      let first = flat_map (λ (list : List X). list) lists in
      let second = flat_map (λ (list : List X). list) others in
      let size : length items' ≡ length items + length first = ap (λ (l : List X). length l) are.items_are ∙ length-append items first in
      record {
        items_are = more.items_are ∙ ap (λ (l : List X). l ++ second) are.items_are ∙ append_assoc items first second ∙ ap (λ (l : List X). items ++ l) (sym (flat_map-append (λ (list : List X). list) lists others));
        ends_are = more.ends_are ∙ ap₂ (λ (l : List ℕ) (n : ℕ). l ++ offsets n others) are.ends_are size ∙ append_assoc ends (offsets (length items) lists) (offsets (length items + length first) others)
            ∙ ap (λ (l : List ℕ). ends ++ l) (sym (offsets-append (length items) lists others));
      }

  -- what is made of one list more is gathered
  pub AreGathered-made : {L : Type 0} (made : List L → List X) (lists : List (List L)) (k : ℕ) (old items items' : List X) (old_ends ends ends' : List ℕ) (end : ℕ) → k < length lists
      → items' ≡ items ++ made (get_or lists k []) → ends' ≡ ends ++ end ∷ [] → end ≡ length items' → AreGathered (map made (take k lists)) old items old_ends ends
      → AreGathered (map made (take (k + 1) lists)) old items' old_ends ends'
  AreGathered-made made lists k old items items' old_ends ends ends' end inside items_are ends_are is so_far =
      subst (λ (some : List (List X)). AreGathered some old items' old_ends ends') (sym (map_more made lists k [] inside))
      (AreGathered-more (map made (take k lists)) (made (get_or lists k []) ∷ []) old items items' old_ends ends ends' so_far
      (AreGathered-one (made (get_or lists k [])) items items' ends ends' end items_are ends_are is))

  -- what is made of lists, one list after another
  pub joined-map : {L : Type 0} (made : List L → List X) (lists : List (List L)) → flat_map (λ list. list) (map made lists) ≡ flat_map made lists
  joined-map made [] = refl
  joined-map made (list ∷ lists) = ap (λ (l : List X). made list ++ l) (joined-map made lists)

  -- what is made of all of them
  pub AreGathered-all : {L : Type 0} (made : List L → List X) (lists : List (List L)) (k : ℕ) (old items : List X) (old_ends ends : List ℕ) → length lists ≤ k → AreGathered (map made (take k lists)) old items old_ends ends
      → (items ≡ old ++ flat_map made lists) × (ends ≡ old_ends ++ offsets (length old) (map made lists))
  AreGathered-all {L} made lists k old items old_ends ends past so_far =
      let all = subst (λ (some : List (List L)). AreGathered (map made some) old items old_ends ends) (take_all k lists past) so_far in
      (all.items_are ∙ ap (λ (l : List X). old ++ l) (joined-map made lists), all.ends_are)
