-- Two edges next to each other change places in the tree.
use Rattle.std.proofs.Common.{◌≡◌, ℕ, ◌≤◌, List, [], ◌∷◌, ◌++◌, sym, ap, ◌∙◌, subst, append_assoc}
use Rattle.i_tree.proofs.RbLemmas.Removal.Items.{entries-with_item, set_item, set_item-cut}
use Rattle.i_tree.proofs.RbLemmas.Shape.Contexts.{occurs_among}
use Rattle.i_tree.proofs.RbLemmas.Shape.Items.{AreHandles-with_item}
use Rattle.i_tree.proofs.RbLemmas.Shape.SubtreeHandles.{live_from_cut, value_at}
use Rattle.i_tree.specs.Rb.Shape.{AreHandles, IsHandle, Shape, entries, left_at, right_at, subtree_at, with_item}
use Rattle.plane.specs.declared.sweep_line.active.ActiveEdge.{ActiveEdge}
use Rattle.plane.proofs.ColumnLemmas.StatusEntries.{AreOnce-entries}

-- what is read at a handle
pub read_is : (tree : Shape ActiveEdge) → AreHandles tree → (handle : ℕ) (read : ActiveEdge)
    → entries (subtree_at handle tree) ≡ entries (left_at handle tree) ++ (handle, read) ∷ entries (right_at handle tree)
    → (front : List (ℕ × ActiveEdge)) (item : ActiveEdge) (back : List (ℕ × ActiveEdge)) → entries tree ≡ front ++ (handle, item) ∷ back → read ≡ item
read_is tree handles handle read subtrees front item back cut =
    value_at handle tree read (handles.apart handle) (live_from_cut handle tree front item back cut) subtrees front item back cut

-- an entry gets another item
pub item_set : (tree : Shape ActiveEdge) → AreHandles tree → (handle : ℕ) (new : ActiveEdge) (front : List (ℕ × ActiveEdge)) (item : ActiveEdge) (back : List (ℕ × ActiveEdge))
    → entries tree ≡ front ++ (handle, item) ∷ back → entries (with_item handle new tree) ≡ front ++ (handle, new) ∷ back
item_set tree handles handle new front item back cut =
    let P : List (ℕ × ActiveEdge) → Type 0 = λ list. occurs_among handle list ≤ 1 in
    entries-with_item handle new tree ∙ ap (set_item handle new) cut
    ∙ set_item-cut handle new front item back (subst P cut ((AreOnce-entries tree handles).once handle))

module _ (tree : Shape ActiveEdge) (front : List (ℕ × ActiveEdge)) (low : ℕ) (lower : ActiveEdge) (high : ℕ) (upper : ActiveEdge) (back : List (ℕ × ActiveEdge))
    (cut : entries tree ≡ front ++ (low, lower) ∷ (high, upper) ∷ back) where
  pub high_cut : entries tree ≡ (front ++ (low, lower) ∷ []) ++ (high, upper) ∷ back
  high_cut = cut ∙ sym (append_assoc front ((low, lower) ∷ []) ((high, upper) ∷ back))

  pub low_live : IsHandle tree low
  low_live = live_from_cut low tree front lower ((high, upper) ∷ back) cut

  pub high_live : IsHandle tree high
  high_live = live_from_cut high tree (front ++ (low, lower) ∷ []) upper back high_cut

  -- the higher one's handle is live behind the first write
  pub high_live_then : AreHandles tree → (first : ActiveEdge) → IsHandle (with_item low first tree) high
  high_live_then handles first =
      live_from_cut high (with_item low first tree) (front ++ (low, first) ∷ []) upper back
      (item_set tree handles low first front lower ((high, upper) ∷ back) cut ∙ sym (append_assoc front ((low, first) ∷ []) ((high, upper) ∷ back)))

  pub items_exchanged : AreHandles tree → (first second : ActiveEdge) → first ≡ upper → second ≡ lower
      → entries (with_item high second (with_item low first tree)) ≡ front ++ (low, upper) ∷ (high, lower) ∷ back
  items_exchanged handles first second first_is second_is =
      item_set (with_item low first tree) (AreHandles-with_item low first tree handles) high second (front ++ (low, first) ∷ []) upper back
      (item_set tree handles low first front lower ((high, upper) ∷ back) cut ∙ sym (append_assoc front ((low, first) ∷ []) ((high, upper) ∷ back)))
      ∙ append_assoc front ((low, first) ∷ []) ((high, second) ∷ back)
      ∙ ap (λ (edge : ActiveEdge). front ++ (low, edge) ∷ (high, second) ∷ back) first_is
      ∙ ap (λ (edge : ActiveEdge). front ++ (low, upper) ∷ (high, edge) ∷ back) second_is
