-- An edge leaves the status: the entry at its place, and what stays of the list.
use Rattle.std.proofs.Common.{◌≡◌, ℕ, ◌<◌, List, ◌∷◌, ◌++◌, length, sym, ap, ◌∙◌, subst, inl, inr, set, arith, Option, get_or, length-set}
use Rattle.std.specs.Prelude.{slice_index}
use Rattle.std.proofs.lemmas.List.{get_or_read, map-append}
use Rattle.i_tree.proofs.RbLemmas.SearchPath.Entries.{values-LosesAt}
use Rattle.i_tree.proofs.RbLemmas.Shape.Contexts.{occurs_among, occurs_among-append, one_if_same-same}
use Rattle.i_tree.specs.Rb.Items.{items_of}
use Rattle.i_tree.specs.Rb.Removal.{LosesAt}
use Rattle.i_tree.specs.declared.TheConstants.{EMPTY_REF}
use Rattle.plane.specs.declared.sweep_line.active.ActiveEdge.{ActiveEdge}
use Rattle.plane.specs.Columns.Status.{AreHandlesOf, BeginsWith, EndsWith, IsAmong, IsOfLine, LeavesLine}
use Rattle.plane.proofs.ColumnLemmas.StatusEntries.{AreOnce, occurs-here, same_item}
use Rattle.plane.proofs.ColumnLemmas.StatusHandles.{IsCutAt, among_here, handles_renamed, handles_without, line_cut, no_other}

-- the entry whose edge has the place
pub record IsFound (list : List (ℕ × ActiveEdge)) (handles : List ℕ) (place handle : ℕ) : Type 0 where
  pub front : List (ℕ × ActiveEdge)
  pub active : ActiveEdge
  pub back : List (ℕ × ActiveEdge)
  pub cut : list ≡ front ++ (handle, active) ∷ back
  pub place_is : active.place ≡ place
  pub within : place < length handles

pub found_at : (list : List (ℕ × ActiveEdge)) (handles : List ℕ) → AreHandlesOf list handles → (edges : List ActiveEdge) → items_of list ≡ edges → (place : ℕ) → IsOfLine edges place
    → (handle : ℕ) → handle ≡ get_or handles place handle → IsFound list handles place handle
found_at list handles are edges items_are place (front, active, back, is, place_is) handle read = of_cut (line_cut list front active back (items_are ∙ is))
  where
    of_cut : IsCutAt list front active back → IsFound list handles place handle
    of_cut at =
        let own = are.each at.handle active (at.before, at.after, at.cut) in
        let within : place < length handles = subst (λ (number : ℕ). number < length handles) place_is own.0 in
        let same : at.handle ≡ handle = sym (get_or_read handles place handle within read 0 ∙ ap (λ (number : ℕ). slice_index handles number) (sym place_is) ∙ own.1) in
        record {
          front = at.before;
          active = active;
          back = at.after;
          cut = at.cut ∙ ap (λ (number : ℕ). at.before ++ (number, active) ∷ at.after) same;
          place_is = place_is;
          within = within;
        }

pub place_within : (list : List (ℕ × ActiveEdge)) (handles : List ℕ) → AreHandlesOf list handles → (edges : List ActiveEdge) → items_of list ≡ edges → (place : ℕ) → IsOfLine edges place → place < length handles
place_within list handles are edges items_are place (front, active, back, is, place_is) =
    let at = line_cut list front active back (items_are ∙ is) in
    subst (λ (number : ℕ). number < length handles) place_is (are.each at.handle active (at.before, at.after, at.cut)).0

AreOnce-without : (front : List (ℕ × ActiveEdge)) (entry : ℕ × ActiveEdge) (back : List (ℕ × ActiveEdge)) → AreOnce (front ++ entry ∷ back) → AreOnce (front ++ back)
AreOnce-without front entry back once =
    record {
      once = λ handle. omega (arith, once.once handle, occurs_among-append handle front (entry ∷ back), occurs_among-append handle front back);
      none_empty = omega (arith, once.none_empty, occurs_among-append EMPTY_REF front (entry ∷ back), occurs_among-append EMPTY_REF front back);
    }

module _ (list : List (ℕ × ActiveEdge)) (once : AreOnce list) (handles : List ℕ) (are : AreHandlesOf list handles) (place handle : ℕ) (found : IsFound list handles place handle)
    (after : List (ℕ × ActiveEdge)) (loses : LosesAt handle found.front found.back after) where
  once_there : AreOnce (found.front ++ (handle, found.active) ∷ found.back)
  once_there = subst AreOnce found.cut once

  are_there : AreHandlesOf (found.front ++ (handle, found.active) ∷ found.back) handles
  are_there = let P : List (ℕ × ActiveEdge) → Type 0 = λ list. AreHandlesOf list handles in subst P found.cut are

  gone : occurs_among handle (found.front ++ found.back) ≡ 0
  gone =
      omega (arith, once_there.once handle, occurs_among-append handle found.front ((handle, found.active) ∷ found.back), occurs_among-append handle found.front found.back, one_if_same-same handle)

  left_there : AreHandlesOf (found.front ++ found.back) (set handles place EMPTY_REF)
  left_there =
      let P : ℕ → Type 0 = λ number. AreHandlesOf (found.front ++ found.back) (set handles number EMPTY_REF) in
      subst P found.place_is
      (handles_without found.front handle found.active found.back handles are_there (no_other found.front handle found.active found.back once_there handles are_there))

  -- the next entry's edge has come to the handle
  pub record HasMoved (read : ActiveEdge) : Type 0 where
    pub next : ℕ
    pub rest : List (ℕ × ActiveEdge)
    pub was : found.back ≡ (next, read) ∷ rest
    pub is : after ≡ found.front ++ (handle, read) ∷ rest

  pub has_moved : AreOnce after → (read : ActiveEdge) → IsAmong after (handle, read) → HasMoved read
  has_moved once_after read (front, back, cut) = by_case loses
    where
      by_case : LosesAt handle found.front found.back after → HasMoved read
      by_case (inl is) =
          let here = occurs-here front (handle, read) back in
          let same = ap (occurs_among handle) (sym is ∙ cut) in
          let none = gone in
          absurd (omega arith)
      by_case (inr (next, item, rest, was, is)) =
          let P : List (ℕ × ActiveEdge) → Type 0 = λ list. IsAmong list (handle, item) in
          let same : read ≡ item = same_item after once_after handle read item (front, back, cut) (subst P (sym is) (among_here found.front (handle, item) rest)) in
          record {
            next = next;
            rest = rest;
            was = was ∙ ap (λ (edge : ActiveEdge). (next, edge) ∷ rest) (sym same);
            is = is ∙ ap (λ (edge : ActiveEdge). found.front ++ (handle, edge) ∷ rest) (sym same);
          }

  -- its place is one of the places
  pub moved_within : (read : ActiveEdge) → HasMoved read → read.place < length handles
  moved_within read moved =
      let P : ℕ → Type 0 = λ number. read.place < number in
      subst P (length-set handles place EMPTY_REF)
      (left_there.each moved.next read (found.front, moved.rest, ap (λ (xs : List (ℕ × ActiveEdge)). found.front ++ xs) moved.was)).0

  pub handles_moved : (read : ActiveEdge) → HasMoved read → AreHandlesOf after (set (set handles place EMPTY_REF) read.place handle)
  handles_moved read moved =
      let cut : found.front ++ found.back ≡ found.front ++ (moved.next, read) ∷ moved.rest = ap (λ (xs : List (ℕ × ActiveEdge)). found.front ++ xs) moved.was in
      let P : List (ℕ × ActiveEdge) → Type 0 = λ list. AreHandlesOf list (set handles place EMPTY_REF) in
      let are_left = subst P cut left_there in
      let once_left = subst AreOnce cut (AreOnce-without found.front (handle, found.active) found.back once_there) in
      let Q : List (ℕ × ActiveEdge) → Type 0 = λ list. AreHandlesOf list (set (set handles place EMPTY_REF) read.place handle) in
      subst Q (sym moved.is)
      (handles_renamed found.front moved.next read moved.rest (set handles place EMPTY_REF) are_left
      (no_other found.front moved.next read moved.rest once_left (set handles place EMPTY_REF) are_left) handle)

  -- no entry has the handle
  pub handles_left : occurs_among handle after ≡ 0 → AreHandlesOf after (set handles place EMPTY_REF)
  handles_left none = by_case loses
    where
      by_case : LosesAt handle found.front found.back after → AreHandlesOf after (set handles place EMPTY_REF)
      by_case (inl is) = let P : List (ℕ × ActiveEdge) → Type 0 = λ list. AreHandlesOf list (set handles place EMPTY_REF) in subst P (sym is) left_there
      by_case (inr (next, item, rest, was, is)) =
          let here = occurs-here found.front (handle, item) rest in
          let same = ap (occurs_among handle) is in
          absurd (omega arith)

  pub items_left : items_of after ≡ items_of found.front ++ items_of found.back
  items_left = values-LosesAt handle found.front found.back after loses

  pub leaves_line : (edges : List ActiveEdge) → items_of list ≡ edges → (told : Option ActiveEdge × Option ActiveEdge)
      → EndsWith (items_of found.front) told.0 × BeginsWith (items_of found.back) told.1 → LeavesLine place edges (items_of after) told
  leaves_line edges edges_are told beside =
      record {
        front = items_of found.front;
        ending = found.active;
        back = items_of found.back;
        was = sym edges_are ∙ ap items_of found.cut ∙ map-append (λ (pair : ℕ × ActiveEdge). pair.1) found.front ((handle, found.active) ∷ found.back);
        is = found.place_is;
        left = items_left;
        below = beside.0;
        above = beside.1;
      }
