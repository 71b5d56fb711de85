-- The entries of a status: where one is, and those next to it.
use Rattle.std.proofs.Common.{◌≡◌, ◌≢◌, ℕ, ◌<◌, ◌≤◌, List, [], ◌∷◌, ◌++◌, refl, sym, ap, ◌∙◌, subst, ⊎_elim, arith, append_assoc, Option, MatchOption}
use Rattle.std.specs.declared.option.Option.TheVariants.{None, Some}
use Rattle.std.proofs.lemmas.Bool.{cases_lt}
use Rattle.std.proofs.lemmas.List.{map-append}
use Rattle.i_tree.proofs.RootLemmas.Joined.{last_cut}
use Rattle.i_tree.proofs.RbLemmas.Shape.Contexts.{occurs_among, occurs_among-append, occurs_among-entries, one_if_same-cases, one_if_same-same, same_cut}
use Rattle.i_tree.proofs.RbLemmas.Shape.SubtreeHandles.{live_from_cut, value_at}
use Rattle.i_tree.proofs.RbLemmas.Shape.Subtrees.{last_handle-append}
use Rattle.i_tree.specs.Rb.Items.{items_of}
use Rattle.i_tree.specs.Rb.Shape.{AreHandles, IsHandle, Shape, entries, first_handle, last_handle, left_at, one_if_same, right_at, subtree_at}
use Rattle.i_tree.specs.declared.TheConstants.{EMPTY_REF}
use Rattle.plane.specs.declared.sweep_line.active.ActiveEdge.{ActiveEdge}
use Rattle.plane.specs.Columns.Status.{BeginsWith, EndsWith, IsAmong}

-- no handle stands twice, and EMPTY_REF isn't one
pub record AreOnce (list : List (ℕ × ActiveEdge)) : Type 0 where
  pub once : (handle : ℕ) → occurs_among handle list ≤ 1
  pub none_empty : occurs_among EMPTY_REF list ≡ 0

pub AreOnce-entries : (tree : Shape ActiveEdge) → AreHandles tree → AreOnce (entries tree)
AreOnce-entries tree handles =
    record {
      once = λ handle. let same = occurs_among-entries handle tree in let apart = handles.apart handle in omega arith;
      none_empty = occurs_among-entries EMPTY_REF tree ∙ handles.none_empty;
    }

-- where an entry stands, its handle occurs
pub occurs-here : (front : List (ℕ × ActiveEdge)) (entry : ℕ × ActiveEdge) (back : List (ℕ × ActiveEdge)) → 0 < occurs_among entry.0 (front ++ entry ∷ back)
occurs-here front entry back = omega (arith, occurs_among-append entry.0 front (entry ∷ back), one_if_same-same entry.0)

-- a handle that occurs is that of an entry
pub cut_of : (list : List (ℕ × ActiveEdge)) (handle : ℕ) → 0 < occurs_among handle list
    → (front : List (ℕ × ActiveEdge)) × (item : ActiveEdge) × (back : List (ℕ × ActiveEdge)) × (list ≡ front ++ (handle, item) ∷ back)
cut_of [] handle some = absurd (omega arith)
cut_of (entry ∷ rest) handle some =
    ⊎_elim
    (λ here. ([], entry.1, rest, ap (λ (number : ℕ). (number, entry.1) ∷ rest) (sym ((one_if_same-cases handle entry.0).1 here))))
    (λ elsewhere.
    let (front, item, back, cut) = cut_of rest handle (omega arith) in
    (entry ∷ front, item, back, ap (λ (list : List (ℕ × ActiveEdge)). entry ∷ list) cut))
    (cases_lt 0 (one_if_same handle entry.0))

pub entry_cut : (tree : Shape ActiveEdge) (handle : ℕ) → IsHandle tree handle
    → (front : List (ℕ × ActiveEdge)) × (item : ActiveEdge) × (back : List (ℕ × ActiveEdge)) × (entries tree ≡ front ++ (handle, item) ∷ back)
entry_cut tree handle live = cut_of (entries tree) handle (let same = occurs_among-entries handle tree in omega arith)

-- what is read at a handle is its entry's
pub read_is_among : (tree : Shape ActiveEdge) (handle : ℕ) (read : ActiveEdge) → AreHandles tree → IsHandle tree handle
    → entries (subtree_at handle tree) ≡ entries (left_at handle tree) ++ (handle, read) ∷ entries (right_at handle tree) → IsAmong (entries tree) (handle, read)
read_is_among tree handle read handles live subtrees =
    let (front, item, back, cut) = entry_cut tree handle live in
    let same = value_at handle tree read (handles.apart handle) live subtrees front item back cut in
    (front, back, cut ∙ ap (λ (edge : ActiveEdge). front ++ (handle, edge) ∷ back) (sym same))

-- an entry stands in one place
pub same_place : (list : List (ℕ × ActiveEdge)) → AreOnce list → (handle : ℕ) (item : ActiveEdge) (front back : List (ℕ × ActiveEdge)) (item' : ActiveEdge) (front' back' : List (ℕ × ActiveEdge))
    → list ≡ front ++ (handle, item) ∷ back → list ≡ front' ++ (handle, item') ∷ back' → (front ≡ front') × (item ≡ item') × (back ≡ back')
same_place list once handle item front back item' front' back' cut cut' =
    let P : List (ℕ × ActiveEdge) → Type 0 = λ xs. occurs_among handle xs ≤ 1 in
    same_cut handle front back front' back' item item' (subst P cut (once.once handle)) (sym cut ∙ cut')

pub same_item : (list : List (ℕ × ActiveEdge)) → AreOnce list → (handle : ℕ) (item item' : ActiveEdge) → IsAmong list (handle, item) → IsAmong list (handle, item') → item ≡ item'
same_item list once handle item item' (front, back, cut) (front', back', cut') = (same_place list once handle item front back item' front' back' cut cut').1

-- no entry has the handle of none
pub handle-some : (list : List (ℕ × ActiveEdge)) → AreOnce list → (handle : ℕ) (item : ActiveEdge) → IsAmong list (handle, item) → handle ≢ EMPTY_REF
handle-some list once handle item (front, back, cut) same =
    let here = occurs-here front (handle, item) back in
    let whole = ap (occurs_among handle) cut in
    let at_empty : occurs_among handle list ≡ occurs_among EMPTY_REF list = ap (λ (number : ℕ). occurs_among number list) same in
    let none = once.none_empty in
    omega arith

module _ (list : List (ℕ × ActiveEdge)) (front back : List (ℕ × ActiveEdge)) (cut : list ≡ front ++ back) where
  -- the last in front, and the first behind, where there is one
  pub last_among : (handle : ℕ) → handle ≡ last_handle front → handle ≢ EMPTY_REF → (rest : List (ℕ × ActiveEdge)) × (item : ActiveEdge) × (front ≡ rest ++ (handle, item) ∷ [])
  last_among handle is some = by_list front is
    where
      by_list : (front : List (ℕ × ActiveEdge)) → handle ≡ last_handle front → (rest : List (ℕ × ActiveEdge)) × (item : ActiveEdge) × (front ≡ rest ++ (handle, item) ∷ [])
      by_list [] is = absurd (some is)
      by_list (first ∷ more) is =
          let (rest, last, ends) = last_cut first more in
          let same : last.0 ≡ handle = sym (is ∙ ap last_handle ends ∙ last_handle-append rest last []) in
          (rest, last.1, ends ∙ ap (λ (number : ℕ). rest ++ (number, last.1) ∷ []) same)

  pub first_among : (handle : ℕ) → handle ≡ first_handle back → handle ≢ EMPTY_REF → (item : ActiveEdge) × (rest : List (ℕ × ActiveEdge)) × (back ≡ (handle, item) ∷ rest)
  first_among handle is some = by_list back is
    where
      by_list : (back : List (ℕ × ActiveEdge)) → handle ≡ first_handle back → (item : ActiveEdge) × (rest : List (ℕ × ActiveEdge)) × (back ≡ (handle, item) ∷ rest)
      by_list [] is = absurd (some is)
      by_list (first ∷ rest) is = (first.1, rest, ap (λ (number : ℕ). (number, first.1) ∷ rest) (sym is))

  pub cut_at_last : (rest : List (ℕ × ActiveEdge)) (entry : ℕ × ActiveEdge) → front ≡ rest ++ entry ∷ [] → list ≡ rest ++ entry ∷ back
  cut_at_last rest entry is = cut ∙ ap (λ (xs : List (ℕ × ActiveEdge)). xs ++ back) is ∙ append_assoc rest (entry ∷ []) back

  pub cut_at_first : (entry : ℕ × ActiveEdge) (rest : List (ℕ × ActiveEdge)) → back ≡ entry ∷ rest → list ≡ front ++ entry ∷ rest
  cut_at_first entry rest is = cut ∙ ap (λ (xs : List (ℕ × ActiveEdge)). front ++ xs) is

module _ (list : List (ℕ × ActiveEdge)) (once : AreOnce list) (front back : List (ℕ × ActiveEdge)) (cut : list ≡ front ++ back) where
  -- where there is none, the list ends there
  pub nothing_last : EMPTY_REF ≡ last_handle front → front ≡ []
  nothing_last is = by_list front refl
    where
      by_list : (xs : List (ℕ × ActiveEdge)) → front ≡ xs → xs ≡ []
      by_list [] same = refl
      by_list (first ∷ more) same =
          let (rest, last, ends) = last_cut first more in
          let handle_is : EMPTY_REF ≡ last.0 = is ∙ ap last_handle (same ∙ ends) ∙ last_handle-append rest last [] in
          absurd (handle-some list once last.0 last.1 (rest, back, cut_at_last list front back cut rest last (same ∙ ends)) (sym handle_is))

  pub nothing_first : EMPTY_REF ≡ first_handle back → back ≡ []
  nothing_first is = by_list back refl
    where
      by_list : (xs : List (ℕ × ActiveEdge)) → back ≡ xs → xs ≡ []
      by_list [] same = refl
      by_list (first ∷ rest) same =
          absurd (handle-some list once first.0 first.1 (front, rest, cut_at_first list front back cut first rest same) (sym (is ∙ ap first_handle same)))

  -- the edges next to a place, as they are told
  pub ends_with : (handle : ℕ) (told : Option ActiveEdge) → handle ≡ last_handle front → MatchOption told (handle ≡ EMPTY_REF) (λ active. IsAmong list (handle, active)) → EndsWith (items_of front) told
  ends_with handle None is none = ap items_of (nothing_last (sym none ∙ is))
  ends_with handle (Some active) is among =
      let (rest, item, ends) = last_among list front back cut handle is (handle-some list once handle active among) in
      let same = same_item list once handle active item among (rest, back, cut_at_last list front back cut rest (handle, item) ends) in (
        items_of rest,
        ap items_of ends ∙ map-append (λ (pair : ℕ × ActiveEdge). pair.1) rest ((handle, item) ∷ []) ∙ ap (λ (edge : ActiveEdge). items_of rest ++ edge ∷ []) (sym same),
      )

  pub begins_with : (handle : ℕ) (told : Option ActiveEdge) → handle ≡ first_handle back → MatchOption told (handle ≡ EMPTY_REF) (λ active. IsAmong list (handle, active)) → BeginsWith (items_of back) told
  begins_with handle None is none = ap items_of (nothing_first (sym none ∙ is))
  begins_with handle (Some active) is among =
      let (item, rest, begins) = first_among list front back cut handle is (handle-some list once handle active among) in
      let same = same_item list once handle active item among (front, rest, cut_at_first list front back cut (handle, item) rest begins) in
      (items_of rest, ap items_of begins ∙ ap (λ (edge : ActiveEdge). edge ∷ items_of rest) (sym same))

-- the handles next to a live one are live, where they are any
module _ (tree : Shape ActiveEdge) (handle : ℕ) (live : IsHandle tree handle) where
  pub before_live : (before : ℕ) → ((front : List (ℕ × ActiveEdge)) (item : ActiveEdge) (back : List (ℕ × ActiveEdge)) → entries tree ≡ front ++ (handle, item) ∷ back → before ≡ last_handle front)
      → before ≢ EMPTY_REF → IsHandle tree before
  before_live before is some =
      let (front, item, back, cut) = entry_cut tree handle live in
      let (rest, last, ends) = last_among (entries tree) front ((handle, item) ∷ back) cut before (is front item back cut) some in
      live_from_cut before tree rest last ((handle, item) ∷ back) (cut_at_last (entries tree) front ((handle, item) ∷ back) cut rest (before, last) ends)

  pub after_live : (after : ℕ) → ((front : List (ℕ × ActiveEdge)) (item : ActiveEdge) (back : List (ℕ × ActiveEdge)) → entries tree ≡ front ++ (handle, item) ∷ back → after ≡ first_handle back)
      → after ≢ EMPTY_REF → IsHandle tree after
  after_live after is some =
      let (front, item, back, cut) = entry_cut tree handle live in
      let (first, rest, begins) = first_among (entries tree) (front ++ (handle, item) ∷ []) back (cut ∙ sym (append_assoc front ((handle, item) ∷ []) back)) after (is front item back cut) some in
      live_from_cut after tree (front ++ (handle, item) ∷ []) first rest
      (cut_at_first (entries tree) (front ++ (handle, item) ∷ []) back (cut ∙ sym (append_assoc front ((handle, item) ∷ []) back)) (after, first) rest begins)

-- the handle behind the last in front of a place is that of the first behind it
pub behind_last : (list : List (ℕ × ActiveEdge)) → (front back : List (ℕ × ActiveEdge)) → list ≡ front ++ back → (last after : ℕ) → last ≢ EMPTY_REF → last ≡ last_handle front
    → ((front : List (ℕ × ActiveEdge)) (item : ActiveEdge) (back : List (ℕ × ActiveEdge)) → list ≡ front ++ (last, item) ∷ back → after ≡ first_handle back) → after ≡ first_handle back
behind_last list front back cut last after some last_is after_is =
    let (rest, item, ends) = last_among list front back cut last last_is some in
    after_is rest item back (cut_at_last list front back cut rest (last, item) ends)

pub first_of_all : (list : List (ℕ × ActiveEdge)) → AreOnce list → (front back : List (ℕ × ActiveEdge)) → list ≡ front ++ back → (last first : ℕ) → last ≡ EMPTY_REF → last ≡ last_handle front → first ≡ first_handle list → first ≡ first_handle back
first_of_all list once front back cut last first none last_is first_is =
    first_is ∙ ap first_handle (cut ∙ ap (λ (xs : List (ℕ × ActiveEdge)). xs ++ back) (nothing_last list once front back cut (sym none ∙ last_is)))

pub last_live : (tree : Shape ActiveEdge) → (front back : List (ℕ × ActiveEdge)) → entries tree ≡ front ++ back → (last : ℕ) → last ≡ last_handle front → last ≢ EMPTY_REF → IsHandle tree last
last_live tree front back cut last is some =
    let (rest, item, ends) = last_among (entries tree) front back cut last is some in
    live_from_cut last tree rest item back (cut_at_last (entries tree) front back cut rest (last, item) ends)
