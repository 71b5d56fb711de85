-- An edge joins the line of a status, or two next to each other are exchanged.
use Rattle.std.proofs.Common.{◌≡◌, ◌≢◌, ℕ, ◌<◌, List, [], ◌∷◌, ◌++◌, length, refl, sym, ap, ◌∙◌, subst, set, get_or, append_assoc, Option}
use Rattle.std.specs.Prelude.{slice_index}
use Rattle.std.proofs.lemmas.List.{get_or_read, map-append}
use Rattle.i_tree.proofs.RbLemmas.Shape.Contexts.{occurs_among}
use Rattle.i_tree.specs.Rb.Items.{items_of}
use Rattle.i_tree.specs.Rb.Shape.{Shape, entries, first_handle}
use Rattle.i_tree.specs.declared.TheConstants.{EMPTY_REF}
use Rattle.plane.specs.declared.columns.descent.DescentEnd.{DescentEnd}
use Rattle.plane.specs.declared.columns.descent.Sought.TheVariants.{Beginning}
use Rattle.plane.specs.declared.columns.status.Exchanged.{Exchanged}
use Rattle.plane.specs.declared.sweep_line.active.ActiveEdge.{ActiveEdge}
use Rattle.plane.specs.Columns.Descent.{DescendsTo}
use Rattle.plane.specs.Columns.Status.{AreHandlesOf, AreNext, BeginsWith, EndsWith, ExchangesNext, IsAmong, IsExchange, IsOfLine, JoinsLine}
use Rattle.plane.proofs.ColumnLemmas.StatusEntries.{AreOnce, first_among, occurs-here, same_item}
use Rattle.plane.proofs.ColumnLemmas.StatusHandles.{IsCutAt, handles_exchanged, handles_with, line_cut}

-- the items of a list in which an entry stands
pub items_around : (front : List (ℕ × ActiveEdge)) (entry : ℕ × ActiveEdge) (back : List (ℕ × ActiveEdge)) → items_of (front ++ entry ∷ back) ≡ items_of front ++ entry.1 ∷ items_of back
items_around front entry back = map-append (λ (pair : ℕ × ActiveEdge). pair.1) front (entry ∷ back)

module _ (beginning : ActiveEdge) (tree : Shape ActiveEdge) (end : DescentEnd) (ended : DescendsTo (Beginning beginning) tree end) (edges : List ActiveEdge) (items_are : items_of (entries tree) ≡ edges)
    (handle : ℕ) (after : List (ℕ × ActiveEdge)) (joins : after ≡ ended.front ++ (handle, beginning) ∷ ended.back) where
  pub handles_joined : (handles : List ℕ) → AreHandlesOf (entries tree) handles → beginning.place < length handles → ¬ (IsOfLine edges beginning.place) → AreHandlesOf after (set handles beginning.place handle)
  handles_joined handles are within absent =
      let P : List (ℕ × ActiveEdge) → Type 0 = λ list. AreHandlesOf list handles in
      let Q : List (ℕ × ActiveEdge) → Type 0 = λ list. AreHandlesOf list (set handles beginning.place handle) in
      let R : List ActiveEdge → Type 0 = λ list. ¬ (IsOfLine list beginning.place) in
      subst Q (sym joins)
      (handles_with ended.front ended.back handle beginning handles (subst P ended.between.cut are) within
      (subst R (sym items_are ∙ ap items_of ended.between.cut) absent))

  pub joins_line : (told : Option ActiveEdge × Option ActiveEdge) → EndsWith (items_of ended.front) told.0 × BeginsWith (items_of ended.back) told.1 → JoinsLine beginning edges (items_of after) told
  joins_line told beside =
      record {
        front = items_of ended.front;
        back = items_of ended.back;
        split = record {
          is = sym items_are ∙ ap items_of ended.between.cut ∙ map-append (λ (pair : ℕ × ActiveEdge). pair.1) ended.front ended.back;
          below = ended.passed;
          above = ended.others;
        };
        joined = ap items_of joins ∙ items_around ended.front (handle, beginning) ended.back;
        below = beside.0;
        above = beside.1;
      }

-- Of two places of edges, what stands there.
module _ (list : List (ℕ × ActiveEdge)) (once : AreOnce list) (handles : List ℕ) (are : AreHandlesOf list handles) where
  -- a handle that is read is that of an entry, unless it is of none
  pub read_among : (place : ℕ) → place < length handles → (handle : ℕ) → handle ≡ get_or handles place handle → handle ≢ EMPTY_REF → (active : ActiveEdge) × IsAmong list (handle, active) × (active.place ≡ place)
  read_among place within handle read some =
      let at : handle ≡ slice_index handles place = get_or_read handles place handle within read 0 in
      let P : ℕ → Type 0 = λ number. (active : ActiveEdge) × IsAmong list (number, active) × (active.place ≡ place) in
      subst P (sym at) (are.others place within (λ none. some (at ∙ none)))

  -- the two entries, where the second is directly above the first
  pub record AreFound (below above low high : ℕ) : Type 0 where
    pub front : List (ℕ × ActiveEdge)
    pub lower : ActiveEdge
    pub upper : ActiveEdge
    pub back : List (ℕ × ActiveEdge)
    pub cut : list ≡ front ++ (low, lower) ∷ (high, upper) ∷ back
    pub lower_is : lower.place ≡ below
    pub upper_is : upper.place ≡ above

  module _ (below above : ℕ) (below_within : below < length handles) (above_within : above < length handles) (low high : ℕ) (low_is : low ≡ get_or handles below low) (high_is : high ≡ get_or handles above high) where
    pub next_found : low ≢ EMPTY_REF → high ≢ EMPTY_REF → (after : ℕ)
        → ((front : List (ℕ × ActiveEdge)) (item : ActiveEdge) (back : List (ℕ × ActiveEdge)) → list ≡ front ++ (low, item) ∷ back → after ≡ first_handle back)
        → after ≡ high → AreFound below above low high
    next_found low_some high_some after after_is same =
        let at_low = read_among below below_within low low_is low_some in
        let at_high = read_among above above_within high high_is high_some in
        found_from at_low.0 at_low.1 at_low.2 at_high.0 at_high.1 at_high.2
      where
        found_with : (front : List (ℕ × ActiveEdge)) (lower : ActiveEdge) (back : List (ℕ × ActiveEdge)) → list ≡ front ++ (low, lower) ∷ back → lower.place ≡ below → (upper : ActiveEdge) → IsAmong list (high, upper) → upper.place ≡ above
            → (item : ActiveEdge) × (rest : List (ℕ × ActiveEdge)) × (back ≡ (high, item) ∷ rest) → AreFound below above low high
        found_with front lower back cut lower_is upper upper_among upper_is (item, rest, begins) =
            let whole : list ≡ front ++ (low, lower) ∷ (high, item) ∷ rest = cut ∙ ap (λ (xs : List (ℕ × ActiveEdge)). front ++ (low, lower) ∷ xs) begins in
            let item_among : IsAmong list (high, item) = (front ++ (low, lower) ∷ [], rest, whole ∙ sym (append_assoc front ((low, lower) ∷ []) ((high, item) ∷ rest))) in
            let item_is : item ≡ upper = same_item list once high item upper item_among upper_among in
            record {
              front = front;
              lower = lower;
              upper = item;
              back = rest;
              cut = whole;
              lower_is = lower_is;
              upper_is = ap (λ (edge : ActiveEdge). edge.place) item_is ∙ upper_is;
            }

        found_from : (lower : ActiveEdge) → IsAmong list (low, lower) → lower.place ≡ below → (upper : ActiveEdge) → IsAmong list (high, upper) → upper.place ≡ above → AreFound below above low high
        found_from lower (front, back, cut) lower_is upper upper_among upper_is =
            let split : list ≡ (front ++ (low, lower) ∷ []) ++ back = cut ∙ sym (append_assoc front ((low, lower) ∷ []) back) in
            found_with front lower back cut lower_is upper upper_among upper_is
            (first_among list (front ++ (low, lower) ∷ []) back split high (sym same ∙ after_is front lower back cut) high_some)

    -- where they are next to each other, these are their handles
    pub next_handles : (edges : List ActiveEdge) → items_of list ≡ edges → AreNext below above edges
        → (0 < occurs_among low list) × (0 < occurs_among high list)
        × ((after : ℕ) → ((front : List (ℕ × ActiveEdge)) (item : ActiveEdge) (back : List (ℕ × ActiveEdge)) → list ≡ front ++ (low, item) ∷ back → after ≡ first_handle back) → after ≡ high)
    next_handles edges items_are next = of_cuts (line_cut list next.front next.lower (next.upper ∷ next.back) (items_are ∙ next.is))
      where
        stands : (own : ℕ) (active : ActiveEdge) → IsAmong list (own, active) → (handle : ℕ) → own ≡ handle → 0 < occurs_among handle list
        stands own active (before, behind, at) handle same =
            let P : List (ℕ × ActiveEdge) → Type 0 = λ xs. 0 < occurs_among own xs in
            let Q : ℕ → Type 0 = λ number. 0 < occurs_among number list in
            subst Q same (subst P (sym at) (occurs-here before (own, active) behind))

        no_items : (xs : List (ℕ × ActiveEdge)) → items_of xs ≡ [] → xs ≡ []
        no_items [] is = refl
        no_items (x ∷ xs) is = absurd (cc)

        read_own : (place : ℕ) → place < length handles → (handle : ℕ) → handle ≡ get_or handles place handle → (own : ℕ) (active : ActiveEdge) → IsAmong list (own, active) → active.place ≡ place → own ≡ handle
        read_own place within handle read own active among place_is =
            sym (get_or_read handles place handle within read 0 ∙ ap (λ (number : ℕ). slice_index handles number) (sym place_is) ∙ (are.each own active among).1)

        of_cuts : IsCutAt list next.front next.lower (next.upper ∷ next.back)
            → (0 < occurs_among low list) × (0 < occurs_among high list)
            × ((after : ℕ) → ((front : List (ℕ × ActiveEdge)) (item : ActiveEdge) (back : List (ℕ × ActiveEdge)) → list ≡ front ++ (low, item) ∷ back → after ≡ first_handle back) → after ≡ high)
        of_cuts at =
            let above_at : IsCutAt at.after [] next.upper next.back = line_cut at.after [] next.upper next.back at.back_is in
            let begins : at.after ≡ (above_at.handle, next.upper) ∷ above_at.after = above_at.cut ∙ ap (λ (xs : List (ℕ × ActiveEdge)). xs ++ (above_at.handle, next.upper) ∷ above_at.after) (no_items above_at.before above_at.front_is) in
            let whole : list ≡ at.before ++ (at.handle, next.lower) ∷ (above_at.handle, next.upper) ∷ above_at.after = at.cut ∙ ap (λ (xs : List (ℕ × ActiveEdge)). at.before ++ (at.handle, next.lower) ∷ xs) begins in
            let low_among : IsAmong list (at.handle, next.lower) = (at.before, at.after, at.cut) in
            let high_among : IsAmong list (above_at.handle, next.upper) = (at.before ++ (at.handle, next.lower) ∷ [], above_at.after, whole ∙ sym (append_assoc at.before ((at.handle, next.lower) ∷ []) ((above_at.handle, next.upper) ∷ above_at.after))) in
            let low_same : at.handle ≡ low = read_own below below_within low low_is at.handle next.lower low_among next.lower_is in
            let high_same : above_at.handle ≡ high = read_own above above_within high high_is above_at.handle next.upper high_among next.upper_is in (
              stands at.handle next.lower low_among low low_same,
              stands above_at.handle next.upper high_among high high_same,
              λ told told_is.
                  let at_low : list ≡ at.before ++ (low, next.lower) ∷ at.after = at.cut ∙ ap (λ (number : ℕ). at.before ++ (number, next.lower) ∷ at.after) low_same in
                  told_is at.before next.lower at.after at_low ∙ ap first_handle begins ∙ high_same,
            )

  module _ (below above low high : ℕ) (found : AreFound below above low high) (after : List (ℕ × ActiveEdge)) (told : Exchanged)
      (exchange : IsExchange found.front low found.lower high found.upper found.back after told) where
    pub handles_after : AreHandlesOf after (set (set handles below high) above low)
    handles_after =
        let P : List (ℕ × ActiveEdge) → Type 0 = λ list. AreHandlesOf list handles in
        let B : ℕ → Type 0 = λ place. AreHandlesOf after (set (set handles place high) above low) in
        let A : ℕ → Type 0 = λ place. AreHandlesOf after (set (set handles found.lower.place high) place low) in
        let Q : List (ℕ × ActiveEdge) → Type 0 = λ list. AreHandlesOf list (set (set handles found.lower.place high) found.upper.place low) in
        subst B found.lower_is
        (subst A found.upper_is
        (subst Q (sym exchange.is)
        (handles_exchanged found.front low found.lower high found.upper found.back handles (subst AreOnce found.cut once) (subst P found.cut are))))

    pub exchanges_next : (edges : List ActiveEdge) → items_of list ≡ edges → ExchangesNext below above edges (items_of after) told
    exchanges_next edges items_are =
        let two : (one other : ActiveEdge) → List ActiveEdge = λ one other. items_of found.front ++ one ∷ other ∷ items_of found.back in
        record {
          front = items_of found.front;
          back = items_of found.back;
          was = sym items_are ∙ ap items_of found.cut ∙ items_around found.front (low, found.lower) ((high, found.upper) ∷ found.back)
              ∙ ap (λ (edge : ActiveEdge). two edge found.upper) (sym exchange.lower_is) ∙ ap (λ (edge : ActiveEdge). two told.lower edge) (sym exchange.upper_is);
          is = ap items_of exchange.is ∙ items_around found.front (low, found.upper) ((high, found.lower) ∷ found.back)
              ∙ ap (λ (edge : ActiveEdge). two edge found.lower) (sym exchange.upper_is) ∙ ap (λ (edge : ActiveEdge). two told.upper edge) (sym exchange.lower_is);
          lower_is = ap (λ (edge : ActiveEdge). edge.place) exchange.lower_is ∙ found.lower_is;
          upper_is = ap (λ (edge : ActiveEdge). edge.place) exchange.upper_is ∙ found.upper_is;
          under = exchange.under;
          over = exchange.over;
        }
