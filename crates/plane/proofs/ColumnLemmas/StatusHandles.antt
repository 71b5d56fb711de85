-- Which handles stand at the places of edges: where an entry joins, leaves, gets another handle, or two exchange their edges.
use Rattle.std.proofs.Common.{◌≡◌, ◌≢◌, ◌⊎◌, ℕ, ◌<◌, Bool, true, false, eqb, List, [], ◌∷◌, ◌++◌, length, refl, sym, ap, ◌∙◌, subst, inl, inr, set, arith, append_assoc, get_or-set_same, get_or-set_other, length-set}
use Rattle.std.specs.Prelude.{slice_index}
use Rattle.std.proofs.lemmas.Bool.{eqb-true, eqb-false}
use Rattle.std.proofs.lemmas.List.{map-append}
use Rattle.i_tree.proofs.RbLemmas.Shape.Contexts.{occurs_among, occurs_among-append, one_if_same-same}
use Rattle.i_tree.specs.Rb.Items.{items_of}
use Rattle.i_tree.specs.declared.TheConstants.{EMPTY_REF}
use Rattle.plane.specs.declared.sweep_line.active.ActiveEdge.{ActiveEdge}
use Rattle.plane.specs.Columns.Status.{AreHandlesOf, IsAmong, IsOfLine}
use Rattle.plane.proofs.ColumnLemmas.StatusEntries.{AreOnce, occurs-here}

same_or_not : (first second : ℕ) → (first ≡ second) ⊎ (first ≢ second)
same_or_not first second = by_test (eqb first second) refl
  where
    by_test : (b : Bool) → eqb first second ≡ b → (first ≡ second) ⊎ (first ≢ second)
    by_test true is = inl (eqb-true first second is)
    by_test false is = inr (eqb-false first second is)

module _ {X : Type 0} where
  pub among_here : (front : List X) (x : X) (back : List X) → IsAmong (front ++ x ∷ back) x
  among_here front x back = (front, back, refl)

  pub among_front : (front back : List X) (x : X) → IsAmong front x → IsAmong (front ++ back) x
  among_front front back x (before, after, cut) = (before, after ++ back, ap (λ (xs : List X). xs ++ back) cut ∙ append_assoc before (x ∷ after) back)

  pub among_behind : (front back : List X) (x : X) → IsAmong back x → IsAmong (front ++ back) x
  among_behind front back x (before, after, cut) = (front ++ before, after, ap (λ (xs : List X). front ++ xs) cut ∙ sym (append_assoc front before (x ∷ after)))

  among_first : (y : X) (list : List X) (x : X) → IsAmong (y ∷ list) x → (x ≡ y) ⊎ IsAmong list x
  among_first y list x ([], after, cut) = inl (cc)
  among_first y list x (first ∷ before, after, cut) = inr (before, after, (cc))

  among_parts : (front back : List X) (x : X) → IsAmong (front ++ back) x → IsAmong front x ⊎ IsAmong back x
  among_parts [] back x among = inr among
  among_parts (y ∷ front) back x among =
      elim (among_first y (front ++ back) x among) [
        | inl same ↦ inl ([], front, ap (λ (z : X). z ∷ front) (sym same))
        | inr more ↦ elim (among_parts front back x more) [
          | inl (before, after, cut) ↦ inl (y ∷ before, after, ap (λ (xs : List X). y ∷ xs) cut)
          | inr behind ↦ inr behind
        ]
      ]

  none_among : (x : X) → IsAmong [] x → ⊥
  none_among x ([], after, cut) = cc
  none_among x (first ∷ before, after, cut) = cc

  -- an item in front, the one in the middle, or one behind
  pub among_cases : (Goal : Type 0) (front : List X) (y : X) (back : List X) (x : X) → IsAmong (front ++ y ∷ back) x → (IsAmong front x → Goal) → (x ≡ y → Goal) → (IsAmong back x → Goal) → Goal
  among_cases Goal front y back x among in_front here behind =
      elim (among_parts front (y ∷ back) x among) [
        | inl at ↦ in_front at
        | inr at ↦ elim (among_first y back x at) [ inl same ↦ here same | inr more ↦ behind more ]
      ]

-- what stands at a place behind a write
set_here : (handles : List ℕ) (place new : ℕ) → place < length handles → slice_index (set handles place new) place ≡ new
set_here handles place new within = get_or-set_same handles place new 0 within

set_there : (handles : List ℕ) (place other new : ℕ) → other ≢ place → slice_index (set handles place new) other ≡ slice_index handles other
set_there handles place other new apart = get_or-set_other handles place other new 0 apart

-- an entry's edge is of the line
pub of_line : (list : List (ℕ × ActiveEdge)) (handle : ℕ) (active : ActiveEdge) → IsAmong list (handle, active) → IsOfLine (items_of list) active.place
of_line list handle active (front, back, cut) =
    (items_of front, active, items_of back, ap items_of cut ∙ map-append (λ (pair : ℕ × ActiveEdge). pair.1) front ((handle, active) ∷ back), refl)

-- the entry of an edge of the line, and what is around it
pub record IsCutAt (list : List (ℕ × ActiveEdge)) (front : List ActiveEdge) (active : ActiveEdge) (back : List ActiveEdge) : Type 0 where
  pub before : List (ℕ × ActiveEdge)
  pub handle : ℕ
  pub after : List (ℕ × ActiveEdge)
  pub cut : list ≡ before ++ (handle, active) ∷ after
  pub front_is : items_of before ≡ front
  pub back_is : items_of after ≡ back

cut_further : (entry : ℕ × ActiveEdge) (list : List (ℕ × ActiveEdge)) (first : ActiveEdge) (front : List ActiveEdge) (active : ActiveEdge) (back : List ActiveEdge) → entry.1 ≡ first → IsCutAt list front active back → IsCutAt (entry ∷ list) (first ∷ front) active back
cut_further entry list first front active back head at =
    record {
      before = entry ∷ at.before;
      handle = at.handle;
      after = at.after;
      cut = ap (λ (xs : List (ℕ × ActiveEdge)). entry ∷ xs) at.cut;
      front_is = ap (λ (edge : ActiveEdge). edge ∷ items_of at.before) head ∙ ap (λ (xs : List ActiveEdge). first ∷ xs) at.front_is;
      back_is = at.back_is;
    }

pub line_cut : (list : List (ℕ × ActiveEdge)) (front : List ActiveEdge) (active : ActiveEdge) (back : List ActiveEdge) → items_of list ≡ front ++ active ∷ back → IsCutAt list front active back
line_cut [] [] active back is = absurd (cc)
line_cut [] (first ∷ front) active back is = absurd (cc)
line_cut (entry ∷ list) [] active back is =
    let head : entry.1 ≡ active = cc in
    let tail : items_of list ≡ back = cc in
    record { before = []; handle = entry.0; after = list; cut = ap (λ (edge : ActiveEdge). (entry.0, edge) ∷ list) head; front_is = refl; back_is = tail }
line_cut (entry ∷ list) (first ∷ front) active back is =
    let head : entry.1 ≡ first = cc in
    let tail : items_of list ≡ front ++ active ∷ back = cc in
    cut_further entry list first front active back head (line_cut list front active back tail)

-- no other entry's edge has the place of this one
pub record HasNoOther (front : List (ℕ × ActiveEdge)) (item : ActiveEdge) (back : List (ℕ × ActiveEdge)) : Type 0 where
  pub in_front : (other : ℕ) (active : ActiveEdge) → IsAmong front (other, active) → active.place ≢ item.place
  pub behind : (other : ℕ) (active : ActiveEdge) → IsAmong back (other, active) → active.place ≢ item.place

-- no other entry has the handle of this one
module _ (front : List (ℕ × ActiveEdge)) (handle : ℕ) (item : ActiveEdge) (back : List (ℕ × ActiveEdge)) (once : AreOnce (front ++ (handle, item) ∷ back)) where
  apart_front : (other : ℕ) (active : ActiveEdge) → IsAmong front (other, active) → other ≢ handle
  apart_front other active (before, after, cut) same =
      let here = occurs-here before (other, active) after in
      let whole = ap (occurs_among other) cut in
      let total = occurs_among-append handle front ((handle, item) ∷ back) in
      let own = one_if_same-same handle in
      let at : occurs_among other front ≡ occurs_among handle front = ap (λ (number : ℕ). occurs_among number front) same in
      let most = once.once handle in
      absurd (omega arith)

  apart_back : (other : ℕ) (active : ActiveEdge) → IsAmong back (other, active) → other ≢ handle
  apart_back other active (before, after, cut) same =
      let here = occurs-here before (other, active) after in
      let whole = ap (occurs_among other) cut in
      let total = occurs_among-append handle front ((handle, item) ∷ back) in
      let own = one_if_same-same handle in
      let at : occurs_among other back ≡ occurs_among handle back = ap (λ (number : ℕ). occurs_among number back) same in
      let most = once.once handle in
      absurd (omega arith)

  -- so no other edge has its place
  module _ (handles : List ℕ) (are : AreHandlesOf (front ++ (handle, item) ∷ back) handles) where
    place_front : (other : ℕ) (active : ActiveEdge) → IsAmong front (other, active) → active.place ≢ item.place
    place_front other active among same =
        let at = are.each other active (among_front front ((handle, item) ∷ back) (other, active) among) in
        apart_front other active among (sym at.1 ∙ ap (λ (place : ℕ). slice_index handles place) same ∙ (are.each handle item (front, back, refl)).1)

    place_back : (other : ℕ) (active : ActiveEdge) → IsAmong back (other, active) → active.place ≢ item.place
    place_back other active among same =
        let at = are.each other active (among_behind front ((handle, item) ∷ back) (other, active) (among_behind ((handle, item) ∷ []) back (other, active) among)) in
        apart_back other active among (sym at.1 ∙ ap (λ (place : ℕ). slice_index handles place) same ∙ (are.each handle item (front, back, refl)).1)

    pub no_other : HasNoOther front item back
    no_other = record { in_front = place_front; behind = place_back }

-- the handle at the place of an entry's edge is written, where no other edge has that place
module _ (front : List (ℕ × ActiveEdge)) (handle : ℕ) (item : ActiveEdge) (back : List (ℕ × ActiveEdge)) (handles : List ℕ) (are : AreHandlesOf (front ++ (handle, item) ∷ back) handles) (alone : HasNoOther front item back) where
  own_at : (item.place < length handles) × (slice_index handles item.place ≡ handle)
  own_at = are.each handle item (front, back, refl)

  each_front : (new other : ℕ) (active : ActiveEdge) → IsAmong front (other, active)
      → (active.place < length (set handles item.place new)) × (slice_index (set handles item.place new) active.place ≡ other)
  each_front new other active among =
      let at = are.each other active (among_front front ((handle, item) ∷ back) (other, active) among) in
      (omega (arith, at.0, length-set handles item.place new), set_there handles item.place active.place new (alone.in_front other active among) ∙ at.1)

  each_back : (new other : ℕ) (active : ActiveEdge) → IsAmong back (other, active)
      → (active.place < length (set handles item.place new)) × (slice_index (set handles item.place new) active.place ≡ other)
  each_back new other active among =
      let at = are.each other active (among_behind front ((handle, item) ∷ back) (other, active) (among_behind ((handle, item) ∷ []) back (other, active) among)) in
      (omega (arith, at.0, length-set handles item.place new), set_there handles item.place active.place new (alone.behind other active among) ∙ at.1)

  each_own : (new : ℕ) → (item.place < length (set handles item.place new)) × (slice_index (set handles item.place new) item.place ≡ new)
  each_own new = (omega (arith, own_at.0, length-set handles item.place new), set_here handles item.place new own_at.0)

  -- what stands at another place is the handle of another entry
  others_there : (new place : ℕ) → place ≢ item.place → place < length (set handles item.place new) → slice_index (set handles item.place new) place ≢ EMPTY_REF → (Goal : Type 0)
      → ((active : ActiveEdge) → IsAmong front (slice_index (set handles item.place new) place, active) → active.place ≡ place → Goal)
      → ((active : ActiveEdge) → IsAmong back (slice_index (set handles item.place new) place, active) → active.place ≡ place → Goal) → Goal
  others_there new place apart within some Goal in_front behind =
      let same = set_there handles item.place place new apart in
      let was = are.others place (omega (arith, within, length-set handles item.place new)) (λ none. some (same ∙ none)) in
      let P : ℕ → Type 0 = λ number. IsAmong (front ++ (handle, item) ∷ back) (number, was.0) in
      among_cases Goal front (handle, item) back (slice_index (set handles item.place new) place, was.0) (subst P (sym same) was.1)
      (λ among. in_front was.0 among was.2)
      (λ is. absurd (apart (sym was.2 ∙ ap (λ (entry : ℕ × ActiveEdge). entry.1.place) is)))
      (λ among. behind was.0 among was.2)

  -- the entry leaves
  pub handles_without : AreHandlesOf (front ++ back) (set handles item.place EMPTY_REF)
  handles_without =
      record {
        each = λ other active among. elim (among_parts front back (other, active) among) [
          | inl at ↦ each_front EMPTY_REF other active at
          | inr at ↦ each_back EMPTY_REF other active at
        ];
        others = λ place within some.
            let new = set handles item.place EMPTY_REF in
            let Goal : Type 0 = (active : ActiveEdge) × IsAmong (front ++ back) (slice_index new place, active) × (active.place ≡ place) in
            let there : place ≢ item.place = λ same. some (ap (λ (number : ℕ). slice_index new number) same ∙ set_here handles item.place EMPTY_REF own_at.0) in
            others_there EMPTY_REF place there within some Goal
            (λ active among at. (active, among_front front back (slice_index new place, active) among, at))
            (λ active among at. (active, among_behind front back (slice_index new place, active) among, at));
      }

  -- it gets another handle
  pub handles_renamed : (new : ℕ) → AreHandlesOf (front ++ (new, item) ∷ back) (set handles item.place new)
  handles_renamed new =
      record {
        each = λ other active among. among_cases ((active.place < length (set handles item.place new)) × (slice_index (set handles item.place new) active.place ≡ other)) front (new, item) back (other, active) among
            (λ at. each_front new other active at)
            (λ same.
            let number : other ≡ new = ap (λ (entry : ℕ × ActiveEdge). entry.0) same in
            let edge : active ≡ item = ap (λ (entry : ℕ × ActiveEdge). entry.1) same in
            let P : ActiveEdge → Type 0 = λ active. (active.place < length (set handles item.place new)) × (slice_index (set handles item.place new) active.place ≡ other) in
            subst P (sym edge) ((each_own new).0, (each_own new).1 ∙ sym number))
            (λ at. each_back new other active at);
        others = λ place within some.
            let after = set handles item.place new in
            let Goal : Type 0 = (active : ActiveEdge) × IsAmong (front ++ (new, item) ∷ back) (slice_index after place, active) × (active.place ≡ place) in
            elim (same_or_not place item.place) [
              | inl same ↦
                  let at : slice_index after place ≡ new = ap (λ (number : ℕ). slice_index after number) same ∙ set_here handles item.place new own_at.0 in
                  let P : ℕ → Type 0 = λ number. IsAmong (front ++ (new, item) ∷ back) (number, item) in
                  (item, subst P (sym at) (among_here front (new, item) back), sym same)
              | inr apart ↦
                  others_there new place apart within some Goal
                  (λ active among at. (active, among_front front ((new, item) ∷ back) (slice_index after place, active) among, at))
                  (λ active among at. (active, among_behind front ((new, item) ∷ back) (slice_index after place, active) (among_behind ((new, item) ∷ []) back (slice_index after place, active) among), at))
            ];
      }

-- the order of the entries is no matter
pub handles_turned : (front : List (ℕ × ActiveEdge)) (one other : ℕ × ActiveEdge) (back : List (ℕ × ActiveEdge)) (handles : List ℕ) → AreHandlesOf (front ++ one ∷ other ∷ back) handles → AreHandlesOf (front ++ other ∷ one ∷ back) handles
handles_turned front one other back handles are =
    record {
      each = λ handle active among. are.each handle active (turned front other one back (handle, active) among);
      others = λ place within some. let was = are.others place within some in (was.0, turned front one other back (slice_index handles place, was.0) was.1, was.2);
    }
  where
    turned : (front : List (ℕ × ActiveEdge)) (one other : ℕ × ActiveEdge) (back : List (ℕ × ActiveEdge)) (entry : ℕ × ActiveEdge) → IsAmong (front ++ one ∷ other ∷ back) entry → IsAmong (front ++ other ∷ one ∷ back) entry
    turned front one other back entry among =
        let Goal : Type 0 = IsAmong (front ++ other ∷ one ∷ back) entry in
        among_cases Goal front one (other ∷ back) entry among
        (λ at. among_front front (other ∷ one ∷ back) entry at)
        (λ same. among_behind front (other ∷ one ∷ back) entry (other ∷ [], back, ap (λ (x : ℕ × ActiveEdge). other ∷ x ∷ back) (sym same)))
        (λ at. among_cases Goal [] other back entry at (λ none. absurd (none_among entry none))
        (λ same. among_behind front (other ∷ one ∷ back) entry ([], one ∷ back, ap (λ (x : ℕ × ActiveEdge). x ∷ one ∷ back) (sym same)))
        (λ more. among_behind front (other ∷ one ∷ back) entry (among_behind (other ∷ one ∷ []) back entry more)))

-- two entries next to each other exchange their edges, and the handles at the places of these
pub handles_exchanged : (front : List (ℕ × ActiveEdge)) (low : ℕ) (lower : ActiveEdge) (high : ℕ) (upper : ActiveEdge) (back : List (ℕ × ActiveEdge)) (handles : List ℕ)
    → AreOnce (front ++ (low, lower) ∷ (high, upper) ∷ back) → AreHandlesOf (front ++ (low, lower) ∷ (high, upper) ∷ back) handles
    → AreHandlesOf (front ++ (low, upper) ∷ (high, lower) ∷ back) (set (set handles lower.place high) upper.place low)
handles_exchanged front low lower high upper back handles once are =
    let at_low = no_other front low lower ((high, upper) ∷ back) once handles are in
    let first = handles_renamed front low lower ((high, upper) ∷ back) handles are at_low high in
    let P : List (ℕ × ActiveEdge) → Type 0 = λ list. AreHandlesOf list (set handles lower.place high) in
    let O : List (ℕ × ActiveEdge) → Type 0 = λ list. AreHandlesOf list handles in
    let U : List (ℕ × ActiveEdge) → Type 0 = AreOnce in
    let was = sym (append_assoc front ((low, lower) ∷ []) ((high, upper) ∷ back)) in
    let at_high = no_other (front ++ (low, lower) ∷ []) high upper back (subst U was once) handles (subst O was are) in
    let is = sym (append_assoc front ((high, lower) ∷ []) ((high, upper) ∷ back)) in
    let alone : HasNoOther (front ++ (high, lower) ∷ []) upper back = record {
      in_front = λ other active among. elim (among_parts front ((high, lower) ∷ []) (other, active) among) [
        | inl at ↦ at_high.in_front other active (among_front front ((low, lower) ∷ []) (other, active) at)
        | inr at ↦ elim (among_first (high, lower) [] (other, active) at) [
          | inl same ↦
              let edge : lower ≡ active = sym (ap (λ (entry : ℕ × ActiveEdge). entry.1) same) in
              at_high.in_front low active (front, [], ap (λ (edge : ActiveEdge). front ++ (low, edge) ∷ []) edge)
          | inr none ↦ absurd (none_among (other, active) none)
        ]
      ];
      behind = at_high.behind;
    } in
    let second = handles_renamed (front ++ (high, lower) ∷ []) high upper back (set handles lower.place high) (subst P is first) alone low in
    let Q : List (ℕ × ActiveEdge) → Type 0 = λ list. AreHandlesOf list (set (set handles lower.place high) upper.place low) in
    handles_turned front (high, lower) (low, upper) back (set (set handles lower.place high) upper.place low) (subst Q (append_assoc front ((high, lower) ∷ []) ((low, upper) ∷ back)) second)

-- an entry joins, whose edge's place none had
pub handles_with : (front back : List (ℕ × ActiveEdge)) (handle : ℕ) (item : ActiveEdge) (handles : List ℕ) → AreHandlesOf (front ++ back) handles → item.place < length handles → ¬ (IsOfLine (items_of (front ++ back)) item.place)
    → AreHandlesOf (front ++ (handle, item) ∷ back) (set handles item.place handle)
handles_with front back handle item handles are within absent =
    record {
      each = λ other active among. among_cases ((active.place < length (set handles item.place handle)) × (slice_index (set handles item.place handle) active.place ≡ other)) front (handle, item) back (other, active) among
          (λ at. old other active (among_front front back (other, active) at))
          (λ same.
          let number : other ≡ handle = ap (λ (entry : ℕ × ActiveEdge). entry.0) same in
          let edge : active ≡ item = ap (λ (entry : ℕ × ActiveEdge). entry.1) same in
          let P : ActiveEdge → Type 0 = λ active. (active.place < length (set handles item.place handle)) × (slice_index (set handles item.place handle) active.place ≡ other) in
          subst P (sym edge) (omega (arith, within, length-set handles item.place handle), set_here handles item.place handle within ∙ sym number))
          (λ at. old other active (among_behind front back (other, active) at));
      others = λ place inside some.
          let new = set handles item.place handle in
          elim (same_or_not place item.place) [
            | inl same ↦
                let at : slice_index new place ≡ handle = ap (λ (number : ℕ). slice_index new number) same ∙ set_here handles item.place handle within in
                let P : ℕ → Type 0 = λ number. IsAmong (front ++ (handle, item) ∷ back) (number, item) in
                (item, subst P (sym at) (among_here front (handle, item) back), sym same)
            | inr apart ↦
                let same = set_there handles item.place place handle apart in
                let was = are.others place (omega (arith, inside, length-set handles item.place handle)) (λ none. some (same ∙ none)) in
                let P : ℕ → Type 0 = λ number. IsAmong (front ++ (handle, item) ∷ back) (number, was.0) in
                (was.0, subst P (sym same) (joined (slice_index handles place, was.0) was.1), was.2)
          ];
    }
  where
    old : (other : ℕ) (active : ActiveEdge) → IsAmong (front ++ back) (other, active) → (active.place < length (set handles item.place handle)) × (slice_index (set handles item.place handle) active.place ≡ other)
    old other active among =
        let at = are.each other active among in
        let apart : active.place ≢ item.place = λ same. let P : ℕ → Type 0 = IsOfLine (items_of (front ++ back)) in absent (subst P same (of_line (front ++ back) other active among)) in
        (omega (arith, at.0, length-set handles item.place handle), set_there handles item.place active.place handle apart ∙ at.1)

    joined : (entry : ℕ × ActiveEdge) → IsAmong (front ++ back) entry → IsAmong (front ++ (handle, item) ∷ back) entry
    joined entry among = elim (among_parts front back entry among) [
      | inl at ↦ among_front front ((handle, item) ∷ back) entry at
      | inr at ↦ among_behind front ((handle, item) ∷ back) entry (among_behind ((handle, item) ∷ []) back entry at)
    ]
