-- A walk along the status, which appends the pairs of the edges within what is asked.
use Rattle.std.proofs.Common.{◌≡◌, ◌≢◌, ℕ, ◌+◌, ◌≤◌, List, [], ◌∷◌, ◌++◌, length, map, refl, sym, ap, ◌∙◌, subst, arith, append_assoc, append-nil, length-append}
use Rattle.std.specs.List.{All}
use Rattle.std.specs.Prelude.{OnOk, Result}
use Rattle.std.proofs.lemmas.List.{length-map, map-append}
use Rattle.std.proofs.lemmas.List.Elements.{All-append, All-head, All-weaker}
use Rattle.std.proofs.lemmas.Int.{ints}
use Rattle.i_tree.proofs.RbLemmas.Shape.SubtreeHandles.{live_from_cut}
use Rattle.i_tree.proofs.RootLemmas.Joined.{All-behind}
use Rattle.i_tree.specs.Rb.Items.{items_of}
use Rattle.i_tree.specs.Rb.Shape.{IsHandle, Shape, entries, first_handle}
use Rattle.i_tree.specs.declared.TheConstants.{EMPTY_REF}
use Rattle.plane.specs.declared.columns.Asked.{Asked}
use Rattle.plane.specs.declared.sweep_line.active.ActiveEdge.{ActiveEdge}
use Rattle.plane.specs.declared.columns.descent.DescentEnd.{DescentEnd}
use Rattle.plane.specs.declared.columns.descent.Sought.TheVariants.{Within}
use Rattle.plane.specs.Columns.Asked.{IsAboveAsked, IsBelowAsked, IsWithinAsked}
use Rattle.plane.specs.Columns.Descent.{DescendsTo, IsUptoAsked}
use Rattle.plane.specs.Columns.Status.{GainsMet, IsFirstWithin, IsSplitByAsked}
use Rattle.plane.specs.Lists.{Extends}
use Rattle.plane.proofs.ColumnLemmas.StatusEntries.{AreOnce, cut_at_first, first_among, nothing_first}
use Rattle.plane.proofs.ColumnLemmas.StatusDescent.{parted_once}

-- the pair of an edge's place and this one
abbrev pub met_pair : ℕ → ActiveEdge → ℕ × ℕ
met_pair place active = (active.place, place)

-- Upto the handle, the edges within what is asked have been appended.
pub record IsAppended (asked : Asked) (place : ℕ) (list : List (ℕ × ActiveEdge)) (before after : List (ℕ × ℕ)) (here : ℕ) : Type 0 where
  pub front : List ActiveEdge
  pub within : List ActiveEdge
  pub back : List ActiveEdge
  pub split : IsSplitByAsked asked (items_of list) front within back
  pub done : List ActiveEdge
  pub left : List ActiveEdge
  pub parts : within ≡ done ++ left
  pub passed : List (ℕ × ActiveEdge)
  pub rest : List (ℕ × ActiveEdge)
  pub cut : list ≡ passed ++ rest
  pub rest_is : items_of rest ≡ left ++ back
  pub here_is : here ≡ first_handle rest
  pub gained : after ≡ before ++ map (met_pair place) done

-- what the walk has come to in the end
abbrev pub IsWholeWalk : Asked → ℕ → List (ℕ × ActiveEdge) → List (ℕ × ℕ) → List (ℕ × ℕ) → Type 0
IsWholeWalk asked place list before after =
    (front : List ActiveEdge) × (within : List ActiveEdge) × (back : List ActiveEdge) × IsSplitByAsked asked (items_of list) front within back × GainsMet within place before after

module _ (asked : Asked) (place : ℕ) (list : List (ℕ × ActiveEdge)) (before : List (ℕ × ℕ)) where
  pub walk_begins : (first : ℕ) → IsFirstWithin asked list first → IsAppended asked place list before before first
  walk_begins first is =
      record {
        front = is.front;
        within = is.within;
        back = is.back;
        split = is.split;
        done = [];
        left = is.within;
        parts = refl;
        passed = is.passed;
        rest = is.rest;
        cut = is.cut;
        rest_is = is.rest_is;
        here_is = is.first_is;
        gained = sym (append-nil before);
      }

  module _ (after : List (ℕ × ℕ)) (here : ℕ) (walk : IsAppended asked place list before after here) where
    pub gained_so_far : Extends before after
    gained_so_far = (map (met_pair place) walk.done, walk.gained)

    all_done : walk.left ≡ [] → IsWholeWalk asked place list before after
    all_done none =
        let whole : walk.done ≡ walk.within = sym (walk.parts ∙ ap (λ (xs : List ActiveEdge). walk.done ++ xs) none ∙ append-nil walk.done) in
        (walk.front, walk.within, walk.back, walk.split, walk.gained ∙ ap (λ (xs : List ActiveEdge). before ++ map (met_pair place) xs) whole)

    -- at the end of the line
    pub walk_ends : AreOnce list → here ≡ EMPTY_REF → IsWholeWalk asked place list before after
    walk_ends once none =
        all_done (nothing_left walk.left walk.back (sym (ap items_of (nothing_first list once walk.passed walk.rest walk.cut (sym none ∙ walk.here_is))) ∙ walk.rest_is))
      where
        nothing_left : (left back : List ActiveEdge) → [] ≡ left ++ back → left ≡ []
        nothing_left [] back is = refl
        nothing_left (x ∷ left) back is = absurd (cc)

    module _ (some : here ≢ EMPTY_REF) where
      -- the entry at which it stands
      pub record StandsAt (active : ActiveEdge) : Type 0 where
        pub more : List (ℕ × ActiveEdge)
        pub begins : walk.rest ≡ (here, active) ∷ more
        pub at : list ≡ walk.passed ++ (here, active) ∷ more

      pub here_live : (tree : Shape ActiveEdge) → entries tree ≡ list → IsHandle tree here
      here_live tree is =
          let (item, more, begins) = first_among list walk.passed walk.rest walk.cut here walk.here_is some in
          live_from_cut here tree walk.passed item more (is ∙ cut_at_first list walk.passed walk.rest walk.cut (here, item) more begins)

      pub stands_at : (read : ActiveEdge) → ((front : List (ℕ × ActiveEdge)) (item : ActiveEdge) (back : List (ℕ × ActiveEdge)) → list ≡ front ++ (here, item) ∷ back → read ≡ item) → StandsAt read
      stands_at read read_is =
          let (item, more, begins) = first_among list walk.passed walk.rest walk.cut here walk.here_is some in
          let cut = cut_at_first list walk.passed walk.rest walk.cut (here, item) more begins in
          let same = read_is walk.passed item more cut in
          record {
            more = more;
            begins = begins ∙ ap (λ (edge : ActiveEdge). (here, edge) ∷ more) (sym same);
            at = cut ∙ ap (λ (edge : ActiveEdge). walk.passed ++ (here, edge) ∷ more) (sym same);
          }

      module _ (read : ActiveEdge) (stands : StandsAt read) where
        -- the edge is the next of those within, or the first of those above
        pub walk_cases : (Goal : Type 0) → ((left : List ActiveEdge) → walk.left ≡ read ∷ left → items_of stands.more ≡ left ++ walk.back → IsWithinAsked asked read.edge → Goal)
            → (walk.left ≡ [] → IsAboveAsked asked read.edge → Goal) → Goal
        walk_cases Goal next over = by_left walk.left refl
          where
            items_are : read ∷ items_of stands.more ≡ walk.left ++ walk.back
            items_are = sym (ap items_of stands.begins) ∙ walk.rest_is

            by_left : (xs : List ActiveEdge) → walk.left ≡ xs → Goal
            by_left [] same =
                let all : read ∷ items_of stands.more ≡ walk.back = items_are ∙ ap (λ (xs : List ActiveEdge). xs ++ walk.back) same in
                let Above : ActiveEdge → Type 0 = λ active. IsAboveAsked asked active.edge in
                over same (All-head Above read (items_of stands.more) (subst (All Above) (sym all) walk.split.above))
            by_left (x ∷ xs) same =
                let all : read ∷ items_of stands.more ≡ x ∷ (xs ++ walk.back) = items_are ∙ ap (λ (xs : List ActiveEdge). xs ++ walk.back) same in
                let head : x ≡ read = cc in
                let tail : items_of stands.more ≡ xs ++ walk.back = cc in
                let Within : ActiveEdge → Type 0 = λ active. IsWithinAsked asked active.edge in
                let inside : All Within (x ∷ xs) = All-behind Within walk.done (x ∷ xs) (subst (All Within) (walk.parts ∙ ap (λ (xs : List ActiveEdge). walk.done ++ xs) same) walk.split.inside) in
                next xs (same ∙ ap (λ (edge : ActiveEdge). edge ∷ xs) head) tail (subst Within head (All-head Within x xs inside))

        -- at the first edge above
        pub walk_stops : ¬ (IsUptoAsked asked read.edge) → IsWholeWalk asked place list before after
        walk_stops above =
            walk_cases (IsWholeWalk asked place list before after)
            (λ left is tail inside. absurd (above inside.1))
            (λ none over. all_done none)

        -- one more edge
        pub walk_goes_on : IsUptoAsked asked read.edge → (then : List (ℕ × ℕ)) → then ≡ after ++ (read.place, place) ∷ [] → (next : ℕ)
            → ((front : List (ℕ × ActiveEdge)) (item : ActiveEdge) (back : List (ℕ × ActiveEdge)) → list ≡ front ++ (here, item) ∷ back → next ≡ first_handle back)
            → IsAppended asked place list before then next
        walk_goes_on upto then pushed next next_is =
            walk_cases (IsAppended asked place list before then next)
            (λ left is tail inside.
            record {
              front = walk.front;
              within = walk.within;
              back = walk.back;
              split = walk.split;
              done = walk.done ++ read ∷ [];
              left = left;
              parts = walk.parts ∙ ap (λ (xs : List ActiveEdge). walk.done ++ xs) is ∙ sym (append_assoc walk.done (read ∷ []) left);
              passed = walk.passed ++ (here, read) ∷ [];
              rest = stands.more;
              cut = stands.at ∙ sym (append_assoc walk.passed ((here, read) ∷ []) stands.more);
              rest_is = tail;
              here_is = next_is walk.passed read stands.more stands.at;
              gained = pushed ∙ ap (λ (xs : List (ℕ × ℕ)). xs ++ (read.place, place) ∷ []) walk.gained
                  ∙ append_assoc before (map (met_pair place) walk.done) ((read.place, place) ∷ [])
                  ∙ ap (λ (xs : List (ℕ × ℕ)). before ++ xs) (sym (map-append (met_pair place) walk.done (read ∷ [])));
            })
            (λ none over. absurd (let higher = over.1 in omega (arith, ints, higher, upto)))

    -- no more pairs than edges are appended
    pub few : length after ≤ length before + length list
    few =
        let pair : ℕ × ActiveEdge → ActiveEdge = λ pair. pair.1 in
        let e = ap length walk.gained ∙ length-append before (map (met_pair place) walk.done) in
        let m = length-map walk.done (met_pair place) in
        let p = ap length walk.parts ∙ length-append walk.done walk.left in
        let s = ap length walk.split.is in
        let i = length-map list pair in
        let t = length-append (walk.front ++ walk.within) walk.back in
        let u = length-append walk.front walk.within in
        omega (arith, e, m, p, s, i, t, u)

pub one_more : (after then : List (ℕ × ℕ)) (pair : ℕ × ℕ) → then ≡ after ++ pair ∷ [] → length then ≡ length after + 1
one_more after then pair is = ap length is ∙ length-append after (pair ∷ [])

-- Behind what a descent has passed, the walk begins.
pub first_within : (asked : Asked) (tree : Shape ActiveEdge) (end : DescentEnd) → (ended : DescendsTo (Within asked) tree end) → (edges : List ActiveEdge) → items_of (entries tree) ≡ edges
    → (front within back : List ActiveEdge) → IsSplitByAsked asked edges front within back → (first : ℕ) → first ≡ first_handle ended.back → IsFirstWithin asked (entries tree) first
first_within asked tree end ended edges items_are front within back split first first_is =
    let Below : ActiveEdge → Type 0 = λ active. IsBelowAsked asked active.edge in
    let Fails : ActiveEdge → Type 0 = λ active. ¬ (IsBelowAsked asked active.edge) in
    let S : List ActiveEdge → Type 0 = λ list. IsSplitByAsked asked list front within back in
    let others : All Fails (within ++ back) = All-append Fails within back (All-weaker (λ active. IsWithinAsked asked active.edge) Fails (λ active inside. inside.0) within split.inside)
    (All-weaker (λ active. IsAboveAsked asked active.edge) Fails (λ active over. over.0) back split.above) in
    let cuts : items_of ended.front ++ items_of ended.back ≡ front ++ (within ++ back)
    = sym (ap items_of ended.between.cut ∙ map-append (λ (pair : ℕ × ActiveEdge). pair.1) ended.front ended.back) ∙ items_are ∙ split.is ∙ append_assoc front within back in
    record {
      front = front;
      within = within;
      back = back;
      split = subst S (sym items_are) split;
      passed = ended.front;
      rest = ended.back;
      cut = ended.between.cut;
      rest_is = (parted_once Below (items_of ended.front) (items_of ended.back) front (within ++ back) cuts ended.passed ended.others split.below others).1;
      first_is = first_is;
    }

-- the same of the line that those are the edges of
pub on_line : {R E : Type 0} (asked : Asked) (place : ℕ) (items edges : List ActiveEdge) → items ≡ edges → (before after : List (ℕ × ℕ)) (result : Result R E)
    → OnOk result ((front : List ActiveEdge) × (within : List ActiveEdge) × (back : List ActiveEdge) × IsSplitByAsked asked items front within back × GainsMet within place before after)
    → OnOk result ((front : List ActiveEdge) × (within : List ActiveEdge) × (back : List ActiveEdge) × IsSplitByAsked asked edges front within back × GainsMet within place before after)
on_line asked place items edges same before after result ok =
    subst (λ (list : List ActiveEdge). OnOk result ((front : List ActiveEdge) × (within : List ActiveEdge) × (back : List ActiveEdge) × IsSplitByAsked asked list front within back × GainsMet within place before after)) same ok
