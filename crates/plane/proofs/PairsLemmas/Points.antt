-- Pairs of items and points, as they are told row by row, and the search for the first part in a row.
use Rattle.std.proofs.Common.{◌≡◌, ◌≢◌, ◌↔◌, ◌⊎◌, inl, inr, ℕ, ◌+◌, ◌<◌, ◌≤◌, ◌<ℤ◌, ◌≤ℤ◌, ℤ, pos, min, List, [], ◌∷◌, ◌++◌, Some, get_or, length, append-nil, append_assoc, refl, sym, ap, ap₂, ◌∙◌, subst, subst₂, ⊎_elim, arith}
use Rattle.std.specs.List.{All, AllPairs, Contains, slice_get}
use Rattle.std.proofs.lemmas.Bool.{cases_lt}
use Rattle.std.specs.Int.{int_max}
use Rattle.std.proofs.lemmas.Int.{ints, clamps}
use Rattle.std.proofs.lemmas.List.{get_or_append_left, get_or_push, length-append}
use Rattle.std.proofs.lemmas.List.Elements.{Contains-append_left, Contains-append_right, Contains-append_cases, Contains-get_or}
use Rattle.std.proofs.lemmas.Option.{get_or_from_slice_get, slice_get-get_or, slice_get_within, same_Some}
use Rattle.i_tree.proofs.RootLemmas.Joined.{AllPairs-append}
use Rattle.plane.specs.Pairs.Bounds.{BoundsMeet, IsPoint}
use Rattle.plane.specs.Pairs.Pairs.{ArePairsBetween, PairBetween}
use Rattle.plane.specs.Pairs.Parts.{AreParts, IsPartOf, NotBehind, part_of}
use Rattle.plane.specs.Pairs.Points.{AreAll, Gains, MeetsAt, MeetsPart, IsFrom, IsShort, IsFirstFrom, IsStart, AreStarts}
use Rattle.plane.specs.Pairs.Strips.{Reaches, strip_at}
use Rattle.plane.specs.declared.pairs.items.Bounds.{Bounds}
use Rattle.plane.specs.declared.pairs.parts.Part.{Part}
use Rattle.plane.specs.declared.pairs.strips.Strips.{Strips}
use Rattle.plane.proofs.PairsLemmas.Bags.{here_or_there}
use Rattle.plane.proofs.PairsLemmas.Parts.{same_part}
use Rattle.plane.proofs.PairsLemmas.Told.{strip_at-mono}

-- ---- the first part in a row from an x on

module _ (row : ℕ) (left : ℤ) where
  -- what isn't behind a short part is short
  short_before : (first second : Part) → NotBehind first second → IsShort row left second → IsShort row left first
  short_before first second (inl below) (inl low) = inl (omega (arith, below, low))
  short_before first second (inl below) (inr (in_row, short)) = inl (omega (arith, below, in_row))
  short_before first second (inr (same, order)) (inl low) = inl (omega (arith, same, low))
  short_before first second (inr (same, order)) (inr (in_row, short)) = inr (omega (arith, same, in_row), ⊎_elim (λ less. omega (arith, ints, less, short)) (λ (is, _). omega (arith, ints, is, short)) order)

  -- and that behind a part from the x on is so too
  from_behind : (first second : Part) → NotBehind first second → IsFrom row left first → IsFrom row left second
  from_behind first second (inl below) from = let above = from.above in record { above = omega (arith, below, above); behind = λ in_row. absurd (omega (arith, below, above, in_row)) }
  from_behind first second (inr (same, order)) from =
      let above = from.above in
      record {
        above = omega (arith, same, above);
        behind = λ in_row.
            let behind = from.behind (omega (arith, same, in_row)) in
            ⊎_elim (λ less. omega (arith, ints, less, behind)) (λ (is, _). omega (arith, ints, is, behind)) order;
      }

  -- what begins in the row or above, and not before the x, isn't short
  pub not_short : (part : Part) → row ≤ part.strip → left ≤ℤ part.left → ¬ (IsShort row left part)
  not_short part above behind short = ⊎_elim (λ below. omega (arith, below, above)) (λ (_, less). omega (arith, ints, less, behind)) short

  -- what isn't short is so
  from_not_short : (part : Part) → ¬ (IsShort row left part) → IsFrom row left part
  from_not_short part none = record {
    above = elim (cases_lt part.strip row) [ inl below ↦ absurd (none (inl below)) | inr upto ↦ upto ];
    behind = λ in_row.
        let none_less : part.left <ℤ left → ⊥ = λ less. none (inr (in_row, less)) in
        grind (arith, ints, none_less);
  }

  module _ (parts : List Part) (in_order : AllPairs NotBehind parts) where
    order_at : (i j : ℕ) (one other : Part) → slice_get parts i ≡ Some one → slice_get parts j ≡ Some other → i < j → NotBehind one other
    order_at i j one other first second below =
        subst₂ NotBehind (get_or_from_slice_get parts i one one first) (get_or_from_slice_get parts j other one second) (in_order i j one below (slice_get_within parts j other second))

    -- up to a short part all are short
    pub short_upto : (middle : ℕ) (part : Part) → slice_get parts middle ≡ Some part → IsShort row left part → (at : ℕ) (one : Part) → slice_get parts at ≡ Some one → at < middle + 1 → IsShort row left one
    short_upto middle part stands short at one listed below = elim (cases_lt at middle) [
      | inl before ↦ short_before one part (order_at at middle one part listed stands before) short
      | inr upto ↦
          let is : middle ≡ at = omega (arith, upto, below) in
          subst (IsShort row left) (same_Some part one (sym stands ∙ ap (slice_get parts) is ∙ listed)) short
    ]

    -- from one that isn't all are from the x on
    pub from_there : (middle : ℕ) (part : Part) → slice_get parts middle ≡ Some part → ¬ (IsShort row left part) → (at : ℕ) (one : Part) → slice_get parts at ≡ Some one → middle ≤ at → IsFrom row left one
    from_there middle part stands none at one listed upto = elim (cases_lt middle at) [
      | inl before ↦ from_behind part one (order_at middle at part one stands listed before) (from_not_short part none)
      | inr below ↦
          let is : middle ≡ at = omega (arith, upto, below) in
          subst (IsFrom row left) (same_Some part one (sym stands ∙ ap (slice_get parts) is ∙ listed)) (from_not_short part none)
    ]

-- ---- where rows begin

abbrev pub nothing : Part
nothing = record { strip = 0; left = pos 0; place = 0 }

module _ (parts : List Part) where
  -- a row ends behind its start
  pub starts_upto : (row start end : ℕ) → IsStart parts row start → IsStart parts (row + 1) end → start ≤ end
  starts_upto row start end starts ends = elim (cases_lt end start) [
    | inl past ↦
        let within = starts.within in
        let listed = slice_get-get_or parts end nothing (omega (arith, past, within)) in
        let below = starts.below end (get_or parts end nothing) listed past in
        let above = ends.above end (get_or parts end nothing) listed (omega arith) in
        absurd (omega (arith, below, above))
    | inr upto ↦ upto
  ]

  -- between them stands what is in the row
  pub in_row : (row start end : ℕ) → IsStart parts row start → IsStart parts (row + 1) end → (at : ℕ) (part : Part) → slice_get parts at ≡ Some part → start ≤ at → at < end → part.strip ≡ row
  in_row row start end starts ends at part listed from upto =
      let above = starts.above at part listed from in
      let below = ends.below at part listed upto in
      omega (arith, above, below)

  -- what stands behind the row isn't in it
  pub from_end : (row end : ℕ) (left : ℤ) → IsStart parts (row + 1) end → (at : ℕ) (part : Part) → slice_get parts at ≡ Some part → end ≤ at → IsFrom row left part
  from_end row end left ends at part listed upto =
      let above = ends.above at part listed upto in
      record { above = omega (arith, above); behind = λ in_row. absurd (omega (arith, above, in_row)) }

  module _ (place : ℕ) (starts : List ℕ) (are : AreStarts parts place starts) (inside : place < length parts) where
    -- one more row up to that of the part at the place begins there
    pub AreStarts-push : AllPairs NotBehind parts → length starts < (get_or parts place nothing).strip + 1 → AreStarts parts place (starts ++ place ∷ [])
    AreStarts-push in_order upto = record {
      each = λ row d within. elim (cases_lt row (length starts)) [
        | inl before ↦ subst (IsStart parts row) (sym (get_or_append_left starts (place ∷ []) d row before)) (are.each row d before)
        | inr behind ↦
            let last : length starts ≡ row = omega (arith, behind, within, length-append starts (place ∷ [])) in
            subst (IsStart parts row) (sym (get_or_push starts place d row last)) (here row last)
      ];
      all = λ at part listed before. let below = are.all at part listed before in omega (arith, below, length-append starts (place ∷ []));
    }
      where
        listed_here : slice_get parts place ≡ Some (get_or parts place nothing)
        listed_here = slice_get-get_or parts place nothing inside

        above : (row at : ℕ) (part : Part) → length starts ≡ row → slice_get parts at ≡ Some part → place ≤ at → row ≤ part.strip
        above row at part last listed behind =
            let one = get_or parts place nothing in
            let from = from_there row one.left parts in_order place one listed_here (λ short. ⊎_elim (λ below. omega (arith, below, upto, last)) (λ (_, less). omega (arith, ints, less)) short) at part listed behind in
            from.above

        here : (row : ℕ) → length starts ≡ row → IsStart parts row place
        here row last = record {
          within = omega (arith, inside);
          below = λ at part listed before. let below = are.all at part listed before in omega (arith, below, last);
          above = λ at part listed behind. above row at part last listed behind;
        }

    -- once its row has begun, the part is one of those whose rows have
    pub AreStarts-next : (get_or parts place nothing).strip < length starts → AreStarts parts (place + 1) starts
    AreStarts-next begun = record {
      each = are.each;
      all = λ at part listed before. elim (cases_lt at place) [
        | inl earlier ↦ are.all at part listed earlier
        | inr upto ↦
            let is : place ≡ at = omega (arith, upto, before) in
            subst (λ (one : Part). one.strip < length starts) (get_or_from_slice_get parts at part nothing listed) (subst (λ (k : ℕ). (get_or parts k nothing).strip < length starts) is begun)
      ];
    }

-- ---- lists of all pairs of which something holds

AreAll-none : (IsPair : ℕ → ℕ → Type 0) → ((i j : ℕ) → IsPair i j → ⊥) → AreAll IsPair []
AreAll-none IsPair none = record {
  once = λ i j d below within. absurd (omega (arith, within));
  exact = λ i j. (λ within. absurd (omega (arith, within.1)), λ pair. absurd (none i j pair));
}

AreAll-one : (IsPair : ℕ → ℕ → Type 0) (place other : ℕ) → IsPair place other → ((i j : ℕ) → IsPair i j → (i ≡ place) × (j ≡ other)) → AreAll IsPair ((place, other) ∷ [])
AreAll-one IsPair place other holds only = record {
  once = λ i j d below within. absurd (omega (arith, below, within));
  exact = λ i j. (
    λ within. elim (here_or_there (place, other) [] (i, j) within) [
      | inl is ↦ subst₂ IsPair (ap (λ (pair : ℕ × ℕ). pair.0) is) (ap (λ (pair : ℕ × ℕ). pair.1) is) holds
      | inr behind ↦ absurd (omega (arith, behind.1))
    ],
    λ pair. let (first, second) = only i j pair in (0, omega arith, ap₂ (λ (a b : ℕ). (a, b)) (sym first) (sym second)),
  );
}

AreAll-append : (First Second Both : ℕ → ℕ → Type 0) → ((i j : ℕ) → First i j → Second i j → ⊥) → ((i j : ℕ) → Both i j ↔ (First i j ⊎ Second i j)) → (pairs more : List (ℕ × ℕ)) → AreAll First pairs → AreAll Second more → AreAll Both (pairs ++ more)
AreAll-append First Second Both apart both pairs more all all' = record {
  once = AllPairs-append (λ (pair later : ℕ × ℕ). pair ≢ later) pairs more all.once all'.once
      (λ k d within l e inside same.
      let pair = get_or pairs k d in
      let other = get_or more l e in
      let first = (all.exact pair.0 pair.1).0 (Contains-get_or pairs k d within) in
      let second = (all'.exact other.0 other.1).0 (Contains-get_or more l e inside) in
      apart pair.0 pair.1 first (subst₂ Second (ap (λ (pair : ℕ × ℕ). pair.0) (sym same)) (ap (λ (pair : ℕ × ℕ). pair.1) (sym same)) second));
  exact = λ i j. (
    λ within. (both i j).1 (elim (Contains-append_cases pairs more (i, j) within) [
      | inl before ↦ inl ((all.exact i j).0 before)
      | inr behind ↦ inr ((all'.exact i j).0 behind)
    ]),
    λ pair. elim ((both i j).0 pair) [
      | inl first ↦ Contains-append_left pairs more (i, j) ((all.exact i j).1 first)
      | inr second ↦ Contains-append_right pairs more (i, j) ((all'.exact i j).1 second)
    ],
  );
}

module _ (IsPair : ℕ → ℕ → Type 0) where
  pub Gains-none : (before : List (ℕ × ℕ)) → ((i j : ℕ) → IsPair i j → ⊥) → Gains IsPair before before
  Gains-none before none = ([], sym (append-nil before), AreAll-none IsPair none)

  pub Gains-one : (before after : List (ℕ × ℕ)) (place other : ℕ) → after ≡ before ++ (place, other) ∷ [] → IsPair place other → ((i j : ℕ) → IsPair i j → (i ≡ place) × (j ≡ other)) → Gains IsPair before after
  Gains-one before after place other is holds only = ((place, other) ∷ [], is, AreAll-one IsPair place other holds only)

  pub Gains-same : (Same : ℕ → ℕ → Type 0) → ((i j : ℕ) → Same i j ↔ IsPair i j) → (before after : List (ℕ × ℕ)) → Gains IsPair before after → Gains Same before after
  Gains-same Same same before after (pairs, is, all) = (
    pairs,
    is,
    record { once = all.once; exact = λ i j. (λ within. (same i j).1 ((all.exact i j).0 within), λ pair. (all.exact i j).1 ((same i j).0 pair)) },
  )

  pub Gains-then : (Second Both : ℕ → ℕ → Type 0) → ((i j : ℕ) → IsPair i j → Second i j → ⊥) → ((i j : ℕ) → Both i j ↔ (IsPair i j ⊎ Second i j)) → (before now after : List (ℕ × ℕ)) → Gains IsPair before now → Gains Second now after → Gains Both before after
  Gains-then Second Both apart both before now after (pairs, is, all) (more, is', all') = (
    pairs ++ more,
    is' ∙ ap (λ (list : List (ℕ × ℕ)). list ++ more) is ∙ append_assoc before pairs more,
    AreAll-append IsPair Second Both apart both pairs more all all',
  )

-- ---- the parts of points

module _ {Y : Type 0} (bounds : Y → Bounds) (points : List Y) (alone : All (λ point. IsPoint (bounds point)) points) (rows : Strips) (parts : List Part) (are : AreParts bounds rows points parts) where
  part_at : (at : ℕ) (part : Part) → slice_get parts at ≡ Some part → IsPartOf bounds rows points part
  part_at at part listed = subst (IsPartOf bounds rows points) (get_or_from_slice_get parts at part part listed) (are.of at part (slice_get_within parts at part listed))

  point_at : (j : ℕ) (point : Y) → slice_get points j ≡ Some point → IsPoint (bounds point)
  point_at j point stands = subst (λ (one : Y). IsPoint (bounds one)) (get_or_from_slice_get points j point point stands) (alone j point (slice_get_within points j point stands))

  -- the part of a point stands in the point's row, at its x
  part_of_point : (at : ℕ) (part : Part) (j : ℕ) (point : Y) → slice_get parts at ≡ Some part → part.place ≡ j → slice_get points j ≡ Some point → part ≡ part_of j (bounds point) (strip_at rows (bounds point).low)
  part_of_point at part j point listed is stands =
      let of = part_at at part listed in
      let same : of.item ≡ point = same_Some of.item point (sym of.stands ∙ ap (slice_get points) is ∙ stands) in
      let level = (point_at j point stands).level in
      let reaches : Reaches rows (bounds point) part.strip = subst (λ (one : Y). Reaches rows (bounds one) part.strip) same of.reaches in
      let from = reaches.from in
      let upto = subst (λ (height : ℤ). part.strip ≤ strip_at rows height) (sym level) reaches.upto in
      of.is ∙ same_part bounds part.place j part.strip (strip_at rows (bounds point).low) of.item point is (omega (arith, from, upto)) same

  -- and stands once
  one_place : (at other : ℕ) (part part' : Part) (j : ℕ) (point : Y) → slice_get parts at ≡ Some part → slice_get parts other ≡ Some part' → part.place ≡ j → part'.place ≡ j → slice_get points j ≡ Some point → at ≡ other
  one_place at other part part' j point listed listed' is is' stands = elim (cases_lt at other) [
    | inl below ↦ absurd (are.once at other part below (slice_get_within parts other part' listed') (first ∙ same ∙ sym second))
    | inr upto ↦ elim (cases_lt other at) [
      | inl above ↦ absurd (are.once other at part above (slice_get_within parts at part listed) (second ∙ sym same ∙ sym first))
      | inr low ↦ omega (arith, upto, low)
    ]
  ]
    where
      same : part ≡ part'
      same = part_of_point at part j point listed is stands ∙ sym (part_of_point other part' j point listed' is' stands)

      first : get_or parts at part ≡ part
      first = get_or_from_slice_get parts at part part listed

      second : get_or parts other part ≡ part'
      second = get_or_from_slice_get parts other part' part listed'

  -- each point has one
  module _ (j : ℕ) (point : Y) (stands : slice_get points j ≡ Some point) where
    has_part : Contains parts (part_of j (bounds point) (strip_at rows (bounds point).low))
    has_part =
        let level = (point_at j point stands).level in
        are.each j (strip_at rows (bounds point).low) point stands (record { from = omega arith; upto = subst (λ (height : ℤ). strip_at rows (bounds point).low ≤ strip_at rows height) level (omega arith) })

  -- ---- what an item meets, by the parts of points

  module _ (Meeting : Y → Type 0) (box : Bounds) (near : (point : Y) → Meeting point → BoundsMeet box (bounds point)) (place : ℕ) where
    abbrev pub Told : (ℕ → Part → Type 0) → ℕ → ℕ → Type 0
    Told Wanted i j = (i ≡ place) × MeetsPart Meeting points parts Wanted j

    weaker : (Wanted Wanted' : ℕ → Part → Type 0) (j : ℕ) (told : MeetsPart Meeting points parts Wanted j) → Wanted' told.at told.part → MeetsPart Meeting points parts Wanted' j
    weaker Wanted Wanted' j told wanted = record { met = told.met; at = told.at; part = told.part; listed = told.listed; is = told.is; wanted = wanted }

    -- two kinds of parts that exclude one another
    apart : (Wanted Wanted' : ℕ → Part → Type 0) → ((at : ℕ) (part : Part) → Wanted at part → Wanted' at part → ⊥) → (i j : ℕ) → Told Wanted i j → Told Wanted' i j → ⊥
    apart Wanted Wanted' differ i j (_, told) (_, told') =
        let at : told'.at ≡ told.at = one_place told'.at told.at told'.part told.part j told.met.point told'.listed told.listed told'.is told.is told.met.stands in
        let same : told'.part ≡ told.part = same_Some told'.part told.part (sym told'.listed ∙ ap (slice_get parts) at ∙ told.listed) in
        differ told.at told.part told.wanted (subst₂ Wanted' at same told'.wanted)

    -- what is met begins between the sides of the box
    sides : (j : ℕ) (point : Y) → slice_get points j ≡ Some point → Meeting point → (box.left ≤ℤ (bounds point).left) × ((bounds point).left ≤ℤ box.right)
    sides j point stands meet =
        let boxes = near point meet in
        let left = boxes.left in
        let right = boxes.right in
        let upright = (point_at j point stands).upright in
        (omega (arith, ints, left, upright), omega (arith, ints, right))

    left_of : {Wanted : ℕ → Part → Type 0} (j : ℕ) (told : MeetsPart Meeting points parts Wanted j) → (box.left ≤ℤ told.part.left) × (told.part.left ≤ℤ box.right)
    left_of j told =
        let is = ap (λ (part : Part). part.left) (part_of_point told.at told.part j told.met.point told.listed told.is told.met.stands) in
        let (from, upto) = sides j told.met.point told.met.stands told.met.meet in
        (omega (arith, ints, is, from), omega (arith, ints, is, upto))

    -- Of a row, from the first part in it that doesn't lie before the box.
    module _ (row from : ℕ) (first : IsFirstFrom parts row box.left from) where
      abbrev pub InRow : ℕ → ℕ → Part → Type 0
      InRow next at part = (at < next) × (part.strip ≡ row)

      -- those before it are not met
      pub told_none : (i j : ℕ) → Told (InRow from) i j → ⊥
      told_none i j (_, told) =
          let (before, in_row) = told.wanted in
          let (left, _) = left_of j told in
          ⊎_elim (λ below. omega (arith, below, in_row)) (λ (_, less). omega (arith, ints, less, left)) (first.short told.at told.part told.listed before)

      -- one more part
      module _ (next : ℕ) (part : Part) (listed : slice_get parts next ≡ Some part) where
        abbrev pub IsNext : Y → ℕ → ℕ → Type 0
        IsNext point i j = (i ≡ place) × (j ≡ part.place) × Meeting point

        pub told_more : (point : Y) → slice_get points part.place ≡ Some point → part.strip ≡ row → (i j : ℕ) → Told (InRow (next + 1)) i j ↔ (Told (InRow next) i j ⊎ IsNext point i j)
        told_more point stands in_row i j = (
          λ (at_place, told). elim (cases_lt told.at next) [
            | inl before ↦ inl (at_place, weaker (InRow (next + 1)) (InRow next) j told (before, told.wanted.1))
            | inr upto ↦
                let below = told.wanted.0 in
                let is : told.at ≡ next = omega (arith, below, upto) in
                let same : told.part ≡ part = same_Some told.part part (sym told.listed ∙ ap (slice_get parts) is ∙ listed) in
                let at : j ≡ part.place = sym told.is ∙ ap (λ (one : Part). one.place) same in
                inr (at_place, at, subst Meeting (same_Some told.met.point point (sym told.met.stands ∙ ap (slice_get points) at ∙ stands)) told.met.meet)
          ],
          λ told. elim told [
            | inl (at_place, before) ↦ (at_place, weaker (InRow next) (InRow (next + 1)) j before (let below = before.wanted.0 in omega (arith, below), before.wanted.1))
            | inr (at_place, at, meet) ↦ (
              at_place,
              record {
                met = record { point = point; stands = ap (slice_get points) at ∙ stands; meet = meet };
                at = next;
                part = part;
                listed = listed;
                is = sym at;
                wanted = (omega arith, in_row);
              },
            )
          ],
        )

        pub told_apart : (point : Y) → (i j : ℕ) → Told (InRow next) i j → IsNext point i j → ⊥
        told_apart point i j (_, told) (_, at, meet) =
            let before = told.wanted.0 in
            let is : told.at ≡ next = one_place told.at next told.part part j told.met.point told.listed listed told.is (sym at) told.met.stands in
            omega (arith, before, is)

        -- from a part on that is in another row or beyond the box, none in this row is met
        pub told_upto : AllPairs NotBehind parts → from ≤ next → (part.strip ≡ row → box.right <ℤ part.left) → (i j : ℕ) → Told (λ _ one. one.strip ≡ row) i j ↔ Told (InRow next) i j
        told_upto in_order upto beyond i j = (
          λ (at_place, told). (at_place, weaker (λ _ one. one.strip ≡ row) (InRow next) j told (before told, told.wanted)),
          λ (at_place, told). (at_place, weaker (InRow next) (λ _ one. one.strip ≡ row) j told told.wanted.1),
        )
          where
            none : (told : MeetsPart Meeting points parts (λ _ one. one.strip ≡ row) j) → IsFrom part.strip part.left told.part → ⊥
            none told behind =
                let above = (first.from next part listed upto).above in
                let higher = behind.above in
                let in_row = told.wanted in
                let here : part.strip ≡ row = omega (arith, above, higher, in_row) in
                let past = beyond here in
                let left = behind.behind (omega (arith, here, in_row)) in
                let (_, right) = left_of j told in
                omega (arith, ints, past, left, right)

            before : (told : MeetsPart Meeting points parts (λ _ one. one.strip ≡ row) j) → told.at < next
            before told = elim (cases_lt told.at next) [
              | inl below ↦ below
              | inr behind ↦ absurd (none told (from_there part.strip part.left parts in_order next part listed (λ short. ⊎_elim (λ below. omega (arith, below)) (λ (_, less). omega (arith, ints, less)) short) told.at told.part told.listed behind))
            ]

      -- where the next row begins, all are done
      pub told_all : (end next : ℕ) → IsStart parts (row + 1) end → end ≤ next → (i j : ℕ) → Told (λ _ one. one.strip ≡ row) i j ↔ Told (InRow next) i j
      told_all end next ends all i j = (λ (at_place, told). (at_place, weaker (λ _ one. one.strip ≡ row) (InRow next) j told (before told, told.wanted)), λ (at_place, told). (at_place, weaker (InRow next) (λ _ one. one.strip ≡ row) j told told.wanted.1))
        where
          before : (told : MeetsPart Meeting points parts (λ _ one. one.strip ≡ row) j) → told.at < next
          before told = elim (cases_lt told.at next) [
            | inl below ↦ below
            | inr behind ↦
                let above = ends.above told.at told.part told.listed (omega (arith, behind, all)) in
                let in_row = told.wanted in
                absurd (omega (arith, above, in_row))
          ]

    -- Of rows one after another, from the base on or from the box's low side.
    module _ (over : All (λ point. rows.base ≤ℤ (bounds point).low) points) where
      over_at : (j : ℕ) (point : Y) → slice_get points j ≡ Some point → rows.base ≤ℤ (bounds point).low
      over_at j point stands = subst (λ (one : Y). rows.base ≤ℤ (bounds one).low) (get_or_from_slice_get points j point point stands) (over j point (slice_get_within points j point stands))

      -- rows below have nothing that is met
      pub rows_none : (row : ℕ) → row ≡ strip_at rows (int_max box.low rows.base) → (i j : ℕ) → Told (λ _ part. part.strip < row) i j → ⊥
      rows_none row is i j (_, told) =
          let below = told.wanted in
          let point = told.met.point in
          let there = ap (λ (part : Part). part.strip) (part_of_point told.at told.part j point told.listed told.is told.met.stands) in
          let level = (point_at j point told.met.stands).level in
          let low = (near point told.met.meet).low in
          let base = over_at j point told.met.stands in
          let rises = strip_at-mono rows (int_max box.low rows.base) (bounds point).low (omega (arith, ints, clamps)) (omega (arith, ints, clamps, low, level, base)) in
          omega (arith, below, there, rises, is)

      -- one more row
      pub rows_more : (row : ℕ) (i j : ℕ) → Told (λ _ part. part.strip < row + 1) i j ↔ (Told (λ _ part. part.strip < row) i j ⊎ Told (λ _ part. part.strip ≡ row) i j)
      rows_more row i j = (
        λ (at_place, told). elim (cases_lt told.part.strip row) [
          | inl below ↦ inl (at_place, weaker (λ _ part. part.strip < row + 1) (λ _ part. part.strip < row) j told below)
          | inr upto ↦ inr (at_place, weaker (λ _ part. part.strip < row + 1) (λ _ part. part.strip ≡ row) j told (let below = told.wanted in omega (arith, upto, below)))
        ],
        λ told. elim told [
          | inl (at_place, before) ↦ (at_place, weaker (λ _ part. part.strip < row) (λ _ part. part.strip < row + 1) j before (let below = before.wanted in omega (arith, below)))
          | inr (at_place, here) ↦ (at_place, weaker (λ _ part. part.strip ≡ row) (λ _ part. part.strip < row + 1) j here (let is = here.wanted in omega (arith, is)))
        ],
      )

      pub rows_apart : (row : ℕ) (i j : ℕ) → Told (λ _ part. part.strip < row) i j → Told (λ _ part. part.strip ≡ row) i j → ⊥
      rows_apart row = apart (λ _ part. part.strip < row) (λ _ part. part.strip ≡ row) (λ at part below is. omega (arith, below, is))

      -- nor have rows above the last one or that of the box's high side
      pub rows_all : (starts : List ℕ) → AreStarts parts (length parts) starts → (row : ℕ) → min (length starts) (strip_at rows (int_max box.high rows.base) + 1) ≤ row
          → (i j : ℕ) → ((i ≡ place) × MeetsAt Meeting points j) ↔ Told (λ _ part. part.strip < row) i j
      rows_all starts begun row past i j = (λ (at_place, met). (at_place, by_part met), λ (at_place, told). (at_place, told.met))
        where
          by_part : MeetsAt Meeting points j → MeetsPart Meeting points parts (λ _ part. part.strip < row) j
          by_part met =
              let part = part_of j (bounds met.point) (strip_at rows (bounds met.point).low) in
              let (at, inside, is) = has_part j met.point met.stands in
              let listed = slice_get-get_or parts at part inside ∙ ap (λ (one : Part). Some one) is in
              let high = (near met.point met.meet).high in
              let rises = strip_at-mono rows (bounds met.point).low (int_max box.high rows.base) (over_at j met.point met.stands) (omega (arith, ints, clamps, high)) in
              let last = begun.all at part listed inside in
              record { met = met; at = at; part = part; listed = listed; is = refl; wanted = omega (arith, rises, last, past) }

-- ---- item by item

module _ {X Y : Type 0} (Meeting : X → Y → Type 0) (items : List X) (points : List Y) (place : ℕ) where
  pub items_more : (item : X) → slice_get items place ≡ Some item → (i j : ℕ) → ((i < place + 1) × PairBetween Meeting items points i j) ↔ (((i < place) × PairBetween Meeting items points i j) ⊎ ((i ≡ place) × MeetsAt (Meeting item) points j))
  items_more item stands i j = (
    λ (below, pair). elim (cases_lt i place) [
      | inl before ↦ inl (before, pair)
      | inr upto ↦
          let is : i ≡ place = omega (arith, below, upto) in
          let same : pair.one ≡ item = same_Some pair.one item (sym pair.first ∙ ap (slice_get items) is ∙ stands) in
          inr (is, record { point = pair.other; stands = pair.second; meet = subst (λ (one : X). Meeting one pair.other) same pair.meet })
    ],
    λ told. elim told [
      | inl (before, pair) ↦ (omega (arith, before), pair)
      | inr (is, met) ↦ (omega (arith, is), record { one = item; other = met.point; first = ap (slice_get items) is ∙ stands; second = met.stands; meet = met.meet })
    ],
  )

  pub items_all : length items ≤ place → (i j : ℕ) → PairBetween Meeting items points i j ↔ ((i < place) × PairBetween Meeting items points i j)
  items_all all i j = (λ pair. (let inside = slice_get_within items i pair.one pair.first in omega (arith, inside, all), pair), λ (_, pair). pair)

-- no point has pairs
pub none_between : {X Y : Type 0} (Meeting : X → Y → Type 0) (items : List X) (points : List Y) → length points ≤ 0 → ArePairsBetween Meeting items points []
none_between Meeting items points none =
    let all = AreAll-none (PairBetween Meeting items points) (λ i j pair. let inside = slice_get_within points j pair.other pair.second in omega (arith, inside, none)) in
    record { once = all.once; exact = all.exact }
