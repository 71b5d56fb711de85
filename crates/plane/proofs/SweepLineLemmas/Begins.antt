-- An edge begins: how the order along the status finds its place in the line, and the line with it.
use Rattle.std.proofs.Common.{◌≡◌, ◌≢◌, ◌⊎◌, inl, inr, ◌<◌, ◌≤◌, ℤ, pos, ◌+ℤ◌, ◌≤ℤ◌, ◌<ℤ◌, List, [], ◌∷◌, ◌++◌, Option, Some, length, get_or, append_assoc, arith, refl, sym, ap, ◌∙◌, subst}
use Rattle.std.specs.Cmp.{int_cmp_is, nat_cmp_is}
use Rattle.std.specs.Int.{int_max}
use Rattle.std.specs.List.{All}
use Rattle.std.specs.Ordering.{int_cmp, nat_cmp, ordering_index}
use Rattle.std.specs.declared.cmp.Ordering.{Ordering}
use Rattle.std.specs.declared.cmp.Ordering.TheVariants.{Less, Equal, Greater}
use Rattle.std.proofs.lemmas.Int.{ints, clamps, by_lt_z}
use Rattle.std.proofs.lemmas.List.Elements.{All-head}
use Rattle.i_tree.proofs.RootLemmas.Joined.{All-behind, All-front, AllPairs-joined}
use Rattle.i_tree.specs.Root.Along.{AreNeighbours, IsMonotoneAlong, NoneEqual}
use Rattle.plane.proofs.SweepLineLemmas.Comparisons.{says_greater, says_less}
use Rattle.plane.specs.declared.edge.Edge.{Edge}
use Rattle.plane.specs.declared.sweep_line.active.ActiveEdge.{ActiveEdge}
use Rattle.plane.specs.SweepLine.Crossings.{Cross}
use Rattle.plane.specs.SweepLine.Heights.{run, rise, height_by_runs, rise_by_run}
use Rattle.plane.specs.SweepLine.Active.{Entry, then_cmp, common_start, cmp_active, NotCross}
use Rattle.plane.proofs.SweepLineLemmas.Adjacent.{Adjacent-behind, Adjacent-front, Adjacent-joined, All-at, All-joined}
use Rattle.plane.proofs.SweepLineLemmas.Advance.{some_run}
use Rattle.plane.proofs.SweepLineLemmas.Exchanged.{less_from_greater}
use Rattle.plane.specs.SweepLine.Line.{BeganBefore, IsLineAt, IsSortedAt}
use Rattle.plane.proofs.SweepLineLemmas.Neighbours.{first_neighbour, greater_last, last_neighbour, less_first}
use Rattle.plane.specs.SweepLine.Heights.{IsUpto}
use Rattle.plane.proofs.SweepLineLemmas.Order.{not_steeper, in_order, stands_cases, stands_upto, upto-trans}

-- ---- from heights and slopes to the order

equal_of : (a b : ℤ) → a ≡ b → int_cmp a b ≡ Equal
equal_of a b same = sym (int_cmp_is a b Equal same)

-- a first comparison that tells Less, or Greater, and one that leaves it to the second
told_first : (first second r : Ordering) → first ≡ r → r ≢ Equal → then_cmp first second ≡ r
told_first Less second r is apart = is
told_first Equal second r is apart = absurd (apart (sym is))
told_first Greater second r is apart = is

told_second : (first second : Ordering) → first ≡ Equal → then_cmp first second ≡ second
told_second Less second is = cc
told_second Equal second is = refl
told_second Greater second is = cc

less_apart : Less ≢ Equal
less_apart same = cc

greater_apart : Greater ≢ Equal
greater_apart same = cc

-- ---- beside an edge that begins at x

module _ (x : ℤ) (begun beginning : ActiveEdge) (from : begun.edge.x0 ≤ℤ x) (begins : beginning.edge.x0 ≡ x) where
  -- the first x that both span
  starts : common_start begun beginning ≡ x
  starts = max_is begun.edge.x0 beginning.edge.x0 from begins
    where
      max_is : (a b : ℤ) → a ≤ℤ x → b ≡ x → int_max a b ≡ x
      max_is a b within is = omega (arith, ints, clamps)

  abbrev low : ℤ
  low = height_by_runs begun.edge beginning.edge x

  abbrev high : ℤ
  high = height_by_runs beginning.edge begun.edge x

  abbrev slow : ℤ
  slow = rise_by_run begun.edge beginning.edge

  abbrev steep : ℤ
  steep = rise_by_run beginning.edge begun.edge

  abbrev last_told : Ordering
  last_told = then_cmp (int_cmp begun.edge.x0 beginning.edge.x0) (nat_cmp begun.place beginning.place)

  -- the one that has begun is lower, or as high and not steeper
  abbrev StandsBelow : Type 0
  StandsBelow = (low <ℤ high) ⊎ ((low ≡ high) × (slow ≤ℤ steep))

  abbrev StandsAbove : Type 0
  StandsAbove = (high <ℤ low) ⊎ ((low ≡ high) × (steep <ℤ slow))

  order_here : cmp_active begun beginning ≡ then_cmp (int_cmp low high) (then_cmp (int_cmp slow steep) last_told)
  order_here =
      ap (λ (z : ℤ). then_cmp (int_cmp (height_by_runs begun.edge beginning.edge z) (height_by_runs beginning.edge begun.edge z)) (then_cmp (int_cmp slow steep) last_told)) starts

  by_last : BeganBefore begun beginning → last_told ≡ Less
  by_last (inl before) = told_first (int_cmp begun.edge.x0 beginning.edge.x0) (nat_cmp begun.place beginning.place) Less (says_less begun.edge.x0 beginning.edge.x0 before) less_apart
  by_last (inr (same, before)) =
      told_second (int_cmp begun.edge.x0 beginning.edge.x0) (nat_cmp begun.place beginning.place) (equal_of begun.edge.x0 beginning.edge.x0 same)
      ∙ sym (nat_cmp_is begun.place beginning.place Less before)

  less_from_below : BeganBefore begun beginning → StandsBelow → cmp_active begun beginning ≡ Less
  less_from_below before (inl lower) = order_here ∙ told_first (int_cmp low high) (then_cmp (int_cmp slow steep) last_told) Less (says_less low high lower) less_apart
  less_from_below before (inr (level, upto)) =
      order_here ∙ told_second (int_cmp low high) (then_cmp (int_cmp slow steep) last_told) (equal_of low high level)
      ∙ by_lt_z slow steep
      (λ slower. told_first (int_cmp slow steep) last_told Less (says_less slow steep slower) less_apart)
      (λ from_above. told_second (int_cmp slow steep) last_told (equal_of slow steep (omega (arith, ints, upto, from_above))) ∙ by_last before)

  greater_from_above : StandsAbove → cmp_active begun beginning ≡ Greater
  greater_from_above (inl higher) = order_here ∙ told_first (int_cmp low high) (then_cmp (int_cmp slow steep) last_told) Greater (says_greater low high higher) greater_apart
  greater_from_above (inr (level, steeper)) =
      order_here ∙ told_second (int_cmp low high) (then_cmp (int_cmp slow steep) last_told) (equal_of low high level)
      ∙ told_first (int_cmp slow steep) last_told Greater (says_greater slow steep steeper) greater_apart

  below_or_above : StandsBelow ⊎ StandsAbove
  below_or_above =
      by_lt_z low high (λ lower. inl (inl lower)) (λ upto.
      by_lt_z high low (λ higher. inr (inl higher)) (λ upto_too.
      let level : low ≡ high = omega (arith, ints, upto, upto_too) in
      by_lt_z steep slow (λ steeper. inr (inr (level, steeper))) (λ slower. inl (inr (level, slower)))))

  below_from_less : cmp_active begun beginning ≡ Less → StandsBelow
  below_from_less less = told (stands_cases begun beginning less)
    where
      told : (height_by_runs begun.edge beginning.edge (common_start begun beginning) <ℤ height_by_runs beginning.edge begun.edge (common_start begun beginning))
          ⊎ ((height_by_runs begun.edge beginning.edge (common_start begun beginning) ≡ height_by_runs beginning.edge begun.edge (common_start begun beginning)) × (slow ≤ℤ steep))
          → StandsBelow
      told (inl lower) = inl (subst (λ (z : ℤ). height_by_runs begun.edge beginning.edge z <ℤ height_by_runs beginning.edge begun.edge z) starts lower)
      told (inr (level, upto)) = inr (subst (λ (z : ℤ). height_by_runs begun.edge beginning.edge z ≡ height_by_runs beginning.edge begun.edge z) starts level, upto)

  -- Less or Greater, and never Equal
  less_or_greater : BeganBefore begun beginning → (cmp_active begun beginning ≡ Less) ⊎ (cmp_active begun beginning ≡ Greater)
  less_or_greater before = elim below_or_above [
    | inl below ↦ inl (less_from_below before below)
    | inr above ↦ inr (greater_from_above above)
  ]

-- ---- one edge in front of another, and a third that begins

module _ (x : ℤ) (one other beginning : Edge) (some : pos 0 <ℤ run one) (some_too : pos 0 <ℤ run other) (some_three : pos 0 <ℤ run beginning)
    (upto : IsUpto one other x) (upto_next : IsUpto one other (x +ℤ pos 1)) where
  abbrev Lower : Edge → Type 0
  Lower edge = (height_by_runs edge beginning x <ℤ height_by_runs beginning edge x) ⊎ ((height_by_runs edge beginning x ≡ height_by_runs beginning edge x) × (rise_by_run edge beginning ≤ℤ rise_by_run beginning edge))

  -- where the second is lower, or as high and not steeper, so is the first
  lower_too : Lower other → Lower one
  lower_too (inl lower) =
      by_lt_z (height_by_runs one beginning x) (height_by_runs beginning one x) (λ below. inl below)
      (λ above.
      let back : IsUpto beginning other x = upto-trans beginning one other x some_three some some_too above upto in
      absurd (omega (arith, ints, lower, back)))
  lower_too (inr (level, slower)) =
      by_lt_z (height_by_runs one beginning x) (height_by_runs beginning one x) (λ below. inl below)
      (λ above.
      let there : IsUpto other beginning x = omega (arith, ints, level) in
      let first : IsUpto one beginning x = upto-trans one other beginning x some some_too some_three upto there in
      let back : IsUpto other one x = upto-trans other beginning one x some_too some_three some there above in
      let slope_upto : rise_by_run one other ≤ℤ rise_by_run other one = not_steeper one other x (omega (arith, ints, upto, back)) upto_next in
      inr (
        omega (arith, ints, first, above),
        in_order (rise one) (rise other) (rise beginning) (run one) (run other) (run beginning) some some_too some_three slope_upto slower,
      ))

module _ (x : ℤ) (line : List Entry) (beginning : Entry) (is : IsSortedAt x line) (begins : beginning.0.edge.x0 ≡ x) (some : x <ℤ beginning.0.edge.x1) (last : All (λ entry. BeganBefore entry.0 beginning.0) line) where
  abbrev by_beginning : ActiveEdge → Ordering
  by_beginning other = cmp_active other beginning.0

  rises : (one other : Entry) → (one.0.edge.x0 ≤ℤ x) × (x <ℤ one.0.edge.x1) → (other.0.edge.x0 ≤ℤ x) × (x <ℤ other.0.edge.x1)
      → IsUpto one.0.edge other.0.edge x → IsUpto one.0.edge other.0.edge (x +ℤ pos 1) → BeganBefore one.0 beginning.0 → BeganBefore other.0 beginning.0
      → ordering_index (by_beginning one.0) ≤ ordering_index (by_beginning other.0)
  rises one other (from, lives) (from_too, lives_too) upto upto_next before before_too =
      elim (less_or_greater x other.0 beginning.0 from_too begins before_too) [
        | inl less ↦
            let lower = lower_too x one.0.edge other.0.edge beginning.0.edge (some_run one.0.edge (omega (arith, ints, from, lives))) (some_run other.0.edge (omega (arith, ints, from_too, lives_too)))
            (some_run beginning.0.edge (omega (arith, ints, begins, some))) upto upto_next (below_from_less x other.0 beginning.0 from_too begins less) in
            let less_too = less_from_below x one.0 beginning.0 from begins before lower in
            less_first (by_beginning one.0) (by_beginning other.0) less_too
        | inr greater ↦ greater_last (by_beginning one.0) (by_beginning other.0) greater
      ]

  pub begin_monotone : IsMonotoneAlong (λ other. cmp_active other beginning.0) line
  begin_monotone i j d below within =
      let inside : i < length line = omega (arith, below, within) in
      rises (get_or line i d) (get_or line j d) (is.active i d inside) (is.active j d within) (is.here i j d below within) (is.behind i j d below within) (last i d inside) (last j d within)

  pub begin_new : NoneEqual (λ other. cmp_active other beginning.0) line
  begin_new k d inside equal =
      elim (less_or_greater x (get_or line k d).0 beginning.0 (is.active k d inside).0 begins (last k d inside)) [
        | inl less ↦ cc (less, equal)
        | inr greater ↦ cc (greater, equal)
      ]

-- ---- it joins

module _ (x : ℤ) (beginning : Entry) (begins : beginning.0.edge.x0 ≡ x) where
  abbrev Stands : Entry → Entry → Type 0
  Stands one other = cmp_active one.0 other.0 ≡ Less

  abbrev UptoHere : Entry → Entry → Type 0
  UptoHere one other = IsUpto one.0.edge other.0.edge x

  pub upto_beginning : (entry : Entry) → entry.0.edge.x0 ≤ℤ x → Stands entry beginning → UptoHere entry beginning
  upto_beginning entry from stands = subst (IsUpto entry.0.edge beginning.0.edge) (starts x entry.0 beginning.0 from begins) (stands_upto entry.0 beginning.0 stands)

  pub beginning_upto : (entry : Entry) → entry.0.edge.x0 ≤ℤ x → Stands beginning entry → UptoHere beginning entry
  beginning_upto entry from stands = subst (IsUpto beginning.0.edge entry.0.edge) (max_is beginning.0.edge.x0 entry.0.edge.x0 begins from) (stands_upto beginning.0 entry.0 stands)
    where
      max_is : (a b : ℤ) → a ≡ x → b ≤ℤ x → int_max a b ≡ x
      max_is a b is within = omega (arith, ints, clamps)

module _ (x : ℤ) (line : List Entry) (beginning : Entry) (is : IsLineAt x line) (begins : beginning.0.edge.x0 ≡ x) (some : x <ℤ beginning.0.edge.x1) where
  abbrev by_order : ActiveEdge → Ordering
  by_order other = cmp_active other beginning.0

  beginning_onwards : beginning.0.edge.x0 <ℤ beginning.0.edge.x1
  beginning_onwards = omega (arith, ints, begins, some)

  abbrev Uncrossed : Entry → Entry → Type 0
  Uncrossed one other = x <ℤ one.0.edge.x1 → x <ℤ other.0.edge.x1 → ¬ (Cross one.0.edge other.0.edge)

  abbrev Spans : Entry → Type 0
  Spans entry = (entry.0.edge.x0 ≤ℤ x) × (x ≤ℤ entry.0.edge.x1)

  module _ (front back : List Entry) (parts : line ≡ front ++ back) (below : All (λ entry. cmp_active entry.0 beginning.0 ≡ Less) front) (above : All (λ entry. cmp_active entry.0 beginning.0 ≡ Greater) back) where
    whole : IsLineAt x (front ++ back)
    whole = subst (λ (entries : List Entry). IsLineAt x entries) parts is

    beginning_stands : All (λ entry. cmp_active beginning.0 entry.0 ≡ Less) back
    beginning_stands k d inside = less_from_greater (get_or back k d).0 beginning.0 (above k d inside)

    module _ (found : Option Entry × Option Entry) (are : AreNeighbours (λ other. cmp_active other beginning.0) line found)
        (apart_below : NotCross found.0 (Some beginning)) (apart_above : NotCross (Some beginning) found.1) where
      new_below : (rest : List Entry) (last : Entry) → front ≡ rest ++ last ∷ [] → Uncrossed last beginning
      new_below rest last in_front lives lives_too =
          let all : line ≡ rest ++ last ∷ back = parts ∙ ap (λ (entries : List Entry). entries ++ back) in_front ∙ append_assoc rest (last ∷ []) back in
          let less = All-at (λ (entry : Entry). by_order entry.0 ≡ Less) rest last [] (subst (All (λ (entry : Entry). by_order entry.0 ≡ Less)) in_front below) in
          let is_found = last_neighbour by_order rest last back found less above (subst (λ (entries : List Entry). AreNeighbours by_order entries found) all are) in
          subst (λ (one : Option Entry). NotCross one (Some beginning)) is_found apart_below

      new_above : (first : Entry) (more : List Entry) → back ≡ first ∷ more → Uncrossed beginning first
      new_above first more behind lives lives_too =
          let all : line ≡ front ++ first ∷ more = parts ∙ ap (λ (entries : List Entry). front ++ entries) behind in
          let greater = All-head (λ (entry : Entry). by_order entry.0 ≡ Greater) first more (subst (All (λ (entry : Entry). by_order entry.0 ≡ Greater)) behind above) in
          let is_found = first_neighbour by_order front first more found below greater (subst (λ (entries : List Entry). AreNeighbours by_order entries found) all are) in
          subst (λ (other : Option Entry). NotCross (Some beginning) other) is_found apart_above

      joined : IsLineAt x (front ++ beginning ∷ back)
      joined =
          let front_spans = All-front Spans front back whole.spans in
          let back_spans = All-behind Spans front back whole.spans in
          record {
            onwards = All-joined (λ (entry : Entry). entry.0.edge.x0 <ℤ entry.0.edge.x1) front beginning back whole.onwards beginning_onwards;
            spans = All-joined Spans front beginning back whole.spans (omega (arith, ints, begins), omega (arith, ints, some));
            order = AllPairs-joined (Stands x beginning begins) front beginning back whole.order below beginning_stands;
            sorted = AllPairs-joined (UptoHere x beginning begins) front beginning back whole.sorted
                (λ k d inside. upto_beginning x beginning begins (get_or front k d) (front_spans k d inside).0 (below k d inside))
                (λ k d inside. beginning_upto x beginning begins (get_or back k d) (back_spans k d inside).0 (beginning_stands k d inside));
            adjacent = Adjacent-joined Uncrossed front beginning back (Adjacent-front Uncrossed front back whole.adjacent) (Adjacent-behind Uncrossed front back whole.adjacent) new_below new_above;
          }

  pub begin_kept : (front back : List Entry) → line ≡ front ++ back
      → All (λ entry. cmp_active entry.0 beginning.0 ≡ Less) front → All (λ entry. cmp_active entry.0 beginning.0 ≡ Greater) back
      → (found : Option Entry × Option Entry) → AreNeighbours (λ other. cmp_active other beginning.0) line found
      → NotCross found.0 (Some beginning) → NotCross (Some beginning) found.1
      → IsLineAt x (front ++ beginning ∷ back)
  begin_kept front back parts below above found are apart_below apart_above = joined front back parts below above found are apart_below apart_above
