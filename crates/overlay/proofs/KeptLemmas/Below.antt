-- What is below a piece that begins: what is above the last one before it in the status, or nothing.
use Rattle.std.proofs.Common.{◌≡◌, ◌≢◌, ◌⊎◌, ◌<◌, ◌+◌, ◌++◌, ◌∷◌, inl, inr, Bool, true, false, cond, ℕ, ℤ, pos, ◌+ℤ◌, ◌≤ℤ◌, ◌<ℤ◌, List, Option, Some, None, length, get_or, refl, ap, ap₂, sym, subst, ◌∙◌, arith}
use Rattle.std.specs.List.{All, Contains}
use Rattle.std.specs.declared.cmp.Ordering.{Ordering}
use Rattle.std.specs.declared.cmp.Ordering.TheVariants.{Less, Equal, Greater}
use Rattle.std.proofs.lemmas.Bool.{cases_lt}
use Rattle.std.proofs.lemmas.Int.{ints}
use Rattle.std.proofs.lemmas.List.{get_or_default}
use Rattle.std.proofs.lemmas.List.Elements.{All-contains, All-filter, Contains-append_cases, Contains-append_left, filter-append}
use Rattle.i_tree.specs.Root.Along.{IsLast}
use Rattle.i_tree.proofs.RootLemmas.Joined.{Contains-middle}
use Rattle.i_tree.proofs.RootLemmas.Lists.{All-filter_passing, Contains-filter}
use Rattle.i_tree.proofs.RootLemmas.Withouts.{filter-without}
use Rattle.plane.specs.declared.edge.Edge.{Edge}
use Rattle.plane.specs.declared.sweep_line.active.ActiveEdge.{ActiveEdge}
use Rattle.plane.specs.SweepLine.Active.{Entry, IsExpiredAt, cmp_active, is_live_at, live_entries}
use Rattle.plane.specs.SweepLine.Heights.{IsUpto, height_by_runs}
use Rattle.plane.specs.SweepLine.Line.{IsSortedAt, JoinsAt}
use Rattle.plane.proofs.SweepLineLemmas.Adjacent.{AllPairs-before, AllPairs-after}
use Rattle.plane.proofs.SweepLineLemmas.Later.{around_cases}
use Rattle.plane.proofs.SweepLineLemmas.Live.{is_live_at-before, before-is_live_at}
use Rattle.overlay.specs.declared.fill.pieces.Piece.{Piece}
use Rattle.overlay.specs.Fill.Counts.{Counts, is_over, is_lower_on, counts_below, counts_above}
use Rattle.overlay.specs.Fill.Sweep.{AreFillPieces, Fits, above_or, below_of, is_below_on, no_piece, nothing, plus}
use Rattle.overlay.proofs.FillLemmas.Callers.{apart, counts-first, counts-next, counts-small, lower-irrefl}
use Rattle.overlay.proofs.FillLemmas.Tests.{lt_false, over_is, over_true}
use Rattle.overlay.proofs.KeptLemmas.Begun.{HasBegun, IsEntryOf, entry_at, goes_on, held, joined-each, piece_at, x_order}
use Rattle.overlay.proofs.KeptLemmas.Upto.{later-above}

-- ---- counts over the pieces are those over the edges

module _ (pieces : List Piece) (fill : AreFillPieces pieces) where
  pub below-edges : (g : Piece) → below_of pieces g ≡ counts_below fill.subject fill.clip g
  below-edges g =
      ap₂ (λ (a b : ℤ). record { subject = a; clip = b })
      (sym (fill.are.joined (is_below_on g.edge.x0 g.edge)))
      (sym (fill.are.clip_joined (is_below_on g.edge.x0 g.edge)))

  pub above-edges : (g : Piece) → plus (below_of pieces g) g ≡ counts_above fill.subject fill.clip g
  above-edges g = ap (λ (counts : Counts). plus counts g) (below-edges g)

  -- the counts above a piece are numbers of 64 bits
  pub below-fits : (k : ℕ) → k < length pieces → Fits (below_of pieces (piece_at pieces k)) (piece_at pieces k)
  below-fits k within =
      let piece = piece_at pieces k in
      let small = counts-small fill.subject fill.clip fill.closed fill.clip_closed fill.noded pieces fill.are fill.most fill.weigh piece (held pieces fill k within) in
      let subject = ap (λ (c : Counts). c.subject) (above-edges piece) in
      let clip = ap (λ (c : Counts). c.clip) (above-edges piece) in
      let countable = fill.countable in
      let a = small.1.from in
      let b = small.1.upto in
      let c = small.3.from in
      let d = small.3.upto in
      record { from = omega (arith, ints, subject, countable, a); below = omega (arith, ints, subject, countable, b); clip_from = omega (arith, ints, clip, countable, c); clip_below = omega (arith, ints, clip, countable, d) }

-- ---- lower, or not

pub upto-not_lower : (one other : Edge) (x : ℤ) → IsUpto one other x → IsUpto one other (x +ℤ pos 1) → is_lower_on x other one ≡ false
upto-not_lower one other x here behind =
    lt_false (height_by_runs other one x +ℤ height_by_runs other one (x +ℤ pos 1)) (height_by_runs one other x +ℤ height_by_runs one other (x +ℤ pos 1)) (omega (arith, ints, here, behind))

-- the entry isn't above where the edge begins
abbrev pub NotAbove : ActiveEdge → Entry → Type 0
NotAbove beginning entry = cmp_active entry.0 beginning ≢ Greater

never_both : (t : Bool) → t ≡ true → t ≡ false → ⊥
never_both true yes_it no_it = cc
never_both false yes_it no_it = cc

never_ordered : (o : Ordering) → o ≡ Less → o ≡ Greater → ⊥
never_ordered Less less greater = cc
never_ordered Greater less greater = cc
never_ordered Equal less greater = cc

module _ (pieces : List Piece) (fill : AreFillPieces pieces) (k : ℕ) (within : k < length pieces) (x : ℤ) (upto : x ≤ℤ (piece_at pieces k).edge.x0) (stored : List Entry) (has : HasBegun pieces k x stored)
    (after : List Entry) (joins : JoinsAt (piece_at pieces k).edge.x0 (entry_at pieces k) stored after) (more : HasBegun pieces (k + 1) (piece_at pieces k).edge.x0 after) where
  abbrev g : Piece
  g = piece_at pieces k

  abbrev start : ℤ
  start = g.edge.x0

  abbrev live : List Entry → List Entry
  live entries = live_entries start entries

  -- ---- the live ones, before and after

  expired_not : (entry : Entry) → IsExpiredAt start entry → is_live_at start entry ≡ false
  expired_not entry expired = expired

  live_before : live stored ≡ live joins.front ++ live joins.back
  live_before = filter-without (is_live_at start) expired_not joins.kept ∙ filter-append (is_live_at start) joins.front joins.back

  begins_live : is_live_at start (entry_at pieces k) ≡ true
  begins_live = is_live_at-before start (entry_at pieces k) (goes_on pieces fill k within)

  kept_here : (t : Bool) (entry : Entry) (entries : List Entry) → t ≡ true → cond t (entry ∷ entries) entries ≡ entry ∷ entries
  kept_here true entry entries yes_it = refl
  kept_here false entry entries yes_it = cc

  live_after : live after ≡ live joins.front ++ entry_at pieces k ∷ live joins.back
  live_after =
      ap live joins.place ∙ filter-append (is_live_at start) joins.front (entry_at pieces k ∷ joins.back)
      ∙ ap (λ (entries : List Entry). live joins.front ++ entries) (kept_here (is_live_at start (entry_at pieces k)) (entry_at pieces k) (live joins.back) begins_live)

  sorted_after : IsSortedAt start (live joins.front ++ entry_at pieces k ∷ live joins.back)
  sorted_after = subst (IsSortedAt start) live_after (more.sorted start (omega (arith, ints)))

  -- what stands before isn't above, and what stands behind isn't below
  front_upto : (entry : Entry) → Contains (live joins.front) entry → is_lower_on start g.edge entry.0.edge ≡ false
  front_upto entry among =
      upto-not_lower entry.0.edge g.edge start
      (All-contains (λ (one : Entry). IsUpto one.0.edge g.edge start) (live joins.front) entry (AllPairs-before (λ (one other : Entry). IsUpto one.0.edge other.0.edge start) (live joins.front) (entry_at pieces k) (live joins.back) sorted_after.here) among)
      (All-contains (λ (one : Entry). IsUpto one.0.edge g.edge (start +ℤ pos 1)) (live joins.front) entry (AllPairs-before (λ (one other : Entry). IsUpto one.0.edge other.0.edge (start +ℤ pos 1)) (live joins.front) (entry_at pieces k) (live joins.back) sorted_after.behind) among)

  back_upto : (entry : Entry) → Contains (live joins.back) entry → is_lower_on start entry.0.edge g.edge ≡ false
  back_upto entry among =
      upto-not_lower g.edge entry.0.edge start
      (All-contains (λ (one : Entry). IsUpto g.edge one.0.edge start) (live joins.back) entry (AllPairs-after (λ (one other : Entry). IsUpto one.0.edge other.0.edge start) (live joins.front) (entry_at pieces k) (live joins.back) sorted_after.here) among)
      (All-contains (λ (one : Entry). IsUpto g.edge one.0.edge (start +ℤ pos 1)) (live joins.back) entry (AllPairs-after (λ (one other : Entry). IsUpto one.0.edge other.0.edge (start +ℤ pos 1)) (live joins.front) (entry_at pieces k) (live joins.back) sorted_after.behind) among)

  -- ---- the pieces

  differ : (i j : ℕ) → i < j → j < length pieces → (piece_at pieces i).edge ≢ (piece_at pieces j).edge
  differ i j less inside = fill.are.distinct i j no_piece less inside

  g_held : Contains pieces g
  g_held = held pieces fill k within

  -- an earlier one that is over the start stands in the status, and where it is lower it stands before
  stands : (j : ℕ) → j < k → is_over start (piece_at pieces j).edge ≡ true → is_lower_on start (piece_at pieces j).edge g.edge ≡ true → Contains (live joins.front) (entry_at pieces j)
  stands j less over lower =
      let span = over_is start (piece_at pieces j).edge over in
      let among = Contains-filter (is_live_at start) after (entry_at pieces j) (is_live_at-before start (entry_at pieces j) span.1) (joined-each pieces fill k within x upto stored has after joins j (omega (arith, less)) span.1) in
      by (around_cases (live joins.front) (entry_at pieces k) (live joins.back) (entry_at pieces j) (subst (λ (entries : List Entry). Contains entries (entry_at pieces j)) live_after among))
    where
      places : entry_at pieces k ≡ entry_at pieces j → ⊥
      places same = let level = ap (λ (entry : Entry). entry.0.place) same in omega (arith, less, level)

      by : (entry_at pieces k ≡ entry_at pieces j) ⊎ Contains (live joins.front ++ live joins.back) (entry_at pieces j) → Contains (live joins.front) (entry_at pieces j)
      by (inl same) = absurd (places same)
      by (inr others) = by_side (Contains-append_cases (live joins.front) (live joins.back) (entry_at pieces j) others)
        where
          by_side : Contains (live joins.front) (entry_at pieces j) ⊎ Contains (live joins.back) (entry_at pieces j) → Contains (live joins.front) (entry_at pieces j)
          by_side (inl front) = front
          by_side (inr back) = absurd (never_both (is_lower_on start (piece_at pieces j).edge g.edge) lower (back_upto (entry_at pieces j) back))

  -- so a lower piece stands before
  lower-stands : (q : Piece) → Contains pieces q → is_over start q.edge ≡ true → is_lower_on start q.edge g.edge ≡ true → (j : ℕ) × (j < k) × (piece_at pieces j ≡ q) × Contains (live joins.front) (entry_at pieces j)
  lower-stands q (j, inside, is) over lower =
      let here : piece_at pieces j ≡ q = same_default j inside q is in
      let over_j = subst (λ (p : Piece). is_over start p.edge ≡ true) (sym here) over in
      let lower_j = subst (λ (p : Piece). is_lower_on start p.edge g.edge ≡ true) (sym here) lower in
      elim (cases_lt j k) [
        | inl less ↦ (j, less, here, stands j less over_j lower_j)
        | inr most ↦ elim (cases_lt k j) [
          | inl behind ↦ absurd (never_both (is_lower_on start (piece_at pieces j).edge g.edge) lower_j (later-above pieces fill k within j behind inside over_j))
          | inr upto_k ↦
              let level : j ≡ k = omega (arith, most, upto_k) in
              absurd (never_both (is_lower_on start g.edge g.edge) (subst (λ (n : ℕ). is_lower_on start (piece_at pieces n).edge g.edge ≡ true) level lower_j) (lower-irrefl start g))
        ]
      ]
    where
      same_default : (j : ℕ) → j < length pieces → (q : Piece) → get_or pieces j q ≡ q → piece_at pieces j ≡ q
      same_default j inside q is = get_or_default pieces j no_piece q inside ∙ is

  -- ---- the last one below

  front_below : (entry : Entry) → Contains (live joins.front) entry → cmp_active entry.0 (entry_at pieces k).0 ≡ Less
  front_below entry among = All-contains (λ (other : Entry). cmp_active other.0 (entry_at pieces k).0 ≡ Less) (live joins.front) entry joins.below among

  back_above : (entry : Entry) → Contains (live joins.back) entry → cmp_active entry.0 (entry_at pieces k).0 ≡ Greater
  back_above entry among = All-contains (λ (other : Entry). cmp_active other.0 (entry_at pieces k).0 ≡ Greater) (live joins.back) entry joins.above among

  front_not : (entry : Entry) → Contains (live joins.front) entry → ¬ (NotAbove (entry_at pieces k).0 entry) → ⊥
  front_not entry among above = above (λ greater. never_ordered (cmp_active entry.0 (entry_at pieces k).0) (front_below entry among) greater)

  -- where there is none, no piece is lower
  pub none-lower : All (λ entry. ¬ (NotAbove (entry_at pieces k).0 entry)) (live stored) → (q : Piece) → Contains pieces q → is_over start q.edge ≡ true → is_lower_on start q.edge g.edge ≡ true → ⊥
  none-lower all q among over lower =
      let (j, less, is, stands_there) = lower-stands q among over lower in
      let in_stored = subst (λ (entries : List Entry). Contains entries (entry_at pieces j)) (sym live_before) (Contains-append_left (live joins.front) (live joins.back) (entry_at pieces j) stands_there) in
      front_not (entry_at pieces j) stands_there (All-contains (λ (entry : Entry). ¬ (NotAbove (entry_at pieces k).0 entry)) (live stored) (entry_at pieces j) all in_stored)

  -- so nothing is below
  below-none : All (λ entry. ¬ (NotAbove (entry_at pieces k).0 entry)) (live stored) → below_of pieces g ≡ nothing
  below-none all =
      below-edges pieces fill g
      ∙ counts-first fill.subject fill.clip fill.closed fill.clip_closed fill.noded pieces fill.are g (λ q among over. by q among over (is_lower_on start q.edge g.edge) refl)
    where
      by : (q : Piece) → Contains pieces q → is_over start q.edge ≡ true → (t : Bool) → is_lower_on start q.edge g.edge ≡ t → is_lower_on start q.edge g.edge ≡ false
      by q among over false e = e
      by q among over true e = absurd (none-lower all q among over e)

  -- else what is above it
  module _ (found : Entry) (front back : List Entry) (parts : live stored ≡ front ++ found ∷ back) (last : NotAbove (entry_at pieces k).0 found) (others : All (λ entry. ¬ (NotAbove (entry_at pieces k).0 entry)) back) where
    found_before : Contains (live joins.front) found
    found_before = by (Contains-append_cases (live joins.front) (live joins.back) found (subst (λ (entries : List Entry). Contains entries found) (sym parts ∙ live_before) (Contains-middle front found back)))
      where
        by : Contains (live joins.front) found ⊎ Contains (live joins.back) found → Contains (live joins.front) found
        by (inl here) = here
        by (inr there) = absurd (last (back_above found there))

    pub found_of : IsEntryOf pieces k found
    found_of =
        All-contains (IsEntryOf pieces k) (live stored) found (All-filter (is_live_at start) (IsEntryOf pieces k) stored has.of)
        (subst (λ (entries : List Entry). Contains entries found) (sym parts) (Contains-middle front found back))

    abbrev i : ℕ
    i = found.0.place

    abbrev p : Piece
    p = piece_at pieces i

    pub i_inside : i < length pieces
    i_inside = let less = found_of.below in omega (arith, less, within)

    p_edge : found.0.edge ≡ p.edge
    p_edge = ap (λ (entry : Entry). entry.0.edge) found_of.is

    p_live : start <ℤ p.edge.x1
    p_live =
        let live_too = All-contains (λ (entry : Entry). is_live_at start entry ≡ true) (live stored) found (All-filter_passes stored) (subst (λ (entries : List Entry). Contains entries found) (sym parts) (Contains-middle front found back)) in
        subst (λ (e : Edge). start <ℤ e.x1) p_edge (before-is_live_at start found live_too)
      where
        All-filter_passes : (entries : List Entry) → All (λ (entry : Entry). is_live_at start entry ≡ true) (live entries)
        All-filter_passes entries = All-filter_passing (is_live_at start) (λ (entry : Entry). is_live_at start entry ≡ true) entries (λ n d inside passes. passes)

    p_from : p.edge.x0 ≤ℤ start
    p_from = x_order pieces fill i k found_of.below within

    pub p_over : is_over start p.edge ≡ true
    p_over = over_true start p.edge p_from p_live

    g_over : is_over start g.edge ≡ true
    g_over = over_true start g.edge (omega (arith, ints)) (goes_on pieces fill k within)

    -- of two over the start that differ one is lower
    one_lower : (q r : Piece) → Contains pieces q → Contains pieces r → q.edge ≢ r.edge → is_over start q.edge ≡ true → is_over start r.edge ≡ true → is_lower_on start r.edge q.edge ≡ false → is_lower_on start q.edge r.edge ≡ true
    one_lower q r first second unlike over over_too not_other = by (apart fill.subject fill.clip fill.closed fill.clip_closed fill.noded pieces fill.are q r start first second unlike over over_too)
      where
        by : (is_lower_on start q.edge r.edge ≡ true) ⊎ (is_lower_on start r.edge q.edge ≡ true) → is_lower_on start q.edge r.edge ≡ true
        by (inl lower) = lower
        by (inr lower) = absurd (never_both (is_lower_on start r.edge q.edge) lower not_other)

    pub p_lower : is_lower_on start p.edge g.edge ≡ true
    p_lower =
        one_lower p g (held pieces fill i i_inside) g_held (differ i k found_of.below within) p_over g_over
        (subst (λ (e : Edge). is_lower_on start g.edge e ≡ false) p_edge (front_upto found found_before))

    -- a lower one stands before it
    not_lower : (j : ℕ) → Contains front (entry_at pieces j) → is_lower_on start p.edge (piece_at pieces j).edge ≡ false
    not_lower j among =
        let sorted = subst (IsSortedAt start) parts (has.sorted start upto) in
        subst (λ (e : Edge). is_lower_on start e (piece_at pieces j).edge ≡ false) p_edge
        (upto-not_lower (piece_at pieces j).edge found.0.edge start
        (All-contains (λ (one : Entry). IsUpto one.0.edge found.0.edge start) front (entry_at pieces j) (AllPairs-before (λ (one other : Entry). IsUpto one.0.edge other.0.edge start) front found back sorted.here) among)
        (All-contains (λ (one : Entry). IsUpto one.0.edge found.0.edge (start +ℤ pos 1)) front (entry_at pieces j) (AllPairs-before (λ (one other : Entry). IsUpto one.0.edge other.0.edge (start +ℤ pos 1)) front found back sorted.behind) among))

    differ_either : (j : ℕ) → j < length pieces → j ≢ i → (piece_at pieces j).edge ≢ p.edge
    differ_either j inside unlike = elim (cases_lt j i) [
      | inl less ↦ differ j i less i_inside
      | inr most ↦ elim (cases_lt i j) [
        | inl more_than ↦ (λ same. differ i j more_than inside (sym same))
        | inr level ↦ absurd (unlike (omega (arith, most, level)))
      ]
    ]

    pub highest : (q : Piece) → Contains pieces q → is_over start q.edge ≡ true → is_lower_on start q.edge g.edge ≡ true → (q ≡ p) ⊎ (is_lower_on start q.edge p.edge ≡ true)
    highest q among over lower =
        let (j, less, is, stands_there) = lower-stands q among over lower in
        let in_stored = subst (λ (entries : List Entry). Contains entries (entry_at pieces j)) (sym live_before ∙ parts) (Contains-append_left (live joins.front) (live joins.back) (entry_at pieces j) stands_there) in
        by j less is stands_there (around_cases front found back (entry_at pieces j) in_stored)
      where
        by : (j : ℕ) → j < k → piece_at pieces j ≡ q → Contains (live joins.front) (entry_at pieces j) → (found ≡ entry_at pieces j) ⊎ Contains (front ++ back) (entry_at pieces j) → (q ≡ p) ⊎ (is_lower_on start q.edge p.edge ≡ true)
        by j less is stands_there (inl same) = inl (sym is ∙ ap (λ (n : ℕ). piece_at pieces n) (sym (ap (λ (entry : Entry). entry.0.place) same)))
        by j less is stands_there (inr elsewhere) = by_side (Contains-append_cases front back (entry_at pieces j) elsewhere)
          where
            apart_places : Contains front (entry_at pieces j) → (j ≡ i) ⊎ (j ≢ i) → (q ≡ p) ⊎ (is_lower_on start q.edge p.edge ≡ true)
            apart_places there (inl level) = inl (sym is ∙ ap (λ (n : ℕ). piece_at pieces n) level)
            apart_places there (inr unlike) =
                inr (subst (λ (r : Piece). is_lower_on start r.edge p.edge ≡ true) is
                (one_lower (piece_at pieces j) p (held pieces fill j (omega (arith, less, within))) (held pieces fill i i_inside) (differ_either j (omega (arith, less, within)) unlike)
                (subst (λ (r : Piece). is_over start r.edge ≡ true) (sym is) over) p_over (not_lower j there)))

            by_place : (j ≡ i) ⊎ (j ≢ i)
            by_place = elim (cases_lt j i) [
              | inl before ↦ inr (λ level. omega (arith, before, level))
              | inr most ↦ elim (cases_lt i j) [
                | inl behind ↦ inr (λ level. omega (arith, behind, level))
                | inr same ↦ inl (omega (arith, most, same))
              ]
            ]

            by_side : Contains front (entry_at pieces j) ⊎ Contains back (entry_at pieces j) → (q ≡ p) ⊎ (is_lower_on start q.edge p.edge ≡ true)
            by_side (inl there) = apart_places there by_place
            by_side (inr there) = absurd (front_not (entry_at pieces j) stands_there (All-contains (λ (entry : Entry). ¬ (NotAbove (entry_at pieces k).0 entry)) back (entry_at pieces j) others there))

    below-some : below_of pieces g ≡ plus (below_of pieces p) p
    below-some =
        below-edges pieces fill g
        ∙ counts-next fill.subject fill.clip fill.closed fill.clip_closed fill.noded pieces fill.are p g (held pieces fill i i_inside) g_held p_from p_live p_lower highest
        ∙ sym (above-edges pieces fill p)

  -- the counts that were found are those below the piece
  pub found-below : (above : List Counts) → ((i : ℕ) → i < k → get_or above i nothing ≡ plus (below_of pieces (piece_at pieces i)) (piece_at pieces i)) → (found : Option Entry) → IsLast (NotAbove (entry_at pieces k).0) (live stored) found
      → above_or above found ≡ below_of pieces g
  found-below above told None all = sym (below-none all)
  found-below above told (Some found) (front, back, parts, last, others) =
      told found.0.place (found_of found front back parts last others).below ∙ sym (below-some found front back parts last others)
