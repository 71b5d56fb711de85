-- Active edges that are sorted by height at x and just behind it: how they come to be so, and how they stay it.
use Rattle.std.proofs.Common.{◌≡◌, ℤ, pos, ◌+ℤ◌, ◌≤ℤ◌, ◌<ℤ◌, List, ◌∷◌, ◌++◌, get_or, arith, sym, ap, ◌∙◌, subst}
use Rattle.std.specs.List.{All, AllPairs}
use Rattle.std.specs.declared.cmp.Ordering.TheVariants.{Less, Greater}
use Rattle.std.proofs.lemmas.Int.{ints, by_lt_z}
use Rattle.std.proofs.lemmas.List.Elements.{All-filter, filter-append, filter_passes}
use Rattle.std.proofs.lemmas.List.Kept.{AllPairs-filter}
use Rattle.i_tree.proofs.RootLemmas.Joined.{All-behind, All-front, AllPairs-joined}
use Rattle.i_tree.proofs.RootLemmas.Lists.{Without-filter}
use Rattle.plane.specs.declared.sweep_line.active.ActiveEdge.{ActiveEdge}
use Rattle.plane.specs.SweepLine.Active.{Entry, cmp_active, common_start, is_live_at, live_entries}
use Rattle.plane.specs.SweepLine.Crossings.{Cross}
use Rattle.plane.specs.SweepLine.Heights.{IsUpto, height_by_runs}
use Rattle.plane.specs.SweepLine.Line.{AllLiveAt, IsLineAt, IsSortedAt, JoinsAt, NoneCrossAmong}
use Rattle.plane.proofs.SweepLineLemmas.Adjacent.{All-joined, AllPairs-after, AllPairs-before}
use Rattle.plane.proofs.SweepLineLemmas.Advance.{advance}
use Rattle.plane.proofs.SweepLineLemmas.Begins.{beginning_upto, upto_beginning}
use Rattle.plane.proofs.SweepLineLemmas.Exchanged.{less_from_greater}
use Rattle.plane.proofs.SweepLineLemmas.Later.{live-without}
use Rattle.plane.proofs.SweepLineLemmas.Live.{before-is_live_at, filter_keeps, is_live_at-before}
use Rattle.plane.proofs.SweepLineLemmas.Order.{above_at, below_at, common_end, level_upto, never_above, not_steeper}
use Rattle.plane.proofs.SweepLineLemmas.Uncrossed.{max_before, min_behind}

-- a line that is all live is sorted
pub IsSortedAt-line : (x : ℤ) (line : List Entry) → IsLineAt x line → AllLiveAt x line → IsSortedAt x line
IsSortedAt-line x line is live =
    let next = advance x (x +ℤ pos 1) line (omega (arith, ints)) (λ k d inside. let before = live k d inside in omega (arith, ints, before)) is in
    record {
      active = λ k d inside. ((is.spans k d inside).0, live k d inside);
      here = is.sorted;
      behind = next.sorted;
    }

-- ---- at a later x

abbrev IsActiveAt : ℤ → Entry → Type 0
IsActiveAt x entry = (entry.0.edge.x0 ≤ℤ x) × (x <ℤ entry.0.edge.x1)

module _ (one other : ActiveEdge) (x later : ℤ) (onwards : x ≤ℤ later) (from : one.edge.x0 ≤ℤ x) (from_too : other.edge.x0 ≤ℤ x)
    (within : later ≤ℤ one.edge.x1) (within_too : later ≤ℤ other.edge.x1) (some : one.edge.x0 <ℤ one.edge.x1) (some_too : other.edge.x0 <ℤ other.edge.x1) where
  start : common_start one other ≤ℤ x
  start = max_before one.edge.x0 other.edge.x0 x from from_too

  end : later ≤ℤ common_end one other
  end = min_behind one.edge.x1 other.edge.x1 later within within_too

  -- an edge that isn't above another, and doesn't cross it, is not above it later
  pub upto_later : IsUpto one.edge other.edge x → IsUpto one.edge other.edge (x +ℤ pos 1) → ¬ (Cross one.edge other.edge) → IsUpto one.edge other.edge later
  upto_later upto next apart =
      by_lt_z (height_by_runs one.edge other.edge x) (height_by_runs other.edge one.edge x)
      (λ lower. by_lt_z (height_by_runs other.edge one.edge later) (height_by_runs one.edge other.edge later)
      (λ above. absurd (apart (record {
        below = x;
        above = later;
        is_below = below_at one other x some some_too start (omega (arith, ints, onwards, end)) lower;
        is_above = above_at one other later some some_too (omega (arith, ints, onwards, start)) end above;
      })))
      (λ upto_there. upto_there))
      (λ from_above.
      let level : height_by_runs one.edge other.edge x ≡ height_by_runs other.edge one.edge x = omega (arith, ints, upto, from_above) in
      level_upto one.edge other.edge x later onwards level (not_steeper one.edge other.edge x level next))

module _ (x later : ℤ) (onwards : x ≤ℤ later) (entries : List Entry) (is : IsSortedAt x entries) (apart : NoneCrossAmong entries) where
  abbrev UptoAt : ℤ → Entry → Entry → Type 0
  UptoAt z one other = z ≤ℤ one.0.edge.x1 → z ≤ℤ other.0.edge.x1 → IsUpto one.0.edge other.0.edge z

  upto_at : (z : ℤ) → x ≤ℤ z → AllPairs (UptoAt z) entries
  upto_at z behind i j d below within reaches reaches_too =
      let (from, lives) = is.active i d (omega (arith, below, within)) in
      let (from_too, lives_too) = is.active j d within in
      upto_later (get_or entries i d).0 (get_or entries j d).0 x z behind from from_too reaches reaches_too (omega (arith, ints, from, lives)) (omega (arith, ints, from_too, lives_too))
      (is.here i j d below within) (is.behind i j d below within) (apart i j d below within)

  active_later : All (IsActiveAt later) (live_entries later entries)
  active_later k d inside =
      let begun = All-filter (is_live_at later) (IsActiveAt x) entries is.active k d inside in
      let lives = filter_passes (is_live_at later) entries k d inside in
      (omega (arith, ints, begun.0, onwards), before-is_live_at later (get_or (live_entries later entries) k d) lives)

  sorted_at : (z : ℤ) → later ≤ℤ z → z ≤ℤ (later +ℤ pos 1) → AllPairs (λ one other. IsUpto one.0.edge other.0.edge z) (live_entries later entries)
  sorted_at z from upto i j d below within =
      let lives = active_later i d (omega (arith, below, within)) in
      let lives_too = active_later j d within in
      AllPairs-filter (UptoAt z) (is_live_at later) entries (upto_at z (omega (arith, ints, onwards, from))) i j d below within
      (omega (arith, ints, upto, lives.1)) (omega (arith, ints, upto, lives_too.1))

  -- where none of them cross, those that are live then are sorted too
  pub IsSortedAt-later : IsSortedAt later (live_entries later entries)
  IsSortedAt-later = record {
    active = active_later;
    here = sorted_at later (omega (arith, ints)) (omega (arith, ints));
    behind = sorted_at (later +ℤ pos 1) (omega (arith, ints)) (omega (arith, ints));
  }

-- ---- one more begins

module _ (x : ℤ) (front back : List Entry) (beginning : Entry) (begins : beginning.0.edge.x0 ≡ x) (some : x <ℤ beginning.0.edge.x1) (is : IsSortedAt x (front ++ back))
    (below : All (λ other. cmp_active other.0 beginning.0 ≡ Less) front) (above : All (λ other. cmp_active other.0 beginning.0 ≡ Greater) back)
    (apart : NoneCrossAmong (front ++ beginning ∷ back)) where
  abbrev Apart : Entry → Entry → Type 0
  Apart one other = ¬ (Cross one.0.edge other.0.edge)

  -- an edge that stands before another with which it is live, and doesn't cross it, is not above it one later
  upto_next : (one other : Entry) → IsActiveAt x one → IsActiveAt x other → cmp_active one.0 other.0 ≡ Less → Apart one other → IsUpto one.0.edge other.0.edge (x +ℤ pos 1)
  upto_next one other (from, lives) (from_too, lives_too) stands uncrossed =
      let start : common_start one.0 other.0 ≤ℤ x = max_before one.0.edge.x0 other.0.edge.x0 x from from_too in
      let end : (x +ℤ pos 1) ≤ℤ common_end one.0 other.0 = min_behind one.0.edge.x1 other.0.edge.x1 (x +ℤ pos 1) (omega (arith, ints, lives)) (omega (arith, ints, lives_too)) in
      never_above one.0 other.0 (omega (arith, ints, from, lives)) (omega (arith, ints, from_too, lives_too)) (omega (arith, ints, start, end)) stands uncrossed
      (x +ℤ pos 1) (omega (arith, ints, start)) end

  beginning_active : IsActiveAt x beginning
  beginning_active = (omega (arith, ints, begins), some)

  front_active : All (IsActiveAt x) front
  front_active = All-front (IsActiveAt x) front back is.active

  back_active : All (IsActiveAt x) back
  back_active = All-behind (IsActiveAt x) front back is.active

  behind : All (λ entry. cmp_active beginning.0 entry.0 ≡ Less) back
  behind k d inside = less_from_greater (get_or back k d).0 beginning.0 (above k d inside)

  pub IsSortedAt-begun : IsSortedAt x (front ++ beginning ∷ back)
  IsSortedAt-begun = record {
    active = All-joined (IsActiveAt x) front beginning back is.active beginning_active;
    here = AllPairs-joined (λ one other. IsUpto one.0.edge other.0.edge x) front beginning back is.here
        (λ k d inside. upto_beginning x beginning begins (get_or front k d) (front_active k d inside).0 (below k d inside))
        (λ k d inside. beginning_upto x beginning begins (get_or back k d) (back_active k d inside).0 (behind k d inside));
    behind = AllPairs-joined (λ one other. IsUpto one.0.edge other.0.edge (x +ℤ pos 1)) front beginning back is.behind
        (λ k d inside. upto_next (get_or front k d) beginning (front_active k d inside) beginning_active (below k d inside) (AllPairs-before Apart front beginning back apart k d inside))
        (λ k d inside. upto_next beginning (get_or back k d) beginning_active (back_active k d inside) (behind k d inside) (AllPairs-after Apart front beginning back apart k d inside));
  }

-- what has joined, at its beginning and later
module _ (x : ℤ) (beginning : Entry) (begins : beginning.0.edge.x0 ≡ x) (some : x <ℤ beginning.0.edge.x1) (before after : List Entry) (is : IsSortedAt x (live_entries x before)) (joins : JoinsAt x beginning before after) where
  abbrev live_front : List Entry
  live_front = live_entries x joins.front

  abbrev live_back : List Entry
  live_back = live_entries x joins.back

  parts : live_entries x before ≡ live_front ++ live_back
  parts = live-without x x (omega (arith, ints)) joins.kept ∙ filter-append (is_live_at x) joins.front joins.back

  joined : live_entries x after ≡ live_front ++ beginning ∷ live_back
  joined =
      ap (live_entries x) joins.place ∙ filter-append (is_live_at x) joins.front (beginning ∷ joins.back)
      ∙ ap (λ (entries : List Entry). live_front ++ entries) (filter_keeps (is_live_at x) beginning joins.back (is_live_at-before x beginning some))

  pub IsSortedAt-joins : (later : ℤ) → x ≤ℤ later → NoneCrossAmong (live_entries x after) → IsSortedAt later (live_entries later after)
  IsSortedAt-joins later onwards apart =
      let whole : IsSortedAt x (live_entries x after) =
      subst (IsSortedAt x) (sym joined)
      (IsSortedAt-begun x live_front live_back beginning begins some (subst (IsSortedAt x) parts is) joins.below joins.above (subst NoneCrossAmong joined apart)) in
      subst (IsSortedAt later) (sym (live-without x later onwards (Without-filter (is_live_at x) after)))
      (IsSortedAt-later x later onwards (live_entries x after) whole apart)
