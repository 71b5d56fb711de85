-- The line of the sweep goes on to a later x, at or before which no edge of it ends.
use Rattle.std.proofs.Common.{◌≡◌, ℤ, pos, ◌≤ℤ◌, ◌<ℤ◌, List, arith, subst}
use Rattle.std.specs.List.{All, AllPairs}
use Rattle.std.specs.declared.cmp.Ordering.TheVariants.{Less}
use Rattle.std.proofs.lemmas.Int.{ints, by_lt_z}
use Rattle.plane.specs.declared.edge.Edge.{Edge}
use Rattle.plane.specs.SweepLine.Crossings.{Cross}
use Rattle.plane.specs.SweepLine.Heights.{run}
use Rattle.plane.specs.SweepLine.Active.{Entry, common_start, cmp_active}
use Rattle.plane.proofs.SweepLineLemmas.Adjacent.{Adjacent-weaker, AllPairs-from_adjacent}
use Rattle.plane.specs.SweepLine.Line.{IsLineAt}
use Rattle.plane.specs.SweepLine.Heights.{IsUpto}
use Rattle.plane.proofs.SweepLineLemmas.Order.{common_end, never_above, upto-trans}
use Rattle.plane.proofs.SweepLineLemmas.Uncrossed.{max_before, min_behind}

-- an edge that goes to the right has a run
pub some_run : (edge : Edge) → edge.x0 <ℤ edge.x1 → pos 0 <ℤ run edge
some_run edge some = omega (arith, ints, some)

module _ (x later : ℤ) (before : x <ℤ later) where
  -- the edge goes to the right, has begun by x and hasn't ended before the later x
  abbrev Reaches : Entry → Type 0
  Reaches entry = (entry.0.edge.x0 <ℤ entry.0.edge.x1) × (entry.0.edge.x0 ≤ℤ x) × (later ≤ℤ entry.0.edge.x1)

  abbrev Uncrossed : Entry → Entry → Type 0
  Uncrossed one other = x <ℤ one.0.edge.x1 → x <ℤ other.0.edge.x1 → ¬ (Cross one.0.edge other.0.edge)

  abbrev UptoLater : Entry → Entry → Type 0
  UptoLater one other = IsUpto one.0.edge other.0.edge later

  next_upto : (one other : Entry) → Reaches one → Reaches other → cmp_active one.0 other.0 ≡ Less → Uncrossed one other → UptoLater one other
  next_upto one other reaches reaches_too stands apart =
      let start : common_start one.0 other.0 ≤ℤ later = max_before one.0.edge.x0 other.0.edge.x0 later (omega (arith, ints, before, reaches.1)) (omega (arith, ints, before, reaches_too.1)) in
      let end : later ≤ℤ common_end one.0 other.0 = min_behind one.0.edge.x1 other.0.edge.x1 later reaches.2 reaches_too.2 in
      never_above one.0 other.0 reaches.0 reaches_too.0 (omega (arith, ints, start, end)) stands
      (apart (omega (arith, ints, before, reaches.2)) (omega (arith, ints, before, reaches_too.2)))
      later start end

  upto_trans : (one second third : Entry) → Reaches one → Reaches second → Reaches third → UptoLater one second → UptoLater second third → UptoLater one third
  upto_trans one second third reaches reaches_too reaches_three first last =
      upto-trans one.0.edge second.0.edge third.0.edge later (some_run one.0.edge reaches.0) (some_run second.0.edge reaches_too.0) (some_run third.0.edge reaches_three.0) first last

  module _ (line : List Entry) (upto : All (λ entry. later ≤ℤ entry.0.edge.x1) line) (is : IsLineAt x line) where
    all_reach : All Reaches line
    all_reach k d inside = (is.onwards k d inside, (is.spans k d inside).0, upto k d inside)

    sorted_later : AllPairs UptoLater line
    sorted_later =
        AllPairs-from_adjacent Reaches UptoLater upto_trans line all_reach
        (Adjacent-weaker Reaches (λ one other. cmp_active one.0 other.0 ≡ Less) Uncrossed UptoLater next_upto line all_reach is.order is.adjacent)

    advanced : IsLineAt later line
    advanced = record {
      onwards = is.onwards;
      spans = λ k d inside. let reaches = all_reach k d inside in (omega (arith, ints, before, reaches.1), reaches.2);
      order = is.order;
      sorted = sorted_later;
      adjacent = Adjacent-weaker Reaches (λ one other. cmp_active one.0 other.0 ≡ Less) Uncrossed
          (λ one other. later <ℤ one.0.edge.x1 → later <ℤ other.0.edge.x1 → ¬ (Cross one.0.edge other.0.edge))
          (λ one other reaches reaches_too stands apart lives lives_too. apart (omega (arith, ints, before, lives)) (omega (arith, ints, before, lives_too)))
          line all_reach is.order is.adjacent;
    }

pub advance : (x later : ℤ) (line : List Entry) → x ≤ℤ later → All (λ entry. later ≤ℤ entry.0.edge.x1) line → IsLineAt x line → IsLineAt later line
advance x later line onwards upto is =
    by_lt_z x later
    (λ before. advanced x later before line upto is)
    (λ behind.
    let same : x ≡ later = omega (arith, ints, onwards, behind) in
    subst (λ (z : ℤ). IsLineAt z line) same is)
