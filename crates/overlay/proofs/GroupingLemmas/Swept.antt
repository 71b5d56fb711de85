-- A sweep over the sides of rings: what it finds below the holes that begin with them.
use Rattle.std.proofs.Common.{◌≡◌, ◌≢◌, ◌⊎◌, inl, inr, ◌<◌, ◌≤◌, ◌+◌, ◌++◌, [], ◌∷◌, ℕ, zero, suc, ℤ, ◌≤ℤ◌, Bool, true, false, cond, List, Option, Some, None, get_or, length, set, refl, ap, sym, subst, subst₂, ◌∙◌, arith}
use Rattle.std.specs.List.{All, Contains, flat_map}
use Rattle.std.specs.Ordering.{int_eq}
use Rattle.std.proofs.lemmas.Bool.{cases_lt}
use Rattle.std.proofs.lemmas.Int.{ints}
use Rattle.std.proofs.lemmas.List.{get_or-map, get_or-set_other, get_or-set_same, get_or_default, length-map, length-set}
use Rattle.std.proofs.lemmas.List.Elements.{All-contains, Contains-get_or}
use Rattle.std.proofs.lemmas.List.Sorted.{Contains-permutation}
use Rattle.i_tree.specs.Root.Along.{IsLast}
use Rattle.i_tree.proofs.RootLemmas.Joined.{AllPairs-across, AllPairs-behind}
use Rattle.i_tree.proofs.RootLemmas.Lists.{Contains-here, Contains-there}
use Rattle.plane.specs.declared.edge.Edge.{Edge}
use Rattle.plane.specs.declared.point.Point.{Point}
use Rattle.plane.specs.SweepLine.Active.{Entry, live_entries}
use Rattle.plane.specs.SweepLine.Heights.{rightwards}
use Rattle.plane.specs.SweepLine.Line.{IsSortedAt, JoinsAt, NoneCrossAmong}
use Rattle.overlay.specs.Contours.Rings.{ring_edges}
use Rattle.overlay.specs.Fill.Begins.{BeginsUpto}
use Rattle.overlay.specs.Fill.Counts.{is_lower_on, is_over}
use Rattle.overlay.specs.Fill.Filled.{AreDistinct, AreNoded, HaveSameEnds}
use Rattle.overlay.specs.Fill.Sweep.{AreFillPieces}
use Rattle.overlay.specs.Fill.Turned.{piece_of, turned}
use Rattle.overlay.specs.Grouping.{AreFirsts, AreSides, AreTold, IsBelow, IsFirstOf, IsHoleOf, IsSideOf, IsTold, IsUntold, firsts_of, no_side, pieces_of, side_found}
use Rattle.overlay.specs.declared.fill.pieces.Operand.TheVariants.{Subject}
use Rattle.overlay.specs.declared.fill.pieces.Piece.{Piece}
use Rattle.overlay.specs.declared.grouping.holes.Hole.{Hole}
use Rattle.overlay.specs.declared.grouping.sides.Side.{Side}
use Rattle.overlay.proofs.FillLemmas.Kept.{same-exchanged}
use Rattle.overlay.proofs.FillLemmas.Order.{lower-asym, lower-irrefl}
use Rattle.overlay.proofs.FillLemmas.Tests.{over_is}
use Rattle.overlay.proofs.GroupingLemmas.Bags.{Contains-in_flat_map}
use Rattle.overlay.proofs.GroupingLemmas.Highest.{side-among, side-edge, side-right, sides-meet}
use Rattle.overlay.proofs.GroupingLemmas.Homes.{first-side, untold-of}
use Rattle.overlay.proofs.GroupingLemmas.Sweep.{HasCome, side-piece, side-within}
use Rattle.overlay.proofs.GroupingLemmas.Told.{first-at}
use Rattle.overlay.proofs.KeptLemmas.Begun.{HasBegun, HasBegun-more, begins_upto, entry_at, piece_at}
use Rattle.overlay.proofs.KeptLemmas.Below.{NotAbove, found_of, highest, none-lower, p_lower, p_over}
use Rattle.overlay.proofs.KeptLemmas.First.{turned-same, turned-sloped}
use Rattle.overlay.proofs.PieceLemmas.Edges.{equal}
use Rattle.overlay.proofs.PieceLemmas.Made.{alike}

-- ---- the edges of rings among their sides

-- one that isn't vertical has a piece
turned-has : (edges : List Edge) (edge : Edge) → Contains edges edge → edge.x0 ≢ edge.x1 → Contains (turned Subject edges) (piece_of Subject edge)
turned-has [] edge (k, within, is) sloped = absurd (omega (arith, within))
turned-has (first ∷ edges) edge (zero, within, is) sloped = by (int_eq first.x0 first.x1) refl
  where
    by : (t : Bool) → int_eq first.x0 first.x1 ≡ t → Contains (cond t (turned Subject edges) (piece_of Subject first ∷ turned Subject edges)) (piece_of Subject edge)
    by false e = subst (λ (one : Edge). Contains (piece_of Subject first ∷ turned Subject edges) (piece_of Subject one)) is (Contains-here (piece_of Subject first) (turned Subject edges))
    by true e = absurd (subst (λ (one : Edge). one.x0 ≢ one.x1) (sym is) sloped (equal first.x0 first.x1 e))
turned-has (first ∷ edges) edge (suc k, within, is) sloped = by (int_eq first.x0 first.x1) (turned-has edges edge (k, omega (arith, within), is) sloped)
  where
    by : (t : Bool) → Contains (turned Subject edges) (piece_of Subject edge) → Contains (cond t (turned Subject edges) (piece_of Subject first ∷ turned Subject edges)) (piece_of Subject edge)
    by true later = later
    by false later = Contains-there (piece_of Subject first) (turned Subject edges) (piece_of Subject edge) later

-- edges of distinct ones with the same ends are of one ring
pub one-ring : (rings : List (List Point)) → AreDistinct (flat_map ring_edges rings) → (a b : ℕ) → a < b → b < length rings → (one other : Edge) → Contains (ring_edges (get_or rings a [])) one → Contains (ring_edges (get_or rings b [])) other
    → ¬ (HaveSameEnds one other)
one-ring [] distinct a b less within one other first second = absurd (omega (arith, within))
one-ring (ring ∷ rings) distinct zero zero less within one other first second = absurd (omega (arith, less))
one-ring (ring ∷ rings) distinct zero (suc b) less within one other first second =
    All-contains (λ (e : Edge). ¬ (HaveSameEnds one e)) (flat_map ring_edges rings) other
    (All-contains (λ (e : Edge). All (λ (later : Edge). ¬ (HaveSameEnds e later)) (flat_map ring_edges rings)) (ring_edges ring) one (AllPairs-across (λ (e later : Edge). ¬ (HaveSameEnds e later)) (ring_edges ring) (flat_map ring_edges rings) distinct) first)
    (Contains-in_flat_map ring_edges rings (get_or rings b []) other (Contains-get_or rings b [] (omega (arith, within))) second)
one-ring (ring ∷ rings) distinct (suc a) zero less within one other first second = absurd (omega (arith, less))
one-ring (ring ∷ rings) distinct (suc a) (suc b) less within one other first second =
    one-ring rings (AllPairs-behind (λ (e later : Edge). ¬ (HaveSameEnds e later)) (ring_edges ring) (flat_map ring_edges rings) distinct) a b (omega (arith, less)) (omega (arith, within)) one other first second

-- ---- one side

module _ (rings : List (List Point)) (sides : List Side) (are : AreSides rings sides) (fill : AreFillPieces (pieces_of sides)) (k : ℕ) (inside : k < length sides) (stored : List Entry) (come : HasCome (pieces_of sides) k stored) (after : List Entry)
    (joins : JoinsAt (piece_at (pieces_of sides) k).edge.x0 (entry_at (pieces_of sides) k) stored after)
    (sorted : (later : ℤ) → (piece_at (pieces_of sides) k).edge.x0 ≤ℤ later → NoneCrossAmong (live_entries (piece_at (pieces_of sides) k).edge.x0 after) → IsSortedAt later (live_entries later after)) where
  abbrev pieces : List Piece
  pieces = pieces_of sides

  abbrev g : Edge
  g = (piece_at pieces k).edge

  within : k < length pieces
  within = side-within sides k inside

  upto : come.x ≤ℤ g.x0
  upto = come.upto within

  more : HasBegun pieces (k + 1) g.x0 after
  more = HasBegun-more pieces fill k within come.x upto stored come.begun after joins sorted

  -- the piece of an edge
  piece-held : (edge : Edge) → Contains (flat_map ring_edges rings) edge → edge.x0 ≢ edge.x1 → Contains pieces (piece_of Subject edge)
  piece-held edge held sloped = Contains-permutation (turned Subject (flat_map ring_edges rings)) pieces (piece_of Subject edge) are.pieces (turned-has (flat_map ring_edges rings) edge held sloped)

  over-sloped : (edge : Edge) → is_over g.x0 (rightwards edge) ≡ true → edge.x0 ≢ edge.x1
  over-sloped edge over =
      let (from, before) = over_is g.x0 (rightwards edge) over in
      (λ same. turned-sloped edge (omega (arith, ints, from, before)) (sym same))

  -- the hole that begins with the side, and what was found
  module _ (hole : Hole) (of : IsSideOf rings hole.first) (is : hole.first.piece.edge ≡ g) where
    with-none : All (λ entry. ¬ (NotAbove (entry_at pieces k).0 entry)) (live_entries g.x0 stored) → IsHoleOf rings (record { first = hole.first; below = None }) × IsTold (flat_map ring_edges rings) (record { first = hole.first; below = None })
    with-none all = (
      record { first = of; below = tt },
      λ edge held below. absurd
          (let over = subst (λ (e : Edge). is_over e.x0 (rightwards edge) ≡ true) is below.over in
          let lower = subst (λ (e : Edge). is_lower_on e.x0 (rightwards edge) e ≡ true) is below.lower in
          none-lower pieces fill k within come.x upto stored come.begun after joins more all (piece_of Subject edge) (piece-held edge held (over-sloped edge over)) over lower),
    )

    module _ (entry : Entry) (front back : List Entry) (parts : live_entries g.x0 stored ≡ front ++ entry ∷ back) (last : NotAbove (entry_at pieces k).0 entry) (others : All (λ one. ¬ (NotAbove (entry_at pieces k).0 one)) back) where
      abbrev i : ℕ
      i = entry.0.place

      abbrev side : Side
      side = get_or sides i no_side

      i-before : i < length sides
      i-before = let less = (found_of pieces fill k within come.x upto stored come.begun after joins more entry front back parts last others).below in omega (arith, less, inside)

      side-of : IsSideOf rings side
      side-of = are.of i no_side i-before

      same : side.piece ≡ piece_at pieces i
      same = side-piece sides i i-before

      with-some : IsHoleOf rings (record { first = hole.first; below = Some side }) × IsTold (flat_map ring_edges rings) (record { first = hole.first; below = Some side })
      with-some = (record { first = of; below = (side-of, is_below) }, told)
        where
          is_below : IsBelow hole.first.piece.edge side.piece.edge
          is_below = record {
            over = subst₂ (λ (e p : Edge). is_over e.x0 p ≡ true) (sym is) (sym (ap (λ (piece : Piece). piece.edge) same)) (p_over pieces fill k within come.x upto stored come.begun after joins more entry front back parts last others);
            lower = subst₂ (λ (e p : Edge). is_lower_on e.x0 p e ≡ true) (sym is) (sym (ap (λ (piece : Piece). piece.edge) same)) (p_lower pieces fill k within come.x upto stored come.begun after joins more entry front back parts last others);
          }

          not-above : (edge : Edge) → (piece_of Subject edge ≡ piece_at pieces i) ⊎ (is_lower_on g.x0 (rightwards edge) (piece_at pieces i).edge ≡ true) → is_lower_on g.x0 (piece_at pieces i).edge (rightwards edge) ≡ false
          not-above edge (inl level) = subst (λ (e : Edge). is_lower_on g.x0 (piece_at pieces i).edge e ≡ false) (sym (ap (λ (piece : Piece). piece.edge) level)) (lower-irrefl g.x0 (piece_at pieces i).edge)
          not-above edge (inr lower) = lower-asym g.x0 (rightwards edge) (piece_at pieces i).edge lower

          told : IsTold (flat_map ring_edges rings) (record { first = hole.first; below = Some side })
          told edge held below =
              let over = subst (λ (e : Edge). is_over e.x0 (rightwards edge) ≡ true) is below.over in
              let lower = subst (λ (e : Edge). is_lower_on e.x0 (rightwards edge) e ≡ true) is below.lower in
              let most = highest pieces fill k within come.x upto stored come.begun after joins more entry front back parts last others (piece_of Subject edge) (piece-held edge held (over-sloped edge over)) over lower in
              (side, refl, subst₂ (λ (e p : Edge). is_lower_on e.x0 p (rightwards edge) ≡ false) (sym is) (sym (ap (λ (piece : Piece). piece.edge) same)) (not-above edge most))

    pub with-found : (found : Option Entry) → IsLast (NotAbove (entry_at pieces k).0) (live_entries g.x0 stored) found
        → IsHoleOf rings (record { first = hole.first; below = side_found sides found }) × IsTold (flat_map ring_edges rings) (record { first = hole.first; below = side_found sides found })
    with-found None all = with-none all
    with-found (Some entry) (front, back, parts, last, others) = with-some entry front back parts last others

-- ---- the holes in turn

abbrev told_hole : Hole → Option Side → Hole
told_hole hole below = record { first = hole.first; below = below }

-- The holes before the next one have been told, and the others begin with later sides.
pub record HasSweptOf (rings : List (List Point)) (sides : List Side) (place next : ℕ) (now : List Hole) : Type 0 where
  pub of : All (IsHoleOf rings) now
  pub told : (k : ℕ) (d : Hole) → k < next → k < length now → IsTold (flat_map ring_edges rings) (get_or now k d)
  pub later : (k : ℕ) (d : Hole) → next ≤ k → k < length now → (p : ℕ) × (place ≤ p) × (p < length sides) × ((get_or sides p no_side).piece.edge ≡ (get_or now k d).first.piece.edge)

-- What a sweep over the sides of rings starts from.
pub record IsReady (rings : List (List Point)) (sides : List Side) (old : List Hole) : Type 0 where
  pub are : AreSides rings sides
  pub noded : AreNoded (flat_map ring_edges rings)
  pub distinct : AreDistinct (flat_map ring_edges rings)
  pub firsts : AreFirsts rings (firsts_of old)
  pub untold : All IsUntold old

-- Whatever rings they are of.
pub record HasSwept (sides : List Side) (old : List Hole) (place next : ℕ) (now : List Hole) : Type 0 where
  pub next_within : next ≤ length now
  pub same : firsts_of now ≡ firsts_of old
  pub has : (rings : List (List Point)) → IsReady rings sides old → HasSweptOf rings sides place next now

module _ (rings : List (List Point)) (sides : List Side) (old : List Hole) (ready : IsReady rings sides old) where
  first-at-old : (now : List Hole) → firsts_of now ≡ firsts_of old → (k : ℕ) (d : Hole) → k < length now → (IsFirstOf rings (get_or now k d).first) × (k < length (firsts_of old)) × (get_or (firsts_of old) k no_side ≡ (get_or now k d).first)
  first-at-old now same k d within =
      let size = length-map now (λ (hole : Hole). hole.first) in
      let sizes = ap (λ (list : List Side). length list) same in
      let inside : k < length (firsts_of old) = omega (arith, within, size, sizes) in
      let at : get_or (firsts_of old) k no_side ≡ (get_or now k d).first = ap (λ (list : List Side). get_or list k no_side) (sym same) ∙ first-at now k d no_side within in
      (subst (IsFirstOf rings) at (ready.firsts.all.of k no_side inside), inside, at)

  -- each first side is one of the sides
  side-place : (first : Side) → IsFirstOf rings first → (p : ℕ) × (p < length sides) × ((get_or sides p no_side).piece.edge ≡ first.piece.edge)
  side-place first is =
      let of = first-side rings first is in
      let held = turned-has (flat_map ring_edges rings) of.edge (side-among rings first of) of.sloped in
      let (p, within, at) = Contains-permutation (turned Subject (flat_map ring_edges rings)) (pieces_of sides) (piece_of Subject of.edge) ready.are.pieces held in
      let size = length-map sides (λ (side : Side). side.piece) in
      let inside : p < length sides = omega (arith, size, within) in (
        p,
        inside,
        ap (λ (piece : Piece). piece.edge) (sym (get_or-map (λ (side : Side). side.piece) sides p no_side (piece_of Subject of.edge) inside) ∙ at ∙ sym of.is),
      )

  swept-none-of : HasSweptOf rings sides 0 0 old
  swept-none-of = record {
    of = untold-of rings old ready.firsts.all.of ready.untold;
    told = λ k d before. absurd (omega (arith, before));
    later = λ k d from within.
        (let (p, inside, same) = side-place (get_or old k d).first (first-at-old old refl k d within).0 in
        (p, omega arith, inside, same));
  }

  module _ (fill : AreFillPieces (pieces_of sides)) (place next : ℕ) (inside : place < length sides) (now : List Hole) (same : firsts_of now ≡ firsts_of old) (has : HasSweptOf rings sides place next now) where
    abbrev edge : Edge
    edge = (get_or sides place no_side).piece.edge

    edge-at : edge ≡ (piece_at (pieces_of sides) place).edge
    edge-at = ap (λ (piece : Piece). piece.edge) (side-piece sides place inside)

    -- a hole that begins with a side from this one on, and not with this one
    next-place : (k : ℕ) (d : Hole) → (edge ≢ (get_or now k d).first.piece.edge) → (p : ℕ) × (place ≤ p) × (p < length sides) × ((get_or sides p no_side).piece.edge ≡ (get_or now k d).first.piece.edge)
        → (p : ℕ) × (place + 1 ≤ p) × (p < length sides) × ((get_or sides p no_side).piece.edge ≡ (get_or now k d).first.piece.edge)
    next-place k d differ (p, from, within, at) = elim (cases_lt place p) [
      | inl less ↦ (p, omega (arith, less), within, at)
      | inr upto ↦ (let level : p ≡ place = omega (arith, from, upto) in absurd (differ (ap (λ (n : ℕ). (get_or sides n no_side).piece.edge) (sym level) ∙ at)))
    ]

    -- two holes begin with different sides
    differ-firsts : (i j : ℕ) (d : Hole) → i < j → j < length now → (get_or now i d).first.piece.edge ≢ (get_or now j d).first.piece.edge
    differ-firsts i j d less within level =
        let (is, inside_i, at) = first-at-old now same i d (omega (arith, less, within)) in
        let (is_too, inside_j, at_too) = first-at-old now same j d within in
        let of = first-side rings (get_or now i d).first is in
        let of_too = first-side rings (get_or now j d).first is_too in
        let ends = turned-same of.edge of_too.edge (sym (side-edge rings (get_or now i d).first of) ∙ level ∙ side-edge rings (get_or now j d).first of_too) in
        let apart : (get_or now i d).first.ring ≢ (get_or now j d).first.ring = subst₂ (λ (one other : Side). one.ring ≢ other.ring) at at_too (ready.firsts.all.apart i j no_side less inside_j) in
        elim (cases_lt (get_or now i d).first.ring (get_or now j d).first.ring) [
          | inl before ↦ one-ring rings ready.distinct (get_or now i d).first.ring (get_or now j d).first.ring before of_too.within of.edge of_too.edge of.among of_too.among ends
          | inr from ↦ elim (cases_lt (get_or now j d).first.ring (get_or now i d).first.ring) [
            | inl behind ↦ one-ring rings ready.distinct (get_or now j d).first.ring (get_or now i d).first.ring behind of.within of_too.edge of.edge of_too.among of.among (same-exchanged of.edge of_too.edge ends)
            | inr upto ↦ apart (omega (arith, from, upto))
          ]
        ]

    -- the next hole begins with this side
    swept-told-of : (d : Hole) → next < length now → (get_or now next d).first.piece.edge ≡ edge → (below : Option Side) → IsHoleOf rings (record { first = (get_or now next d).first; below = below })
        → IsTold (flat_map ring_edges rings) (record { first = (get_or now next d).first; below = below }) → HasSweptOf rings sides (place + 1) (next + 1) (set now next (record { first = (get_or now next d).first; below = below }))
    swept-told-of d within is below of told = record {
      of = λ k e less. at-each (IsHoleOf rings) of has.of k e (let size = length-set now next (told_hole (get_or now next d) below) in omega (arith, size, less));
      told = λ k e before less. (elim (cases_lt k next) [
        | inl earlier ↦ subst (IsTold (flat_map ring_edges rings)) (sym (get_or-set_other now next k (told_hole (get_or now next d) below) e (λ level. omega (arith, earlier, level)))) (has.told k e earlier (let size = length-set now next (told_hole (get_or now next d) below) in omega (arith, size, less)))
        | inr from ↦ (
            let level : next ≡ k = omega (arith, before, from) in
            subst (λ (n : ℕ). IsTold (flat_map ring_edges rings) (get_or (set now next (told_hole (get_or now next d) below)) n e)) level
            (subst (IsTold (flat_map ring_edges rings)) (sym (get_or-set_same now next (told_hole (get_or now next d) below) e within)) told))
      ]);
      later = λ k e from less.
          (let inside_k : k < length now = (let size = length-set now next (told_hole (get_or now next d) below) in omega (arith, size, less)) in
          let other = get_or-set_other now next k (told_hole (get_or now next d) below) e (λ level. omega (arith, from, level)) in
          subst (λ (hole : Hole). (p : ℕ) × (place + 1 ≤ p) × (p < length sides) × ((get_or sides p no_side).piece.edge ≡ hole.first.piece.edge)) (sym other)
          (next-place k e (λ level. differ-firsts next k e (omega (arith, from)) inside_k (ap (λ (hole : Hole). hole.first.piece.edge) (get_or_default now next e d within) ∙ is ∙ level)) (has.later k e (omega (arith, from)) inside_k)));
    }
      where
        at-each : (P : Hole → Type 0) → P (told_hole (get_or now next d) below) → All P now → (k : ℕ) (e : Hole) → k < length now → P (get_or (set now next (told_hole (get_or now next d) below)) k e)
        at-each P first all k e inside_k = elim (cases_lt k next) [
          | inl less ↦ subst P (sym (get_or-set_other now next k (told_hole (get_or now next d) below) e (λ level. omega (arith, less, level)))) (all k e inside_k)
          | inr from ↦ elim (cases_lt next k) [
            | inl more ↦ subst P (sym (get_or-set_other now next k (told_hole (get_or now next d) below) e (λ level. omega (arith, more, level)))) (all k e inside_k)
            | inr upto ↦ (
                let level : next ≡ k = omega (arith, from, upto) in
                subst (λ (n : ℕ). P (get_or (set now next (told_hole (get_or now next d) below)) n e)) level (subst P (sym (get_or-set_same now next (told_hole (get_or now next d) below) e within)) first))
          ]
        ]

    -- none does
    swept-past-of : ((d : Hole) → next < length now → (get_or now next d).first.piece.edge ≢ edge) → HasSweptOf rings sides (place + 1) next now
    swept-past-of differ = record {
      of = has.of;
      told = has.told;
      later = λ k d from within. next-place k d (never-here k d from within) (has.later k d from within);
    }
      where
        -- the next one begins behind this side, and so a later one doesn't begin with it
        behind : (k : ℕ) (d : Hole) → next < k → k < length now → edge ≡ (get_or now k d).first.piece.edge → ⊥
        behind k d less within level =
            let within_next : next < length now = omega (arith, less, within) in
            let one = (get_or now next d).first in
            let other = (get_or now k d).first in
            let (is, inside_next, at) = first-at-old now same next d within_next in
            let (is_too, inside_k, at_too) = first-at-old now same k d within in
            let of = first-side rings one is in
            let of_too = first-side rings other is_too in
            let sizes = length-map (firsts_of old) (λ (side : Side). side.piece) in
            let order : BeginsUpto one.piece.edge other.piece.edge =
            subst₂ (λ (a b : Side). BeginsUpto a.piece.edge b.piece.edge) at at_too
            (subst₂ (λ (a b : Piece). BeginsUpto a.edge b.edge) (get_or-map (λ (side : Side). side.piece) (firsts_of old) next no_side no_side.piece inside_next) (get_or-map (λ (side : Side). side.piece) (firsts_of old) k no_side no_side.piece inside_k)
            (ready.firsts.order next k no_side.piece less (omega (arith, sizes, inside_k)))) in
            let (p, from_p, within_p, at_p) = next-place next d (λ same_edge. differ d within_next (sym same_edge)) (has.later next d (omega arith) within_next) in
            let back : BeginsUpto other.piece.edge one.piece.edge =
            subst₂ BeginsUpto (sym edge-at ∙ level) (sym (ap (λ (piece : Piece). piece.edge) (side-piece sides p within_p)) ∙ at_p) (begins_upto (pieces_of sides) fill place p (omega (arith, from_p)) (side-within sides p within_p)) in
            differ d within_next (alike one.piece.edge other.piece.edge (sides-meet rings one other ready.noded of of_too) (side-right rings one of) (side-right rings other of_too) order back ∙ sym level)

        never-here : (k : ℕ) (d : Hole) → next ≤ k → k < length now → edge ≢ (get_or now k d).first.piece.edge
        never-here k d from within level = elim (cases_lt next k) [
          | inl less ↦ behind k d less within level
          | inr upto ↦ (
              let here : next ≡ k = omega (arith, from, upto) in
              differ d (omega (arith, here, within)) (ap (λ (n : ℕ). (get_or now n d).first.piece.edge) here ∙ sym level))
        ]

-- ---- whatever rings they are of

pub swept-none : (sides : List Side) (old : List Hole) → HasSwept sides old 0 0 old
swept-none sides old = record { next_within = omega arith; same = refl; has = λ rings ready. swept-none-of rings sides old ready }

module _ (sides : List Side) (old : List Hole) (fill : AreFillPieces (pieces_of sides)) (place next : ℕ) (inside : place < length sides) (now : List Hole) (swept : HasSwept sides old place next now) where
  pub swept-past : ((d : Hole) → next < length now → (get_or now next d).first.piece.edge ≢ (get_or sides place no_side).piece.edge) → HasSwept sides old (place + 1) next now
  swept-past differ = record {
    next_within = swept.next_within;
    same = swept.same;
    has = λ rings ready. swept-past-of rings sides old ready fill place next inside now swept.same (swept.has rings ready) differ;
  }

  -- what is told of the next hole
  module _ (d : Hole) (within : next < length now) (is : (get_or now next d).first.piece.edge ≡ (get_or sides place no_side).piece.edge) (stored after : List Entry) (come : HasCome (pieces_of sides) place stored)
      (joins : JoinsAt (piece_at (pieces_of sides) place).edge.x0 (entry_at (pieces_of sides) place) stored after)
      (sorted : (later : ℤ) → (piece_at (pieces_of sides) place).edge.x0 ≤ℤ later → NoneCrossAmong (live_entries (piece_at (pieces_of sides) place).edge.x0 after) → IsSortedAt later (live_entries later after))
      (found : Option Entry) (last : IsLast (NotAbove (entry_at (pieces_of sides) place).0) (live_entries (piece_at (pieces_of sides) place).edge.x0 stored) found) where
    pub swept-told : HasSwept sides old (place + 1) (next + 1) (set now next (record { first = (get_or now next d).first; below = side_found sides found }))
    swept-told = record {
      next_within = let size = length-set now next (record { first = (get_or now next d).first; below = side_found sides found }) in omega (arith, size, within);
      same = firsts-set now next d within (side_found sides found) ∙ swept.same;
      has = λ rings ready.
          (let hole = get_or now next d in
          let of = first-side rings hole.first (first-at-old rings sides old ready now swept.same next d within).0 in
          let (of_it, told) = with-found rings sides ready.are fill place inside stored come after joins sorted hole of (is ∙ ap (λ (piece : Piece). piece.edge) (side-piece sides place inside)) found last in
          swept-told-of rings sides old ready fill place next inside now swept.same (swept.has rings ready) d within is (side_found sides found) of_it told);
    }
      where
        firsts-set : (holes : List Hole) (k : ℕ) (e : Hole) → k < length holes → (below : Option Side) → firsts_of (set holes k (record { first = (get_or holes k e).first; below = below })) ≡ firsts_of holes
        firsts-set [] k e inside_k below = absurd (omega (arith, inside_k))
        firsts-set (hole ∷ holes) zero e inside_k below = refl
        firsts-set (hole ∷ holes) (suc k) e inside_k below = ap (λ (sides : List Side). hole.first ∷ sides) (firsts-set holes k e (omega (arith, inside_k)) below)

-- at the end all are told
pub swept-all : (rings : List (List Point)) (sides : List Side) (old : List Hole) (place next : ℕ) (now : List Hole) → length sides ≤ place → HasSwept sides old place next now → IsReady rings sides old → AreTold rings (firsts_of old) now
swept-all rings sides old place next now past swept ready = record {
  same = swept.same;
  of = (swept.has rings ready).of;
  told = λ k d within. (elim (cases_lt k next) [
    | inl before ↦ (swept.has rings ready).told k d before within
    | inr from ↦ (let (p, from_p, within_p, at) = (swept.has rings ready).later k d from within in absurd (omega (arith, past, from_p, within_p)))
  ]);
}
