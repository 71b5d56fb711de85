-- Holes in the order in which they begin, and the homes that they get.
use Rattle.std.proofs.Common.{◌≡◌, ◌≢◌, ◌⊎◌, inl, inr, ◌<◌, ◌+◌, ◌++◌, [], ◌∷◌, ℕ, ℤ, ◌≤ℤ◌, Bool, true, false, cond, List, Option, Some, None, get_or, length, map, replicate, set, refl, ap, ap₂, sym, subst, subst₂, ◌∙◌, arith}
use Rattle.std.specs.Cmp.{IsStrictWeakOrder}
use Rattle.std.specs.List.{All, Contains, flat_map}
use Rattle.std.specs.List.Sorted.{IsPermutation, IsSortedBy}
use Rattle.std.specs.Prelude.{IfSome}
use Rattle.std.proofs.lemmas.Bool.{cases_lt}
use Rattle.std.proofs.lemmas.Int.{ints}
use Rattle.std.proofs.lemmas.List.{get_or-map, get_or-replicate, get_or-set_other, get_or-set_same, get_or_default, length-map, length-replicate, length-set, map-append}
use Rattle.std.proofs.lemmas.List.Elements.{All-append, All-cons, All-contains, All-nil, All-weaker, Contains-append_left, Contains-append_right}
use Rattle.std.proofs.lemmas.List.Sorted.{All-permutation, Contains-permutation, IsPermutation-map}
use Rattle.i_tree.proofs.RootLemmas.Joined.{AllPairs-append}
use Rattle.i_tree.proofs.RootLemmas.Lists.{Contains-here}
use Rattle.plane.specs.declared.edge.Edge.{Edge}
use Rattle.plane.specs.declared.point.Point.{Point}
use Rattle.plane.specs.SweepLine.Heights.{rightwards}
use Rattle.plane.proofs.PairsLemmas.Bags.{AllPairs-permutation, Contains-from_map}
use Rattle.overlay.specs.Contours.Rings.{ring_edges}
use Rattle.overlay.specs.Fill.Begins.{BeginInOrder, BeginsUpto}
use Rattle.overlay.specs.Fill.Counts.{is_lower_on, is_over}
use Rattle.overlay.specs.Fill.Filled.{AreDistinct, AreNoded, HaveSameEnds}
use Rattle.overlay.specs.Fill.Turned.{piece_of}
use Rattle.overlay.specs.Grouping.{AreFirsts, AreFirstsUpto, AreHomes, AreInTurn, AreTold, IsBelow, IsFirstOf, IsHoleOf, IsOnlyOuter, IsSettled, IsSideOf, IsTold, IsUntold, ShareHomes, firsts_of, home_of, is_outer, no_side, pieces_of}
use Rattle.overlay.specs.Nesting.{IsNextBelow}
use Rattle.overlay.specs.Polygons.{first_sloped, is_counterclockwise}
use Rattle.overlay.specs.declared.fill.pieces.Operand.TheVariants.{Subject}
use Rattle.overlay.specs.declared.fill.pieces.Piece.{Piece}
use Rattle.overlay.specs.declared.grouping.holes.Hole.{Hole}
use Rattle.overlay.specs.declared.grouping.sides.Side.{Side}
use Rattle.overlay.proofs.FillLemmas.Kept.{same-exchanged}
use Rattle.overlay.proofs.FillLemmas.Level.{MeetOnly}
use Rattle.overlay.proofs.FillLemmas.Order.{lower-apart, lower-asym, lower-irrefl}
use Rattle.overlay.proofs.FillLemmas.Tests.{over_is}
use Rattle.overlay.proofs.GroupingLemmas.Bags.{Contains-flat_map}
use Rattle.overlay.proofs.GroupingLemmas.Begins.{IsFirst, Told, told-all}
use Rattle.overlay.proofs.GroupingLemmas.Highest.{same-or, side-among, side-edge, side-right, sides-meet}
use Rattle.overlay.proofs.GroupingLemmas.Told.{first-at, no_hole}
use Rattle.overlay.proofs.KeptLemmas.First.{turned-meet, turned-same}
use Rattle.overlay.proofs.PieceLemmas.Begins.{BeginsUpto-trans, begins_before, weak_order}
use Rattle.overlay.proofs.PieceLemmas.Made.{begins-lower, sorted-order}

never : true ≡ false → ⊥
never h = cc

-- ---- the first side of a ring

first-told : (edges : List Edge) (first : Edge) → first_sloped None edges ≡ Some first → IsFirst edges first
first-told edges first is = subst (Told edges) is (told-all edges)

module _ (rings : List (List Point)) (side : Side) (is : IsFirstOf rings side) where
  first-is : IsFirst (ring_edges (get_or rings side.ring [])) is.edge
  first-is = first-told (ring_edges (get_or rings side.ring [])) is.edge is.first

  -- it is a side of the ring
  pub first-side : IsSideOf rings side
  first-side = record { edge = is.edge; within = is.within; among = first-is.among; sloped = (λ same. first-is.sloped (sym same)); is = is.is }

  -- and no other begins before it
  pub first-begins : (other : Side) → IsSideOf rings other → other.ring ≡ side.ring → BeginsUpto side.piece.edge other.piece.edge
  unfolding first-side
  first-begins other of same =
      subst₂ BeginsUpto (sym (side-edge rings side first-side)) (sym (side-edge rings other of))
      (first-is.begins of.edge (subst (λ (n : ℕ). Contains (ring_edges (get_or rings n [])) of.edge) same of.among) (λ level. of.sloped (sym level)))

-- where nothing is found yet
pub untold-of : (rings : List (List Point)) (holes : List Hole) → All (IsFirstOf rings) (firsts_of holes) → All IsUntold holes → All (IsHoleOf rings) holes
untold-of rings holes firsts untold k d within = record {
  first = first-side rings (get_or holes k d).first (subst (IsFirstOf rings) (first-at holes k d no_side within) (firsts k no_side (let size = length-map holes (λ (hole : Hole). hole.first) in omega (arith, size, within))));
  below = subst (λ (below : Option Side). IfSome below (λ side. IsSideOf rings side × IsBelow (get_or holes k d).first.piece.edge side.piece.edge)) (sym (untold k d within)) tt;
}

-- the first side of a ring that is a hole
pub first-of-ring : (rings : List (List Point)) (ring : ℕ) (points : List Point) (side : Side) (edge : Edge) → ring < length rings → points ≡ get_or rings ring [] → is_counterclockwise points ≡ false → first_sloped None (ring_edges points) ≡ Some edge
    → side.ring ≡ ring → side.piece ≡ piece_of Subject edge → IsFirstOf rings side
first-of-ring rings ring points side edge within at clockwise first number piece =
    let same : points ≡ get_or rings side.ring [] = at ∙ ap (λ (n : ℕ). get_or rings n []) (sym number) in
    record {
      edge = edge;
      within = omega (arith, within, number);
      hole = ap is_counterclockwise (sym same) ∙ clockwise;
      first = ap (λ (list : List Point). first_sloped None (ring_edges list)) (sym same) ∙ first;
      is = piece;
    }

-- ---- holes in order

abbrev pub hole_before : Hole → Hole → Bool
hole_before one other = begins_before one.first.piece other.first.piece

pub hole_order : IsStrictWeakOrder hole_before
hole_order = record {
  one_way = λ one other told. weak_order.one_way one.first.piece other.first.piece told;
  chain = λ one other third first second. weak_order.chain one.first.piece other.first.piece third.first.piece first second;
}

pub holes-begin : (holes : List Hole) → IsSortedBy hole_before holes → BeginInOrder (pieces_of (firsts_of holes))
holes-begin holes up =
    sorted-order (pieces_of (firsts_of holes)) (λ k d from within.
    (let size = length-map (firsts_of holes) (λ (side : Side). side.piece) in
    let sizes = length-map holes (λ (hole : Hole). hole.first) in
    let at : (i : ℕ) → i < length holes → get_or (pieces_of (firsts_of holes)) i d ≡ (get_or holes i no_hole).first.piece =
    λ i inside. get_or-map (λ (side : Side). side.piece) (firsts_of holes) i no_side d (omega (arith, sizes, inside)) ∙ ap (λ (side : Side). side.piece) (first-at holes i no_hole no_side inside) in
    ap₂ (λ (one other : Piece). begins_before one other) (at (k + 1) (omega (arith, size, sizes, within))) (at k (omega (arith, size, sizes, within)))
    ∙ up k no_hole from (omega (arith, size, sizes, within))))

-- ---- one ring more

module _ (rings : List (List Point)) (ring : ℕ) (firsts : List Side) (are : AreFirstsUpto rings ring firsts) where
  below-more : (side : Side) → side.ring < ring → side.ring < ring + 1
  below-more side below = omega (arith, below)

  -- an outer one, or one without a side
  pub firsts-kept : ((edge : Edge) → is_counterclockwise (get_or rings ring []) ≡ false → first_sloped None (ring_edges (get_or rings ring [])) ≡ Some edge → ⊥) → AreFirstsUpto rings (ring + 1) firsts
  firsts-kept none = record {
    of = are.of;
    below = All-weaker (λ (side : Side). side.ring < ring) (λ side. side.ring < ring + 1) below-more firsts are.below;
    each = λ number edge less hole first. (elim (cases_lt number ring) [
      | inl before ↦ are.each number edge before hole first
      | inr from ↦ (
          let here : number ≡ ring = omega (arith, less, from) in
          absurd (none edge (subst (λ (n : ℕ). is_counterclockwise (get_or rings n []) ≡ false) here hole) (subst (λ (n : ℕ). first_sloped None (ring_edges (get_or rings n [])) ≡ Some edge) here first)))
    ]);
    apart = are.apart;
  }

  pub firsts-more : (side : Side) → side.ring ≡ ring → IsFirstOf rings side → AreFirstsUpto rings (ring + 1) (firsts ++ side ∷ [])
  firsts-more side same is = record {
    of = All-append (IsFirstOf rings) firsts (side ∷ []) are.of (All-cons (IsFirstOf rings) side [] is (All-nil (IsFirstOf rings)));
    below = All-append (λ (one : Side). one.ring < ring + 1) firsts (side ∷ []) (All-weaker (λ (one : Side). one.ring < ring) (λ one. one.ring < ring + 1) below-more firsts are.below)
        (All-cons (λ (one : Side). one.ring < ring + 1) side [] (omega (arith, same)) (All-nil (λ (one : Side). one.ring < ring + 1)));
    each = λ number edge less hole first. subst (λ (numbers : List ℕ). Contains numbers number) (sym (map-append (λ (one : Side). one.ring) firsts (side ∷ []))) (elim (cases_lt number ring) [
      | inl before ↦ Contains-append_left (map (λ (one : Side). one.ring) firsts) (side.ring ∷ []) number (are.each number edge before hole first)
      | inr from ↦ Contains-append_right (map (λ (one : Side). one.ring) firsts) (side.ring ∷ []) number
          (subst (λ (n : ℕ). Contains (side.ring ∷ []) n) (let here : side.ring ≡ number = omega (arith, same, less, from) in here) (Contains-here side.ring []))
    ]);
    apart = AllPairs-append (λ (one later : Side). one.ring ≢ later.ring) firsts (side ∷ []) are.apart (λ i j d before inside. absurd (omega (arith, before, inside)))
        (All-weaker (λ (one : Side). one.ring < ring) (λ one. All (λ (later : Side). one.ring ≢ later.ring) (side ∷ []))
        (λ one below. All-cons (λ (later : Side). one.ring ≢ later.ring) side [] (λ level. omega (arith, below, same, level)) (All-nil (λ (later : Side). one.ring ≢ later.ring))) firsts are.below);
  }

-- ---- holes in turn

module _ (rings : List (List Point)) (noded : AreNoded (flat_map ring_edges rings)) (firsts : List Side) (are : AreFirsts rings firsts) (holes : List Hole) (told : AreTold rings firsts holes) where
  size : length holes ≡ length firsts
  size = sym (length-map holes (λ (hole : Hole). hole.first)) ∙ ap (λ (sides : List Side). length sides) told.same

  first-of : (k : ℕ) (d : Hole) → k < length holes → get_or firsts k no_side ≡ (get_or holes k d).first
  first-of k d within = ap (λ (sides : List Side). get_or sides k no_side) (sym told.same) ∙ first-at holes k d no_side within

  is-first : (k : ℕ) (d : Hole) → k < length holes → IsFirstOf rings (get_or holes k d).first
  is-first k d within = subst (IsFirstOf rings) (first-of k d within) (are.all.of k no_side (let same = size in omega (arith, same, within)))

  -- of two holes the first one begins before the second, or as it does
  begin-order : (i j : ℕ) (d : Hole) → i < j → j < length holes → BeginsUpto (get_or holes i d).first.piece.edge (get_or holes j d).first.piece.edge
  begin-order i j d less within =
      let same = size in
      let within_firsts : j < length firsts = omega (arith, same, within) in
      let sizes = length-map firsts (λ (side : Side). side.piece) in
      subst₂ (λ (one other : Side). BeginsUpto one.piece.edge other.piece.edge) (first-of i d (omega (arith, less, within))) (first-of j d within)
      (subst₂ (λ (one other : Piece). BeginsUpto one.edge other.edge)
      (get_or-map (λ (side : Side). side.piece) firsts i no_side no_side.piece (omega (arith, less, within_firsts))) (get_or-map (λ (side : Side). side.piece) firsts j no_side no_side.piece within_firsts)
      (are.order i j no_side.piece less (omega (arith, sizes, within_firsts))))

  -- what is below a hole doesn't begin with it or later
  begins-before : (first side : Side) → IsSideOf rings first → IsSideOf rings side → IsBelow first.piece.edge side.piece.edge → ¬ (BeginsUpto first.piece.edge side.piece.edge)
  begins-before first side is of below upto =
      let span = over_is first.piece.edge.x0 side.piece.edge below.over in
      by (same-or first.piece.edge side.piece.edge) (x_level first.piece.edge side.piece.edge upto span.0)
    where
      x_level : (one other : Edge) → BeginsUpto one other → other.x0 ≤ℤ one.x0 → one.x0 ≡ other.x0
      x_level one other (inl less) from = absurd (omega (arith, ints, less, from))
      x_level one other (inr (same, rest)) from = same

      by : (first.piece.edge ≡ side.piece.edge) ⊎ (first.piece.edge ≢ side.piece.edge) → first.piece.edge.x0 ≡ side.piece.edge.x0 → ⊥
      by (inl same) level = never (sym below.lower ∙ ap (λ (e : Edge). is_lower_on first.piece.edge.x0 e first.piece.edge) (sym same) ∙ lower-irrefl first.piece.edge.x0 first.piece.edge)
      by (inr differ) level =
          let lower = begins-lower first.piece.edge side.piece.edge (sides-meet rings first side noded is of) differ (side-right rings first is) (side-right rings side of) level upto in
          never (sym below.lower ∙ lower-asym first.piece.edge.x0 first.piece.edge side.piece.edge lower)

  -- so it is of no later hole
  pub in-turn : AreInTurn holes
  in-turn i j d less within = (apart, below (get_or holes i d).below refl)
    where
      apart : (get_or holes i d).first.ring ≢ (get_or holes j d).first.ring
      apart =
          let same = size in
          subst₂ (λ (one other : Side). one.ring ≢ other.ring) (first-of i d (omega (arith, less, within))) (first-of j d within) (are.all.apart i j no_side less (omega (arith, same, within)))

      below : (found : Option Side) → (get_or holes i d).below ≡ found → IfSome found (λ side. side.ring ≢ (get_or holes j d).first.ring)
      below None is = tt
      below (Some side) is = λ same.
          (let (of, under) = subst (λ (one : Option Side). IfSome one (λ other. IsSideOf rings other × IsBelow (get_or holes i d).first.piece.edge other.piece.edge)) is (told.of i d (omega (arith, less, within))).below in
          let one = (get_or holes i d).first in
          let later = (get_or holes j d).first in
          begins-before one side (first-side rings one (is-first i d (omega (arith, less, within)))) of under
          (BeginsUpto-trans one.piece.edge later.piece.edge side.piece.edge (begin-order i j d less within) (first-begins rings later (is-first j d within) side of same)))

  -- ---- what a caller says of them

  pub holes-marked : (are_outer : List Bool) → are_outer ≡ map is_counterclockwise rings
      → All (λ hole. (hole.first.ring < length are_outer) × (is_outer are_outer hole.first.ring ≡ false) × IfSome hole.below (λ side. side.ring < length are_outer)) holes
  holes-marked are_outer marks k d within =
      let hole = get_or holes k d in
      let is = is-first k d within in
      let count : length are_outer ≡ length rings = ap (λ (list : List Bool). length list) marks ∙ length-map rings is_counterclockwise in
      let inside = is.within in
      (omega (arith, count, inside), ap (λ (list : List Bool). get_or list hole.first.ring false) marks ∙ get_or-map is_counterclockwise rings hole.first.ring [] false is.within ∙ is.hole, by count hole.below (told.of k d within).below)
    where
      by : length are_outer ≡ length rings → (below : Option Side) → IfSome below (λ side. IsSideOf rings side × IsBelow (get_or holes k d).first.piece.edge side.piece.edge) → IfSome below (λ side. side.ring < length are_outer)
      by count None known = tt
      by count (Some side) (of, under) = let inside = of.within in omega (arith, count, inside)

  -- ---- what is just below a hole

  module _ (distinct : AreDistinct (flat_map ring_edges rings)) (are_outer : List Bool) (homes : List ℕ) (settled : All (IsSettled are_outer homes) holes) where
    -- two edges with the same ends are one
    one-edge : (one other : Edge) → Contains (flat_map ring_edges rings) one → Contains (flat_map ring_edges rings) other → HaveSameEnds one other → one ≡ other
    one-edge one other (i, inside, is) (j, inside_too, is_too) same = elim (cases_lt i j) [
      | inl less ↦ absurd (distinct i j one less inside_too (subst₂ HaveSameEnds (sym is) (sym (get_or_default (flat_map ring_edges rings) j one other inside_too ∙ is_too)) same))
      | inr from ↦ elim (cases_lt j i) [
        | inl more ↦ absurd (distinct j i one more inside (subst₂ HaveSameEnds (sym (get_or_default (flat_map ring_edges rings) j one other inside_too ∙ is_too)) (sym is) (same-exchanged one other same)))
        | inr upto ↦ (
            let level : i ≡ j = omega (arith, from, upto) in
            sym is ∙ ap (λ (n : ℕ). get_or (flat_map ring_edges rings) n one) level ∙ get_or_default (flat_map ring_edges rings) j one other inside_too ∙ is_too)
      ]
    ]

    abbrev Found : ℕ → Edge → Type 0
    Found hole below = (ring : ℕ) × (ring < length rings) × Contains (ring_edges (get_or rings ring [])) below × (home_of are_outer homes hole ≡ home_of are_outer homes ring)

    module _ (first below : Edge) (hole : Hole) (held : Contains holes hole) (is : hole.first.piece.edge ≡ rightwards first) (next : IsNextBelow (flat_map ring_edges rings) (rightwards first).x0 below first) where
      abbrev x : ℤ
      x = hole.first.piece.edge.x0

      -- what is next below is below
      next-below : IsBelow hole.first.piece.edge (rightwards below)
      next-below = record {
        over = subst (λ (e : Edge). is_over e.x0 (rightwards below) ≡ true) (sym is) next.over;
        lower = subst (λ (e : Edge). is_lower_on e.x0 (rightwards below) e ≡ true) (sym is) next.less;
      }

      -- so it is what was found
      found-is : (side : Side) → IsSideOf rings side → IsBelow hole.first.piece.edge side.piece.edge → is_lower_on x side.piece.edge (rightwards below) ≡ false → (of : IsSideOf rings side) → of.edge ≡ below
      found-is side of under isnt known = either (same-or side.piece.edge (rightwards below))
        where
          among : Contains (flat_map ring_edges rings) known.edge
          among = side-among rings side known

          edge_is : side.piece.edge ≡ rightwards known.edge
          edge_is = side-edge rings side known

          at : hole.first.piece.edge.x0 ≡ (rightwards first).x0
          at = ap (λ (e : Edge). e.x0) is

          over_side : is_over (rightwards first).x0 (rightwards known.edge) ≡ true
          over_side = subst₂ (λ (z : ℤ) (e : Edge). is_over z e ≡ true) at edge_is under.over

          lower_side : is_lower_on (rightwards first).x0 (rightwards known.edge) (rightwards first) ≡ true
          lower_side = subst₂ (λ (g e : Edge). is_lower_on g.x0 e g ≡ true) is edge_is under.lower

          meet : MeetOnly side.piece.edge (rightwards below)
          meet = subst (λ (e : Edge). MeetOnly e (rightwards below)) (sym edge_is) (turned-meet (flat_map ring_edges rings) noded known.edge below among next.among)

          either : (side.piece.edge ≡ rightwards below) ⊎ (side.piece.edge ≢ rightwards below) → known.edge ≡ below
          either (inl same) = one-edge known.edge below among next.among (turned-same known.edge below (sym edge_is ∙ same))
          either (inr differ) = elim (lower-apart side.piece.edge (rightwards below) x meet differ under.over next-below.over) [
            | inl lower ↦ absurd (never (sym lower ∙ isnt))
            | inr higher ↦ absurd (next.none known.edge among over_side (subst₂ (λ (z : ℤ) (e : Edge). is_lower_on z (rightwards below) e ≡ true) at edge_is higher) lower_side)
          ]

      found-home : Found hole.first.ring below
      found-home =
          let (side, found, isnt) = All-contains (IsTold (flat_map ring_edges rings)) holes hole told.told held below next.among next-below in
          let of_hole = All-contains (IsHoleOf rings) holes hole told.of held in
          let (of, under) = subst (λ (one : Option Side). IfSome one (λ other. IsSideOf rings other × IsBelow hole.first.piece.edge other.piece.edge)) found of_hole.below in
          let home = subst (λ (one : Option Side). IfSome one (λ other. home_of are_outer homes hole.first.ring ≡ home_of are_outer homes other.ring)) found (All-contains (IsSettled are_outer homes) holes hole settled held) in
          (side.ring, of.within, subst (Contains (ring_edges (get_or rings side.ring []))) (found-is side of under isnt of) of.among, home)

    -- each hole shares the home of what is just below it
    pub share-homes : ShareHomes rings are_outer homes
    share-homes hole first below within clockwise is next =
        let (side, among, number) = Contains-from_map (λ (one : Side). one.ring) firsts hole (are.all.each hole first within clockwise is) in
        let (entry, held, same) = Contains-from_map (λ (one : Hole). one.first) holes side (subst (λ (sides : List Side). Contains sides side) (sym told.same) among) in
        let of = All-contains (IsFirstOf rings) firsts side are.all.of among in
        let level : of.edge ≡ first = some-same of.edge first (sym of.first ∙ ap (λ (n : ℕ). first_sloped None (ring_edges (get_or rings n []))) number ∙ is) in
        let edge_is : entry.first.piece.edge ≡ rightwards first = ap (λ (one : Side). one.piece.edge) same ∙ ap (λ (piece : Piece). piece.edge) of.is ∙ ap rightwards level in
        subst (λ (n : ℕ). Found n below) (ap (λ (one : Side). one.ring) same ∙ number) (found-home first below entry held edge_is next)
      where
        some-same : (one other : Edge) → Some one ≡ Some other → one ≡ other
        some-same one other h = cc

-- ---- homes one by one

-- one more home that is an outer ring
pub homes-set : (are_outer : List Bool) (homes : List ℕ) (ring home : ℕ) → AreHomes are_outer homes → is_outer are_outer home ≡ true → AreHomes are_outer (set homes ring home)
homes-set are_outer homes ring home have is = record {
  size = length-set homes ring home ∙ have.size;
  outer = λ k d within. (let size = length-set homes ring home in by k d (omega (arith, size, within)));
}
  where
    other-it : (k d : ℕ) → k < length homes → k ≢ ring → is_outer are_outer (get_or (set homes ring home) k d) ≡ true
    other-it k d within differ = subst (λ (n : ℕ). is_outer are_outer n ≡ true) (sym (get_or-set_other homes ring k home d differ)) (have.outer k d within)

    by : (k d : ℕ) → k < length homes → is_outer are_outer (get_or (set homes ring home) k d) ≡ true
    by k d within = elim (cases_lt k ring) [
      | inl less ↦ other-it k d within (λ same. omega (arith, less, same))
      | inr from ↦ elim (cases_lt ring k) [
        | inl more ↦ other-it k d within (λ same. omega (arith, more, same))
        | inr upto ↦ (
            let level : ring ≡ k = omega (arith, from, upto) in
            subst (λ (n : ℕ). is_outer are_outer (get_or (set homes ring home) n d) ≡ true) level
            (subst (λ (n : ℕ). is_outer are_outer n ≡ true) (sym (get_or-set_same homes ring home d (omega (arith, within, level)))) is))
      ]
    ]

-- The first holes have the homes of what was found below them.
pub record HaveSettled (are_outer : List Bool) (holes : List Hole) (count : ℕ) (homes : List ℕ) : Type 0 where
  pub have : AreHomes are_outer homes
  pub settled : (k : ℕ) (d : Hole) → k < count → k < length holes → IsSettled are_outer homes (get_or holes k d)

module _ (are_outer : List Bool) (holes : List Hole) (turn : AreInTurn holes) (k : ℕ) (within : k < length holes) (homes : List ℕ) (have : HaveSettled are_outer holes k homes) (d : Hole) where
  -- one below which nothing was found
  pub settled-none : (get_or holes k d).below ≡ None → HaveSettled are_outer holes (k + 1) homes
  settled-none is = record {
    have = have.have;
    settled = λ i e less inside. (elim (cases_lt i k) [
      | inl before ↦ have.settled i e before inside
      | inr from ↦ (
          let here : k ≡ i = omega (arith, less, from) in
          subst (λ (n : ℕ). IsSettled are_outer homes (get_or holes n e)) here
          (subst (IsSettled are_outer homes) (get_or_default holes k d e within)
          (subst (λ (below : Option Side). IfSome below (λ side. home_of are_outer homes (get_or holes k d).first.ring ≡ home_of are_outer homes side.ring)) (sym is) tt)))
    ]);
  }

  module _ (side : Side) (is : (get_or holes k d).below ≡ Some side) (after : List ℕ) (set_it : after ≡ set homes (get_or holes k d).first.ring (home_of are_outer homes side.ring)) (hole_it : is_outer are_outer (get_or holes k d).first.ring ≡ false)
      (inside_it : (get_or holes k d).first.ring < length homes) (have_after : AreHomes are_outer after) where
    abbrev ring : ℕ
    ring = (get_or holes k d).first.ring

    -- the others keep theirs
    others : (other : ℕ) → other ≢ ring → home_of are_outer after other ≡ home_of are_outer homes other
    others other differ = ap (λ (n : ℕ). cond (is_outer are_outer other) other n) (ap (λ (list : List ℕ). get_or list other 0) set_it ∙ get_or-set_other homes ring other (home_of are_outer homes side.ring) 0 differ)

    its : home_of are_outer after ring ≡ home_of are_outer homes side.ring
    its = ap (λ t. cond t ring (get_or after ring 0)) hole_it ∙ ap (λ (list : List ℕ). get_or list ring 0) set_it ∙ get_or-set_same homes ring (home_of are_outer homes side.ring) 0 inside_it

    settled-it : home_of are_outer after ring ≡ home_of are_outer after side.ring
    settled-it = elim (cases_lt side.ring ring) [
      | inl less ↦ its ∙ sym (others side.ring (λ same. omega (arith, less, same)))
      | inr from ↦ elim (cases_lt ring side.ring) [
        | inl more ↦ its ∙ sym (others side.ring (λ same. omega (arith, more, same)))
        | inr upto ↦ ap (home_of are_outer after) (let same : ring ≡ side.ring = omega (arith, from, upto) in same)
      ]
    ]

    settled-old : (i : ℕ) (e : Hole) → i < k → i < length holes → IsSettled are_outer after (get_or holes i e)
    settled-old i e less inside = by (get_or holes i e).below refl (have.settled i e less inside) (turn i k e less within)
      where
        by : (below : Option Side) → (get_or holes i e).below ≡ below → IfSome (get_or holes i e).below (λ one. home_of are_outer homes (get_or holes i e).first.ring ≡ home_of are_outer homes one.ring)
            → ((get_or holes i e).first.ring ≢ (get_or holes k e).first.ring) × IfSome (get_or holes i e).below (λ one. one.ring ≢ (get_or holes k e).first.ring)
            → IfSome (get_or holes i e).below (λ one. home_of are_outer after (get_or holes i e).first.ring ≡ home_of are_outer after one.ring)
        by None at before apart = subst (λ (below : Option Side). IfSome below (λ one. home_of are_outer after (get_or holes i e).first.ring ≡ home_of are_outer after one.ring)) (sym at) tt
        by (Some one) at before (apart, apart_too) =
            let same : get_or holes k e ≡ get_or holes k d = get_or_default holes k e d within in
            let home = subst (λ (below : Option Side). IfSome below (λ other. home_of are_outer homes (get_or holes i e).first.ring ≡ home_of are_outer homes other.ring)) at before in
            let differ = subst (λ (below : Option Side). IfSome below (λ other. other.ring ≢ (get_or holes k e).first.ring)) at apart_too in
            subst (λ (below : Option Side). IfSome below (λ other. home_of are_outer after (get_or holes i e).first.ring ≡ home_of are_outer after other.ring)) (sym at)
            (others (get_or holes i e).first.ring (λ level. apart (level ∙ ap (λ (hole : Hole). hole.first.ring) (sym same)))
            ∙ home ∙ sym (others one.ring (λ level. differ (level ∙ ap (λ (hole : Hole). hole.first.ring) (sym same)))))

    pub settled-some : HaveSettled are_outer holes (k + 1) after
    settled-some = record {
      have = have_after;
      settled = λ i e less inside. (elim (cases_lt i k) [
        | inl before ↦ settled-old i e before inside
        | inr from ↦ (
            let here : k ≡ i = omega (arith, less, from) in
            subst (λ (n : ℕ). IsSettled are_outer after (get_or holes n e)) here
            (subst (IsSettled are_outer after) (get_or_default holes k d e within)
            (subst (λ (below : Option Side). IfSome below (λ other. home_of are_outer after ring ≡ home_of are_outer after other.ring)) (sym is) settled-it)))
      ]);
    }

-- the first sides of holes in order
pub firsts-sorted : (rings : List (List Point)) (count : ℕ) (holes sorted : List Hole) → length rings ≡ count → IsPermutation holes sorted → AreFirstsUpto rings count (firsts_of holes) → BeginInOrder (pieces_of (firsts_of sorted)) → AreFirsts rings (firsts_of sorted)
firsts-sorted rings count holes sorted size moved are order = record {
  all = record {
    of = All-permutation (IsFirstOf rings) (firsts_of holes) (firsts_of sorted) firsts_moved are.of;
    below = All-weaker (λ (side : Side). side.ring < count) (λ side. side.ring < length rings) (λ side less. omega (arith, size, less)) (firsts_of sorted)
        (All-permutation (λ (side : Side). side.ring < count) (firsts_of holes) (firsts_of sorted) firsts_moved are.below);
    each = λ ring edge less hole first.
        Contains-permutation (map (λ (side : Side). side.ring) (firsts_of holes)) (map (λ (side : Side). side.ring) (firsts_of sorted)) ring (IsPermutation-map (λ (side : Side). side.ring) (firsts_of holes) (firsts_of sorted) firsts_moved)
        (are.each ring edge (omega (arith, size, less)) hole first);
    apart = AllPairs-permutation (λ (one later : Side). one.ring ≢ later.ring) (λ one later differ same. differ (sym same)) (firsts_of holes) (firsts_of sorted) firsts_moved are.apart;
  };
  order = order;
}
  where
    firsts_moved : IsPermutation (firsts_of holes) (firsts_of sorted)
    firsts_moved = IsPermutation-map (λ (hole : Hole). hole.first) holes sorted moved

-- ---- one outer ring alone

pub homes-all : (are_outer : List Bool) (outer : ℕ) → is_outer are_outer outer ≡ true → AreHomes are_outer (replicate (length are_outer) outer)
homes-all are_outer outer is = record {
  size = length-replicate (length are_outer) outer;
  outer = λ k d within. (
      let size = length-replicate (length are_outer) outer in
      subst (λ (home : ℕ). is_outer are_outer home ≡ true) (sym (get_or-replicate (length are_outer) k outer d (omega (arith, within, size)))) is
      );
}

-- then all rings have its home
module _ (rings : List (List Point)) (are_outer : List Bool) (homes : List ℕ) (outer : ℕ) (marks : are_outer ≡ map is_counterclockwise rings) (only : IsOnlyOuter are_outer outer) (are : AreHomes are_outer homes) where
  one-home : (ring : ℕ) → ring < length rings → home_of are_outer homes ring ≡ outer
  one-home ring within = go (is_outer are_outer ring) refl
    where
      inside : ring < length homes
      inside = let size = are.size in let marked = ap (λ (list : List Bool). length list) marks ∙ length-map rings is_counterclockwise in omega (arith, within, size, marked)

      go : (is : Bool) → is_outer are_outer ring ≡ is → cond is ring (get_or homes ring 0) ≡ outer
      go true is = only ring is
      go false is = only (get_or homes ring 0) (are.outer ring 0 inside)

  pub share-one : ShareHomes rings are_outer homes
  share-one hole first below within hole_is first_is next =
      let (ring, (k, inside, at), has) = Contains-flat_map ring_edges rings below next.among in (
        k,
        inside,
        subst (λ (points : List Point). Contains (ring_edges points) below) (sym (get_or_default rings k [] ring inside ∙ at)) has,
        one-home hole within ∙ sym (one-home k inside),
      )
