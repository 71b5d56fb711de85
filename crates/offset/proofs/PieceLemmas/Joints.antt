-- Where two edges that follow each other are moved by the same corner, nothing joins them.
use Rattle.std.proofs.Common.{◌≡◌, ◌≢◌, ℤ, pos, ◌-ℤ◌, ◌<ℤ◌, ◌≤ℤ◌, Bool, true, false, cond, ◌&&◌, List, [], ◌∷◌, map, refl, ap, ap₂, sym, ◌∙◌, arith}
use Rattle.std.specs.List.{Contains}
use Rattle.std.specs.Prelude.{int_le, int_lt}
use Rattle.std.proofs.lemmas.Int.{ints}
use Rattle.std.proofs.lemmas.List.Elements.{All-contains}
use Rattle.plane.specs.declared.edge.Edge.{Edge}
use Rattle.plane.specs.declared.point.Point.{Point}
use Rattle.plane.specs.Ends.{edge_between, end_of, start_of}
use Rattle.plane.specs.Meet.Crosses.{cross}
use Rattle.plane.proofs.MeetLemmas.Identities.{identity, minus, number, times}
use Rattle.overlay.specs.Contours.Rings.{has_two_ends}
use Rattle.overlay.specs.Fill.Pieces.{total}
use Rattle.overlay.proofs.FillLemmas.Premises.{All-among}
use Rattle.noding.proofs.SnapLemmas.Numbers.{n_of}
use Rattle.i_tree.proofs.RootLemmas.Lists.{All-filter_passing, Contains-here}
use Rattle.offset.specs.Raw.{fan, furthest, is_of_fan, joint, moved_edge, ways, ways_by}
use Rattle.offset.specs.Shape.{IsConvexAroundOrigin, sides, turn}
use Rattle.offset.proofs.CoverLemmas.Vectors.{crossing, less_terms, term, turn_back, way}
use Rattle.offset.proofs.PieceLemmas.Convex.{fan-gains}
use Rattle.offset.proofs.PieceLemmas.Parts.{one-corner, total-from}

-- Edges that turn left aren't points.
flat : (d : Edge) (one : Edge) → start_of one ≡ end_of one → turn one d ≡ pos 0
flat d one same =
    ap₂ (λ (x y : ℤ). cross (x -ℤ one.x0) (y -ℤ one.y0) (d.x1 -ℤ d.x0) (d.y1 -ℤ d.y0)) (ap (λ (p : Point). p.x) (sym same)) (ap (λ (p : Point). p.y) (sym same))
    ∙ identity (minus (times (minus (number one.x0) (number one.x0)) (minus (number d.y1) (number d.y0))) (times (minus (number one.y0) (number one.y0)) (minus (number d.x1) (number d.x0)))) (n_of 0) (omega arith)

-- What is told of the sides of a fan.
told : (edge next side : Edge) → is_of_fan edge next side ≡ true → turn next side <ℤ pos 0
told edge next side is = by (int_le (pos 0) (turn edge side)) (int_lt (turn next side) (pos 0)) refl is
  where
    by : (s t : Bool) → int_lt (turn next side) (pos 0) ≡ t → (s && t) ≡ true → turn next side <ℤ pos 0
    by true true f h = omega (arith, ints, f)
    by true false f h = cc
    by false t f h = cc

module _ (corners : List Point) (convex : IsConvexAroundOrigin corners) (edge next : Edge) where
  -- how far along the next edge's right a corner lies
  abbrev beside : Point → ℤ
  beside c = cross c.x c.y (next.x1 -ℤ next.x0) (next.y1 -ℤ next.y0)

  abbrev gained : Edge → ℤ
  gained side = beside (end_of side) -ℤ beside (start_of side)

  gained-turn : (side : Edge) → gained side ≡ (pos 0 -ℤ turn next side)
  gained-turn side =
      let way = less_terms (term (end_of next)) (term (start_of next)) in
      identity (minus (crossing (term (end_of side)) way) (crossing (term (start_of side)) way)) (minus (n_of 0) (crossing way (less_terms (term (end_of side)) (term (start_of side))))) (omega arith)

  side-gains : (side : Edge) → Contains (fan corners edge next) side → pos 0 <ℤ gained side
  side-gains side held =
      let right = told edge next side
      (All-contains (λ (s : Edge). is_of_fan edge next s ≡ true) (fan corners edge next) side
      (All-filter_passing (is_of_fan edge next) (λ (s : Edge). is_of_fan edge next s ≡ true) (sides corners) (All-among (λ (s : Edge). is_of_fan edge next s ≡ true → is_of_fan edge next s ≡ true) (sides corners) (λ s inside passes. passes))) held) in
      let same = gained-turn side in
      omega (arith, ints, right, same)

  -- Between the same corners there is no side.
  no-fan : pos 0 <ℤ turn edge next → furthest corners edge ≡ furthest corners next → fan corners edge next ≡ []
  no-fan left same = by (fan corners edge next) refl
    where
      none : total gained (fan corners edge next) ≡ pos 0
      none =
          let proper : start_of edge ≢ end_of edge = λ point. let is = flat next edge point in omega (arith, ints, is, left) in
          let next_proper : start_of next ≢ end_of next = λ point. let is = flat edge next point in let back = turn_back (way next) (way edge) in omega (arith, ints, is, back, left) in
          let gains = fan-gains corners convex beside edge next proper next_proper left in
          let alike = ap beside same in
          omega (arith, ints, gains, alike)

      by : (sides : List Edge) → fan corners edge next ≡ sides → fan corners edge next ≡ []
      by [] is = is
      by (side ∷ others) is =
          let held : Contains (fan corners edge next) side = rw is (Contains-here side others) in
          let least = total-from gained (fan corners edge next) (All-among (λ (s : Edge). pos 0 ≤ℤ gained s) (fan corners edge next) (λ s inside. let more = side-gains s inside in omega (arith, ints, more))) side held in
          let more = side-gains side held in
          let all = none in
          absurd (omega (arith, ints, least, more, all))

  -- Where the same corner is furthest to the right of both, nothing joins them.
  pub no-joint : has_two_ends (edge_between (furthest corners edge) (furthest corners next)) ≡ false → joint corners edge next ≡ []
  no-joint one = by (int_lt (pos 0) (turn edge next)) refl
    where
      by : (t : Bool) → int_lt (pos 0) (turn edge next) ≡ t → joint corners edge next ≡ []
      by true left =
          ap (λ (t : Bool). cond t (map (moved_edge (end_of edge)) (fan corners edge next)) (ways corners edge next)) left
          ∙ ap (λ (sides : List Edge). map (moved_edge (end_of edge)) sides) (no-fan (omega (arith, ints, left)) (one-corner (furthest corners edge) (furthest corners next) one))
      by false right =
          ap (λ (t : Bool). cond t (map (moved_edge (end_of edge)) (fan corners edge next)) (ways corners edge next)) right
          ∙ ap (λ (t : Bool). cond t (ways_by (furthest corners edge) (furthest corners next) (end_of edge)) []) one
