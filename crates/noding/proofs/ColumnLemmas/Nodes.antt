-- The nodes of edges where what is moved was told in rounds: which stops are at hand, and that they have all nodes.
use Rattle.std.proofs.Common.{◌≡◌, ◌≢◌, ◌⊎◌, ◌↔◌, ◌∙◌, ap, arith, inl, inr, pos, refl, ⊎_elim, Bool, ℕ, ℤ, ◌<◌, ◌-ℤ◌, ◌*ℤ◌, List, Some, get_or, length}
use Rattle.std.specs.List.{All, Contains, slice_get}
use Rattle.std.proofs.lemmas.Int.{ints}
use Rattle.std.proofs.lemmas.List.Elements.{All-contains, Contains-get_or}
use Rattle.std.proofs.lemmas.Option.{slice_get_within}
use Rattle.plane.specs.declared.edge.Edge.{Edge}
use Rattle.plane.specs.declared.point.Point.{Point}
use Rattle.plane.specs.Gains.{GainsThese, HaveSame, IsOfSome}
use Rattle.plane.specs.Meet.Crosses.{cross}
use Rattle.plane.specs.Meet.Kinds.{HasPoint}
use Rattle.plane.proofs.GainsLemmas.{gains-join, held-at, place-of}
use Rattle.plane.proofs.MeetLemmas.Along.{same_or_apart}
use Rattle.plane.proofs.MeetLemmas.Identities.{Term, identity, minus, number, times}
use Rattle.plane.proofs.PointLemmas.{whole_point}
use Rattle.noding.specs.Chains.{AreNotParallel, CrossAt, IsEnd, IsHot}
use Rattle.noding.specs.Close.{PassesInside}
use Rattle.noding.specs.Columns.Ends.{AreEnds, HaveAllOn, HaveAllOnUprights, IsStopHeldAt, LiesInside}
use Rattle.noding.specs.Columns.Rounds.{AreSpreadStops}
use Rattle.noding.specs.Crossings.{AreAllCrossed, CrossBetweenEnds, CrossInside, IsCrossed}
use Rattle.noding.specs.Local.{AreMoved, IsNode}
use Rattle.noding.specs.Stops.{AreKept, AreNodeStops, IsStop, IsStopAtCrossing, stop_of}
use Rattle.noding.specs.declared.crossings.Crossing.{Crossing}
use Rattle.noding.specs.declared.stops.Stop.{Stop}
use Rattle.noding.proofs.ChainLemmas.Between.{RoundsTo-at, end-rounded}
use Rattle.noding.proofs.ChainLemmas.Crossed.{passes-first, passes-second}
use Rattle.noding.proofs.ChainLemmas.Crossings.{crossed-at}
use Rattle.noding.proofs.ChainLemmas.Ends.{end_or_not}
use Rattle.noding.proofs.ChainLemmas.Kept.{AreNodeStops-among, moved-at}
use Rattle.noding.proofs.ChainLemmas.Stops.{IsStop-along}
use Rattle.noding.proofs.ColumnLemmas.Ends.{not_level, passes_held}
use Rattle.noding.proofs.SnapLemmas.Axes.{some_product}
use Rattle.noding.proofs.SnapLemmas.Local.{common-at}
use Rattle.noding.proofs.SnapLemmas.Lying.{at_or_not}

-- ---- edges that go through a whole point

no_parts : (a b first second : ℤ) → first ≡ pos 0 → second ≡ pos 0 → ((a *ℤ first) -ℤ (b *ℤ second)) ≡ pos 0
no_parts a b first second none nothing =
    ap (λ (z : ℤ). (a *ℤ z) -ℤ (b *ℤ second)) none ∙ ap (λ (z : ℤ). (a *ℤ pos 0) -ℤ (b *ℤ z)) nothing
    ∙ identity (minus (times (number a) (number (pos 0))) (times (number b) (number (pos 0)))) (number (pos 0)) (omega arith)

module _ (dx dy ax ay bx by : ℤ) where
  abbrev turn : Term → Term → Term → Term → Term
  turn a b c d = minus (times a d) (times b c)

  -- how far a way goes, times the cross product of two others, is told by its own cross products with these
  turned_x : (dx *ℤ cross ax ay bx by) ≡ ((ax *ℤ cross dx dy bx by) -ℤ (bx *ℤ cross dx dy ax ay))
  turned_x =
      identity (times (number dx) (turn (number ax) (number ay) (number bx) (number by)))
      (minus (times (number ax) (turn (number dx) (number dy) (number bx) (number by))) (times (number bx) (turn (number dx) (number dy) (number ax) (number ay)))) (omega arith)

  turned_y : (dy *ℤ cross ax ay bx by) ≡ ((ay *ℤ cross dx dy bx by) -ℤ (by *ℤ cross dx dy ax ay))
  turned_y =
      identity (times (number dy) (turn (number ax) (number ay) (number bx) (number by)))
      (minus (times (number ay) (turn (number dx) (number dy) (number bx) (number by))) (times (number by) (turn (number dx) (number dy) (number ax) (number ay)))) (omega arith)

  -- so one that is parallel to two that aren't parallel goes nowhere
  nowhere_along : cross ax ay bx by ≢ pos 0 → cross dx dy ax ay ≡ pos 0 → cross dx dy bx by ≡ pos 0 → ¬ ((dx ≢ pos 0) ⊎ (dy ≢ pos 0))
  nowhere_along slanted along along_too =
      ⊎_elim
      (λ wide. some_product dx (cross ax ay bx by) wide slanted (turned_x ∙ no_parts ax bx (cross dx dy bx by) (cross dx dy ax ay) along_too along))
      (λ tall. some_product dy (cross ax ay bx by) tall slanted (turned_y ∙ no_parts ay by (cross dx dy bx by) (cross dx dy ax ay) along_too along))

-- of two edges that aren't parallel one isn't parallel to an edge that is no point
slanted_to_one : (edge one other : Edge) → AreNotParallel one other → (edge.x0 ≢ edge.x1) ⊎ (edge.y0 ≢ edge.y1) → AreNotParallel edge one ⊎ AreNotParallel edge other
slanted_to_one edge one other slanted long =
    elim (same_or_apart (turn_to one) (pos 0)) [
      | inr apart ↦ inl apart
      | inl along ↦ elim (same_or_apart (turn_to other) (pos 0)) [
        | inr apart ↦ inr apart
        | inl along_too ↦ absurd (nowhere_along (edge.x1 -ℤ edge.x0) (edge.y1 -ℤ edge.y0) (one.x1 -ℤ one.x0) (one.y1 -ℤ one.y0) (other.x1 -ℤ other.x0) (other.y1 -ℤ other.y0) slanted along along_too goes)
      ]
    ]
  where
    turn_to : Edge → ℤ
    turn_to e = cross (edge.x1 -ℤ edge.x0) (edge.y1 -ℤ edge.y0) (e.x1 -ℤ e.x0) (e.y1 -ℤ e.y0)

    goes : ((edge.x1 -ℤ edge.x0) ≢ pos 0) ⊎ ((edge.y1 -ℤ edge.y0) ≢ pos 0)
    goes = ⊎_elim (λ wide. inl (λ same. wide (omega (arith, ints, same)))) (λ tall. inr (λ same. tall (omega (arith, ints, same)))) long

-- an edge that a point lies on between its ends is no point
long_inside : (edge : Edge) (point : Point) → LiesInside edge point → (edge.x0 ≢ edge.x1) ⊎ (edge.y0 ≢ edge.y1)
long_inside edge point lies = ⊎_elim (λ upright. inr (not_level edge point upright lies)) inl (same_or_apart edge.x0 edge.x1)

-- two edges that aren't parallel cross between their ends where a whole point lies so on both
between-inside : (one other : Edge) (point : Point) → AreNotParallel one other → LiesInside one point → LiesInside other point → CrossBetweenEnds one other point.x point.y
between-inside one other point slanted (on, none) (other_on, none_other) =
    let (there, of_one, of_other, at) = common-at one other point.x point.y on other_on in
    let rounds = RoundsTo-at there point.x point.y at in
    (slanted, (there, of_one, of_other, rounds, ⊎_elim (λ end. none (end-rounded one there point.x point.y rounds end)) (λ end. none_other (end-rounded other there point.x point.y rounds end))))

-- ---- all nodes are told

module _ (edges : List Edge) (crossings : List Crossing) (crossed : AreAllCrossed edges crossings) where
  -- the stop of one of two edges, at their crossing, which is an end of neither
  crossing_stop : (i j : ℕ) (edge one : Edge) (point : Point) → slice_get edges i ≡ Some edge → slice_get edges j ≡ Some one → AreNotParallel edge one → LiesInside edge point → LiesInside one point
      → IsOfSome (IsStopAtCrossing edges) crossings (stop_of i edge point.x point.y)
  crossing_stop i j edge one point first second slanted lies lies_too =
      ⊎_elim
      (λ held. (record { one = i; other = j; point = point }, held, record { one = edge; other = one; first = first; second = second; at = (⊎_elim lies.1 lies_too.1, inl refl) }))
      (λ held. (record { one = j; other = i; point = point }, held, record { one = one; other = edge; first = second; second = first; at = (⊎_elim lies_too.1 lies.1, inr refl) }))
      (crossed.all i j edge one point first second (between-inside edge one point slanted lies lies_too))

  -- a stop at a crossing is one at a hot point
  stop_crossed : (stop : Stop) → IsOfSome (IsStopAtCrossing edges) crossings stop → IsStop edges stop
  stop_crossed stop (crossing, held, at) =
      let cross_there : CrossInside at.one at.other crossing.point = (crossed-at edges crossing at.one at.other at.first at.second (All-contains (IsCrossed edges) crossings crossing crossed.each held), at.at.0) in
      let hot : IsHot edges crossing.point.x crossing.point.y = inr (at.one, at.other, held-at edges crossing.one at.one at.first, held-at edges crossing.other at.other at.second, cross_there.0) in
      ⊎_elim
      (λ same. IsStop-along edges crossing.one at.one crossing.point.x crossing.point.y stop at.first hot (passes-first at.one at.other crossing.point cross_there, same))
      (λ same. IsStop-along edges crossing.other at.other crossing.point.x crossing.point.y stop at.second hot (passes-second at.one at.other crossing.point cross_there, same))
      at.at.1

  module _ (points : List Point) (ends : AreEnds edges points) where
    -- a stop at an end that lies on its edge is one at a hot point
    stop_held : (pair : ℕ × ℕ) (stop : Stop) → IsStopHeldAt edges points pair stop → IsStop edges stop
    stop_held pair stop is =
        let (lies, same) = is.held in
        IsStop-along edges pair.0 is.edge is.point.x is.point.y stop is.first (inl ((ends is.point).0 (held-at points pair.1 is.point is.second))) ((passes_held is.edge is.point lies.0, lies.1), same)

    module _ (on uprights : List (ℕ × ℕ)) (all_on : HaveAllOn edges points on) (all_uprights : HaveAllOnUprights edges points uprights) where
      abbrev IsOn : Stop → Type 0
      IsOn stop = IsOfSome (IsStopHeldAt edges points) on stop ⊎ IsOfSome (IsStopHeldAt edges points) uprights stop

      -- an end of some edge that lies on this one between its ends has its stop
      stop_at_end : (place : ℕ) (edge : Edge) (point : Point) → slice_get edges place ≡ Some edge → LiesInside edge point → (one : Edge) → Contains edges one → IsEnd one point.x point.y → IsOn (stop_of place edge point.x point.y)
      stop_at_end place edge point at lies one of_edges end =
          let (j, there) = place-of points point ((ends point).1 (one, of_edges, end)) in
          let is : IsStopHeldAt edges points (place, j) (stop_of place edge point.x point.y) = record { edge = edge; point = point; first = at; second = there; held = (lies, refl) } in
          ⊎_elim (λ upright. inr ((place, j), all_uprights place j edge point at there upright lies, is)) (λ wide. inl ((place, j), all_on place j edge point at there wide lies, is)) (same_or_apart edge.x0 edge.x1)

      module _ (moved : List Bool) (told : AreMoved edges moved) (stops : List Stop) (spread : AreSpreadStops edges moved stops) where
        abbrev IsTold : Stop → Type 0
        IsTold stop = Contains stops stop ⊎ ((IsOn stop) ⊎ IsOfSome (IsStopAtCrossing edges) crossings stop)

        is_stop : (stop : Stop) → IsTold stop → IsStop edges stop
        is_stop stop (inl held) = All-contains (IsStop edges) stops stop spread.of held
        is_stop stop (inr (inl (inl (pair, held, is)))) = stop_held pair stop is
        is_stop stop (inr (inl (inr (pair, held, is)))) = stop_held pair stop is
        is_stop stop (inr (inr at)) = stop_crossed stop at

        module _ (place : ℕ) (edge : Edge) (point : Point) (at : slice_get edges place ≡ Some edge) (inside : PassesInside edge point.x point.y) where
          -- a whole point where two edges cross, of which it is no end, lies on both between their ends, and the edge crosses one
          -- of them there
          told_whole : (one other : Edge) → Contains edges one → Contains edges other → AreNotParallel one other → LiesInside edge point → LiesInside one point → LiesInside other point
              → IsOfSome (IsStopAtCrossing edges) crossings (stop_of place edge point.x point.y)
          told_whole one other of_edges of_too slanted lies lies_one lies_other =
              let (i, first) = place-of edges one of_edges in
              let (j, second) = place-of edges other of_too in
              ⊎_elim (λ apart. crossing_stop place i edge one point at first apart lies lies_one) (λ apart. crossing_stop place j edge other point at second apart lies lies_other)
              (slanted_to_one edge one other slanted (long_inside edge point lies))

          -- where two edges round to it that cross
          told_crossed : (one other : Edge) → Contains edges one → Contains edges other → CrossAt one other point.x point.y → HasPoint edge point.x point.y → IsTold (stop_of place edge point.x point.y)
          told_crossed one other of_edges of_too (slanted, (there, of_one, of_other, rounds)) on =
              elim (at_or_not there point.x point.y) [
                | inr beside ↦ inl (spread.first place edge point at (one, other, of_edges, of_too, (slanted, (there, of_one, of_other, rounds, beside))) inside)
                | inl whole ↦ elim (end_or_not one point.x point.y) [
                  | inl end ↦ inr (inl (stop_at_end place edge point at (on, inside.1) one of_edges end))
                  | inr none ↦ elim (end_or_not other point.x point.y) [
                    | inl end ↦ inr (inl (stop_at_end place edge point at (on, inside.1) other of_too end))
                    | inr none_too ↦ inr (inr (told_whole one other of_edges of_too slanted (on, inside.1) ((there, of_one, whole), none) ((there, of_other, whole), none_too)))
                  ]
                ]
              ]

          -- a node that lies on the edge
          told_on : IsHot edges point.x point.y → HasPoint edge point.x point.y → IsTold (stop_of place edge point.x point.y)
          told_on (inl (one, of_edges, end)) on = inr (inl (stop_at_end place edge point at (on, inside.1) one of_edges end))
          told_on (inr (one, other, of_edges, of_too, cross_there)) on = told_crossed one other of_edges of_too cross_there on

          -- each node
          told_node : IsNode edges edge point.x point.y → IsTold (stop_of place edge point.x point.y)
          told_node (hot, passes, node) =
              ⊎_elim (told_on hot) (λ is. inl (spread.moved place edge point at ((moved-at edges moved told place edge at).1 is) hot inside)) node

        module _ (first second found sorted : List Stop) (gains_on : GainsThese (IsOfSome (IsStopHeldAt edges points) on) stops first) (gains_uprights : GainsThese (IsOfSome (IsStopHeldAt edges points) uprights) first second)
            (gains_crossed : GainsThese (IsOfSome (IsStopAtCrossing edges) crossings) second found) (same : HaveSame found sorted) where
          all_told : (stop : Stop) → Contains sorted stop ↔ IsTold stop
          all_told stop =
              let all = gains-join IsOn (IsOfSome (IsStopAtCrossing edges) crossings) stops second found
              (gains-join (IsOfSome (IsStopHeldAt edges points) on) (IsOfSome (IsStopHeldAt edges points) uprights) stops first second gains_on gains_uprights) gains_crossed stop in
              (λ held. all.0 ((same stop).0 held), λ is. (same stop).1 (all.1 is))

          each_stop : All (IsStop edges) sorted
          each_stop k d within = let stop = get_or sorted k d in is_stop stop ((all_told stop).0 (Contains-get_or sorted k d within))

          -- so each of them is at the place of an edge
          pub rounds-within : All (λ stop. stop.place < length edges) sorted
          rounds-within k d within = let is = each_stop k d within in slice_get_within edges (get_or sorted k d).place is.edge is.stands

          -- and those that are kept are the nodes
          pub AreNodeStops-rounds : (nodes : List Stop) → AreKept edges moved sorted nodes → AreNodeStops edges nodes
          AreNodeStops-rounds =
              AreNodeStops-among edges moved told sorted
              (λ place edge x y at node inside. (all_told (stop_of place edge x y)).1 (told_node place edge (whole_point x y) at inside node)) each_stop
