-- One round of what points move: what it flags is moved, and it tells all stops and points that it has to.
use Rattle.std.proofs.Common.{◌≡◌, ◌↔◌, ◌∙◌, ap, arith, inl, inr, refl, subst, sym, ⊎_elim, append-nil, Bool, true, false, ℕ, ℤ, ◌<◌, List, [], ◌++◌, Some, get_or, length}
use Rattle.std.specs.List.{All, Contains, slice_get}
use Rattle.std.proofs.lemmas.Int.{clamps, ints}
use Rattle.std.proofs.lemmas.List.Elements.{All-contains, Contains-append_cases, Contains-append_left, Contains-append_right, Contains-get_or}
use Rattle.std.proofs.lemmas.Option.{same_Some, slice_get_within}
use Rattle.plane.specs.declared.edge.Edge.{Edge}
use Rattle.plane.specs.declared.pairs.items.Bounds.{Bounds}
use Rattle.plane.specs.declared.point.Point.{Point}
use Rattle.plane.specs.Gains.{GainsThese, HaveSame, IsOfSome}
use Rattle.plane.specs.Meet.Kinds.{HasPoint}
use Rattle.plane.proofs.GainsLemmas.{gained-all, gains-none, held-at, none_of}
use Rattle.noding.specs.Chains.{IsEnd, IsHot, Passes}
use Rattle.noding.specs.Close.{PassesInside, PassesPoint}
use Rattle.noding.specs.Columns.Passing.{nowhere}
use Rattle.noding.specs.Columns.Rounds.{AreFlaggedMoved, Flags, IsBesideAt, IsNewEnd, IsNewly, IsOneWithin, IsPointOfStop, IsWithin, Spreads}
use Rattle.noding.specs.Crossings.{AreHot}
use Rattle.noding.specs.Local.{IsMoved, Moves}
use Rattle.noding.specs.Stops.{IsStop, IsStopAmong, point_of, stop_of}
use Rattle.noding.specs.declared.stops.Stop.{Stop}
use Rattle.noding.proofs.ChainLemmas.Between.{RoundsTo-at}
use Rattle.noding.proofs.ChainLemmas.Ends.{end_or_not}
use Rattle.noding.proofs.ChainLemmas.Local.{has_end}
use Rattle.noding.proofs.ChainLemmas.Spreading.{Moves-hot, Moves-passed}
use Rattle.noding.proofs.ChainLemmas.Stops.{IsStop-along, point-of_stop}
use Rattle.noding.proofs.ColumnLemmas.Near.{passed-within}
use Rattle.noding.proofs.SnapLemmas.Along.{Passes-in_box}

-- an edge that is a point passes nothing between its ends
none_nowhere : (x y : ℤ) → ¬ (PassesInside nowhere x y)
none_nowhere x y (passes, none) =
    let box = Passes-in_box nowhere x y passes in
    let left = box.left in
    let right = box.right in
    let low = box.low in
    let high = box.high in
    none (inl (omega (arith, ints, clamps, left, right), omega (arith, ints, clamps, low, high)))

-- an edge passes its ends
passes_end : (edge : Edge) (x y : ℤ) → IsEnd edge x y → Passes edge x y
passes_end edge x y end = let (there, of, at) = has_end edge x y end in (there, of, RoundsTo-at there x y at)

-- the point of a stop at a point
point_is : (place : ℕ) (edge : Edge) (point : Point) (stop : Stop) → stop ≡ stop_of place edge point.x point.y → point_of edge stop ≡ point
point_is place edge point stop is = ap (point_of edge) is ∙ point-of_stop place edge point.x point.y

-- what an empty list gains are the stops at the points
pub told-among : (edges : List Edge) (points : List Point) (before stops : List Stop) → before ≡ [] → GainsThese (IsStopAmong edges points) before stops → (stop : Stop) → Contains stops stop ↔ IsStopAmong edges points stop
told-among edges points before stops empty gains = gained-all (IsStopAmong edges points) stops (subst (λ (list : List Stop). GainsThese (IsStopAmong edges points) list stops) empty gains)

-- stops at points are of edges of the list
pub within-among : (edges : List Edge) (points : List Point) (stops : List Stop) → ((stop : Stop) → Contains stops stop ↔ IsStopAmong edges points stop) → All (λ stop. stop.place < length edges) stops
within-among edges points stops told k d below =
    let is = (told (get_or stops k d)).0 (Contains-get_or stops k d below) in
    let same : (get_or stops k d).place ≡ is.place = ap (λ (s : Stop). s.place) is.along.1 in
    let inside = slice_get_within edges is.place is.edge is.stands in
    omega (arith, same, inside)

-- ---- one round

-- `beside` are the stops of edges at the fresh points, and have flagged their edges where they don't lie on them.
module _ (edges : List Edge) (fresh : List Point) (beside : List Stop) (flags new_flags : List Bool) (alone : List Edge) (ended : List Point)
    (told : (stop : Stop) → Contains beside stop ↔ IsStopAmong edges fresh stop) (flagged : Flags edges beside flags new_flags alone ended)
    (moves : All (λ point. Moves edges point.x point.y) fresh) (found : AreFlaggedMoved edges flags) where
  fresh_moves : (point : Point) → Contains fresh point → Moves edges point.x point.y
  fresh_moves point held = All-contains (λ (p : Point). Moves edges p.x p.y) fresh point moves held

  -- ---- what is flagged

  -- an edge is moved of which a stop doesn't lie on it
  moved_beside : (place : ℕ) (at : IsBesideAt edges beside place) → IsMoved edges at.edge
  moved_beside place at =
      let is = (told at.stop).0 at.held in
      let same_place : is.place ≡ place = sym (ap (λ (s : Stop). s.place) is.along.1) ∙ at.at in
      let edge_is : is.edge ≡ at.edge = same_Some _ _ (sym is.stands ∙ ap (slice_get edges) same_place ∙ at.stands) in
      let there : point_of at.edge at.stop ≡ is.point = subst (λ (e : Edge). point_of e at.stop ≡ is.point) edge_is (point_is is.place is.edge is.point at.stop is.along.1) in (
        is.point.x,
        is.point.y,
        fresh_moves is.point is.held,
        subst (λ (e : Edge). Passes e is.point.x is.point.y) edge_is is.along.0.0,
        subst (λ (p : Point). ¬ (HasPoint at.edge p.x p.y)) there at.beside,
      )

  -- so all that are flagged are moved
  still_moved : AreFlaggedMoved edges new_flags
  still_moved = record {
    size = flagged.size ∙ found.size;
    moved = λ place is. ⊎_elim (found.moved place) (λ at. record { edge = at.edge; stands = at.stands; moved = moved_beside place at }) ((flagged.exact place).0 is);
  }

  -- a newly flagged edge is moved
  newly_moved : (place : ℕ) (edge : Edge) → slice_get edges place ≡ Some edge → IsNewly flags new_flags place → IsMoved edges edge
  newly_moved place edge stands newly =
      let own = still_moved.moved place newly.1 in
      subst (IsMoved edges) (same_Some _ _ (sym own.stands ∙ stands)) own.moved

  -- all stops at fresh points are there
  fresh_stop : (place : ℕ) (edge : Edge) (point : Point) → slice_get edges place ≡ Some edge → Contains fresh point → PassesPoint edge point → Contains beside (stop_of place edge point.x point.y)
  fresh_stop place edge point stands held passes = (told (stop_of place edge point.x point.y)).1 (record { place = place; edge = edge; point = point; stands = stands; held = held; along = (passes, refl) })

  -- what passes a fresh point beside is flagged
  flagged_here : (place : ℕ) (edge : Edge) (point : Point) → slice_get edges place ≡ Some edge → Contains fresh point → Passes edge point.x point.y → ¬ (HasPoint edge point.x point.y) → get_or new_flags place false ≡ true
  flagged_here place edge point stands held passes none =
      (flagged.exact place).1 (inr (record {
        stop = stop_of place edge point.x point.y;
        edge = edge;
        held = fresh_stop place edge point stands held (passes, λ end. none (has_end edge point.x point.y end));
        at = refl;
        stands = stands;
        beside = λ on. none (subst (λ (p : Point). HasPoint edge p.x p.y) (point-of_stop place edge point.x point.y) on);
      }))

  -- the ends of newly flagged edges move edges
  end_moves : (point : Point) → IsNewEnd edges flags new_flags point → Moves edges point.x point.y
  end_moves point is =
      let held = held-at edges is.place is.edge is.stands in
      Moves-passed edges is.edge point.x point.y held (newly_moved is.place is.edge is.stands is.newly) (inl (is.edge, held, is.end)) (passes_end is.edge point.x point.y is.end)

  -- ---- stops of the newly flagged edges

  -- a stop of what stands alone is one of an edge that is newly flagged
  of_newly : (points : List Point) (stop : Stop) (is : IsStopAmong alone points stop) → (slice_get edges is.place ≡ Some is.edge) × IsNewly flags new_flags is.place
  of_newly points stop is =
      ⊎_elim (λ both. both)
      (λ none. absurd (none_nowhere is.point.x is.point.y (subst (λ (e : Edge). PassesInside e is.point.x is.point.y) none is.along.0)))
      (flagged.others is.place is.edge is.stands)

  -- those at the hot points that lie in a box around the ends of such edges are all
  module _ (around : Bounds) (hot near : List Point) (holds : All (IsWithin around) ended) (gains : GainsThese (IsOfSome (IsOneWithin around) hot) [] near) where
    near_is : (point : Point) → Contains near point ↔ IsOfSome (IsOneWithin around) hot point
    near_is = gained-all (IsOfSome (IsOneWithin around) hot) near gains

    -- what a newly flagged edge passes lies there
    newly_near : (place : ℕ) (edge : Edge) (point : Point) → slice_get edges place ≡ Some edge → IsNewly flags new_flags place → Passes edge point.x point.y → IsWithin around point
    newly_near place edge point stands newly passes =
        passed-within around edge point
        (λ end is. All-contains (IsWithin around) ended end holds ((flagged.ends end).1 (record { place = place; edge = edge; stands = stands; newly = newly; end = is })))
        passes

    wider : (stop : Stop) → IsStopAmong alone near stop → IsStopAmong alone hot stop
    wider stop is = let (one, held, (lies, same)) = (near_is is.point).0 is.held in record {
      place = is.place;
      edge = is.edge;
      point = is.point;
      stands = is.stands;
      held = subst (λ (p : Point). Contains hot p) (sym same) held;
      along = is.along;
    }

    narrower : (stop : Stop) → IsStopAmong alone hot stop → IsStopAmong alone near stop
    narrower stop is = let (stands, newly) = of_newly hot stop is in record {
      place = is.place;
      edge = is.edge;
      point = is.point;
      stands = is.stands;
      held = (near_is is.point).1 (is.point, is.held, (newly_near is.place is.edge is.point stands newly is.along.0.0, refl));
      along = is.along;
    }

    pub told-near : (along : List Stop) → ((stop : Stop) → Contains along stop ↔ IsStopAmong alone near stop) → (stop : Stop) → Contains along stop ↔ IsStopAmong alone hot stop
    told-near along told_along stop = (λ held. wider stop ((told_along stop).0 held), λ is. (told_along stop).1 (narrower stop is))

  module _ (hot : List Point) (are_hot : AreHot edges hot) where
    module _ (along : List Stop) (told_along : (stop : Stop) → Contains along stop ↔ IsStopAmong alone hot stop) where
      -- so it is a stop of the edges
      along_stop : (stop : Stop) → Contains along stop → IsStop edges stop
      along_stop stop held =
          let is = (told_along stop).0 held in
          IsStop-along edges is.place is.edge is.point.x is.point.y stop (of_newly hot stop is).0 ((are_hot is.point).0 is.held) is.along

      -- so are those at fresh points
      fresh_is_stop : (stop : Stop) → Contains beside stop → IsStop edges stop
      fresh_is_stop stop held =
          let is = (told stop).0 held in
          IsStop-along edges is.place is.edge is.point.x is.point.y stop is.stands (Moves-hot edges is.point.x is.point.y (fresh_moves is.point is.held)) is.along

      -- and each stop of a newly flagged edge is there
      all_along : (place : ℕ) (edge : Edge) (point : Point) → slice_get edges place ≡ Some edge → IsNewly flags new_flags place → IsHot edges point.x point.y → PassesPoint edge point → Contains along (stop_of place edge point.x point.y)
      all_along place edge point stands newly is_hot passes =
          (told_along (stop_of place edge point.x point.y)).1 (record {
            place = place;
            edge = edge;
            point = point;
            stands = flagged.newly place edge stands newly;
            held = (are_hot point).1 is_hot;
            along = (passes, refl);
          })

      -- their points move edges
      along_moves : (point : Point) → IsOfSome (IsPointOfStop edges) along point → Moves edges point.x point.y
      along_moves point (stop, held, at) =
          let is = (told_along stop).0 held in
          let (stands, newly) = of_newly hot stop is in
          let same_place : stop.place ≡ is.place = ap (λ (s : Stop). s.place) is.along.1 in
          let edge_is : at.edge ≡ is.edge = same_Some _ _ (sym at.stands ∙ ap (slice_get edges) same_place ∙ stands) in
          let there : is.point ≡ point = sym (at.is ∙ ap (λ (e : Edge). point_of e stop) edge_is ∙ point_is is.place is.edge is.point stop is.along.1) in
          subst (λ (p : Point). Moves edges p.x p.y) there
          (Moves-passed edges is.edge is.point.x is.point.y (held-at edges is.place is.edge stands) (newly_moved is.place is.edge stands newly) ((are_hot is.point).0 is.held) is.along.0.0)

      module _ (gained sorted : List Point) (gains : GainsThese (IsOfSome (IsPointOfStop edges) along) ended gained) (same : HaveSame gained sorted) where
        -- each hot point that a newly flagged edge passes is told
        all_passed : (place : ℕ) (edge : Edge) (point : Point) → slice_get edges place ≡ Some edge → IsNewly flags new_flags place → IsHot edges point.x point.y → Passes edge point.x point.y → Contains sorted point
        all_passed place edge point stands newly is_hot passes =
            (same point).1 ((gains point).1
            (⊎_elim (λ end. inl ((flagged.ends point).1 (record { place = place; edge = edge; stands = stands; newly = newly; end = end })))
            (λ none. inr (
              stop_of place edge point.x point.y,
              all_along place edge point stands newly is_hot (passes, none),
              record { edge = edge; stands = stands; is = sym (point-of_stop place edge point.x point.y) },
            ))
            (end_or_not edge point.x point.y)))

        -- and what is told moves edges
        passed_moves : (point : Point) → Contains sorted point → Moves edges point.x point.y
        passed_moves point held = ⊎_elim (λ end. end_moves point ((flagged.ends point).0 end)) (along_moves point) ((gains point).0 ((same point).0 held))

        -- so the round has told all
        pub Spreads-told : (stops : List Stop) → Spreads edges fresh flags stops new_flags ((stops ++ beside) ++ along) sorted
        Spreads-told stops = record {
          found = still_moved;
          keeps = λ place is. (flagged.exact place).1 (inl is);
          keeps_stops = λ stop held. Contains-append_left (stops ++ beside) along stop (Contains-append_left stops beside stop held);
          of = λ stop held. ⊎_elim (λ before. ⊎_elim inl (λ at. inr (fresh_is_stop stop at)) (Contains-append_cases stops beside stop before)) (λ at. inr (along_stop stop at)) (Contains-append_cases (stops ++ beside) along stop held);
          here = λ place edge point stands held passes.
              let stop = stop_of place edge point.x point.y in
              Contains-append_left (stops ++ beside) along stop (Contains-append_right stops beside stop (fresh_stop place edge point stands held passes));
          moved_here = flagged_here;
          along = λ place edge point stands newly is_hot passes. Contains-append_right (stops ++ beside) along (stop_of place edge point.x point.y) (all_along place edge point stands newly is_hot passes);
          passed = all_passed;
          moving = λ k d within. passed_moves (get_or sorted k d) (Contains-get_or sorted k d within);
        }

    -- ---- where no edge is newly flagged

    module _ (none : ended ≡ []) where
      -- each would have told its ends
      no_newly : (place : ℕ) (edge : Edge) → slice_get edges place ≡ Some edge → ¬ (IsNewly flags new_flags place)
      no_newly place edge stands newly =
          let start : Point = record { x = edge.x0; y = edge.y0 } in
          let held = (flagged.ends start).1 (record { place = place; edge = edge; stands = stands; newly = newly; end = inl (refl, refl) }) in
          let (at, within, is) = subst (λ (points : List Point). Contains points start) none held in
          absurd (omega (arith, within))

      -- so nothing that stands alone has a stop
      none_along : (stop : Stop) → Contains [] stop ↔ IsStopAmong alone hot stop
      none_along stop = (
        λ (at, within, is). absurd (omega (arith, within)),
        λ is. let (stands, newly) = of_newly hot stop is in absurd (no_newly is.place is.edge stands newly),
      )

      pub Spreads-none : (stops : List Stop) → Spreads edges fresh flags stops new_flags (stops ++ beside) ended
      Spreads-none stops =
          subst (λ (all : List Stop). Spreads edges fresh flags stops new_flags all ended) (append-nil (stops ++ beside))
          (Spreads-told [] none_along ended ended (gains-none (IsOfSome (IsPointOfStop edges) []) ended (none_of (IsPointOfStop edges))) (λ point. ((λ held. held), (λ held. held))) stops)
