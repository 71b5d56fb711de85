-- Edges that are moved are told in rounds, from fresh points to edges and from these to the next fresh points, until there are
-- none.
use Rattle.std.proofs.Common.{◌≡◌, ◌⊎◌, ◌∙◌, ap, inl, inr, refl, subst, sym, ⊎_elim, arith, Bool, true, false, ℕ, ℤ, ◌≤◌, List, [], ◌++◌, Some, get_or, length, replicate}
use Rattle.std.specs.List.{All, Contains, slice_get}
use Rattle.std.proofs.lemmas.Bool.{cases_lt, false≢true}
use Rattle.std.proofs.lemmas.List.{get_or-replicate, get_or_past, length-replicate}
use Rattle.std.proofs.lemmas.List.Elements.{Contains-append_left, Contains-append_right, Contains-append_cases, Contains-get_or}
use Rattle.std.proofs.lemmas.Option.{same_Some}
use Rattle.plane.specs.declared.edge.Edge.{Edge}
use Rattle.plane.specs.declared.point.Point.{Point}
use Rattle.plane.specs.Meet.Kinds.{HasPoint}
use Rattle.plane.proofs.GainsLemmas.{place-of}
use Rattle.plane.proofs.PointLemmas.{whole_point}
use Rattle.noding.specs.Chains.{IsHot, Passes}
use Rattle.noding.specs.Close.{PassesPoint}
use Rattle.noding.specs.Columns.Rounds.{AreFlaggedMoved, AreSpreadStops, IsNewly, Spreads}
use Rattle.noding.specs.Local.{AreFirst, AreMoved, IsMoved, Moves, MovesInRound, PassesBeside}
use Rattle.noding.specs.Stops.{IsStop, stop_of}
use Rattle.noding.specs.declared.stops.Stop.{Stop}
use Rattle.noding.proofs.ChainLemmas.Spreading.{AreMoved-places}
use Rattle.noding.proofs.SnapLemmas.Local.{moves-least}

-- The points that are done have moved what they move, and edges that are flagged have told their points, which are done or fresh.
pub record IsInRounds (edges : List Edge) (done fresh : List Point) (flags : List Bool) (stops : List Stop) : Type 0 where
  pub found : AreFlaggedMoved edges flags
  pub moving : All (λ point. Moves edges point.x point.y) fresh
  pub first : (point : Point) → MovesInRound edges 0 point.x point.y → Contains done point ⊎ Contains fresh point
  pub of : (stop : Stop) → Contains stops stop → IsStop edges stop
  pub here : (place : ℕ) (edge : Edge) (point : Point) → slice_get edges place ≡ Some edge → Contains done point → PassesPoint edge point → Contains stops (stop_of place edge point.x point.y)
  pub moved_here : (place : ℕ) (edge : Edge) (point : Point) → slice_get edges place ≡ Some edge → Contains done point → Passes edge point.x point.y → ¬ (HasPoint edge point.x point.y) → get_or flags place false ≡ true
  pub along : (place : ℕ) (edge : Edge) (point : Point) → slice_get edges place ≡ Some edge → get_or flags place false ≡ true → IsHot edges point.x point.y → PassesPoint edge point → Contains stops (stop_of place edge point.x point.y)
  pub passed : (place : ℕ) (edge : Edge) (point : Point) → slice_get edges place ≡ Some edge → get_or flags place false ≡ true → IsHot edges point.x point.y → Passes edge point.x point.y → Contains done point ⊎ Contains fresh point

-- what moves edges in the first round is fresh to begin with
pub rounds-begin : (edges : List Edge) (fresh : List Point) (flags : List Bool) (stops : List Stop) → AreFirst edges fresh → flags ≡ replicate (length edges) false → stops ≡ [] → IsInRounds edges [] fresh flags stops
rounds-begin edges fresh flags stops first none empty = record {
  found = record { size = ap length none ∙ length-replicate (length edges) false; moved = λ place is. absurd (unflagged place is) };
  moving = λ k d within. (0, (first (get_or fresh k d)).0 (Contains-get_or fresh k d within));
  first = λ point moves. inr ((first point).1 moves);
  of = λ stop held. absurd (nothing (subst (λ (list : List Stop). Contains list stop) empty held));
  here = λ place edge point stands held. absurd (nothing held);
  moved_here = λ place edge point stands held. absurd (nothing held);
  along = λ place edge point stands is. absurd (unflagged place is);
  passed = λ place edge point stands is. absurd (unflagged place is);
}
  where
    nothing : {X : Type 0} {x : X} → ¬ (Contains [] x)
    nothing (at, within, is) = absurd (omega (arith, within))

    all_false : (place : ℕ) → get_or (replicate (length edges) false) place false ≡ false
    all_false place =
        ⊎_elim (get_or-replicate (length edges) place false false) (λ upto. get_or_past (replicate (length edges) false) place false (subst (λ (n : ℕ). n ≤ place) (sym (length-replicate (length edges) false)) upto))
        (cases_lt place (length edges))

    unflagged : (place : ℕ) → ¬ (get_or flags place false ≡ true)
    unflagged place is = absurd (false≢true (sym (ap (λ (list : List Bool). get_or list place false) none ∙ all_false place) ∙ is))

module _ (edges : List Edge) (done fresh : List Point) (flags : List Bool) (stops : List Stop) (are : IsInRounds edges done fresh flags stops) where
  -- one round, of the fresh points as they are given
  module _ (given : List Point) (same : given ≡ fresh) (new_flags : List Bool) (new_stops : List Stop) (points : List Point) (told : Spreads edges given flags stops new_flags new_stops points) where
    spreads : Spreads edges fresh flags stops new_flags new_stops points
    spreads = subst (λ (list : List Point). Spreads edges list flags stops new_flags new_stops points) same told

    -- what was done or fresh is done now
    now_done : (point : Point) → Contains done point ⊎ Contains fresh point → Contains (done ++ fresh) point
    now_done point = ⊎_elim (Contains-append_left done fresh point) (Contains-append_right done fresh point)

    was_or_newly : (place : ℕ) → get_or new_flags place false ≡ true → (get_or flags place false ≡ true) ⊎ IsNewly flags new_flags place
    was_or_newly place is = go (get_or flags place false) refl
      where
        go : (flag : Bool) → get_or flags place false ≡ flag → (get_or flags place false ≡ true) ⊎ IsNewly flags new_flags place
        go true was = inl was
        go false was = inr (was, is)

    pub rounds-next : IsInRounds edges (done ++ fresh) points new_flags new_stops
    rounds-next = record {
      found = spreads.found;
      moving = spreads.moving;
      first = λ point moves. inl (now_done point (are.first point moves));
      of = λ stop held. ⊎_elim (are.of stop) (λ is. is) (spreads.of stop held);
      here = λ place edge point stands held passes.
          ⊎_elim (λ earlier. spreads.keeps_stops (stop_of place edge point.x point.y) (are.here place edge point stands earlier passes)) (λ now. spreads.here place edge point stands now passes)
          (Contains-append_cases done fresh point held);
      moved_here = λ place edge point stands held passes beside.
          ⊎_elim (λ earlier. spreads.keeps place (are.moved_here place edge point stands earlier passes beside)) (λ now. spreads.moved_here place edge point stands now passes beside)
          (Contains-append_cases done fresh point held);
      along = λ place edge point stands is hot passes.
          ⊎_elim (λ was. spreads.keeps_stops (stop_of place edge point.x point.y) (are.along place edge point stands was hot passes)) (λ newly. spreads.along place edge point stands newly hot passes)
          (was_or_newly place is);
      passed = λ place edge point stands is hot passes.
          ⊎_elim (λ was. inl (now_done point (are.passed place edge point stands was hot passes))) (λ newly. inr (spreads.passed place edge point stands newly hot passes))
          (was_or_newly place is);
    }

  -- where no point is fresh
  module _ (none : fresh ≡ []) where
    is_done : (point : Point) → Contains done point ⊎ Contains fresh point → Contains done point
    is_done point (inl held) = held
    is_done point (inr held) = let (at, within, is) = subst (λ (list : List Point). Contains list point) none held in absurd (omega (arith, within))

    -- an edge that passes a point that is done beside it is flagged
    done_moved : (place : ℕ) (edge : Edge) → slice_get edges place ≡ Some edge → PassesBeside (λ x y. Contains done (whole_point x y)) edge → get_or flags place false ≡ true
    done_moved place edge stands (x, y, held, passes, beside) = are.moved_here place edge (whole_point x y) stands held passes beside

    -- and so are all points that move edges
    all_done : (x y : ℤ) → Moves edges x y → Contains done (whole_point x y)
    all_done =
        moves-least edges (λ x y. Contains done (whole_point x y)) (λ one other x y among other_among cross. is_done (whole_point x y) (are.first (whole_point x y) (one, other, among, other_among, cross)))
        (λ edge x y among beside hot passes.
        let (place, stands) = place-of edges edge among in
        is_done (whole_point x y) (are.passed place edge (whole_point x y) stands (done_moved place edge stands beside) hot passes))

    -- so the flags tell which edges are moved
    pub AreMoved-rounds : (d : Edge) → AreMoved edges flags
    AreMoved-rounds d =
        AreMoved-places edges d flags are.found.size
        (λ k edge stands is. let own = are.found.moved k is in subst (IsMoved edges) (same_Some _ _ (sym own.stands ∙ stands)) own.moved)
        (λ k edge stands (x, y, moves, passes, beside). done_moved k edge stands (x, y, all_done x y moves, passes, beside))

    -- and the stops are there
    pub AreSpreadStops-rounds : AreSpreadStops edges flags stops
    AreSpreadStops-rounds = record {
      of = λ k d within. are.of (get_or stops k d) (Contains-get_or stops k d within);
      moved = are.along;
      first = λ place edge point stands moves passes. are.here place edge point stands (is_done point (are.first point moves)) passes;
    }
