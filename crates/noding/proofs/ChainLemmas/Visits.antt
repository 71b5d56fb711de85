-- The visits of edges that aren't flagged.
use Rattle.std.proofs.Common.{◌≡◌, ◌++◌, ◌∷◌, ◌+◌, ◌<◌, [], ℕ, Bool, true, false, List, Some, get_or, inl, inr, length, sym, subst, take, ap, ◌∙◌, ⊎_elim, arith}
use Rattle.std.specs.List.{All, Contains, slice_get}
use Rattle.std.specs.List.Sorted.{IsPermutation}
use Rattle.std.proofs.lemmas.List.{take_more}
use Rattle.std.proofs.lemmas.List.Elements.{All-contains, All-push, Contains-append_left, Contains-get_or, Contains-push, Contains-push_cases}
use Rattle.std.proofs.lemmas.List.Sorted.{Contains-permutation, IsPermutation-sym}
use Rattle.std.proofs.lemmas.Option.{same_Some, slice_get-get_or, slice_get_within}
use Rattle.plane.specs.declared.edge.Edge.{Edge}
use Rattle.plane.specs.declared.point.Point.{Point}
use Rattle.plane.specs.Meet.Kinds.{HasPoint}
use Rattle.noding.specs.Chains.{IsHot, Passes}
use Rattle.noding.specs.Moving.{AppendsUnlessKept, AreVisits, HasVisit, IsVisit, IsVisitOf}
use Rattle.noding.specs.Stops.{AreStops, IsKept, point_of, stop_of}
use Rattle.noding.specs.declared.moved.Visit.{Visit}
use Rattle.noding.specs.declared.stops.Stop.{Stop}
use Rattle.noding.proofs.ChainLemmas.Local.{has_end}
use Rattle.noding.proofs.ChainLemmas.Stops.{point-of_stop}

-- They have one of each of the stops that doesn't lie on its edge, where this isn't flagged.
pub record AreVisitsOf (edges : List Edge) (flags : List Bool) (stops : List Stop) (visits : List Visit) : Type 0 where
  pub each : (stop : Stop) (edge : Edge) → Contains stops stop → slice_get edges stop.place ≡ Some edge → ¬ (IsKept edge (get_or flags stop.place false) stop) → HasVisit visits stop.place (point_of edge stop)
  pub of : All (IsVisit edges) visits

-- at no stop there are none
pub visits-none : (edges : List Edge) (flags : List Bool) → AreVisitsOf edges flags [] []
visits-none edges flags = record {
  each = λ stop edge (k, within, is). absurd (omega (arith, within));
  of = λ k d within. absurd (omega (arith, within));
}

HasVisit-more : (visits more : List Visit) (place : ℕ) (point : Point) → HasVisit visits place point → HasVisit (visits ++ more) place point
HasVisit-more visits more place point (visit, held, at, is) = (visit, Contains-append_left visits more visit held, at, is)

module _ (edges : List Edge) (stops : List Stop) (are : AreStops edges stops) (k : ℕ) (d : Edge) (e : Stop) (within : k < length stops) (inside : (get_or stops k e).place < length edges) (flags : List Bool) (now after : List Visit) (so_far : AreVisitsOf edges flags (take k stops) now) where
  abbrev last : Stop
  last = get_or stops k e

  abbrev own : Edge
  own = get_or edges last.place d

  abbrev flag : Bool
  flag = get_or flags last.place false

  own_is : (edge : Edge) → slice_get edges last.place ≡ Some edge → own ≡ edge
  own_is edge stands = same_Some _ _ (sym (slice_get-get_or edges last.place d inside) ∙ stands)

  -- the edge passes the point of the stop
  passes_last : Passes own (point_of own last).x (point_of own last).y
  passes_last =
      let is = are.of k e within in
      subst (λ (edge : Edge). Passes edge (point_of edge last).x (point_of edge last).y) (sym (own_is is.edge is.stands)) is.node.1

  left_out : IsKept own flag last → AreVisitsOf edges flags (take k stops ++ last ∷ []) now
  left_out kept = record {
    each = λ stop edge held stands none. ⊎_elim
        (λ earlier. so_far.each stop edge earlier stands none)
        (λ same. absurd (none (there stop edge same stands)))
        (Contains-push_cases (take k stops) last stop held);
    of = so_far.of;
  }
    where
      there : (stop : Stop) (edge : Edge) → last ≡ stop → slice_get edges stop.place ≡ Some edge → IsKept edge (get_or flags stop.place false) stop
      there stop edge same stands =
          let is = own_is edge (ap (λ (s : Stop). slice_get edges s.place) same ∙ stands) in
          subst (λ (s : Stop). IsKept edge (get_or flags s.place false) s) same (subst (λ (it : Edge). IsKept it flag last) is kept)

  one_more : ¬ (IsKept own flag last) → (visit : Visit) → IsVisitOf own last visit → AreVisitsOf edges flags (take k stops ++ last ∷ []) (now ++ visit ∷ [])
  one_more none visit is = record {
    each = λ stop edge held stands told. ⊎_elim
        (λ earlier. HasVisit-more now (visit ∷ []) stop.place (point_of edge stop) (so_far.each stop edge earlier stands told))
        (λ same. there stop edge same stands)
        (Contains-push_cases (take k stops) last stop held);
    of = All-push (IsVisit edges) now visit so_far.of (record {
      edge = own;
      stands = ap (λ (n : ℕ). slice_get edges n) is.at ∙ slice_get-get_or edges last.place d inside;
      passes = subst (λ (p : Point). Passes own p.x p.y) (sym is.is) passes_last;
      beside = λ on. none (inl (subst (λ (p : Point). HasPoint own p.x p.y) is.is on));
      numbered = is.numbered;
      fits = is.fits;
    });
  }
    where
      there : (stop : Stop) (edge : Edge) → last ≡ stop → slice_get edges stop.place ≡ Some edge → HasVisit (now ++ visit ∷ []) stop.place (point_of edge stop)
      there stop edge same stands =
          let its = own_is edge (ap (λ (s : Stop). slice_get edges s.place) same ∙ stands) in (
            visit,
            Contains-push now visit,
            is.at ∙ ap (λ (s : Stop). s.place) same,
            is.is ∙ ap (λ (it : Edge). point_of it last) its ∙ ap (λ (s : Stop). point_of edge s) same,
          )

  -- at one more stop
  pub visits-more : AppendsUnlessKept own flag last now after → AreVisitsOf edges flags (take (k + 1) stops) after
  visits-more (inl (kept, same)) =
      subst (λ (done : List Stop). AreVisitsOf edges flags done after) (sym (take_more stops k e within))
      (subst (AreVisitsOf edges flags (take k stops ++ last ∷ [])) (sym same) (left_out kept))
  visits-more (inr (none, (visit, is, pushed))) =
      subst (λ (done : List Stop). AreVisitsOf edges flags done after) (sym (take_more stops k e within))
      (subst (AreVisitsOf edges flags (take k stops ++ last ∷ [])) (sym pushed) (one_more none visit is))

-- Of all stops they are all visits of edges that aren't flagged: ends lie on their edges, and all else that is hot and that an
-- edge passes has its stop.
pub AreVisits-stops : (edges : List Edge) (flags : List Bool) (stops : List Stop) (visits : List Visit) → AreStops edges stops → AreVisitsOf edges flags stops visits → AreVisits edges flags visits
AreVisits-stops edges flags stops visits are told = record { each = each; of = told.of }
  where
    each : (place : ℕ) (edge : Edge) (point : Point) → slice_get edges place ≡ Some edge → get_or flags place false ≡ false → IsHot edges point.x point.y → Passes edge point.x point.y → ¬ (HasPoint edge point.x point.y) → HasVisit visits place point
    each place edge point stands unflagged hot passes beside =
        let stop = stop_of place edge point.x point.y in
        let is = point-of_stop place edge point.x point.y in
        let held = are.each place edge point.x point.y stands (hot, passes) (passes, λ end. beside (has_end edge point.x point.y end)) in
        subst (HasVisit visits place) is
        (told.each stop edge held stands (λ kept. ⊎_elim (λ on. beside (subst (λ (p : Point). HasPoint edge p.x p.y) is on)) (λ flagged. set_unset (get_or flags place false) flagged unflagged) kept))
      where
        set_unset : (flag : Bool) → flag ≡ true → flag ≡ false → ⊥
        set_unset true is none = cc
        set_unset false is none = cc

-- in whatever order they stand
pub AreVisits-permutation : (edges : List Edge) (flags : List Bool) (visits sorted : List Visit) → AreVisits edges flags visits → IsPermutation visits sorted → AreVisits edges flags sorted
AreVisits-permutation edges flags visits sorted told moved = record {
  each = λ place edge point stands unflagged hot passes beside.
      let (visit, held, at, is) = told.each place edge point stands unflagged hot passes beside in
      (visit, Contains-permutation visits sorted visit moved held, at, is);
  of = λ k d within. All-contains (IsVisit edges) visits (get_or sorted k d) told.of (Contains-permutation sorted visits (get_or sorted k d) (IsPermutation-sym visits sorted moved) (Contains-get_or sorted k d within));
}

-- their edges are among these
pub visits-within : (edges : List Edge) (visits : List Visit) → All (IsVisit edges) visits → All (λ visit. visit.place < length edges) visits
visits-within edges visits of k d within = let is = of k d within in slice_get_within edges (get_or visits k d).place is.edge is.stands
