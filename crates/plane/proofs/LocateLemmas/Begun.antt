-- Edges of the sweep whose begin is done, and whether their end is.
use Rattle.std.proofs.Common.{◌≡◌, ◌≢◌, ℕ, ◌≤◌, ◌<ℤ◌, List, [], ◌∷◌, ◌++◌, Some, get_or, sym, ap, ◌∙◌, subst, ⊎_elim, arith}
use Rattle.std.specs.List.{All, slice_get}
use Rattle.std.specs.declared.cmp.Ordering.TheVariants.{Less, Greater}
use Rattle.std.proofs.lemmas.Bool.{cases_lt}
use Rattle.std.proofs.lemmas.List.{get_or_default}
use Rattle.std.proofs.lemmas.List.Elements.{All-contains, Contains-append_left}
use Rattle.plane.specs.declared.edge.Edge.{Edge}
use Rattle.plane.specs.declared.point.Point.{Point}
use Rattle.event_queue.specs.declared.Event.{Event}
use Rattle.event_queue.specs.declared.Task.TheVariants.{Begin}
use Rattle.plane.specs.declared.sweep_line.active.ActiveEdge.{ActiveEdge}
use Rattle.plane.specs.SweepLine.Crossings.{Cross, IsCrossing}
use Rattle.plane.specs.SweepLine.Heights.{rightwards}
use Rattle.event_queue.specs.Queue.{StandsAt}
use Rattle.plane.specs.Locate.Events.{CoversSome, ending_of, beginning_of, IsEventOf}
use Rattle.plane.specs.Locate.Serving.{ArePlacesOfCrossing, HaveCrossing}
use Rattle.plane.specs.SweepLine.Active.{Entry, cmp_active}
use Rattle.plane.specs.SweepLine.Begun.{begin_at, end_at, begin_of, end_of, IsOneOf, IsBegun}
use Rattle.event_queue.proofs.QueueLemmas.Done.{done_earlier}
use Rattle.event_queue.proofs.QueueLemmas.Places.{one_item, slice_get-stands}
use Rattle.plane.proofs.LocateLemmas.Events.{is_beginning, is_ending}
use Rattle.plane.proofs.SweepLineLemmas.Exchanged.{greater_from_less}
use Rattle.plane.proofs.SweepLineLemmas.Rightwards.{rightwards-same}
use Rattle.plane.proofs.SweepLineLemmas.Turned.{Cross-turned, uncrossed_itself}
use Rattle.plane.proofs.SweepLineLemmas.Uncrossed.{Cross-exchanged}

-- ---- the edges

pub active_of_parts : (one other : ActiveEdge) → one.edge ≡ other.edge → one.place ≡ other.place → one ≡ other
active_of_parts one other edge place =
    let first : one ≡ record { edge = other.edge; place = one.place } = ap (λ (e : Edge). record { edge = e; place = one.place }) edge in
    let second : record { edge = other.edge; place = one.place } ≡ other = ap (λ (p : ℕ). record { edge = other.edge; place = p }) place in
    first ∙ second

pub end_is : (active : ActiveEdge) (place : ℕ) (edge : Edge) → active.edge ≡ rightwards edge → active.place ≡ place → end_of active ≡ ending_of place edge
end_is active place edge same place_is = ap (λ (e : Edge). end_at active.place e) same ∙ ap (λ (p : ℕ). end_at p (rightwards edge)) place_is

pub begin_is : (active : ActiveEdge) (place : ℕ) (edge : Edge) → active.edge ≡ rightwards edge → active.place ≡ place → begin_of active ≡ beginning_of place edge
begin_is active place edge same place_is = ap (λ (e : Edge). begin_at active.place e) same ∙ ap (λ (p : ℕ). begin_at p (rightwards edge)) place_is

-- none stands before itself
pub never_before_itself : (active : ActiveEdge) → ¬ (cmp_active active active ≡ Less)
never_before_itself active less = let apart : Less ≡ Greater = sym less ∙ greater_from_less active active less in cc

module _ (edges : List Edge) where
  -- each is told by its place
  pub same_active : (one other : ActiveEdge) → IsOneOf edges one → IsOneOf edges other → one.place ≡ other.place → one ≡ other
  same_active one other is is' place =
      active_of_parts one other (is.same ∙ ap rightwards (one_item edges one.place other.place is.edge is'.edge place is.stands is'.stands) ∙ sym is'.same) place

  pub turned : (active : ActiveEdge) (is : IsOneOf edges active) → rightwards active.edge ≡ rightwards is.edge
  turned active is = rightwards-same active.edge is.onwards ∙ is.same

  covers : (active : ActiveEdge) (is : IsOneOf edges active) → CoversSome is.edge
  covers active is = subst (λ (edge : Edge). edge.x0 <ℤ edge.x1) is.same is.onwards

  -- the edge at an event's place, which covers something
  pub edge_at : (active : ActiveEdge) (place : ℕ) (edge d : Edge) → StandsAt edges place edge → active.edge ≡ rightwards (get_or edges place d) → active.edge ≡ rightwards edge
  edge_at active place edge d stands edge_is = edge_is ∙ ap rightwards (get_or_default edges place d edge stands.0 ∙ stands.1)

  pub is_one_of : (active : ActiveEdge) (place : ℕ) (edge : Edge) → StandsAt edges place edge → CoversSome edge → active.edge ≡ rightwards edge → active.place ≡ place → IsOneOf edges active
  is_one_of active place edge stands some same place_is = record {
    edge = edge;
    stands = subst (λ p. StandsAt edges p edge) (sym place_is) stands;
    same = same;
    onwards = subst (λ (e : Edge). e.x0 <ℤ e.x1) (sym same) some;
  }

  -- two of them that cross, at the places that are told
  crossing_at : (one other : ActiveEdge) → IsOneOf edges one → IsOneOf edges other → (i j : ℕ) → i ≤ j → i ≡ one.place → j ≡ other.place → Cross one.edge other.edge → IsCrossing edges i j
  crossing_at one other is is' i j in_order first second cross = record {
    below = ⊎_elim (λ below. below) (λ above. absurd (never (omega (arith, in_order, above)))) (cases_lt i j);
    one = is.edge;
    other = is'.edge;
    first = subst (λ p. slice_get edges p ≡ Some is.edge) (sym first) (slice_get-stands edges one.place is.edge is.stands);
    second = subst (λ p. slice_get edges p ≡ Some is'.edge) (sym second) (slice_get-stands edges other.place is'.edge is'.stands);
    cross = Cross-turned one.edge is.edge other.edge is'.edge (turned one is) (turned other is') cross;
  }
    where
      never : i ≡ j → ⊥
      never at_one =
          let itself : one ≡ other = same_active one other is is' (sym first ∙ at_one ∙ second) in
          uncrossed_itself one.edge (subst (λ (s : ActiveEdge). Cross one.edge s.edge) (sym itself) cross)

  pub IsCrossing-places : (one other : ActiveEdge) → IsOneOf edges one → IsOneOf edges other → (i j : ℕ) → ArePlacesOfCrossing one other i j → IsCrossing edges i j
  IsCrossing-places one other is is' i j told =
      ⊎_elim
      (λ places. crossing_at one other is is' i j told.in_order places.0 places.1 told.cross)
      (λ places. crossing_at other one is' is i j told.in_order places.0 places.1 (Cross-exchanged one.edge other.edge told.cross))
      told.places

  -- entries of edges that have a crossing
  pub IsCrossing-among : (entries : List Entry) → All (λ entry. IsOneOf edges entry.0) entries → (i j : ℕ) → HaveCrossing entries i j → IsCrossing edges i j
  IsCrossing-among entries are i j (one, other, held, other_held, told) =
      IsCrossing-places one.0 other.0
      (All-contains (λ (entry : Entry). IsOneOf edges entry.0) entries one are held)
      (All-contains (λ (entry : Entry). IsOneOf edges entry.0) entries other are other_held) i j told

  -- ---- one more event

  module _ (done : List Event) (event : Event) (active : ActiveEdge) where
    pub IsBegun-more : IsBegun edges done active → IsBegun edges (done ++ event ∷ []) active
    IsBegun-more is = record { one = is.one; begun = Contains-append_left done (event ∷ []) (begin_of active) is.begun }

    -- where it is no begin, all had begun before that have
    pub IsBegun-before : event.task ≢ Begin → IsBegun edges (done ++ event ∷ []) active → IsBegun edges done active
    IsBegun-before none is = record { one = is.one; begun = done_earlier done event (begin_of active) none is.begun }

  -- ---- its events

  module _ (points : List Point) (active : ActiveEdge) (is : IsOneOf edges active) where
    pub begin_known : IsEventOf edges points (begin_of active)
    begin_known = subst (λ (edge : Edge). IsEventOf edges points (begin_at active.place edge)) (sym is.same) (is_beginning edges points active.place is.edge is.stands (covers active is))

    pub end_known : IsEventOf edges points (end_of active)
    end_known = subst (λ (edge : Edge). IsEventOf edges points (end_at active.place edge)) (sym is.same) (is_ending edges points active.place is.edge is.stands (covers active is))
