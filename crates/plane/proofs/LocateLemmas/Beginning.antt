-- How the begin of an edge is served.
use Rattle.std.proofs.Common.{◌≡◌, ◌≢◌, ◌⊎◌, inl, inr, ℕ, ◌<◌, ◌+◌, ℤ, ◌≤ℤ◌, ◌<ℤ◌, List, [], ◌∷◌, ◌++◌, Option, None, Some, length, get_or, take, refl, sym, ap, ◌∙◌, subst, ⊎_elim, arith}
use Rattle.std.specs.List.{All, Contains}
use Rattle.std.proofs.lemmas.Int.{ints}
use Rattle.std.proofs.lemmas.List.Elements.{All-cons, All-weaker, Contains-append_left, Contains-push, Contains-push_cases, filter-append}
use Rattle.i_tree.proofs.RootLemmas.Joined.{Contains-middle}
use Rattle.i_tree.proofs.RootLemmas.Lists.{Without-filter}
use Rattle.i_tree.specs.Root.Along.{AreNeighbours}
use Rattle.i_tree.specs.Root.Change.Without.{keeps}
use Rattle.event_queue.proofs.QueueLemmas.Answers.{Answered-other}
use Rattle.plane.specs.Locate.Answers.{IsPlaceBelow}
use Rattle.plane.specs.declared.edge.Edge.{Edge}
use Rattle.plane.specs.declared.point.Point.{Point}
use Rattle.event_queue.specs.declared.Event.{Event}
use Rattle.event_queue.specs.declared.Task.TheVariants.{End, Begin, Answer}
use Rattle.plane.specs.declared.sweep_line.active.ActiveEdge.{ActiveEdge}
use Rattle.plane.specs.SweepLine.Crossings.{Cross, IsCrossing}
use Rattle.plane.specs.SweepLine.Heights.{rightwards}
use Rattle.event_queue.specs.Queue.{StandsAt, Precedes}
use Rattle.plane.specs.Locate.Events.{CoversSome, beginning_of, IsQueue}
use Rattle.plane.specs.SweepLine.Line.{JoinsAt}
use Rattle.plane.specs.Locate.Serving.{HaveCrossing}
use Rattle.plane.specs.SweepLine.Active.{Entry, cmp_active, is_live_at, live_entries, IsExpiredAt, NotCross}
use Rattle.plane.proofs.SweepLineLemmas.Adjacent.{All-joined}
use Rattle.plane.proofs.SweepLineLemmas.Advance.{advance}
use Rattle.plane.proofs.SweepLineLemmas.Begins.{begin_kept}
use Rattle.plane.specs.SweepLine.Begun.{begin_of, end_of, IsOneOf, IsBegun, HasEnded}
use Rattle.plane.proofs.LocateLemmas.Begun.{same_active, edge_at, is_one_of, begin_is, IsBegun-more, IsCrossing-among}
use Rattle.event_queue.proofs.QueueLemmas.Done.{done_earlier, upto-precedes, precedes, one_more}
use Rattle.plane.proofs.LocateLemmas.Events.{begins_of}
use Rattle.plane.proofs.SweepLineLemmas.Later.{around_more, live-without, Without-append}
use Rattle.plane.specs.SweepLine.Line.{AllLiveAt, BeganBefore, IsLineAt, IsSortedAt}
use Rattle.plane.proofs.LocateLemmas.Swept.{Swept, NoneBehind, line_at, all_live_at, live_is_line, live_are, upto_later}
use Rattle.plane.proofs.SweepLineLemmas.Sorted.{IsSortedAt-line}
use Rattle.plane.proofs.SweepLineLemmas.Turned.{uncrossed_before}

module _ (edges : List Edge) (points : List Point) (events : List Event) (queue : IsQueue edges points events)
    (k : ℕ) (event : Event) (inside : k < length events) (is : event ≡ get_or events k event)
    (stored : List Entry) (answers : List (Option ℕ)) (swept : Swept edges points (take k events) stored answers)
    (d : Edge) (begins : event.task ≡ Begin) (beginning : ActiveEdge) (edge_is : beginning.edge ≡ rightwards (get_or edges event.place d)) (place_is : beginning.place ≡ event.place) where
  whose : (edge : Edge) × StandsAt edges event.place edge × CoversSome edge × (event ≡ beginning_of event.place edge)
  whose = begins_of edges points events queue k event inside is begins

  same : beginning.edge ≡ rightwards whose.0
  same = edge_at edges beginning event.place whose.0 d whose.1 edge_is

  one_of : IsOneOf edges beginning
  one_of = is_one_of edges beginning event.place whose.0 whose.1 whose.2 same place_is

  at_begin : event ≡ begin_of beginning
  at_begin = whose.3 ∙ sym (begin_is beginning event.place whose.0 same place_is)

  here : event.x ≡ beginning.edge.x0
  here = ap (λ (e : Event). e.x) at_begin

  no_end : event.task ≢ End
  no_end ends = let apart : Begin ≡ End = sym begins ∙ ends in cc

  no_answer : event.task ≢ Answer
  no_answer answers_now = let apart : Begin ≡ Answer = sym begins ∙ answers_now in cc

  -- the line as it stands, which is what is live
  now : IsLineAt beginning.edge.x0 swept.line
  now = line_at edges points events queue k event inside is stored answers swept beginning.edge.x0 here

  all_live : AllLiveAt beginning.edge.x0 swept.line
  all_live = all_live_at edges points events queue k event inside is stored answers swept beginning.edge.x0 here no_end

  is_line : live_entries beginning.edge.x0 stored ≡ swept.line
  is_line = live_is_line edges points events queue k event inside is stored answers swept beginning.edge.x0 here no_end

  -- it begins last
  last : All (λ entry. BeganBefore entry.0 beginning) swept.line
  last =
      All-weaker (λ (entry : Entry). IsBegun edges (take k events) entry.0 × ¬ (HasEnded (take k events) entry.0)) (λ entry. BeganBefore entry.0 beginning)
      (λ entry which. let begun = which.0 in subst (Precedes (begin_of entry.0)) at_begin (precedes queue k event inside is (begin_of entry.0) begun.begun))
      swept.line swept.of

  begun : IsBegun edges (take k events ++ event ∷ []) beginning
  begun = record { one = one_of; begun = subst (Contains (take k events ++ event ∷ [])) at_begin (Contains-push (take k events) event) }

  -- what has ended did so at this x or before it
  ended_upto : (active : ActiveEdge) → HasEnded (take k events) active → active.edge.x1 ≤ℤ beginning.edge.x0
  ended_upto active has =
      subst (λ (x : ℤ). active.edge.x1 ≤ℤ x) here
      (upto-precedes (end_of active) event (precedes queue k event inside is (end_of active) has))

  not_ended : ¬ (HasEnded (take k events ++ event ∷ []) beginning)
  not_ended has =
      let before = ended_upto beginning (done_earlier (take k events) event (end_of beginning) no_end has) in
      let some = one_of.onwards in
      omega (arith, ints, before, some)

  begun_cases : (active : ActiveEdge) → IsBegun edges (take k events ++ event ∷ []) active → IsBegun edges (take k events) active ⊎ (beginning ≡ active)
  begun_cases active is' =
      ⊎_elim
      (λ before. inl (record { one = is'.one; begun = before }))
      (λ this. inr (same_active edges beginning active one_of is'.one (ap (λ (e : Event). e.place) (sym at_begin ∙ this))))
      (Contains-push_cases (take k events) event (begin_of active) is'.begun)

  still : (entry : Entry) → IsBegun edges (take k events) entry.0 × ¬ (HasEnded (take k events) entry.0)
      → IsBegun edges (take k events ++ event ∷ []) entry.0 × ¬ (HasEnded (take k events ++ event ∷ []) entry.0)
  still entry (is', not_yet) = (IsBegun-more edges (take k events) event entry.0 is', λ has. not_yet (done_earlier (take k events) event (end_of entry.0) no_end has))

  -- what has ended doesn't cross it
  uncrossed : (one : ActiveEdge) → IsBegun edges (take k events) one → HasEnded (take k events) one → ¬ (Cross one.edge beginning.edge)
  uncrossed one is' has =
      let first = is'.one in
      uncrossed_before one.edge beginning.edge first.onwards one_of.onwards (ended_upto one has)

  module _ (after : List Entry) (found : Option Entry × Option Entry) (are : AreNeighbours (λ other. cmp_active other beginning) (live_entries beginning.edge.x0 stored) found)
      (apart_below : NotCross found.0 (Some (beginning, tt))) (apart_above : NotCross (Some (beginning, tt)) found.1) (joins : JoinsAt beginning.edge.x0 (beginning, tt) stored after) where
    abbrev below : List Entry
    below = live_entries beginning.edge.x0 joins.front

    abbrev above : List Entry
    above = live_entries beginning.edge.x0 joins.back

    parts : swept.line ≡ below ++ above
    parts =
        sym is_line
        ∙ live-without beginning.edge.x0 beginning.edge.x0 (omega (arith, ints)) joins.kept
        ∙ filter-append (is_live_at beginning.edge.x0) joins.front joins.back

    joined : IsLineAt beginning.edge.x0 (below ++ (beginning, tt) ∷ above)
    joined =
        begin_kept beginning.edge.x0 swept.line (beginning, tt) now refl one_of.onwards below above parts joins.below joins.above found
        (subst (λ (entries : List Entry). AreNeighbours (λ other. cmp_active other beginning) entries found) is_line are) apart_below apart_above

    upto : (later : ℤ) → NoneBehind (take k events ++ event ∷ []) later → beginning.edge.x0 ≤ℤ later
    upto later none = upto_later edges points events queue k event inside is stored answers swept beginning.edge.x0 here later none

    of : All (λ entry. IsBegun edges (take k events ++ event ∷ []) entry.0 × ¬ (HasEnded (take k events ++ event ∷ []) entry.0)) (below ++ (beginning, tt) ∷ above)
    of =
        All-joined (λ (entry : Entry). IsBegun edges (take k events ++ event ∷ []) entry.0 × ¬ (HasEnded (take k events ++ event ∷ []) entry.0)) below (beginning, tt) above
        (subst (All (λ (entry : Entry). IsBegun edges (take k events ++ event ∷ []) entry.0 × ¬ (HasEnded (take k events ++ event ∷ []) entry.0))) parts
        (All-weaker (λ (entry : Entry). IsBegun edges (take k events) entry.0 × ¬ (HasEnded (take k events) entry.0))
        (λ entry. IsBegun edges (take k events ++ event ∷ []) entry.0 × ¬ (HasEnded (take k events ++ event ∷ []) entry.0)) still swept.line swept.of))
        (begun, not_ended)

    each : (active : ActiveEdge) → IsBegun edges (take k events ++ event ∷ []) active → HasEnded (take k events ++ event ∷ []) active ⊎ Contains (below ++ (beginning, tt) ∷ above) (active, tt)
    each active is' =
        ⊎_elim
        (λ before. ⊎_elim
        (λ has. inl (Contains-append_left (take k events) (event ∷ []) (end_of active) has))
        (λ held. inr (around_more below (beginning, tt) above (active, tt) (subst (λ (entries : List Entry). Contains entries (active, tt)) parts held)))
        (swept.each active before))
        (λ this. inr (subst (λ (s : ActiveEdge). Contains (below ++ (beginning, tt) ∷ above) (s, tt)) this (Contains-middle below (beginning, tt) above)))
        (begun_cases active is')

    live_later : (later : ℤ) → NoneBehind (take k events ++ event ∷ []) later → live_entries later after ≡ live_entries later (below ++ (beginning, tt) ∷ above)
    live_later later none =
        ap (live_entries later) joins.place
        ∙ live-without beginning.edge.x0 later (upto later none)
        (Without-append {MayGo = IsExpiredAt beginning.edge.x0} (Without-filter (is_live_at beginning.edge.x0) joins.front)
        (keeps (beginning, tt) (Without-filter (is_live_at beginning.edge.x0) joins.back)))

    ended : (one other : ActiveEdge) → IsBegun edges (take k events ++ event ∷ []) one → IsBegun edges (take k events ++ event ∷ []) other → HasEnded (take k events ++ event ∷ []) one → ¬ (Cross one.edge other.edge)
    ended one other is' is'' has cross =
        let before = done_earlier (take k events) event (end_of one) no_end has in
        ⊎_elim
        (λ one_begun. ⊎_elim
        (λ other_begun. swept.ended one other one_begun other_begun before cross)
        (λ this. uncrossed one one_begun before (subst (λ (s : ActiveEdge). Cross one.edge s.edge) (sym this) cross))
        (begun_cases other is''))
        (λ this. not_ended (subst (λ (s : ActiveEdge). HasEnded (take k events ++ event ∷ []) s) (sym this) has))
        (begun_cases one is')

    served : Swept edges points (take k events ++ event ∷ []) after answers
    served = record {
      line = below ++ (beginning, tt) ∷ above;
      of = of;
      each = each;
      in_line = λ later none ends. advance beginning.edge.x0 later (below ++ (beginning, tt) ∷ above) (upto later none) ends joined;
      live = live_later;
      ended = ended;
      answered = Answered-other (IsPlaceBelow edges) None points (take k events) answers swept.answered event no_answer;
    }

  -- it goes to the right
  pub begin_onwards : beginning.edge.x0 <ℤ beginning.edge.x1
  begin_onwards = one_of.onwards

  -- what is live is sorted, and began before it
  pub begin_sorted : IsSortedAt beginning.edge.x0 (live_entries beginning.edge.x0 stored)
  begin_sorted = subst (IsSortedAt beginning.edge.x0) (sym is_line) (IsSortedAt-line beginning.edge.x0 swept.line now all_live)

  pub begin_last : All (λ entry. BeganBefore entry.0 beginning) (live_entries beginning.edge.x0 stored)
  begin_last = subst (All (λ (entry : Entry). BeganBefore entry.0 beginning)) (sym is_line) last

  -- live ones, or it and a live one, that cross are edges that do
  pub begin_crossing : (i j : ℕ) → HaveCrossing ((beginning, tt) ∷ live_entries beginning.edge.x0 stored) i j → IsCrossing edges i j
  begin_crossing i j among =
      IsCrossing-among edges ((beginning, tt) ∷ live_entries beginning.edge.x0 stored)
      (All-cons (λ (entry : Entry). IsOneOf edges entry.0) (beginning, tt) (live_entries beginning.edge.x0 stored) one_of
      (live_are edges points events queue k event inside is stored answers swept beginning.edge.x0 here)) i j among

  -- where it crosses neither of the two beside it, it is served
  pub Swept-begun : (after : List Entry) (found : Option Entry × Option Entry) → AreNeighbours (λ other. cmp_active other beginning) (live_entries beginning.edge.x0 stored) found
      → NotCross found.0 (Some (beginning, tt)) → NotCross (Some (beginning, tt)) found.1 → JoinsAt beginning.edge.x0 (beginning, tt) stored after
      → Swept edges points (take (k + 1) events) after answers
  Swept-begun after found are apart_below apart_above joins =
      subst (λ done. Swept edges points done after answers) (sym (one_more queue k event inside is))
      (served after found are apart_below apart_above joins)
