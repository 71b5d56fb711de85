use Rattle.std.proofs.Common.{◌++◌, ◌+◌, List, get_or, length, pos, subst, sym}
use Rattle.std.specs.List.{Contains}
use Rattle.std.proofs.lemmas.Option.{slice_get-get_or}
use Rattle.plane.specs.declared.edge.Edge.{Edge}
use Rattle.plane.specs.Gains.{GainsThese, IsOfSome}
use Rattle.noding.specs.Beside.{IsStopAtOther, StandAlong}
use Rattle.noding.specs.declared.stops.Stop.{Stop}
use Rattle.noding.proofs.ChainLemmas.Copies.{of_run, starts-at, starts-rising}
use Rattle.noding.proofs.ChainLemmas.Passed.{along-run, gains-beside}
use Rattle.noding.proofs.beside.push_stops_of_two.Goals as goal

abbrev none : Edge
none = record { x0 = pos 0; y0 = pos 0; x1 = pos 0; y1 = pos 0 }

pub stops_at-of_one-requires : goal.stops_at-of_one-requires
stops_at-of_one-requires g c = starts-rising (length c.args.edges.now) c.args.stops.now c.args.starts.now c.requires.starts c.args.pair.0 c.requires.within.0

pub stops_at-of_other-requires : goal.stops_at-of_other-requires
stops_at-of_other-requires g c = starts-rising (length c.args.edges.now) c.args.stops.now c.args.starts.now c.requires.starts c.args.pair.1 c.requires.within.1

pub push_stops_passed-requires : goal.push_stops_passed-requires
push_stops_passed-requires g c =
    let edges = c.args.edges.now in
    let stops = c.args.stops.now in
    let starts = c.args.starts.now in
    let place = c.args.pair.1 in
    let (first, last) = starts-at (length edges) stops starts c.requires.starts place c.requires.within.1 in
    subst (StandAlong (get_or edges place none)) (sym c.stops_at-of_other.ensures)
    (along-run edges stops place (get_or starts place 0) (get_or starts (place + 1) 0) (get_or edges place none) (slice_get-get_or edges place none c.requires.within.1) first last c.requires.in_order c.requires.passed)

pub push_stops_passed-requires-2 : goal.push_stops_passed-requires-2
push_stops_passed-requires-2 g c =
    let edges = c.args.edges.now in
    let stops = c.args.stops.now in
    let starts = c.args.starts.now in
    let place = c.args.pair.0 in
    let (first, last) = starts-at (length edges) stops starts c.requires.starts place c.requires.within.0 in
    subst (StandAlong (get_or edges place none)) (sym c.stops_at-of_one.ensures)
    (along-run edges stops place (get_or starts place 0) (get_or starts (place + 1) 0) (get_or edges place none) (slice_get-get_or edges place none c.requires.within.0) first last c.requires.in_order c.requires.passed)

pub returns : goal.returns
returns g c =
    let edges = c.args.edges.now in
    let stops = c.args.stops.now in
    let starts = c.args.starts.now in
    let pair = c.args.pair in
    let one = get_or edges pair.0 none in
    let other = get_or edges pair.1 none in
    let (split, last) = starts-at (length edges) stops starts c.requires.starts pair.0 c.requires.within.0 in
    let (other_split, other_last) = starts-at (length edges) stops starts c.requires.starts pair.1 c.requires.within.1 in
    let now = stops ++ c.push_stops_passed.new.beside.items in
    let gained = subst (λ (others : List Stop). GainsThese (IsOfSome (IsStopAtOther pair.0 one other) others) (stops ++ c.args.beside.now.items) now) c.stops_at-of_other.ensures
    (c.in_ok-push_stops_passed.ensures stops
    (λ stop held. (of_run stops pair.0 (get_or starts pair.0 0) (get_or starts (pair.0 + 1) 0) split last stop (subst (λ (own : List Stop). Contains own stop) c.stops_at-of_one.ensures held)).0)) in
    let more = subst (λ (others : List Stop). GainsThese (IsOfSome (IsStopAtOther pair.1 other one) others) now (stops ++ c.push_stops_passed-2.new.beside.items)) c.stops_at-of_one.ensures
    (c.in_ok-push_stops_passed-2.ensures stops
    (λ stop held. (of_run stops pair.1 (get_or starts pair.1 0) (get_or starts (pair.1 + 1) 0) other_split other_last stop (subst (λ (own : List Stop). Contains own stop) c.stops_at-of_other.ensures held)).0)) in
    gains-beside edges stops pair one other (slice_get-get_or edges pair.0 none c.requires.within.0) (slice_get-get_or edges pair.1 none c.requires.within.1)
    (get_or starts pair.0 0) (get_or starts (pair.0 + 1) 0) (get_or starts pair.1 0) (get_or starts (pair.1 + 1) 0) split last other_split other_last
    (stops ++ c.args.beside.now.items) now (stops ++ c.push_stops_passed-2.new.beside.items) gained more
