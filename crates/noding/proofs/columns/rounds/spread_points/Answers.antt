use Rattle.std.proofs.Common.{◌≡◌, ◌<◌, ◌++◌, ◌∙◌, ap, arith, subst, subst₂, sym, ℕ, Bool, List, [], length}
use Rattle.std.specs.Bool.{◌==◌}
use Rattle.std.specs.List.{All}
use Rattle.plane.specs.declared.edge.Edge.{Edge}
use Rattle.plane.specs.declared.point.Point.{Point}
use Rattle.plane.specs.Gains.{GainsThese, IsOfSome}
use Rattle.noding.specs.Columns.Rounds.{Flags, IsPointOfStop, IsWithin, Spreads}
use Rattle.noding.specs.Stops.{IsStopAmong}
use Rattle.noding.specs.declared.stops.Stop.{Stop}
use Rattle.noding.proofs.ChainLemmas.Spreading.{empty-told, lent-back}
use Rattle.noding.proofs.ColumnLemmas.Spreads.{Spreads-none, Spreads-told, told-among, told-near, within-among}
use Rattle.noding.proofs.columns.rounds.spread_points.Goals as goal

pub flag_beside-requires-clause-within : goal.flag_beside-requires-clause-within
flag_beside-requires-clause-within g c =
    let edges = c.args.edges.now in
    let fresh = c.args.fresh.now in
    let beside = c.push_stops_at_points.new.stops.items in
    let told = told-among edges fresh c.new-beside.result.items beside c.new-beside.ensures.items c.in_ok-push_stops_at_points.ensures.ok in
    subst (All (λ (stop : Stop). stop.place < length edges)) (sym c.deref-2.ensures.value) (within-among edges fresh beside told)

pub returns-then-is_empty-clause-ok : goal.returns-then-is_empty-clause-ok
returns-then-is_empty-clause-ok g c =
    let edges = c.args.edges.now in
    let fresh = c.args.fresh.now in
    let flags = c.args.spread.now.flags.items in
    let new_flags = c.flag_beside.new.flags in
    let stops = c.args.spread.now.stops.items in
    let beside = c.push_stops_at_points.new.stops.items in
    let alone = c.in_ok-alone.field-0.alone.items in
    let ended = c.in_ok-alone.field-0.passed.items in
    let told = told-among edges fresh c.new-beside.result.items beside c.new-beside.ensures.items c.in_ok-push_stops_at_points.ensures.ok in
    let flagged : Flags edges beside flags new_flags alone ended =
    subst₂ (λ (list : List Stop) (before : List Bool). Flags edges list before new_flags alone ended) c.deref-2.ensures.value c.deref_mut.ensures.value c.in_ok-alone.ensures in
    let made = c.args.spread.now.flags.ok.0 in
    let same = flagged.size in
    let size : length new_flags ≡ c.args.spread.now.flags.len = omega (arith, same, made) in
    let appended : c.extend_from_slice.new.self.items ≡ stops ++ beside = c.in_ok-extend_from_slice.ensures.items ∙ ap (λ (list : List Stop). stops ++ list) c.deref.ensures.value in
    let counted = c.in_ok-alone.field-0.passed.ok.0 in
    let long : c.in_ok-alone.field-0.passed.len ≡ length ended = omega (arith, counted) in
    let none : ended ≡ [] = empty-told ended c.is_empty.result (c.is_empty.ensures ∙ ap (λ (n : ℕ). n == 0) long) c.if-is_empty.true in
    subst₂ (λ (told_flags : List Bool) (told_stops : List Stop). Spreads edges fresh flags stops told_flags told_stops ended) (sym (lent-back c.args.spread.now.flags.len new_flags flags size)) (sym appended)
    (Spreads-none edges fresh beside flags new_flags alone ended told flagged c.requires.fresh c.requires.found c.args.hot.now c.requires.hot none stops)

pub push_points_of-requires : goal.push_points_of-requires
push_points_of-requires g c =
    let hot = c.args.hot.now in
    let alone = c.in_ok-alone.field-0.alone.items in
    let along = c.push_stops_at_points-2.new.stops.items in
    let near = c.in_ok-near.near.items in
    let gains = subst₂ (λ (list : List Edge) (points : List Point). GainsThese (IsStopAmong list points) c.new-along.result.items along) c.deref-4.ensures.value c.deref-5.ensures.value c.in_ok-push_stops_at_points-2.ensures.ok in
    let told = told-among alone near c.new-along.result.items along c.new-along.ensures.items gains in
    subst₂ (λ (count : ℕ) (list : List Stop). All (λ (stop : Stop). stop.place < count) list) c.in_ok-alone.ensures.alone_size (sym c.deref-7.ensures.value) (within-among alone near along told)

pub returns-clause-ok : goal.returns-clause-ok
returns-clause-ok g c =
    let edges = c.args.edges.now in
    let hot = c.args.hot.now in
    let fresh = c.args.fresh.now in
    let flags = c.args.spread.now.flags.items in
    let new_flags = c.flag_beside.new.flags in
    let stops = c.args.spread.now.stops.items in
    let beside = c.push_stops_at_points.new.stops.items in
    let alone = c.in_ok-alone.field-0.alone.items in
    let ended = c.in_ok-alone.field-0.passed.items in
    let along = c.push_stops_at_points-2.new.stops.items in
    let gained = c.push_points_of.new.points.items in
    let sorted = c.sort_points.new.points.items in
    let told = told-among edges fresh c.new-beside.result.items beside c.new-beside.ensures.items c.in_ok-push_stops_at_points.ensures.ok in
    let flagged : Flags edges beside flags new_flags alone ended =
    subst₂ (λ (list : List Stop) (before : List Bool). Flags edges list before new_flags alone ended) c.deref-2.ensures.value c.deref_mut.ensures.value c.in_ok-alone.ensures in
    let made = c.args.spread.now.flags.ok.0 in
    let same = flagged.size in
    let size : length new_flags ≡ c.args.spread.now.flags.len = omega (arith, same, made) in
    let first : c.extend_from_slice.new.self.items ≡ stops ++ beside = c.in_ok-extend_from_slice.ensures.items ∙ ap (λ (list : List Stop). stops ++ list) c.deref.ensures.value in
    let appended : c.extend_from_slice-2.new.self.items ≡ (stops ++ beside) ++ along =
    c.in_ok-extend_from_slice-2.ensures.items ∙ ap (λ (list : List Stop). c.extend_from_slice.new.self.items ++ list) c.deref-6.ensures.value ∙ ap (λ (list : List Stop). list ++ along) first in
    let near = c.in_ok-near.near.items in
    let gains = subst₂ (λ (list : List Edge) (points : List Point). GainsThese (IsStopAmong list points) c.new-along.result.items along) c.deref-4.ensures.value c.deref-5.ensures.value c.in_ok-push_stops_at_points-2.ensures.ok in
    let told_near = told-among alone near c.new-along.result.items along c.new-along.ensures.items gains in
    let (around, holds, chosen) = c.in_ok-near.ensures in
    let holds_ended = subst (All (IsWithin around)) c.deref-3.ensures.value holds in
    let told_along = told-near edges fresh beside flags new_flags alone ended told flagged c.requires.fresh c.requires.found around hot near holds_ended chosen along told_near in
    let points = subst (λ (list : List Stop). GainsThese (IsOfSome (IsPointOfStop edges) list) ended gained) c.deref-7.ensures.value c.in_ok-push_points_of.ensures in
    subst₂ (λ (told_flags : List Bool) (told_stops : List Stop). Spreads edges fresh flags stops told_flags told_stops sorted) (sym (lent-back c.args.spread.now.flags.len new_flags flags size)) (sym appended)
    (Spreads-told edges fresh beside flags new_flags alone ended told flagged c.requires.fresh c.requires.found hot c.requires.hot along told_along gained sorted points c.in_ok-sort_points.ensures stops)
