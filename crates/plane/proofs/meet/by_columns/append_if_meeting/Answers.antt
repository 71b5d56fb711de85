use Rattle.std.proofs.Common.{◌≡◌, ◌<◌, ℕ, pos, ap₂, get_or, length, arith}
use Rattle.std.proofs.lemmas.Option.{slice_get-get_or}
use Rattle.plane.specs.declared.edge.Edge.{Edge}
use Rattle.plane.specs.Pairs.Sweep.{pair_of}
use Rattle.plane.proofs.MeetingLemmas.ColumnPairs.{gains-apart, gains-meeting, gains-unmet}
use Rattle.plane.proofs.meet.by_columns.append_if_meeting.Goals as goal
use Rattle.plane.proofs.meet.by_columns.append_if_meeting.Goals.{else-first-second-via-then-first-second+else-meet, else-first-second-via-else-first-second}

pub returns-in_ok-push : goal.returns-in_ok-push
returns-in_ok-push g c =
    let edges = c.args.edges.now in
    let none : Edge = record { x0 = pos 0; y0 = pos 0; x1 = pos 0; y1 = pos 0 } in
    let first = c.min-first.result in
    let second = c.max-second.result in
    let is : (first, second) ≡ pair_of c.args.near.0 c.args.near.1 = ap₂ (λ (m n : ℕ). (m, n)) c.min-first.ensures c.max-second.ensures in
    let rising : first < second = c.if-first-second.true in
    let within = c.requires in
    let greatest = c.max-second.ensures in
    let inside : second < length edges = omega (arith, within.0, within.1, greatest) in
    gains-meeting edges c.args.near first second is (get_or edges first none) (get_or edges second none) (slice_get-get_or edges first none (omega (arith, rising, inside))) (slice_get-get_or edges second none inside)
    c.args.pairs.now.items c.push.new.self.items rising c.if-meet.ensures c.in_ok-push.ensures.items

pub returns-else-first-second : goal.returns-else-first-second
returns-else-first-second g c =
    let edges = c.args.edges.now in
    let none : Edge = record { x0 = pos 0; y0 = pos 0; x1 = pos 0; y1 = pos 0 } in
    let first = c.min-first.result in
    let second = c.max-second.result in
    let is : (first, second) ≡ pair_of c.args.near.0 c.args.near.1 = ap₂ (λ (m n : ℕ). (m, n)) c.min-first.ensures c.max-second.ensures in
    let within = c.requires in
    let greatest = c.max-second.ensures in
    let inside : second < length edges = omega (arith, within.0, within.1, greatest) in
    elim c.else-first-second.branch [
      | else-first-second-via-then-first-second+else-meet w ↦
          let rising : first < second = w.if-first-second.true in
          gains-unmet edges c.args.near first second is (get_or edges first none) (get_or edges second none) (slice_get-get_or edges first none (omega (arith, rising, inside))) (slice_get-get_or edges second none inside)
          c.args.pairs.now.items w.if-meet.ensures
      | else-first-second-via-else-first-second w ↦ let upto = w.if-first-second.false in gains-apart edges c.args.near first second is c.args.pairs.now.items (λ rising. omega (arith, rising, upto))
    ]
