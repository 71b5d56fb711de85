use Rattle.std.proofs.Common.{◌≡◌, ◌+◌, ◌-◌, ◌<◌, length, subst, sym, arith, rules}
use Rattle.plane.specs.Locate.Payloads.{IsPayloadAt, IsReadAhead}
use Rattle.plane.proofs.LocateLemmas.Payloads.{has_item, payload_at}
use Rattle.plane.proofs.locate.read_ahead.ReadAhead.at.Goals as goal

pub payload_of-requires : goal.payload_of-requires
payload_of-requires g c = has_item c.args.edges.now c.args.points.now c.args.events.now c.requires.queue c.args.place _ c.requires.inside

pub returns-then-events-lt-MANY-clause-value : goal.returns-then-events-lt-MANY-clause-value
returns-then-events-lt-MANY-clause-value g c = payload_at c.args.edges.now c.args.points.now c.args.events.now c.args.place _ c.payload_of.result c.requires.inside c.payload_of.ensures

pub returns-then-place-self-clause-value : goal.returns-then-place-self-clause-value
returns-then-place-self-clause-value g c =
    let edges = c.args.edges.now in
    let points = c.args.points.now in
    let events = c.args.events.now in
    let from = c.args.self.now.from in
    let read = c.args.place - from in
    let inside : read < length c.args.self.now.payloads.items = search rules in
    let is : from + read ≡ c.args.place = omega (arith, c.if-self-place.true) in
    subst (λ place. IsPayloadAt edges points events place c.index.result.now) is
    (subst (IsPayloadAt edges points events (from + read)) (sym c.index.ensures) (c.requires.ahead read c.index.result.now inside))

pub returns-clause-value : goal.returns-clause-value
returns-clause-value g c =
    let edges = c.args.edges.now in
    let points = c.args.points.now in
    let events = c.args.events.now in
    let (some, from, ahead) = c.in_ok-read.ensures in
    let is : c.args.place + 0 ≡ c.args.place = omega arith in
    subst (λ place. IsPayloadAt edges points events place c.index-2.result.now) is
    (subst (IsPayloadAt edges points events (c.args.place + 0)) (sym c.index-2.ensures) (ahead 0 c.index-2.result.now some))

pub returns-clause-ahead : goal.returns-clause-ahead
returns-clause-ahead g c =
    let (some, from, ahead) = c.in_ok-read.ensures in
    subst (λ place. IsReadAhead c.args.edges.now c.args.points.now c.args.events.now place c.read.new.self.payloads.items) (sym from) ahead
