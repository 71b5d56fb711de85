use Rattle.std.proofs.Common.{◌<◌, length, arith, rules}
use Rattle.plane.proofs.LocateLemmas.Payloads.{has_item, payload_at, IsReadAhead-push}
use Rattle.plane.proofs.locate.read_ahead.ReadAhead.read.Goals as goal

pub payload_of-requires : goal.payload_of-requires
payload_of-requires g c =
    let inside : c.loop-place.place < length c.args.events.now = search rules in
    has_item c.args.edges.now c.args.points.now c.args.events.now c.requires.queue c.loop-place.place _ inside

pub loop-place-preserved : goal.loop-place-preserved
loop-place-preserved g c =
    let edges = c.args.edges.now in
    let points = c.args.points.now in
    let events = c.args.events.now in
    let inside : c.loop-place.place < length events = search rules in
    let (at, from, ahead) = c.loop-place.invariant in
    let is_payload = payload_at edges points events c.loop-place.place _ c.payload_of.result inside c.payload_of.ensures in
    let joined = IsReadAhead-push edges points events c.args.from c.loop-place.self.payloads.items c.loop-place.place c.payload_of.result at ahead is_payload in
    (omega (arith, at, c.in_ok-push.ensures.len), from, rw c.in_ok-push.ensures.items joined)
