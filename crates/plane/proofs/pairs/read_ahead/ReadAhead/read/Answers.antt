use Rattle.std.proofs.Common.{◌<◌, length, arith, rules}
use Rattle.plane.proofs.PairsLemmas.Parts.{AreReadAhead-push, item_of}
use Rattle.plane.proofs.pairs.read_ahead.ReadAhead.read.Goals as goal

pub loop-place-preserved : goal.loop-place-preserved
loop-place-preserved g c =
    let items = c.args.items.now in
    let parts = c.args.parts.now in
    let inside : c.loop-place.place < length parts = search rules in
    let (at, from, ahead) = c.loop-place.invariant in
    let is = item_of items parts c.loop-place.place _ c.index-items-part.result inside c.index-items-part.is in
    let joined = AreReadAhead-push items parts c.args.from c.loop-place.self.items.items c.loop-place.place c.index-items-part.result at ahead is in
    (omega (arith, at, c.in_ok-push.ensures.len), from, rw c.in_ok-push.ensures.items joined)
