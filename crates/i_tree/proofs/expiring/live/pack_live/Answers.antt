use Rattle.std.proofs.Common.{◌≡◌, ◌<◌, ◌∙◌, length, sym, arith}
use Rattle.i_tree.specs.Root.Live.{is_live}
use Rattle.i_tree.proofs.ExpiringLemmas.Packing.{late-more, packed-more}
use Rattle.i_tree.proofs.ExpiringLemmas.Times.{ge_from_cmp}
use Rattle.i_tree.proofs.expiring.live.pack_live.Goals as goal

pub loop-place-preserved : goal.loop-place-preserved
loop-place-preserved g c =
    let inside : c.loop-place.place < length c.loop-place.pairs = omega arith in
    let front : c.loop-place.count < length c.loop-place.pairs = omega (arith, c.loop-place.invariant.packed.behind) in
    let asked = ge_from_cmp g.E.PartialOrd.partial_cmp g.E.Ord.cmp g.met.E.Ord.matches_partial_cmp c.expiration-expiration.result c.args.time in
    let stays : is_live g.X.Expires.expiration g.E.Ord.cmp c.args.time c.index-pairs-place.result.0 ≡ c.ge-stays.result = rw (← c.expiration-expiration.ensures) (sym asked ∙ sym c.ge-stays.ensures) in
    record {
      packed = packed-more c.index-pairs-place.result c.loop-place.invariant.packed inside c.index-pairs-place.is c.ge-stays.result _ stays (omega (arith, c.from-count.ensures));
      late = late-more g.met.E.Ord.total g.X.Expires.expiration c.ge-stays.result c.loop-place.pairs c.loop-place.count _ c.index-pairs-place.result c.loop-place.earliest c.select-earliest.result front (omega (arith, c.from-count.ensures))
          (λ left. cc (c.select-earliest.ensures.first left, c.min.ensures, c.expiration-expiration.ensures)) c.select-earliest.ensures.other c.loop-place.invariant.late;
    }
