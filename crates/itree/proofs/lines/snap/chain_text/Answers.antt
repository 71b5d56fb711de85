use Rattle.std.proofs.Common.{string_bytes, ◌∙◌}
use Rattle.itree.proofs.Chained.{chain_lines-more, chain_lines-all}
use Rattle.noding.proofs.Callers.{IsNext-at}
use Rattle.itree.proofs.lines.snap.chain_text.Goals as goal

pub points_between-requires : goal.points_between-requires
points_between-requires g c =
    let (chains, are) = c.requires in
    let next = IsNext-at chains c.args.points.now c.args.ends.now c.loop-end.end-index c.loop-end.start are c.loop-end-test.true (c.loop-end.invariant chains are).1 in
    (next.rising, next.within)

pub loop-end-preserved : goal.loop-end-preserved
loop-end-preserved g c = λ chains are.
    let (so_far, begins) = c.loop-end.invariant chains are in
    let i = c.loop-end.end-index in
    let next = IsNext-at chains c.args.points.now c.args.ends.now i c.loop-end.start are c.loop-end-test.true begins in (
      chain_lines-more chains i c.points_between.result.now (string_bytes c.loop-end.text) (string_bytes c.push_points.new.text) (string_bytes c.push_str.new.self) next.inside
          (c.points_between.ensures ∙ next.is) so_far c.in_ok-push_points.ensures c.in_ok-push_str.ensures.bytes,
      next.stops,
    )

pub returns : goal.returns
returns g c = λ chains are.
    chain_lines-all chains c.args.points.now c.args.ends.now c.loop-end.end-index (string_bytes c.loop-end.text) are c.loop-end-test.false (c.loop-end.invariant chains are).0
