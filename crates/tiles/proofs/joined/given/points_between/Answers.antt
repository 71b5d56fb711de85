use Rattle.std.proofs.Common.{◌≤◌, length, arith, rules}
use Rattle.tiles.proofs.JoinLists.{AreEnds-upto, joined-between}
use Rattle.tiles.proofs.joined.given.points_between.Goals as goal

pub offset_bounds-rings-start : goal.offset_bounds-rings-start
offset_bounds-rings-start c =
    let rings = c.args.rings in
    let onwards = c.requires.onwards in
    let inside = c.requires.within in
    let upto : c.args.first ≤ length rings.ends.now = omega (arith, onwards, inside) in
    let first = AreEnds-upto 0 rings.ends.now (length rings.points.now) c.args.first c.requires.rings (omega arith) upto in
    let within : c.start_at-start.result ≤ length rings.points.now = omega (arith, first) in
    search rules

pub slice_bounds-result-count : goal.slice_bounds-result-count
slice_bounds-result-count c =
    let rings = c.args.rings in
    let (upto, are) = joined-between rings.points.now 0 rings.ends.now c.args.first c.args.behind c.requires.rings c.requires.onwards c.requires.within in
    omega (arith, upto)

pub slice_bounds-result-end : goal.slice_bounds-result-end
slice_bounds-result-end c =
    let rings = c.args.rings in
    let last = AreEnds-upto 0 rings.ends.now (length rings.points.now) c.args.behind c.requires.rings (omega arith) c.requires.within in
    let within : c.start_at-end.result ≤ length rings.points.now = omega (arith, last) in
    search rules

pub slice_bounds-result-start : goal.slice_bounds-result-start
slice_bounds-result-start c =
    let rings = c.args.rings in
    let (upto, are) = joined-between rings.points.now 0 rings.ends.now c.args.first c.args.behind c.requires.rings c.requires.onwards c.requires.within in
    let within : c.start_at-start.result ≤ c.start_at-end.result = omega (arith, upto) in
    search rules

pub returns : goal.returns
returns c =
    let rings = c.args.rings in
    let (upto, are) = joined-between rings.points.now 0 rings.ends.now c.args.first c.args.behind c.requires.rings c.requires.onwards c.requires.within in
    rw (c.start_at-start.ensures, c.start_at-end.ensures, ← are)
