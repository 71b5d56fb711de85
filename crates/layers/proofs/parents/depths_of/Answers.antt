use Rattle.std.proofs.Common.{◌≤◌, length, length-take-le, get_or, take, arith, rules, Fits, w64}
use Rattle.std.proofs.lemmas.Grind.{get_or_default_zero}
use Rattle.std.proofs.lemmas.List.Sums.{count_by-le-length}
use Rattle.layers.specs.Parents.{is_of}
use Rattle.layers.proofs.parents.depths_of.Goals as goal

-- each is counted at most as often as there are pairs
pub overflow_add-index_mut : goal.overflow_add-index_mut
overflow_add-index_mut g c =
    let index = c.loop-place.place-index in
    let pairs = c.args.pairs.now in
    let place = (get_or pairs index (0, 0)).0 in
    let below = c.loop-place-test.true in
    let counted = count_by-le-length (is_of place) (take index pairs) in
    let size : length (take index pairs) ≤ index = grind (arith, length-take-le) in
    let value = c.index_mut.ensures.value in
    let named = (c.requires index (0, 0) below).0 in
    let each = c.loop-place.invariant.each place named in
    let room = c.loop-place.invariant.size in
    let same = get_or_default_zero c.loop-place.depths.items place c.index_mut.result.now (omega (arith, named, room)) in
    let wide : Fits w64 (length pairs) = search rules in
    omega (arith, counted, size, value, same, each, wide, below)
