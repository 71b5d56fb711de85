use Rattle.std.proofs.Common.{rules, arith, ◌≡◌, ◌+◌, ◌<◌, length, map, take, drop, get_or}
use Rattle.std.proofs.lemmas.List.{set_split, map_more, length-map, length-take-le, append_assoc}
use Rattle.std.proofs.lemmas.Slice.{drop-append-drop}
use Rattle.std.proofs.Math.Seq.{take-append_seam}
use Rattle.itree_c.specs.Meetings.{pair_of}
use Rattle.itree_c.proofs.meetings.write_first.Goals as goal

-- one pair more is written, and what lies behind it is as it was
pub loop-place-preserved : goal.loop-place-preserved
loop-place-preserved c =
    let i = c.loop-place.place in
    let found = c.args.found.now in
    let written = map pair_of (take i found) in
    let within : i < length found = omega (arith, c.min-most.ensures) in
    let inside : i < length c.loop-place.pairs = omega (arith, c.min-most.ensures) in
    let long : length written ≡ i = grind (rules, length-map, length-take-le) in
    let rest = drop i c.args.pairs.now in
    let front : take i c.loop-place.pairs ≡ written =
    grind (rules, c.loop-place.invariant, take-append_seam written rest, long) in
    let behind : drop (i + 1) c.loop-place.pairs ≡ drop (i + 1) c.args.pairs.now =
    grind (rules, c.loop-place.invariant, drop-append-drop i c.args.pairs.now written (i + 1) (omega arith) long) in
    let split = set_split c.loop-place.pairs i (pair_of (get_or found i (0, 0))) inside in
    grind (rules, front, behind, split, map_more pair_of found i (0, 0) within, append_assoc)
