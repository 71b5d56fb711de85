use Rattle.std.proofs.Common.{◌<◌, ℕ, set, length, get_or, ap, arith, ◌∙◌}
use Rattle.std.proofs.lemmas.List.{get_or_default}
use Rattle.std.proofs.lemmas.List.Edits.{map_over_more}
use Rattle.layers.specs.Boxed.{place_in}
use Rattle.layers.proofs.boxes.name_places.Goals as goal

pub loop-pair-preserved : goal.loop-pair-preserved
loop-pair-preserved c =
    let now = c.loop-pair.pairs in
    let k = c.loop-pair.pair-index in
    let pair = get_or now k (0, 0) in
    let same = c.loop-pair.auto.pairs in
    let test = c.loop-pair-test.true in
    let inside : k < length now = omega (arith, same, test) in
    ap (λ (places : ℕ × ℕ). set now k places) c.places_of.ensures
    ∙ map_over_more (λ (pair : ℕ × ℕ). (place_in c.args.boxes.now pair.0, place_in c.args.others.now pair.1)) c.args.pairs.now now k pair test c.loop-pair.invariant
    (get_or_default now k (0, 0) pair inside)
