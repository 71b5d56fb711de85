use Rattle.std.proofs.Common.{◌++◌, ◌∷◌, [], ℕ, List, get_or, length, map, take, ap, ap₂, sym, ◌∙◌}
use Rattle.std.specs.List.{flat_map}
use Rattle.std.proofs.lemmas.List.{map-append, take_all, take_more}
use Rattle.plane.specs.declared.point.Point.{Point}
use Rattle.noding.specs.Windings.{pieces}
use Rattle.layers.proofs.LineLemmas.Broken.{StopSome-upto}
use Rattle.layers.proofs.lines.breaking.counts_of.Goals as goal

counted : List (List Point) → ℕ → ℕ
counted chains number = length (flat_map pieces (take number chains))

pub loop-number-preserved : goal.loop-number-preserved
unfolding counted
loop-number-preserved g c = λ chains stops some.
    let numbers = c.args.numbers.now in
    let place = c.loop-number.number-index in
    c.in_ok-push.ensures.items
    ∙ ap₂ (λ (list : List ℕ) (n : ℕ). list ++ n ∷ []) (c.loop-number.invariant chains stops some) (c.count_pieces.ensures chains stops some (StopSome-upto c.args.chain_ends.now (get_or numbers place 0) chains (c.requires place 0 c.loop-number-test.true) stops))
    ∙ sym (ap (λ (list : List ℕ). map (counted chains) list) (take_more numbers place 0 c.loop-number-test.true) ∙ map-append (counted chains) (take place numbers) (get_or numbers place 0 ∷ []))

pub returns : goal.returns
unfolding counted
returns g c = λ chains stops some.
    let numbers = c.args.numbers.now in
    c.loop-number.invariant chains stops some ∙ ap (λ (list : List ℕ). map (counted chains) list) (take_all c.loop-number.number-index numbers c.loop-number-test.false)
