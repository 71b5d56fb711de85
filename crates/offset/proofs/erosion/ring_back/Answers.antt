use Rattle.std.proofs.Common.{◌∙◌, ◌∷◌, ◌++◌, [], ℕ, ap, ap₂, arith, get_or, List, pos, sym}
use Rattle.std.proofs.lemmas.List.{take_all, take_more}
use Rattle.plane.specs.declared.point.Point.{Point}
use Rattle.offset.specs.Raw.{backwards}
use Rattle.offset.proofs.BackLemmas.{backwards-at, length-backwards}
use Rattle.offset.proofs.erosion.ring_back.Goals as goal

pub loop-index-preserved : goal.loop-index-preserved
loop-index-preserved g c =
    let ring = c.args.ring.now in
    let none : Point = record { x = pos 0; y = pos 0 } in
    let size = length-backwards ring in
    c.in_ok-push.ensures.items
    ∙ ap₂ (λ (before : List Point) (point : Point). before ++ point ∷ []) c.loop-index.invariant
    (ap (λ (n : ℕ). get_or ring n none) c.place_back.ensures ∙ sym (backwards-at ring c.loop-index.index none c.loop-index-test.true))
    ∙ sym (take_more (backwards ring) c.loop-index.index none (omega (arith, size, c.loop-index-test.true)))
