use Rattle.std.proofs.Common.{◌+◌, List, length, take, drop, sym, ap, subst, ◌∙◌, arith}
use Rattle.std.specs.List.{All}
use Rattle.std.proofs.lemmas.List.{take_at}
use Rattle.overlay.specs.declared.fill.pieces.Piece.{Piece}
use Rattle.overlay.specs.Fill.Turned.{Adds, Fit}
use Rattle.overlay.proofs.PieceLemmas.Joined.{fit-next, joined-next}
use Rattle.overlay.proofs.fill.pieces.join.Goals as goal

pub add-kept-requires-clause-fit : goal.add-kept-requires-clause-fit
add-kept-requires-clause-fit g c =
    let pieces = c.args.pieces.now.items in
    let piece = c.index-piece.result.now in
    subst (λ (list : List Piece). All (λ last. Fit last piece) (take c.loop-place.kept list)) (sym c.deref_mut.ensures.value)
    (fit-next pieces c.loop-place.pieces.items c.loop-place.place c.loop-place.kept c.loop-place.invariant (omega (arith, c.loop-place-test.true, c.len-place-end.ensures))
    piece c.index-piece.ensures c.requires.countable.0 c.requires.countable.1 c.requires.countable.2)

pub loop-place-preserved : goal.loop-place-preserved
loop-place-preserved g c =
    let pieces = c.args.pieces.now.items in
    let now = c.loop-place.pieces.items in
    let after = c.add-kept.new.pieces in
    let kept = c.loop-place.kept in
    let piece = c.index-piece.result.now in
    let held = c.deref_mut.ensures.value in
    rw (take_at after _ c.loop-place.pieces.len (c.add-kept.auto.pieces ∙ c.deref_mut.ensures.len))
    (joined-next pieces now c.loop-place.place kept c.loop-place.invariant (omega (arith, c.loop-place-test.true, c.len-place-end.ensures))
    piece c.index-piece.ensures c.requires.order c.requires.apart after c.add-kept.result (c.add-kept.auto.pieces ∙ ap length held)
    (subst (λ (list : List Piece). Adds piece (take kept list) (take c.add-kept.result after)) held c.add-kept.ensures.adds)
    c.add-kept.ensures.few (c.add-kept.ensures.rest ∙ ap (λ (list : List Piece). drop (kept + 1) list) held))
