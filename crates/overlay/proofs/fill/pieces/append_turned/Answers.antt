use Rattle.std.proofs.Common.{◌≡◌, ◌≢◌, ◌++◌, ◌∷◌, [], List, pos, get_or, take, sym, ap, ◌∙◌, subst}
use Rattle.std.proofs.lemmas.Bool.{MatchBool-at_true, MatchBool-at_false}
use Rattle.std.proofs.lemmas.List.{take_more}
use Rattle.plane.specs.declared.edge.Edge.{Edge}
use Rattle.overlay.specs.declared.fill.pieces.Piece.{Piece}
use Rattle.overlay.specs.Fill.Turned.{turned}
use Rattle.overlay.proofs.PieceLemmas.Edges.{turned-sloped, turned-vertical}
use Rattle.overlay.proofs.fill.pieces.append_turned.Goals.{then-is_sloped+in_ok-push, else-is_sloped}
use Rattle.overlay.proofs.fill.pieces.append_turned.Goals as goal

pub loop-edge-preserved : goal.loop-edge-preserved
loop-edge-preserved g c =
    let edges = c.args.edges.now in
    let operand = c.args.operand in
    let k = c.loop-edge.edge-index in
    let before = c.args.pieces.now.items in
    let now = c.loop-edge.pieces.items in
    let none : Edge = record { x0 = pos 0; y0 = pos 0; x1 = pos 0; y1 = pos 0 } in
    let edge = get_or edges k none in
    subst (λ (done : List Edge). c.if-is_sloped.pieces.items ≡ before ++ turned operand done) (sym (take_more edges k none c.loop-edge-test.true)) (elim c.if-is_sloped.branch [
      | then-is_sloped+in_ok-push w ↦
          turned-sloped operand (take k edges) edge before now c.if-is_sloped.pieces.items
          (MatchBool-at_true (edge.x0 ≢ edge.x1) (edge.x0 ≡ edge.x1) w.if-is_sloped.true c.is_sloped.ensures)
          c.loop-edge.invariant
          (ap (λ pieces. pieces.items) w.pieces-is ∙ w.in_ok-push.ensures.items ∙ ap (λ (piece : Piece). now ++ piece ∷ []) w.piece_of.ensures)
      | else-is_sloped w ↦
          subst (λ (items : List Piece). items ≡ before ++ turned operand (take k edges ++ edge ∷ [])) (sym (ap (λ pieces. pieces.items) w.pieces-is))
          (turned-vertical operand (take k edges) edge before now
          (MatchBool-at_false (edge.x0 ≢ edge.x1) (edge.x0 ≡ edge.x1) w.if-is_sloped.false c.is_sloped.ensures)
          c.loop-edge.invariant)
    ])
