use Rattle.std.proofs.Common.{◌<ℤ◌, sym, subst}
use Rattle.overlay.specs.declared.fill.pieces.Piece.{Piece}
use Rattle.overlay.proofs.PieceLemmas.Made.{rightwards-onwards}
use Rattle.overlay.proofs.grouping.sides.side_of.Goals as goal

pub returns-clause-right : goal.returns-clause-right
returns-clause-right c = subst (λ (piece : Piece). piece.edge.x0 <ℤ piece.edge.x1) (sym c.piece_of-piece.ensures) (rightwards-onwards c.args.edge c.requires)
