use Rattle.std.proofs.Common.{◌∙◌, pos, sym}
use Rattle.offset.specs.Raw.{nowhere}
use Rattle.offset.proofs.LineLemmas.Paths.{piece-at}
use Rattle.offset.proofs.lines.piece_at.Goals as goal

pub returns : goal.returns
returns c = c.edge_between.ensures ∙ sym (piece-at c.args.path.now c.args.index (record { x = pos 0; y = pos 0 }) nowhere c.requires)
