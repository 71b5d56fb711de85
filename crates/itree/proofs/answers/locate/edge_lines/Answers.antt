use Rattle.std.proofs.Common.{◌∙◌, ap, length}
use Rattle.itree.specs.LocateLines.{SaysLocateLine}
use Rattle.itree.specs.Grammar.{lines_of}
use Rattle.itree.proofs.CommandLines.{length-command_lines}
use Rattle.itree.proofs.Located.{says_some_word}
use Rattle.itree.proofs.answers.locate.edge_lines.Goals as goal

-- each line that says something has a number
pub edge_numbers-requires : goal.edge_numbers-requires
edge_numbers-requires g c =
    ap length (c.deref.ensures.value ∙ c.in_ok-numbers.ensures) ∙ length-command_lines SaysLocateLine says_some_word (lines_of c.args.text.now) c.args.said.now c.requires
