use Rattle.std.proofs.Common.{◌++◌, ◌∷◌, [], ◌+◌, length, length-append, ap, sym, ◌∙◌}
use Rattle.itree.specs.Grammar.{lines_of, lines_left}
use Rattle.itree.proofs.Counting.{next_line, shorter}
use Rattle.itree.proofs.fault.words.line_at.Goals as goal

pub lines-preserved : goal.lines-preserved
lines-preserved c =
    let (before, together, counted) = c.lines.invariant.so_far in
    let line = c.cut_line.result.0.now in
    record {
      in_range = shorter c.lines.rest c.in-Some.left c.cut_line.result.1 c.lines.passed (length c.args.text.now) c.in-Some.is c.lines.invariant.in_range c.cut_line.ensures.shorter;
      so_far = (
        before ++ line ∷ [],
        next_line (lines_of c.args.text.now) before (lines_left c.lines.rest) line (lines_left c.cut_line.result.1) together (ap lines_left c.in-Some.is ∙ c.cut_line.ensures.first),
        ap (λ n. n + 1) counted ∙ sym (length-append before (line ∷ [])),
      );
    }
