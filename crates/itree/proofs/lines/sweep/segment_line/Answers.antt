use Rattle.std.proofs.Common.{◌++◌, ◌∷◌, [], ◌+◌, Bool, cond, length, length-append, ap, sym, ◌∙◌, subst, arith}
use Rattle.itree.specs.Grammar.{lines_of, lines_left}
use Rattle.itree.proofs.Counting.{next_line, shorter}
use Rattle.itree.proofs.SegmentLines.{Passed, Passed-next}
use Rattle.itree.proofs.lines.sweep.segment_line.Goals as goal

pub lines-preserved-else-passed-place : goal.lines-preserved-else-passed-place
lines-preserved-else-passed-place c =
    let (before, together, counted, so_far) = c.lines.invariant.so_far in
    let line = c.cut_line.result.0.now in
    let after = lines_left c.cut_line.result.1 in
    let cut = ap lines_left c.in-Some.is ∙ c.cut_line.ensures.first in
    record {
      in_range = shorter c.lines.rest c.in-Some.left c.cut_line.result.1 c.lines.number (length c.args.text.now) c.in-Some.is c.lines.invariant.in_range c.cut_line.ensures.shorter;
      few = omega (arith, c.lines.invariant.few, c.if-passed-place.false);
      so_far = (
        before ++ line ∷ [],
        next_line (lines_of c.args.text.now) before (lines_left c.lines.rest) line after together cut,
        ap (λ n. n + 1) counted ∙ sym (length-append before (line ∷ [])),
        λ said says.
            subst (λ (names : Bool). Passed (before ++ line ∷ []) after said (cond names (c.lines.passed + 1) c.lines.passed)) c.if-names_segment.true
            (Passed-next before (lines_left c.lines.rest) line after said c.lines.passed c.names_segment.result cut c.names_segment.ensures (so_far said says)),
      );
    }

pub lines-preserved : goal.lines-preserved
lines-preserved c =
    let (before, together, counted, so_far) = c.lines.invariant.so_far in
    let line = c.cut_line.result.0.now in
    let after = lines_left c.cut_line.result.1 in
    let cut = ap lines_left c.in-Some.is ∙ c.cut_line.ensures.first in
    record {
      in_range = shorter c.lines.rest c.in-Some.left c.cut_line.result.1 c.lines.number (length c.args.text.now) c.in-Some.is c.lines.invariant.in_range c.cut_line.ensures.shorter;
      few = c.lines.invariant.few;
      so_far = (
        before ++ line ∷ [],
        next_line (lines_of c.args.text.now) before (lines_left c.lines.rest) line after together cut,
        ap (λ n. n + 1) counted ∙ sym (length-append before (line ∷ [])),
        λ said says.
            subst (λ (names : Bool). Passed (before ++ line ∷ []) after said (cond names (c.lines.passed + 1) c.lines.passed)) c.if-names_segment.false
            (Passed-next before (lines_left c.lines.rest) line after said c.lines.passed c.names_segment.result cut c.names_segment.ensures (so_far said says)),
      );
    }
