use Rattle.std.proofs.Common.{◌≡◌, ◌+◌, ◌++◌, ◌∷◌, [], ℕ, List, Bool, true, false, not, cond, length, length-append, append-nil, ap, sym, ◌∙◌}
use Rattle.itree.specs.Grammar.{command_lines}
use Rattle.itree.specs.Grammar.{lines_of, lines_left}
use Rattle.itree.proofs.Counting.{next_line, shorter}
use Rattle.itree.proofs.CommandLines.{has_words, has_words-blank, command_lines-push}
use Rattle.itree.proofs.lines.command_lines.Goals as goal

-- a line with words is listed, and a blank one isn't
listed : (before : List (List ℕ)) (line : List ℕ) (number : ℕ) (numbers new : List ℕ) → number ≡ length before → numbers ≡ command_lines before → has_words line ≡ true → new ≡ numbers ++ (number + 1) ∷ [] → new ≡ command_lines (before ++ line ∷ [])
listed before line number numbers new counted are has is =
    is ∙ ap (λ (b : Bool). numbers ++ cond b ((number + 1) ∷ []) []) (sym has) ∙ sym (command_lines-push before line number numbers counted are)

passed : (before : List (List ℕ)) (line : List ℕ) (number : ℕ) (numbers : List ℕ) → number ≡ length before → numbers ≡ command_lines before → has_words line ≡ false → numbers ≡ command_lines (before ++ line ∷ [])
passed before line number numbers counted are has =
    sym (append-nil numbers) ∙ ap (λ (b : Bool). numbers ++ cond b ((number + 1) ∷ []) []) (sym has) ∙ sym (command_lines-push before line number numbers counted are)

pub lines-preserved-in_ok-push : goal.lines-preserved-in_ok-push
lines-preserved-in_ok-push g c =
    let (before, together, counted, so_far) = c.lines.invariant.so_far in
    let line = c.cut_line.result.0.now in
    record {
      in_range = shorter c.lines.rest c.in-Some.left c.cut_line.result.1 c.lines.number (length c.args.text.now) c.in-Some.is c.lines.invariant.in_range c.cut_line.ensures.shorter;
      so_far = (
        before ++ line ∷ [],
        next_line (lines_of c.args.text.now) before (lines_left c.lines.rest) line (lines_left c.cut_line.result.1) together (ap lines_left c.in-Some.is ∙ c.cut_line.ensures.first),
        ap (λ n. n + 1) counted ∙ sym (length-append before (line ∷ [])),
        listed before line c.lines.number c.lines.numbers.items c.push.new.self.items counted so_far (has_words-blank line ∙ ap not (sym c.is_blank.ensures ∙ c.if-not-is_blank.true)) c.in_ok-push.ensures.items,
      );
    }

pub lines-preserved : goal.lines-preserved
lines-preserved g c =
    let (before, together, counted, so_far) = c.lines.invariant.so_far in
    let line = c.cut_line.result.0.now in
    record {
      in_range = shorter c.lines.rest c.in-Some.left c.cut_line.result.1 c.lines.number (length c.args.text.now) c.in-Some.is c.lines.invariant.in_range c.cut_line.ensures.shorter;
      so_far = (
        before ++ line ∷ [],
        next_line (lines_of c.args.text.now) before (lines_left c.lines.rest) line (lines_left c.cut_line.result.1) together (ap lines_left c.in-Some.is ∙ c.cut_line.ensures.first),
        ap (λ n. n + 1) counted ∙ sym (length-append before (line ∷ [])),
        passed before line c.lines.number c.lines.numbers.items counted so_far (has_words-blank line ∙ ap not (sym c.is_blank.ensures ∙ c.if-not-is_blank.false)),
      );
    }
