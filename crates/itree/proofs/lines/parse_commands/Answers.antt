use Rattle.std.proofs.Common.{◌≡◌, ◌+◌, ◌++◌, [], ◌∷◌, Option, Some, None, length, refl, append-nil, length-append, ap, sym, ◌∙◌, subst}
use Rattle.std.proofs.lemmas.Result.{err_from_is_err_and}
use Rattle.itree.specs.Grammar.{lines_of, lines_left, LineSays, LinesSay, IsFirstFaulty}
use Rattle.itree.specs.declared.fault.Fault.TheVariants.{Line}
use Rattle.itree.proofs.Counting.{LinesSay-push, next_line, shorter, named, IsFirstFaulty-next}
use Rattle.itree.proofs.lines.parse_commands.Goals as goal

-- an option that is not `Some` is `None`
neither : {X : Type 0} (o : Option X) → ((x : X) → o ≡ Some x → ⊥) → o ≡ None
neither None other = refl
neither (Some x) other = absurd (other x refl)

pub returns-in_err-command-clause-faulty : goal.returns-in_err-command-clause-faulty
returns-in_err-command-clause-faulty g c = λ number is.
    let (before, together, counted, so_far) = c.lines.invariant.so_far in
    let says = g.C.LineCommand.says in
    let (fault, was, given) = err_from_is_err_and c.from_residual.result c.from_residual.ensures.1 in
    let same : c.in_err-command.field-0.0 ≡ Line number = cc in
    let here = named c.in_err-command.field-0.0 (c.lines.number + 1) number c.in_err-command.ensures.err same in
    subst (IsFirstFaulty says (lines_of c.args.text.now)) here
    (IsFirstFaulty-next says (lines_of c.args.text.now) before (lines_left c.lines.rest) c.cut_line.result.0.now (lines_left c.cut_line.result.1) c.lines.number c.lines.commands.items together (ap lines_left c.in-Some.is ∙ c.cut_line.ensures.first) counted so_far (c.in_err-command.ensures.faulty cc))

pub lines-preserved-in_ok-push : goal.lines-preserved-in_ok-push
lines-preserved-in_ok-push g c =
    let (before, together, counted, so_far) = c.lines.invariant.so_far in
    let says = g.C.LineCommand.says in
    let line = c.cut_line.result.0.now in
    let here = subst (LineSays says line) c.in-Some-2.is c.in_ok-command.ensures.said in
    record {
      in_range = shorter c.lines.rest c.in-Some.left c.cut_line.result.1 c.lines.number (length c.args.text.now) c.in-Some.is c.lines.invariant.in_range c.cut_line.ensures.shorter;
      so_far = (
        before ++ line ∷ [],
        next_line (lines_of c.args.text.now) before (lines_left c.lines.rest) line (lines_left c.cut_line.result.1) together (ap lines_left c.in-Some.is ∙ c.cut_line.ensures.first),
        ap (λ n. n + 1) counted ∙ sym (length-append before (line ∷ [])),
        subst (LinesSay says (before ++ line ∷ [])) (sym c.in_ok-push.ensures.items) (LinesSay-push says before c.lines.commands.items line (Some c.in-Some-2.command) so_far here),
      );
    }

pub lines-preserved : goal.lines-preserved
lines-preserved g c =
    let (before, together, counted, so_far) = c.lines.invariant.so_far in
    let says = g.C.LineCommand.says in
    let line = c.cut_line.result.0.now in
    let here = subst (LineSays says line) (neither c.in_ok-command.field-0 c.in_default-2.not-Some) c.in_ok-command.ensures.said in
    record {
      in_range = shorter c.lines.rest c.in-Some.left c.cut_line.result.1 c.lines.number (length c.args.text.now) c.in-Some.is c.lines.invariant.in_range c.cut_line.ensures.shorter;
      so_far = (
        before ++ line ∷ [],
        next_line (lines_of c.args.text.now) before (lines_left c.lines.rest) line (lines_left c.cut_line.result.1) together (ap lines_left c.in-Some.is ∙ c.cut_line.ensures.first),
        ap (λ n. n + 1) counted ∙ sym (length-append before (line ∷ [])),
        subst (LinesSay says (before ++ line ∷ [])) (append-nil c.lines.commands.items) (LinesSay-push says before c.lines.commands.items line None so_far here),
      );
    }
