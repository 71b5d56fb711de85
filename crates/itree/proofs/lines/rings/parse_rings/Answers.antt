use Rattle.std.proofs.Common.{◌≡◌, ◌+◌, ◌++◌, [], ◌∷◌, length, length-append, ap, sym, ◌∙◌, subst}
use Rattle.std.proofs.lemmas.Result.{err_from_is_err_and}
use Rattle.std.specs.Option.{option_to_list}
use Rattle.itree.specs.Grammar.{lines_of, lines_left, IsFirstFaulty}
use Rattle.itree.specs.RingLines.{SaysRing}
use Rattle.itree.specs.declared.fault.Fault.TheVariants.{Line}
use Rattle.itree.proofs.Counting.{LinesSay-push, next_line, shorter, named, IsFirstFaulty-next}
use Rattle.itree.proofs.lines.rings.parse_rings.Goals as goal

pub returns-in_err-take_line-clause-faulty : goal.returns-in_err-take_line-clause-faulty
returns-in_err-take_line-clause-faulty g c = λ number is.
    let (before, said, together, counted, so_far, held) = c.lines.invariant.so_far in
    let (fault, was, given) = err_from_is_err_and c.from_residual.result c.from_residual.ensures.1 in
    let same : c.in_err-take_line.field-0.0 ≡ Line number = cc in
    let here = named c.in_err-take_line.field-0.0 (c.lines.number + 1) number c.in_err-take_line.ensures.err same in
    subst (IsFirstFaulty (SaysRing c.args.kind) (lines_of c.args.text.now)) here
    (IsFirstFaulty-next (SaysRing c.args.kind) (lines_of c.args.text.now) before (lines_left c.lines.rest) c.cut_line.result.0.now (lines_left c.cut_line.result.1) c.lines.number said together (ap lines_left c.in-Some.is ∙ c.cut_line.ensures.first) counted so_far (c.in_err-take_line.ensures.faulty cc))

pub lines-preserved : goal.lines-preserved
lines-preserved g c =
    let (before, said, together, counted, so_far, held) = c.lines.invariant.so_far in
    let line = c.cut_line.result.0.now in
    let (ring, says, holds) = c.in_ok-take_line.ensures.said in
    record {
      in_range = shorter c.lines.rest c.in-Some.left c.cut_line.result.1 c.lines.number (length c.args.text.now) c.in-Some.is c.lines.invariant.in_range c.cut_line.ensures.shorter;
      so_far = (
        before ++ line ∷ [],
        said ++ option_to_list ring,
        next_line (lines_of c.args.text.now) before (lines_left c.lines.rest) line (lines_left c.cut_line.result.1) together (ap lines_left c.in-Some.is ∙ c.cut_line.ensures.first),
        ap (λ n. n + 1) counted ∙ sym (length-append before (line ∷ [])),
        LinesSay-push (SaysRing c.args.kind) before said line ring so_far says,
        holds said held,
      );
    }
