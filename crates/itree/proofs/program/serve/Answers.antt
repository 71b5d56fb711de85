use Rattle.std.proofs.Common.{rules, ℕ, List, string_bytes, subst}
use Rattle.std.proofs.lemmas.Option.{IfSome_then}
use Rattle.std.proofs.lemmas.Result.{on_ok_weaker}
use Rattle.std.specs.Io.KnownBytes.{Appends}
use Rattle.itree.specs.Modes.{AsksForHelp, AsksForVersion}
use Rattle.itree.proofs.Asked.{help_alone}
use Rattle.itree.proofs.program.serve.Goals as goal

pub returns-clause-answered : goal.returns-clause-answered
returns-clause-answered g c =
    let (mode, names, answers) = c.in_ok-replies.ensures.answered in
    let replies = string_bytes c.in_ok-replies.replies in
    let Gains : List ℕ → Type 0 = λ text. Appends (g.O.Write.contents c.args.output.now) (g.O.Write.contents c.write_whole-2.new.output) text in
    on_ok_weaker c.write_whole-2.result
    (λ written unasked. (mode, names, IfSome_then (g.I.Read.remaining c.args.input.now) answers (λ text is. (replies, is, subst Gains c.as_str.ensures.value written))))
    c.write_whole-2.ensures.written

-- who asks for help doesn't ask for the version
pub returns-then-asks_for_help-clause-version : goal.returns-then-asks_for_help-clause-version
returns-then-asks_for_help-clause-version g c =
    let asked : AsksForHelp c.args.words.now = search rules in
    on_ok_weaker c.write_whole.result (λ written version. absurd (help_alone c.args.words.now asked version)) c.write_whole.ensures.written

-- who is answered asked for neither
pub returns-clause-helped : goal.returns-clause-helped
returns-clause-helped g c =
    let unasked : ¬ (AsksForHelp c.args.words.now) = search rules in
    on_ok_weaker c.write_whole-2.result (λ written asks. absurd (unasked asks)) c.write_whole-2.ensures.written

pub returns-clause-version : goal.returns-clause-version
returns-clause-version g c =
    let unasked : ¬ (AsksForVersion c.args.words.now) = search rules in
    on_ok_weaker c.write_whole-2.result (λ written asks. absurd (unasked asks)) c.write_whole-2.ensures.written
