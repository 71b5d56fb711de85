use Rattle.std.proofs.Common.{◌++◌, ◌∷◌, [], ℕ, List, codes, inr, ap, sym, subst}
use Rattle.std.proofs.lemmas.Result.{on_ok_weaker}
use Rattle.std.specs.Fmt.InlineText.{inline_text}
use Rattle.itree.specs.Faults.{Shows}
use Rattle.itree.proofs.fault.tell.tell_arguments.Goals as goal

pub returns : goal.returns
returns g c =
    let shown = c.as_str-word.result.now in
    let shows : Shows c.argument_at.result.now shown =
    subst (λ (text : List ℕ). Shows c.argument_at.result.now text) (sym c.as_str-word.ensures.value)
    (subst (λ (word : List ℕ). Shows word (inline_text c.shown-word.result)) c.as_bytes.ensures.value c.shown-word.ensures) in
    on_ok_weaker c.writeln.result
    (λ written. (
      codes "itree: arguments: '" ++ (shown ++ (codes "': " ++ (c.text-wanted.result.now ++ 10 ∷ []))),
      inr (c.in-Some.found.place, c.argument_at.result, shown, c.in-Some.found.wanted, c.argument_at.ensures, shows, ap (λ text. codes "itree: arguments: '" ++ (shown ++ (codes "': " ++ (text ++ 10 ∷ [])))) c.text-wanted.ensures),
      written,
    ))
    c.writeln.ensures.bytes
