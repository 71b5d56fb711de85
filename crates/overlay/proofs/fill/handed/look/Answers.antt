use Rattle.std.proofs.Common.{◌++◌, List, ap, sym, ◌∙◌, rules}
use Rattle.std.specs.List.{filter}
use Rattle.std.proofs.lemmas.Fn.{filter_same}
use Rattle.std.proofs.lemmas.List.Elements.{filter-append}
use Rattle.std.proofs.lemmas.Result.{on_ok_weaker}
use Rattle.overlay.specs.declared.fill.pieces.Piece.{Piece}
use Rattle.overlay.specs.Fill.Few.{goes_on}
use Rattle.overlay.proofs.fill.handed.look.Goals as goal

pub returns : goal.returns
returns g c =
    let x = c.args.point.x in
    on_ok_weaker c.append_going_on.result
    (λ is. is ∙ ap (λ (list : List Piece). list ++ filter (goes_on x) c.args.since.now) (filter_same _ (goes_on x) _ (λ piece kept f' k. search rules) _ _ c.retain.ensures.filtered) ∙ sym (filter-append (goes_on x) c.args.live.now.items c.args.since.now))
    c.append_going_on.ensures
