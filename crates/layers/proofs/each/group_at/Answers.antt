use Rattle.std.proofs.Common.{◌<◌, ◌-◌, ◌∙◌, ℕ, drop, length, get_or, sym, subst}
use Rattle.std.specs.List.{All}
use Rattle.std.proofs.lemmas.List.Elements.{All-drop, All-take}
use Rattle.layers.specs.Shapes.{start_of}
use Rattle.layers.proofs.ListLemmas.{lists_of-at}
use Rattle.layers.proofs.each.group_at.Goals as goal

pub returns-clause-group : goal.returns-clause-group
returns-clause-group c =
    let groups = c.args.grouped.groups in
    let named : ℕ → Type 0 = λ place. place < length c.args.grouped.shapes.shape_ends.now in
    let start = start_of groups.ends.now c.args.at in
    let end = get_or groups.ends.now c.args.at 0 in
    let here = lists_of-at groups.places.now 0 groups.ends.now c.args.at c.requires.at in (
      c.requires.shapes,
      subst (All named) (sym (c.list_at.ensures ∙ here)) (All-take named (end - start) (drop start groups.places.now) (All-drop named start groups.places.now c.requires.named)),
    )
