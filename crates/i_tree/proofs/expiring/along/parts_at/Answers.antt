use Rattle.std.proofs.Common.{drop}
use Rattle.std.proofs.lemmas.List.Elements.{All-drop}
use Rattle.i_tree.proofs.RootLemmas.Parted.{IfSome-first, parted_beside}
use Rattle.i_tree.proofs.expiring.along.parts_at.Goals as goal

pub is_greater_or_none-requires : goal.is_greater_or_none-requires
is_greater_or_none-requires g c =
    let Callable = λ (pair : g.row.K.Denot × g.row.V.Denot). goal.F-pre g c.args.f.now pair.0 in
    IfSome-first Callable (drop c.args.place c.args.pairs.now) c.beside-last.result.1 (All-drop Callable c.args.place c.args.pairs.now c.requires.callable) c.beside-last.ensures.behind

pub returns-then-is_less_or_none : goal.returns-then-is_less_or_none
returns-then-is_less_or_none g c greater order answers monotone =
    parted_beside order (goal.F-post g c.args.f.now) c.args.pairs.now c.args.place c.beside-last.result c.beside-last.ensures.before c.beside-last.ensures.behind
    (c.is_less_or_none.ensures c.if-is_less_or_none.true) (c.is_greater_or_none.ensures greater) answers monotone
