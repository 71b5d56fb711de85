use Rattle.std.proofs.Common.{rules}
use Rattle.layers.specs.Each.{HaveLengths, HaveShapes}
use Rattle.itree_c.proofs.LayerLemmas.{not-wrong}
use Rattle.itree_c.proofs.layers_each.all_each.Goals as goal

pub returns-in-Ok : goal.returns-in-Ok
returns-in-Ok c =
    let right = not-wrong _ (HaveLengths c.args.subject.shapes c.args.subject.groups c.args.clip.shapes c.args.clip.groups) (HaveShapes c.args.subject.shapes c.args.subject.groups c.args.clip.shapes c.args.clip.groups) c.in-Ok.ensures.lengths c.in-Ok.ensures.no_shape (λ is. cc) (λ is. cc) in
    search (rules, right)

pub returns-in-Err-Refused : goal.returns-in-Err-Refused
returns-in-Err-Refused c =
    let right = not-wrong _ (HaveLengths c.args.subject.shapes c.args.subject.groups c.args.clip.shapes c.args.clip.groups) (HaveShapes c.args.subject.shapes c.args.subject.groups c.args.clip.shapes c.args.clip.groups) c.in-Err-Refused.ensures.lengths c.in-Err-Refused.ensures.no_shape (λ is. cc) (λ is. cc) in
    search (rules, right)
