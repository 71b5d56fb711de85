use Rattle.std.proofs.Common.{◌≡◌, ◌∙◌, ap, false, refl, rules, sym, true}
use Rattle.offset.specs.Joins.{is_near_on}
use Rattle.offset.proofs.JoinLemmas.Tips.{tip-tested}
use Rattle.offset.proofs.mitres.has_tip.Goals as goal

pub returns-then-not-is_near : goal.returns-then-not-is_near
returns-then-not-is_near c =
    let x : c.is_near.result ≡ is_near_on c.args.x = search rules in
    sym (tip-tested c.args.limit c.args.corners.now c.args.from c.args.to c.args.x c.args.y false _ (sym x ∙ c.if-not-is_near.true) (refl))

pub returns-then-not-is_near-2 : goal.returns-then-not-is_near-2
returns-then-not-is_near-2 c =
    let x : c.is_near.result ≡ is_near_on c.args.x = search rules in
    let y : c.is_near-2.result ≡ is_near_on c.args.y = search rules in
    sym (tip-tested c.args.limit c.args.corners.now c.args.from c.args.to c.args.x c.args.y true false (sym x ∙ c.if-not-is_near.false) (sym y ∙ c.if-not-is_near-2.true))
