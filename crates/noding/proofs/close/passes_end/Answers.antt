use Rattle.std.proofs.Common.{◌≡◌, Bool, IsTrue, MatchBool, true, false, rules}
use Rattle.plane.specs.declared.edge.Edge.{Edge}
use Rattle.noding.specs.Close.{PassesEnd}
use Rattle.noding.proofs.close.passes_end.Goals as goal

-- what may not be isn't
may_not : (edge other : Edge) (may : Bool) → (PassesEnd edge other → IsTrue may) → may ≡ false → MatchBool may (PassesEnd edge other) (¬ (PassesEnd edge other))
may_not edge other false is none = λ passes. (let set = is passes in search (rules, set))
may_not edge other true is none = absurd (cc)

pub returns-else-may_pass_end : goal.returns-else-may_pass_end
returns-else-may_pass_end c = may_not c.args.edge c.args.other c.may_pass_end.result c.may_pass_end.ensures c.if-may_pass_end.false
