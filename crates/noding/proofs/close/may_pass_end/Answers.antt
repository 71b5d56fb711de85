use Rattle.std.proofs.Common.{◌≡◌, ◌⊎◌, inl, inr, Bool, IsTrue, MatchBool, true, false, ◌||◌, rules, w32, FitsSigned}
use Rattle.std.proofs.lemmas.Int.{to_z-of_z}
use Rattle.plane.specs.declared.edge.Edge.{Edge}
use Rattle.noding.specs.Close.{HoldsEnd, PassesEnd, PassesInside}
use Rattle.noding.proofs.ChainLemmas.Close.{held}
use Rattle.noding.proofs.close.may_pass_end.Goals as goal

-- of two that may be passed one may be
one_may : (first second : Bool) (P Q : Type 0) → (P → IsTrue first) → (Q → IsTrue second) → P ⊎ Q → IsTrue (first || second)
one_may true second P Q may may_too either = search rules
one_may false second P Q may may_too (inl is) = (let set = may is in search (rules, set))
one_may false second P Q may may_too (inr is) = may_too is

none_held : (edge other : Edge) (holds : Bool) → MatchBool holds (HoldsEnd edge other) (¬ (HoldsEnd edge other)) → holds ≡ false → PassesEnd edge other → IsTrue false
none_held edge other false none is = λ passes. absurd (held edge other none passes)
none_held edge other true some is = absurd (cc)

pub returns-then-not-holds_end : goal.returns-then-not-holds_end
returns-then-not-holds_end c = none_held c.args.edge c.args.other c.holds_end.result c.holds_end.ensures (c.if-not-holds_end.true)

pub returns : goal.returns
returns c =
    let edge = c.args.edge in
    let other = c.args.other in
    let x0 : FitsSigned w32 c.args.other.x0 = search rules in
    let y0 : FitsSigned w32 c.args.other.y0 = search rules in
    let x1 : FitsSigned w32 c.args.other.x1 = search rules in
    let y1 : FitsSigned w32 c.args.other.y1 = search rules in
    one_may c.may_pass_inside.result c.may_pass_inside-2.result (PassesInside edge other.x0 other.y0) (PassesInside edge other.x1 other.y1) (simp to_z-of_z at c.may_pass_inside.ensures) (simp to_z-of_z at c.may_pass_inside-2.ensures)
