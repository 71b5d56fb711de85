use Rattle.std.proofs.Common.{◌≡◌, Bool, true, false, rules, w32, FitsSigned, IsTrue}
use Rattle.std.specs.Bool.{MatchBool}
use Rattle.std.proofs.lemmas.Int.{to_z-of_z}
use Rattle.noding.specs.Close.{InBox, PassesPoint}
use Rattle.noding.proofs.sections.SectionMeetsPoint.meets.Goals as goal

-- in the box the edge tells
here_by : (held passes : Bool) (B P : Type 0) → MatchBool held B (¬ B) → held ≡ true → MatchBool passes P (¬ P) → MatchBool passes (B × P) (¬ (B × P))
here_by true true B P box set passed = (box, passed)
here_by true false B P box set none = λ both. none both.1
here_by false passes B P box set told = absurd cc

pub returns-then-not-may_pass_inside : goal.returns-then-not-may_pass_inside
returns-then-not-may_pass_inside c =
    let x : FitsSigned w32 c.args.other.x = search rules in
    let y : FitsSigned w32 c.args.other.y = search rules in
    let near : PassesPoint c.args.self.edge c.args.other → IsTrue c.may_pass_inside.result = simp to_z-of_z at c.may_pass_inside.ensures in
    let far = c.if-not-may_pass_inside.true in
    λ here. (let set = near here.1 in search (rules, set, far))

pub returns : goal.returns
returns c =
    let x : FitsSigned w32 c.args.other.x = search rules in
    let y : FitsSigned w32 c.args.other.y = search rules in
    here_by c.is_in_box.result c.passes_inside.result (InBox c.args.self.chord c.args.other.x c.args.other.y) (PassesPoint c.args.self.edge c.args.other) (simp to_z-of_z at c.is_in_box.ensures) c.if-not-is_in_box.false (simp to_z-of_z at c.passes_inside.ensures)
