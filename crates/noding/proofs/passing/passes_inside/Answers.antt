use Rattle.std.proofs.Common.{◌≡◌, Bool, MatchBool, true, false, not, rules, w32, FitsSigned, IsTrue}
use Rattle.std.proofs.lemmas.Int.{to_z-of_z}
use Rattle.noding.specs.Chains.{IsEnd, Passes}
use Rattle.noding.specs.Close.{InBox}
use Rattle.noding.proofs.ChainLemmas.Ends.{inside_by}
use Rattle.noding.proofs.SnapLemmas.Along.{Passes-in_box}
use Rattle.noding.proofs.passing.passes_inside.Goals as goal

-- an end isn't passed inside
ended : (b : Bool) (E P : Type 0) → MatchBool b E (¬ E) → b ≡ true → MatchBool (not b) (P × (¬ E)) (¬ (P × (¬ E)))
ended true E P is set = λ inside. inside.1 is
ended false E P is set = absurd cc

pub returns-then-not-is_in_box : goal.returns-then-not-is_in_box
returns-then-not-is_in_box c =
    let x : FitsSigned w32 c.args.x = search rules in
    let y : FitsSigned w32 c.args.y = search rules in
    let none = simp to_z-of_z at c.is_in_box.ensures in
    let beside : ¬ (InBox c.args.edge c.args.x c.args.y) = search (rules, none) in
    λ inside. beside (Passes-in_box c.args.edge c.args.x c.args.y inside.0)

pub returns-then-not-lies_beside : goal.returns-then-not-lies_beside
returns-then-not-lies_beside c =
    let x : FitsSigned w32 c.args.x = search rules in
    let y : FitsSigned w32 c.args.y = search rules in
    let near : Passes c.args.edge c.args.x c.args.y → IsTrue c.lies_beside.result = simp to_z-of_z at c.lies_beside.ensures in
    let far = c.if-not-lies_beside.true in
    λ inside. (let set = near inside.0 in search (rules, set, far))

pub returns-then-not-is_end : goal.returns-then-not-is_end
returns-then-not-is_end c =
    let x : FitsSigned w32 c.args.x = search rules in
    let y : FitsSigned w32 c.args.y = search rules in
    inside_by c.args.edge c.args.x c.args.y c.is_end.result c.passes.result (simp to_z-of_z at c.is_end.ensures) c.if-not-is_end.true (simp to_z-of_z at c.passes.ensures)

pub returns-else-not-is_end : goal.returns-else-not-is_end
returns-else-not-is_end c =
    let x : FitsSigned w32 c.args.x = search rules in
    let y : FitsSigned w32 c.args.y = search rules in
    ended c.is_end.result (IsEnd c.args.edge c.args.x c.args.y) (Passes c.args.edge c.args.x c.args.y) (simp to_z-of_z at c.is_end.ensures) (c.if-not-is_end.false)
