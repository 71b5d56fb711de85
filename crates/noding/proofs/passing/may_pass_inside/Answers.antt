use Rattle.std.proofs.Common.{Bool, IsTrue, MatchBool, true, false, not, ◌&&◌, rules, w32, FitsSigned}
use Rattle.std.proofs.lemmas.Int.{to_z-of_z}
use Rattle.noding.specs.Chains.{IsEnd, Passes}
use Rattle.noding.proofs.passing.may_pass_inside.Goals as goal

-- what is passed inside is beside the line and no end
inside : (near is_end : Bool) (P E : Type 0) → (P → IsTrue near) → MatchBool is_end E (¬ E) → P × (¬ E) → IsTrue (near && not is_end)
inside near true P E beside is (passes, none) = absurd (none is)
inside true false P E beside is (passes, none) = search rules
inside false false P E beside is (passes, none) = (let set = beside passes in search (rules, set))

pub returns : goal.returns
returns c =
    let x : FitsSigned w32 c.args.x = search rules in
    let y : FitsSigned w32 c.args.y = search rules in
    inside c.lies_beside.result c.is_end.result (Passes c.args.edge c.args.x c.args.y) (IsEnd c.args.edge c.args.x c.args.y) (simp to_z-of_z at c.lies_beside.ensures) (simp to_z-of_z at c.is_end.ensures)
