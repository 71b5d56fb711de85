use Rattle.std.proofs.Common.{Bool, MatchBool, true, false, ◌≤ℤ◌, ◌&&◌, ℤ, FitsSigned, rules, subst, w32}
use Rattle.std.proofs.lemmas.Int.{to_z-of_z}
use Rattle.plane.specs.declared.pairs.items.Bounds.{Bounds}
use Rattle.plane.specs.Pairs.Bounds.{BoundsMeet}
use Rattle.noding.specs.Close.{at_point}
use Rattle.noding.proofs.passing.is_in_box.Goals as goal

-- between the sides on both axes
both : (bounds : Bounds) (x y : ℤ) (one other : Bool) → (let across = (bounds.left ≤ℤ x) × (x ≤ℤ bounds.right) in MatchBool one across (¬ across))
    → (let up = (bounds.low ≤ℤ y) × (y ≤ℤ bounds.high) in MatchBool other up (¬ up)) → MatchBool (one && other) (BoundsMeet bounds (at_point x y)) (¬ (BoundsMeet bounds (at_point x y)))
both bounds x y true true across up = record { left = across.0; right = across.1; low = up.0; high = up.1 }
both bounds x y true false across up = λ inside. up (inside.low, inside.high)
both bounds x y false other across up = λ inside. across (inside.left, inside.right)

pub returns : goal.returns
returns c =
    let bounds = c.bounds-bounds.result in
    let x : FitsSigned w32 c.args.x = search rules in
    let y : FitsSigned w32 c.args.y = search rules in
    let left : FitsSigned w32 bounds.left = search rules in
    let right : FitsSigned w32 bounds.right = search rules in
    let low : FitsSigned w32 bounds.low = search rules in
    let high : FitsSigned w32 bounds.high = search rules in
    subst (λ (box : Bounds). MatchBool (c.is_between.result && c.is_between-2.result) (BoundsMeet box (at_point c.args.x c.args.y)) (¬ (BoundsMeet box (at_point c.args.x c.args.y))))
    c.bounds-bounds.ensures
    (both bounds c.args.x c.args.y c.is_between.result c.is_between-2.result (simp to_z-of_z at c.is_between.ensures) (simp to_z-of_z at c.is_between-2.ensures))
