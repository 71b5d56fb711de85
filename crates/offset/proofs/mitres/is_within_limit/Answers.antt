use Rattle.std.proofs.Common.{◌≡◌, ◌∙◌, ℤ, pos, ◌-ℤ◌, ◌*ℤ◌, ap, ap₂, arith, rules, FitsSigned}
use Rattle.std.specs.Int.{w128}
use Rattle.std.specs.Prelude.{int_le}
use Rattle.std.proofs.lemmas.Int.{ints, to_z-of_z}
use Rattle.plane.specs.Meet.Crosses.{cross}
use Rattle.offset.specs.Joins.{is_within_limit, point_at}
use Rattle.offset.proofs.mitres.is_within_limit.Goals as goal

-- the cross product of what is the same
same-cross : (u v x y a b c d : ℤ) → u ≡ a → v ≡ b → x ≡ c → y ≡ d → cross u v x y ≡ cross a b c d
same-cross u v x y a b c d first second third fourth =
    ap₂ (λ (s t : ℤ). cross s t x y) first second ∙ ap₂ (λ (s t : ℤ). cross a b s t) third fourth

pub returns : goal.returns
returns c =
    let side = c.args.side in
    let x : c.beyond.result ≡ ((pos 100 *ℤ c.args.x) -ℤ (pos c.args.limit *ℤ side.x0)) = search rules in
    let y : c.beyond-2.result ≡ ((pos 100 *ℤ c.args.y) -ℤ (pos c.args.limit *ℤ side.y0)) = search rules in
    let plain : c.cross_product_far.result ≡ cross c.vector_along.result.x c.vector_along.result.y c.beyond.result c.beyond-2.result = search rules in
    let is = plain ∙ same-cross c.vector_along.result.x c.vector_along.result.y c.beyond.result c.beyond-2.result (side.x1 -ℤ side.x0) (side.y1 -ℤ side.y0) ((pos 100 *ℤ c.args.x) -ℤ (pos c.args.limit *ℤ side.x0)) ((pos 100 *ℤ c.args.y) -ℤ (pos c.args.limit *ℤ side.y0)) c.vector_along.ensures.x c.vector_along.ensures.y x y in
    let fits : FitsSigned w128 c.cross_product_far.result = record { sfits = c.cross_product_far.type_inv } in
    let told = ap (int_le (pos 0)) is in
    simp to_z-of_z told
