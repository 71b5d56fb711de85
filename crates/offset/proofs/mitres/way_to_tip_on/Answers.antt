use Rattle.std.proofs.Common.{◌≡◌, ◌∙◌, ℤ, ◌-ℤ◌, ◌*ℤ◌, ap, ap₂, arith, rules, FitsSigned}
use Rattle.std.specs.Int.{w128}
use Rattle.std.proofs.lemmas.Int.{ints, to_z-of_z}
use Rattle.plane.specs.Ends.{edge_between}
use Rattle.plane.specs.Meet.Crosses.{cross}
use Rattle.offset.specs.Joins.{nearest}
use Rattle.offset.specs.Shape.{turn}
use Rattle.offset.proofs.mitres.way_to_tip_on.Goals as goal

rounds : (result n d m e : ℤ) → result ≡ nearest m e → m ≡ n → e ≡ d → result ≡ nearest n d
rounds result n d m e is first second = is ∙ ap₂ nearest first second

pub returns : goal.returns
returns c =
    let whole : c.cross_product-whole.result ≡ turn c.args.edge c.args.next = cc in
    let part : c.cross_product-part.result ≡ turn (edge_between c.args.from c.args.to) c.args.next = cc in
    let product : c.product.result ≡ (c.cross_product-part.result *ℤ c.args.way) = search rules in
    let is : c.rounded.result ≡ nearest c.product.result c.cross_product-whole.result = search rules in
    let told = rounds c.rounded.result (turn (edge_between c.args.from c.args.to) c.args.next *ℤ c.args.way) (turn c.args.edge c.args.next) c.product.result c.cross_product-whole.result is (product ∙ ap (λ z. z *ℤ c.args.way) part) whole in
    let fits : FitsSigned w128 c.rounded.result = record { sfits = c.rounded.type_inv } in
    simp to_z-of_z told
