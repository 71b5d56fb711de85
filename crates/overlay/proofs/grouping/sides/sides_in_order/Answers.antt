use Rattle.std.proofs.Common.{◌∙◌, List, subst}
use Rattle.std.specs.List.Sorted.{IsPermutation}
use Rattle.std.proofs.lemmas.List.{take_at}
use Rattle.overlay.specs.Rings.{rings_of}
use Rattle.overlay.specs.declared.grouping.sides.Side.{Side}
use Rattle.overlay.proofs.GroupingLemmas.Edges.{AreSides-sorted}
use Rattle.overlay.proofs.grouping.sides.sides_in_order.Goals as goal

pub returns : goal.returns
returns g c =
    rw (take_at c.sort_sides.new.sides _ c.in_ok-sides.sides.len (c.sort_sides.auto.sides ∙ c.deref_mut.ensures.len))
    (AreSides-sorted (rings_of c.args.points.now 0 c.args.ends.now) c.in_ok-sides.sides.items c.sort_sides.new.sides c.in_ok-sides.ensures.pieces c.in_ok-sides.ensures.of
    (subst (λ (sides : List Side). IsPermutation sides c.sort_sides.new.sides) c.deref_mut.ensures.value c.sort_sides.ensures.same) c.sort_sides.ensures.order)
