use Rattle.std.proofs.Common.{◌∙◌, List, length, subst}
use Rattle.std.specs.List.Sorted.{IsPermutation}
use Rattle.std.proofs.lemmas.List.Sorted.{All-permutation}
use Rattle.std.proofs.lemmas.List.{take_at}
use Rattle.overlay.specs.Grouping.{IsUntold}
use Rattle.overlay.specs.Rings.{rings_of}
use Rattle.overlay.specs.declared.grouping.holes.Hole.{Hole}
use Rattle.overlay.proofs.EachRing.{rings-size}
use Rattle.overlay.proofs.GroupingLemmas.Homes.{firsts-sorted}
use Rattle.overlay.proofs.grouping.holes.holes_in_order.Goals as goal

pub returns : goal.returns
returns g c =
    rw (take_at c.sort_holes.new.holes _ c.in_ok-holes.holes.len (c.sort_holes.auto.holes ∙ c.deref_mut.ensures.len))
    (let moved = subst (λ (holes : List Hole). IsPermutation holes c.sort_holes.new.holes) c.deref_mut.ensures.value c.sort_holes.ensures.same in
    record {
      firsts = firsts-sorted (rings_of c.args.points.now 0 c.args.ends.now) (length c.args.ends.now) c.in_ok-holes.holes.items c.sort_holes.new.holes (rings-size c.args.points.now 0 c.args.ends.now) moved c.in_ok-holes.ensures.firsts c.sort_holes.ensures.order;
      untold = All-permutation IsUntold c.in_ok-holes.holes.items c.sort_holes.new.holes moved c.in_ok-holes.ensures.untold;
    })
