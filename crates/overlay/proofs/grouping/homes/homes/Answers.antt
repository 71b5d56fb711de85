use Rattle.std.proofs.Common.{◌≡◌, List, length, replicate, subst, sym, ◌∙◌}
use Rattle.std.proofs.lemmas.List.{take_at}
use Rattle.overlay.specs.Grouping.{AreHomes, AreTold, firsts_of}
use Rattle.overlay.specs.Rings.{rings_of}
use Rattle.overlay.specs.declared.grouping.holes.Hole.{Hole}
use Rattle.overlay.proofs.GroupingLemmas.Homes.{holes-marked, homes-all, in-turn, share-homes, share-one}
use Rattle.overlay.proofs.grouping.homes.homes.Goals as goal

pub returns-then-is_only_outer-clause-share : goal.returns-then-is_only_outer-clause-share
returns-then-is_only_outer-clause-share g c =
    let are_outer = c.args.are_outer.now in
    let all : c.in_ok-homes.homes.items ≡ replicate (length are_outer) c.args.outer = c.in_ok-homes.ensures.items_if_clones_equal (λ y same. same) in
    share-one (rings_of c.args.points.now 0 c.args.ends.now) are_outer c.in_ok-homes.homes.items c.args.outer c.requires.marks (c.is_only_outer.ensures c.if-is_only_outer.true)
    (subst (AreHomes are_outer) (sym all) (homes-all are_outer c.args.outer c.requires.outer))

pub settle_holes-requires-clause-of : goal.settle_holes-requires-clause-of
settle_holes-requires-clause-of g c =
    let rings = rings_of c.args.points.now 0 c.args.ends.now in
    let firsts = firsts_of c.in_ok-holes.holes.items in
    let told = subst (λ (holes : List Hole). AreTold rings (firsts_of holes) c.find_below.new.holes) c.deref_mut.ensures.value c.in_ok-find_below.ensures.told in
    let same = c.deref.ensures.value ∙ take_at c.find_below.new.holes _ c.in_ok-holes.holes.len (c.find_below.auto.holes ∙ c.deref_mut.ensures.len) in
    holes-marked rings c.requires.bounding.noded firsts c.in_ok-holes.ensures.firsts c.deref.result.now (subst (AreTold rings firsts) (sym same) told) c.args.are_outer.now c.requires.marks

pub settle_holes-requires-clause-turn : goal.settle_holes-requires-clause-turn
settle_holes-requires-clause-turn g c =
    let rings = rings_of c.args.points.now 0 c.args.ends.now in
    let firsts = firsts_of c.in_ok-holes.holes.items in
    let told = subst (λ (holes : List Hole). AreTold rings (firsts_of holes) c.find_below.new.holes) c.deref_mut.ensures.value c.in_ok-find_below.ensures.told in
    let same = c.deref.ensures.value ∙ take_at c.find_below.new.holes _ c.in_ok-holes.holes.len (c.find_below.auto.holes ∙ c.deref_mut.ensures.len) in
    in-turn rings c.requires.bounding.noded firsts c.in_ok-holes.ensures.firsts c.deref.result.now (subst (AreTold rings firsts) (sym same) told)

pub returns-clause-share : goal.returns-clause-share
returns-clause-share g c =
    let rings = rings_of c.args.points.now 0 c.args.ends.now in
    let firsts = firsts_of c.in_ok-holes.holes.items in
    let told = subst (λ (holes : List Hole). AreTold rings (firsts_of holes) c.find_below.new.holes) c.deref_mut.ensures.value c.in_ok-find_below.ensures.told in
    let same = c.deref.ensures.value ∙ take_at c.find_below.new.holes _ c.in_ok-holes.holes.len (c.find_below.auto.holes ∙ c.deref_mut.ensures.len) in
    rw (take_at c.settle_holes.new.homes _ c.in_ok-homes.homes.len (c.settle_holes.auto.homes ∙ c.deref_mut-2.ensures.len))
    (share-homes rings c.requires.bounding.noded firsts c.in_ok-holes.ensures.firsts c.deref.result.now (subst (AreTold rings firsts) (sym same) told) c.requires.bounding.distinct c.args.are_outer.now c.settle_holes.new.homes c.settle_holes.ensures.settled)
