use Rattle.std.proofs.Common.{◌+◌, List, ap, sym, subst, ◌∙◌}
use Rattle.std.proofs.lemmas.List.{map-append}
use Rattle.overlay.specs.Grouping.{AreFirstsUpto, firsts_of}
use Rattle.overlay.specs.declared.grouping.holes.Hole.{Hole}
use Rattle.overlay.proofs.GroupingLemmas.Homes.{first-of-ring, firsts-more}
use Rattle.overlay.proofs.grouping.holes.append_hole.Goals as goal

pub returns-in_ok-push-clause-firsts : goal.returns-in_ok-push-clause-firsts
returns-in_ok-push-clause-firsts g c = λ rings within at clockwise are.
    let firsts = firsts_of c.args.holes.now.items in
    let side = c.side_of-first.result in
    subst (AreFirstsUpto rings (c.args.ring + 1)) (sym (ap (λ (holes : List Hole). firsts_of holes) c.in_ok-push.ensures.items ∙ map-append (λ (hole : Hole). hole.first) c.args.holes.now.items _))
    (firsts-more rings c.args.ring firsts are side c.side_of-first.ensures.ring
    (first-of-ring rings c.args.ring c.args.points.now side c.in-Some.edge within at clockwise (sym c.first_edge.ensures.first ∙ c.in-Some.is) c.side_of-first.ensures.ring c.side_of-first.ensures.piece))
