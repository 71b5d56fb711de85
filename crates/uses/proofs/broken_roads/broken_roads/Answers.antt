use Rattle.std.proofs.Common.{List, ◌++◌, length, ap, ◌∙◌, subst}
use Rattle.std.specs.List.{Contains, flat_map}
use Rattle.plane.specs.declared.edge.Edge.{Edge}
use Rattle.plane.specs.declared.point.Point.{Point}
use Rattle.noding.specs.Offsets.{offsets}
use Rattle.noding.proofs.Callers.{noded}
use Rattle.uses.proofs.broken_roads.broken_roads.Goals as goal

pub returns : goal.returns
returns c = record {
  noded = λ one other point first second of_one of_other.
      let (chains, are, points_are, ends_are) = c.in_ok-snap.ensures.ok in
      let none = c.new-points.ensures.items in
      let points = c.deref.ensures.value ∙ points_are ∙ ap (λ (before : List Point). before ++ flat_map (λ chain. chain) chains) none in
      let ends = c.deref-2.ensures.value ∙ ends_are ∙ ap (λ before. before ++ offsets (length c.new-points.result.items) chains) c.new-ends.ensures.items ∙ ap (λ (before : List Point). offsets (length before) chains) none in
      let is = c.in_ok-pieces_of.ensures chains (points, ends) in
      noded c.args.roads.now chains are one other point (subst (λ (edges : List Edge). Contains edges one) is first) (subst (λ (edges : List Edge). Contains edges other) is second) of_one of_other;
}
