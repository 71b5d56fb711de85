use Rattle.std.proofs.Common.{◌++◌, List, length, ap, ◌∙◌}
use Rattle.std.specs.List.{flat_map}
use Rattle.plane.specs.declared.point.Point.{Point}
use Rattle.noding.specs.Offsets.{offsets}
use Rattle.overlay.proofs.ContourLemmas.Callers.{outlines-wind}
use Rattle.overlay.proofs.contours.outlines.Goals as goal

pub returns-in-Ok-clause-ok : goal.returns-in-Ok-clause-ok
returns-in-Ok-clause-ok g c =
    let (rings, are, points_are, ends_are, sides) = c.in_ok-contours.ensures.ok in
    let none = c.in_ok-rings.ensures.items in
    let points = c.deref.ensures.value ∙ points_are ∙ ap (λ (before : List Point). before ++ flat_map (λ ring. ring) rings) none in
    let ends = c.deref-2.ensures.value ∙ ends_are ∙ ap (λ before. before ++ offsets (length c.in_ok-rings.rings.items) rings) c.new-ends.ensures.items ∙ ap (λ (before : List Point). offsets (length before) rings) none in
    let (more, more_ends) = rw c.in-Ok.is at c.append_outlines.ensures.ok rings points ends in
    (rings, are, more, more_ends, outlines-wind c.args.edges.now rings are)
