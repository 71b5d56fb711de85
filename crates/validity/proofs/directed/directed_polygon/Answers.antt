use Rattle.std.proofs.Common.{[], ◌∙◌, ℕ, List, ap, ap₂, subst, sym}
use Rattle.std.specs.List.{between}
use Rattle.plane.specs.declared.point.Point.{Point}
use Rattle.noding.specs.Offsets.{AreJoined}
use Rattle.tiles.proofs.JoinLists.{lists_of-at}
use Rattle.validity.specs.Given.{directed, rings_at}
use Rattle.validity.proofs.directed.directed_polygon.Goals as goal

pub returns-clause-ok : goal.returns-clause-ok
returns-clause-ok g c =
    let rings = rings_at c.args.set.rings in
    subst (λ (list : List (List Point)). AreJoined list c.append_polygon.new.self.points.items c.append_polygon.new.self.ends.items)
    (ap directed (ap₂ (λ (i j : ℕ). between i j rings) c.range_at-first.ensures.start c.range_at-first.ensures.end ∙ sym (lists_of-at rings 0 c.args.set.polygon_ends.now c.args.polygon c.requires.polygon)))
    (c.in_ok-append_polygon.ensures [] c.new-own.ensures)
