use Rattle.std.proofs.Common.{◌++◌, ◌∙◌, List, ap, arith}
use Rattle.plane.specs.declared.point.Point.{Point}
use Rattle.tiles.proofs.InPlace.{AreJoined-more}
use Rattle.validity.proofs.directed.DirectedRings.append_ring.Goals as goal

pub returns : goal.returns
returns g c = λ rings joined.
    let told = c.len.ensures in
    AreJoined-more rings _ _ _ _ _ c.len.result
    (c.in_ok-extend_from_slice.ensures.items ∙ ap (λ (list : List Point). c.args.self.now.points.items ++ list) (c.deref.ensures.value ∙ c.in_ok-corners.ensures))
    c.in_ok-push.ensures.items (omega (arith, told)) joined
