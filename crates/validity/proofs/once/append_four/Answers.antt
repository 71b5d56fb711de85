use Rattle.std.proofs.Common.{[], ◌∷◌, ◌++◌, ◌∙◌, List, ap, append_assoc, arith}
use Rattle.plane.specs.declared.point.Point.{Point}
use Rattle.tiles.proofs.InPlace.{AreJoined-more}
use Rattle.validity.proofs.once.append_four.Goals as goal

pub returns : goal.returns
returns g c = λ rings joined.
    let told = c.len.ensures in
    let before = c.args.directed.now.points.items in
    let one = c.args.first in
    let two = c.args.second in
    let three = c.args.third in
    let four = c.args.fourth in
    let points_are =
    c.in_ok-push-4.ensures.items
    ∙ ap (λ (points : List Point). points ++ four ∷ []) (c.in_ok-push-3.ensures.items
    ∙ ap (λ (points : List Point). points ++ three ∷ []) (c.in_ok-push-2.ensures.items
    ∙ ap (λ (points : List Point). points ++ two ∷ []) c.in_ok-push.ensures.items))
    ∙ append_assoc ((before ++ one ∷ []) ++ two ∷ []) (three ∷ []) (four ∷ [])
    ∙ append_assoc (before ++ one ∷ []) (two ∷ []) (three ∷ four ∷ [])
    ∙ append_assoc before (one ∷ []) (two ∷ three ∷ four ∷ []) in
    AreJoined-more rings (one ∷ two ∷ three ∷ four ∷ []) _ _ _ _ c.len.result points_are c.in_ok-push-5.ensures.items (omega (arith, told)) joined
