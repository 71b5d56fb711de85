use Rattle.std.proofs.Common.{◌≡◌, ◌++◌, ◌∷◌, [], ◌<◌, ℕ, List, length, map, ap, ◌∙◌, arith}
use Rattle.std.specs.List.{flat_map}
use Rattle.plane.specs.declared.point.Point.{Point}
use Rattle.overlay.specs.Contours.Outlines.{outline}
use Rattle.overlay.specs.Rings.{rings_of}
use Rattle.noding.specs.Offsets.{offsets}
use Rattle.overlay.proofs.Callers.{AreEnds-joined, rings-joined}
use Rattle.overlay.proofs.ContourLemmas.Outlines.{outlines-more, stopped}
use Rattle.overlay.proofs.EachRing.{rings-size, rings_all}
use Rattle.overlay.proofs.contours.bends.append_outlines.Goals as goal

pub ring_at-requires : goal.ring_at-requires
ring_at-requires g c =
    let (lists, are, ends_are) = c.requires in
    record { ends = AreEnds-joined lists c.args.rings.now c.args.ends.now (are, ends_are); inside = omega arith }

pub returns-in_err-append_outline-clause-err : goal.returns-in_err-append_outline-clause-err
returns-in_err-append_outline-clause-err g c =
    let (points, ends) = c.loop-ring.invariant in
    stopped c.from_residual.result _ _ _ _ _ _ _ points c.in_err-append_outline.ensures.err ends

pub returns-in_err-push-clause-err : goal.returns-in_err-push-clause-err
returns-in_err-push-clause-err g c =
    let (points, ends) = c.loop-ring.invariant in
    stopped c.from_residual-in_err-push.result _ _ _ _ _ _ _ points (_, c.in_ok-append_outline.ensures.ok) (c.in_err-push.ensures.items ∙ ends)

pub loop-ring-preserved : goal.loop-ring-preserved
loop-ring-preserved g c =
    let (points, ends) = c.loop-ring.invariant in
    let lists = rings_of c.args.rings.now 0 c.args.ends.now in
    let within : c.loop-ring.ring < length lists = omega (arith, rings-size c.args.rings.now 0 c.args.ends.now) in
    let size : c.len.result ≡ length c.append_outline.new.points.items = omega (arith, c.len.ensures) in
    outlines-more lists c.loop-ring.ring within c.args.points.now.items c.loop-ring.points.items c.append_outline.new.points.items c.ring_at.result.now
    c.args.ring_ends.now.items c.loop-ring.ring_ends.items c.push.new.self.items points ends c.ring_at.ensures c.in_ok-append_outline.ensures.ok
    (c.in_ok-push.ensures.items ∙ ap (λ (n : ℕ). c.loop-ring.ring_ends.items ++ n ∷ []) size)

pub returns-clause-ok : goal.returns-clause-ok
returns-clause-ok g c = λ lists are ends_are.
    (let (points, ends) = c.loop-ring.invariant in
    let all = rings_all c.args.rings.now c.args.ends.now c.loop-ring.ring c.loop-ring-test.false ∙ rings-joined lists c.args.rings.now c.args.ends.now (are, ends_are) in (
      points ∙ ap (λ (some : List (List Point)). c.args.points.now.items ++ flat_map outline some) all,
      ends ∙ ap (λ (some : List (List Point)). c.args.ring_ends.now.items ++ offsets (length c.args.points.now.items) (map outline some)) all,
    ))
