use Rattle.std.proofs.Common.{◌≡◌, ◌<◌, ◌++◌, ◌∷◌, [], ℕ, List, length, map, sym, ap, ◌∙◌, append-nil, subst, arith}
use Rattle.std.specs.List.{AllZip}
use Rattle.plane.specs.declared.point.Point.{Point}
use Rattle.monotone_chains.specs.Stretches.{IsWidened}
use Rattle.monotone_chains.specs.Stretches.Cut.{way}
use Rattle.monotone_chains.specs.Stretches.Widening.{IsTable}
use Rattle.overlay.specs.Rings.{rings_of}
use Rattle.overlay.proofs.Callers.{AreEnds-joined, rings-joined}
use Rattle.overlay.proofs.EachRing.{rings-size, rings_all}
use Rattle.monotone_chains.proofs.StretchLemmas.Widened.{AreWidened-more}
use Rattle.monotone_chains.proofs.stretches.widening.append_widened.Goals as goal

pub loop-ring-init : goal.loop-ring-init
loop-ring-init g c = record { widened = []; each = tt; points_are = sym (append-nil c.args.points.now.items); ends_are = sym (append-nil c.args.ends.now.items) }

pub ring_at-requires : goal.ring_at-requires
ring_at-requires g c =
    let (rings, are) = c.requires.rings in
    record { ends = AreEnds-joined rings c.args.ring_points.now c.args.ring_ends.now are; inside = omega arith }

pub append_ring-requires : goal.append_ring-requires
append_ring-requires g c = subst (IsTable c.args.parts.now) (sym c.deref.ensures.value) c.in_ok-table.ensures

pub loop-ring-preserved : goal.loop-ring-preserved
loop-ring-preserved g c =
    let stretches = map way c.args.parts.now in
    let rings = rings_of c.args.ring_points.now 0 c.args.ring_ends.now in
    let within : c.loop-ring.ring < length rings = omega (arith, rings-size c.args.ring_points.now 0 c.args.ring_ends.now) in
    let (wide, is, now) = c.in_ok-append_ring.ensures in
    let size : c.len.result ≡ length c.append_ring.new.points.items = omega (arith, c.len.ensures) in
    AreWidened-more stretches rings c.loop-ring.ring c.args.points.now.items c.loop-ring.points.items c.append_ring.new.points.items wide c.args.ends.now.items c.loop-ring.ends.items c.push.new.self.items within c.loop-ring.invariant
    (subst (λ (ring : List Point). IsWidened stretches ring wide) c.ring_at.ensures is) now (c.in_ok-push.ensures.items ∙ ap (λ (n : ℕ). c.loop-ring.ends.items ++ n ∷ []) size)

pub returns : goal.returns
returns g c = λ rings are.
    (let told = c.loop-ring.invariant in
    let all = rings_all c.args.ring_points.now c.args.ring_ends.now c.loop-ring.ring c.loop-ring-test.false ∙ rings-joined rings c.args.ring_points.now c.args.ring_ends.now are in
    (told.widened, subst (λ (some : List (List Point)). AllZip (IsWidened (map way c.args.parts.now)) some told.widened) all told.each, told.points_are, told.ends_are))
