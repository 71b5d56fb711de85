use Rattle.std.proofs.Common.{[], ◌<◌, length, subst, arith}
use Rattle.std.specs.List.{All}
use Rattle.std.proofs.lemmas.List.{take_all}
use Rattle.std.proofs.lemmas.List.Elements.{All-more}
use Rattle.overlay.proofs.EachRing.{rings-size}
use Rattle.validity.specs.Given.{rings_at}
use Rattle.validity.specs.Validity.{IsSimple}
use Rattle.validity.proofs.Framed.{none-is}
use Rattle.validity.proofs.validity.fault_of_rings.Goals as goal

pub loop-ring-preserved : goal.loop-ring-preserved
loop-ring-preserved g c =
    let rings = rings_at c.args.set.rings in
    let size = rings-size c.args.set.rings.points.now 0 c.args.set.rings.ends.now in
    let more = c.loop-ring-test.true in
    All-more IsSimple rings c.loop-ring.ring [] (let inside : c.loop-ring.ring < length rings = omega (arith, size, more) in inside) c.loop-ring.invariant (none-is _ _ c.in_ok-fault.field-0 c.in_default.is c.in_ok-fault.ensures.ok)

pub returns-clause-ok : goal.returns-clause-ok
returns-clause-ok g c =
    let rings = rings_at c.args.set.rings in
    let size = rings-size c.args.set.rings.points.now 0 c.args.set.rings.ends.now in
    let past = c.loop-ring-test.false in
    subst (All IsSimple) (take_all c.loop-ring.ring rings (omega (arith, size, past))) c.loop-ring.invariant
