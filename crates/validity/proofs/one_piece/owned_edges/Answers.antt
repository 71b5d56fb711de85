use Rattle.std.proofs.Common.{◌∙◌, ◌++◌, List, ap₂, subst, arith}
use Rattle.overlay.proofs.EachRing.{rings-size}
use Rattle.overlay.specs.Contours.Rings.{real_edges, ring_edges}
use Rattle.plane.specs.declared.edge.Edge.{Edge}
use Rattle.plane.specs.declared.point.Point.{Point}
use Rattle.plane.specs.Gains.{GainsThese, IsOfSome}
use Rattle.validity.specs.Contacts.{IsOwnedBy}
use Rattle.validity.specs.Given.{rings_at}
use Rattle.validity.proofs.Contacts.{owned-all, owned-next, owned-none}
use Rattle.validity.proofs.one_piece.owned_edges.Goals as goal

pub loop-ring-init : goal.loop-ring-init
loop-ring-init g c = owned-none (rings_at c.args.rings) c.new-owned.result.items c.new-owned.ensures.items

pub loop-ring-preserved : goal.loop-ring-preserved
loop-ring-preserved g c =
    let are = c.deref.ensures.value ∙ c.in_ok-append_real_ones.ensures ∙ ap₂ (λ (before : List Edge) (ring : List Point). before ++ real_edges (ring_edges ring)) c.new-edges.ensures.items c.ring_at.ensures in
    owned-next (rings_at c.args.rings) c.loop-ring.ring c.loop-ring.owned.items c.append_owned.new.owned.items c.loop-ring.invariant
    (subst (λ (edges : List Edge). GainsThese (IsOfSome (IsOwnedBy c.loop-ring.ring) edges) c.loop-ring.owned.items c.append_owned.new.owned.items) are c.in_ok-append_owned.ensures)

pub returns : goal.returns
returns g c =
    let past = c.loop-ring-test.false in
    let auto = c.loop-ring.auto.ring-end in
    let size = rings-size c.args.rings.points.now 0 c.args.rings.ends.now in
    owned-all (rings_at c.args.rings) c.loop-ring.ring c.loop-ring.owned.items (omega (arith, past, auto, size)) c.loop-ring.invariant
