use Rattle.std.proofs.Common.{[], get_or, pos, subst, sym, arith, List}
use Rattle.plane.proofs.GainsLemmas.{gains-all, gains-next, gains-none, gains-one, none_of}
use Rattle.plane.specs.declared.edge.Edge.{Edge}
use Rattle.plane.specs.Gains.{GainsThese, IsOfSome}
use Rattle.validity.specs.Contacts.{IsOwnedBy}
use Rattle.validity.specs.declared.one_piece.OwnedEdge.{OwnedEdge}
use Rattle.validity.proofs.one_piece.append_owned.Goals as goal

abbrev no_edge : Edge
no_edge = record { x0 = pos 0; y0 = pos 0; x1 = pos 0; y1 = pos 0 }

pub loop-edge-init : goal.loop-edge-init
loop-edge-init g c = gains-none (IsOfSome (IsOwnedBy c.args.ring) []) c.args.owned.now.items (none_of (IsOwnedBy c.args.ring))

pub loop-edge-preserved : goal.loop-edge-preserved
loop-edge-preserved g c =
    gains-next (IsOwnedBy c.args.ring) c.args.edges.now c.loop-edge.edge-index no_edge c.args.owned.now.items c.loop-edge.owned.items _ c.loop-edge-test.true c.loop-edge.invariant
    (subst (λ (list : List OwnedEdge). GainsThese (IsOwnedBy c.args.ring (get_or c.args.edges.now c.loop-edge.edge-index no_edge)) c.loop-edge.owned.items list) (sym c.in_ok-push.ensures.items) (gains-one c.loop-edge.owned.items (record { edge = get_or c.args.edges.now c.loop-edge.edge-index no_edge; ring = c.args.ring })))

pub returns : goal.returns
returns g c =
    let past = c.loop-edge-test.false in
    gains-all (IsOwnedBy c.args.ring) c.args.edges.now c.loop-edge.edge-index c.args.owned.now.items c.loop-edge.owned.items (omega (arith, past)) c.loop-edge.invariant
