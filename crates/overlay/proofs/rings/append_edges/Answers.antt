use Rattle.std.proofs.Common.{◌≡◌, ◌++◌, ◌∷◌, ◌-◌, [], List, length, get_or, refl, ap, ap₂, sym, ◌∙◌, append_assoc, append-nil, arith, pos}
use Rattle.std.proofs.lemmas.Bool.{eqb-false}
use Rattle.plane.specs.declared.edge.Edge.{Edge}
use Rattle.plane.specs.declared.point.Point.{Point}
use Rattle.plane.specs.Ends.{edge_between}
use Rattle.noding.specs.Windings.{pieces}
use Rattle.overlay.proofs.ContourLemmas.RealEdges.{closing, few_pieces}
use Rattle.overlay.proofs.rings.append_edges.Goals as goal

pub returns : goal.returns
returns g c =
    let (size, same) = c.loop-pair.invariant in
    let (_, (short, _)) = c.in-None.ensures.steps in
    let ring = c.args.ring.now in
    let none : Point = record { x = pos 0; y = pos 0 } in
    let closed = closing ring (get_or ring (length ring - 1) none) (get_or ring 0 none) none (λ empty. eqb-false _ _ (sym c.is_empty.ensures ∙ c.if-is_empty.false) (ap (λ (points : List Point). length points) empty)) refl refl in
    let along : c.loop-pair.edges.items ≡ c.args.edges.now.items ++ pieces ring =
    sym (append-nil c.loop-pair.edges.items) ∙ ap (λ (edges : List Edge). c.loop-pair.edges.items ++ edges) (sym (few_pieces c.loop-pair.pair-iterator.rest.now (omega (arith, short, size)))) ∙ same in
    c.in_ok-push-2.ensures.items
    ∙ ap₂ (λ (edges : List Edge) (edge : Edge). edges ++ edge ∷ []) along c.edge_between-2.ensures
    ∙ append_assoc c.args.edges.now.items (pieces ring) (edge_between (get_or ring (length ring - 1) none) (get_or ring 0 none) ∷ [])
    ∙ ap (λ (edges : List Edge). c.args.edges.now.items ++ edges) (sym closed)
