use Rattle.std.proofs.Common.{◌≡◌, ◌++◌, ◌∷◌, ◌-◌, [], List, length, get_or, refl, ap, sym, ◌∙◌, append_assoc, append-nil, arith, pos}
use Rattle.std.proofs.lemmas.Bool.{eqb-false}
use Rattle.std.proofs.lemmas.List.Elements.{filter-append}
use Rattle.std.proofs.lemmas.Result.{on_ok_weaker}
use Rattle.plane.specs.declared.edge.Edge.{Edge}
use Rattle.plane.specs.declared.point.Point.{Point}
use Rattle.plane.specs.Ends.{edge_between}
use Rattle.noding.specs.Windings.{pieces}
use Rattle.overlay.proofs.ContourLemmas.RealEdges.{closing, few_pieces}
use Rattle.overlay.specs.Rings.{has_two_ends, real_edges}
use Rattle.overlay.proofs.rings.append_real_ones.Goals as goal

pub returns : goal.returns
returns g c =
    let (size, same) = c.loop-pair.invariant in
    let (_, (short, _)) = c.in-None.ensures.steps in
    let ring = c.args.ring.now in
    let before = c.args.edges.now.items in
    let so_far = c.loop-pair.edges.items in
    let none : Point = record { x = pos 0; y = pos 0 } in
    let last = edge_between (get_or ring (length ring - 1) none) (get_or ring 0 none) ∷ [] in
    let closed = closing ring (get_or ring (length ring - 1) none) (get_or ring 0 none) none (λ empty. eqb-false _ _ (sym c.is_empty.ensures ∙ c.if-is_empty.false) (ap (λ (points : List Point). length points) empty)) refl refl in
    let along : so_far ≡ before ++ real_edges (pieces ring) =
    sym (append-nil so_far) ∙ ap (λ (edges : List Edge). so_far ++ real_edges edges) (sym (few_pieces c.loop-pair.pair-iterator.rest.now (omega (arith, short, size)))) ∙ same in
    on_ok_weaker c.push_real-2.result (λ pushed. pushed
    ∙ ap (λ (edges : List Edge). edges ++ real_edges last) along
    ∙ append_assoc before (real_edges (pieces ring)) (real_edges last)
    ∙ ap (λ (edges : List Edge). before ++ edges) (sym (filter-append has_two_ends (pieces ring) last))
    ∙ ap (λ (edges : List Edge). before ++ real_edges edges) (sym closed)) c.push_real-2.ensures
