-- No edge of a fill is a point.
use Rattle.std.proofs.Common.{◌≡◌, ◌≢◌, List, ap, sym}
use Rattle.std.specs.List.{All}
use Rattle.std.proofs.lemmas.List.Elements.{All-contains}
use Rattle.plane.specs.declared.edge.Edge.{Edge}
use Rattle.plane.specs.declared.point.Point.{Point}
use Rattle.plane.specs.Ends.{end_of, start_of}
use Rattle.overlay.specs.declared.fill.rules.FillRule.{FillRule}
use Rattle.overlay.specs.declared.fill.rules.Operation.{Operation}
use Rattle.overlay.specs.Fill.Filled.{IsFilled, IsNextInColumn}
use Rattle.overlay.proofs.FillLemmas.Premises.{All-among}

pub filled-two_ends : (rule : FillRule) (operation : Operation) (subject clip edges : List Edge) → IsFilled rule operation subject clip edges → All (λ edge. start_of edge ≢ end_of edge) edges
filled-two_ends rule operation subject clip edges filled =
    All-among (λ (edge : Edge). start_of edge ≢ end_of edge) edges
    (λ edge among same.
    (All-contains (λ (e : Edge). e.x1 ≡ e.x0 → IsNextInColumn edges e) edges edge filled.vertical among (sym (ap (λ (p : Point). p.x) same))).apart (sym (ap (λ (p : Point). p.y) same)))
