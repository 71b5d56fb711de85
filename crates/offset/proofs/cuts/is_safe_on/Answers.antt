use Rattle.std.proofs.Common.{ℕ, ◌+◌, ◌<◌, ◌≡◌, ⊎_elim, arith, subst, sym}
use Rattle.plane.specs.declared.edge.Edge.{Edge}
use Rattle.offset.specs.Cuts.{IsGentle, LieRight, edge_at, tips_of}
use Rattle.offset.specs.Shape.{sides}
use Rattle.offset.proofs.CutLemmas.Moved.{before-or_there}
use Rattle.offset.proofs.ShapeLemmas.{length-sides}
use Rattle.offset.proofs.cuts.is_safe_on.Goals as goal

pub returns-then-lie_right : goal.returns-then-lie_right
returns-then-lie_right c =
    let edges = sides c.args.ring.now in
    let points = tips_of c.args.tips in
    let here = (c.args.index + 1) + c.loop-step.step in
    let size = length-sides c.args.ring.now in
    record {
      last = here;
      from = omega arith;
      inside = omega (arith, size, c.loop-step.invariant.inside);
      right = λ place from until.
          ⊎_elim
          (λ (before : place < here). c.loop-step.invariant.right place from before)
          (λ (same : place ≡ here). subst (λ (at : ℕ). LieRight (edge_at edges at) points) (sym same) (subst (λ (edge : Edge). LieRight edge points) c.side_at.ensures c.if-not-lie_right.ensures))
          (before-or_there place here (omega (arith, until)));
      gentle = λ place from until. c.loop-step.invariant.gentle place from until;
      behind = subst (λ (line : Edge). LieRight line points) c.end_spoke.ensures c.if-lie_right.ensures;
    }

pub loop-step-preserved : goal.loop-step-preserved
loop-step-preserved c =
    let edges = sides c.args.ring.now in
    let points = tips_of c.args.tips in
    let corners = c.args.corners.now in
    let here = (c.args.index + 1) + c.loop-step.step in
    let inside = c.loop-step.invariant.inside in
    let more = c.if-place-ring.false in
    record {
      inside = omega (arith, inside, more);
      right = λ place from until.
          ⊎_elim
          (λ (before : place < here). c.loop-step.invariant.right place from before)
          (λ (same : place ≡ here). subst (λ (at : ℕ). LieRight (edge_at edges at) points) (sym same) (subst (λ (edge : Edge). LieRight edge points) c.side_at.ensures c.if-not-lie_right.ensures))
          (before-or_there place here (omega (arith, until)));
      gentle = λ place from until.
          ⊎_elim
          (λ (before : place < here). c.loop-step.invariant.gentle place from before)
          (λ (same : place ≡ here). subst (λ (at : ℕ). IsGentle corners (edge_at edges at) (edge_at edges (at + 1))) (sym same) c.if-not-is_gentle.ensures)
          (before-or_there place here (omega (arith, until)));
    }
