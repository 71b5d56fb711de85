use Rattle.std.proofs.Common.{ℕ, ◌+◌, ◌-◌, ◌<◌, ◌≡◌, ◌≤◌, ⊎_elim, arith, subst, sym}
use Rattle.plane.specs.declared.edge.Edge.{Edge}
use Rattle.offset.specs.Cuts.{IsGentle, LieLeft, LieRight, edge_at, start_spoke, tips_of}
use Rattle.offset.specs.Shape.{sides}
use Rattle.offset.proofs.CutLemmas.Moved.{before-or_there}
use Rattle.offset.proofs.cuts.is_safe_back.Goals as goal

pub returns-then-lie_left : goal.returns-then-lie_left
returns-then-lie_left c =
    let edges = sides c.args.ring.now in
    let points = tips_of c.args.tips in
    let here = c.args.index - c.loop-step.step in
    let upto = c.loop-step.invariant.upto in
    record {
      first = here;
      upto = omega arith;
      right = λ place from until.
          ⊎_elim
          (λ (later : here < place). c.loop-step.invariant.right place (omega (arith, later, upto)) until)
          (λ (same : here ≡ place). subst (λ (at : ℕ). LieRight (edge_at edges at) points) same (subst (λ (edge : Edge). LieRight edge points) c.side_at.ensures c.if-not-lie_right.ensures))
          (before-or_there here place (omega (arith, from)));
      gentle = λ place from until. c.loop-step.invariant.gentle place (omega (arith, from, upto)) until;
      ahead = subst (λ (line : Edge). LieLeft line points) c.start_spoke.ensures c.if-lie_left.ensures;
    }

pub loop-step-preserved : goal.loop-step-preserved
loop-step-preserved c =
    let edges = sides c.args.ring.now in
    let points = tips_of c.args.tips in
    let corners = c.args.corners.now in
    let here = c.args.index - c.loop-step.step in
    let upto = c.loop-step.invariant.upto in
    let some = c.if-place-eq0.false in
    record {
      upto = omega (arith, upto, some);
      right = λ place from until.
          ⊎_elim
          (λ (later : here < place). c.loop-step.invariant.right place (omega (arith, later, upto)) until)
          (λ (same : here ≡ place). subst (λ (at : ℕ). LieRight (edge_at edges at) points) same (subst (λ (edge : Edge). LieRight edge points) c.side_at.ensures c.if-not-lie_right.ensures))
          (before-or_there here place (omega (arith, from, upto)));
      gentle = λ place from until.
          ⊎_elim
          (λ (later : here < place + 1). c.loop-step.invariant.gentle place (omega (arith, later, upto)) until)
          (λ (same : here ≡ place + 1).
          let before : here - 1 ≡ place = omega (arith, same) in
          subst (λ (at : ℕ). IsGentle corners (edge_at edges at) (edge_at edges (at + 1))) before c.if-not-is_gentle.ensures)
          (before-or_there here (place + 1) (omega (arith, from, upto)));
    }
