use Rattle.std.proofs.Common.{arith, pos, subst₂, sym, ◌≤ℤ◌}
use Rattle.std.proofs.lemmas.Int.{ints}
use Rattle.plane.specs.declared.edge.Edge.{Edge}
use Rattle.offset.specs.Shape.{turn}
use Rattle.offset.proofs.cuts.is_gentle.Goals as goal

pub returns : goal.returns
returns c = record {
  corner = subst₂ (λ (one other : Edge). turn one other ≤ℤ pos 0) c.end_spoke-from.ensures c.start_spoke-to.ensures (omega (arith, ints, c.turn.ensures, c.if-turn-gt0.false));
  before = subst₂ (λ (one other : Edge). pos 0 ≤ℤ turn one other) c.start_spoke-to.ensures c.side_at.ensures (omega (arith, ints, c.turn-2.ensures, c.if-turn-lt0.false));
  after = subst₂ (λ (one other : Edge). pos 0 ≤ℤ turn one other) c.end_spoke-from.ensures c.side_at-2.ensures (omega (arith, ints, c.turn-3.ensures, c.if-turn-lt0-2.false));
}
