use Rattle.std.proofs.Common.{Option, Some, None, IfSome}
use Rattle.grid.specs.declared.position.Position.{Position}
use Rattle.grid.specs.declared.units.Grid.{Grid}
use Rattle.grid.specs.Fit.{AreZero, HasPoint, IsBetween, IsFinest}
use Rattle.grid.proofs.HeldLemmas.{held_at_zero, held_on_finest}
use Rattle.grid.proofs.fit.fit_between.Goals as goal

IfSome-weaker : (found : Option Grid) (P Q : Grid → Type 0) → ((grid : Grid) → P grid → Q grid) → IfSome found P → IfSome found Q
IfSome-weaker None P Q turned is = is
IfSome-weaker (Some grid) P Q turned is = turned grid is

pub returns-then-are_zero-clause-points : goal.returns-then-are_zero-clause-points
returns-then-are_zero-clause-points c =
    let zero : AreZero c.args.low c.args.high = c.if-are_zero.ensures.value in
    λ position between. held_at_zero c.args.low c.args.high position zero between

pub returns-clause-points : goal.returns-clause-points
returns-clause-points c =
    let low = c.args.low in
    let high = c.args.high in
    IfSome-weaker c.finest.result (λ grid. IsFinest low high grid) (λ grid. (position : Position) → IsBetween low high position → HasPoint grid position)
    (λ grid is position between. held_on_finest low high position grid is between) c.finest.ensures.finest
