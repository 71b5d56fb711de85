use Rattle.std.proofs.Common.{pos, ◌+◌, take, get_or, sym, subst}
use Rattle.std.specs.List.{All}
use Rattle.std.proofs.lemmas.List.{take_all}
use Rattle.std.proofs.lemmas.List.Elements.{All-more, All-same, All-weaker}
use Rattle.plane.specs.declared.pairs.items.Bounds.{Bounds}
use Rattle.plane.specs.declared.point.Point.{Point}
use Rattle.layers.specs.Boxed.{grown}
use Rattle.layers.specs.Boxes.{IsInBounds}
use Rattle.layers.proofs.BoxLemmas.{IsInBounds-grown, IsInBounds-itself}
use Rattle.layers.proofs.around.chains.chain_of.Goals as goal

zero : Point
zero = record { x = pos 0; y = pos 0 }

pub loop-point-preserved : goal.loop-point-preserved
unfolding zero
loop-point-preserved c =
    let points = c.args.points.now in
    let i = c.loop-point.point-index in
    let bounds = c.loop-point.bounds in
    let (before, end) = c.loop-point.invariant in
    let point = get_or points i zero in
    let more : All (IsInBounds (grown bounds point)) (take (i + 1) points) =
    All-more (IsInBounds (grown bounds point)) points i zero c.loop-point-test.true
    (All-weaker (IsInBounds bounds) (IsInBounds (grown bounds point)) (λ other. IsInBounds-grown bounds point other) (take i points) before)
    (IsInBounds-itself bounds point) in
    subst (λ (b : Bounds). All (IsInBounds b) (take (i + 1) points) × IsInBounds b c.args.end) (sym c.grown-bounds.ensures) (more, IsInBounds-grown bounds point c.args.end end)

pub returns-clause-bounded : goal.returns-clause-bounded
returns-clause-bounded c =
    let (all, end) = c.loop-point.invariant in
    record {
      some = c.requires.some;
      few = c.requires.few;
      points = All-same (IsInBounds c.loop-point.bounds) c.args.points.now (take c.loop-point.point-index c.args.points.now) (sym (take_all c.loop-point.point-index c.args.points.now c.loop-point-test.false)) all;
      end = end;
    }
