use Rattle.std.proofs.Common.{List, subst, sym}
use Rattle.std.specs.List.{AllZip}
use Rattle.layers.specs.declared.around.half_point.HalfPoint.{HalfPoint}
use Rattle.layers.specs.Shapes.{edges_of_each}
use Rattle.layers.proofs.AroundLemmas.Doubling.{ArePairsIn-doubled, IsTwice}
use Rattle.layers.proofs.points.points_in.Goals as goal

pub returns-clause-ok : goal.returns-clause-ok
returns-clause-ok g c =
    let (pairs, is, found) = c.in_ok-append_pairs_in.ensures.ok in (
      pairs,
      is,
      ArePairsIn-doubled c.args.points.now c.deref.result.now
          (subst (λ (halves : List HalfPoint). AllZip IsTwice c.args.points.now halves) (sym c.deref.ensures.value) c.in_ok-halves.ensures)
          c.args.rule c.args.border (edges_of_each c.args.shapes) pairs found,
    )
