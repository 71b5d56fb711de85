use Rattle.std.proofs.Common.{◌≡◌, ◌∙◌, ◌++◌, ℕ, List, ap, subst, sym}
use Rattle.plane.specs.Pairs.Pairs.{ArePairsBetween}
use Rattle.noding.specs.Close.{PassesPoint}
use Rattle.noding.proofs.ChainLemmas.Close.{ArePairsBetween-within}
use Rattle.noding.proofs.ColumnLemmas.PassingPairs.{ArePassed-joined}
use Rattle.noding.proofs.columns.passing.pairs_passed_by_columns.Goals as goal

pub returns-clause-ok : goal.returns-clause-ok
returns-clause-ok g c =
    let edges = c.args.edges.now in
    let points = c.args.points.now in
    let (flat, first, are) = c.in_ok-append_passed.ensures.ok in
    let (steep, second, others) = c.in_ok-append_passed-2.ensures.ok in
    let listed : c.append_passed-2.new.pairs.items ≡ flat ++ steep =
    second ∙ ap (λ (list : List (ℕ × ℕ)). list ++ steep) (first ∙ ap (λ (list : List (ℕ × ℕ)). list ++ flat) c.new-pairs.ensures.items) in
    subst (ArePairsBetween PassesPoint edges points) (sym listed) (ArePassed-joined edges points flat steep are others)

pub returns-clause-within : goal.returns-clause-within
returns-clause-within g c = ArePairsBetween-within PassesPoint c.args.edges.now c.args.points.now c.append_passed-2.new.pairs.items (returns-clause-ok g c)
