use Rattle.std.proofs.Common.{◌<◌, ℕ, List, length, subst}
use Rattle.std.specs.List.{All}
use Rattle.plane.specs.declared.columns.Asked.{Asked}
use Rattle.plane.specs.Columns.Asked.{Reaches}
use Rattle.plane.specs.Gains.{GainsThese, IsOfSome}
use Rattle.plane.specs.Meet.Columns.{IsPairAbout}
use Rattle.plane.specs.Pairs.Pairs.{ArePairsBetween}
use Rattle.plane.proofs.MeetingLemmas.ColumnPairs.{HaveAllFound-columns, found-within}
use Rattle.plane.proofs.meet.by_columns.found_pairs.Goals as goal

pub returns-clause-ok : goal.returns-clause-ok
returns-clause-ok g c =
    let edges = c.args.edges.now in
    let asked = c.in_ok-asked.asked.items in
    let crossed = c.in_ok-pairs.field-0.crossed.items in
    let met = c.in_ok-pairs.field-0.met.items in
    let pairs = c.append_met.new.pairs.items in
    HaveAllFound-columns edges asked crossed met pairs c.in_ok-asked.ensures (subst (λ (among : List (ℕ × ℕ)). GainsThese (IsOfSome (IsPairAbout (length edges)) among) crossed pairs) c.deref-2.ensures.value c.in_ok-append_met.ensures)
    c.in_ok-pairs.ensures.crossed (subst (λ (list : List Asked). ArePairsBetween Reaches edges list met) c.deref.ensures.value c.in_ok-pairs.ensures.met)

pub returns-clause-within : goal.returns-clause-within
returns-clause-within g c =
    let edges = c.args.edges.now in
    let asked = c.in_ok-asked.asked.items in
    let crossed = c.in_ok-pairs.field-0.crossed.items in
    let met = c.in_ok-pairs.field-0.met.items in
    let pairs = c.append_met.new.pairs.items in
    found-within edges asked crossed met pairs c.in_ok-asked.ensures (subst (λ (among : List (ℕ × ℕ)). GainsThese (IsOfSome (IsPairAbout (length edges)) among) crossed pairs) c.deref-2.ensures.value c.in_ok-append_met.ensures)
    c.in_ok-pairs.ensures.crossed_within (subst (λ (list : List Asked). All (λ pair. (pair.0 < length edges) × (pair.1 < length list)) met) c.deref.ensures.value c.in_ok-pairs.ensures.met_within)
