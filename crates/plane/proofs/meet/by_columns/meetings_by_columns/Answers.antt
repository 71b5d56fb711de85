use Rattle.std.proofs.Common.{◌≢◌, ℕ, List, [], sym, subst}
use Rattle.std.specs.List.{AllPairs}
use Rattle.std.proofs.lemmas.List.Filters.{dedup_is}
use Rattle.plane.specs.Gains.{GainsThese, HaveSame, IsOfSome}
use Rattle.plane.specs.Meet.Columns.{IsMeetingOf}
use Rattle.plane.proofs.MeetingLemmas.ColumnPairs.{AreMeetings-sorted}
use Rattle.plane.proofs.PairsLemmas.Sorted.{HaveSame-pairs, once-pairs, pair_ties}
use Rattle.plane.proofs.meet.by_columns.meetings_by_columns.Goals as goal

pub returns-clause-ok : goal.returns-clause-ok
returns-clause-ok g c =
    let edges = c.args.edges.now in
    let near = c.in_ok-near.near.items in
    let found = c.in_ok-pairs.pairs.items in
    let sorted = c.sort_unstable.new.self.items in
    AreMeetings-sorted edges near found c.dedup.new.self.items c.in_ok-near.ensures.ok
    (subst (λ (list : List (ℕ × ℕ)). GainsThese (IsOfSome (IsMeetingOf edges) list) [] found) c.deref.ensures.value c.in_ok-pairs.ensures)
    (subst (HaveSame found) (sym (dedup_is _ _ _ c.dedup.ensures.filtered)) (HaveSame-pairs pair_ties found sorted c.sort_unstable.ensures.permutation))
    (subst (AllPairs (λ pair later. pair ≢ later)) (sym (dedup_is _ _ _ c.dedup.ensures.filtered)) (once-pairs pair_ties found sorted c.sort_unstable.ensures.sorted))
