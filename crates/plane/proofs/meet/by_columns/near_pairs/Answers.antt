use Rattle.std.proofs.Common.{◌≡◌, ◌∙◌, ◌++◌, ℕ, List, ap, ap₂, length, subst}
use Rattle.std.specs.List.{All}
use Rattle.plane.specs.declared.edge.Edge.{Edge}
use Rattle.plane.specs.Meet.Columns.{HaveAllFound, IsWithinCount}
use Rattle.plane.proofs.MeetingLemmas.ColumnPairs.{HaveAllMeetings-joined, near-within}
use Rattle.plane.proofs.meet.by_columns.near_pairs.Goals as goal

pub returns-clause-ok : goal.returns-clause-ok
returns-clause-ok g c =
    let found = c.in_ok-near.near.items in
    let turned = c.in_ok-more.more.items in
    let ends = c.in_ok-at_ends.at_ends.items in
    let first : c.extend_from_slice.new.self.items ≡ found ++ turned = c.in_ok-extend_from_slice.ensures.items ∙ ap (λ (list : List (ℕ × ℕ)). found ++ list) c.deref-2.ensures.value in
    let both : c.extend_from_slice-2.new.self.items ≡ (found ++ turned) ++ ends = c.in_ok-extend_from_slice-2.ensures.items ∙ ap₂ (λ (list more : List (ℕ × ℕ)). list ++ more) first c.deref-3.ensures.value in
    HaveAllMeetings-joined c.args.edges.now c.in_ok-turned.turned.items found turned ends c.extend_from_slice-2.new.self.items c.in_ok-turned.ensures both c.in_ok-near.ensures.ok
    (subst (λ (list : List Edge). HaveAllFound list turned) c.deref.ensures.value c.in_ok-more.ensures.ok) c.in_ok-at_ends.ensures.ok

pub returns-clause-within : goal.returns-clause-within
returns-clause-within g c =
    let found = c.in_ok-near.near.items in
    let turned = c.in_ok-more.more.items in
    let ends = c.in_ok-at_ends.at_ends.items in
    let first : c.extend_from_slice.new.self.items ≡ found ++ turned = c.in_ok-extend_from_slice.ensures.items ∙ ap (λ (list : List (ℕ × ℕ)). found ++ list) c.deref-2.ensures.value in
    let both : c.extend_from_slice-2.new.self.items ≡ (found ++ turned) ++ ends = c.in_ok-extend_from_slice-2.ensures.items ∙ ap₂ (λ (list more : List (ℕ × ℕ)). list ++ more) first c.deref-3.ensures.value in
    near-within c.args.edges.now c.in_ok-turned.turned.items found turned ends c.extend_from_slice-2.new.self.items c.in_ok-turned.ensures both c.in_ok-near.ensures.within
    (subst (λ (list : List Edge). All (IsWithinCount (length list)) turned) c.deref.ensures.value c.in_ok-more.ensures.within) c.in_ok-at_ends.ensures.within
