use Rattle.std.proofs.Common.{◌≡◌, ◌<◌, ◌≤◌, ◌++◌, [], inl, ℕ, List, Bool, true, false, ap, subst, subst₂, sym, ◌∙◌, length, drop, take, arith}
use Rattle.std.specs.Bool.{MatchBool}
use Rattle.std.specs.List.{All}
use Rattle.std.proofs.lemmas.List.{take_at}
use Rattle.plane.specs.Pairs.Pairs.{AreMoreThan, ArePairs}
use Rattle.monotone_chains.specs.Stretches.Cut.{AreSettled, IsSettled}
use Rattle.monotone_chains.specs.Stretches.Spans.{IsSpan, SpansMeet}
use Rattle.monotone_chains.specs.declared.stretches.spans.Span.{Span}
use Rattle.noding.proofs.ChainLemmas.Zips.{AllZip-length}
use Rattle.monotone_chains.proofs.StretchLemmas.CutTests.{spans-in_boxes}
use Rattle.monotone_chains.proofs.StretchLemmas.CutGroups.{AreSettled-pairs, pairs-within}
use Rattle.monotone_chains.proofs.stretches.marking.busy_of.Goals as goal

-- where the sweep says that all pairs are there
all-there : (are_all : Bool) (spans : List Span) (most : ℕ) (pairs : List (ℕ × ℕ)) → are_all ≡ true
    → MatchBool are_all (ArePairs SpansMeet spans pairs × (length pairs ≤ most)) (AreMoreThan SpansMeet spans most pairs) → ArePairs SpansMeet spans pairs
all-there true spans most pairs set told = told.0
all-there false spans most pairs unset told = absurd (cc)

-- a list that is read is what stands behind none
listed : (read list none pairs : List (ℕ × ℕ)) → read ≡ list → list ≡ none ++ pairs → none ≡ [] → read ≡ pairs
listed read list none pairs same is empty = same ∙ is ∙ ap (λ (before : List (ℕ × ℕ)). before ++ pairs) empty

pub pairs_upto-requires : goal.pairs_upto-requires
pairs_upto-requires g c = spans-in_boxes

pub mark-requires-clause-within : goal.mark-requires-clause-within
mark-requires-clause-within g c =
    let (pairs, is, told) = c.in_ok-are_all.ensures.ok in
    let are = all-there c.in_ok-are_all.are_all c.args.spans.now c.args.limit pairs c.if-not-are_all.false told in
    let all = listed c.deref.result.now c.pairs_upto.new.out.items c.new-pairs.result.items pairs c.deref.ensures.value is c.new-pairs.ensures.items in
    let size = AllZip-length IsSpan c.args.parts.now c.args.spans.now c.requires in
    subst₂ (λ (n : ℕ) (list : List (ℕ × ℕ)). All (λ pair. (pair.0 < n) × (pair.1 < n)) list) size (sym all) (pairs-within c.args.spans.now pairs are)

pub returns-clause-settled : goal.returns-clause-settled
returns-clause-settled g c =
    let (pairs, is, told) = c.in_ok-are_all.ensures.ok in
    let are = all-there c.in_ok-are_all.are_all c.args.spans.now c.args.limit pairs c.if-not-are_all.false told in
    let all = listed c.deref.result.now c.pairs_upto.new.out.items c.new-pairs.result.items pairs c.deref.ensures.value is c.new-pairs.ensures.items in
    let parts = c.args.parts.now in
    let marks = c.mark.new.busy in
    let same : take c.in_ok-busy.busy.len (marks ++ drop (length marks) c.in_ok-busy.busy.items) ≡ marks =
    take_at marks (drop (length marks) c.in_ok-busy.busy.items) c.in_ok-busy.busy.len (c.mark.auto.busy ∙ c.deref_mut.ensures.len) in
    subst (λ (list : List Bool). AreSettled parts list) (sym same)
    (AreSettled-pairs parts c.args.spans.now pairs marks c.requires are
    (subst (λ (list : List (ℕ × ℕ)). All (IsSettled parts marks) list) all c.mark.ensures))

pub returns-then-not-are_all-clause-settled : goal.returns-then-not-are_all-clause-settled
returns-then-not-are_all-clause-settled g c =
    let (size, each) = c.in_ok-all_busy.ensures in
    λ i j d below inside. inl (each i (omega (arith, below, inside)), each j inside)
