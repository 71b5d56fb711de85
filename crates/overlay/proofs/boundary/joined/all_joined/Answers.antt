use Rattle.std.proofs.Common.{◌≡◌, ◌++◌, ◌<◌, ◌*◌, ◌^◌, ℕ, List, length, take, drop, refl, sym, subst, ◌∙◌, arith}
use Rattle.std.specs.List.Sorted.{IsPermutation}
use Rattle.std.proofs.lemmas.List.{take_at}
use Rattle.std.proofs.lemmas.List.Sorted.{All-permutation, length_permutation}
use Rattle.std.proofs.lemmas.Result.{IfOk-weaker}
use Rattle.overlay.specs.declared.boundary.lines.Change.{Change}
use Rattle.overlay.specs.Joined.{AreJoinedEdges}
use Rattle.overlay.specs.Lines.{AreInOrder, IsSmallChange, all_stretches}
use Rattle.overlay.proofs.LineLemmas.Runs.{tells-moved}
use Rattle.overlay.proofs.LineLemmas.Stretches.{joined-all}
use Rattle.overlay.proofs.LineLemmas.Sums.{plain}
use Rattle.overlay.proofs.boundary.joined.all_joined.Goals as goal

-- the list that is read is the sorted one
read_is : (sorted read rest : List Change) (n : ℕ) → length sorted ≡ n → read ≡ take n (sorted ++ rest) → read ≡ sorted
read_is sorted read rest n size is = is ∙ take_at sorted rest n size

-- and has the same changes
moved_is : (items sent sorted read : List Change) → sent ≡ items → IsPermutation sent sorted → read ≡ sorted → IsPermutation items read
moved_is items sent sorted read sent_is moved is = subst (IsPermutation items) (sym is) (subst (λ (list : List Change). IsPermutation list sorted) sent_is moved)

-- so as many
few_moved : (items read : List Change) → IsPermutation items read → 127 * length items < 2 ^ 63 → 127 * length read < 2 ^ 63
few_moved items read moved few = let same = length_permutation items read moved in omega (arith, few, same)

pub stretches_of-requires-clause-small : goal.stretches_of-requires-clause-small
stretches_of-requires-clause-small g c =
    let is = read_is c.sort_changes.new.changes c.deref.result.now _ c.in_ok-changes.changes.len (c.sort_changes.auto.changes ∙ c.deref_mut.ensures.len) c.deref.ensures.value in
    let moved = moved_is c.in_ok-changes.changes.items c.deref_mut.result.now c.sort_changes.new.changes c.deref.result.now c.deref_mut.ensures.value c.sort_changes.ensures.same is in
    All-permutation IsSmallChange c.in_ok-changes.changes.items c.deref.result.now moved c.in_ok-changes.ensures.small

pub stretches_of-requires-clause-few : goal.stretches_of-requires-clause-few
stretches_of-requires-clause-few g c =
    let is = read_is c.sort_changes.new.changes c.deref.result.now _ c.in_ok-changes.changes.len (c.sort_changes.auto.changes ∙ c.deref_mut.ensures.len) c.deref.ensures.value in
    let moved = moved_is c.in_ok-changes.changes.items c.deref_mut.result.now c.sort_changes.new.changes c.deref.result.now c.deref_mut.ensures.value c.sort_changes.ensures.same is in
    few_moved c.in_ok-changes.changes.items c.deref.result.now moved c.in_ok-changes.ensures.few

pub returns : goal.returns
returns g c =
    let subject = take c.args.count c.args.edges.now in
    let clip = drop c.args.count c.args.edges.now in
    let read = c.deref.result.now in
    let is = read_is c.sort_changes.new.changes read _ c.in_ok-changes.changes.len (c.sort_changes.auto.changes ∙ c.deref_mut.ensures.len) c.deref.ensures.value in
    let moved = moved_is c.in_ok-changes.changes.items c.deref_mut.result.now c.sort_changes.new.changes read c.deref_mut.ensures.value c.sort_changes.ensures.same is in
    let tell = tells-moved c.in_ok-changes.changes.items (plain subject clip) c.in_ok-changes.ensures.tell read moved in
    let joined = joined-all subject clip read (record { tell = tell; order = subst AreInOrder (sym is) c.sort_changes.ensures.order }) read refl in
    IfOk-weaker c.stretches_of.result (λ stretches. stretches.items ≡ all_stretches read) (λ stretches. AreJoinedEdges subject clip stretches.items)
    (λ stretches same. subst (AreJoinedEdges subject clip) (sym same) joined) c.stretches_of.ensures
