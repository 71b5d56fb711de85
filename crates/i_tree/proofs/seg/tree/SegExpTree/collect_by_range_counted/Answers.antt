use Rattle.std.proofs.Common.{rules, ◌≡◌, ◌-◌, ℕ, not, List, [], ◌∷◌, ◌++◌, length, take, ap, sym, ◌∙◌, subst, length-append, arith}
use Rattle.std.proofs.lemmas.Bool.{cond-true, cond-false, false≢true}
use Rattle.std.proofs.lemmas.List.{append-nil, take_at}
use Rattle.std.proofs.lemmas.List.Sorted.{length_permutation}
use Rattle.i_tree.specs.Root.Steps.{Makes}
use Rattle.i_tree.specs.Seg.Buckets.{interval}
use Rattle.i_tree.specs.Seg.Copies.{stored_copies}
use Rattle.i_tree.specs.Seg.Members.{Appends, answer}
use Rattle.i_tree.specs.Seg.Walk.{to_come, Collects}
use Rattle.i_tree.proofs.SegLemmas.Collecting.{IsWalked, IsWalked-on, IsWalked-ended, IsWalked-cleans, IsWalked-left, reads-few, reads-each, IsAppended, IsAppended-more, IsAppended-fewer, IsAppended-all}
use Rattle.i_tree.proofs.SegLemmas.Losing.{LosesExpiredAt-none, HasPassed-start}
use Rattle.i_tree.proofs.SegLemmas.Walk.{Reads-none}
use Rattle.i_tree.proofs.seg.tree.SegExpTree.collect_by_range_counted.Goals as goal

pub loop-value-init : goal.loop-value-init
loop-value-init g c =
    let asked = c.ask-asked.ensures in
    rw (c.new-cursor.ensures.left, c.new-cursor.ensures.index)
    (record {
      walked = record {
        few = asked.few;
        within = asked.within;
        latest = asked.latest;
        buckets = asked.buckets;
        members = asked.members;
        loses = rw asked.chunks (LosesExpiredAt-none g.V.ExpiredVal.expiration g.E.Ord.cmp c.args.time c.ask-asked.result c.args.self.now.chunks);
        passed = HasPassed-start g.V.ExpiredVal.expiration g.E.Ord.cmp c.args.time c.ask-asked.result c.ask-asked.new.self.chunks;
        steps = rw asked.chunks (Reads-none g.met.C.Counter.law c.args.steps.now _ _);
      };
      appended = record { found = []; is = sym (append-nil c.args.out.now.items); rest = asked.found };
      room = omega arith;
    })

pub next_found-requires-clause-few : goal.next_found-requires-clause-few
next_found-requires-clause-few g c = c.loop-value.invariant.walked.few

pub next_found-requires-clause-within : goal.next_found-requires-clause-within
next_found-requires-clause-within g c = c.loop-value.invariant.walked.within

pub next_found-requires-clause-latest : goal.next_found-requires-clause-latest
next_found-requires-clause-latest g c = c.loop-value.invariant.walked.latest

pub next_found-requires-clause-passed : goal.next_found-requires-clause-passed
next_found-requires-clause-passed g c = c.loop-value.invariant.walked.passed

-- the walk after a refused growth
refused : (g : _) (c : goal.After-truncate g) → IsWalked g.V.ExpiredVal.expiration g.E.Ord.cmp c.args.time g.C.Counter.made c.ask-asked.result c.args.self.now c.args.steps.now c.next_found.new.self c.next_found.new.cursor.left c.next_found.new.cursor.index c.next_found.new.steps
refused g c =
    IsWalked-on g.V.ExpiredVal.expiration g.E.Ord.cmp c.args.time g.C.Counter.made c.ask-asked.result c.args.self.now c.args.steps.now g.met.C.Counter.law c.loop-value.steps c.next_found.new.steps c.loop-value.self c.next_found.new.self c.loop-value.cursor.left c.loop-value.cursor.index c.next_found.new.cursor.left c.next_found.new.cursor.index c.loop-value.invariant.walked
    c.next_found.ensures.walk.live.count c.next_found.ensures.walk.within c.next_found.ensures.latest c.next_found.ensures.buckets c.next_found.ensures.members c.next_found.ensures.walk.loses c.next_found.ensures.walk.passed c.next_found.ensures.walk.steps

-- the list had room for less than the answer
pub returns-then-is_err-clause-answers : goal.returns-then-is_err-clause-answers
returns-then-is_err-clause-answers g c = record {
  ok = tt;
  err =
      let so_far = c.loop-value.invariant.appended in
      let not_ok = c.is_err.ensures.negation ∙ ap not c.if-is_err.true in
      let same = c.push.ensures.items ∙ cond-false _ (c.loop-value.out.items ++ c.in-Some.value ∷ []) c.loop-value.out.items not_ok ∙ so_far.is in
      c.truncate.ensures.items ∙ ap (take c.len-start.result) same ∙ take_at c.args.out.now.items so_far.found c.len-start.result (omega (arith, c.len-start.ensures, c.args.out.now.ok.0));
  refused = search rules;
  with_room = λ room.
      let not_ok = c.is_err.ensures.negation ∙ ap not c.if-is_err.true in
      let fewer = IsAppended-fewer (answer g.V.ExpiredVal.expiration g.E.Ord.cmp c.args.time (interval c.args.self.now.buckets (g.R.LayoutNumber.whole c.args.range.min) (g.R.LayoutNumber.whole c.args.range.max)) c.args.self.now.members) c.args.out.now.items c.loop-value.out.items (to_come g.V.ExpiredVal.expiration g.E.Ord.cmp c.args.time c.ask-asked.result c.loop-value.cursor.left c.loop-value.cursor.index c.loop-value.self.chunks) c.loop-value.invariant.appended c.in-Some.ensures.walk.found in
      let grown = c.loop-value.invariant.room in
      let was = c.args.out.now.ok.0 in
      let is = c.loop-value.out.ok.0 in
      let ok = c.push.ensures.succeeds (omega arith) in
      absurd (false≢true (sym not_ok ∙ ok));
  members = (refused g c).members;
  latest = (refused g c).latest;
  buckets = (refused g c).buckets;
  filters = c.ask-asked.ensures.filters;
  cleans = tt;
  loses = rw (← c.ask-asked.ensures.asked) (refused g c).loses;
  fewer = let gone = (refused g c).steps.holds.removals in omega arith;
}

pub returns-then-is_err-clause-err_steps : goal.returns-then-is_err-clause-err_steps
returns-then-is_err-clause-err_steps g c =
    IsWalked-left g.V.ExpiredVal.expiration g.E.Ord.cmp c.args.time g.C.Counter.made c.ask-asked.result c.args.self.now c.args.steps.now c.next_found.new.self c.next_found.new.cursor.left c.next_found.new.cursor.index c.next_found.new.steps (length (answer g.V.ExpiredVal.expiration g.E.Ord.cmp c.args.time (interval c.args.self.now.buckets (g.R.LayoutNumber.whole c.args.range.min) (g.R.LayoutNumber.whole c.args.range.max)) c.args.self.now.members))
    (reads-few g.V.ExpiredVal.expiration g.E.Ord.cmp c.args.time c.ask-asked.result c.args.self.now.chunks c.ask-asked.new.self.chunks (answer g.V.ExpiredVal.expiration g.E.Ord.cmp c.args.time (interval c.args.self.now.buckets (g.R.LayoutNumber.whole c.args.range.min) (g.R.LayoutNumber.whole c.args.range.max)) c.args.self.now.members) c.ask-asked.ensures.chunks c.ask-asked.ensures.found c.ask-asked.ensures.reads) (refused g c)

pub loop-value-smaller : goal.loop-value-smaller
loop-value-smaller g c =
    let one = c.in-Some.ensures.walk.found in
    let fewer = length_permutation (to_come g.V.ExpiredVal.expiration g.E.Ord.cmp c.args.time c.ask-asked.result c.loop-value.cursor.left c.loop-value.cursor.index c.loop-value.self.chunks) (one.0 ∷ (to_come g.V.ExpiredVal.expiration g.E.Ord.cmp c.args.time c.ask-asked.result c.next_found.new.cursor.left c.next_found.new.cursor.index c.next_found.new.self.chunks)) one.2 in
    omega (arith, fewer)

pub loop-value-preserved : goal.loop-value-preserved
loop-value-preserved g c =
    let ok = c.is_err.ensures.negation ∙ ap not c.if-is_err.false in
    let more = c.push.ensures.items ∙ cond-true _ (c.loop-value.out.items ++ c.in-Some.value ∷ []) c.loop-value.out.items ok in
    record {
      walked = IsWalked-on g.V.ExpiredVal.expiration g.E.Ord.cmp c.args.time g.C.Counter.made c.ask-asked.result c.args.self.now c.args.steps.now g.met.C.Counter.law c.loop-value.steps c.next_found.new.steps c.loop-value.self c.next_found.new.self c.loop-value.cursor.left c.loop-value.cursor.index c.next_found.new.cursor.left c.next_found.new.cursor.index c.loop-value.invariant.walked
          c.next_found.ensures.walk.live.count c.next_found.ensures.walk.within c.next_found.ensures.latest c.next_found.ensures.buckets c.next_found.ensures.members c.next_found.ensures.walk.loses c.next_found.ensures.walk.passed c.next_found.ensures.walk.steps;
      appended = subst (λ (items : List g.row.V.Denot). IsAppended (answer g.V.ExpiredVal.expiration g.E.Ord.cmp c.args.time (interval c.args.self.now.buckets (g.R.LayoutNumber.whole c.args.range.min) (g.R.LayoutNumber.whole c.args.range.max)) c.args.self.now.members) c.args.out.now.items items (to_come g.V.ExpiredVal.expiration g.E.Ord.cmp c.args.time c.ask-asked.result c.next_found.new.cursor.left c.next_found.new.cursor.index c.next_found.new.self.chunks)) (sym more)
          (IsAppended-more (answer g.V.ExpiredVal.expiration g.E.Ord.cmp c.args.time (interval c.args.self.now.buckets (g.R.LayoutNumber.whole c.args.range.min) (g.R.LayoutNumber.whole c.args.range.max)) c.args.self.now.members) c.args.out.now.items c.loop-value.out.items (to_come g.V.ExpiredVal.expiration g.E.Ord.cmp c.args.time c.ask-asked.result c.loop-value.cursor.left c.loop-value.cursor.index c.loop-value.self.chunks) c.loop-value.invariant.appended c.in-Some.value (to_come g.V.ExpiredVal.expiration g.E.Ord.cmp c.args.time c.ask-asked.result c.next_found.new.cursor.left c.next_found.new.cursor.index c.next_found.new.self.chunks) c.in-Some.ensures.walk.found);
      room = let before = c.loop-value.invariant.room in let grown = c.push.ensures.capacity in omega arith;
    }

-- the finished walk
walked : (g : _) (c : goal.In_default g) → IsWalked g.V.ExpiredVal.expiration g.E.Ord.cmp c.args.time g.C.Counter.made c.ask-asked.result c.args.self.now c.args.steps.now c.next_found.new.self c.next_found.new.cursor.left c.next_found.new.cursor.index c.next_found.new.steps
walked g c =
    IsWalked-on g.V.ExpiredVal.expiration g.E.Ord.cmp c.args.time g.C.Counter.made c.ask-asked.result c.args.self.now c.args.steps.now g.met.C.Counter.law c.loop-value.steps c.next_found.new.steps c.loop-value.self c.next_found.new.self c.loop-value.cursor.left c.loop-value.cursor.index c.next_found.new.cursor.left c.next_found.new.cursor.index c.loop-value.invariant.walked
    c.next_found.ensures.walk.live.count c.next_found.ensures.walk.within c.next_found.ensures.latest c.next_found.ensures.buckets c.next_found.ensures.members c.next_found.ensures.walk.loses c.next_found.ensures.walk.passed c.next_found.ensures.walk.steps

-- the whole answer is appended
all_found : (g : _) (c : goal.In_default g) → Appends (answer g.V.ExpiredVal.expiration g.E.Ord.cmp c.args.time (interval c.args.self.now.buckets (g.R.LayoutNumber.whole c.args.range.min) (g.R.LayoutNumber.whole c.args.range.max)) c.args.self.now.members) c.args.out.now.items c.loop-value.out.items
all_found g c =
    IsAppended-all (answer g.V.ExpiredVal.expiration g.E.Ord.cmp c.args.time (interval c.args.self.now.buckets (g.R.LayoutNumber.whole c.args.range.min) (g.R.LayoutNumber.whole c.args.range.max)) c.args.self.now.members) c.args.out.now.items c.loop-value.out.items (to_come g.V.ExpiredVal.expiration g.E.Ord.cmp c.args.time c.ask-asked.result c.loop-value.cursor.left c.loop-value.cursor.index c.loop-value.self.chunks) c.loop-value.invariant.appended c.in_default.ensures.walk.found

pub returns-clause-answers : goal.returns-clause-answers
returns-clause-answers g c = record {
  ok = all_found g c;
  err = tt;
  refused = tt;
  with_room = search rules;
  members = (walked g c).members;
  latest = (walked g c).latest;
  buckets = (walked g c).buckets;
  filters = c.ask-asked.ensures.filters;
  cleans =
      rw (← c.ask-asked.ensures.asked)
      (IsWalked-cleans g.V.ExpiredVal.expiration g.E.Ord.cmp c.args.time g.C.Counter.made c.ask-asked.result c.args.self.now c.args.steps.now c.next_found.new.self c.next_found.new.cursor.left c.next_found.new.cursor.index c.next_found.new.steps
      (c.next_found.ensures.walk.ended c.in_default.is) (walked g c));
  loses = rw (← c.ask-asked.ensures.asked) (walked g c).loses;
  fewer = let gone = (walked g c).steps.holds.removals in omega arith;
}

pub returns-clause-steps : goal.returns-clause-steps
returns-clause-steps g c =
    let all = all_found g c in
    let as_many = length_permutation (answer g.V.ExpiredVal.expiration g.E.Ord.cmp c.args.time (interval c.args.self.now.buckets (g.R.LayoutNumber.whole c.args.range.min) (g.R.LayoutNumber.whole c.args.range.max)) c.args.self.now.members) all.0 all.1 in
    let longer = ap length all.2 in
    let both = length-append c.args.out.now.items all.0 in
    let values : length (answer g.V.ExpiredVal.expiration g.E.Ord.cmp c.args.time (interval c.args.self.now.buckets (g.R.LayoutNumber.whole c.args.range.min) (g.R.LayoutNumber.whole c.args.range.max)) c.args.self.now.members) ≡ length c.loop-value.out.items - length c.args.out.now.items = omega (arith, as_many, longer, both) in
    subst (λ (values : ℕ). Makes g.C.Counter.made c.args.steps.now c.next_found.new.steps (Collects values (stored_copies c.args.self.now.chunks) (stored_copies c.next_found.new.self.chunks))) values
    (IsWalked-ended g.V.ExpiredVal.expiration g.E.Ord.cmp c.args.time g.C.Counter.made c.ask-asked.result c.args.self.now c.args.steps.now c.next_found.new.self c.next_found.new.cursor.left c.next_found.new.cursor.index c.next_found.new.steps (length (answer g.V.ExpiredVal.expiration g.E.Ord.cmp c.args.time (interval c.args.self.now.buckets (g.R.LayoutNumber.whole c.args.range.min) (g.R.LayoutNumber.whole c.args.range.max)) c.args.self.now.members))
    (reads-few g.V.ExpiredVal.expiration g.E.Ord.cmp c.args.time c.ask-asked.result c.args.self.now.chunks c.ask-asked.new.self.chunks (answer g.V.ExpiredVal.expiration g.E.Ord.cmp c.args.time (interval c.args.self.now.buckets (g.R.LayoutNumber.whole c.args.range.min) (g.R.LayoutNumber.whole c.args.range.max)) c.args.self.now.members) c.ask-asked.ensures.chunks c.ask-asked.ensures.found c.ask-asked.ensures.reads)
    (reads-each g.V.ExpiredVal.expiration g.E.Ord.cmp c.args.time c.ask-asked.result c.args.self.now.chunks c.ask-asked.new.self.chunks (answer g.V.ExpiredVal.expiration g.E.Ord.cmp c.args.time (interval c.args.self.now.buckets (g.R.LayoutNumber.whole c.args.range.min) (g.R.LayoutNumber.whole c.args.range.max)) c.args.self.now.members) c.ask-asked.ensures.chunks c.ask-asked.ensures.found) (c.next_found.ensures.walk.ended c.in_default.is) (walked g c))
