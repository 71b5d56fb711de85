-- That a booking is listed on a later day: it was stored, the query of today kept it, and the query of that day finds it.
use Rattle.std.proofs.Common.{◌++◌, Some, List, ap, sym, ◌∙◌, subst}
use Rattle.std.specs.List.{Contains}
use Rattle.std.specs.Ordering.{nat_cmp}
use Rattle.std.proofs.lemmas.Cmp.{nat_cmp_total}
use Rattle.i_tree.specs.Seg.Members.{Member, NotBefore, member_over}
use Rattle.i_tree.proofs.SegLemmas.Callers.{finds_overlapping, ge-upto, is_stored, stays_member, live-before}
use Rattle.uses.specs.declared.kept_booking.Booking.{Booking}
use Rattle.uses.proofs.kept_booking.listed_later.Goals as goal

pub collect_by_range-requires-clause-accepted : goal.collect_by_range-requires-clause-accepted
collect_by_range-requires-clause-accepted c =
    rw c.in_ok-insert_by_range.ensures.buckets (c.accepts-else-not-accepts.ensures.0 c.if-not-accepts-2.false)

pub collect_by_range-requires-2-clause-accepted : goal.collect_by_range-requires-2-clause-accepted
collect_by_range-requires-2-clause-accepted c =
    rw (c.in_ok-collect_by_range.ensures.buckets, c.in_ok-insert_by_range.ensures.buckets) (c.accepts-else-not-accepts.ensures.0 c.if-not-accepts-2.false)

pub collect_by_range-requires-2-clause-in_time : goal.collect_by_range-requires-2-clause-in_time
collect_by_range-requires-2-clause-in_time c = c.is_in_time-2.ensures.0 c.if-not-is_in_time-2.false

pub returns : goal.returns
returns c = record {
  found = λ _ first second stands.
      let (found, answered, are) = c.in_ok-collect_by_range-2.ensures.ok in
      let buckets = c.in_ok-collect_by_range.ensures.buckets ∙ c.in_ok-insert_by_range.ensures.buckets in
      let in_time = c.is_in_time.ensures.0 c.if-not-is_in_time.false in
      let in_time_later : NotBefore nat_cmp (Some c.args.today) c.args.later = rw c.in_ok-collect_by_range.ensures.latest at (c.is_in_time-2.ensures.0 c.if-not-is_in_time-2.false) in
      let last = ge-upto c.args.booking.until c.args.later stands in
      let today = live-before nat_cmp_total (λ (one : Booking). one.until) (Some c.args.today) c.args.later in_time_later c.args.booking last in
      let at_first = live-before nat_cmp_total (λ (one : Booking). one.until) c.args.tree.now.latest c.args.today in_time c.args.booking today in
      let member : Member Booking = member_over c.args.tree.now.buckets c.args.booking.hours.min c.args.booking.hours.max c.args.booking in
      let stored = is_stored (λ (one : Booking). one.until) nat_cmp c.args.tree.now.latest member c.args.tree.now.members c.insert_by_range.new.self.members at_first c.in_ok-insert_by_range.ensures.ok in
      let kept = stays_member (λ (one : Booking). one.until) nat_cmp c.args.today member c.insert_by_range.new.self.members c.collect_by_range.new.self.members stored today c.in_ok-collect_by_range.ensures.members in
      let listed = finds_overlapping (λ (one : Booking). one.until) nat_cmp c.args.later c.args.tree.now.buckets c.args.booking.hours.min c.args.booking.hours.max c.args.hours.min c.args.hours.max c.args.booking c.collect_by_range.new.self.members found
      kept last c.in_ok-insert_by_range.ensures.filters (c.accepts.ensures.0 c.if-not-accepts.false) (c.accepts-else-not-accepts.ensures.0 c.if-not-accepts-2.false) first second (rw buckets at answered) in
      subst (λ (items : List Booking). Contains items c.args.booking) (sym (are ∙ ap (λ (before : List Booking). before ++ found) c.clear.ensures.items)) listed;
}
