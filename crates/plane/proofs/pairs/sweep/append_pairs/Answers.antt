use Rattle.std.proofs.Common.{◌+◌, List, ap, get_or, length, pos, arith}
use Rattle.plane.specs.Pairs.Live.{held}
use Rattle.plane.specs.declared.pairs.parts.Part.{Part}
use Rattle.plane.proofs.PairsLemmas.Extends.{OnErr-always, Extends-trans}
use Rattle.plane.proofs.PairsLemmas.Live.{latest-few, members-empty, stays}
use Rattle.plane.proofs.PairsLemmas.Served.{Served-none, Served-more, Served-all, Served-enough, its_base, its_place, its_reach, over_entered, within_entered, in_time}
use Rattle.plane.proofs.pairs.sweep.append_pairs.Goals as goal

abbrev nothing : Part
nothing = record { strip = 0; left = pos 0; place = 0 }

pub loop-next-init : goal.loop-next-init
loop-next-init g c = (Served-none c.requires.boxed c.args.strips c.args.items.now c.args.parts.now (held g.T.Boxed.bounds c.args.strips 0 c.in_ok-live.live) c.args.out.now.items c.in_ok-live.ensures.over (members-empty g.T.Boxed.bounds c.args.strips 0 c.in_ok-live.live c.in_ok-live.ensures.few c.in_ok-live.ensures.empty) (latest-few g.T.Boxed.bounds c.args.strips 0 c.in_ok-live.live c.in_ok-live.ensures.few), λ i d within. absurd (omega (arith, within, ap (λ (read : List _). length read) c.new-ahead.ensures)))

pub at-requires-clause-within : goal.at-requires-clause-within
at-requires-clause-within g c = λ k d inside. its_place c.requires.boxed c.args.strips c.args.items.now c.args.parts.now c.requires.base c.requires.parts k d inside

pub at-requires-clause-ahead : goal.at-requires-clause-ahead
at-requires-clause-ahead g c = c.loop-next.invariant.1

pub returns-in_err-item-clause-err : goal.returns-in_err-item-clause-err
returns-in_err-item-clause-err g c = let served = c.loop-next.invariant.0 in OnErr-always c.from_residual-in_err-item.result _ (served.pairs, served.gained)

pub serve-requires-clause-base : goal.serve-requires-clause-base
serve-requires-clause-base g c =
    its_base c.requires.boxed c.args.strips c.args.items.now c.args.parts.now c.requires.base c.requires.parts c.loop-next.next nothing c.loop-next-test.true c.in_ok-item.item (c.in_ok-item.ensures.value nothing)

pub serve-requires-clause-reaches : goal.serve-requires-clause-reaches
serve-requires-clause-reaches g c =
    its_reach c.requires.boxed c.args.strips c.args.items.now c.args.parts.now c.requires.base c.requires.parts c.loop-next.next nothing c.loop-next-test.true c.in_ok-item.item (c.in_ok-item.ensures.value nothing)

pub serve-requires-clause-over : goal.serve-requires-clause-over
serve-requires-clause-over g c =
    over_entered c.requires.boxed c.args.strips c.args.items.now c.args.parts.now c.requires.base c.requires.parts c.loop-next.next nothing c.loop-next-test.true c.loop-next.strip (held g.T.Boxed.bounds c.args.strips c.loop-next.strip c.loop-next.live) (held g.T.Boxed.bounds c.args.strips (get_or c.args.parts.now c.loop-next.next nothing).strip c.enter.new.live) c.args.out.now.items c.loop-next.out.items c.loop-next.invariant.0
    (λ same. stays g.T.Boxed.bounds c.args.strips c.loop-next.strip (get_or c.args.parts.now c.loop-next.next nothing).strip c.loop-next.live c.enter.new.live same (c.enter.ensures.stays same))
    (λ differs. members-empty g.T.Boxed.bounds c.args.strips (get_or c.args.parts.now c.loop-next.next nothing).strip c.enter.new.live (c.enter.ensures.few differs) (c.enter.ensures.empty differs))
    (λ differs. latest-few g.T.Boxed.bounds c.args.strips (get_or c.args.parts.now c.loop-next.next nothing).strip c.enter.new.live (c.enter.ensures.few differs)) c.enter.ensures.buckets

pub serve-requires-clause-within : goal.serve-requires-clause-within
serve-requires-clause-within g c =
    within_entered c.requires.boxed c.args.strips c.args.items.now c.args.parts.now c.requires.base c.requires.parts c.loop-next.next nothing c.loop-next-test.true c.loop-next.strip (held g.T.Boxed.bounds c.args.strips c.loop-next.strip c.loop-next.live) (held g.T.Boxed.bounds c.args.strips (get_or c.args.parts.now c.loop-next.next nothing).strip c.enter.new.live) c.args.out.now.items c.loop-next.out.items c.loop-next.invariant.0
    (λ same. stays g.T.Boxed.bounds c.args.strips c.loop-next.strip (get_or c.args.parts.now c.loop-next.next nothing).strip c.loop-next.live c.enter.new.live same (c.enter.ensures.stays same))
    (λ differs. members-empty g.T.Boxed.bounds c.args.strips (get_or c.args.parts.now c.loop-next.next nothing).strip c.enter.new.live (c.enter.ensures.few differs) (c.enter.ensures.empty differs))
    (λ differs. latest-few g.T.Boxed.bounds c.args.strips (get_or c.args.parts.now c.loop-next.next nothing).strip c.enter.new.live (c.enter.ensures.few differs)) c.enter.ensures.buckets

pub serve-requires-clause-in_time : goal.serve-requires-clause-in_time
serve-requires-clause-in_time g c =
    in_time c.requires.boxed c.args.strips c.args.items.now c.args.parts.now c.requires.base c.requires.parts c.loop-next.next nothing c.loop-next-test.true c.loop-next.strip (held g.T.Boxed.bounds c.args.strips c.loop-next.strip c.loop-next.live) (held g.T.Boxed.bounds c.args.strips (get_or c.args.parts.now c.loop-next.next nothing).strip c.enter.new.live) c.args.out.now.items c.loop-next.out.items c.loop-next.invariant.0
    (λ same. stays g.T.Boxed.bounds c.args.strips c.loop-next.strip (get_or c.args.parts.now c.loop-next.next nothing).strip c.loop-next.live c.enter.new.live same (c.enter.ensures.stays same))
    (λ differs. members-empty g.T.Boxed.bounds c.args.strips (get_or c.args.parts.now c.loop-next.next nothing).strip c.enter.new.live (c.enter.ensures.few differs) (c.enter.ensures.empty differs))
    (λ differs. latest-few g.T.Boxed.bounds c.args.strips (get_or c.args.parts.now c.loop-next.next nothing).strip c.enter.new.live (c.enter.ensures.few differs)) c.enter.ensures.buckets c.in_ok-item.item (c.in_ok-item.ensures.value nothing)

pub loop-next-preserved : goal.loop-next-preserved
loop-next-preserved g c = (
  Served-more c.requires.boxed c.args.strips c.args.items.now c.args.parts.now c.requires.base c.requires.parts c.loop-next.next nothing c.loop-next-test.true c.loop-next.strip (held g.T.Boxed.bounds c.args.strips c.loop-next.strip c.loop-next.live) (held g.T.Boxed.bounds c.args.strips (get_or c.args.parts.now c.loop-next.next nothing).strip c.enter.new.live) c.args.out.now.items c.loop-next.out.items c.loop-next.invariant.0
      (λ same. stays g.T.Boxed.bounds c.args.strips c.loop-next.strip (get_or c.args.parts.now c.loop-next.next nothing).strip c.loop-next.live c.enter.new.live same (c.enter.ensures.stays same))
      (λ differs. members-empty g.T.Boxed.bounds c.args.strips (get_or c.args.parts.now c.loop-next.next nothing).strip c.enter.new.live (c.enter.ensures.few differs) (c.enter.ensures.empty differs))
      (λ differs. latest-few g.T.Boxed.bounds c.args.strips (get_or c.args.parts.now c.loop-next.next nothing).strip c.enter.new.live (c.enter.ensures.few differs)) c.enter.ensures.buckets
      (held g.T.Boxed.bounds c.args.strips (get_or c.args.parts.now c.loop-next.next nothing).strip c.serve.new.live) c.in_ok-item.item c.serve.new.out.items (c.in_ok-item.ensures.value nothing) c.serve.ensures.buckets c.serve.ensures.latest (c.in_ok-asked.ensures).ok,
  c.in_ok-item.ensures.ahead,
)

pub returns-in_err-asked-clause-err : goal.returns-in_err-asked-clause-err
returns-in_err-asked-clause-err g c =
    let served = c.loop-next.invariant.0 in
    OnErr-always c.from_residual-in_err-asked.result _ (Extends-trans c.args.out.now.items c.loop-next.out.items c.serve.new.out.items (served.pairs, served.gained) (c.in_err-asked.ensures).err)

pub returns-then-len-limit-clause-ok : goal.returns-then-len-limit-clause-ok
returns-then-len-limit-clause-ok g c =
    let start = c.len-start.ensures in
    let limit = c.saturating_add-limit.ensures in
    let length_now = c.len.ensures in
    let longer = c.if-len-limit.true in
    Served-enough c.requires.boxed c.args.strips c.args.items.now c.args.parts.now (c.loop-next.next + 1) (get_or c.args.parts.now c.loop-next.next nothing).strip (held g.T.Boxed.bounds c.args.strips (get_or c.args.parts.now c.loop-next.next nothing).strip c.serve.new.live) c.args.most c.args.out.now.items c.serve.new.out.items (omega (arith, start, limit, length_now, longer))
    (Served-more c.requires.boxed c.args.strips c.args.items.now c.args.parts.now c.requires.base c.requires.parts c.loop-next.next nothing c.loop-next-test.true c.loop-next.strip (held g.T.Boxed.bounds c.args.strips c.loop-next.strip c.loop-next.live) (held g.T.Boxed.bounds c.args.strips (get_or c.args.parts.now c.loop-next.next nothing).strip c.enter.new.live) c.args.out.now.items c.loop-next.out.items c.loop-next.invariant.0
    (λ same. stays g.T.Boxed.bounds c.args.strips c.loop-next.strip (get_or c.args.parts.now c.loop-next.next nothing).strip c.loop-next.live c.enter.new.live same (c.enter.ensures.stays same))
    (λ differs. members-empty g.T.Boxed.bounds c.args.strips (get_or c.args.parts.now c.loop-next.next nothing).strip c.enter.new.live (c.enter.ensures.few differs) (c.enter.ensures.empty differs))
    (λ differs. latest-few g.T.Boxed.bounds c.args.strips (get_or c.args.parts.now c.loop-next.next nothing).strip c.enter.new.live (c.enter.ensures.few differs)) c.enter.ensures.buckets
    (held g.T.Boxed.bounds c.args.strips (get_or c.args.parts.now c.loop-next.next nothing).strip c.serve.new.live) c.in_ok-item.item c.serve.new.out.items (c.in_ok-item.ensures.value nothing) c.serve.ensures.buckets c.serve.ensures.latest (c.in_ok-asked.ensures).ok)

pub returns-then-is_passed-clause-ok : goal.returns-then-is_passed-clause-ok
returns-then-is_passed-clause-ok g c =
    let served = c.loop-next.invariant.0 in
    let gained = (c.in_ok-asked.ensures).ok.asks.gains in
    Extends-trans c.args.out.now.items c.loop-next.out.items c.serve.new.out.items (served.pairs, served.gained) (gained.0, gained.1)

pub returns-clause-ok : goal.returns-clause-ok
returns-clause-ok g c =
    Served-all c.requires.boxed c.args.strips c.args.items.now c.args.parts.now c.loop-next.next c.loop-next.strip (held g.T.Boxed.bounds c.args.strips c.loop-next.strip c.loop-next.live) c.args.most c.args.out.now.items c.loop-next.out.items c.loop-next-test.false c.requires.base c.requires.parts c.loop-next.invariant.0
