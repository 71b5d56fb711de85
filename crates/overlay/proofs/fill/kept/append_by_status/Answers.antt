use Rattle.std.proofs.Common.{◌++◌, ◌∷◌, [], Bool, List, length, take, sym, ap, ap₂, ◌∙◌, subst₂, arith}
use Rattle.plane.specs.SweepLine.Active.{Entry}
use Rattle.plane.proofs.PairsLemmas.Extends.{OnErr-always}
use Rattle.overlay.specs.Fill.Counts.{Counts, kept_edge}
use Rattle.overlay.specs.Fill.Rules.{is_result}
use Rattle.overlay.specs.Fill.Sweep.{above_or, kept_of}
use Rattle.overlay.proofs.KeptLemmas.Begun.{begin-last, begin-places, piece_at}
use Rattle.overlay.proofs.KeptLemmas.Swept.{Begins, HasSwept, HasSwept-more, HasSwept-none, counts-below, sums-fit}
use Rattle.overlay.proofs.fill.kept.append_by_status.Goals as goal

pub loop-place-init : goal.loop-place-init
loop-place-init g c =
    let inside : Counts → Bool = λ counts. is_result c.args.choice.rule c.args.choice.operation counts.subject counts.clip in
    let pieces = c.args.pieces.now in
    let before = c.args.out.now.items in (
      subst₂ (λ (stored : List Entry) (above : List Counts). HasSwept inside pieces 0 stored above before before) (sym c.requires.empty) (sym c.in_ok-above.ensures.items) (HasSwept-none inside pieces before),
      omega arith,
    )

pub begin-requires-clause-last : goal.begin-requires-clause-last
begin-requires-clause-last g c =
    let stored = g.C.StatusCollection.stored c.loop-place.status in
    let swept = c.loop-place.invariant.0 in
    let within = c.loop-place-test.true in
    begin-last c.args.pieces.now c.requires.pieces c.loop-place.place within swept.x (swept.upto within) stored swept.begun

pub begin-requires-clause-places : goal.begin-requires-clause-places
begin-requires-clause-places g c =
    let stored = g.C.StatusCollection.stored c.loop-place.status in
    let swept = c.loop-place.invariant.0 in
    let within = c.loop-place-test.true in
    let size = swept.size in
    let same = ap (λ (list : List Counts). length list) c.deref.ensures.value in
    begin-places c.args.pieces.now c.requires.pieces c.loop-place.place within swept.x (swept.upto within) stored swept.begun (length c.deref.result.now) (omega (arith, same, size))

pub returns-in_err-below-clause-err : goal.returns-in_err-below-clause-err
returns-in_err-below-clause-err g c =
    let swept = c.loop-place.invariant.0 in
    OnErr-always c.from_residual-in_err-below.result _ (kept_of (λ counts. is_result c.args.choice.rule c.args.choice.operation counts.subject counts.clip) c.args.pieces.now (take c.loop-place.place c.args.pieces.now), swept.kept)

pub returns-in_err-push-clause-err : goal.returns-in_err-push-clause-err
returns-in_err-push-clause-err g c =
    let swept = c.loop-place.invariant.0 in
    OnErr-always c.from_residual-in_err-push.result _ (kept_of (λ counts. is_result c.args.choice.rule c.args.choice.operation counts.subject counts.clip) c.args.pieces.now (take c.loop-place.place c.args.pieces.now), swept.kept)

pub plus-counts-requires : goal.plus-counts-requires
plus-counts-requires g c =
    let inside : Counts → Bool = λ counts. is_result c.args.choice.rule c.args.choice.operation counts.subject counts.clip in
    let pieces = c.args.pieces.now in
    let k = c.loop-place.place in
    let stored = g.C.StatusCollection.stored c.loop-place.status in
    let after = g.C.StatusCollection.stored c.begin.new.status in
    let above = c.loop-place.above.items in
    let counts = c.in_ok-below.below in
    let swept = c.loop-place.invariant.0 in
    let (found, last, is) = c.in_ok-below.ensures.below in
    let begins : Begins (piece_at pieces k) k stored after above counts = record {
      joins = c.in_ok-below.ensures.joins;
      sorted = c.in_ok-below.ensures.sorted;
      found = found;
      last = last;
      is = is ∙ ap (λ (list : List Counts). above_or list found) c.deref.ensures.value;
    } in
    sums-fit inside pieces c.requires.pieces k c.loop-place-test.true stored above c.args.out.now.items c.loop-place.out.items swept counts
    (counts-below inside pieces c.requires.pieces k c.loop-place-test.true stored above c.args.out.now.items c.loop-place.out.items swept after counts begins)

pub returns-in_err-keep-clause-err : goal.returns-in_err-keep-clause-err
returns-in_err-keep-clause-err g c =
    let swept = c.loop-place.invariant.0 in
    OnErr-always c.from_residual-in_err-keep.result _ (kept_of (λ counts. is_result c.args.choice.rule c.args.choice.operation counts.subject counts.clip) c.args.pieces.now (take c.loop-place.place c.args.pieces.now), c.in_err-keep.ensures.err ∙ swept.kept)

pub loop-place-preserved : goal.loop-place-preserved
loop-place-preserved g c =
    let inside : Counts → Bool = λ counts. is_result c.args.choice.rule c.args.choice.operation counts.subject counts.clip in
    let pieces = c.args.pieces.now in
    let k = c.loop-place.place in
    let stored = g.C.StatusCollection.stored c.loop-place.status in
    let after = g.C.StatusCollection.stored c.begin.new.status in
    let above = c.loop-place.above.items in
    let out = c.loop-place.out.items in
    let counts = c.in_ok-below.below in
    let swept = c.loop-place.invariant.0 in
    let (found, last, is) = c.in_ok-below.ensures.below in
    let begins : Begins (piece_at pieces k) k stored after above counts = record {
      joins = c.in_ok-below.ensures.joins;
      sorted = c.in_ok-below.ensures.sorted;
      found = found;
      last = last;
      is = is ∙ ap (λ (list : List Counts). above_or list found) c.deref.ensures.value;
    } in (
      HasSwept-more inside pieces c.requires.pieces k c.loop-place-test.true stored above c.args.out.now.items out swept after counts begins _ _
          (c.in_ok-push.ensures.items ∙ ap (λ (sum : Counts). above ++ sum ∷ []) c.plus-counts.ensures)
          (c.in_ok-keep.ensures.ok ∙ ap₂ (λ (b a : Bool). out ++ kept_edge b a (piece_at pieces k).edge []) c.is_result-is_below.ensures (c.is_result-is_above.ensures ∙ ap inside c.plus-counts.ensures)),
      (let more = c.in_ok-below.ensures.room in let less = c.loop-place.invariant.1 in omega (arith, more, less)),
    )
