use Rattle.std.proofs.Common.{◌≡◌, ◌≢◌, ◌++◌, [], ◌-◌, ◌+◌, ◌≤ℤ◌, Bool, ℕ, take, drop, append-nil, ap, ap₂, sym, subst, ◌∙◌, arith}
use Rattle.std.specs.List.{All, AllPairs}
use Rattle.std.proofs.lemmas.List.{length-take-le, take-append-drop}
use Rattle.i_tree.proofs.RootLemmas.Joined.{AllPairs-front}
use Rattle.plane.specs.declared.point.Point.{Point}
use Rattle.plane.proofs.PairsLemmas.Extends.{OnErr-always}
use Rattle.overlay.specs.declared.fill.pieces.Piece.{Piece}
use Rattle.overlay.specs.Fill.Counts.{Counts, kept_edge}
use Rattle.overlay.specs.Fill.Few.{AreActive, counts_upto}
use Rattle.overlay.specs.Fill.Rules.{is_result}
use Rattle.overlay.specs.Fill.Sweep.{Fits, below_of, kept_of, plus}
use Rattle.overlay.proofs.KeptLemmas.Begun.{piece_at}
use Rattle.overlay.proofs.KeptLemmas.Below.{below-fits}
use Rattle.overlay.proofs.KeptLemmas.Few.{above-last, begun-from, below-counted, kept-more}
use Rattle.overlay.proofs.KeptLemmas.Looked.{AreActive-none, active-next}
use Rattle.overlay.proofs.KeptLemmas.Parts.{weigh-first_ones}
use Rattle.overlay.proofs.fill.few.append_by_comparing.Goals as goal

pub loop-place-init : goal.loop-place-init
loop-place-init g c = record {
  active = λ some. AreActive-none (piece_at c.args.pieces.now 0).edge.x0 c.args.pieces.now c.in_ok-active.active.items c.in_ok-active.ensures.items;
  above = λ some. absurd (omega (arith, some));
  kept = sym (append-nil c.args.out.now.items);
}

pub counts_below-below-requires-clause-begun : goal.counts_below-below-requires-clause-begun
counts_below-below-requires-clause-begun g c =
    let pieces = c.args.pieces.now in
    let k = c.loop-place.place in
    subst (λ (point : Point). All (λ (p : Piece). p.edge.x0 ≤ℤ point.x) (take k pieces)) (sym c.start_of.ensures) (begun-from pieces c.requires k c.loop-place-test.true)

pub counts_below-below-requires-clause-apart : goal.counts_below-below-requires-clause-apart
counts_below-below-requires-clause-apart g c =
    let pieces = c.args.pieces.now in
    let k = c.loop-place.place in
    AllPairs-front (λ (one other : Piece). one.edge ≢ other.edge) (take k pieces) (drop k pieces) (subst (AllPairs (λ (one other : Piece). one.edge ≢ other.edge)) (sym (take-append-drop k pieces)) c.requires.are.distinct)

pub counts_below-below-requires-clause-weigh : goal.counts_below-below-requires-clause-weigh
counts_below-below-requires-clause-weigh g c = let fill = c.requires in (fill.most, fill.countable, weigh-first_ones fill.most c.args.pieces.now fill.are.distinct fill.weigh c.loop-place.place)

pub counts_below-below-requires-clause-active : goal.counts_below-below-requires-clause-active
counts_below-below-requires-clause-active g c =
    let pieces = c.args.pieces.now in
    let k = c.loop-place.place in
    subst (λ (point : Point). AreActive point.x (take k pieces) c.loop-place.active.items) (sym c.start_of.ensures) (c.loop-place.invariant.active c.loop-place-test.true)

pub counts_below-below-requires-clause-above : goal.counts_below-below-requires-clause-above
counts_below-below-requires-clause-above g c =
    let pieces = c.args.pieces.now in
    let fill = c.requires in
    let k = c.loop-place.place in
    let within = c.loop-place-test.true in
    let size = length-take-le k pieces (omega (arith, within)) in
    λ last. let some = last.0 in c.loop-place.invariant.above (omega (arith, some, size)) ∙ above-last pieces fill k within c.start_of.result last

pub plus-above-requires : goal.plus-above-requires
plus-above-requires g c =
    let pieces = c.args.pieces.now in
    let fill = c.requires in
    let k = c.loop-place.place in
    let within = c.loop-place-test.true in
    let is = c.counts_below-below.ensures.counts ∙ ap (λ (point : Point). counts_upto point (take k pieces)) c.start_of.ensures ∙ below-counted pieces fill k within in
    subst (λ (below : Counts). Fits below (piece_at pieces k)) (sym is) (below-fits pieces fill k within)

pub returns-in_err-push-clause-err : goal.returns-in_err-push-clause-err
returns-in_err-push-clause-err g c =
    OnErr-always c.from_residual-in_err-push.result _ (kept_of (λ counts. is_result c.args.choice.rule c.args.choice.operation counts.subject counts.clip) c.args.pieces.now (take c.loop-place.place c.args.pieces.now), c.loop-place.invariant.kept)

pub returns-in_err-keep-clause-err : goal.returns-in_err-keep-clause-err
returns-in_err-keep-clause-err g c =
    OnErr-always c.from_residual-in_err-keep.result _ (kept_of (λ counts. is_result c.args.choice.rule c.args.choice.operation counts.subject counts.clip) c.args.pieces.now (take c.loop-place.place c.args.pieces.now), c.in_err-keep.ensures.err ∙ c.loop-place.invariant.kept)

pub loop-place-preserved : goal.loop-place-preserved
loop-place-preserved g c =
    let inside : Counts → Bool = λ counts. is_result c.args.choice.rule c.args.choice.operation counts.subject counts.clip in
    let pieces = c.args.pieces.now in
    let fill = c.requires in
    let k = c.loop-place.place in
    let within = c.loop-place-test.true in
    let out = c.loop-place.out.items in
    let counts = c.counts_below-below.result in
    let is = c.counts_below-below.ensures.counts ∙ ap (λ (point : Point). counts_upto point (take k pieces)) c.start_of.ensures ∙ below-counted pieces fill k within in
    record {
      active = active-next pieces fill k within c.counts_below-below.new.active.items _ c.in_ok-push.ensures.items
          (subst (λ (point : Point). AreActive point.x (take k pieces) c.counts_below-below.new.active.items) c.start_of.ensures c.counts_below-below.ensures.active);
      above = λ some. c.plus-above.ensures ∙ ap (λ (below : Counts). plus below (piece_at pieces k)) is ∙ ap (λ (n : ℕ). plus (below_of pieces (piece_at pieces n)) (piece_at pieces n)) (let less : k ≡ (k + 1) - 1 = omega arith in less);
      kept = kept-more pieces fill k within inside c.args.out.now.items out _ counts is
          c.loop-place.invariant.kept
          (c.in_ok-keep.ensures.ok ∙ ap₂ (λ (b a : Bool). out ++ kept_edge b a (piece_at pieces k).edge []) c.is_result-is_below.ensures (c.is_result-is_above.ensures ∙ ap inside c.plus-above.ensures));
    }
