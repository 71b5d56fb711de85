use Rattle.std.proofs.Common.{◌≡◌, ◌⊎◌, ◌<◌, ◌≤◌, inl, inr, false, List, length, subst₂, sym, arith}
use Rattle.std.specs.List.{AllZip}
use Rattle.std.proofs.lemmas.List.{get_or_read}
use Rattle.noding.proofs.ChainLemmas.Zips.{AllZip-at, AllZip-length}
use Rattle.monotone_chains.specs.Stretches.Spans.{IsSpan}
use Rattle.monotone_chains.specs.declared.stretches.parts.Part.{Part}
use Rattle.monotone_chains.specs.declared.stretches.spans.Span.{Span}
use Rattle.monotone_chains.proofs.StretchLemmas.CutRefined.{AreRefinedUpto-all, AreRefinedUpto-more, AreRefinedUpto-none}
use Rattle.monotone_chains.proofs.stretches.refining.refine.Goals as goal
use Rattle.monotone_chains.proofs.stretches.refining.refine.Goals.{then-place-count, else-place-count}

pub loop-place-init : goal.loop-place-init
loop-place-init g c = (
  AreRefinedUpto-none c.args.most c.args.count c.args.parts.now c.in_ok-busy.busy.items c.in_ok-with_capacity.field-0.items c.in_ok-with_capacity.ensures.items,
  subst₂ (λ (parts : List Part) (spans : List Span). AllZip IsSpan parts spans) (sym c.in_ok-with_capacity.ensures.items) (sym c.in_ok-with_capacity-2.ensures.items) tt,
)

pub bounds-spans-place : goal.bounds-spans-place
bounds-spans-place g c =
    let inside = c.loop-place-test.true in
    let size = AllZip-length IsSpan c.args.parts.now c.args.spans.now c.requires.spans in
    omega (arith, inside, size)

pub refine_part-requires-clause-span : goal.refine_part-requires-clause-span
refine_part-requires-clause-span g c = AllZip-at IsSpan c.args.parts.now c.args.spans.now _ _ c.loop-place.place c.requires.spans c.loop-place-test.true

pub loop-place-preserved : goal.loop-place-preserved
loop-place-preserved g c =
    let counted : ((c.loop-place.place < c.args.count) × (c.if-place-count.subject_count ≡ length c.refine_part.new.refined.parts.items)) ⊎ ((c.args.count ≤ c.loop-place.place) × (c.if-place-count.subject_count ≡ c.loop-place.subject_count)) =
    elim c.if-place-count.branch [ then-place-count w ↦ inl (omega arith, omega arith) | else-place-count w ↦ inr (omega arith, omega arith) ] in (
      AreRefinedUpto-more c.args.most c.args.count c.args.parts.now c.in_ok-busy.busy.items c.loop-place.place _ c.index.result.now c.loop-place.refined.parts.items c.refine_part.new.refined.parts.items
          c.loop-place.subject_count c.if-place-count.subject_count c.loop-place-test.true c.in_ok-busy.ensures.size
          (get_or_read c.in_ok-busy.busy.items _ _ (let inside = c.loop-place-test.true in let size = c.in_ok-busy.ensures.size in omega (arith, inside, size)) c.index.ensures false) c.in_ok-refine_part.ensures.ok counted c.loop-place.invariant.0,
      c.in_ok-refine_part.ensures.spans,
    )

pub returns-clause-ok : goal.returns-clause-ok
returns-clause-ok g c =
    AreRefinedUpto-all c.args.most c.args.count c.args.parts.now c.in_ok-busy.busy.items c.loop-place.place c.loop-place.refined.parts.items c.loop-place.subject_count
    c.loop-place-test.false c.in_ok-busy.ensures.size c.in_ok-busy.ensures.settled c.loop-place.invariant.0
