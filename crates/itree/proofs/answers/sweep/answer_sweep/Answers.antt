use Rattle.std.proofs.Common.{◌≡◌, ◌<◌, ◌∙◌, ℕ, List, Err, ap, sym, subst, length}
use Rattle.itree.specs.Grammar.{lines_of, LinesSay}
use Rattle.itree.specs.SweepLines.{SaysSweepLine, segments_of, IsSegmentLine, IsOverlapLine}
use Rattle.itree.specs.declared.lines.sweep.SweepLine.{SweepLine}
use Rattle.horizontal.specs.Heights.{IsFirstOverlap}
use Rattle.horizontal.specs.declared.Segment.{Segment}
use Rattle.itree.proofs.answers.sweep.answer_sweep.Goals as goal

-- a segment that overlaps is one of those that are said
among : (said : List SweepLine) (segments : List Segment) (place named : ℕ) → segments ≡ segments_of said → named ≡ place → IsFirstOverlap segments place → named < length (segments_of said)
among said segments place named are is overlaps =
    subst (λ (n : ℕ). n < length (segments_of said)) (sym is) (subst (λ (items : List Segment). place < length items) are overlaps.stands.0)

-- the line that says it
overlap_line : (lines : List (List ℕ)) (said : List SweepLine) (segments : List Segment) (place named number : ℕ) → LinesSay SaysSweepLine lines said → segments ≡ segments_of said → named ≡ place → IsFirstOverlap segments place
    → (named < length (segments_of said) → IsSegmentLine lines said named number) → IsOverlapLine lines number
overlap_line lines said segments place named number says are is overlaps found = record {
  said = said;
  place = place;
  says = says;
  overlaps = subst (λ (items : List Segment). IsFirstOverlap items place) are overlaps;
  stands = subst (λ (n : ℕ). IsSegmentLine lines said n number) is (found (among said segments place named are is overlaps));
}

pub segment_line-requires : goal.segment_line-requires
segment_line-requires g c =
    let place = c.in-Err-Overlap.place in
    let overlaps = c.in-Err-Overlap.ensures.overlap place (ap Err c.in-Err-Overlap.field-0-is) in
    (c.args.said.now, c.requires, among c.args.said.now c.deref.result.now place _ (c.deref.ensures.value ∙ c.in_ok-segments.ensures) c.in-Err-Overlap.place-is overlaps)

pub returns-clause-overlap : goal.returns-clause-overlap
returns-clause-overlap g c = λ number is.
    let lines = lines_of c.args.text.now in
    let place = c.in-Err-Overlap.place in
    let overlaps = c.in-Err-Overlap.ensures.overlap place (ap Err c.in-Err-Overlap.field-0-is) in
    let here : c.segment_line.result ≡ number = cc in
    subst (IsOverlapLine lines) here
    (overlap_line lines c.args.said.now c.deref.result.now place _ c.segment_line.result c.requires (c.deref.ensures.value ∙ c.in_ok-segments.ensures) c.in-Err-Overlap.place-is overlaps (c.segment_line.ensures c.args.said.now c.requires))
