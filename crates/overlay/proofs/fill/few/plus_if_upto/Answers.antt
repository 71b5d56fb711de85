use Rattle.std.proofs.Common.{◌≡◌, ◌≢◌, ◌∙◌, ◌&&◌, ◌+ℤ◌, ◌*ℤ◌, ◌≤ℤ◌, pos, Bool, true, false, not, ℤ, refl, sym, ap, ap₂, subst, arith, rules, to_z, of_z, w32}
use Rattle.std.specs.Int.Signed.{lt_z}
use Rattle.std.specs.Bool.{◌==◌}
use Rattle.std.specs.Ordering.{int_cmp, ordering_index}
use Rattle.std.specs.declared.cmp.Ordering.{Ordering}
use Rattle.std.specs.declared.cmp.Ordering.TheVariants.{Less, Equal, Greater}
use Rattle.std.proofs.lemmas.Int.{ints, by_lt_z}
use Rattle.plane.specs.declared.edge.Edge.{Edge}
use Rattle.plane.specs.declared.point.Point.{Point}
use Rattle.plane.specs.SweepLine.Heights.{run, height_by_run}
use Rattle.overlay.specs.declared.fill.pieces.Piece.{Piece}
use Rattle.overlay.specs.Fill.Counts.{Counts}
use Rattle.overlay.specs.Fill.Few.{is_upto}
use Rattle.overlay.specs.Fill.Sweep.{Fits, no_piece, plus}
use Rattle.overlay.proofs.FillLemmas.Tests.{lt_false, lt_true}
use Rattle.overlay.proofs.KeptLemmas.Upto.{upto-compared, upto-ended}
use Rattle.overlay.proofs.fill.few.plus_if_upto.Goals as goal

by_order : {b value : Bool} (r : Ordering) → b ≡ not (ordering_index r == 2) → (r ≢ Greater → value ≡ true) × (r ≡ Greater → value ≡ false) → b ≡ value
by_order Less is told = is ∙ sym (told.0 (λ same. cc))
by_order Equal is told = is ∙ sym (told.0 (λ same. cc))
by_order Greater is told = is ∙ sym (told.1 refl)

-- it goes on, and isn't above
told : (point : Point) (edge : Edge) (r : Ordering) (s t : Bool) → edge.x0 ≤ℤ point.x → s ≡ lt_z point.x edge.x1 → r ≡ int_cmp (height_by_run edge point.x) (point.y *ℤ run edge) → t ≡ not (ordering_index r == 2) → (s && t) ≡ is_upto point edge
told point edge r s t begun goes compared is =
    by_lt_z point.x edge.x1
    (λ onwards. ap (λ on. on && t) (goes ∙ lt_true point.x edge.x1 onwards) ∙ by_order r is (upto-compared point edge begun onwards r compared))
    (λ late. ap (λ on. on && t) (goes ∙ lt_false point.x edge.x1 late) ∙ sym (upto-ended point edge late))

-- what is counted fits, and so does what weighs nothing
fits : (t : Bool) (counts : Counts) (piece other : Piece) → Fits counts no_piece → (t ≡ true → Fits counts piece) → (t ≡ true → other ≡ piece) → (t ≡ false → (other.subject ≡ pos 0) × (other.clip ≡ pos 0)) → Fits counts other
fits true counts piece other within room is none = subst (Fits counts) (sym (is refl)) (room refl)
fits false counts piece other within room is none =
    let no_subject = (none refl).0 in
    let no_clip = (none refl).1 in
    let from = within.from in
    let below = within.below in
    let clip_from = within.clip_from in
    let clip_below = within.clip_below in
    record { from = omega (arith, ints, no_subject, from); below = omega (arith, ints, no_subject, below); clip_from = omega (arith, ints, no_clip, clip_from); clip_below = omega (arith, ints, no_clip, clip_below) }

-- what weighs nothing changes nothing
unchanged : (counts : Counts) (piece : Piece) → piece.subject ≡ pos 0 → piece.clip ≡ pos 0 → plus counts piece ≡ counts
unchanged counts piece no_subject no_clip =
    let subject : (counts.subject +ℤ piece.subject) ≡ counts.subject = omega (arith, ints, no_subject) in
    let clip : (counts.clip +ℤ piece.clip) ≡ counts.clip = omega (arith, ints, no_clip) in
    ap₂ (λ (a b : ℤ). let sum : Counts = record { subject = a; clip = b } in sum) subject clip

pub plus-requires : goal.plus-requires
plus-requires c =
    let x : to_z w32 (of_z w32 c.args.point.x) ≡ c.args.point.x = search rules in
    let x1 : to_z w32 (of_z w32 c.args.piece.edge.x1) ≡ c.args.piece.edge.x1 = search rules in
    let is = told c.args.point c.args.piece.edge c.compare_to_point.result _ c.ne.result c.requires.begun (ap₂ lt_z x x1) c.compare_to_point.ensures c.ne.ensures in
    fits _ c.args.counts c.args.piece c.weighed.result c.requires.within (λ yes. c.requires.fits (sym is ∙ yes)) c.weighed.ensures.counted c.weighed.ensures.left

pub returns-clause-upto : goal.returns-clause-upto
returns-clause-upto c =
    let x : to_z w32 (of_z w32 c.args.point.x) ≡ c.args.point.x = search rules in
    let x1 : to_z w32 (of_z w32 c.args.piece.edge.x1) ≡ c.args.piece.edge.x1 = search rules in
    let is = told c.args.point c.args.piece.edge c.compare_to_point.result _ c.ne.result c.requires.begun (ap₂ lt_z x x1) c.compare_to_point.ensures c.ne.ensures in
    λ yes. c.plus.ensures ∙ ap (plus c.args.counts) (c.weighed.ensures.counted (is ∙ yes))

pub returns-clause-above : goal.returns-clause-above
returns-clause-above c =
    let x : to_z w32 (of_z w32 c.args.point.x) ≡ c.args.point.x = search rules in
    let x1 : to_z w32 (of_z w32 c.args.piece.edge.x1) ≡ c.args.piece.edge.x1 = search rules in
    let is = told c.args.point c.args.piece.edge c.compare_to_point.result _ c.ne.result c.requires.begun (ap₂ lt_z x x1) c.compare_to_point.ensures c.ne.ensures in
    λ no. let none = c.weighed.ensures.left (is ∙ no) in c.plus.ensures ∙ unchanged c.args.counts c.weighed.result none.0 none.1
