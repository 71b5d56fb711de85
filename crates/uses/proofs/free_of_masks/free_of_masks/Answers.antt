use Rattle.std.proofs.Common.{◌≡◌, Result, Ok, Err, ap, sym, ◌∙◌}
use Rattle.std.specs.Result.{IsErrAnd}
use Rattle.overlay.proofs.Callers.{AreAppended-first}
use Rattle.uses.proofs.MaskLemmas.{AreFree-overlay, AreEnds-rings, rings-edges}
use Rattle.uses.proofs.free_of_masks.free_of_masks.Goals as goal

pub returns-clause-free : goal.returns-clause-free
returns-clause-free c =
    let (polygons, is, are) = c.in_ok-overlay.ensures.ok in
    let edges = rings-edges c.args.rectangles.now _ _ (c.deref.ensures.value ∙ c.in_ok-points.ensures.points) (c.deref-2.ensures.value ∙ c.in_ok-points.ensures.ends) in
    let mask_edges = rings-edges c.args.masks.now _ _ (c.deref-3.ensures.value ∙ c.in_ok-mask_points.ensures.points) (c.deref-4.ensures.value ∙ c.in_ok-mask_points.ensures.ends) in (
      polygons,
      AreFree-overlay c.args.rectangles.now c.args.masks.now _ _ polygons edges mask_edges is,
      AreAppended-first polygons _ _ _ _ _ _ are c.new-free.ensures.points c.new-free.ensures.ring_ends c.new-free.ensures.polygon_ends,
    )

-- the error that a question mark hands on
same-error : {A E : Type 0} (outcome : Result A E) (one other : E) → IsErrAnd outcome (λ error. error ≡ one) → outcome ≡ Err other → other ≡ one
same-error (Err error) one other is same = cc
same-error (Ok answer) one other is same = cc

-- the ends of the rings are right
pub returns-in_err-overlay-clause-refused : goal.returns-in_err-overlay-clause-refused
returns-in_err-overlay-clause-refused c =
    let ends = AreEnds-rings c.args.rectangles.now _ _ (c.deref.ensures.value ∙ c.in_ok-points.ensures.points) (c.deref-2.ensures.value ∙ c.in_ok-points.ensures.ends) in
    let mask_ends = AreEnds-rings c.args.masks.now _ _ (c.deref-3.ensures.value ∙ c.in_ok-mask_points.ensures.points) (c.deref-4.ensures.value ∙ c.in_ok-mask_points.ensures.ends) in
    λ is.
    let fault = same-error _ _ _ c.from_residual-in_err-overlay.ensures.1 is in
    c.overlay.ensures.lengths.0 (c.in_err-overlay.was ∙ ap Err (sym fault)) (ends, mask_ends)
