use Rattle.std.proofs.Common.{◌++◌, ◌<◌, ◌∙◌, ◌∷◌, ◌≡◌, Bool, true, ℕ, [], List, ap, append-nil, arith, get_or, length, map, refl, subst, sym, take}
use Rattle.std.specs.List.{flat_map}
use Rattle.std.proofs.lemmas.List.{length-map, length-take-le, take_all}
use Rattle.plane.specs.declared.edge.Edge.{Edge}
use Rattle.offset.specs.Cuts.{IsSafe, curve_of_two}
use Rattle.offset.specs.Faults.{IsRawFault}
use Rattle.offset.specs.Raw.{nowhere, raw_of_ring, raw_of_two}
use Rattle.offset.specs.Shape.{neighbours, sides}
use Rattle.offset.proofs.CutLemmas.Moved.{curve-more, each-more}
use Rattle.offset.proofs.RawLemmas.{handed-on, made-fails}
use Rattle.offset.proofs.ShapeLemmas.{length-neighbours, length-sides}
use Rattle.offset.proofs.cuts.append_curve_of_ring.Goals as goal

pub returns-in_err-append_curve_at-clause-fault : goal.returns-in_err-append_curve_at-clause-fault
returns-in_err-append_curve_at-clause-fault g c =
    let corners = c.args.corners.now in
    let ring = c.args.ring.now in
    let size = length-neighbours (sides ring) in
    let sized = length-sides ring in
    handed-on c.from_residual-in_err-append_curve_at.result _ (IsRawFault (raw_of_ring corners ring)) c.from_residual-in_err-append_curve_at.ensures.1
    (made-fails (raw_of_two corners) (neighbours (sides ring)) c.loop-index.index (nowhere, nowhere) _ (omega (arith, size, sized, c.loop-index-test.true)) c.in_err-append_curve_at.ensures.fault)

pub loop-index-init : goal.loop-index-init
loop-index-init g c = ([], refl, (λ place d within. absurd (omega (arith, within))), sym (append-nil c.args.edges.now.items))

pub loop-index-preserved : goal.loop-index-preserved
loop-index-preserved g c =
    let corners = c.args.corners.now in
    let ring = c.args.ring.now in
    let index = c.loop-index.index in
    let all = neighbours (sides ring) in
    let size = length-neighbours (sides ring) in
    let sized = length-sides ring in
    let inside : index < length all = omega (arith, size, sized, c.loop-index-test.true) in
    let (joints, pairs, safe, made) = c.loop-index.invariant in
    let (is_cut, is_safe, more) = c.in_ok-append_curve_at.ensures.ok in
    let (pairs_more, made_more) = curve-more corners ring index joints is_cut c.args.edges.now.items c.loop-index.edges.items _ inside pairs made more in
    let count : length joints ≡ index = sym (length-map joints (λ (joint : (Edge × Edge) × Bool). joint.0)) ∙ ap (λ (some : List (Edge × Edge)). length some) pairs ∙ length-take-le index all (omega (arith, inside)) in (
      joints ++ (get_or all index (nowhere, nowhere), is_cut) ∷ [],
      pairs_more,
      each-more (λ (place : ℕ) (joint : (Edge × Edge) × Bool). joint.1 ≡ true → IsSafe corners (sides ring) place) joints (get_or all index (nowhere, nowhere), is_cut) safe
          (λ is. subst (λ (place : ℕ). IsSafe corners (sides ring) place) (sym count) (is_safe is)),
      made_more,
    )

pub returns-clause-ok : goal.returns-clause-ok
returns-clause-ok g c =
    let corners = c.args.corners.now in
    let ring = c.args.ring.now in
    let size = length-neighbours (sides ring) in
    let sized = length-sides ring in
    let (joints, pairs, safe, made) = c.loop-index.invariant in (
      flat_map (curve_of_two corners) joints,
      record {
        joints = joints;
        pairs = pairs ∙ take_all c.loop-index.index (neighbours (sides ring)) (omega (arith, size, sized, c.loop-index-test.false));
        safe = safe;
        edges = refl;
      },
      made,
    )
