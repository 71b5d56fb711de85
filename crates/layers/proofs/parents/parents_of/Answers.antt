use Rattle.std.proofs.Common.{◌≡◌, ◌++◌, ℕ, List, length, refl, ap, subst, subst₂, sym, ◌∙◌}
use Rattle.std.proofs.lemmas.Result.{IfOk-weaker}
use Rattle.overlay.specs.declared.fill.rules.FillRule.TheVariants.{NonZero}
use Rattle.plane.specs.Pairs.Pairs.{ArePairsBetween}
use Rattle.layers.specs.Around.{LiesIn}
use Rattle.layers.specs.Parents.{AreBest, AreDepths, AreOuters, AreParents, AreWithin}
use Rattle.layers.specs.Shapes.{all_rings, shapes_of}
use Rattle.layers.specs.declared.points.Border.TheVariants.{HalfOpen}
use Rattle.layers.proofs.ListLemmas.{length-lists_of}
use Rattle.layers.proofs.ParentLemmas.Around.{AreParents-best, AreWithin-pairs, middles_in, outers_in, pairs-around}
use Rattle.layers.proofs.ParentLemmas.Outers.{AreOuters-same, outer-ends}
use Rattle.layers.proofs.parents.parents_of.Goals as goal

pub append_pairs_in-requires : goal.append_pairs_in-requires
append_pairs_in-requires g c =
    let outers = c.in_ok-outers.outers in
    let polygons = shapes_of c.args.polygons in
    let are : AreOuters polygons c.deref.result.now c.deref-2.result.now c.deref-3.result.now outers.middles.items =
    AreOuters-same polygons outers.points.items _ outers.ring_ends.items _ outers.shape_ends.items _ outers.middles.items _ c.in_ok-outers.ensures c.deref.ensures.value c.deref-2.ensures.value c.deref-3.ensures.value refl in
    outer-ends polygons _ _ _ _ are

-- the pairs are those of a polygon and one that goes round it, or itself
pub depths_of-requires : goal.depths_of-requires
depths_of-requires g c =
    let outers = c.in_ok-outers.outers in
    let polygons = shapes_of c.args.polygons in
    let are : AreOuters polygons c.deref.result.now c.deref-2.result.now c.deref-3.result.now c.deref-4.result.now =
    AreOuters-same polygons outers.points.items _ outers.ring_ends.items _ outers.shape_ends.items _ outers.middles.items _ c.in_ok-outers.ensures c.deref.ensures.value c.deref-2.ensures.value c.deref-3.ensures.value c.deref-4.ensures.value in
    let (pairs, is, all) = c.in_ok-append_pairs_in.ensures.ok in
    let items : c.deref-5.result.now ≡ pairs = c.deref-5.ensures.value ∙ is ∙ ap (λ (before : List (ℕ × ℕ)). before ++ pairs) c.new-pairs.ensures.items in
    let around : ArePairsBetween (LiesIn NonZero HalfOpen) (middles_in polygons) (outers_in polygons) pairs = pairs-around polygons _ _ _ _ pairs are all.all in
    subst₂ AreWithin (length-lists_of (all_rings c.args.polygons) 0 c.args.polygons.shape_ends.now) (sym items) (AreWithin-pairs polygons pairs around)

pub best_of-requires : goal.best_of-requires
best_of-requires g c =
    let outers = c.in_ok-outers.outers in
    let polygons = shapes_of c.args.polygons in
    let are : AreOuters polygons c.deref.result.now c.deref-2.result.now c.deref-3.result.now c.deref-4.result.now =
    AreOuters-same polygons outers.points.items _ outers.ring_ends.items _ outers.shape_ends.items _ outers.middles.items _ c.in_ok-outers.ensures c.deref.ensures.value c.deref-2.ensures.value c.deref-3.ensures.value c.deref-4.ensures.value in
    let (pairs, is, all) = c.in_ok-append_pairs_in.ensures.ok in
    let items : c.deref-6.result.now ≡ pairs = c.deref-6.ensures.value ∙ is ∙ ap (λ (before : List (ℕ × ℕ)). before ++ pairs) c.new-pairs.ensures.items in
    let around : ArePairsBetween (LiesIn NonZero HalfOpen) (middles_in polygons) (outers_in polygons) pairs = pairs-around polygons _ _ _ _ pairs are all.all in
    let deep = c.in_ok-depths.ensures in
    let many : length polygons ≡ length c.deref-7.result.now =
    length-lists_of (all_rings c.args.polygons) 0 c.args.polygons.shape_ends.now ∙ sym deep.size ∙ ap (λ (depths : List ℕ). length depths) (sym c.deref-7.ensures.value) in
    subst₂ AreWithin many (sym items) (AreWithin-pairs polygons pairs around)

pub returns : goal.returns
returns g c =
    let outers = c.in_ok-outers.outers in
    let polygons = shapes_of c.args.polygons in
    let are : AreOuters polygons c.deref.result.now c.deref-2.result.now c.deref-3.result.now c.deref-4.result.now =
    AreOuters-same polygons outers.points.items _ outers.ring_ends.items _ outers.shape_ends.items _ outers.middles.items _ c.in_ok-outers.ensures c.deref.ensures.value c.deref-2.ensures.value c.deref-3.ensures.value c.deref-4.ensures.value in
    let (pairs, is, all) = c.in_ok-append_pairs_in.ensures.ok in
    let out : c.append_pairs_in.new.out.items ≡ pairs = is ∙ ap (λ (before : List (ℕ × ℕ)). before ++ pairs) c.new-pairs.ensures.items in
    let around : ArePairsBetween (LiesIn NonZero HalfOpen) (middles_in polygons) (outers_in polygons) pairs = pairs-around polygons _ _ _ _ pairs are all.all in
    let deep : AreDepths (length polygons) pairs c.deref-7.result.now =
    subst₂ (λ (count : ℕ) (depths : List ℕ). AreDepths count pairs depths) (sym (length-lists_of (all_rings c.args.polygons) 0 c.args.polygons.shape_ends.now)) (sym c.deref-7.ensures.value)
    (subst (λ (counted : List (ℕ × ℕ)). AreDepths (length c.args.polygons.shape_ends.now) counted c.in_ok-depths.depths.items) (c.deref-5.ensures.value ∙ out) c.in_ok-depths.ensures) in
    IfOk-weaker c.best_of.result (λ found. AreBest c.deref-7.result.now c.deref-6.result.now found.items) (λ found. AreParents polygons found.items) (λ found best. AreParents-best polygons pairs around c.deref-7.result.now deep found.items (subst (λ (some : List (ℕ × ℕ)). AreBest c.deref-7.result.now some found.items) (c.deref-6.ensures.value ∙ out) best)) c.best_of.ensures
