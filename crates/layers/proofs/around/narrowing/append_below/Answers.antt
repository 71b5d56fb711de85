use Rattle.std.proofs.Common.{◌++◌, ◌∷◌, [], sym, subst, ◌∙◌}
use Rattle.std.proofs.lemmas.Result.{on_ok_weaker}
use Rattle.layers.specs.Chains.{AreSameIn, AreUpto}
use Rattle.layers.proofs.AroundLemmas.Chains.{IsLow-above}
use Rattle.layers.proofs.AroundLemmas.Narrow.{AreSameIn-trans, AreUpto-front, IsBounded-last, IsLow-straight, joined-same, straight-same}
use Rattle.layers.proofs.around.narrowing.append_below.Goals as goal

pub append_edge-requires-clause-low : goal.append_edge-requires-clause-low
append_edge-requires-clause-low g c =
    let chain = c.args.chain in
    let last = c.in-Some.last in
    let (is, leads) = c.in-Some.ensures in
    let own = IsBounded-last chain.shape c.pop_leading.new.kept.items last (subst (λ chains. AreUpto chain.shape chains) is c.requires.order) in
    let low = IsLow-above c.args.extent chain c.requires.bounded c.requires.below in
    IsLow-straight c.args.extent last c.straight_to.result chain.end own.some (IsLow-above c.args.extent last own leads.below) low.end c.straight_to.ensures.points c.straight_to.ensures.end

pub append_edge-requires-clause-order : goal.append_edge-requires-clause-order
append_edge-requires-clause-order g c =
    let chain = c.args.chain in
    let last = c.in-Some.last in
    let (is, leads) = c.in-Some.ensures in
    subst (λ shape. AreUpto shape c.pop_leading.new.kept.items) (sym (c.straight_to.ensures.shape ∙ leads.shape))
    (AreUpto-front chain.shape c.pop_leading.new.kept.items last (subst (λ chains. AreUpto chain.shape chains) is c.requires.order))

pub append_edge-requires-in-None-clause-low : goal.append_edge-requires-in-None-clause-low
append_edge-requires-in-None-clause-low g c =
    let chain = c.args.chain in
    let low = IsLow-above c.args.extent chain c.requires.bounded c.requires.below in
    IsLow-straight c.args.extent chain c.straight_to-in-None.result chain.end c.requires.bounded.some low low.end c.straight_to-in-None.ensures.points c.straight_to-in-None.ensures.end

pub returns-in-Some-clause-same : goal.returns-in-Some-clause-same
returns-in-Some-clause-same g c =
    let chain = c.args.chain in
    let last = c.in-Some.last in
    let edge = c.straight_to.result in
    let front = c.pop_leading.new.kept.items in
    let (is, leads) = c.in-Some.ensures in
    let own = IsBounded-last chain.shape front last (subst (λ chains. AreUpto chain.shape chains) is c.requires.order) in
    let low = IsLow-above c.args.extent chain c.requires.bounded c.requires.below in
    let joined = joined-same c.args.extent front last chain edge own.some (IsLow-above c.args.extent last own leads.below) low leads c.straight_to.ensures.shape c.straight_to.ensures.points c.straight_to.ensures.end in
    let there = subst (λ chains. AreSameIn c.args.extent (front ++ edge ∷ []) (chains ++ chain ∷ [])) (sym is) joined in
    on_ok_weaker c.append_edge.result (λ same. AreSameIn-trans c.args.extent c.append_edge.new.kept.items (front ++ edge ∷ []) (c.args.kept.now.items ++ chain ∷ []) same there) c.append_edge.ensures.same

pub returns-in-None-clause-same : goal.returns-in-None-clause-same
returns-in-None-clause-same g c =
    let chain = c.args.chain in
    let edge = c.straight_to-in-None.result in
    let front = c.pop_leading.new.kept.items in
    let low = IsLow-above c.args.extent chain c.requires.bounded c.requires.below in
    let straight = straight-same c.args.extent front chain edge c.requires.bounded.some low c.straight_to-in-None.ensures.shape c.straight_to-in-None.ensures.points c.straight_to-in-None.ensures.end in
    let there = subst (λ chains. AreSameIn c.args.extent (front ++ edge ∷ []) (chains ++ chain ∷ [])) c.in-None.ensures straight in
    on_ok_weaker c.append_edge-in-None.result (λ same. AreSameIn-trans c.args.extent c.append_edge-in-None.new.kept.items (front ++ edge ∷ []) (c.args.kept.now.items ++ chain ∷ []) same there) c.append_edge-in-None.ensures.same
