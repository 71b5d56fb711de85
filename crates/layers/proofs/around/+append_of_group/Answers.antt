use Rattle.std.proofs.Common.{rules, List, ◌++◌, ◌≡◌, sym, subst}
use Rattle.plane.specs.Pairs.Points.{Gains}
use Rattle.layers.specs.declared.around.chains.Chain.{Chain}
use Rattle.layers.specs.declared.around.placed.Placed.{Placed}
use Rattle.layers.specs.Chains.{AreApart, LiesInChains}
use Rattle.layers.proofs.AroundLemmas.Halves.{Gains-halves, Gains-kept}
use Rattle.layers.proofs.around.+append_of_group.Goals as goal

pub returns-then-group-le-FEW_POINTS : goal.returns-then-group-le-FEW_POINTS
returns-then-group-le-FEW_POINTS g t c =
    let more = Gains-kept c.args.rule c.args.border c.args.group.now c.extent_of.result c.in_ok-near.near.items c.args.chains.now c.args.pairs.now.items c.append_of_few.new.pairs.items c.extent_of.ensures c.in_ok-near.ensures.same in
    search (rules, more)

pub returns : goal.returns
returns g t c =
    let near = c.in_ok-near.near.items in
    let front = c.split_at.result.0.now in
    let behind = c.split_at.result.1.now in
    let before = c.args.pairs.now.items in
    let after = c.append_of_group-2.new.pairs.items in
    let halves : c.args.group.now ≡ front ++ behind = c.split_at.ensures.by_index.0 in
    let apart = subst AreApart halves c.requires.apart in
    let both = Gains-halves c.args.rule c.args.border front behind near before c.append_of_group.new.pairs.items after apart (subst (λ (chains : List Chain). Gains (LiesInChains c.args.rule c.args.border front chains) before c.append_of_group.new.pairs.items) c.deref-2.ensures.value c.in_ok-append_of_group.ensures) in
    let more = Gains-kept c.args.rule c.args.border c.args.group.now c.extent_of.result near c.args.chains.now before after c.extent_of.ensures c.in_ok-near.ensures.same in
    let of_group = subst (λ (group : List Placed). Gains (LiesInChains c.args.rule c.args.border group near) before after) (sym halves) in
    let by_near = subst (λ (chains : List Chain). Gains (LiesInChains c.args.rule c.args.border behind chains) c.append_of_group.new.pairs.items after) c.deref-3.ensures.value in
    let all : Gains (LiesInChains c.args.rule c.args.border behind c.deref-3.result.now) c.append_of_group.new.pairs.items after → Gains (LiesInChains c.args.rule c.args.border c.args.group.now c.args.chains.now) before after = λ there. more (of_group (both (by_near there))) in
    search (rules, all)
