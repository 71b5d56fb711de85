use Rattle.std.proofs.Common.{◌≡◌, ◌≢◌, ℕ, ◌+◌, ◌-◌, ◌<◌, ◌≤◌, List, [], length, get_or, take, drop, MatchOption, refl, subst, ap, arith}
use Rattle.std.specs.List.{All, slice_get}
use Rattle.std.specs.Prelude.{⊤}
use Rattle.std.proofs.lemmas.List.{length-drop, take_rest}
use Rattle.plane.specs.Pairs.Points.{Gains}
use Rattle.plane.proofs.PairsLemmas.Points.{Gains-none}
use Rattle.layers.specs.Chains.{LiesAmong, LiesInChains, edges_of_chains}
use Rattle.layers.specs.declared.around.chains.Chain.{Chain}
use Rattle.layers.proofs.AroundLemmas.Groups.{LiesAmong-none, no_chain}
use Rattle.layers.proofs.AroundLemmas.Runs.{Gains-run, cut-more}
use Rattle.layers.proofs.around.few.append_of_few.Goals as goal

-- what is told of the chains from a place on
module _ (chains : List Chain) (start count shape : ℕ) where
  counted-all : All (λ chain. chain.shape ≡ shape) (take count (take (length chains - start) (drop start chains))) → All (λ chain. chain.shape ≡ shape) (take count (drop start chains))
  counted-all = subst (λ (some : List Chain). All (λ chain. chain.shape ≡ shape) (take count some)) (take_rest chains start)

  counted-next : MatchOption (slice_get (take (length chains - start) (drop start chains)) count) ⊤ (λ chain. chain.shape ≢ shape) → MatchOption (slice_get (drop start chains) count) ⊤ (λ chain. chain.shape ≢ shape)
  counted-next = subst (λ (some : List Chain). MatchOption (slice_get some count) ⊤ (λ chain. chain.shape ≢ shape)) (take_rest chains start)

  counted-within : start < length chains → count ≤ length (take (length chains - start) (drop start chains)) → start + count ≤ length chains
  counted-within inside upto = let size = ap (λ (some : List Chain). length some) (take_rest chains start) in let rest = length-drop start chains in omega (arith, inside, upto, size, rest)

pub loop-start-init : goal.loop-start-init
loop-start-init g c = record {
  within = omega arith;
  cut = λ k j d e before. absurd (omega (arith, before));
  gained = Gains-none (LiesInChains c.args.rule c.args.border c.args.group.now []) c.args.pairs.now.items (λ i j lies. LiesAmong-none c.args.rule c.args.border c.args.group.now i lies);
}

pub loop-start-preserved : goal.loop-start-preserved
loop-start-preserved g c =
    let chains = c.args.chains.now in
    let start = c.loop-start.start in
    let count = c.count_of_shape.result in
    let shape = (get_or chains start no_chain).shape in
    let told = c.count_of_shape.ensures in
    let all = counted-all chains start count shape told.of in
    let next = counted-next chains start count shape told.next in
    let within = counted-within chains start count shape c.loop-start-test.true told.within in
    let same : (start + count) - start ≡ count = omega arith in
    let gained = subst (λ (n : ℕ). Gains (λ i j. (j ≡ shape) × LiesAmong c.args.rule c.args.border c.args.group.now (edges_of_chains (take n (drop start chains))) i) c.loop-start.pairs.items c.append_of_shape.new.pairs.items) same c.in_ok-append_of_shape.ensures in
    record {
      within = within;
      cut = cut-more chains c.requires.order.sorted start count shape c.loop-start-test.true within refl all next c.loop-start.invariant.cut;
      gained = Gains-run chains c.requires.order.sorted start count shape c.loop-start-test.true within refl all next c.loop-start.invariant.cut
          c.args.rule c.args.border c.args.group.now c.args.pairs.now.items c.loop-start.pairs.items c.append_of_shape.new.pairs.items c.loop-start.invariant.gained gained;
    }
