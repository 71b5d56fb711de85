use Rattle.std.proofs.Common.{◌≡◌, ◌+◌, ◌-◌, ◌++◌, ◌∷◌, [], pos, get_or, take, drop, sym, subst, ap, ap₂, ◌∙◌, arith}
use Rattle.std.proofs.lemmas.List.{take_rest}
use Rattle.plane.specs.declared.point.Point.{Point}
use Rattle.noding.specs.Windings.{pieces}
use Rattle.layers.specs.Chains.{AppendsChains}
use Rattle.layers.proofs.AroundLemmas.Made.{AppendsChains-one, AppendsChains-then, pieces-part, pieces-rest, ring_edges-is}
use Rattle.layers.proofs.around.chains.append_ring.Goals as goal

abbrev zero : Point
zero = record { x = pos 0; y = pos 0 }

pub loop-start-preserved : goal.loop-start-preserved
loop-start-preserved g c =
    let ring = c.args.ring.now in
    let start = c.loop-start.start in
    let (inside, before) = c.loop-start.invariant in
    let end = get_or ring (start + 16) zero in
    let same : (start + 16) - start ≡ 16 = omega arith in
    let edges = ap₂ (λ points to. pieces (points ++ to ∷ [])) (c.chain_of.ensures.points ∙ ap (λ n. take n (drop start ring)) same) c.chain_of.ensures.end in
    let more = AppendsChains-one c.args.shape (pieces (take 16 (drop start ring) ++ end ∷ [])) c.chain_of.result c.loop-start.chains.items c.push.new.self.items c.chain_of.ensures.shape c.chain_of.ensures.bounded edges c.in_ok-push.ensures.items in (
      omega (arith, c.loop-start-test.true),
      subst (λ some. AppendsChains c.args.shape some c.args.chains.now.items c.push.new.self.items) (sym (pieces-part ring start zero inside 16 end (omega arith)))
          (AppendsChains-then c.args.shape (pieces (take start ring ++ get_or ring start zero ∷ [])) (pieces (take 16 (drop start ring) ++ end ∷ [])) c.args.chains.now.items c.loop-start.chains.items c.push.new.self.items before more),
    )

pub returns : goal.returns
returns g c =
    let ring = c.args.ring.now in
    let start = c.loop-start.start in
    let (inside, before) = c.loop-start.invariant in
    let end = get_or ring 0 zero in
    let edges = ap₂ (λ points to. pieces (points ++ to ∷ [])) (c.chain_of-2.ensures.points ∙ take_rest ring start) c.chain_of-2.ensures.end in
    let more = AppendsChains-one c.args.shape (pieces (drop start ring ++ end ∷ [])) c.chain_of-2.result c.loop-start.chains.items c.push-2.new.self.items c.chain_of-2.ensures.shape c.chain_of-2.ensures.bounded edges c.in_ok-push-2.ensures.items in
    subst (λ some. AppendsChains c.args.shape some c.args.chains.now.items c.push-2.new.self.items) (sym (ring_edges-is ring zero (omega (arith, inside)) ∙ pieces-rest ring start zero inside end))
    (AppendsChains-then c.args.shape (pieces (take start ring ++ get_or ring start zero ∷ [])) (pieces (drop start ring ++ end ∷ [])) c.args.chains.now.items c.loop-start.chains.items c.push-2.new.self.items before more)
