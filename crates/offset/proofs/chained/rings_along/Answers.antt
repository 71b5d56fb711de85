use Rattle.std.proofs.Common.{◌≡◌, ◌∙◌, ◌∷◌, ◌++◌, [], ℕ, ap, arith, length}
use Rattle.offset.proofs.ChainedLemmas.{upto-all, upto-more}
use Rattle.offset.proofs.chained.rings_along.Goals as goal

pub loop-next-preserved : goal.loop-next-preserved
loop-next-preserved g c =
    let size : c.len.result ≡ length c.push_starts.new.points.items = omega (arith, c.len.ensures) in
    upto-more c.args.edges.now c.loop-next.points.items c.push_starts.new.points.items c.loop-next.ends.items c.push.new.self.items c.loop-next.next c.in-Some.end c.loop-next.invariant
    c.in-Some.ensures.some c.in-Some.ensures.within c.in-Some.ensures.round c.in_ok-push_starts.ensures
    (c.in_ok-push.ensures.items ∙ ap (λ (n : ℕ). c.loop-next.ends.items ++ n ∷ []) size)

pub returns : goal.returns
returns g c = upto-all c.args.edges.now c.loop-next.points.items c.loop-next.ends.items c.loop-next.next c.loop-next.invariant c.loop-next-test.false
