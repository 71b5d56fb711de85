use Rattle.overlay_tests.proofs.WalkLemmas.{open-none, open-more, open-back}
use Rattle.std.proofs.lemmas.Result.{on_ok_weaker}
use Rattle.overlay_tests.proofs.walks.push_walk.Goals as goal

pub loop-other-init : goal.loop-other-init
loop-other-init c = open-none c.args.edges.now.items c.point-first.result c.requires

pub loop-other-preserved : goal.loop-other-preserved
loop-other-preserved c =
    open-more c.loop-other.edges.items c.push_edge.new.edges.items c.point-first.result c.loop-other.last c.point-next.result c.in_ok-push_edge.ensures c.loop-other.invariant

pub returns : goal.returns
returns c =
    on_ok_weaker c.push_edge-2.result (λ is. open-back c.loop-other.edges.items c.push_edge-2.new.edges.items c.point-first.result c.loop-other.last is c.loop-other.invariant) c.push_edge-2.ensures
