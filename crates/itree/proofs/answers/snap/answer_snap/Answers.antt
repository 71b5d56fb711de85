use Rattle.itree.proofs.Chained.{AreJoined-first}
use Rattle.itree.proofs.answers.snap.answer_snap.Goals as goal

pub chain_text-requires : goal.chain_text-requires
chain_text-requires g c =
    let (chains, are, points, ends) = c.in_ok-snap.ensures.ok in
    (chains, AreJoined-first chains _ _ _ _ _ _ c.new-points.ensures.items c.new-ends.ensures.items points ends c.deref.ensures.value c.deref-2.ensures.value)

pub returns-clause-answered : goal.returns-clause-answered
returns-clause-answered g c =
    let (chains, are, points, ends) = c.in_ok-snap.ensures.ok in
    let all = AreJoined-first chains _ _ _ _ _ _ c.new-points.ensures.items c.new-ends.ensures.items points ends c.deref.ensures.value c.deref-2.ensures.value in
    record { chains = chains; are = are; written = c.in_ok-chain_text.ensures chains all }
