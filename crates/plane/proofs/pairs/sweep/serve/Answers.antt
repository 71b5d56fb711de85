use Rattle.std.proofs.Common.{get_or}
use Rattle.std.proofs.lemmas.List.Elements.{All-contains, Contains-get_or}
use Rattle.i_tree.specs.Seg.Members.{Member}
use Rattle.plane.specs.Pairs.Live.{IsIn, held}
use Rattle.plane.specs.declared.pairs.sweep.Placed.{Placed}
use Rattle.plane.proofs.PairsLemmas.Serving.{kept-within}
use Rattle.plane.proofs.pairs.sweep.serve.Goals as goal

pub join-requires-clause-within : goal.join-requires-clause-within
join-requires-clause-within g c = λ k d within.
    let bounds = g.T.Boxed.bounds in
    let old = (held bounds c.args.strips c.args.strip c.args.live.now).members in
    let new = (held bounds c.args.strips c.args.strip c.ask.new.live).members in
    All-contains (λ (member : Member (Placed g.row.T.Denot)). IsIn bounds c.args.strips c.args.strip member.value) old (get_or new k d) c.requires.within
    (kept-within bounds (bounds c.args.placed.item).left old new ((c.in_ok-asked.ensures).ok).keeps (get_or new k d) (Contains-get_or new k d within))
