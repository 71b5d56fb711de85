use Rattle.std.proofs.Common.{List, SFits, w32, ap, subst, ◌∙◌, rules}
use Rattle.std.proofs.lemmas.Int.{to_z-of_z}
use Rattle.plane.specs.Pairs.Live.{held}
use Rattle.plane.specs.Pairs.Sweep.{GainsPairs}
use Rattle.plane.specs.declared.pairs.items.Bounds.{Bounds}
use Rattle.plane.specs.declared.pairs.sweep.Placed.{Placed}
use Rattle.plane.proofs.PairsLemmas.Live.{members-dropped, values-dropped}
use Rattle.plane.proofs.PairsLemmas.Serving.{Asks-all}
use Rattle.plane.proofs.pairs.sweep.ask_few.Goals as goal

pub returns-clause-ok : goal.returns-clause-ok
returns-clause-ok g c =
    let bounds = g.T.Boxed.bounds in
    let fits : SFits w32 c.bounds.result.left = search rules in
    let time = to_z-of_z w32 c.bounds.result.left fits ∙ ap (λ (box : Bounds). box.left) c.bounds.ensures in
    let old = (held bounds c.args.strips c.args.strip c.args.live.now).members in
    let live = c.drop_expired.new.self in
    let new = (held bounds c.args.strips c.args.strip live).members in
    Asks-all c.args.strips c.args.strip c.args.placed c.args.live.now.tree.buckets old new c.args.out.now.items c.append_told.new.out.items live.few.items
    (values-dropped bounds c.args.strips c.args.strip c.args.live.now live c.requires.few c.drop_expired.ensures.few c.drop_expired.ensures.tree _ (bounds c.args.placed.item).left time c.drop_expired.ensures.live)
    (members-dropped bounds c.args.strips c.args.strip c.args.live.now live c.requires.few c.drop_expired.ensures.few c.drop_expired.ensures.tree _ (bounds c.args.placed.item).left time c.drop_expired.ensures.live)
    (subst (λ (found : List (Placed g.row.T.Denot)). GainsPairs bounds g.T.Meets.Meeting c.args.strips c.args.strip c.args.placed found c.args.out.now.items c.append_told.new.out.items) c.deref.ensures.value (c.in_ok-append_told.ensures).ok)
