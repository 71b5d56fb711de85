use Rattle.std.proofs.Common.{◌≡◌, ◌-◌, length, length-append, ap, arith}
use Rattle.std.proofs.lemmas.Bool.{MatchBool-at_true}
use Rattle.plane.proofs.PairsLemmas.Upto.{told_upto}
use Rattle.plane.proofs.pairs.pairs_upto.Goals as goal

pub returns-clause-ok : goal.returns-clause-ok
returns-clause-ok g c =
    let (pairs, is, told) = MatchBool-at_true _ _ (c.in_ok-gain_pairs.ensures.unlimited c.unlimited.ensures) c.in_ok-gain_pairs.ensures.ok in
    let start = c.len-start.ensures in
    let end = c.len.ensures in
    let size = ap length is in
    let both = length-append c.args.out.now.items pairs in
    let count : c.len.result - c.len-start.result ≡ length pairs = omega (arith, start, end, size, both) in
    (pairs, is, told_upto g.T.Meets.Meeting c.args.items.now c.args.most pairs _ count told)
