-- The key at the place alone can compare Equal.
use Rattle.std.proofs.Common.{◌∙◌, sym, ap, arith}
use Rattle.std.specs.Cmp.{Equal-is}
use Rattle.std.specs.Ordering.{is_eq}
use Rattle.std.proofs.lemmas.Bool.{both_ways}
use Rattle.i_tree.proofs.RootLemmas.Lists.{MatchBool-by}
use Rattle.i_tree.proofs.RootLemmas.RisingKeys.{NoKey-place}
use Rattle.i_tree.proofs.key.sorted.has_key_at.Goals as goal

pub returns-in-Some : goal.returns-in-Some
returns-in-Some g c =
    let found = (c.in-Some.ensures).lookup in
    let stands = g.met.K.Ord.matches_eq c.in-Some.pair.now.0 c.args.key.now in
    MatchBool-by c.eq.result _ _
    (λ equal. (c.args.place, c.in-Some.pair.now, found.3.0, sym found.1, (Equal-is _).0 (sym stands ∙ sym c.eq.ensures ∙ equal)))
    (λ differs. NoKey-place g.met.K.Ord.total c.args.pairs.now c.args.key.now c.args.place c.requires.rising c.requires.splits
    (λ d within level. both_ways (is_eq (g.K.Ord.cmp c.in-Some.pair.now.0 c.args.key.now)) (sym stands ∙ sym c.eq.ensures ∙ differs) (ap (λ (pair : g.row.K.Denot × g.row.V.Denot). is_eq (g.K.Ord.cmp pair.0 c.args.key.now)) (found.3.1 d) ∙ ap is_eq level)))

pub returns-in-None : goal.returns-in-None
returns-in-None g c =
    NoKey-place g.met.K.Ord.total c.args.pairs.now c.args.key.now c.args.place c.requires.rising c.requires.splits (λ d within level. absurd (omega (arith, within, (c.in-None.ensures).lookup.3)))
