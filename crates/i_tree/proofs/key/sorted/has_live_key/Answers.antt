-- The key at the place alone can compare Equal: each arm says what it is.
use Rattle.std.proofs.Common.{sym, ap, ◌∙◌, arith}
use Rattle.std.specs.Cmp.{Equal-is}
use Rattle.std.specs.Ordering.{is_eq}
use Rattle.std.proofs.lemmas.Bool.{both_ways}
use Rattle.i_tree.specs.Root.Live.{is_live}
use Rattle.i_tree.proofs.RootLemmas.Lists.{MatchBool-by}
use Rattle.i_tree.proofs.RootLemmas.RisingKeys.{HasKey-live, NoKey-live}
use Rattle.i_tree.proofs.key.sorted.has_live_key.Goals as goal

pub returns-then-eq : goal.returns-then-eq
returns-then-eq g c =
    let found = (c.in-Some.ensures).lookup in
    let live = is_live g.K.ExpiredKey.expiration g.E.Ord.cmp c.args.time in
    MatchBool-by c.is_live.result _ _
    (λ is_true. HasKey-live g.met.K.Ord.total g.K.ExpiredKey.expiration g.E.Ord.cmp c.args.time c.args.pairs.now c.args.key.now c.in-Some.pair.now (c.place_of.result, found.3.0, sym found.1) (sym c.is_live.ensures ∙ is_true) ((Equal-is _).0 (sym (g.met.K.Ord.matches_eq c.in-Some.pair.now.0 c.args.key.now) ∙ sym c.eq.ensures ∙ c.if-eq.true)))
    (λ expired. NoKey-live g.met.K.Ord.total g.K.ExpiredKey.expiration g.E.Ord.cmp c.args.time c.args.pairs.now c.args.key.now c.place_of.result c.requires c.place_of.ensures.splits (λ d within level. ap (λ (pair : g.row.K.Denot × g.row.V.Denot). live pair.0) (sym (found.3.1 d)) ∙ sym c.is_live.ensures ∙ expired))

pub returns-else-eq : goal.returns-else-eq
returns-else-eq g c =
    let found = (c.in-Some.ensures).lookup in
    let differs = sym (g.met.K.Ord.matches_eq c.in-Some.pair.now.0 c.args.key.now) ∙ sym c.eq.ensures ∙ c.if-eq.false in
    rw c.if-eq.false
    (NoKey-live g.met.K.Ord.total g.K.ExpiredKey.expiration g.E.Ord.cmp c.args.time c.args.pairs.now c.args.key.now c.place_of.result c.requires c.place_of.ensures.splits (λ d within level. absurd (both_ways (is_eq (g.K.Ord.cmp c.in-Some.pair.now.0 c.args.key.now)) differs (ap (λ (pair : g.row.K.Denot × g.row.V.Denot). is_eq (g.K.Ord.cmp pair.0 c.args.key.now)) (found.3.1 d) ∙ ap is_eq level))))

pub returns-in-None : goal.returns-in-None
returns-in-None g c =
    NoKey-live g.met.K.Ord.total g.K.ExpiredKey.expiration g.E.Ord.cmp c.args.time c.args.pairs.now c.args.key.now c.place_of.result c.requires c.place_of.ensures.splits (λ d within level. absurd (omega (arith, (c.in-None.ensures).lookup.3)))
