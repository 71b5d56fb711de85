use Rattle.runs.proofs.RunLemmas.KeySteps.{replies_to_insert, serves_less, serves_at_most, serves_insert}
use Rattle.std.proofs.lemmas.List.Elements.{All-contains_itself}
use Rattle.runs.proofs.RunLemmas.KnownPairs.{known_inserts, known_more, known_without}
use Rattle.runs.proofs.keys.serve.Goals as goal

pub returns-then-not-advance-clause-known : goal.returns-then-not-advance-clause-known
returns-then-not-advance-clause-known g c = rw c.in-Insert.is (known_more (c.in-Insert.key, c.in-Insert.val) (g.C.KeyExpCollection.stored c.args.c.now))

pub returns-then-not-advance-2-clause-known : goal.returns-then-not-advance-2-clause-known
returns-then-not-advance-2-clause-known g c = rw c.in-Less.is (All-contains_itself (g.C.KeyExpCollection.stored c.args.c.now))

pub returns-then-not-advance-3-clause-known : goal.returns-then-not-advance-3-clause-known
returns-then-not-advance-3-clause-known g c = rw c.in-LessOrEqualBy.is (All-contains_itself (g.C.KeyExpCollection.stored c.args.c.now))

pub returns-else-not-advance-clause-steps : goal.returns-else-not-advance-clause-steps
returns-else-not-advance-clause-steps g c order probes =
    let advanced = c.if-not-advance.ensures in
    let stored = g.C.KeyExpCollection.stored in
    rw (c.in-Insert.is, advanced.1)
    (serves_insert g.K.ExpiredKey.expiration g.met.E.Ord.total g.K.Ord.cmp order (stored c.args.c.now) c.args.last.now c.in-Insert.time advanced.0 c.in-Insert.key c.in-Insert.val (stored c.insert.new.c) c.insert.result c.insert.ensures.inserts)

pub returns-else-not-advance-clause-replies : goal.returns-else-not-advance-clause-replies
returns-else-not-advance-clause-replies g c =
    let stored = g.C.KeyExpCollection.stored in
    rw c.in-Insert.is
    (replies_to_insert g.row.P.Denot g.K.ExpiredKey.expiration g.E.Ord.cmp g.K.Ord.cmp c.in-Insert.time c.in-Insert.key c.in-Insert.val (stored c.args.c.now) (stored c.insert.new.c) c.insert.result c.insert.ensures.inserts)

pub returns-else-not-advance-clause-known : goal.returns-else-not-advance-clause-known
returns-else-not-advance-clause-known g c =
    let stored = g.C.KeyExpCollection.stored in
    rw c.in-Insert.is
    (known_inserts g.K.ExpiredKey.expiration g.E.Ord.cmp g.K.Ord.cmp c.in-Insert.time c.in-Insert.key c.in-Insert.val (stored c.args.c.now) (stored c.insert.new.c) c.insert.result c.insert.ensures.inserts)

pub returns-else-not-advance-2-clause-steps : goal.returns-else-not-advance-2-clause-steps
returns-else-not-advance-2-clause-steps g c order probes =
    let advanced = c.if-not-advance-2.ensures in
    let stored = g.C.KeyExpCollection.stored in
    rw (c.in-Less.is, advanced.1)
    (serves_less g.K.ExpiredKey.expiration g.met.E.Ord.total g.K.Ord.cmp order (stored c.args.c.now) c.args.last.now c.in-Less.time advanced.0 c.in-Less.default c.in-Less.key c.first_less.result (stored c.first_less.new.c) c.first_less.ensures.value c.first_less.ensures.kept)

pub returns-else-not-advance-2-clause-known : goal.returns-else-not-advance-2-clause-known
returns-else-not-advance-2-clause-known g c =
    rw c.in-Less.is
    (known_without (g.C.KeyExpCollection.stored c.args.c.now) (g.C.KeyExpCollection.stored c.first_less.new.c) c.first_less.ensures.kept)

pub returns-else-not-advance-3-clause-steps : goal.returns-else-not-advance-3-clause-steps
returns-else-not-advance-3-clause-steps g c order probes =
    let advanced = c.if-not-advance-3.ensures in
    let stored = g.C.KeyExpCollection.stored in
    let asked = rw c.in-LessOrEqualBy.is at probes in
    rw (c.in-LessOrEqualBy.is, advanced.1)
    (serves_at_most g.K.ExpiredKey.expiration g.met.E.Ord.total g.K.Ord.cmp order (stored c.args.c.now) c.args.last.now c.in-LessOrEqualBy.time advanced.0 c.in-LessOrEqualBy.default c.in-LessOrEqualBy.sought c.first_less_or_equal_by.result (stored c.first_less_or_equal_by.new.c)
    (c.first_less_or_equal_by.ensures.value (order c.in-LessOrEqualBy.sought) (λ k d within answer says. asked.0 k d within answer says) asked.1) c.first_less_or_equal_by.ensures.kept)

pub returns-else-not-advance-3-clause-known : goal.returns-else-not-advance-3-clause-known
returns-else-not-advance-3-clause-known g c =
    rw c.in-LessOrEqualBy.is
    (known_without (g.C.KeyExpCollection.stored c.args.c.now) (g.C.KeyExpCollection.stored c.first_less_or_equal_by.new.c) c.first_less_or_equal_by.ensures.kept)
