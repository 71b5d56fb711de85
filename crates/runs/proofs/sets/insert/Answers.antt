use Rattle.std.proofs.Common.{◌≡◌, ap}
use Rattle.std.specs.Prelude.{OnOk}
use Rattle.i_tree.proofs.SetLemmas.Insertion.{from_none, from_some}
use Rattle.i_tree.specs.declared.Refused.{Refused}
use Rattle.i_tree.specs.Root.Change.{Joins}
use Rattle.i_tree.specs.Set.Pairs.{values, HoldsKey, LacksKey}
use Rattle.runs.proofs.RunLemmas.SetSteps.{NoKey-values, HasKey-held, IsRising-values}
use Rattle.runs.proofs.sets.insert.Goals as goal

pub returns-in-Ok-None-clause-step : goal.returns-in-Ok-None-clause-step
returns-in-Ok-None-clause-step g c =
    let key_of = g.V.KeyValue.key_of in
    let cmp = g.K.Ord.cmp in
    let old = g.C.SetCollection.pairs c.args.c.now in
    let new = g.C.SetCollection.pairs c.insert_new.new.self in
    let lacks = from_none (λ _. LacksKey key_of cmp old (key_of c.args.val)) c.in-Ok-None.field-0 c.in-Ok-None.field-0-is c.in-Ok-None.ensures.absent in
    let joins = from_none (λ insertion. OnOk insertion (Joins c.args.val (values old) (values new))) c.in-Ok-None.field-0 c.in-Ok-None.field-0-is c.in-Ok-None.ensures.ok in
    (NoKey-values key_of cmp old (key_of c.args.val) lacks, joins, IsRising-values key_of cmp new c.in-Ok-None.ensures.in_order)

pub returns-in-Ok-Some-clause-step : goal.returns-in-Ok-Some-clause-step
returns-in-Ok-Some-clause-step g c =
    let key_of = g.V.KeyValue.key_of in
    let cmp = g.K.Ord.cmp in
    let pairs = g.C.SetCollection.pairs in
    let there =
    from_some (Refused g.row.V.Denot) (λ given. (given ≡ c.args.val) × HoldsKey key_of cmp (pairs c.args.c.now) (key_of c.args.val) × (c.insert_new.new.self ≡ c.args.c.now)) c.in-Ok-Some.field-0 c.in-Ok-Some.given c.in-Ok-Some.field-0-is
    c.in-Ok-Some.ensures.present in
    (HasKey-held key_of cmp (pairs c.args.c.now) (key_of c.args.val) there.1, there.0, ap (λ set. values (pairs set)) there.2)

pub returns-in-Err-clause-step : goal.returns-in-Err-clause-step
returns-in-Err-clause-step g c =
    let key_of = g.V.KeyValue.key_of in
    let cmp = g.K.Ord.cmp in
    (NoKey-values key_of cmp (g.C.SetCollection.pairs c.args.c.now) (key_of c.args.val) c.in-Err.ensures.absent, c.in-Err.ensures.handed, ap values c.in-Err.ensures.err)
