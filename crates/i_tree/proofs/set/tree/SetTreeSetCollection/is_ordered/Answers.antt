use Rattle.std.proofs.Common.{◌≡◌, length, ap, sym, ◌∙◌, ⊎_elim, arith}
use Rattle.std.proofs.lemmas.Bool.{cases_lt}
use Rattle.i_tree.proofs.SetLemmas.Ordered.{rising_from_last, path_on, rising_more, not_ordered, ordered_all, ordered_none}
use Rattle.i_tree.proofs.RbLemmas.Shape.SubtreeHandles.{live_from_cut}
use Rattle.i_tree.proofs.SetLemmas.Handles.{AreApart-from_handles}
use Rattle.i_tree.specs.Rb.RbTree.{Contents}
use Rattle.i_tree.specs.Rb.Shape.{entries}
use Rattle.i_tree.proofs.set.tree.SetTreeSetCollection.is_ordered.Goals as goal

pub loop-init : goal.loop-init
loop-init g c some = rising_from_last g.V.KeyValue.key_of g.K.Ord.cmp (entries c.args.self.now.shape) c.last-here.result c.last-here.ensures some

pub before-before-requires : goal.before-before-requires
before-before-requires g c =
    let pairs_are = ap (λ (contents : Contents g.row.V.Denot). entries contents.shape) c.self.view_is in
    let rising = c.loop.invariant (omega (arith, c.loop-test.true, c.len-end.ensures.value, ap length pairs_are)) in
    live_from_cut c.loop.here c.self.inside.core.shape rising.front rising.value rising.back (pairs_are ∙ rising.cut)

pub key_at-requires : goal.key_at-requires
key_at-requires g c =
    let pairs_are = ap (λ (contents : Contents g.row.V.Denot). entries contents.shape) c.self.view_is in
    let way = path_on g.V.KeyValue.key_of g.K.Ord.cmp (entries c.args.self.now.shape) (entries c.self.inside.core.shape) c.before-before.result c.loop.here c.loop.counter c.len-end.result
    pairs_are c.loop.invariant c.loop-test.true c.len-end.ensures.value c.before-before.ensures.value in
    live_from_cut c.before-before.result c.args.self.now.shape way.lower.front way.lower.lower _ way.lower.cut

pub key_at-requires-in-loop : goal.key_at-requires-in-loop
key_at-requires-in-loop g c =
    let pairs_are = ap (λ (contents : Contents g.row.V.Denot). entries contents.shape) c.self.view_is in
    let rising = c.loop.invariant (omega (arith, c.loop-test.true, c.len-end.ensures.value, ap length pairs_are)) in
    live_from_cut c.loop.here c.args.self.now.shape rising.front rising.value rising.back rising.cut

pub returns-in_default-clause-cases : goal.returns-in_default-clause-cases
returns-in_default-clause-cases g c =
    let key_of = g.V.KeyValue.key_of in
    let cmp = g.K.Ord.cmp in
    let pairs_are = ap (λ (contents : Contents g.row.V.Denot). entries contents.shape) c.self.view_is in
    let way = path_on key_of cmp (entries c.args.self.now.shape) (entries c.self.inside.core.shape) c.before-before.result c.loop.here c.loop.counter c.len-end.result
    pairs_are c.loop.invariant c.loop-test.true c.len-end.ensures.value c.before-before.ensures.value in
    let lower_is : c.key_at.result.now ≡ key_of way.lower.lower = c.key_at.ensures way.lower.front way.lower.lower _ way.lower.cut in
    let here_is : c.key_at-in-loop.result.now ≡ key_of way.rising.value = c.key_at-in-loop.ensures way.rising.front way.rising.value way.rising.back way.rising.cut in
    let said : cmp (key_of way.lower.lower) (key_of way.rising.value) ≡ c.cmp.result = rw (← lower_is, ← here_is) (sym c.cmp.ensures) in
    not_ordered key_of cmp g.met.K.Ord.total (entries c.args.self.now.shape) c.before-before.result c.loop.here way.rising.value way.rising.back way.lower (λ less. c.in_default.not-Less (sym said ∙ less))

pub loop-preserved : goal.loop-preserved
loop-preserved g c some =
    let key_of = g.V.KeyValue.key_of in
    let cmp = g.K.Ord.cmp in
    let pairs_are = ap (λ (contents : Contents g.row.V.Denot). entries contents.shape) c.self.view_is in
    let way = path_on key_of cmp (entries c.args.self.now.shape) (entries c.self.inside.core.shape) c.before-before.result c.loop.here c.loop.counter c.len-end.result
    pairs_are c.loop.invariant c.loop-test.true c.len-end.ensures.value c.before-before.ensures.value in
    let lower_is : c.key_at.result.now ≡ key_of way.lower.lower = c.key_at.ensures way.lower.front way.lower.lower _ way.lower.cut in
    let here_is : c.key_at-in-loop.result.now ≡ key_of way.rising.value = c.key_at-in-loop.ensures way.rising.front way.rising.value way.rising.back way.rising.cut in
    let said : cmp (key_of way.lower.lower) (key_of way.rising.value) ≡ c.cmp.result = rw (← lower_is, ← here_is) (sym c.cmp.ensures) in
    rising_more key_of cmp g.met.K.Ord.total (entries c.args.self.now.shape) c.before-before.result c.loop.here c.loop.counter way.rising way.lower (said ∙ c.in-Less.is)

pub returns-clause-cases : goal.returns-clause-cases
returns-clause-cases g c =
    let pairs_are = ap (λ (contents : Contents g.row.V.Denot). entries contents.shape) c.self.view_is in
    ⊎_elim
    (λ some. ordered_all g.V.KeyValue.key_of g.K.Ord.cmp g.met.K.Ord.total (entries c.args.self.now.shape) c.loop.here c.loop.counter (c.loop.invariant some) (omega (arith, c.loop-test.false, c.len-end.ensures.value, ap length pairs_are)))
    (λ none. ordered_none g.V.KeyValue.key_of g.K.Ord.cmp g.met.K.Ord.total (entries c.args.self.now.shape) (omega arith))
    (cases_lt 0 (length (entries c.args.self.now.shape)))

pub returns-clause-handles : goal.returns-clause-handles
returns-clause-handles g c = rw (← c.self.view_is) (AreApart-from_handles c.self.inside.core.shape c.len-end.ensures.core.handles)

pub returns-in_default-clause-handles : goal.returns-in_default-clause-handles
returns-in_default-clause-handles g c = rw (← c.self.view_is) (AreApart-from_handles c.self.inside.core.shape c.len-end.ensures.core.handles)
