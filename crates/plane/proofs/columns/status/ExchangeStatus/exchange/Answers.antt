use Rattle.std.proofs.Common.{◌<◌, ap, refl, arith, length}
use Rattle.i_tree.proofs.RbLemmas.Shape.Contexts.{occurs_among-entries}
use Rattle.i_tree.proofs.RbLemmas.Shape.Subtrees.{live-not_empty}
use Rattle.i_tree.specs.Rb.Shape.{entries}
use Rattle.plane.specs.Columns.Status.{Line}
use Rattle.plane.proofs.ColumnLemmas.StatusEntries.{AreOnce-entries}
use Rattle.plane.proofs.ColumnLemmas.StatusInsertion.{exchanges_next, handles_after, next_found, next_handles}
use Rattle.plane.proofs.columns.status.ExchangeStatus.exchange.Goals as goal
use Rattle.plane.proofs.columns.status.ExchangeStatus.exchange.Goals.{then-not-has-via-then-not-has, then-not-has-via-else-not-has+then-not-has-2, then-not-has-via-else-not-has+else-not-has-2+then-after-high}

pub returns-then-not-has-clause-exchanged : goal.returns-then-not-has-clause-exchanged
returns-then-not-has-clause-exchanged g c =
    let tree = c.self.inside.tree.shape in
    let list = entries tree in
    let core = c.has.ensures.core in
    let once = AreOnce-entries tree core.handles in
    let handles = c.self.inside.handles.items in
    let places = ap (λ (line : Line). line.places) c.self.view_is in
    let below_within : c.args.below < length handles = omega (arith, places, c.requires.0) in
    let above_within : c.args.above < length handles = omega (arith, places, c.requires.1) in
    let low = c.index-low.result.now in
    let high = c.index-high.result.now in (
      refl,
      λ next.
          let told = next_handles list once handles c.self.invariant c.args.below c.args.above below_within above_within low high c.index-low.ensures c.index-high.ensures
          c.args.self.now.edges (ap (λ (line : Line). line.edges) c.self.view_is) next in
          let low_live = told.0 in
          let high_live = told.1 in
          elim c.then-not-has.branch [
            | then-not-has-via-then-not-has w ↦ let none = w.if-not-has.ensures.value in omega (arith, low_live, none, occurs_among-entries low tree)
            | then-not-has-via-else-not-has+then-not-has-2 w ↦ let none = w.if-not-has-2.ensures.value in omega (arith, high_live, none, occurs_among-entries high tree)
            | then-not-has-via-else-not-has+else-not-has-2+then-after-high w ↦ w.if-after-high.true (told.2 w.after.result w.after.ensures.value)
          ],
    )

pub exchange_items-exchanged-requires : goal.exchange_items-exchanged-requires
exchange_items-exchanged-requires g c =
    let tree = c.self.inside.tree.shape in
    let list = entries tree in
    let core = c.has.ensures.core in
    let once = AreOnce-entries tree core.handles in
    let handles = c.self.inside.handles.items in
    let places = ap (λ (line : Line). line.places) c.self.view_is in
    let below_within : c.args.below < length handles = omega (arith, places, c.requires.0) in
    let above_within : c.args.above < length handles = omega (arith, places, c.requires.1) in
    let low = c.index-low.result.now in
    let high = c.index-high.result.now in
    let found = next_found list once handles c.self.invariant c.args.below c.args.above below_within above_within low high c.index-low.ensures c.index-high.ensures
    (live-not_empty tree low core.handles c.if-not-has.ensures.value) (live-not_empty tree high core.handles c.if-not-has-2.ensures.value) c.after.result c.after.ensures.value c.if-after-high.false in
    (found.front, found.lower, found.upper, found.back, found.cut)

pub invariant_of-self : goal.invariant_of-self
invariant_of-self g c =
    let tree = c.self.inside.tree.shape in
    let list = entries tree in
    let core = c.has.ensures.core in
    let once = AreOnce-entries tree core.handles in
    let handles = c.self.inside.handles.items in
    let places = ap (λ (line : Line). line.places) c.self.view_is in
    let below_within : c.args.below < length handles = omega (arith, places, c.requires.0) in
    let above_within : c.args.above < length handles = omega (arith, places, c.requires.1) in
    let low = c.index-low.result.now in
    let high = c.index-high.result.now in
    let found = next_found list once handles c.self.invariant c.args.below c.args.above below_within above_within low high c.index-low.ensures c.index-high.ensures
    (live-not_empty tree low core.handles c.if-not-has.ensures.value) (live-not_empty tree high core.handles c.if-not-has-2.ensures.value) c.after.result c.after.ensures.value c.if-after-high.false in
    handles_after list once handles c.self.invariant c.args.below c.args.above low high found (entries c.exchange_items-exchanged.new.tree.shape) c.exchange_items-exchanged.result
    (c.exchange_items-exchanged.ensures.exchanges found.front found.lower found.upper found.back found.cut)

pub returns-clause-exchanged : goal.returns-clause-exchanged
returns-clause-exchanged g c =
    let tree = c.self.inside.tree.shape in
    let list = entries tree in
    let core = c.has.ensures.core in
    let once = AreOnce-entries tree core.handles in
    let handles = c.self.inside.handles.items in
    let places = ap (λ (line : Line). line.places) c.self.view_is in
    let below_within : c.args.below < length handles = omega (arith, places, c.requires.0) in
    let above_within : c.args.above < length handles = omega (arith, places, c.requires.1) in
    let low = c.index-low.result.now in
    let high = c.index-high.result.now in
    let found = next_found list once handles c.self.invariant c.args.below c.args.above below_within above_within low high c.index-low.ensures c.index-high.ensures
    (live-not_empty tree low core.handles c.if-not-has.ensures.value) (live-not_empty tree high core.handles c.if-not-has-2.ensures.value) c.after.result c.after.ensures.value c.if-after-high.false in
    exchanges_next list once handles c.self.invariant c.args.below c.args.above low high found (entries c.exchange_items-exchanged.new.tree.shape) c.exchange_items-exchanged.result
    (c.exchange_items-exchanged.ensures.exchanges found.front found.lower found.upper found.back found.cut) c.args.self.now.edges (ap (λ (line : Line). line.edges) c.self.view_is)
