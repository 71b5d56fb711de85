use Rattle.std.proofs.Common.{◌∷◌, ◌++◌, [], ◌∙◌, sym, append_assoc}
use Rattle.i_tree.proofs.RbLemmas.Removal.Items.{IsCore-with_item}
use Rattle.i_tree.specs.Rb.Shape.{entries, with_item}
use Rattle.plane.proofs.ColumnLemmas.StatusEntries.{AreOnce-entries, after_live, before_live, begins_with, ends_with}
use Rattle.plane.proofs.ColumnLemmas.StatusExchange.{high_cut, high_live, high_live_then, items_exchanged, low_live, read_is}
use Rattle.plane.proofs.columns.status.exchange_items.Goals as goal

pub before-requires : goal.before-requires
before-requires g c = let (front, lower, upper, back, cut) = c.requires in low_live c.args.tree.now.shape front c.args.low lower c.args.high upper back cut

pub edge_at-requires : goal.edge_at-requires
edge_at-requires g c =
    let (front, lower, upper, back, cut) = c.requires in
    before_live c.args.tree.now.shape c.args.low (low_live c.args.tree.now.shape front c.args.low lower c.args.high upper back cut) c.before-2.result c.before-2.ensures.value

pub item-requires : goal.item-requires
item-requires g c = let (front, lower, upper, back, cut) = c.requires in low_live c.args.tree.now.shape front c.args.low lower c.args.high upper back cut

pub item-requires-2 : goal.item-requires-2
item-requires-2 g c = let (front, lower, upper, back, cut) = c.requires in high_live c.args.tree.now.shape front c.args.low lower c.args.high upper back cut

pub after-requires : goal.after-requires
after-requires g c = let (front, lower, upper, back, cut) = c.requires in high_live c.args.tree.now.shape front c.args.low lower c.args.high upper back cut

pub edge_at-requires-2 : goal.edge_at-requires-2
edge_at-requires-2 g c =
    let (front, lower, upper, back, cut) = c.requires in
    after_live c.args.tree.now.shape c.args.high (high_live c.args.tree.now.shape front c.args.low lower c.args.high upper back cut) c.after.result c.after.ensures.value

pub item_mut-requires : goal.item_mut-requires
item_mut-requires g c = let (front, lower, upper, back, cut) = c.requires in low_live c.args.tree.now.shape front c.args.low lower c.args.high upper back cut

pub item_mut-requires-2 : goal.item_mut-requires-2
item_mut-requires-2 g c =
    let (front, lower, upper, back, cut) = c.requires in
    high_live_then c.args.tree.now.shape front c.args.low lower c.args.high upper back cut c.item.ensures.core.handles c.item-2.result.now

pub returns-clause-exchanges : goal.returns-clause-exchanges
returns-clause-exchanges g c =
    let tree = c.args.tree.now.shape in
    let low = c.args.low in
    let high = c.args.high in
    let handles = c.item.ensures.core.handles in
    let once = AreOnce-entries tree handles in
    λ front lower upper back cut.
    let at_high = high_cut tree front low lower high upper back cut in
    let lower_is = read_is tree handles low c.item.result.now c.item.ensures.value front lower ((high, upper) ∷ back) cut in
    let upper_is = read_is tree handles high c.item-2.result.now c.item-2.ensures.value (front ++ (low, lower) ∷ []) upper back at_high in
    record {
      is = items_exchanged tree front low lower high upper back cut handles c.item-2.result.now c.item.result.now upper_is lower_is;
      lower_is = lower_is;
      upper_is = upper_is;
      under = ends_with (entries tree) once front ((low, lower) ∷ (high, upper) ∷ back) cut c.before-2.result c.edge_at.result
          (c.before-2.ensures.value front lower ((high, upper) ∷ back) cut) c.edge_at.ensures;
      over = begins_with (entries tree) once ((front ++ (low, lower) ∷ []) ++ (high, upper) ∷ []) back
          (at_high ∙ sym (append_assoc (front ++ (low, lower) ∷ []) ((high, upper) ∷ []) back)) c.after.result c.edge_at-2.result
          (c.after.ensures.value (front ++ (low, lower) ∷ []) upper back at_high) c.edge_at-2.ensures;
    }

pub returns-clause-core : goal.returns-clause-core
returns-clause-core g c =
    let first = with_item c.args.low c.item-2.result.now c.args.tree.now.shape in
    IsCore-with_item c.args.high c.item.result.now first (IsCore-with_item c.args.low c.item-2.result.now c.args.tree.now.shape c.item.ensures.core)
