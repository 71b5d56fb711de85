use Rattle.std.proofs.Common.{rules, Some, ◌∙◌, sym, ap, ◌<◌, length}
use Rattle.std.proofs.lemmas.Option.{slice_get-get_or}
use Rattle.i_tree.proofs.RbLemmas.Slots.Writes.{IsUsed-within, not_free}
use Rattle.i_tree.specs.Rb.Slots.{slot_links}
use Rattle.i_tree.proofs.rb.links.links_at.Goals as goal

pub offset_bounds-slots-handle : goal.offset_bounds-slots-handle
offset_bounds-slots-handle g c =
    let inside : c.args.handle < length c.args.slots.now = IsUsed-within c.args.slots.now c.args.handle c.requires in search rules

pub bounds-slots-handle : goal.bounds-slots-handle
bounds-slots-handle g c = IsUsed-within c.args.slots.now c.args.handle c.requires

pub unreachable-requires : goal.unreachable-requires
unreachable-requires g c =
    let inside = IsUsed-within c.args.slots.now c.args.handle c.requires in
    not_free c.args.slots.now c.args.handle c.in-Free.field-0 c.requires
    (slice_get-get_or c.args.slots.now c.args.handle c.index-slots-handle.result inside ∙ ap Some (sym c.index-slots-handle.is ∙ c.in-Free.is))

pub returns : goal.returns
returns g c =
    let inside = IsUsed-within c.args.slots.now c.args.handle c.requires in
    ap slot_links (slice_get-get_or c.args.slots.now c.args.handle c.index-slots-handle.result inside ∙ ap Some (sym c.index-slots-handle.is ∙ c.in-Used.is))
