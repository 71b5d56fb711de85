use Rattle.std.proofs.Common.{◌<◌, length, Some, sym, ap, ◌∙◌, rules}
use Rattle.std.proofs.lemmas.Option.{slice_get-get_or}
use Rattle.i_tree.specs.Rb.Slots.{tied_links}
use Rattle.i_tree.proofs.RbLemmas.Slots.Writes.{IsUsed-within, not_free, slice_get-set_same, slice_get-set_other}
use Rattle.i_tree.proofs.RbLemmas.Slots.Detaching.{read_item}
use Rattle.i_tree.proofs.rb.arena.free_slot.Goals as goal

pub offset_bounds-slots-handle : goal.offset_bounds-slots-handle
offset_bounds-slots-handle g c =
    let inside : c.args.handle < length c.args.slots.now = IsUsed-within c.args.slots.now c.args.handle c.requires in search rules

pub bounds-slots-handle : goal.bounds-slots-handle
bounds-slots-handle g c = IsUsed-within c.args.slots.now c.args.handle c.requires

pub unreachable-requires : goal.unreachable-requires
unreachable-requires g c =
    not_free c.args.slots.now c.args.handle c.in-Free.field-0 c.requires
    (slice_get-get_or c.args.slots.now c.args.handle c.index-slots-handle.result (IsUsed-within c.args.slots.now c.args.handle c.requires)
    ∙ ap Some (sym c.replace.ensures.value ∙ c.in-Free.is))

pub returns-clause-item : goal.returns-clause-item
returns-clause-item g c links item at =
    read_item c.args.slots.now c.args.handle c.index-slots-handle.result (tied_links c.in-Used.field-0 c.in-Used.field-1) links c.in-Used.item item (sym c.replace.ensures.value ∙ c.in-Used.is) at

pub returns-clause-freed : goal.returns-clause-freed
returns-clause-freed g c =
    slice_get-set_same c.args.slots.now c.args.handle c.replace.new.dest (IsUsed-within c.args.slots.now c.args.handle c.requires) ∙ ap Some c.replace.ensures.after

pub returns-clause-others : goal.returns-clause-others
returns-clause-others g c other apart = slice_get-set_other c.args.slots.now c.args.handle other c.replace.new.dest apart
