use Rattle.std.proofs.Common.{◌<◌, length, Some, sym, ap, ◌∙◌, rules}
use Rattle.std.proofs.lemmas.Option.{slice_get_within}
use Rattle.i_tree.specs.declared.rb.links.Slot.TheVariants.{Free}
use Rattle.i_tree.specs.Rb.Slots.{tied_links}
use Rattle.i_tree.proofs.RbLemmas.Slots.Writes.{slice_get-set_same, slice_get-set_other}
use Rattle.i_tree.proofs.RbLemmas.Slots.FreeSlots.{read_free, read_not_used}
use Rattle.i_tree.proofs.rb.arena.take_slot.Goals as goal

pub offset_bounds-slots-handle : goal.offset_bounds-slots-handle
offset_bounds-slots-handle g c =
    let inside : c.args.first_free.now < length c.args.slots.now = slice_get_within c.args.slots.now c.args.first_free.now (Free c.requires.0) c.requires.1 in search rules

pub bounds-slots-handle : goal.bounds-slots-handle
bounds-slots-handle g c = slice_get_within c.args.slots.now c.args.first_free.now (Free c.requires.0) c.requires.1

pub unreachable-requires : goal.unreachable-requires
unreachable-requires g c =
    read_not_used c.args.slots.now c.args.first_free.now c.requires.0 c.index-slots-handle.result (tied_links c.in-Used.field-0 c.in-Used.field-1) c.in-Used.field-2 c.requires.1 (sym c.replace.ensures.value ∙ c.in-Used.is)

pub returns-clause-next : goal.returns-clause-next
returns-clause-next g c =
    read_free c.args.slots.now c.args.first_free.now c.requires.0 c.index-slots-handle.result c.in-Free.next c.requires.1 (sym c.replace.ensures.value ∙ c.in-Free.is)

pub returns-clause-used : goal.returns-clause-used
returns-clause-used g c =
    slice_get-set_same c.args.slots.now c.args.first_free.now c.replace.new.dest (slice_get_within c.args.slots.now c.args.first_free.now (Free c.requires.0) c.requires.1) ∙ ap Some c.replace.ensures.after

pub returns-clause-others : goal.returns-clause-others
returns-clause-others g c other apart = slice_get-set_other c.args.slots.now c.args.first_free.now other c.replace.new.dest apart
