use Rattle.std.proofs.Common.{rules, Some, ◌∙◌, ap, ◌<◌, length}
use Rattle.std.proofs.lemmas.Option.{slice_get-get_or}
use Rattle.i_tree.specs.Rb.Slots.{tied_links, with_child_link}
use Rattle.i_tree.proofs.RbLemmas.Slots.Writes.{IsUsed-within, not_free, Relinks-set, with_child-tied}
use Rattle.i_tree.proofs.rb.links.write_child.Goals as goal

pub offset_bounds-slots-handle : goal.offset_bounds-slots-handle
offset_bounds-slots-handle g c =
    let inside : c.args.handle < length c.args.slots.now = IsUsed-within c.args.slots.now c.args.handle c.requires in search rules

pub bounds-slots-handle : goal.bounds-slots-handle
bounds-slots-handle g c = IsUsed-within c.args.slots.now c.args.handle c.requires

pub returns-in-Used : goal.returns-in-Used
returns-in-Used g c =
    let inside = IsUsed-within c.args.slots.now c.args.handle c.requires in
    Relinks-set c.args.slots.now c.args.handle c.in-Used.field-0 _ c.in-Used.ties _ (with_child_link c.args.side c.args.child) c.in-Used.field-2
    (slice_get-get_or c.args.slots.now c.args.handle c.index-slots-handle.result inside ∙ ap Some c.in-Used.is) (ap (tied_links c.in-Used.field-0) c.set_child.ensures ∙ with_child-tied c.args.side c.args.child c.in-Used.field-0 c.in-Used.ties)

pub returns-in-Free : goal.returns-in-Free
returns-in-Free g c =
    let inside = IsUsed-within c.args.slots.now c.args.handle c.requires in
    absurd (not_free c.args.slots.now c.args.handle c.in-Free.field-0 c.requires
    (slice_get-get_or c.args.slots.now c.args.handle c.index-slots-handle.result inside ∙ ap Some c.in-Free.is))
