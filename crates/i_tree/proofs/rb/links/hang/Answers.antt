use Rattle.std.proofs.Common.{rules, Some, ◌∙◌, ap, ◌<◌, length}
use Rattle.std.proofs.lemmas.Option.{slice_get-get_or}
use Rattle.i_tree.specs.declared.rb.links.Links.{Links}
use Rattle.i_tree.specs.declared.rb.links.Ties.{Ties}
use Rattle.i_tree.specs.Rb.Slots.{hung_links, tied_links}
use Rattle.i_tree.proofs.RbLemmas.Slots.Writes.{IsUsed-within, not_free, Relinks-set, with_child-tied}
use Rattle.i_tree.proofs.rb.links.hang.Goals as goal

pub offset_bounds-slots-handle : goal.offset_bounds-slots-handle
offset_bounds-slots-handle g c =
    let inside : c.args.handle < length c.args.slots.now = IsUsed-within c.args.slots.now c.args.handle c.requires in search rules

pub bounds-slots-handle : goal.bounds-slots-handle
bounds-slots-handle g c = IsUsed-within c.args.slots.now c.args.handle c.requires

pub returns-in-Used : goal.returns-in-Used
returns-in-Used g c =
    let inside = IsUsed-within c.args.slots.now c.args.handle c.requires in
    Relinks-set c.args.slots.now c.args.handle c.in-Used.shade _ c.in-Used.ties _ (hung_links c.args.parent c.args.colour c.args.side c.args.child) c.in-Used.field-2
    (slice_get-get_or c.args.slots.now c.args.handle c.index-slots-handle.result inside ∙ ap Some c.in-Used.is) (ap (λ (ties : Ties). tied_links c.args.colour (record ties { parent = c.args.parent })) c.set_child.ensures
    ∙ ap (λ (links : Links). record links { parent = c.args.parent; colour = c.args.colour }) (with_child-tied c.args.side c.args.child c.in-Used.shade c.in-Used.ties))

pub returns-in-Free : goal.returns-in-Free
returns-in-Free g c =
    let inside = IsUsed-within c.args.slots.now c.args.handle c.requires in
    absurd (not_free c.args.slots.now c.args.handle c.in-Free.field-0 c.requires
    (slice_get-get_or c.args.slots.now c.args.handle c.index-slots-handle.result inside ∙ ap Some c.in-Free.is))
