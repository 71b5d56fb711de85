use Rattle.std.proofs.Common.{◌∙◌, ap}
use Rattle.i_tree.specs.Rb.Slots.{child_link}
use Rattle.i_tree.proofs.RbLemmas.Slots.RotationSteps.{used_by}
use Rattle.i_tree.proofs.RbLemmas.Slots.RotationWrites.{laid, up_found, found, hung_used, used_hung, used_lowered, used_lifted, sound-rotated}
use Rattle.i_tree.proofs.rb.arena.rotate_slots.Goals as goal

pub links_at-links-requires : goal.links_at-links-requires
links_at-links-requires g c =
    let lies = laid c.args.slots.now _ _ _ c.requires.rotation c.requires.sound in used_by c.args.slots.now c.args.handle _ _ lies.own

pub links_at-raised_links-requires : goal.links_at-raised_links-requires
links_at-raised_links-requires g c =
    let lies = laid c.args.slots.now _ _ _ c.requires.rotation c.requires.sound in
    let up_is = up_found c.args.slots.now c.requires.rotation c.links_at-links.result c.child-raised.result lies c.links_at-links.ensures
    (c.child-raised.ensures ∙ ap (λ side. child_link side c.links_at-links.result) c.other.ensures) in
    rw up_is (used_by c.args.slots.now c.requires.rotation.raised _ _ lies.raised)

pub replace_child-requires : goal.replace_child-requires
replace_child-requires g c =
    let lies = laid c.args.slots.now _ _ _ c.requires.rotation c.requires.sound in
    let values = found c.args.slots.now c.requires.rotation c.links_at-links.result c.child-raised.result c.links_at-raised_links.result c.child-inner.result lies
    c.links_at-links.ensures (c.child-raised.ensures ∙ ap (λ side. child_link side c.links_at-links.result) c.other.ensures)
    c.links_at-raised_links.ensures c.child-inner.ensures in
    hung_used c.args.slots.now c.requires.rotation c.links_at-links.result c.child-raised.result c.links_at-raised_links.result c.child-inner.result lies values

pub hang-requires : goal.hang-requires
hang-requires g c =
    let lies = laid c.args.slots.now _ _ _ c.requires.rotation c.requires.sound in
    let values = found c.args.slots.now c.requires.rotation c.links_at-links.result c.child-raised.result c.links_at-raised_links.result c.child-inner.result lies
    c.links_at-links.ensures (c.child-raised.ensures ∙ ap (λ side. child_link side c.links_at-links.result) c.other.ensures)
    c.links_at-raised_links.ensures c.child-inner.ensures in
    used_hung c.args.slots.now c.replace_child.new.slots _ _ c.requires.rotation _ _ _ _ lies values c.replace_child.ensures

pub hang-requires-2 : goal.hang-requires-2
hang-requires-2 g c =
    let lies = laid c.args.slots.now _ _ _ c.requires.rotation c.requires.sound in
    let values = found c.args.slots.now c.requires.rotation c.links_at-links.result c.child-raised.result c.links_at-raised_links.result c.child-inner.result lies
    c.links_at-links.ensures (c.child-raised.ensures ∙ ap (λ side. child_link side c.links_at-links.result) c.other.ensures)
    c.links_at-raised_links.ensures c.child-inner.ensures in
    used_lowered c.args.slots.now c.replace_child.new.slots c.hang.new.slots _ _ c.requires.rotation _ _ _ _ _ lies values c.replace_child.ensures c.hang.ensures

pub set_parent-requires : goal.set_parent-requires
set_parent-requires g c =
    let lies = laid c.args.slots.now _ _ _ c.requires.rotation c.requires.sound in
    let values = found c.args.slots.now c.requires.rotation c.links_at-links.result c.child-raised.result c.links_at-raised_links.result c.child-inner.result lies
    c.links_at-links.ensures (c.child-raised.ensures ∙ ap (λ side. child_link side c.links_at-links.result) c.other.ensures)
    c.links_at-raised_links.ensures c.child-inner.ensures in
    used_lifted c.args.slots.now c.replace_child.new.slots c.hang.new.slots c.hang-2.new.slots _ _ c.requires.rotation _ _ _ _ _ _ lies values c.replace_child.ensures
    c.hang.ensures c.hang-2.ensures

pub returns : goal.returns
returns g c = λ rotation first_free free sound.
    let lies = laid c.args.slots.now _ _ _ rotation sound in
    let values = found c.args.slots.now rotation c.links_at-links.result c.child-raised.result c.links_at-raised_links.result c.child-inner.result lies
    c.links_at-links.ensures (c.child-raised.ensures ∙ ap (λ side. child_link side c.links_at-links.result) c.other.ensures)
    c.links_at-raised_links.ensures c.child-inner.ensures in
    sound-rotated c.args.slots.now c.replace_child.new.slots c.hang.new.slots c.hang-2.new.slots c.set_parent.new.slots _ _ first_free free rotation
    c.links_at-links.result c.child-raised.result c.links_at-raised_links.result c.child-inner.result c.other-2.result
    sound values c.replace_child.ensures c.other-2.ensures c.hang.ensures c.hang-2.ensures c.set_parent.ensures
    (c.set_parent.auto.slots ∙ c.hang-2.auto.slots ∙ c.hang.auto.slots ∙ c.replace_child.auto.slots)
