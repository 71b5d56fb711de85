use Rattle.std.proofs.Common.{◌∙◌, ap, sym, Some}
use Rattle.std.proofs.lemmas.Option.{slice_get-get_or}
use Rattle.i_tree.specs.Rb.Slots.{tied_links}
use Rattle.i_tree.proofs.RbLemmas.Slots.Writes.{IsUsed-within, not_free}
use Rattle.i_tree.proofs.RbLemmas.Slots.Reads.{IsSound-view, IsUsed-sound, item_at}
use Rattle.i_tree.proofs.rb.arena.Arena.item.Goals as goal

pub unreachable-requires : goal.unreachable-requires
unreachable-requires g c =
    let sound = IsSound-view _ _ _ _ _ c.args.self.now c.self.invariant c.self.view_is in
    let used = IsUsed-sound _ _ _ _ c.args.handle c.args.self.now.shape sound c.requires in
    not_free c.self.inside.slots.items c.args.handle c.in-Free.field-0 used
    (slice_get-get_or c.self.inside.slots.items c.args.handle c.index.result.now (IsUsed-within _ _ used) ∙ ap Some (sym c.index.ensures ∙ c.in-Free.is))

pub returns : goal.returns
returns g c = λ around colour before item after is.
    let sound = IsSound-view _ _ _ _ _ c.args.self.now c.self.invariant c.self.view_is in
    let used = IsUsed-sound _ _ _ _ c.args.handle c.args.self.now.shape sound c.requires in
    item_at _ _ _ _ c.args.handle c.args.self.now.shape (tied_links c.in-Used.field-0 c.in-Used.field-1) c.in-Used.item around colour before item after sound
    (slice_get-get_or c.self.inside.slots.items c.args.handle c.index.result.now (IsUsed-within _ _ used) ∙ ap Some (sym c.index.ensures ∙ c.in-Used.is))
    is
