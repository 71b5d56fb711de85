use Rattle.std.proofs.Common.{◌∙◌, sym, ap, Some}
use Rattle.std.proofs.lemmas.Bool.{ltb-true}
use Rattle.std.proofs.lemmas.Option.{slice_get-get_or}
use Rattle.i_tree.specs.Rb.Slots.{tied_links}
use Rattle.i_tree.proofs.RbLemmas.Slots.Reads.{IsSound-view, live_used, none_free}
use Rattle.i_tree.proofs.rb.arena.Arena.has.Goals as goal

pub returns-in-Some-Used : goal.returns-in-Some-Used
returns-in-Some-Used g c =
    let sound = IsSound-view _ _ _ _ _ c.args.self.now c.self.invariant c.self.view_is in
    let read = slice_get-get_or c.deref.result.now c.args.handle c.in-Some-Used.field-0.now (ltb-true _ _ (sym c.in-Some-Used.ensures.lookup.0))
    ∙ ap Some (sym c.in-Some-Used.ensures.lookup.1 ∙ c.in-Some-Used.field-0-is) in
    live_used _ _ _ _ c.args.handle c.args.self.now.shape (tied_links c.in-Some-Used.field-0-0 c.in-Some-Used.field-0-1) c.in-Some-Used.field-0-2 sound (rw c.deref.ensures.value at read)

pub returns-in-Some-Free : goal.returns-in-Some-Free
returns-in-Some-Free g c =
    let sound = IsSound-view _ _ _ _ _ c.args.self.now c.self.invariant c.self.view_is in
    let read = slice_get-get_or c.deref.result.now c.args.handle c.in-Some-Free.field-0.now (ltb-true _ _ (sym c.in-Some-Free.ensures.lookup.0))
    ∙ ap Some (sym c.in-Some-Free.ensures.lookup.1 ∙ c.in-Some-Free.field-0-is) in
    none_free _ _ _ _ c.args.handle c.in-Some-Free.field-0-0 c.args.self.now.shape sound (rw c.deref.ensures.value at read)
