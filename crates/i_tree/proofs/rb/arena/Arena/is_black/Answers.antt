use Rattle.std.proofs.Common.{◌≡◌, ◌∙◌, sym, refl, eq-eqb}
use Rattle.i_tree.specs.contracts.rb.links.Colour.{the_type}
use denote.Enum.Bare.{sameb}
use Rattle.i_tree.specs.declared.rb.links.Colour.{Colour}
use Rattle.i_tree.specs.declared.rb.links.Colour.TheVariants.{Red, Black}
use Rattle.i_tree.specs.Rb.Balance.{is_black_colour}
use Rattle.i_tree.proofs.RbLemmas.Slots.Layout.{AreHandles-sound}
use Rattle.i_tree.proofs.RbLemmas.Slots.Reads.{IsSound-view, IsUsed-sound, black_at_none, top_links}
use Rattle.i_tree.proofs.rb.arena.Arena.is_black.Goals as goal

same_as_black : (colour : Colour) → sameb the_type colour Black ≡ is_black_colour colour
same_as_black Red = refl
same_as_black Black = refl

pub links_at-requires : goal.links_at-requires
links_at-requires g c =
    let sound = IsSound-view _ _ _ _ _ c.args.self.now c.self.invariant c.self.view_is in
    rw c.deref.ensures.value (IsUsed-sound _ _ _ _ c.args.handle c.args.self.now.shape sound (c.requires c.if-handle-eq-EMPTY_REF.false))

pub returns-then-handle-eq-EMPTY_REF-clause-value :
    goal.returns-then-handle-eq-EMPTY_REF-clause-value
returns-then-handle-eq-EMPTY_REF-clause-value g c = λ around subtree is here.
    let sound = IsSound-view _ _ _ _ _ c.args.self.now c.self.invariant c.self.view_is in
    eq-eqb c.args.handle 4294967295 c.if-handle-eq-EMPTY_REF.true
    ∙ sym (black_at_none c.args.self.now.shape around subtree c.args.handle (AreHandles-sound _ _ _ _ _ sound) c.if-handle-eq-EMPTY_REF.true is here)

pub returns-else-handle-eq-EMPTY_REF-clause-value :
    goal.returns-else-handle-eq-EMPTY_REF-clause-value
returns-else-handle-eq-EMPTY_REF-clause-value g c = λ around subtree is here.
    let sound = IsSound-view _ _ _ _ _ c.args.self.now c.self.invariant c.self.view_is in
    c.eq.ensures ∙ same_as_black c.links_at.result.colour
    ∙ (top_links _ _ _ _ c.args.handle c.args.self.now.shape c.links_at.result around subtree sound (c.requires c.if-handle-eq-EMPTY_REF.false)
    (rw c.deref.ensures.value at c.links_at.ensures) is here).1
