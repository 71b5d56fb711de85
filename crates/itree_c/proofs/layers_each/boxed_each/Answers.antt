use Rattle.std.proofs.Common.{ℕ, List, length, ap, sym, ◌∙◌}
use Rattle.std.proofs.lemmas.List.{length-map}
use Rattle.layers.specs.Shapes.{lists_of}
use Rattle.layers.proofs.ListLemmas.{length-lists_of}
use Rattle.itree_c.proofs.LayerLemmas.{length-appended}
use Rattle.itree_c.proofs.layers_each.boxed_each.Goals as goal

-- there is one end for each group
pub copy_from_slice-requires : goal.copy_from_slice-requires
copy_from_slice-requires c =
    let (each, are, appended, ends_are) = c.in_ok-overlay_each.ensures.ok in
    let groups = c.args.subject.groups in
    c.requires
    ∙ sym (length-map (lists_of groups.places.now 0 groups.ends.now) _ ∙ length-lists_of groups.places.now 0 groups.ends.now)
    ∙ sym are.as_many
    ∙ sym (length-appended each c.new-found.result.items _ _ c.new-found.ensures.items ends_are)
    ∙ sym (ap (λ (ends : List ℕ). length ends) c.deref.ensures.value)
