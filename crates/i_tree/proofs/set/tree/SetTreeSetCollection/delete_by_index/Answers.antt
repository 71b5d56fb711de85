use Rattle.std.proofs.Common.{◌≡◌, ◌+◌, ◌++◌, ◌∷◌, ℕ, List, sym, ap, ◌∙◌, subst, arith}
use Rattle.i_tree.proofs.RbLemmas.SearchPath.Entries.{values-LosesAt}
use Rattle.i_tree.proofs.SetLemmas.Handles.{AreApart-from_handles}
use Rattle.i_tree.proofs.SetLemmas.Live.{IsOrdered-loses, length-loses}
use Rattle.i_tree.proofs.SetLemmas.LiveHandles.{live-HasHandle}
use Rattle.i_tree.specs.Rb.RbTree.{Contents, slots}
use Rattle.i_tree.specs.Rb.Removal.{LosesAt}
use Rattle.i_tree.specs.Rb.Shape.{entries}
use Rattle.i_tree.specs.Set.Pairs.{HasHandle}
use Rattle.i_tree.proofs.set.tree.SetTreeSetCollection.delete_by_index.Goals as goal

pub remove-requires : goal.remove-requires
remove-requires g c =
    live-HasHandle c.args.index c.self.inside.core.shape
    (subst (λ (contents : Contents g.row.V.Denot). HasHandle (entries contents.shape) c.args.index) (sym c.self.view_is) c.requires)

loses : (g : _) (c : goal.After-drop-remove g) (front : List (ℕ × g.row.V.Denot)) (value : g.row.V.Denot) (back : List (ℕ × g.row.V.Denot)) → entries c.args.self.now.shape ≡ front ++ (c.args.index, value) ∷ back → LosesAt c.args.index front back (entries c.remove.new.self.shape)
loses g c front value back is =
    (c.remove.ensures.list front value back (ap (λ (contents : Contents g.row.V.Denot). entries contents.shape) c.self.view_is ∙ is)).1

pub returns-clause-value : goal.returns-clause-value
returns-clause-value g c front value back is = values-LosesAt c.args.index front back (entries c.remove.new.self.shape) (loses g c front value back is)

freed : (g : _) (c : goal.After-drop-remove g) → c.remove.new.self.spare ≡ c.args.self.now.spare + 1
freed g c = c.remove.ensures.spare ∙ ap (λ (contents : Contents g.row.V.Denot). contents.spare + 1) c.self.view_is

same_slots : (g : _) (c : goal.After-drop-remove g) → slots c.remove.new.self ≡ slots c.args.self.now
same_slots g c =
    let less = length-loses (entries c.args.self.now.shape) (entries c.remove.new.self.shape) c.args.index c.requires (returns-clause-value g c) in
    omega (arith, less, freed g c)

pub returns-clause-deletes : goal.returns-clause-deletes
returns-clause-deletes g c = record { loses = loses g c; core = c.remove.ensures.core; spare = freed g c; slots = same_slots g c }

pub returns-clause-room : goal.returns-clause-room
returns-clause-room g c = omega (arith, same_slots g c)

pub returns-clause-in_order : goal.returns-clause-in_order
returns-clause-in_order g c =
    IsOrdered-loses g.V.KeyValue.key_of g.K.Ord.cmp g.met.K.Ord.total (entries c.args.self.now.shape) (entries c.remove.new.self.shape) c.args.index c.requires (returns-clause-value g c)

pub returns-clause-handles : goal.returns-clause-handles
returns-clause-handles g c = AreApart-from_handles c.remove.new.self.shape c.remove.ensures.core.handles
