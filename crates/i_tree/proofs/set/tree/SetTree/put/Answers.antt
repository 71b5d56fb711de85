use Rattle.std.proofs.Common.{◌++◌, ◌∷◌, sym, subst, ◌∙◌}
use Rattle.i_tree.proofs.RbLemmas.SearchPath.Insertion.{below_joined}
use Rattle.i_tree.proofs.SetLemmas.Search.{below_from_ordered, ordered_from_below}
use Rattle.i_tree.proofs.SetLemmas.Live.{HasHandle-joined}
use Rattle.i_tree.specs.Rb.Place.{IsPlaceBetween, place_below}
use Rattle.i_tree.specs.Rb.RbTree.{Contents}
use Rattle.i_tree.specs.Set.Pairs.{HasHandle, IsOrdered}
use Rattle.i_tree.specs.Rb.Shape.{entries}
use Rattle.i_tree.proofs.set.tree.SetTree.put.Goals as goal

pub returns-clause-in_order : goal.returns-clause-in_order
returns-clause-in_order g c =
    let total = g.met.K.Ord.total in
    let key_of = g.V.KeyValue.key_of in
    let cmp = g.K.Ord.cmp in
    let found = c.requires.place in
    let below = below_from_ordered key_of total (found.0 ++ found.1) (subst (IsOrdered key_of cmp) found.2.cut c.requires.in_order) in
    let between = subst (λ (contents : Contents g.row.V.Denot). IsPlaceBetween contents.shape found.0 found.1 (place_below c.args.ended.above c.args.ended.on_right)) (sym c.self.view_is) found.2 in
    let joined = c.in_ok-insert_at.ensures.joins found.0 found.1 (rw c.place_below.ensures between) in
    subst (IsOrdered key_of cmp) (sym joined)
    (ordered_from_below key_of total (found.0 ++ (c.in_ok-insert_at.field-0, c.args.val) ∷ found.1) (below_joined key_of total found.0 c.in_ok-insert_at.field-0 c.args.val found.1 below (found.3, found.4)))

pub returns-clause-keeps : goal.returns-clause-keeps
returns-clause-keeps g c =
    let found = c.requires.place in
    let between = subst (λ (contents : Contents g.row.V.Denot). IsPlaceBetween contents.shape found.0 found.1 (place_below c.args.ended.above c.args.ended.on_right)) (sym c.self.view_is) found.2 in
    let joined = c.in_ok-insert_at.ensures.joins found.0 found.1 (rw c.place_below.ensures between) in
    HasHandle-joined (entries c.args.self.now.shape) (entries c.insert_at.new.self.shape) found.0 found.1 (c.in_ok-insert_at.field-0, c.args.val) found.2.cut joined

pub returns-in_err-insert_at-clause-keeps : goal.returns-in_err-insert_at-clause-keeps
returns-in_err-insert_at-clause-keeps g c handle has =
    subst (λ (contents : Contents g.row.V.Denot). HasHandle (entries contents.shape) handle) (sym (c.in_err-insert_at.ensures.takes.err ∙ c.self.view_is)) has
