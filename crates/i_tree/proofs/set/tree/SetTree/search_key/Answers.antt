use Rattle.std.specs.Bool.{⊤}
use Rattle.std.proofs.Common.{◌≢◌, ℕ, ap, ◌∙◌, subst}
use Rattle.std.specs.List.{All}
use Rattle.std.specs.declared.cmp.Ordering.TheVariants.{Equal}
use Rattle.i_tree.proofs.RbLemmas.SearchPath.Insertion.{IsLower, IsHigher}
use Rattle.i_tree.proofs.RbLemmas.SearchPath.Search.{found_equal, keys_around}
use Rattle.i_tree.proofs.SetLemmas.Live.{HoldsKey-cut, LacksKey-between}
use Rattle.i_tree.proofs.SetLemmas.Search.{below_from_ordered}
use Rattle.i_tree.specs.Rb.Place.{IsPlaceBetween, place_below}
use Rattle.i_tree.specs.Rb.RbTree.{Contents}
use Rattle.i_tree.specs.Rb.Shape.{entries}
use Rattle.i_tree.proofs.set.tree.SetTree.search_key.Goals as goal

-- where the search has not ended behind the key, the keys in front of its place are below it and those behind above
around : (g : _) (c : goal.After-search_down g) → c.search_down.result.said ≢ Equal
    → All (IsLower g.V.KeyValue.key_of g.met.K.Ord.total c.args.key.now) c.search_down.ensures.end.front
    × All (IsHigher g.V.KeyValue.key_of g.met.K.Ord.total c.args.key.now) c.search_down.ensures.end.back
around g c apart =
    let key_of = g.V.KeyValue.key_of in
    let total = g.met.K.Ord.total in
    let key = c.args.key.now in
    let tree = c.self.inside.core.shape in
    let ended = c.search_down.result in
    keys_around key_of total key tree (place_below ended.above ended.on_right) ended.found ended.said _ c.search_down.ensures.end
    (λ value answer says. says.says.met ∙ ap (λ (other : g.row.V.Denot). g.K.Ord.cmp (key_of other) key) says.shows)
    (λ (pair : ℕ × g.row.V.Denot). ⊤) (λ pair _ _. apart)
    (below_from_ordered key_of total (entries tree) (rw c.self.view_is c.requires)) (λ k d within. tt)

pub returns-clause-present : goal.returns-clause-present
returns-clause-present g c equal =
    let key_of = g.V.KeyValue.key_of in
    let key = c.args.key.now in
    let tree = c.self.inside.core.shape in
    let ended = c.search_down.result in
    let (front, item, back, cut, level) =
    found_equal key_of g.met.K.Ord.total key tree (place_below ended.above ended.on_right) ended.found ended.said _ c.search_down.ensures.end
    (λ value answer says. says.says.met ∙ ap (λ (other : g.row.V.Denot). g.K.Ord.cmp (key_of other) key) says.shows) equal in
    rw (← c.self.view_is) (HoldsKey-cut key_of g.K.Ord.cmp key (entries tree) front ended.found item back cut level)

pub returns-clause-absent : goal.returns-clause-absent
returns-clause-absent g c apart =
    let end = c.search_down.ensures.end in
    let found = around g c apart in
    rw (← c.self.view_is)
    (LacksKey-between g.V.KeyValue.key_of g.K.Ord.cmp g.met.K.Ord.total c.args.key.now (entries c.self.inside.core.shape) end.front end.back end.between.cut found.0 found.1)

pub returns-clause-place : goal.returns-clause-place
returns-clause-place g c apart =
    let end = c.search_down.ensures.end in
    let ended = c.search_down.result in
    let found = around g c apart in
    (end.front, end.back, subst (λ (contents : Contents g.row.V.Denot). IsPlaceBetween contents.shape end.front end.back (place_below ended.above ended.on_right)) c.self.view_is end.between, found.0, found.1)
