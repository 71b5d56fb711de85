use Rattle.std.proofs.Common.{◌≡◌, ℕ, length, sym, ap, ◌∙◌, subst}
use Rattle.std.specs.Bool.{MatchBool}
use Rattle.std.specs.List.{All}
use Rattle.i_tree.proofs.RbLemmas.SearchPath.Insertion.{IsLower, IsHigher}
use Rattle.i_tree.proofs.RbLemmas.Shape.SubtreeHandles.{live_from_cut, value_at}
use Rattle.i_tree.proofs.RbLemmas.SearchPath.Counts.{searches_at, searches_past}
use Rattle.i_tree.proofs.RbLemmas.SearchPath.Search.{keys_around, found_equal, equal_from, not_equal_from}
use Rattle.i_tree.proofs.ExpiringLemmas.SearchPath.{length-items}
use Rattle.i_tree.proofs.KeyLemmas.Lookup.{absent_between, below_of_items, cases_equal, missing_between, not_both, stored_equal}
use Rattle.i_tree.specs.Root.Descent.{SearchesFor}
use Rattle.i_tree.specs.Expiring.Tree.{items}
use Rattle.i_tree.specs.Expiring.Live.{live_pairs}
use Rattle.i_tree.specs.Root.Live.{is_live}
use Rattle.i_tree.specs.Root.Pairs.{HasKey, NoKey}
use Rattle.i_tree.specs.Rb.RbTree.{Contents}
use Rattle.i_tree.specs.Rb.Place.{place_below}
use Rattle.i_tree.specs.Rb.Shape.{entries}
use Rattle.i_tree.proofs.key.tree.KeyExpTree.contains_key_counted.Goals as goal

-- no key on the search path was called Equal, so the keys on both sides of its end are around this one
around : (g : _) (c : goal.Then-not-is_eq g) → All (IsLower (λ (pair : (g.row.K.Denot × g.row.V.Denot)). pair.0) g.met.K.Ord.total c.args.key) c.search_down-ended.ensures.end.front × All (IsHigher (λ (pair : (g.row.K.Denot × g.row.V.Denot)). pair.0) g.met.K.Ord.total c.args.key) c.search_down-ended.ensures.end.back
around g c =
    let tree = c.self.inside.core.shape in
    let ended = c.search_down-ended.result in
    keys_around (λ (pair : (g.row.K.Denot × g.row.V.Denot)). pair.0) g.met.K.Ord.total c.args.key tree (place_below ended.above ended.on_right) ended.found ended.said _ c.search_down-ended.ensures.end
    (λ pair answer says. says.says.met ∙ ap (λ (other : (g.row.K.Denot × g.row.V.Denot)). g.K.Ord.cmp other.0 c.args.key) says.shows)
    (λ _. Unit {0}) (λ _ _ _. not_equal_from ended.said (sym c.is_eq.ensures ∙ c.if-not-is_eq.true)) (below_of_items g.met.K.Ord.total c.args.key tree c.self.invariant) (λ k d within. tt)

pub returns-then-not-is_eq-clause-cases : goal.returns-then-not-is_eq-clause-cases
returns-then-not-is_eq-clause-cases g c =
    let end = c.search_down-ended.ensures.end in
    subst (λ (contents : Contents (g.row.K.Denot × g.row.V.Denot)). NoKey g.K.Ord.cmp (live_pairs g.K.ExpiredKey.expiration g.E.Ord.cmp c.args.time (items contents.shape)) c.args.key) c.self.view_is
    (absent_between g.met.K.Ord.total c.args.key (λ (pair : (g.row.K.Denot × g.row.V.Denot)). is_live g.K.ExpiredKey.expiration g.E.Ord.cmp c.args.time pair.0) c.self.inside.core.shape end.front end.back end.between.cut (around g c))

pub returns-then-not-is_eq-clause-steps : goal.returns-then-not-is_eq-clause-steps
returns-then-not-is_eq-clause-steps g c =
    let tree = c.self.inside.core.shape in
    let end = c.search_down-ended.ensures.end in
    let missing = missing_between g.met.K.Ord.total c.args.key tree end.front end.back end.between.cut (around g c) in
    subst (λ (contents : Contents (g.row.K.Denot × g.row.V.Denot)). SearchesFor g.C.Counter.made c.args.steps.now c.search_down-ended.new.steps (length (items contents.shape)) (HasKey g.K.Ord.cmp (items contents.shape) c.args.key) (NoKey g.K.Ord.cmp (items contents.shape) c.args.key)) c.self.view_is
    (subst (λ (count : ℕ). SearchesFor g.C.Counter.made c.args.steps.now c.search_down-ended.new.steps count (HasKey g.K.Ord.cmp (items tree) c.args.key) (NoKey g.K.Ord.cmp (items tree) c.args.key)) (sym (length-items tree))
    (searches_past c.args.steps.now c.search_down-ended.new.steps (length (entries tree)) (λ stored. not_both g.K.Ord.cmp (items tree) c.args.key stored missing) c.search_down-ended.ensures.steps))

pub item-requires : goal.item-requires
item-requires g c =
    let ended = c.search_down-ended.result in
    let at = found_equal (λ (pair : g.row.K.Denot × g.row.V.Denot). pair.0) g.met.K.Ord.total c.args.key c.self.inside.core.shape (place_below ended.above ended.on_right) ended.found ended.said _ c.search_down-ended.ensures.end
    (λ pair answer says. says.says.met ∙ ap (λ (other : g.row.K.Denot × g.row.V.Denot). g.K.Ord.cmp other.0 c.args.key) says.shows)
    (equal_from ended.said (sym c.is_eq.ensures ∙ c.if-not-is_eq.false)) in
    live_from_cut ended.found c.self.inside.core.shape at.0 at.1 at.2 at.3

pub returns-clause-cases : goal.returns-clause-cases
returns-clause-cases g c =
    let tree = c.self.inside.core.shape in
    let ended = c.search_down-ended.result in
    let at = found_equal (λ (pair : g.row.K.Denot × g.row.V.Denot). pair.0) g.met.K.Ord.total c.args.key tree (place_below ended.above ended.on_right) ended.found ended.said _ c.search_down-ended.ensures.end
    (λ pair answer says. says.says.met ∙ ap (λ (other : g.row.K.Denot × g.row.V.Denot). g.K.Ord.cmp other.0 c.args.key) says.shows)
    (equal_from ended.said (sym c.is_eq.ensures ∙ c.if-not-is_eq.false)) in
    let held : c.item.result.now ≡ at.1 = value_at ended.found tree c.item.result.now (c.item.ensures.core.handles.apart ended.found) (live_from_cut ended.found tree at.0 at.1 at.2 at.3) c.item.ensures.value at.0 at.1 at.2 at.3 in
    subst (λ (contents : Contents (g.row.K.Denot × g.row.V.Denot)). MatchBool c.is_live.result (HasKey g.K.Ord.cmp (live_pairs g.K.ExpiredKey.expiration g.E.Ord.cmp c.args.time (items contents.shape)) c.args.key) (NoKey g.K.Ord.cmp (live_pairs g.K.ExpiredKey.expiration g.E.Ord.cmp c.args.time (items contents.shape)) c.args.key))
    c.self.view_is
    (cases_equal g.met.K.Ord.total c.args.key g.K.ExpiredKey.expiration g.E.Ord.cmp c.args.time tree at.0 (ended.found, at.1) at.2 at.3 c.self.invariant at.4 c.is_live.result
    (c.is_live.ensures ∙ ap (λ (pair : g.row.K.Denot × g.row.V.Denot). is_live g.K.ExpiredKey.expiration g.E.Ord.cmp c.args.time pair.0) held))

pub returns-clause-steps : goal.returns-clause-steps
returns-clause-steps g c =
    let tree = c.self.inside.core.shape in
    let ended = c.search_down-ended.result in
    let at = found_equal (λ (pair : (g.row.K.Denot × g.row.V.Denot)). pair.0) g.met.K.Ord.total c.args.key tree (place_below ended.above ended.on_right) ended.found ended.said _ c.search_down-ended.ensures.end
    (λ pair answer says. says.says.met ∙ ap (λ (other : (g.row.K.Denot × g.row.V.Denot)). g.K.Ord.cmp other.0 c.args.key) says.shows)
    (equal_from ended.said (sym c.is_eq.ensures ∙ c.if-not-is_eq.false)) in
    let stored = stored_equal g.met.K.Ord.total c.args.key g.K.ExpiredKey.expiration g.E.Ord.cmp c.args.time tree at.0 (ended.found, at.1) at.2 at.3 c.self.invariant at.4 in
    subst (λ (contents : Contents (g.row.K.Denot × g.row.V.Denot)). SearchesFor g.C.Counter.made c.args.steps.now c.add_test.new.self (length (items contents.shape)) (HasKey g.K.Ord.cmp (items contents.shape) c.args.key) (NoKey g.K.Ord.cmp (items contents.shape) c.args.key)) c.self.view_is
    (subst (λ (count : ℕ). SearchesFor g.C.Counter.made c.args.steps.now c.add_test.new.self count (HasKey g.K.Ord.cmp (items tree) c.args.key) (NoKey g.K.Ord.cmp (items tree) c.args.key)) (sym (length-items tree))
    (searches_at g.met.C.Counter.law c.args.steps.now c.search_down-ended.new.steps c.add_test.new.self (length (entries tree)) (λ missing. not_both g.K.Ord.cmp (items tree) c.args.key stored missing) c.search_down-ended.ensures.steps c.add_test.ensures))
