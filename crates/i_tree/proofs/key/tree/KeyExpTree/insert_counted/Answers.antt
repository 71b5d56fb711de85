use Rattle.std.proofs.Common.{◌≡◌, true, is_some, if◌then◌else◌, sym, ap, ◌∙◌}
use Rattle.std.specs.Ordering.{is_lt}
use Rattle.std.specs.declared.cmp.Ordering.TheVariants.{Less, Greater}
use Rattle.i_tree.proofs.KeyLemmas.Insertion.{gains_between, none_equal, rising_absent, true_unless}
use Rattle.i_tree.proofs.KeyLemmas.Search.{below-passes}
use Rattle.i_tree.specs.Expiring.Insertion.{JoinsBetween}
use Rattle.i_tree.specs.Expiring.Tree.{items}
use Rattle.i_tree.specs.Rb.RbTree.{slots}
use Rattle.i_tree.specs.Root.Live.{is_live}
use Rattle.i_tree.specs.Root.Pairs.{IsRising}
use Rattle.i_tree.proofs.key.tree.KeyExpTree.insert_counted.Goals as goal

-- none is called Equal, so the pair has joined
joined : (g : _) (c : goal.In_default g) → is_some c.in_default.field-0 ≡ true
joined g c =
    true_unless (is_some c.in_default.field-0)
    (λ is_false. none_equal g.K.Ord.cmp c.args.key (is_live g.K.ExpiredKey.expiration g.E.Ord.cmp c.args.time) (items c.insert_between.new.core.shape) ((c.in_default.ensures).pairs.equal is_false))

joins : (g : _) (c : goal.In_default g) → JoinsBetween (is_live g.K.ExpiredKey.expiration g.E.Ord.cmp c.args.time) (λ other answer. answer ≡ (if is_lt (g.K.Ord.cmp other c.args.key) then Less else Greater)) (c.args.key, c.args.val)
    (items c.self.inside.core.shape) (items c.insert_between.new.core.shape)
joins g c = rw (joined g c) at (c.in_default.ensures).pairs.joins

rising : (g : _) (c : goal.In_default g) → IsRising g.K.Ord.cmp (items c.insert_between.new.core.shape)
rising g c =
    rising_absent g.met.K.Ord.total c.args.key (is_live g.K.ExpiredKey.expiration g.E.Ord.cmp c.args.time) c.args.val (items c.self.inside.core.shape) (items c.insert_between.new.core.shape) c.self.invariant
    (rw c.self.view_is c.requires) (joins g c)

pub returns-clause-ok : goal.returns-clause-ok
returns-clause-ok g c =
    rw (← c.self.view_is)
    (gains_between g.met.K.Ord.total c.args.key (is_live g.K.ExpiredKey.expiration g.E.Ord.cmp c.args.time) _ c.args.val (items c.self.inside.core.shape) (items c.insert_between.new.core.shape) (joins g c))

pub returns-clause-rising : goal.returns-clause-rising
returns-clause-rising g c = rising g c

pub invariant_of-self-2 : goal.invariant_of-self-2
invariant_of-self-2 g c = rising g c

pub returns-clause-slots : goal.returns-clause-slots
returns-clause-slots g c = rw (← c.self.view_is) (rw (joined g c) at (c.in_default.ensures).inserts.slots)

pub returns-clause-steps : goal.returns-clause-steps
returns-clause-steps g c = rw (← c.self.view_is) (rw (joined g c) at (c.in_default.ensures).steps)

pub returns-clause-full : goal.returns-clause-full
returns-clause-full g c none full all =
    let refused = (c.in_default.ensures).inserts.full (ap (λ contents. contents.spare) c.self.view_is ∙ none) (ap slots c.self.view_is ∙ full) (λ other. is_lt (g.K.Ord.cmp other c.args.key))
    (λ other answer says. rw says (below-passes (is_lt (g.K.Ord.cmp other c.args.key)))) (rw c.self.view_is all) in
    sym refused ∙ joined g c

pub returns-in-Err-clause-err_way : goal.returns-in-Err-clause-err_way
returns-in-Err-clause-err_way g c =
    rw (← c.self.view_is)
    ((c.in-Err.ensures).inserts.err_way (λ other. is_lt (g.K.Ord.cmp other c.args.key)) (λ other answer says. rw says (below-passes (is_lt (g.K.Ord.cmp other c.args.key)))))
