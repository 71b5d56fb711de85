use Rattle.std.proofs.Common.{◌≡◌, ◌≢◌, ◌≤◌, length, sym, subst}
use Rattle.std.specs.List.Sorted.{IsPartitionPoint}
use Rattle.std.specs.declared.cmp.Ordering.TheVariants.{Less}
use Rattle.i_tree.proofs.KeyLemmas.ListInsertion.{rising_put}
use Rattle.i_tree.specs.Root.Pairs.{IsRising, NoKey}
use Rattle.i_tree.proofs.key.list.KeyExpList.put.Goals as goal

rising : (g : _) (c : goal.After-put g) → IsRising g.K.Ord.cmp c.put.new.self.pairs
rising g c =
    rising_put g.met.K.Ord.total c.self.inside.held c.put.new.self (c.args.key, c.args.val) c.args.place c.put.result c.put.ensures.ok c.put.ensures.err c.self.invariant
    (subst (λ list. IsPartitionPoint (λ (pair : g.row.K.Denot × g.row.V.Denot). g.K.Ord.cmp pair.0 c.args.key ≡ Less) (λ pair. g.K.Ord.cmp pair.0 c.args.key ≢ Less) list.pairs c.args.place) (sym c.self.view_is) c.requires.splits)
    (subst (λ list. c.args.place ≤ length list.pairs) (sym c.self.view_is) c.requires.within) (subst (λ list. NoKey g.K.Ord.cmp list.pairs c.args.key) (sym c.self.view_is) c.requires.free)

pub returns-clause-rising : goal.returns-clause-rising
returns-clause-rising g c = rising g c

pub invariant_of-self : goal.invariant_of-self
invariant_of-self g c = rising g c
