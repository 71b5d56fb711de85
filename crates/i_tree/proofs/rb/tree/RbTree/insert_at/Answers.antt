use Rattle.std.proofs.Common.{refl, ap}
use Rattle.std.proofs.lemmas.Result.{IfOk-weaker}
use Rattle.i_tree.proofs.RbLemmas.SearchPath.Insertion.{joined_below, joined_root}
use Rattle.i_tree.specs.Rb.Shape.{entries}
use Rattle.i_tree.proofs.RootLemmas.Counts.{OnlyRotates-none}
use Rattle.i_tree.proofs.rb.tree.RbTree.insert_at.Goals as goal

pub returns-in-Below-clause-joins : goal.returns-in-Below-clause-joins
returns-in-Below-clause-joins g c =
    IfOk-weaker c.insert_on.result _ _ (λ handle. joined_below c.args.self.now.shape c.args.place (entries c.args.self.now.shape) (entries c.insert_on.new.self.shape) refl handle c.args.item c.in-Below.parent c.in-Below.side c.in-Below.is) c.insert_on.ensures.entries

pub returns-in-Root-clause-joins : goal.returns-in-Root-clause-joins
returns-in-Root-clause-joins g c =
    IfOk-weaker c.insert_root.result _ _ (λ handle is. joined_root c.args.self.now.shape c.args.place (entries c.args.self.now.shape) (entries c.insert_root.new.self.shape) refl handle c.args.item c.in-Root.is (ap entries is)) c.insert_root.ensures.shape

pub returns-in-Root-clause-steps : goal.returns-in-Root-clause-steps
returns-in-Root-clause-steps g c = rw c.insert_root.ensures.steps (OnlyRotates-none g.met.C.Counter.law c.args.steps.now 2)
