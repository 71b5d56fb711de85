use Rattle.std.proofs.Common.{◌≢◌, length, subst}
use Rattle.std.specs.List.{All}
use Rattle.std.specs.declared.cmp.Ordering.TheVariants.{Equal}
use Rattle.i_tree.proofs.RbLemmas.SearchPath.Counts.{searches_rotation}
use Rattle.i_tree.proofs.RbLemmas.SearchPath.Insertion.{IsLower, IsHigher}
use Rattle.i_tree.proofs.SetLemmas.Live.{key_apart}
use Rattle.i_tree.specs.Rb.Shape.{entries}
use Rattle.i_tree.specs.Set.Pairs.{HoldsKey}
use Rattle.i_tree.proofs.set.tree.SetTree.insert_counted.Goals as goal

pub put-requires : goal.put-requires
put-requires g c =
    let key_of = g.V.KeyValue.key_of in
    let total = g.met.K.Ord.total in
    let pairs = entries c.args.self.now.shape in
    let apart : c.search_key-ended.result.said ≢ Equal =
    λ equal. key_apart key_of g.K.Ord.cmp (key_of c.args.val) pairs (subst (HoldsKey key_of g.K.Ord.cmp pairs) c.key.ensures (c.search_key-ended.ensures.present equal)) c.requires.absent in
    let found = c.search_key-ended.ensures.place apart in
    record {
      in_order = c.requires.in_order;
      place = (found.0, found.1, found.2, subst (λ key. All (IsLower key_of total key) found.0) c.key.ensures found.3, subst (λ key. All (IsHigher key_of total key) found.1) c.key.ensures found.4);
    }

pub returns-clause-steps : goal.returns-clause-steps
returns-clause-steps g c =
    searches_rotation g.met.C.Counter.law c.args.steps.now c.search_key-ended.new.steps c.put.new.steps (length (entries c.args.self.now.shape)) 2 c.search_key-ended.ensures.steps c.put.ensures.steps
