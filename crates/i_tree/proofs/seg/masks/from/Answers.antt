use Rattle.std.proofs.Common.{◌≡◌, ℕ, true, leb, nat_eq, get_or, refl}
use Rattle.i_tree.specs.declared.seg.masks.TheConstants.{FROM}
use Rattle.i_tree.specs.Seg.Nodes.{covered, mask_below, nodes_where}
use Rattle.i_tree.proofs.SegLemmas.Tests.{every_below, word_is}
use Rattle.i_tree.proofs.seg.masks.from.Goals as goal

words_right : every_below 32 (λ bucket. nat_eq (get_or FROM bucket 0) (nodes_where (λ node. leb bucket (covered node).first))) ≡ true
unfolding every_below nodes_where mask_below covered
words_right = refl

pub returns : goal.returns
returns c = word_is FROM (λ (bucket : ℕ). nodes_where (λ node. leb bucket (covered node).first)) words_right c.args.bucket c.requires
