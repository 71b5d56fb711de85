use Rattle.std.proofs.Common.{◌≡◌, ℕ, true, leb, nat_eq, get_or, refl}
use Rattle.i_tree.specs.declared.seg.masks.TheConstants.{PUPTO}
use Rattle.i_tree.specs.Seg.Nodes.{covered, mask_below, nodes_where, parent_passes}
use Rattle.i_tree.proofs.SegLemmas.Tests.{every_below, word_is}
use Rattle.i_tree.proofs.seg.masks.parent_up_to.Goals as goal

words_right : every_below 32 (λ bucket. nat_eq (get_or PUPTO bucket 0) (nodes_where (parent_passes (λ node. leb (covered node).last bucket)))) ≡ true
unfolding every_below nodes_where mask_below covered
words_right = refl

pub returns : goal.returns
returns c = word_is PUPTO (λ (bucket : ℕ). nodes_where (parent_passes (λ node. leb (covered node).last bucket))) words_right c.args.bucket c.requires
