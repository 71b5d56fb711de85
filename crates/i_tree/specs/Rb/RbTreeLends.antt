-- What the tree ends as, where a `&mut` to one of its items is returned.
use Rattle.std.specs.Prelude.{ℕ}
use Rattle.std.specs.Borrow.{Lends, Fml, RattleType, MutBor}
use Rattle.std.specs.declared.alloc.Allocator.{Ghosts}
use Rattle.i_tree.specs.Rb.RbTree.{Contents, contents_with_item}
use Rattle.i_tree.specs.contracts.rb.tree.RbTree.{the_row}

module _ (T A : RattleType) (alloc : Ghosts A.Denot) (s : MutBor (Contents T.Denot)) (handle : ℕ) where
  -- once the borrow r ends, the handle has the last item written through r
  abbrev pub lends_item : MutBor T.Denot → Fml
  lends_item r = Lends (the_row T A alloc) T s r (contents_with_item handle s.now)
