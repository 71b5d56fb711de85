use Rattle.std.proofs.Common.{refl}
use Rattle.i_tree.proofs.RbLemmas.Slots.Layout.{read_sound}
use Rattle.i_tree.proofs.RbLemmas.Slots.Writes.{IsSound-read}
use Rattle.i_tree.proofs.RbLemmas.Slots.Reads.{IsSound-view}
use Rattle.i_tree.proofs.RbLemmas.Slots.ItemWrites.{sound-lent, used_lent, item_lent, contents_lent}
use Rattle.i_tree.proofs.rb.arena.Arena.item_mut.Goals as goal

pub item_mut-requires : goal.item_mut-requires
item_mut-requires g c =
    let sound = IsSound-view _ _ _ _ _ c.args.self.now c.self.invariant c.self.view_is in
    used_lent _ _ _ _ c.args.handle c.index_mut.result.now c.args.self.now.shape sound c.requires c.index_mut.ensures.value

pub invariant_of-self-lent : goal.invariant_of-self-lent
invariant_of-self-lent g c = λ w.
    let sound = IsSound-view _ _ _ _ _ c.args.self.now c.self.invariant c.self.view_is in
    IsSound-read _ _ _ _ _ (sound-lent _ _ _ _ c.args.handle c.index_mut.result.now w c.args.self.now.shape sound c.requires c.index_mut.ensures.value)

pub returns : goal.returns
returns g c =
    let sound = IsSound-view _ _ _ _ _ c.args.self.now c.self.invariant c.self.view_is in (
      (
        refl,
        λ w. contents_lent _ _ _ c.args.handle c.args.self.now w c.self.view_is
            (read_sound _ _ _ _ _ (sound-lent _ _ _ _ c.args.handle c.index_mut.result.now w c.args.self.now.shape sound c.requires c.index_mut.ensures.value)),
      ),
      record {
        writes_back = tt;
        value = λ around colour before item after is. item_lent _ _ _ _ c.args.handle c.index_mut.result.now c.item_mut.result.now c.args.self.now.shape
            around colour before item after sound c.requires c.index_mut.ensures.value c.item_mut.ensures.value is;
      },
    )
