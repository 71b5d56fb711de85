use Rattle.std.proofs.Common.{◌≡◌, length, sym, ◌∙◌, arith}
use Rattle.i_tree.specs.declared.rb.links.Slot.TheVariants.{Free}
use Rattle.i_tree.proofs.RbLemmas.Slots.Growth.{Keeps-push, chain-push}
use Rattle.i_tree.proofs.rb.arena.add_slots.Goals as goal

pub loop-number-preserved : goal.loop-number-preserved
loop-number-preserved g c =
    let loop = c.loop-number in
    let pushed = c.push_reserved.ensures.items in
    let last : loop.number ≡ length loop.slots.items = sym loop.invariant.len ∙ loop.slots.ok.0 in
    record {
      kept = Keeps-push c.args.slots.now.items loop.slots.items c.push_reserved.new.self.items (Free loop.first) pushed loop.invariant.kept;
      linked = λ chain linked.
          chain-push loop.slots.items c.push_reserved.new.self.items c.args.slots.now.len loop.number loop.first chain pushed last (omega arith) (loop.invariant.linked chain linked);
      len = omega arith;
      capacity = c.push_reserved.ensures.capacity ∙ loop.invariant.capacity;
    }
