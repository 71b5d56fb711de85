use Rattle.std.proofs.Common.{arith}
use Rattle.i_tree.specs.declared.rb.links.Side.TheVariants.{Left}
use Rattle.i_tree.specs.Rb.Shape.{leaf}
use Rattle.i_tree.proofs.RbLemmas.Slots.Clear.{IsHandle-childless, HasLost-detached}
use Rattle.i_tree.proofs.rb.arena.Arena.clear.Goals as goal

pub parent-here-requires : goal.parent-here-requires
parent-here-requires g c = IsHandle-childless c.loop-here.self.shape c.childless_below-last.result c.childless_below-last.ensures

pub loop-here-smaller : goal.loop-here-smaller
loop-here-smaller g c =
    let lost = HasLost-detached c.loop-here.self.shape c.detach.new.self.shape c.childless_below-last.result c.parent-here.result c.detach.ensures.handles c.childless_below-last.ensures
    c.parent-here.ensures.value (λ around colour item. c.detach.ensures.shape Left colour leaf item around) in
    omega (arith, lost.fewer)

pub loop-here-preserved : goal.loop-here-preserved
loop-here-preserved g c =
    let lost = HasLost-detached c.loop-here.self.shape c.detach.new.self.shape c.childless_below-last.result c.parent-here.result c.detach.ensures.handles c.childless_below-last.ensures
    c.parent-here.ensures.value (λ around colour item. c.detach.ensures.shape Left colour leaf item around) in
    record {
      live = lost.live;
      ended = lost.ended;
      handles = c.detach.ensures.handles;
      same_slots = let as_before = c.loop-here.invariant.same_slots in omega (arith, lost.fewer, c.detach.ensures.spare);
    }
