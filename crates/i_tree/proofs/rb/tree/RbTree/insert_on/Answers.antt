use Rattle.std.proofs.Common.{◌≡◌, ap, ◌∙◌, length, arith, rules}
use Rattle.i_tree.specs.Rb.RbTree.{Contents, slots, slots_with_room}
use Rattle.i_tree.specs.Rb.Shape.{Shape, entries, AreHandles}
use Rattle.i_tree.specs.Rb.Balance.{IsRedBlack}
use Rattle.i_tree.proofs.RbLemmas.Balance.Ranks.{IsCore-from_red_black}
use Rattle.i_tree.proofs.RbLemmas.Balance.Joining.{HasRoomOn-kept, IsRaised-joined, entries-joined, length-joined}
use Rattle.i_tree.proofs.RootLemmas.Counts.{OnlyRotates-none}
use Rattle.i_tree.proofs.rb.tree.RbTree.insert_on.Goals as goal

pub returns-in-Err-clause-core : goal.returns-in-Err-clause-core
returns-in-Err-clause-core g c =
    rw c.make_room.ensures.shape (IsCore-from_red_black c.self.inside.arena.shape c.self.invariant.1 c.self.invariant.0)

pub attach-handle-requires-clause-room : goal.attach-handle-requires-clause-room
attach-handle-requires-clause-room g c =
    HasRoomOn-kept c.args.side c.self.inside.arena.shape c.make_room.new.self.shape c.args.parent c.make_room.ensures.shape c.self.invariant.1
    (rw c.self.view_is c.requires.live) (rw c.self.view_is c.requires.room)

pub rebalance_insertion-requires : goal.rebalance_insertion-requires
rebalance_insertion-requires g c =
    let kept = c.make_room.new.self.shape in
    let room = HasRoomOn-kept c.args.side c.self.inside.arena.shape kept c.args.parent c.make_room.ensures.shape c.self.invariant.1
    (rw c.self.view_is c.requires.live) (rw c.self.view_is c.requires.room) in
    let balanced : IsRedBlack kept = rw c.make_room.ensures.shape c.self.invariant.0 in
    IsRaised-joined kept c.attach-handle.new.self.shape c.args.parent c.args.side c.attach-handle.result c.args.item balanced room c.attach-handle.ensures.shape

pub returns-clause-entries : goal.returns-clause-entries
returns-clause-entries g c front at back is =
    let kept = c.make_room.new.self.shape in
    let room = HasRoomOn-kept c.args.side c.self.inside.arena.shape kept c.args.parent c.make_room.ensures.shape c.self.invariant.1
    (rw c.self.view_is c.requires.live) (rw c.self.view_is c.requires.room) in
    let handles : AreHandles kept = rw c.make_room.ensures.shape c.self.invariant.1 in
    let same = c.make_room.ensures.shape ∙ ap (λ (contents : Contents g.row.T.Denot). contents.shape) c.self.view_is in
    c.rebalance_insertion.ensures.entries
    ∙ entries-joined kept c.attach-handle.new.self.shape c.args.parent c.args.side c.attach-handle.result c.args.item handles room c.attach-handle.ensures.shape
    front at back (ap (λ (shape : Shape g.row.T.Denot). entries shape) same ∙ is)

pub returns-clause-takes : goal.returns-clause-takes
returns-clause-takes g c =
    let room = HasRoomOn-kept c.args.side c.self.inside.arena.shape _ c.args.parent c.make_room.ensures.shape c.self.invariant.1
    (rw c.self.view_is c.requires.live) (rw c.self.view_is c.requires.room) in
    let more = length-joined _ c.attach-handle.new.self.shape c.args.parent c.args.side c.attach-handle.result c.args.item room c.attach-handle.ensures.shape in
    let same_entries = ap length c.rebalance_insertion.ensures.entries in
    let spare = c.attach-handle.ensures.spare in
    let same_spare = c.rebalance_insertion.ensures.spare in
    let total : slots c.rebalance_insertion.new.arena ≡ slots c.make_room.new.self = omega arith in
    let as_before = c.self.view_is in
    let takes = (c.in_default.ensures).takes in
    record {
      with_spare = search rules;
      err = search rules;
      handed = search rules;
      no_handle = λ none full. takes.no_handle (ap (λ (contents : Contents g.row.T.Denot). contents.spare) as_before ∙ none) (ap (λ (contents : Contents g.row.T.Denot). slots contents) as_before ∙ full);
      refused = search rules;
      slots = total ∙ takes.slots ∙ ap (λ (contents : Contents g.row.T.Denot). slots_with_room contents) as_before;
    }

pub returns-clause-core : goal.returns-clause-core
returns-clause-core g c = IsCore-from_red_black c.rebalance_insertion.new.arena.shape c.rebalance_insertion.ensures.handles c.rebalance_insertion.ensures.balanced

pub returns-in-Err-clause-steps : goal.returns-in-Err-clause-steps
returns-in-Err-clause-steps g c = OnlyRotates-none g.met.C.Counter.law c.args.steps.now 2
