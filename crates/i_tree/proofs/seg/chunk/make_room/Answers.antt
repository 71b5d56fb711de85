use Rattle.std.proofs.Common.{rules, arith, refl, [], ◌<◌, ℕ, List, ◌∷◌, ◌++◌, length, ap, sym, ◌∙◌, append_assoc}
use Rattle.std.proofs.Math.Seq.{map-set_same}
use Rattle.std.proofs.lemmas.List.Elements.{All-nil}
use Rattle.std.specs.Vec.{vec_len, vec_capacity}
use Rattle.i_tree.specs.Seg.Nodes.{nodes_of}
use Rattle.i_tree.proofs.SegLemmas.Chunks.{HasRoomAt, some_at-set_all, next-below, all-gone}
use Rattle.i_tree.proofs.seg.chunk.make_room.Goals as goal

pub loop-node-init : goal.loop-node-init
loop-node-init g c = record {
  copies = refl;
  nodes = ap nodes_of (ap (λ nodes. nodes.mask) c.into_iter-node-iterator.ensures.into_iter_gives ∙ c.new-node-items.ensures);
  room = All-nil (HasRoomAt c.args.chunks.now);
}

pub offset_bounds-chunks-node : goal.offset_bounds-chunks-node
offset_bounds-chunks-node g c =
    let inside = next-below c.args.mask c.in-Some.node (length c.args.chunks.now) c.loop-node.yielded (nodes_of c.loop-node.node-iterator.mask) (nodes_of c.next.new.self.mask) c.requires c.loop-node.invariant.nodes c.in-Some.ensures.steps in
    search rules

pub bounds-chunks-node : goal.bounds-chunks-node
bounds-chunks-node g c =
    let inside = next-below c.args.mask c.in-Some.node (length c.args.chunks.now) c.loop-node.yielded (nodes_of c.loop-node.node-iterator.mask) (nodes_of c.next.new.self.mask) c.requires c.loop-node.invariant.nodes c.in-Some.ensures.steps in
    omega arith

pub loop-node-preserved : goal.loop-node-preserved
loop-node-preserved g c = record {
  copies = map-set_same (λ chunk. chunk.items) c.loop-node.chunks c.in-Some.node c.reserve.new.self c.index-chunks-node.result c.reserve.ensures.items ∙ c.loop-node.invariant.copies;
  nodes =
      append_assoc c.loop-node.yielded (c.in-Some.node ∷ []) (nodes_of c.next.new.self.mask)
      ∙ ap (λ (nodes : List ℕ). c.loop-node.yielded ++ nodes) (sym c.in-Some.ensures.steps) ∙ c.loop-node.invariant.nodes;
  room =
      let inside = next-below c.args.mask c.in-Some.node (length c.args.chunks.now) c.loop-node.yielded (nodes_of c.loop-node.node-iterator.mask) (nodes_of c.next.new.self.mask) c.requires c.loop-node.invariant.nodes c.in-Some.ensures.steps in
      some_at-set_all (λ chunk. vec_len chunk < vec_capacity chunk) c.loop-node.chunks c.in-Some.node c.reserve.new.self c.loop-node.yielded
      (omega arith) (let more = c.in_ok-reserve.ensures.ok in omega arith) c.loop-node.invariant.room;
}

pub returns-in_err-reserve-clause-copies : goal.returns-in_err-reserve-clause-copies
returns-in_err-reserve-clause-copies g c =
    map-set_same (λ chunk. chunk.items) c.loop-node.chunks c.in-Some.node c.reserve.new.self c.index-chunks-node.result c.reserve.ensures.items ∙ c.loop-node.invariant.copies

pub returns-clause-room : goal.returns-clause-room
returns-clause-room g c =
    all-gone (HasRoomAt c.loop-node.chunks) c.args.mask c.loop-node.yielded (nodes_of c.loop-node.node-iterator.mask)
    c.ranges.mask.fits c.loop-node.invariant.nodes c.in-None.ensures.steps.0 c.loop-node.invariant.room
