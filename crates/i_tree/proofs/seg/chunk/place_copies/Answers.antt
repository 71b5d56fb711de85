use Rattle.std.proofs.Common.{rules, arith, ◌≡◌, ◌<◌, ℕ, List, ◌++◌, length, ap, sym, subst, ◌∙◌, true}
use Rattle.std.proofs.lemmas.List.{length-map, append-nil}
use Rattle.std.proofs.lemmas.List.Elements.{All-rest, All-weaker}
use Rattle.std.specs.List.{All}
use Rattle.std.specs.Vec.{vec_len, vec_capacity}
use Rattle.i_tree.specs.Seg.Copies.{chunk_at, copies_in}
use Rattle.i_tree.specs.Seg.Nodes.{has_node, nodes_of}
use Rattle.i_tree.proofs.SegLemmas.NodesWhere.{nodes_of-have}
use Rattle.i_tree.proofs.SegLemmas.Chunks.{HasRoomAt, next-holds, some_at-within, some_at-read, some_at-set_higher, nodes_of-ascend, joining, joining-is, joining-pushed}
use Rattle.i_tree.proofs.seg.chunk.place_copies.Goals as goal

pub loop-node-init : goal.loop-node-init
loop-node-init g c =
    let same = ap (λ nodes. nodes.mask) c.into_iter-node-iterator.ensures.into_iter_gives ∙ c.new-node-items.ensures in
    record {
      room =
          subst (λ (mask : ℕ). All (HasRoomAt c.args.chunks.now) (nodes_of mask)) (sym same)
          (All-weaker (λ node. has_node c.args.mask node ≡ true) (HasRoomAt c.args.chunks.now) c.requires (nodes_of c.args.mask) (nodes_of-have c.args.mask));
      chunks = λ node. ap (λ (mask : ℕ). chunk_at node (copies_in c.args.chunks.now) ++ joining (c.args.mask, c.args.value) node (nodes_of mask)) same;
    }

pub offset_bounds-chunks-node : goal.offset_bounds-chunks-node
offset_bounds-chunks-node g c =
    let room = next-holds (HasRoomAt c.loop-node.chunks) c.in-Some.node (nodes_of c.loop-node.node-iterator.mask) (nodes_of c.next.new.self.mask) c.in-Some.ensures.steps c.loop-node.invariant.room in
    let inside : c.in-Some.node < length c.args.chunks.now = let within = some_at-within (λ chunk. vec_len chunk < vec_capacity chunk) c.loop-node.chunks c.in-Some.node room in omega arith in
    search rules

pub bounds-chunks-node : goal.bounds-chunks-node
bounds-chunks-node g c =
    some_at-within (λ chunk. vec_len chunk < vec_capacity chunk) c.loop-node.chunks c.in-Some.node
    (next-holds (HasRoomAt c.loop-node.chunks) c.in-Some.node (nodes_of c.loop-node.node-iterator.mask) (nodes_of c.next.new.self.mask) c.in-Some.ensures.steps c.loop-node.invariant.room)

pub push_reserved-requires : goal.push_reserved-requires
push_reserved-requires g c =
    some_at-read (λ chunk. vec_len chunk < vec_capacity chunk) c.loop-node.chunks c.in-Some.node c.index-chunks-node.result
    (next-holds (HasRoomAt c.loop-node.chunks) c.in-Some.node (nodes_of c.loop-node.node-iterator.mask) (nodes_of c.next.new.self.mask) c.in-Some.ensures.steps c.loop-node.invariant.room)

pub loop-node-preserved : goal.loop-node-preserved
loop-node-preserved g c =
    let room = next-holds (HasRoomAt c.loop-node.chunks) c.in-Some.node (nodes_of c.loop-node.node-iterator.mask) (nodes_of c.next.new.self.mask) c.in-Some.ensures.steps c.loop-node.invariant.room in
    let within = some_at-within (λ chunk. vec_len chunk < vec_capacity chunk) c.loop-node.chunks c.in-Some.node room in
    record {
      room =
          some_at-set_higher (λ chunk. vec_len chunk < vec_capacity chunk) c.loop-node.chunks c.in-Some.node c.push_reserved.new.self (nodes_of c.next.new.self.mask)
          (nodes_of-ascend c.loop-node.node-iterator.mask c.in-Some.node (nodes_of c.next.new.self.mask) c.in-Some.ensures.steps)
          (All-rest (HasRoomAt c.loop-node.chunks) c.in-Some.node (nodes_of c.next.new.self.mask) (nodes_of c.loop-node.node-iterator.mask) c.in-Some.ensures.steps c.loop-node.invariant.room);
      chunks = λ node.
          joining-pushed (c.args.mask, c.args.value) c.loop-node.chunks c.in-Some.node node c.index-chunks-node.result c.push_reserved.new.self (nodes_of c.loop-node.node-iterator.mask) (nodes_of c.next.new.self.mask)
          (chunk_at node (copies_in c.args.chunks.now) ++ joining (c.args.mask, c.args.value) node (nodes_of c.args.mask)) within c.push_reserved.ensures.items c.in-Some.ensures.steps (c.loop-node.invariant.chunks node);
    }

pub returns : goal.returns
returns g c = record {
  count = length-map c.loop-node.chunks (λ chunk. chunk.items) ∙ c.loop-node.auto.chunks ∙ sym (length-map c.args.chunks.now (λ chunk. chunk.items));
  chunks = λ node within.
      sym (append-nil (chunk_at node (copies_in c.loop-node.chunks)))
      ∙ ap (λ (nodes : List ℕ). chunk_at node (copies_in c.loop-node.chunks) ++ joining (c.args.mask, c.args.value) node nodes) (sym c.in-None.ensures.steps.0)
      ∙ c.loop-node.invariant.chunks node
      ∙ ap (λ new. chunk_at node (copies_in c.args.chunks.now) ++ new) (joining-is (c.args.mask, c.args.value) c.args.mask node c.ranges.mask.fits);
}
