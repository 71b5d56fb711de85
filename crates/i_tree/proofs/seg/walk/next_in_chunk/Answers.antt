use Rattle.std.proofs.Common.{◌≡◌, ℕ, ◌<◌, true, false, List, bit_and, length, drop, refl, ap, sym, ◌∙◌, subst, arith}
use Rattle.std.specs.Bool.{◌==◌}
use Rattle.std.specs.declared.option.Option.TheVariants.{Some}
use Rattle.std.proofs.lemmas.Bool.Decides.{nat_tests}
use Rattle.std.proofs.lemmas.List.{drop_all, get_or_default, nil_from_length}
use Rattle.std.proofs.lemmas.List.Sorted.{length_permutation}
use Rattle.i_tree.specs.Seg.Copies.{found_at, member_of}
use Rattle.i_tree.specs.Root.Live.{is_live}
use Rattle.i_tree.specs.Seg.Nodes.{lowest}
use Rattle.i_tree.proofs.SegLemmas.Walk.{live_from_lt, InChunk, InChunk-start, InChunk-removed, InChunk-passed, InChunk-found, passed-more, Reads-past}
use Rattle.i_tree.proofs.seg.walk.next_in_chunk.Goals as goal

same_node : (one other : ℕ) → one ≡ other → (one == other) ≡ true
same_node one other same = grind (arith, nat_tests)

other_node : (one other : ℕ) → (one ≡ other → ⊥) → (one == other) ≡ false
other_node one other differ = grind (arith, nat_tests)

pub loop-index-init : goal.loop-index-init
loop-index-init g c =
    InChunk-start g.V.ExpiredVal.expiration g.E.Ord.cmp c.args.time g.C.Counter.made c.args.asked c.args.node g.met.C.Counter.law c.args.steps.now c.args.chunk.now.items c.args.index.now

pub loop-index-preserved-then-lt : goal.loop-index-preserved-then-lt
loop-index-preserved-then-lt g c =
    let within : c.loop-index.index < length _ = omega arith in
    let same : c.index.result.now ≡ c.swap_remove.result =
    c.index.ensures ∙ get_or_default _ c.loop-index.index c.index.result.now c.swap_remove.result within ∙ sym c.swap_remove.ensures.value in
    let dead = ap (is_live g.V.ExpiredVal.expiration g.E.Ord.cmp c.args.time) (ap (λ (copy : ℕ × g.row.V.Denot). copy.1) (sym same)) ∙ live_from_lt g.E.PartialOrd.partial_cmp g.E.Ord.cmp g.met.E.Ord.matches_partial_cmp g.V.ExpiredVal.expiration c.args.time c.index.result.now.1 c.expiration.result c.expiration.ensures c.lt.result c.lt.ensures true c.if-lt.true in
    subst (λ (after : List (ℕ × g.row.V.Denot)). InChunk g.V.ExpiredVal.expiration g.E.Ord.cmp c.args.time g.C.Counter.made c.args.asked c.args.node c.args.steps.now c.add_removal.new.self c.args.chunk.now.items c.args.index.now after c.loop-index.index) (sym c.swap_remove.ensures.items)
    (InChunk-removed g.V.ExpiredVal.expiration g.E.Ord.cmp c.args.time g.C.Counter.made c.args.asked c.args.node g.met.C.Counter.law c.args.steps.now c.loop-index.steps c.args.chunk.now.items c.args.index.now _ c.loop-index.index c.loop-index.invariant c.swap_remove.result within c.swap_remove.ensures.value
    c.add_test.new.self c.add_removal.new.self c.add_test.ensures c.add_removal.ensures dead)

pub returns-then-lowest_node-node : goal.returns-then-lowest_node-node
returns-then-lowest_node-node g c = record {
  found =
      let copy = c.index.result.now in (
        member_of copy,
        refl,
        InChunk-found g.V.ExpiredVal.expiration g.E.Ord.cmp c.args.time g.C.Counter.made c.args.asked c.args.node g.met.C.Counter.law c.args.steps.now c.loop-index.steps c.args.chunk.now.items c.args.index.now c.loop-index.chunk.items c.loop-index.index c.loop-index.invariant copy (omega arith) c.index.ensures
            (live_from_lt g.E.PartialOrd.partial_cmp g.E.Ord.cmp g.met.E.Ord.matches_partial_cmp g.V.ExpiredVal.expiration c.args.time copy.1 c.expiration.result c.expiration.ensures c.lt.result c.lt.ensures false c.if-lt.false)
            (same_node (lowest (bit_and copy.0 c.args.asked)) c.args.node (sym c.lowest_node.ensures.value ∙ c.if-lowest_node-node.true)),
      );
  ended = λ none. cc;
  live = c.loop-index.invariant.live;
  loses = c.loop-index.invariant.loses;
  passed =
      let copy = c.index.result.now in
      passed-more g.V.ExpiredVal.expiration g.E.Ord.cmp c.args.time g.C.Counter.made c.args.asked c.args.node g.met.C.Counter.law c.args.steps.now c.loop-index.steps c.args.chunk.now.items c.args.index.now c.loop-index.chunk.items c.loop-index.index c.loop-index.invariant copy (omega arith) c.index.ensures
      (live_from_lt g.E.PartialOrd.partial_cmp g.E.Ord.cmp g.met.E.Ord.matches_partial_cmp g.V.ExpiredVal.expiration c.args.time copy.1 c.expiration.result c.expiration.ensures c.lt.result c.lt.ensures false c.if-lt.false);
  steps =
      let copy = c.index.result.now in
      Reads-past g.V.ExpiredVal.expiration g.E.Ord.cmp c.args.time g.C.Counter.made c.args.asked c.args.node g.met.C.Counter.law c.args.steps.now c.loop-index.steps c.args.chunk.now.items c.args.index.now c.loop-index.chunk.items c.loop-index.index c.loop-index.invariant copy (omega arith) c.index.ensures
      c.add_test.new.self c.add_test.ensures (live_from_lt g.E.PartialOrd.partial_cmp g.E.Ord.cmp g.met.E.Ord.matches_partial_cmp g.V.ExpiredVal.expiration c.args.time copy.1 c.expiration.result c.expiration.ensures c.lt.result c.lt.ensures false c.if-lt.false);
}

pub loop-index-preserved : goal.loop-index-preserved
loop-index-preserved g c =
    let copy = c.index.result.now in
    InChunk-passed g.V.ExpiredVal.expiration g.E.Ord.cmp c.args.time g.C.Counter.made c.args.asked c.args.node g.met.C.Counter.law c.args.steps.now c.loop-index.steps c.args.chunk.now.items c.args.index.now c.loop-index.chunk.items c.loop-index.index c.loop-index.invariant copy (omega arith) c.index.ensures
    c.add_test.new.self c.add_test.ensures (live_from_lt g.E.PartialOrd.partial_cmp g.E.Ord.cmp g.met.E.Ord.matches_partial_cmp g.V.ExpiredVal.expiration c.args.time copy.1 c.expiration.result c.expiration.ensures c.lt.result c.lt.ensures false c.if-lt.false)
    (other_node (lowest (bit_and copy.0 c.args.asked)) c.args.node (λ same. c.if-lowest_node-node.false (c.lowest_node.ensures.value ∙ same)))

pub returns : goal.returns
returns g c = record {
  found =
      let found = found_at g.V.ExpiredVal.expiration g.E.Ord.cmp (Some c.args.time) c.args.asked c.args.node in
      nil_from_length (found (drop c.args.index.now c.args.chunk.now.items))
      (sym (length_permutation (found (drop c.args.index.now c.args.chunk.now.items)) (found (drop c.loop-index.index c.loop-index.chunk.items)) c.loop-index.invariant.found) ∙ ap (λ (copies : List (ℕ × g.row.V.Denot)). length (found copies)) (drop_all c.loop-index.index c.loop-index.chunk.items (omega arith)));
  ended = λ _. omega arith;
  live = c.loop-index.invariant.live;
  loses = c.loop-index.invariant.loses;
  passed = c.loop-index.invariant.passed;
  steps = c.loop-index.invariant.steps;
}
