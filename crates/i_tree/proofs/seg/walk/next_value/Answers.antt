use Rattle.std.proofs.Common.{rules, ◌≡◌, ℕ, ◌<◌, ◌^◌, true, false, Option, None, Some, List, [], ◌∷◌, Vec, MatchOption, drop, get_or, set, length, refl, ap, sym, ◌∙◌, subst, arith, IsPermutation}
use Rattle.std.specs.Option.{is_some}
use Rattle.std.proofs.lemmas.Bool.{false≢true}
use Rattle.std.proofs.lemmas.List.{length-map, length-set, nil_from_length}
use Rattle.std.proofs.lemmas.List.Sorted.{length_permutation}
use Rattle.i_tree.specs.Seg.Copies.{copies_in, found_at}
use Rattle.i_tree.specs.Seg.Members.{Member}
use Rattle.i_tree.specs.Seg.Walk.{to_come}
use Rattle.i_tree.proofs.SegLemmas.NodesOf.{nodes_of-fewer}
use Rattle.i_tree.proofs.SegLemmas.NodesWhere.{has_node-below}
use Rattle.i_tree.proofs.SegLemmas.NodesWalk.{to_come-ended}
use Rattle.i_tree.proofs.SegLemmas.ChunksWalk.{InChunks-start, InChunks-taken, InChunks-live, InChunks-loses, InChunks-passed, InChunks-steps, InChunks-next}
use Rattle.i_tree.proofs.seg.walk.next_value.Goals as goal

-- what was found in a chunk was still to come
found_on : {V : Type 0} (result : Option V) (found found' come come' : List (Member V)) → is_some result ≡ true
    → MatchOption result (found ≡ []) (λ value. (member : Member V) × (member.value ≡ value) × IsPermutation found (member ∷ found'))
    → ((member : Member V) → IsPermutation found (member ∷ found') → IsPermutation come (member ∷ come'))
    → MatchOption result (come ≡ []) (λ value. (member : Member V) × (member.value ≡ value) × IsPermutation come (member ∷ come'))
found_on None found found' come come' some h on = absurd (false≢true some)
found_on (Some value) found found' come come' some h on = (h.0, h.1, on h.0 h.2)

none_found : {V : Type 0} (result : Option V) (P : Type 0) (Q : V → Type 0) → is_some result ≡ false → MatchOption result P Q → (result ≡ None) × P
none_found None P Q none h = (refl, h)
none_found (Some value) P Q none h = absurd (false≢true (sym none))

pub loop-cursor-init : goal.loop-cursor-init
loop-cursor-init g c =
    InChunks-start g.V.ExpiredVal.expiration g.E.Ord.cmp c.args.time g.C.Counter.made c.args.asked g.met.C.Counter.law c.args.steps.now (copies_in c.args.chunks.now) c.args.cursor.now.left c.args.cursor.now.index
    (subst (λ (count : ℕ). c.args.cursor.now.left < 2 ^ count) (sym (length-map c.args.chunks.now (λ (chunk : Vec (ℕ × g.row.V.Denot) g.row.A.Denot). chunk.items))) c.requires.within)
    c.requires.passed

-- the node has a chunk
has_chunk : (g : _) (c : goal.After-lowest_node-node g) → c.lowest_node-node.result < length c.loop-cursor.chunks
has_chunk g c =
    let lowest = c.lowest_node-node.ensures.lowest (omega arith) in
    let within = has_node-below c.loop-cursor.cursor.left (length (copies_in c.loop-cursor.chunks)) c.lowest_node-node.result c.loop-cursor.invariant.within lowest.there in
    omega (arith, within, length-map c.loop-cursor.chunks (λ (chunk : Vec (ℕ × g.row.V.Denot) g.row.A.Denot). chunk.items))

pub offset_bounds-chunks-node : goal.offset_bounds-chunks-node
offset_bounds-chunks-node g c = let inside : c.lowest_node-node.result < length c.args.chunks.now = omega (arith, has_chunk g c, c.loop-cursor.auto.chunks) in search rules

pub bounds-chunks-node : goal.bounds-chunks-node
bounds-chunks-node g c = has_chunk g c

-- a value came
not_none : {V : Type 0} (result : Option V) → is_some result ≡ true → result ≡ None → ⊥
not_none None some none = false≢true some
not_none (Some value) some none = false≢true (sym (ap (λ (one : Option _). is_some one) none))

pub returns-then-is_some : goal.returns-then-is_some
returns-then-is_some g c = record {
  within =
      subst (λ (count : ℕ). c.loop-cursor.cursor.left < 2 ^ count)
      (length-map c.loop-cursor.chunks (λ (chunk : Vec (ℕ × g.row.V.Denot) g.row.A.Denot). chunk.items)
      ∙ sym (length-map (set c.loop-cursor.chunks c.lowest_node-node.result c.next_in_chunk-found.new.chunk) (λ (chunk : Vec (ℕ × g.row.V.Denot) g.row.A.Denot). chunk.items)
      ∙ length-set c.loop-cursor.chunks c.lowest_node-node.result c.next_in_chunk-found.new.chunk))
      c.loop-cursor.invariant.within;
  found =
      found_on c.next_in_chunk-found.result
      (found_at g.V.ExpiredVal.expiration g.E.Ord.cmp (Some c.args.time) c.args.asked c.lowest_node-node.result (drop c.loop-cursor.cursor.index (get_or c.loop-cursor.chunks c.lowest_node-node.result c.index-chunks-node.result).items))
      (found_at g.V.ExpiredVal.expiration g.E.Ord.cmp (Some c.args.time) c.args.asked c.lowest_node-node.result (drop c.next_in_chunk-found.new.index c.next_in_chunk-found.new.chunk.items))
      (to_come g.V.ExpiredVal.expiration g.E.Ord.cmp c.args.time c.args.asked c.args.cursor.now.left c.args.cursor.now.index (copies_in c.args.chunks.now))
      _
      (sym c.is_some.ensures ∙ c.if-is_some.true) c.next_in_chunk-found.ensures.found
      (λ (member : Member g.row.V.Denot) h. InChunks-taken g.V.ExpiredVal.expiration g.E.Ord.cmp c.args.time g.C.Counter.made c.args.asked g.met.C.Counter.law c.args.steps.now c.loop-cursor.steps c.next_in_chunk-found.new.steps (copies_in c.args.chunks.now) c.args.cursor.now.left c.args.cursor.now.index c.loop-cursor.chunks c.loop-cursor.cursor.left c.loop-cursor.cursor.index c.loop-cursor.invariant
      c.lowest_node-node.result (c.lowest_node-node.ensures.lowest (omega arith)) c.index-chunks-node.result c.next_in_chunk-found.new.chunk c.next_in_chunk-found.new.index c.next_in_chunk-found.ensures.live c.next_in_chunk-found.ensures.loses c.next_in_chunk-found.ensures.passed c.next_in_chunk-found.ensures.steps
      (member ∷ []) h);
  ended = λ none. absurd (not_none c.next_in_chunk-found.result (sym c.is_some.ensures ∙ c.if-is_some.true) none);
  live =
      InChunks-live g.V.ExpiredVal.expiration g.E.Ord.cmp c.args.time g.C.Counter.made c.args.asked g.met.C.Counter.law c.args.steps.now c.loop-cursor.steps c.next_in_chunk-found.new.steps (copies_in c.args.chunks.now) c.args.cursor.now.left c.args.cursor.now.index c.loop-cursor.chunks c.loop-cursor.cursor.left c.loop-cursor.cursor.index c.loop-cursor.invariant
      c.lowest_node-node.result (c.lowest_node-node.ensures.lowest (omega arith)) c.index-chunks-node.result c.next_in_chunk-found.new.chunk c.next_in_chunk-found.new.index c.next_in_chunk-found.ensures.live c.next_in_chunk-found.ensures.loses c.next_in_chunk-found.ensures.passed c.next_in_chunk-found.ensures.steps;
  loses =
      InChunks-loses g.V.ExpiredVal.expiration g.E.Ord.cmp c.args.time g.C.Counter.made c.args.asked g.met.C.Counter.law c.args.steps.now c.loop-cursor.steps c.next_in_chunk-found.new.steps (copies_in c.args.chunks.now) c.args.cursor.now.left c.args.cursor.now.index c.loop-cursor.chunks c.loop-cursor.cursor.left c.loop-cursor.cursor.index c.loop-cursor.invariant
      c.lowest_node-node.result (c.lowest_node-node.ensures.lowest (omega arith)) c.index-chunks-node.result c.next_in_chunk-found.new.chunk c.next_in_chunk-found.new.index c.next_in_chunk-found.ensures.live c.next_in_chunk-found.ensures.loses c.next_in_chunk-found.ensures.passed c.next_in_chunk-found.ensures.steps;
  passed =
      InChunks-passed g.V.ExpiredVal.expiration g.E.Ord.cmp c.args.time g.C.Counter.made c.args.asked g.met.C.Counter.law c.args.steps.now c.loop-cursor.steps c.next_in_chunk-found.new.steps (copies_in c.args.chunks.now) c.args.cursor.now.left c.args.cursor.now.index c.loop-cursor.chunks c.loop-cursor.cursor.left c.loop-cursor.cursor.index c.loop-cursor.invariant
      c.lowest_node-node.result (c.lowest_node-node.ensures.lowest (omega arith)) c.index-chunks-node.result c.next_in_chunk-found.new.chunk c.next_in_chunk-found.new.index c.next_in_chunk-found.ensures.live c.next_in_chunk-found.ensures.loses c.next_in_chunk-found.ensures.passed c.next_in_chunk-found.ensures.steps;
  steps =
      InChunks-steps g.V.ExpiredVal.expiration g.E.Ord.cmp c.args.time g.C.Counter.made c.args.asked g.met.C.Counter.law c.args.steps.now c.loop-cursor.steps c.next_in_chunk-found.new.steps (copies_in c.args.chunks.now) c.args.cursor.now.left c.args.cursor.now.index c.loop-cursor.chunks c.loop-cursor.cursor.left c.loop-cursor.cursor.index c.loop-cursor.invariant
      c.lowest_node-node.result (c.lowest_node-node.ensures.lowest (omega arith)) c.index-chunks-node.result c.next_in_chunk-found.new.chunk c.next_in_chunk-found.new.index c.next_in_chunk-found.ensures.live c.next_in_chunk-found.ensures.loses c.next_in_chunk-found.ensures.passed c.next_in_chunk-found.ensures.steps;
}

pub loop-cursor-smaller : goal.loop-cursor-smaller
loop-cursor-smaller g c = nodes_of-fewer c.loop-cursor.cursor.left c.lowest_node-node.result (c.lowest_node-node.ensures.lowest (omega arith))

pub loop-cursor-preserved : goal.loop-cursor-preserved
loop-cursor-preserved g c =
    let none = none_found c.next_in_chunk-found.result _ _ (sym c.is_some.ensures ∙ c.if-is_some.false) c.next_in_chunk-found.ensures.found in
    InChunks-next g.V.ExpiredVal.expiration g.E.Ord.cmp c.args.time g.C.Counter.made c.args.asked g.met.C.Counter.law c.args.steps.now c.loop-cursor.steps c.next_in_chunk-found.new.steps (copies_in c.args.chunks.now) c.args.cursor.now.left c.args.cursor.now.index c.loop-cursor.chunks c.loop-cursor.cursor.left c.loop-cursor.cursor.index c.loop-cursor.invariant
    c.lowest_node-node.result (c.lowest_node-node.ensures.lowest (omega arith)) c.index-chunks-node.result c.next_in_chunk-found.new.chunk c.next_in_chunk-found.new.index c.next_in_chunk-found.ensures.live c.next_in_chunk-found.ensures.loses c.next_in_chunk-found.ensures.passed c.next_in_chunk-found.ensures.steps
    c.ranges.asked.fits (c.next_in_chunk-found.ensures.ended none.0) none.1

pub returns : goal.returns
returns g c = record {
  within = c.loop-cursor.invariant.within;
  found =
      let none = to_come-ended g.V.ExpiredVal.expiration g.E.Ord.cmp c.args.time c.args.asked c.loop-cursor.cursor.left c.loop-cursor.cursor.index (copies_in c.loop-cursor.chunks) c.loop-cursor-test.false in
      nil_from_length (to_come g.V.ExpiredVal.expiration g.E.Ord.cmp c.args.time c.args.asked c.args.cursor.now.left c.args.cursor.now.index (copies_in c.args.chunks.now))
      (sym (length_permutation _ _ c.loop-cursor.invariant.found) ∙ ap length none);
  ended = λ _. c.loop-cursor-test.false;
  live = c.loop-cursor.invariant.live;
  loses = c.loop-cursor.invariant.loses;
  passed = c.loop-cursor.invariant.passed;
  steps = c.loop-cursor.invariant.steps;
}
