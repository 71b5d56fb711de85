-- Facts on the masks of all intervals, each computed for all of them.
use Rattle.std.proofs.Common.{◌≡◌, ℕ, ◌+◌, ◌^◌, ◌<◌, ◌≤◌, true, not, ◌&&◌, leb, ltb, nat_eq, bit_and, length, refl, ap, ◌∙◌, arith}
use Rattle.std.specs.Int.{w64, bit_not}
use Rattle.std.proofs.lemmas.Bool.{and_parts}
use Rattle.std.proofs.lemmas.Bool.Decides.{nat_tests}
use Rattle.i_tree.specs.Seg.Buckets.{Interval, between, overlap}
use Rattle.i_tree.specs.Seg.Nodes.{covered, parent_passes, is_covered, is_canonical, is_met, mask_below, nodes_where, canonical_nodes, meeting_set, nodes_from, nodes_of, interval_of}
use Rattle.i_tree.proofs.SegLemmas.Tests.{every_below, every_interval, every_interval-at, nat_eq-is, same, same-is}

-- the nodes of an interval by its first bucket, and by its last
unfoldable pub placed_word : ℕ → ℕ → ℕ
placed_word first last = bit_and
    (bit_and (nodes_where (λ node. leb first (covered node).first)) (nodes_where (λ node. leb (covered node).last last)))
    (bit_not w64 (bit_and (nodes_where (parent_passes (λ node. leb first (covered node).first))) (nodes_where (parent_passes (λ node. leb (covered node).last last)))))

unfoldable pub met_word : ℕ → ℕ → ℕ
met_word first last = bit_and (nodes_where (λ node. leb first (covered node).last)) (nodes_where (λ node. leb (covered node).first last))

all_placed : every_interval (λ first last. nat_eq (placed_word first last) (canonical_nodes (between first last))) ≡ true
unfolding every_interval every_below placed_word nodes_where mask_below covered is_covered is_canonical
all_placed = refl

all_met : every_interval (λ first last. nat_eq (met_word first last) (meeting_set (between first last))) ≡ true
unfolding every_interval every_below met_word nodes_where mask_below covered is_met
all_met = refl

all_few : every_interval (λ first last. leb (length (nodes_of (canonical_nodes (between first last)))) 8) ≡ true
unfolding every_interval every_below nodes_where mask_below covered is_covered is_canonical nodes_of nodes_from
all_few = refl

all_below : every_interval (λ first last. ltb (canonical_nodes (between first last)) (2 ^ (32 + last))) ≡ true
unfolding every_interval every_below nodes_where mask_below covered is_covered is_canonical
all_below = refl

all_met_below : every_interval (λ first last. ltb (meeting_set (between first last)) (2 ^ (32 + last))) ≡ true
unfolding every_interval every_below nodes_where mask_below covered is_met
all_met_below = refl

all_decode : every_interval (λ first last. nat_eq (interval_of (canonical_nodes (between first last))).first first && nat_eq (interval_of (canonical_nodes (between first last))).last last) ≡ true
unfolding every_interval every_below nodes_where mask_below covered is_covered is_canonical nodes_of nodes_from interval_of
all_decode = refl

all_share : every_interval (λ first last. every_interval (λ low high. same (nat_eq (bit_and (canonical_nodes (between first last)) (meeting_set (between low high))) 0) (not (overlap (between first last) (between low high))))) ≡ true
unfolding every_interval every_below nodes_where mask_below covered is_covered is_canonical is_met
all_share = refl

interval_same : (whole : Interval) (first last : ℕ) → whole.first ≡ first → whole.last ≡ last → whole ≡ between first last
interval_same whole first last begins ends = ap (λ (bucket : ℕ). between bucket whole.last) begins ∙ ap (λ (bucket : ℕ). between first bucket) ends

module _ (first last : ℕ) (order : first ≤ last) (within : last < 32) where
  -- the four words of a place mask give the place set, and the two of a meeting mask the meeting set
  pub placed-is : placed_word first last ≡ canonical_nodes (between first last)
  placed-is = nat_eq-is _ _ (every_interval-at (λ (first last : ℕ). nat_eq (placed_word first last) (canonical_nodes (between first last))) all_placed first last order within)

  pub met-is : met_word first last ≡ meeting_set (between first last)
  met-is = nat_eq-is _ _ (every_interval-at (λ (first last : ℕ). nat_eq (met_word first last) (meeting_set (between first last))) all_met first last order within)

  -- a place set has at most eight nodes, none behind the leaf of the last bucket
  pub few-placed : length (nodes_of (canonical_nodes (between first last))) ≤ 8
  few-placed =
      let passed = every_interval-at (λ (first last : ℕ). leb (length (nodes_of (canonical_nodes (between first last)))) 8) all_few first last order within in
      grind (arith, nat_tests)

  pub placed-below : canonical_nodes (between first last) < 2 ^ (32 + last)
  placed-below =
      let passed = every_interval-at (λ (first last : ℕ). ltb (canonical_nodes (between first last)) (2 ^ (32 + last))) all_below first last order within in
      grind (arith, nat_tests)

  -- nor has a meeting set
  pub met-below : meeting_set (between first last) < 2 ^ (32 + last)
  met-below =
      let passed = every_interval-at (λ (first last : ℕ). ltb (meeting_set (between first last)) (2 ^ (32 + last))) all_met_below first last order within in
      grind (arith, nat_tests)

  -- the interval can be read from its place set
  pub placed-decodes : interval_of (canonical_nodes (between first last)) ≡ between first last
  placed-decodes =
      let passed = and_parts (nat_eq (interval_of (canonical_nodes (between first last))).first first) (nat_eq (interval_of (canonical_nodes (between first last))).last last)
      (every_interval-at (λ (first last : ℕ). nat_eq (interval_of (canonical_nodes (between first last))).first first && nat_eq (interval_of (canonical_nodes (between first last))).last last) all_decode first last order within) in
      interval_same (interval_of (canonical_nodes (between first last))) first last (nat_eq-is _ _ passed.0) (nat_eq-is _ _ passed.1)

  -- a place set and a meeting set have a node in common exactly where their intervals overlap
  pub placed-meets : (low high : ℕ) → low ≤ high → high < 32 → nat_eq (bit_and (canonical_nodes (between first last)) (meeting_set (between low high))) 0 ≡ not (overlap (between first last) (between low high))
  placed-meets low high upwards below =
      same-is (nat_eq (bit_and (canonical_nodes (between first last)) (meeting_set (between low high))) 0) (not (overlap (between first last) (between low high)))
      (every_interval-at (λ (low high : ℕ). same (nat_eq (bit_and (canonical_nodes (between first last)) (meeting_set (between low high))) 0) (not (overlap (between first last) (between low high))))
      (every_interval-at (λ (first last : ℕ). every_interval (λ low high. same (nat_eq (bit_and (canonical_nodes (between first last)) (meeting_set (between low high))) 0) (not (overlap (between first last) (between low high))))) all_share first last order within)
      low high upwards below)
