-- The 63 nodes of a heap over 32 buckets, and sets of nodes as masks.
use Rattle.std.specs.Prelude.{◌≡◌, ℕ, zero, suc, ◌+◌, ◌-◌, ◌/◌, ◌%◌, ◌^◌, ◌<◌, Bool, true, false, not, ◌&&◌, leb, ◌==◌, if◌then◌else◌, List, [], ◌∷◌, map, get_or, min, max}
use Rattle.std.specs.List.{fold}
use Rattle.std.specs.Int.{bit_at}
use Rattle.i_tree.specs.Seg.Buckets.{Interval, between, overlap}

-- the lower and the upper half of an interval
abbrev pub lower_half : Interval → Interval
lower_half whole = between whole.first ((whole.first + whole.last) / 2)

abbrev pub upper_half : Interval → Interval
upper_half whole = between ((whole.first + whole.last) / 2 + 1) whole.last

-- the buckets of a node that is at most so many levels below node 0, which has all 32: a node 2 j + 1 has the lower half
-- of those of node j, and a node 2 j + 2 the upper half
abbrev pub covered_within : ℕ → ℕ → Interval
covered_within (suc levels) (suc before) =
    let parent : Interval = covered_within levels (before / 2) in
    if before % 2 == 0 then lower_half parent else upper_half parent
covered_within levels node = between 0 31

-- the buckets that a node of the heap covers
unfoldable pub covered : ℕ → Interval
covered node = covered_within 5 node

-- all buckets of the node are of the interval
unfoldable pub is_covered : Interval → ℕ → Bool
is_covered whole node = leb whole.first (covered node).first && leb (covered node).last whole.last

-- the node isn't node 0, and its parent passes a test
abbrev pub parent_passes : (ℕ → Bool) → ℕ → Bool
parent_passes test node = leb 1 node && test ((node - 1) / 2)

-- all buckets of the node are of the interval, and not all of its parent
unfoldable pub is_canonical : Interval → ℕ → Bool
is_canonical whole node = is_covered whole node && not (parent_passes (is_covered whole) node)

-- some bucket of the node is of the interval
unfoldable pub is_met : Interval → ℕ → Bool
is_met whole node = overlap whole (covered node)

-- the mask of the nodes below a bound that pass a test: bit j stands for node j
unfoldable pub mask_below : ℕ → (ℕ → Bool) → ℕ
mask_below zero test = 0
mask_below (suc node) test = mask_below node test + (if test node then 2 ^ node else 0)

-- the mask of the nodes of the heap that pass a test
unfoldable pub nodes_where : (ℕ → Bool) → ℕ
nodes_where test = mask_below 63 test

-- the nodes that an interval is placed at: they cover it, and it alone
abbrev pub canonical_nodes : Interval → ℕ
canonical_nodes whole = nodes_where (is_canonical whole)

-- the nodes that something which overlaps the interval may be placed at
abbrev pub meeting_set : Interval → ℕ
meeting_set whole = nodes_where (is_met whole)

-- whether the mask has the node
abbrev pub has_node : ℕ → ℕ → Bool
has_node mask node = bit_at mask node == 1

-- the node is the lowest that the mask has
pub record IsLowest (mask node : ℕ) : Type 0 where
  pub within : node < 64
  pub there : has_node mask node ≡ true
  pub none_below : (other : ℕ) → other < node → has_node mask other ≡ false

-- the nodes of the mask from one node on, so many of them ended at, in ascending order
unfoldable pub nodes_from : ℕ → ℕ → ℕ → List ℕ
nodes_from zero node mask = []
nodes_from (suc more) node mask =
    if has_node mask node then node ∷ nodes_from more (suc node) mask else nodes_from more (suc node) mask

-- the nodes of a mask, in ascending order
unfoldable pub nodes_of : ℕ → List ℕ
nodes_of mask = nodes_from 64 0 mask

-- the lowest node of a mask, or 64 where it has none
abbrev pub lowest : ℕ → ℕ
lowest mask = get_or (nodes_of mask) 0 64

-- the buckets from the least to the greatest that the nodes of a mask cover
unfoldable pub interval_of : ℕ → Interval
interval_of mask = between
    (fold min 31 (map (λ node. (covered node).first) (nodes_of mask)))
    (fold max 0 (map (λ node. (covered node).last) (nodes_of mask)))
