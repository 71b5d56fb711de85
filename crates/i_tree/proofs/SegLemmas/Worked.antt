-- Worked rows of the definitions, each computed.
use Rattle.std.proofs.Common.{◌≡◌, ◌-◌, ◌^◌, ◌≤◌, pos, negsuc, [], ◌∷◌, refl, lit<, lit≤, arith}
use Rattle.std.proofs.lemmas.Int.{ints}
use Rattle.i_tree.specs.Seg.Buckets.{Buckets, IsWidth, HasLayout, bucket, chunk_count, between}
use Rattle.i_tree.proofs.SegLemmas.Widths.{width_of_exponent}
use Rattle.i_tree.specs.Seg.Nodes.{covered, is_covered, is_canonical, is_met, mask_below, nodes_where, canonical_nodes, meeting_set, nodes_from, nodes_of}

-- the buckets of some nodes
nodes_cover :
    (covered 0 ≡ between 0 31)
    × (covered 6 ≡ between 24 31)
    × (covered 7 ≡ between 0 3)
    × (covered 30 ≡ between 30 31)
    × (covered 31 ≡ between 0 0)
    × (covered 62 ≡ between 31 31)
unfolding covered
nodes_cover = (refl, refl, refl, refl, refl, refl)

-- where some intervals are placed
placed :
    (nodes_of (canonical_nodes (between 0 31)) ≡ 0 ∷ [])
    × (nodes_of (canonical_nodes (between 0 30)) ≡ 1 ∷ 5 ∷ 13 ∷ 29 ∷ 61 ∷ [])
    × (nodes_of (canonical_nodes (between 1 30)) ≡ 4 ∷ 5 ∷ 8 ∷ 13 ∷ 16 ∷ 29 ∷ 32 ∷ 61 ∷ [])
    × (nodes_of (canonical_nodes (between 30 31)) ≡ 30 ∷ [])
    × (nodes_of (canonical_nodes (between 29 31)) ≡ 30 ∷ 60 ∷ [])
    × (nodes_of (canonical_nodes (between 15 16)) ≡ 46 ∷ 47 ∷ [])
    × (nodes_of (canonical_nodes (between 0 12)) ≡ 3 ∷ 9 ∷ 43 ∷ [])
unfolding nodes_of nodes_from nodes_where mask_below is_canonical is_covered covered
placed = (refl, refl, refl, refl, refl, refl, refl)

-- and where what overlaps some intervals may be placed; the last has all 63 nodes
met :
    (nodes_of (meeting_set (between 0 0)) ≡ 0 ∷ 1 ∷ 3 ∷ 7 ∷ 15 ∷ 31 ∷ [])
    × (nodes_of (meeting_set (between 1 1)) ≡ 0 ∷ 1 ∷ 3 ∷ 7 ∷ 15 ∷ 32 ∷ [])
    × (nodes_of (meeting_set (between 0 1)) ≡ 0 ∷ 1 ∷ 3 ∷ 7 ∷ 15 ∷ 31 ∷ 32 ∷ [])
    × (nodes_of (meeting_set (between 20 20)) ≡ 0 ∷ 2 ∷ 5 ∷ 12 ∷ 25 ∷ 51 ∷ [])
    × (meeting_set (between 0 31) ≡ 2 ^ 63 - 1)
unfolding nodes_of nodes_from nodes_where mask_below is_met covered
met = (refl, refl, refl, refl, refl)

-- some ranges, whose widths are checked below
small : Buckets
small = record { start = pos 0; end = pos 31; width = 1 }

below_zero : Buckets
below_zero = record { start = negsuc 62; end = pos 0; width = 2 }

eights : Buckets
eights = record { start = pos 0; end = pos 128; width = 8 }

wide : Buckets
wide = record { start = negsuc 10239; end = pos 15360; width = 1024 }

bytes : Buckets
bytes = record { start = negsuc 127; end = pos 127; width = 8 }

whole : Buckets
whole = record { start = negsuc 9223372036854775807; end = pos 9223372036854775807; width = 576460752303423488 }

small_ends : (bucket small (pos 0) ≡ 0) × (bucket small (pos 31) ≡ 31)
unfolding small
small_ends = (refl, refl)

below_zero_buckets : (bucket below_zero (negsuc 62) ≡ 0) × (bucket below_zero (negsuc 0) ≡ 31) × (bucket below_zero (pos 0) ≡ 31)
unfolding below_zero
below_zero_buckets = (refl, refl, refl)

eights_buckets : (bucket eights (pos 7) ≡ 0) × (bucket eights (pos 8) ≡ 1) × (bucket eights (pos 128) ≡ 16) × (chunk_count eights ≡ 48)
unfolding eights
eights_buckets = (refl, refl, refl, refl)

wide_buckets : (bucket wide (negsuc 10239) ≡ 0) × (bucket wide (pos 10240) ≡ 20) × (bucket wide (pos 15360) ≡ 25) × (chunk_count wide ≡ 57)
unfolding wide
wide_buckets = (refl, refl, refl, refl)

bytes_buckets : (bucket bytes (negsuc 127) ≡ 0) × (bucket bytes (pos 127) ≡ 31) × (chunk_count bytes ≡ 63)
unfolding bytes
bytes_buckets = (refl, refl, refl)

whole_buckets : (bucket whole (negsuc 9223372036854775807) ≡ 0) × (bucket whole (pos 9223372036854775807) ≡ 31) × (chunk_count whole ≡ 63)
unfolding whole
whole_buckets = (refl, refl, refl)

-- 0 to 30 has no layout for a type whose least span is 31, and 5 to 4 has none
no_layout_0_30 : HasLayout 31 (pos 0) (pos 30) → ⊥
no_layout_0_30 layout = let allowed : 31 ≤ 30 = layout.allowed in omega arith

no_layout_5_4 : HasLayout 31 (pos 5) (pos 4) → ⊥
no_layout_5_4 layout = let order = layout.order in omega (arith, ints)

layout_0_31 : HasLayout 31 (pos 0) (pos 31)
layout_0_31 = record { order = omega (arith, ints); wide = lit≤ tt; allowed = lit≤ tt }

-- the widths of these spans
widths :
    IsWidth 31 1
    × IsWidth 63 2
    × IsWidth 128 8
    × IsWidth 25600 1024
    × IsWidth 255 8
    × IsWidth 18446744073709551615 576460752303423488
widths = (
  width_of_exponent 31 0 (lit≤ tt) (lit< tt),
  width_of_exponent 63 1 (lit≤ tt) (lit< tt),
  width_of_exponent 128 3 (lit≤ tt) (lit< tt),
  width_of_exponent 25600 10 (lit≤ tt) (lit< tt),
  width_of_exponent 255 3 (lit≤ tt) (lit< tt),
  width_of_exponent 18446744073709551615 59 (lit≤ tt) (lit< tt),
)
