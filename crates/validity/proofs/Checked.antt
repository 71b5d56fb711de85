-- What the checks of rings and edges find.
use Rattle.std.proofs.Common.{◌≡◌, ◌≤◌, ℕ, Bool, true, List, get_or, length, sym, subst, ◌∙◌}
use Rattle.std.proofs.lemmas.Option.{get_or_from_slice_get}
use Rattle.plane.specs.declared.edge.Edge.{Edge}
use Rattle.plane.specs.declared.point.Point.{Point}
use Rattle.plane.specs.Pairs.Pairs.{PairAt}
use Rattle.overlay.specs.Contours.Rings.{real_edges, ring_edges}
use Rattle.validity.specs.Meeting.{AllMayMeet, MayNotMeet}
use Rattle.validity.specs.Validity.{HasWrongPair, IsSimple}
use Rattle.validity.proofs.Meetings.{ends-noded, starts-once}

-- a ring with three edges or more, which meet as they may, is simple
pub simple-made : (ring : List Point) (edges : List Edge) → edges ≡ real_edges (ring_edges ring) → 3 ≤ length edges → AllMayMeet true edges → IsSimple ring
simple-made ring edges are enough all =
    let each = subst (λ (list : List Edge). AllMayMeet true list) are all in record {
      three_points = subst (λ (list : List Edge). 3 ≤ length list) are enough;
      once = starts-once (real_edges (ring_edges ring)) each;
      noded = ends-noded (real_edges (ring_edges ring)) each;
    }

-- a pair that is found is told by its edges
pub wrong-told : (in_ring : Bool) (edges : List Edge) (i j : ℕ) (one other : Edge) → one ≡ get_or edges i one → other ≡ get_or edges j other → PairAt (MayNotMeet in_ring) edges i j → HasWrongPair in_ring edges one other
wrong-told in_ring edges i j one other first second pair = (
  i,
  j,
  record {
    one = pair.one;
    other = pair.other;
    rising = pair.rising;
    first = pair.first;
    second = pair.second;
    meet = (sym (first ∙ get_or_from_slice_get edges i pair.one one pair.first), sym (second ∙ get_or_from_slice_get edges j pair.other other pair.second), pair.meet);
  },
)
