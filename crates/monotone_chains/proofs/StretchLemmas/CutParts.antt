-- Parts behind those that were there.
use Rattle.std.proofs.Common.{◌≡◌, ◌≢◌, ℕ, ◌+◌, ◌-◌, ◌<◌, ◌≤◌, List, [], ◌∷◌, ◌++◌, length, map, refl, sym, ap, ap₂, ◌∙◌, subst, append-nil, append_assoc, arith}
use Rattle.std.specs.List.{All, Contains, between, flat_map}
use Rattle.std.proofs.lemmas.Grind.{flat_map-append}
use Rattle.std.proofs.lemmas.List.{map-append}
use Rattle.std.proofs.lemmas.List.Edits.{length-between}
use Rattle.std.proofs.lemmas.List.Elements.{All-append, All-nil, All-push, All-same, All-weaker, Contains-append_left, Contains-append_right, Contains-get_or, filter-append}
use Rattle.plane.specs.declared.edge.Edge.{Edge}
use Rattle.plane.specs.declared.point.Point.{Point}
use Rattle.overlay.specs.Contours.Outlines.{ring_point}
use Rattle.overlay.specs.Contours.Rings.{has_two_ends, real_edges, ring_edges}
use Rattle.plane.specs.Ends.{edge_between}
use Rattle.noding.specs.Windings.{pieces}
use Rattle.monotone_chains.specs.Stretches.{IsStretch}
use Rattle.monotone_chains.specs.Stretches.Cut.{AppendsParts, IsCutInParts, IsPart, IsShort, edges_along, way}
use Rattle.monotone_chains.specs.declared.stretches.parts.Part.{Part}
use Rattle.overlay.proofs.ContourLemmas.RealEdges.{closing, few_pieces}
use Rattle.monotone_chains.proofs.StretchLemmas.CutLists.{between-joined}
use Rattle.monotone_chains.proofs.StretchLemmas.CutWays.{IsStretch-within, between-all, length-way, pieces-joined}

-- ---- parts of edges

-- the edges of parts, and of others behind them
pub edges_along-append : (parts others : List Part) → edges_along (parts ++ others) ≡ edges_along parts ++ edges_along others
edges_along-append parts others = ap (λ (ways : List (List Point)). flat_map pieces ways) (map-append way parts others) ∙ flat_map-append pieces (map way parts) (map way others)

-- parts of some edges, and then of others
pub AppendsParts-then : (edges first second : List Edge) (before so_far after : List Part) → edges ≡ first ++ second → AppendsParts first before so_far → AppendsParts second so_far after → AppendsParts edges before after
AppendsParts-then edges first second before so_far after both (parts, are, each, is) (others, are', each', is') = (
  parts ++ others,
  both ∙ ap₂ (λ (one other : List Edge). one ++ other) are are' ∙ sym (edges_along-append parts others),
  All-append IsPart parts others each each',
  is' ∙ ap (λ (list : List Part). list ++ others) is ∙ append_assoc before parts others,
)

-- of the real edges of points up to one, and then of a run from it on
pub AppendsParts-run : (mid upto : ℕ) (points run : List Point) (before so_far after : List Part) → mid ≤ upto → upto < length points → run ≡ between mid (upto + 1) points
    → AppendsParts (real_edges (pieces (between 0 (mid + 1) points))) before so_far → AppendsParts (real_edges (pieces run)) so_far after
    → AppendsParts (real_edges (pieces (between 0 (upto + 1) points))) before after
AppendsParts-run mid upto points run before so_far after order within along =
    let first = pieces (between 0 (mid + 1) points) in
    AppendsParts-then (real_edges (pieces (between 0 (upto + 1) points))) (real_edges first) (real_edges (pieces run)) before so_far after
    (ap real_edges (pieces-joined 0 mid upto points (omega arith) order within ∙ ap (λ (rest : List Point). first ++ pieces rest) (sym along))
    ∙ filter-append has_two_ends first (pieces run))

-- of those along a ring, and then of the one from its last point to the first
pub AppendsParts-ring : (ring : List Point) (before so_far after : List Part) → ring ≢ [] → AppendsParts (real_edges (pieces ring)) before so_far
    → AppendsParts (real_edges (edge_between (ring_point ring (length ring - 1)) (ring_point ring 0) ∷ [])) so_far after → AppendsParts (real_edges (ring_edges ring)) before after
AppendsParts-ring ring before so_far after some =
    let last = ring_point ring (length ring - 1) in
    let first = ring_point ring 0 in
    let closed = edge_between last first ∷ [] in
    AppendsParts-then (real_edges (ring_edges ring)) (real_edges (pieces ring)) (real_edges closed) before so_far after
    (ap real_edges (closing ring last first _ some refl refl) ∙ filter-append has_two_ends (pieces ring) closed)

-- ---- parts that points are cut into

pub cut-none : (points : List Point) (most : ℕ) (parts : List Part) → length points < 2 → IsCutInParts points most parts parts
cut-none points most parts few = (
  [],
  record { is = few_pieces points few; each = All-nil IsPart; within = All-nil (λ part. All (Contains points) (way part)) },
  All-nil (IsShort most),
  sym (append-nil parts),
)

-- one more
pub cut-more : (points : List Point) (from next end most : ℕ) (before so_far after : List Part) (part : Part) → IsStretch points → from ≤ next → next < end → end < length points → end ≤ next + most
    → way part ≡ between next (end + 1) points → after ≡ so_far ++ part ∷ []
    → IsCutInParts (between from (next + 1) points) most before so_far → IsCutInParts (between from (end + 1) points) most before after
cut-more points from next end most before so_far after part stretch rising later inside small along pushed (group, cut, few, is) = (
  group ++ part ∷ [],
  record {
    is = pieces-joined from next end points rising (omega (arith, later)) inside
        ∙ ap₂ (λ (one other : List Edge). one ++ other) cut.is (ap pieces (sym along) ∙ sym (append-nil (pieces (way part))))
        ∙ sym (edges_along-append group (part ∷ []));
    each = All-push IsPart group part cut.each (subst IsStretch (sym along) (IsStretch-within points next end later inside stretch));
    within = All-push Inside group part (All-weaker (λ one. All (Contains (between from (next + 1) points)) (way one)) Inside wider group cut.within) here;
  },
  All-push (IsShort most) group part few short,
  pushed ∙ ap (λ (list : List Part). list ++ part ∷ []) is ∙ append_assoc before group (part ∷ []),
)
  where
    whole : List Point
    whole = between from (end + 1) points

    Inside : Part → Type 0
    Inside one = All (Contains whole) (way one)

    short : IsShort most part
    short =
        let size = length-between points next (end + 1) (omega (arith, inside)) in
        let same = ap (λ (list : List Point). length list) along in
        omega (arith, size, same, length-way part, small, later)

    wider : (one : Part) → All (Contains (between from (next + 1) points)) (way one) → Inside one
    wider one all =
        subst (λ (list : List Point). All (Contains list) (way one)) (sym (between-joined from (next + 1) (end + 1) points (omega (arith, rising)) (omega (arith, later))))
        (All-weaker (Contains (between from (next + 1) points)) (Contains (between from (next + 1) points ++ between (next + 1) (end + 1) points))
        (λ point held. Contains-append_left (between from (next + 1) points) (between (next + 1) (end + 1) points) point held) (way one) all)

    here : Inside part
    here =
        subst (λ (list : List Point). All (Contains list) (way part)) (sym (between-joined from next (end + 1) points rising (omega (arith, later))))
        (All-same (Contains (between from next points ++ between next (end + 1) points)) (way part) (between next (end + 1) points) along
        (λ k d within. Contains-append_right (between from next points) (between next (end + 1) points) _ (Contains-get_or (between next (end + 1) points) k d within)))

-- they are parts of these edges
cut-appends : (points : List Point) (most : ℕ) (before after : List Part) → IsCutInParts points most before after → AppendsParts (pieces points) before after
cut-appends points most before after (group, cut, few, is) = (group, cut.is, cut.each, is)

-- the first of the points, those between, and the last
pub cut-three : (points : List Point) (first last upto most : ℕ) (before one two after : List Part) → first ≤ last → last ≤ upto → length points ≡ upto + 1
    → IsCutInParts (between 0 (first + 1) points) 1 before one → IsCutInParts (between first (last + 1) points) most one two → IsCutInParts (between last (upto + 1) points) 1 two after
    → AppendsParts (pieces points) before after
cut-three points first last upto most before one two after order rest size begin middle end =
    AppendsParts-then (pieces points) (pieces (between 0 (first + 1) points)) (pieces (between first (upto + 1) points)) before one after
    (ap pieces (sym (between-all points (upto + 1) (omega (arith, size)))) ∙ pieces-joined 0 first upto points (omega arith) (omega (arith, order, rest)) (omega (arith, size)))
    (cut-appends (between 0 (first + 1) points) 1 before one begin)
    (AppendsParts-then (pieces (between first (upto + 1) points)) (pieces (between first (last + 1) points)) (pieces (between last (upto + 1) points)) one two after
    (pieces-joined first last upto points order rest (omega (arith, size)))
    (cut-appends (between first (last + 1) points) most one two middle)
    (cut-appends (between last (upto + 1) points) 1 two after end))
