-- Widened rings: their edges are the pieces of the ways of the rings' edges.
use Rattle.std.proofs.Common.{◌≡◌, ◌≢◌, List, [], ◌∷◌, ◌++◌, append-nil, append_assoc, refl, sym, ap, ap₂, ◌∙◌}
use Rattle.std.specs.List.{All, AllZip, flat_map}
use Rattle.std.proofs.lemmas.List.Concat.{flat_map-append}
use Rattle.plane.specs.declared.edge.Edge.{Edge}
use Rattle.plane.specs.declared.point.Point.{Point}
use Rattle.overlay.specs.Contours.Rings.{ring_edges}
use Rattle.noding.specs.Windings.{pieces}
use Rattle.monotone_chains.specs.Stretches.{GoesAlong, IsStretch, IsWidened, but_last}
use Rattle.overlay.proofs.BoundaryLemmas.Broken.{zip-append}
use Rattle.overlay.proofs.ContourLemmas.Rings.{pieces-append}
use Rattle.monotone_chains.proofs.StretchLemmas.Ways.{IsWay, but_last-way, goes-way}

goes-ways : (stretches : List (List Point)) (edges : List Edge) (ways : List (List Point)) → All IsStretch stretches → AllZip (GoesAlong stretches) edges ways → AllZip IsWay edges ways
goes-ways stretches [] [] each zip = tt
goes-ways stretches (edge ∷ edges) (way ∷ ways) each zip = (goes-way stretches edge way each zip.0, goes-ways stretches edges ways each zip.1)
goes-ways stretches [] (way ∷ ways) each zip = absurd zip
goes-ways stretches (edge ∷ edges) [] each zip = absurd zip

-- the ways of a path, one after the other
record Linked (from : Point) (to : Point) (ways : List (List Point)) : Type 0 where
  rest : List Point
  starts : flat_map but_last ways ≡ from ∷ rest
  are : pieces (from ∷ (rest ++ to ∷ [])) ≡ flat_map pieces ways

path-linked : (from : Point) (points : List Point) (to : Point) (ways : List (List Point)) → AllZip IsWay (pieces (from ∷ (points ++ to ∷ []))) ways → Linked from to ways
path-linked from [] to [] zip = absurd zip
path-linked from [] to (way ∷ []) zip =
    let is = zip.0 in record {
      rest = is.inner;
      starts = append-nil (but_last way) ∙ but_last-way _ way is;
      are = ap pieces (sym is.is) ∙ sym (append-nil (pieces way));
    }
path-linked from [] to (way ∷ other ∷ ways) zip = absurd zip.1
path-linked from (next ∷ points) to [] zip = absurd zip
path-linked from (next ∷ points) to (way ∷ ways) zip =
    let is = zip.0 in
    let later = path-linked next points to ways zip.1 in record {
      rest = is.inner ++ next ∷ later.rest;
      starts = ap₂ (λ (one other : List Point). one ++ other) (but_last-way _ way is) later.starts;
      are = ap (λ (points : List Point). pieces (from ∷ points)) (append_assoc is.inner (next ∷ later.rest) (to ∷ []))
          ∙ pieces-append (from ∷ is.inner) next (later.rest ++ to ∷ [])
          ∙ ap₂ (λ (one other : List Edge). one ++ other) (ap pieces (sym is.is)) later.are;
    }

-- The edges of a widened ring are the pieces of the ways.
pub widened-edges : (stretches : List (List Point)) (ring : List Point) (ways : List (List Point)) (widened : List Point) → All IsStretch stretches → AllZip (GoesAlong stretches) (ring_edges ring) ways
    → widened ≡ flat_map but_last ways → ring_edges widened ≡ flat_map pieces ways
widened-edges stretches [] [] widened each zip is = ap ring_edges is
widened-edges stretches [] (way ∷ ways) widened each zip is = absurd zip
widened-edges stretches (first ∷ others) ways widened each zip is =
    let linked = path-linked first others first ways (goes-ways stretches (ring_edges (first ∷ others)) ways each zip) in
    ap ring_edges (is ∙ linked.starts) ∙ linked.are

-- it has a point if the ring does
pub widened-some : (stretches : List (List Point)) (ring : List Point) (ways : List (List Point)) (widened : List Point) → All IsStretch stretches → AllZip (GoesAlong stretches) (ring_edges ring) ways
    → widened ≡ flat_map but_last ways → ring ≢ [] → widened ≢ []
widened-some stretches [] ways widened each zip is some none = absurd (some refl)
widened-some stretches (first ∷ others) ways widened each zip is some none =
    let linked = path-linked first others first ways (goes-ways stretches (ring_edges (first ∷ others)) ways each zip) in
    let starts = sym none ∙ is ∙ linked.starts in cc

-- So those of all widened rings.
pub widened-ways : (stretches rings widened : List (List Point)) → All IsStretch stretches → AllZip (IsWidened stretches) rings widened
    → (ways : List (List Point)) × AllZip (GoesAlong stretches) (flat_map ring_edges rings) ways × (flat_map ring_edges widened ≡ flat_map pieces ways)
widened-ways stretches [] [] each zip = ([], tt, refl)
widened-ways stretches (ring ∷ rings) (wide ∷ widened) each zip =
    let (ways, goes, is) = zip.0 in
    let (later, others, are) = widened-ways stretches rings widened each zip.1 in (
      ways ++ later,
      zip-append (GoesAlong stretches) (ring_edges ring) (flat_map ring_edges rings) ways later goes others,
      ap₂ (λ (one other : List Edge). one ++ other) (widened-edges stretches ring ways wide each goes is) are ∙ sym (flat_map-append pieces ways later),
    )
widened-ways stretches [] (wide ∷ widened) each zip = absurd zip
widened-ways stretches (ring ∷ rings) [] each zip = absurd zip
