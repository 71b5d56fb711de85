use Rattle.std.proofs.Common.{◌≡◌, ◌≤◌, ◌++◌, ℕ, List, length, take, drop, map, ap, sym, subst, subst₂, ◌∙◌, arith}
use Rattle.std.specs.List.{All, AllZip, flat_map}
use Rattle.std.proofs.lemmas.List.{drop-map, length-map, map-append, take-append-drop, take-map}
use Rattle.i_tree.proofs.RootLemmas.Joined.{All-behind, All-front, All-of_map}
use Rattle.plane.specs.declared.edge.Edge.{Edge}
use Rattle.plane.specs.declared.point.Point.{Point}
use Rattle.overlay.specs.Boundary.{AreBroken}
use Rattle.noding.specs.Offsets.{offsets}
use Rattle.noding.specs.Windings.{IsClosed}
use Rattle.monotone_chains.specs.Stretches.{IsStretch, IsWidened, chord}
use Rattle.monotone_chains.specs.Stretches.Cut.{IsPart, way}
use Rattle.monotone_chains.specs.declared.stretches.parts.Part.{Part}
use Rattle.overlay.proofs.Callers.{bounds-nest, filled-bounds}
use Rattle.monotone_chains.proofs.StretchLemmas.Callers.{chords-closed, widened-boundary}
use Rattle.monotone_chains.proofs.StretchLemmas.Nested.{nest-widened}
use Rattle.monotone_chains.proofs.boundary.boundary_along.Goals as goal

-- of all chords the subject's are the first ones, and the clip's the others
module _ (parts : List Part) (count : ℕ) (list chords : List Edge) (same : list ≡ chords) (are : chords ≡ map chord (map way parts)) where
  subject-chords : take count list ≡ map chord (map way (take count parts))
  subject-chords = ap (λ (edges : List Edge). take count edges) (same ∙ are) ∙ take-map chord count (map way parts) ∙ ap (map chord) (take-map way count parts)

  clip-chords : drop count list ≡ map chord (map way (drop count parts))
  clip-chords = ap (λ (edges : List Edge). drop count edges) (same ∙ are) ∙ drop-map chord count (map way parts) ∙ ap (map chord) (drop-map way count parts)

  some-chords : count ≤ length parts → count ≤ length list
  some-chords within =
      let all = ap (λ (edges : List Edge). length edges) (same ∙ are) in
      let size = length-map (map way parts) chord in
      let of_parts = length-map parts way in
      omega (arith, within, all, size, of_parts)

-- all ways are those of the subject and those of the clip
all-ways : (parts : List Part) (count : ℕ) → map way parts ≡ map way (take count parts) ++ map way (drop count parts)
all-ways parts count = ap (map way) (sym (take-append-drop count parts)) ∙ map-append way (take count parts) (drop count parts)

all-stretches : (parts : List Part) (count : ℕ) → All IsStretch (map way (take count parts) ++ map way (drop count parts)) → All IsPart parts
all-stretches parts count each = All-of_map IsStretch way parts (subst (All IsStretch) (sym (all-ways parts count)) each)

pub bounding_edges-requires-clause-count : goal.bounding_edges-requires-clause-count
bounding_edges-requires-clause-count g c =
    let (subject, clip, closed, clip_closed, (are, within)) = c.requires.cut in
    let told = c.in_ok-chords.ensures ∙ ap (λ (parts : List Part). map chord (map way parts)) c.deref.ensures.value in
    some-chords c.args.stretches.now.parts.items c.args.stretches.now.count c.deref-2.result.now c.in_ok-chords.chords.items c.deref-2.ensures.value told within

pub bounding_edges-requires-clause-closed : goal.bounding_edges-requires-clause-closed
bounding_edges-requires-clause-closed g c =
    let (subject, clip, closed, clip_closed, (are, within)) = c.requires.cut in
    let parts = c.args.stretches.now.parts.items in
    let count = c.args.stretches.now.count in
    let told = c.in_ok-chords.ensures ∙ ap (λ (parts : List Part). map chord (map way parts)) c.deref.ensures.value in
    subst IsClosed (sym (subject-chords parts count c.deref-2.result.now c.in_ok-chords.chords.items c.deref-2.ensures.value told))
    (chords-closed (map way (take count parts)) (All-front IsStretch (map way (take count parts)) (map way (drop count parts)) are.each) (subst IsClosed are.is closed))

pub bounding_edges-requires-clause-clip_closed : goal.bounding_edges-requires-clause-clip_closed
bounding_edges-requires-clause-clip_closed g c =
    let (subject, clip, closed, clip_closed, (are, within)) = c.requires.cut in
    let parts = c.args.stretches.now.parts.items in
    let count = c.args.stretches.now.count in
    let told = c.in_ok-chords.ensures ∙ ap (λ (parts : List Part). map chord (map way parts)) c.deref.ensures.value in
    subst IsClosed (sym (clip-chords parts count c.deref-2.result.now c.in_ok-chords.chords.items c.deref-2.ensures.value told))
    (chords-closed (map way (drop count parts)) (All-behind IsStretch (map way (take count parts)) (map way (drop count parts)) are.each) (subst IsClosed are.clip_is clip_closed))

pub append_widened-requires-clause-parts : goal.append_widened-requires-clause-parts
append_widened-requires-clause-parts g c =
    let (subject, clip, closed, clip_closed, (are, within)) = c.requires.cut in
    subst (All IsPart) (sym c.deref-3.ensures.value) (all-stretches c.args.stretches.now.parts.items c.args.stretches.now.count are.each)

pub returns-clause-ok : goal.returns-clause-ok
returns-clause-ok g c = λ subject clip cut.
    (let (are, within) = cut in
    let parts = c.args.stretches.now.parts.items in
    let count = c.args.stretches.now.count in
    let told = c.in_ok-chords.ensures ∙ ap (λ (parts : List Part). map chord (map way parts)) c.deref.ensures.value in
    let first = subject-chords parts count c.deref-2.result.now c.in_ok-chords.chords.items c.deref-2.ensures.value told in
    let second = clip-chords parts count c.deref-2.result.now c.in_ok-chords.chords.items c.deref-2.ensures.value told in
    let (broken, broken_clip, are_broken, filled) = c.in_ok-bounding.ensures.filled in
    let of_chords = subst₂ (λ (one other : List Edge). AreBroken one other broken broken_clip) first second are_broken in
    let (rings, contours, points_are, ends_are, sides) = c.in_ok-contours_in_place.ensures.ok in
    let none = c.in_ok-rings.ensures.items in
    let points = c.deref-4.ensures.value ∙ points_are ∙ ap (λ (before : List Point). before ++ flat_map (λ ring. ring) rings) none in
    let ends = c.deref-5.ensures.value ∙ ends_are ∙ ap (λ before. before ++ offsets (length c.in_ok-rings.rings.items) rings) c.new-ends.ensures.items ∙ ap (λ (before : List Point). offsets (length before) rings) none in
    let (widened, wide, widened_points, widened_ends) = c.in_ok-append_widened.ensures rings (points, ends) in
    let ways = ap (map way) c.deref-3.ensures.value ∙ all-ways parts count in
    let (boundary, sloped) =
    widened-boundary c.args.choice.rule c.args.choice.operation subject clip (map way (take count parts)) (map way (drop count parts)) are broken broken_clip of_chords c.in_ok-bounding.bounding.items filled rings contours widened
    (subst (λ (stretches : List (List Point)). AllZip (IsWidened stretches) rings widened) ways wide) in
    let bounds = filled-bounds (map chord (map way (take count parts))) (map chord (map way (drop count parts))) broken broken_clip of_chords c.args.choice.rule c.args.choice.operation c.in_ok-bounding.bounding.items filled in
    let nest =
    nest-widened c.args.choice.rule c.args.choice.operation subject clip (map way (take count parts)) (map way (drop count parts)) are broken broken_clip of_chords c.in_ok-bounding.bounding.items filled rings contours widened
    (subst (λ (stretches : List (List Point)). AllZip (IsWidened stretches) rings widened) ways wide)
    (bounds-nest c.args.choice.rule c.args.choice.operation (map chord (map way (take count parts))) (map chord (map way (drop count parts))) c.in_ok-bounding.bounding.items bounds rings contours sides) in
    (widened, boundary, sloped, nest, widened_points, widened_ends))
