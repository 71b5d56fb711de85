-- How often edges wind where long stretches stand for their chords, told at the point that stands for the point.
use Rattle.std.proofs.Common.{◌≡◌, ◌≢◌, inl, inr, ⊎_elim, pos, List, [], ◌∷◌, length, reverse, arith, ap, refl, sym, ◌∙◌}
use Rattle.std.specs.List.{All, AllZip, Contains, flat_map}
use Rattle.std.proofs.lemmas.Bool.{cases_lt}
use Rattle.std.proofs.lemmas.Int.{by_lt_z, ints}
use Rattle.std.proofs.lemmas.List.{length-reverse}
use Rattle.std.proofs.lemmas.List.Elements.{All-contains, All-head, All-tail}
use Rattle.plane.specs.declared.edge.Edge.{Edge}
use Rattle.plane.specs.declared.point.Point.{Point}
use Rattle.plane.specs.Meet.Edges.{RationalPoint}
use Rattle.plane.specs.Ends.{reversed}
use Rattle.noding.specs.Windings.{pieces, winding}
use Rattle.monotone_chains.specs.Stretches.{GoesAlong, IsLong, IsStretch, chord}
use Rattle.noding.proofs.SnapLemmas.Along.{Passes-end, Passes-start}
use Rattle.noding.proofs.SnapLemmas.Numbers.{both}
use Rattle.noding.proofs.SnapLemmas.Windings.{back, winding-added, winding-append}
use Rattle.monotone_chains.proofs.StretchLemmas.Placed.{IsPlaced, LiesIn}
use Rattle.monotone_chains.proofs.StretchLemmas.Shifts.{IsShift, Matches}
use Rattle.monotone_chains.proofs.StretchLemmas.Turned.{turned-back}

-- a stretch of a single edge is its chord
pub single-pieces : (t : List Point) → IsStretch t → ¬ (IsLong t) → pieces t ≡ chord t ∷ []
single-pieces [] is short = let some = is.some in absurd (omega (arith, some))
single-pieces (from ∷ []) is short = let some = is.some in absurd (omega (arith, some))
single-pieces (from ∷ to ∷ []) is short = refl
single-pieces (from ∷ to ∷ next ∷ others) is short = absurd (short (omega arith))

-- a vertical edge winds around nothing
pub winding-vertical : (edge : Edge) (point : RationalPoint) → edge.x1 ≡ edge.x0 → winding (edge ∷ []) point ≡ pos 0
winding-vertical edge point upright =
    let sum = winding-added (edge ∷ []) point in
    let on = back edge point (omega (arith, ints, upright)) in
    let turned = back (reversed edge) point (omega (arith, ints, upright)) in
    omega (arith, ints, sum, on, turned)

module _ (all : List (List Point)) (each : All IsStretch all) (point other : RationalPoint) (shift : IsShift all point other) where
  is_stretch : (s : List Point) → Contains all s → IsStretch s
  is_stretch s among = All-contains IsStretch all s each among

  -- each stretch counts for the point what its chord counts for the other one
  pub all-match : (s : List Point) → Contains all s → Matches s point other
  all-match s among = ⊎_elim (shift.long s among)
      (λ upto.
      let short : ¬ (IsLong s) = λ long. omega (arith, long, upto) in
      ap (λ (edges : List Edge). winding edges point) (single-pieces s (is_stretch s among) short)
      ∙ shift.short (chord s) s among short (Passes-start (chord s), Passes-end (chord s)))
      (cases_lt 2 (length s))

  -- ---- what goes along the stretches

  -- an edge that is placed and the chord of no long stretch counts the same for both points
  unmatched : (edge : Edge) → ((s : List Point) → Contains all s → IsLong s → (chord s ≢ edge) × (chord s ≢ reversed edge)) → IsPlaced all edge → winding (edge ∷ []) point ≡ winding (edge ∷ []) other
  unmatched edge none (inl (s, among, long, inl is)) = absurd ((none s among long).0 (sym is))
  unmatched edge none (inl (s, among, long, inr is)) = absurd ((none s among long).1 (sym (ap reversed is)))
  unmatched edge none (inr (t, among, short, lies)) = shift.short edge t among short lies

  -- the points along which an edge goes count what it counts for the other point
  pub way-winding : (edge : Edge) (way : List Point) → GoesAlong all edge way → (edge.x1 ≢ edge.x0 → IsPlaced all edge) → winding (pieces way) point ≡ winding (edge ∷ []) other
  way-winding edge way (inl (is, inl among)) placed = all-match way among ∙ ap (λ (e : Edge). winding (e ∷ []) other) is
  way-winding edge way (inl (is, inr among)) placed =
      let found = is_stretch (reverse way) among in
      let some = found.some in
      let same = length-reverse way in
      turned-back way point other (omega (arith, some, same)) (all-match (reverse way) among) ∙ ap (λ (e : Edge). winding (e ∷ []) other) is
  way-winding edge way (inr (is, none)) placed =
      ap (λ (points : List Point). winding (pieces points) point) is
      ∙ by_lt_z edge.x1 edge.x0
      (λ left. unmatched edge none (placed (λ same. omega (arith, ints, left, same))))
      (λ from. by_lt_z edge.x0 edge.x1
      (λ right. unmatched edge none (placed (λ same. omega (arith, ints, right, same))))
      (λ upto.
      let upright : edge.x1 ≡ edge.x0 = omega (arith, ints, from, upto) in
      winding-vertical edge point upright ∙ sym (winding-vertical edge other upright)))

  -- and so all that edges go along
  pub ways-winding : (edges : List Edge) (ways : List (List Point)) → AllZip (GoesAlong all) edges ways → All (λ edge. edge.x1 ≢ edge.x0 → IsPlaced all edge) edges → winding (flat_map pieces ways) point ≡ winding edges other
  ways-winding [] [] go placed = refl
  ways-winding [] (way ∷ ways) go placed = absurd go
  ways-winding (edge ∷ edges) [] go placed = absurd go
  ways-winding (edge ∷ edges) (way ∷ ways) (goes, go) placed =
      winding-append (pieces way) (flat_map pieces ways) point
      ∙ both (winding (pieces way) point) (winding (edge ∷ []) other) (winding (flat_map pieces ways) point) (winding edges other)
      (way-winding edge way goes (All-head (λ (e : Edge). e.x1 ≢ e.x0 → IsPlaced all e) edge edges placed))
      (ways-winding edges ways go (All-tail (λ (e : Edge). e.x1 ≢ e.x0 → IsPlaced all e) edge edges placed))
      ∙ sym (winding-append (edge ∷ []) edges other)

  -- ---- what the chords are broken into

  -- edges that lie along a stretch of a single edge count the same for both points
  pub lying : (t : List Point) → Contains all t → ¬ (IsLong t) → (edges : List Edge) → All (LiesIn t) edges → winding edges other ≡ winding edges point
  lying t among short [] lie = refl
  lying t among short (edge ∷ edges) lie =
      winding-append (edge ∷ []) edges other
      ∙ both (winding (edge ∷ []) other) (winding (edge ∷ []) point) (winding edges other) (winding edges point)
      (sym (shift.short edge t among short (All-head (LiesIn t) edge edges lie)))
      (lying t among short edges (All-tail (LiesIn t) edge edges lie))
      ∙ sym (winding-append (edge ∷ []) edges point)
