-- The chords of closed edges' stretches are closed.
use Rattle.std.proofs.Common.{◌≡◌, ◌+◌, ◌≤◌, Bool, List, length, [], ◌∷◌, map, refl, sym, subst, arith}
use Rattle.std.specs.List.{All, flat_map}
use Rattle.std.proofs.lemmas.List.Elements.{All-head, All-tail}
use Rattle.std.proofs.lemmas.List.Sums.{sum_by-cons}
use Rattle.plane.specs.declared.edge.Edge.{Edge}
use Rattle.plane.specs.declared.point.Point.{Point}
use Rattle.plane.specs.Ends.{end_of, start_of}
use Rattle.noding.specs.Windings.{IsClosed, pieces}
use Rattle.monotone_chains.specs.Stretches.{IsStretch, chord}
use Rattle.overlay.proofs.ContourLemmas.Counts.{along, ends, ends-append, starts, starts-append, unit}
use Rattle.monotone_chains.proofs.StretchLemmas.Ways.{chord-way}

module _ (test : Point → Bool) where
  -- the pieces of points start and end as often, but for the ends of their chord
  points-balance : (points : List Point) → 2 ≤ length points → starts test (pieces points) + unit test (end_of (chord points)) ≡ unit test (start_of (chord points)) + ends test (pieces points)
  points-balance points some =
      let way = chord-way points some in
      subst (λ (list : List Point). starts test (pieces list) + unit test (end_of (chord points)) ≡ unit test (start_of (chord points)) + ends test (pieces list)) (sym way.is)
      (along test (start_of (chord points)) way.inner (end_of (chord points)))

  -- so those of all stretches do, but for the ends of all chords
  chords-balance : (stretches : List (List Point)) → All IsStretch stretches → starts test (flat_map pieces stretches) + ends test (map chord stretches) ≡ starts test (map chord stretches) + ends test (flat_map pieces stretches)
  chords-balance [] each = refl
  chords-balance (stretch ∷ stretches) each =
      let here = points-balance stretch (All-head IsStretch stretch stretches each).some in
      let later = chords-balance stretches (All-tail IsStretch stretch stretches each) in
      let starts_all = starts-append test (pieces stretch) (flat_map pieces stretches) in
      let ends_all = ends-append test (pieces stretch) (flat_map pieces stretches) in
      let starts_chords = sum_by-cons (λ (e : Edge). unit test (start_of e)) (chord stretch) (map chord stretches) in
      let ends_chords = sum_by-cons (λ (e : Edge). unit test (end_of e)) (chord stretch) (map chord stretches) in
      omega (arith, here, later, starts_all, ends_all, starts_chords, ends_chords)

pub chords-closed : (stretches : List (List Point)) → All IsStretch stretches → IsClosed (flat_map pieces stretches) → IsClosed (map chord stretches)
chords-closed stretches each closed test =
    let sum = chords-balance test stretches each in
    let same = closed test in
    omega (arith, sum, same)
