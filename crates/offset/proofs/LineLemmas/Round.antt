-- What goes round gains nothing: so closed edges are told, and what rings count.
use Rattle.std.proofs.Common.{◌≡◌, ℤ, pos, ◌+ℤ◌, ◌-ℤ◌, List, [], ◌∷◌, ◌++◌, refl, arith}
use Rattle.std.proofs.lemmas.Int.{ints}
use Rattle.plane.specs.declared.edge.Edge.{Edge}
use Rattle.plane.specs.declared.point.Point.{Point}
use Rattle.plane.specs.Ends.{end_of, start_of}
use Rattle.noding.specs.Windings.{IsClosed, count, pieces}
use Rattle.overlay.specs.Contours.Rings.{ring_edges}
use Rattle.overlay.specs.Fill.Pieces.{total}
use Rattle.overlay.proofs.FillLemmas.Totals.{total-difference}
use Rattle.offset.proofs.PieceLemmas.Closed.{counted}

-- What an edge gains: what its end gives, less what its start gives.
abbrev pub gain : (Point → ℤ) → Edge → ℤ
gain give edge = give (end_of edge) -ℤ give (start_of edge)

pieces-gain : (give : Point → ℤ) (from : Point) (others : List Point) (to : Point) → total (gain give) (pieces (from ∷ (others ++ to ∷ []))) ≡ (give to -ℤ give from)
pieces-gain give from [] to = omega (arith, ints)
pieces-gain give from (next ∷ others) to = let rest = pieces-gain give next others to in omega (arith, ints, rest)

-- The edges of a ring gain nothing.
pub ring-gain : (give : Point → ℤ) (ring : List Point) → total (gain give) (ring_edges ring) ≡ pos 0
ring-gain give [] = refl
ring-gain give (first ∷ others) = let sum = pieces-gain give first others first in omega (arith, ints, sum)

-- Edges are closed that gain nothing, whatever points give.
pub closed-of : (edges : List Edge) → ((give : Point → ℤ) → total (gain give) edges ≡ pos 0) → IsClosed edges
closed-of edges nothing test =
    let none = nothing (λ point. count (test point)) in
    let difference = total-difference (λ (edge : Edge). count (test (end_of edge))) (λ (edge : Edge). count (test (start_of edge))) edges in
    let starts = counted (λ (edge : Edge). test (start_of edge)) edges in
    let ends = counted (λ (edge : Edge). test (end_of edge)) edges in
    omega (arith, ints, none, difference, starts, ends)
