-- Edges that walk from one point to another, in whatever order they stand, and with closed edges besides; and that a ring has such
-- edges from each of its points to each.
use Rattle.std.proofs.Common.{◌≡◌, inl, inr, ◌+◌, zero, suc, List, [], ◌∷◌, ◌++◌, ap, refl, sym, subst, ◌∙◌, append_assoc, arith}
use Rattle.std.specs.List.{Contains}
use Rattle.std.specs.Prelude.{Bool}
use Rattle.std.proofs.lemmas.List.Elements.{Contains-append_cases, Contains-append_left, Contains-append_right}
use Rattle.i_tree.proofs.SetLemmas.Live.{cut_at_item}
use Rattle.plane.specs.declared.edge.Edge.{Edge}
use Rattle.plane.specs.declared.point.Point.{Point}
use Rattle.noding.specs.Windings.{IsClosed, pieces}
use Rattle.overlay.specs.Contours.Rings.{ring_edges}
use Rattle.overlay.proofs.ContourLemmas.Counts.{along, ends, ends-append, starts, starts-append, unit}
use Rattle.overlay.proofs.ContourLemmas.Rings.{pieces-append}

-- ---- walks

-- In each set of points as many of the edges start as end, but for the point where they come from and the one where they go.
abbrev pub Walks : Point → Point → List Edge → Type 0
Walks from to edges = (test : Point → Bool) → starts test edges + unit test to ≡ ends test edges + unit test from

pub Walks-none : (at : Point) → Walks at at []
Walks-none at test = refl

-- one walk after another
pub Walks-append : (from over to : Point) (some others : List Edge) → Walks from over some → Walks over to others → Walks from to (some ++ others)
Walks-append from over to some others first second test =
    let all_starts = starts-append test some others in
    let all_ends = ends-append test some others in
    let here = first test in
    let there = second test in
    omega (arith, all_starts, all_ends, here, there)

-- there and back again they are closed
pub Walks-closed : (from to : Point) (there back : List Edge) → Walks from to there → Walks to from back → IsClosed (there ++ back)
Walks-closed from to there back first second test =
    let all_starts = starts-append test there back in
    let all_ends = ends-append test there back in
    let onwards = first test in
    let backwards = second test in
    omega (arith, all_starts, all_ends, onwards, backwards)

-- the pieces of a chain walk along it
pub Walks-pieces : (from : Point) (others : List Point) (to : Point) → Walks from to (pieces (from ∷ others ++ to ∷ []))
Walks-pieces from others to test = let sum = along test from others to in omega (arith, sum)

-- ---- walks over some edges alone

-- Edges that may be taken walk from one point to the other.
pub record Reaches (MayTake : Edge → Type 0) (from to : Point) : Type 0 where
  pub edges : List Edge
  pub takes : (edge : Edge) → Contains edges edge → MayTake edge
  pub walks : Walks from to edges

module _ (MayTake : Edge → Type 0) where
  pub Reaches-itself : (at : Point) → Reaches MayTake at at
  Reaches-itself at = record { edges = []; takes = λ edge (k, within, is). absurd (omega (arith, within)); walks = Walks-none at }

  pub Reaches-over : (from over to : Point) → Reaches MayTake from over → Reaches MayTake over to → Reaches MayTake from to
  Reaches-over from over to first second = record {
    edges = first.edges ++ second.edges;
    takes = λ edge held. elim (Contains-append_cases first.edges second.edges edge held) [ inl here ↦ first.takes edge here | inr there ↦ second.takes edge there ];
    walks = Walks-append from over to first.edges second.edges first.walks second.walks;
  }

pub Reaches-wider : (MayTake MayTakeToo : Edge → Type 0) → ((edge : Edge) → MayTake edge → MayTakeToo edge) → (from to : Point) → Reaches MayTake from to → Reaches MayTakeToo from to
Reaches-wider MayTake MayTakeToo wider from to is = record { edges = is.edges; takes = λ edge held. wider edge (is.takes edge held); walks = is.walks }

-- ---- on a ring

-- its edges before one of its points, and those behind it
ring-cut : (first : Point) (others before : List Point) (at : Point) (after : List Point) → others ≡ before ++ at ∷ after
    → ring_edges (first ∷ others) ≡ pieces (first ∷ before ++ at ∷ []) ++ pieces (at ∷ after ++ first ∷ [])
ring-cut first others before at after cut =
    ap (λ (points : List Point). pieces (first ∷ (points ++ first ∷ []))) cut
    ∙ ap (λ (points : List Point). pieces (first ∷ points)) (append_assoc before (at ∷ after) (first ∷ []))
    ∙ pieces-append (first ∷ before) at (after ++ first ∷ [])

from-first : (first : Point) (others : List Point) (at : Point) → Contains (first ∷ others) at → Reaches (Contains (ring_edges (first ∷ others))) first at
from-first first others at (zero, within, is) =
    let all = ring_edges (first ∷ others) in
    subst (λ (point : Point). Reaches (Contains all) first point) is (Reaches-itself (Contains all) first)
from-first first others at (suc k, within, is) =
    let (before, after, cut) = cut_at_item others at (k, omega (arith, within), is) in
    let there = pieces (first ∷ before ++ at ∷ []) in
    let back = pieces (at ∷ after ++ first ∷ []) in
    record {
      edges = there;
      takes = λ edge held. subst (λ (list : List Edge). Contains list edge) (sym (ring-cut first others before at after cut)) (Contains-append_left there back edge held);
      walks = Walks-pieces first before at;
    }

to-first : (first : Point) (others : List Point) (at : Point) → Contains (first ∷ others) at → Reaches (Contains (ring_edges (first ∷ others))) at first
to-first first others at (zero, within, is) =
    let all = ring_edges (first ∷ others) in
    subst (λ (point : Point). Reaches (Contains all) point first) is (Reaches-itself (Contains all) first)
to-first first others at (suc k, within, is) =
    let (before, after, cut) = cut_at_item others at (k, omega (arith, within), is) in
    let there = pieces (first ∷ before ++ at ∷ []) in
    let back = pieces (at ∷ after ++ first ∷ []) in
    record {
      edges = back;
      takes = λ edge held. subst (λ (list : List Edge). Contains list edge) (sym (ring-cut first others before at after cut)) (Contains-append_right there back edge held);
      walks = Walks-pieces at after first;
    }

-- A ring's edges walk from each of its points to each.
pub ring-reaches : (ring : List Point) (from to : Point) → Contains ring from → Contains ring to → Reaches (Contains (ring_edges ring)) from to
ring-reaches [] from to (k, within, is) held = absurd (omega (arith, within))
ring-reaches (first ∷ others) from to held held_too =
    Reaches-over (Contains (ring_edges (first ∷ others))) from first to (to-first first others from held) (from-first first others to held_too)
