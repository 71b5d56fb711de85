-- Edges turned to the right.
use Rattle.std.proofs.Common.{◌≡◌, ℤ, ◌<ℤ◌, Bool, true, false, refl, sym, ◌∙◌, arith}
use Rattle.std.specs.Int.Signed.{lt_z}
use Rattle.std.proofs.lemmas.Int.{ints}
use Rattle.plane.specs.declared.edge.Edge.{Edge}
use Rattle.plane.specs.SweepLine.Heights.{rightwards}

-- The edge from its other end.
abbrev pub turned : Edge → Edge
turned edge = record {
  x0 = edge.x1;
  y0 = edge.y1;
  x1 = edge.x0;
  y1 = edge.y0;
}

pub rightwards-left : (edge : Edge) → lt_z edge.x1 edge.x0 ≡ true → rightwards edge ≡ turned edge
unfolding rightwards
rightwards-left edge leftwards = rw leftwards refl

pub rightwards-right : (edge : Edge) → lt_z edge.x1 edge.x0 ≡ false → rightwards edge ≡ edge
unfolding rightwards
rightwards-right edge onwards = rw onwards refl

-- what is the edge from its other end where it goes to the left, and else the edge itself
pub rightwards-chosen : (edge chosen : Edge) → (lt_z edge.x1 edge.x0 ≡ true → chosen ≡ turned edge) → (lt_z edge.x1 edge.x0 ≡ false → chosen ≡ edge) → chosen ≡ rightwards edge
rightwards-chosen edge chosen left right = by (lt_z edge.x1 edge.x0) refl
  where
    by : (leftwards : Bool) → lt_z edge.x1 edge.x0 ≡ leftwards → chosen ≡ rightwards edge
    by true is = left is ∙ sym (rightwards-left edge is)
    by false is = right is ∙ sym (rightwards-right edge is)

onwards : (a b : ℤ) → a <ℤ b → lt_z b a ≡ false
onwards a b some = grind (arith, ints)

-- an edge that goes to the right stays as it is
pub rightwards-same : (edge : Edge) → edge.x0 <ℤ edge.x1 → rightwards edge ≡ edge
rightwards-same edge some = rightwards-right edge (onwards edge.x0 edge.x1 some)
