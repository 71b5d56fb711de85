-- The chord of a stretch goes along an edge one way or the other, where both are one if they are turned rightwards.
use Rattle.std.proofs.Common.{◌≡◌, ◌≢◌, inl, inr, Bool, true, false, List, refl, sym, ap, ◌∙◌, subst, arith}
use Rattle.std.specs.Int.Signed.{lt_z}
use Rattle.std.proofs.lemmas.Int.{ints}
use Rattle.plane.specs.SweepLine.Heights.{rightwards}
use Rattle.plane.specs.declared.edge.Edge.{Edge}
use Rattle.plane.specs.declared.point.Point.{Point}
use Rattle.plane.proofs.SweepLineLemmas.Rightwards.{rightwards-left, rightwards-right}
use Rattle.overlay.specs.Contours.Outlines.{ring_point}
use Rattle.overlay.specs.Fill.Filled.{HaveSameEnds}
use Rattle.plane.specs.Ends.{edge_between, reversed}
use Rattle.monotone_chains.specs.Stretches.{chord}
use Rattle.overlay.proofs.FillLemmas.Kept.{same-exchanged, same-rightwards, same-trans}

-- ---- edges turned rightwards

-- two edges that are one if turned so are one, or each is the other back
turned-same : (one other : Edge) → rightwards one ≡ rightwards other → HaveSameEnds one other
turned-same one other same =
    same-trans one (rightwards one) other (same-exchanged (rightwards one) one (same-rightwards one)) (subst (λ (edge : Edge). HaveSameEnds edge other) (sym same) (same-rightwards other))

-- an edge that isn't vertical and the same back are one if turned so
pub rightwards-reversed : (edge : Edge) → edge.x1 ≢ edge.x0 → rightwards (reversed edge) ≡ rightwards edge
rightwards-reversed edge sloped = go (lt_z edge.x1 edge.x0) (lt_z edge.x0 edge.x1) refl refl
  where
    go : (b d : Bool) → lt_z edge.x1 edge.x0 ≡ b → lt_z edge.x0 edge.x1 ≡ d → rightwards (reversed edge) ≡ rightwards edge
    go true true e f = absurd (omega (arith, ints, e, f))
    go true false e f = rightwards-right (reversed edge) f ∙ sym (rightwards-left edge e)
    go false true e f = rightwards-left (reversed edge) f ∙ sym (rightwards-right edge e)
    go false false e f = absurd (sloped (omega (arith, ints, e, f)))

-- ---- which way the chord goes

module _ (stretch : List Point) (from to : Point) (sloped : from.x ≢ to.x) (same : rightwards (chord stretch) ≡ rightwards (edge_between from to)) where
  pub goes-along : (ring_point stretch 0).x ≡ from.x → chord stretch ≡ edge_between from to
  goes-along starts = elim (turned-same (chord stretch) (edge_between from to) same) [
    | inl is ↦ is
    | inr back ↦ absurd (sloped (sym starts ∙ ap (λ (e : Edge). e.x0) back))
  ]

  pub goes-back : (ring_point stretch 0).x ≢ from.x → chord stretch ≡ reversed (edge_between from to)
  goes-back starts = elim (turned-same (chord stretch) (edge_between from to) same) [
    | inl is ↦ absurd (starts (ap (λ (e : Edge). e.x0) is))
    | inr back ↦ back
  ]
