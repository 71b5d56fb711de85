-- Rings from the last point to the first: their edges are those of the rings, from end to start.
use Rattle.std.proofs.Common.{◌≡◌, ◌≢◌, inl, inr, ℕ, zero, suc, ◌-◌, ◌<◌, pos, ◌-ℤ◌, List, [], ◌∷◌, ◌++◌, get_or, length, reverse, refl, ap, sym, subst, ◌∙◌, arith}
use Rattle.std.specs.List.{AllPairs, Contains}
use Rattle.std.proofs.lemmas.Int.{ints}
use Rattle.std.proofs.lemmas.List.{get_or-reverse, length-reverse, reverse-append, reverse-reverse}
use Rattle.std.proofs.lemmas.List.Elements.{Contains-append_cases, Contains-append_left, Contains-append_right}
use Rattle.plane.specs.declared.edge.Edge.{Edge}
use Rattle.plane.specs.declared.point.Point.{Point}
use Rattle.plane.specs.Ends.{edge_between, reversed}
use Rattle.plane.specs.Meet.Edges.{RationalPoint}
use Rattle.plane.specs.Meet.Kinds.{IsEnd}
use Rattle.noding.specs.Meeting.{MeetAtEnds}
use Rattle.noding.specs.Windings.{pieces, winding}
use Rattle.noding.proofs.SnapLemmas.Reversed.{IsOf-reversed}
use Rattle.noding.proofs.SnapLemmas.Windings.{winding-append}
use Rattle.overlay.specs.Contours.Rings.{ring_edges}
use Rattle.overlay.specs.Fill.Filled.{AreNoded}
use Rattle.overlay.proofs.ContourLemmas.RealEdges.{closing}
use Rattle.overlay.proofs.JoinedLemmas.Runs.{back, pairs-back}
use Rattle.overlay.proofs.JoinedLemmas.Weighed.{pieces-back}
use Rattle.monotone_chains.proofs.StretchLemmas.Turned.{winding-reverse}

-- points from the last to the first are those reversed
back-is : (points : List Point) → back points ≡ reverse points
back-is [] = refl
back-is (point ∷ points) = ap (λ (list : List Point). list ++ point ∷ []) (back-is points) ∙ sym (reverse-append (point ∷ []) points)

module _ (ring : List Point) (some : 0 < length ring) (d : Point) where
  abbrev first : Point
  first = get_or ring 0 d

  abbrev last : Point
  last = get_or ring (length ring - 1) d

  there : (points : List Point) → 0 < length points → points ≢ []
  there points any none = let size = ap (λ (list : List Point). length list) none in omega (arith, size, any)

  size : length (reverse ring) ≡ length ring
  size = length-reverse ring

  first-back : get_or (reverse ring) 0 d ≡ last
  first-back = get_or-reverse ring 0 d some ∙ ap (λ (n : ℕ). get_or ring n d) (let same : length ring - 1 - 0 ≡ length ring - 1 = omega arith in same)

  last-back : get_or (reverse ring) (length (reverse ring) - 1) d ≡ first
  last-back =
      ap (λ (n : ℕ). get_or (reverse ring) (n - 1) d) size ∙ get_or-reverse ring (length ring - 1) d (omega (arith, some))
      ∙ ap (λ (n : ℕ). get_or ring n d) (let same : length ring - 1 - (length ring - 1) ≡ 0 = omega arith in same)

  -- the edges are those along the points, and one from the last to the first
  closed : ring_edges ring ≡ pieces ring ++ edge_between last first ∷ []
  closed = closing ring last first d (there ring some) refl refl

  closed-back : ring_edges (reverse ring) ≡ pieces (reverse ring) ++ edge_between first last ∷ []
  closed-back = closing (reverse ring) first last d (there (reverse ring) (omega (arith, size, some))) (sym last-back) (sym first-back)

  -- they wind as often, the other way
  winds-back : (point : RationalPoint) → winding (ring_edges (reverse ring)) point ≡ (pos 0 -ℤ winding (ring_edges ring) point)
  winds-back point =
      let along = winding-reverse ring point in
      let across = winding-reverse (last ∷ first ∷ []) point in
      let whole = ap (λ (edges : List Edge). winding edges point) closed ∙ winding-append (pieces ring) (edge_between last first ∷ []) point in
      let back = ap (λ (edges : List Edge). winding edges point) closed-back ∙ winding-append (pieces (reverse ring)) (edge_between first last ∷ []) point in
      omega (arith, ints, along, across, whole, back)

  -- each goes back along one of the ring
  held-along : (edge : Edge) → Contains (pieces (reverse ring)) edge → Contains (pieces ring) (reversed edge)
  held-along edge held =
      subst (λ (points : List Point). Contains (pieces points) (reversed edge)) (back-is (reverse ring) ∙ reverse-reverse ring) (pieces-back (reverse ring) edge held)

  held-back : (edge : Edge) → Contains (ring_edges (reverse ring)) edge → Contains (ring_edges ring) (reversed edge)
  held-back edge held =
      subst (λ (edges : List Edge). Contains edges (reversed edge)) (sym closed)
      (elim (Contains-append_cases (pieces (reverse ring)) (edge_between first last ∷ []) edge (subst (λ (edges : List Edge). Contains edges edge) closed-back held)) [
        | inl along ↦ Contains-append_left (pieces ring) (edge_between last first ∷ []) (reversed edge) (held-along edge along)
        | inr across ↦ Contains-append_right (pieces ring) (edge_between last first ∷ []) (reversed edge) (turned-alone edge across)
      ])
    where
      turned-alone : (edge : Edge) → Contains (edge_between first last ∷ []) edge → Contains (edge_between last first ∷ []) (reversed edge)
      turned-alone edge (zero, within, is) = (zero, within, ap reversed is)
      turned-alone edge (suc k, within, is) = absurd (omega (arith, within))

pub winding-backwards : (ring : List Point) → 0 < length ring → (point : RationalPoint) → winding (ring_edges (reverse ring)) point ≡ (pos 0 -ℤ winding (ring_edges ring) point)
winding-backwards ring some = winds-back ring some (record { x = pos 0; y = pos 0 })

-- they visit no point twice
pub once-backwards : (ring : List Point) → AllPairs (λ point later. point ≢ later) ring → AllPairs (λ point later. point ≢ later) (reverse ring)
once-backwards ring once =
    subst (λ (points : List Point). AllPairs (λ point later. point ≢ later) points) (back-is ring)
    (λ i j d below within same. pairs-back (λ (point later : Point). point ≢ later) ring once i j d below within (sym same))

end-back : (edge : Edge) (point : RationalPoint) → IsEnd (reversed edge) point → IsEnd edge point
end-back edge point (inl at) = inr at
end-back edge point (inr at) = inl at

meet-back : (one other : Edge) (point : RationalPoint) → MeetAtEnds (reversed one) (reversed other) point → MeetAtEnds one other point
meet-back one other point (inl (at, there)) = inl (end-back one point at, end-back other point there)
meet-back one other point (inr (inl same)) = inr (inl (ap reversed same))
meet-back one other point (inr (inr same)) = inr (inr (ap reversed same))

-- and they meet at common ends as those of the rings
pub noded-backwards : (ring : List Point) → 0 < length ring → AreNoded (ring_edges ring) → AreNoded (ring_edges (reverse ring))
noded-backwards ring some noded one other point held other_held of_one of_other =
    let d : Point = record { x = pos 0; y = pos 0 } in
    meet-back one other point
    (noded (reversed one) (reversed other) point (held-back ring some d one held) (held-back ring some d other other_held) (IsOf-reversed one point of_one) (IsOf-reversed other point of_other))
