-- The ways of edges: from the start of an edge to its end, along the points of a stretch where it is a chord.
use Rattle.std.proofs.Common.{◌≡◌, ◌⊎◌, inl, inr, ℕ, suc, ◌-◌, ◌≤◌, List, [], ◌∷◌, ◌++◌, length, reverse, refl, sym, ap, ◌∙◌, subst, arith}
use Rattle.std.specs.List.{All, Contains}
use Rattle.std.proofs.lemmas.List.{get_or_at, length_push, length-reverse, take_at}
use Rattle.std.proofs.lemmas.List.Elements.{All-contains}
use Rattle.i_tree.proofs.RootLemmas.Joined.{last_cut}
use Rattle.plane.specs.declared.edge.Edge.{Edge}
use Rattle.plane.specs.declared.point.Point.{Point}
use Rattle.overlay.specs.Contours.Outlines.{ring_point}
use Rattle.plane.specs.Ends.{end_of, start_of}
use Rattle.monotone_chains.specs.Stretches.{GoesAlong, IsStretch, but_last, chord}

-- ---- all points but the last

but_last-push : (front : List Point) (last : Point) → but_last (front ++ last ∷ []) ≡ front
but_last-push front last = take_at front (last ∷ []) (length (front ++ last ∷ []) - 1) (let long = length_push front last in omega (arith, long))

-- ---- the ends of points

module _ (first : Point) (inner : List Point) (last : Point) where
  long : length (first ∷ (inner ++ last ∷ [])) - 1 ≡ suc (length inner)
  long = let more = length_push inner last in omega (arith, more)

  last-at : ring_point (first ∷ (inner ++ last ∷ [])) (length (first ∷ (inner ++ last ∷ [])) - 1) ≡ last
  last-at = ap (λ (n : ℕ). ring_point (first ∷ (inner ++ last ∷ [])) n) long ∙ get_or_at inner last [] _ (length inner) refl

  pub chord-end : end_of (chord (first ∷ (inner ++ last ∷ []))) ≡ last
  chord-end = last-at

  pub but_last-ends : but_last (first ∷ (inner ++ last ∷ [])) ≡ first ∷ inner
  but_last-ends = but_last-push (first ∷ inner) last

-- From the start of the edge over some points to its end.
pub record IsWay (edge : Edge) (way : List Point) : Type 0 where
  pub inner : List Point
  pub is : way ≡ start_of edge ∷ (inner ++ end_of edge ∷ [])

-- two points or more lie so along their chord
pub chord-way : (points : List Point) → 2 ≤ length points → IsWay (chord points) points
chord-way [] some = absurd (omega (arith, some))
chord-way (first ∷ []) some = absurd (omega (arith, some))
chord-way (first ∷ second ∷ others) some =
    let (front, last, is) = last_cut second others in
    let whole = ap (λ (rest : List Point). first ∷ rest) is in record {
      inner = front;
      is = whole ∙ ap (λ (end : Point). first ∷ (front ++ end ∷ [])) (sym (ap (λ (points : List Point). end_of (chord points)) whole ∙ chord-end first front last));
    }

-- The points along which an edge goes are a way of it.
pub goes-way : (stretches : List (List Point)) (edge : Edge) (points : List Point) → All IsStretch stretches → GoesAlong stretches edge points → IsWay edge points
goes-way stretches edge points each (inl (is_chord, among)) = subst (λ (e : Edge). IsWay e points) is_chord (chord-way points (some among))
  where
    some : (Contains stretches points ⊎ Contains stretches (reverse points)) → 2 ≤ length points
    some (inl along) = (All-contains IsStretch stretches points each along).some
    some (inr back) = let is = (All-contains IsStretch stretches (reverse points) each back).some in let same = length-reverse points in omega (arith, is, same)
goes-way stretches edge points each (inr (straight, none)) = record { inner = []; is = straight }

pub but_last-way : (edge : Edge) (way : List Point) (is : IsWay edge way) → but_last way ≡ start_of edge ∷ is.inner
but_last-way edge way is = ap but_last is.is ∙ but_last-ends (start_of edge) is.inner (end_of edge)
