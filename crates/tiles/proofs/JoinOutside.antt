-- Closed edges within a window wind around no point outside of it.
use Rattle.std.proofs.Common.{◌≡◌, ◌⊎◌, inl, inr, Bool, cond, ℕ, ◌+◌, ℤ, pos, ◌+ℤ◌, ◌-ℤ◌, ◌*ℤ◌, ◌<ℤ◌, ◌≤ℤ◌, List, [], ◌∷◌, refl, ap, ◌∙◌, arith}
use Rattle.std.specs.List.{Contains, count_by}
use Rattle.std.specs.Prelude.{int_le}
use Rattle.std.proofs.lemmas.Int.{by_lt_z, ints}
use Rattle.std.proofs.lemmas.List.Sums.{sum_by-cons}
use Rattle.i_tree.proofs.RootLemmas.Lists.{Contains-here, Contains-there}
use Rattle.plane.specs.declared.edge.Edge.{Edge}
use Rattle.plane.specs.declared.point.Point.{Point}
use Rattle.plane.specs.Ends.{end_of, start_of}
use Rattle.plane.specs.Meet.Edges.{RationalPoint}
use Rattle.plane.proofs.MeetLemmas.Identities.{scaled}
use Rattle.noding.specs.Windings.{IsClosed, winding}
use Rattle.noding.proofs.SnapLemmas.Counted.{added, under}
use Rattle.noding.proofs.SnapLemmas.Windings.{count-pos, winding-added}
use Rattle.tiles.specs.Window.{InWindow}
use Rattle.tiles.specs.declared.window.Window.{Window}
use Rattle.tiles.proofs.JoinSides.{EdgeWithin}
use Rattle.tiles.proofs.Sides.{step, under-above, under-below, under-left, under-right}

-- multiples of numbers of which one is less, or not more
before_more : (n : ℕ) (a b x : ℤ) → a ≤ℤ b → x <ℤ (pos n *ℤ a) → x <ℤ (pos n *ℤ b)
before_more n a b x upto less = let more = scaled n a b upto in omega (arith, ints, more, less)

from_less : (n : ℕ) (a b x : ℤ) → a ≤ℤ b → (pos n *ℤ b) ≤ℤ x → (pos n *ℤ a) ≤ℤ x
from_less n a b x upto from = let more = scaled n a b upto in omega (arith, ints, more, from)

-- edges of which each counts nothing count nothing
added-none : (edges : List Edge) (point : RationalPoint) → ((edge : Edge) → Contains edges edge → under edge point ≡ pos 0) → added edges point ≡ pos 0
added-none [] point every = refl
added-none (edge ∷ edges) point every =
    let here = every edge (Contains-here edge edges) in
    let rest = added-none edges point (λ other held. every other (Contains-there edge edges other held)) in
    omega (arith, ints, here, rest)

module _ (point : RationalPoint) where
  -- the end isn't to the right of the point
  abbrev is_left : Point → Bool
  is_left end = int_le (pos point.n *ℤ end.x) point.x

  abbrev starts : List Edge → ℕ
  starts edges = count_by (λ edge. is_left (start_of edge)) edges

  abbrev ends : List Edge → ℕ
  ends edges = count_by (λ edge. is_left (end_of edge)) edges

  -- those of which each counts by its steps count as many as start left of the point, less as many as end there
  added-steps : (edges : List Edge) → ((edge : Edge) → Contains edges edge → under edge point ≡ (step edge.x0 point -ℤ step edge.x1 point)) → added edges point ≡ (pos (starts edges) -ℤ pos (ends edges))
  added-steps [] every = refl
  added-steps (edge ∷ edges) every =
      let here = every edge (Contains-here edge edges) in
      let rest = added-steps edges (λ other held. every other (Contains-there edge edges other held)) in
      let first : starts (edge ∷ edges) ≡ cond (is_left (start_of edge)) 1 0 + starts edges = sum_by-cons (λ (e : Edge). cond (is_left (start_of e)) 1 0) edge edges in
      let last : ends (edge ∷ edges) ≡ cond (is_left (end_of edge)) 1 0 + ends edges = sum_by-cons (λ (e : Edge). cond (is_left (end_of e)) 1 0) edge edges in
      let one = count-pos (is_left (start_of edge)) in
      let other = count-pos (is_left (end_of edge)) in
      omega (arith, ints, here, rest, first, last, one, other)

  module _ (window : Window) (edges : List Edge) (closed : IsClosed edges) (within : (edge : Edge) → Contains edges edge → EdgeWithin window edge) where
    none : ((edge : Edge) → EdgeWithin window edge → under edge point ≡ pos 0) → winding edges point ≡ pos 0
    none told = winding-added edges point ∙ added-none edges point (λ edge held. told edge (within edge held))

    above : (pos point.n *ℤ window.high) ≤ℤ point.y → winding edges point ≡ pos 0
    above high =
        let steps = added-steps edges (λ edge held. let is = within edge held in under-below edge point window.high is.start.upto_high is.end.upto_high high) in
        let sum = winding-added edges point in
        let same = closed is_left in
        omega (arith, ints, steps, sum, same)

    pub winds-within : InWindow window point ⊎ (winding edges point ≡ pos 0)
    winds-within =
        by_lt_z point.x (pos point.n *ℤ window.left)
        (λ less. inr (none (λ edge is. under-right edge point (before_more point.n window.left edge.x0 point.x is.start.from_left less) (before_more point.n window.left edge.x1 point.x is.end.from_left less))))
        (λ from. by_lt_z point.x (pos point.n *ℤ window.right)
        (λ before. by_lt_z point.y (pos point.n *ℤ window.low)
        (λ below. inr (none (λ edge is. under-above edge point window.low is.start.from_low is.end.from_low below)))
        (λ over. by_lt_z point.y (pos point.n *ℤ window.high)
        (λ under_it. inl (record { from_left = from; before_right = before; from_low = over; below_high = under_it }))
        (λ high. inr (above high))))
        (λ past. inr (none (λ edge is. under-left edge point (from_less point.n edge.x0 window.right point.x is.start.upto_right past) (from_less point.n edge.x1 window.right point.x is.end.upto_right past)))))
