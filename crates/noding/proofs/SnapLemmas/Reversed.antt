-- An edge and the one that goes the other way.
use Rattle.std.proofs.Common.{arith, pos, subst, ℕ, ℤ, ◌*ℤ◌, ◌+ℤ◌, ◌+◌, ◌-ℤ◌, ◌-◌, ◌∙◌, ◌≡◌}
use Rattle.plane.specs.declared.edge.Edge.{Edge}
use Rattle.plane.specs.Meet.Edges.{IsOf, RationalPoint}
use Rattle.noding.specs.Chains.{Passes}
use Rattle.noding.specs.Near.{IsNear}
use Rattle.plane.specs.Ends.{reversed}
use Rattle.noding.proofs.SnapLemmas.Numbers.{n_of}
use Rattle.noding.proofs.SnapLemmas.Pieces.{left_of}
use Rattle.plane.proofs.MeetLemmas.Identities.{Term, identity, minus, number, plus, times}

-- a share from the one end, and from the other
pub reverse_along : (n a b : ℕ) (p start end : ℤ) → a + b ≡ n → p ≡ ((pos n *ℤ start) +ℤ (pos a *ℤ (end -ℤ start))) → p ≡ ((pos n *ℤ end) +ℤ (pos b *ℤ (start -ℤ end)))
reverse_along n a b p start end whole is =
    let there : p ≡ ((pos (a + b) *ℤ start) +ℤ (pos a *ℤ (end -ℤ start))) = rw whole is in
    let back : p ≡ ((pos (a + b) *ℤ end) +ℤ (pos b *ℤ (start -ℤ end))) =
    there ∙ identity (plus (times (n_of (a + b)) (number start)) (times (n_of a) (minus (number end) (number start)))) (plus (times (n_of (a + b)) (number end)) (times (n_of b) (minus (number start) (number end)))) (omega arith) in
    subst (λ (m : ℕ). p ≡ ((pos m *ℤ end) +ℤ (pos b *ℤ (start -ℤ end)))) whole back

-- the reversed edge has the same points
pub IsOf-reversed : (edge : Edge) (point : RationalPoint) → IsOf edge point → IsOf (reversed edge) point
IsOf-reversed edge point (a, at) =
    let share = at.share in (
      point.n - a,
      record {
        share = omega arith;
        x = reverse_along point.n a (point.n - a) point.x edge.x0 edge.x1 (omega arith) at.x;
        y = reverse_along point.n a (point.n - a) point.y edge.y0 edge.y1 (omega arith) at.y;
      },
    )

pub IsNear-reversed : (edge : Edge) (point : RationalPoint) → IsNear (reversed edge) point → IsNear edge point
IsNear-reversed edge point (near, of, along_x, along_y) = (near, IsOf-reversed (reversed edge) near of, along_x, along_y)

-- so it passes the same, and the same is near it
pub Passes-reversed : (edge : Edge) (x y : ℤ) → Passes edge x y → Passes (reversed edge) x y
Passes-reversed edge x y (point, of, rounds) = (point, IsOf-reversed edge point of, rounds)

-- what is to the left of an edge is to the right of the reversed one
pub left-reversed : (edge : Edge) (x y : ℤ) → left_of (reversed edge) x y ≡ (pos 0 -ℤ left_of edge x y)
left-reversed edge x y =
    let way : ℤ → ℤ → Term = λ a b. minus (number a) (number b) in
    identity (minus (times (way edge.x0 edge.x1) (way y edge.y1)) (times (way edge.y0 edge.y1) (way x edge.x1)))
    (minus (n_of 0) (minus (times (way edge.x1 edge.x0) (way y edge.y0)) (times (way edge.y1 edge.y0) (way x edge.x0))))
    (omega arith)
