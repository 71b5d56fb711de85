-- A chain of an edge along an axis counts what the edge counts, at each point.
use Rattle.std.proofs.Common.{List, [], ap, arith, inl, inr, pos, refl, subst, sym, ℕ, ℤ, ◌*ℤ◌, ◌+ℤ◌, ◌-ℤ◌, ◌<◌, ◌∙◌, ◌∷◌, ◌≡◌, ◌≤ℤ◌}
use Rattle.std.proofs.lemmas.Int.{ints}
use Rattle.std.specs.Prelude.{int_le}
use Rattle.plane.specs.declared.edge.Edge.{Edge}
use Rattle.plane.specs.declared.point.Point.{Point}
use Rattle.plane.specs.Meet.Edges.{RationalPoint}
use Rattle.plane.specs.SweepLine.Heights.{run}
use Rattle.noding.specs.Chains.{Passes}
use Rattle.noding.specs.Rounding.{RoundsOn}
use Rattle.plane.specs.Lines.{IsAlongAxis}
use Rattle.plane.specs.Ends.{reversed}
use Rattle.noding.specs.Windings.{pieces, winding}
use Rattle.noding.proofs.SnapLemmas.Clear.{Agrees, chain-agrees}
use Rattle.noding.proofs.SnapLemmas.Counted.{is_low}
use Rattle.noding.proofs.SnapLemmas.Heights.{Covering, onwards}
use Rattle.noding.proofs.SnapLemmas.Numbers.{n_of, natural, same_test}
use Rattle.noding.proofs.SnapLemmas.Paths.{IsPath}
use Rattle.noding.proofs.SnapLemmas.Rounding.{RoundsOn-unique, RoundsOn-whole}
use Rattle.plane.proofs.MeetLemmas.Identities.{identity, minus, number, plus, scaled, times, unscaled}

-- ---- a level edge passes points of its height alone

-- each point of a level edge has its height
level_at : (n a : ℕ) (p y0 y1 : ℤ) → y1 ≡ y0 → p ≡ ((pos n *ℤ y0) +ℤ (pos a *ℤ (y1 -ℤ y0))) → p ≡ (pos n *ℤ y0)
level_at n a p y0 y1 level is =
    is ∙ ap (λ w. (pos n *ℤ y0) +ℤ (pos a *ℤ (w -ℤ y0))) level
    ∙ identity (plus (times (n_of n) (number y0)) (times (n_of a) (minus (number y0) (number y0)))) (times (n_of n) (number y0)) (omega arith)

pub passes_level : (edge : Edge) (x y : ℤ) → edge.y1 ≡ edge.y0 → Passes edge x y → y ≡ edge.y0
passes_level edge x y level (point, (a, at), rounds) =
    let there = level_at point.n a point.y edge.y0 edge.y1 level at.y in
    RoundsOn-unique point.n point.y y edge.y0 point.positive rounds.along_y
    (subst (λ (p : ℤ). RoundsOn point.n p edge.y0) (sym there) (RoundsOn-whole point.n edge.y0 point.positive))

-- ---- whose height compares as the number

height_level : (n : ℕ) (p x0 x1 y0 y1 h : ℤ) → y0 ≡ h → y1 ≡ h → ((y0 *ℤ ((pos n *ℤ x1) -ℤ p)) +ℤ (y1 *ℤ (p -ℤ (pos n *ℤ x0)))) ≡ ((x1 -ℤ x0) *ℤ (pos n *ℤ h))
height_level n p x0 x1 y0 y1 h first second =
    ap (λ y. (y *ℤ ((pos n *ℤ x1) -ℤ p)) +ℤ (y1 *ℤ (p -ℤ (pos n *ℤ x0)))) first
    ∙ ap (λ y. (h *ℤ ((pos n *ℤ x1) -ℤ p)) +ℤ (y *ℤ (p -ℤ (pos n *ℤ x0)))) second
    ∙ identity (plus (times (number h) (minus (times (n_of n) (number x1)) (number p))) (times (number h) (minus (number p) (times (n_of n) (number x0))))) (times (minus (number x1) (number x0)) (times (n_of n) (number h))) (omega arith)

-- divided by a positive number
test_level : (k : ℕ) (w h p : ℤ) → 0 < k → w ≡ pos k → int_le (w *ℤ h) (p *ℤ w) ≡ int_le h p
test_level k w h p some is =
    ap (λ z. int_le (z *ℤ h) (p *ℤ z)) is
    ∙ same_test (pos k *ℤ h) (p *ℤ pos k) h p
    (λ upto above.
    let there : (pos k *ℤ h) ≤ℤ (pos k *ℤ p) = rw (identity (times (n_of k) (number p)) (times (number p) (n_of k)) (omega arith)) upto in
    let low = unscaled k h p some there in
    omega (arith, ints, low, above))
    (λ upto above.
    let there = scaled k h p upto in
    let low : (pos k *ℤ h) ≤ℤ (p *ℤ pos k) = rw (sym (identity (times (n_of k) (number p)) (times (number p) (n_of k)) (omega arith))) there in
    omega (arith, ints, low, above))

-- so the test of heights compares numbers
pub low_level : (edge : Edge) (point : RationalPoint) (h : ℤ) → edge.y0 ≡ h → edge.y1 ≡ h → Covering edge point → is_low edge point ≡ int_le (pos point.n *ℤ h) point.y
low_level edge point h first second c =
    let some = onwards edge point c in
    let width = natural (run edge) (omega (arith, ints, some)) in
    let is = width.is in
    ap (λ z. int_le z (point.y *ℤ run edge)) (height_level point.n point.x edge.x0 edge.x1 edge.y0 edge.y1 h first second)
    ∙ test_level width.k (run edge) (pos point.n *ℤ h) point.y (omega (arith, ints, some, is)) is

-- what the edge passes has its height, too
agrees-level : (edge : Edge) (point : RationalPoint) → edge.y1 ≡ edge.y0 → Agrees edge point
agrees-level edge point level piece from_passes to_passes c d =
    let from = passes_level edge piece.x0 piece.y0 level from_passes in
    let to = passes_level edge piece.x1 piece.y1 level to_passes in
    low_level piece point edge.y0 from to d ∙ sym (low_level edge point edge.y0 refl level c)

-- ---- an upright edge covers nothing

agrees-upright : (edge : Edge) (point : RationalPoint) → edge.x1 ≡ edge.x0 → Agrees edge point
agrees-upright edge point upright piece from_passes to_passes c d =
    let some = onwards edge point c in
    absurd (omega (arith, ints, some, upright))

-- along either axis
pub chain-exact : (edge : Edge) (chain : List Point) (point : RationalPoint) → IsPath edge chain → IsAlongAxis edge → winding (pieces chain) point ≡ winding (edge ∷ []) point
chain-exact edge chain point is (inl upright) = chain-agrees edge chain point is (agrees-upright edge point upright) (agrees-upright (reversed edge) point (sym upright))
chain-exact edge chain point is (inr level) = chain-agrees edge chain point is (agrees-level edge point level) (agrees-level (reversed edge) point (sym level))
