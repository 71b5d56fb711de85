-- What edges carry into sets of points, and the points upto a height of a column.
use Rattle.std.proofs.Common.{Bool, List, [], ◌∷◌, true, false, cond, ℕ, ℤ, pos, ◌+ℤ◌, ◌-ℤ◌, ◌*ℤ◌, ◌<ℤ◌, ◌≡◌, refl, ap₂, arith}
use Rattle.std.proofs.lemmas.Int.{ints}
use Rattle.std.specs.Bool.{⊤}
use Rattle.std.specs.Int.Signed.{lt_z}
use Rattle.std.specs.Prelude.{int_le}
use Rattle.plane.specs.declared.edge.Edge.{Edge}
use Rattle.plane.specs.declared.point.Point.{Point}
use Rattle.overlay.specs.Fill.Pieces.{total}
use Rattle.overlay.proofs.FillLemmas.Balance.{carried}
use Rattle.plane.specs.Ends.{end_of, start_of}
use Rattle.noding.specs.Windings.{count}

-- ---- ends upto a height y / n of a column x: those of columns before it, and those of it that aren't higher

abbrev pub is_upto : ℤ → ℕ → ℤ → Point → Bool
is_upto x n y point = cond (lt_z point.x x) true (cond (lt_z x point.x) false (int_le (pos n *ℤ point.y) y))

pub upto-before : (x : ℤ) (n : ℕ) (y : ℤ) (point : Point) → point.x <ℤ x → is_upto x n y point ≡ true
upto-before x n y point is = go (lt_z point.x x) refl
  where
    go : (t : Bool) → lt_z point.x x ≡ t → cond t true (cond (lt_z x point.x) false (int_le (pos n *ℤ point.y) y)) ≡ true
    go true e = refl
    go false e = absurd (omega (arith, ints, e, is))

pub upto-behind : (x : ℤ) (n : ℕ) (y : ℤ) (point : Point) → x <ℤ point.x → is_upto x n y point ≡ false
upto-behind x n y point is = go (lt_z point.x x) (lt_z x point.x) refl refl
  where
    go : (t s : Bool) → lt_z point.x x ≡ t → lt_z x point.x ≡ s → cond t true (cond s false (int_le (pos n *ℤ point.y) y)) ≡ false
    go true s e f = absurd (omega (arith, ints, e, is))
    go false true e f = refl
    go false false e f = absurd (omega (arith, ints, f, is))

pub upto-at : (x : ℤ) (n : ℕ) (y : ℤ) (point : Point) → point.x ≡ x → is_upto x n y point ≡ int_le (pos n *ℤ point.y) y
upto-at x n y point is = go (lt_z point.x x) (lt_z x point.x) refl refl
  where
    go : (t s : Bool) → lt_z point.x x ≡ t → lt_z x point.x ≡ s → cond t true (cond s false (int_le (pos n *ℤ point.y) y)) ≡ int_le (pos n *ℤ point.y) y
    go true s e f = absurd (omega (arith, ints, e, is))
    go false true e f = absurd (omega (arith, ints, f, is))
    go false false e f = refl

-- what edges carry into a set of points
abbrev pub flow : (Point → Bool) → List Edge → ℤ
flow test edges = total (carried test) edges

-- the same edges, told from one to the next
abbrev pub Every : (Edge → Type 0) → List Edge → Type 0
Every P [] = ⊤
Every P (edge ∷ edges) = P edge × Every P edges

-- tests that agree at all ends carry the same
pub flow-agree : (test other : Point → Bool) (edges : List Edge) → Every (λ edge. (test (start_of edge) ≡ other (start_of edge)) × (test (end_of edge) ≡ other (end_of edge))) edges → flow test edges ≡ flow other edges
flow-agree test other [] agree = refl
flow-agree test other (edge ∷ edges) ((starts, ends), agree) =
    ap₂ (λ (a b : ℤ). a +ℤ b) (ap₂ (λ (s t : Bool). count s -ℤ count t) ends starts) (flow-agree test other edges agree)
