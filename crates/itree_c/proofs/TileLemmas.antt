-- Lemmas of calls over windows.
use Rattle.std.proofs.Common.{[], ◌∷◌, ◌≤◌, ℕ, pos, List, length, arith}
use Rattle.std.proofs.lemmas.Int.{by_lt_z, ints}
use Rattle.overlay.specs.Rings.{AreEnds}
use Rattle.plane.specs.declared.point.Point.{Point}
use Rattle.itree_c.specs.Tiles.{HaveEnds}

le-stable : (a b : ℕ) → ¬ (¬ (a ≤ b)) → a ≤ b
le-stable a b never = by_lt_z (pos b) (pos a) (λ less. absurd (never (λ upto. omega (arith, ints, less, upto)))) (λ upto. omega (arith, ints, upto))

-- ends that aren't wrong are right
pub ends-stable : (start : ℕ) (ends : List ℕ) (count : ℕ) → ¬ (¬ (AreEnds start ends count)) → AreEnds start ends count
ends-stable start [] count never = tt
ends-stable start (end ∷ ends) count never = (
  le-stable start end (λ no. never (λ is. no is.0)),
  le-stable end count (λ no. never (λ is. no is.1)),
  ends-stable end ends count (λ no. never (λ is. no is.2)),
)

-- the same of both sides' rings
pub sides-stable : (subject : List Point) (subject_ends : List ℕ) (clip : List Point) (clip_ends : List ℕ) → ¬ (¬ (HaveEnds subject subject_ends clip clip_ends)) → HaveEnds subject subject_ends clip clip_ends
sides-stable subject subject_ends clip clip_ends never = (
  ends-stable 0 subject_ends (length subject) (λ no. never (λ is. no is.0)),
  ends-stable 0 clip_ends (length clip) (λ no. never (λ is. no is.1)),
)
