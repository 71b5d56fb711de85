-- The common point of two edges, one of which goes nowhere on an axis.
use Rattle.std.proofs.Common.{◌≡◌, ◌∙◌, ap, arith, inl, inr, pos, sym, subst, ℤ, ◌*ℤ◌, ◌+ℤ◌, ◌-ℤ◌, ◌<ℤ◌, negsuc}
use Rattle.std.proofs.lemmas.Int.{ints}
use Rattle.std.specs.Int.RustNames.{unsigned_abs}
use Rattle.plane.specs.declared.edge.Edge.{Edge}
use Rattle.plane.specs.Meet.Crosses.{cross}
use Rattle.noding.specs.Crossing.{IsCommonPart, IsThere}
use Rattle.noding.specs.Rounding.{RoundsOn}
use Rattle.noding.proofs.SnapLemmas.Crossing.{AreSigned}
use Rattle.noding.proofs.SnapLemmas.Numbers.{n_of}
use Rattle.noding.proofs.SnapLemmas.Rounding.{RoundsOn-whole}
use Rattle.plane.proofs.MeetLemmas.Identities.{Term, identity, minus, number, plus, times}
use Rattle.plane.proofs.MeetLemmas.Shares.{part_of_one, part_of_other, whole}

-- a number times the whole rounds to the number
pub RoundsOn-multiple : (all c p : ℤ) → pos 0 <ℤ all → p ≡ (all *ℤ c) → RoundsOn (unsigned_abs all) p c
RoundsOn-multiple (pos n) c p some is = subst (λ (z : ℤ). RoundsOn n z c) (sym is) (RoundsOn-whole n c (omega (arith, ints, some)))
RoundsOn-multiple (negsuc n) c p some is = absurd (omega (arith, ints, some))

-- a part of no way
pub mean-nowhere : (all first from to : ℤ) → from ≡ to → ((all *ℤ from) +ℤ (first *ℤ (to -ℤ from))) ≡ (all *ℤ from)
mean-nowhere all first from to same =
    ap (λ z. (all *ℤ from) +ℤ (first *ℤ (z -ℤ from))) (sym same)
    ∙ identity (plus (times (number all) (number from)) (times (number first) (minus (number from) (number from)))) (times (number all) (number from)) (omega arith)

abbrev way : ℤ → ℤ → Term
way from to = minus (number to) (number from)

abbrev crossed : Term → Term → Term → Term → Term
crossed x y other_x other_y = minus (times x other_y) (times y other_x)

-- where the other edge is upright, and where it is level
there_x : (x0 x1 y0 y1 a0 a1 b0 b1 : ℤ) → IsThere x0 x1 a0 a1 (cross (x1 -ℤ x0) (y1 -ℤ y0) (a1 -ℤ a0) (b1 -ℤ b0)) (cross (a0 -ℤ x0) (b0 -ℤ y0) (a1 -ℤ a0) (b1 -ℤ b0))
there_x x0 x1 y0 y1 a0 a1 b0 b1 same =
    subst (λ (a : ℤ). ((cross (x1 -ℤ x0) (y1 -ℤ y0) (a -ℤ a0) (b1 -ℤ b0) *ℤ x0) +ℤ (cross (a0 -ℤ x0) (b0 -ℤ y0) (a -ℤ a0) (b1 -ℤ b0) *ℤ (x1 -ℤ x0))) ≡ (cross (x1 -ℤ x0) (y1 -ℤ y0) (a -ℤ a0) (b1 -ℤ b0) *ℤ a0)) same
    (identity (plus (times (crossed (way x0 x1) (way y0 y1) (way a0 a0) (way b0 b1)) (number x0)) (times (crossed (way x0 a0) (way y0 b0) (way a0 a0) (way b0 b1)) (way x0 x1)))
    (times (crossed (way x0 x1) (way y0 y1) (way a0 a0) (way b0 b1)) (number a0)) (omega arith))

there_y : (x0 x1 y0 y1 a0 a1 b0 b1 : ℤ) → IsThere y0 y1 b0 b1 (cross (x1 -ℤ x0) (y1 -ℤ y0) (a1 -ℤ a0) (b1 -ℤ b0)) (cross (a0 -ℤ x0) (b0 -ℤ y0) (a1 -ℤ a0) (b1 -ℤ b0))
there_y x0 x1 y0 y1 a0 a1 b0 b1 same =
    subst (λ (b : ℤ). ((cross (x1 -ℤ x0) (y1 -ℤ y0) (a1 -ℤ a0) (b -ℤ b0) *ℤ y0) +ℤ (cross (a0 -ℤ x0) (b0 -ℤ y0) (a1 -ℤ a0) (b -ℤ b0) *ℤ (y1 -ℤ y0))) ≡ (cross (x1 -ℤ x0) (y1 -ℤ y0) (a1 -ℤ a0) (b -ℤ b0) *ℤ b0)) same
    (identity (plus (times (crossed (way x0 x1) (way y0 y1) (way a0 a1) (way b0 b0)) (number y0)) (times (crossed (way x0 a0) (way y0 b0) (way a0 a1) (way b0 b0)) (way y0 y1)))
    (times (crossed (way x0 x1) (way y0 y1) (way a0 a1) (way b0 b0)) (number b0)) (omega arith))

-- with the signs turned too
turned : (all first from to other_from : ℤ) → ((all *ℤ from) +ℤ (first *ℤ (to -ℤ from))) ≡ (all *ℤ other_from) → (((pos 0 -ℤ all) *ℤ from) +ℤ ((pos 0 -ℤ first) *ℤ (to -ℤ from))) ≡ ((pos 0 -ℤ all) *ℤ other_from)
turned all first from to other_from is =
    identity (plus (times (minus (n_of 0) (number all)) (number from)) (times (minus (n_of 0) (number first)) (way from to))) (minus (n_of 0) (plus (times (number all) (number from)) (times (number first) (way from to)))) (omega arith)
    ∙ ap (λ z. pos 0 -ℤ z) is
    ∙ identity (minus (n_of 0) (times (number all) (number other_from))) (times (minus (n_of 0) (number all)) (number other_from)) (omega arith)

-- the part of the one edge that Cramer's rule gives is common
pub IsCommonPart-signed : (one other : Edge) (d s t : ℤ) → AreSigned d s t (whole one other) (part_of_one one other) (part_of_other one other) → IsCommonPart one other d s
IsCommonPart-signed one other d s t (inl (x, y, z)) = record {
  along_x = λ same. rw (x, y) (there_x one.x0 one.x1 one.y0 one.y1 other.x0 other.x1 other.y0 other.y1 same);
  along_y = λ same. rw (x, y) (there_y one.x0 one.x1 one.y0 one.y1 other.x0 other.x1 other.y0 other.y1 same);
}
IsCommonPart-signed one other d s t (inr (x, y, z)) = record {
  along_x = λ same. rw (x, y) (turned (whole one other) (part_of_one one other) one.x0 one.x1 other.x0 (there_x one.x0 one.x1 one.y0 one.y1 other.x0 other.x1 other.y0 other.y1 same));
  along_y = λ same. rw (x, y) (turned (whole one other) (part_of_one one other) one.y0 one.y1 other.y0 (there_y one.x0 one.x1 one.y0 one.y1 other.x0 other.x1 other.y0 other.y1 same));
}
