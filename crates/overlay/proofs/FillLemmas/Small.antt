-- Counts are no further from 0 than what pieces weigh, whichever of them are asked for.
use Rattle.std.proofs.Common.{◌≡◌, ◌≢◌, ℕ, suc, ℤ, pos, negsuc, ◌+ℤ◌, Bool, true, false, cond, ◌&&◌, ◌||◌, List, [], ◌∷◌, length, refl, ap, arith, sym, subst, ◌∙◌}
use Rattle.std.specs.Int.Signed.{lt_z}
use Rattle.std.specs.List.{Contains}
use Rattle.std.specs.Ordering.{int_eq}
use Rattle.std.proofs.lemmas.Bool.{and_parts}
use Rattle.std.proofs.lemmas.Bool.Decides.{Decides-int_eq}
use Rattle.std.proofs.lemmas.Int.{ints}
use Rattle.plane.specs.declared.edge.Edge.{Edge}
use Rattle.plane.specs.SweepLine.Heights.{rightwards}
use Rattle.overlay.specs.declared.fill.pieces.Piece.{Piece}
use Rattle.overlay.specs.Fill.Counts.{is_over, is_lower_on, below_on, counts_below, counts_above}
use Rattle.overlay.specs.Fill.Pieces.{total, weight, AreJoined, ArePieces}
use Rattle.overlay.specs.Fill.Sweep.{WeighUpto}
use Rattle.overlay.specs.Fill.Turned.{asked}
use Rattle.overlay.proofs.FillLemmas.Next.{total-but}
use Rattle.overlay.proofs.FillLemmas.Order.{lower-irrefl}
use Rattle.overlay.proofs.FillLemmas.Premises.{All-among}
use Rattle.overlay.proofs.FillLemmas.Tests.{int_eq-true}
use Rattle.overlay.proofs.FillLemmas.Totals.{total-none, total-same, total-sum}
use Rattle.noding.proofs.SnapLemmas.Hobby.Ends.{edges-same}
use Rattle.plane.specs.Meet.Crosses.{IsWithin}

-- ---- sums of terms between -1 and 1

-- one term more
more_bounds : (n : ℕ) (a b : ℤ) → IsWithin 1 a → IsWithin n b → IsWithin (suc n) (a +ℤ b)
more_bounds n a b first second =
    let from = first.from in
    let upto = first.upto in
    let from_too = second.from in
    let upto_too = second.upto in record {
      from = omega (arith, ints, from, from_too);
      upto = omega (arith, ints, upto, upto_too);
    }

-- so a sum lies between minus the number of terms and this number
pub total-bounds : {X : Type 0} (f : X → ℤ) (xs : List X) → ((x : X) → IsWithin 1 (f x)) → IsWithin (length xs) (total f xs)
total-bounds f [] each = record { from = omega (arith, ints); upto = omega (arith, ints) }
total-bounds f (x ∷ xs) each = more_bounds (length xs) (f x) (total f xs) (each x) (total-bounds f xs each)

-- weights, and parts of them, lie between -1 and 1
pub unit_zero : IsWithin 1 (pos 0)
unit_zero = record { from = omega (arith, ints); upto = omega (arith, ints) }

-- a weight is 1, -1 or 0
pub unit_weight : (edge : Edge) → IsWithin 1 (weight edge)
unit_weight edge = by (lt_z edge.x0 edge.x1) (lt_z edge.x1 edge.x0)
  where
    by : (s t : Bool) → IsWithin 1 (cond s (pos 1) (cond t (negsuc 0) (pos 0)))
    by true t = record { from = omega (arith, ints); upto = omega (arith, ints) }
    by false true = record { from = omega (arith, ints); upto = omega (arith, ints) }
    by false false = unit_zero

pub unit_part : (t : Bool) (w : ℤ) → IsWithin 1 w → IsWithin 1 (cond t w (pos 0))
unit_part true w is = is
unit_part false w is = unit_zero

-- nothing more
no_more : (w : ℤ) → (w +ℤ pos 0) ≡ w
no_more w = omega (arith, ints)

no_less : (w : ℤ) → (pos 0 +ℤ w) ≡ w
no_less w = omega (arith, ints)

-- of two parts of which both are never taken
one_of : (s t : Bool) (w : ℤ) → (s ≡ true → t ≡ true → ⊥) → (cond s w (pos 0) +ℤ cond t w (pos 0)) ≡ cond (s || t) w (pos 0)
one_of true true w never = absurd (never refl refl)
one_of true false w never = no_more w
one_of false true w never = no_less w
one_of false false w never = refl

-- ---- whether two edges are one

-- by all coordinates
abbrev pub same_edge : Edge → Edge → Bool
same_edge one other = int_eq one.x0 other.x0 && (int_eq one.y0 other.y0 && (int_eq one.x1 other.x1 && int_eq one.y1 other.y1))

-- the test tells edges that are one
pub same_is : (one other : Edge) → same_edge one other ≡ true → one ≡ other
same_is one other e =
    let first = and_parts (int_eq one.x0 other.x0) (int_eq one.y0 other.y0 && (int_eq one.x1 other.x1 && int_eq one.y1 other.y1)) e in
    let second = and_parts (int_eq one.y0 other.y0) (int_eq one.x1 other.x1 && int_eq one.y1 other.y1) first.1 in
    let third = and_parts (int_eq one.x1 other.x1) (int_eq one.y1 other.y1) second.1 in
    edges-same one other ((Decides-int_eq one.x0 other.x0).0 first.0) ((Decides-int_eq one.y0 other.y0).0 second.0) ((Decides-int_eq one.x1 other.x1).0 third.0) ((Decides-int_eq one.y1 other.y1).0 third.1)

pub same_itself : (edge : Edge) → same_edge edge edge ≡ true
same_itself edge = rw (int_eq-true edge.x0 edge.x0 refl, int_eq-true edge.y0 edge.y0 refl, int_eq-true edge.x1 edge.x1 refl, int_eq-true edge.y1 edge.y1 refl) refl

-- ---- the counts

module _ (subject clip : List Edge) (pieces : List Piece) (are : ArePieces subject clip pieces) (g : Piece) where
  -- what is below g where it starts
  abbrev below : Edge → ℤ
  below = below_on g.edge.x0 g.edge

  -- what has g's edge
  abbrev of_g : Edge → ℤ
  of_g edge = cond (same_edge (rightwards edge) g.edge) (weight edge) (pos 0)

  -- g weighs what the edges with its edge do
  weight-of : (edges : List Edge) (weigh : Piece → ℤ) → AreJoined edges weigh pieces → Contains pieces g → total of_g edges ≡ weigh g
  weight-of edges weigh joined among =
      let here : Piece → ℤ = λ piece. cond (same_edge piece.edge g.edge) (weigh piece) (pos 0) in
      let none : Piece → ℤ = λ piece. pos 0 in
      joined (λ edge. same_edge edge g.edge)
      ∙ total-but here none g (weigh g) (ap (λ t. cond t (weigh g) (pos 0)) (same_itself g.edge) ∙ sym (no_less (weigh g))) pieces are.distinct among
      (All-among (λ q. q.edge ≢ g.edge → here q ≡ none q) pieces (λ q inside differ. other (same_edge q.edge g.edge) (weigh q) (λ e. differ (same_is q.edge g.edge e))))
      ∙ ap (λ z. z +ℤ weigh g) (total-none none pieces (λ k d inside. refl))
      ∙ no_less (weigh g)
    where
      other : (t : Bool) (w : ℤ) → (t ≡ true → ⊥) → cond t w (pos 0) ≡ pos 0
      other true w never = absurd (never refl)
      other false w never = refl

  -- no edge is below g and has its edge
  apart : (edge : Edge) → (is_over g.edge.x0 (rightwards edge) && is_lower_on g.edge.x0 (rightwards edge) g.edge) ≡ true → same_edge (rightwards edge) g.edge ≡ true → ⊥
  apart edge lower same =
      let both = and_parts (is_over g.edge.x0 (rightwards edge)) (is_lower_on g.edge.x0 (rightwards edge) g.edge) lower in
      never (is_lower_on g.edge.x0 g.edge g.edge) (lower-irrefl g.edge.x0 g.edge) (subst (λ (e : Edge). is_lower_on g.edge.x0 e g.edge ≡ true) (same_is (rightwards edge) g.edge same) both.1)
    where
      never : (t : Bool) → t ≡ false → t ≡ true → ⊥
      never true none some = cc
      never false none some = cc

  -- what is below it or has its edge
  abbrev upto_g : Edge → Bool
  upto_g edge = (is_over g.edge.x0 edge && is_lower_on g.edge.x0 edge g.edge) || same_edge edge g.edge

  -- what is above it is what the pieces below it and it weigh
  above-is : (edges : List Edge) (weigh : Piece → ℤ) → AreJoined edges weigh pieces → Contains pieces g → (total below edges +ℤ weigh g) ≡ total (asked upto_g weigh) pieces
  above-is edges weigh joined among =
      ap (λ z. total below edges +ℤ z) (sym (weight-of edges weigh joined among)) ∙ sym (total-sum below of_g edges)
      ∙ total-same (λ edge. below edge +ℤ of_g edge) (λ edge. cond (upto_g (rightwards edge)) (weight edge) (pos 0)) edges
      (All-among (λ edge. (below edge +ℤ of_g edge) ≡ cond (upto_g (rightwards edge)) (weight edge) (pos 0)) edges
      (λ edge inside. one_of (is_over g.edge.x0 (rightwards edge) && is_lower_on g.edge.x0 (rightwards edge) g.edge) (same_edge (rightwards edge) g.edge) (weight edge) (apart edge)))
      ∙ joined upto_g

  pub counts-small : (most : ℕ) → WeighUpto most pieces → Contains pieces g
      → IsWithin most (counts_below subject clip g).subject × IsWithin most (counts_above subject clip g).subject
      × IsWithin most (counts_below subject clip g).clip × IsWithin most (counts_above subject clip g).clip
  counts-small most small among = (
    subst (IsWithin most) (sym (are.joined lower_g)) (small lower_g).0,
    subst (IsWithin most) (sym (above-is subject (λ piece. piece.subject) are.joined among)) (small upto_g).0,
    subst (IsWithin most) (sym (are.clip_joined lower_g)) (small lower_g).1,
    subst (IsWithin most) (sym (above-is clip (λ piece. piece.clip) are.clip_joined among)) (small upto_g).1,
  )
    where
      lower_g : Edge → Bool
      lower_g edge = is_over g.edge.x0 edge && is_lower_on g.edge.x0 edge g.edge
