-- The order in which edges end is that in which they begin, turned about; so any two compare.
use Rattle.std.proofs.Common.{◌≡◌, ◌<◌, inl, inr, false, Bool, ℕ, ℤ, pos, ◌-ℤ◌, ◌*ℤ◌, ◌≤ℤ◌, ◌<ℤ◌, List, length, get_or, refl, ap, ap₂, sym, subst, ◌∙◌, arith}
use Rattle.std.specs.Cmp.{IsStrictWeakOrder, int_cmp_is}
use Rattle.std.specs.Int.{int_max}
use Rattle.std.specs.List.{All, Contains}
use Rattle.std.specs.List.Sorted.{IsPermutation, IsSortedBy}
use Rattle.std.specs.Ordering.{MatchOrdering, int_cmp, is_lt}
use Rattle.std.specs.declared.cmp.Ordering.{Ordering}
use Rattle.std.specs.declared.cmp.Ordering.TheVariants.{Less, Equal, Greater}
use Rattle.std.proofs.lemmas.Cmp.{int_ranked}
use Rattle.std.proofs.lemmas.Int.{ints}
use Rattle.std.proofs.lemmas.List.{get_or_default}
use Rattle.std.proofs.lemmas.List.Elements.{Contains-get_or}
use Rattle.std.proofs.lemmas.List.Sorted.{All-permutation, Contains-permutation, sorted_far}
use Rattle.plane.specs.declared.edge.Edge.{Edge}
use Rattle.plane.specs.declared.sweep_line.active.ActiveEdge.{ActiveEdge}
use Rattle.plane.specs.SweepLine.Active.{then_cmp}
use Rattle.plane.specs.SweepLine.Heights.{rise, run}
use Rattle.overlay.specs.declared.fill.pieces.Piece.{Piece}
use Rattle.overlay.specs.Fill.Begins.{BeginsUpto, cmp_begins, steps}
use Rattle.overlay.specs.Fill.Handed.{AreEnds, EndsUpto, active_at, cmp_ends, no_end}
use Rattle.overlay.proofs.PieceLemmas.Begins.{begins_before, not_before, weak_order}

-- the test by which ends are sorted
abbrev pub ends_before : ActiveEdge → ActiveEdge → Bool
ends_before one other = is_lt (cmp_ends one.edge other.edge)

-- the edge turned about the origin by half a turn: its end is its start
abbrev about : Edge → Edge
about edge = record { x0 = pos 0 -ℤ edge.x1; y0 = pos 0 -ℤ edge.y1; x1 = pos 0 -ℤ edge.x0; y1 = pos 0 -ℤ edge.y0 }

abbrev piece_about : ActiveEdge → Piece
piece_about active = record { edge = about active.edge; subject = pos 0; clip = pos 0 }

-- it rises and runs as it did
rise-about : (edge : Edge) → rise (about edge) ≡ rise edge
rise-about edge = omega (arith, ints)

steps-about : (edge : Edge) → steps (about edge) ≡ steps edge
steps-about edge = ap (λ (n : ℤ). int_max n (pos 1)) (same edge)
  where
    same : (edge : Edge) → run (about edge) ≡ run edge
    same edge = omega (arith, ints)

-- numbers compare as they do turned about
about_cmp : (a b : ℤ) → int_cmp (pos 0 -ℤ b) (pos 0 -ℤ a) ≡ int_cmp a b
about_cmp a b = sym (int_cmp_is (pos 0 -ℤ b) (pos 0 -ℤ a) (int_cmp a b) (ranked (int_cmp a b) (int_ranked a b (int_cmp a b) refl)))
  where
    ranked : (r : Ordering) → MatchOrdering r (a <ℤ b) (a ≡ b) (b <ℤ a) → MatchOrdering r ((pos 0 -ℤ b) <ℤ (pos 0 -ℤ a)) ((pos 0 -ℤ b) ≡ (pos 0 -ℤ a)) ((pos 0 -ℤ a) <ℤ (pos 0 -ℤ b))
    ranked Less is = omega (arith, ints, is)
    ranked Equal is = ap (λ (z : ℤ). pos 0 -ℤ z) (sym is)
    ranked Greater is = omega (arith, ints, is)

products : (one other : Edge) → (rise (about one) *ℤ steps (about other)) ≡ (rise one *ℤ steps other)
products one other = ap₂ (λ (a b : ℤ). a *ℤ b) (rise-about one) (steps-about other)

-- So one ends before another as the other, turned about, begins before it.
ends-about : (one other : Edge) → cmp_begins (about other) (about one) ≡ cmp_ends one other
ends-about one other =
    ap₂ (λ (a b : ℤ). then_cmp (int_cmp (pos 0 -ℤ other.x1) (pos 0 -ℤ one.x1)) (then_cmp (int_cmp (pos 0 -ℤ other.y1) (pos 0 -ℤ one.y1)) (int_cmp a b))) (products other one) (products one other)
    ∙ ap₂ (λ (r s : Ordering). then_cmp r (then_cmp s (int_cmp (rise other *ℤ steps one) (rise one *ℤ steps other)))) (about_cmp one.x1 other.x1) (about_cmp one.y1 other.y1)

before-about : (one other : ActiveEdge) → ends_before one other ≡ begins_before (piece_about other) (piece_about one)
before-about one other = sym (ap is_lt (ends-about one.edge other.edge))

pub ends_order : IsStrictWeakOrder ends_before
ends_order = record {
  one_way = λ one other told. before-about other one ∙ weak_order.one_way (piece_about other) (piece_about one) (sym (before-about one other) ∙ told);
  chain = λ one other third first second.
      before-about one third ∙ weak_order.chain (piece_about third) (piece_about other) (piece_about one) (sym (before-about other third) ∙ second) (sym (before-about one other) ∙ first);
}

upto-about : (one other : Edge) → BeginsUpto (about other) (about one) → EndsUpto one other
upto-about one other (inl less) = inl (omega (arith, ints, less))
upto-about one other (inr (same, inl less)) = inr (omega (arith, ints, same), inl (omega (arith, ints, less)))
upto-about one other (inr (same, inr (even, steep))) =
    inr (omega (arith, ints, same), inr (omega (arith, ints, even), subst (λ (a : ℤ). a ≤ℤ (rise one *ℤ steps other)) (products other one) (subst (λ (b : ℤ). (rise (about other) *ℤ steps (about one)) ≤ℤ b) (products one other) steep)))

ends_not_before : (one other : ActiveEdge) → ends_before one other ≡ false → EndsUpto other.edge one.edge
ends_not_before one other told = upto-about other.edge one.edge (not_before (piece_about other) (piece_about one) (sym (before-about one other) ∙ told))

-- Sorted by that, the pieces stand as they end.
pub AreEnds-sorted : (pieces : List Piece) (made sorted : List ActiveEdge) → length made ≡ length pieces → ((place : ℕ) → place < length pieces → get_or made place no_end ≡ active_at pieces place)
    → IsPermutation made sorted → IsSortedBy ends_before sorted → AreEnds pieces sorted
AreEnds-sorted pieces made sorted size are moved up = record {
  of = All-permutation Of made sorted moved of;
  each = λ place within. Contains-permutation made sorted (active_at pieces place) moved (subst (Contains made) (are place within) (Contains-get_or made place no_end (omega (arith, size, within))));
  order = λ i j d less within. ends_not_before (get_or sorted j d) (get_or sorted i d) (sorted_far ends_before ends_order sorted up i j d (omega (arith, less)) within);
}
  where
    Of : ActiveEdge → Type 0
    Of end = (end.place < length pieces) × (end ≡ active_at pieces end.place)

    of : All Of made
    of i d within =
        let inside : i < length pieces = omega (arith, size, within) in
        subst Of (sym (get_or_default made i d no_end within ∙ are i inside)) (inside, refl)
