-- How often edges wind around a point, and whether one goes through it: of some edges and of others, and how far the number goes.
use Rattle.std.proofs.Common.{Bool, true, false, ◌||◌, ◌≡◌, inl, inr, ℕ, ◌+◌, ◌<◌, ◌≤◌, ℤ, ◌+ℤ◌, List, [], ◌∷◌, ◌++◌, length, get_or, take, refl, subst, arith}
use Rattle.std.proofs.lemmas.Int.{ints}
use Rattle.std.proofs.lemmas.List.{take_more}
use Rattle.std.proofs.lemmas.List.Sums.{count_by-le-length}
use Rattle.plane.specs.declared.edge.Edge.{Edge}
use Rattle.plane.specs.Meet.Crosses.{IsWithin}
use Rattle.plane.specs.Meet.Edges.{RationalPoint}
use Rattle.plane.specs.Ends.{reversed}
use Rattle.noding.specs.Windings.{is_under, winding}
use Rattle.noding.proofs.SnapLemmas.Counted.{added}
use Rattle.noding.proofs.SnapLemmas.Windings.{winding-added, winding-append}
use Rattle.layers.specs.Around.{IsOn, IsOnAny}
use Rattle.layers.specs.Chains.{AreSameAround, IsAround}
use Rattle.layers.specs.declared.around.turns.Around.{Around}
use Rattle.layers.proofs.AroundLemmas.Lists.{Any-append_cases, Any-append_left, Any-append_right}

module _ (point : RationalPoint) where
  -- ---- what is told of edges

  pub IsAround-append : (edges others : List Edge) (one other both : Around) → IsAround point edges one → IsAround point others other
      → both.turns ≡ one.turns +ℤ other.turns → both.touches ≡ (one.touches || other.touches) → IsAround point (edges ++ others) both
  IsAround-append edges others one other both is other_is turns touches = record {
    turns = (let first = is.turns in let second = other_is.turns in let sum = winding-append edges others point in omega (arith, ints, first, second, sum, turns));
    touches = (
      λ test. either one.touches other.touches (λ t. is.touches.0 t) (λ t. other_is.touches.0 t) (subst (λ (t : Bool). t ≡ true) touches test),
      λ some. subst (λ (t : Bool). t ≡ true) (cc) (some_of some),
    );
  }
    where
      either : (s t : Bool) → (s ≡ true → IsOnAny edges point) → (t ≡ true → IsOnAny others point) → (s || t) ≡ true → IsOnAny (edges ++ others) point
      either true t first second test = Any-append_left (λ e. IsOn e point) edges others (first refl)
      either false true first second test = Any-append_right (λ e. IsOn e point) edges others (second refl)
      either false false first second test = cc

      or-left : (s t : Bool) → s ≡ true → (s || t) ≡ true
      or-left true t is = refl
      or-left false t is = cc

      or-right : (s t : Bool) → t ≡ true → (s || t) ≡ true
      or-right true true is = refl
      or-right false true is = refl
      or-right s false is = cc

      some_of : IsOnAny (edges ++ others) point → (one.touches || other.touches) ≡ true
      some_of some = elim (Any-append_cases (λ e. IsOn e point) edges others some) [
        | inl first ↦ or-left one.touches other.touches (is.touches.1 first)
        | inr second ↦ or-right one.touches other.touches (other_is.touches.1 second)
      ]

  -- one edge more
  pub IsAround-more : (edges : List Edge) (k : ℕ) (d edge : Edge) (one other both : Around) → k < length edges → get_or edges k d ≡ edge → IsAround point (take k edges) one → IsAround point (edge ∷ []) other
      → both.turns ≡ one.turns +ℤ other.turns → both.touches ≡ (one.touches || other.touches) → IsAround point (take (k + 1) edges) both
  IsAround-more edges k d edge one other both within at is other_is turns touches =
      rw (take_more edges k d within, at) (IsAround-append (take k edges) (edge ∷ []) one other both is other_is turns touches)

  -- edges wind around a point as often as there are edges at most
  pub winding-within : (edges : List Edge) (n : ℕ) → length edges ≤ n → IsWithin n (winding edges point)
  winding-within edges n upto =
      let first = count_by-le-length (λ e. is_under e point) edges in
      let second = count_by-le-length (λ e. is_under (reversed e) point) edges in
      record { from = omega (arith, ints, first, second, upto); upto = omega (arith, ints, first, second, upto) }

  -- ---- the same around a point

  pub AreSame-refl : (edges : List Edge) → AreSameAround point edges edges
  AreSame-refl edges = record { turns = refl; touches = (λ some. some, λ some. some) }

  pub AreSame-trans : (edges others more : List Edge) → AreSameAround point edges others → AreSameAround point others more → AreSameAround point edges more
  AreSame-trans edges others more first second = record {
    turns = (let one = first.turns in let other = second.turns in cc (one, other));
    touches = (λ some. second.touches.0 (first.touches.0 some), λ some. first.touches.1 (second.touches.1 some));
  }

  pub AreSame-append : (xs ys xs' ys' : List Edge) → AreSameAround point xs xs' → AreSameAround point ys ys' → AreSameAround point (xs ++ ys) (xs' ++ ys')
  AreSame-append xs ys xs' ys' first second = record {
    turns = (let one = first.turns in let other = second.turns in let sum = winding-append xs ys point in let sums = winding-append xs' ys' point in omega (arith, ints, one, other, sum, sums));
    touches = (
      λ some. elim (Any-append_cases (λ e. IsOn e point) xs ys some) [
        | inl here ↦ Any-append_left (λ e. IsOn e point) xs' ys' (first.touches.0 here)
        | inr there ↦ Any-append_right (λ e. IsOn e point) xs' ys' (second.touches.0 there)
      ],
      λ some. elim (Any-append_cases (λ e. IsOn e point) xs' ys' some) [
        | inl here ↦ Any-append_left (λ e. IsOn e point) xs ys (first.touches.1 here)
        | inr there ↦ Any-append_right (λ e. IsOn e point) xs ys (second.touches.1 there)
      ],
    );
  }

  -- edges that don't go through the point are the same as others that don't, if they wind around it as often
  pub AreSame-off : (edges others : List Edge) → added edges point ≡ added others point → ¬ (IsOnAny edges point) → ¬ (IsOnAny others point) → AreSameAround point edges others
  AreSame-off edges others same off other_off = record {
    turns = (let one = winding-added edges point in let other = winding-added others point in omega (arith, ints, one, other, same));
    touches = (λ some. absurd (off some), λ some. absurd (other_off some));
  }

  pub IsAround-off : (edges : List Edge) (turns : ℤ) → added edges point ≡ turns → ¬ (IsOnAny edges point) → IsAround point edges (record { turns = turns; touches = false })
  IsAround-off edges turns is off = record {
    turns = (let one = winding-added edges point in omega (arith, ints, one, is));
    touches = (λ test. cc, λ some. absurd (off some));
  }
