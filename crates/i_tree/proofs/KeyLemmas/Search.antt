-- What a descent of a tree of keys that rise answers.
use Rattle.std.proofs.Common.{◌≡◌, ◌≢◌, ◌≤◌, ℕ, Bool, true, false, not, if◌then◌else◌, List, refl, ap, inl, inr, arith}
use Rattle.std.specs.Cmp.{IsTotalOrder}
use Rattle.std.specs.Ordering.{is_gt, is_lt, ordering_index}
use Rattle.std.specs.declared.cmp.Ordering.{Ordering}
use Rattle.std.specs.declared.cmp.Ordering.TheVariants.{Less, Equal, Greater}
use Rattle.i_tree.proofs.ExpiringLemmas.Search.{ReadsAt, answer_above, answer_at_most, live}
use Rattle.i_tree.proofs.RootLemmas.Along.{IsLast-same}
use Rattle.i_tree.proofs.RootLemmas.Lists.{Without-filter}
use Rattle.i_tree.proofs.RootLemmas.RisingKeys.{Above-from_along, AtMost-from_along, GreatestOr-from_last, IsMonotoneAlong-rising}
use Rattle.i_tree.proofs.RootLemmas.Withouts.{IsRising-without}
use Rattle.i_tree.specs.Root.Along.{AtMostAlong, IsMonotoneAlong}
use Rattle.i_tree.specs.Root.Answer.{AboveBy, AtMostBy, Below}
use Rattle.i_tree.specs.Root.Change.{Without}
use Rattle.i_tree.specs.Root.Pairs.{IsRising}
use Rattle.i_tree.specs.Expiring.Descent.{DescendsBetween}
use Rattle.i_tree.specs.Expiring.Tree.{items}
use Rattle.i_tree.specs.Rb.Shape.{Shape}
use Rattle.i_tree.specs.declared.rb.place.Place.{Place}

-- a test that is Less where it holds, and else Greater, passes where it holds
pub below-passes : (b : Bool) → not (is_gt (if b then Less else Greater)) ≡ b
below-passes true = refl
below-passes false = refl

-- Less where one is below the other, else Greater
abbrev pub below_or_not : Ordering → Ordering
below_or_not r = if is_lt r then Less else Greater

below_less : (r : Ordering) → below_or_not r ≡ Less → r ≡ Less
below_less r is = grind arith

below_apart : (r : Ordering) → below_or_not r ≢ Equal
below_apart r is = grind arith

module _ {K V : Type 0} {cmp : K → K → Ordering} (o : IsTotalOrder cmp) (key : K) where
  -- along keys that rise, those below a key come first
  monotone_below : (pairs : List (K × V)) → IsRising cmp pairs → IsMonotoneAlong (λ other. below_or_not (cmp other key)) pairs
  monotone_below pairs rising i j d lower within = by_answers (cmp _ key) (cmp _ key) (λ below. o.trans _ _ key (rising i j d lower within) below)
    where
      by_answers : (r s : Ordering) → (s ≡ Less → r ≡ Less) → ordering_index (below_or_not r) ≤ ordering_index (below_or_not s)
      by_answers Less Less down = omega arith
      by_answers Less Equal down = omega arith
      by_answers Less Greater down = omega arith
      by_answers Equal Less down = let less = down refl in absurd (cc less)
      by_answers Equal Equal down = omega arith
      by_answers Equal Greater down = omega arith
      by_answers Greater Less down = let less = down refl in absurd (cc less)
      by_answers Greater Equal down = omega arith
      by_answers Greater Greater down = omega arith

  -- what is at most by the test is below the key
  below_along : (pairs : List (K × V)) → IsRising cmp pairs → (default value : V) → AtMostAlong (λ other. below_or_not (cmp other key)) pairs default value → Below cmp pairs key default value
  below_along pairs rising default value (inl (k, pair, within, at, (equal, is))) = absurd (below_apart (cmp pair.0 key) equal)
  below_along pairs rising default value (inr (none, (found, last, is))) =
      GreatestOr-from_last o (λ other. cmp other key ≡ Less) pairs default value rising (
        found,
        IsLast-same (λ (pair : K × V). below_or_not (cmp pair.0 key) ≡ Less) (λ pair. cmp pair.0 key ≡ Less) (λ pair. below_less (cmp pair.0 key)) (λ pair. ap below_or_not) pairs found last,
        is,
      )

module _ {K V : Type 0} {cmp : K → K → Ordering} (o : IsTotalOrder cmp) (is_live : K → Bool) (before : List (K × V)) (rising : IsRising cmp before) (May : K → Ordering → Type 0) (tree : Shape (K × V)) (place : Place) (last : ℕ) (said : Ordering) (next : ℕ)
    (kept : Without (λ pair. is_live pair.0 ≡ false) before (items tree)) (default value : V) (end : DescendsBetween is_live May tree place last said next) where
  rising_live : IsRising cmp (live is_live before)
  rising_live = IsRising-without cmp (Without-filter (λ (pair : K × V). is_live pair.0) before) rising

  -- what a descent to a key answers, by what was stored before, and what a descent by a closure does
  module _ (read : ReadsAt (λ (pair : K × V). pair.1) default tree last value) where
    pub answer_below : (key : K) → ((other : K) (answer : Ordering) → May other answer → answer ≡ below_or_not (cmp other key)) → Below cmp (live is_live before) key default value
    answer_below key says =
        below_along o key (live is_live before) rising_live default value
        (answer_at_most is_live May tree place last said next end before kept default value read (λ other. below_or_not (cmp other key)) (λ k d within answer may. says _ answer may)
        (monotone_below o key (live is_live before) rising_live))

    pub answer_at_most_by : AtMostBy cmp May (live is_live before) default value
    answer_at_most_by order answers monotone =
        AtMost-from_along o (live is_live before) order default value rising_live
        (answer_at_most is_live May tree place last said next end before kept default value read order answers (IsMonotoneAlong-rising cmp (live is_live before) order rising_live monotone))

  pub answer_above_by : ReadsAt (λ (pair : K × V). pair.1) default tree next value → AboveBy cmp May (live is_live before) default value
  answer_above_by read order answers monotone =
      Above-from_along o (live is_live before) order default value rising_live
      (answer_above is_live May tree place last said next end before kept default value read order answers (IsMonotoneAlong-rising cmp (live is_live before) order rising_live monotone))
