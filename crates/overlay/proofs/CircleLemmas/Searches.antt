-- Tests of whether some item of a list passes, whether two lists of points have one in common, and all pairs of numbers.
use Rattle.std.proofs.Common.{◌≡◌, inl, inr, ◌<◌, ℕ, zero, suc, Bool, true, List, [], ◌∷◌, map, ap, subst, ◌∙◌, arith}
use Rattle.std.specs.List.{Contains, flat_map, list_any, range_with_len}
use Rattle.std.proofs.lemmas.Bool.{or_cases, or_left, or_right}
use Rattle.std.proofs.lemmas.List.FromFn.{get_or-range_with_len, length-range_with_len}
use Rattle.i_tree.proofs.RootLemmas.Lists.{Contains-here, Contains-there}
use Rattle.plane.specs.declared.point.Point.{Point}
use Rattle.plane.proofs.PairsLemmas.Bags.{Contains-map}
use Rattle.overlay.proofs.ContourLemmas.Counts.{is_at, is_at-itself, is_at-same}
use Rattle.overlay.proofs.GroupingLemmas.Bags.{Contains-in_flat_map}

-- ---- some item passes

module _ {X : Type 0} (test : X → Bool) where
  pub some-told : (xs : List X) → list_any test xs ≡ true → (x : X) × Contains xs x × (test x ≡ true)
  some-told [] told = absurd cc
  some-told (x ∷ xs) told = elim (or_cases (test x) (list_any test xs) told) [
    | inl here ↦ (x, Contains-here x xs, here)
    | inr later ↦ (let (y, held, passes) = some-told xs later in (y, Contains-there x xs y held, passes))
  ]

  pub some-held : (xs : List X) (x : X) → Contains xs x → test x ≡ true → list_any test xs ≡ true
  some-held [] x (k, within, is) passes = absurd (omega (arith, within))
  some-held (first ∷ xs) x (zero, within, is) passes = or_left (test first) (list_any test xs) (ap test is ∙ passes)
  some-held (first ∷ xs) x (suc k, within, is) passes = or_right (test first) (list_any test xs) (some-held xs x (k, omega (arith, within), is) passes)

-- ---- a point in common

abbrev pub has_point : List Point → Point → Bool
has_point points at = list_any (is_at at) points

pub has_point-told : (points : List Point) (at : Point) → has_point points at ≡ true → Contains points at
has_point-told points at told = let (point, held, same) = some-told (is_at at) points told in subst (Contains points) (is_at-same at point same) held

pub has_point-held : (points : List Point) (at : Point) → Contains points at → has_point points at ≡ true
has_point-held points at held = some-held (is_at at) points at held (is_at-itself at)

abbrev pub share : List Point → List Point → Bool
share one other = list_any (has_point other) one

pub share-told : (one other : List Point) → share one other ≡ true → (at : Point) × Contains one at × Contains other at
share-told one other told = let (at, held, same) = some-told (has_point other) one told in (at, held, has_point-told other at same)

pub share-held : (one other : List Point) (at : Point) → Contains one at → Contains other at → share one other ≡ true
share-held one other at held held_too = some-held (has_point other) one at held (has_point-held other at held_too)

-- ---- pairs of numbers

pub numbers-held : (count number : ℕ) → number < count → Contains (range_with_len 0 count) number
numbers-held count number within =
    let size = length-range_with_len 0 count in
    let at = get_or-range_with_len 0 count number number within in
    (number, omega (arith, size, within), omega (arith, at))

abbrev pub pairs : ℕ → List (ℕ × ℕ)
pairs count = flat_map (λ one. map (λ other. (one, other)) (range_with_len 0 count)) (range_with_len 0 count)

pub pairs-held : (count one other : ℕ) → one < count → other < count → Contains (pairs count) (one, other)
pairs-held count one other within within_too =
    let pair : ℕ → ℕ → ℕ × ℕ = λ a b. (a, b) in
    Contains-in_flat_map (λ (a : ℕ). map (pair a) (range_with_len 0 count)) (range_with_len 0 count) one (one, other) (numbers-held count one within)
    (Contains-map (pair one) (range_with_len 0 count) other (numbers-held count other within_too))
