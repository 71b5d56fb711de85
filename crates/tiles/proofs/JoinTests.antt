-- Tests of lists in loops, and of windows.
use Rattle.std.proofs.Common.{Bool, true, false, ◌||◌, ◌≡◌, ◌≢◌, ◌⊎◌, inl, inr, ℕ, ℤ, ◌+◌, ◌-◌, ◌<◌, ◌≤◌, List, [], ◌∷◌, drop, get_or, length, take, refl, sym, subst, arith}
use Rattle.std.specs.Bool.{MatchBool}
use Rattle.std.specs.Prelude.{◌↔◌}
use Rattle.std.specs.List.{All, AllPairs}
use Rattle.std.specs.Ordering.{int_eq}
use Rattle.std.proofs.lemmas.Bool.Decides.{Decides-int_eq}
use Rattle.std.proofs.lemmas.Int.{clamps, ints}
use Rattle.std.proofs.lemmas.List.{drop_more, length-drop, take_all, take_more}
use Rattle.std.proofs.lemmas.List.Kept.{AllPairs-cons}
use Rattle.std.proofs.lemmas.List.Elements.{All-head, All-more, All-nil, All-weaker}
use Rattle.i_tree.proofs.RootLemmas.Joined.{All-behind, All-front}
use Rattle.i_tree.proofs.RootLemmas.Lists.{AllPairs-head, AllPairs-tail}
use Rattle.plane.specs.declared.point.Point.{Point}
use Rattle.tiles.specs.Join.{IsIn, around_both}
use Rattle.tiles.specs.Part.{is_at_border}
use Rattle.tiles.specs.Window.{HasPoints}
use Rattle.tiles.specs.declared.window.Window.{Window}

-- one test hasn't both answers
pub not-true : false ≡ true → ⊥
not-true h = cc

-- ---- each two of a list

module _ {X : Type 0} (R : X → X → Type 0) (xs : List X) (at : ℕ) (d : X) (inside : at < length xs) (told : AllPairs R xs ↔ AllPairs R (drop at xs)) where
  -- one more is so with all behind it
  pub pairs-more : All (R (get_or xs at d)) (drop (at + 1) xs) → AllPairs R xs ↔ AllPairs R (drop (at + 1) xs)
  pairs-more all = (
    λ every. AllPairs-tail R (get_or xs at d) (drop (at + 1) xs) (subst (AllPairs R) (drop_more xs at d inside) (told.0 every)),
    λ rest. told.1 (subst (AllPairs R) (sym (drop_more xs at d inside)) (AllPairs-cons R (get_or xs at d) (drop (at + 1) xs) all rest)),
  )

  -- or one isn't
  pub pairs-fail : ¬ (All (R (get_or xs at d)) (drop (at + 1) xs)) → ¬ (AllPairs R xs)
  pairs-fail not every = not (AllPairs-head R (get_or xs at d) (drop (at + 1) xs) (subst (AllPairs R) (drop_more xs at d inside) (told.0 every)))

-- ---- each of a list

-- those before a place that is behind all are all
pub all-taken : {X : Type 0} (P : X → Type 0) (xs : List X) (n : ℕ) → length xs ≤ n → All P (take n xs) → All P xs
all-taken P xs n past every = subst (All P) (take_all n xs past) every

-- the first is one of them
pub all-first : {X : Type 0} (P : X → Type 0) (xs : List X) (d : X) → (length xs ≡ 0 → ⊥) → All P xs → P (get_or xs 0 d)
all-first P xs d some every = every 0 d (omega (arith, some))

-- all behind a place are all that are left
pub rest-taken : {X : Type 0} (xs : List X) (k : ℕ) → take (length xs - k) (drop k xs) ≡ drop k xs
rest-taken xs k = take_all (length xs - k) (drop k xs) (let size = length-drop k xs in omega (arith, size))

-- ---- one test after another

pub both-decide : (r : Bool) (A B C : Type 0) → A → (A → B → C) → (C → B) → MatchBool r B (¬ B) → MatchBool r C (¬ C)
both-decide true A B C a make part b = make a b
both-decide false A B C a make part not = λ c. not (part c)

pub last-decides : (r : Bool) (A B C D : Type 0) → ¬ A → ¬ B → ¬ C → MatchBool r D (¬ D) → MatchBool r (A ⊎ (B ⊎ (C ⊎ D))) (¬ (A ⊎ (B ⊎ (C ⊎ D))))
last-decides true A B C D a b c holds = inr (inr (inr holds))
last-decides false A B C D a b c not = λ some. elim some [
  | inl first ↦ a first
  | inr (inl second) ↦ b second
  | inr (inr (inl third)) ↦ c third
  | inr (inr (inr last)) ↦ not last
]

-- ---- points at a border

equal : (a b : ℤ) → int_eq a b ≡ true → a ≡ b
equal a b e = (Decides-int_eq a b).0 e

differs : (a b : ℤ) → a ≢ b → int_eq a b ≡ false
differs a b apart = by (int_eq a b) refl
  where
    by : (t : Bool) → int_eq a b ≡ t → t ≡ false
    by false e = refl
    by true e = absurd (apart (equal a b e))

never : true ≡ false → ⊥
never h = cc

some-holds : (a b c d : Bool) → (a ≡ true) ⊎ ((b ≡ true) ⊎ ((c ≡ true) ⊎ (d ≡ true))) → (a || b || c || d) ≡ true
some-holds true b c d some = refl
some-holds false true c d some = refl
some-holds false false true d some = refl
some-holds false false false true some = refl
some-holds false false false false (inl e) = e
some-holds false false false false (inr (inl e)) = e
some-holds false false false false (inr (inr (inl e))) = e
some-holds false false false false (inr (inr (inr e))) = e

none-holds : (a b c d : Bool) → a ≡ false → b ≡ false → c ≡ false → d ≡ false → (a || b || c || d) ≡ false
none-holds false false false false e f g h = refl
none-holds true b c d e f g h = absurd (never e)
none-holds false true c d e f g h = absurd (never f)
none-holds false false true d e f g h = absurd (never g)
none-holds false false false true e f g h = absurd (never h)

module _ (window : Window) (point : Point) where
  same : (a b : ℤ) → a ≡ b → int_eq a b ≡ true
  same a b is = (Decides-int_eq a b).1 is

  pub border-along : (point.x ≡ window.left) ⊎ (point.x ≡ window.right) → is_at_border window point ≡ true
  border-along (inl is) = some-holds (int_eq point.x window.left) (int_eq point.x window.right) (int_eq point.y window.low) (int_eq point.y window.high) (inl (same point.x window.left is))
  border-along (inr is) = some-holds (int_eq point.x window.left) (int_eq point.x window.right) (int_eq point.y window.low) (int_eq point.y window.high) (inr (inl (same point.x window.right is)))

  border-up : (point.y ≡ window.low) ⊎ (point.y ≡ window.high) → is_at_border window point ≡ true
  border-up (inl is) = some-holds (int_eq point.x window.left) (int_eq point.x window.right) (int_eq point.y window.low) (int_eq point.y window.high) (inr (inr (inl (same point.y window.low is))))
  border-up (inr is) = some-holds (int_eq point.x window.left) (int_eq point.x window.right) (int_eq point.y window.low) (int_eq point.y window.high) (inr (inr (inr (same point.y window.high is))))

  -- where it isn't beside left and right, low and high decide
  pub border-decides : (r : Bool) → ¬ ((point.x ≡ window.left) ⊎ (point.x ≡ window.right)) → MatchBool r ((point.y ≡ window.low) ⊎ (point.y ≡ window.high)) (¬ ((point.y ≡ window.low) ⊎ (point.y ≡ window.high)))
      → MatchBool r (is_at_border window point ≡ true) (is_at_border window point ≡ false)
  border-decides true not is = border-up is
  border-decides false not none =
      none-holds (int_eq point.x window.left) (int_eq point.x window.right) (int_eq point.y window.low) (int_eq point.y window.high)
      (differs point.x window.left (λ is. not (inl is))) (differs point.x window.right (λ is. not (inr is)))
      (differs point.y window.low (λ is. none (inl is))) (differs point.y window.high (λ is. none (inr is)))

-- ---- windows around windows

module _ (whole window : Window) where
  pub around-points : HasPoints whole → HasPoints (around_both whole window)
  around-points some = let wide = some.wide in let tall = some.tall in record { wide = omega (arith, ints, clamps, wide); tall = omega (arith, ints, clamps, tall) }

  around-whole : (inner : Window) → IsIn whole inner → IsIn (around_both whole window) inner
  around-whole inner is =
      let left = is.left in
      let low = is.low in
      let right = is.right in
      let high = is.high in
      record { left = omega (arith, ints, clamps, left); low = omega (arith, ints, clamps, low); right = omega (arith, ints, clamps, right); high = omega (arith, ints, clamps, high) }

  around-other : IsIn (around_both whole window) window
  around-other = record { left = omega (arith, ints, clamps); low = omega (arith, ints, clamps); right = omega (arith, ints, clamps); high = omega (arith, ints, clamps) }

  -- and what has both in it has that which is around both
  around-least : (outer : Window) → IsIn outer whole → IsIn outer window → IsIn outer (around_both whole window)
  around-least outer first second =
      let left = first.left in
      let low = first.low in
      let right = first.right in
      let high = first.high in
      let left_too = second.left in
      let low_too = second.low in
      let right_too = second.right in
      let high_too = second.high in
      record {
        left = omega (arith, ints, clamps, left, left_too);
        low = omega (arith, ints, clamps, low, low_too);
        right = omega (arith, ints, clamps, right, right_too);
        high = omega (arith, ints, clamps, high, high_too);
      }

-- The window has points, and is the least one with the first one and all of these in it.
pub record IsAround (first whole : Window) (windows : List Window) : Type 0 where
  pub some : HasPoints whole
  pub all : All (IsIn whole) windows
  pub least : (outer : Window) → IsIn outer first → All (IsIn outer) windows → IsIn outer whole

pub around-first : (first : Window) → HasPoints first → IsAround first first []
around-first first some = record { some = some; all = All-nil (IsIn first); least = λ outer is _. is }

-- one window more lies in what is around
pub around-more : (first whole : Window) (windows : List Window) (i : ℕ) (d : Window) → i < length windows → IsAround first whole (take i windows)
    → IsAround first (around_both whole (get_or windows i d)) (take (i + 1) windows)
around-more first whole windows i d inside is =
    let next = get_or windows i d in record {
      some = around-points whole next is.some;
      all = All-more (IsIn (around_both whole next)) windows i d inside
          (All-weaker (IsIn whole) (IsIn (around_both whole next)) (λ inner is. around-whole whole next inner is) (take i windows) is.all)
          (around-other whole next);
      least = λ outer has every.
          let both = subst (All (IsIn outer)) (take_more windows i d inside) every in
          around-least whole next outer (is.least outer has (All-front (IsIn outer) (take i windows) (next ∷ []) both))
          (All-head (IsIn outer) next [] (All-behind (IsIn outer) (take i windows) (next ∷ []) both));
    }
