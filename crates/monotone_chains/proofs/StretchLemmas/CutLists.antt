-- Parts of lists, and lists joined.
use Rattle.std.proofs.Common.{◌≡◌, ℕ, ◌+◌, ◌-◌, ◌≤◌, List, [], ◌∷◌, ◌++◌, get_or, take, drop, ap, ◌∙◌, arith}
use Rattle.std.specs.List.{All, AllPairs, between}
use Rattle.std.proofs.lemmas.Grind.{flat_map-append}
use Rattle.std.proofs.lemmas.List.{drop-drop}
use Rattle.std.proofs.lemmas.List.Elements.{All-nil, All-head, All-tail, All-append}
use Rattle.std.proofs.Math.Seq.{take-add}
use Rattle.i_tree.proofs.RootLemmas.Joined.{AllPairs-append, AllPairs-nil}
use Rattle.i_tree.proofs.RootLemmas.Lists.{AllPairs-head, AllPairs-tail}
use Rattle.noding.proofs.ChainLemmas.Offsets.{joined}

module _ {X : Type 0} where
  -- from the one place to the third over the second
  pub between-joined : (start mid end : ℕ) (items : List X) → start ≤ mid → mid ≤ end → between start end items ≡ between start mid items ++ between mid end items
  between-joined start mid end items first second =
      ap (λ (n : ℕ). take n (drop start items)) (let sum : end - start ≡ (mid - start) + (end - mid) = omega (arith, first, second) in sum)
      ∙ take-add (mid - start) (end - mid) (drop start items)
      ∙ ap (λ (rest : List X). between start mid items ++ take (end - mid) rest)
      (drop-drop (mid - start) start items ∙ ap (λ (n : ℕ). drop n items) (let back : start + (mid - start) ≡ mid = omega (arith, first) in back))

  pub joined-append : (xs ys : List (List X)) → joined (xs ++ ys) ≡ joined xs ++ joined ys
  joined-append xs ys = flat_map-append (λ (list : List X). list) xs ys

-- a relation of all pairs of items of lists: those of one list, and those of two
module _ {X : Type 0} (R : X → X → Type 0) where
  pub AllPairs-joined_lists : (lists : List (List X)) → All (AllPairs R) lists → AllPairs (λ one other. All (λ x. All (R x) other) one) lists → AllPairs R (joined lists)
  AllPairs-joined_lists [] inner across = AllPairs-nil R
  AllPairs-joined_lists (list ∷ lists) inner across =
      AllPairs-append R list (joined lists) (All-head (AllPairs R) list lists inner)
      (AllPairs-joined_lists lists (All-tail (AllPairs R) list lists inner) (AllPairs-tail Across list lists across))
      (flat lists (AllPairs-head Across list lists across))
    where
      Across : List X → List X → Type 0
      Across one other = All (λ x. All (R x) other) one

      flat : (others : List (List X)) → All (Across list) others → All (λ x. All (R x) (joined others)) list
      flat [] all = λ k d within. All-nil (R (get_or list k d))
      flat (other ∷ others) all = λ k d within.
          All-append (R (get_or list k d)) other (joined others) (All-head (Across list) other others all k d within)
          (flat others (All-tail (Across list) other others all) k d within)
