-- Two neighbours of a list that are exchanged; and what is told of how a list ends and begins.
use Rattle.std.proofs.Common.{◌≡◌, List, [], ◌∷◌, ◌++◌, Option, Some, None, IfSome, get_or, arith, refl, sym, ap, ◌∙◌, subst}
use Rattle.std.specs.Bool.{⊤}
use Rattle.std.specs.List.{All, AllPairs}
use Rattle.std.specs.List.Sorted.{IsPermutation}
use Rattle.std.proofs.lemmas.List.Elements.{All-append, All-cons, All-head, All-tail}
use Rattle.std.proofs.lemmas.List.Sorted.{IsPermutation-append_right, IsPermutation-middle}
use Rattle.i_tree.proofs.RootLemmas.Joined.{AllPairs-joined}
use Rattle.plane.specs.declared.sweep_line.active.ActiveEdge.{ActiveEdge}
use Rattle.plane.specs.SweepLine.Line.{Adjacent}
use Rattle.plane.specs.Columns.Status.{BeginsWith, EndsWith}
use Rattle.plane.proofs.SweepLineLemmas.Adjacent.{Adjacent-behind, Adjacent-front, Adjacent-joined, Adjacent-weaker, All-at, AllPairs-after, AllPairs-before, AllPairs-left_out}

-- ---- how a list ends

ends_same : {X : Type 0} (xs ys : List X) (x y : X) → xs ++ x ∷ [] ≡ ys ++ y ∷ [] → x ≡ y
ends_same [] [] x y is = cc
ends_same [] (z ∷ []) x y is = cc
ends_same [] (z ∷ w ∷ ys) x y is = cc
ends_same (w ∷ []) [] x y is = cc
ends_same (w ∷ v ∷ xs) [] x y is = cc
ends_same (w ∷ xs) (z ∷ ys) x y is = let rest : xs ++ x ∷ [] ≡ ys ++ y ∷ [] = cc in ends_same xs ys x y rest

never_nil : {X : Type 0} (xs : List X) (x : X) → [] ≡ xs ++ x ∷ [] → ⊥
never_nil [] x is = cc
never_nil (y ∷ xs) x is = cc

-- what holds of the one that is told holds of the last
pub at_end : (P : ActiveEdge → Type 0) (xs : List ActiveEdge) (told : Option ActiveEdge) → EndsWith xs told → IfSome told P → (rest : List ActiveEdge) (last : ActiveEdge) → xs ≡ rest ++ last ∷ [] → P last
at_end P xs None empty holds rest last is = absurd (never_nil rest last (sym empty ∙ is))
at_end P xs (Some one) (before, ends) holds rest last is = subst P (ends_same before rest one last (sym ends ∙ is)) holds

pub at_start : (P : ActiveEdge → Type 0) (xs : List ActiveEdge) (told : Option ActiveEdge) → BeginsWith xs told → IfSome told P → (first : ActiveEdge) (more : List ActiveEdge) → xs ≡ first ∷ more → P first
at_start P xs None empty holds first more is = let both : [] ≡ first ∷ more = sym empty ∙ is in absurd cc
at_start P xs (Some one) (behind, begins) holds first more is = let same : one ≡ first = cc in subst P same holds

-- what holds of all holds of the one that is told
pub of_last : (P : ActiveEdge → Type 0) (xs : List ActiveEdge) (told : Option ActiveEdge) → EndsWith xs told → All P xs → IfSome told P
of_last P xs None empty all = tt
of_last P xs (Some one) (before, ends) all = All-at P before one [] (subst (All P) ends all)

pub of_first : (P : ActiveEdge → Type 0) (xs : List ActiveEdge) (told : Option ActiveEdge) → BeginsWith xs told → All P xs → IfSome told P
of_first P xs None empty all = tt
of_first P xs (Some one) (behind, begins) all = All-head P one behind (subst (All P) begins all)

-- ---- two that are exchanged

pub IsPermutation-exchanged : {X : Type 0} (xs : List X) (a b : X) (ys : List X) → IsPermutation (xs ++ a ∷ b ∷ ys) (xs ++ b ∷ a ∷ ys)
IsPermutation-exchanged xs a b ys = IsPermutation-append_right xs (a ∷ b ∷ ys) (b ∷ a ∷ ys) (IsPermutation-middle (a ∷ []) b ys)

-- Where R holds of each two, S holds of each two once a and b are exchanged, if it follows from R for each that is neither of them.
module _ {X : Type 0} (Away : X → Type 0) (R S : X → X → Type 0) (turn_left : (x y : X) → Away x → R x y → S x y) (turn_right : (x y : X) → Away y → R x y → S x y) where
  pub AllPairs-exchanged : (xs : List X) (a b : X) (ys : List X) → ((x : X) → R x a → R x b → Away x) → ((x : X) → R a x → R b x → Away x) → S b a → AllPairs R (xs ++ a ∷ b ∷ ys) → AllPairs S (xs ++ b ∷ a ∷ ys)
  AllPairs-exchanged xs a b ys away away_too holds pairs =
      AllPairs-joined S xs b (a ∷ ys)
      (AllPairs-joined S xs a ys
      (λ i j d below within. turn_left (get_or (xs ++ ys) i d) (get_or (xs ++ ys) j d) (All-append Away xs ys front back i d (omega (arith, below, within))) (rest i j d below within))
      (λ k d inside. turn_left (get_or xs k d) a (front k d inside) (before_a k d inside))
      (λ k d inside. turn_right a (get_or ys k d) (back k d inside) (behind_a k d inside)))
      (λ k d inside. turn_left (get_or xs k d) b (front k d inside) (before_b k d inside))
      (All-cons (S b) a ys holds (λ k d inside. turn_right b (get_or ys k d) (back k d inside) (after_b k d inside)))
    where
      without_a : AllPairs R (xs ++ b ∷ ys)
      without_a = AllPairs-left_out R xs a (b ∷ ys) pairs

      before_a : All (λ y. R y a) xs
      before_a = AllPairs-before R xs a (b ∷ ys) pairs

      behind_a : All (R a) ys
      behind_a = All-tail (R a) b ys (AllPairs-after R xs a (b ∷ ys) pairs)

      rest : AllPairs R (xs ++ ys)
      rest = AllPairs-left_out R xs b ys without_a

      before_b : All (λ y. R y b) xs
      before_b = AllPairs-before R xs b ys without_a

      after_b : All (R b) ys
      after_b = AllPairs-after R xs b ys without_a

      front : All Away xs
      front k d inside = away (get_or xs k d) (before_a k d inside) (before_b k d inside)

      back : All Away ys
      back k d inside = away_too (get_or ys k d) (behind_a k d inside) (after_b k d inside)

module _ {X : Type 0} (Away : X → Type 0) (R S : X → X → Type 0) (turn : (x y : X) → Away x → R x y → S x y) where
  -- a part whose elements are all away
  pub Adjacent-away : (xs : List X) → All Away xs → Adjacent R xs → Adjacent S xs
  Adjacent-away xs all next = Adjacent-weaker Away (λ x y. ⊤) R S (λ x y away away_too both holds. turn x y away holds) xs all (λ i j d below within. tt) next

  pub Adjacent-exchanged : (xs : List X) (a b : X) (ys : List X) → All Away xs → All Away ys → Adjacent R (xs ++ a ∷ b ∷ ys) → S b a
      → ((rest : List X) (last : X) → xs ≡ rest ++ last ∷ [] → S last b) → ((first : X) (more : List X) → ys ≡ first ∷ more → S a first) → Adjacent S (xs ++ b ∷ a ∷ ys)
  Adjacent-exchanged xs a b ys front back next holds before behind =
      Adjacent-joined S xs b (a ∷ ys) (Adjacent-away xs front (Adjacent-front R xs (a ∷ b ∷ ys) next))
      (Adjacent-joined S [] a ys tt (Adjacent-away ys back (Adjacent-behind R (b ∷ []) ys (Adjacent-behind R (a ∷ []) (b ∷ ys) (Adjacent-behind R xs (a ∷ b ∷ ys) next))))
      (λ rest last is. absurd (never_nil rest last is)) behind)
      before
      (λ first more is. let same : a ≡ first = cc in subst (S b) same holds)

-- neighbours with those around them
pub Adjacent-placed : {X : Type 0} (R S : X → X → Type 0) (all : List X) → ((front : List X) (x y : X) (back : List X) → all ≡ front ++ x ∷ y ∷ back → R x y → S x y) → Adjacent R all → Adjacent S all
Adjacent-placed R S [] turn next = tt
Adjacent-placed R S (x ∷ []) turn next = tt
Adjacent-placed R S (x ∷ y ∷ rest) turn next = (
  turn [] x y rest refl next.0,
  Adjacent-placed R S (y ∷ rest) (λ front p q back is holds. turn (x ∷ front) p q back (ap (λ zs. x ∷ zs) is) holds) next.1,
)
