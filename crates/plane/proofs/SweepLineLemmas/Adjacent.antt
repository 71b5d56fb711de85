-- Lists in which a relation holds of each two elements that stand next to each other.
use Rattle.std.proofs.Common.{◌≡◌, List, [], ◌∷◌, ◌++◌, get_or, refl, ap, subst}
use Rattle.std.specs.List.{All, AllPairs}
use Rattle.std.proofs.lemmas.List.Elements.{All-nil, All-cons, All-head, All-tail, All-append, All-weaker}
use Rattle.std.proofs.lemmas.List.Kept.{AllPairs-cons}
use Rattle.i_tree.proofs.RootLemmas.Joined.{All-behind, All-front, AllPairs-across, AllPairs-append, AllPairs-behind, AllPairs-front, AllPairs-nil}
use Rattle.i_tree.proofs.RootLemmas.Lists.{AllPairs-head, AllPairs-tail}
use Rattle.plane.specs.SweepLine.Line.{Adjacent}

module _ {X : Type 0} (R : X → X → Type 0) where
  Adjacent-tail : (x : X) (xs : List X) → Adjacent R (x ∷ xs) → Adjacent R xs
  Adjacent-tail x [] next = tt
  Adjacent-tail x (y ∷ xs) next = next.1

  pub Adjacent-front : (xs ys : List X) → Adjacent R (xs ++ ys) → Adjacent R xs
  Adjacent-front [] ys next = tt
  Adjacent-front (x ∷ []) ys next = tt
  Adjacent-front (x ∷ y ∷ xs) ys next = (next.0, Adjacent-front (y ∷ xs) ys next.1)

  pub Adjacent-behind : (xs ys : List X) → Adjacent R (xs ++ ys) → Adjacent R ys
  Adjacent-behind [] ys next = next
  Adjacent-behind (x ∷ xs) ys next = Adjacent-behind xs ys (Adjacent-tail x (xs ++ ys) next)

  -- R holds where the first list ends and the second begins
  abbrev pub Meets : List X → List X → Type 0
  Meets xs ys = (rest : List X) (last first : X) (more : List X) → xs ≡ rest ++ last ∷ [] → ys ≡ first ∷ more → R last first

  pub Adjacent-append : (xs ys : List X) → Adjacent R xs → Adjacent R ys → Meets xs ys → Adjacent R (xs ++ ys)
  Adjacent-append [] ys next next_too meets = next_too
  Adjacent-append (x ∷ []) [] next next_too meets = tt
  Adjacent-append (x ∷ []) (y ∷ ys) next next_too meets = (meets [] x y ys refl refl, next_too)
  Adjacent-append (x ∷ z ∷ xs) ys next next_too meets =
      (next.0, Adjacent-append (z ∷ xs) ys next.1 next_too (λ rest last first more ends begins. meets (x ∷ rest) last first more (ap (λ (zs : List X). x ∷ zs) ends) begins))

  -- one element between two lists
  pub Adjacent-joined : (xs : List X) (x : X) (ys : List X) → Adjacent R xs → Adjacent R ys
      → ((rest : List X) (last : X) → xs ≡ rest ++ last ∷ [] → R last x) → ((first : X) (more : List X) → ys ≡ first ∷ more → R x first)
      → Adjacent R (xs ++ x ∷ ys)
  Adjacent-joined xs x ys next next_too before after =
      Adjacent-append xs (x ∷ ys) next (begins ys next_too after)
      (λ rest last first more ends starts. subst (R last) (cc starts) (before rest last ends))
    where
      begins : (ys : List X) → Adjacent R ys → ((first : X) (more : List X) → ys ≡ first ∷ more → R x first) → Adjacent R (x ∷ ys)
      begins [] next_too after = tt
      begins (y ∷ ys) next_too after = (after y ys refl, next_too)

-- what holds of all, of each two and of neighbours carries over to neighbours
pub Adjacent-weaker : {X : Type 0} (P : X → Type 0) (Q R S : X → X → Type 0) → ((x y : X) → P x → P y → Q x y → R x y → S x y)
    → (xs : List X) → All P xs → AllPairs Q xs → Adjacent R xs → Adjacent S xs
Adjacent-weaker P Q R S turn [] all pairs next = tt
Adjacent-weaker P Q R S turn (x ∷ []) all pairs next = tt
Adjacent-weaker P Q R S turn (x ∷ y ∷ xs) all pairs next =
    let rest = All-tail P x (y ∷ xs) all in (
      turn x y (All-head P x (y ∷ xs) all) (All-head P y xs rest) (All-head (Q x) y xs (AllPairs-head Q x (y ∷ xs) pairs)) next.0,
      Adjacent-weaker P Q R S turn (y ∷ xs) rest (AllPairs-tail Q x (y ∷ xs) pairs) next.1,
    )

-- where a relation of neighbours is passed on, it holds of each two
module _ {X : Type 0} (P : X → Type 0) (R : X → X → Type 0) (trans : (x y z : X) → P x → P y → P z → R x y → R y z → R x z) where
  All-from_adjacent : (x : X) (xs : List X) → All P (x ∷ xs) → Adjacent R (x ∷ xs) → All (R x) xs
  All-from_adjacent x [] all next = All-nil (R x)
  All-from_adjacent x (y ∷ xs) all next =
      let rest = All-tail P x (y ∷ xs) all in
      let later = All-from_adjacent y xs rest next.1 in
      All-cons (R x) y xs next.0
      (λ k d inside. trans x y (get_or xs k d) (All-head P x (y ∷ xs) all) (All-head P y xs rest) (All-tail P y xs rest k d inside) next.0 (later k d inside))

  pub AllPairs-from_adjacent : (xs : List X) → All P xs → Adjacent R xs → AllPairs R xs
  AllPairs-from_adjacent [] all next = AllPairs-nil R
  AllPairs-from_adjacent (x ∷ xs) all next =
      AllPairs-cons R x xs (All-from_adjacent x xs all next) (AllPairs-from_adjacent xs (All-tail P x xs all) (Adjacent-tail R x xs next))

-- ---- a list without an element, or with one more

module _ {X : Type 0} (P : X → Type 0) where
  pub All-left_out : (xs : List X) (x : X) (ys : List X) → All P (xs ++ x ∷ ys) → All P (xs ++ ys)
  All-left_out xs x ys all = All-append P xs ys (All-front P xs (x ∷ ys) all) (All-tail P x ys (All-behind P xs (x ∷ ys) all))

  pub All-at : (xs : List X) (x : X) (ys : List X) → All P (xs ++ x ∷ ys) → P x
  All-at xs x ys all = All-head P x ys (All-behind P xs (x ∷ ys) all)

  pub All-joined : (xs : List X) (x : X) (ys : List X) → All P (xs ++ ys) → P x → All P (xs ++ x ∷ ys)
  All-joined xs x ys all holds = All-append P xs (x ∷ ys) (All-front P xs ys all) (All-cons P x ys holds (All-behind P xs ys all))

module _ {X : Type 0} (R : X → X → Type 0) where
  -- how those in front of an element, and those behind it, stand to it
  pub AllPairs-before : (xs : List X) (x : X) (ys : List X) → AllPairs R (xs ++ x ∷ ys) → All (λ y. R y x) xs
  AllPairs-before xs x ys pairs =
      All-weaker (λ y. All (R y) (x ∷ ys)) (λ y. R y x) (λ y all. All-head (R y) x ys all) xs (AllPairs-across R xs (x ∷ ys) pairs)

  pub AllPairs-after : (xs : List X) (x : X) (ys : List X) → AllPairs R (xs ++ x ∷ ys) → All (R x) ys
  AllPairs-after xs x ys pairs = AllPairs-head R x ys (AllPairs-behind R xs (x ∷ ys) pairs)

  pub AllPairs-left_out : (xs : List X) (x : X) (ys : List X) → AllPairs R (xs ++ x ∷ ys) → AllPairs R (xs ++ ys)
  AllPairs-left_out xs x ys pairs =
      AllPairs-append R xs ys (AllPairs-front R xs (x ∷ ys) pairs) (AllPairs-tail R x ys (AllPairs-behind R xs (x ∷ ys) pairs))
      (All-weaker (λ y. All (R y) (x ∷ ys)) (λ y. All (R y) ys) (λ y all. All-tail (R y) x ys all) xs (AllPairs-across R xs (x ∷ ys) pairs))

  pub Adjacent-left_out : (xs : List X) (x : X) (ys : List X) → Adjacent R (xs ++ x ∷ ys) → Meets R xs ys → Adjacent R (xs ++ ys)
  Adjacent-left_out xs x ys next meets =
      Adjacent-append R xs ys (Adjacent-front R xs (x ∷ ys) next) (Adjacent-tail R x ys (Adjacent-behind R xs (x ∷ ys) next)) meets
