-- Facts on lists that are made of two, where each element stands in a relation to all later ones.
use Rattle.std.proofs.Common.{◌≡◌, suc, List, [], ◌∷◌, ◌++◌, get_or, map, refl, sym, ap, subst, inl, inr, arith}
use Rattle.std.specs.List.{All, AllPairs, Any, Contains}
use Rattle.std.proofs.lemmas.List.Elements.{Contains-append_right, All-nil, All-cons, All-head, All-tail, All-append, All-weaker}
use Rattle.std.proofs.lemmas.List.Kept.{AllPairs-cons}
use Rattle.i_tree.proofs.RootLemmas.Lists.{AllPairs-head, AllPairs-tail, Contains-here}
use Rattle.i_tree.specs.Root.Ends.{LastFinds, StartsIn}

module _ {X : Type 0} where
  module _ (P : X → Type 0) where
    pub Any-here : (x : X) (xs : List X) → P x → Any P (x ∷ xs)
    Any-here x xs h = (0, x, omega arith, refl, h)

    pub Any-there : (x : X) (xs : List X) → Any P xs → Any P (x ∷ xs)
    Any-there x xs (k, y, within, is, h) = (suc k, y, omega arith, is, h)

    pub Any-behind : (xs ys : List X) → Any P ys → Any P (xs ++ ys)
    Any-behind [] ys h = h
    Any-behind (x ∷ xs) ys h = Any-there x (xs ++ ys) (Any-behind xs ys h)

    pub All-front : (xs ys : List X) → All P (xs ++ ys) → All P xs
    All-front [] ys h = All-nil P
    All-front (x ∷ xs) ys h = All-cons P x xs (All-head P x (xs ++ ys) h) (All-front xs ys (All-tail P x (xs ++ ys) h))

    pub All-behind : (xs ys : List X) → All P (xs ++ ys) → All P ys
    All-behind [] ys h = h
    All-behind (x ∷ xs) ys h = All-behind xs ys (All-tail P x (xs ++ ys) h)

    pub All-of_map : {Y : Type 0} (f : Y → X) (ys : List Y) → All P (map f ys) → All (λ y. P (f y)) ys
    All-of_map {Y} f [] h = All-nil (λ y. P (f y))
    All-of_map {Y} f (y ∷ ys) h = All-cons (λ z. P (f z)) y ys (All-head P (f y) (map f ys) h) (All-of_map f ys (All-tail P (f y) (map f ys) h))

  pub Contains-middle : (xs : List X) (x : X) (ys : List X) → Contains (xs ++ x ∷ ys) x
  Contains-middle xs x ys = Contains-append_right xs (x ∷ ys) x (Contains-here x ys)

  -- a list that isn't empty, cut before its last element
  pub last_cut : (x : X) (xs : List X) → (front : List X) × (last : X) × (x ∷ xs ≡ front ++ last ∷ [])
  last_cut x [] = ([], x, refl)
  last_cut x (y ∷ ys) = let (front, last, is) = last_cut y ys in (x ∷ front, last, ap (λ zs. x ∷ zs) is)

  module _ (R : X → X → Type 0) where
    pub AllPairs-nil : AllPairs R []
    AllPairs-nil i j d below within = absurd (omega arith)

    pub AllPairs-front : (xs ys : List X) → AllPairs R (xs ++ ys) → AllPairs R xs
    AllPairs-front [] ys h = AllPairs-nil
    AllPairs-front (x ∷ xs) ys h =
        AllPairs-cons R x xs (All-front (R x) xs ys (AllPairs-head R x (xs ++ ys) h)) (AllPairs-front xs ys (AllPairs-tail R x (xs ++ ys) h))

    pub AllPairs-behind : (xs ys : List X) → AllPairs R (xs ++ ys) → AllPairs R ys
    AllPairs-behind [] ys h = h
    AllPairs-behind (x ∷ xs) ys h = AllPairs-behind xs ys (AllPairs-tail R x (xs ++ ys) h)

    -- each element of the first list stands in the relation to each of the second
    pub AllPairs-across : (xs ys : List X) → AllPairs R (xs ++ ys) → All (λ x. All (R x) ys) xs
    AllPairs-across [] ys h = All-nil (λ x. All (R x) ys)
    AllPairs-across (x ∷ xs) ys h =
        All-cons (λ z. All (R z) ys) x xs (All-behind (R x) xs ys (AllPairs-head R x (xs ++ ys) h)) (AllPairs-across xs ys (AllPairs-tail R x (xs ++ ys) h))

    pub AllPairs-append : (xs ys : List X) → AllPairs R xs → AllPairs R ys → All (λ x. All (R x) ys) xs → AllPairs R (xs ++ ys)
    AllPairs-append [] ys first second across = second
    AllPairs-append (x ∷ xs) ys first second across =
        let Q : X → Type 0 = λ z. All (R z) ys in
        AllPairs-cons R x (xs ++ ys)
        (All-append (R x) xs ys (AllPairs-head R x xs first) (All-head Q x xs across))
        (AllPairs-append xs ys (AllPairs-tail R x xs first) second (All-tail Q x xs across))

    -- an element joins where the earlier ones stand in the relation to it, and it to the later ones
    pub AllPairs-joined : (xs : List X) (x : X) (ys : List X) → AllPairs R (xs ++ ys) → All (λ y. R y x) xs → All (R x) ys → AllPairs R (xs ++ x ∷ ys)
    AllPairs-joined xs x ys h before after =
        let across = AllPairs-across xs ys h in
        AllPairs-append xs (x ∷ ys) (AllPairs-front xs ys h) (AllPairs-cons R x ys after (AllPairs-behind xs ys h))
        (λ k d within. All-cons (R (get_or xs k d)) x ys (before k d within) (across k d within))

    pub AllPairs-of_map : {Y : Type 0} (f : Y → X) (ys : List Y) → AllPairs R (map f ys) → AllPairs (λ y z. R (f y) (f z)) ys
    AllPairs-of_map {Y} f [] h = λ i j d below within. absurd (omega arith)
    AllPairs-of_map {Y} f (y ∷ ys) h =
        AllPairs-cons (λ a b. R (f a) (f b)) y ys (All-of_map (R (f y)) f ys (AllPairs-head R (f y) (map f ys) h)) (AllPairs-of_map f ys (AllPairs-tail R (f y) (map f ys) h))

    -- where what holds of an element holds of all earlier ones, it holds of all where it holds of the last
    All-from_last : (P : X → Type 0) → ((x y : X) → R x y → P y → P x) → (rest : List X) (last : X) → AllPairs R (rest ++ last ∷ []) → P last → All P (rest ++ last ∷ [])
    All-from_last P down rest last rises holds =
        All-append P rest (last ∷ [])
        (All-weaker (λ x. All (R x) (last ∷ [])) P (λ x below. down x last (All-head (R x) last [] below) holds) rest (AllPairs-across rest (last ∷ []) rises))
        (All-cons P last [] holds (All-nil P))

    pub All-from_end : {A : Type 0} (Finds : X → A → Type 0) (nothing found : A) (P Q : X → Type 0) → ((x y : X) → R x y → P y → P x) → ((x : X) → Q x → Finds x found → P x)
        → (xs : List X) → AllPairs R xs → All Q xs → LastFinds Finds nothing xs found → All P xs
    All-from_end Finds nothing found P Q down join xs rises all (inl (none, is)) = subst (All P) (sym none) (All-nil P)
    All-from_end Finds nothing found P Q down join xs rises all (inr (rest, last, cut, finds)) =
        subst (All P) (sym cut)
        (All-from_last P down rest last (subst (AllPairs R) cut rises)
        (join last (All-head Q last [] (All-behind Q rest (last ∷ []) (subst (All Q) cut all))) finds))

    -- where what holds of an element holds of all later ones, it holds of all where it holds of the first
    pub All-from_start : (P : X → Type 0) → ((x y : X) → R x y → P x → P y) → (xs : List X) → AllPairs R xs → StartsIn P xs → All P xs
    All-from_start P up [] rises starts = All-nil P
    All-from_start P up (x ∷ xs) rises starts =
        All-cons P x xs starts (later xs (AllPairs-head R x xs rises))
      where
        later : (ys : List X) → All (R x) ys → All P ys
        later [] h = All-nil P
        later (y ∷ ys) h = All-cons P y ys (up x y (All-head (R x) y ys h) starts) (later ys (All-tail (R x) y ys h))

pub All-to_map : {X Y : Type 0} (P : X → Type 0) (f : Y → X) (ys : List Y) → All (λ y. P (f y)) ys → All P (map f ys)
All-to_map P f [] h = All-nil P
All-to_map P f (y ∷ ys) h = All-cons P (f y) (map f ys) (All-head (λ z. P (f z)) y ys h) (All-to_map P f ys (All-tail (λ z. P (f z)) y ys h))

module _ {X Y : Type 0} (R : X → X → Type 0) (f : Y → X) where
  pub AllPairs-to_map : (ys : List Y) → AllPairs (λ y z. R (f y) (f z)) ys → AllPairs R (map f ys)
  AllPairs-to_map [] h = AllPairs-nil R
  AllPairs-to_map (y ∷ ys) h =
      let S : Y → Y → Type 0 = λ a b. R (f a) (f b) in
      AllPairs-cons R (f y) (map f ys) (All-to_map (R (f y)) f ys (AllPairs-head S y ys h)) (AllPairs-to_map ys (AllPairs-tail S y ys h))
