-- Two lists of one length whose items stand in a relation place by place.
use Rattle.std.proofs.Common.{◌≡◌, ⊎_elim, ℕ, zero, suc, ◌<◌, List, [], ◌∷◌, ◌++◌, length, get_or, refl, arith}
use Rattle.std.specs.List.{AllZip, Contains, flat_map}
use Rattle.std.proofs.lemmas.List.Elements.{Contains-append_cases}
use Rattle.i_tree.proofs.RootLemmas.Lists.{Contains-here, Contains-there}

pub AllZip-length : {A B : Type 0} (R : A → B → Type 0) (xs : List A) (ys : List B) → AllZip R xs ys → length ys ≡ length xs
AllZip-length R [] [] zip = refl
AllZip-length R (x ∷ xs) (y ∷ ys) zip = let rest = AllZip-length R xs ys zip.1 in omega (arith, rest)
AllZip-length R [] (y ∷ ys) zip = absurd zip
AllZip-length R (x ∷ xs) [] zip = absurd zip

-- one more of each
pub AllZip-more : {A B : Type 0} (R : A → B → Type 0) (xs : List A) (ys : List B) (x : A) (y : B) → AllZip R xs ys → R x y → AllZip R (xs ++ x ∷ []) (ys ++ y ∷ [])
AllZip-more R [] [] x y zip of = (of, tt)
AllZip-more R (first ∷ xs) (second ∷ ys) x y zip of = (zip.0, AllZip-more R xs ys x y zip.1 of)
AllZip-more R [] (second ∷ ys) x y zip of = absurd zip
AllZip-more R (first ∷ xs) [] x y zip of = absurd zip

-- those at one place
pub AllZip-at : {A B : Type 0} (R : A → B → Type 0) (xs : List A) (ys : List B) (d : A) (e : B) (k : ℕ) → AllZip R xs ys → k < length xs → R (get_or xs k d) (get_or ys k e)
AllZip-at R [] ys d e k zip within = absurd (omega (arith, within))
AllZip-at R (x ∷ xs) [] d e k zip within = absurd zip
AllZip-at R (x ∷ xs) (y ∷ ys) d e zero zip within = zip.0
AllZip-at R (x ∷ xs) (y ∷ ys) d e (suc k) zip within = AllZip-at R xs ys d e k zip.1 (omega (arith, within))

-- and what holds at each place
pub AllZip-places : {A B : Type 0} (R : A → B → Type 0) (xs : List A) (ys : List B) (d : A) (e : B) → length ys ≡ length xs → ((k : ℕ) → k < length xs → R (get_or xs k d) (get_or ys k e)) → AllZip R xs ys
AllZip-places R [] [] d e same at = tt
AllZip-places R (x ∷ xs) (y ∷ ys) d e same at = (at 0 (omega arith), AllZip-places R xs ys d e (omega (arith, same)) (λ k within. at (suc k) (omega (arith, within))))
AllZip-places R [] (y ∷ ys) d e same at = absurd (omega (arith, same))
AllZip-places R (x ∷ xs) [] d e same at = absurd (omega (arith, same))

-- an element of what lists have is of one of them, which stands beside some item
pub AllZip-flat_map : {A B C : Type 0} (R : A → B → Type 0) (f : B → List C) (xs : List A) (ys : List B) (z : C) → AllZip R xs ys → Contains (flat_map f ys) z
    → (x : A) × (y : B) × Contains xs x × R x y × Contains (f y) z
AllZip-flat_map R f [] [] z zip (k, within, is) = absurd (omega (arith, within))
AllZip-flat_map R f [] (y ∷ ys) z zip held = absurd zip
AllZip-flat_map R f (x ∷ xs) [] z zip held = absurd zip
AllZip-flat_map {A} {B} R f (x ∷ xs) (y ∷ ys) z (of, zip) held =
    ⊎_elim (λ here. (x, y, Contains-here x xs, of, here))
    (λ later. there (AllZip-flat_map R f xs ys z zip later))
    (Contains-append_cases (f y) (flat_map f ys) z held)
  where
    there : (one : A) × (list : B) × Contains xs one × R one list × Contains (f list) z → (one : A) × (list : B) × Contains (x ∷ xs) one × R one list × Contains (f list) z
    there (one, list, among, stand, inside) = (one, list, Contains-there x xs one among, stand, inside)
