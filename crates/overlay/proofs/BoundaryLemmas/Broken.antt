-- Two lists of edges that are broken together.
use Rattle.std.proofs.Common.{◌≡◌, ◌<◌, ◌≤◌, ◌+◌, ◌-◌, ◌++◌, [], ◌∷◌, ℕ, suc, pos, List, length, drop, take, get_or, ap, ap₂, sym, subst, subst₂, ◌∙◌, arith, refl}
use Rattle.std.specs.List.{All, AllZip, flat_map}
use Rattle.std.proofs.lemmas.Grind.{flat_map-append}
use Rattle.std.proofs.lemmas.List.{length-append, length-drop, length-take-le, take-append-drop, take_all}
use Rattle.std.proofs.lemmas.List.Elements.{All-head, All-tail}
use Rattle.i_tree.proofs.RootLemmas.Joined.{All-front}
use Rattle.std.proofs.Math.Seq.{drop-append_seam, take-append_seam}
use Rattle.plane.specs.declared.edge.Edge.{Edge}
use Rattle.plane.specs.declared.point.Point.{Point}
use Rattle.overlay.specs.Boundary.{AllSome, AreBroken}
use Rattle.noding.specs.Local.{AreNodeChains, IsNodeChain}
use Rattle.noding.specs.Offsets.{offsets}
use Rattle.noding.specs.Windings.{pieces}
use Rattle.noding.proofs.ChainLemmas.Offsets.{joined, offset-at}
use Rattle.noding.proofs.ChainLemmas.Zips.{AllZip-at, AllZip-length}
use Rattle.noding.proofs.SnapLemmas.Paths.{IsPath}

pub zip-append : {A B : Type 0} (R : A → B → Type 0) (xs xs' : List A) (ys ys' : List B) → AllZip R xs ys → AllZip R xs' ys' → AllZip R (xs ++ xs') (ys ++ ys')
zip-append R [] xs' [] ys' first second = second
zip-append R (x ∷ xs) xs' (y ∷ ys) ys' first second = (first.0, zip-append R xs xs' ys ys' first.1 second)
zip-append R [] xs' (y ∷ ys) ys' first second = absurd first
zip-append R (x ∷ xs) xs' [] ys' first second = absurd first

-- what the first list of two that are joined is zipped with, and what the second one is
pub zip-front : {A B : Type 0} (R : A → B → Type 0) (xs xs' : List A) (ys : List B) → AllZip R (xs ++ xs') ys → AllZip R xs (take (length xs) ys)
zip-front R [] xs' ys zip = tt
zip-front R (x ∷ xs) xs' (y ∷ ys) zip = (zip.0, zip-front R xs xs' ys zip.1)
zip-front R (x ∷ xs) xs' [] zip = absurd zip

pub zip-back : {A B : Type 0} (R : A → B → Type 0) (xs xs' : List A) (ys : List B) → AllZip R (xs ++ xs') ys → AllZip R xs' (drop (length xs) ys)
zip-back R [] xs' ys zip = zip
zip-back R (x ∷ xs) xs' (y ∷ ys) zip = zip-back R xs xs' ys zip.1
zip-back R (x ∷ xs) xs' [] zip = absurd zip

-- what of a list is from a place on to its end
pub rest-is : {X : Type 0} (items list : List X) (count : ℕ) → list ≡ items → take (length list - count) (drop count list) ≡ drop count items
rest-is items list count is = take_all (length list - count) (drop count list) (let size = length-drop count list in omega (arith, size)) ∙ ap (drop count) is

-- the chains of both are those of all edges
pub all-chains : (subject clip broken broken_clip : List Edge) (are : AreBroken subject clip broken broken_clip) → AreNodeChains (subject ++ clip) (are.chains ++ are.clip_chains)
all-chains subject clip broken broken_clip are = zip-append (IsNodeChain (subject ++ clip)) subject clip are.chains are.clip_chains are.are are.clip_are

-- the chains of all edges, cut behind those of the subject's
pub broken-chains : (edges : List Edge) (chains : List (List Point)) (bound : ℕ) → bound ≤ length edges → AreNodeChains edges chains
    → AreBroken (take bound edges) (drop bound edges) (flat_map pieces (take bound chains)) (flat_map pieces (drop bound chains))
broken-chains edges chains bound within are = record {
  chains = take bound chains;
  clip_chains = drop bound chains;
  are = subst (λ (n : ℕ). AllZip (IsNodeChain (subject ++ clip)) subject (take n chains)) first (zip-front (IsNodeChain (subject ++ clip)) subject clip chains together);
  clip_are = subst (λ (n : ℕ). AllZip (IsNodeChain (subject ++ clip)) clip (drop n chains)) first (zip-back (IsNodeChain (subject ++ clip)) subject clip chains together);
  is = refl;
  clip_is = refl;
}
  where
    subject : List Edge
    subject = take bound edges

    clip : List Edge
    clip = drop bound edges

    first : length subject ≡ bound
    first = length-take-le bound edges within

    together : AreNodeChains (subject ++ clip) chains
    together = subst (λ (list : List Edge). AreNodeChains list chains) (sym (take-append-drop bound edges)) are

-- and the pieces of all chains
pub cut-broken : (edges all : List Edge) (chains : List (List Point)) (bound count : ℕ) → bound ≤ length edges → AreNodeChains edges chains → all ≡ flat_map pieces chains → count ≡ length (flat_map pieces (take bound chains))
    → (count ≤ length all) × AreBroken (take bound edges) (drop bound edges) (take count all) (drop count all)
cut-broken edges all chains bound count within are is size = (
  (let sum = length-append front back in let whole = ap (λ (list : List Edge). length list) parts in omega (arith, size, sum, whole)),
  subst₂ (AreBroken (take bound edges) (drop bound edges)) (sym (ap₂ (λ (n : ℕ) (list : List Edge). take n list) size parts ∙ take-append_seam front back)) (sym (ap₂ (λ (n : ℕ) (list : List Edge). drop n list) size parts ∙ drop-append_seam front back))
      (broken-chains edges chains bound within are),
)
  where
    front : List Edge
    front = flat_map pieces (take bound chains)

    back : List Edge
    back = flat_map pieces (drop bound chains)

    parts : all ≡ front ++ back
    parts = is ∙ ap (λ (lists : List (List Point)). flat_map pieces lists) (sym (take-append-drop bound chains)) ∙ flat_map-append pieces (take bound chains) (drop bound chains)

-- ---- how many pieces there are

more_points : (a b c d e f : ℕ) → a ≡ b + c → b + 1 ≡ d → c + e ≡ f → a + suc e ≡ d + f
more_points a b c d e f sum first rest = omega (arith, sum, first, rest)

pub chain-length : (chain : List Point) → 0 < length chain → length (pieces chain) + 1 ≡ length chain
chain-length [] some = absurd (omega (arith, some))
chain-length (from ∷ []) some = refl
chain-length (from ∷ to ∷ others) some = let rest = chain-length (to ∷ others) (omega arith) in omega (arith, rest)

pieces-length : (lists : List (List Point)) → AllSome lists → length (flat_map pieces lists) + length lists ≡ length (joined lists)
pieces-length [] some = refl
pieces-length (list ∷ lists) some =
    more_points (length (flat_map pieces (list ∷ lists))) (length (pieces list)) (length (flat_map pieces lists)) (length list) (length lists) (length (joined lists))
    (length-append (pieces list) (flat_map pieces lists)) (chain-length list (All-head (λ (l : List Point). 0 < length l) list lists some)) (pieces-length lists (All-tail (λ (l : List Point). 0 < length l) list lists some))
    ∙ sym (length-append list (joined lists))

All-take : {X : Type 0} (P : X → Type 0) (n : ℕ) (xs : List X) → All P xs → All P (take n xs)
All-take P n xs all = All-front P (take n xs) (drop n xs) (subst (All P) (sym (take-append-drop n xs)) all)

-- the first n lists have as many pieces as points less n
pub first-pieces : (lists : List (List Point)) (n d : ℕ) → AllSome lists → n ≤ length lists → 0 < n → length (flat_map pieces (take n lists)) + n ≡ get_or (offsets 0 lists) (n - 1) d
first-pieces lists n d some within more =
    let size = length-take-le n lists within in
    let all = pieces-length (take n lists) (All-take (λ (l : List Point). 0 < length l) n lists some) in
    let here = ap (λ (k : ℕ). length (joined (take k lists))) (same_place n more) in
    let stop = offset-at 0 lists (n - 1) d (omega (arith, more, within)) in
    omega (arith, all, size, here, stop)
  where
    same_place : (n : ℕ) → 0 < n → suc (n - 1) ≡ n
    same_place n more = omega (arith, more)

-- no chain that is a path is empty, and there are as many as edges
pub chains-some : (edges : List Edge) (chains : List (List Point)) → AllZip IsPath edges chains → AllSome chains
chains-some edges chains are k d within =
    let size = AllZip-length IsPath edges chains are in
    let none : Edge = record { x0 = pos 0; y0 = pos 0; x1 = pos 0; y1 = pos 0 } in
    let inside : k < length edges = omega (arith, size, within) in
    path_some (get_or edges k none) (get_or chains k d) (AllZip-at IsPath edges chains none d k are inside)
  where
    path_some : (edge : Edge) (chain : List Point) → IsPath edge chain → 0 < length chain
    path_some edge [] none = absurd none
    path_some edge (from ∷ others) is = omega arith

pub chains-count : (edges : List Edge) (chains : List (List Point)) (bound : ℕ) → bound ≤ length edges → AllZip IsPath edges chains → bound ≤ length chains
chains-count edges chains bound within are = let size = AllZip-length IsPath edges chains are in omega (arith, size, within)
