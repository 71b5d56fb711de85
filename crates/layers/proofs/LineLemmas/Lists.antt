-- Lists in one list, and where each stops.
use Rattle.std.proofs.Common.{◌≡◌, ◌≤◌, ◌+◌, ◌-◌, ◌++◌, [], ◌∷◌, ℕ, List, length, drop, take, map, ap, ap₂, refl, sym, subst, ◌∙◌, append_assoc, arith}
use Rattle.std.specs.List.{All, AllZip, flat_map}
use Rattle.std.proofs.lemmas.Grind.{flat_map-append}
use Rattle.std.proofs.lemmas.List.{length-append, take-append-drop}
use Rattle.std.proofs.lemmas.List.Elements.{All-cons, All-nil}
use Rattle.std.proofs.Math.Seq.{drop-append_seam, take-append_seam}
use Rattle.noding.specs.Offsets.{offsets}
use Rattle.overlay.proofs.BoundaryLemmas.Broken.{zip-back, zip-front}
use Rattle.noding.proofs.ChainLemmas.Zips.{AllZip-length}
use Rattle.overlay.specs.Rings.{AreEnds}
use Rattle.layers.specs.Shapes.{lists_of}

module _ {X Y : Type 0} (R : X → Y → Type 0) where
  -- what lists one after another are zipped with, list by list
  pub record Zipped {L : Type 0} (items : L → List X) (lists : List L) (rest : List X) (ys : List Y) : Type 0 where
    pub each : List (List Y)
    pub others : List Y
    pub is : ys ≡ flat_map (λ list. list) each ++ others
    pub are : AllZip (λ list of_list. AllZip R (items list) of_list) lists each
    pub others_are : AllZip R rest others

  pub zipped : {L : Type 0} (items : L → List X) (lists : List L) (rest : List X) (ys : List Y) → AllZip R (flat_map items lists ++ rest) ys → Zipped items lists rest ys
  zipped items [] rest ys zip = record { each = []; others = ys; is = refl; are = tt; others_are = zip }
  zipped items (list ∷ lists) rest ys zip =
      let one = items list in
      let all : AllZip R (one ++ (flat_map items lists ++ rest)) ys = subst (λ (xs : List X). AllZip R xs ys) (append_assoc one (flat_map items lists) rest) zip in
      let later = zipped items lists rest (drop (length one) ys) (zip-back R one (flat_map items lists ++ rest) ys all) in
      record {
        each = take (length one) ys ∷ later.each;
        others = later.others;
        is = sym (take-append-drop (length one) ys) ∙ ap (λ (after : List Y). take (length one) ys ++ after) later.is ∙ sym (append_assoc (take (length one) ys) (flat_map (λ list. list) later.each) later.others);
        are = (zip-front R one (flat_map items lists ++ rest) ys all, later.are);
        others_are = later.others_are;
      }

-- lists that are as long stop at the same places
pub offsets-same : {L X Y : Type 0} (items : L → List X) (R : X → Y → Type 0) (start : ℕ) (lists : List L) (each : List (List Y)) → AllZip (λ list of_list. AllZip R (items list) of_list) lists each → offsets start (map items lists) ≡ offsets start each
offsets-same items R start [] [] zip = refl
offsets-same items R start (list ∷ lists) (one ∷ each) zip =
    let size = AllZip-length R (items list) one zip.0 in
    ap₂ (λ (n : ℕ) (ends : List ℕ). n ∷ ends) (omega (arith, size))
    (ap (λ (n : ℕ). offsets n (map items lists)) (let n : start + length (items list) ≡ start + length one = omega (arith, size) in n) ∙ offsets-same items R (start + length one) lists each zip.1)
offsets-same items R start [] (one ∷ each) zip = absurd zip
offsets-same items R start (list ∷ lists) [] zip = absurd zip

-- where lists stop in a list of what is made of their items
pub offsets-made : {X Y : Type 0} (made : X → List Y) (before : List X) (lists : List (List X)) (rest : List X)
    → map (λ n. length (flat_map made (take n (before ++ (flat_map (λ list. list) lists ++ rest))))) (offsets (length before) lists) ≡ offsets (length (flat_map made before)) (map (λ list. flat_map made list) lists)
offsets-made made before [] rest = refl
offsets-made {X} {Y} made before (list ∷ lists) rest =
    let others = flat_map (λ (l : List X). l) lists in
    let whole = before ++ ((list ++ others) ++ rest) in
    let regrouped : whole ≡ (before ++ list) ++ (others ++ rest) = ap (λ (l : List X). before ++ l) (append_assoc list others rest) ∙ sym (append_assoc before list (others ++ rest)) in
    let size : length before + length list ≡ length (before ++ list) = sym (length-append before list) in
    let made_size : length (flat_map made (before ++ list)) ≡ length (flat_map made before) + length (flat_map made list) =
    ap (λ (l : List Y). length l) (flat_map-append made before list) ∙ length-append (flat_map made before) (flat_map made list) in
    let first : take (length before + length list) whole ≡ before ++ list = ap₂ (λ (n : ℕ) (l : List X). take n l) size regrouped ∙ take-append_seam (before ++ list) (others ++ rest) in
    ap₂ (λ (n : ℕ) (ends : List ℕ). n ∷ ends)
    (ap (λ (l : List X). length (flat_map made l)) first ∙ made_size)
    (ap₂ (λ (l : List X) (n : ℕ). map (λ k. length (flat_map made (take k l))) (offsets n lists)) regrouped size
    ∙ offsets-made made (before ++ list) lists rest
    ∙ ap (λ (n : ℕ). offsets n (map (λ l. flat_map made l) lists)) made_size)

-- lists that stand one after another, and something behind them, are those that stop where they do
pub lists-back : {X : Type 0} (before : List X) (lists : List (List X)) (start : ℕ) → length before ≡ start → lists_of (before ++ flat_map (λ list. list) lists) start (offsets start lists) ≡ lists
lists-back before [] start is = refl
lists-back {X} before (list ∷ lists) start is =
    let others = flat_map (λ (l : List X). l) lists in
    ap₂ (λ (first : List X) (later : List (List X)). first ∷ later)
    (ap₂ (λ (n : ℕ) (items : List X). take n items) (let size : (start + length list) - start ≡ length list = omega arith in size) (drop-at before (list ++ others) start is) ∙ take-append_seam list others)
    (ap (λ (items : List X). lists_of items (start + length list) (offsets (start + length list) lists)) (sym (append_assoc before list others))
    ∙ lists-back (before ++ list) lists (start + length list) (omega (arith, is, length-append before list)))
  where
    drop-at : (before after : List X) (n : ℕ) → length before ≡ n → drop n (before ++ after) ≡ after
    drop-at before after n is = ap (λ (k : ℕ). drop k (before ++ after)) (sym is) ∙ drop-append_seam before after

pub ends-right : {X : Type 0} (start : ℕ) (lists : List (List X)) (most : ℕ) → start + length (flat_map (λ list. list) lists) ≤ most → AreEnds start (offsets start lists) most
ends-right start [] most within = tt
ends-right {X} start (list ∷ lists) most within =
    let sum = length-append list (flat_map (λ (l : List X). l) lists) in
    (omega arith, omega (arith, sum, within), ends-right (start + length list) lists most (omega (arith, sum, within)))

-- lists stop where they begin or later
pub offsets-from : {X : Type 0} (start least : ℕ) (lists : List (List X)) → least ≤ start → All (λ end. least ≤ end) (offsets start lists)
offsets-from start least [] from = All-nil (λ end. least ≤ end)
offsets-from start least (list ∷ lists) from =
    All-cons (λ end. least ≤ end) (start + length list) (offsets (start + length list) lists) (omega (arith, from)) (offsets-from (start + length list) least lists (omega (arith, from)))

-- and as far before, if that much less stands before the first
pub offsets-back : {X : Type 0} (start by from : ℕ) (lists : List (List X)) → from ≡ start + by → map (λ end. end - by) (offsets from lists) ≡ offsets start lists
offsets-back start by from [] is = refl
offsets-back start by from (list ∷ lists) is =
    ap₂ (λ (n : ℕ) (ends : List ℕ). n ∷ ends) (omega (arith, is)) (offsets-back (start + length list) by (from + length list) lists (omega (arith, is)))
