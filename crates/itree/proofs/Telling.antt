-- Pairs that are told to the replies, one after the other.
use Rattle.std.proofs.Common.{◌≡◌, ◌≢◌, ◌==◌, ◌<◌, ◌+◌, ◌⊎◌, ℕ, Bool, true, false, cond, List, [], ◌∷◌, ◌++◌, Option, Some, None, length, take, get_or, set, sym, ap, ◌∙◌, subst, append-nil, inl, inr}
use Rattle.std.proofs.lemmas.Option.{same_Some}
use Rattle.std.specs.List.{filter_map, slice_get, cons_option}
use Rattle.std.proofs.lemmas.Bool.Decides.{eqb_tells}
use Rattle.std.proofs.lemmas.List.{take_more, get_or-map, get_or-set_same, get_or-set_other, length-map, length-set}
use Rattle.std.proofs.lemmas.List.Elements.{filter_map-append}
use Rattle.std.proofs.lemmas.Option.{slice_get-get_or}
use Rattle.itree.specs.Told.{number_told, told, lists_of, AreTold}
use Rattle.itree.specs.declared.lines.meetings.MetLines.{MetLines}

-- the numbers that a reply lists
abbrev numbers_in : {A : Type 0} → MetLines A → List ℕ
numbers_in reply = reply.numbers.items

module _ (numbers : List ℕ) (pairs : List (ℕ × ℕ)) (i : ℕ) (d : ℕ × ℕ) (within : i < length pairs) where
  -- one more pair tells what it tells
  told_more : (place : ℕ) → told numbers (take (i + 1) pairs) place ≡ told numbers (take i pairs) place ++ cons_option (number_told numbers place (get_or pairs i d)) []
  told_more place =
      ap (filter_map (number_told numbers place)) (take_more pairs i d within) ∙ filter_map-append (number_told numbers place) (take i pairs) (get_or pairs i d ∷ [])

  told_here : (place number : ℕ) → ((get_or pairs i d).1 == place) ≡ true → slice_get numbers (get_or pairs i d).0 ≡ Some number → told numbers (take (i + 1) pairs) place ≡ told numbers (take i pairs) place ++ number ∷ []
  told_here place number here is =
      told_more place
      ∙ ap (λ (test : Bool). told numbers (take i pairs) place ++ cons_option (cond test (slice_get numbers (get_or pairs i d).0) None) []) here
      ∙ ap (λ (found : Option ℕ). told numbers (take i pairs) place ++ cons_option found []) is

  told_elsewhere : (place : ℕ) → ((get_or pairs i d).1 == place) ≡ false → told numbers (take (i + 1) pairs) place ≡ told numbers (take i pairs) place
  told_elsewhere place other =
      told_more place
      ∙ ap (λ (test : Bool). told numbers (take i pairs) place ++ cons_option (cond test (slice_get numbers (get_or pairs i d).0) None) []) other
      ∙ append-nil (told numbers (take i pairs) place)

-- what a reply at a place lists
listed_at : {A : Type 0} (replies : List (MetLines A)) (place : ℕ) (d : MetLines A) → place < length replies → slice_get (lists_of replies) place ≡ Some (numbers_in (get_or replies place d))
listed_at {A} replies place d within =
    slice_get-get_or (lists_of replies) place [] (subst (λ (n : ℕ). place < n) (sym (length-map replies (λ (reply : MetLines A). reply.numbers.items))) within)
    ∙ ap Some (get_or-map (λ (reply : MetLines A). reply.numbers.items) replies place d [] within)

-- a reply that is listed lists what is told at its place
listed_is : {A : Type 0} (replies : List (MetLines A)) (place : ℕ) (d : MetLines A) (list : List ℕ) → place < length replies → slice_get (lists_of replies) place ≡ Some list → numbers_in (get_or replies place d) ≡ list
listed_is replies place d list within is = same_Some _ _ (sym (listed_at replies place d within) ∙ is)

-- the pair at this index is told to the reply at its later place
pub AreTold-more : {A : Type 0} (numbers : List ℕ) (pairs : List (ℕ × ℕ)) (replies : List (MetLines A)) (i earlier later : ℕ) (reply new : MetLines A)
    → i < length pairs → earlier ≡ (get_or pairs i (0, 0)).0 → later ≡ (get_or pairs i (0, 0)).1 → later < length replies → earlier < length numbers
    → reply ≡ get_or replies later reply → numbers_in new ≡ numbers_in reply ++ get_or numbers earlier 0 ∷ []
    → AreTold numbers (take i pairs) (length replies) (lists_of replies) → AreTold numbers (take (i + 1) pairs) (length (set replies later new)) (lists_of (set replies later new))
AreTold-more {A} numbers pairs replies i earlier later reply new within earlier_is later_is fits earlier_fits reply_is pushed so_far = record {
  one_each = length-map (set replies later new) (λ (item : MetLines A). item.numbers.items);
  each = λ place inside. at place (subst (λ (n : ℕ). place < n) (length-set replies later new) inside) inside (eqb_tells (get_or pairs i (0, 0)).1 place);
}
  where
    number : slice_get numbers (get_or pairs i (0, 0)).0 ≡ Some (get_or numbers earlier 0)
    number = ap (λ (n : ℕ). slice_get numbers n) (sym earlier_is) ∙ slice_get-get_or numbers earlier 0 earlier_fits

    at : (place : ℕ) → place < length replies → place < length (set replies later new) → (((get_or pairs i (0, 0)).1 == place) ≡ true × ((get_or pairs i (0, 0)).1 ≡ place)) ⊎ (((get_or pairs i (0, 0)).1 == place) ≡ false × ((get_or pairs i (0, 0)).1 ≢ place))
        → slice_get (lists_of (set replies later new)) place ≡ Some (told numbers (take (i + 1) pairs) place)
    at place known inside (inl (test, here)) =
        let same : later ≡ place = later_is ∙ here in
        let now : numbers_in (get_or (set replies later new) place new) ≡ numbers_in new = ap numbers_in (subst (λ (n : ℕ). get_or (set replies later new) n new ≡ new) same (get_or-set_same replies later new new fits)) in
        let before : numbers_in reply ≡ told numbers (take i pairs) place =
        ap numbers_in reply_is ∙ listed_is replies later reply (told numbers (take i pairs) later) fits (so_far.each later fits) ∙ ap (told numbers (take i pairs)) same in
        listed_at (set replies later new) place new inside
        ∙ ap Some (now ∙ pushed ∙ ap (λ (list : List ℕ). list ++ get_or numbers earlier 0 ∷ []) before ∙ sym (told_here numbers pairs i (0, 0) within place (get_or numbers earlier 0) test number))
    at place known inside (inr (test, other)) =
        let apart : place ≢ later = λ same. other (sym later_is ∙ sym same) in
        listed_at (set replies later new) place new inside
        ∙ ap Some (ap numbers_in (get_or-set_other replies later place new new apart) ∙ listed_is replies place new (told numbers (take i pairs) place) known (so_far.each place known) ∙ sym (told_elsewhere numbers pairs i (0, 0) within place test))
