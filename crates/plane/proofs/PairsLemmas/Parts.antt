-- The parts of items in strips, as they are listed one after another, and as they stand once they are sorted.
use Rattle.std.proofs.Common.{◌≡◌, ◌≢◌, ◌⊎◌, inl, inr, ℕ, ◌<◌, ◌≤◌, ◌+◌, List, [], ◌∷◌, ◌++◌, Some, get_or, length, refl, sym, ap, ◌∙◌, subst, ⊎_elim, arith}
use Rattle.std.specs.List.{Contains, slice_get}
use Rattle.std.proofs.lemmas.Bool.{cases_lt}
use Rattle.std.proofs.lemmas.List.{get_or_append_left, get_or_default, get_or_push, length-append}
use Rattle.std.proofs.lemmas.List.Elements.{All-push, All-weaker, Contains-append_left, Contains-push}
use Rattle.std.proofs.lemmas.List.Quantifiers.{all_pairs_push}
use Rattle.std.proofs.lemmas.Option.{same_Some}
use Rattle.plane.specs.Pairs.Parts.{AreReadAhead, IsItemOf, Lists, IsPartOf, part_of}
use Rattle.plane.specs.Pairs.Strips.{strip_at, Reaches}
use Rattle.plane.specs.declared.pairs.parts.Part.{Part}
use Rattle.plane.specs.declared.pairs.strips.Strips.{Strips}
use Rattle.plane.specs.declared.pairs.items.Bounds.{Bounds}

-- the parts at one place, in one strip and of one item are one
pub same_part : {X : Type 0} (bounds : X → Bounds) (p q s t : ℕ) (one other : X) → p ≡ q → s ≡ t → one ≡ other → part_of p (bounds one) s ≡ part_of q (bounds other) t
same_part bounds p q s t one other first second third = cc

-- those of the items in front of this place, and of the item there in strips below this one
abbrev pub IsUpto : ℕ → ℕ → ℕ → ℕ → Type 0
IsUpto place strip other_place other_strip = (other_place < place) ⊎ ((other_place ≡ place) × (other_strip < strip))

module _ {X : Type 0} (bounds : X → Bounds) (strips : Strips) (items : List X) where
  module _ (Wanted Wanted' : ℕ → ℕ → Type 0) (parts : List Part) (lists : Lists bounds strips items Wanted parts) where
    -- the same parts are wanted
    pub Lists-same : ((place strip : ℕ) (item : X) → slice_get items place ≡ Some item → Reaches strips (bounds item) strip → Wanted' place strip → Wanted place strip)
        → ((place strip : ℕ) (item : X) → slice_get items place ≡ Some item → Reaches strips (bounds item) strip → Wanted place strip → Wanted' place strip) → Lists bounds strips items Wanted' parts
    Lists-same back forth = record {
      each = λ place strip item stands reaches wanted. lists.each place strip item stands reaches (back place strip item stands reaches wanted);
      of = All-weaker (λ part. IsPartOf bounds strips items part × Wanted part.place part.strip) (λ part. IsPartOf bounds strips items part × Wanted' part.place part.strip)
          (λ part (is, wanted). (is, forth part.place part.strip is.item is.stands is.reaches wanted)) parts lists.of;
      once = lists.once;
    }

    -- one more part
    pub Lists-push : (place strip : ℕ) (item : X) → slice_get items place ≡ Some item → Reaches strips (bounds item) strip → (Wanted place strip → ⊥)
        → ((other_place other_strip : ℕ) → Wanted' other_place other_strip → Wanted other_place other_strip ⊎ ((other_place ≡ place) × (other_strip ≡ strip)))
        → ((other_place other_strip : ℕ) → Wanted other_place other_strip → Wanted' other_place other_strip) → Wanted' place strip
        → Lists bounds strips items Wanted' (parts ++ part_of place (bounds item) strip ∷ [])
    Lists-push place strip item stands reaches new back forth wanted = record {
      each = λ other_place other_strip other stands' reaches' wanted'. elim (back other_place other_strip wanted') [
        | inl before ↦ Contains-append_left parts (part ∷ []) (part_of other_place (bounds other) other_strip) (lists.each other_place other_strip other stands' reaches' before)
        | inr (at, in_strip) ↦
            let same : item ≡ other = same_Some item other (sym stands ∙ ap (slice_get items) (sym at) ∙ stands') in
            subst (Contains (parts ++ part ∷ [])) (same_part bounds place other_place strip other_strip item other (sym at) (sym in_strip) same) (Contains-push parts part)
      ];
      of = All-push (λ part. IsPartOf bounds strips items part × Wanted' part.place part.strip) parts part
          (All-weaker (λ part. IsPartOf bounds strips items part × Wanted part.place part.strip) (λ part. IsPartOf bounds strips items part × Wanted' part.place part.strip) (λ part (is, w). (is, forth part.place part.strip w)) parts lists.of)
          (record { item = item; stands = stands; reaches = reaches; is = refl }, wanted);
      once = all_pairs_push (λ part later. part ≢ later) parts part lists.once
          (λ k d within is. new (subst (λ (other : Part). Wanted other.place other.strip) is (lists.of k d within).1));
    }
      where
        part : Part
        part = part_of place (bounds item) strip

  -- Steps of a loop over the strips that the item at a place reaches.
  module _ (place : ℕ) (item : X) (stands : slice_get items place ≡ Some item) (parts : List Part) where
    -- before the first
    pub Lists-from : (first : ℕ) → first ≤ strip_at strips (bounds item).low → Lists bounds strips items (λ other _. other < place) parts → Lists bounds strips items (IsUpto place first) parts
    Lists-from first from lists = Lists-same (λ other _. other < place) (IsUpto place first) parts lists
        (λ other strip other_item stands' reaches wanted. ⊎_elim (λ before. before)
        (λ (at, below).
        let same : item ≡ other_item = same_Some item other_item (sym stands ∙ ap (slice_get items) (sym at) ∙ stands') in
        let reached : Reaches strips (bounds item) strip = subst (λ (one : X). Reaches strips (bounds one) strip) (sym same) reaches in
        absurd (omega (arith, below, from, reached.from))) wanted)
        (λ other strip other_item stands' reaches before. inl before)

    -- one of them
    pub Lists-more : (strip : ℕ) → Reaches strips (bounds item) strip → Lists bounds strips items (IsUpto place strip) parts → Lists bounds strips items (IsUpto place (strip + 1)) (parts ++ part_of place (bounds item) strip ∷ [])
    Lists-more strip reaches lists = Lists-push (IsUpto place strip) (IsUpto place (strip + 1)) parts lists place strip item stands reaches
        (λ wanted. ⊎_elim (λ before. absurd (omega (arith, before))) (λ (_, below). absurd (omega (arith, below))) wanted)
        (λ other other_strip wanted. ⊎_elim (λ before. inl (inl before))
        (λ (at, upto). elim (cases_lt other_strip strip) [ inl below ↦ inl (inr (at, below)) | inr above ↦ inr (at, omega (arith, upto, above)) ]) wanted)
        (λ other other_strip wanted. ⊎_elim (λ before. inl before) (λ (at, below). inr (at, omega (arith, below))) wanted)
        (inr (refl, omega arith))

    -- behind the last
    pub Lists-all : (strip : ℕ) → strip_at strips (bounds item).high < strip → Lists bounds strips items (IsUpto place strip) parts → Lists bounds strips items (λ other _. other < place + 1) parts
    Lists-all strip past lists = Lists-same (IsUpto place strip) (λ other _. other < place + 1) parts lists
        (λ other other_strip other_item stands' reaches before. elim (cases_lt other place) [
          | inl below ↦ inl below
          | inr upto ↦
              let at : other ≡ place = omega (arith, before, upto) in
              let same : item ≡ other_item = same_Some item other_item (sym stands ∙ ap (slice_get items) (sym at) ∙ stands') in
              let reached : Reaches strips (bounds item) other_strip = subst (λ (one : X). Reaches strips (bounds one) other_strip) (sym same) reaches in
              inr (at, omega (arith, past, reached.upto))
        ])
        (λ other other_strip other_item stands' reaches wanted. ⊎_elim (λ before. omega (arith, before)) (λ (at, _). omega (arith, at)) wanted)

-- ---- what is read ahead

-- the item of a part, whatever the list is read by where it ends
pub item_of : {X : Type 0} (items : List X) (parts : List Part) (place : ℕ) (d : Part) (item : X) → place < length parts → item ≡ get_or items (get_or parts place d).place item → IsItemOf items parts place item
item_of items parts place d item inside is e = subst (λ (part : Part). item ≡ get_or items part.place item) (get_or_default parts place d e inside) is

-- the item of the next part joins what is read
pub AreReadAhead-push : {X : Type 0} (items : List X) (parts : List Part) (from : ℕ) (read : List X) (next : ℕ) (item : X) → from + length read ≡ next → AreReadAhead items parts from read → IsItemOf items parts next item → AreReadAhead items parts from (read ++ item ∷ [])
AreReadAhead-push items parts from read next item at ahead is i d within = elim (cases_lt i (length read)) [
  | inl before ↦ subst (IsItemOf items parts (from + i)) (sym (get_or_append_left read (item ∷ []) d i before)) (ahead i d before)
  | inr behind ↦
      let last : length read ≡ i = omega (arith, behind, within, length-append read (item ∷ [])) in
      let here : next ≡ from + i = omega (arith, at, last) in
      subst (IsItemOf items parts (from + i)) (sym (get_or_push read item d i last)) (subst (λ (k : ℕ). IsItemOf items parts k item) here is)
]
