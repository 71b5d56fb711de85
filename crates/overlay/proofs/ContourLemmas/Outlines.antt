-- Rings without the points at which they go straight on.
use Rattle.std.proofs.Common.{◌≡◌, inl, inr, ℕ, ◌+◌, ◌<◌, ℤ, pos, ◌-ℤ◌, ◌<ℤ◌, Bool, true, false, cond, List, [], ◌∷◌, ◌++◌, length, get_or, map, take, drop, refl, sym, ap, ap₂, ◌∙◌, append_assoc, arith}
use Rattle.std.specs.List.{flat_map}
use Rattle.std.specs.Prelude.{◌&&◌, OnErr, Result, int_le, int_lt}
use Rattle.std.proofs.lemmas.Bool.{cases_Bool}
use Rattle.std.proofs.lemmas.Int.{ints}
use Rattle.std.proofs.lemmas.List.{drop_more, flat_map_more, length-append, map_more, take_more}
use Rattle.plane.specs.Meet.Crosses.{cross}
use Rattle.plane.specs.declared.point.Point.{Point}
use Rattle.overlay.specs.Contours.Outlines.{IsStraight, bends, goes_straight, next_or, outline, ring_point}
use Rattle.overlay.specs.Contours.Turns.{dot}
use Rattle.plane.specs.Lists.{Extends}
use Rattle.noding.specs.Offsets.{offsets}
use Rattle.noding.proofs.ChainLemmas.Runs.{offsets-more}
use Rattle.plane.proofs.PairsLemmas.Extends.{OnErr-always, Extends-trans}

-- the test
straight-test : (c d : ℤ) (r s t : Bool) → int_le c (pos 0) ≡ r → int_le (pos 0) c ≡ s → int_lt (pos 0) d ≡ t → ((r && s) && t) ≡ true → (c ≡ pos 0) × (pos 0 <ℤ d)
straight-test c d true true true upto from ahead is = (omega (arith, ints, upto, from), omega (arith, ints, ahead))
straight-test c d true true false upto from ahead is = absurd cc
straight-test c d true false t upto from ahead is = absurd cc
straight-test c d false s t upto from ahead is = absurd cc

bent-test : (c d : ℤ) (r s t : Bool) → int_le c (pos 0) ≡ r → int_le (pos 0) c ≡ s → int_lt (pos 0) d ≡ t → ((r && s) && t) ≡ false → c ≡ pos 0 → pos 0 <ℤ d → ⊥
bent-test c d true true true upto from ahead is none above = absurd cc
bent-test c d true true false upto from ahead is none above = omega (arith, ints, ahead, above)
bent-test c d true false t upto from ahead is none above = omega (arith, ints, from, none)
bent-test c d false s t upto from ahead is none above = omega (arith, ints, upto, none)

module _ (before at after : Point) where
  abbrev turned : ℤ
  turned = cross (at.x -ℤ before.x) (at.y -ℤ before.y) (after.x -ℤ at.x) (after.y -ℤ at.y)

  abbrev onwards : ℤ
  onwards = dot (at.x -ℤ before.x) (at.y -ℤ before.y) (after.x -ℤ at.x) (after.y -ℤ at.y)

  pub straight-true : IsStraight before at after → goes_straight before at after ≡ true
  straight-true is = elim (cases_Bool (goes_straight before at after)) [
    | inl is_so ↦ is_so
    | inr isnt ↦ absurd (bent-test turned onwards (int_le turned (pos 0)) (int_le (pos 0) turned) (int_lt (pos 0) onwards) refl refl refl isnt is.along is.ahead)
  ]

  pub straight-is : goes_straight before at after ≡ true → IsStraight before at after
  straight-is is =
      let found = straight-test turned onwards (int_le turned (pos 0)) (int_le (pos 0) turned) (int_lt (pos 0) onwards) refl refl refl is in
      record { along = found.0; ahead = found.1 }

  pub straight-false : ¬ (IsStraight before at after) → goes_straight before at after ≡ false
  straight-false none = elim (cases_Bool (goes_straight before at after)) [
    | inl is_so ↦ absurd (none (straight-is is_so))
    | inr isnt ↦ isnt
  ]

-- one point of the list
module _ (before : Point) (ring : List Point) (place : ℕ) (behind after : Point) (inside : place < length ring) (is : after ≡ next_or (drop (place + 1) ring) behind) where
  abbrev rest : List Point
  rest = bends (ring_point ring place) (drop (place + 1) ring) behind

  bends-here : bends before (drop place ring) behind ≡ cond (goes_straight before (ring_point ring place) after) rest (ring_point ring place ∷ rest)
  bends-here =
      ap (λ (points : List Point). bends before points behind) (drop_more ring place _ inside)
      ∙ ap (λ (next : Point). cond (goes_straight before (ring_point ring place) next) rest (ring_point ring place ∷ rest)) (sym is)

  pub bends-straight : IsStraight before (ring_point ring place) after → bends before (drop place ring) behind ≡ bends (ring_point ring place) (drop (place + 1) ring) behind
  bends-straight straight = bends-here ∙ ap (λ (b : Bool). cond b rest (ring_point ring place ∷ rest)) (straight-true before (ring_point ring place) after straight)

  pub bends-kept : ¬ (IsStraight before (ring_point ring place) after) → bends before (drop place ring) behind ≡ ring_point ring place ∷ bends (ring_point ring place) (drop (place + 1) ring) behind
  bends-kept bent = bends-here ∙ ap (λ (b : Bool). cond b rest (ring_point ring place ∷ rest)) (straight-false before (ring_point ring place) after bent)

-- ---- rings one after another

joined-map : {X Y : Type 0} (f : List X → List Y) (lists : List (List X)) → flat_map (λ list. list) (map f lists) ≡ flat_map f lists
joined-map f [] = refl
joined-map f (list ∷ lists) = ap (λ rest. f list ++ rest) (joined-map f lists)

module _ (lists : List (List Point)) (k : ℕ) (within : k < length lists) where
  -- one more outline
  pub outlines-more : (old points points' ring : List Point) (ends_old ends ends' : List ℕ) → points ≡ old ++ flat_map outline (take k lists) → ends ≡ ends_old ++ offsets (length old) (map outline (take k lists))
      → ring ≡ get_or lists k [] → points' ≡ points ++ outline ring → ends' ≡ ends ++ length points' ∷ []
      → (points' ≡ old ++ flat_map outline (take (k + 1) lists)) × (ends' ≡ ends_old ++ offsets (length old) (map outline (take (k + 1) lists)))
  outlines-more old points points' ring ends_old ends ends' points_are ends_are is now now_ends =
      let last = get_or lists k [] in
      let before = map outline (take k lists) in
      let told : points' ≡ (old ++ flat_map outline (take k lists)) ++ outline last = now ∙ ap₂ (λ (list other : List Point). list ++ outline other) points_are is in
      let size : length points' ≡ (length old + length (flat_map (λ list. list) before)) + length (outline last) =
      (let long = ap (λ (list : List Point). length list) told in
      let sum = length-append (old ++ flat_map outline (take k lists)) (outline last) in
      let inner = length-append old (flat_map outline (take k lists)) in
      let same = ap (λ (list : List Point). length list) (joined-map outline (take k lists)) in
      omega (arith, long, sum, inner, same)) in (
        told ∙ flat_map_more outline old (take k lists) last ∙ ap (λ (rings : List (List Point)). old ++ flat_map outline rings) (sym (take_more lists k [] within)),
        now_ends ∙ ap₂ (λ (list : List ℕ) (n : ℕ). list ++ n ∷ []) ends_are size
            ∙ append_assoc ends_old (offsets (length old) before) _
            ∙ ap (λ (list : List ℕ). ends_old ++ list) (sym (offsets-more (length old) before (outline last)))
            ∙ ap (λ (rings : List (List Point)). ends_old ++ offsets (length old) rings) (sym (map_more outline lists k [] within)),
      )

-- what was appended when memory was refused
pub stopped : {T E X Y : Type 0} (r : Result T E) (before now after more : List X) (before' after' more' : List Y) → now ≡ before ++ more → Extends now after → after' ≡ before' ++ more' → OnErr r (Extends before after × Extends before' after')
stopped r before now after more before' after' more' is later is' = OnErr-always r _ (Extends-trans before now after (more, is) later, (more', is'))
