-- Items at their places in a list.
use Rattle.std.proofs.Common.{◌≡◌, ◌⊎◌, inl, inr, ℕ, suc, ◌<◌, List, [], ◌∷◌, ◌++◌, Some, length, get_or, refl, sym, ap, ◌∙◌, arith}
use Rattle.std.specs.List.{AllZip, slice_get}
use Rattle.std.proofs.lemmas.Bool.{cases_lt}
use Rattle.std.proofs.lemmas.List.{get_or_append_left, get_or_at, get_or_default, length-append}
use Rattle.std.proofs.lemmas.Option.{slice_get-get_or}
use Rattle.event_queue.specs.Queue.{StandsAt}

module _ {X : Type 0} where
  -- an item that stands in the list stands in a longer one
  pub StandsAt-more : (items : List X) (last : X) (place : ℕ) (item : X) → StandsAt items place item → StandsAt (items ++ last ∷ []) place item
  StandsAt-more items last place item (within, is) =
      (omega (arith, length-append items (last ∷ [])), get_or_append_left items (last ∷ []) item place within ∙ is)

  -- the last item stands behind all others
  pub StandsAt-last : (items : List X) (last : X) → StandsAt (items ++ last ∷ []) (length items) last
  StandsAt-last items last = (omega (arith, length-append items (last ∷ [])), get_or_at items last [] last (length items) refl)

  -- an item that stands in the longer list stood there before, or is the last
  pub StandsAt-cases : (items : List X) (last : X) (place : ℕ) (item : X) → StandsAt (items ++ last ∷ []) place item → StandsAt items place item ⊎ ((place ≡ length items) × (last ≡ item))
  StandsAt-cases items last place item (within, is) = elim (cases_lt place (length items)) [
    | inl before ↦ inl (before, sym (get_or_append_left items (last ∷ []) item place before) ∙ is)
    | inr behind ↦
        let at : length items ≡ place = omega (arith, length-append items (last ∷ [])) in
        inr (sym at, sym (get_or_at items last [] item place at) ∙ is)
  ]

  -- what is read at a place of the list stands there
  pub StandsAt-read : (items : List X) (place : ℕ) (d : X) → place < length items → StandsAt items place (get_or items place d)
  StandsAt-read items place d within = (within, get_or_default items place (get_or items place d) d within)

  -- one item stands at a place
  pub one_item : (items : List X) (i j : ℕ) (x y : X) → i ≡ j → StandsAt items i x → StandsAt items j y → x ≡ y
  one_item items i j x y same (inside, at) (inside', at') = sym at ∙ get_or_default items i x y inside ∙ ap (λ k. get_or items k y) same ∙ at'

  pub slice_get-stands : (items : List X) (i : ℕ) (x : X) → StandsAt items i x → slice_get items i ≡ Some x
  slice_get-stands items i x (inside, at) = slice_get-get_or items i x inside ∙ ap Some at

-- two lists of one length whose items stand in a relation place by place
pub AllZip-each : {A B : Type 0} (R : A → B → Type 0) (e : B) (xs : List A) (ys : List B) → length ys ≡ length xs → ((k : ℕ) (x : A) → StandsAt xs k x → R x (get_or ys k e)) → AllZip R xs ys
AllZip-each R e [] [] long each = tt
AllZip-each R e (x ∷ xs) (y ∷ ys) long each = (each 0 x (omega arith, refl), AllZip-each R e xs ys (omega (arith, long)) (λ k x' stands. each (suc k) x' (omega (arith, stands.0), stands.1)))
AllZip-each R e [] (y ∷ ys) long each = absurd (omega (arith, long))
AllZip-each R e (x ∷ xs) [] long each = absurd (omega (arith, long))
