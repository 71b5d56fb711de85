-- The pairs of a list and its handles.
use Rattle.std.proofs.Common.{◌≡◌, ◌==◌, ◌+◌, ◌<◌, ℕ, List, length, get_or, slice_set, if◌then◌else◌, sym, ap, ◌∙◌, subst, arith}
use Rattle.std.proofs.lemmas.Bool.{cond_both, eqb-true, eqb-false}
use Rattle.std.proofs.lemmas.List.{ext_get_or, get_or-map, get_or-set_same, get_or-set_other, length-map, length-set}
use Rattle.std.proofs.lemmas.List.FromFn.{length-enumerate_from, get_or-enumerate_from}
use Rattle.i_tree.specs.Set.Pairs.{with_value}
use Rattle.i_tree.specs.Set.SetList.{numbered}

module _ {V : Type 0} where
  put_at : (position : ℕ) (value : V) (values : List V) (k : ℕ) → k < length values → get_or (slice_set values position value) k value ≡ (if position == k then value else get_or values k value)
  put_at position value values k within =
      cond_both (position == k) value (get_or values k value) (λ v. get_or (slice_set values position value) k value ≡ v)
      (λ tests.
      let same = eqb-true position k tests in
      subst (λ n. get_or (slice_set values position value) n value ≡ value) same (get_or-set_same values position value value (omega (arith, same, within))))
      (λ tests. get_or-set_other values position k value value (λ same. eqb-false position k tests (sym same)))

  -- a value that is put at a position is put into the pairs there
  pub with_value-numbered : (position : ℕ) (value : V) (values : List V) → numbered (slice_set values position value) ≡ with_value position value (numbered values)
  with_value-numbered position value values =
      let put : ℕ × V → ℕ × V = λ pair. (pair.0, (if position == pair.0 then value else pair.1)) in
      let left_long : length (numbered (slice_set values position value)) ≡ length values = length-enumerate_from 0 (slice_set values position value) ∙ length-set values position value in
      let right_long : length (with_value position value (numbered values)) ≡ length values = length-map (numbered values) put ∙ length-enumerate_from 0 values in
      ext_get_or (0, value) (numbered (slice_set values position value)) (with_value position value (numbered values))
      (omega (arith, left_long, right_long))
      (λ k inside.
      let within : k < length values = omega (arith, inside, left_long) in
      let plain : 0 + k ≡ k = omega arith in
      let at_k : V → ℕ × V = λ v. (k, v) in
      let left : get_or (numbered (slice_set values position value)) k (0, value) ≡ at_k (get_or (slice_set values position value) k value) =
      get_or-enumerate_from 0 (slice_set values position value) k (0, value) (omega (arith, within, length-set values position value)) ∙ ap (λ n. (n, get_or (slice_set values position value) k value)) plain in
      let read : get_or (numbered values) k (0, value) ≡ at_k (get_or values k value) =
      get_or-enumerate_from 0 values k (0, value) within ∙ ap (λ n. (n, get_or values k value)) plain in
      left ∙ ap at_k (put_at position value values k within)
      ∙ sym (get_or-map put (numbered values) k (0, value) (0, value) (omega (arith, within, length-enumerate_from 0 values)) ∙ ap put read))
