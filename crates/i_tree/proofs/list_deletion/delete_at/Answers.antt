use Rattle.std.proofs.Common.{◌≡◌, ◌<◌, ◌≤◌, ℕ, ◌+◌, ◌-◌, suc, List, [], ◌∷◌, ◌++◌, length, take, drop, vec_len, refl, sym, ap, ◌∙◌, arith, append_assoc, length-drop}
use Rattle.std.specs.List.{remove}
use Rattle.std.proofs.lemmas.List.{take_at, length-take-le, drop-drop, take-append-drop}
use Rattle.std.proofs.lemmas.List.Edits.{remove-append_right}
use borrow.Rule.Slice.PartMut.{put_mid, mid_of, same_len_mid}
use Rattle.i_tree.proofs.list_deletion.delete_at.Goals as goal

module _ {T : Type 0} where
  -- the item at the front of a part has gone behind the part: without it the list is the same
  turned : (a n : ℕ) (xs ys : List T) → a + n < length xs → ys ≡ drop 1 (mid_of a (suc n) xs) ++ take 1 (mid_of a (suc n) xs)
      → remove (put_mid a (suc n) xs ys) (a + n) ≡ remove xs a
  turned a n xs ys inside is = by_rest (drop a xs) refl
    where
      by_rest : (part : List T) → drop a xs ≡ part → remove (put_mid a (suc n) xs ys) (a + n) ≡ remove xs a
      by_rest [] at = absurd (omega (arith, inside, ap length at, length-drop a xs))
      by_rest (x ∷ rest) at =
          let long : length (take a xs) ≡ a = length-take-le a xs (omega (arith, inside)) in
          let within : n ≤ length rest = omega (arith, inside, ap length at, length-drop a xs) in
          let step : suc a ≡ a + 1 = omega arith in
          let next : drop (suc a) xs ≡ drop (a + 1) xs = ap (λ k. drop k xs) step in
          let none : n - n ≡ 0 = omega arith in
          let far : a + n - a ≡ n = omega arith in
          let behind : drop (suc a) xs ≡ rest = next ∙ sym (drop-drop 1 a xs) ∙ ap (drop 1) at in
          let ys_are : ys ≡ take n rest ++ x ∷ [] = is ∙ ap (λ part. drop 1 (take (suc n) part) ++ take 1 (take (suc n) part)) at in
          let part : remove ((take n rest ++ x ∷ []) ++ drop n rest) n ≡ rest =
          ap (λ zs. remove zs n) (append_assoc (take n rest) (x ∷ []) (drop n rest))
          ∙ remove-append_right (take n rest) (x ∷ drop n rest) n n (length-take-le n rest within) (omega arith)
          ∙ ap (λ k. take n rest ++ remove (x ∷ drop n rest) k) none ∙ take-append-drop n rest in
          ap (λ zs. remove (take a xs ++ (zs ++ drop (suc n) (drop a xs))) (a + n)) ys_are
          ∙ ap (λ zs. remove (take a xs ++ ((take n rest ++ x ∷ []) ++ drop (suc n) zs)) (a + n)) at
          ∙ remove-append_right (take a xs) ((take n rest ++ x ∷ []) ++ drop n rest) a (a + n) long (omega arith)
          ∙ ap (λ k. take a xs ++ remove ((take n rest ++ x ∷ []) ++ drop n rest) k) far
          ∙ ap (λ zs. take a xs ++ zs) (part ∙ sym behind)

pub loop-gone-preserved : goal.loop-gone-preserved
loop-gone-preserved g c =
    let gone = c.loop-gone.gone in
    let block = c.max-block.result in
    let there : gone + block < vec_len c.loop-gone.items = omega (arith, c.loop-gone-test.true, c.len.ensures) in
    let many : gone + block + 1 - gone ≡ suc block = omega arith in
    let now = put_mid gone (gone + block + 1 - gone) c.deref_mut.result.now c.rotate_left.new.self in
    let long : length now ≡ vec_len c.loop-gone.items =
    same_len_mid gone (gone + block + 1 - gone) c.deref_mut.result.now c.rotate_left.new.self c.rotate_left.ensures.len ∙ c.deref_mut.ensures.len in
    let whole = take_at now (drop (length now) c.loop-gone.items.items) (vec_len c.loop-gone.items) long in
    record {
      inside = there;
      left =
          ap (λ zs. remove zs (gone + block)) (whole ∙ ap (λ k. put_mid gone k c.deref_mut.result.now c.rotate_left.new.self) many)
          ∙ turned gone block c.deref_mut.result.now c.rotate_left.new.self (omega (arith, there, c.deref_mut.ensures.len))
          (c.rotate_left.ensures.after ∙ ap (λ k. drop 1 (mid_of gone k c.deref_mut.result.now) ++ take 1 (mid_of gone k c.deref_mut.result.now)) many)
          ∙ ap (λ zs. remove zs gone) c.deref_mut.ensures.value
          ∙ c.loop-gone.invariant.left;
      len = c.loop-gone.invariant.len;
      capacity = c.loop-gone.invariant.capacity;
    }
