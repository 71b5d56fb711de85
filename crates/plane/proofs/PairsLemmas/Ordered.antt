-- The points of parts, in the order of the parts.
use Rattle.std.proofs.Common.{◌≡◌, inl, inr, ℕ, ◌+◌, ◌<◌, List, [], ◌∷◌, ◌++◌, Some, get_or, length, sym, ap, ◌∙◌, subst, arith}
use Rattle.std.specs.List.{slice_get}
use Rattle.std.proofs.lemmas.Bool.{cases_lt}
use Rattle.std.proofs.lemmas.List.{length-append}
use Rattle.std.proofs.lemmas.Option.{get_or_from_slice_get, slice_get-get_or, slice_get_within, same_Some}
use Rattle.i_tree.proofs.RbLemmas.Slots.Growth.{slice_get-append_end, slice_get-append_kept}
use Rattle.plane.specs.Pairs.Parts.{AreParts, IsPartOf}
use Rattle.plane.specs.Pairs.Points.{ArePointsOf, BeginAs}
use Rattle.plane.specs.declared.pairs.items.Bounds.{Bounds}
use Rattle.plane.specs.declared.pairs.parts.Part.{Part}
use Rattle.plane.specs.declared.pairs.strips.Strips.{Strips}

-- an item of a list, as an index reads it
pub stands_at : {Y : Type 0} (ordered : List Y) (at : ℕ) (point : Y) → at < length ordered → point ≡ get_or ordered at point → slice_get ordered at ≡ Some point
stands_at {Y} ordered at point within is = slice_get-get_or ordered at point within ∙ ap (λ (one : Y). Some one) (sym is)

module _ {Y : Type 0} (points : List Y) (parts : List Part) where
  pub ArePointsOf-none : ArePointsOf points parts 0 []
  ArePointsOf-none = record { many = omega arith; each = λ at part point listed stands. let within = slice_get_within {A = Y} [] at point stands in absurd (omega (arith, within)) }

  -- the point of the next part joins them
  pub ArePointsOf-push : (count : ℕ) (ordered : List Y) (part : Part) (point : Y) → slice_get parts count ≡ Some part → slice_get points part.place ≡ Some point → ArePointsOf points parts count ordered → ArePointsOf points parts (count + 1) (ordered ++ point ∷ [])
  ArePointsOf-push count ordered part point next there are = record {
    many = let many = are.many in omega (arith, many, length-append ordered (point ∷ []));
    each = λ at one other listed stands. elim (cases_lt at count) [
      | inl before ↦
          let many = are.many in
          let kept = slice_get-append_kept ordered (point ∷ []) at (get_or ordered at other) (slice_get-get_or ordered at other (omega (arith, many, before))) in
          are.each at one other listed (slice_get-get_or ordered at other (omega (arith, many, before)) ∙ sym kept ∙ stands)
      | inr upto ↦
          let many = are.many in
          let within = slice_get_within (ordered ++ point ∷ []) at other stands in
          let here : at ≡ count = omega (arith, upto, within, many, length-append ordered (point ∷ [])) in
          let same : part ≡ one = same_Some part one (sym next ∙ ap (slice_get parts) (sym here) ∙ listed) in
          let last : at ≡ length ordered = omega (arith, here, many) in
          subst (λ (it : Part). slice_get points it.place ≡ Some other) same
          (there ∙ sym (slice_get-append_end ordered at point last) ∙ stands)
    ];
  }

-- each part begins where its point stands
pub BeginAs-points : {Y : Type 0} (bounds : Y → Bounds) (points : List Y) (rows : Strips) (parts : List Part) → AreParts bounds rows points parts → (ordered : List Y) → ArePointsOf points parts (length parts) ordered → BeginAs bounds parts ordered
BeginAs-points {Y} bounds points rows parts are ordered of = record {
  many = of.many;
  each = λ at part point listed stands.
      let its : IsPartOf bounds rows points part = subst (IsPartOf bounds rows points) (get_or_from_slice_get parts at part part listed) (are.of at part (slice_get_within parts at part listed)) in
      let same : its.item ≡ point = same_Some its.item point (sym its.stands ∙ of.each at part point listed stands) in
      subst (λ (one : Y). (bounds one).left ≡ part.left) same (sym (ap (λ (one : Part). one.left) its.is));
}
