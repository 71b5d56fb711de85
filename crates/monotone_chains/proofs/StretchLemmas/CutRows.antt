-- Points in a row along x.
use Rattle.std.proofs.Common.{◌≡◌, ◌⊎◌, inl, inr, ℕ, ◌+◌, ◌-◌, ◌<◌, pos, ◌+ℤ◌, ◌<ℤ◌, ◌≤ℤ◌, List, [], ◌∷◌, ◌++◌, length, get_or, sym, ap, subst, arith}
use Rattle.std.specs.List.{All, Contains}
use Rattle.std.proofs.lemmas.Bool.{cases_eq}
use Rattle.std.proofs.lemmas.Int.{ints}
use Rattle.std.proofs.lemmas.List.Elements.{All-cons, All-from_get_or, All-push, Contains-get_or}
use Rattle.plane.specs.declared.point.Point.{Point}
use Rattle.monotone_chains.specs.Stretches.{Falls, Rises}
use Rattle.monotone_chains.specs.Stretches.Cut.{way}
use Rattle.monotone_chains.specs.declared.stretches.parts.Part.{Part}

-- what holds at both ends and between them
pub All-way : (P : Point → Type 0) (part : Part) → P part.from → P part.to → All P part.inner.now → All P (way part)
All-way P part begins ends each = All-cons P part.from (part.inner.now ++ part.to ∷ []) begins (All-push P part.inner.now part.to each ends)

-- ---- points in a row

module _ (points : List Point) (last : ℕ) (some : 0 < last) (size : length points ≡ last + 1) (d : Point) where
  abbrev from : Point
  from = get_or points 0 d

  abbrev second : Point
  second = get_or points 1 d

  abbrev before : Point
  before = get_or points (last - 1) d

  abbrev to : Point
  to = get_or points last d

  -- what holds of all but the first, or of all but the last
  behind_first : (P : Point → Type 0) → ((k : ℕ) → 0 < k → k < length points → P (get_or points k d)) → All (λ p. (p ≡ from) ⊎ P p) points
  behind_first P all = All-from_get_or (λ p. (p ≡ from) ⊎ P p) points d (λ k within. elim (cases_eq k 0) [
    | inl same ↦ inl (ap (λ (n : ℕ). get_or points n d) same)
    | inr differs ↦ inr (all k (omega (arith, differs)) within)
  ])

  before_last : (P : Point → Type 0) → ((k : ℕ) → k < last → P (get_or points k d)) → All (λ p. (p ≡ to) ⊎ P p) points
  before_last P all = All-from_get_or (λ p. (p ≡ to) ⊎ P p) points d (λ k within. elim (cases_eq k last) [
    | inl same ↦ inl (ap (λ (n : ℕ). get_or points n d) same)
    | inr differs ↦ inr (all k (omega (arith, differs, within, size)))
  ])

  pub from_held : Contains points from
  from_held = Contains-get_or points 0 d (omega (arith, size))

  pub to_held : Contains points to
  to_held = Contains-get_or points last d (omega (arith, size))

  module _ (rises : Rises points) where
    rise : (i j : ℕ) → i < j → j < length points → (get_or points i d).x <ℤ (get_or points j d).x
    rise i j below within = rises i j d below within

    pub rise_within : All (λ p. (from.x ≤ℤ p.x) × (p.x ≤ℤ to.x)) points
    rise_within = All-from_get_or (λ p. (from.x ≤ℤ p.x) × (p.x ≤ℤ to.x)) points d (λ k within. (least k within (cases_eq 0 k), most k within (cases_eq k last)))
      where
        least : (k : ℕ) → k < length points → (0 ≡ k) ⊎ (0 ≡ k → ⊥) → from.x ≤ℤ (get_or points k d).x
        least k within (inl same) = let x = ap (λ (n : ℕ). (get_or points n d).x) same in omega (arith, ints, x)
        least k within (inr differs) = let x = rise 0 k (omega (arith, differs)) within in omega (arith, ints, x)

        most : (k : ℕ) → k < length points → (k ≡ last) ⊎ (k ≡ last → ⊥) → (get_or points k d).x ≤ℤ to.x
        most k within (inl same) = let x = ap (λ (n : ℕ). (get_or points n d).x) same in omega (arith, ints, x)
        most k within (inr differs) = let x = rise k last (omega (arith, differs, within, size)) (omega (arith, size)) in omega (arith, ints, x)

    pub rise_opens : (from.x +ℤ pos 1) <ℤ second.x → All (λ p. (p ≡ from) ⊎ ((from.x +ℤ pos 1) <ℤ p.x)) points
    rise_opens far = behind_first (λ p. (from.x +ℤ pos 1) <ℤ p.x) (λ k above within. elim (cases_eq k 1) [
      | inl same ↦ subst (λ (n : ℕ). (from.x +ℤ pos 1) <ℤ (get_or points n d).x) (sym same) far
      | inr differs ↦ (let x = rise 1 k (omega (arith, above, differs)) within in omega (arith, ints, far, x))
    ])

    pub rise_closes : (before.x +ℤ pos 1) <ℤ to.x → All (λ p. (p ≡ to) ⊎ ((p.x +ℤ pos 1) <ℤ to.x)) points
    rise_closes far = before_last (λ p. (p.x +ℤ pos 1) <ℤ to.x) (λ k below. elim (cases_eq k (last - 1)) [
      | inl same ↦ subst (λ (n : ℕ). ((get_or points n d).x +ℤ pos 1) <ℤ to.x) (sym same) far
      | inr differs ↦ (let x = rise k (last - 1) (omega (arith, below, differs)) (omega (arith, size)) in omega (arith, ints, far, x))
    ])

  module _ (falls : Falls points) where
    fall : (i j : ℕ) → i < j → j < length points → (get_or points j d).x <ℤ (get_or points i d).x
    fall i j below within = falls i j d below within

    pub fall_within : All (λ p. (to.x ≤ℤ p.x) × (p.x ≤ℤ from.x)) points
    fall_within = All-from_get_or (λ p. (to.x ≤ℤ p.x) × (p.x ≤ℤ from.x)) points d (λ k within. (most k within (cases_eq k last), least k within (cases_eq 0 k)))
      where
        least : (k : ℕ) → k < length points → (0 ≡ k) ⊎ (0 ≡ k → ⊥) → (get_or points k d).x ≤ℤ from.x
        least k within (inl same) = let x = ap (λ (n : ℕ). (get_or points n d).x) same in omega (arith, ints, x)
        least k within (inr differs) = let x = fall 0 k (omega (arith, differs)) within in omega (arith, ints, x)

        most : (k : ℕ) → k < length points → (k ≡ last) ⊎ (k ≡ last → ⊥) → to.x ≤ℤ (get_or points k d).x
        most k within (inl same) = let x = ap (λ (n : ℕ). (get_or points n d).x) same in omega (arith, ints, x)
        most k within (inr differs) = let x = fall k last (omega (arith, differs, within, size)) (omega (arith, size)) in omega (arith, ints, x)

    pub fall_opens : (to.x +ℤ pos 1) <ℤ before.x → All (λ p. (p ≡ to) ⊎ ((to.x +ℤ pos 1) <ℤ p.x)) points
    fall_opens far = before_last (λ p. (to.x +ℤ pos 1) <ℤ p.x) (λ k below. elim (cases_eq k (last - 1)) [
      | inl same ↦ subst (λ (n : ℕ). (to.x +ℤ pos 1) <ℤ (get_or points n d).x) (sym same) far
      | inr differs ↦ (let x = fall k (last - 1) (omega (arith, below, differs)) (omega (arith, size)) in omega (arith, ints, far, x))
    ])

    pub fall_closes : (second.x +ℤ pos 1) <ℤ from.x → All (λ p. (p ≡ from) ⊎ ((p.x +ℤ pos 1) <ℤ from.x)) points
    fall_closes far = behind_first (λ p. (p.x +ℤ pos 1) <ℤ from.x) (λ k above within. elim (cases_eq k 1) [
      | inl same ↦ subst (λ (n : ℕ). ((get_or points n d).x +ℤ pos 1) <ℤ from.x) (sym same) far
      | inr differs ↦ (let x = fall 1 k (omega (arith, above, differs)) within in omega (arith, ints, far, x))
    ])
