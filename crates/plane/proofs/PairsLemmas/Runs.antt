-- Runs of boxes that follow each other, and pairs of items run by run.
use Rattle.std.proofs.Common.{◌≡◌, ◌↔◌, ◌⊎◌, inl, inr, ℕ, ◌+◌, ◌*◌, ◌<◌, ◌≤◌, List, [], ◌∷◌, ◌++◌, length, sym, subst, arith}
use Rattle.std.proofs.lemmas.Bool.{cases_lt}
use Rattle.std.proofs.lemmas.List.{get_or_append_left, get_or_push, length-append}
use Rattle.std.proofs.lemmas.Option.{slice_get_within}
use Rattle.plane.specs.Pairs.Bounds.{IsAroundThese, IsFromUpto}
use Rattle.plane.specs.Pairs.Pairs.{PairAt}
use Rattle.plane.specs.Pairs.Runs.{AreRunsAt, IsRunAt}
use Rattle.plane.specs.declared.pairs.items.Bounds.{Bounds}
use Rattle.plane.specs.declared.pairs.runs.Run.{Run}

-- one more run
pub runs-more : (boxes : List Bounds) (runs : List Run) (run : Run) → AreRunsAt boxes runs → IsRunAt boxes (length runs) run → AreRunsAt boxes (runs ++ run ∷ [])
runs-more boxes runs run are is place d below = elim (cases_lt place (length runs)) [
  | inl before ↦ subst (IsRunAt boxes place) (sym (get_or_append_left runs (run ∷ []) d place before)) (are place d before)
  | inr upto ↦
      let many = length-append runs (run ∷ []) in
      let at : length runs ≡ place = omega (arith, below, upto, many) in
      subst (IsRunAt boxes place) (sym (get_or_push runs run d place at)) (subst (λ (there : ℕ). IsRunAt boxes there run) at is)
]

-- a box around all boxes up to a place, or up to the last one, is around those up to that place
pub around-upto : (boxes : List Bounds) (from to upto : ℕ) (around : Bounds) → (upto ≤ to) ⊎ (length boxes ≤ to) → IsAroundThese from to boxes around → IsAroundThese from upto boxes around
around-upto boxes from to upto around reaches is place box there behind below =
    let inside = slice_get_within boxes place box there in
    is place box there behind (elim reaches [ inl far ↦ omega (arith, below, far) | inr all ↦ omega (arith, inside, all) ])

module _ {X : Type 0} (Meeting : X → X → Type 0) (items : List X) where
  -- ---- the items of one run with those of another one

  module _ (from to begin end : ℕ) where
    -- none of the other one is before it
    pub two_none : (i j : ℕ) → ¬ (IsFromUpto from to i × IsFromUpto begin end j × (j < begin) × PairAt Meeting items i j)
    two_none i j (within, other, below, pair) = let upto = other.0 in omega (arith, upto, below)

    -- one more item of the other one
    pub two_more : (second : ℕ) → begin ≤ second → second < end
        → (i j : ℕ) → (IsFromUpto from to i × IsFromUpto begin end j × (j < second + 1) × PairAt Meeting items i j) ↔ ((IsFromUpto from to i × IsFromUpto begin end j × (j < second) × PairAt Meeting items i j) ⊎ (IsFromUpto from to i × (j ≡ second) × PairAt Meeting items i j))
    two_more second behind before i j = (
      λ (within, other, below, pair). elim (cases_lt j second) [
        | inl less ↦ inl (within, other, less, pair)
        | inr upto ↦ inr (within, omega (arith, below, upto), pair)
      ],
      λ told. elim told [
        | inl (within, other, less, pair) ↦ (within, other, omega (arith, less), pair)
        | inr (within, is, pair) ↦ (within, (omega (arith, is, behind), omega (arith, is, before)), omega (arith, is), pair)
      ],
    )

    -- all of them
    pub two_all : (second : ℕ) → (end ≤ second) ⊎ (length items ≤ second)
        → (i j : ℕ) → (IsFromUpto from to i × IsFromUpto begin end j × PairAt Meeting items i j) ↔ (IsFromUpto from to i × IsFromUpto begin end j × (j < second) × PairAt Meeting items i j)
    two_all second all i j = (
      λ (within, other, pair). (
        within,
        other,
        (let inside = slice_get_within items j pair.other pair.second in
            let upto = other.1 in
            elim all [ inl past ↦ omega (arith, upto, past) | inr none ↦ omega (arith, inside, none) ]),
        pair,
      ),
      λ (within, other, _, pair). (within, other, pair),
    )

  -- ---- the items of one run with all behind them

  module _ (place : ℕ) where
    -- none is before the run
    pub run_none : (i j : ℕ) → ¬ (IsFromUpto (place * 8) (place * 8 + 8) i × (j < place * 8) × PairAt Meeting items i j)
    run_none i j (within, below, pair) = let rising = pair.rising in let from = within.0 in omega (arith, rising, from, below)

    -- one more run
    pub run_next : (other from to begin end : ℕ) → from ≡ place * 8 → to ≡ place * 8 + 8 → begin ≡ other * 8 → end ≡ other * 8 + 8
        → (i j : ℕ) → (IsFromUpto (place * 8) (place * 8 + 8) i × (j < (other + 1) * 8) × PairAt Meeting items i j)
        ↔ ((IsFromUpto (place * 8) (place * 8 + 8) i × (j < other * 8) × PairAt Meeting items i j) ⊎ (IsFromUpto from to i × IsFromUpto begin end j × PairAt Meeting items i j))
    run_next other from to begin end from_is to_is begin_is end_is i j = (
      λ (within, below, pair). elim (cases_lt j (other * 8)) [
        | inl before ↦ inl (within, before, pair)
        | inr upto ↦
            let behind = within.0 in
            let before = within.1 in
            inr ((omega (arith, behind, from_is), omega (arith, before, to_is)), (omega (arith, upto, begin_is), omega (arith, below, end_is)), pair)
      ],
      λ told. elim told [
        | inl (within, before, pair) ↦ (within, omega (arith, before), pair)
        | inr (within, other_within, pair) ↦
            let behind = within.0 in
            let before = within.1 in
            let upto = other_within.1 in
            ((omega (arith, behind, from_is), omega (arith, before, to_is)), omega (arith, upto, end_is), pair)
      ],
    )

    -- all of them
    pub run_upto : (other : ℕ) → length items ≤ other * 8
        → (i j : ℕ) → (IsFromUpto (place * 8) (place * 8 + 8) i × PairAt Meeting items i j) ↔ (IsFromUpto (place * 8) (place * 8 + 8) i × (j < other * 8) × PairAt Meeting items i j)
    run_upto other all i j = (λ (within, pair). (within, (let inside = slice_get_within items j pair.other pair.second in omega (arith, inside, all)), pair), λ (within, _, pair). (within, pair))

  -- ---- all runs

  -- one more run
  pub runs_next : (place : ℕ) → (i j : ℕ) → ((i < (place + 1) * 8) × PairAt Meeting items i j) ↔ (((i < place * 8) × PairAt Meeting items i j) ⊎ (IsFromUpto (place * 8) (place * 8 + 8) i × PairAt Meeting items i j))
  runs_next place i j = (
    λ (below, pair). elim (cases_lt i (place * 8)) [
      | inl before ↦ inl (before, pair)
      | inr upto ↦ inr ((upto, omega (arith, below)), pair)
    ],
    λ told. elim told [
      | inl (before, pair) ↦ (omega (arith, before), pair)
      | inr ((_, before), pair) ↦ (omega (arith, before), pair)
    ],
  )

  -- all of them
  pub runs_upto : (place : ℕ) → length items ≤ place * 8 → (i j : ℕ) → PairAt Meeting items i j ↔ ((i < place * 8) × PairAt Meeting items i j)
  runs_upto place all i j = (λ pair. (let inside = slice_get_within items i pair.one pair.first in omega (arith, inside, all), pair), λ (_, pair). pair)
