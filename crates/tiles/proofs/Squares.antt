-- Sums over the squares of a grid.
use Rattle.std.proofs.Common.{◌≡◌, ◌⊎◌, inl, inr, ℕ, zero, suc, ◌+◌, ◌*◌, ◌-◌, ◌<◌, ◌≤◌, min, max, refl, ap, ap₂, sym, ◌∙◌, subst, arith}
use Rattle.std.proofs.Math.Nat.{add-mul, mul_comm, mul-one, suc-mul}
use Rattle.std.proofs.lemmas.Bool.{cases_lt}

-- f 0 and so on, up to f (n - 1), together
abbrev pub total : ℕ → (ℕ → ℕ) → ℕ
total zero f = 0
total (suc n) f = total n f + f n

pub total-same : (n : ℕ) (f g : ℕ → ℕ) → ((i : ℕ) → i < n → f i ≡ g i) → total n f ≡ total n g
total-same zero f g same = refl
total-same (suc n) f g same = ap₂ (λ a b. a + b) (total-same n f g (λ i less. same i (omega (arith, less)))) (same n (omega arith))

pub total-add : (n : ℕ) (f g : ℕ → ℕ) → total n (λ i. f i + g i) ≡ total n f + total n g
total-add zero f g = refl
total-add (suc n) f g = let rest = total-add n f g in omega (arith, rest)

pub total-none : (n : ℕ) → total n (λ i. 0) ≡ 0
total-none zero = refl
total-none (suc n) = let rest = total-none n in omega (arith, rest)

-- a factor
pub total-times : (n : ℕ) (f : ℕ → ℕ) (k : ℕ) → total n (λ i. f i * k) ≡ total n f * k
total-times zero f k = omega arith
total-times (suc n) f k = let rest = total-times n f k in let sum = add-mul (total n f) (f n) k in omega (arith, rest, sum)

-- ---- numbers that aren't above a bound

module _ (f : ℕ → ℕ) (k : ℕ) where
  pub total-bounded : (n : ℕ) → ((i : ℕ) → i < n → f i ≤ k) → total n f ≤ n * k
  total-bounded zero upto = omega arith
  total-bounded (suc n) upto =
      let rest = total-bounded n (λ i less. upto i (omega (arith, less))) in
      let last = upto n (omega arith) in
      let times = suc-mul n k in
      omega (arith, rest, last, times)

  pub total-const : (n : ℕ) → ((i : ℕ) → i < n → f i ≡ k) → total n f ≡ n * k
  total-const zero all = omega arith
  total-const (suc n) all =
      let rest = total-const n (λ i less. all i (omega (arith, less))) in
      let last = all n (omega arith) in
      let times = suc-mul n k in
      omega (arith, rest, last, times)

  -- where they come to as much as they can, each is the bound
  pub total-full : (n : ℕ) → ((i : ℕ) → i < n → f i ≤ k) → total n f ≡ n * k → (i : ℕ) → i < n → f i ≡ k
  total-full zero upto full i less = absurd (omega (arith, less))
  total-full (suc n) upto full i less =
      let before : (j : ℕ) → j < n → f j ≤ k = λ j inside. upto j (omega (arith, inside)) in
      let rest = total-bounded n before in
      let last = upto n (omega arith) in
      let times = suc-mul n k in
      elim (cases_lt i n) [
        | inl inside ↦ total-full n before (omega (arith, full, rest, last, times)) i inside
        | inr from ↦ (let is : n ≡ i = omega (arith, less, from) in subst (λ (j : ℕ). f j ≡ k) is (omega (arith, full, rest, last, times)))
      ]

-- ---- numbers from one on, and before another

pub record IsFrom (p q i : ℕ) : Type 0 where
  pub from : p ≤ i
  pub before : i < q

-- 1 for them, else 0
abbrev pub spans : ℕ → ℕ → ℕ → ℕ
spans p q i = min q (i + 1) - max p i

pub spans-cases : (p q i : ℕ) → (IsFrom p q i × (spans p q i ≡ 1)) ⊎ ((¬ (IsFrom p q i)) × (spans p q i ≡ 0))
spans-cases p q i = elim (cases_lt i p) [
  | inl below ↦ inr ((λ is. let from = is.from in omega (arith, below, from)), omega (arith, below))
  | inr from ↦ elim (cases_lt i q) [
    | inl before ↦ inl (record { from = from; before = before }, omega (arith, from, before))
    | inr past ↦ inr ((λ is. let before = is.before in omega (arith, past, before)), omega (arith, past))
  ]
]

spans-upto : (p q n : ℕ) → p ≤ q → total n (λ i. spans p q i) + min n p ≡ min n q
spans-upto p q zero order = omega arith
spans-upto p q (suc n) order = let rest = spans-upto p q n order in omega (arith, order, rest)

pub spans-total : (p q n : ℕ) → p ≤ q → q ≤ n → total n (λ i. spans p q i) + p ≡ q
spans-total p q n order within = let all = spans-upto p q n order in omega (arith, order, within, all)

-- a grid's sum of products is a product of sums
pub total-product : (m n : ℕ) (f g : ℕ → ℕ) → total m (λ i. total n (λ j. f i * g j)) ≡ total m f * total n g
total-product m n f g =
    total-same m (λ i. total n (λ j. f i * g j)) (λ i. f i * total n g) (λ i _. row i) ∙ total-times m f (total n g)
  where
    row : (i : ℕ) → total n (λ j. f i * g j) ≡ f i * total n g
    row i = total-same n (λ j. f i * g j) (λ j. g j * f i) (λ j _. mul_comm (f i) (g j)) ∙ total-times n g (f i) ∙ mul_comm (total n g) (f i)

-- ---- squares of a grid

-- where none counts for more than 1, and all for as many as they are, each counts for 1
module _ (m n : ℕ) (f : ℕ → ℕ → ℕ) where
  pub squares-full : ((i j : ℕ) → i < m → j < n → f i j ≤ 1) → total m (λ i. total n (λ j. f i j)) ≡ m * n → (i j : ℕ) → i < m → j < n → f i j ≡ 1
  squares-full upto full i j across up =
      total-full (λ j'. f i j') 1 n (λ j' less. upto i j' across less)
      (total-full (λ i'. total n (λ j'. f i' j')) (n * 1) m (λ i' less. total-bounded (λ j'. f i' j') 1 n (λ j' inside. upto i' j' less inside)) (full ∙ ap (λ k. m * k) (sym (mul-one n))) i across)
      j up

  pub squares-all : ((i j : ℕ) → i < m → j < n → f i j ≡ 1) → total m (λ i. total n (λ j. f i j)) ≡ m * n
  squares-all all =
      total-const (λ i. total n (λ j. f i j)) (n * 1) m (λ i less. total-const (λ j. f i j) 1 n (λ j inside. all i j less inside))
      ∙ ap (λ k. m * k) (mul-one n)
