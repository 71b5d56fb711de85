-- The least of finitely many fractions.
use Rattle.std.proofs.Common.{List, [], ◌∷◌, arith, pos, subst, suc, zero, ℤ, ◌*ℤ◌, ◌<ℤ◌, ◌≤ℤ◌}
use Rattle.std.specs.Prelude.{Contains}
use Rattle.std.proofs.lemmas.Int.{by_lt_z, ints}
use Rattle.i_tree.proofs.RootLemmas.Lists.{Contains-here, Contains-there}
use Rattle.offset.proofs.CoverLemmas.Numbers.{fractions-most}

-- A fraction for each item of which there is some evidence: over / under, where what it is under is positive.
pub record Measure (X : Type 0) (P : X → Type 0) : Type 0 where
  pub over : (x : X) → P x → ℤ
  pub under : (x : X) → P x → ℤ
  pub positive : (x : X) (p : P x) → pos 0 <ℤ under x p

-- The fraction of the one is at most that of the other.
abbrev pub IsMost : (X : Type 0) (P : X → Type 0) → Measure X P → (x : X) → P x → (other : X) → P other → Type 0
IsMost X P m x p other q = (m.over x p *ℤ m.under other q) ≤ℤ (m.over other q *ℤ m.under x p)

-- An item of the list, with the fraction of which each other's isn't less.
pub record HasLeast (X : Type 0) (P : X → Type 0) (m : Measure X P) (items : List X) : Type 0 where
  pub item : X
  pub evidence : P item
  pub among : Contains items item
  pub least : (other : X) → Contains items other → (q : P other) × IsMost X P m item evidence other q

-- of one item
least-one : (X : Type 0) (P : X → Type 0) (m : Measure X P) (x : X) → P x → HasLeast X P m (x ∷ [])
least-one X P m x p = record {
  item = x;
  evidence = p;
  among = Contains-here x [];
  least = is;
}
  where
    same : IsMost X P m x p x p
    same = omega (arith, ints)

    is : (other : X) → Contains (x ∷ []) other → (q : P other) × IsMost X P m x p other q
    is other (zero, inside, at) = subst (λ (o : X). (q : P o) × IsMost X P m x p o q) at (p, same)
    is other (suc k, inside, at) = absurd (omega (arith, inside))

-- of one more, which is less than the least, or isn't
least-less : (X : Type 0) (P : X → Type 0) (m : Measure X P) (x : X) (others : List X) (p : P x) (found : HasLeast X P m others) → IsMost X P m x p found.item found.evidence → HasLeast X P m (x ∷ others)
least-less X P m x others p found less = record {
  item = x;
  evidence = p;
  among = Contains-here x others;
  least = is;
}
  where
    same : IsMost X P m x p x p
    same = omega (arith, ints)

    is : (other : X) → Contains (x ∷ others) other → (q : P other) × IsMost X P m x p other q
    is other (zero, inside, at) = subst (λ (o : X). (q : P o) × IsMost X P m x p o q) at (p, same)
    is other (suc k, inside, at) =
        let (q, most) = found.least other (k, omega (arith, inside), at) in
        (q, fractions-most (m.over x p) (m.under x p) (m.over found.item found.evidence) (m.under found.item found.evidence) (m.over other q) (m.under other q) (m.positive x p) (m.positive found.item found.evidence) (m.positive other q) less most)

least-more : (X : Type 0) (P : X → Type 0) (m : Measure X P) (x : X) (others : List X) (p : P x) (found : HasLeast X P m others) → IsMost X P m found.item found.evidence x p → HasLeast X P m (x ∷ others)
least-more X P m x others p found more = record {
  item = found.item;
  evidence = found.evidence;
  among = Contains-there x others found.item found.among;
  least = is;
}
  where
    is : (other : X) → Contains (x ∷ others) other → (q : P other) × IsMost X P m found.item found.evidence other q
    is other (zero, inside, at) = subst (λ (o : X). (q : P o) × IsMost X P m found.item found.evidence o q) at (p, more)
    is other (suc k, inside, at) = found.least other (k, omega (arith, inside), at)

least-next : (X : Type 0) (P : X → Type 0) (m : Measure X P) (x : X) (others : List X) → P x → HasLeast X P m others → HasLeast X P m (x ∷ others)
least-next X P m x others p found =
    by_lt_z (m.over found.item found.evidence *ℤ m.under x p) (m.over x p *ℤ m.under found.item found.evidence)
    (λ less. least-more X P m x others p found (omega (arith, ints, less)))
    (λ most. least-less X P m x others p found most)

-- A list with an item has a least one.
pub has-least : (X : Type 0) (P : X → Type 0) (m : Measure X P) (items : List X) → ((x : X) → Contains items x → P x) → (some : X) → Contains items some → HasLeast X P m items
has-least X P m [] each some (k, inside, at) = absurd (omega (arith, inside))
has-least X P m (x ∷ []) each some among = least-one X P m x (each x (Contains-here x []))
has-least X P m (x ∷ next ∷ others) each some among =
    least-next X P m x (next ∷ others) (each x (Contains-here x (next ∷ others)))
    (has-least X P m (next ∷ others) (λ y there. each y (Contains-there x (next ∷ others) y there)) next (Contains-here next others))
