-- Trees that are joined by one edge more.
use Rattle.std.proofs.Common.{◌≡◌, ◌≢◌, ◌⊎◌, inl, inr, ◌<◌, ◌≤◌, ◌+◌, ℕ, zero, suc, Bool, true, false, cond, not, eqb, List, get_or, set, length, refl, ap, ap₂, sym, subst, ◌∙◌, arith}
use Rattle.std.proofs.lemmas.List.{get_or-set_other, get_or-set_same, length-set}
use Rattle.std.proofs.lemmas.Bool.{eqb-false, eqb-true}
use Rattle.forest.specs.Circles.{Parts, PartsAmong, ends_at}
use Rattle.forest.specs.Trees.{HasJoined, IsAlong, parent_of}

-- ---- tests as numbers

abbrev number : Bool → ℕ
number test = cond test 1 0

number-same : (a b : Bool) → number a ≡ number b → a ≡ b
number-same true true e = refl
number-same false false e = refl
number-same true false e = absurd (omega (arith, e))
number-same false true e = absurd (omega (arith, e))

-- the one is another as often as two others differ
abbrev turn : Bool → Bool → Bool → Bool
turn a b x = cond a (cond b x (not x)) (cond b (not x) x)

turn-first : (a b : Bool) → turn a b a ≡ b
turn-first true true = refl
turn-first true false = refl
turn-first false true = refl
turn-first false false = refl

turn-second : (a b : Bool) → turn a b b ≡ a
turn-second true true = refl
turn-second true false = refl
turn-second false true = refl
turn-second false false = refl

turn-apart : (a b x y : Bool) → x ≢ y → turn a b x ≢ turn a b y
turn-apart true true x y apart = apart
turn-apart false false x y apart = apart
turn-apart true false true true apart = λ _. apart refl
turn-apart true false false false apart = λ _. apart refl
turn-apart true false true false apart = λ h. cc
turn-apart true false false true apart = λ h. cc
turn-apart false true true true apart = λ _. apart refl
turn-apart false true false false apart = λ _. apart refl
turn-apart false true true false apart = λ h. cc
turn-apart false true false true apart = λ h. cc

eqb-same : (n : ℕ) → eqb n n ≡ true
eqb-same n = by (eqb n n) refl
  where
    by : (t : Bool) → eqb n n ≡ t → t ≡ true
    by true e = refl
    by false e = absurd (eqb-false n n e refl)

eqb-apart : (n m : ℕ) → n ≢ m → eqb n m ≡ false
eqb-apart n m apart = by (eqb n m) refl
  where
    by : (t : Bool) → eqb n m ≡ t → t ≡ false
    by false e = refl
    by true e = absurd (apart (eqb-true n m e))

-- ---- nothing is joined

pub HasJoined-none : (edges : List (ℕ × ℕ)) (parents : List ℕ) → ((k : ℕ) → k < length parents → parent_of parents k ≡ k) → HasJoined edges 0 parents
HasJoined-none edges parents alone = record {
  joined = λ label _ k within. ap label (alone k within);
  label = λ k. k;
  alike = λ k below. absurd (omega (arith, below));
  along = λ k within. alone k within;
  roots = λ k within _. refl;
  parts = λ k below. absurd (omega (arith, below));
}

module _ (edges : List (ℕ × ℕ)) (count : ℕ) (parents : List ℕ) (has : HasJoined edges count parents) where
  abbrev first : ℕ
  first = (ends_at edges count).0

  abbrev second : ℕ
  second = (ends_at edges count).1

  -- ---- an edge within one tree

  -- where both ends have one root the edges so far lead from one to the other
  pub joined-already : count < length edges → (one : ℕ) → ((label : ℕ → ℕ) → IsAlong parents label → label one ≡ label first) → ((label : ℕ → ℕ) → IsAlong parents label → label one ≡ label second) → ¬ (Parts edges count)
  joined-already within one to_first to_second (side, alike, apart) =
      let along = has.joined (λ k. number (side k)) (λ k below. ap number (alike k (omega (arith, below, within)) (λ same. omega (arith, same, below)))) in
      apart (number-same (side first) (side second) (sym (to_first (λ k. number (side k)) along) ∙ to_second (λ k. number (side k)) along))

  -- ---- an edge between two trees

  module _ (one other : ℕ) (one_in : one < length parents) (other_in : other < length parents) (apart : one ≢ other) (root : parent_of parents one ≡ one) (other_root : parent_of parents other ≡ other)
      (ends : ((label : ℕ → ℕ) → IsAlong parents label → (label one ≡ label first) × (label other ≡ label second)) ⊎ ((label : ℕ → ℕ) → IsAlong parents label → (label one ≡ label second) × (label other ≡ label first))) where
    -- the labels of both ends are the roots
    labels : ((has.label first ≡ one) × (has.label second ≡ other)) ⊎ ((has.label first ≡ other) × (has.label second ≡ one))
    labels = elim ends [
      | inl told ↦ let (a, b) = told has.label has.along in inl (sym a ∙ has.roots one one_in root, sym b ∙ has.roots other other_in other_root)
      | inr told ↦ let (a, b) = told has.label has.along in inr (sym b ∙ has.roots other other_in other_root, sym a ∙ has.roots one one_in root)
    ]

    -- the new labels
    relabelled : ℕ → ℕ
    relabelled k = cond (eqb (has.label k) one) other (has.label k)

    relabelled-one : (k : ℕ) → has.label k ≡ one → cond (eqb (has.label k) one) other (has.label k) ≡ other
    relabelled-one k is = ap (λ (t : Bool). cond t other (has.label k)) (ap (λ (n : ℕ). eqb n one) is ∙ eqb-same one)

    relabelled-other : (k : ℕ) → has.label k ≢ one → cond (eqb (has.label k) one) other (has.label k) ≡ has.label k
    relabelled-other k not_one = ap (λ (t : Bool). cond t other (has.label k)) (eqb-apart (has.label k) one not_one)

    relabelled-both : (k : ℕ) → (has.label k ≡ one) ⊎ (has.label k ≡ other) → cond (eqb (has.label k) one) other (has.label k) ≡ other
    relabelled-both k (inl is) = relabelled-one k is
    relabelled-both k (inr is) = relabelled-other k (λ same. apart (sym same ∙ is)) ∙ is

    -- one more, or those before
    upto : (k : ℕ) → k < count + 1 → (k < count) ⊎ (k ≡ count)
    upto k below = by (eqb k count) refl
      where
        by : (t : Bool) → eqb k count ≡ t → (k < count) ⊎ (k ≡ count)
        by true e = inr (eqb-true k count e)
        by false e = let apart = eqb-false k count e in inl (omega (arith, below, apart))

    alike-now : (k : ℕ) → k < count + 1 → cond (eqb (has.label (ends_at edges k).0) one) other (has.label (ends_at edges k).0) ≡ cond (eqb (has.label (ends_at edges k).1) one) other (has.label (ends_at edges k).1)
    alike-now k below = elim (upto k below) [
      | inl before ↦ ap (λ (n : ℕ). cond (eqb n one) other n) (has.alike k before)
      | inr is ↦ subst (λ (n : ℕ). cond (eqb (has.label (ends_at edges n).0) one) other (has.label (ends_at edges n).0) ≡ cond (eqb (has.label (ends_at edges n).1) one) other (has.label (ends_at edges n).1)) (sym is) here
    ]
      where
        here : cond (eqb (has.label first) one) other (has.label first) ≡ cond (eqb (has.label second) one) other (has.label second)
        here = elim labels [
          | inl (a, b) ↦ relabelled-both first (inl a) ∙ sym (relabelled-both second (inr b))
          | inr (a, b) ↦ relabelled-both first (inr a) ∙ sym (relabelled-both second (inl b))
        ]

    -- the parent of each node now
    parent-now : (k : ℕ) → k < length parents → (k ≡ one) × (parent_of (set parents one other) k ≡ other) ⊎ (k ≢ one) × (parent_of (set parents one other) k ≡ parent_of parents k)
    parent-now k within = by (eqb k one) refl
      where
        by : (t : Bool) → eqb k one ≡ t → (k ≡ one) × (parent_of (set parents one other) k ≡ other) ⊎ (k ≢ one) × (parent_of (set parents one other) k ≡ parent_of parents k)
        by true e = let is = eqb-true k one e in inl (is, subst (λ (n : ℕ). parent_of (set parents one other) n ≡ other) (sym is) (get_or-set_same parents one other 0 one_in))
        by false e = let apart_from = eqb-false k one e in inr (apart_from, get_or-set_other parents one k other 0 apart_from)

    same-length : length (set parents one other) ≡ length parents
    same-length = length-set parents one other

    -- the labels of what the edges so far and this one join are those of the new parents
    joined-now : (label : ℕ → ℕ) → ((k : ℕ) → k < count + 1 → label (ends_at edges k).0 ≡ label (ends_at edges k).1) → IsAlong (set parents one other) label
    joined-now label alike k within =
        let old = has.joined label (λ j below. alike j (omega (arith, below))) in
        let across = alike count (omega arith) in
        let met : label other ≡ label one = elim ends [
          | inl told ↦ let (a, b) = told label old in b ∙ sym across ∙ sym a
          | inr told ↦ let (a, b) = told label old in b ∙ across ∙ sym a
        ] in
        let size = same-length in
        elim (parent-now k (omega (arith, within, size))) [
          | inl (is, now) ↦ ap label now ∙ met ∙ ap label (sym is)
          | inr (_, same) ↦ ap label same ∙ old k (omega (arith, within, size))
        ]

    along-now : IsAlong (set parents one other) (λ k. cond (eqb (has.label k) one) other (has.label k))
    along-now k within =
        let size = same-length in
        elim (parent-now k (omega (arith, within, size))) [
          | inl (is, now) ↦
              ap (λ (n : ℕ). cond (eqb (has.label n) one) other (has.label n)) now
              ∙ relabelled-both other (inr (has.roots other other_in other_root))
              ∙ sym (relabelled-both k (inl (ap has.label is ∙ has.roots one one_in root)))
          | inr (_, same) ↦
              ap (λ (n : ℕ). cond (eqb (has.label n) one) other (has.label n)) same
              ∙ ap (λ (n : ℕ). cond (eqb n one) other n) (has.along k (omega (arith, within, size)))
        ]

    roots-now : (k : ℕ) → k < length (set parents one other) → parent_of (set parents one other) k ≡ k → cond (eqb (has.label k) one) other (has.label k) ≡ k
    roots-now k within own =
        let size = same-length in
        elim (parent-now k (omega (arith, within, size))) [
          | inl (is, now) ↦ absurd (apart (sym is ∙ sym own ∙ now))
          | inr (differs, same) ↦
              let label = has.roots k (omega (arith, within, size)) (sym same ∙ own) in
              relabelled-other k (λ is. differs (sym label ∙ is)) ∙ label
        ]

    -- the edge parts its ends
    parts-last : PartsAmong edges (count + 1) count
    parts-last = (
      λ k. eqb (has.label k) one,
      λ k below other_one. elim (upto k below) [
        | inl before ↦ ap (λ (n : ℕ). eqb n one) (has.alike k before)
        | inr is ↦ absurd (other_one is)
      ],
      elim labels [
        | inl (a, b) ↦ λ same. differ (sym (ap (λ (n : ℕ). eqb n one) a ∙ eqb-same one) ∙ same ∙ ap (λ (n : ℕ). eqb n one) b ∙ eqb-apart other one (λ is. apart (sym is)))
        | inr (a, b) ↦ λ same. differ (sym (ap (λ (n : ℕ). eqb n one) b ∙ eqb-same one) ∙ sym same ∙ ap (λ (n : ℕ). eqb n one) a ∙ eqb-apart other one (λ is. apart (sym is)))
      ],
    )
      where
        differ : true ≡ false → ⊥
        differ h = cc

    -- and each one before does so still: where the side of one end of the new one differs from that of the other, all in the tree of
    -- the one change their side
    abbrev flipped : (ℕ → Bool) → ℕ → Bool
    flipped side k = cond (eqb (has.label k) one) (turn (side first) (side second) (side k)) (side k)

    parts-before : (place : ℕ) → place < count → PartsAmong edges (count + 1) place
    parts-before place before = by (has.parts place before)
      where
        by : PartsAmong edges count place → PartsAmong edges (count + 1) place
        by (side, alike, apart_there) = (
          λ k. cond (eqb (has.label k) one) (turn (side first) (side second) (side k)) (side k),
          λ k below differs. elim (upto k below) [
            | inl within ↦ kept k within (alike k within differs)
            | inr is ↦ subst (λ (n : ℕ). flipped side (ends_at edges n).0 ≡ flipped side (ends_at edges n).1) (sym is) crossed
          ],
          parted (eqb (has.label (ends_at edges place).0) one) (eqb (has.label (ends_at edges place).1) one) (ap (λ (n : ℕ). eqb n one) (has.alike place before)),
        )
          where
            never : true ≡ false → ⊥
            never h = cc

            kept : (k : ℕ) → k < count → side (ends_at edges k).0 ≡ side (ends_at edges k).1 → flipped side (ends_at edges k).0 ≡ flipped side (ends_at edges k).1
            kept k within same = ap₂ (λ (n : ℕ) (s : Bool). cond (eqb n one) (turn (side first) (side second) s) s) (has.alike k within) same

            turned-at : (k : ℕ) → has.label k ≡ one → flipped side k ≡ turn (side first) (side second) (side k)
            turned-at k is = ap (λ (t : Bool). cond t (turn (side first) (side second) (side k)) (side k)) (ap (λ (n : ℕ). eqb n one) is ∙ eqb-same one)

            still-at : (k : ℕ) → has.label k ≡ other → flipped side k ≡ side k
            still-at k is = ap (λ (t : Bool). cond t (turn (side first) (side second) (side k)) (side k)) (ap (λ (n : ℕ). eqb n one) is ∙ eqb-apart other one (λ same. apart (sym same)))

            crossed : flipped side first ≡ flipped side second
            crossed = elim labels [
              | inl (a, b) ↦ turned-at first a ∙ turn-first (side first) (side second) ∙ sym (still-at second b)
              | inr (a, b) ↦ still-at first a ∙ sym (turn-second (side first) (side second)) ∙ sym (turned-at second b)
            ]

            parted : (s t : Bool) → s ≡ t
                → cond s (turn (side first) (side second) (side (ends_at edges place).0)) (side (ends_at edges place).0)
                ≡ cond t (turn (side first) (side second) (side (ends_at edges place).1)) (side (ends_at edges place).1) → ⊥
            parted true true e = turn-apart (side first) (side second) (side (ends_at edges place).0) (side (ends_at edges place).1) apart_there
            parted false false e = apart_there
            parted true false e = absurd (never e)
            parted false true e = absurd (never (sym e))

    pub HasJoined-more : HasJoined edges (count + 1) (set parents one other)
    HasJoined-more = record {
      joined = joined-now;
      label = λ k. cond (eqb (has.label k) one) other (has.label k);
      alike = alike-now;
      along = along-now;
      roots = roots-now;
      parts = λ k below. elim (upto k below) [
        | inl before ↦ parts-before k before
        | inr is ↦ subst (λ (n : ℕ). PartsAmong edges (count + 1) n) (sym is) parts-last
      ];
    }
