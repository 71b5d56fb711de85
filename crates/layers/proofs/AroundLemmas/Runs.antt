-- Chains that stand shape by shape: the run of one shape behind those of the shapes before it.
use Rattle.std.proofs.Common.{◌≡◌, ◌≢◌, ◌⊎◌, inl, inr, ℕ, ◌+◌, ◌-◌, ◌<◌, ◌≤◌, Some, List, ◌++◌, length, get_or, take, drop, MatchOption, sym, subst, ap, ap₂, ◌∙◌, append-nil, arith}
use Rattle.std.specs.List.{All, AllPairs, slice_get}
use Rattle.std.specs.Prelude.{⊤}
use Rattle.std.proofs.lemmas.Bool.{cases_lt}
use Rattle.std.proofs.lemmas.List.{get_or-drop, get_or-take, length-drop, length-take}
use Rattle.std.proofs.lemmas.Option.{slice_get-get_or}
use Rattle.std.proofs.Math.Seq.{take-add}
use Rattle.plane.specs.declared.edge.Edge.{Edge}
use Rattle.plane.specs.Pairs.Points.{Gains}
use Rattle.plane.proofs.PairsLemmas.Points.{Gains-then}
use Rattle.overlay.specs.declared.fill.rules.FillRule.{FillRule}
use Rattle.layers.specs.Chains.{LiesAmong, LiesInChains, edges_in, edges_of_chains}
use Rattle.layers.specs.declared.around.chains.Chain.{Chain}
use Rattle.layers.specs.declared.around.placed.Placed.{Placed}
use Rattle.layers.specs.declared.points.Border.{Border}
use Rattle.layers.proofs.AroundLemmas.Groups.{LiesAmong-none, edges_in-append, edges_in-of, edges_in-other, no_chain}

-- the chains before this place are of shapes before those behind it
abbrev pub IsCut : List Chain → ℕ → Type 0
IsCut chains place = (k j : ℕ) (d e : Chain) → k < place → place ≤ j → j < length chains → (get_or chains k d).shape < (get_or chains j e).shape

pub same_or_not : (i j : ℕ) → (i ≡ j) ⊎ (i ≢ j)
same_or_not i j = elim (cases_lt i j) [
  | inl below ↦ inr (λ same. omega (arith, below, same))
  | inr upto ↦ elim (cases_lt j i) [
    | inl above ↦ inr (λ same. omega (arith, above, same))
    | inr low ↦ inl (omega (arith, upto, low))
  ]
]

module _ (chains : List Chain) (sorted : AllPairs (λ chain later. chain.shape ≤ later.shape) chains) (start count shape : ℕ) (inside : start < length chains) (within : start + count ≤ length chains)
    (first : (get_or chains start no_chain).shape ≡ shape) (all : All (λ chain. chain.shape ≡ shape) (take count (drop start chains)))
    (next : MatchOption (slice_get (drop start chains) count) ⊤ (λ chain. chain.shape ≢ shape)) (cut : IsCut chains start) where
  -- the chains of the shape
  abbrev run : List Chain
  run = take count (drop start chains)

  -- there is one at least
  pub some_of_run : 0 < count
  some_of_run = elim (cases_lt 0 count) [
    | inl some ↦ some
    | inr none ↦
        let zero : count ≡ 0 = omega (arith, none) in
        let size = length-drop start chains in
        let stands : slice_get (drop start chains) count ≡ Some (get_or (drop start chains) count no_chain) = slice_get-get_or (drop start chains) count no_chain (omega (arith, inside, zero, size)) in
        let other : (get_or (drop start chains) count no_chain).shape ≢ shape = subst (λ o. MatchOption o ⊤ (λ chain. chain.shape ≢ shape)) stands next in
        absurd (other (ap (λ (c : Chain). c.shape) (get_or-drop start chains count no_chain ∙ ap (λ (k : ℕ). get_or chains k no_chain) (let same : start + count ≡ start = omega (arith, zero) in same)) ∙ first))
  ]

  in_run : (k : ℕ) (d : Chain) → start ≤ k → k < start + count → (get_or chains k d).shape ≡ shape
  in_run k d from upto =
      let j = k - start in
      let is : start + j ≡ k = omega (arith, from) in
      let size = length-take count (drop start chains) in
      let rest = length-drop start chains in
      let there = all j d (omega (arith, from, upto, size, rest, within)) in
      ap (λ (c : Chain). c.shape) (ap (λ (n : ℕ). get_or chains n d) (sym is) ∙ sym (get_or-drop start chains j d) ∙ sym (get_or-take count (drop start chains) j d (omega (arith, from, upto)))) ∙ there

  behind_run : (j : ℕ) (e : Chain) → start + count ≤ j → j < length chains → shape < (get_or chains j e).shape
  behind_run j e from upto =
      let size = length-drop start chains in
      let stands = slice_get-get_or (drop start chains) count e (omega (arith, from, upto, size)) in
      let other : (get_or (drop start chains) count e).shape ≢ shape = subst (λ o. MatchOption o ⊤ (λ chain. chain.shape ≢ shape)) stands next in
      let at = get_or-drop start chains count e in
      let differs : (get_or chains (start + count) e).shape ≢ shape = λ same. other (ap (λ (c : Chain). c.shape) at ∙ same) in
      let low = sorted start (start + count) e (omega (arith, some_of_run)) (omega (arith, from, upto)) in
      let here : (get_or chains start e).shape ≡ shape = in_run start e (omega arith) (omega (arith, some_of_run)) in
      let above : shape < (get_or chains (start + count) e).shape = elim (cases_lt shape (get_or chains (start + count) e).shape) [
        | inl less ↦ less
        | inr upto ↦ absurd (differs (omega (arith, upto, low, here)))
      ] in
      elim (cases_lt (start + count) j) [
        | inl before ↦ let order = sorted (start + count) j e before upto in omega (arith, above, order)
        | inr low ↦
            let same : start + count ≡ j = omega (arith, low, from) in
            subst (λ (n : ℕ). shape < (get_or chains n e).shape) same above
      ]

  -- behind it the chains are cut again
  pub cut-more : IsCut chains (start + count)
  cut-more k j d e before from upto = elim (cases_lt k start) [
    | inl early ↦ cut k j d e early (omega (arith, from)) upto
    | inr late ↦
        let own = in_run k d late before in
        let above = behind_run j e from upto in
        omega (arith, own, above)
  ]

  -- the chains before it are of others
  before-other : All (λ chain. chain.shape ≢ shape) (take start chains)
  before-other k d upto same =
      let size = length-take start chains in
      let early : k < start = omega (arith, upto, size) in
      let less = cut k start d no_chain early (omega arith) inside in
      let at : (get_or chains k d).shape ≡ shape = ap (λ (c : Chain). c.shape) (sym (get_or-take start chains k d early)) ∙ same in
      omega (arith, less, at, first)

  split : take (start + count) chains ≡ take start chains ++ run
  split = take-add start count chains

  edges-here : edges_in shape (take (start + count) chains) ≡ edges_of_chains run
  edges-here =
      ap (edges_in shape) split ∙ edges_in-append shape (take start chains) run
      ∙ ap₂ (λ (xs ys : List Edge). xs ++ ys) (edges_in-other shape (take start chains) before-other) (edges_in-of shape run all)

  edges-there : (other : ℕ) → other ≢ shape → edges_in other (take (start + count) chains) ≡ edges_in other (take start chains)
  edges-there other differ =
      ap (edges_in other) split ∙ edges_in-append other (take start chains) run
      ∙ ap (λ (ys : List Edge). edges_in other (take start chains) ++ ys) (edges_in-other other run (λ k d upto same. differ (sym same ∙ all k d upto)))
      ∙ append-nil (edges_in other (take start chains))

  -- what is gained of it
  pub Gains-run : (rule : FillRule) (border : Border) (group : List Placed) (before now after : List (ℕ × ℕ)) → Gains (LiesInChains rule border group (take start chains)) before now
      → Gains (λ i j. (j ≡ shape) × LiesAmong rule border group (edges_of_chains run) i) now after → Gains (LiesInChains rule border group (take (start + count) chains)) before after
  Gains-run rule border group before now after gained more =
      Gains-then (LiesInChains rule border group (take start chains)) (λ i j. (j ≡ shape) × LiesAmong rule border group (edges_of_chains run) i) (LiesInChains rule border group (take (start + count) chains))
      (λ i j lies (is, _). LiesAmong-none rule border group i (subst (λ (edges : List Edge). LiesAmong rule border group edges i) (ap (λ (n : ℕ). edges_in n (take start chains)) is ∙ edges_in-other shape (take start chains) before-other) lies))
      (λ i j. (
        λ lies. elim (same_or_not j shape) [
          | inl is ↦ inr (is, subst (λ (edges : List Edge). LiesAmong rule border group edges i) (ap (λ (n : ℕ). edges_in n (take (start + count) chains)) is ∙ edges-here) lies)
          | inr differ ↦ inl (subst (λ (edges : List Edge). LiesAmong rule border group edges i) (edges-there j differ) lies)
        ],
        λ either. elim either [
          | inl lies ↦ elim (same_or_not j shape) [
            | inl is ↦ absurd (LiesAmong-none rule border group i (subst (λ (edges : List Edge). LiesAmong rule border group edges i) (ap (λ (n : ℕ). edges_in n (take start chains)) is ∙ edges_in-other shape (take start chains) before-other) lies))
            | inr differ ↦ subst (λ (edges : List Edge). LiesAmong rule border group edges i) (sym (edges-there j differ)) lies
          ]
          | inr own ↦ subst (λ (edges : List Edge). LiesAmong rule border group edges i) (sym (ap (λ (n : ℕ). edges_in n (take (start + count) chains)) own.0 ∙ edges-here)) own.1
        ],
      ))
      before now after gained more
