-- The edges of chains by their shapes, and which points of a group lie in a shape.
use Rattle.std.proofs.Common.{Bool, true, false, cond, ◌||◌, ◌==◌, ◌≡◌, ◌≢◌, ◌↔◌, ◌⊎◌, inl, inr, ℕ, zero, suc, ◌+◌, ◌*◌, ◌<◌, ◌≤◌, pos, ◌+ℤ◌, List, [], ◌∷◌, ◌++◌, length, get_or, take, refl, sym, subst, ap, ◌∙◌, append-nil, eq-eqb, arith}
use Rattle.std.specs.List.{All, Contains, filter}
use Rattle.std.proofs.lemmas.Bool.{eqb-true, false_from_ne_true}
use Rattle.std.proofs.lemmas.List.{get_or-take, get_or_default, length-append, length-take, take_more}
use Rattle.std.proofs.lemmas.List.Concat.{flat_map-append}
use Rattle.std.proofs.lemmas.List.Elements.{All-head, All-tail, All-weaker, Contains-append_cases, Contains-append_left, Contains-append_right, filter-append}
use Rattle.i_tree.proofs.RootLemmas.Lists.{filter_all}
use Rattle.plane.specs.declared.edge.Edge.{Edge}
use Rattle.plane.specs.Meet.Edges.{RationalPoint}
use Rattle.plane.specs.Pairs.Points.{Gains}
use Rattle.plane.proofs.PairsLemmas.Points.{Gains-then}
use Rattle.overlay.specs.declared.fill.rules.FillRule.{FillRule}
use Rattle.overlay.specs.declared.fill.rules.FillRule.TheVariants.{EvenOdd, Negative, NonZero, Positive}
use Rattle.overlay.specs.Fill.Rules.{is_inside}
use Rattle.noding.specs.Windings.{winding}
use Rattle.layers.specs.Around.{IsOn, IsOnAny, LiesIn, halved}
use Rattle.layers.specs.Chains.{AreApart, AreSameAround, IsAround, IsBounded, LiesAmong, chain_edges, edges_in, edges_of_chains, is_in}
use Rattle.layers.specs.declared.around.chains.Chain.{Chain}
use Rattle.layers.specs.declared.around.placed.Placed.{Placed}
use Rattle.layers.specs.declared.around.turns.Around.{Around}
use Rattle.layers.specs.declared.points.Border.{Border}
use Rattle.layers.specs.declared.points.Border.TheVariants.{Closed, HalfOpen, Open}
use Rattle.layers.proofs.AroundLemmas.Chains.{length-pieces}
use Rattle.layers.proofs.AroundLemmas.Lists.{Any-none}
use Rattle.layers.proofs.AroundLemmas.Rounds.{IsAround-append}

-- ---- edges of chains

pub edges-push : (chains : List Chain) (chain : Chain) → edges_of_chains (chains ++ chain ∷ []) ≡ edges_of_chains chains ++ chain_edges chain
edges-push chains chain =
    flat_map-append chain_edges chains (chain ∷ []) ∙ ap (λ (edges : List Edge). edges_of_chains chains ++ edges) (append-nil (chain_edges chain))

-- there are sixteen times as many as chains at most
pub length-edges : (chains : List Chain) → All IsBounded chains → length (edges_of_chains chains) ≤ 16 * length chains
length-edges [] all = omega arith
length-edges (chain ∷ chains) all =
    let own = All-head IsBounded chain chains all in
    let few = own.few in
    let size = length-pieces chain.points.now chain.end in
    let rest = length-edges chains (All-tail IsBounded chain chains all) in
    let sum = length-append (chain_edges chain) (edges_of_chains chains) in
    omega (arith, few, size, rest, sum)

module _ (shape : ℕ) where
  abbrev is_of : Chain → Bool
  is_of chain = chain.shape == shape

  pub edges_in-append : (xs ys : List Chain) → edges_in shape (xs ++ ys) ≡ edges_in shape xs ++ edges_in shape ys
  edges_in-append xs ys = ap edges_of_chains (filter-append is_of xs ys) ∙ flat_map-append chain_edges (filter is_of xs) (filter is_of ys)

  -- of chains of this shape they are all
  pub edges_in-of : (chains : List Chain) → All (λ chain. chain.shape ≡ shape) chains → edges_in shape chains ≡ edges_of_chains chains
  edges_in-of chains all = ap edges_of_chains (filter_all is_of chains (All-weaker (λ chain. chain.shape ≡ shape) (λ chain. is_of chain ≡ true) (λ chain same. eq-eqb chain.shape shape same) chains all))

  -- of chains of others they are none
  pub edges_in-other : (chains : List Chain) → All (λ chain. chain.shape ≢ shape) chains → edges_in shape chains ≡ []
  edges_in-other [] all = refl
  edges_in-other (chain ∷ chains) all =
      let other = false_from_ne_true (is_of chain) (λ same. All-head (λ c. c.shape ≢ shape) chain chains all (eqb-true chain.shape shape same)) in
      ap (λ (t : Bool). edges_of_chains (cond t (chain ∷ filter is_of chains) (filter is_of chains))) other
      ∙ edges_in-other chains (All-tail (λ c. c.shape ≢ shape) chain chains all)

-- a chain, where any does
abbrev pub no_chain : Chain
no_chain = record {
  shape = 0;
  points = record { ref_ptr = (0, 0); now = [] };
  end = record { x = pos 0; y = pos 0 };
  bounds = record { left = pos 0; right = pos 0; low = pos 0; high = pos 0 };
}

-- what is told of chains, and of one more
pub IsAround-chains : (point : RationalPoint) (chains : List Chain) (k : ℕ) (one other both : Around) → k < length chains → IsAround point (edges_of_chains (take k chains)) one → IsAround point (chain_edges (get_or chains k no_chain)) other
    → both.turns ≡ one.turns +ℤ other.turns → both.touches ≡ (one.touches || other.touches) → IsAround point (edges_of_chains (take (k + 1) chains)) both
IsAround-chains point chains k one other both within is other_is turns touches =
    subst (λ (edges : List Edge). IsAround point edges both) (sym (ap edges_of_chains (take_more chains k no_chain within) ∙ edges-push (take k chains) (get_or chains k no_chain)))
    (IsAround-append point (edges_of_chains (take k chains)) (chain_edges (get_or chains k no_chain)) one other both is other_is turns touches)

-- ---- points in shapes

-- no point lies in a shape without edges
pub LiesIn-none : (rule : FillRule) (border : Border) (point : RationalPoint) → ¬ (LiesIn rule border point [])
LiesIn-none rule Closed point (inl inside) = outside rule inside
  where
    outside : (rule : FillRule) → is_inside rule (winding [] point) ≡ true → ⊥
    outside EvenOdd is = cc
    outside NonZero is = cc
    outside Positive is = cc
    outside Negative is = cc
LiesIn-none rule Closed point (inr on) = Any-none (λ e. IsOn e point) on
LiesIn-none rule Open point (inside, off) = outside rule inside
  where
    outside : (rule : FillRule) → is_inside rule (winding [] point) ≡ true → ⊥
    outside EvenOdd is = cc
    outside NonZero is = cc
    outside Positive is = cc
    outside Negative is = cc
LiesIn-none rule HalfOpen point inside = outside rule inside
  where
    outside : (rule : FillRule) → is_inside rule (winding [] point) ≡ true → ⊥
    outside EvenOdd is = cc
    outside NonZero is = cc
    outside Positive is = cc
    outside Negative is = cc

-- what is the same around a point has it or hasn't
pub LiesIn-same : (rule : FillRule) (border : Border) (point : RationalPoint) (edges others : List Edge) → AreSameAround point edges others → LiesIn rule border point edges → LiesIn rule border point others
LiesIn-same rule Closed point edges others same (inl inside) = inl (sym (ap (is_inside rule) same.turns) ∙ inside)
LiesIn-same rule Closed point edges others same (inr on) = inr (same.touches.0 on)
LiesIn-same rule Open point edges others same (inside, off) = (sym (ap (is_inside rule) same.turns) ∙ inside, λ on. off (same.touches.1 on))
LiesIn-same rule HalfOpen point edges others same inside = sym (ap (is_inside rule) same.turns) ∙ inside

-- what is told of edges says whether the point lies in the shape
pub is_in-lies : (rule : FillRule) (border : Border) (point : RationalPoint) (edges : List Edge) (around : Around) → IsAround point edges around → (is_in border (is_inside rule around.turns) around.touches ≡ true) ↔ LiesIn rule border point edges
is_in-lies rule border point edges around is = by border (is_inside rule around.turns) around.touches (ap (is_inside rule) is.turns) is.touches
  where
    by : (border : Border) (s t : Bool) → s ≡ is_inside rule (winding edges point) → (t ≡ true) ↔ IsOnAny edges point → (is_in border s t ≡ true) ↔ LiesIn rule border point edges
    by Closed true t inside on = (λ _. inl (sym inside), λ _. refl)
    by Closed false t inside on = (
      λ test. inr (on.0 test),
      λ lies. elim lies [ inl within ↦ cc (inside, within) | inr touches ↦ on.1 touches ],
    )
    by Open true true inside on = (λ test. cc, λ lies. absurd (lies.1 (on.0 refl)))
    by Open true false inside on = (λ _. (sym inside, λ touches. let none = on.1 touches in cc), λ _. refl)
    by Open false t inside on = (λ test. cc, λ lies. let within = lies.0 in cc (inside, within))
    by HalfOpen true t inside on = (λ _. sym inside, λ _. refl)
    by HalfOpen false t inside on = (λ test. cc, λ lies. cc (inside, lies))

-- ---- groups

module _ (rule : FillRule) (border : Border) where
  pub LiesAmong-none : (group : List Placed) (place : ℕ) → ¬ (LiesAmong rule border group [] place)
  LiesAmong-none group place lies = LiesIn-none rule border (halved lies.placed.point) lies.lies

  -- of two groups
  pub LiesAmong-left : (group others : List Placed) (edges : List Edge) (place : ℕ) → LiesAmong rule border group edges place → LiesAmong rule border (group ++ others) edges place
  LiesAmong-left group others edges place lies = record { placed = lies.placed; listed = Contains-append_left group others lies.placed lies.listed; is = lies.is; lies = lies.lies }

  pub LiesAmong-right : (group others : List Placed) (edges : List Edge) (place : ℕ) → LiesAmong rule border others edges place → LiesAmong rule border (group ++ others) edges place
  LiesAmong-right group others edges place lies = record { placed = lies.placed; listed = Contains-append_right group others lies.placed lies.listed; is = lies.is; lies = lies.lies }

  pub LiesAmong-cases : (group others : List Placed) (edges : List Edge) (place : ℕ) → LiesAmong rule border (group ++ others) edges place → LiesAmong rule border group edges place ⊎ LiesAmong rule border others edges place
  LiesAmong-cases group others edges place lies = elim (Contains-append_cases group others lies.placed lies.listed) [
    | inl first ↦ inl (record { placed = lies.placed; listed = first; is = lies.is; lies = lies.lies })
    | inr second ↦ inr (record { placed = lies.placed; listed = second; is = lies.is; lies = lies.lies })
  ]

  LiesAmong-one : (placed : Placed) (edges : List Edge) (place : ℕ) → LiesAmong rule border (placed ∷ []) edges place → (place ≡ placed.place) × LiesIn rule border (halved placed.point) edges
  LiesAmong-one placed edges place lies = by lies.listed
    where
      by : Contains (placed ∷ []) lies.placed → (place ≡ placed.place) × LiesIn rule border (halved placed.point) edges
      by (zero, within, same) = (sym lies.is ∙ ap (λ (p : Placed). p.place) (sym same), subst (λ (p : Placed). LiesIn rule border (halved p.point) edges) (sym same) lies.lies)
      by (suc k, within, same) = absurd (omega (arith, within))

  one-LiesAmong : (placed : Placed) (edges : List Edge) (place : ℕ) → place ≡ placed.place → LiesIn rule border (halved placed.point) edges → LiesAmong rule border (placed ∷ []) edges place
  one-LiesAmong placed edges place is lies = record { placed = placed; listed = (0, omega arith, cc); is = sym is; lies = lies }

  -- Of a group of points that stand at different places, and one of them.
  module _ (group : List Placed) (apart : AreApart group) (k : ℕ) (placed : Placed) (within : k < length group) (at : placed ≡ get_or group k placed) where
    not_before : (edges : List Edge) (place : ℕ) → LiesAmong rule border (take k group) edges place → place ≡ placed.place → ⊥
    not_before edges place lies same = by lies.listed
      where
        by : Contains (take k group) lies.placed → ⊥
        by (m, inside, stands) =
            let size = length-take k group in
            let before : m < k = omega (arith, inside, size) in
            let there : get_or group m lies.placed ≡ lies.placed = sym (get_or-take k group m lies.placed before) ∙ stands in
            apart m k placed before within
            (ap (λ (p : Placed). p.place) (get_or_default group m placed lies.placed (omega (arith, before, within)) ∙ there) ∙ lies.is ∙ same ∙ ap (λ (p : Placed). p.place) at)

    next : take (k + 1) group ≡ take k group ++ placed ∷ []
    next = take_more group k placed within ∙ ap (λ (p : Placed). take k group ++ p ∷ []) (sym at)

    -- one point more: the pairs of the points before it, and its own
    pub Gains-placed : (shape : ℕ) (edges : List Edge) (before now after : List (ℕ × ℕ)) → Gains (λ i j. (j ≡ shape) × LiesAmong rule border (take k group) edges i) before now
        → Gains (λ i j. (i ≡ placed.place) × (j ≡ shape) × LiesIn rule border (halved placed.point) edges) now after → Gains (λ i j. (j ≡ shape) × LiesAmong rule border (take (k + 1) group) edges i) before after
    Gains-placed shape edges before now after gained more =
        Gains-then (λ i j. (j ≡ shape) × LiesAmong rule border (take k group) edges i) (λ i j. (i ≡ placed.place) × (j ≡ shape) × LiesIn rule border (halved placed.point) edges) (λ i j. (j ≡ shape) × LiesAmong rule border (take (k + 1) group) edges i)
        (λ i j (_, lies) (same, _, _). not_before edges i lies same)
        (λ i j. (
          λ (is, lies). elim (LiesAmong-cases (take k group) (placed ∷ []) edges i (subst (λ (some : List Placed). LiesAmong rule border some edges i) next lies)) [
            | inl first ↦ inl (is, first)
            | inr second ↦ let (same, own) = LiesAmong-one placed edges i second in inr (same, is, own)
          ],
          λ either. elim either [
            | inl first ↦ (first.0, subst (λ (some : List Placed). LiesAmong rule border some edges i) (sym next) (LiesAmong-left (take k group) (placed ∷ []) edges i first.1))
            | inr second ↦ (second.1, subst (λ (some : List Placed). LiesAmong rule border some edges i) (sym next) (LiesAmong-right (take k group) (placed ∷ []) edges i (one-LiesAmong placed edges i second.0 second.2)))
          ],
        ))
        before now after gained more
