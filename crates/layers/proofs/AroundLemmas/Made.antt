-- The chains that are made of rings and shapes.
use Rattle.std.proofs.Common.{◌≡◌, inl, inr, ℕ, ◌+◌, ◌<◌, ◌≤◌, List, [], ◌∷◌, ◌++◌, length, get_or, take, drop, refl, sym, subst, ap, ap₂, ◌∙◌, append-nil, append_assoc, arith}
use Rattle.std.specs.List.{All}
use Rattle.std.proofs.lemmas.Bool.{cases_lt}
use Rattle.std.proofs.lemmas.List.{get_or-drop, get_or-take, get_or_past, length-drop, length-take, take-append-drop}
use Rattle.std.proofs.lemmas.List.Concat.{flat_map-append}
use Rattle.std.proofs.lemmas.List.Elements.{All-append, All-cons, All-nil}
use Rattle.std.proofs.Math.Seq.{take-add}
use Rattle.i_tree.proofs.RootLemmas.Joined.{AllPairs-append}
use Rattle.plane.specs.declared.edge.Edge.{Edge}
use Rattle.plane.specs.declared.point.Point.{Point}
use Rattle.overlay.specs.Contours.Rings.{ring_edges}
use Rattle.noding.specs.Windings.{pieces}
use Rattle.overlay.proofs.ContourLemmas.Rings.{pieces-append}
use Rattle.layers.specs.Chains.{AppendsChains, AreChainsOf, AreInOrder, IsBounded, chain_edges, edges_in}
use Rattle.layers.specs.declared.around.chains.Chain.{Chain}
use Rattle.layers.proofs.AroundLemmas.Groups.{edges_in-append, edges_in-of, edges_in-other}

-- ---- rings

-- a ring goes through its points, and back to the first
pub ring_edges-is : (ring : List Point) (d : Point) → 0 < length ring → ring_edges ring ≡ pieces (ring ++ get_or ring 0 d ∷ [])
ring_edges-is [] d some = absurd (omega (arith, some))
ring_edges-is (first ∷ others) d some = refl

-- pieces of points up to an end, cut at one of these
pieces-split : (points others : List Point) (end d : Point) → 0 < length others → pieces ((points ++ others) ++ end ∷ []) ≡ pieces (points ++ get_or others 0 d ∷ []) ++ pieces (others ++ end ∷ [])
pieces-split points [] end d some = absurd (omega (arith, some))
pieces-split points (point ∷ others) end d some = ap pieces (append_assoc points (point ∷ others) (end ∷ [])) ∙ pieces-append points point (others ++ end ∷ [])

module _ (ring : List Point) (start : ℕ) (d : Point) (inside : start < length ring) where
  at-start : get_or (drop start ring) 0 d ≡ get_or ring start d
  at-start = get_or-drop start ring 0 d ∙ ap (λ (k : ℕ). get_or ring k d) (let same : start + 0 ≡ start = omega arith in same)

  -- so many points more
  pub pieces-part : (count : ℕ) (end : Point) → 0 < count → pieces (take (start + count) ring ++ end ∷ []) ≡ pieces (take start ring ++ get_or ring start d ∷ []) ++ pieces (take count (drop start ring) ++ end ∷ [])
  pieces-part count end some =
      let rest = length-drop start ring in
      ap (λ (points : List Point). pieces (points ++ end ∷ [])) (take-add start count ring)
      ∙ pieces-split (take start ring) (take count (drop start ring)) end d (some_taken (drop start ring) count some (omega (arith, inside, rest)))
      ∙ ap (λ (point : Point). pieces (take start ring ++ point ∷ []) ++ pieces (take count (drop start ring) ++ end ∷ [])) (first_taken (drop start ring) count some ∙ at-start)
    where
      some_taken : (points : List Point) (n : ℕ) → 0 < n → 0 < length points → 0 < length (take n points)
      some_taken points n some others = let size = length-take n points in omega (arith, some, others, size)

      first_taken : (points : List Point) (n : ℕ) → 0 < n → get_or (take n points) 0 d ≡ get_or points 0 d
      first_taken points n some = get_or-take n points 0 d some

  -- all of the rest
  pub pieces-rest : (end : Point) → pieces (ring ++ end ∷ []) ≡ pieces (take start ring ++ get_or ring start d ∷ []) ++ pieces (drop start ring ++ end ∷ [])
  pieces-rest end =
      let rest = length-drop start ring in
      ap (λ (points : List Point). pieces (points ++ end ∷ [])) (sym (take-append-drop start ring))
      ∙ pieces-split (take start ring) (drop start ring) end d (omega (arith, inside, rest))
      ∙ ap (λ (point : Point). pieces (take start ring ++ point ∷ []) ++ pieces (drop start ring ++ end ∷ [])) at-start

-- ---- chains that are appended

pub AppendsChains-one : (shape : ℕ) (edges : List Edge) (chain : Chain) (before after : List Chain) → chain.shape ≡ shape → IsBounded chain → chain_edges chain ≡ edges → after ≡ before ++ chain ∷ [] → AppendsChains shape edges before after
AppendsChains-one shape edges chain before after of bounded are is = (
  chain ∷ [],
  is,
  record {
    bounded = All-cons IsBounded chain [] bounded (All-nil IsBounded);
    of = All-cons (λ c. c.shape ≡ shape) chain [] of (All-nil (λ c. c.shape ≡ shape));
    are = append-nil (chain_edges chain) ∙ are;
  },
)

pub AppendsChains-then : (shape : ℕ) (edges others : List Edge) (before now after : List Chain) → AppendsChains shape edges before now → AppendsChains shape others now after → AppendsChains shape (edges ++ others) before after
AppendsChains-then shape edges others before now after (some, is, of) (more, are, of_more) = (
  some ++ more,
  are ∙ ap (λ (chains : List Chain). chains ++ more) is ∙ append_assoc before some more,
  record {
    bounded = All-append IsBounded some more of.bounded of_more.bounded;
    of = All-append (λ c. c.shape ≡ shape) some more of.of of_more.of;
    are = flat_map-append chain_edges some more ∙ ap₂ (λ (xs ys : List Edge). xs ++ ys) of.are of_more.are;
  },
)

-- ---- the chains of all shapes

-- those of so many shapes
pub record AreChainsUpto (shapes : List (List Edge)) (count : ℕ) (chains : List Chain) : Type 0 where
  pub order : AreInOrder chains
  pub below : All (λ chain. chain.shape < count) chains
  pub each : (shape : ℕ) → shape < count → edges_in shape chains ≡ get_or shapes shape []

pub AreChainsUpto-more : (shapes : List (List Edge)) (count : ℕ) (before after : List Chain) → AreChainsUpto shapes count before → AppendsChains count (get_or shapes count []) before after → AreChainsUpto shapes (count + 1) after
AreChainsUpto-more shapes count before after are (more, is, of) = subst (AreChainsUpto shapes (count + 1)) (sym is) (record {
  order = record {
    bounded = All-append IsBounded before more are.order.bounded of.bounded;
    sorted = AllPairs-append (λ (chain later : Chain). chain.shape ≤ later.shape) before more are.order.sorted
        (λ i j d below within. let one = of.of i d (omega (arith, below, within)) in let other = of.of j d within in omega (arith, one, other))
        (λ k d within l e inside. let low = are.below k d within in let here = of.of l e inside in omega (arith, low, here));
  };
  below = All-append (λ chain. chain.shape < count + 1) before more
      (λ k d within. let low = are.below k d within in omega (arith, low))
      (λ k d within. let here = of.of k d within in omega (arith, here));
  each = λ shape within. edges_in-append shape before more ∙ elim (cases_lt shape count) [
    | inl early ↦
        ap (λ (edges : List Edge). edges_in shape before ++ edges) (edges_in-other shape more (λ k d inside same. let here = of.of k d inside in omega (arith, early, here, same)))
        ∙ append-nil (edges_in shape before) ∙ are.each shape early
    | inr late ↦
        let here : shape ≡ count = omega (arith, late, within) in
        ap₂ (λ (xs ys : List Edge). xs ++ ys) (edges_in-other shape before (λ k d inside same. let low = are.below k d inside in omega (arith, here, low, same)))
        (edges_in-of shape more (λ k d inside. of.of k d inside ∙ sym here) ∙ of.are)
        ∙ ap (λ (n : ℕ). get_or shapes n []) (sym here)
  ];
})

pub AreChainsOf-all : (shapes : List (List Edge)) (count : ℕ) (chains : List Chain) → length shapes ≤ count → AreChainsUpto shapes count chains → AreChainsOf shapes chains
AreChainsOf-all shapes count chains past are = record {
  order = are.order;
  each = λ shape. elim (cases_lt shape count) [
    | inl within ↦ are.each shape within
    | inr beyond ↦
        edges_in-other shape chains (λ k d inside same. let low = are.below k d inside in omega (arith, beyond, low, same))
        ∙ sym (get_or_past shapes shape [] (omega (arith, past, beyond)))
  ];
}
