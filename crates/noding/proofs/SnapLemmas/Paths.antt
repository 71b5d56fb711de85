-- A chain point by point, as inductions take it.
use Rattle.std.proofs.Common.{List, [], ap, arith, get_or, inl, inr, map, refl, subst, suc, sym, zero, ℤ, ◌++◌, ◌∙◌, ◌∷◌, ◌≡◌}
use Rattle.std.proofs.lemmas.List.Elements.{All-head, All-tail, Contains-get_or}
use Rattle.std.specs.List.{All, AllPairs, AllZip, Contains}
use Rattle.std.specs.Prelude.{List, [], ◌∷◌, ◌≡◌}
use Rattle.plane.specs.declared.edge.Edge.{Edge}
use Rattle.plane.specs.declared.point.Point.{Point}
use Rattle.noding.specs.Chains.{IsAlong, IsChain, IsHot, Passes, Upto}
use Rattle.plane.specs.Ends.{end_of, start_of}
use Rattle.noding.specs.Windings.{pieces}
use Rattle.noding.proofs.SnapLemmas.Along.{Upto-to_end, point_at, Passes-start, Passes-end, Upto-from_start, Upto-same}

-- From the first point on the others go along the edge, each one passed by it, to the edge's end.
abbrev pub GoesOn : Edge → Point → List Point → Type 0
GoesOn edge from [] = (from.x ≡ edge.x1) × (from.y ≡ edge.y1)
GoesOn edge from (to ∷ others) = Upto edge from.x from.y to.x to.y × Passes edge to.x to.y × GoesOn edge to others

-- The points go along the edge from its start to its end, and the edge passes each of them.
abbrev pub IsPath : Edge → List Point → Type 0
IsPath edge [] = ⊥
IsPath edge (from ∷ others) = (from.x ≡ edge.x0) × (from.y ≡ edge.y0) × Passes edge from.x from.y × GoesOn edge from others

-- ---- a list of points that an edge passes, in order along it

module _ (edge : Edge) where
  abbrev IsPassed : Point → Type 0
  IsPassed c = Passes edge c.x c.y

  abbrev InOrder : Point → Point → Type 0
  InOrder c d = Upto edge c.x c.y d.x d.y

  -- the edge's end, which is the first point or among the others, is among the others where there are any
  end_later : (from to : Point) (others : List Point) → IsPassed to → InOrder from to → Contains (from ∷ to ∷ others) (end_of edge) → Contains (to ∷ others) (end_of edge)
  end_later from to others passed order (zero, inside, is) =
      let same : to ≡ end_of edge = Upto-same edge to (end_of edge) (Upto-to_end edge to.x to.y passed) (subst (λ (c : Point). InOrder c to) is order) in
      (0, omega arith, same)
  end_later from to others passed order (suc k, inside, is) = (k, omega (arith, inside), is)

  -- the last point is the edge's end
  end_here : (from : Point) → Contains (from ∷ []) (end_of edge) → (from.x ≡ edge.x1) × (from.y ≡ edge.y1)
  end_here from (zero, inside, is) = (ap (λ c. c.x) is, ap (λ c. c.y) is)
  end_here from (suc k, inside, is) = absurd (omega (arith, inside))

  -- a list that is in order goes on to the edge's end
  goes : (from : Point) (others : List Point) → All IsPassed others → AllPairs InOrder (from ∷ others) → Contains (from ∷ others) (end_of edge) → GoesOn edge from others
  goes from [] passed order to = end_here from to
  goes from (next ∷ others) passed order to =
      let first : IsPassed next = All-head IsPassed next others passed in
      let ahead : InOrder from next = order 0 1 from (omega arith) (omega arith) in (
        ahead,
        first,
        goes next others (All-tail IsPassed next others passed) (λ i j d lt within. order (suc i) (suc j) d (omega (arith, lt)) (omega (arith, within))) (end_later from next others first ahead to),
      )

  -- the first point is the edge's start, wherever in the list that stands
  begins : (first : Point) (others : List Point) → IsPassed first → AllPairs InOrder (first ∷ others) → Contains (first ∷ others) (start_of edge) → first ≡ start_of edge
  begins first others passed order (zero, inside, is) = is
  begins first others passed order (suc k, inside, is) =
      let ahead = order 0 (suc k) (start_of edge) (omega arith) inside in
      Upto-same edge first (start_of edge) (subst (λ (c : Point). InOrder first c) is ahead) (Upto-from_start edge first.x first.y passed)

  -- a list of passed points in order that has the edge's ends is a path of it
  pub path_of : (chain : List Point) → All IsPassed chain → AllPairs InOrder chain → Contains chain (start_of edge) → Contains chain (end_of edge) → IsPath edge chain
  path_of [] passed order (k, inside, is) to = absurd (omega (arith, inside))
  path_of (first ∷ others) passed order from to =
      let here : IsPassed first = All-head IsPassed first others passed in
      let start = begins first others here order from in (
        ap (λ c. c.x) start,
        ap (λ c. c.y) start,
        here,
        goes first others (All-tail IsPassed first others passed) order to,
      )

-- ---- a chain

-- what holds of each element holds of all
all-by : {X : Type 0} (P : X → Type 0) (xs : List X) → ((x : X) → Contains xs x → P x) → All P xs
all-by P xs each k d inside = each (get_or xs k d) (Contains-get_or xs k d inside)

-- what follows for each edge and its chain follows for all
pub AllZip-by : {X Y : Type 0} (P Q : X → Y → Type 0) (xs : List X) (ys : List Y) → ((x : X) (y : Y) → Contains xs x → P x y → Q x y) → AllZip P xs ys → AllZip Q xs ys
AllZip-by P Q [] [] each are = tt
AllZip-by P Q [] (y ∷ ys) each are = absurd are
AllZip-by P Q (x ∷ xs) [] each are = absurd are
AllZip-by P Q (x ∷ xs) (y ∷ ys) each (is, are) =
    (each x y (0, omega arith, refl) is, AllZip-by P Q xs ys (λ other its (k, inside, at). each other its (suc k, omega (arith, inside), at)) are)

-- a chain over nodes that its edge passes, among them its ends, is a path of it
pub IsPath-along : (IsNode : ℤ → ℤ → Type 0) (edge : Edge) (chain : List Point) → ((x y : ℤ) → IsNode x y → Passes edge x y) → IsNode edge.x0 edge.y0 → IsNode edge.x1 edge.y1 → IsAlong IsNode edge chain → IsPath edge chain
IsPath-along IsNode edge chain passes start end along =
    path_of edge chain (all-by (λ c. Passes edge c.x c.y) chain (λ c inside. passes c.x c.y ((along.exact c).0 inside))) along.in_order
    ((along.exact (start_of edge)).1 start)
    ((along.exact (end_of edge)).1 end)

-- an edge's ends are hot
pub IsHot-from : (edges : List Edge) (edge : Edge) → Contains edges edge → IsHot edges edge.x0 edge.y0
IsHot-from edges edge among = inl (edge, among, inl (refl, refl))

pub IsHot-to : (edges : List Edge) (edge : Edge) → Contains edges edge → IsHot edges edge.x1 edge.y1
IsHot-to edges edge among = inl (edge, among, inr (refl, refl))

-- a chain is a path of its edge
pub IsPath-chain : (edges : List Edge) (edge : Edge) (chain : List Point) → Contains edges edge → IsChain edges edge chain → IsPath edge chain
IsPath-chain edges edge chain among is =
    IsPath-along (λ x y. IsHot edges x y × Passes edge x y) edge chain (λ x y node. node.1) (IsHot-from edges edge among, Passes-start edge) (IsHot-to edges edge among, Passes-end edge) is

-- so those of some edges are
pub IsPath-chains : (all some : List Edge) (chains : List (List Point)) → ((edge : Edge) → Contains some edge → Contains all edge) → AllZip (IsChain all) some chains → AllZip IsPath some chains
IsPath-chains all some chains among are = AllZip-by (IsChain all) IsPath some chains (λ edge chain held is. IsPath-chain all edge chain (among edge held) is) are

-- ---- a chain's pieces have its edge's start and end, and else begin where they end

begin_from : (edge : Edge) (from : Point) (others : List Point) → GoesOn edge from others → (map start_of (pieces (from ∷ others)) ++ (end_of edge ∷ [])) ≡ from ∷ others
begin_from edge from [] (x, y) = ap (λ a. point_at a edge.y1 ∷ []) (sym x) ∙ ap (λ b. point_at from.x b ∷ []) (sym y)
begin_from edge from (to ∷ others) (order, passes, rest) = ap (λ c. from ∷ c) (begin_from edge to others rest)

end_from : (from : Point) (others : List Point) → (from ∷ map end_of (pieces (from ∷ others))) ≡ from ∷ others
end_from from [] = refl
end_from from (to ∷ others) = ap (λ c. from ∷ c) (end_from to others)

-- the starts of a path's pieces, and its edge's end, are its points
pub path-begins : (edge : Edge) (chain : List Point) → IsPath edge chain → (map start_of (pieces chain) ++ (end_of edge ∷ [])) ≡ chain
path-begins edge [] none = absurd none
path-begins edge (from ∷ others) (x, y, passed, goes) = begin_from edge from others goes

-- its edge's start, and the ends of its pieces, are its points
pub path-ends : (edge : Edge) (chain : List Point) → IsPath edge chain → (start_of edge ∷ map end_of (pieces chain)) ≡ chain
path-ends edge [] none = absurd none
path-ends edge (from ∷ others) (x, y, passed, goes) =
    ap (λ a. point_at a edge.y0 ∷ map end_of (pieces (from ∷ others))) (sym x)
    ∙ ap (λ b. point_at from.x b ∷ map end_of (pieces (from ∷ others))) (sym y)
    ∙ end_from from others
