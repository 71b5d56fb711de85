-- The chains of many edges, added up: what their pieces count, and how many of them start and end.
use Rattle.std.proofs.Common.{Bool, IsPermutation, List, [], ap, arith, cond, map, refl, sum_by, sym, ℕ, ◌++◌, ◌+◌, ◌∙◌, ◌∷◌, ◌≡◌, ⊎_elim}
use Rattle.std.proofs.lemmas.List.Elements.{All-contains}
use Rattle.std.proofs.lemmas.List.Sorted.{sum_by-IsPermutation}
use Rattle.std.proofs.lemmas.List.Sums.{sum_by-append, sum_by-cons}
use Rattle.std.specs.List.{All, AllZip, Contains, count_by, flat_map}
use Rattle.plane.specs.declared.edge.Edge.{Edge}
use Rattle.plane.specs.declared.point.Point.{Point}
use Rattle.plane.specs.Meet.Edges.{RationalPoint}
use Rattle.noding.specs.Chains.{IsChain}
use Rattle.noding.specs.Near.{CountsExactly}
use Rattle.plane.specs.Ends.{edge_between, end_of, start_of}
use Rattle.noding.specs.Windings.{IsClosed, pieces, winding}
use Rattle.noding.proofs.SnapLemmas.Clear.{chain-clear}
use Rattle.noding.proofs.SnapLemmas.Exact.{chain-exact}
use Rattle.noding.proofs.SnapLemmas.Numbers.{both}
use Rattle.noding.proofs.SnapLemmas.Paths.{AllZip-by, GoesOn, IsPath, IsPath-chain, IsPath-chains}
use Rattle.noding.proofs.SnapLemmas.Along.{point_at}
use Rattle.noding.proofs.SnapLemmas.Windings.{winding-append}

-- The chain's pieces count at the point what the edge counts.
abbrev pub CountsSame : RationalPoint → Edge → List Point → Type 0
CountsSame point edge chain = winding (pieces chain) point ≡ winding (edge ∷ []) point

-- where each chain counts what its edge counts all do
pub sum-same : (point : RationalPoint) (edges : List Edge) (chains : List (List Point)) → AllZip (CountsSame point) edges chains → winding (flat_map pieces chains) point ≡ winding edges point
sum-same point [] [] are = refl
sum-same point [] (chain ∷ chains) are = absurd are
sum-same point (edge ∷ edges) [] are = absurd are
sum-same point (edge ∷ edges) (chain ∷ chains) (is, are) =
    winding-append (pieces chain) (flat_map pieces chains) point
    ∙ both (winding (pieces chain) point) (winding (edge ∷ []) point) (winding (flat_map pieces chains) point) (winding edges point) is (sum-same point edges chains are)
    ∙ sym (winding-append (edge ∷ []) edges point)

-- the chain of one edge, where the edge is far or runs along an axis
pub chain-counts : (edge : Edge) (chain : List Point) (point : RationalPoint) → IsPath edge chain → CountsExactly edge point → winding (pieces chain) point ≡ winding (edge ∷ []) point
chain-counts edge chain point is exactly = ⊎_elim (λ axis. chain-exact edge chain point is axis) (λ far. chain-clear edge chain point is far) exactly

-- the chains of some of the edges, at a point at which each of these is
pub some-exact : (all some : List Edge) (chains : List (List Point)) (point : RationalPoint) → ((edge : Edge) → Contains some edge → Contains all edge) → AllZip (IsChain all) some chains
    → All (λ edge. CountsExactly edge point) some → winding (flat_map pieces chains) point ≡ winding some point
some-exact all some chains point among are exactly =
    sum-same point some chains
    (AllZip-by (IsChain all) (CountsSame point) some chains (λ edge chain held is. chain-counts edge chain point (IsPath-chain all edge chain (among edge held) is) (All-contains (λ edge. CountsExactly edge point) some edge exactly held)) are)

-- ---- starts and ends

module _ (test : Point → Bool) where
  abbrev unit : Point → ℕ
  unit point = cond (test point) 1 0

  abbrev starts : List Edge → ℕ
  starts edges = count_by (λ edge. test (start_of edge)) edges

  abbrev ends : List Edge → ℕ
  ends edges = count_by (λ edge. test (end_of edge)) edges

  -- one more, and lists one behind the other
  starts-cons : (edge : Edge) (edges : List Edge) → starts (edge ∷ edges) ≡ unit (start_of edge) + starts edges
  starts-cons edge edges = sum_by-cons (λ (e : Edge). unit (start_of e)) edge edges

  ends-cons : (edge : Edge) (edges : List Edge) → ends (edge ∷ edges) ≡ unit (end_of edge) + ends edges
  ends-cons edge edges = sum_by-cons (λ (e : Edge). unit (end_of e)) edge edges

  starts-append : (xs ys : List Edge) → starts (xs ++ ys) ≡ starts xs + starts ys
  starts-append xs ys = sum_by-append (λ (e : Edge). unit (start_of e)) xs ys

  ends-append : (xs ys : List Edge) → ends (xs ++ ys) ≡ ends xs + ends ys
  ends-append xs ys = sum_by-append (λ (e : Edge). unit (end_of e)) xs ys

  -- what a chain's pieces add beside its edge's start and end, they add on both sides
  along : (edge : Edge) (from : Point) (others : List Point) → GoesOn edge from others → starts (pieces (from ∷ others)) + unit (end_of edge) ≡ unit from + ends (pieces (from ∷ others))
  along edge from [] (x, y) =
      let same : unit from ≡ unit (end_of edge) = ap (λ a. unit (point_at a from.y)) x ∙ ap (λ b. unit (point_at edge.x1 b)) y in
      omega (arith, same)
  along edge from (to ∷ others) (order, passes, rest) =
      let first = starts-cons (edge_between from to) (pieces (to ∷ others)) in
      let second = ends-cons (edge_between from to) (pieces (to ∷ others)) in
      let later = along edge to others rest in
      omega (arith, first, second, later)

  -- the same of a whole chain
  along_path : (edge : Edge) (chain : List Point) → IsPath edge chain → starts (pieces chain) + unit (end_of edge) ≡ unit (start_of edge) + ends (pieces chain)
  along_path edge [] none = absurd none
  along_path edge (from ∷ others) (x, y, passed, goes) =
      let same : unit from ≡ unit (start_of edge) = ap (λ a. unit (point_at a from.y)) x ∙ ap (λ b. unit (point_at edge.x0 b)) y in
      let sum = along edge from others goes in
      omega (arith, same, sum)

  -- and of all chains: so their pieces start and end as often as their edges
  balance : (edges : List Edge) (chains : List (List Point)) → AllZip IsPath edges chains → starts (flat_map pieces chains) + ends edges ≡ starts edges + ends (flat_map pieces chains)
  balance [] [] are = refl
  balance [] (chain ∷ chains) are = absurd are
  balance (edge ∷ edges) [] are = absurd are
  balance (edge ∷ edges) (chain ∷ chains) (is, are) =
      let here = along_path edge chain is in
      let later = balance edges chains are in
      let starts_all = starts-append (pieces chain) (flat_map pieces chains) in
      let ends_all = ends-append (pieces chain) (flat_map pieces chains) in
      let starts_edges = starts-cons edge edges in
      let ends_edges = ends-cons edge edges in
      omega (arith, here, later, starts_all, ends_all, starts_edges, ends_edges)

-- the pieces of closed edges are closed
pub paths-closed : (edges : List Edge) (chains : List (List Point)) → AllZip IsPath edges chains → IsClosed edges → IsClosed (flat_map pieces chains)
paths-closed edges chains are closed test =
    let sum = balance test edges chains are in
    let same = closed test in
    omega (arith, sum, same)

-- so are those of some edges among all
pub some-closed : (all some : List Edge) (chains : List (List Point)) → ((edge : Edge) → Contains some edge → Contains all edge) → AllZip (IsChain all) some chains → IsClosed some → IsClosed (flat_map pieces chains)
some-closed all some chains among are closed = paths-closed some chains (IsPath-chains all some chains among are) closed

-- ---- closed edges by a permutation

sum_by-map : {X Y : Type 0} (weigh : Y → ℕ) (f : X → Y) (xs : List X) → sum_by weigh (map f xs) ≡ sum_by (λ x. weigh (f x)) xs
sum_by-map weigh f [] = refl
sum_by-map weigh f (x ∷ xs) = sum_by-cons weigh (f x) (map f xs) ∙ ap (λ n. weigh (f x) + n) (sum_by-map weigh f xs) ∙ sym (sum_by-cons (λ y. weigh (f y)) x xs)

-- the ends are the starts, in some order
pub IsClosed-permutation : (edges : List Edge) → IsPermutation (map start_of edges) (map end_of edges) → IsClosed edges
IsClosed-permutation edges is test =
    let unit : Point → ℕ = λ point. cond (test point) 1 0 in
    sym (sum_by-map unit start_of edges) ∙ sym (sum_by-IsPermutation unit (map start_of edges) (map end_of edges) is) ∙ sum_by-map unit end_of edges
