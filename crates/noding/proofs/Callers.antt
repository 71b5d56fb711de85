-- What a caller of snap rounding wants of its chains, in a caller's words.
use Rattle.std.proofs.Common.{◌≡◌, ◌≢◌, List, [], ◌∷◌, ◌++◌, map, sym, subst, inl, inr}
use Rattle.std.specs.Prelude.{ℤ}
use Rattle.std.specs.List.{All, Contains, flat_map}
use Rattle.plane.specs.declared.edge.Edge.{Edge}
use Rattle.plane.specs.declared.point.Point.{Point}
use Rattle.plane.specs.Meet.Boxes.{bounds_of}
use Rattle.plane.specs.Meet.Edges.{RationalPoint, IsOf}
use Rattle.plane.specs.Meet.Kinds.{HasPoint}
use Rattle.plane.specs.Pairs.Bounds.{BoundsMeet}
use Rattle.noding.specs.Chains.{Passes, IsEnd, CrossAt, IsHot, Upto, IsChain, AreChains}
use Rattle.noding.specs.Local.{AreNodeChains, IsExactAt, IsMoved, IsNode, IsNodeChain}
use Rattle.noding.specs.Meeting.{MeetAtEnds}
use Rattle.noding.specs.Near.{CountsExactly, IsNear}
use Rattle.plane.specs.Ends.{start_of, end_of}
use Rattle.noding.specs.Windings.{winding, pieces, IsClosed}
use Rattle.noding.proofs.SnapLemmas.Along.{Passes-in_box, Passes-start, Passes-end}
use Rattle.noding.proofs.SnapLemmas.Local.{IsPath-noded, noded-closed, noded-meet, noded-winding, still-on}
use Rattle.noding.proofs.SnapLemmas.Near.{IsNear-piece}
use Rattle.noding.proofs.SnapLemmas.Noded.{IsPiece-along, IsPiece-chain, chains-meet, piece-proper, piece-upto, proper-along, upto-along}
use Rattle.noding.proofs.SnapLemmas.Paths.{IsPath-chain, path-begins, path-ends}
use Rattle.noding.proofs.SnapLemmas.Sums.{chain-counts, some-closed, some-exact}
-- Where no two edges cross at a point with fractions no edge is moved, by `node`.
pub use Rattle.noding.proofs.SnapLemmas.Local.{none-moved}
-- What is moved among some edges is moved among more.
pub use Rattle.noding.proofs.SnapLemmas.More.{IsMoved-more}
-- A point rounds to one whole point.
pub use Rattle.noding.proofs.SnapLemmas.Rounding.{RoundsTo-unique}
-- What an edge passes lies in its box; of two points that it passes one isn't behind the other, and where neither is they are
-- one.
pub use Rattle.noding.proofs.SnapLemmas.Along.{Passes-in_box, Passes-ordered, Upto-same}
-- Windings add up, and stay in whatever order the edges stand.
pub use Rattle.noding.proofs.SnapLemmas.Windings.{winding-append, winding-permutation}
-- Edges are closed where their ends are their starts in some order, as those of rings are.
pub use Rattle.noding.proofs.SnapLemmas.Sums.{IsClosed-permutation}
-- Two edges that aren't parallel have one crossing, whichever is named first, and no edge crosses itself.
pub use Rattle.noding.proofs.SnapLemmas.Crossing.{CrossAt-unique, CrossAt-exchanged, CrossAt-itself}
-- Where each chain stops among the points of all, and that it stands there from where the one before it stops on; and both for
-- a loop over the ends.
pub use Rattle.noding.proofs.ChainLemmas.Offsets.{joined, offset-at, list-between}
pub use Rattle.noding.proofs.ChainLemmas.Standing.{length-offsets, IsNext, IsNext-at}

-- ---- hot points

-- An end of an edge is hot, and the edge passes it.
pub end-hot : (edges : List Edge) (edge : Edge) (x y : ℤ) → Contains edges edge → IsEnd edge x y → IsHot edges x y × Passes edge x y
end-hot edges edge x y among (inl (is_x, is_y)) = (
  inl (edge, among, inl (is_x, is_y)),
  subst (λ (z : ℤ). Passes edge z y) (sym is_x) (subst (λ (z : ℤ). Passes edge edge.x0 z) (sym is_y) (Passes-start edge)),
)
end-hot edges edge x y among (inr (is_x, is_y)) = (
  inl (edge, among, inr (is_x, is_y)),
  subst (λ (z : ℤ). Passes edge z y) (sym is_x) (subst (λ (z : ℤ). Passes edge edge.x1 z) (sym is_y) (Passes-end edge)),
)

-- What `crossing` answers of two of the edges is hot, and both pass it.
pub crossing-hot : (edges : List Edge) (one other : Edge) (x y : ℤ) → Contains edges one → Contains edges other → CrossAt one other x y
    → IsHot edges x y × Passes one x y × Passes other x y
crossing-hot edges one other x y first second (slanted, (point, of_one, of_other, rounds)) = (
  inr (one, other, first, second, (slanted, (point, of_one, of_other, rounds))),
  (point, of_one, rounds),
  (point, of_other, rounds),
)

-- ---- the chains of all edges

module _ (edges : List Edge) (chains : List (List Point)) (are : AreChains edges chains) where
  -- Hobby's theorem: a point that two pieces have is an end of both, or they have the same ends. Vertical pieces are pieces too.
  pub noded : (piece other : Edge) (point : RationalPoint) → Contains (flat_map pieces chains) piece → Contains (flat_map pieces chains) other
      → IsOf piece point → IsOf other point → MeetAtEnds piece other point
  noded piece other point first second of_one of_other = chains-meet edges chains are piece other point first second of_one of_other

  -- The pieces wind around a point as the edges do, if each edge runs along an axis or isn't near the point.
  pub exact : (point : RationalPoint) → All (λ edge. CountsExactly edge point) edges → winding (flat_map pieces chains) point ≡ winding edges point
  exact point exactly = some-exact edges edges chains point (λ edge among. among) are exactly

  -- The pieces of closed edges are closed.
  pub closed : IsClosed edges → IsClosed (flat_map pieces chains)
  closed are_closed = some-closed edges edges chains (λ edge among. among) are are_closed

-- ---- the chain of one edge

module _ (edges : List Edge) (edge : Edge) (chain : List Point) (among : Contains edges edge) (is : IsChain edges edge chain) where
  -- It begins where its edge does, and goes on by the ends of its pieces.
  pub starts : chain ≡ start_of edge ∷ map end_of (pieces chain)
  starts = sym (path-ends edge chain (IsPath-chain edges edge chain among is))

  -- It goes over the starts of its pieces, and ends where its edge does.
  pub ends : map start_of (pieces chain) ++ (end_of edge ∷ []) ≡ chain
  ends = path-begins edge chain (IsPath-chain edges edge chain among is)

  -- Its pieces go the way of their edge, on both axes, and none is a point.
  pub piece-onwards : (piece : Edge) → Contains (pieces chain) piece → Upto edge piece.x0 piece.y0 piece.x1 piece.y1 × (start_of piece ≢ end_of piece)
  piece-onwards piece inside = (piece-upto edges edge chain is piece inside, piece-proper edges edge chain is piece inside)

  -- Its points lie in their edge's box.
  pub in_box : (c : Point) → Contains chain c → BoundsMeet (bounds_of edge) (record { left = c.x; right = c.x; low = c.y; high = c.y })
  in_box c inside = Passes-in_box edge c.x c.y ((is.exact c).0 inside).1

  -- Each point of its pieces is near the edge.
  pub near : (piece : Edge) (point : RationalPoint) → Contains (pieces chain) piece → IsOf piece point → IsNear edge point
  near piece point inside of =
      let found = IsPiece-chain edges edge chain is piece inside in
      IsNear-piece edge piece point found.from_passes found.to_passes of

  -- Its pieces count what the edge counts, at each point if it runs along an axis, and else where the point isn't near it.
  pub exact-edge : (point : RationalPoint) → CountsExactly edge point → winding (pieces chain) point ≡ winding (edge ∷ []) point
  exact-edge point exactly = chain-counts edge chain point (IsPath-chain edges edge chain among is) exactly

-- ---- a noding that moves only what it must

module _ (edges : List Edge) (chains : List (List Point)) (are : AreNodeChains edges chains) where
  -- Hobby's theorem holds of it: a point that two pieces have is an end of both, or they have the same ends.
  pub node-noded : (piece other : Edge) (point : RationalPoint) → Contains (flat_map pieces chains) piece → Contains (flat_map pieces chains) other
      → IsOf piece point → IsOf other point → MeetAtEnds piece other point
  node-noded piece other point first second of_one of_other = noded-meet edges chains are piece other point first second of_one of_other

  -- The pieces wind around a point as the edges do, where each edge isn't moved, or runs along an axis, or isn't near the point.
  pub node-exact : (point : RationalPoint) → All (IsExactAt edges point) edges → winding (flat_map pieces chains) point ≡ winding edges point
  node-exact point told = noded-winding edges edges chains (λ edge among. among) are point told

  -- The pieces of closed edges are closed.
  pub node-closed : IsClosed edges → IsClosed (flat_map pieces chains)
  node-closed are_closed = noded-closed edges edges chains (λ edge among. among) are are_closed

module _ (edges : List Edge) (edge : Edge) (chain : List Point) (among : Contains edges edge) (along : IsNodeChain edges edge chain) where
  -- An edge that isn't moved is its chain: all points of this lie on it.
  pub node-still : ¬ (IsMoved edges edge) → (c : Point) → Contains chain c → HasPoint edge c.x c.y
  node-still still c held = still-on edges edge chain along still c held

  -- A chain begins where its edge does, and ends where it does.
  pub node-starts : chain ≡ start_of edge ∷ map end_of (pieces chain)
  node-starts = sym (path-ends edge chain (IsPath-noded edges edge chain along among))

  pub node-ends : map start_of (pieces chain) ++ (end_of edge ∷ []) ≡ chain
  node-ends = path-begins edge chain (IsPath-noded edges edge chain along among)

  -- Each point of its pieces is near the edge, and they go the edge's way.
  pub node-near : (piece : Edge) (point : RationalPoint) → Contains (pieces chain) piece → IsOf piece point → IsNear edge point
  node-near piece point inside of =
      let found = IsPiece-along (IsNode edges edge) edge chain (λ x y node. node.1) along piece inside in
      IsNear-piece edge piece point found.from_passes found.to_passes of

  pub node-onwards : (piece : Edge) → Contains (pieces chain) piece → Upto edge piece.x0 piece.y0 piece.x1 piece.y1 × (start_of piece ≢ end_of piece)
  node-onwards piece inside = (
    upto-along (IsNode edges edge) edge chain (λ x y node. node.1) along piece inside,
    proper-along (IsNode edges edge) edge chain (λ x y node. node.1) along piece inside,
  )
