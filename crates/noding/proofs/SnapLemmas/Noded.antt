-- The pieces of chains meet only at common ends, or are the same.
use Rattle.std.proofs.Common.{List, [], arith, get_or, inl, inr, length, pos, refl, subst, suc, zero, ℕ, ℤ, ◌<◌, ◌∙◌, ◌∷◌, ◌≡◌, ◌≢◌, ◌≤ℤ◌, ◌≤◌, ◌⊎◌}
use Rattle.std.proofs.lemmas.Int.{by_lt_z, ints}
use Rattle.std.proofs.lemmas.List.{get_or_default}
use Rattle.std.proofs.lemmas.List.Elements.{Contains-append_cases, Contains-get_or}
use Rattle.std.specs.List.{AllZip, Contains, flat_map}
use Rattle.plane.specs.declared.edge.Edge.{Edge}
use Rattle.plane.specs.declared.point.Point.{Point}
use Rattle.plane.specs.Meet.Edges.{IsOf, RationalPoint}
use Rattle.noding.specs.Chains.{AreChains, IsAlong, IsChain, IsHot, Passes, Upto, UptoOn}
use Rattle.noding.specs.Meeting.{MeetAtEnds}
use Rattle.plane.specs.Ends.{edge_between, end_of, start_of}
use Rattle.noding.specs.Windings.{pieces}
use Rattle.noding.proofs.SnapLemmas.Along.{Upto-itself}
use Rattle.noding.proofs.SnapLemmas.Hobby.Ends.{pieces-meet}
use Rattle.noding.proofs.SnapLemmas.Along.{point_at}
use Rattle.noding.proofs.SnapLemmas.Pieces.{HasCrossings, IsBetween, IsPiece}

-- ---- neighbours along a chain are the ends of a piece

-- what isn't behind c, where c isn't behind d, lies between them only as c
before_on : (from to c d z : ℤ) → UptoOn from to z c → UptoOn from to c d → IsBetween c d z → z ≡ c
before_on from to c d z first second between =
    by_lt_z from to
    (λ up. rising (first.rising (omega (arith, ints))) (second.rising (omega (arith, ints))) between)
    (λ down. falling (first.falling down) (second.falling down) between)
  where
    rising : z ≤ℤ c → c ≤ℤ d → IsBetween c d z → z ≡ c
    rising first second (inl (low, high)) = omega (arith, ints)
    rising first second (inr (low, high)) = omega (arith, ints)

    falling : c ≤ℤ z → d ≤ℤ c → IsBetween c d z → z ≡ c
    falling first second (inl (low, high)) = omega (arith, ints)
    falling first second (inr (low, high)) = omega (arith, ints)

-- the same behind d, by the way back
back_on : (from to c d : ℤ) → UptoOn from to c d → UptoOn to from d c
back_on from to c d upto = record {
  rising = upto.falling;
  falling = upto.rising;
}

between_back : (c d z : ℤ) → IsBetween c d z → IsBetween d c z
between_back c d z (inl within) = inr within
between_back c d z (inr within) = inl within

after_on : (from to c d z : ℤ) → UptoOn from to d z → UptoOn from to c d → IsBetween c d z → z ≡ d
after_on from to c d z first second between = before_on to from d c z (back_on from to d z first) (back_on from to c d second) (between_back c d z between)

-- two hot points that the edge passes, where each other one is before the first or behind the second
pub IsPiece-neighbours : (hot : ℤ → ℤ → Type 0) (edge piece : Edge) → hot piece.x0 piece.y0 → hot piece.x1 piece.y1 → Passes edge piece.x0 piece.y0 → Passes edge piece.x1 piece.y1 → Upto edge piece.x0 piece.y0 piece.x1 piece.y1 → ((x y : ℤ) → hot x y → Passes edge x y → Upto edge x y piece.x0 piece.y0 ⊎ Upto edge piece.x1 piece.y1 x y) → IsPiece hot edge piece
IsPiece-neighbours hot edge piece from_hot to_hot from_passes to_passes order others = record {
  from_hot = from_hot;
  to_hot = to_hot;
  from_passes = from_passes;
  to_passes = to_passes;
  next = λ x y is_hot found.
      elim (others x y is_hot found.passes) [
        | inl before ↦ inl (before_on edge.x0 edge.x1 piece.x0 piece.x1 x before.along_x order.along_x found.box.along_x, before_on edge.y0 edge.y1 piece.y0 piece.y1 y before.along_y order.along_y found.box.along_y)
        | inr after ↦ inr (after_on edge.x0 edge.x1 piece.x0 piece.x1 x after.along_x order.along_x found.box.along_x, after_on edge.y0 edge.y1 piece.y0 piece.y1 y after.along_y order.along_y found.box.along_y)
      ];
}

-- it goes from a point of the list to the next
record IsPieceAt (chain : List Point) (piece : Edge) : Type 0 where
  pub k : ℕ
  pub within : suc k < length chain
  pub is : (d : Point) → edge_between (get_or chain k d) (get_or chain (suc k) d) ≡ piece

-- each piece of a chain has one
place_from : (from : Point) (others : List Point) (piece : Edge) → Contains (pieces (from ∷ others)) piece → IsPieceAt (from ∷ others) piece
place_from from [] piece (k, inside, is) = absurd (omega (arith, inside))
place_from from (to ∷ others) piece (zero, inside, is) = record {
  k = 0;
  within = omega arith;
  is = λ d. is;
}
place_from from (to ∷ others) piece (suc k, inside, is) =
    let later = place_from to others piece (k, omega (arith, inside), is) in
    let within = later.within in record {
      k = suc later.k;
      within = omega (arith, within);
      is = later.is;
    }

place : (chain : List Point) (piece : Edge) → Contains (pieces chain) piece → IsPieceAt chain piece
place [] piece (k, inside, is) = absurd (omega (arith, inside))
place (from ∷ others) piece among = place_from from others piece among

-- both its ends are points of the chain
pub ends-among : (chain : List Point) (piece : Edge) → Contains (pieces chain) piece → Contains chain (start_of piece) × Contains chain (end_of piece)
ends-among chain piece among =
    let at = place chain piece among in
    let within = at.within in
    let is = at.is (start_of piece) in (
      subst (λ (e : Edge). Contains chain (start_of e)) is (Contains-get_or chain at.k (start_of piece) (omega (arith, within))),
      subst (λ (e : Edge). Contains chain (end_of e)) is (Contains-get_or chain (suc at.k) (start_of piece) within),
    )

module _ (IsNode : ℤ → ℤ → Type 0) (edge : Edge) (chain : List Point) (passes : (x y : ℤ) → IsNode x y → Passes edge x y) (along : IsAlong IsNode edge chain) where
  -- of two places of a chain the earlier one isn't behind the later one
  upto_at : (i j : ℕ) (d : Point) → i ≤ j → j < length chain → Upto edge (get_or chain i d).x (get_or chain i d).y (get_or chain j d).x (get_or chain j d).y
  upto_at i j d order within =
      by_lt_z (pos i) (pos j)
      (λ before. along.in_order i j d (omega (arith, ints, before)) within)
      (λ back.
      let same : i ≡ j = omega (arith, ints, back, order) in
      subst (λ (k : ℕ). Upto edge (get_or chain i d).x (get_or chain i d).y (get_or chain k d).x (get_or chain k d).y) same (Upto-itself edge (get_or chain i d)))

  -- from a place to the next goes a piece
  neighbours : (k : ℕ) (d : Point) → suc k < length chain → IsPiece IsNode edge (edge_between (get_or chain k d) (get_or chain (suc k) d))
  neighbours k d within =
      let one = get_or chain k d in
      let next = get_or chain (suc k) d in
      let from = (along.exact one).0 (Contains-get_or chain k d (omega (arith, within))) in
      let to = (along.exact next).0 (Contains-get_or chain (suc k) d within) in
      IsPiece-neighbours IsNode edge (edge_between one next) from to (passes one.x one.y from) (passes next.x next.y to)
      (upto_at k (suc k) d (omega arith) within)
      (λ x y is_node passed.
      let among = (along.exact (point_at x y)).1 is_node in
      let m = among.0 in
      let inside = among.1 in
      let is : get_or chain m d ≡ point_at x y = get_or_default chain m d (point_at x y) inside ∙ among.2 in
      by_lt_z (pos k) (pos m)
      (λ behind. inr (subst (λ (c : Point). Upto edge next.x next.y c.x c.y) is (upto_at (suc k) m d (omega (arith, ints, behind)) inside)))
      (λ before. inl (subst (λ (c : Point). Upto edge c.x c.y one.x one.y) is (upto_at m k d (omega (arith, ints, before)) (omega (arith, within))))))

  -- each edge of a chain's pieces is a piece
  pub IsPiece-along : (piece : Edge) → Contains (pieces chain) piece → IsPiece IsNode edge piece
  IsPiece-along piece among =
      let at = place chain piece among in
      subst (λ (e : Edge). IsPiece IsNode edge e) (at.is (start_of edge)) (neighbours at.k (start_of edge) at.within)

  -- it goes the way of its edge, on both axes
  pub upto-along : (piece : Edge) → Contains (pieces chain) piece → Upto edge piece.x0 piece.y0 piece.x1 piece.y1
  upto-along piece among =
      let at = place chain piece among in
      subst (λ (e : Edge). Upto edge e.x0 e.y0 e.x1 e.y1) (at.is (start_of edge)) (upto_at at.k (suc at.k) (start_of edge) (omega arith) at.within)

  -- it isn't a point
  pub proper-along : (piece : Edge) → Contains (pieces chain) piece → start_of piece ≢ end_of piece
  proper-along piece among =
      let at = place chain piece among in
      subst (λ (e : Edge). start_of e ≢ end_of e) (at.is (start_of edge)) (along.once at.k (suc at.k) (start_of edge) (omega arith) at.within)

-- ---- of many edges

-- Chains of edges over the nodes that a predicate tells for each.
abbrev pub AreAlong : (Edge → ℤ → ℤ → Type 0) → List Edge → List (List Point) → Type 0
AreAlong IsNode edges chains = AllZip (λ edge chain. IsAlong (IsNode edge) edge chain) edges chains

-- It is a piece of one of the edges.
pub record PieceOf (IsNode : Edge → ℤ → ℤ → Type 0) (edges : List Edge) (piece : Edge) : Type 0 where
  pub edge : Edge
  pub among : Contains edges edge
  pub is : IsPiece (IsNode edge) edge piece

-- each piece of the chains is a piece of one of the edges
pub piece_of : (IsNode : Edge → ℤ → ℤ → Type 0) (passes : (edge : Edge) (x y : ℤ) → IsNode edge x y → Passes edge x y) (edges : List Edge) (chains : List (List Point)) (piece : Edge) → AreAlong IsNode edges chains → Contains (flat_map pieces chains) piece
    → PieceOf IsNode edges piece
piece_of IsNode passes [] [] piece are (k, inside, is) = absurd (omega (arith, inside))
piece_of IsNode passes [] (chain ∷ chains) piece are among = absurd are
piece_of IsNode passes (edge ∷ edges) [] piece are among = absurd are
piece_of IsNode passes (edge ∷ edges) (chain ∷ chains) piece (along, are) among =
    elim (Contains-append_cases (pieces chain) (flat_map pieces chains) piece among) [
      | inl here ↦ record { edge = edge; among = (0, omega arith, refl); is = IsPiece-along (IsNode edge) edge chain (passes edge) along piece here }
      | inr later ↦
          let found = piece_of IsNode passes edges chains piece are later in
          let inside = found.among.1 in record {
            edge = found.edge;
            among = (suc found.among.0, omega (arith, inside), found.among.2);
            is = found.is;
          }
    ]

-- ---- where all hot points that an edge passes are its nodes

-- They are.
abbrev PassesHot : List Edge → Edge → ℤ → ℤ → Type 0
PassesHot edges edge x y = IsHot edges x y × Passes edge x y

-- what was told of chains over any nodes
pub IsPiece-chain : (edges : List Edge) (edge : Edge) (chain : List Point) → IsChain edges edge chain → (piece : Edge) → Contains (pieces chain) piece → IsPiece (λ x y. IsHot edges x y × Passes edge x y) edge piece
IsPiece-chain edges edge chain is = IsPiece-along (PassesHot edges edge) edge chain (λ x y node. node.1) is

pub piece-upto : (edges : List Edge) (edge : Edge) (chain : List Point) → IsChain edges edge chain → (piece : Edge) → Contains (pieces chain) piece → Upto edge piece.x0 piece.y0 piece.x1 piece.y1
piece-upto edges edge chain is = upto-along (PassesHot edges edge) edge chain (λ x y node. node.1) is

pub piece-proper : (edges : List Edge) (edge : Edge) (chain : List Point) → IsChain edges edge chain → (piece : Edge) → Contains (pieces chain) piece → start_of piece ≢ end_of piece
piece-proper edges edge chain is = proper-along (PassesHot edges edge) edge chain (λ x y node. node.1) is

-- what the common points of two of the edges round to is hot
pub crossing-passed : (edges : List Edge) (one other : Edge) → Contains edges one → Contains edges other → HasCrossings (PassesHot edges one) one other
crossing-passed edges one other first second point x y slanted of_one of_other rounds =
    (inr (one, other, first, second, (slanted, (point, of_one, of_other, rounds))), (point, of_one, rounds))

-- each two pieces meet only at common ends, or are the same
pub chains-meet : (edges : List Edge) (chains : List (List Point)) → AreChains edges chains → (piece other_piece : Edge) (point : RationalPoint) → Contains (flat_map pieces chains) piece → Contains (flat_map pieces chains) other_piece → IsOf piece point → IsOf other_piece point → MeetAtEnds piece other_piece point
chains-meet edges chains are piece other_piece point first second of_one of_other =
    let one = piece_of (PassesHot edges) (λ edge x y node. node.1) edges chains piece are first in
    let other = piece_of (PassesHot edges) (λ edge x y node. node.1) edges chains other_piece are second in
    pieces-meet (PassesHot edges one.edge) (PassesHot edges other.edge) one.edge other.edge piece other_piece point one.is other.is
    (crossing-passed edges one.edge other.edge one.among other.among)
    (record { here = λ x y node passes. (node.0, passes); there = λ x y node passes. (node.0, passes) })
    of_one of_other
