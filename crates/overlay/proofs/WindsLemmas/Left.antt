-- Edges of which all have the same number on their left wind around each point that often, or once less.
use Rattle.std.proofs.Common.{◌≡◌, ◌≢◌, ◌⊎◌, inl, inr, ◌++◌, ℤ, pos, negsuc, ◌+ℤ◌, ◌-ℤ◌, ◌<ℤ◌, Bool, true, false, not, ◌&&◌, cond, List, [], ◌∷◌, get_or, map, refl, ap, ap₂, sym, subst, ◌∙◌, arith}
use Rattle.std.specs.Ordering.{int_eq}
use Rattle.std.specs.List.{All, Contains}
use Rattle.std.proofs.lemmas.Bool.Decides.{Decides-int_eq}
use Rattle.std.proofs.lemmas.Int.{by_lt_z, ints}
use Rattle.std.proofs.lemmas.List.{append-nil}
use Rattle.std.proofs.lemmas.List.Elements.{All-contains, All-head, All-tail, Contains-append_left}
use Rattle.i_tree.proofs.RootLemmas.Joined.{AllPairs-to_map}
use Rattle.plane.specs.declared.edge.Edge.{Edge}
use Rattle.plane.specs.Meet.Edges.{RationalPoint}
use Rattle.plane.specs.SweepLine.Heights.{rightwards}
use Rattle.plane.proofs.PairsLemmas.Bags.{Contains-from_map}
use Rattle.noding.specs.Windings.{IsClosed, count, winding}
use Rattle.overlay.specs.declared.fill.pieces.Piece.{Piece}
use Rattle.overlay.specs.Fill.Counts.{Counts, counts_above, counts_below, kept_edge, kept_edges}
use Rattle.overlay.specs.Fill.Filled.{AreDistinct, AreNoded}
use Rattle.overlay.specs.Fill.Pieces.{ArePieces, total, weight}
use Rattle.overlay.specs.Sides.{just_below, on_left}
use Rattle.overlay.proofs.FillLemmas.Filled.{filled}
use Rattle.overlay.proofs.FillLemmas.Premises.{All-among}
use Rattle.overlay.proofs.FillLemmas.Tests.{int_eq-true, lt_false, lt_true}
use Rattle.overlay.proofs.FillLemmas.Weights.{weight-left, weight-right}
use Rattle.overlay.proofs.KeptLemmas.First.{turned-same}
use Rattle.overlay.proofs.PieceLemmas.Made.{rightwards-onwards}

-- ---- a test of two numbers

-- One of the number and the one before it.
abbrev pub IsUpto : ℤ → ℤ → Type 0
IsUpto z c = (c ≡ z) ⊎ (c ≡ (z -ℤ pos 1))

-- The count is neither.
abbrev is_other : ℤ → Counts → Bool
is_other z counts = not (int_eq counts.subject z) && not (int_eq counts.subject (z -ℤ pos 1))

-- which the test tells
tests : (s t : Bool) → (s ≡ true) ⊎ (t ≡ true) → (not s && not t) ≡ false
tests true t either = refl
tests false true either = refl
tests false false (inl is) = cc
tests false false (inr is) = cc

untests : (s t : Bool) → (not s && not t) ≡ false → (s ≡ true) ⊎ (t ≡ true)
untests true t is = inl refl
untests false true is = inr refl
untests false false is = cc

other-not : (z a b : ℤ) → IsUpto z a → is_other z (record { subject = a; clip = b }) ≡ false
other-not z a b (inl is) = tests (int_eq a z) (int_eq a (z -ℤ pos 1)) (inl (int_eq-true a z is))
other-not z a b (inr is) = tests (int_eq a z) (int_eq a (z -ℤ pos 1)) (inr (int_eq-true a (z -ℤ pos 1) is))

not-other : (z a b : ℤ) → is_other z (record { subject = a; clip = b }) ≡ false → IsUpto z a
not-other z a b is = by (untests (int_eq a z) (int_eq a (z -ℤ pos 1)) is)
  where
    by : (int_eq a z ≡ true) ⊎ (int_eq a (z -ℤ pos 1) ≡ true) → IsUpto z a
    by (inl same) = inl ((Decides-int_eq a z).0 same)
    by (inr same) = inr ((Decides-int_eq a (z -ℤ pos 1)).0 same)

-- what counts nothing fails the test
uncounted : (t : Bool) → count t ≡ pos 0 → t ≡ false
uncounted false is = refl
uncounted true is = absurd (omega (arith, ints, is))

-- ---- nothing is kept where no piece has a side that passes

none-kept : (inside : Counts → Bool) (subject clip : List Edge) (pieces : List Piece)
    → All (λ piece. (inside (counts_below subject clip piece) ≡ false) × (inside (counts_above subject clip piece) ≡ false)) pieces → kept_edges inside subject clip pieces ≡ []
none-kept inside subject clip [] all = refl
none-kept inside subject clip (piece ∷ pieces) all =
    let Fails : Piece → Type 0 = λ p. (inside (counts_below subject clip p) ≡ false) × (inside (counts_above subject clip p) ≡ false) in
    let (below, above) = All-head Fails piece pieces all in
    ap₂ (λ (s t : Bool). kept_edge s t piece.edge (kept_edges inside subject clip pieces)) below above
    ∙ none-kept inside subject clip pieces (All-tail Fails piece pieces all)

-- ---- the pieces of edges

-- An edge turned rightwards, with its weight.
abbrev piece_of : Edge → Piece
piece_of edge = record { edge = rightwards edge; subject = weight edge; clip = pos 0 }

-- they weigh as much as the edges
weighs : (test : Edge → Bool) (edges : List Edge) → total (λ edge. cond (test (rightwards edge)) (weight edge) (pos 0)) edges ≡ total (λ piece. cond (test piece.edge) piece.subject (pos 0)) (map piece_of edges)
weighs test [] = refl
weighs test (edge ∷ edges) = ap (λ (z : ℤ). cond (test (rightwards edge)) (weight edge) (pos 0) +ℤ z) (weighs test edges)

-- and nothing of a second list
weighs-none : (test : Edge → Bool) (edges : List Edge) → pos 0 ≡ total (λ piece. cond (test piece.edge) piece.clip (pos 0)) (map piece_of edges)
weighs-none test [] = refl
weighs-none test (edge ∷ edges) = sym (nothing (test (rightwards edge)) (total (λ (piece : Piece). cond (test piece.edge) piece.clip (pos 0)) (map piece_of edges)) (sym (weighs-none test edges)))
  where
    nothing : (t : Bool) (z : ℤ) → z ≡ pos 0 → (cond t (pos 0) (pos 0) +ℤ z) ≡ pos 0
    nothing true z is = omega (arith, ints, is)
    nothing false z is = omega (arith, ints, is)

module _ (edges : List Edge) (closed : IsClosed edges) (noded : AreNoded edges) (distinct : AreDistinct edges) (sloped : All (λ edge. edge.x0 ≢ edge.x1) edges) where
  abbrev pieces : List Piece
  pieces = map piece_of edges

  -- one by one
  each : (P : Piece → Type 0) → ((edge : Edge) → Contains edges edge → P (piece_of edge)) → All P pieces
  each P holds = All-among P pieces (λ piece among. let (edge, inside, is) = Contains-from_map piece_of edges piece among in subst P is (holds edge inside))

  has-slope : (edge : Edge) → Contains edges edge → edge.x0 ≢ edge.x1
  has-slope edge among = All-contains (λ (e : Edge). e.x0 ≢ e.x1) edges edge sloped among

  are : ArePieces edges [] pieces
  are = record {
    onwards = each (λ (p : Piece). p.edge.x0 <ℤ p.edge.x1) (λ edge inside. rightwards-onwards edge (has-slope edge inside));
    of = each (λ (p : Piece). (e : Edge) × Contains (edges ++ []) e × (rightwards e ≡ p.edge)) (λ edge inside. (edge, Contains-append_left edges [] edge inside, refl));
    distinct = AllPairs-to_map (λ (one other : Piece). one.edge ≢ other.edge) piece_of edges
        (λ i j d below within same. distinct i j d below within (turned-same (get_or edges i d) (get_or edges j d) same));
    joined = λ test. weighs test edges;
    clip_joined = λ test. weighs-none test edges;
  }

  -- on each side of an edge is the number on its left, or one less
  sides : (z : ℤ) (edge : Edge) → edge.x0 ≢ edge.x1 → on_left edges edge ≡ z → IsUpto z (just_below edges edge) × IsUpto z (just_below edges edge +ℤ weight edge)
  sides z edge slope left =
      by_lt_z edge.x0 edge.x1
      (λ onwards.
      let is : (just_below edges edge +ℤ pos 1) ≡ z = sym (ap (λ (t : Bool). cond t (just_below edges edge +ℤ pos 1) (just_below edges edge)) (lt_true edge.x0 edge.x1 onwards)) ∙ left in
      let one = weight-right edge onwards in
      (inr (lower (just_below edges edge) z is), inl (ap (λ (w : ℤ). just_below edges edge +ℤ w) one ∙ is)))
      (λ upto.
      let back : edge.x1 <ℤ edge.x0 = by_lt_z edge.x1 edge.x0 (λ h. h) (λ from. absurd (slope (omega (arith, ints, upto, from)))) in
      let is : just_below edges edge ≡ z = sym (ap (λ (t : Bool). cond t (just_below edges edge +ℤ pos 1) (just_below edges edge)) (lt_false edge.x0 edge.x1 upto)) ∙ left in
      let one = weight-left edge back in
      (inl is, inr (less (just_below edges edge) (weight edge) z is one)))
    where
      lower : (b z : ℤ) → (b +ℤ pos 1) ≡ z → b ≡ (z -ℤ pos 1)
      lower b z is = omega (arith, ints, is)

      less : (b w z : ℤ) → b ≡ z → w ≡ negsuc 0 → (b +ℤ w) ≡ (z -ℤ pos 1)
      less b w z is one = omega (arith, ints, is, one)

  -- So they wind around each point that often, or once less, where none at all is one of both.
  pub winds-left : (z : ℤ) → IsUpto z (pos 0) → All (λ edge. on_left edges edge ≡ z) edges → (point : RationalPoint) → IsUpto z (winding edges point)
  winds-left z none left point =
      let inside = is_other z in
      let kept : kept_edges inside edges [] pieces ≡ [] =
      none-kept inside edges [] pieces
      (each (λ (p : Piece). (inside (counts_below edges [] p) ≡ false) × (inside (counts_above edges [] p) ≡ false))
      (λ edge among.
      let (below, above) = sides z edge (has-slope edge among) (All-contains (λ (e : Edge). on_left edges e ≡ z) edges edge left among) in
      (other-not z (just_below edges edge) (pos 0) below, other-not z (just_below edges edge +ℤ weight edge) (pos 0 +ℤ pos 0) above))) in
      let is = filled edges [] closed (λ test. refl) (subst AreNoded (sym (append-nil edges)) noded) pieces are point inside (other-not z (pos 0) (pos 0) none) in
      not-other z (winding edges point) (winding [] point)
      (uncounted (inside (record { subject = winding edges point; clip = winding [] point })) (sym is ∙ ap (λ (list : List Edge). winding list point) kept))
