-- Which piece of a way is across the columns from x to x + 1: just one is, where the edge is.
use Rattle.std.proofs.Common.{◌≡◌, ◌≢◌, ◌⊎◌, inl, inr, ⊎_elim, ℤ, pos, ◌+ℤ◌, ◌≤ℤ◌, ◌<ℤ◌, Bool, true, false, cond, List, [], ◌∷◌, refl, sym, ap, ◌∙◌, subst, arith}
use Rattle.std.specs.List.{All, AllPairs, Contains}
use Rattle.std.proofs.lemmas.Int.{by_lt_z, ints}
use Rattle.std.proofs.lemmas.List.Elements.{All-contains}
use Rattle.i_tree.proofs.RootLemmas.Lists.{Contains-here, Contains-there}
use Rattle.plane.specs.declared.edge.Edge.{Edge}
use Rattle.plane.specs.declared.point.Point.{Point}
use Rattle.plane.specs.Ends.{edge_between, end_of, start_of}
use Rattle.plane.specs.Meet.Edges.{RationalPoint}
use Rattle.plane.specs.SweepLine.Heights.{rightwards}
use Rattle.plane.proofs.SweepLineLemmas.Rightwards.{rightwards-left, rightwards-right, rightwards-same, turned}
use Rattle.noding.specs.Windings.{pieces, winding}
use Rattle.noding.proofs.SnapLemmas.Counted.{is_counted}
use Rattle.noding.proofs.SnapLemmas.Rounding.{Floor}
use Rattle.overlay.specs.Fill.Counts.{is_over}
use Rattle.overlay.specs.Fill.Filled.{HaveSameEnds}
use Rattle.overlay.specs.Fill.Pieces.{weight}
use Rattle.overlay.proofs.FillLemmas.Kept.{same-rightwards}
use Rattle.overlay.proofs.FillLemmas.Tests.{lt_false, lt_true, over_is, over_true}
use Rattle.overlay.proofs.FillLemmas.Under.{under_over}
use Rattle.overlay.proofs.FillLemmas.Weights.{weight-left, weight-right}
use Rattle.overlay.proofs.FillLemmas.Wound.{winding-total}
use Rattle.overlay.proofs.KeptLemmas.First.{total-one}
use Rattle.monotone_chains.specs.Stretches.{GoesAlong, IsStretch, chord}
use Rattle.monotone_chains.proofs.StretchLemmas.Boxes.{AllPairs-any, ClearIfLong, IsAmid, IsTip, tip-or_amid}
use Rattle.monotone_chains.proofs.StretchLemmas.Distinct.{way-once}
use Rattle.monotone_chains.proofs.StretchLemmas.Noded.{alone-piece}
use Rattle.monotone_chains.proofs.StretchLemmas.NodedKinds.{GoesLong, long-ends, long-rises, way-kind}
use Rattle.monotone_chains.proofs.StretchLemmas.NodedWays.{Follows, follow}
use Rattle.monotone_chains.proofs.StretchLemmas.Rising.{chord-last, last_of}

-- ---- edges across x and x + 1, whichever way they go

-- The edge goes from x or before it to x + 1 or behind it, or back.
abbrev pub IsAcross : ℤ → Edge → Type 0
IsAcross x edge = is_over x (rightwards edge) ≡ true

-- so x is between its ends
pub spanned : (x : ℤ) (edge : Edge) → IsAcross x edge → (edge.x0 ≤ℤ x) × (x <ℤ edge.x1) ⊎ (edge.x1 ≤ℤ x) × (x <ℤ edge.x0)
spanned x edge over = ⊎_elim
    (λ same. inl (subst (λ (e : Edge). (e.x0 ≤ℤ x) × (x <ℤ e.x1)) same (over_is x (rightwards edge) over)))
    (λ back. inr (subst (λ (e : Edge). (e.x0 ≤ℤ x) × (x <ℤ e.x1)) back (over_is x (rightwards edge) over)))
    (same-rightwards edge)

across-right : (x : ℤ) (edge : Edge) → edge.x0 ≤ℤ x → x <ℤ edge.x1 → IsAcross x edge
across-right x edge from before = subst (λ (e : Edge). is_over x e ≡ true) (sym (rightwards-same edge (omega (arith, ints, from, before)))) (over_true x edge from before)

across-left : (x : ℤ) (edge : Edge) → edge.x1 ≤ℤ x → x <ℤ edge.x0 → IsAcross x edge
across-left x edge from before =
    subst (λ (e : Edge). is_over x e ≡ true) (sym (rightwards-left edge (lt_true edge.x1 edge.x0 (omega (arith, ints, from, before))))) (over_true x (turned edge) from before)

-- it isn't vertical
pub across-sloped : (x : ℤ) (edge : Edge) → IsAcross x edge → edge.x1 ≢ edge.x0
across-sloped x edge over same = ⊎_elim (λ span. omega (arith, ints, span.0, span.1, same)) (λ span. omega (arith, ints, span.0, span.1, same)) (spanned x edge over)

pub across-onwards : (x : ℤ) (edge : Edge) → IsAcross x edge → (rightwards edge).x0 <ℤ (rightwards edge).x1
across-onwards x edge over = let span = over_is x (rightwards edge) over in omega (arith, ints, span.0, span.1)

-- and weighs something
pub across-weight : (x : ℤ) (edge : Edge) → IsAcross x edge → weight edge ≢ pos 0
across-weight x edge over none = ⊎_elim
    (λ span. let is = weight-right edge (omega (arith, ints, span.0, span.1)) in omega (arith, ints, is, none))
    (λ span. let is = weight-left edge (omega (arith, ints, span.0, span.1)) in omega (arith, ints, is, none))
    (spanned x edge over)

-- of two edges that follow each other along x only one is across
follows-once : (x : ℤ) (one other : Edge) → Follows one other → IsAcross x one → IsAcross x other → ⊥
follows-once x one other behind over over_too = go behind (spanned x one over) (spanned x other over_too)
  where
    go : Follows one other → (one.x0 ≤ℤ x) × (x <ℤ one.x1) ⊎ (one.x1 ≤ℤ x) × (x <ℤ one.x0) → (other.x0 ≤ℤ x) × (x <ℤ other.x1) ⊎ (other.x1 ≤ℤ x) × (x <ℤ other.x0) → ⊥
    go (inl (first, next, second)) (inl (a, b)) (inl (c, d)) = omega (arith, ints, next, b, c)
    go (inl (first, next, second)) (inl (a, b)) (inr (c, d)) = omega (arith, ints, second, c, d)
    go (inl (first, next, second)) (inr (a, b)) across = omega (arith, ints, first, a, b)
    go (inr (first, next, second)) (inl (a, b)) across = omega (arith, ints, first, a, b)
    go (inr (first, next, second)) (inr (a, b)) (inl (c, d)) = omega (arith, ints, second, c, d)
    go (inr (first, next, second)) (inr (a, b)) (inr (c, d)) = omega (arith, ints, next, a, d)

-- ---- the columns of an edge

-- z is an x of the edge, both ends' among them
abbrev Encloses : Edge → ℤ → Type 0
Encloses edge z = ((rightwards edge).x0 ≤ℤ z) × (z ≤ℤ (rightwards edge).x1)

encloses-ends : (edge : Edge) → Encloses edge edge.x0 × Encloses edge edge.x1
encloses-ends edge =
    by_lt_z edge.x1 edge.x0
    (λ left. subst Both (sym (rightwards-left edge (lt_true edge.x1 edge.x0 left))) ((omega (arith, ints, left), omega (arith, ints)), (omega (arith, ints), omega (arith, ints, left))))
    (λ from. subst Both (sym (rightwards-right edge (lt_false edge.x1 edge.x0 from))) ((omega (arith, ints), omega (arith, ints, from)), (omega (arith, ints, from), omega (arith, ints))))
  where
    Both : Edge → Type 0
    Both e = ((e.x0 ≤ℤ edge.x0) × (edge.x0 ≤ℤ e.x1)) × ((e.x0 ≤ℤ edge.x1) × (edge.x1 ≤ℤ e.x1))

-- each point of a stretch is in the columns of its chord
chord-encloses : (s : List Point) → IsStretch s → (edge : Edge) → HaveSameEnds edge (chord s) → (p : Point) → Contains s p → Encloses edge p.x
chord-encloses s is edge same p of = go (ends same) (tip-or_amid s is p of)
  where
    ends : HaveSameEnds edge (chord s) → Encloses edge (chord s).x0 × Encloses edge (chord s).x1
    ends (inl on) = subst (λ (e : Edge). Encloses edge e.x0 × Encloses edge e.x1) on (encloses-ends edge)
    ends (inr back) = let both = encloses-ends edge in subst (λ (e : Edge). Encloses edge e.x1 × Encloses edge e.x0) back (both.1, both.0)

    go : Encloses edge (chord s).x0 × Encloses edge (chord s).x1 → IsTip s p ⊎ IsAmid s p.x → Encloses edge p.x
    go (from, to) (inl (inl first)) = subst (λ (q : Point). Encloses edge q.x) (sym first) from
    go (from, to) (inl (inr last)) = subst (λ (q : Point). Encloses edge q.x) (sym last) to
    go (from, to) (inr (inl (a, b))) = (omega (arith, ints, from.0, a), omega (arith, ints, to.1, b))
    go (from, to) (inr (inr (a, b))) = (omega (arith, ints, to.0, a), omega (arith, ints, from.1, b))

-- ---- points from one side of x to the other

-- One of the pieces is across.
pub record HasAcross (way : List Point) (x : ℤ) : Type 0 where
  pub piece : Edge
  pub among : Contains (pieces way) piece
  pub over : IsAcross x piece

across-later : (from to : Point) (others : List Point) (x : ℤ) → HasAcross (to ∷ others) x → HasAcross (from ∷ to ∷ others) x
across-later from to others x later = record {
  piece = later.piece;
  among = Contains-there (edge_between from to) (pieces (to ∷ others)) later.piece later.among;
  over = later.over;
}

across-first : (from to : Point) (others : List Point) (x : ℤ) → IsAcross x (edge_between from to) → HasAcross (from ∷ to ∷ others) x
across-first from to others x over = record { piece = edge_between from to; among = Contains-here (edge_between from to) (pieces (to ∷ others)); over = over }

rightwards-across : (from : Point) (others : List Point) (x : ℤ) → from.x ≤ℤ x → x <ℤ (last_of from others).x → HasAcross (from ∷ others) x
rightwards-across from [] x low high = absurd (omega (arith, ints, low, high))
rightwards-across from (to ∷ others) x low high =
    by_lt_z x to.x (λ here. across-first from to others x (across-right x (edge_between from to) low here)) (λ upto. across-later from to others x (rightwards-across to others x upto high))

leftwards-across : (from : Point) (others : List Point) (x : ℤ) → x <ℤ from.x → (last_of from others).x ≤ℤ x → HasAcross (from ∷ others) x
leftwards-across from [] x high low = absurd (omega (arith, ints, low, high))
leftwards-across from (to ∷ others) x high low =
    by_lt_z x to.x (λ upto. across-later from to others x (leftwards-across to others x upto low)) (λ here. across-first from to others x (across-left x (edge_between from to) here high))

chord-across : (way : List Point) (x : ℤ) → IsAcross x (chord way) → HasAcross way x
chord-across [] x over = absurd (across-sloped x (chord []) over refl)
chord-across (from ∷ others) x over = go (spanned x (chord (from ∷ others)) over)
  where
    last : (chord (from ∷ others)).x1 ≡ (last_of from others).x
    last = chord-last from others

    go : ((chord (from ∷ others)).x0 ≤ℤ x) × (x <ℤ (chord (from ∷ others)).x1) ⊎ ((chord (from ∷ others)).x1 ≤ℤ x) × (x <ℤ (chord (from ∷ others)).x0) → HasAcross (from ∷ others) x
    go (inl (a, b)) = rightwards-across from others x a (omega (arith, ints, b, last))
    go (inr (a, b)) = leftwards-across from others x b (omega (arith, ints, a, last))

-- ---- ways

goes-chord : (all : List (List Point)) (edge : Edge) (way : List Point) → GoesAlong all edge way → chord way ≡ edge
goes-chord all edge way (inl (is, among)) = is
goes-chord all edge way (inr (is, none)) = ap chord is

module _ (all : List (List Point)) (each : All IsStretch all) (clear : AllPairs ClearIfLong all) (edge : Edge) (way : List Point) (goes : GoesAlong all edge way) where
  -- where the edge is across, a piece is
  pub way-across : (x : ℤ) → IsAcross x edge → HasAcross way x
  way-across x over = chord-across way x (subst (IsAcross x) (sym (goes-chord all edge way goes)) over)

  -- and no other
  pub way-once_across : (x : ℤ) (one other : Edge) → Contains (pieces way) one → Contains (pieces way) other → IsAcross x one → IsAcross x other → one ≡ other
  way-once_across x one other first second over over_too = elim (way-kind all each clear edge way goes) [
    | inl long ↦ elim (AllPairs-any Either (λ a b either. ⊎_elim inr inl either) (pieces way) (λ k l d before within. inl (follow way (long-rises all each clear edge way long) k l d before within)) one other first second) [
      | inl same ↦ same
      | inr (inl behind) ↦ absurd (follows-once x one other behind over over_too)
      | inr (inr before) ↦ absurd (follows-once x other one before over_too over)
    ]
    | inr alone ↦ sym (alone-piece all edge way one alone first) ∙ alone-piece all edge way other alone second
  ]
    where
      Either : Edge → Edge → Type 0
      Either a b = Follows a b ⊎ Follows b a

  -- the pieces are within the edge's columns
  pub way-within : (piece : Edge) → Contains (pieces way) piece → ((rightwards edge).x0 ≤ℤ (rightwards piece).x0) × ((rightwards piece).x1 ≤ℤ (rightwards edge).x1)
  way-within piece among = elim (way-kind all each clear edge way goes) [
    | inl long ↦ along long
    | inr alone ↦ subst (λ (e : Edge). ((rightwards edge).x0 ≤ℤ (rightwards e).x0) × ((rightwards e).x1 ≤ℤ (rightwards edge).x1)) (alone-piece all edge way piece alone among) (omega (arith, ints), omega (arith, ints))
  ]
    where
      along : GoesLong all edge way → ((rightwards edge).x0 ≤ℤ (rightwards piece).x0) × ((rightwards piece).x1 ≤ℤ (rightwards edge).x1)
      along long =
          let (from, to) = long-ends all each clear edge way long piece among in
          let is = All-contains IsStretch all long.stretch each long.among in
          let a = chord-encloses long.stretch is edge long.turned (start_of piece) from in
          let b = chord-encloses long.stretch is edge long.turned (end_of piece) to in
          ⊎_elim
          (λ on. subst (λ (e : Edge). ((rightwards edge).x0 ≤ℤ e.x0) × (e.x1 ≤ℤ (rightwards edge).x1)) (sym on) (a.0, b.1))
          (λ back. subst (λ (e : Edge). ((rightwards edge).x0 ≤ℤ e.x0) × (e.x1 ≤ℤ (rightwards edge).x1)) (sym back) (b.0, a.1))
          (same-rightwards piece)

  -- so the edge is across where a piece is
  pub edge-across : (x : ℤ) (piece : Edge) → Contains (pieces way) piece → IsAcross x piece → IsAcross x edge
  edge-across x piece among over =
      let (from, upto) = way-within piece among in
      let span = over_is x (rightwards piece) over in
      over_true x (rightwards edge) (omega (arith, ints, from, span.0)) (omega (arith, ints, upto, span.1))

  -- ---- how often they wind

  -- all pieces wind around a point from x to x + 1 as the one across does
  pub way-winds : (x : ℤ) (point : RationalPoint) → Floor point.n point.x x → (piece : Edge) → Contains (pieces way) piece → IsAcross x piece
      → winding (pieces way) point ≡ cond (is_counted (rightwards piece) point) (weight piece) (pos 0)
  way-winds x point floor piece among over =
      winding-total (pieces way) point
      ∙ total-one (λ e. cond (is_counted (rightwards e) point) (weight e) (pos 0)) piece (pieces way) among (way-once all each clear edge way goes)
      (λ e inside apart. nothing (is_counted (rightwards e) point) (weight e) (λ counted. apart (inl (way-once_across x e piece inside among (under_over point x floor (rightwards e) counted) over))))
    where
      nothing : (t : Bool) (w : ℤ) → ¬ (t ≡ true) → cond t w (pos 0) ≡ pos 0
      nothing true w not_so = absurd (not_so refl)
      nothing false w not_so = refl

-- an edge does by itself
pub edge-winds : (edge : Edge) (point : RationalPoint) → winding (edge ∷ []) point ≡ cond (is_counted (rightwards edge) point) (weight edge) (pos 0)
edge-winds edge point = winding-total (edge ∷ []) point ∙ alone (cond (is_counted (rightwards edge) point) (weight edge) (pos 0))
  where
    alone : (a : ℤ) → (a +ℤ pos 0) ≡ a
    alone a = omega (arith, ints)
