-- The edge with which a ring begins, and the piece with which the widened ring does.
use Rattle.std.proofs.Common.{◌≡◌, ◌≢◌, inl, inr, zero, suc, ℤ, pos, ◌≤ℤ◌, true, false, List, [], ◌∷◌, Option, Some, None, refl, sym, ap, ◌∙◌, subst, arith}
use Rattle.std.specs.Int.Signed.{lt_z}
use Rattle.std.specs.List.{All, AllPairs, AllZip, Contains, flat_map}
use Rattle.std.proofs.lemmas.Int.{by_lt_z, ints}
use Rattle.std.proofs.lemmas.List.Elements.{Contains-append_left, Contains-append_right}
use Rattle.plane.specs.declared.edge.Edge.{Edge}
use Rattle.plane.specs.declared.point.Point.{Point}
use Rattle.plane.specs.SweepLine.Heights.{rightwards}
use Rattle.noding.specs.Windings.{pieces}
use Rattle.overlay.specs.Fill.Begins.{BeginsUpto}
use Rattle.overlay.specs.Fill.Counts.{is_lower_on}
use Rattle.overlay.specs.Fill.Filled.{AreDistinct, AreNoded, HaveSameEnds}
use Rattle.overlay.specs.Fill.Pieces.{weight}
use Rattle.overlay.specs.Polygons.{first_sloped, runs_rightwards}
use Rattle.overlay.proofs.FillLemmas.Order.{lower-asym, lower-irrefl}
use Rattle.overlay.proofs.FillLemmas.Tests.{lt_false, lt_true, over_is, over_true}
use Rattle.overlay.proofs.FillLemmas.Kept.{same-exchanged}
use Rattle.overlay.proofs.FillLemmas.Weights.{weight-left, weight-none, weight-right}
use Rattle.overlay.proofs.GroupingLemmas.Begins.{IsFirst, Told, told-all}
use Rattle.overlay.proofs.KeptLemmas.First.{turned-meet, turned-same}
use Rattle.overlay.proofs.PieceLemmas.Made.{begins-lower, rightwards-onwards}
use Rattle.monotone_chains.specs.Stretches.{GoesAlong, IsStretch}
use Rattle.monotone_chains.proofs.StretchLemmas.Boxes.{AllPairs-any, ClearIfLong}
use Rattle.monotone_chains.proofs.StretchLemmas.NestedOrder.{IsLower, differ, lower-pieces, same-weight}
use Rattle.monotone_chains.proofs.StretchLemmas.NestedAcross.{IsAcross, edge-across, across-onwards, across-sloped, way-across, way-within}
use Rattle.monotone_chains.proofs.StretchLemmas.Noded.{PieceOf, piece-of}
use Rattle.monotone_chains.proofs.StretchLemmas.Placed.{IsPlaced}

-- ---- the way of an edge

-- The way that the edge goes is one of these.
pub record WayOf (all : List (List Point)) (edge : Edge) (ways : List (List Point)) : Type 0 where
  pub way : List Point
  pub goes : GoesAlong all edge way
  pub within : (piece : Edge) → Contains (pieces way) piece → Contains (flat_map pieces ways) piece

pub way-of : (all : List (List Point)) (edges : List Edge) (ways : List (List Point)) (edge : Edge) → AllZip (GoesAlong all) edges ways → Contains edges edge → WayOf all edge ways
way-of all [] ways edge zip (k, within, is) = absurd (omega (arith, within))
way-of all (first ∷ edges) [] edge zip among = absurd zip
way-of all (first ∷ edges) (way ∷ ways) edge (goes, zip) (zero, within, is) = record {
  way = way;
  goes = subst (λ (e : Edge). GoesAlong all e way) is goes;
  within = λ piece held. Contains-append_left (pieces way) (flat_map pieces ways) piece held;
}
way-of all (first ∷ edges) (way ∷ ways) edge (goes, zip) (suc k, within, is) =
    let found = way-of all edges ways edge zip (k, omega (arith, within), is) in record {
      way = found.way;
      goes = found.goes;
      within = λ piece held. Contains-append_right (pieces way) (flat_map pieces ways) piece (found.within piece held);
    }

-- a piece of some edges is one of more edges
abbrev pub piece-among : (all : List (List Point)) (some edges : List Edge) (piece : Edge) → ((edge : Edge) → Contains some edge → Contains edges edge) → PieceOf all some piece → PieceOf all edges piece
piece-among all some edges piece there of = record {
  edge = of.edge;
  way = of.way;
  among = there of.edge of.among;
  goes = of.goes;
  is = of.is;
}

-- A piece of the edge is across x and x + 1.
pub record PieceAcross (all : List (List Point)) (edges wide : List Edge) (edge : Edge) (x : ℤ) : Type 0 where
  pub piece : Edge
  pub of : PieceOf all edges piece
  pub is : of.edge ≡ edge
  pub among : Contains wide piece
  pub over : IsAcross x piece

-- an edge that begins no later starts no further right
begins-from : (one other : Edge) → BeginsUpto one other → one.x0 ≤ℤ other.x0
begins-from one other (inl less) = omega (arith, ints, less)
begins-from one other (inr (same, rest)) = omega (arith, ints, same)

-- edges that weigh the same run the same way
runs-same : (one other : Edge) → weight one ≡ weight other → lt_z one.x0 one.x1 ≡ lt_z other.x0 other.x1
runs-same one other same = by_lt_z one.x0 one.x1
    (λ less.
    let a = weight-right one less in
    by_lt_z other.x0 other.x1 (λ right. lt_true one.x0 one.x1 less ∙ sym (lt_true other.x0 other.x1 right)) (λ back. let b = other_weight other back in absurd (omega (arith, ints, a, b, same))))
    (λ from.
    let a = other_weight one from in
    by_lt_z other.x0 other.x1 (λ right. let b = weight-right other right in absurd (omega (arith, ints, a, b, same))) (λ back. lt_false one.x0 one.x1 from ∙ sym (lt_false other.x0 other.x1 back)))
  where
    other_weight : (e : Edge) → e.x1 ≤ℤ e.x0 → weight e ≤ℤ pos 0
    other_weight e back = by_lt_z e.x1 e.x0 (λ left. let is = weight-left e left in omega (arith, ints, is)) (λ from. let is = weight-none e (omega (arith, ints, from, back)) in omega (arith, ints, is))

module _ (all : List (List Point)) (each : All IsStretch all) (clear : AllPairs ClearIfLong all) (edges : List Edge) (placed : All (λ edge. edge.x1 ≢ edge.x0 → IsPlaced all edge) edges)
    (noded : AreNoded edges) (distinct : AreDistinct edges) (wide : List Edge) (wide_noded : AreNoded wide) where
  -- some of the edges, and the ways that they go
  module _ (some : List Edge) (ways : List (List Point)) (zip : AllZip (GoesAlong all) some ways) (there : (edge : Edge) → Contains some edge → Contains edges edge)
      (wide_there : (piece : Edge) → Contains (flat_map pieces ways) piece → Contains wide piece) where
    pub piece-across : (edge : Edge) → Contains some edge → (x : ℤ) → IsAcross x edge → PieceAcross all some (flat_map pieces ways) edge x
    piece-across edge among x over =
        let found = way-of all some ways edge zip among in
        let has = way-across all each clear edge found.way found.goes x over in record {
          piece = has.piece;
          of = record { edge = edge; way = found.way; among = among; goes = found.goes; is = has.among };
          is = refl;
          among = found.within has.piece has.among;
          over = has.over;
        }

    -- a piece that isn't vertical is across the columns from its start on, and so is its edge
    starts-across : (edge : Edge) → edge.x1 ≢ edge.x0 → IsAcross (rightwards edge).x0 edge
    starts-across edge sloped = over_true (rightwards edge).x0 (rightwards edge) (omega (arith, ints)) (rightwards-onwards edge (λ same. sloped (sym same)))

    sloped-of : (piece : Edge) (of : PieceOf all some piece) → piece.x1 ≢ piece.x0 → of.edge.x1 ≢ of.edge.x0
    sloped-of piece of sloped = across-sloped (rightwards piece).x0 of.edge (edge-across all each clear of.edge of.way of.goes (rightwards piece).x0 piece of.is (starts-across piece sloped))

    -- Of the pieces the one that begins first is of the edge that does.
    pub record FirstPiece (first : Edge) : Type 0 where
      pub piece : Edge
      pub is : first_sloped None (flat_map pieces ways) ≡ Some piece
      pub among : Contains (flat_map pieces ways) piece
      pub of : PieceOf all some piece
      pub same : of.edge ≡ first
      pub at : (rightwards piece).x0 ≡ (rightwards first).x0
      pub over : IsAcross (rightwards first).x0 piece

    module _ (first : Edge) (begins : IsFirst some first) (piece : Edge) (wide_begins : IsFirst (flat_map pieces ways) piece) where
      abbrev x : ℤ
      x = (rightwards first).x0

      first_across : PieceAcross all some (flat_map pieces ways) first x
      first_across = piece-across first begins.among x (starts-across first begins.sloped)

      abbrev of : PieceOf all some piece
      of = piece-of all some ways piece zip wide_begins.among

      -- all of these start at one x
      starts : ((rightwards piece).x0 ≡ x) × ((rightwards of.edge).x0 ≡ x) × ((rightwards first_across.piece).x0 ≡ x)
      starts =
          let own = begins-from (rightwards piece) (rightwards first_across.piece) (wide_begins.begins first_across.piece first_across.among (across-sloped x first_across.piece first_across.over)) in
          let upto = (over_is x (rightwards first_across.piece) first_across.over).0 in
          let from = (way-within all each clear of.edge of.way of.goes piece of.is).0 in
          let least = begins-from (rightwards first) (rightwards of.edge) (begins.begins of.edge of.among (sloped-of piece of wide_begins.sloped)) in
          (omega (arith, ints, own, upto, from, least), omega (arith, ints, own, upto, from, least), omega (arith, ints, own, upto, from, least))

      across_piece : IsAcross x piece
      across_piece = subst (λ z. IsAcross z piece) starts.0 (starts-across piece wide_begins.sloped)

      -- another edge would have a piece above the first edge's, and not begin before it
      other-edge : ¬ (HaveSameEnds first of.edge) → ⊥
      other-edge apart =
          let first_sloped_too = rightwards-onwards first (λ same. begins.sloped (sym same)) in
          let edge_onwards = rightwards-onwards of.edge (λ same. sloped-of piece of wide_begins.sloped (sym same)) in
          let lower : IsLower x first of.edge = begins-lower (rightwards first) (rightwards of.edge) (turned-meet edges noded first of.edge (there first begins.among) (there of.edge of.among)) (λ same. apart (turned-same first of.edge same))
          first_sloped_too edge_onwards (sym starts.1) (begins.begins of.edge of.among (sloped-of piece of wide_begins.sloped)) in
          let higher : IsLower x first_across.piece piece = lower-pieces all each clear edges placed noded first_across.piece piece (piece-among all some edges first_across.piece there first_across.of) (piece-among all some edges piece there of) x
          first_across.over across_piece wide wide_noded (wide_there first_across.piece first_across.among) (wide_there piece wide_begins.among) (subst (λ (e : Edge). IsLower x e of.edge) (sym first_across.is) lower) in
          let back = begins-lower (rightwards piece) (rightwards first_across.piece) (turned-meet wide wide_noded piece first_across.piece (wide_there piece wide_begins.among) (wide_there first_across.piece first_across.among))
          (λ same. differ (sym (subst (λ (e : Edge). is_lower_on x (rightwards first_across.piece) e ≡ true) same higher) ∙ lower-irrefl x (rightwards first_across.piece)))
          (across-onwards x piece across_piece) (across-onwards x first_across.piece first_across.over) (starts.0 ∙ sym starts.2) (wide_begins.begins first_across.piece first_across.among (across-sloped x first_across.piece first_across.over)) in
          differ (sym (subst (λ z. is_lower_on z (rightwards piece) (rightwards first_across.piece) ≡ true) starts.0 back) ∙ lower-asym x (rightwards first_across.piece) (rightwards piece) higher)

      of-first : first ≡ of.edge
      of-first = elim (AllPairs-any (λ one other. ¬ (HaveSameEnds one other)) (λ one other apart back. apart (same-exchanged other one back)) edges distinct first of.edge (there first begins.among) (there of.edge of.among)) [
        | inl same ↦ same
        | inr apart ↦ absurd (other-edge apart)
      ]

    pub first-piece : (first : Edge) → IsFirst some first → FirstPiece first
    first-piece first begins = by (first_sloped None (flat_map pieces ways)) refl (told-all (flat_map pieces ways))
      where
        by : (best : Option Edge) → first_sloped None (flat_map pieces ways) ≡ best → Told (flat_map pieces ways) best → FirstPiece first
        by None is told =
            let own = piece-across first begins.among (rightwards first).x0 (starts-across first begins.sloped) in
            absurd (told own.piece own.among (across-sloped (rightwards first).x0 own.piece own.over))
        by (Some piece) is told = record {
          piece = piece;
          is = is;
          among = told.among;
          of = piece-of all some ways piece zip told.among;
          same = sym (of-first first begins piece told);
          at = (starts first begins piece told).0;
          over = across_piece first begins piece told;
        }

    -- So the edges and their pieces run the same way.
    pub runs-widened : runs_rightwards (first_sloped None some) ≡ runs_rightwards (first_sloped None (flat_map pieces ways))
    runs-widened = by (first_sloped None some) (told-all some)
      where
        by : (best : Option Edge) → Told some best → runs_rightwards best ≡ runs_rightwards (first_sloped None (flat_map pieces ways))
        by (Some first) told =
            let found = first-piece first told in
            let weighs = same-weight all each clear edges placed found.piece (piece-among all some edges found.piece there found.of) (rightwards first).x0 found.over in
            runs-same first found.piece (ap weight (sym found.same) ∙ weighs) ∙ sym (ap runs_rightwards found.is)
        by None told = none (first_sloped None (flat_map pieces ways)) (told-all (flat_map pieces ways))
          where
            none : (best : Option Edge) → Told (flat_map pieces ways) best → false ≡ runs_rightwards best
            none None wide_told = refl
            none (Some piece) wide_told =
                let found = piece-of all some ways piece zip wide_told.among in
                absurd (told found.edge found.among (sloped-of piece found wide_told.sloped))
