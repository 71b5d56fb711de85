-- From x to x + 1 the pieces of ways are in the order in which their edges are.
use Rattle.std.proofs.Common.{◌≡◌, ◌≢◌, inl, inr, ◌*◌, ℤ, pos, ◌+ℤ◌, Bool, true, false, not, ◌&&◌, cond, List, refl, sym, ap, ap₂, ◌∙◌, subst, arith}
use Rattle.std.specs.List.{All, AllPairs, Contains}
use Rattle.std.proofs.lemmas.List.Elements.{All-contains}
use Rattle.plane.specs.declared.edge.Edge.{Edge}
use Rattle.plane.specs.declared.point.Point.{Point}
use Rattle.plane.specs.Meet.Edges.{RationalPoint}
use Rattle.plane.specs.SweepLine.Heights.{rightwards}
use Rattle.plane.proofs.MeetLemmas.Identities.{at_most, number, plus, times}
use Rattle.noding.proofs.SnapLemmas.Counted.{is_counted}
use Rattle.noding.proofs.SnapLemmas.Numbers.{below, n_of}
use Rattle.noding.proofs.SnapLemmas.Rounding.{Floor}
use Rattle.overlay.specs.Fill.Counts.{is_lower_on, is_over}
use Rattle.overlay.specs.Fill.Filled.{AreNoded, HaveSameEnds}
use Rattle.overlay.specs.Fill.Pieces.{weight}
use Rattle.overlay.proofs.FillLemmas.Level.{MeetOnly}
use Rattle.overlay.proofs.FillLemmas.Order.{lower-apart, lower-asym, lower-irrefl}
use Rattle.overlay.proofs.FillLemmas.Uncrossed.{uncrossed}
use Rattle.overlay.proofs.FillLemmas.Under.{lower_under}
use Rattle.overlay.proofs.KeptLemmas.First.{turned-meet, turned-same}
use Rattle.overlay.proofs.WindsLemmas.Each.{Middle, counted-half, half_way, middle_of}
use Rattle.monotone_chains.specs.Stretches.{IsStretch}
use Rattle.monotone_chains.proofs.StretchLemmas.Boxes.{ClearIfLong}
use Rattle.monotone_chains.proofs.StretchLemmas.Columns.{moved-below, moved-upto}
use Rattle.monotone_chains.proofs.StretchLemmas.Directed.{rightwards-reversed}
use Rattle.monotone_chains.proofs.StretchLemmas.Distinct.{pieces-apart}
use Rattle.monotone_chains.proofs.StretchLemmas.NestedAcross.{IsAcross, edge-across, edge-winds, across-onwards, across-sloped, across-weight, way-winds}
use Rattle.monotone_chains.proofs.StretchLemmas.Noded.{PieceOf}
use Rattle.monotone_chains.proofs.StretchLemmas.Placed.{IsPlaced}
use Rattle.monotone_chains.proofs.StretchLemmas.Shifts.{IsShift, shift-of}
use Rattle.monotone_chains.proofs.StretchLemmas.Wound.{way-winding}

-- From x to x + 1 the one is lower than the other.
abbrev pub IsLower : ℤ → Edge → Edge → Type 0
IsLower x one other = is_lower_on x (rightwards one) (rightwards other) ≡ true

pub differ : true ≡ false → ⊥
differ h = cc

-- ---- tests

counts-first : (s t : Bool) (v w : ℤ) → s ≡ true → v ≢ pos 0 → cond s v (pos 0) ≡ cond t w (pos 0) → (t ≡ true) × (w ≡ v)
counts-first true true v w is some same = (refl, sym same)
counts-first true false v w is some same = absurd (some same)
counts-first false t v w is some same = absurd (differ (sym is))

counts-none : (s t : Bool) (v w : ℤ) → s ≡ false → w ≢ pos 0 → cond s v (pos 0) ≡ cond t w (pos 0) → t ≡ false
counts-none false true v w is some same = absurd (some (sym same))
counts-none false false v w is some same = refl
counts-none true t v w is some same = absurd (differ is)

half-itself : (over lower : Bool) → over ≡ true → lower ≡ false → (over && not lower) ≡ true
half-itself over lower first second = ap₂ (λ (s t : Bool). s && not t) first second

half-above : (over lower : Bool) → lower ≡ true → (over && not lower) ≡ false
half-above true lower is = ap not is
half-above false lower is = refl

-- ---- the point of an edge half way from x to x + 1

floor-half : (edge : Edge) (x : ℤ) (at : Middle edge x) → Floor (half_way edge x at).n (half_way edge x at).x x
floor-half edge x at =
    let some = at.some in
    let half = times (plus (times (n_of 2) (number x)) (n_of 1)) (n_of at.k) in record {
      from = at_most (times (n_of (2 * at.k)) (number x)) half (omega arith);
      below = below half (times (n_of (2 * at.k)) (plus (number x) (n_of 1))) (omega (arith, some));
    }

module _ (all : List (List Point)) (each : All IsStretch all) (clear : AllPairs ClearIfLong all) (edges : List Edge) (placed : All (λ edge. edge.x1 ≢ edge.x0 → IsPlaced all edge) edges) where
  placed-at : (edge : Edge) → Contains edges edge → edge.x1 ≢ edge.x0 → IsPlaced all edge
  placed-at edge among = All-contains (λ (e : Edge). e.x1 ≢ e.x0 → IsPlaced all e) edges edge placed among

  -- for a point from x to x + 1 a piece counts what its edge counts for the point that stands for it
  piece-counts : (piece : Edge) (of : PieceOf all edges piece) (x : ℤ) → IsAcross x piece → (point other : RationalPoint) → Floor point.n point.x x → IsShift all point other
      → cond (is_counted (rightwards piece) point) (weight piece) (pos 0) ≡ cond (is_counted (rightwards of.edge) other) (weight of.edge) (pos 0)
  piece-counts piece of x over point other floor shift =
      sym (way-winds all each clear of.edge of.way of.goes x point floor piece of.is over)
      ∙ way-winding all each point other shift of.edge of.way of.goes (placed-at of.edge of.among)
      ∙ edge-winds of.edge other

  -- What stands for the point of a piece half way from x to x + 1: the piece's edge is at it or below.
  record StandsFor (piece : Edge) (of : PieceOf all edges piece) (x : ℤ) : Type 0 where
    at : Middle (rightwards piece) x
    other : RationalPoint
    shift : IsShift all (half_way (rightwards piece) x at) other
    floor : Floor other.n other.x x
    counted : is_counted (rightwards of.edge) other ≡ true
    weighs : weight of.edge ≡ weight piece

  stands-for : (piece : Edge) (of : PieceOf all edges piece) (x : ℤ) → IsAcross x piece → StandsFor piece of x
  stands-for piece of x over =
      let at = middle_of (rightwards piece) x (across-onwards x piece over) in
      let point = half_way (rightwards piece) x at in
      let floor = floor-half (rightwards piece) x at in
      let (other, shift) = shift-of all each clear point in
      let own = counted-half (rightwards piece) x at (rightwards piece) ∙ half-itself (is_over x (rightwards piece)) (is_lower_on x (rightwards piece) (rightwards piece)) over (lower-irrefl x (rightwards piece)) in
      let (counted, weighs) = counts-first (is_counted (rightwards piece) point) (is_counted (rightwards of.edge) other) (weight piece) (weight of.edge) own (across-weight x piece over)
      (piece-counts piece of x over point other floor shift) in record {
        at = at;
        other = other;
        shift = shift;
        floor = record { from = moved-upto point other shift.moved x floor.from; below = moved-below point other shift.moved (x +ℤ pos 1) floor.below };
        counted = counted;
        weighs = weighs;
      }

  -- a piece goes the way that its edge goes
  pub same-weight : (piece : Edge) (of : PieceOf all edges piece) (x : ℤ) → IsAcross x piece → weight of.edge ≡ weight piece
  same-weight piece of x over = (stands-for piece of x over).weighs

  -- what is above the piece has its edge above what stands for that point
  above-point : (one other : Edge) (of : PieceOf all edges one) (of_other : PieceOf all edges other) (x : ℤ) → IsAcross x other → IsLower x one other → (stands : StandsFor one of x)
      → is_counted (rightwards of_other.edge) stands.other ≡ false
  above-point one other of of_other x over lower stands =
      let point = half_way (rightwards one) x stands.at in
      let none = counted-half (rightwards one) x stands.at (rightwards other) ∙ half-above (is_over x (rightwards other)) (is_lower_on x (rightwards one) (rightwards other)) lower in
      counts-none (is_counted (rightwards other) point) (is_counted (rightwards of_other.edge) stands.other) (weight other) (weight of_other.edge) none
      (across-weight x of_other.edge (edge-across all each clear of_other.edge of_other.way of_other.goes x other of_other.is over))
      (piece-counts other of_other x over point stands.other (floor-half (rightwards one) x stands.at) stands.shift)

  module _ (noded : AreNoded edges) (one other : Edge) (of : PieceOf all edges one) (of_other : PieceOf all edges other) (x : ℤ) (over : IsAcross x one) (over_other : IsAcross x other) where
    edge_across : IsAcross x of.edge
    edge_across = edge-across all each clear of.edge of.way of.goes x one of.is over

    other_edge_across : IsAcross x of_other.edge
    other_edge_across = edge-across all each clear of_other.edge of_other.way of_other.goes x other of_other.is over_other

    meet : MeetOnly (rightwards of.edge) (rightwards of_other.edge)
    meet = turned-meet edges noded of.edge of_other.edge of.among of_other.among

    -- of two pieces the lower one is of the lower edge
    pub lower-edges : IsLower x one other → IsLower x of.edge of_other.edge
    lower-edges lower =
        let stands = stands-for one of x over in
        let none = above-point one other of of_other x over_other lower stands in
        elim (lower-apart (rightwards of.edge) (rightwards of_other.edge) x meet (λ same. differ (sym stands.counted ∙ ap (λ (e : Edge). is_counted e stands.other) same ∙ none)) edge_across other_edge_across) [
          | inl less ↦ less
          | inr more ↦
              let counted = lower_under stands.other x stands.floor (rightwards of_other.edge) (rightwards of.edge) (across-onwards x of_other.edge other_edge_across) (across-onwards x of.edge edge_across)
              (uncrossed (rightwards of_other.edge) (rightwards of.edge) (turned-meet edges noded of_other.edge of.edge of_other.among of.among)) other_edge_across stands.counted more in
              absurd (differ (sym counted ∙ none))
        ]

  module _ (noded : AreNoded edges) (one other : Edge) (of : PieceOf all edges one) (of_other : PieceOf all edges other) (x : ℤ) (over : IsAcross x one) (over_other : IsAcross x other) where
    -- edges of which one is lower haven't the same ends
    apart : IsLower x of.edge of_other.edge → ¬ (HaveSameEnds of.edge of_other.edge)
    apart lower same = differ (sym (subst (λ (e : Edge). is_lower_on x e (rightwards of_other.edge) ≡ true) (turned_one same) lower) ∙ lower-irrefl x (rightwards of_other.edge))
      where
        turned_one : HaveSameEnds of.edge of_other.edge → rightwards of.edge ≡ rightwards of_other.edge
        turned_one (inl on) = ap rightwards on
        turned_one (inr back) = ap rightwards back ∙ rightwards-reversed of_other.edge (across-sloped x of_other.edge (edge-across all each clear of_other.edge of_other.way of_other.goes x other of_other.is over_other))

    -- and the lower edge has the lower piece, where all pieces meet only at common ends
    pub lower-pieces : (wide : List Edge) → AreNoded wide → Contains wide one → Contains wide other → IsLower x of.edge of_other.edge → IsLower x one other
    lower-pieces wide wide_noded among among_too lower =
        elim (lower-apart (rightwards one) (rightwards other) x (turned-meet wide wide_noded one other among among_too)
        (λ same. pieces-apart all each clear one other of.edge of_other.edge of.way of_other.way of.goes of_other.goes of.is of_other.is (placed-at of.edge of.among) (placed-at of_other.edge of_other.among) (apart lower)
        (turned-same one other same))
        over over_other) [
          | inl less ↦ less
          | inr more ↦ absurd (differ (sym (lower-edges noded other one of_other of x over_other over more) ∙ lower-asym x (rightwards of.edge) (rightwards of_other.edge) lower))
        ]
