-- What is lower than a piece where that begins: of those that have begun it is what goes on and isn't above the start.
use Rattle.std.proofs.Common.{◌≡◌, ◌≢◌, ◌<◌, true, false, not, ◌&&◌, ℕ, ℤ, pos, ◌+ℤ◌, ◌-ℤ◌, ◌*ℤ◌, ◌≤ℤ◌, ◌<ℤ◌, List, length, refl, ap, sym, subst, ◌∙◌, arith}
use Rattle.std.specs.Int.Signed.{lt_z}
use Rattle.std.specs.Ordering.{int_cmp}
use Rattle.std.specs.declared.cmp.Ordering.{Ordering}
use Rattle.std.specs.declared.cmp.Ordering.TheVariants.{Less, Greater}
use Rattle.std.proofs.lemmas.Cmp.{int_ranked}
use Rattle.std.proofs.lemmas.Int.{ints, by_lt_z}
use Rattle.plane.specs.declared.edge.Edge.{Edge}
use Rattle.plane.specs.declared.point.Point.{Point}
use Rattle.plane.specs.declared.sweep_line.active.ActiveEdge.{ActiveEdge}
use Rattle.plane.specs.Ends.{start_of}
use Rattle.plane.specs.SweepLine.Active.{cmp_behind, then_cmp}
use Rattle.plane.specs.SweepLine.Heights.{run, height_by_run}
use Rattle.plane.proofs.MeetLemmas.Identities.{number, times, identity}
use Rattle.plane.proofs.SweepLineLemmas.Comparisons.{at_begin, not_greater, says_greater, says_less, starts-earlier, starts-later}
use Rattle.overlay.specs.declared.fill.pieces.Piece.{Piece}
use Rattle.overlay.specs.Fill.Counts.{is_over, is_lower_on}
use Rattle.overlay.specs.Fill.Few.{is_upto}
use Rattle.overlay.specs.Fill.Sweep.{AreFillPieces, is_below_on, no_piece}
use Rattle.overlay.proofs.FillLemmas.Callers.{active-lower, lower-asym}
use Rattle.overlay.proofs.FillLemmas.Level.{MeetOnly, height_whole, level-same, whole_x}
use Rattle.overlay.proofs.FillLemmas.Premises.{meet-pieces}
use Rattle.overlay.proofs.FillLemmas.Tests.{lt_false, lt_true, over_is, over_late, over_true}
use Rattle.overlay.proofs.KeptLemmas.Begun.{begins_upto, goes_on, held, piece_at, x_order}
use Rattle.overlay.proofs.PieceLemmas.Made.{begins-lower}

-- ---- by heights

-- one that has ended doesn't go on
pub upto-ended : (point : Point) (edge : Edge) → edge.x1 ≤ℤ point.x → is_upto point edge ≡ false
upto-ended point edge late = rw (lt_false point.x edge.x1 late) refl

module _ (point : Point) (edge : Edge) (begun : edge.x0 ≤ℤ point.x) where
  -- one that goes on isn't above the point where its height isn't
  pub upto-at : point.x <ℤ edge.x1 → height_by_run edge point.x ≤ℤ (point.y *ℤ run edge) → is_upto point edge ≡ true
  upto-at before upto = rw (lt_true point.x edge.x1 before, lt_false (point.y *ℤ run edge) (height_by_run edge point.x) upto) refl

  pub above-at : point.x <ℤ edge.x1 → (point.y *ℤ run edge) <ℤ height_by_run edge point.x → is_upto point edge ≡ false
  above-at before above = rw (lt_true point.x edge.x1 before, lt_true (point.y *ℤ run edge) (height_by_run edge point.x) above) refl

  -- and what a comparison of both heights says
  pub upto-compared : point.x <ℤ edge.x1 → (r : Ordering) → r ≡ int_cmp (height_by_run edge point.x) (point.y *ℤ run edge) → (r ≢ Greater → is_upto point edge ≡ true) × (r ≡ Greater → is_upto point edge ≡ false)
  upto-compared before r told = (
    λ not. upto-at before (not_greater (height_by_run edge point.x) (point.y *ℤ run edge) (λ greater. not (told ∙ greater))),
    λ greater. by_lt_z (point.y *ℤ run edge) (height_by_run edge point.x) (λ above. above-at before above)
        (λ upto. absurd (never (height_by_run edge point.x) (point.y *ℤ run edge) upto (sym told ∙ greater))),
  )
    where
      never : (a b : ℤ) → a ≤ℤ b → int_cmp a b ≡ Greater → ⊥
      never a b upto greater = let ranked = int_ranked a b Greater (sym greater) in omega (arith, ints, ranked, upto)

-- what begins at the point isn't above it
pub upto-begun : (point : Point) (edge : Edge) → start_of edge ≡ point → edge.x0 <ℤ edge.x1 → is_upto point edge ≡ true
upto-begun point edge is onwards =
    let level = at_begin edge in
    subst (λ (start : Point). is_upto start edge ≡ true) is (upto-at (start_of edge) edge (omega (arith, ints)) onwards (omega (arith, ints, level)))

-- ---- the pieces

turned : (y m n : ℤ) → ((y *ℤ m) *ℤ n) ≡ ((y *ℤ n) *ℤ m)
turned y m n = identity (times (times (number y) (number m)) (number n)) (times (times (number y) (number n)) (number m)) (omega arith)

module _ (pieces : List Piece) (fill : AreFillPieces pieces) where
  meet : (i j : ℕ) → i < length pieces → j < length pieces → MeetOnly (piece_at pieces i).edge (piece_at pieces j).edge
  meet i j within within_too = meet-pieces fill.subject fill.clip fill.noded pieces fill.are (piece_at pieces i) (piece_at pieces j) (held pieces fill i within) (held pieces fill j within_too)

  differ : (i j : ℕ) → i < j → j < length pieces → (piece_at pieces i).edge ≢ (piece_at pieces j).edge
  differ i j less within = fill.are.distinct i j no_piece less within

  -- of two that begin at one x the first one is lower there
  pub begins-first : (i j : ℕ) → i < j → j < length pieces → (piece_at pieces i).edge.x0 ≡ (piece_at pieces j).edge.x0 → is_lower_on (piece_at pieces j).edge.x0 (piece_at pieces i).edge (piece_at pieces j).edge ≡ true
  begins-first i j less within level =
      let first : i < length pieces = omega (arith, less, within) in
      subst (λ (x : ℤ). is_lower_on x (piece_at pieces i).edge (piece_at pieces j).edge ≡ true) level
      (begins-lower (piece_at pieces i).edge (piece_at pieces j).edge (meet i j first within) (differ i j less within) (goes_on pieces fill i first) (goes_on pieces fill j within) level (begins_upto pieces fill i j less within))

  module _ (k : ℕ) (within : k < length pieces) where
    abbrev g : Piece
    g = piece_at pieces k

    abbrev pub start_at : Point
    start_at = record { x = g.edge.x0; y = g.edge.y0 }

    -- one that begins later isn't lower
    pub later-above : (j : ℕ) → k < j → j < length pieces → is_over g.edge.x0 (piece_at pieces j).edge ≡ true → is_lower_on g.edge.x0 (piece_at pieces j).edge g.edge ≡ false
    later-above j behind inside over =
        let span = over_is g.edge.x0 (piece_at pieces j).edge over in
        let from = span.0 in
        let order = x_order pieces fill k j behind inside in
        let level : g.edge.x0 ≡ (piece_at pieces j).edge.x0 = omega (arith, ints, from, order) in
        lower-asym g.edge.x0 g (piece_at pieces j)
        (subst (λ (x : ℤ). is_lower_on x g.edge (piece_at pieces j).edge ≡ true) (sym level) (begins-first k j behind inside level))

    module _ (j : ℕ) (less : j < k) where
      abbrev p : Piece
      p = piece_at pieces j

      inside : j < length pieces
      inside = omega (arith, less, within)

      from : p.edge.x0 ≤ℤ g.edge.x0
      from = x_order pieces fill j k less within

      -- as they stand in a status
      abbrev one : ActiveEdge
      one = record { edge = p.edge; place = j }

      abbrev other : ActiveEdge
      other = record { edge = g.edge; place = k }

      -- the height of the piece where the other one begins, and that start's, times the run of the piece
      abbrev high : ℤ
      high = height_by_run p.edge g.edge.x0

      abbrev level : ℤ
      level = g.edge.y0 *ℤ run p.edge

      module _ (before : g.edge.x0 <ℤ p.edge.x1) where
        over : is_over g.edge.x0 p.edge ≡ true
        over = over_true g.edge.x0 p.edge from before

        over_too : is_over g.edge.x0 g.edge ≡ true
        over_too = over_true g.edge.x0 g.edge (omega (arith, ints)) (goes_on pieces fill k within)

        below-lower : high <ℤ level → is_lower_on g.edge.x0 p.edge g.edge ≡ true
        below-lower below =
            let told = starts-later p.edge g.edge start_at Less from (goes_on pieces fill k within) refl refl (sym (says_less high level below)) in
            active-lower fill.subject fill.clip fill.closed fill.clip_closed fill.noded pieces fill.are one other p g g.edge.x0 (held pieces fill j inside) (held pieces fill k within) refl refl
            (differ j k less within) over over_too (ap (λ (r : Ordering). then_cmp r (cmp_behind one other)) (sym told))

        above-not_lower : level <ℤ high → is_lower_on g.edge.x0 p.edge g.edge ≡ false
        above-not_lower above =
            let told = starts-earlier g.edge p.edge start_at Greater from (goes_on pieces fill k within) refl refl (sym (says_greater high level above)) in
            lower-asym g.edge.x0 g p
            (active-lower fill.subject fill.clip fill.closed fill.clip_closed fill.noded pieces fill.are other one g p g.edge.x0 (held pieces fill k within) (held pieces fill j inside) refl refl
            (λ same. differ j k less within (sym same)) over_too over (ap (λ (r : Ordering). then_cmp r (cmp_behind other one)) (sym told)))

        -- two edges that meet only at common ends meet at the start of this one only where both begin there
        level-lower : high ≡ level → is_lower_on g.edge.x0 p.edge g.edge ≡ true
        level-lower even =
            by_lt_z p.edge.x0 g.edge.x0
            (λ behind. absurd (differ j k less within (sym (same behind))))
            (λ upto. begins-first j k less within (omega (arith, ints, from, upto)))
          where
            heights : (((g.edge.y0 *ℤ ((pos 1 *ℤ g.edge.x1) -ℤ g.edge.x0)) +ℤ (g.edge.y1 *ℤ (g.edge.x0 -ℤ (pos 1 *ℤ g.edge.x0)))) *ℤ run p.edge)
                ≡ (((p.edge.y0 *ℤ ((pos 1 *ℤ p.edge.x1) -ℤ g.edge.x0)) +ℤ (p.edge.y1 *ℤ (g.edge.x0 -ℤ (pos 1 *ℤ p.edge.x0)))) *ℤ run g.edge)
            heights =
                ap (λ (z : ℤ). z *ℤ run p.edge) (height_whole g.edge.x0 g.edge.x0 g.edge.x1 g.edge.y0 g.edge.y1 ∙ at_begin g.edge)
                ∙ turned g.edge.y0 (run g.edge) (run p.edge)
                ∙ ap (λ (z : ℤ). z *ℤ run g.edge) (sym (height_whole g.edge.x0 p.edge.x0 p.edge.x1 p.edge.y0 p.edge.y1 ∙ even))

            same : p.edge.x0 <ℤ g.edge.x0 → g.edge ≡ p.edge
            same behind =
                let onwards = goes_on pieces fill k within in
                level-same g.edge p.edge (whole_x g.edge.x0) (meet k j within inside) onwards (goes_on pieces fill j inside)
                (record { from = omega (arith, ints); upto = omega (arith, ints, onwards) }) (omega (arith, ints, behind)) (omega (arith, ints, before)) heights

        lower-is : is_lower_on g.edge.x0 p.edge g.edge ≡ not (lt_z level high)
        lower-is =
            by_lt_z level high
            (λ above. above-not_lower above ∙ sym (ap not (lt_true level high above)))
            (λ upto. by_lt_z high level
            (λ below. below-lower below ∙ sym (ap not (lt_false level high upto)))
            (λ back. level-lower (omega (arith, ints, upto, back)) ∙ sym (ap not (lt_false level high upto))))

      -- so an earlier one is lower exactly where it goes on and isn't above the start
      pub upto-lower : is_upto start_at p.edge ≡ is_below_on g.edge.x0 g.edge p.edge
      upto-lower =
          by_lt_z g.edge.x0 p.edge.x1
          (λ before.
          ap (λ t. t && not (lt_z level high)) (lt_true g.edge.x0 p.edge.x1 before) ∙ sym (lower-is before)
          ∙ sym (ap (λ t. t && is_lower_on g.edge.x0 p.edge g.edge) (over before)))
          (λ late.
          ap (λ t. t && not (lt_z level high)) (lt_false g.edge.x0 p.edge.x1 late)
          ∙ sym (ap (λ t. t && is_lower_on g.edge.x0 p.edge g.edge) (over_late g.edge.x0 p.edge late)))
