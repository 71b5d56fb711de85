-- What a piece that ends hands on to the first one that begins there, by the orders in which pieces begin and end.
use Rattle.std.proofs.Common.{◌≡◌, ◌⊎◌, ◌<◌, ◌-◌, inl, inr, Bool, true, false, cond, ◌&&◌, ℕ, ℤ, pos, ◌+ℤ◌, ◌-ℤ◌, ◌*ℤ◌, ◌≤ℤ◌, ◌<ℤ◌, List, length, take, get_or, refl, ap, ap₂, sym, subst, ◌∙◌, arith}
use Rattle.std.specs.Int.Signed.{lt_z}
use Rattle.std.specs.List.{Contains}
use Rattle.std.specs.Ordering.{int_eq}
use Rattle.std.proofs.lemmas.Bool.{cases_lt}
use Rattle.std.proofs.lemmas.Bool.Decides.{Decides-int_eq}
use Rattle.std.proofs.lemmas.Int.{ints}
use Rattle.std.proofs.lemmas.List.{get_or-take, get_or_default, length-take-le}
use Rattle.plane.specs.declared.edge.Edge.{Edge}
use Rattle.plane.specs.declared.point.Point.{Point}
use Rattle.plane.specs.declared.sweep_line.active.ActiveEdge.{ActiveEdge}
use Rattle.plane.specs.Ends.{start_of}
use Rattle.plane.specs.SweepLine.Heights.{rise, run}
use Rattle.overlay.specs.declared.fill.pieces.Piece.{Piece}
use Rattle.overlay.specs.Fill.Begins.{BeginsUpto, steps}
use Rattle.overlay.specs.Fill.Counts.{Counts, is_lower_on}
use Rattle.overlay.specs.Fill.Handed.{AreEnds, EndsUpto, IsHandedBy, active_at, begins_below, ends_below, no_end}
use Rattle.overlay.specs.Fill.Pieces.{total}
use Rattle.overlay.specs.Fill.Sweep.{AreFillPieces, below_of, is_below_on, no_piece}
use Rattle.overlay.specs.Fill.Turned.{asked}
use Rattle.overlay.proofs.FillLemmas.Callers.{lower-irrefl}
use Rattle.overlay.proofs.FillLemmas.Columns.{Moves}
use Rattle.overlay.proofs.FillLemmas.Handed.{below-moves, clip-handed, steeper-not_lower, subject-handed}
use Rattle.overlay.proofs.FillLemmas.Level.{MeetOnly}
use Rattle.overlay.proofs.FillLemmas.Premises.{meet-pieces}
use Rattle.overlay.proofs.FillLemmas.Tests.{lt_false, over_true}
use Rattle.overlay.proofs.FillLemmas.Totals.{total-none}
use Rattle.overlay.proofs.KeptLemmas.Begun.{begins_upto, goes_on, held, piece_at, x_order}
use Rattle.overlay.proofs.KeptLemmas.Upto.{later-above, start_at}
use Rattle.overlay.proofs.PieceLemmas.Made.{steps-run}

x_upto : (one other : Edge) → EndsUpto one other → one.x1 ≤ℤ other.x1
x_upto one other (inl less) = omega (arith, ints, less)
x_upto one other (inr (same, rest)) = omega (arith, ints, same)

counts_of : ℤ → ℤ → Counts
counts_of a b = record { subject = a; clip = b }

neither : (s t : Bool) → (s ≡ true → t ≡ false) → (s && t) ≡ false
neither true t is = is refl
neither false t is = refl

module _ (pieces : List Piece) (fill : AreFillPieces pieces) (ends : List ActiveEdge) (are : AreEnds pieces ends) (k : ℕ) (within : k < length pieces) (next place : ℕ) (handed : IsHandedBy (take k pieces) ends next (start_at pieces fill k within) place) where
  abbrev g : Piece
  g = piece_at pieces k

  abbrev q : Piece
  q = piece_at pieces place

  abbrev start : Point
  start = start_of g.edge

  -- the next end is that of the piece at this place
  of : ((get_or ends next no_end).place < length pieces) × (get_or ends next no_end ≡ active_at pieces (get_or ends next no_end).place)
  of = are.of next no_end handed.within

  inside : place < length pieces
  inside = subst (λ (n : ℕ). n < length pieces) handed.is of.0

  q_is : (get_or ends next no_end).edge ≡ q.edge
  q_is = ap (λ (e : ActiveEdge). e.edge) of.1 ∙ ap (λ (n : ℕ). (piece_at pieces n).edge) handed.is

  q_x : q.edge.x1 ≡ g.edge.x0
  q_x = ap (λ (e : Edge). e.x1) (sym q_is) ∙ ap (λ (p : Point). p.x) handed.at

  q_y : q.edge.y1 ≡ g.edge.y0
  q_y = ap (λ (e : Edge). e.y1) (sym q_is) ∙ ap (λ (p : Point). p.y) handed.at

  -- it has begun
  pub handed-begun : place < k
  handed-begun = elim (cases_lt place k) [
    | inl less ↦ less
    | inr most ↦
        let on = goes_on pieces fill place inside in
        let x_is = q_x in
        elim (cases_lt k place) [
          | inl behind ↦ let order = x_order pieces fill k place behind inside in absurd (omega (arith, ints, order, on, x_is))
          | inr upto ↦
              let same : place ≡ k = omega (arith, most, upto) in
              let level = ap (λ (n : ℕ). (piece_at pieces n).edge.x0) same in
              absurd (omega (arith, ints, level, on, x_is))
        ]
  ]

  -- those before have begun further left
  earlier : (j : ℕ) → j < k → (piece_at pieces j).edge.x0 <ℤ g.edge.x0
  earlier j less =
      let size = length-take-le k pieces (omega (arith, within)) in
      let last = handed.earlier (omega (arith, size, less)) in
      let here : (piece_at pieces (k - 1)).edge.x0 <ℤ g.edge.x0 =
      subst (λ (p : Piece). p.edge.x0 <ℤ g.edge.x0) (ap (λ (n : ℕ). get_or (take k pieces) (n - 1) no_piece) size ∙ get_or-take k pieces (k - 1) no_piece (omega (arith, less))) last in
      elim (cases_lt j (k - 1)) [
        | inl before ↦ let order = x_order pieces fill j (k - 1) before (omega (arith, less, within)) in omega (arith, ints, order, here)
        | inr most ↦ let same : (k - 1) ≡ j = omega (arith, less, most) in subst (λ (n : ℕ). (piece_at pieces n).edge.x0 <ℤ g.edge.x0) same here
      ]

  module _ (j : ℕ) (among : j < length pieces) where
    abbrev e : Piece
    e = piece_at pieces j

    meet : (i : ℕ) → i < length pieces → MeetOnly e.edge (piece_at pieces i).edge
    meet i there = meet-pieces fill.subject fill.clip fill.noded pieces fill.are e (piece_at pieces i) (held pieces fill j among) (held pieces fill i there)

    -- what begins in the column isn't lower than the piece that begins
    begins : e.edge.x0 ≡ g.edge.x0 → is_lower_on g.edge.x0 e.edge g.edge ≡ false
    begins level = elim (cases_lt j k) [
      | inl less ↦ let before = earlier j less in absurd (omega (arith, ints, before, level))
      | inr most ↦
          let on = goes_on pieces fill j among in
          elim (cases_lt k j) [
            | inl behind ↦ later-above pieces fill k within j behind among (over_true g.edge.x0 e.edge (omega (arith, ints, level)) (omega (arith, ints, level, on)))
            | inr upto ↦ let same : k ≡ j = omega (arith, most, upto) in subst (λ (n : ℕ). is_lower_on g.edge.x0 (piece_at pieces n).edge g.edge ≡ false) same (lower-irrefl g.edge.x0 g)
          ]
    ]

    abbrev w : ℤ
    w = g.edge.x0 -ℤ pos 1

    -- what ends in the column ends higher than the one that hands on, or isn't lower
    ends-upto : e.edge.x1 ≡ g.edge.x0 → EndsUpto q.edge e.edge → (g.edge.y0 <ℤ e.edge.y1) ⊎ (is_lower_on w e.edge q.edge ≡ false)
    ends-upto level (inl less) = let x_is = q_x in absurd (omega (arith, ints, less, x_is, level))
    ends-upto level (inr (same, inl less)) = let y_is = q_y in inl (omega (arith, ints, less, y_is))
    ends-upto level (inr (same, inr (even, steep))) =
        inr (steeper-not_lower q.edge e.edge w g.edge.x0 g.edge.y0 (omega (arith, ints)) q_x level q_y (sym even ∙ q_y)
        (subst (λ (n : ℤ). (rise e.edge *ℤ n) ≤ℤ (rise q.edge *ℤ run e.edge)) (steps-run q.edge (goes_on pieces fill place inside))
        (subst (λ (n : ℤ). (rise e.edge *ℤ steps q.edge) ≤ℤ (rise q.edge *ℤ n)) (steps-run e.edge (goes_on pieces fill j among)) steep)))

    -- what ends in the column ends no earlier than that one
    after-from : (i : ℕ) → i < length ends → get_or ends i no_end ≡ active_at pieces j → e.edge.x1 ≡ g.edge.x0 → EndsUpto q.edge e.edge ⊎ (q.edge ≡ e.edge)
    after-from i there is level =
        let e_is : (get_or ends i no_end).edge ≡ e.edge = ap (λ (a : ActiveEdge). a.edge) is in
        let e_x = ap (λ (a : Edge). a.x1) e_is in
        elim (cases_lt i next) [
          | inl less ↦
              let first = handed.first (omega (arith, less)) in
              let inner = handed.within in
              let upto : (get_or ends i no_end).edge.x1 ≤ℤ (get_or ends (next - 1) no_end).edge.x1 = elim (cases_lt i (next - 1)) [
                | inl before ↦ x_upto (get_or ends i no_end).edge (get_or ends (next - 1) no_end).edge (are.order i (next - 1) no_end before (omega (arith, less, inner)))
                | inr most ↦
                    let same : i ≡ (next - 1) = omega (arith, less, most) in
                    let even = ap (λ (n : ℕ). (get_or ends n no_end).edge.x1) same in omega (arith, ints, even)
              ] in
              absurd (omega (arith, ints, upto, first, e_x, level))
          | inr most ↦ elim (cases_lt next i) [
            | inl behind ↦ inl (subst (λ (a : Edge). EndsUpto a e.edge) q_is (subst (λ (a : Edge). EndsUpto (get_or ends next no_end).edge a) e_is (are.order next i no_end behind there)))
            | inr upto ↦
                let same : next ≡ i = omega (arith, most, upto) in
                inr (sym q_is ∙ ap (λ (n : ℕ). (get_or ends n no_end).edge) same ∙ e_is)
          ]
        ]

    after : e.edge.x1 ≡ g.edge.x0 → EndsUpto q.edge e.edge ⊎ (q.edge ≡ e.edge)
    after = let (i, there, is) = are.each j among in after-from i there (get_or_default ends i no_end (active_at pieces j) there ∙ is)

    ends-at : e.edge.x1 ≡ g.edge.x0 → (g.edge.y0 <ℤ e.edge.y1) ⊎ (is_lower_on w e.edge q.edge ≡ false)
    ends-at level = elim (after level) [
      | inl upto ↦ ends-upto level upto
      | inr alike ↦ inr (subst (λ (a : Edge). is_lower_on w a q.edge ≡ false) alike (lower-irrefl w q))
    ]

    ends-high : e.edge.x1 ≡ g.edge.x0 → g.edge.y0 ≤ℤ e.edge.y1
    ends-high level =
        let x_is = q_x in
        let y_is = q_y in
        elim (after level) [
          | inl (inl less) ↦ absurd (omega (arith, ints, less, x_is, level))
          | inl (inr (same, inl less)) ↦ omega (arith, ints, less, y_is)
          | inl (inr (same, inr (even, steep))) ↦ omega (arith, ints, even, y_is)
          | inr alike ↦ let even = ap (λ (a : Edge). a.y1) alike in omega (arith, ints, even, y_is)
        ]

    moves : Moves (is_below_on w q.edge e.edge) (is_below_on g.edge.x0 g.edge e.edge) (ends_below start e.edge) (begins_below start e.edge)
    moves =
        below-moves q.edge g.edge (goes_on pieces fill place inside) (goes_on pieces fill k within) w g.edge.x0 g.edge.y0 (omega (arith, ints)) q_x q_y refl refl e.edge (goes_on pieces fill j among)
        (meet place inside) (meet k within) (λ level upto. begins level) (λ level upto. ends-at level)

    -- nothing begins or ends in the column below
    none-begins : begins_below start e.edge ≡ false
    none-begins = neither (int_eq e.edge.x0 g.edge.x0) (lt_z e.edge.y0 g.edge.y0) (λ is. lt_false e.edge.y0 g.edge.y0 (upto ((Decides-int_eq e.edge.x0 g.edge.x0).0 is)))
      where
        higher : BeginsUpto g.edge e.edge → e.edge.x0 ≡ g.edge.x0 → g.edge.y0 ≤ℤ e.edge.y0
        higher (inl less) level = absurd (omega (arith, ints, less, level))
        higher (inr (same, inl less)) level = omega (arith, ints, less)
        higher (inr (same, inr (even, rest))) level = omega (arith, ints, even)

        upto : e.edge.x0 ≡ g.edge.x0 → g.edge.y0 ≤ℤ e.edge.y0
        upto level = elim (cases_lt j k) [
          | inl less ↦ let before = earlier j less in absurd (omega (arith, ints, before, level))
          | inr most ↦ elim (cases_lt k j) [
            | inl behind ↦ higher (begins_upto pieces fill k j behind among) level
            | inr back ↦
                let same : k ≡ j = omega (arith, most, back) in
                let even = ap (λ (n : ℕ). (piece_at pieces n).edge.y0) same in omega (arith, ints, even)
          ]
        ]

    none-ends : ends_below start e.edge ≡ false
    none-ends = neither (int_eq e.edge.x1 g.edge.x0) (lt_z e.edge.y1 g.edge.y0) (λ is. lt_false e.edge.y1 g.edge.y0 (ends-high ((Decides-int_eq e.edge.x1 g.edge.x0).0 is)))

  -- so all of them weigh nothing
  each-piece : (P : Piece → Type 0) → ((j : ℕ) → j < length pieces → P (piece_at pieces j)) → (p : Piece) → Contains pieces p → P p
  each-piece P at p (j, among, is) = subst P (get_or_default pieces j no_piece p among ∙ is) (at j among)

  none : (test : Edge → Bool) → ((j : ℕ) → j < length pieces → test (piece_at pieces j).edge ≡ false) → (weigh : Piece → ℤ) → total (asked test weigh) pieces ≡ pos 0
  none test not weigh =
      total-none (asked test weigh) pieces (λ i d among. subst (λ (p : Piece). asked test weigh p ≡ pos 0) (get_or_default pieces i no_piece d among) (ap (λ t. cond t (weigh (piece_at pieces i)) (pos 0)) (not i among)))

  same : (weigh : Piece → ℤ) → (total (asked (is_below_on g.edge.x0 g.edge) weigh) pieces +ℤ total (asked (ends_below start) weigh) pieces) ≡ (total (asked (is_below_on q.edge.x0 q.edge) weigh) pieces +ℤ total (asked (begins_below start) weigh) pieces)
      → total (asked (is_below_on q.edge.x0 q.edge) weigh) pieces ≡ total (asked (is_below_on g.edge.x0 g.edge) weigh) pieces
  same weigh is =
      let ended = none (ends_below start) none-ends weigh in
      let begun = none (begins_below start) none-begins weigh in
      omega (arith, ints, is, ended, begun)

  -- So what was below that piece is below the one that begins.
  pub below-ended : below_of pieces (piece_at pieces place) ≡ below_of pieces (piece_at pieces k)
  unfolding counts_of
  below-ended =
      let x_is = q_x in
      let on = goes_on pieces fill place inside in
      let from : q.edge.x0 ≤ℤ (g.edge.x0 -ℤ pos 1) = omega (arith, ints, x_is, on) in
      let before : (g.edge.x0 -ℤ pos 1) <ℤ q.edge.x1 = omega (arith, ints, x_is) in
      let moved = each-piece (λ p. Moves (is_below_on (g.edge.x0 -ℤ pos 1) q.edge p.edge) (is_below_on g.edge.x0 g.edge p.edge) (ends_below start p.edge) (begins_below start p.edge)) moves in
      ap₂ counts_of (same (λ p. p.subject) (subject-handed pieces fill q g (g.edge.x0 -ℤ pos 1) (held pieces fill place inside) from before moved))
      (same (λ p. p.clip) (clip-handed pieces fill q g (g.edge.x0 -ℤ pos 1) (held pieces fill place inside) from before moved))
