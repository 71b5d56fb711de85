-- What is below a piece that begins above another point of its column, at which others end and begin.
use Rattle.std.proofs.Common.{◌≡◌, ◌⊎◌, ◌<◌, ◌-◌, inl, inr, false, ℕ, ℤ, pos, ◌+ℤ◌, ◌-ℤ◌, ◌*ℤ◌, ◌≤ℤ◌, ◌<ℤ◌, List, length, take, get_or, refl, ap, ap₂, sym, subst, ◌∙◌, arith}
use Rattle.std.specs.List.{Contains}
use Rattle.std.proofs.lemmas.Bool.{cases_lt}
use Rattle.std.proofs.lemmas.Int.{ints}
use Rattle.std.proofs.lemmas.List.{get_or-take, get_or_default, length-take-le}
use Rattle.plane.specs.declared.edge.Edge.{Edge}
use Rattle.plane.specs.declared.point.Point.{Point}
use Rattle.plane.specs.declared.sweep_line.active.ActiveEdge.{ActiveEdge}
use Rattle.plane.specs.Ends.{start_of, end_of}
use Rattle.plane.specs.SweepLine.Heights.{rise, run}
use Rattle.overlay.specs.declared.fill.pieces.Piece.{Piece}
use Rattle.overlay.specs.Fill.Begins.{BeginsUpto, steps}
use Rattle.overlay.specs.Fill.Counts.{Counts, is_lower_on}
use Rattle.overlay.specs.Fill.Handed.{AreEnds, EndsUpto, IsCarriedBy, active_at, begins_below, carried, ends_below, no_end}
use Rattle.overlay.specs.Fill.Pieces.{total}
use Rattle.overlay.specs.Fill.Sweep.{AreFillPieces, below_of, is_below_on, no_piece, plus}
use Rattle.overlay.specs.Fill.Turned.{asked}
use Rattle.overlay.proofs.FillLemmas.Callers.{lower-asym, lower-irrefl}
use Rattle.overlay.proofs.FillLemmas.Carried.{clip-carried, is_upto_on, subject-carried, upto-moves}
use Rattle.overlay.proofs.FillLemmas.Columns.{Moves}
use Rattle.overlay.proofs.FillLemmas.Handed.{below-moves, clip-handed, steeper-not_lower, subject-handed}
use Rattle.overlay.proofs.FillLemmas.Level.{MeetOnly}
use Rattle.overlay.proofs.FillLemmas.Premises.{meet-pieces}
use Rattle.overlay.proofs.FillLemmas.Tests.{over_true}
use Rattle.overlay.proofs.KeptLemmas.Begun.{begins_upto, goes_on, held, piece_at, x_order}
use Rattle.overlay.proofs.KeptLemmas.Upto.{begins-first, later-above, start_at}
use Rattle.overlay.proofs.PieceLemmas.Made.{steps-run}

counts_of : ℤ → ℤ → Counts
counts_of a b = record { subject = a; clip = b }

-- ---- orders

start_upto : (one other : Edge) → BeginsUpto one other → (one.x0 <ℤ other.x0) ⊎ ((one.x0 ≡ other.x0) × (one.y0 ≤ℤ other.y0))
start_upto one other (inl less) = inl less
start_upto one other (inr (same, inl less)) = inr (same, omega (arith, ints, less))
start_upto one other (inr (same, inr (even, rest))) = inr (same, omega (arith, ints, even))

end_upto : (one other : Edge) → EndsUpto one other → (one.x1 <ℤ other.x1) ⊎ ((one.x1 ≡ other.x1) × (one.y1 ≤ℤ other.y1))
end_upto one other (inl less) = inl less
end_upto one other (inr (same, inl less)) = inr (same, omega (arith, ints, less))
end_upto one other (inr (same, inr (even, rest))) = inr (same, omega (arith, ints, even))

-- of edges that end in one column
high_upto : (one other : Edge) → one.x1 ≡ other.x1 → EndsUpto one other → one.y1 ≤ℤ other.y1
high_upto one other level (inl less) = absurd (omega (arith, ints, level, less))
high_upto one other level (inr (same, inl less)) = omega (arith, ints, less)
high_upto one other level (inr (same, inr (even, rest))) = omega (arith, ints, even)

-- and of edges that begin in one
start_high : (one other : Edge) → one.x0 ≡ other.x0 → BeginsUpto one other → one.y0 ≤ℤ other.y0
start_high one other level (inl less) = absurd (omega (arith, ints, level, less))
start_high one other level (inr (same, inl less)) = omega (arith, ints, less)
start_high one other level (inr (same, inr (even, rest))) = omega (arith, ints, even)

module _ (pieces : List Piece) (fill : AreFillPieces pieces) (ends : List ActiveEdge) (are : AreEnds pieces ends) (k : ℕ) (within : k < length pieces) (next place other : ℕ) (told : IsCarriedBy (take k pieces) ends next (start_at pieces fill k within) place other) where
  abbrev g : Piece
  g = piece_at pieces k

  abbrev q : Piece
  q = piece_at pieces place

  -- those at the point below
  abbrev b : Piece
  b = piece_at pieces (k - 1)

  abbrev a : Piece
  a = piece_at pieces other

  abbrev x : ℤ
  x = g.edge.x0

  abbrev y : ℤ
  y = g.edge.y0

  abbrev low : ℤ
  low = b.edge.y0

  abbrev w : ℤ
  w = g.edge.x0 -ℤ pos 1

  abbrev start : Point
  start = start_of g.edge

  k_some : 0 < k
  k_some = let size = length-take-le k pieces (omega (arith, within)) in let some = told.some in omega (arith, some, size)

  b_inside : k - 1 < length pieces
  b_inside = let some = k_some in omega (arith, some, within)

  b_is : get_or (take k pieces) (length (take k pieces) - 1) no_piece ≡ b
  b_is =
      let some = k_some in
      ap (λ (n : ℕ). get_or (take k pieces) (n - 1) no_piece) (length-take-le k pieces (omega (arith, within))) ∙ get_or-take k pieces (k - 1) no_piece (omega (arith, some))

  b_x : b.edge.x0 ≡ x
  b_x = ap (λ (p : Piece). p.edge.x0) (sym b_is) ∙ told.column

  rising : low <ℤ y
  rising = subst (λ (p : Piece). p.edge.y0 <ℤ y) b_is told.lower

  -- the next end, and the one before it
  q_of : ((get_or ends next no_end).place < length pieces) × (get_or ends next no_end ≡ active_at pieces (get_or ends next no_end).place)
  q_of = are.of next no_end told.within

  before_within : next - 1 < length ends
  before_within = let inner = told.within in omega (arith, inner)

  a_of : ((get_or ends (next - 1) no_end).place < length pieces) × (get_or ends (next - 1) no_end ≡ active_at pieces (get_or ends (next - 1) no_end).place)
  a_of = are.of (next - 1) no_end before_within

  q_inside : place < length pieces
  q_inside = subst (λ (n : ℕ). n < length pieces) told.is q_of.0

  pub a_inside : other < length pieces
  a_inside = subst (λ (n : ℕ). n < length pieces) told.other_is a_of.0

  q_is : (get_or ends next no_end).edge ≡ q.edge
  q_is = ap (λ (e : ActiveEdge). e.edge) q_of.1 ∙ ap (λ (n : ℕ). (piece_at pieces n).edge) told.is

  a_is : (get_or ends (next - 1) no_end).edge ≡ a.edge
  a_is = ap (λ (e : ActiveEdge). e.edge) a_of.1 ∙ ap (λ (n : ℕ). (piece_at pieces n).edge) told.other_is

  q_x : q.edge.x1 ≡ x
  q_x = ap (λ (e : Edge). e.x1) (sym q_is) ∙ ap (λ (p : Point). p.x) told.at

  q_y : q.edge.y1 ≡ y
  q_y = ap (λ (e : Edge). e.y1) (sym q_is) ∙ ap (λ (p : Point). p.y) told.at

  a_point : end_of a.edge ≡ start_of b.edge
  a_point = ap (λ (e : Edge). end_of e) (sym a_is) ∙ told.meets ∙ ap (λ (p : Piece). start_of p.edge) b_is

  a_x : a.edge.x1 ≡ x
  a_x = ap (λ (p : Point). p.x) a_point ∙ b_x

  a_y : a.edge.y1 ≡ low
  a_y = ap (λ (p : Point). p.y) a_point

  -- each has begun
  ended_begun : (i : ℕ) (inside : i < length pieces) → (piece_at pieces i).edge.x1 ≡ x → i < k
  ended_begun i inside x_is = elim (cases_lt i k) [
    | inl less ↦ less
    | inr most ↦
        let on = goes_on pieces fill i inside in
        elim (cases_lt k i) [
          | inl behind ↦ let order = x_order pieces fill k i behind inside in absurd (omega (arith, ints, order, on, x_is))
          | inr upto ↦
              let same : i ≡ k = omega (arith, most, upto) in
              let level = ap (λ (n : ℕ). (piece_at pieces n).edge.x0) same in
              absurd (omega (arith, ints, level, on, x_is))
        ]
  ]

  pub q-begun : place < k
  q-begun = ended_begun place q_inside q_x

  pub a-begun : other < k
  a-begun = ended_begun other a_inside a_x

  module _ (j : ℕ) (among : j < length pieces) where
    abbrev e : Piece
    e = piece_at pieces j

    on : e.edge.x0 <ℤ e.edge.x1
    on = goes_on pieces fill j among

    meet : (i : ℕ) → i < length pieces → MeetOnly e.edge (piece_at pieces i).edge
    meet i there = meet-pieces fill.subject fill.clip fill.noded pieces fill.are e (piece_at pieces i) (held pieces fill j among) (held pieces fill i there)

    -- ---- what begins in the column

    -- at the point below, or lower, and not above b; or at the point, or higher, and not below g
    begins-cases : e.edge.x0 ≡ x → ((e.edge.y0 ≤ℤ low) × (is_lower_on x b.edge e.edge ≡ false)) ⊎ ((y ≤ℤ e.edge.y0) × (is_lower_on x e.edge g.edge ≡ false))
    begins-cases level =
        let some = k_some in
        elim (cases_lt j k) [
          | inl less ↦ elim (cases_lt j (k - 1)) [
            | inl before ↦
                let first = begins-first pieces fill j (k - 1) before b_inside (level ∙ sym b_x) in
                inl (start_high e.edge b.edge (level ∙ sym b_x) (begins_upto pieces fill j (k - 1) before b_inside), subst (λ (z : ℤ). is_lower_on z b.edge e.edge ≡ false) b_x (lower-asym b.edge.x0 e b first))
            | inr most ↦
                let same : (k - 1) ≡ j = omega (arith, less, most, some) in
                inl (
                  (let even = ap (λ (n : ℕ). (piece_at pieces n).edge.y0) same in omega (arith, ints, even)),
                  subst (λ (n : ℕ). is_lower_on x b.edge (piece_at pieces n).edge ≡ false) same (lower-irrefl x b),
                )
          ]
          | inr most ↦ elim (cases_lt k j) [
            | inl behind ↦
                let rest = on in
                inr (start_high g.edge e.edge (sym level) (begins_upto pieces fill k j behind among), later-above pieces fill k within j behind among (over_true x e.edge (omega (arith, ints, level)) (omega (arith, ints, level, rest))))
            | inr upto ↦
                let same : k ≡ j = omega (arith, most, upto) in
                inr (
                  (let even = ap (λ (n : ℕ). (piece_at pieces n).edge.y0) same in omega (arith, ints, even)),
                  subst (λ (n : ℕ). is_lower_on x (piece_at pieces n).edge g.edge ≡ false) same (lower-irrefl x g),
                )
          ]
        ]

    -- ---- what ends in it

    -- two that end at one point of it, the first one first in order
    steep : (one two : Piece) → one.edge.x0 <ℤ one.edge.x1 → two.edge.x0 <ℤ two.edge.x1 → one.edge.x1 ≡ x → two.edge.x1 ≡ x → EndsUpto one.edge two.edge → (one.edge.y1 <ℤ two.edge.y1) ⊎ ((one.edge.y1 ≡ two.edge.y1) × (is_lower_on w two.edge one.edge ≡ false))
    steep one two some some_too level level_too (inl less) = absurd (omega (arith, ints, less, level, level_too))
    steep one two some some_too level level_too (inr (same, inl less)) = inl less
    steep one two some some_too level level_too (inr (same, inr (even, steeper))) =
        inr (
          even,
          steeper-not_lower one.edge two.edge w x one.edge.y1 (omega (arith, ints)) level level_too refl (sym even)
              (subst (λ (n : ℤ). (rise two.edge *ℤ n) ≤ℤ (rise one.edge *ℤ run two.edge)) (steps-run one.edge some)
              (subst (λ (n : ℤ). (rise two.edge *ℤ steps one.edge) ≤ℤ (rise one.edge *ℤ n)) (steps-run two.edge some_too) steeper)),
        )

    -- at the point below, or lower, and not above a; or at the point, or higher, and not below q
    abbrev EndsAt : Type 0
    EndsAt = ((e.edge.y1 <ℤ low) ⊎ ((e.edge.y1 ≡ low) × (is_lower_on w a.edge e.edge ≡ false))) ⊎ ((y <ℤ e.edge.y1) ⊎ ((e.edge.y1 ≡ y) × (is_lower_on w e.edge q.edge ≡ false)))

    ends-from : (i : ℕ) → i < length ends → (get_or ends i no_end).edge ≡ e.edge → e.edge.x1 ≡ x → EndsAt
    ends-from i there is level =
        elim (cases_lt i next) [
          | inl less ↦ elim (cases_lt i (next - 1)) [
            | inl before ↦
                let upto = subst (λ (d : Edge). EndsUpto d a.edge) is (subst (λ (d : Edge). EndsUpto (get_or ends i no_end).edge d) a_is (are.order i (next - 1) no_end before before_within)) in
                let y_is = a_y in
                elim (steep e a on (goes_on pieces fill other a_inside) level a_x upto) [
                  | inl lower ↦ inl (inl (omega (arith, ints, lower, y_is)))
                  | inr (even, not) ↦ inl (inr (even ∙ y_is, not))
                ]
            | inr most ↦
                let same : (next - 1) ≡ i = omega (arith, less, most) in
                let alike : a.edge ≡ e.edge = sym a_is ∙ ap (λ (n : ℕ). (get_or ends n no_end).edge) same ∙ is in
                inl (inr (ap (λ (d : Edge). d.y1) (sym alike) ∙ a_y, subst (λ (d : Edge). is_lower_on w a.edge d ≡ false) alike (lower-irrefl w a)))
          ]
          | inr most ↦ elim (cases_lt next i) [
            | inl behind ↦
                let upto = subst (λ (d : Edge). EndsUpto d e.edge) q_is (subst (λ (d : Edge). EndsUpto (get_or ends next no_end).edge d) is (are.order next i no_end behind there)) in
                let y_is = q_y in
                elim (steep q e (goes_on pieces fill place q_inside) on q_x level upto) [
                  | inl higher ↦ inr (inl (omega (arith, ints, higher, y_is)))
                  | inr (even, not) ↦ inr (inr (sym even ∙ y_is, not))
                ]
            | inr upto ↦
                let same : next ≡ i = omega (arith, most, upto) in
                let alike : q.edge ≡ e.edge = sym q_is ∙ ap (λ (n : ℕ). (get_or ends n no_end).edge) same ∙ is in
                inr (inr (ap (λ (d : Edge). d.y1) (sym alike) ∙ q_y, subst (λ (d : Edge). is_lower_on w d q.edge ≡ false) alike (lower-irrefl w q)))
          ]
        ]

    ends-cases : e.edge.x1 ≡ x → EndsAt
    ends-cases = let (i, there, is) = are.each j among in ends-from i there (ap (λ (d : ActiveEdge). d.edge) (get_or_default ends i no_end (active_at pieces j) there ∙ is))

    -- ---- what moves, at the point and at the one below

    moves : Moves (is_below_on w q.edge e.edge) (is_below_on x g.edge e.edge) (ends_below start e.edge) (begins_below start e.edge)
    moves =
        below-moves q.edge g.edge (goes_on pieces fill place q_inside) (goes_on pieces fill k within) w x y (omega (arith, ints)) q_x q_y refl refl e.edge on (meet place q_inside) (meet k within)
        (λ level upto. elim (begins-cases level) [
          | inl (lower, not) ↦ let up = rising in absurd (omega (arith, ints, upto, lower, up))
          | inr (higher, not) ↦ not
        ])
        (λ level upto. elim (ends-cases level) [
          | inl (inl lower) ↦ let up = rising in absurd (omega (arith, ints, upto, lower, up))
          | inl (inr (here, not)) ↦ let up = rising in absurd (omega (arith, ints, upto, here, up))
          | inr (inl higher) ↦ inl higher
          | inr (inr (here, not)) ↦ inr not
        ])

    moves-low : Moves (is_upto_on w a.edge e.edge) (is_upto_on x b.edge e.edge) (ends_below start e.edge) (begins_below start e.edge)
    moves-low =
        upto-moves a.edge b.edge (goes_on pieces fill other a_inside) (goes_on pieces fill (k - 1) b_inside) w x low y (omega (arith, ints)) a_x a_y b_x refl rising e.edge on (meet other a_inside) (meet (k - 1) b_inside)
        (λ level. elim (begins-cases level) [
          | inl (lower, not) ↦ inl (lower, not)
          | inr (higher, not) ↦ inr higher
        ])
        (λ level. elim (ends-cases level) [
          | inl (inl lower) ↦ inl lower
          | inl (inr (here, not)) ↦ inr (inl (here, not))
          | inr (inl higher) ↦ inr (inr (omega (arith, ints, higher)))
          | inr (inr (here, not)) ↦ inr (inr (omega (arith, ints, here)))
        ])

  each-piece : (P : Piece → Type 0) → ((j : ℕ) → j < length pieces → P (piece_at pieces j)) → (p : Piece) → Contains pieces p → P p
  each-piece P at p (j, among, is) = subst P (get_or_default pieces j no_piece p among ∙ is) (at j among)

  difference : (s t u v m n : ℤ) → (s +ℤ m) ≡ (t +ℤ n) → (u +ℤ m) ≡ (v +ℤ n) → ((t +ℤ u) -ℤ v) ≡ s
  difference s t u v m n first second = omega (arith, ints, first, second)

  q_from : q.edge.x0 ≤ℤ w
  q_from = let x_is = q_x in let rest = goes_on pieces fill place q_inside in omega (arith, ints, x_is, rest)

  q_before : w <ℤ q.edge.x1
  q_before = let x_is = q_x in omega (arith, ints, x_is)

  a_from : a.edge.x0 ≤ℤ w
  a_from = let x_is = a_x in let rest = goes_on pieces fill other a_inside in omega (arith, ints, x_is, rest)

  a_before : w <ℤ a.edge.x1
  a_before = let x_is = a_x in omega (arith, ints, x_is)

  all-moves : (p : Piece) → Contains pieces p → Moves (is_below_on w q.edge p.edge) (is_below_on x g.edge p.edge) (ends_below start p.edge) (begins_below start p.edge)
  all-moves = each-piece (λ p. Moves (is_below_on w q.edge p.edge) (is_below_on x g.edge p.edge) (ends_below start p.edge) (begins_below start p.edge)) moves

  all-moves_low : (p : Piece) → Contains pieces p → Moves (is_upto_on w a.edge p.edge) (is_upto_on b.edge.x0 b.edge p.edge) (ends_below start p.edge) (begins_below start p.edge)
  all-moves_low =
      each-piece (λ p. Moves (is_upto_on w a.edge p.edge) (is_upto_on b.edge.x0 b.edge p.edge) (ends_below start p.edge) (begins_below start p.edge))
      (λ j among. subst (λ (z : ℤ). Moves (is_upto_on w a.edge (piece_at pieces j).edge) (is_upto_on z b.edge (piece_at pieces j).edge) (ends_below start (piece_at pieces j).edge) (begins_below start (piece_at pieces j).edge)) (sym b_x) (moves-low j among))

  -- So what is below the piece is what was below the one that ends there, and above the last one at the point below, less what was
  -- above the last one that ended at that point.
  pub subject-below : (((below_of pieces q).subject +ℤ ((below_of pieces b).subject +ℤ b.subject)) -ℤ ((below_of pieces a).subject +ℤ a.subject)) ≡ (below_of pieces g).subject
  subject-below =
      difference (below_of pieces g).subject (below_of pieces q).subject ((below_of pieces b).subject +ℤ b.subject) ((below_of pieces a).subject +ℤ a.subject)
      (total (asked (ends_below start) (λ p. p.subject)) pieces) (total (asked (begins_below start) (λ p. p.subject)) pieces)
      (subject-handed pieces fill q g w (held pieces fill place q_inside) q_from q_before all-moves)
      (subject-carried pieces fill a b w start (held pieces fill other a_inside) (held pieces fill (k - 1) b_inside) (goes_on pieces fill (k - 1) b_inside) a_from a_before all-moves_low)

  pub clip-below : (((below_of pieces q).clip +ℤ ((below_of pieces b).clip +ℤ b.clip)) -ℤ ((below_of pieces a).clip +ℤ a.clip)) ≡ (below_of pieces g).clip
  clip-below =
      difference (below_of pieces g).clip (below_of pieces q).clip ((below_of pieces b).clip +ℤ b.clip) ((below_of pieces a).clip +ℤ a.clip)
      (total (asked (ends_below start) (λ p. p.clip)) pieces) (total (asked (begins_below start) (λ p. p.clip)) pieces)
      (clip-handed pieces fill q g w (held pieces fill place q_inside) q_from q_before all-moves)
      (clip-carried pieces fill a b w start (held pieces fill other a_inside) (held pieces fill (k - 1) b_inside) (goes_on pieces fill (k - 1) b_inside) a_from a_before all-moves_low)

  pub carried-is : (below above less : Counts) (ended : Piece) → below ≡ below_of pieces q → above ≡ plus (below_of pieces b) b → less ≡ below_of pieces a → ended ≡ a → carried below above less ended ≡ below_of pieces g
  unfolding counts_of
  carried-is below above less ended below_is above_is less_is ended_is =
      ap (λ (c : Counts). carried c above less ended) below_is
      ∙ ap (λ (c : Counts). carried (below_of pieces q) c less ended) above_is
      ∙ ap₂ (λ (c : Counts) (p : Piece). carried (below_of pieces q) (plus (below_of pieces b) b) c p) less_is ended_is
      ∙ ap₂ counts_of subject-below clip-below
