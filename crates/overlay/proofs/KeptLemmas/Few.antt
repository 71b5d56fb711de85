-- The sweep of few pieces: what is below one that begins, counted over those that have begun.
use Rattle.std.proofs.Common.{◌≡◌, ◌<◌, ◌≤◌, ◌+◌, ◌-◌, ◌^◌, ◌++◌, [], Bool, true, false, cond, ◌&&◌, ℕ, ℤ, pos, ◌+ℤ◌, ◌≤ℤ◌, List, length, take, drop, get_or, refl, ap, ap₂, sym, subst, ◌∙◌, arith, length-drop, append_assoc}
use Rattle.std.specs.List.{All}
use Rattle.std.proofs.lemmas.Int.{ints, by_lt_z}
use Rattle.std.proofs.lemmas.List.{get_or-drop, get_or-take, get_or_default, length-take-le, take-append-drop, take_more}
use Rattle.plane.specs.declared.edge.Edge.{Edge}
use Rattle.plane.specs.declared.point.Point.{Point}
use Rattle.plane.specs.Ends.{start_of}
use Rattle.overlay.specs.declared.fill.pieces.Piece.{Piece}
use Rattle.overlay.specs.Fill.Counts.{Counts, is_over, is_lower_on, kept_edge}
use Rattle.overlay.specs.Fill.Few.{LastBeginsAt, counts_upto, is_upto}
use Rattle.overlay.specs.Fill.Pieces.{total}
use Rattle.overlay.specs.Fill.Sweep.{AreFillPieces, Fits, WeighUpto, below_of, is_below_on, kept_of, no_piece, plus}
use Rattle.overlay.specs.Fill.Turned.{asked}
use Rattle.overlay.proofs.FillLemmas.Callers.{lower-irrefl}
use Rattle.overlay.proofs.FillLemmas.Totals.{total-append, total-more, total-none, total-same}
use Rattle.overlay.proofs.KeptLemmas.Begun.{goes_on, piece_at, x_order}
use Rattle.overlay.proofs.KeptLemmas.Swept.{kept_of-more}
use Rattle.overlay.proofs.KeptLemmas.Upto.{later-above, start_at, upto-begun, upto-lower}

no_more : (a b : ℤ) → b ≡ pos 0 → a ≡ (a +ℤ b)
no_more a b none = omega (arith, ints, none)

-- ---- the counts, piece by piece

counts_of : ℤ → ℤ → Counts
counts_of a b = record { subject = a; clip = b }

-- The counts are numbers of 64 bits.
pub counts-within : (point : Point) (pieces : List Piece) (most : ℕ) → most < 2 ^ 63 → WeighUpto most pieces → Fits (counts_upto point pieces) no_piece
counts-within point pieces most countable weigh =
    let within_most = weigh (is_upto point) in
    let a = within_most.0.from in
    let b = within_most.0.upto in
    let c = within_most.1.from in
    let e = within_most.1.upto in
    record { from = omega (arith, ints, countable, a); below = omega (arith, ints, countable, b); clip_from = omega (arith, ints, countable, c); clip_below = omega (arith, ints, countable, e) }

-- One piece more.
module _ (point : Point) (pieces : List Piece) (n : ℕ) (d : Piece) (within : n < length pieces) where
  abbrev piece : Piece
  piece = get_or pieces n d

  more : (weigh : Piece → ℤ) → total (asked (is_upto point) weigh) (take (n + 1) pieces) ≡ (total (asked (is_upto point) weigh) (take n pieces) +ℤ asked (is_upto point) weigh piece)
  more weigh = ap (total (asked (is_upto point) weigh)) (take_more pieces n d within) ∙ total-more (asked (is_upto point) weigh) (take n pieces) piece

  taken : (weigh : Piece → ℤ) → is_upto point piece.edge ≡ true → (total (asked (is_upto point) weigh) (take n pieces) +ℤ weigh piece) ≡ total (asked (is_upto point) weigh) (take (n + 1) pieces)
  taken weigh is = sym (more weigh ∙ ap (λ t. total (asked (is_upto point) weigh) (take n pieces) +ℤ cond t (weigh piece) (pos 0)) is)

  left : (weigh : Piece → ℤ) → is_upto point piece.edge ≡ false → total (asked (is_upto point) weigh) (take n pieces) ≡ total (asked (is_upto point) weigh) (take (n + 1) pieces)
  left weigh is =
      no_more (total (asked (is_upto point) weigh) (take n pieces)) (asked (is_upto point) weigh piece) (ap (λ t. cond t (weigh piece) (pos 0)) is)
      ∙ sym (more weigh)

  pub counts-more : is_upto point piece.edge ≡ true → plus (counts_upto point (take n pieces)) piece ≡ counts_upto point (take (n + 1) pieces)
  unfolding counts_of
  counts-more is = ap₂ counts_of (taken (λ p. p.subject) is) (taken (λ p. p.clip) is)

  pub counts-same : is_upto point piece.edge ≡ false → counts_upto point (take n pieces) ≡ counts_upto point (take (n + 1) pieces)
  unfolding counts_of
  counts-same is = ap₂ counts_of (left (λ p. p.subject) is) (left (λ p. p.clip) is)

  pub counts-fit : (most : ℕ) → most < 2 ^ 63 → WeighUpto most (take (n + 1) pieces) → is_upto point piece.edge ≡ true → Fits (counts_upto point (take n pieces)) piece
  counts-fit most countable weigh is =
      let within_most = weigh (is_upto point) in
      let subject = taken (λ p. p.subject) is in
      let clip = taken (λ p. p.clip) is in
      let a = within_most.0.from in
      let b = within_most.0.upto in
      let c = within_most.1.from in
      let e = within_most.1.upto in
      record { from = omega (arith, ints, subject, countable, a); below = omega (arith, ints, subject, countable, b); clip_from = omega (arith, ints, clip, countable, c); clip_below = omega (arith, ints, clip, countable, e) }

-- A piece is counted, or is above the point or has ended.
pub counted-more : (point : Point) (pieces : List Piece) (k : ℕ) → k < length pieces → (counts result : Counts) → counts ≡ counts_upto point (take k pieces)
    → (is_upto point (piece_at pieces k).edge ≡ true → result ≡ plus counts (piece_at pieces k)) → (is_upto point (piece_at pieces k).edge ≡ false → result ≡ counts) → result ≡ counts_upto point (take (k + 1) pieces)
counted-more point pieces k within counts result before more same = by (is_upto point (piece_at pieces k).edge) refl
  where
    by : (t : Bool) → is_upto point (piece_at pieces k).edge ≡ t → result ≡ counts_upto point (take (k + 1) pieces)
    by true is = more is ∙ ap (λ (sum : Counts). plus sum (piece_at pieces k)) before ∙ counts-more point pieces k no_piece within is
    by false is = same is ∙ before ∙ counts-same point pieces k no_piece within is

-- ---- the pieces of a fill

module _ (pieces : List Piece) (fill : AreFillPieces pieces) (k : ℕ) (within : k < length pieces) where
  abbrev g : Piece
  g = piece_at pieces k

  abbrev start : Point
  start = start_at pieces fill k within

  begun_at : (j : ℕ) (d : Piece) → j < k → get_or (take k pieces) j d ≡ piece_at pieces j
  begun_at j d less = get_or-take k pieces j d less ∙ sym (get_or_default pieces j no_piece d (omega (arith, less, within)))

  begun_size : length (take k pieces) ≡ k
  begun_size = length-take-le k pieces (omega (arith, within))

  -- each of the first ones has begun
  pub begun-from : All (λ p. p.edge.x0 ≤ℤ g.edge.x0) (take k pieces)
  begun-from i d inside =
      let size = begun_size in
      let less : i < k = omega (arith, size, inside) in
      subst (λ (p : Piece). p.edge.x0 ≤ℤ g.edge.x0) (sym (begun_at i d less)) (x_order pieces fill i k less within)

  -- of the others none is lower where it begins
  not_lower : (j : ℕ) → k ≤ j → j < length pieces → is_below_on g.edge.x0 g.edge (piece_at pieces j).edge ≡ false
  not_lower j from inside = by_lt_z (pos k) (pos j) (λ less. later (omega (arith, ints, less))) (λ upto. here (omega (arith, ints, upto, from)))
    where
      neither : (s t : Bool) → (s ≡ true → t ≡ false) → (s && t) ≡ false
      neither true t is = is refl
      neither false t is = refl

      later : k < j → is_below_on g.edge.x0 g.edge (piece_at pieces j).edge ≡ false
      later less = neither (is_over g.edge.x0 (piece_at pieces j).edge) (is_lower_on g.edge.x0 (piece_at pieces j).edge g.edge) (later-above pieces fill k within j less inside)

      here : k ≡ j → is_below_on g.edge.x0 g.edge (piece_at pieces j).edge ≡ false
      here same =
          subst (λ (n : ℕ). is_below_on g.edge.x0 g.edge (piece_at pieces n).edge ≡ false) same
          (neither (is_over g.edge.x0 g.edge) (is_lower_on g.edge.x0 g.edge g.edge) (λ over. lower-irrefl g.edge.x0 g))

  counted : (weigh : Piece → ℤ) → total (asked (is_upto start) weigh) (take k pieces) ≡ total (asked (is_below_on g.edge.x0 g.edge) weigh) pieces
  counted weigh =
      total-same (asked (is_upto start) weigh) below (take k pieces) earlier
      ∙ no_more (total below (take k pieces)) (total below (drop k pieces)) (total-none below (drop k pieces) others)
      ∙ sym (total-append below (take k pieces) (drop k pieces))
      ∙ ap (total below) (take-append-drop k pieces)
    where
      below : Piece → ℤ
      below = asked (is_below_on g.edge.x0 g.edge) weigh

      earlier : All (λ p. asked (is_upto start) weigh p ≡ below p) (take k pieces)
      earlier j d inside =
          let size = begun_size in
          let less : j < k = omega (arith, size, inside) in
          subst (λ (p : Piece). asked (is_upto start) weigh p ≡ below p) (sym (begun_at j d less))
          (ap (λ t. cond t (weigh (piece_at pieces j)) (pos 0)) (upto-lower pieces fill k within j less))

      others : All (λ p. below p ≡ pos 0) (drop k pieces)
      others i d inside =
          let rest = length-drop k pieces in
          let at : k + i < length pieces = omega (arith, rest, inside) in
          subst (λ (p : Piece). below p ≡ pos 0) (sym (get_or-drop k pieces i d ∙ sym (get_or_default pieces (k + i) no_piece d at)))
          (ap (λ t. cond t (weigh (piece_at pieces (k + i))) (pos 0)) (not_lower (k + i) (omega arith) at))

  -- So what is below a piece is what those before it weigh that go on and aren't above its start.
  pub below-counted : counts_upto start (take k pieces) ≡ below_of pieces g
  unfolding counts_of
  below-counted = ap₂ counts_of (counted (λ p. p.subject)) (counted (λ p. p.clip))

  -- What is kept of it stands behind what is kept of those before.
  pub kept-more : (inside : Counts → Bool) (before out outcome : List Edge) (counts : Counts) → counts ≡ below_of pieces g → out ≡ before ++ kept_of inside pieces (take k pieces)
      → outcome ≡ out ++ kept_edge (inside counts) (inside (plus counts g)) g.edge [] → outcome ≡ before ++ kept_of inside pieces (take (k + 1) pieces)
  kept-more inside before out outcome counts is had kept =
      kept
      ∙ ap (λ (c : Counts). out ++ kept_edge (inside c) (inside (plus c g)) g.edge []) is
      ∙ ap (λ (list : List Edge). list ++ kept_edge (inside (below_of pieces g)) (inside (plus (below_of pieces g) g)) g.edge []) had
      ∙ append_assoc before (kept_of inside pieces (take k pieces)) (kept_edge (inside (below_of pieces g)) (inside (plus (below_of pieces g) g)) g.edge [])
      ∙ ap (λ (list : List Edge). before ++ list) (sym (kept_of-more inside pieces (take k pieces) g))
      ∙ ap (λ (done : List Piece). before ++ kept_of inside pieces done) (sym (take_more pieces k no_piece within))

-- Where a piece begins with the one before it, what is above that one is what is below.
pub above-last : (pieces : List Piece) (fill : AreFillPieces pieces) (k : ℕ) (within : k < length pieces) (point : Point) → LastBeginsAt point (take k pieces)
    → plus (below_of pieces (piece_at pieces (k - 1))) (piece_at pieces (k - 1)) ≡ counts_upto point (take k pieces)
above-last pieces fill k within point (some, begins) =
    let size = length-take-le k pieces (omega (arith, within)) in
    let last : k - 1 < k = omega (arith, some, size) in
    let inside : k - 1 < length pieces = omega (arith, last, within) in
    let here : start_of (piece_at pieces (k - 1)).edge ≡ point =
    ap (λ (p : Piece). start_of p.edge) (sym (get_or-take k pieces (k - 1) no_piece last) ∙ ap (λ (n : ℕ). get_or (take k pieces) (n - 1) no_piece) (sym size)) ∙ begins in
    ap (λ (counts : Counts). plus counts (piece_at pieces (k - 1))) (sym (below-counted pieces fill (k - 1) inside) ∙ ap (λ (start : Point). counts_upto start (take (k - 1) pieces)) here)
    ∙ counts-more point pieces (k - 1) no_piece inside (upto-begun point (piece_at pieces (k - 1)).edge here (goes_on pieces fill (k - 1) inside))
    ∙ ap (λ (n : ℕ). counts_upto point (take n pieces)) (omega (arith, last))
