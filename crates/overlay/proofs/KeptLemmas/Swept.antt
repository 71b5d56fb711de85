-- How far the sweep of a fill has come, and one piece more.
use Rattle.std.proofs.Common.{◌≡◌, ◌<◌, ◌+◌, ◌++◌, [], ◌∷◌, Bool, true, false, ℕ, ℤ, ◌≤ℤ◌, List, Option, length, take, get_or, refl, ap, sym, subst, ◌∙◌, inl, inr, arith, append-nil, append_assoc}
use Rattle.std.proofs.lemmas.Bool.{cases_lt}
use Rattle.std.proofs.lemmas.Int.{ints}
use Rattle.std.proofs.lemmas.List.{get_or_append_left, length-append, take_more}
use Rattle.std.proofs.Math.Seq.{get_or-append_seam}
use Rattle.i_tree.specs.Root.Along.{IsLast}
use Rattle.plane.specs.declared.edge.Edge.{Edge}
use Rattle.plane.specs.SweepLine.Active.{Entry, live_entries}
use Rattle.plane.specs.SweepLine.Line.{IsSortedAt, JoinsAt, NoneCrossAmong}
use Rattle.overlay.specs.declared.fill.pieces.Piece.{Piece}
use Rattle.overlay.specs.Fill.Counts.{Counts, kept_edge}
use Rattle.overlay.specs.Fill.Sweep.{AreFillPieces, Fits, above_or, below_of, kept_of, no_piece, nothing, plus}
use Rattle.overlay.proofs.KeptLemmas.Begun.{HasBegun, HasBegun-more, HasBegun-none, piece_at, x_order}
use Rattle.overlay.proofs.KeptLemmas.Below.{NotAbove, below-fits, found-below}

-- The first k pieces have begun: what is above each is noted by its place, and of them the ones that bound the result are kept.
pub record HasSwept (inside : Counts → Bool) (pieces : List Piece) (k : ℕ) (stored : List Entry) (above : List Counts) (before out : List Edge) : Type 0 where
  pub x : ℤ
  pub begun : HasBegun pieces k x stored
  pub upto : k < length pieces → x ≤ℤ (piece_at pieces k).edge.x0
  pub size : length above ≡ k
  pub told : (i : ℕ) → i < k → get_or above i nothing ≡ plus (below_of pieces (piece_at pieces i)) (piece_at pieces i)
  pub kept : out ≡ before ++ kept_of inside pieces (take k pieces)

pub HasSwept-none : (inside : Counts → Bool) (pieces : List Piece) (before : List Edge) → HasSwept inside pieces 0 [] [] before before
HasSwept-none inside pieces before = record {
  x = (piece_at pieces 0).edge.x0;
  begun = HasBegun-none pieces (piece_at pieces 0).edge.x0;
  upto = λ some. omega (arith, ints);
  size = refl;
  told = λ i below. absurd (omega (arith, below));
  kept = sym (append-nil before);
}

-- ---- one edge more

by_kept : (below above : Bool) (edge : Edge) (front rest : List Edge) → kept_edge below above edge (front ++ rest) ≡ kept_edge below above edge front ++ rest
by_kept true true edge front rest = refl
by_kept true false edge front rest = refl
by_kept false true edge front rest = refl
by_kept false false edge front rest = refl

-- one piece more, and what is kept of it
pub kept_of-more : (inside : Counts → Bool) (all done : List Piece) (piece : Piece)
    → kept_of inside all (done ++ piece ∷ []) ≡ kept_of inside all done ++ kept_edge (inside (below_of all piece)) (inside (plus (below_of all piece) piece)) piece.edge []
kept_of-more inside all [] piece = refl
kept_of-more inside all (first ∷ done) piece =
    ap (kept_edge (inside (below_of all first)) (inside (plus (below_of all first) first)) first.edge) (kept_of-more inside all done piece)
    ∙ by_kept (inside (below_of all first)) (inside (plus (below_of all first) first)) first.edge (kept_of inside all done) (kept_edge (inside (below_of all piece)) (inside (plus (below_of all piece) piece)) piece.edge [])

-- A piece begins at this place: the status after it, and what was found below it, by the counts above those that have begun.
pub record Begins (one : Piece) (k : ℕ) (stored after : List Entry) (above : List Counts) (counts : Counts) : Type 0 where
  pub joins : JoinsAt one.edge.x0 (record { edge = one.edge; place = k }, tt) stored after
  pub sorted : (later : ℤ) → one.edge.x0 ≤ℤ later → NoneCrossAmong (live_entries one.edge.x0 after) → IsSortedAt later (live_entries later after)
  pub found : Option Entry
  pub last : IsLast (NotAbove (record { edge = one.edge; place = k })) (live_entries one.edge.x0 stored) found
  pub is : counts ≡ above_or above found

module _ (inside : Counts → Bool) (pieces : List Piece) (fill : AreFillPieces pieces) (k : ℕ) (within : k < length pieces) (stored : List Entry) (above : List Counts) (before out : List Edge)
    (swept : HasSwept inside pieces k stored above before out) where
  abbrev piece : Piece
  piece = piece_at pieces k

  -- the counts above a piece are numbers of 64 bits
  pub sums-fit : (counts : Counts) → counts ≡ below_of pieces piece → Fits counts piece
  sums-fit counts is = subst (λ (c : Counts). Fits c piece) (sym is) (below-fits pieces fill k within)

  module _ (after : List Entry) (counts : Counts) (begins : Begins piece k stored after above counts) where
    begun_more : HasBegun pieces (k + 1) piece.edge.x0 after
    begun_more = HasBegun-more pieces fill k within swept.x (swept.upto within) stored swept.begun after begins.joins begins.sorted

    pub counts-below : counts ≡ below_of pieces piece
    counts-below = begins.is ∙ found-below pieces fill k within swept.x (swept.upto within) stored swept.begun after begins.joins begun_more above swept.told begins.found begins.last

    pub HasSwept-more : (all : List Counts) (outcome : List Edge) → all ≡ above ++ plus counts piece ∷ [] → outcome ≡ out ++ kept_edge (inside counts) (inside (plus counts piece)) piece.edge []
        → HasSwept inside pieces (k + 1) after all before outcome
    HasSwept-more all outcome noted kept = record {
      x = piece.edge.x0;
      begun = begun_more;
      upto = λ more. x_order pieces fill k (k + 1) (omega arith) more;
      size = (let told = ap (λ (list : List Counts). length list) noted in let sum = length-append above (plus counts piece ∷ []) in let size = swept.size in omega (arith, told, sum, size));
      told = told;
      kept = all_kept;
    }
      where
        told : (i : ℕ) → i < k + 1 → get_or all i nothing ≡ plus (below_of pieces (piece_at pieces i)) (piece_at pieces i)
        told i below = ap (λ (list : List Counts). get_or list i nothing) noted ∙ elim (cases_lt i k) [
          | inl less ↦ get_or_append_left above (plus counts piece ∷ []) nothing i (let size = swept.size in omega (arith, less, size)) ∙ swept.told i less
          | inr most ↦
              let size = swept.size in
              let level : i ≡ length above = omega (arith, below, most, size) in
              let here : k ≡ i = omega (arith, below, most) in
              ap (λ (n : ℕ). get_or (above ++ plus counts piece ∷ []) n nothing) level ∙ get_or-append_seam above (plus counts piece) [] nothing
              ∙ ap (λ (c : Counts). plus c piece) counts-below
              ∙ ap (λ (n : ℕ). plus (below_of pieces (piece_at pieces n)) (piece_at pieces n)) here
        ]

        all_kept : outcome ≡ before ++ kept_of inside pieces (take (k + 1) pieces)
        all_kept =
            kept
            ∙ ap (λ (c : Counts). out ++ kept_edge (inside c) (inside (plus c piece)) piece.edge []) counts-below
            ∙ ap (λ (list : List Edge). list ++ kept_edge (inside (below_of pieces piece)) (inside (plus (below_of pieces piece) piece)) piece.edge []) swept.kept
            ∙ append_assoc before (kept_of inside pieces (take k pieces)) (kept_edge (inside (below_of pieces piece)) (inside (plus (below_of pieces piece) piece)) piece.edge [])
            ∙ ap (λ (list : List Edge). before ++ list) (sym (kept_of-more inside pieces (take k pieces) piece))
            ∙ ap (λ (done : List Piece). before ++ kept_of inside pieces done) (sym (take_more pieces k no_piece within))
