-- How far the sweep over the sides of rings has come.
use Rattle.std.proofs.Common.{◌≡◌, ◌<◌, ◌+◌, ℕ, ℤ, [], Option, Some, ◌≤ℤ◌, List, length, get_or, sym, subst, arith}
use Rattle.std.specs.List.{All}
use Rattle.std.proofs.lemmas.Int.{ints}
use Rattle.std.proofs.lemmas.List.{get_or-map, length-map}
use Rattle.i_tree.specs.Root.Along.{IsLast}
use Rattle.plane.specs.declared.edge.Edge.{Edge}
use Rattle.plane.specs.SweepLine.Active.{Entry, live_entries}
use Rattle.plane.specs.SweepLine.Line.{BeganBefore, IsSortedAt, JoinsAt, NoneCrossAmong}
use Rattle.overlay.specs.declared.fill.pieces.Piece.{Piece}
use Rattle.overlay.specs.Fill.Sweep.{AreFillPieces, no_piece}
use Rattle.overlay.proofs.KeptLemmas.Begun.{HasBegun, HasBegun-more, HasBegun-none, begin-last, begin-places, last-holds, piece_at, x_order}
use Rattle.overlay.specs.Grouping.{no_side, pieces_of}
use Rattle.overlay.specs.declared.grouping.sides.Side.{Side}

-- The first k of the pieces have begun.
pub record HasCome (pieces : List Piece) (k : ℕ) (stored : List Entry) : Type 0 where
  pub x : ℤ
  pub begun : HasBegun pieces k x stored
  pub upto : k < length pieces → x ≤ℤ (piece_at pieces k).edge.x0

pub HasCome-none : (pieces : List Piece) (stored : List Entry) → stored ≡ [] → HasCome pieces 0 stored
HasCome-none pieces stored none = subst (HasCome pieces 0) (sym none) (record {
  x = (piece_at pieces 0).edge.x0;
  begun = HasBegun-none pieces (piece_at pieces 0).edge.x0;
  upto = λ some. omega (arith, ints);
})

-- the side at a place, as a piece
pub side-piece : (sides : List Side) (k : ℕ) → k < length sides → (get_or sides k no_side).piece ≡ piece_at (pieces_of sides) k
side-piece sides k within = sym (get_or-map (λ (side : Side). side.piece) sides k no_side no_piece within)

pub side-within : (sides : List Side) (k : ℕ) → k < length sides → k < length (pieces_of sides)
side-within sides k within = let size = length-map sides (λ (side : Side). side.piece) in omega (arith, size, within)

module _ (pieces : List Piece) (fill : AreFillPieces pieces) (k : ℕ) (within : k < length pieces) (stored : List Entry) (come : HasCome pieces k stored) (edge : Edge) (is : edge ≡ (piece_at pieces k).edge) where
  -- those that are live have begun before the next one
  pub come-last : All (λ entry. BeganBefore entry.0 (record { edge = edge; place = k })) (live_entries edge.x0 stored)
  come-last =
      subst (λ (e : Edge). All (λ entry. BeganBefore entry.0 (record { edge = e; place = k })) (live_entries e.x0 stored)) (sym is)
      (begin-last pieces fill k within come.x (come.upto within) stored come.begun)

  -- and so has the one that is told
  pub come-below : (P : Entry → Type 0) (found : Option Entry) (entry : Entry) → found ≡ Some entry → IsLast P (live_entries edge.x0 stored) found → entry.0.place < k
  come-below P found entry told last =
      last-holds (λ (one : Entry). one.0.place < k) P (live_entries edge.x0 stored) found entry told
      (subst (λ (e : Edge). All (λ one. one.0.place < k) (live_entries e.x0 stored)) (sym is) (begin-places pieces fill k within come.x (come.upto within) stored come.begun k (omega arith))) last

  pub come-more : (after : List Entry) → JoinsAt edge.x0 (record { edge = edge; place = k }, tt) stored after
      → ((later : ℤ) → edge.x0 ≤ℤ later → NoneCrossAmong (live_entries edge.x0 after) → IsSortedAt later (live_entries later after)) → HasCome pieces (k + 1) after
  come-more after joins sorted = record {
    x = (piece_at pieces k).edge.x0;
    begun = HasBegun-more pieces fill k within come.x (come.upto within) stored come.begun after
        (subst (λ (e : Edge). JoinsAt e.x0 (record { edge = e; place = k }, tt) stored after) is joins)
        (subst (λ (e : Edge). (later : ℤ) → e.x0 ≤ℤ later → NoneCrossAmong (live_entries e.x0 after) → IsSortedAt later (live_entries later after)) is sorted);
    upto = λ more. x_order pieces fill k (k + 1) (omega arith) more;
  }
