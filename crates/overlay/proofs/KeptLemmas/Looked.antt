-- The pieces that are looked at where what is below is counted: those that have begun and go on.
use Rattle.std.proofs.Common.{◌≡◌, ◌≢◌, ◌<◌, ◌+◌, ◌-◌, ◌++◌, [], ◌∷◌, inl, inr, Bool, true, false, cond, ◌&&◌, ℕ, ℤ, pos, ◌≤ℤ◌, List, length, take, drop, get_or, not, ◌*ℤ◌, refl, ap, ap₂, sym, subst, ◌∙◌, arith, length-drop}
use Rattle.std.specs.List.{AllPairs, filter}
use Rattle.std.specs.Int.Signed.{lt_z}
use Rattle.std.proofs.lemmas.Int.{ints}
use Rattle.std.proofs.lemmas.Bool.{cases_lt}
use Rattle.std.proofs.lemmas.List.{get_or-drop, get_or_append_left, get_or_default, length-append, length-take-le, take-append-drop, take-append-le, take_all, take_more}
use Rattle.std.proofs.Math.Seq.{get_or-append_seam}
use Rattle.std.proofs.lemmas.List.Elements.{filter-append}
use Rattle.std.proofs.lemmas.List.Filters.{FiltersInPlace}
use Rattle.std.proofs.lemmas.List.Kept.{AllPairs-filter}
use Rattle.plane.specs.declared.edge.Edge.{Edge}
use Rattle.plane.specs.declared.point.Point.{Point}
use Rattle.plane.specs.Meet.Crosses.{IsWithin}
use Rattle.plane.specs.SweepLine.Heights.{run, height_by_run}
use Rattle.overlay.specs.declared.fill.pieces.Piece.{Piece}
use Rattle.overlay.specs.Fill.Counts.{Counts}
use Rattle.overlay.specs.Fill.Few.{AreActive, counts_upto, goes_on, is_upto}
use Rattle.overlay.specs.Fill.Handed.{HasLooked}
use Rattle.overlay.specs.Fill.Pieces.{total}
use Rattle.overlay.specs.Fill.Sweep.{AreFillPieces, WeighUpto, below_of, no_piece, nothing}
use Rattle.overlay.specs.Fill.Turned.{asked}
use Rattle.overlay.proofs.FillLemmas.Tests.{lt_false, lt_true}
use Rattle.overlay.proofs.FillLemmas.Totals.{total-filter, total-same}
use Rattle.overlay.proofs.KeptLemmas.Begun.{goes_on as onwards, piece_at, x_order}
use Rattle.overlay.proofs.KeptLemmas.Parts.{weigh-first_ones}

-- What goes on behind an x goes on behind a lesser one.
again : (from x : ℤ) → from ≤ℤ x → (pieces : List Piece) → filter (goes_on x) (filter (goes_on from) pieces) ≡ filter (goes_on x) pieces
again from x upto [] = refl
again from x upto (piece ∷ pieces) = by (again from x upto pieces) (goes_on from piece) refl
  where
    none : goes_on from piece ≡ false → goes_on x piece ≡ false
    none is = lt_false x piece.edge.x1 (omega (arith, ints, is, upto))

    by : filter (goes_on x) (filter (goes_on from) pieces) ≡ filter (goes_on x) pieces → (t : Bool) → goes_on from piece ≡ t
        → filter (goes_on x) (cond t (piece ∷ filter (goes_on from) pieces) (filter (goes_on from) pieces)) ≡ cond (goes_on x piece) (piece ∷ filter (goes_on x) pieces) (filter (goes_on x) pieces)
    by rest true is = ap (λ (others : List Piece). cond (goes_on x piece) (piece ∷ others) others) rest
    by rest false is = rest ∙ sym (ap (λ (t : Bool). cond t (piece ∷ filter (goes_on x) pieces) (filter (goes_on x) pieces)) (none is))

-- Of those that went on and those that have begun since, the ones that go on are those of all.
pub looked-all : (x : ℤ) (pieces : List Piece) (count : ℕ) (live : List Piece) → HasLooked x pieces count live → filter (goes_on x) (live ++ take (length pieces - count) (drop count pieces)) ≡ filter (goes_on x) pieces
looked-all x pieces count live (few, (from, upto, is)) =
    ap (λ (list : List Piece). filter (goes_on x) (live ++ list)) (take_all (length pieces - count) (drop count pieces) (let size = length-drop count pieces in omega (arith, size)))
    ∙ filter-append (goes_on x) live (drop count pieces)
    ∙ ap (λ (list : List Piece). filter (goes_on x) list ++ filter (goes_on x) (drop count pieces)) is
    ∙ ap (λ (list : List Piece). list ++ filter (goes_on x) (drop count pieces)) (again from x upto (take count pieces))
    ∙ sym (filter-append (goes_on x) (take count pieces) (drop count pieces))
    ∙ ap (filter (goes_on x)) (take-append-drop count pieces)

-- Before the first piece none has been looked at.
pub HasLooked-none : (x : ℤ) (pieces live : List Piece) → live ≡ [] → HasLooked x pieces 0 live
HasLooked-none x pieces live is = (omega arith, (x, omega (arith, ints), is))

-- Where the next piece begins, the same pieces have been looked at.
pub looked-next : (pieces : List Piece) (fill : AreFillPieces pieces) (k : ℕ) → k < length pieces → (count : ℕ) (live : List Piece) → k + 1 < length pieces → HasLooked (piece_at pieces k).edge.x0 (take k pieces) count live
    → HasLooked (piece_at pieces (k + 1)).edge.x0 (take (k + 1) pieces) count live
looked-next pieces fill k within count live more (few, (from, upto, is)) = (
  (let size = length-take-le k pieces (omega (arith, within)) in let size_too = length-take-le (k + 1) pieces (omega (arith, more)) in omega (arith, few, size, size_too)),
  (
    from,
    (let order = x_order pieces fill k (k + 1) (omega arith) more in omega (arith, ints, upto, order)),
    is ∙ sym (ap (filter (goes_on from)) (ap (take count) (take_more pieces k no_piece within) ∙ take-append-le count (take k pieces) (piece_at pieces k ∷ []) few)),
  ),
)

-- ---- the active pieces

-- Before the first piece none is active.
pub AreActive-none : (x : ℤ) (pieces active : List Piece) → active ≡ [] → AreActive x (take 0 pieces) active
AreActive-none x pieces active is = (x, omega (arith, ints), is)

-- Those of them that go on are those of all.
pub active-left : (x : ℤ) (pieces active : List Piece) → AreActive x pieces active → filter (goes_on x) active ≡ filter (goes_on x) pieces
active-left x pieces active (from, upto, is) = ap (filter (goes_on x)) is ∙ again from x upto pieces

-- Where the next piece begins, one more is active.
pub active-next : (pieces : List Piece) (fill : AreFillPieces pieces) (k : ℕ) → k < length pieces → (active all : List Piece) → all ≡ active ++ piece_at pieces k ∷ [] → AreActive (piece_at pieces k).edge.x0 (take k pieces) active
    → k + 1 < length pieces → AreActive (piece_at pieces (k + 1)).edge.x0 (take (k + 1) pieces) all
active-next pieces fill k within active all one_more (from, upto, is) more = (
  from,
  (let order = x_order pieces fill k (k + 1) (omega arith) more in omega (arith, ints, upto, order)),
  one_more
      ∙ ap (λ (list : List Piece). list ++ piece_at pieces k ∷ []) is
      ∙ ap (λ (t : Bool). filter (goes_on from) (take k pieces) ++ cond t (piece_at pieces k ∷ []) []) (sym goes)
      ∙ sym (filter-append (goes_on from) (take k pieces) (piece_at pieces k ∷ []))
      ∙ sym (ap (filter (goes_on from)) (take_more pieces k no_piece within)),
)
  where
    goes : goes_on from (piece_at pieces k) ≡ true
    goes = lt_true from (piece_at pieces k).edge.x1 (let here = onwards pieces fill k within in omega (arith, ints, upto, here))

-- ---- a pass that moves what goes on to the front

-- The piece at a place of the list, whatever would stand for one beyond its end.
pub packed-here : (now : List Piece) (at : ℕ) → at < length now → piece_at now at ≡ get_or now at (piece_at now at)
packed-here now at inside = get_or_default now at no_piece (piece_at now at) inside

-- The next piece is the one that stood there.
pub packed-at : {test : Piece → Bool} (before now : List Piece) (kept at : ℕ) → FiltersInPlace test before now kept at → piece_at now at ≡ piece_at before at
packed-at before now kept at packed =
    ap (piece_at now) at_first ∙ sym (get_or-drop at now 0 no_piece) ∙ ap (λ (list : List Piece). piece_at list 0) packed.rest ∙ get_or-drop at before 0 no_piece
    ∙ ap (piece_at before) (sym at_first)
  where
    at_first : at ≡ at + 0
    at_first = omega arith

-- ---- the counts noted

module _ (pieces : List Piece) (k : ℕ) (below : List Counts) (size : length below ≡ k) (all : List Counts) (noted : all ≡ below ++ below_of pieces (piece_at pieces k) ∷ []) where
  pub noted-size : length all ≡ k + 1
  noted-size =
      let told = ap (λ (list : List Counts). length list) noted in
      let sum = length-append below (below_of pieces (piece_at pieces k) ∷ []) in
      omega (arith, told, sum, size)

  pub noted-more : ((i : ℕ) → i < k → get_or below i nothing ≡ below_of pieces (piece_at pieces i)) → (i : ℕ) → i < k + 1 → get_or all i nothing ≡ below_of pieces (piece_at pieces i)
  noted-more told i less = ap (λ (list : List Counts). get_or list i nothing) noted ∙ elim (cases_lt i k) [
    | inl before ↦ get_or_append_left below (below_of pieces (piece_at pieces k) ∷ []) nothing i (omega (arith, before, size)) ∙ told i before
    | inr most ↦
        let level : i ≡ length below = omega (arith, less, most, size) in
        let here : k ≡ i = omega (arith, less, most) in
        ap (λ (n : ℕ). get_or (below ++ below_of pieces (piece_at pieces k) ∷ []) n nothing) level ∙ get_or-append_seam below (below_of pieces (piece_at pieces k)) [] nothing
        ∙ ap (λ (n : ℕ). below_of pieces (piece_at pieces n)) here
  ]

-- ---- what they weigh

counts_of : ℤ → ℤ → Counts
counts_of a b = record { subject = a; clip = b }

once : (s t : Bool) (w : ℤ) → cond s (cond (s && t) w (pos 0)) (pos 0) ≡ cond (s && t) w (pos 0)
once true t w = refl
once false t w = refl

-- Those that have ended weigh nothing.
pub going-counted : (point : Point) (pieces : List Piece) → counts_upto point (filter (goes_on point.x) pieces) ≡ counts_upto point pieces
unfolding counts_of
going-counted point pieces = ap₂ counts_of (going (λ p. p.subject)) (going (λ p. p.clip))
  where
    going : (weigh : Piece → ℤ) → total (asked (is_upto point) weigh) (filter (goes_on point.x) pieces) ≡ total (asked (is_upto point) weigh) pieces
    going weigh =
        sym (total-filter (goes_on point.x) (asked (is_upto point) weigh) pieces)
        ∙ total-same (λ p. cond (goes_on point.x p) (asked (is_upto point) weigh p) (pos 0)) (asked (is_upto point) weigh) pieces
        (λ i d within. let p = get_or pieces i d in once (goes_on point.x p) (not (lt_z (point.y *ℤ run p.edge) (height_by_run p.edge point.x))) (weigh p))

both_asked : (s t : Bool) (w : ℤ) → cond (s && t) w (pos 0) ≡ cond s (cond t w (pos 0)) (pos 0)
both_asked true t w = refl
both_asked false t w = refl

-- Together they weigh no more than those that have begun may.
going-weigh : (most : ℕ) (x : ℤ) (pieces : List Piece) → WeighUpto most pieces → WeighUpto most (filter (goes_on x) pieces)
going-weigh most x pieces weigh = λ test. (
  subst (IsWithin most) (asked_too test (λ p. p.subject)) (weigh (λ (edge : Edge). lt_z x edge.x1 && test edge)).0,
  subst (IsWithin most) (asked_too test (λ p. p.clip)) (weigh (λ (edge : Edge). lt_z x edge.x1 && test edge)).1,
)
  where
    asked_too : (test : Edge → Bool) (w : Piece → ℤ) → total (asked (λ (edge : Edge). lt_z x edge.x1 && test edge) w) pieces ≡ total (asked test w) (filter (goes_on x) pieces)
    asked_too test w =
        total-same (asked (λ (edge : Edge). lt_z x edge.x1 && test edge) w) (λ p. cond (goes_on x p) (asked test w p) (pos 0)) pieces (λ i d within. let p = get_or pieces i d in both_asked (goes_on x p) (test p.edge) (w p))
        ∙ total-filter (goes_on x) (asked test w) pieces

pub going-weigh_upto : (most : ℕ) (x : ℤ) (pieces : List Piece) → AllPairs (λ one other. one.edge ≢ other.edge) pieces → WeighUpto most pieces → (count : ℕ) → WeighUpto most (take count (filter (goes_on x) pieces))
going-weigh_upto most x pieces distinct weigh count =
    weigh-first_ones most (filter (goes_on x) pieces) (AllPairs-filter (λ one other. one.edge ≢ other.edge) (goes_on x) pieces distinct) (going-weigh most x pieces weigh) count

-- So what is counted of the active ones is what is counted of all.
pub active-counted : (point : Point) (pieces active : List Piece) → AreActive point.x pieces active → counts_upto point active ≡ counts_upto point pieces
active-counted point pieces active are = sym (going-counted point active) ∙ ap (counts_upto point) (active-left point.x pieces active are) ∙ going-counted point pieces
