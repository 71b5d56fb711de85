-- Changes are of at most 127 edges each, so that sums of them are no further from 0 than 127 times as many; and one change more.
use Rattle.std.proofs.Common.{◌≡◌, ◌++◌, [], ◌∷◌, ℕ, ◌+◌, ◌<◌, ◌*◌, ◌^◌, ℤ, pos, ◌+ℤ◌, ◌-ℤ◌, ◌≤ℤ◌, ◌<ℤ◌, List, length, get_or, drop, refl, ap, sym, ◌∙◌, arith, append_assoc, append-nil}
use Rattle.std.proofs.lemmas.Int.{ints}
use Rattle.overlay.specs.declared.boundary.lines.Change.{Change}
use Rattle.overlay.specs.declared.boundary.lines.Place.{Place}
use Rattle.overlay.specs.declared.boundary.lines.Sums.{Sums}
use Rattle.overlay.specs.declared.fill.pieces.Piece.{Piece}
use Rattle.overlay.specs.Lines.{Fit, IsSmallChange, all_stretches, nothing, plus, stretch_between, stretches_from}

-- ---- sums of changes

-- the sums are no further from 0 than that
pub record AreSmall (most : ℕ) (sums : Sums) : Type 0 where
  pub from : (pos 0 -ℤ pos most) ≤ℤ sums.count
  pub upto : sums.count ≤ℤ pos most
  pub subject_from : (pos 0 -ℤ pos most) ≤ℤ sums.subject
  pub subject_upto : sums.subject ≤ℤ pos most
  pub clip_from : (pos 0 -ℤ pos most) ≤ℤ sums.clip
  pub clip_upto : sums.clip ≤ℤ pos most

pub small-nothing : AreSmall 0 nothing
small-nothing = record {
  from = omega (arith, ints);
  upto = omega (arith, ints);
  subject_from = omega (arith, ints);
  subject_upto = omega (arith, ints);
  clip_from = omega (arith, ints);
  clip_upto = omega (arith, ints);
}

more_from : (k : ℕ) (a b : ℤ) → (pos 0 -ℤ pos (127 * k)) ≤ℤ a → (pos 0 -ℤ pos 127) ≤ℤ b → (pos 0 -ℤ pos (127 * (k + 1))) ≤ℤ (a +ℤ b)
more_from k a b first second = omega (arith, ints, first, second)

more_upto : (k : ℕ) (a b : ℤ) → a ≤ℤ pos (127 * k) → b ≤ℤ pos 127 → (a +ℤ b) ≤ℤ pos (127 * (k + 1))
more_upto k a b first second = omega (arith, ints, first, second)

pub small-plus : (k : ℕ) (sums : Sums) (change : Change) → AreSmall (127 * k) sums → IsSmallChange change → AreSmall (127 * (k + 1)) (plus sums change)
small-plus k sums change small each = record {
  from = more_from k sums.count change.count small.from each.from;
  upto = more_upto k sums.count change.count small.upto each.upto;
  subject_from = more_from k sums.subject change.subject small.subject_from each.subject_from;
  subject_upto = more_upto k sums.subject change.subject small.subject_upto each.subject_upto;
  clip_from = more_from k sums.clip change.clip small.clip_from each.clip_from;
  clip_upto = more_upto k sums.clip change.clip small.clip_upto each.clip_upto;
}

fits_from : (k n : ℕ) (z : ℤ) → k < n → 127 * n < 2 ^ 63 → (pos 0 -ℤ pos (127 * (k + 1))) ≤ℤ z → (pos 0 -ℤ pos (2 ^ 63)) ≤ℤ z
fits_from k n z inside few h = omega (arith, ints, inside, few, h)

fits_below : (k n : ℕ) (z : ℤ) → k < n → 127 * n < 2 ^ 63 → z ≤ℤ pos (127 * (k + 1)) → z <ℤ pos (2 ^ 63)
fits_below k n z inside few h = omega (arith, ints, inside, few, h)

pub small-fit : (k n : ℕ) (sums : Sums) (change : Change) → AreSmall (127 * k) sums → IsSmallChange change → k < n → 127 * n < 2 ^ 63 → Fit sums change
small-fit k n sums change small each inside few =
    let of = small-plus k sums change small each in record {
      from = fits_from k n (sums.count +ℤ change.count) inside few of.from;
      below = fits_below k n (sums.count +ℤ change.count) inside few of.upto;
      subject_from = fits_from k n (sums.subject +ℤ change.subject) inside few of.subject_from;
      subject_below = fits_below k n (sums.subject +ℤ change.subject) inside few of.subject_upto;
      clip_from = fits_from k n (sums.clip +ℤ change.clip) inside few of.clip_from;
      clip_below = fits_below k n (sums.clip +ℤ change.clip) inside few of.clip_upto;
    }

-- ---- the stretches so far

-- these are there, and with those from there on they are all
pub record AreUpto (changes : List Change) (k : ℕ) (from : Place) (sums : Sums) (stretches : List Piece) : Type 0 where
  pub all : stretches ++ stretches_from from sums (drop k changes) ≡ all_stretches changes
  pub small : AreSmall (127 * k) sums

pub upto-none : (changes : List Change) (d : Change) → 0 < length changes → AreUpto changes 0 (get_or changes 0 d).place nothing []
upto-none [] d some = absurd (omega (arith, some))
upto-none (change ∷ changes) d some = record { all = refl; small = small-nothing }

pub upto-more : (changes : List Change) (k : ℕ) (from : Place) (sums : Sums) (stretches : List Piece) (change : Change) → drop k changes ≡ change ∷ drop (k + 1) changes → IsSmallChange change → AreUpto changes k from sums stretches
    → AreUpto changes (k + 1) change.place (plus sums change) (stretches ++ stretch_between from change.place sums)
upto-more changes k from sums stretches change cut each upto = record {
  all = append_assoc stretches (stretch_between from change.place sums) (stretches_from change.place (plus sums change) (drop (k + 1) changes))
      ∙ ap (λ (list : List Change). stretches ++ stretches_from from sums list) (sym cut) ∙ upto.all;
  small = small-plus k sums change upto.small each;
}

pub upto-all : (changes : List Change) (k : ℕ) (from : Place) (sums : Sums) (stretches : List Piece) → drop k changes ≡ [] → AreUpto changes k from sums stretches → stretches ≡ all_stretches changes
upto-all changes k from sums stretches none upto = sym (append-nil stretches) ∙ ap (λ (list : List Change). stretches ++ stretches_from from sums list) (sym none) ∙ upto.all
