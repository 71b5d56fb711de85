-- Which entries of the status are live at an x: those whose edges end behind it.
use Rattle.std.proofs.Common.{◌≡◌, ℤ, pos, ◌-ℤ◌, ◌≤ℤ◌, ◌<ℤ◌, Bool, true, false, List, ◌∷◌, filter, get_or, refl, arith}
use Rattle.std.specs.Ordering.{MatchOrdering, int_cmp, is_ge}
use Rattle.std.specs.declared.cmp.Ordering.{Ordering}
use Rattle.std.specs.declared.cmp.Ordering.TheVariants.{Less, Equal, Greater}
use Rattle.std.proofs.lemmas.Cmp.{int_ranked}
use Rattle.std.proofs.lemmas.Int.{ints}
use Rattle.i_tree.proofs.RootLemmas.Lists.{filter_all}
use Rattle.plane.specs.SweepLine.Active.{Entry, is_live_at, live_entries}
use Rattle.plane.specs.SweepLine.Line.{AllLiveAt}

ranked_at : (x last : ℤ) → MatchOrdering (int_cmp last x) (last <ℤ x) (last ≡ x) (x <ℤ last)
ranked_at x last = int_ranked last x (int_cmp last x) refl

live_from : (x last : ℤ) (r : Ordering) → MatchOrdering r (last <ℤ x) (last ≡ x) (x <ℤ last) → x ≤ℤ last → is_ge r ≡ true
live_from x last Less below within = absurd (omega (arith, ints, below, within))
live_from x last Equal same within = refl
live_from x last Greater above within = refl

expired_from : (x last : ℤ) (r : Ordering) → MatchOrdering r (last <ℤ x) (last ≡ x) (x <ℤ last) → last <ℤ x → is_ge r ≡ false
expired_from x last Less below past = refl
expired_from x last Equal same past = absurd (omega (arith, ints, same, past))
expired_from x last Greater above past = absurd (omega (arith, ints, above, past))

upto_from : (x last : ℤ) (r : Ordering) → MatchOrdering r (last <ℤ x) (last ≡ x) (x <ℤ last) → is_ge r ≡ true → x ≤ℤ last
upto_from x last Less below lives = cc
upto_from x last Equal same lives = omega (arith, ints, same)
upto_from x last Greater above lives = omega (arith, ints, above)

-- an entry is live at an x exactly where its edge ends behind it
pub is_live_at-before : (x : ℤ) (entry : Entry) → x <ℤ entry.0.edge.x1 → is_live_at x entry ≡ true
is_live_at-before x entry before =
    let last = entry.0.edge.x1 -ℤ pos 1 in
    live_from x last (int_cmp last x) (ranked_at x last) (omega (arith, ints, before))

pub is_live_at-ended : (x : ℤ) (entry : Entry) → entry.0.edge.x1 ≤ℤ x → is_live_at x entry ≡ false
is_live_at-ended x entry ended =
    let last = entry.0.edge.x1 -ℤ pos 1 in
    expired_from x last (int_cmp last x) (ranked_at x last) (omega (arith, ints, ended))

pub before-is_live_at : (x : ℤ) (entry : Entry) → is_live_at x entry ≡ true → x <ℤ entry.0.edge.x1
before-is_live_at x entry lives =
    let last = entry.0.edge.x1 -ℤ pos 1 in
    let upto : x ≤ℤ (entry.0.edge.x1 -ℤ pos 1) = upto_from x last (int_cmp last x) (ranked_at x last) lives in
    omega (arith, ints, upto)

-- where none has ended, all are live
pub live_entries-all : (x : ℤ) (line : List Entry) → AllLiveAt x line → live_entries x line ≡ line
live_entries-all x line before = filter_all (is_live_at x) line (λ k d inside. is_live_at-before x (get_or line k d) (before k d inside))

module _ {X : Type 0} (p : X → Bool) (x : X) (xs : List X) where
  pub filter_keeps : p x ≡ true → filter p (x ∷ xs) ≡ x ∷ filter p xs
  filter_keeps passes = rw passes refl

  pub filter_skips : p x ≡ false → filter p (x ∷ xs) ≡ filter p xs
  filter_skips fails = rw fails refl
