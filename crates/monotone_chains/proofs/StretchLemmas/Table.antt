-- Stretches of several edges in a table, by their chords.
use Rattle.std.proofs.Common.{◌≡◌, ◌≢◌, inl, inr, ℕ, ◌<◌, ℤ, ◌<ℤ◌, List, Result, Ok, Err, get_or, length, Ordering, Less, Equal, Greater, refl, ap, ap₂, ◌∙◌, subst, arith}
use denote.Param.Members.{Mut}
use denote.Ref.{Bor}
use Rattle.std.specs.Fn.{Called, ComputesKey}
use Rattle.std.specs.List.{Contains}
use Rattle.std.specs.List.Sorted.{IsBinarySearchResult, IsSearchInRange, IsSortedByKey}
use Rattle.std.specs.Ordering.{MatchOrdering, int_cmp, ordering_then}
use Rattle.std.proofs.lemmas.Bool.{cases_lt}
use Rattle.std.proofs.lemmas.Cmp.{int_ranked, tied_itself}
use Rattle.std.proofs.lemmas.Fn.{always_returns_same}
use Rattle.std.proofs.lemmas.List.Elements.{Contains-get_or}
use Rattle.std.proofs.lemmas.List.Sorted.{searchable_from_sorted}
use Rattle.monotone_chains.specs.Stretches.Widening.{AreInOrder, edge_cmp}
use Rattle.plane.specs.contracts.edge.EdgeOrd.TheImpl.Laws.{total-law as edge_total}
use Rattle.plane.specs.declared.edge.Edge.{Edge}
use Rattle.monotone_chains.specs.declared.stretches.widening.LongStretch.{LongStretch}

-- ---- chords that compare as equal are one

then-equal : (first second : Ordering) → ordering_then first second ≡ Equal → (first ≡ Equal) × (second ≡ Equal)
then-equal Less second is = absurd cc
then-equal Equal second is = (refl, is)
then-equal Greater second is = absurd cc

int_cmp-equal : (a b : ℤ) → int_cmp a b ≡ Equal → a ≡ b
int_cmp-equal a b is = go (int_cmp a b) (int_ranked a b (int_cmp a b) refl) is
  where
    go : (o : Ordering) → MatchOrdering o (a <ℤ b) (a ≡ b) (b <ℤ a) → o ≡ Equal → a ≡ b
    go Less said none = absurd cc
    go Equal said none = said
    go Greater said none = absurd cc

edge_cmp-equal : (one other : Edge) → edge_cmp one other ≡ Equal → one ≡ other
edge_cmp-equal one other is =
    let first = then-equal (int_cmp one.x0 other.x0) _ is in
    let second = then-equal (int_cmp one.y0 other.y0) _ first.1 in
    let third = then-equal (int_cmp one.x1 other.x1) _ second.1 in
    ap₂ (λ (from to : ℤ × ℤ). let is : Edge = record { x0 = from.0; y0 = from.1; x1 = to.0; y1 = to.1 } in is)
    (ap₂ (λ (x y : ℤ). (x, y)) (int_cmp-equal one.x0 other.x0 first.0) (int_cmp-equal one.y0 other.y0 second.0))
    (ap₂ (λ (x y : ℤ). (x, y)) (int_cmp-equal one.x1 other.x1 third.0) (int_cmp-equal one.y1 other.y1 third.1))

-- ---- what a sort and a search by the chord ensure

module _ {F : Type 0} {g : Mut F (Bor LongStretch × Unit {0}) Edge} {f : F} (answers : (a : Bor LongStretch × Unit {0}) (r : Edge) (f' : F) → Called g f a r f' → (r ≡ a.0.now.chord) × (f' ≡ f)) where
  computes : ComputesKey g (λ (entry : LongStretch). entry.chord) f
  computes = always_returns_same g (λ a r. r ≡ a.0.now.chord) f answers

  pub in_order-from_sort : (table : List LongStretch) → ((key : LongStretch → Edge) → ComputesKey g key f → IsSortedByKey key edge_cmp table) → AreInOrder table
  in_order-from_sort table rising = rising (λ (entry : LongStretch). entry.chord) computes

  pub searched-by_chord : (table : List LongStretch) (chord : Edge) (result : Result ℕ ℕ) → ((key : LongStretch → Edge) → ComputesKey g key f → IsBinarySearchResult (λ entry. edge_cmp (key entry) chord) table result)
      → IsBinarySearchResult (λ (entry : LongStretch). edge_cmp entry.chord chord) table result
  searched-by_chord table chord result said = said (λ (entry : LongStretch). entry.chord) computes

module _ (table : List LongStretch) (chord : Edge) (result : Result ℕ ℕ) (place : ℕ) (said : IsBinarySearchResult (λ (entry : LongStretch). edge_cmp entry.chord chord) table result) where
  abbrev Says : Result ℕ ℕ → Type 0
  Says r = IsBinarySearchResult (λ (entry : LongStretch). edge_cmp entry.chord chord) table r

  pub found-chord : (d : LongStretch) → result ≡ Ok place → IsSearchInRange result (length table) → Contains table (get_or table place d) × ((get_or table place d).chord ≡ chord)
  found-chord d is bound =
      let inside : place < length table = subst (λ (r : Result ℕ ℕ). IsSearchInRange r (length table)) is bound in
      (Contains-get_or table place d inside, edge_cmp-equal (get_or table place d).chord chord (subst Says is said d))

  pub no-chord : result ≡ Err place → AreInOrder table → (entry : LongStretch) → Contains table entry → entry.chord ≢ chord
  no-chord is in_order entry (k, inside, at) same =
      let (before, behind) = subst Says is said (searchable_from_sorted edge_total (λ (other : LongStretch). other.chord) table chord in_order) in
      let here : edge_cmp (get_or table k entry).chord chord ≡ Equal = ap (λ (e : LongStretch). edge_cmp e.chord chord) at ∙ ap (λ (c : Edge). edge_cmp c chord) same ∙ tied_itself edge_total chord in
      elim (cases_lt k place) [
        | inl below ↦ let less = before k entry (omega arith) below in cc
        | inr from ↦ let greater = behind k entry from inside in cc
      ]
