-- What is told of neighbours along the status: that they cross.
use Rattle.std.proofs.Common.{◌≡◌, ◌≢◌, ◌≤◌, ◌<ℤ◌, ℕ, List, ◌∷◌, Option, Some, None, refl, sym, ap, ◌∙◌, subst, ⊎_elim, arith}
use Rattle.std.specs.List.{All, AllPairs, Contains}
use Rattle.std.specs.Ordering.{ordering_index}
use Rattle.std.specs.declared.cmp.Ordering.{Ordering}
use Rattle.std.specs.declared.cmp.Ordering.TheVariants.{Less, Equal, Greater}
use Rattle.std.proofs.lemmas.List.Elements.{All-contains, Contains-append_cases, Contains-append_right}
use Rattle.i_tree.proofs.RootLemmas.Lists.{Contains-here, Contains-there}
use Rattle.i_tree.specs.Root.Along.{AreNeighbours, IsFirst, IsLast, IsMonotoneAlong}
use Rattle.plane.specs.declared.sweep_line.active.ActiveEdge.{ActiveEdge}
use Rattle.plane.specs.Locate.Serving.{AreCrossing, AreInOrder, HaveCrossing}
use Rattle.plane.specs.SweepLine.Active.{Entry, cmp_active}
use Rattle.plane.proofs.SweepLineLemmas.Adjacent.{AllPairs-after, AllPairs-before}
use Rattle.plane.proofs.SweepLineLemmas.Exchanged.{less_from_greater}
use Rattle.plane.proofs.SweepLineLemmas.Later.{around_cases}

module _ (P : Entry → Type 0) (entries : List Entry) (entry : Entry) where
  -- the last and the first that meet P stand in the list
  Contains-last : IsLast P entries (Some entry) → Contains entries entry
  Contains-last (front, back, are, meets, none) =
      subst (λ (all : List Entry). Contains all entry) (sym are) (Contains-append_right front (entry ∷ back) entry (Contains-here entry back))

  Contains-first : IsFirst P entries (Some entry) → Contains entries entry
  Contains-first (front, back, are, meets, none) =
      subst (λ (all : List Entry). Contains all entry) (sym are) (Contains-append_right front (entry ∷ back) entry (Contains-here entry back))

-- neighbours that cross are two of the entries that do
pub crossing_between : (order : ActiveEdge → Ordering) (entries : List Entry) (found : Option Entry × Option Entry) (i j : ℕ)
    → AreNeighbours order entries found → AreCrossing found.0 found.1 i j → HaveCrossing entries i j
crossing_between order entries (Some one, Some other) i j (last, first) told = (
  one,
  other,
  Contains-last (λ entry. order entry.0 ≢ Greater) entries one last,
  Contains-first (λ entry. order entry.0 ≡ Greater) entries other first,
  told,
)
crossing_between order entries (Some one, None) i j are told = absurd told
crossing_between order entries (None, above) i j are told = absurd told

-- so are one of them and an entry that joins
pub crossing_below : (P : Entry → Type 0) (entries : List Entry) (entry : Entry) (below : Option Entry) (i j : ℕ)
    → IsLast P entries below → AreCrossing below (Some entry) i j → HaveCrossing (entry ∷ entries) i j
crossing_below P entries entry (Some one) i j last told =
    (one, entry, Contains-there entry entries one (Contains-last P entries one last), Contains-here entry entries, told)
crossing_below P entries entry None i j last told = absurd told

pub crossing_above : (P : Entry → Type 0) (entries : List Entry) (entry : Entry) (above : Option Entry) (i j : ℕ)
    → IsFirst P entries above → AreCrossing (Some entry) above i j → HaveCrossing (entry ∷ entries) i j
crossing_above P entries entry (Some other) i j first told =
    (entry, other, Contains-here entry entries, Contains-there entry entries other (Contains-first P entries other first), told)
crossing_above P entries entry None i j first told = absurd told

-- ---- in order

-- none is behind Greater
index_greater : (r : Ordering) → ordering_index Greater ≤ ordering_index r → r ≡ Greater
index_greater Less behind = absurd (omega (arith, behind))
index_greater Equal behind = absurd (omega (arith, behind))
index_greater Greater behind = refl

abbrev pub GoesRight : Entry → Type 0
GoesRight entry = entry.0.edge.x0 <ℤ entry.0.edge.x1

-- the neighbours of an entry that joins are so beside it
pub in_order_below : (entries : List Entry) (entry : Entry) (below : Option Entry) → All GoesRight entries → GoesRight entry
    → IsLast (λ other. cmp_active other.0 entry.0 ≢ Greater) entries below → AreInOrder below (Some entry)
in_order_below entries entry None rights right last = tt
in_order_below entries entry (Some one) rights right last =
    let held = Contains-last (λ other. cmp_active other.0 entry.0 ≢ Greater) entries one last in
    let (front, back, are, meets, none) = last in
    (All-contains GoesRight entries one rights held, right, meets)

pub in_order_above : (entries : List Entry) (entry : Entry) (above : Option Entry) → All GoesRight entries → GoesRight entry
    → IsFirst (λ other. cmp_active other.0 entry.0 ≡ Greater) entries above → AreInOrder (Some entry) above
in_order_above entries entry None rights right first = tt
in_order_above entries entry (Some other) rights right first =
    let held = Contains-first (λ (one : Entry). cmp_active one.0 entry.0 ≡ Greater) entries other first in
    let (front, back, are, meets, none) = first in
    (right, All-contains GoesRight entries other rights held, λ greater. let both : Less ≡ Greater = sym (less_from_greater other.0 entry.0 meets) ∙ greater in absurd cc)

-- and two neighbours along a line in order
pub in_order_between : (order : ActiveEdge → Ordering) (entries : List Entry) (found : Option Entry × Option Entry) → IsMonotoneAlong order entries → All GoesRight entries
    → AllPairs (λ one other. cmp_active one.0 other.0 ≡ Less) entries → AreNeighbours order entries found → AreInOrder found.0 found.1
in_order_between order entries (None, above) monotone rights pairs (last, first) = tt
in_order_between order entries (Some one, None) monotone rights pairs (last, first) = tt
in_order_between order entries (Some one, Some other) monotone rights pairs (last, first) =
    let held = Contains-last (λ entry. order entry.0 ≢ Greater) entries one last in
    let held_too = Contains-first (λ entry. order entry.0 ≡ Greater) entries other first in
    let (front, back, are, meets, none) = last in
    let (front', back', are', greater, none') = first in
    let behind : Contains back other = ⊎_elim
    (λ (same : one ≡ other). absurd (meets (ap (λ (entry : Entry). order entry.0) same ∙ greater)))
    (λ there. ⊎_elim
    (λ before.
    let rises : ordering_index (order other.0) ≤ ordering_index (order one.0) =
    All-contains (λ (entry : Entry). ordering_index (order entry.0) ≤ ordering_index (order one.0)) front other
    (AllPairs-before (λ (earlier later : Entry). ordering_index (order earlier.0) ≤ ordering_index (order later.0)) front one back (subst (IsMonotoneAlong order) are monotone)) before in
    absurd (meets (index_greater (order one.0) (subst (λ r. ordering_index r ≤ ordering_index (order one.0)) greater rises))))
    (λ after. after)
    (Contains-append_cases front back other there))
    (around_cases front one back other (subst (λ (all : List Entry). Contains all other) are held_too)) in
    let less : cmp_active one.0 other.0 ≡ Less =
    All-contains (λ (entry : Entry). cmp_active one.0 entry.0 ≡ Less) back other
    (AllPairs-after (λ (earlier later : Entry). cmp_active earlier.0 later.0 ≡ Less) front one back (subst (AllPairs (λ (earlier later : Entry). cmp_active earlier.0 later.0 ≡ Less)) are pairs)) behind in
    (All-contains GoesRight entries one rights held, All-contains GoesRight entries other rights held_too, λ above. let both : Less ≡ Greater = sym less ∙ above in absurd cc)
