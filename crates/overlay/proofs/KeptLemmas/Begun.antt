-- What the status holds in the sweep of a fill: the pieces that have begun and not ended, sorted.
use Rattle.std.proofs.Common.{◌≡◌, ◌⊎◌, ◌<◌, ◌≤◌, ◌+◌, ◌++◌, [], ◌∷◌, inl, inr, true, false, ℕ, ℤ, ◌≤ℤ◌, ◌<ℤ◌, List, Option, Some, None, length, get_or, refl, ap, sym, subst, suc, zero, ◌∙◌, arith}
use Rattle.std.specs.List.{All, Contains}
use Rattle.std.proofs.lemmas.Bool.{cases_lt}
use Rattle.std.proofs.lemmas.Int.{ints}
use Rattle.std.proofs.lemmas.List.{length-append}
use Rattle.std.proofs.lemmas.List.Elements.{All-append, All-cons, All-contains, All-filter, All-weaker, Contains-append_cases, Contains-append_left, Contains-append_right, Contains-get_or}
use Rattle.i_tree.specs.Root.Along.{IsLast}
use Rattle.i_tree.specs.Root.Change.{Without}
use Rattle.i_tree.specs.Root.Change.Without.{none, keeps, loses}
use Rattle.i_tree.proofs.RootLemmas.Joined.{All-front, All-behind, Contains-middle}
use Rattle.i_tree.proofs.RootLemmas.Lists.{Contains-here, Contains-there}
use Rattle.i_tree.proofs.RootLemmas.Withouts.{All-without}
use Rattle.plane.specs.declared.edge.Edge.{Edge}
use Rattle.plane.specs.declared.sweep_line.active.ActiveEdge.{ActiveEdge}
use Rattle.plane.specs.SweepLine.Active.{Entry, IsExpiredAt, is_live_at, live_entries}
use Rattle.plane.specs.SweepLine.Crossings.{Cross}
use Rattle.plane.specs.SweepLine.Line.{BeganBefore, IsSortedAt, JoinsAt, NoneCrossAmong}
use Rattle.plane.proofs.SweepLineLemmas.Live.{is_live_at-before}
use Rattle.overlay.specs.declared.fill.pieces.Piece.{Piece}
use Rattle.overlay.specs.Fill.Begins.{BeginsUpto}
use Rattle.overlay.specs.Fill.Sweep.{AreFillPieces, no_piece}
use Rattle.overlay.proofs.FillLemmas.Callers.{pieces-uncrossed}

abbrev pub piece_at : List Piece → ℕ → Piece
piece_at pieces i = get_or pieces i no_piece

-- the piece at this place as it stands in the status
abbrev pub entry_at : List Piece → ℕ → Entry
entry_at pieces i = (record { edge = (piece_at pieces i).edge; place = i }, tt)

-- an entry of one of the first pieces
pub record IsEntryOf (pieces : List Piece) (k : ℕ) (entry : Entry) : Type 0 where
  pub below : entry.0.place < k
  pub is : entry ≡ entry_at pieces entry.0.place

-- The first k pieces have begun by x, and the status holds those of them that are live later.
pub record HasBegun (pieces : List Piece) (k : ℕ) (x : ℤ) (stored : List Entry) : Type 0 where
  pub of : All (IsEntryOf pieces k) stored
  pub each : (i : ℕ) → i < k → x <ℤ (piece_at pieces i).edge.x1 → Contains stored (entry_at pieces i)
  pub sorted : (later : ℤ) → x ≤ℤ later → IsSortedAt later (live_entries later stored)
  pub few : length stored ≤ k

pub HasBegun-none : (pieces : List Piece) (x : ℤ) → HasBegun pieces 0 x []
HasBegun-none pieces x = record {
  of = λ k d within. absurd (omega (arith, within));
  each = λ i below. absurd (omega (arith, below));
  sorted = λ later upto. record {
    active = λ k d within. absurd (omega (arith, within));
    here = λ i j d less within. absurd (omega (arith, less, within));
    behind = λ i j d less within. absurd (omega (arith, less, within));
  };
  few = omega arith;
}

-- what may not go stays
stays : {X : Type 0} {MayGo : X → Type 0} {before after : List X} → Without MayGo before after → (x : X) → ¬ (MayGo x) → Contains before x → Contains after x
stays none x never held = held
stays {X} {MayGo} (keeps {before = before} {after = after} y rest) x never (zero, within, is) = subst (Contains (y ∷ after)) is (Contains-here y after)
stays (keeps {before = before} {after = after} y rest) x never (suc k, within, is) = Contains-there y after x (stays rest x never (k, omega (arith, within), is))
stays {X} {MayGo} (loses y may rest) x never (zero, within, is) = absurd (never (subst MayGo is may))
stays (loses y may rest) x never (suc k, within, is) = stays rest x never (k, omega (arith, within), is)

fewer : {X : Type 0} {MayGo : X → Type 0} {before after : List X} → Without MayGo before after → length after ≤ length before
fewer none = omega arith
fewer (keeps y rest) = let less = fewer rest in omega (arith, less)
fewer (loses y may rest) = let less = fewer rest in omega (arith, less)

-- what holds of each entry holds of the last one of some
pub last-holds : (Q P : Entry → Type 0) (entries : List Entry) (told : Option Entry) (entry : Entry) → told ≡ Some entry → All Q entries → IsLast P entries told → Q entry
last-holds Q P entries None entry is all last = cc
last-holds Q P entries (Some found) entry is all (front, back, parts, rest, others) =
    subst (λ (one : Option Entry). Holds one) is (All-contains Q entries found all (subst (λ (list : List Entry). Contains list found) (sym parts) (Contains-middle front found back)))
  where
    Holds : Option Entry → Type 0
    Holds None = ⊥
    Holds (Some one) = Q one

module _ (pieces : List Piece) (fill : AreFillPieces pieces) where
  pub held : (i : ℕ) → i < length pieces → Contains pieces (piece_at pieces i)
  held i within = Contains-get_or pieces i no_piece within

  pub goes_on : (i : ℕ) → i < length pieces → (piece_at pieces i).edge.x0 <ℤ (piece_at pieces i).edge.x1
  goes_on i within = fill.are.onwards i no_piece within

  -- of two pieces the first one doesn't begin behind the second
  pub begins_upto : (i j : ℕ) → i < j → j < length pieces → BeginsUpto (piece_at pieces i).edge (piece_at pieces j).edge
  begins_upto i j less within = fill.order i j no_piece less within

  x_upto : (one other : Edge) → BeginsUpto one other → one.x0 ≤ℤ other.x0
  x_upto one other (inl less) = omega (arith, ints, less)
  x_upto one other (inr (same, rest)) = omega (arith, ints, same)

  pub x_order : (i j : ℕ) → i < j → j < length pieces → (piece_at pieces i).edge.x0 ≤ℤ (piece_at pieces j).edge.x0
  x_order i j less within = x_upto (piece_at pieces i).edge (piece_at pieces j).edge (begins_upto i j less within)

  module _ (k : ℕ) (within : k < length pieces) (x : ℤ) (upto : x ≤ℤ (piece_at pieces k).edge.x0) (stored : List Entry) (has : HasBegun pieces k x stored) where
    abbrev start : ℤ
    start = (piece_at pieces k).edge.x0

    abbrev beginning : ActiveEdge
    beginning = record { edge = (piece_at pieces k).edge; place = k }

    live_of : All (IsEntryOf pieces k) (live_entries start stored)
    live_of = All-filter (is_live_at start) (IsEntryOf pieces k) stored has.of

    began : (entry : Entry) → IsEntryOf pieces k entry → BeganBefore entry.0 beginning
    began entry is =
        let here : entry.0.edge ≡ (piece_at pieces entry.0.place).edge = ap (λ (e : Entry). e.0.edge) is.is in
        by here (begins_upto entry.0.place k is.below within)
      where
        by : entry.0.edge ≡ (piece_at pieces entry.0.place).edge → BeginsUpto (piece_at pieces entry.0.place).edge (piece_at pieces k).edge → BeganBefore entry.0 beginning
        by here (inl less) = inl (subst (λ (e : Edge). e.x0 <ℤ start) (sym here) less)
        by here (inr (same, rest)) = inr (ap (λ (e : Edge). e.x0) here ∙ same, is.below)

    pub begin-last : All (λ entry. BeganBefore entry.0 beginning) (live_entries start stored)
    begin-last = All-weaker (IsEntryOf pieces k) (λ entry. BeganBefore entry.0 beginning) began (live_entries start stored) live_of

    pub begin-places : (size : ℕ) → k ≤ size → All (λ entry. entry.0.place < size) (live_entries start stored)
    begin-places size is = All-weaker (IsEntryOf pieces k) (λ entry. entry.0.place < size) (λ entry of. (let below = of.below in omega (arith, below, is))) (live_entries start stored) live_of

    -- ---- one more

    wider : (entry : Entry) → IsEntryOf pieces k entry → IsEntryOf pieces (k + 1) entry
    wider entry is = record { below = (let below = is.below in omega (arith, below)); is = is.is }

    module _ (after : List Entry) (joins : JoinsAt start (beginning, tt) stored after) where
      pub joined-of : All (IsEntryOf pieces (k + 1)) after
      joined-of =
          let others = All-without (IsEntryOf pieces (k + 1)) joins.kept (All-weaker (IsEntryOf pieces k) (IsEntryOf pieces (k + 1)) wider stored has.of) in
          subst (All (IsEntryOf pieces (k + 1))) (sym joins.place)
          (All-append (IsEntryOf pieces (k + 1)) joins.front ((beginning, tt) ∷ joins.back) (All-front (IsEntryOf pieces (k + 1)) joins.front joins.back others)
          (All-cons (IsEntryOf pieces (k + 1)) (beginning, tt) joins.back (record { below = omega arith; is = refl }) (All-behind (IsEntryOf pieces (k + 1)) joins.front joins.back others)))

      around : (entry : Entry) → Contains joins.front entry ⊎ Contains joins.back entry → Contains (joins.front ++ (beginning, tt) ∷ joins.back) entry
      around entry (inl front) = Contains-append_left joins.front ((beginning, tt) ∷ joins.back) entry front
      around entry (inr back) = Contains-append_right joins.front ((beginning, tt) ∷ joins.back) entry (Contains-there (beginning, tt) joins.back entry back)

      stays_live : (i : ℕ) → start <ℤ (piece_at pieces i).edge.x1 → ¬ (IsExpiredAt start (entry_at pieces i))
      stays_live i before expired = let live = is_live_at-before start (entry_at pieces i) before in never (sym live ∙ expired)
        where
          never : true ≡ false → ⊥
          never h = cc

      pub joined-each : (i : ℕ) → i < k + 1 → start <ℤ (piece_at pieces i).edge.x1 → Contains after (entry_at pieces i)
      joined-each i below before = subst (λ (entries : List Entry). Contains entries (entry_at pieces i)) (sym joins.place) (elim (cases_lt i k) [
        | inl less ↦ around (entry_at pieces i) (Contains-append_cases joins.front joins.back (entry_at pieces i) (stays joins.kept (entry_at pieces i) (stays_live i before) (has.each i less (omega (arith, ints, upto, before)))))
        | inr most ↦
            let same : k ≡ i = omega (arith, below, most) in
            subst (λ (n : ℕ). Contains (joins.front ++ (beginning, tt) ∷ joins.back) (entry_at pieces n)) same (Contains-middle joins.front (beginning, tt) joins.back)
      ])

      joined-few : length after ≤ k + 1
      joined-few =
          let size = ap (λ (entries : List Entry). length entries) joins.place in
          let sum = length-append joins.front ((beginning, tt) ∷ joins.back) in
          let sum_too = length-append joins.front joins.back in
          let less = fewer joins.kept in
          let few = has.few in
          omega (arith, size, sum, sum_too, less, few)

      uncrossed : (one other : Entry) → IsEntryOf pieces (k + 1) one → IsEntryOf pieces (k + 1) other → ¬ (Cross one.0.edge other.0.edge)
      uncrossed one other is is_too =
          let first = is.below in
          let second = is_too.below in
          subst (λ (e : Edge). ¬ (Cross e other.0.edge)) (sym (ap (λ (e : Entry). e.0.edge) is.is))
          (subst (λ (e : Edge). ¬ (Cross (piece_at pieces one.0.place).edge e)) (sym (ap (λ (e : Entry). e.0.edge) is_too.is))
          (pieces-uncrossed fill.subject fill.clip fill.closed fill.clip_closed fill.noded pieces fill.are (piece_at pieces one.0.place) (piece_at pieces other.0.place)
          (held one.0.place (omega (arith, first, within))) (held other.0.place (omega (arith, second, within)))))

      none_cross : NoneCrossAmong (live_entries start after)
      none_cross i j d less inside =
          let all = All-filter (is_live_at start) (IsEntryOf pieces (k + 1)) after joined-of in
          uncrossed (get_or (live_entries start after) i d) (get_or (live_entries start after) j d) (all i d (omega (arith, less, inside))) (all j d inside)

      pub HasBegun-more : ((later : ℤ) → start ≤ℤ later → NoneCrossAmong (live_entries start after) → IsSortedAt later (live_entries later after)) → HasBegun pieces (k + 1) start after
      HasBegun-more sorted = record {
        of = joined-of;
        each = joined-each;
        sorted = λ later from. sorted later from none_cross;
        few = joined-few;
      }
