-- What the store of a sweep holds where some events are done, and what that says of points and of overlaps.
use Rattle.std.proofs.Common.{◌≡◌, ◌≢◌, ◌⊎◌, inl, inr, ℕ, zero, suc, ◌<◌, ℤ, ◌<ℤ◌, ◌≤ℤ◌, Bool, true, List, [], ◌∷◌, ◌++◌, Option, Some, None, length, get_or, refl, sym, ap, ◌∙◌, subst, ⊎_elim, arith}
use Rattle.std.specs.List.{All, Contains, insert}
use Rattle.std.specs.Ordering.{MatchOrdering, int_cmp, is_ge}
use Rattle.std.specs.Cmp.{int_cmp_is}
use Rattle.std.specs.declared.cmp.Ordering.{Ordering}
use Rattle.std.specs.declared.cmp.Ordering.TheVariants.{Less, Equal, Greater}
use Rattle.std.proofs.lemmas.Cmp.{int_ranked}
use Rattle.std.proofs.lemmas.Int.{ints}
use Rattle.std.proofs.lemmas.List.Elements.{All-contains, Contains-append_left, Contains-push, Contains-push_cases}
use Rattle.std.proofs.lemmas.List.Sorted.{Contains-permutation, IsPermutation-insert, IsPermutation-sym}
use Rattle.std.specs.List.Sorted.{IsPermutation}
use Rattle.event_queue.proofs.QueueLemmas.Places.{StandsAt-read, one_item}
use Rattle.i_tree.specs.Root.Answer.{AtMost}
use Rattle.i_tree.specs.Root.Change.{Gains, Without}
use Rattle.i_tree.specs.Root.Pairs.{HasKey, NoKey}
use Rattle.i_tree.proofs.RootLemmas.Lists.{Contains-filter, Contains-here, Contains-there}
use Rattle.i_tree.proofs.RootLemmas.Numbers.{int_ge-upto, int_upto-ge}
use Rattle.i_tree.proofs.RootLemmas.Withouts.{filter-without}
use Rattle.horizontal.specs.Levels.{Entry, level_of, entry_of, cmp_levels, live_entries, HasEnded}
use Rattle.horizontal.specs.Events.{beginning_of}
use Rattle.horizontal.specs.Heights.{Covers, IsUnder, IsHeightBelow, Placed, StandsIn, ComesBefore, Overlaps}
use Rattle.horizontal.specs.declared.Point.{Point}
use Rattle.horizontal.specs.declared.Segment.{Segment}
use Rattle.event_queue.specs.declared.Event.{Event}
use Rattle.i_tree.proofs.RootLemmas.Members.{Contains-from_filter, Without-within}

-- a number that is at most another, and not the same, is less
less_from : (a b : ℤ) → a ≤ℤ b → int_cmp a b ≢ Equal → int_cmp a b ≡ Less
less_from a b low differs = told (int_cmp a b) (int_ranked a b (int_cmp a b) refl) differs
  where
    told : (r : Ordering) → MatchOrdering r (a <ℤ b) (a ≡ b) (b <ℤ a) → r ≢ Equal → r ≡ Less
    told Less below differs = refl
    told Equal same differs = absurd (differs refl)
    told Greater above differs = absurd (omega (arith, ints))

-- a number that isn't greater than another is at most that one
le_from : (a b : ℤ) → int_cmp a b ≢ Greater → a ≤ℤ b
le_from a b low = told (int_cmp a b) (int_ranked a b (int_cmp a b) refl) low
  where
    told : (r : Ordering) → MatchOrdering r (a <ℤ b) (a ≡ b) (b <ℤ a) → r ≢ Greater → a ≤ℤ b
    told Less below low = omega (arith, ints)
    told Equal same low = omega (arith, ints)
    told Greater above low = absurd (low refl)

-- The entries are of segments that have begun at done events. Each of these is there that doesn't end before some x which no done
-- event lies behind.
pub record Holds (segments : List Segment) (done : List Event) (entries : List Entry) : Type 0 where
  pub has : (x : ℤ) → All (λ event. event.x ≤ℤ x) done → (placed : Placed) → StandsIn segments placed → Contains done (beginning_of placed.0 placed.1) → x ≤ℤ placed.1.x1
      → Contains entries (entry_of placed.1)
  pub of : (entry : Entry) → Contains entries entry → (placed : Placed) × StandsIn segments placed × Contains done (beginning_of placed.0 placed.1) × (entry ≡ entry_of placed.1)

-- a member is the first element or one of the others
here_or_there : {X : Type 0} (x : X) (xs : List X) (y : X) → Contains (x ∷ xs) y → (x ≡ y) ⊎ Contains xs y
here_or_there x xs y (zero, inside, is) = inl is
here_or_there x xs y (suc k, inside, is) = inr (k, omega arith, is)

-- nothing is done and nothing held
pub Holds-nothing : (segments : List Segment) (entries : List Entry) → entries ≡ [] → Holds segments [] entries
Holds-nothing segments entries empty = record {
  has = λ x past placed stands begun within. absurd (omega (arith, begun.1));
  of = λ entry held. let (k, inside, is) = subst (λ (held : List Entry). Contains held entry) empty held in absurd (omega (arith, inside));
}

-- entries that have ended may go
kept : (x : ℤ) (entries entries' : List Entry) → Without (HasEnded x) entries entries' → (segment : Segment) → x ≤ℤ segment.x1 → Contains entries (entry_of segment) → Contains entries' (entry_of segment)
kept x entries entries' without segment within held =
    let test : Entry → Bool = λ entry. is_ge (int_cmp entry.0.last x) in
    let live = Contains-filter test entries (entry_of segment) (int_ge-upto segment.x1 x within) held in
    (Contains-from_filter test entries' (entry_of segment) (subst (λ (kept : List Entry). Contains kept (entry_of segment)) (filter-without test (λ entry ended. ended) without) live)).0

-- At an x that no done event lies behind.
module _ (segments : List Segment) (done : List Event) (entries : List Entry) (holds : Holds segments done entries) (x : ℤ) (before : All (λ other. other.x ≤ℤ x) done) where
  -- a segment that has begun and doesn't end before x is live there
  live : (placed : Placed) → StandsIn segments placed → Contains done (beginning_of placed.0 placed.1) → x ≤ℤ placed.1.x1 → Contains (live_entries x entries) (entry_of placed.1)
  live placed stands begun within =
      Contains-filter (λ entry. is_ge (int_cmp entry.0.last x)) entries (entry_of placed.1) (int_ge-upto placed.1.x1 x within) (holds.has x before placed stands begun within)

  -- what is live is of a segment that has begun and covers x
  of_live : (entry : Entry) → Contains (live_entries x entries) entry
      → (placed : Placed) × StandsIn segments placed × Contains done (beginning_of placed.0 placed.1) × Covers placed.1 x × (entry ≡ entry_of placed.1)
  of_live entry found =
      let (held, test) = Contains-from_filter (λ (other : Entry). is_ge (int_cmp other.0.last x)) entries entry found in
      let (placed, stands, begun, is) = holds.of entry held in
      let last : x ≤ℤ placed.1.x1 = int_upto-ge placed.1.x1 x (ap (λ (other : Entry). is_ge (int_cmp other.0.last x)) (sym is) ∙ test) in
      (placed, stands, begun, (All-contains (λ (other : Event). other.x ≤ℤ x) done (beginning_of placed.0 placed.1) before begun, last), is)

  -- an event at x is done, and some entries that have ended there are gone
  module _ (event : Event) (at : event.x ≡ x) where
    pub Holds-answered : (entries' : List Entry) → Without (HasEnded x) entries entries' → ((placed : Placed) → event ≢ beginning_of placed.0 placed.1) → Holds segments (done ++ event ∷ []) entries'
    Holds-answered entries' without other = record {
      has = λ x' past placed stands begun within.
          let here : event.x ≤ℤ x' = All-contains (λ (other : Event). other.x ≤ℤ x') (done ++ event ∷ []) event past (Contains-push done event) in
          let reaches : x ≤ℤ placed.1.x1 = omega (arith, ints, here, at, within) in
          ⊎_elim (λ earlier. kept x entries entries' without placed.1 reaches (holds.has x before placed stands earlier reaches))
          (λ is. absurd (other placed is))
          (Contains-push_cases done event (beginning_of placed.0 placed.1) begun);
      of = λ entry held.
          let (placed, stands, begun, is) = holds.of entry (Without-within without entry held) in
          (placed, stands, Contains-append_left done (event ∷ []) (beginning_of placed.0 placed.1) begun, is);
    }

    -- the same, and the entry of the segment that begins has joined
    pub Holds-begun : (place : ℕ) (segment : Segment) → StandsIn segments (place, segment) → event ≡ beginning_of place segment
        → (entries' : List Entry) → Gains (HasEnded x) (entry_of segment) entries entries' → Holds segments (done ++ event ∷ []) entries'
    Holds-begun place segment stands begins entries' (left, without, (at', inside, is)) =
        let joined = IsPermutation-insert left at' (entry_of segment) in
        let into : (entry : Entry) → Contains (entry_of segment ∷ left) entry → Contains entries' entry =
        λ entry held. subst (λ (all : List Entry). Contains all entry) (sym is) (Contains-permutation (entry_of segment ∷ left) (insert left at' (entry_of segment)) entry joined held) in
        record {
          has = λ x' past placed stands' begun within.
              let here : event.x ≤ℤ x' = All-contains (λ (other : Event). other.x ≤ℤ x') (done ++ event ∷ []) event past (Contains-push done event) in
              let reaches : x ≤ℤ placed.1.x1 = omega (arith, ints, here, at, within) in
              ⊎_elim (λ earlier. into (entry_of placed.1) (Contains-there (entry_of segment) left (entry_of placed.1) (kept x entries left without placed.1 reaches (holds.has x before placed stands' earlier reaches))))
              (λ same. into (entry_of placed.1) (this_one placed stands' (sym begins ∙ same)))
              (Contains-push_cases done event (beginning_of placed.0 placed.1) begun);
          of = λ entry held.
              let held' = Contains-permutation entries' (entry_of segment ∷ left) entry (subst (λ all. IsPermutation all (entry_of segment ∷ left)) (sym is) (IsPermutation-sym (entry_of segment ∷ left) (insert left at' (entry_of segment)) joined)) held in
              ⊎_elim (λ same. ((place, segment), stands, subst (Contains (done ++ event ∷ [])) begins (Contains-push done event), sym same))
              (λ there.
              let (placed, stands', begun, same) = holds.of entry (Without-within without entry there) in
              (placed, stands', Contains-append_left done (event ∷ []) (beginning_of placed.0 placed.1) begun, same))
              (here_or_there (entry_of segment) left entry held');
        }
      where
        this_one : (placed : Placed) → StandsIn segments placed → beginning_of place segment ≡ beginning_of placed.0 placed.1 → Contains (entry_of segment ∷ left) (entry_of placed.1)
        this_one placed stands' same =
            subst (λ (one : Segment). Contains (entry_of segment ∷ left) (entry_of one)) (one_item segments place placed.0 segment placed.1 (ap (λ (event : Event). event.place) same) stands stands') (Contains-here (entry_of segment) left)

  -- At a point: what a query for the greatest level at most its height answers is the height below it.
  module _ (point : Point) (at : x ≡ point.x) (begun : (placed : Placed) → StandsIn segments placed → Covers placed.1 x → Contains done (beginning_of placed.0 placed.1)) where
    -- each segment under the point is live, so what holds of all live entries holds of it
    under : (P : Entry → Type 0) → All P (live_entries x entries) → (k : ℕ) (d : Segment) → k < length segments → IsUnder point (get_or segments k d) → P (entry_of (get_or segments k d))
    under P all k d inside (covers, low) =
        let segment = get_or segments k d in
        let stands : StandsIn segments (k, segment) = StandsAt-read segments k d inside in
        let here : Covers segment x = subst (Covers segment) (sym at) covers in
        All-contains P (live_entries x entries) (entry_of segment) all (live (k, segment) stands (begun (k, segment) stands here) here.1)

    -- the greatest level is under the point, and no segment under the point is higher
    at_level : (y : ℤ) (answer : Option ℤ) → answer ≡ Some y → ((placed : Placed) × StandsIn segments placed × Covers placed.1 x × (placed.1.y ≡ y)) → y ≤ℤ point.y
        → ((k : ℕ) (d : Segment) → k < length segments → IsUnder point (get_or segments k d) → (get_or segments k d).y ≤ℤ y) → IsHeightBelow segments point answer
    at_level y answer is (placed, stands, covers, same) low none_above =
        subst (IsHeightBelow segments point) (sym is) (
          (placed.0, placed.1, stands.0, stands.1, ((subst (Covers placed.1) at covers, subst (λ h. h ≤ℤ point.y) (sym same) low), same)),
          none_above,
        )

    pub IsHeightBelow-at_most : (answer : Option ℤ) → AtMost cmp_levels (live_entries x entries) (λ level. int_cmp level.y point.y) None answer → IsHeightBelow segments point answer
    IsHeightBelow-at_most answer (inl (k, entry, inside, is, (equal, value))) =
        let (placed, stands, begun', covers, same) = of_live entry (k, inside, is) in
        let height : entry.0.y ≡ point.y = int_ranked entry.0.y point.y Equal (sym equal) in
        at_level placed.1.y answer (value ∙ ap (λ (other : Entry). other.1) same) (placed, stands, covers, refl) (let one : entry.0.y ≡ placed.1.y = ap (λ (other : Entry). other.0.y) same in omega (arith, ints, one, height))
        (λ k' d inside' low. let one : entry.0.y ≡ placed.1.y = ap (λ (other : Entry). other.0.y) same in omega (arith, ints, one, height, low.1))
    IsHeightBelow-at_most answer (inr (none_equal, inl (entry, greatest, value))) =
        let (placed, stands, begun', covers, same) = of_live entry greatest.contained in
        let one : entry.0.y ≡ placed.1.y = ap (λ (other : Entry). other.0.y) same in
        let lower : entry.0.y <ℤ point.y = int_ranked entry.0.y point.y Less (sym greatest.meets) in
        at_level placed.1.y answer (value ∙ ap (λ (other : Entry). other.1) same) (placed, stands, covers, refl) (omega (arith, ints, one, lower))
        (λ k d inside low.
        let segment = get_or segments k d in
        let not_equal = under (λ other. int_cmp other.0.y point.y ≢ Equal) none_equal k d inside low in
        let not_above = under (λ other. int_cmp other.0.y point.y ≡ Less → int_cmp other.0.y entry.0.y ≢ Greater) greatest.none_above k d inside low in
        let below = less_from segment.y point.y low.1 not_equal in
        subst (λ h. segment.y ≤ℤ h) one (le_from segment.y entry.0.y (not_above below)))
    IsHeightBelow-at_most answer (inr (none_equal, inr (none_less, value))) =
        subst (IsHeightBelow segments point) (sym value)
        (λ k d inside low.
        let segment = get_or segments k d in
        let not_equal = under (λ other. int_cmp other.0.y point.y ≢ Equal) none_equal k d inside low in
        under (λ other. ¬ (int_cmp other.0.y point.y ≡ Less)) none_less k d inside low (less_from segment.y point.y low.1 not_equal))

  -- At the beginning of a segment that covers something.
  module _ (place : ℕ) (segment : Segment) (at : x ≡ segment.x0) (some : segment.x0 ≤ℤ segment.x1) where
    -- a live level of its height is that of an earlier segment, with which it collides
    pub Overlaps-live : ((placed : Placed) → Contains done (beginning_of placed.0 placed.1) → ComesBefore placed (place, segment))
        → HasKey cmp_levels (live_entries x entries) (level_of segment) → Overlaps segments (place, segment)
    Overlaps-live comes (k, entry, inside, is, equal) =
        let (placed, stands, begun, covers, same) = of_live entry (k, inside, is) in
        let height : entry.0.y ≡ segment.y = int_ranked entry.0.y segment.y Equal (sym equal) in
        (placed, stands, comes placed begun, (sym (ap (λ (other : Entry). other.0.y) same) ∙ height, (segment.x0, subst (Covers placed.1) at covers, (omega (arith, ints), some))))

    -- where no live level has its height, it collides with none that comes before it
    pub none_overlaps : ((placed : Placed) → StandsIn segments placed → placed.1.x0 ≤ℤ placed.1.x1 → ComesBefore placed (place, segment) → Contains done (beginning_of placed.0 placed.1))
        → NoKey cmp_levels (live_entries x entries) (level_of segment) → ¬ (Overlaps segments (place, segment))
    none_overlaps begun none (earlier, stands, comes, (height, (x', covers, covers'))) =
        let some' : earlier.1.x0 ≤ℤ earlier.1.x1 = omega (arith, ints, covers.0, covers.1) in
        let reaches : x ≤ℤ earlier.1.x1 = omega (arith, ints, at, covers'.0, covers.1) in
        All-contains (λ (other : Entry). int_cmp other.0.y segment.y ≢ Equal) (live_entries x entries) (entry_of earlier.1) none (live earlier stands (begun earlier stands some' comes) reaches)
        (sym (int_cmp_is earlier.1.y segment.y Equal height))
