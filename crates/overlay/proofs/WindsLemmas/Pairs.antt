-- A walk along edges that wind once around a point or not at all: of the edges that end at a point each is walked exactly if the
-- next one clockwise is, which starts there. This holds wherever no walk is at present, and keeps walks to the next edges.
use Rattle.std.proofs.Common.{◌≡◌, ◌≢◌, ◌⊎◌, inl, inr, ℕ, ◌<◌, ◌∷◌, pos, Bool, true, false, cond, List, get_or, length, set, refl, ap, sym, subst, ◌∙◌, arith}
use Rattle.std.specs.List.{All, Contains}
use Rattle.std.proofs.lemmas.Bool.{cases_lt}
use Rattle.std.proofs.lemmas.List.{get_or-set_other, get_or-set_same, get_or_default}
use Rattle.std.proofs.lemmas.List.Elements.{Contains-get_or}
use Rattle.std.proofs.lemmas.List.Sums.{sum_by-cons}
use Rattle.noding.specs.Windings.{IsClosed, winding}
use Rattle.plane.specs.declared.edge.Edge.{Edge}
use Rattle.plane.specs.declared.point.Point.{Point}
use Rattle.plane.specs.Ends.{end_of, start_of}
use Rattle.plane.specs.Meet.Edges.{RationalPoint}
use Rattle.overlay.specs.Contours.Order.{edge_at}
use Rattle.overlay.specs.Contours.Turns.{IsLeftmost, Leaves, NoneLeaves}
use Rattle.overlay.specs.Contours.Walks.{unwalked}
use Rattle.overlay.specs.Fill.Filled.{AreDistinct, AreNoded}
use Rattle.overlay.proofs.AreaLemmas.Nearest.{leftmost-next, next-alone, next-once, next-some}
use Rattle.overlay.proofs.AreaLemmas.Touching.{point-or}
use Rattle.overlay.proofs.AreaLemmas.Wedges.{IsNextAround}
use Rattle.overlay.proofs.ContourLemmas.Counts.{ends, ends-permutation, is_at, is_at-itself, unit}
use Rattle.overlay.proofs.ContourLemmas.Walks.{starts-none, unwalked-set}
use Rattle.overlay.proofs.FillLemmas.Balance.{AreBalanced}
use Rattle.overlay.proofs.WindsLemmas.Corners.{starts-next}
use Rattle.overlay.proofs.WindsLemmas.Paired.{IsOneOrNone}

-- The edge at the second place is the next one clockwise from that at the first place, where this ends.
abbrev pub IsNextPlace : List Edge → ℕ → ℕ → Type 0
IsNextPlace sorted i j = (i < length sorted) × (j < length sorted) × IsNextAround sorted (end_of (edge_at sorted i)) (edge_at sorted i) (edge_at sorted j)

-- Each edge is walked exactly if its next one is, but for those at some places.
abbrev pub ArePairsBut : List Edge → List Bool → (ℕ → Type 0) → Type 0
ArePairsBut sorted used Except = (i j : ℕ) → IsNextPlace sorted i j → ¬ (Except i) → get_or used i true ≡ get_or used j true

-- Those that end at the point.
abbrev pub EndsAt : List Edge → Point → ℕ → Type 0
EndsAt sorted start i = end_of (edge_at sorted i) ≡ start

-- A walk that began at the point has come by the edge at this place: the next one isn't walked, unless the walk is back.
pub record HasCome (sorted : List Edge) (used : List Bool) (start : Point) (last : ℕ) : Type 0 where
  pub inside : last < length sorted
  pub walked : get_or used last true ≡ true
  pub pairs : ArePairsBut sorted used (λ i. EndsAt sorted start i ⊎ (i ≡ last))
  pub waits : ¬ (EndsAt sorted start last) → (j : ℕ) → IsNextPlace sorted last j → get_or used j true ≡ false

-- what stands where nothing does
abbrev nothing : Edge
nothing = record { x0 = pos 0; y0 = pos 0; x1 = pos 0; y1 = pos 0 }

never : true ≡ false → ⊥
never h = cc

bool-or : (t : Bool) → (t ≡ true) ⊎ (t ≡ false)
bool-or true = inl refl
bool-or false = inr refl

nat-or : (i j : ℕ) → (i ≡ j) ⊎ (i ≢ j)
nat-or i j = elim (cases_lt i j) [
  | inl less ↦ inr (λ same. omega (arith, less, same))
  | inr from ↦ elim (cases_lt j i) [ inl more ↦ inr (λ same. omega (arith, more, same)) | inr upto ↦ inl (omega (arith, from, upto)) ]
]

-- ---- as a walk begins, and where it is back

-- Where all are pairs a walk may begin anywhere.
pub pairs-begin : (sorted : List Edge) (used : List Bool) (start : Point) → ArePairsBut sorted used (λ i. ⊥) → ArePairsBut sorted used (EndsAt sorted start)
pairs-begin sorted used start pairs i j next isnt = pairs i j next (λ h. h)

-- A walk that is back has pairs elsewhere.
pub pairs-back : (sorted : List Edge) (used : List Bool) (start : Point) (last : ℕ) → HasCome sorted used start last → EndsAt sorted start last → ArePairsBut sorted used (EndsAt sorted start)
pairs-back sorted used start last come back i j next isnt = come.pairs i j next either
  where
    either : ¬ (EndsAt sorted start i ⊎ (i ≡ last))
    either (inl ends) = isnt ends
    either (inr same) = isnt (subst (EndsAt sorted start) (sym same) back)

-- At first none is walked.
pub pairs-first : (sorted : List Edge) (used : List Bool) → ((k : ℕ) → k < length sorted → get_or used k true ≡ false) → ArePairsBut sorted used (λ i. ⊥)
pairs-first sorted used none i j next isnt = none i next.0 ∙ sym (none j next.1)

module _ (sorted : List Edge) (noded : AreNoded sorted) (distinct : AreDistinct sorted) (sloped : All (λ edge. edge.x0 ≢ edge.x1) sorted) (once : (point : RationalPoint) → IsOneOrNone (winding sorted point)) (closed : AreBalanced sorted) where
  abbrev at : ℕ → Edge
  at k = edge_at sorted k

  held : (k : ℕ) → k < length sorted → Contains sorted (at k)
  held k inside = Contains-get_or sorted k nothing inside

  -- one edge stands at one place
  same-place : (i j : ℕ) → i < length sorted → j < length sorted → at i ≡ at j → i ≡ j
  same-place i j inside inside_too same = elim (cases_lt i j) [
    | inl less ↦ absurd (distinct i j nothing less inside_too (inl same))
    | inr from ↦ elim (cases_lt j i) [ inl more ↦ absurd (distinct j i nothing more inside (inl (sym same))) | inr upto ↦ omega (arith, from, upto) ]
  ]

  -- the next edge starts where the one ends
  pub meets : (i j : ℕ) → IsNextPlace sorted i j → start_of (at j) ≡ end_of (at i)
  meets i j next = starts-next sorted noded distinct sloped once closed (end_of (at i)) (at i) (at j) next.2 refl

  -- so it stands elsewhere
  apart : (i j : ℕ) → IsNextPlace sorted i j → i ≢ j
  apart i j next same = next.2.apart (ap at same)

  -- each has one next place
  alone : (i j k : ℕ) → IsNextPlace sorted i j → IsNextPlace sorted i k → j ≡ k
  alone i j k next next_too = same-place j k next.1 next_too.1 (next-alone sorted noded distinct sloped (end_of (at i)) (at i) (at j) (at k) next.2 next_too.2)

  -- and is that of one
  single : (i k j : ℕ) → IsNextPlace sorted i j → IsNextPlace sorted k j → i ≡ k
  single i k j next next_too =
      same-place i k next.0 next_too.0
      (next-once sorted noded distinct sloped (end_of (at i)) (at i) (at k) (at j) next.2
      (subst (λ (p : Point). IsNextAround sorted p (at k) (at j)) (sym (meets k j next_too) ∙ meets i j next) next_too.2))

  pub next-place : (i : ℕ) → i < length sorted → (j : ℕ) × IsNextPlace sorted i j
  next-place i inside =
      let (other, is) = next-some sorted noded distinct sloped (end_of (at i)) (at i) (held i inside) (inr refl) closed in
      let (j, within, there) = is.among_too in
      (j, (inside, within, subst (IsNextAround sorted (end_of (at i)) (at i)) (sym (get_or_default sorted j nothing other within ∙ there)) is))

  module _ (used : List Bool) (size : length used ≡ length sorted) (start : Point) where
    abbrev After : ℕ → List Bool
    After place = set used place true

    same-after : (place k : ℕ) → k ≢ place → get_or (After place) k true ≡ get_or used k true
    same-after place k apart_it = get_or-set_other used place k true true apart_it

    walked-after : (place : ℕ) → place < length sorted → get_or (After place) place true ≡ true
    walked-after place inside = get_or-set_same used place true true (omega (arith, inside, size))

    unlike : (i j : ℕ) → get_or used i true ≡ true → get_or used j true ≡ false → i ≢ j
    unlike i j is isnt same = never (sym is ∙ ap (λ (k : ℕ). get_or used k true) same ∙ isnt)

    -- A walk goes on along the next edge, and the one behind that isn't walked.
    pub goes-next : (last place : ℕ) → HasCome sorted used start last → ¬ (EndsAt sorted start last) → IsNextPlace sorted last place → HasCome sorted (After place) start place
    goes-next last place come away next = record {
      inside = next.1;
      walked = walked-after place next.1;
      pairs = pairs;
      waits = λ elsewhere j after. same-after place j (λ same. apart place j after (sym same)) ∙ sym (come.pairs place j after (either elsewhere)) ∙ unused;
    }
      where
        unused : get_or used place true ≡ false
        unused = come.waits away place next

        either : ¬ (EndsAt sorted start place) → ¬ (EndsAt sorted start place ⊎ (place ≡ last))
        either elsewhere (inl ends) = elsewhere ends
        either elsewhere (inr same) = unlike last place come.walked unused (sym same)

        pairs : ArePairsBut sorted (After place) (λ i. EndsAt sorted start i ⊎ (i ≡ place))
        pairs i j after isnt = elim (nat-or i last) [
          | inl same ↦ same-after place i (λ is. isnt (inr is)) ∙ ap (λ (k : ℕ). get_or used k true) same ∙ come.walked
              ∙ sym (ap (λ (k : ℕ). get_or (After place) k true) (alone last j place (subst (λ (k : ℕ). IsNextPlace sorted k j) same after) next) ∙ walked-after place next.1)
          | inr differ ↦ same-after place i (λ is. isnt (inr is)) ∙ come.pairs i j after (but differ)
              ∙ sym (same-after place j (λ is. differ (single i last place (subst (IsNextPlace sorted i) is after) next)))
        ]
          where
            but : i ≢ last → ¬ (EndsAt sorted start i ⊎ (i ≡ last))
            but differ (inl ends) = isnt (inl ends)
            but differ (inr same) = differ same

    -- It does so along the edge that turns furthest left of those that aren't walked.
    pub goes-on : (last place : ℕ) → HasCome sorted used start last → ¬ (EndsAt sorted start last) → IsLeftmost sorted used (start_of (at last)) (end_of (at last)) place
        → IsNextPlace sorted last place × HasCome sorted (After place) start place
    goes-on last place come away leftmost = (next, goes-next last place come away next)
      where
        next : IsNextPlace sorted last place
        next =
            let (k, is) = next-place last come.inside in
            let leaves : Leaves sorted used (end_of (at last)) k = record { inside = is.1; unused = come.waits away k is; starts = meets last k is } in
            let same = leftmost-next sorted noded distinct sloped (end_of (at last)) used place k (at last) refl is.2 leaves leftmost in
            (come.inside, leftmost.leaves.inside, subst (IsNextAround sorted (end_of (at last)) (at last)) (sym same) is.2)

    -- A walk begins, or goes on where it began, along any edge that starts there.
    pub goes-off : (place : ℕ) → ArePairsBut sorted used (EndsAt sorted start) → Leaves sorted used start place → HasCome sorted (After place) start place
    goes-off place pairs leaves = record {
      inside = leaves.inside;
      walked = walked-after place leaves.inside;
      pairs = λ i j after isnt.
          same-after place i (λ is. isnt (inr is))
          ∙ pairs i j after (λ ends. isnt (inl ends))
          ∙ sym (same-after place j (λ is. isnt (inl (sym (meets i j after) ∙ ap (λ (k : ℕ). start_of (at k)) is ∙ leaves.starts))));
      waits = λ elsewhere j after. same-after place j (λ same. apart place j after (sym same)) ∙ sym (pairs place j after elsewhere) ∙ leaves.unused;
    }

    -- Where no edge leaves the point at which it began, all are pairs again, if what isn't walked is closed.
    pub pairs-end : ArePairsBut sorted used (EndsAt sorted start) → NoneLeaves sorted used start → IsClosed (unwalked sorted used) → ArePairsBut sorted used (λ i. ⊥)
    pairs-end pairs none rest i j next isnt = elim (point-or (end_of (at i)) start) [
      | inl ends_there ↦ all-ended i next.0 ends_there ∙ sym (all-started j next.1 (meets i j next ∙ ends_there))
      | inr elsewhere ↦ pairs i j next elsewhere
    ]
      where
        all-started : (k : ℕ) → k < length sorted → start_of (at k) ≡ start → get_or used k true ≡ true
        all-started k inside starts_there = elim (bool-or (get_or used k true)) [
          | inl is ↦ is
          | inr isnt_used ↦ absurd (none k (record { inside = inside; unused = isnt_used; starts = starts_there }))
        ]

        all-ended : (k : ℕ) → k < length sorted → end_of (at k) ≡ start → get_or used k true ≡ true
        all-ended k inside ends_there = elim (bool-or (get_or used k true)) [
          | inl is ↦ is
          | inr isnt_used ↦ absurd (over k inside ends_there isnt_used)
        ]
          where
            over : (k : ℕ) → k < length sorted → end_of (at k) ≡ start → get_or used k true ≡ false → ⊥
            over k inside ends_there isnt_used =
                let test = is_at start in
                let left = starts-none start sorted used none in
                let same = rest test in
                let moved = ends-permutation test (at k ∷ unwalked sorted (After k)) (unwalked sorted used) (unwalked-set sorted used k nothing inside (omega (arith, inside, size)) isnt_used) in
                let sum = sum_by-cons (λ (e : Edge). unit test (end_of e)) (at k) (unwalked sorted (After k)) in
                let one : unit test (end_of (at k)) ≡ 1 = ap (λ (b : Bool). cond b 1 0) (ap test ends_there ∙ is_at-itself start) in
                omega (arith, left, same, moved, sum, one)
