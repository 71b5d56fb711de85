-- The stretches over the changes of edges: each edge is made up of its parts among them, and each has the weights of all edges
-- that it is a part of.
use Rattle.std.proofs.Common.{◌≡◌, ◌≢◌, ◌⊎◌, inl, inr, ◌++◌, [], ◌∷◌, Bool, true, false, true≢false, cond, not, ◌&&◌, ◌||◌, ℕ, ◌<◌, length, ℤ, pos, ◌+ℤ◌, List, map, filter, refl, ap, ap₂, sym, subst, ◌∙◌, arith, append_assoc, append-nil}
use Rattle.std.specs.List.{All, Contains}
use Rattle.std.specs.Ordering.{int_eq}
use Rattle.std.proofs.lemmas.Int.{ints}
use Rattle.std.proofs.lemmas.Bool.{and_parts}
use Rattle.std.proofs.lemmas.List.Elements.{All-append, All-cons, All-contains, All-head, All-nil, All-weaker, Contains-append_cases, Contains-append_left, Contains-append_right}
use Rattle.i_tree.proofs.RootLemmas.Joined.{AllPairs-behind, Contains-middle}
use Rattle.i_tree.proofs.RootLemmas.Lists.{AllPairs-head, Contains-here}
use Rattle.plane.specs.declared.edge.Edge.{Edge}
use Rattle.plane.specs.declared.point.Point.{Point}
use Rattle.plane.specs.Ends.{edge_between, end_of, start_of}
use Rattle.noding.specs.Chains.{IsEnd}
use Rattle.overlay.specs.declared.boundary.lines.Change.{Change}
use Rattle.overlay.specs.declared.boundary.lines.Place.{Place}
use Rattle.overlay.specs.declared.boundary.lines.Sums.{Sums}
use Rattle.overlay.specs.declared.fill.pieces.Piece.{Piece}
use Rattle.overlay.specs.Fill.Pieces.{total, weight}
use Rattle.overlay.specs.Joined.{AreJoinedEdges, IsMadeUp, Lead, has_part, onwards}
use Rattle.overlay.specs.Lines.{AreInOrder, IsChanged, all_stretches, before, is_same_place, nothing, piece_between, plus, point_at, start_place, end_place, stretch_between, stretches_from}
use Rattle.overlay.proofs.FillLemmas.Tests.{int_eq-true}
use Rattle.overlay.proofs.FillLemmas.Premises.{All-among}
use Rattle.overlay.proofs.FillLemmas.Totals.{total-append, total-more, total-same}
use Rattle.overlay.proofs.LineLemmas.Parts.{IsStretch, onwards-is, part-within, point-end, point-start, stretch-is}
use Rattle.overlay.proofs.LineLemmas.Places.{before-irrefl, before-not, before-same, before-trans, before-upto, upto-before, upto-trans}
use Rattle.overlay.proofs.LineLemmas.Sums.{AreAllChanges, changed-end, end_at, ends-changed, none-over, of_over, one, over, some-over, start_at, starts-before, starts-changed, sum-nothing, sum-over}
use Rattle.overlay.proofs.PieceLemmas.Edges.{equal, unequal}

-- ---- places that are the same

same_place-is : (from to : Place) → is_same_place from to ≡ true → from ≡ to
same_place-is from to e =
    let (line, along) = and_parts (int_eq from.line.x0 to.line.x0 && (int_eq from.line.y0 to.line.y0 && (int_eq from.line.x1 to.line.x1 && int_eq from.line.y1 to.line.y1))) (int_eq from.along to.along) e in
    let (a, rest) = and_parts (int_eq from.line.x0 to.line.x0) (int_eq from.line.y0 to.line.y0 && (int_eq from.line.x1 to.line.x1 && int_eq from.line.y1 to.line.y1)) line in
    let (b, more) = and_parts (int_eq from.line.y0 to.line.y0) (int_eq from.line.x1 to.line.x1 && int_eq from.line.y1 to.line.y1) rest in
    let (c, d) = and_parts (int_eq from.line.x1 to.line.x1) (int_eq from.line.y1 to.line.y1) more in
    let lines : from.line ≡ to.line =
    ap₂ (λ (x y : ℤ). record { x0 = x; y0 = y; x1 = from.line.x1; y1 = from.line.y1 }) (equal from.line.x0 to.line.x0 a) (equal from.line.y0 to.line.y0 b)
    ∙ ap₂ (λ (x y : ℤ). record { x0 = to.line.x0; y0 = to.line.y0; x1 = x; y1 = y }) (equal from.line.x1 to.line.x1 c) (equal from.line.y1 to.line.y1 d) in
    ap₂ (λ (edge : Edge) (z : ℤ). record { line = edge; along = z }) lines (equal from.along to.along along)

itself : (x : ℤ) → int_eq x x ≡ true
itself x = int_eq-true x x refl

same_place-true : (place : Place) → is_same_place place place ≡ true
same_place-true place =
    ap₂ (λ (s t : Bool). s && t)
    (ap₂ (λ (s t : Bool). s && t) (itself place.line.x0) (ap₂ (λ (s t : Bool). s && t) (itself place.line.y0) (ap₂ (λ (s t : Bool). s && t) (itself place.line.x1) (itself place.line.y1))))
    (itself place.along)

-- ---- the stretch between two places

-- there is none where the places are the same, or no edge is there
abbrev StretchAt : Place → Place → Sums → List Piece → Type 0
StretchAt from to sums stretch =
    ((from ≡ to) × (stretch ≡ []))
    ⊎ (((before from to ≡ true) × (sums.count ≡ pos 0) × (stretch ≡ [])) ⊎ ((before from to ≡ true) × (sums.count ≢ pos 0) × (stretch ≡ piece_between from to sums ∷ [])))

stretch-cases : (from to : Place) (sums : Sums) → before to from ≡ false → StretchAt from to sums (stretch_between from to sums)
stretch-cases from to sums upto = by (before from to) (int_eq sums.count (pos 0)) (is_same_place from to) refl refl refl
  where
    by : (less none same : Bool) → before from to ≡ less → int_eq sums.count (pos 0) ≡ none → is_same_place from to ≡ same → StretchAt from to sums (cond (none || same) [] (piece_between from to sums ∷ []))
    by false true same e f g = inl (before-same from to e upto, refl)
    by false false true e f g = inl (before-same from to e upto, refl)
    by false false false e f g = absurd (true≢false (sym (same_place-true from) ∙ ap (is_same_place from) (before-same from to e upto) ∙ g))
    by true true same e f g = inr (inl (e, equal sums.count (pos 0) f, refl))
    by true false true e f g = absurd (true≢false (sym e ∙ ap (λ (place : Place). before place to) (same_place-is from to g) ∙ before-irrefl to))
    by true false false e f g = inr (inr (e, unequal sums.count (pos 0) f, refl))

-- one edge more in front of those that lead from its end
lead-more : (start from to end : Point) (edges : List Edge) → from ≡ start → Lead to end edges → Lead start end (edge_between from to ∷ edges)
lead-more start from to end [] same lead = absurd lead
lead-more start from to end (edge ∷ edges) same lead = (same, lead)

-- ---- how far the sweep over the changes is

-- These changes are done, upto the place, the sums are theirs, and the others are left.
record IsAt (all done : List Change) (from : Place) (sums : Sums) (rest : List Change) : Type 0 where
  is : all ≡ done ++ rest
  upto : All (λ (change : Change). before from change.place ≡ false) done
  ahead : All (λ (change : Change). before change.place from ≡ false) rest
  count : sums.count ≡ total (λ (change : Change). change.count) done
  subject : sums.subject ≡ total (λ (change : Change). change.subject) done
  clip : sums.clip ≡ total (λ (change : Change). change.clip) done
  changed : IsChanged all from

no_place : (k : ℕ) → k < 0 → ⊥
no_place k h = omega (arith, h)

module _ (subject clip : List Edge) (all : List Change) (are : AreAllChanges subject clip all) where
  -- the changes that are left aren't before the next one
  behind : (done : List Change) (from : Place) (sums : Sums) (change : Change) (rest : List Change) → IsAt all done from sums (change ∷ rest) → All (λ (other : Change). before other.place change.place ≡ false) rest
  behind done from sums change rest at =
      AllPairs-head (λ (one other : Change). before other.place one.place ≡ false) change rest
      (AllPairs-behind (λ (one other : Change). before other.place one.place ≡ false) done (change ∷ rest) (subst AreInOrder at.is are.order))

  next-upto : (done : List Change) (from : Place) (sums : Sums) (change : Change) (rest : List Change) → IsAt all done from sums (change ∷ rest) → before change.place from ≡ false
  next-upto done from sums change rest at = All-head (λ (other : Change). before other.place from ≡ false) change rest at.ahead

  at-next : (done : List Change) (from : Place) (sums : Sums) (change : Change) (rest : List Change) → IsAt all done from sums (change ∷ rest) → IsAt all (done ++ change ∷ []) change.place (plus sums change) rest
  at-next done from sums change rest at = record {
    is = at.is ∙ sym (append_assoc done (change ∷ []) rest);
    upto = All-append (λ (other : Change). before change.place other.place ≡ false) done (change ∷ [])
        (All-weaker (λ (other : Change). before from other.place ≡ false) (λ (other : Change). before change.place other.place ≡ false)
        (λ other e. upto-trans other.place from change.place e (next-upto done from sums change rest at)) done at.upto)
        (All-cons (λ (other : Change). before change.place other.place ≡ false) change [] (before-irrefl change.place) (All-nil (λ (other : Change). before change.place other.place ≡ false)));
    ahead = behind done from sums change rest at;
    count = ap (λ (z : ℤ). z +ℤ change.count) at.count ∙ sym (total-more (λ (other : Change). other.count) done change);
    subject = ap (λ (z : ℤ). z +ℤ change.subject) at.subject ∙ sym (total-more (λ (other : Change). other.subject) done change);
    clip = ap (λ (z : ℤ). z +ℤ change.clip) at.clip ∙ sym (total-more (λ (other : Change). other.clip) done change);
    changed = (change, subst (λ (list : List Change). Contains list change) (sym at.is) (Contains-middle done change rest), refl);
  }

  -- ---- at the next place

  module _ (done : List Change) (from : Place) (sums : Sums) (change : Change) (rest : List Change) (at : IsAt all done from sums (change ∷ rest)) (less : before from change.place ≡ true) where
    not-before : All (λ (other : Change). before other.place change.place ≡ false) (change ∷ rest)
    not-before = All-cons (λ (other : Change). before other.place change.place ≡ false) change rest (before-irrefl change.place) (behind done from sums change rest at)

    -- nothing changes between the two places
    gap : (place : Place) → IsChanged all place → before place change.place ≡ true → before from place ≡ false
    gap place (other, among, is) first = subst (λ (p : Place). before from p ≡ false) is (by (Contains-append_cases done (change ∷ rest) other (subst (λ (list : List Change). Contains list other) at.is among)))
      where
        by : Contains done other ⊎ Contains (change ∷ rest) other → before from other.place ≡ false
        by (inl early) = All-contains (λ (one : Change). before from one.place ≡ false) done other at.upto early
        by (inr late) = absurd (true≢false (sym first ∙ ap (λ (p : Place). before p change.place) (sym is) ∙ All-contains (λ (one : Change). before one.place change.place ≡ false) (change ∷ rest) other not-before late))

    count-is : sums.count ≡ (total (of_over change.place one) subject +ℤ total (of_over change.place one) clip)
    count-is =
        at.count
        ∙ sum-over subject clip all done (change ∷ rest) from change.place at.is at.upto less not-before (λ (other : Change). other.count) are.tell.count one one (λ edge. refl) (λ edge. refl) (λ edge. refl) (λ edge. refl)

    count-both : sums.count ≡ total (of_over change.place one) (subject ++ clip)
    count-both = count-is ∙ sym (total-append (of_over change.place one) subject clip)

    no_second : (a b c : ℤ) → a ≡ (b +ℤ c) → c ≡ pos 0 → a ≡ b
    no_second a b c is none = omega (arith, ints, is, none)

    no_first : (a b c : ℤ) → a ≡ (b +ℤ c) → b ≡ pos 0 → a ≡ c
    no_first a b c is none = omega (arith, ints, is, none)

    subject-is : sums.subject ≡ total (of_over change.place weight) subject
    subject-is =
        no_second sums.subject (total (of_over change.place weight) subject) (total (of_over change.place (λ edge. pos 0)) clip)
        (at.subject
        ∙ sum-over subject clip all done (change ∷ rest) from change.place at.is at.upto less not-before (λ (other : Change). other.subject) are.tell.subject weight (λ edge. pos 0) (λ edge. refl) (λ edge. refl) (λ edge. refl) (λ edge. refl))
        (sum-nothing change.place clip)

    clip-is : sums.clip ≡ total (of_over change.place weight) clip
    clip-is =
        no_first sums.clip (total (of_over change.place (λ edge. pos 0)) subject) (total (of_over change.place weight) clip)
        (at.clip
        ∙ sum-over subject clip all done (change ∷ rest) from change.place at.is at.upto less not-before (λ (other : Change). other.clip) are.tell.clip (λ edge. pos 0) weight (λ edge. refl) (λ edge. refl) (λ edge. refl) (λ edge. refl))
        (sum-nothing change.place subject)

    abbrev passed : Edge
    passed = edge_between (point_at from) (point_at change.place)

    over-parts : (edge : Edge) → over change.place edge ≡ true → (before (start_at edge) change.place ≡ true) × (before (end_at edge) change.place ≡ false)
    over-parts edge e = by (before (start_at edge) change.place) (before (end_at edge) change.place) refl refl e
      where
        by : (s t : Bool) → before (start_at edge) change.place ≡ s → before (end_at edge) change.place ≡ t → (s && not t) ≡ true → (before (start_at edge) change.place ≡ true) × (before (end_at edge) change.place ≡ false)
        by true false e f g = (e, f)
        by true true e f g = absurd (true≢false (sym g))
        by false t e f g = absurd (true≢false (sym g))

    -- an edge that is over the next place has the stretch
    over-stretch : (edge : Edge) → Contains (subject ++ clip) edge → over change.place edge ≡ true → IsStretch (onwards edge) from change.place passed
    over-stretch edge among e =
        let (begun, unended) = over-parts edge e in
        stretch-is (onwards edge) (onwards-is edge) from change.place less (gap (start_at edge) (starts-changed subject clip all are edge among) begun) unended

    -- where there is a stretch some edge has it, and those have it that are over the next place
    module _ (some : sums.count ≢ pos 0) where
      holder : (edge : Edge) × Contains (subject ++ clip) edge × (over change.place edge ≡ true)
      holder = some-over change.place (subject ++ clip) (λ none. some (count-both ∙ none))

      ends-are : (start_place passed ≡ from) × (end_place passed ≡ change.place)
      ends-are = let (edge, among, e) = holder in let is = over-stretch edge among e in (is.start, is.end)

      part-is : (edge : Edge) → Contains (subject ++ clip) edge → has_part edge passed ≡ over change.place edge
      part-is edge among = by (has_part edge passed) (over change.place edge) refl refl
        where
          by : (s t : Bool) → has_part edge passed ≡ s → over change.place edge ≡ t → s ≡ t
          by true true e f = refl
          by false false e f = refl
          by false true e f = absurd (true≢false (sym (over-stretch edge among f).part ∙ e))
          by true false e f =
              let (start, end) = ends-are in
              let (left, right) = part-within (onwards edge) passed e in
              let begun : before (start_at edge) change.place ≡ true = upto-before (start_at edge) from change.place (ap (λ (place : Place). before place (start_at edge)) (sym start) ∙ left) less in
              let unended : before (end_at edge) change.place ≡ false = ap (λ (place : Place). before (end_at edge) place) (sym end) ∙ right in
              absurd (true≢false (sym (ap₂ (λ (p q : Bool). p && not q) begun unended) ∙ f))

  -- ---- the stretches of an edge

  abbrev parts : Edge → List Piece → List Edge
  parts edge stretches = filter (has_part edge) (map (λ stretch. stretch.edge) stretches)

  -- the edge's parts lead from the place, or from where it starts, to its end
  abbrev Leads : Edge → Place → List Piece → Type 0
  Leads edge from stretches =
      (before from (end_at edge) ≡ false → parts edge stretches ≡ [])
      × (before from (end_at edge) ≡ true → Lead (cond (before (start_at edge) from) (point_at from) (start_of (onwards edge))) (end_of (onwards edge)) (parts edge stretches))

  leads-none : (done : List Change) (from : Place) (sums : Sums) → IsAt all done from sums [] → (edge : Edge) → Contains (subject ++ clip) edge → Leads edge from []
  leads-none done from sums at edge among =
      let (change, found, is) = ends-changed subject clip all are edge among in
      let early = All-contains (λ (one : Change). before from one.place ≡ false) done change at.upto (subst (λ (list : List Change). Contains list change) (at.is ∙ append-nil done) found) in
      (λ e. refl, λ less. absurd (true≢false (sym less ∙ ap (λ (place : Place). before from place) (sym is) ∙ early)))

  -- where the edge isn't over the next place its parts are those from there on
  leads-not_over : (done : List Change) (from : Place) (sums : Sums) (change : Change) (rest : List Change) → IsAt all done from sums (change ∷ rest) → before from change.place ≡ true
      → (edge : Edge) → Contains (subject ++ clip) edge → over change.place edge ≡ false → (stretches : List Piece) → Leads edge change.place stretches → Leads edge from stretches
  leads-not_over done from sums change rest at less edge among off stretches (none, lead) = (first, second)
    where
      first : before from (end_at edge) ≡ false → parts edge stretches ≡ []
      first ended = none (before-not (end_at edge) change.place (upto-before (end_at edge) from change.place ended less))

      second : before from (end_at edge) ≡ true → Lead (cond (before (start_at edge) from) (point_at from) (start_of (onwards edge))) (end_of (onwards edge)) (parts edge stretches)
      second goes =
          subst (λ (t : Bool). Lead (cond t (point_at from) (start_of (onwards edge))) (end_of (onwards edge)) (parts edge stretches)) (sym not_begun)
          (subst (λ (t : Bool). Lead (cond t (point_at change.place) (start_of (onwards edge))) (end_of (onwards edge)) (parts edge stretches)) ahead (lead goes_there))
        where
          unended : before (end_at edge) change.place ≡ false
          unended = by (before (end_at edge) change.place) refl
            where
              by : (t : Bool) → before (end_at edge) change.place ≡ t → t ≡ false
              by false e = refl
              by true e = absurd (true≢false (sym goes ∙ gap done from sums change rest at less (end_at edge) (ends-changed subject clip all are edge among) e))

          ahead : before (start_at edge) change.place ≡ false
          ahead = by (before (start_at edge) change.place) refl
            where
              by : (t : Bool) → before (start_at edge) change.place ≡ t → t ≡ false
              by false e = refl
              by true e = absurd (true≢false (sym (ap₂ (λ (p q : Bool). p && not q) e unended) ∙ off))

          not_begun : before (start_at edge) from ≡ false
          not_begun = by (before (start_at edge) from) refl
            where
              by : (t : Bool) → before (start_at edge) from ≡ t → t ≡ false
              by false e = refl
              by true e = absurd (true≢false (sym (before-trans (start_at edge) from change.place e less) ∙ ahead))

          goes_there : before change.place (end_at edge) ≡ true
          goes_there = upto-before change.place (start_at edge) (end_at edge) ahead (starts-before edge)

  -- an edge over the next place has the stretch, and then those from there on
  leads-over : (done : List Change) (from : Place) (sums : Sums) (change : Change) (rest : List Change) → IsAt all done from sums (change ∷ rest) → before from change.place ≡ true
      → (edge : Edge) → Contains (subject ++ clip) edge → over change.place edge ≡ true → (found : List Edge)
      → (before change.place (end_at edge) ≡ false → found ≡ [])
      → (before change.place (end_at edge) ≡ true → Lead (cond (before (start_at edge) change.place) (point_at change.place) (start_of (onwards edge))) (end_of (onwards edge)) found)
      → (before from (end_at edge) ≡ true) × Lead (cond (before (start_at edge) from) (point_at from) (start_of (onwards edge))) (end_of (onwards edge)) (edge_between (point_at from) (point_at change.place) ∷ found)
  leads-over done from sums change rest at less edge among on found none lead = (goes, by (before change.place (end_at edge)) refl)
    where
      both : (before (start_at edge) change.place ≡ true) × (before (end_at edge) change.place ≡ false)
      both = over-parts done from sums change rest at less edge on

      goes : before from (end_at edge) ≡ true
      goes = before-upto from change.place (end_at edge) less both.1

      started : point_at from ≡ cond (before (start_at edge) from) (point_at from) (start_of (onwards edge))
      started = begun (before (start_at edge) from) refl
        where
          begun : (t : Bool) → before (start_at edge) from ≡ t → point_at from ≡ cond t (point_at from) (start_of (onwards edge))
          begun true e = refl
          begun false e =
              ap point_at (before-same from (start_at edge) (gap done from sums change rest at less (start_at edge) (starts-changed subject clip all are edge among) both.0) e)
              ∙ point-start (onwards edge) (onwards-is edge)

      by : (t : Bool) → before change.place (end_at edge) ≡ t
          → Lead (cond (before (start_at edge) from) (point_at from) (start_of (onwards edge))) (end_of (onwards edge)) (edge_between (point_at from) (point_at change.place) ∷ found)
      by false e =
          subst (λ (list : List Edge). Lead (cond (before (start_at edge) from) (point_at from) (start_of (onwards edge))) (end_of (onwards edge)) (edge_between (point_at from) (point_at change.place) ∷ list)) (sym (none e))
          (started, ap point_at (before-same change.place (end_at edge) e both.1) ∙ point-end (onwards edge) (onwards-is edge))
      by true e =
          lead-more (cond (before (start_at edge) from) (point_at from) (start_of (onwards edge))) (point_at from) (point_at change.place) (end_of (onwards edge)) found started
          (subst (λ (t : Bool). Lead (cond t (point_at change.place) (start_of (onwards edge))) (end_of (onwards edge)) found) both.0 (lead e))

  -- the parts of an edge after the stretch at the next place
  leads-next : (done : List Change) (from : Place) (sums : Sums) (change : Change) (rest : List Change) → IsAt all done from sums (change ∷ rest) → (edge : Edge) → Contains (subject ++ clip) edge
      → (stretches stretch : List Piece) → StretchAt from change.place sums stretch → Leads edge change.place stretches → Leads edge from (stretch ++ stretches)
  leads-next done from sums change rest at edge among stretches stretch (inl (same, is)) leads =
      subst (λ (list : List Piece). Leads edge from (list ++ stretches)) (sym is) (subst (λ (place : Place). Leads edge place stretches) (sym same) leads)
  leads-next done from sums change rest at edge among stretches stretch (inr (inl (less, none, is))) leads =
      subst (λ (list : List Piece). Leads edge from (list ++ stretches)) (sym is)
      (leads-not_over done from sums change rest at less edge among
      (All-contains (λ one. over change.place one ≡ false) (subject ++ clip) edge (none-over change.place (subject ++ clip) (sym (count-both done from sums change rest at less) ∙ none)) among) stretches leads)
  leads-next done from sums change rest at edge among stretches stretch (inr (inr (less, some, is))) leads =
      subst (λ (list : List Piece). Leads edge from (list ++ stretches)) (sym is) (by (over change.place edge) refl (part-is done from sums change rest at less some edge among))
    where
      with_parts : has_part edge (edge_between (point_at from) (point_at change.place)) ≡ false → Leads edge from stretches → Leads edge from (piece_between from change.place sums ∷ stretches)
      with_parts told leads =
          subst (λ (list : List Edge). (before from (end_at edge) ≡ false → list ≡ []) × (before from (end_at edge) ≡ true → Lead (cond (before (start_at edge) from) (point_at from) (start_of (onwards edge))) (end_of (onwards edge)) list))
          (sym (ap (λ (t : Bool). cond t (edge_between (point_at from) (point_at change.place) ∷ parts edge stretches) (parts edge stretches)) told)) leads

      by : (t : Bool) → over change.place edge ≡ t → has_part edge (edge_between (point_at from) (point_at change.place)) ≡ over change.place edge → Leads edge from (piece_between from change.place sums ∷ stretches)
      by false e told = with_parts (told ∙ e) (leads-not_over done from sums change rest at less edge among e stretches leads)
      by true e told =
          let (goes, lead) = leads-over done from sums change rest at less edge among e (parts edge stretches) leads.0 leads.1 in
          subst (λ (list : List Edge). (before from (end_at edge) ≡ false → list ≡ []) × (before from (end_at edge) ≡ true → Lead (cond (before (start_at edge) from) (point_at from) (start_of (onwards edge))) (end_of (onwards edge)) list))
          (sym (ap (λ (t : Bool). cond t (edge_between (point_at from) (point_at change.place) ∷ parts edge stretches) (parts edge stretches)) (told ∙ e)))
          (λ ended. absurd (true≢false (sym goes ∙ ended)), λ less. lead)

  leads : (done : List Change) (from : Place) (sums : Sums) (rest : List Change) → IsAt all done from sums rest → (edge : Edge) → Contains (subject ++ clip) edge → Leads edge from (stretches_from from sums rest)
  leads done from sums [] at edge among = leads-none done from sums at edge among
  leads done from sums (change ∷ rest) at edge among =
      leads-next done from sums change rest at edge among (stretches_from change.place (plus sums change) rest) (stretch_between from change.place sums)
      (stretch-cases from change.place sums (next-upto done from sums change rest at))
      (leads (done ++ change ∷ []) change.place (plus sums change) rest (at-next done from sums change rest at) edge among)

  -- ---- each stretch

  -- the stretch is a part of some edge, goes from an end of one to an end of one, and weighs what those weigh that it is a part of
  record IsJoined (stretch : Piece) : Type 0 where
    of : (edge : Edge) × Contains (subject ++ clip) edge × (has_part edge stretch.edge ≡ true)
    ends : ((edge : Edge) × Contains (subject ++ clip) edge × IsEnd edge stretch.edge.x0 stretch.edge.y0) × ((edge : Edge) × Contains (subject ++ clip) edge × IsEnd edge stretch.edge.x1 stretch.edge.y1)
    weighs : stretch.subject ≡ total (λ edge. cond (has_part edge stretch.edge) (weight edge) (pos 0)) subject
    clip_weighs : stretch.clip ≡ total (λ edge. cond (has_part edge stretch.edge) (weight edge) (pos 0)) clip

  stretch-joined : (done : List Change) (from : Place) (sums : Sums) (change : Change) (rest : List Change) → IsAt all done from sums (change ∷ rest) → before from change.place ≡ true → sums.count ≢ pos 0
      → IsJoined (piece_between from change.place sums)
  stretch-joined done from sums change rest at less some =
      let part = edge_between (point_at from) (point_at change.place) in
      let told = part-is done from sums change rest at less some in
      let (edge, among, e) = holder done from sums change rest at less some in record {
        of = (edge, among, told edge among ∙ e);
        ends = (changed-end subject clip all are from at.changed, changed-end subject clip all are change.place (at-next done from sums change rest at).changed);
        weighs = subject-is done from sums change rest at less
            ∙ total-same (of_over change.place weight) (λ one. cond (has_part one part) (weight one) (pos 0)) subject
            (All-among (λ one. of_over change.place weight one ≡ cond (has_part one part) (weight one) (pos 0)) subject
            (λ one found. ap (λ (t : Bool). cond t (weight one) (pos 0)) (sym (told one (Contains-append_left subject clip one found)))));
        clip_weighs = clip-is done from sums change rest at less
            ∙ total-same (of_over change.place weight) (λ one. cond (has_part one part) (weight one) (pos 0)) clip
            (All-among (λ one. of_over change.place weight one ≡ cond (has_part one part) (weight one) (pos 0)) clip
            (λ one found. ap (λ (t : Bool). cond t (weight one) (pos 0)) (sym (told one (Contains-append_right subject clip one found)))));
      }

  joined-next : (done : List Change) (from : Place) (sums : Sums) (change : Change) (rest : List Change) → IsAt all done from sums (change ∷ rest) → (stretches stretch : List Piece)
      → StretchAt from change.place sums stretch → All IsJoined stretches → All IsJoined (stretch ++ stretches)
  joined-next done from sums change rest at stretches stretch (inl (same, is)) joined = subst (λ (list : List Piece). All IsJoined (list ++ stretches)) (sym is) joined
  joined-next done from sums change rest at stretches stretch (inr (inl (less, none, is))) joined = subst (λ (list : List Piece). All IsJoined (list ++ stretches)) (sym is) joined
  joined-next done from sums change rest at stretches stretch (inr (inr (less, some, is))) joined =
      subst (λ (list : List Piece). All IsJoined (list ++ stretches)) (sym is) (All-cons IsJoined (piece_between from change.place sums) stretches (stretch-joined done from sums change rest at less some) joined)

  joined-from : (done : List Change) (from : Place) (sums : Sums) (rest : List Change) → IsAt all done from sums rest → All IsJoined (stretches_from from sums rest)
  joined-from done from sums [] at = All-nil IsJoined
  joined-from done from sums (change ∷ rest) at =
      joined-next done from sums change rest at (stretches_from change.place (plus sums change) rest) (stretch_between from change.place sums)
      (stretch-cases from change.place sums (next-upto done from sums change rest at)) (joined-from (done ++ change ∷ []) change.place (plus sums change) rest (at-next done from sums change rest at))

  -- ---- all stretches

  from-start : (change : Change) (rest : List Change) → all ≡ change ∷ rest → IsAt all [] change.place nothing (change ∷ rest)
  from-start change rest is = record {
    is = is;
    upto = All-nil (λ (other : Change). before change.place other.place ≡ false);
    ahead = All-cons (λ (other : Change). before other.place change.place ≡ false) change rest (before-irrefl change.place)
        (AllPairs-head (λ (one other : Change). before other.place one.place ≡ false) change rest (subst AreInOrder is are.order));
    count = refl;
    subject = refl;
    clip = refl;
    changed = (change, subst (λ (list : List Change). Contains list change) (sym is) (Contains-here change rest), refl);
  }

  made-up : (change : Change) (rest : List Change) → all ≡ change ∷ rest → (edge : Edge) → Contains (subject ++ clip) edge → IsMadeUp (stretches_from change.place nothing (change ∷ rest)) edge
  made-up change rest is edge among =
      let from = change.place in
      let at = from-start change rest is in
      let not_begun : before (start_at edge) from ≡ false =
      (let (other, found, same) = starts-changed subject clip all are edge among in
      ap (λ (place : Place). before place from) (sym same)
      ∙ All-contains (λ (one : Change). before one.place from ≡ false) (change ∷ rest) other at.ahead (subst (λ (list : List Change). Contains list other) is found)) in
      subst (λ (t : Bool). Lead (cond t (point_at from) (start_of (onwards edge))) (end_of (onwards edge)) (parts edge (stretches_from from nothing (change ∷ rest)))) not_begun
      ((leads [] from nothing (change ∷ rest) at edge among).1 (upto-before from (start_at edge) (end_at edge) not_begun (starts-before edge)))

  pub joined-all : (changes : List Change) → all ≡ changes → AreJoinedEdges subject clip (all_stretches changes)
  joined-all [] is = record {
    made = All-among (IsMadeUp []) (subject ++ clip) (λ edge among. let (other, (k, within, e), same) = starts-changed subject clip all are edge among in absurd (no_place k (subst (λ (list : List Change). k < length list) is within)));
    of = All-nil _;
    ends = All-nil _;
    weighs = All-nil _;
    clip_weighs = All-nil _;
  }
  joined-all (change ∷ rest) is =
      let stretches = stretches_from change.place nothing (change ∷ rest) in
      let joined = joined-from [] change.place nothing (change ∷ rest) (from-start change rest is) in record {
        made = All-among (IsMadeUp stretches) (subject ++ clip) (made-up change rest is);
        of = All-weaker IsJoined _ (λ stretch one. one.of) stretches joined;
        ends = All-weaker IsJoined _ (λ stretch one. one.ends) stretches joined;
        weighs = All-weaker IsJoined _ (λ stretch one. one.weighs) stretches joined;
        clip_weighs = All-weaker IsJoined _ (λ stretch one. one.clip_weighs) stretches joined;
      }
