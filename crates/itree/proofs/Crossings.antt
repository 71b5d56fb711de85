-- Edges and ranges: the places of lines that are told, and the replies.
use Rattle.std.proofs.Common.{◌≡◌, ◌≢◌, ◌<◌, ◌≤◌, ◌⊎◌, ◌↔◌, ◌+◌, ℕ, ℤ, pos, ◌+ℤ◌, ◌-ℤ◌, ◌*ℤ◌, ◌<ℤ◌, ◌≤ℤ◌, List, [], ◌∷◌, ◌++◌, Option, Some, None, length, map, take, get_or, refl, sym, ap, ap₂, ◌∙◌, subst, inl, inr, ⊎_elim, arith, append-nil}
use Rattle.std.proofs.lemmas.Int.{ints}
use Rattle.std.proofs.lemmas.List.{append_assoc, get_or-map, length-map, length-take-le, take_more}
use Rattle.std.proofs.lemmas.List.Elements.{Contains-append_left, Contains-append_right, Contains-append_cases, Contains-get_or}
use Rattle.std.proofs.lemmas.Option.{same_Some, slice_get-map, slice_get_within}
use Rattle.std.specs.List.{All, AllPairs, Contains, slice_get}
use Rattle.std.specs.List.Sorted.{IsPermutation}
use Rattle.std.specs.Option.{option_map}
use Rattle.i_tree.proofs.RootLemmas.Joined.{AllPairs-append}
use Rattle.itree.specs.Answers.{AnswersCrossings}
use Rattle.itree.specs.CrossingsLines.{SaysCrossingsLine, SayCrossing, SayReaching, IsToldTo, AreToldLines, edge_or_point, range_or_none}
use Rattle.itree.specs.Grammar.{LinesSay, command_lines}
use Rattle.itree.specs.Replies.{crossing_lines, crossing_word, number_words}
use Rattle.itree.specs.Told.{told, lists_of, AreTold, AreOrderedCrossings}
use Rattle.itree.specs.declared.lines.crossings.CrossingsLine.{CrossingsLine}
use Rattle.itree.specs.declared.lines.crossings.CrossingsLine.TheVariants as crossings_line
use Rattle.itree.specs.declared.lines.meetings.MetLines.{MetLines}
use Rattle.itree.proofs.CommandLines.{command_lines-rise, length-command_lines}
use Rattle.itree.proofs.Meetings.{once-permuted, exact-permuted, told-ordered, told-exact}
use Rattle.plane.proofs.SweepLineLemmas.Rightwards.{rightwards-right}
use Rattle.plane.proofs.SweepLineLemmas.Uncrossed.{Cross-exchanged}
use Rattle.plane.specs.Columns.Asked.{Reaches}
use Rattle.plane.specs.Pairs.Pairs.{PairAt, PairBetween, ArePairs, ArePairsBetween}
use Rattle.plane.specs.SweepLine.Crossings.{Cross}
use Rattle.plane.specs.SweepLine.Heights.{rightwards, height_by_run, height_by_runs, run}
use Rattle.plane.specs.declared.columns.Asked.{Asked}
use Rattle.plane.specs.declared.edge.Edge.{Edge}

-- ---- what stands in the place of a line of the other kind

-- the point that stands for a range
abbrev point_of : Asked → Edge
point_of range = edge_or_point (crossings_line.Range range)

point-same : (range : Asked) → rightwards (point_of range) ≡ point_of range
point-same range = rightwards-right (point_of range) refl

-- it crosses nothing
point-crosses : (range : Asked) (other : Edge) → ¬ (Cross (point_of range) other)
point-crosses range other cross =
    let turned = rightwards other in
    let lower : height_by_runs (point_of range) turned cross.below <ℤ height_by_runs turned (point_of range) cross.below =
    subst (λ (point : Edge). height_by_runs point turned cross.below <ℤ height_by_runs turned point cross.below) (point-same range) cross.is_below.lower in
    level (height_by_run turned cross.below) (run turned) cross.below lower
  where
    level : (height across x : ℤ) → ¬ ((((pos 0 *ℤ (pos 0 -ℤ x)) +ℤ (pos 0 *ℤ (x -ℤ pos 0))) *ℤ across) <ℤ (height *ℤ (pos 0 -ℤ pos 0)))
    level height across x less =
        let low : ((pos 0 *ℤ (pos 0 -ℤ x)) +ℤ (pos 0 *ℤ (x -ℤ pos 0))) ≡ pos 0 = omega (arith, ints) in
        let flat : (pos 0 -ℤ pos 0) ≡ pos 0 = omega (arith, ints) in
        let still : (pos 0 *ℤ across) <ℤ (height *ℤ pos 0) =
        subst (λ (width : ℤ). (pos 0 *ℤ across) <ℤ (height *ℤ width)) flat (subst (λ (point : ℤ). (point *ℤ across) <ℤ (height *ℤ (pos 0 -ℤ pos 0))) low less) in
        absurd (omega (arith, ints, still))

-- nor reaches anything
point-reaches : (range asked : Asked) → ¬ (Reaches (point_of range) asked)
point-reaches range asked reaches =
    let from = subst (λ (point : Edge). point.x0 ≤ℤ asked.x) (point-same range) reaches.covers.from in
    let before = subst (λ (point : Edge). asked.x <ℤ point.x1) (point-same range) reaches.covers.before in
    absurd (omega (arith, ints, from, before))

-- and what stands for an edge has no heights, so nothing reaches it
none-reaches : (said edge : Edge) → ¬ (Reaches edge (range_or_none (crossings_line.Edge said)))
none-reaches said edge reaches =
    let x = pos 2147483647 in
    let turned = rightwards edge in
    between (height_by_run turned x) (run turned) (omega (arith, ints, reaches.covers.from, reaches.covers.before)) reaches.within.0 reaches.within.1
  where
    between : (height across : ℤ) → pos 0 <ℤ across → ¬ (height <ℤ (pos 1 *ℤ across)) → ¬ (height ≤ℤ (pos 0 *ℤ across))
    between height across some above below = above (omega (arith, ints, some, below))

-- ---- pairs of places

-- an item of a mapped list is that of an item
mapped_item : {X Y : Type 0} (f : X → Y) (xs : List X) (i : ℕ) (y : Y) → slice_get (map f xs) i ≡ Some y → (x : X) × (slice_get xs i ≡ Some x) × (f x ≡ y)
mapped_item {X} {Y} f xs i y is = by (slice_get xs i) refl (sym (slice_get-map f xs i) ∙ is)
  where
    by : (found : Option X) → slice_get xs i ≡ found → option_map f found ≡ Some y → (x : X) × (slice_get xs i ≡ Some x) × (f x ≡ y)
    by (Some x) there same = (x, there, same_Some (f x) y same)
    by None there same = cc

item_mapped : {X Y : Type 0} (f : X → Y) (xs : List X) (i : ℕ) (x : X) → slice_get xs i ≡ Some x → slice_get (map f xs) i ≡ Some (f x)
item_mapped f xs i x is = slice_get-map f xs i ∙ ap (option_map f) is

module _ (said : List CrossingsLine) where
  -- edges that cross are said
  say_crossing : (i j : ℕ) → PairAt Cross (map edge_or_point said) i j → SayCrossing said i j
  say_crossing i j pair =
      let (first, first_at, first_is) = mapped_item edge_or_point said i pair.one pair.first in
      let (second, second_at, second_is) = mapped_item edge_or_point said j pair.other pair.second in
      both first second first_at second_at (subst (λ (edge : Edge). Cross edge (edge_or_point second)) (sym first_is) (subst (Cross pair.one) (sym second_is) pair.meet))
    where
      both : (first second : CrossingsLine) → slice_get said i ≡ Some first → slice_get said j ≡ Some second → Cross (edge_or_point first) (edge_or_point second) → SayCrossing said i j
      both (crossings_line.Edge one) (crossings_line.Edge other) first_at second_at cross = record { below = pair.rising; one = one; other = other; first = first_at; second = second_at; cross = cross }
      both (crossings_line.Edge one) (crossings_line.Range range) first_at second_at cross = absurd (point-crosses range one (Cross-exchanged one (point_of range) cross))
      both (crossings_line.Range range) second first_at second_at cross = absurd (point-crosses range (edge_or_point second) cross)

  crossing_pair : (i j : ℕ) → SayCrossing said i j → PairAt Cross (map edge_or_point said) i j
  crossing_pair i j say = record {
    one = say.one;
    other = say.other;
    rising = say.below;
    first = item_mapped edge_or_point said i (crossings_line.Edge say.one) say.first;
    second = item_mapped edge_or_point said j (crossings_line.Edge say.other) say.second;
    meet = say.cross;
  }

  -- and so are an edge and a range that it reaches
  say_reaching : (i j : ℕ) → PairBetween Reaches (map edge_or_point said) (map range_or_none said) i j → SayReaching said i j
  say_reaching i j pair =
      let (first, first_at, first_is) = mapped_item edge_or_point said i pair.one pair.first in
      let (second, second_at, second_is) = mapped_item range_or_none said j pair.other pair.second in
      both first second first_at second_at (subst (λ (edge : Edge). Reaches edge (range_or_none second)) (sym first_is) (subst (Reaches pair.one) (sym second_is) pair.meet))
    where
      both : (first second : CrossingsLine) → slice_get said i ≡ Some first → slice_get said j ≡ Some second → Reaches (edge_or_point first) (range_or_none second) → SayReaching said i j
      both (crossings_line.Edge edge) (crossings_line.Range range) first_at second_at reaches = record { edge = edge; range = range; first = first_at; second = second_at; reaches = reaches }
      both (crossings_line.Range range) second first_at second_at reaches = absurd (point-reaches range (range_or_none second) reaches)
      both first (crossings_line.Edge edge) first_at second_at reaches = absurd (none-reaches edge (edge_or_point first) reaches)

  reaching_pair : (i j : ℕ) → SayReaching said i j → PairBetween Reaches (map edge_or_point said) (map range_or_none said) i j
  reaching_pair i j say = record {
    one = say.edge;
    other = say.range;
    first = item_mapped edge_or_point said i (crossings_line.Edge say.edge) say.first;
    second = item_mapped range_or_none said j (crossings_line.Range say.range) say.second;
    meet = say.reaches;
  }

  -- no pair is of both kinds
  apart : (pair other : ℕ × ℕ) → SayCrossing said pair.0 pair.1 → SayReaching said other.0 other.1 → pair ≢ other
  apart pair other crossing reaching same =
      let both : Some (crossings_line.Edge crossing.other) ≡ Some (crossings_line.Range reaching.range) = sym crossing.second ∙ ap (λ (p : ℕ × ℕ). slice_get said p.1) same ∙ reaching.second in
      cc

  module _ (crossed met : List (ℕ × ℕ)) (cross : ArePairs Cross (map edge_or_point said) crossed) (reach : ArePairsBetween Reaches (map edge_or_point said) (map range_or_none said) met) where
    both_once : AllPairs (λ pair later. pair ≢ later) (crossed ++ met)
    both_once = AllPairs-append (λ (pair later : ℕ × ℕ). pair ≢ later) crossed met cross.once reach.once
        (λ i d within j e inside.
        let pair = get_or crossed i d in
        let other = get_or met j e in
        apart pair other (say_crossing pair.0 pair.1 ((cross.exact pair.0 pair.1).0 (Contains-get_or crossed i d within))) (say_reaching other.0 other.1 ((reach.exact other.0 other.1).0 (Contains-get_or met j e inside))))

    both_exact : (i j : ℕ) → Contains (crossed ++ met) (i, j) ↔ IsToldTo said i j
    both_exact i j = (
      λ stands. ⊎_elim (λ one. inl (say_crossing i j ((cross.exact i j).0 one))) (λ two. inr (say_reaching i j ((reach.exact i j).0 two))) (Contains-append_cases crossed met (i, j) stands),
      λ told. ⊎_elim (λ one. Contains-append_left crossed met (i, j) ((cross.exact i j).1 (crossing_pair i j one))) (λ two. Contains-append_right crossed met (i, j) ((reach.exact i j).1 (reaching_pair i j two))) told,
    )

    -- the pairs of both kinds, by rising first place
    pub ordered_crossings : (pairs : List (ℕ × ℕ)) → IsPermutation (crossed ++ met) pairs → AllPairs (λ pair later. pair.0 ≤ later.0) pairs → AreOrderedCrossings said pairs
    ordered_crossings pairs same rising = record {
      once = once-permuted (crossed ++ met) pairs same both_once;
      exact = exact-permuted (IsToldTo said) (crossed ++ met) pairs same both_exact;
      rising = rising;
    }

-- ---- the text

-- one more reply
crossing_lines-push : (said : List CrossingsLine) (lists : List (List ℕ)) (line : CrossingsLine) (numbers : List ℕ) → length lists ≡ length said
    → crossing_lines (said ++ line ∷ []) (lists ++ numbers ∷ []) ≡ crossing_lines said lists ++ (number_words (crossing_word line) numbers ++ 10 ∷ [])
crossing_lines-push [] [] line numbers same = append-nil (number_words (crossing_word line) numbers ++ 10 ∷ [])
crossing_lines-push [] (list ∷ lists) line numbers same = absurd (omega (arith, same))
crossing_lines-push (first ∷ said) [] line numbers same = absurd (omega (arith, same))
crossing_lines-push (first ∷ said) (list ∷ lists) line numbers same =
    ap (λ (rest : List ℕ). (number_words (crossing_word first) list ++ 10 ∷ []) ++ rest) (crossing_lines-push said lists line numbers (omega (arith, same)))
    ∙ sym (append_assoc (number_words (crossing_word first) list ++ 10 ∷ []) (crossing_lines said lists) (number_words (crossing_word line) numbers ++ 10 ∷ []))

-- the line at this place, and its reply
crossing_lines-more : (said : List CrossingsLine) (lists : List (List ℕ)) (place : ℕ) (d : CrossingsLine) → length lists ≡ length said → place < length said
    → crossing_lines (take (place + 1) said) (take (place + 1) lists) ≡ crossing_lines (take place said) (take place lists) ++ (number_words (crossing_word (get_or said place d)) (get_or lists place []) ++ 10 ∷ [])
crossing_lines-more said lists place d same within =
    let inside : place < length lists = omega (arith, same, within) in
    let even : length (take place lists) ≡ length (take place said) = length-take-le place lists (omega (arith, inside)) ∙ sym (length-take-le place said (omega (arith, within))) in
    ap (λ (lines : List CrossingsLine). crossing_lines lines (take (place + 1) lists)) (take_more said place d within)
    ∙ ap (λ (some : List (List ℕ)). crossing_lines (take place said ++ get_or said place d ∷ []) some) (take_more lists place [] inside)
    ∙ crossing_lines-push (take place said) (take place lists) (get_or said place d) (get_or lists place []) even

-- so the text goes on
pub crossing_lines-next : {A : Type 0} (said : List CrossingsLine) (replies : List (MetLines A)) (place : ℕ) (d : CrossingsLine) (e : MetLines A) (word numbers before middle after : List ℕ)
    → length replies ≡ length said → place < length said → before ≡ crossing_lines (take place said) (take place (lists_of replies)) → word ≡ crossing_word (get_or said place d) → numbers ≡ (get_or replies place e).numbers.items
    → middle ≡ before ++ number_words word numbers → after ≡ middle ++ 10 ∷ [] → after ≡ crossing_lines (take (place + 1) said) (take (place + 1) (lists_of replies))
crossing_lines-next {A} said replies place d e word numbers before middle after same within before_is word_is numbers_is middle_is after_is =
    let so_far = crossing_lines (take place said) (take place (lists_of replies)) in
    let inside : place < length replies = omega (arith, same, within) in
    let even : length (lists_of replies) ≡ length said = length-map replies (λ (item : MetLines A). item.numbers.items) ∙ same in
    let list : get_or (lists_of replies) place [] ≡ numbers = get_or-map (λ (item : MetLines A). item.numbers.items) replies place e [] inside ∙ sym numbers_is in
    after_is
    ∙ ap (λ (text : List ℕ). text ++ 10 ∷ []) (middle_is ∙ ap (λ (text : List ℕ). text ++ number_words word numbers) before_is)
    ∙ append_assoc so_far (number_words word numbers) (10 ∷ [])
    ∙ ap₂ (λ (name list : List ℕ). so_far ++ (number_words name list ++ 10 ∷ [])) word_is (sym list)
    ∙ sym (crossing_lines-more said (lists_of replies) place d even within)

-- ---- the replies

-- no line without words says anything
pub says_some_word : (line : CrossingsLine) → ¬ (SaysCrossingsLine [] line)
says_some_word (crossings_line.Edge edge) says = says
says_some_word (crossings_line.Range range) says = says

told_lines : (lines : List (List ℕ)) (said : List CrossingsLine) (pairs : List (ℕ × ℕ)) (place : ℕ) → AreOrderedCrossings said pairs → AreToldLines lines said place (told (command_lines lines) pairs place)
told_lines lines said pairs place ordered = record {
  rising = told-ordered (command_lines lines) place pairs (command_lines-rise lines) ordered.once ordered.rising;
  exact = told-exact (IsToldTo said) (command_lines lines) place pairs ordered.exact;
}

-- replies that were told the pairs answer the lines
pub answers_crossings : {A : Type 0} (lines : List (List ℕ)) (said : List CrossingsLine) (numbers : List ℕ) (pairs : List (ℕ × ℕ)) (replies : List (MetLines A)) (count : ℕ) (output : List ℕ)
    → numbers ≡ command_lines lines → AreOrderedCrossings said pairs → count ≡ length said → AreTold numbers pairs count (lists_of replies) → output ≡ crossing_lines said (lists_of replies) → AnswersCrossings lines said output
answers_crossings lines said numbers pairs replies count output are ordered counted all_told written = record {
  replies = lists_of replies;
  one_each = all_told.one_each ∙ counted;
  told = λ place list is.
      let within : place < count = subst (λ (n : ℕ). place < n) all_told.one_each (slice_get_within (lists_of replies) place list is) in
      let lists : told (command_lines lines) pairs place ≡ list = same_Some (told (command_lines lines) pairs place) list (ap (λ (ns : List ℕ). Some (told ns pairs place)) (sym are) ∙ sym (all_told.each place within) ∙ is) in
      subst (AreToldLines lines said place) lists (told_lines lines said pairs place ordered);
  written = written;
}

-- what is told to a line stands on lines
told_within : (said : List CrossingsLine) (i j : ℕ) → IsToldTo said i j → (i < length said) × (j < length said)
told_within said i j (inl crossing) = (slice_get_within said i (crossings_line.Edge crossing.one) crossing.first, slice_get_within said j (crossings_line.Edge crossing.other) crossing.second)
told_within said i j (inr reaching) = (slice_get_within said i (crossings_line.Edge reaching.edge) reaching.first, slice_get_within said j (crossings_line.Range reaching.range) reaching.second)

-- each pair has places
pub in_range : (lines : List (List ℕ)) (said : List CrossingsLine) (numbers : List ℕ) (pairs : List (ℕ × ℕ)) (count : ℕ) → LinesSay SaysCrossingsLine lines said → numbers ≡ command_lines lines → AreOrderedCrossings said pairs → count ≡ length said
    → All (λ pair. (pair.0 < length numbers) × (pair.1 < count)) pairs
in_range lines said numbers pairs count say are ordered counted k d within =
    let pair = get_or pairs k d in
    let both = told_within said pair.0 pair.1 ((ordered.exact pair.0 pair.1).0 (Contains-get_or pairs k d within)) in
    (subst (λ (n : ℕ). pair.0 < n) (sym (ap length are ∙ length-command_lines SaysCrossingsLine says_some_word lines said say)) both.0, subst (λ (n : ℕ). pair.1 < n) (sym counted) both.1)
