-- Pairs of edges that meet, in order, and what they tell at each place.
use Rattle.std.proofs.Common.{◌≡◌, ◌≢◌, ◌==◌, ◌&&◌, ◌<◌, ◌≤◌, ◌⊎◌, ◌↔◌, ℕ, zero, suc, Bool, true, false, cond, List, [], ◌∷◌, ◌++◌, Option, Some, None, length, get_or, replicate, refl, sym, ap, ◌∙◌, subst, inl, inr, ⊎_elim, arith}
use Rattle.std.proofs.lemmas.Option.{same_Some}
use Rattle.std.specs.Bool.{Decides}
use Rattle.std.specs.List.{All, AllPairs, Contains, slice_get, cons_option}
use Rattle.std.specs.List.Sorted.{IsPermutation}
use Rattle.std.proofs.lemmas.Bool.Decides.{Decides-eqb, Decides-and}
use Rattle.std.proofs.lemmas.List.Elements.{Contains-append_right, Contains-get_or}
use Rattle.std.proofs.lemmas.List.Kept.{AllPairs-cons}
use Rattle.std.proofs.lemmas.List.Sorted.{Contains-permutation, IsPermutation-sym}
use Rattle.std.proofs.lemmas.Map.Keys.{IsDistinct-IsPermutation}
use Rattle.std.proofs.lemmas.Map.Made.{AllPairs-from_IsDistinct, IsDistinct-from_AllPairs}
use Rattle.std.proofs.lemmas.Option.{get_or_from_slice_get, slice_get_within}
use Rattle.std.proofs.lemmas.List.{length-map, length-replicate}
use Rattle.std.proofs.Math.Nat.{eq-or-lt_of_le}
use Rattle.itree.specs.Answers.{AnswersMeetings}
use Rattle.itree.specs.MeetingsLines.{SaysEdge, AreMetLines}
use Rattle.itree.specs.Grammar.{LinesSay, command_lines}
use Rattle.itree.specs.Replies.{met_words, reply_lines}
use Rattle.itree.specs.Told.{number_told, told, lists_of, AreTold, AreOrderedMeetings}
use Rattle.itree.specs.declared.lines.meetings.MetLines.{MetLines}
use Rattle.itree.proofs.CommandLines.{command_lines-rise, length-command_lines}
use Rattle.plane.specs.Meet.Meetings.{MeetAt, AreMeetings}
use Rattle.plane.specs.declared.edge.Edge.{Edge}

-- ---- pairs in another order

abbrev pair_eq : ℕ × ℕ → ℕ × ℕ → Bool
pair_eq p q = p.0 == q.0 && p.1 == q.1

one_pair : (p q : ℕ × ℕ) → p.0 ≡ q.0 → p.1 ≡ q.1 → p ≡ q
one_pair p q first second = ap (λ (n : ℕ). (n, p.1)) first ∙ ap (λ (n : ℕ). (q.0, n)) second

pair_eq-tells : (p q : ℕ × ℕ) → Decides (pair_eq p q) (p ≡ q)
pair_eq-tells p q =
    let both = Decides-and (p.0 == q.0) (p.1 == q.1) (Decides-eqb p.0 q.0) (Decides-eqb p.1 q.1) in
    (λ passes. one_pair p q (both.0 passes).0 (both.0 passes).1, λ same. both.1 (ap (λ (pair : ℕ × ℕ). pair.0) same, ap (λ (pair : ℕ × ℕ). pair.1) same))

same_test : (b c : Bool) → (b ≡ true → c ≡ true) → (c ≡ true → b ≡ true) → b ≡ c
same_test true c forth back = sym (forth refl)
same_test false true forth back = back refl
same_test false false forth back = refl

pair_eq-flips : (p q : ℕ × ℕ) → pair_eq p q ≡ pair_eq q p
pair_eq-flips p q =
    same_test (pair_eq p q) (pair_eq q p) (λ passes. (pair_eq-tells q p).1 (sym ((pair_eq-tells p q).0 passes))) (λ passes. (pair_eq-tells p q).1 (sym ((pair_eq-tells q p).0 passes)))

-- pairs that are each there once are so in another order
pub once-permuted : (pairs moved : List (ℕ × ℕ)) → IsPermutation pairs moved → AllPairs (λ pair later. pair ≢ later) pairs → AllPairs (λ pair later. pair ≢ later) moved
once-permuted pairs moved same once = AllPairs-from_IsDistinct pair_eq-tells moved (IsDistinct-IsPermutation pair_eq pair_eq-flips pairs moved same (IsDistinct-from_AllPairs pair_eq-tells pairs once))

-- and where they are those of a relation they still are
pub exact-permuted : (R : ℕ → ℕ → Type 0) (pairs moved : List (ℕ × ℕ)) → IsPermutation pairs moved → ((i j : ℕ) → Contains pairs (i, j) ↔ R i j) → (i j : ℕ) → Contains moved (i, j) ↔ R i j
exact-permuted R pairs moved same exact i j =
    (λ stands. (exact i j).0 (Contains-permutation moved pairs (i, j) (IsPermutation-sym pairs moved same) stands), λ holds. Contains-permutation pairs moved (i, j) same ((exact i j).1 holds))

-- the meetings in another order are the meetings
pub AreMeetings-permuted : (edges : List Edge) (pairs moved : List (ℕ × ℕ)) → IsPermutation pairs moved → AreMeetings edges pairs → AreMeetings edges moved
AreMeetings-permuted edges pairs moved same are = record {
  once = once-permuted pairs moved same are.once;
  exact = exact-permuted (MeetAt edges) pairs moved same are.exact;
}

-- of two pairs with one later place, the first has the lower earlier place
abbrev Rises : List (ℕ × ℕ) → Type 0
Rises pairs = AllPairs (λ pair other. pair.1 ≡ other.1 → pair.0 < other.0) pairs

ordered-rise : (pairs : List (ℕ × ℕ)) → AllPairs (λ pair later. pair ≢ later) pairs → AllPairs (λ pair later. pair.0 ≤ later.0) pairs → Rises pairs
ordered-rise pairs once rising i j d below within same =
    ⊎_elim (λ level. absurd (once i j d below within (one_pair (get_or pairs i d) (get_or pairs j d) level same))) (λ less. less)
    (eq-or-lt_of_le (rising i j d below within))

-- ---- what pairs tell at a place

-- an item of a list is its first one, or one of the others
first_or_later : {X : Type 0} (x : X) (xs : List X) (y : X) → Contains (x ∷ xs) y → (x ≡ y) ⊎ Contains xs y
first_or_later x xs y (zero, within, is) = inl is
first_or_later x xs y (suc k, within, is) = inr (k, omega (arith, within), is)

first_is : {X : Type 0} (x : X) (xs : List X) → Contains (x ∷ xs) x
first_is x xs = (zero, omega arith, refl)

module _ (numbers : List ℕ) (place : ℕ) where
  -- a pair that tells a number
  tells : (pair : ℕ × ℕ) (number : ℕ) → number_told numbers place pair ≡ Some number → (pair.1 ≡ place) × (slice_get numbers pair.0 ≡ Some number)
  tells pair number is = go (pair.1 == place) (Decides-eqb pair.1 place).0 is
    where
      go : (test : Bool) → (test ≡ true → pair.1 ≡ place) → cond test (slice_get numbers pair.0) None ≡ Some number → (pair.1 ≡ place) × (slice_get numbers pair.0 ≡ Some number)
      go true here said = (here refl, said)
      go false here said = cc

  is_told : (pair : ℕ × ℕ) (number : ℕ) → pair.1 ≡ place → slice_get numbers pair.0 ≡ Some number → number_told numbers place pair ≡ Some number
  is_told pair number here is = ap (λ (test : Bool). cond test (slice_get numbers pair.0) None) ((Decides-eqb pair.1 place).1 here) ∙ is

  split : (found : Option ℕ) (rest : List ℕ) (number : ℕ) → Contains (cons_option found rest) number → (found ≡ Some number) ⊎ Contains rest number
  split None rest number stands = inr stands
  split (Some first) rest number stands = ⊎_elim (λ same. inl (ap Some same)) inr (first_or_later first rest number stands)

  -- what is told at the place is told by a pair
  told-by : (pairs : List (ℕ × ℕ)) (number : ℕ) → Contains (told numbers pairs place) number → (pair : ℕ × ℕ) × Contains pairs pair × (pair.1 ≡ place) × (slice_get numbers pair.0 ≡ Some number)
  told-by [] number (k, within, is) = absurd (omega (arith, within))
  told-by (pair ∷ pairs) number stands =
      ⊎_elim (λ said. let what = tells pair number said in (pair, first_is pair pairs, what.0, what.1))
      (λ later. let (other, stands_there, here, is) = told-by pairs number later in (other, Contains-append_right (pair ∷ []) pairs other stands_there, here, is))
      (split (number_told numbers place pair) (told numbers pairs place) number stands)

  behind : (found : Option ℕ) (rest : List ℕ) (number : ℕ) → Contains rest number → Contains (cons_option found rest) number
  behind None rest number stands = stands
  behind (Some first) rest number stands = Contains-append_right (first ∷ []) rest number stands

  -- and each pair tells what it tells
  told-each : (pairs : List (ℕ × ℕ)) (pair : ℕ × ℕ) (number : ℕ) → Contains pairs pair → pair.1 ≡ place → slice_get numbers pair.0 ≡ Some number → Contains (told numbers pairs place) number
  told-each [] pair number (k, within, same) here is = absurd (omega (arith, within))
  told-each (first ∷ pairs) pair number stands here is =
      ⊎_elim (λ same. subst (λ (found : Option ℕ). Contains (cons_option found (told numbers pairs place)) number) (sym (ap (number_told numbers place) same ∙ is_told pair number here is)) (first_is number (told numbers pairs place)))
      (λ later. behind (number_told numbers place first) (told numbers pairs place) number (told-each pairs pair number later here is))
      (first_or_later first pairs pair stands)

  module _ (rising : AllPairs (λ number later. number < later) numbers) where
    -- a pair tells less than the later ones
    above : (pair : ℕ × ℕ) (pairs : List (ℕ × ℕ)) (number : ℕ) → Rises (pair ∷ pairs) → number_told numbers place pair ≡ Some number → All (λ later. number < later) (told numbers pairs place)
    above pair pairs number rises is k d within =
        let here = tells pair number is in
        let later = get_or (told numbers pairs place) k d in
        let (other, (n, inside, at), there, said) = told-by pairs later (Contains-get_or (told numbers pairs place) k d within) in
        let less : pair.0 < other.0 = rises_at n other inside at (here.0 ∙ sym there) in
        let low : get_or numbers pair.0 0 ≡ number = get_or_from_slice_get numbers pair.0 number 0 here.1 in
        let high : get_or numbers other.0 0 ≡ later = get_or_from_slice_get numbers other.0 later 0 said in
        let rise : get_or numbers pair.0 0 < get_or numbers other.0 0 = rising pair.0 other.0 0 less (slice_get_within numbers other.0 later said) in
        subst (λ (m : ℕ). number < m) high (subst (λ (m : ℕ). m < get_or numbers other.0 0) low rise)
      where
        rises_at : (n : ℕ) (other : ℕ × ℕ) → n < length pairs → get_or pairs n other ≡ other → pair.1 ≡ other.1 → pair.0 < other.0
        rises_at n other inside at same =
            subst (λ (q : ℕ × ℕ). pair.0 < q.0) at (rises zero (suc n) other (omega arith) (omega (arith, inside)) (same ∙ ap (λ (q : ℕ × ℕ). q.1) (sym at)))

    told_next : (found : Option ℕ) (rest : List ℕ) → ((number : ℕ) → found ≡ Some number → All (λ later. number < later) rest) → AllPairs (λ number later. number < later) rest → AllPairs (λ number later. number < later) (cons_option found rest)
    told_next None rest below rises = rises
    told_next (Some number) rest below rises = AllPairs-cons (λ n later. n < later) number rest (below number refl) rises

    -- so what is told rises
    told-rises : (pairs : List (ℕ × ℕ)) → Rises pairs → AllPairs (λ number later. number < later) (told numbers pairs place)
    told-rises [] rises = λ i j d below within. absurd (omega arith)
    told-rises (pair ∷ pairs) rises =
        told_next (number_told numbers place pair) (told numbers pairs place) (λ number is. above pair pairs number rises is)
        (told-rises pairs (λ i j d below within. rises (suc i) (suc j) d (omega (arith, below)) (omega (arith, within))))

-- pairs in order tell rising numbers, where all numbers rise
pub told-ordered : (numbers : List ℕ) (place : ℕ) (pairs : List (ℕ × ℕ)) → AllPairs (λ number later. number < later) numbers → AllPairs (λ pair later. pair ≢ later) pairs → AllPairs (λ pair later. pair.0 ≤ later.0) pairs
    → AllPairs (λ number later. number < later) (told numbers pairs place)
told-ordered numbers place pairs rise once rising = told-rises numbers place rise pairs (ordered-rise pairs once rising)

-- and where they are those of a relation, they tell the numbers at what stands in it to the place
pub told-exact : (R : ℕ → ℕ → Type 0) (numbers : List ℕ) (place : ℕ) (pairs : List (ℕ × ℕ)) → ((i j : ℕ) → Contains pairs (i, j) ↔ R i j)
    → (number : ℕ) → Contains (told numbers pairs place) number ↔ ((i : ℕ) × R i place × (slice_get numbers i ≡ Some number))
told-exact R numbers place pairs exact number = (
  λ stands. let (pair, among, here, is) = told-by numbers place pairs number stands in (pair.0, subst (R pair.0) here ((exact pair.0 pair.1).0 among), is),
  λ (i, holds, is). told-each numbers place pairs (i, place) number ((exact i place).1 holds) refl is,
)

-- ---- the replies to edges

met_lines : (lines : List (List ℕ)) (edges : List Edge) (pairs : List (ℕ × ℕ)) (place : ℕ) → AreOrderedMeetings edges pairs → AreMetLines lines edges place (told (command_lines lines) pairs place)
met_lines lines edges pairs place ordered = record {
  rising = told-ordered (command_lines lines) place pairs (command_lines-rise lines) ordered.meetings.once ordered.rising;
  exact = told-exact (MeetAt edges) (command_lines lines) place pairs ordered.meetings.exact;
}

-- the lines of replies, wherever their lists are kept
lines_of_lists : {A : Type 0} (replies : List (MetLines A)) → reply_lines (λ reply. met_words reply.numbers.items) replies ≡ reply_lines met_words (lists_of replies)
lines_of_lists [] = refl
lines_of_lists (reply ∷ replies) = ap (λ (rest : List ℕ). (met_words reply.numbers.items ++ 10 ∷ []) ++ rest) (lines_of_lists replies)

-- replies that were told the meetings answer the edges
pub answers_meetings : {A : Type 0} (lines : List (List ℕ)) (edges : List Edge) (numbers : List ℕ) (pairs : List (ℕ × ℕ)) (replies : List (MetLines A)) (count : ℕ) (output : List ℕ)
    → numbers ≡ command_lines lines → AreOrderedMeetings edges pairs → count ≡ length edges → AreTold numbers pairs count (lists_of replies) → output ≡ reply_lines (λ reply. met_words reply.numbers.items) replies → AnswersMeetings lines edges output
answers_meetings lines edges numbers pairs replies count output are ordered counted all_told written = record {
  replies = lists_of replies;
  one_each = all_told.one_each ∙ counted;
  met = λ place list is.
      let within : place < count = subst (λ (n : ℕ). place < n) all_told.one_each (slice_get_within (lists_of replies) place list is) in
      let lists : told (command_lines lines) pairs place ≡ list = same_Some (told (command_lines lines) pairs place) list (ap (λ (ns : List ℕ). Some (told ns pairs place)) (sym are) ∙ sym (all_told.each place within) ∙ is) in
      subst (AreMetLines lines edges place) lists (met_lines lines edges pairs place ordered);
  written = written ∙ lines_of_lists replies;
}

-- each pair has places
pub in_range : (lines : List (List ℕ)) (edges : List Edge) (numbers : List ℕ) (pairs : List (ℕ × ℕ)) (count : ℕ) → LinesSay SaysEdge lines edges → numbers ≡ command_lines lines → AreOrderedMeetings edges pairs → count ≡ length edges
    → All (λ pair. (pair.0 < length numbers) × (pair.1 < count)) pairs
in_range lines edges numbers pairs count say are ordered counted k d within =
    let pair = get_or pairs k d in
    let meet = (ordered.meetings.exact pair.0 pair.1).0 (Contains-get_or pairs k d within) in
    let first : pair.0 < length edges = slice_get_within edges pair.0 meet.one meet.first in
    let second : pair.1 < length edges = slice_get_within edges pair.1 meet.other meet.second in
    (subst (λ (n : ℕ). pair.0 < n) (sym (ap length are ∙ length-command_lines SaysEdge (λ edge says. says) lines edges say)) first, subst (λ (n : ℕ). pair.1 < n) (sym counted) second)

-- as many replies as lists
pub listed : {A : Type 0} (replies : List (MetLines A)) (count : ℕ) → lists_of replies ≡ replicate count [] → length replies ≡ count
listed {A} replies count are = sym (length-map replies (λ (reply : MetLines A). reply.numbers.items)) ∙ ap length are ∙ length-replicate count []
