-- Points among edges: the numbers of the lines that say edges, and what is told of them.
use Rattle.std.proofs.Common.{◌≡◌, ◌<◌, ℕ, suc, cond, List, [], ◌∷◌, ◌++◌, Option, Some, None, length, map, get_or, refl, sym, ap, ◌∙◌, subst, arith}
use Rattle.std.proofs.lemmas.List.Elements.{All-nil, All-cons, All-head, All-tail}
use Rattle.std.proofs.lemmas.List.Kept.{AllPairs-cons}
use Rattle.std.proofs.lemmas.Option.{slice_get_within, slice_get-get_or}
use Rattle.std.specs.List.{All, AllPairs, AllZip}
use Rattle.std.specs.Option.{is_some}
use Rattle.i_tree.proofs.RootLemmas.Lists.{AllPairs-head, AllPairs-tail}
use Rattle.itree.specs.Answers.{AnswersLocate}
use Rattle.itree.specs.Grammar.{LinesSay, command_lines}
use Rattle.itree.specs.LocateLines.{SaysLocateLine, edge_in, edges_of, points_of, edge_numbers, edge_lines, IsLineBelow, AreCrossingLines}
use Rattle.itree.specs.Replies.{edge_words, reply_lines}
use Rattle.itree.specs.Told.{number_at}
use Rattle.itree.specs.declared.lines.locate.LocateLine.{LocateLine}
use Rattle.itree.specs.declared.lines.locate.LocateLine.TheVariants as locate_line
use Rattle.itree.proofs.CommandLines.{command_lines-rise, length-command_lines}
use Rattle.plane.specs.Locate.Answers.{IsPlaceBelow}
use Rattle.plane.specs.SweepLine.Crossings.{IsCrossing, NoneCross}
use Rattle.plane.specs.declared.edge.Edge.{Edge}
use Rattle.plane.specs.declared.point.Point.{Point}

-- ---- the numbers of lines that say edges

-- the number of a last line, where it says an edge
abbrev pub last_number : LocateLine → ℕ → List ℕ
last_number line number = cond (is_some (edge_in line)) (number ∷ []) []

-- one more line
pub edge_numbers-push : (said : List LocateLine) (numbers : List ℕ) (line : LocateLine) (number : ℕ) → length numbers ≡ length said
    → edge_numbers (said ++ line ∷ []) (numbers ++ number ∷ []) ≡ edge_numbers said numbers ++ last_number line number
edge_numbers-push [] [] (locate_line.Edge edge) number same = refl
edge_numbers-push [] [] (locate_line.Point point) number same = refl
edge_numbers-push [] (n ∷ numbers) line number same = absurd (omega (arith, same))
edge_numbers-push (first ∷ said) [] line number same = absurd (omega (arith, same))
edge_numbers-push (locate_line.Edge edge ∷ said) (n ∷ numbers) line number same = ap (λ (ns : List ℕ). n ∷ ns) (edge_numbers-push said numbers line number (omega (arith, same)))
edge_numbers-push (locate_line.Point point ∷ said) (n ∷ numbers) line number same = edge_numbers-push said numbers line number (omega (arith, same))

-- there are as many as edges
length-edge_numbers : (said : List LocateLine) (numbers : List ℕ) → length numbers ≡ length said → length (edge_numbers said numbers) ≡ length (edges_of said)
length-edge_numbers [] numbers same = refl
length-edge_numbers (line ∷ said) [] same = absurd (omega (arith, same))
length-edge_numbers (locate_line.Edge edge ∷ said) (n ∷ numbers) same = ap suc (length-edge_numbers said numbers (omega (arith, same)))
length-edge_numbers (locate_line.Point point ∷ said) (n ∷ numbers) same = length-edge_numbers said numbers (omega (arith, same))

-- what holds of all numbers holds of them
edge_numbers-all : (P : ℕ → Type 0) (said : List LocateLine) (numbers : List ℕ) → All P numbers → All P (edge_numbers said numbers)
edge_numbers-all P [] numbers all = All-nil P
edge_numbers-all P (line ∷ said) [] all = All-nil P
edge_numbers-all P (locate_line.Edge edge ∷ said) (n ∷ numbers) all = All-cons P n (edge_numbers said numbers) (All-head P n numbers all) (edge_numbers-all P said numbers (All-tail P n numbers all))
edge_numbers-all P (locate_line.Point point ∷ said) (n ∷ numbers) all = edge_numbers-all P said numbers (All-tail P n numbers all)

abbrev Rise : List ℕ → Type 0
Rise numbers = AllPairs (λ n m. n < m) numbers

-- where the numbers rise, they do
edge_numbers-rise : (said : List LocateLine) (numbers : List ℕ) → Rise numbers → Rise (edge_numbers said numbers)
edge_numbers-rise [] numbers rise = λ i j d below within. absurd (omega (arith, within))
edge_numbers-rise (line ∷ said) [] rise = λ i j d below within. absurd (omega (arith, within))
edge_numbers-rise (locate_line.Edge edge ∷ said) (n ∷ numbers) rise =
    AllPairs-cons (λ n m. n < m) n (edge_numbers said numbers) (edge_numbers-all (λ m. n < m) said numbers (AllPairs-head (λ n m. n < m) n numbers rise))
    (edge_numbers-rise said numbers (AllPairs-tail (λ n m. n < m) n numbers rise))
edge_numbers-rise (locate_line.Point point ∷ said) (n ∷ numbers) rise = edge_numbers-rise said numbers (AllPairs-tail (λ n m. n < m) n numbers rise)

-- ---- what is told

-- no line without words says anything
pub says_some_word : (line : LocateLine) → ¬ (SaysLocateLine [] line)
says_some_word (locate_line.Edge edge) says = says
says_some_word (locate_line.Point point) says = says

module _ (lines : List (List ℕ)) (said : List LocateLine) (say : LinesSay SaysLocateLine lines said) where
  counted : length (edge_lines lines said) ≡ length (edges_of said)
  counted = length-edge_numbers said (command_lines lines) (length-command_lines SaysLocateLine says_some_word lines said say)

  -- the place of an edge has a number
  number_there : (place : ℕ) → place < length (edges_of said) → place < length (edge_lines lines said)
  number_there place within = subst (λ (n : ℕ). place < n) (sym counted) within

  line_below : (point : Point) (place : Option ℕ) → IsPlaceBelow (edges_of said) point place → IsLineBelow lines said point (number_at (edge_lines lines said) place)
  line_below point None below = below
  line_below point (Some i) below =
      let numbers = edge_lines lines said in
      subst (IsLineBelow lines said point) (sym (slice_get-get_or numbers i 0 (number_there i (slice_get_within (edges_of said) i below.edge below.stands))))
      (i, below, slice_get-get_or numbers i 0 (number_there i (slice_get_within (edges_of said) i below.edge below.stands)))

  lines_below : (points : List Point) (places : List (Option ℕ)) → AllZip (IsPlaceBelow (edges_of said)) points places → AllZip (IsLineBelow lines said) points (map (number_at (edge_lines lines said)) places)
  lines_below [] [] all = tt
  lines_below [] (place ∷ places) all = absurd all
  lines_below (point ∷ points) [] all = absurd all
  lines_below (point ∷ points) (place ∷ places) all = (line_below point place all.0, lines_below points places all.1)

  -- the numbers at the answers are told
  pub answers_locate : (edges : List Edge) (points : List Point) (places found : List (Option ℕ)) (numbers : List ℕ) (output : List ℕ)
      → edges ≡ edges_of said → points ≡ points_of said → numbers ≡ edge_lines lines said → NoneCross edges → AllZip (IsPlaceBelow edges) points places
      → found ≡ map (number_at numbers) places → output ≡ reply_lines edge_words found → AnswersLocate lines said output
  answers_locate edges points places found numbers output edges_are points_are numbers_are apart below told written =
      let at_points = subst (λ (ps : List Point). AllZip (IsPlaceBelow edges) ps places) points_are below in
      let among = subst (λ (es : List Edge). AllZip (IsPlaceBelow es) (points_of said) places) edges_are at_points in
      let replies : found ≡ map (number_at (edge_lines lines said)) places = told ∙ ap (λ (ns : List ℕ). map (number_at ns) places) numbers_are in
      record {
        replies = found;
        apart = subst NoneCross edges_are apart;
        below = subst (AllZip (IsLineBelow lines said) (points_of said)) (sym replies) (lines_below (points_of said) places among);
        written = written;
      }

  -- edges that cross have numbers
  pub crossing_within : (edges : List Edge) (numbers : List ℕ) (one other : ℕ) → edges ≡ edges_of said → numbers ≡ edge_lines lines said → IsCrossing edges one other
      → (one < length numbers) × (other < length numbers)
  crossing_within edges numbers one other edges_are numbers_are crosses =
      let many : length numbers ≡ length edges = ap length numbers_are ∙ counted ∙ sym (ap length edges_are) in
      (subst (λ (n : ℕ). one < n) (sym many) (slice_get_within edges one crosses.one crosses.first), subst (λ (n : ℕ). other < n) (sym many) (slice_get_within edges other crosses.other crosses.second))

  -- and these are told
  pub crossing_lines : (edges : List Edge) (numbers : List ℕ) (one other first second : ℕ) → edges ≡ edges_of said → numbers ≡ edge_lines lines said → IsCrossing edges one other
      → get_or numbers one 0 ≡ first → get_or numbers other 0 ≡ second → AreCrossingLines lines first second
  crossing_lines edges numbers one other first second edges_are numbers_are crosses first_is second_is =
      let (within, too) = crossing_within edges numbers one other edges_are numbers_are crosses in
      let all = edge_lines lines said in
      let at_one : one < length all = subst (λ (ns : List ℕ). one < length ns) numbers_are within in
      let at_other : other < length all = subst (λ (ns : List ℕ). other < length ns) numbers_are too in
      let one_is : get_or all one 0 ≡ first = subst (λ (ns : List ℕ). get_or ns one 0 ≡ first) numbers_are first_is in
      let other_is : get_or all other 0 ≡ second = subst (λ (ns : List ℕ). get_or ns other 0 ≡ second) numbers_are second_is in
      let rise = edge_numbers-rise said (command_lines lines) (command_lines-rise lines) one other 0 crosses.below at_other in
      record {
        said = said;
        one = one;
        other = other;
        says = say;
        crosses = subst (λ (es : List Edge). IsCrossing es one other) edges_are crosses;
        says_one = slice_get-get_or all one 0 at_one ∙ ap Some one_is;
        says_other = slice_get-get_or all other 0 at_other ∙ ap Some other_is;
        in_order = subst (λ (n : ℕ). first < n) other_is (subst (λ (n : ℕ). n < get_or all other 0) one_is rise);
      }
