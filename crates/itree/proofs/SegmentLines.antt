-- Segments that lines say, counted as the lines pass.
use Rattle.std.proofs.Common.{◌≡◌, ◌+◌, ℕ, Bool, cond, List, [], ◌∷◌, ◌++◌, Option, Some, None, length, sym, ap, ◌∙◌, subst, length-append, append_assoc, append-nil, arith}
use Rattle.std.proofs.lemmas.List.Elements.{filter_map-append}
use Rattle.std.specs.List.{cons_option}
use Rattle.std.specs.Option.{option_to_list}
use Rattle.itree.specs.Grammar.{LineSays, LinesSay}
use Rattle.itree.specs.SweepLines.{SaysSweepLine, segment_in, segments_of, says_segment}
use Rattle.itree.specs.declared.lines.sweep.SweepLine.{SweepLine}
use Rattle.itree.specs.declared.lines.sweep.SweepLine.TheVariants as sweep_line
use Rattle.itree.proofs.Counting.{LinesSay-push}

-- what is said, cut where some lines have passed and the others are left; as many segments have passed
pub record Passed (before left : List (List ℕ)) (said : List SweepLine) (count : ℕ) : Type 0 where
  pub earlier : List SweepLine
  pub later : List SweepLine
  pub says_before : LinesSay SaysSweepLine before earlier
  pub says_left : LinesSay SaysSweepLine left later
  pub together : said ≡ earlier ++ later
  pub counted : count ≡ length (segments_of earlier)

-- one more item that may be there
appended : (earlier later others : List SweepLine) (said : Option SweepLine) → later ≡ cons_option said others → earlier ++ later ≡ (earlier ++ option_to_list said) ++ others
appended earlier later others None is = ap (λ (items : List SweepLine). earlier ++ items) is ∙ ap (λ (items : List SweepLine). items ++ others) (sym (append-nil earlier))
appended earlier later others (Some item) is = ap (λ (items : List SweepLine). earlier ++ items) is ∙ sym (append_assoc earlier (item ∷ []) others)

-- the segments that are said before an item, and by it
counted_on : (count : ℕ) (earlier : List SweepLine) (said : Option SweepLine) → count ≡ length (segments_of earlier) → count + length (segments_of (option_to_list said)) ≡ length (segments_of (earlier ++ option_to_list said))
counted_on count earlier said counted =
    ap (λ before. before + length (segments_of (option_to_list said))) counted
    ∙ sym (length-append (segments_of earlier) (segments_of (option_to_list said)))
    ∙ ap length (sym (filter_map-append segment_in earlier (option_to_list said)))

-- an item that says a segment counts one more
number_said : (count : ℕ) (said : Option SweepLine) (names : Bool) → names ≡ says_segment said → cond names (count + 1) count ≡ count + length (segments_of (option_to_list said))
number_said count (Some (sweep_line.Segment segment)) names is = ap (λ (test : Bool). cond test (count + 1) count) is
number_said count (Some (sweep_line.Point point)) names is = ap (λ (test : Bool). cond test (count + 1) count) is ∙ omega arith
number_said count None names is = ap (λ (test : Bool). cond test (count + 1) count) is ∙ omega arith

-- one more line passes, and whether it says a segment is decided
module _ (before left : List (List ℕ)) (line : List ℕ) (after : List (List ℕ)) (said : List SweepLine) (count : ℕ) (names : Bool) (cut : left ≡ line ∷ after) (decided : (here : Option SweepLine) → LineSays SaysSweepLine line here → names ≡ says_segment here) (passed : Passed before left said count) where
  pub Passed-next : Passed (before ++ line ∷ []) after said (cond names (count + 1) count)
  Passed-next =
      let (here, others, at_line, there, are) = subst (λ (lines : List (List ℕ)). LinesSay SaysSweepLine lines passed.later) cut passed.says_left in
      record {
        earlier = passed.earlier ++ option_to_list here;
        later = others;
        says_before = LinesSay-push SaysSweepLine before passed.earlier line here passed.says_before at_line;
        says_left = there;
        together = passed.together ∙ appended passed.earlier passed.later others here are;
        counted = number_said count here names (decided here at_line) ∙ counted_on count passed.earlier here passed.counted;
      }
