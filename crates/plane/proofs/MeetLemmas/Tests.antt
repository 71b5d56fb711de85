-- What the tests that are made of two edges say of whether they meet.
use Rattle.std.proofs.Common.{◌≡◌, ◌≢◌, ℤ, pos, Bool, true, false, MatchBool, ◌∙◌, sym, arith}
use Rattle.std.proofs.lemmas.Int.{ints}
use Rattle.plane.specs.declared.edge.Edge.{Edge}
use Rattle.plane.specs.Meet.Boxes.{BoxesMeet}
use Rattle.plane.specs.Meet.Crosses.{IsPart}
use Rattle.plane.specs.Meet.Edges.{Meet}
use Rattle.plane.proofs.MeetLemmas.Along.{meet-of_along}
use Rattle.plane.proofs.MeetLemmas.Boxes.{meet-boxes}
use Rattle.plane.proofs.MeetLemmas.Shares.{whole, part_of_one, part_of_other, parts_of_meet, meet-of_parts}

-- Three numbers are the cross products of two edges.
pub record AreCrosses (one other : Edge) (all first second : ℤ) : Type 0 where
  pub all_is : all ≡ whole one other
  pub first_is : first ≡ part_of_one one other
  pub second_is : second ≡ part_of_other one other

-- edges that meet have both parts
pub apart_one : (one other : Edge) (part all : ℤ) → part ≡ part_of_one one other → all ≡ whole one other → ¬ (IsPart part all) → ¬ (Meet one other)
apart_one one other part all part_is all_is none meet = none (rw (part_is, all_is) (parts_of_meet one other meet).0)

pub apart_other : (one other : Edge) (part all : ℤ) → part ≡ part_of_other one other → all ≡ whole one other → ¬ (IsPart part all) → ¬ (Meet one other)
apart_other one other part all part_is all_is none meet = none (rw (part_is, all_is) (parts_of_meet one other meet).1)

-- edges that aren't parallel meet where they have both
pub meet-of_crosses : (one other : Edge) (all first second : ℤ) → AreCrosses one other all first second → all ≢ pos 0 → IsPart first all → IsPart second all → Meet one other
meet-of_crosses one other all first second crosses some of_one of_other =
    let all_is = crosses.all_is in
    let first_is = crosses.first_is in
    let second_is = crosses.second_is in
    meet-of_parts one other (λ none. some (all_is ∙ none)) (rw (← first_is, ← all_is) of_one) (rw (← second_is, ← all_is) of_other)

-- a part of nothing is nothing
pub part_of_none : (part all : ℤ) → all ≡ pos 0 → IsPart part all → part ≡ pos 0
part_of_none part all none is_part = omega (arith, ints)

-- parallel edges that have both meet where their boxes do
pub along_tested : (one other : Edge) (all first second : ℤ) (r : Bool) → AreCrosses one other all first second → all ≡ pos 0 → IsPart first all → IsPart second all → MatchBool r (BoxesMeet one other) (¬ (BoxesMeet one other)) → MatchBool r (Meet one other) (¬ (Meet one other))
along_tested one other all first second true crosses none of_one of_other boxes =
    meet-of_along one other (record {
      parallel = sym crosses.all_is ∙ none;
      of_one = sym crosses.first_is ∙ part_of_none first all none of_one;
      of_other = sym crosses.second_is ∙ part_of_none second all none of_other;
      boxes = boxes;
    })
along_tested one other all first second false crosses none of_one of_other apart = λ meet. apart (meet-boxes one other meet)
