-- The lines that a fault names are those that the text has.
use Rattle.std.proofs.Common.{ℕ, List, inl, inr}
use Rattle.itree.specs.Texts.{HasFirstFaulty, HasOverlapLine, HasCrossingLines, HasUnfit, HasFault}
use Rattle.itree.specs.declared.fault.Unfit.{Unfit}
use Rattle.itree.specs.declared.mode.Mode.{Mode}

-- the first faulty line
pub HasFault-line : (mode : Mode) (text : List ℕ) (number : ℕ) → HasFirstFaulty mode text number → HasFault mode text
HasFault-line mode text number first = inl (number, first)

-- the line of an overlap, which a sweep alone has
pub HasFault-overlap : (mode : Mode) (text : List ℕ) (number : ℕ) → HasOverlapLine mode text number → HasFault mode text
HasFault-overlap mode text number overlap = inr (inl (number, overlap))

-- the lines of edges that cross, which points among edges alone have
pub HasFault-crossing : (mode : Mode) (text : List ℕ) (first second : ℕ) → HasCrossingLines mode text first second → HasFault mode text
HasFault-crossing mode text first second crossing = inr (inr (inl (first, second, crossing)))

-- what has no answer, which what grows or shrinks alone has
pub HasFault-unfit : (mode : Mode) (text : List ℕ) (why : Unfit) → HasUnfit mode text why → HasFault mode text
HasFault-unfit mode text why unfit = inr (inr (inr (why, unfit)))
