-- Which points are inside, by their winding numbers.
use Rattle.std.specs.Prelude.{Bool, not, cond, ◌&&◌, ◌||◌, ℤ, pos, int_lt}
use Rattle.std.specs.Int.{int_rem_euclid}
use Rattle.std.specs.Ordering.{int_eq}
use Rattle.overlay.specs.declared.fill.rules.FillRule.{FillRule}
use Rattle.overlay.specs.declared.fill.rules.FillRule.TheVariants.{EvenOdd, NonZero, Positive, Negative}
use Rattle.overlay.specs.declared.fill.rules.Operation.{Operation}
use Rattle.overlay.specs.declared.fill.rules.Operation.TheVariants.{Union, Intersection, Difference, Xor}

-- Points with this winding number are inside: where it is odd, not 0, above 0, below 0.
abbrev pub is_inside : FillRule → ℤ → Bool
is_inside EvenOdd winding = int_eq (int_rem_euclid winding (pos 2)) (pos 1)
is_inside NonZero winding = int_lt (pos 0) winding || int_lt winding (pos 0)
is_inside Positive winding = int_lt (pos 0) winding
is_inside Negative winding = int_lt winding (pos 0)

-- A point is of the result that is of the subject or not, and of the clip or not.
abbrev pub operate : Operation → Bool → Bool → Bool
operate Union subject clip = subject || clip
operate Intersection subject clip = subject && clip
operate Difference subject clip = subject && not clip
operate Xor subject clip = cond subject (not clip) clip

-- A point with these winding numbers is of the result.
abbrev pub is_result : FillRule → Operation → ℤ → ℤ → Bool
is_result rule operation subject clip = operate operation (is_inside rule subject) (is_inside rule clip)
