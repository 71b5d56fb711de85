-- The heights below points as C reads them: a flag and a number each.
use Rattle.std.specs.Prelude.{◌≡◌, ℤ, pos, List, Option, Some, None, map}
use Rattle.std.specs.List.{AllZip}
use Rattle.horizontal.specs.Heights.{IsHeightBelow}
use Rattle.horizontal.specs.declared.Point.{Point}
use Rattle.horizontal.specs.declared.Segment.{Segment}
use Rattle.itree_c.specs.declared.heights.Height.{Height}

-- a height as it is written: found is 1 and y the height, or both are 0
abbrev pub height_of : Option ℤ → Height
height_of (Some y) = record { found = pos 1; y = y }
height_of None = record { found = pos 0; y = pos 0 }

-- what is written are the heights below the points, in their order
abbrev pub AreHeights : List Segment → List Point → List Height → Type 0
AreHeights segments points heights =
    (answers : List (Option ℤ)) × (heights ≡ map height_of answers) × AllZip (IsHeightBelow segments) points answers
