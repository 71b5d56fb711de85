-- Items of two kinds in one list: their boxes, and when two of them, one of each kind, meet.
use Rattle.plane.specs.declared.pairs.items.Bounds.{Bounds}
use Rattle.plane.specs.declared.pairs.two.OfTwo.{OfTwo}
use Rattle.plane.specs.declared.pairs.two.OfTwo.TheVariants.{One, Other}

abbrev pub bounds_of_two : {X Y : Type 0} → (X → Bounds) → (Y → Bounds) → OfTwo X Y → Bounds
bounds_of_two bounds other_bounds (One one) = bounds one
bounds_of_two bounds other_bounds (Other other) = other_bounds other

abbrev pub MeetingOfTwo : {X Y : Type 0} → (X → Y → Type 0) → OfTwo X Y → OfTwo X Y → Type 0
MeetingOfTwo Meeting (One one) (Other other) = Meeting one other
MeetingOfTwo Meeting (Other other) (One one) = Meeting one other
MeetingOfTwo Meeting (One one) (One other) = ⊥
MeetingOfTwo Meeting (Other one) (Other other) = ⊥
