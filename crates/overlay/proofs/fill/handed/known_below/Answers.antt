use Rattle.std.proofs.Common.{rules}
use Rattle.overlay.proofs.fill.handed.known_below.Goals as goal

pub bounds-below-place : goal.bounds-below-place
bounds-below-place c = (c.requires.below c.in-Some.place c.in-Some.ensures).0

pub offset_bounds-below-place : goal.offset_bounds-below-place
offset_bounds-below-place c = let inside = bounds-below-place c in search rules

pub bounds-below-place-in-Some-carried_by : goal.bounds-below-place-in-Some-carried_by
bounds-below-place-in-Some-carried_by c = (c.requires.carried c.in-Some-carried_by.place c.in-Some-carried_by.other c.in-Some-carried_by.ensures).0

pub offset_bounds-below-place-in-Some-carried_by : goal.offset_bounds-below-place-in-Some-carried_by
offset_bounds-below-place-in-Some-carried_by c = let inside = bounds-below-place-in-Some-carried_by c in search rules

pub bounds-below-other : goal.bounds-below-other
bounds-below-other c = (c.requires.carried c.in-Some-carried_by.place c.in-Some-carried_by.other c.in-Some-carried_by.ensures).2

pub offset_bounds-below-other : goal.offset_bounds-below-other
offset_bounds-below-other c = let inside = bounds-below-other c in search rules

pub bounds-begun-other : goal.bounds-begun-other
bounds-begun-other c = (c.requires.carried c.in-Some-carried_by.place c.in-Some-carried_by.other c.in-Some-carried_by.ensures).1

pub offset_bounds-begun-other : goal.offset_bounds-begun-other
offset_bounds-begun-other c = let inside = bounds-begun-other c in search rules
