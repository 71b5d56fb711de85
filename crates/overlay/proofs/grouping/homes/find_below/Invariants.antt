use Rattle.overlay.specs.Rings.{rings_of}
use Rattle.overlay.proofs.grouping.homes.find_below.Given as goal

-- all of them
abbrev pub ghost-walk_rings : goal.ghost-walk_rings
ghost-walk_rings g a = rings_of a.points.now 0 a.ends.now
