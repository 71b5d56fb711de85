use Rattle.std.proofs.Common.{◌*◌, ◌^◌, ◌≤◌, length, drop}
use Rattle.plane.specs.Meet.Crosses.{IsWithin}
use Rattle.overlay.specs.Rings.{AreEnds}
use Rattle.uses.proofs.parcels.twice_area_of.Given as goal

-- the ends left are right, and the sum so far is at most that of so many points
abbrev pub invariant-loop-end : goal.invariant-loop-end
invariant-loop-end l = record {
  ends : AreEnds l.start (drop l.end-index l.polygons.ring_ends.items) (length l.polygons.points.items);
  start : l.start ≤ length l.polygons.points.items;
  sum : IsWithin (l.start * 2 ^ 63) l.sum;
}
