-- What a position is told by is told once.
use Rattle.std.proofs.Common.{◌≡◌, ◌∙◌, ℤ, ◌+ℤ◌, Result, Ok, Err, IfOk, IfErr, arith, ap}
use Rattle.std.proofs.lemmas.Int.{ints}
use Rattle.std.proofs.lemmas.Nat.{pow_pos}
use Rattle.plane.specs.declared.point.Point.{Point}
use Rattle.grid.specs.declared.position.Position.{Position}
use Rattle.grid.specs.declared.units.Grid.{Grid}
use Rattle.grid.specs.declared.units.CoordinateFault.{CoordinateFault}
use Rattle.grid.specs.declared.units.CoordinateFault.TheVariants.{NotFinite, OffGrid}
use Rattle.grid.specs.Doubles.{in_leasts}
use Rattle.grid.specs.Grid.{IsTold, IsFaultOf, IsNearestPoint, IsNearest, IsPoint, IsPositionOf, IsFinitePosition, unit_of, scale_of}
use Rattle.grid.proofs.NearestLemmas.{IsNearest-unique, IsNearest-exact}
use borrow.Author.Differences.{same_in}

less_origin : (a b o : ℤ) → a +ℤ o ≡ b +ℤ o → a ≡ b
less_origin a b o same = same_in a b (omega (arith, ints, same))

same_axis : (grid : Grid) (leasts a b o : ℤ) → IsNearest (unit_of grid) leasts (a +ℤ o) → IsNearest (unit_of grid) leasts (b +ℤ o) → a ≡ b
same_axis grid leasts a b o first second =
    less_origin a b o (IsNearest-unique (unit_of grid) leasts (a +ℤ o) (b +ℤ o) (pow_pos (scale_of grid)) first second)

IsNearestPoint-unique : (grid : Grid) (position : Position) (one other : Point) → IsNearestPoint grid position one → IsNearestPoint grid position other → one ≡ other
IsNearestPoint-unique grid position one other first second =
    let x : one.x ≡ other.x = same_axis grid (in_leasts position.x) one.x other.x grid.x first.x second.x in
    let y : one.y ≡ other.y = same_axis grid (in_leasts position.y) one.y other.y grid.y first.y second.y in
    ap (λ (z : ℤ). let p : Point = record { x = z; y = one.y } in p) x ∙ ap (λ (z : ℤ). let p : Point = record { x = other.x; y = z } in p) y

not_at_fault : (grid : Grid) (position : Position) (fault : CoordinateFault) (point : Point) → IsPoint point → IsTold grid position point → IsFaultOf grid position fault → ⊥
not_at_fault grid position NotFinite point fits told fault = fault told.finite
not_at_fault grid position OffGrid point fits told fault = fault.1 point fits told.nearest

pub told_once : (grid : Grid) (position : Position) (result : Result Point CoordinateFault) → IfOk result (λ point. IsTold grid position point) → IfErr result (λ fault. IsFaultOf grid position fault)
    → (point : Point) → IsPoint point → IsTold grid position point → result ≡ Ok point
told_once grid position (Ok found) ok err point fits told = ap (λ (p : Point). let r : Result Point CoordinateFault = Ok p in r) (IsNearestPoint-unique grid position found point ok.nearest told.nearest)
told_once grid position (Err fault) ok err point fits told = absurd (not_at_fault grid position fault point fits told err)

pub IsTold-exact : (grid : Grid) (position : Position) (point : Point) → IsFinitePosition position → IsPositionOf grid point position → IsTold grid position point
IsTold-exact grid position point finite is =
    record {
      finite = finite;
      nearest = record {
        x = IsNearest-exact (unit_of grid) (in_leasts position.x) (point.x +ℤ grid.x) (pow_pos (scale_of grid)) is.x;
        y = IsNearest-exact (unit_of grid) (in_leasts position.y) (point.y +ℤ grid.y) (pow_pos (scale_of grid)) is.y;
      };
    }
