use Rattle.std.proofs.Common.{◌≡◌, Bool, true, false, FitsSigned, of_z, refl, rules, to_z, w32, arith}
use Rattle.std.specs.Bool.{OnTrue}
use Rattle.std.specs.Int.Signed.{le_z}
use Rattle.std.proofs.lemmas.Int.{ints, to_z-of_z}
use Rattle.overlay.specs.Grouping.{AreEndsUpto}
use Rattle.overlay.proofs.grouping.below.is_under.Goals as goal

pub returns-then-side-height : goal.returns-then-side-height
returns-then-side-height c = by (le_z (to_z w32 (of_z w32 c.args.side.piece.edge.y1)) (to_z w32 (of_z w32 c.min-height.result))) refl
  where
    by : (t : Bool) → le_z (to_z w32 (of_z w32 c.args.side.piece.edge.y1)) (to_z w32 (of_z w32 c.min-height.result)) ≡ t → OnTrue t (AreEndsUpto c.args.side.piece.edge c.args.other.piece.edge)
    by false e = tt
    by true e =
        let first = c.if-side-height.true in
        let a = c.min-height.ensures.self_bound in
        let b = c.min-height.ensures.other_bound in
        let fits : FitsSigned w32 c.args.side.piece.edge.y1 = search rules in
        let fits_too : FitsSigned w32 c.min-height.result = search rules in
        let second = simp to_z-of_z at e in
        record { start = (omega (arith, ints, first, a), omega (arith, ints, first, b)); end = (omega (arith, ints, second, a), omega (arith, ints, second, b)) }
