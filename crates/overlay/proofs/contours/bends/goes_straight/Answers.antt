use Rattle.std.proofs.Common.{◌≡◌, ℤ, pos, ◌-ℤ◌, ◌<ℤ◌, Bool, true, false, refl, rules, sym, ◌∙◌, subst}
use Rattle.std.specs.Bool.{MatchBool}
use Rattle.plane.specs.Meet.Crosses.{cross}
use Rattle.plane.specs.declared.point.Point.{Point}
use Rattle.overlay.specs.Contours.Outlines.{IsStraight}
use Rattle.overlay.specs.Contours.Turns.{dot}
use Rattle.overlay.proofs.contours.bends.goes_straight.Goals as goal

-- where two vectors are parallel it goes straight on exactly if they go less than a quarter turn apart
straight_tested : (before at after : Point) (ux uy vx vy : ℤ) → ux ≡ at.x -ℤ before.x → uy ≡ at.y -ℤ before.y → vx ≡ after.x -ℤ at.x → vy ≡ after.y -ℤ at.y → cross ux uy vx vy ≡ pos 0
    → (r : Bool) → MatchBool r (pos 0 <ℤ dot ux uy vx vy) (¬ (pos 0 <ℤ dot ux uy vx vy)) → MatchBool r (IsStraight before at after) (¬ (IsStraight before at after))
straight_tested before at after ux uy vx vy ux_is uy_is vx_is vy_is along r ahead =
    go r (subst (λ (z : ℤ). MatchBool r (pos 0 <ℤ z) (¬ (pos 0 <ℤ z))) dot_is ahead)
  where
    cross_is : cross ux uy vx vy ≡ cross (at.x -ℤ before.x) (at.y -ℤ before.y) (after.x -ℤ at.x) (after.y -ℤ at.y)
    cross_is = rw (ux_is, uy_is, vx_is, vy_is) refl

    dot_is : dot ux uy vx vy ≡ dot (at.x -ℤ before.x) (at.y -ℤ before.y) (after.x -ℤ at.x) (after.y -ℤ at.y)
    dot_is = rw (ux_is, uy_is, vx_is, vy_is) refl

    go : (r : Bool) → (let z = dot (at.x -ℤ before.x) (at.y -ℤ before.y) (after.x -ℤ at.x) (after.y -ℤ at.y) in MatchBool r (pos 0 <ℤ z) (¬ (pos 0 <ℤ z))) → MatchBool r (IsStraight before at after) (¬ (IsStraight before at after))
    go true above = record { along = sym cross_is ∙ along; ahead = above }
    go false none = λ is. none is.ahead

pub returns : goal.returns
returns c =
    let along : cross c.vector_between-one.result.x c.vector_between-one.result.y c.vector_between-other.result.x c.vector_between-other.result.y ≡ pos 0 = search rules in
    straight_tested c.args.before c.args.at c.args.after c.vector_between-one.result.x c.vector_between-one.result.y c.vector_between-other.result.x c.vector_between-other.result.y
    c.vector_between-one.ensures.x c.vector_between-one.ensures.y c.vector_between-other.ensures.x c.vector_between-other.ensures.y along c.is_ahead.result c.is_ahead.ensures
