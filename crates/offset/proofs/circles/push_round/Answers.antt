use Rattle.std.proofs.Common.{◌≡◌, ◌++◌, List, [], ℕ, ℤ, pos, unsigned_abs, All, OnOk, FitsSigned, w32, inr, ap, arith, rules, subst, sym, ◌∙◌}
use Rattle.std.proofs.lemmas.Int.{ints, to_z-of_z}
use Rattle.std.proofs.lemmas.Result.{on_ok_weaker}
use Rattle.plane.specs.declared.point.Point.{Point}
use Rattle.offset.specs.Circle.{AreCorners, IsFinest, IsWithinCircle, diamond}
use Rattle.offset.specs.Shape.{IsConvexAroundOrigin}
use Rattle.offset.proofs.DiamondLemmas.{diamond-convex, diamond-within}
use Rattle.offset.proofs.circles.push_round.Goals as goal

-- nothing stood there, so the diamond does
made : (r : ℤ) (none all : List Point) → none ≡ [] → all ≡ none ++ diamond r → all ≡ diamond r
made r none all empty is = is ∙ ap (λ (l : List Point). l ++ diamond r) empty

pub returns-clause-convex : goal.returns-clause-convex
returns-clause-convex g c =
    let r = c.args.radius in
    let from = c.requires.radius in
    let fits : FitsSigned w32 r = search rules in
    let pushed : OnOk c.push_diamond.result (c.push_diamond.new.corners.items ≡ (c.clear.new.self.items ++ diamond r)) = simp to_z-of_z at c.push_diamond.ensures in
    on_ok_weaker c.push_diamond.result
    (λ is. subst (λ (l : List Point). IsConvexAroundOrigin l) (sym (made r c.clear.new.self.items c.push_diamond.new.corners.items c.clear.ensures.items is)) (diamond-convex r (omega (arith, ints, from))))
    pushed

pub returns-clause-within : goal.returns-clause-within
returns-clause-within g c =
    let r = c.args.radius in
    let from = c.requires.radius in
    let fits : FitsSigned w32 r = search rules in
    let pushed : OnOk c.push_diamond.result (c.push_diamond.new.corners.items ≡ (c.clear.new.self.items ++ diamond r)) = simp to_z-of_z at c.push_diamond.ensures in
    on_ok_weaker c.push_diamond.result
    (λ is. subst (λ (l : List Point). All (IsWithinCircle r) l) (sym (made r c.clear.new.self.items c.push_diamond.new.corners.items c.clear.ensures.items is)) (diamond-within r (omega (arith, ints, from))))
    pushed

pub returns-clause-finest : goal.returns-clause-finest
returns-clause-finest g c =
    let r = c.args.radius in
    let from = c.requires.radius in
    let fits : FitsSigned w32 r = search rules in
    let pushed : OnOk c.push_diamond.result (c.push_diamond.new.corners.items ≡ (c.clear.new.self.items ++ diamond r)) = simp to_z-of_z at c.push_diamond.ensures in
    let reach : c.unsigned_abs-reach.result ≡ unsigned_abs r = simp to_z-of_z at c.unsigned_abs-reach.ensures.value in
    let parts = c.finest.result in
    let corners = c.push_corners.new.corners.items in
    let radius_is : pos (unsigned_abs r) ≡ r = omega (arith, ints, from) in
    on_ok_weaker c.push_diamond.result
    (λ is. (
      parts,
      subst (λ (n : ℕ). IsFinest n c.args.most parts) reach c.finest.ensures,
      inr (
        made r c.clear.new.self.items c.push_diamond.new.corners.items c.clear.ensures.items is ∙ ap diamond (sym radius_is),
        (corners, subst (λ (n : ℕ). AreCorners n parts corners) reach c.in_ok-push_corners.ensures.ok, subst (λ (l : List Point). IsConvexAroundOrigin l → ⊥) c.deref.ensures.value c.if-is_convex_around_origin.ensures),
      ),
    ))
    pushed
