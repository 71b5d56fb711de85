use Rattle.std.proofs.Common.{◌∷◌, [], ℕ, List, pos, get_or, length, length-append, ap, arith, subst, sym}
use Rattle.plane.specs.declared.point.Point.{Point}
use Rattle.offset.specs.Circle.{IsCorner, IsWithinCircle}
use Rattle.offset.proofs.CircleLemmas.{corners-more}
use Rattle.offset.proofs.circles.push_corners.Goals as goal

pub loop-index-preserved : goal.loop-index-preserved
loop-index-preserved g c =
    let items = c.in_ok-push.ensures.items in
    let size = c.loop-index.invariant.count in
    let P : ℕ → Point → Type 0 = λ k p. IsCorner c.args.radius c.args.parts k p × IsWithinCircle (pos c.args.radius) p in
    record {
      count = (let long = ap (λ (l : List Point). length l) items in let one = length-append c.loop-index.corners.items (c.corner_at.result ∷ []) in omega (arith, size, long, one));
      each = λ k d within. subst (λ (l : List Point). P k (get_or l k d)) (sym items)
          (corners-more P c.loop-index.corners.items c.corner_at.result c.loop-index.index size c.loop-index.invariant.each (c.corner_at.ensures.corner, c.corner_at.ensures.within) k d within);
    }

pub returns-clause-ok : goal.returns-clause-ok
returns-clause-ok g c =
    let size = c.loop-index.invariant.count in
    let past = c.loop-index-test.false in
    record {
      count = omega (arith, size, past);
      each = λ k d within. (c.loop-index.invariant.each k d (omega (arith, within, past))).0;
    }
