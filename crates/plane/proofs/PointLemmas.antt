-- Whole points, and their order.
use Rattle.std.proofs.Common.{◌≡◌, ℤ, ◌<ℤ◌, true, Ordering, Less, Equal, Greater, refl}
use Rattle.std.specs.Ordering.{MatchOrdering, int_cmp, ordering_then, eq_by_cmp, is_eq}
use Rattle.std.proofs.lemmas.Cmp.{int_ranked}
use Rattle.plane.specs.contracts.point.PointOrd.TheImpl.{ghosts as point_order}
use Rattle.plane.specs.declared.point.Point.{Point}

abbrev pub whole_point : ℤ → ℤ → Point
whole_point x y = record { x = x; y = y }

-- points that compare Equal are one
same_y : (x x' y y' : ℤ) (o : Ordering) → x ≡ x' → MatchOrdering o (y <ℤ y') (y ≡ y') (y' <ℤ y) → is_eq o ≡ true → whole_point x y ≡ whole_point x' y'
same_y x x' y y' Less same said is = cc
same_y x x' y y' Equal same said is = cc
same_y x x' y y' Greater same said is = cc

same_x : (x x' y y' : ℤ) (o : Ordering) → MatchOrdering o (x <ℤ x') (x ≡ x') (x' <ℤ x) → is_eq (ordering_then o (int_cmp y y')) ≡ true → whole_point x y ≡ whole_point x' y'
same_x x x' y y' Less said is = cc
same_x x x' y y' Equal said is = same_y x x' y y' (int_cmp y y') said (int_ranked y y' (int_cmp y y') refl) is
same_x x x' y y' Greater said is = cc

pub point-same : (a b : Point) → eq_by_cmp point_order.cmp a b ≡ true → a ≡ b
point-same a b is = same_x a.x b.x a.y b.y (int_cmp a.x b.x) (int_ranked a.x b.x (int_cmp a.x b.x) refl) is
