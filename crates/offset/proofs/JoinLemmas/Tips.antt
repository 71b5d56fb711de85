-- Which corners have mitres.
use Rattle.std.proofs.Common.{◌≡◌, ◌^◌, ℕ, ℤ, pos, ◌-ℤ◌, ◌*ℤ◌, ◌≤ℤ◌, ◌<ℤ◌, ◌&&◌, Bool, true, false, cond, List, [], ap, ap₂, sym, ◌∙◌, arith}
use Rattle.std.specs.List.{list_all}
use Rattle.std.specs.Prelude.{int_lt}
use Rattle.std.proofs.lemmas.Bool.{and_left, and_parts}
use Rattle.std.proofs.lemmas.Int.{ints}
use Rattle.plane.specs.declared.edge.Edge.{Edge}
use Rattle.plane.specs.declared.point.Point.{Point}
use Rattle.plane.specs.Ends.{edge_between, end_of}
use Rattle.plane.specs.Meet.Crosses.{IsWithin, cross}
use Rattle.offset.specs.Joins.{has_tip, is_near, is_near_on, is_within_limit, mitre, mitre_by, nearest, point_at, way_to_tip}
use Rattle.offset.specs.Raw.{furthest, moved}
use Rattle.offset.specs.Shape.{sides, turn}
use Rattle.offset.proofs.RawLemmas.{fails-lt, passes-lt}

-- What is told of the way to the tip, axis by axis.
pub way-is : (edge next : Edge) (from to : Point) (x y u v : ℤ) → x ≡ nearest (turn (edge_between from to) next *ℤ u) (turn edge next) → y ≡ nearest (turn (edge_between from to) next *ℤ v) (turn edge next)
    → u ≡ (edge.x1 -ℤ edge.x0) → v ≡ (edge.y1 -ℤ edge.y0) → point_at x y ≡ way_to_tip from to edge next
way-is edge next from to x y u v along_x along_y is_u is_v =
    ap₂ point_at
    (along_x ∙ ap (λ (w : ℤ). nearest (turn (edge_between from to) next *ℤ w) (turn edge next)) is_u)
    (along_y ∙ ap (λ (w : ℤ). nearest (turn (edge_between from to) next *ℤ w) (turn edge next)) is_v)

-- What is left to test of a tip, once its way is found near or not.
pub tip-tested : (limit : ℕ) (corners : List Point) (from to : Point) (x y : ℤ) (s t : Bool) → is_near_on x ≡ s → is_near_on y ≡ t
    → has_tip limit corners from to (point_at x y) ≡ ((s && t) && (int_lt (cross (to.x -ℤ from.x) (to.y -ℤ from.y) x y) (pos 0) && list_all (is_within_limit limit (moved from (point_at x y))) (sides corners)))
tip-tested limit corners from to x y s t near_x near_y =
    ap₂ (λ (u v : Bool). (u && v) && (int_lt (cross (to.x -ℤ from.x) (to.y -ℤ from.y) x y) (pos 0) && list_all (is_within_limit limit (moved from (point_at x y))) (sides corners))) near_x near_y

-- Where there is a tip, it is near.
pub tip-near : (limit : ℕ) (corners : List Point) (from to : Point) (x y : ℤ) → has_tip limit corners from to (point_at x y) ≡ true → IsWithin (2 ^ 62) x × IsWithin (2 ^ 62) y
tip-near limit corners from to x y has =
    let (near, _) = and_parts (is_near (point_at x y)) (int_lt (cross (to.x -ℤ from.x) (to.y -ℤ from.y) x y) (pos 0) && list_all (is_within_limit limit (moved from (point_at x y))) (sides corners)) has in
    let (near_x, near_y) = and_parts (is_near_on x) (is_near_on y) near in
    (within x near_x, within y near_y)
  where
    within : (z : ℤ) → is_near_on z ≡ true → IsWithin (2 ^ 62) z
    within z is =
        let (above, below) = and_parts (int_lt (pos 0 -ℤ pos (2 ^ 62)) z) (int_lt z (pos (2 ^ 62))) is in
        record { from = omega (arith, ints, above); upto = omega (arith, ints, below) }

-- Edges that don't turn left have no mitre.
pub mitre-unturned : (limit : ℕ) (corners : List Point) (edge next : Edge) → turn edge next ≤ℤ pos 0 → mitre limit corners edge next ≡ []
mitre-unturned limit corners edge next right =
    let way = way_to_tip (furthest corners edge) (furthest corners next) edge next in
    ap (λ (t : Bool). cond t (mitre_by (end_of edge) (furthest corners edge) (furthest corners next) way) [])
    (and_left (int_lt (pos 0) (turn edge next)) (has_tip limit corners (furthest corners edge) (furthest corners next) way) (fails-lt (pos 0) (turn edge next) right))

-- Others have one where there is a tip.
mitre-turned : (limit : ℕ) (corners : List Point) (edge next : Edge) (from to way : Point) (t : Bool) → from ≡ furthest corners edge → to ≡ furthest corners next → way ≡ way_to_tip from to edge next → pos 0 <ℤ turn edge next
    → has_tip limit corners from to way ≡ t → mitre limit corners edge next ≡ cond t (mitre_by (end_of edge) from to way) []
mitre-turned limit corners edge next from to way t is_from is_to is_way left has =
    ap (λ (f : Point). of f (furthest corners next) (way_to_tip f (furthest corners next) edge next)) (sym is_from)
    ∙ ap (λ (g : Point). of from g (way_to_tip from g edge next)) (sym is_to)
    ∙ ap (λ (w : Point). of from to w) (sym is_way)
    ∙ ap (λ (u : Bool). cond u (mitre_by (end_of edge) from to way) []) (ap₂ (λ (s u : Bool). s && u) (passes-lt (pos 0) (turn edge next) left) has)
  where
    of : Point → Point → Point → List Edge
    of f g w = cond (int_lt (pos 0) (turn edge next) && has_tip limit corners f g w) (mitre_by (end_of edge) f g w) []

-- So it is, too, by what code tells of the corners and of the way.
pub mitre-told : (limit : ℕ) (corners : List Point) (edge next : Edge) (from to at way : Point) (t : Bool) → from ≡ furthest corners edge → to ≡ furthest corners next → at ≡ end_of edge → way ≡ way_to_tip from to edge next → pos 0 <ℤ turn edge next
    → has_tip limit corners from to way ≡ t → cond t (mitre_by at from to way) [] ≡ mitre limit corners edge next
mitre-told limit corners edge next from to at way t is_from is_to is_at is_way left has =
    ap (λ (p : Point). cond t (mitre_by p from to way) []) is_at ∙ sym (mitre-turned limit corners edge next from to way t is_from is_to is_way left has)
