-- Boxes around the ends of edges: what the edges pass lies in them.
use Rattle.std.proofs.Common.{arith, inl, inr, refl, subst, sym, ℕ, ◌<◌, ◌+◌, List, get_or, length, take}
use Rattle.std.specs.List.{All}
use Rattle.std.proofs.lemmas.Int.{clamps, ints}
use Rattle.std.proofs.lemmas.List.{take_more}
use Rattle.std.proofs.lemmas.List.Elements.{All-push}
use Rattle.plane.specs.declared.edge.Edge.{Edge}
use Rattle.plane.specs.declared.pairs.items.Bounds.{Bounds}
use Rattle.plane.specs.declared.point.Point.{Point}
use Rattle.plane.specs.Pairs.Bounds.{IsWithinBox}
use Rattle.noding.specs.Chains.{Passes}
use Rattle.noding.specs.Close.{at_point}
use Rattle.noding.specs.Columns.Rounds.{IsWithin}
use Rattle.noding.specs.Crossings.{IsEndOf}
use Rattle.noding.proofs.SnapLemmas.Along.{Passes-in_box}

-- one more point, and a box around it and the one so far
pub within-more : (points : List Point) (k : ℕ) (d : Point) (around joined : Bounds) → k < length points → All (IsWithin around) (take k points) → IsWithinBox around joined
    → IsWithinBox (at_point (get_or points k d).x (get_or points k d).y) joined → All (IsWithin joined) (take (k + 1) points)
within-more points k d around joined within so_far wider box =
    let point = get_or points k d in
    let all : All (IsWithin joined) (take k points) = λ i e below. (
    let lies = so_far i e below in record {
      left = omega (arith, ints, wider.left, lies.left);
      right = omega (arith, ints, wider.right, lies.right);
      low = omega (arith, ints, wider.low, lies.low);
      high = omega (arith, ints, wider.high, lies.high);
    }) in
    let last : IsWithin joined point = record { left = box.left; right = box.right; low = box.low; high = box.high } in
    subst (All (IsWithin joined)) (sym (take_more points k d within)) (All-push (IsWithin joined) (take k points) point all last)

-- what an edge passes lies in a box in which its ends lie
pub passed-within : (around : Bounds) (edge : Edge) (point : Point) → ((end : Point) → IsEndOf edge end → IsWithin around end) → Passes edge point.x point.y → IsWithin around point
passed-within around edge point ends passes =
    let start = ends (record { x = edge.x0; y = edge.y0 }) (inl (refl, refl)) in
    let stop = ends (record { x = edge.x1; y = edge.y1 }) (inr (refl, refl)) in
    let box = Passes-in_box edge point.x point.y passes in record {
      left = omega (arith, ints, clamps, start.left, stop.left, box.left);
      right = omega (arith, ints, clamps, start.right, stop.right, box.right);
      low = omega (arith, ints, clamps, start.low, stop.low, box.low);
      high = omega (arith, ints, clamps, start.high, stop.high, box.high);
    }
