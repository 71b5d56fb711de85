-- What edges count for a point, each told by its height there, and added up from one edge to the next.
use Rattle.std.proofs.Common.{Bool, List, [], arith, pos, ℤ, ◌&&◌, ◌*ℤ◌, ◌+ℤ◌, ◌-ℤ◌, ◌≡◌, ◌∷◌}
use Rattle.std.proofs.lemmas.Int.{ints}
use Rattle.std.specs.Prelude.{int_le, int_lt}
use Rattle.plane.specs.declared.edge.Edge.{Edge}
use Rattle.plane.specs.Meet.Crosses.{cross}
use Rattle.plane.specs.Meet.Edges.{RationalPoint}
use Rattle.plane.specs.SweepLine.Heights.{run}
use Rattle.plane.proofs.MeetLemmas.Identities.{identity, minus, number, plus, times}
use Rattle.plane.specs.Ends.{reversed}
use Rattle.noding.specs.Windings.{count}
use Rattle.noding.proofs.SnapLemmas.Numbers.{n_of, same_test}

-- the edge's height at the point's x, times its run and the point's n: its ends' heights, each by how far it is from the other end
abbrev pub height_at : Edge → RationalPoint → ℤ
height_at edge point = (edge.y0 *ℤ ((pos point.n *ℤ edge.x1) -ℤ point.x)) +ℤ (edge.y1 *ℤ (point.x -ℤ (pos point.n *ℤ edge.x0)))

-- at the point's x it isn't above the point
abbrev pub is_low : Edge → RationalPoint → Bool
is_low edge point = int_le (height_at edge point) (point.y *ℤ run edge)

-- where the point isn't to the right of an edge that goes rightwards
pub is_low-left : (edge : Edge) (point : RationalPoint) → int_le (pos 0) (cross (edge.x1 -ℤ edge.x0) (edge.y1 -ℤ edge.y0) (point.x -ℤ (pos point.n *ℤ edge.x0)) (point.y -ℤ (pos point.n *ℤ edge.y0))) ≡ is_low edge point
is_low-left edge point =
    let width = minus (number edge.x1) (number edge.x0) in
    let height = minus (number edge.y1) (number edge.y0) in
    let right = minus (number point.x) (times (n_of point.n) (number edge.x0)) in
    let up = minus (number point.y) (times (n_of point.n) (number edge.y0)) in
    let left = minus (times (n_of point.n) (number edge.x1)) (number point.x) in
    let same = identity (minus (times width up) (times height right)) (minus (times (number point.y) width) (plus (times (number edge.y0) left) (times (number edge.y1) right))) (omega arith) in
    same_test (pos 0) (cross (edge.x1 -ℤ edge.x0) (edge.y1 -ℤ edge.y0) (point.x -ℤ (pos point.n *ℤ edge.x0)) (point.y -ℤ (pos point.n *ℤ edge.y0))) (height_at edge point) (point.y *ℤ run edge)
    (λ upto above. omega (arith, ints, same, upto, above))
    (λ upto above. omega (arith, ints, same, upto, above))

-- it goes rightwards and covers the point's x
abbrev pub covers : Edge → RationalPoint → Bool
covers edge point = int_le (pos point.n *ℤ edge.x0) point.x && int_lt point.x (pos point.n *ℤ edge.x1)

-- and it isn't above the point
abbrev pub is_counted : Edge → RationalPoint → Bool
is_counted edge point = covers edge point && is_low edge point

-- what it counts where it goes rightwards
abbrev pub counted : Edge → RationalPoint → ℤ
counted edge point = count (is_counted edge point)

-- 1, -1 or 0: what it counts, wherever it goes
abbrev pub under : Edge → RationalPoint → ℤ
under edge point = counted edge point -ℤ counted (reversed edge) point

-- what edges count, one after another
abbrev pub added : List Edge → RationalPoint → ℤ
added [] point = pos 0
added (edge ∷ edges) point = under edge point +ℤ added edges point
