-- A line that keeps the points of parts apart.
use Rattle.std.proofs.Common.{ℤ, pos, ◌+ℤ◌, ◌-ℤ◌, ◌<ℤ◌, ◌≤ℤ◌, List, arith}
use Rattle.std.specs.List.{All}
use Rattle.std.proofs.lemmas.Int.{ints}
use Rattle.std.proofs.lemmas.List.Elements.{All-contains}
use Rattle.plane.specs.declared.edge.Edge.{Edge}
use Rattle.plane.specs.declared.point.Point.{Point}
use Rattle.monotone_chains.specs.Stretches.{AreApart}
use Rattle.plane.specs.Lines.{height_over, margin_of}
use Rattle.noding.proofs.SnapLemmas.Numbers.{abs-negative}
use Rattle.noding.proofs.SnapLemmas.Hulls.{over}

pub AreApart-line : (line : Edge) (top : ℤ) (some others : List Point) → All (λ point. height_over line point ≤ℤ top) some → All (λ point. (top +ℤ margin_of line) <ℤ height_over line point) others → AreApart some others
AreApart-line line top some others upto above = record {
  u = pos 0 -ℤ (line.y1 -ℤ line.y0);
  v = line.x1 -ℤ line.x0;
  beyond = λ p q held held_too.
      let most = All-contains (λ point. height_over line point ≤ℤ top) some p upto held in
      let least = All-contains (λ point. (top +ℤ margin_of line) <ℤ height_over line point) others q above held_too in
      let one = over line.x0 line.y0 line.x1 line.y1 p.x p.y in
      let other = over line.x0 line.y0 line.x1 line.y1 q.x q.y in
      let size = abs-negative (line.y1 -ℤ line.y0) in
      omega (arith, ints, most, least, one, other, size);
}
