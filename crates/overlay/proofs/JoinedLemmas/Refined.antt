-- Edges that have all points of others, and their ends: what is hot or moves edges among these does so among them.
use Rattle.std.proofs.Common.{◌≡◌, ◌⊎◌, inl, inr, ℕ, zero, suc, ◌*◌, ◌<◌, ℤ, pos, ◌*ℤ◌, ◌-ℤ◌, List, ap, arith, refl, ◌∙◌}
use Rattle.std.proofs.Math.Nat.{mul-pos}
use Rattle.std.proofs.lemmas.Int.{ints}
use Rattle.std.specs.List.{Contains}
use Rattle.plane.specs.declared.edge.Edge.{Edge}
use Rattle.plane.specs.Ends.{reversed}
use Rattle.plane.specs.Lines.{IsAlongAxis}
use Rattle.plane.specs.Meet.Edges.{IsOf, RationalPoint}
use Rattle.plane.specs.Meet.Kinds.{HasPoint, IsAt}
use Rattle.plane.proofs.MeetLemmas.Identities.{identity, number, times, unscaled}
use Rattle.noding.specs.Chains.{AreNotParallel, IsEnd, IsHot, Passes}
use Rattle.noding.specs.Local.{IsMoved, MovesInRound}
use Rattle.noding.specs.Rounding.{RoundsTo}
use Rattle.noding.proofs.SnapLemmas.Local.{IsOf-finer}
use Rattle.noding.proofs.SnapLemmas.Numbers.{n_of}
use Rattle.noding.proofs.SnapLemmas.Reversed.{IsOf-reversed, Passes-reversed}
use Rattle.noding.proofs.SnapLemmas.Rounding.{RoundsOn-scaled}

-- ---- a point over a denominator that is k times as great

abbrev pub finer : (k : ℕ) → 0 < k → RationalPoint → RationalPoint
finer k some point = record { n = k * point.n; x = pos k *ℤ point.x; y = pos k *ℤ point.y; positive = mul-pos some point.positive }

pub finer-of : (edge : Edge) (k : ℕ) (some : 0 < k) (point : RationalPoint) → IsOf edge point → IsOf edge (finer k some point)
finer-of edge k some point of = IsOf-finer edge k point (finer k some point) (record { n = refl; x = refl; y = refl }) of

pub finer-rounds : (k : ℕ) (some : 0 < k) (point : RationalPoint) (x y : ℤ) → RoundsTo point x y → RoundsTo (finer k some point) x y
finer-rounds k some point x y rounds = record { along_x = RoundsOn-scaled k point.n point.x x some rounds.along_x; along_y = RoundsOn-scaled k point.n point.y y some rounds.along_y }

scaled : (k n : ℕ) (p c : ℤ) → p ≡ (pos n *ℤ c) → (pos k *ℤ p) ≡ (pos (k * n) *ℤ c)
scaled k n p c is = ap (λ z. pos k *ℤ z) is ∙ identity (times (n_of k) (times (n_of n) (number c))) (times (n_of (k * n)) (number c)) (omega arith)

unscaled_by : (k n : ℕ) (p c : ℤ) → 0 < k → (pos k *ℤ p) ≡ (pos (k * n) *ℤ c) → p ≡ (pos n *ℤ c)
unscaled_by k n p c some is =
    let same : (pos k *ℤ p) ≡ (pos k *ℤ (pos n *ℤ c)) = is ∙ identity (times (n_of (k * n)) (number c)) (times (n_of k) (times (n_of n) (number c))) (omega arith) in
    let upto = unscaled k p (pos n *ℤ c) some (omega (arith, ints, same)) in
    let back = unscaled k (pos n *ℤ c) p some (omega (arith, ints, same)) in
    omega (arith, ints, upto, back)

pub finer-at : (k : ℕ) (some : 0 < k) (point : RationalPoint) (x y : ℤ) → IsAt point x y → IsAt (finer k some point) x y
finer-at k some point x y at = record { x_is = scaled k point.n point.x x at.x_is; y_is = scaled k point.n point.y y at.y_is }

pub coarser-at : (k : ℕ) (some : 0 < k) (point : RationalPoint) (x y : ℤ) → IsAt (finer k some point) x y → IsAt point x y
coarser-at k some point x y at = record { x_is = unscaled_by k point.n point.x x some at.x_is; y_is = unscaled_by k point.n point.y y some at.y_is }

-- ---- edges that have the points of others

-- One of the edges has the point of the edge, over a denominator that is fine enough, and what isn't parallel to the edge isn't
-- to it.
pub record PartAt (others : List Edge) (edge : Edge) (point : RationalPoint) : Type 0 where
  pub part : Edge
  pub among : Contains others part
  pub k : ℕ
  pub some : 0 < k
  pub of : IsOf part (finer k some point)
  pub apart : (other : Edge) → AreNotParallel edge other → AreNotParallel part other

-- The others have the edges' ends and points, and each edge that isn't along an axis, one way or the other.
pub record Refine (edges others : List Edge) : Type 0 where
  pub ends : (edge : Edge) (x y : ℤ) → Contains edges edge → IsEnd edge x y → (other : Edge) × Contains others other × IsEnd other x y
  pub parts : (edge : Edge) (point : RationalPoint) → Contains edges edge → IsOf edge point → PartAt others edge point
  pub slanted : (edge : Edge) → Contains edges edge → ¬ (IsAlongAxis edge) → Contains others edge ⊎ Contains others (reversed edge)

parallel-exchanged : (one other : Edge) → AreNotParallel one other → AreNotParallel other one
parallel-exchanged one other apart none = apart (turned (one.x1 -ℤ one.x0) (one.y1 -ℤ one.y0) (other.x1 -ℤ other.x0) (other.y1 -ℤ other.y0) none)
  where
    turned : (a b c d : ℤ) → ((c *ℤ b) -ℤ (d *ℤ a)) ≡ pos 0 → ((a *ℤ d) -ℤ (b *ℤ c)) ≡ pos 0
    turned a b c d is = omega (arith, ints, is)

pub HasPoint-reversed : (edge : Edge) (x y : ℤ) → HasPoint edge x y → HasPoint (reversed edge) x y
HasPoint-reversed edge x y (point, of, at) = (point, IsOf-reversed edge point of, at)

module _ (edges others : List Edge) (refine : Refine edges others)
    (on_axis : (edge : Edge) (x y : ℤ) → IsAlongAxis edge → Passes edge x y → HasPoint edge x y)
    (axis_or_not : (edge : Edge) → IsAlongAxis edge ⊎ (¬ (IsAlongAxis edge))) where
  -- Where two of the edges that aren't parallel have a point, two of the others have it that aren't either.
  record MeetToo (point : RationalPoint) : Type 0 where
    one : Edge
    other : Edge
    first : Contains others one
    second : Contains others other
    k : ℕ
    some : 0 < k
    j : ℕ
    more : 0 < j
    of_one : IsOf one (finer j more (finer k some point))
    of_other : IsOf other (finer j more (finer k some point))
    apart : AreNotParallel one other

  meet-too : (one other : Edge) (point : RationalPoint) → Contains edges one → Contains edges other → AreNotParallel one other → IsOf one point → IsOf other point → MeetToo point
  meet-too one other point first second apart of_one of_other =
      let here = refine.parts one point first of_one in
      let there = refine.parts other (finer here.k here.some point) second (finer-of other here.k here.some point of_other) in record {
        one = here.part;
        other = there.part;
        first = here.among;
        second = there.among;
        k = here.k;
        some = here.some;
        j = there.k;
        more = there.some;
        of_one = finer-of here.part there.k there.some (finer here.k here.some point) here.of;
        of_other = there.of;
        apart = parallel-exchanged there.part here.part (there.apart here.part (parallel-exchanged here.part other (here.apart other apart)));
      }

  pub hot-too : (x y : ℤ) → IsHot edges x y → IsHot others x y
  hot-too x y (inl (edge, among, end)) = inl (refine.ends edge x y among end)
  hot-too x y (inr (one, other, first, second, (apart, (point, of_one, of_other, rounds)))) =
      let too = meet-too one other point first second apart of_one of_other in
      inr (too.one, too.other, too.first, too.second, (too.apart, (finer too.j too.more (finer too.k too.some point), too.of_one, too.of_other, finer-rounds too.j too.more (finer too.k too.some point) x y (finer-rounds too.k too.some point x y rounds))))

  moves-too : (round : ℕ) (x y : ℤ) → MovesInRound edges round x y → MovesInRound others round x y
  moves-too zero x y (one, other, first, second, (apart, (point, of_one, of_other, rounds, beside))) =
      let too = meet-too one other point first second apart of_one of_other in (
        too.one,
        too.other,
        too.first,
        too.second,
        (
          too.apart,
          (
            finer too.j too.more (finer too.k too.some point),
            too.of_one,
            too.of_other,
            finer-rounds too.j too.more (finer too.k too.some point) x y (finer-rounds too.k too.some point x y rounds),
            λ at. beside (coarser-at too.k too.some point x y (coarser-at too.j too.more (finer too.k too.some point) x y at)),
          ),
        ),
      )
  moves-too (suc round) x y (hot, (edge, among, passes, (a, b, moves, passes_there, beside))) =
      elim (axis_or_not edge) [
        | inl axis ↦ absurd (beside (on_axis edge a b axis passes_there))
        | inr slanted ↦ elim (refine.slanted edge among slanted) [
          | inl here ↦ (hot-too x y hot, (edge, here, passes, (a, b, moves-too round a b moves, passes_there, beside)))
          | inr here ↦ (
            hot-too x y hot,
            (
              reversed edge,
              here,
              Passes-reversed edge x y passes,
              (a, b, moves-too round a b moves, Passes-reversed edge a b passes_there, λ on. beside (HasPoint-reversed (reversed edge) a b on)),
            ),
          )
        ]
      ]

  pub moved-too : (edge : Edge) → IsMoved edges edge → IsMoved others edge
  moved-too edge (x, y, (round, moves), passes, beside) = (x, y, (round, moves-too round x y moves), passes, beside)
