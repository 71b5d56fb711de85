-- Where one edge ends and another begins they don't go back along each other.
use Rattle.std.proofs.Common.{◌≡◌, ◌≢◌, ◌⊎◌, inl, inr, ◌+◌, ◌<◌, ℤ, pos, negsuc, ◌+ℤ◌, ◌-ℤ◌, ◌*ℤ◌, ◌<ℤ◌, ◌≤ℤ◌, List, refl, ap, ap₂, sym, ◌∙◌, arith}
use Rattle.std.specs.List.{All, Contains}
use Rattle.std.proofs.Math.Nat.{mul-pos}
use Rattle.std.proofs.lemmas.Int.{by_lt_z, ints}
use Rattle.std.proofs.lemmas.List.Elements.{All-contains}
use Rattle.plane.specs.declared.edge.Edge.{Edge}
use Rattle.plane.specs.declared.point.Point.{Point}
use Rattle.plane.specs.Ends.{end_of, start_of}
use Rattle.plane.specs.Meet.Edges.{IsAtShare, RationalPoint}
use Rattle.plane.proofs.MeetLemmas.Along.{goes}
use Rattle.plane.proofs.MeetLemmas.Identities.{identity, minus, number, plus, times}
use Rattle.noding.specs.Meeting.{MeetAtEnds}
use Rattle.noding.proofs.SnapLemmas.Numbers.{Natural, n_of, natural}
use Rattle.overlay.specs.Fill.Filled.{AreDistinct, AreNoded}
use Rattle.overlay.proofs.GroupingLemmas.Outlined.{same-one}
use Rattle.overlay.proofs.UncrossedLemmas.Finer.{times-same}
use Rattle.offset.proofs.CoverLemmas.Directions.{dot}
use Rattle.offset.proofs.CoverLemmas.Vectors.{crossed, way}
use Rattle.offset.proofs.SideLemmas.Close.{between-no_end}

-- a square isn't below 0, and is above where the number isn't 0
square : (z : ℤ) → pos 0 ≤ℤ (z *ℤ z)
square (pos k) = omega (arith, ints)
square (negsuc k) = omega (arith, ints)

some_square : (z : ℤ) → z ≢ pos 0 → pos 0 <ℤ (z *ℤ z)
some_square (pos k) some = let positive : 0 < k = omega (arith, ints, some) in let more = mul-pos positive positive in omega (arith, ints, more)
some_square (negsuc k) some = omega (arith, ints)

-- an edge that is no point is of some length
some_length : (edge : Edge) → start_of edge ≢ end_of edge → pos 0 <ℤ dot (way edge) (way edge)
some_length edge proper = by (goes edge)
  where
    by : ((edge.x0 ≢ edge.x1) ⊎ (edge.y0 ≢ edge.y1)) ⊎ ((edge.x0 ≡ edge.x1) × (edge.y0 ≡ edge.y1)) → pos 0 <ℤ dot (way edge) (way edge)
    by (inr (same_x, same_y)) = absurd (proper (ap₂ (λ (x y : ℤ). (let p : Point = record { x = x; y = y } in p)) same_x same_y))
    by (inl (inl apart)) =
        let more = some_square (edge.x1 -ℤ edge.x0) (λ none. apart (let is : edge.x0 ≡ edge.x1 = omega (arith, ints, none) in is)) in
        let above = square (edge.y1 -ℤ edge.y0) in
        omega (arith, ints, more, above)
    by (inl (inr apart)) =
        let more = some_square (edge.y1 -ℤ edge.y0) (λ none. apart (let is : edge.y0 ≡ edge.y1 = omega (arith, ints, none) in is)) in
        let above = square (edge.x1 -ℤ edge.x0) in
        omega (arith, ints, more, above)

-- a parallel vector, by the other one
along-x : (a b : Point) → crossed a b ≡ pos 0 → (dot a a *ℤ b.x) ≡ (dot a b *ℤ a.x)
along-x a b none =
    let split = identity (times (plus (times (number a.x) (number a.x)) (times (number a.y) (number a.y))) (number b.x))
    (minus (times (plus (times (number a.x) (number b.x)) (times (number a.y) (number b.y))) (number a.x)) (times (number a.y) (minus (times (number a.x) (number b.y)) (times (number a.y) (number b.x))))) (omega arith) in
    let gone = ap (λ (z : ℤ). a.y *ℤ z) none ∙ identity (times (number a.y) (n_of 0)) (n_of 0) (omega arith) in
    omega (arith, ints, split, gone)

along-y : (a b : Point) → crossed a b ≡ pos 0 → (dot a a *ℤ b.y) ≡ (dot a b *ℤ a.y)
along-y a b none =
    let split = identity (times (plus (times (number a.x) (number a.x)) (times (number a.y) (number a.y))) (number b.y))
    (plus (times (plus (times (number a.x) (number b.x)) (times (number a.y) (number b.y))) (number a.y)) (times (number a.x) (minus (times (number a.x) (number b.y)) (times (number a.y) (number b.x))))) (omega arith) in
    let gone = ap (λ (z : ℤ). a.x *ℤ z) none ∙ identity (times (number a.x) (n_of 0)) (n_of 0) (omega arith) in
    omega (arith, ints, split, gone)

-- Of edges that meet only at common ends, no two with the same ends and none a point, one that begins where another ends, along
-- one line, goes on.
pub goes-on : (edges : List Edge) → AreNoded edges → AreDistinct edges → All (λ edge. start_of edge ≢ end_of edge) edges
    → (edge next : Edge) → Contains edges edge → Contains edges next → end_of edge ≡ start_of next → crossed (way edge) (way next) ≡ pos 0 → pos 0 <ℤ dot (way edge) (way next)
goes-on edges noded distinct two_ends edge next among next_among joined none =
    by_lt_z (pos 0) (dot d e) (λ ahead. ahead)
    (λ not_ahead. by_lt_z (dot d e) (pos 0) (λ behind. absurd (back behind)) (λ not_behind. absurd (nowhere (omega (arith, ints, not_ahead, not_behind)))))
  where
    d : Point
    d = way edge

    e : Point
    e = way next

    proper : start_of edge ≢ end_of edge
    proper = All-contains (λ (f : Edge). start_of f ≢ end_of f) edges edge two_ends among

    next_proper : start_of next ≢ end_of next
    next_proper = All-contains (λ (f : Edge). start_of f ≢ end_of f) edges next two_ends next_among

    length : Natural (dot d d)
    length = natural (dot d d) (let some = some_length edge proper in omega (arith, ints, some))

    some : 0 < length.k
    some = let positive = some_length edge proper in let is = length.is in omega (arith, ints, positive, is)

    -- the next one isn't a point
    nowhere : ¬ (dot d e ≡ pos 0)
    nowhere level = next_proper (ap₂ (λ (x y : ℤ). (let p : Point = record { x = x; y = y } in p)) (same next.x0 next.x1 (zero e.x d.x (along-x d e none))) (same next.y0 next.y1 (zero e.y d.y (along-y d e none))))
      where
        same : (a b : ℤ) → (b -ℤ a) ≡ pos 0 → a ≡ b
        same a b is = omega (arith, ints, is)

        zero : (z w : ℤ) → (dot d d *ℤ z) ≡ (dot d e *ℤ w) → z ≡ pos 0
        zero z w is =
            times-same length.k z (pos 0) some
            (ap (λ (n : ℤ). n *ℤ z) (sym length.is) ∙ is ∙ ap (λ (n : ℤ). n *ℤ w) level ∙ identity (times (n_of 0) (number w)) (times (n_of length.k) (n_of 0)) (omega arith))

    back : ¬ (dot d e <ℤ pos 0)
    back behind = by (noded edge next point among next_among (length.k, first) (length.k, second))
      where
        less : Natural (pos 0 -ℤ dot d e)
        less = natural (pos 0 -ℤ dot d e) (omega (arith, ints, behind))

        some_less : 0 < less.k
        some_less = let is = less.is in omega (arith, ints, behind, is)

        -- the common point
        point : RationalPoint
        point = record {
          n = less.k + length.k;
          x = (pos (less.k + length.k) *ℤ edge.x0) +ℤ (pos length.k *ℤ (edge.x1 -ℤ edge.x0));
          y = (pos (less.k + length.k) *ℤ edge.y0) +ℤ (pos length.k *ℤ (edge.y1 -ℤ edge.y0));
          positive = omega (arith, some);
        }

        first : IsAtShare edge point length.k
        first = record { share = omega arith; x = refl; y = refl }

        on : (c f u v : ℤ) → f ≡ u → (dot d d *ℤ (v -ℤ u)) ≡ (dot d e *ℤ (f -ℤ c)) → ((pos (less.k + length.k) *ℤ c) +ℤ (pos length.k *ℤ (f -ℤ c))) ≡ ((pos (less.k + length.k) *ℤ u) +ℤ (pos length.k *ℤ (v -ℤ u)))
        on c f u v same is =
            let one = ap (λ (z : ℤ). z *ℤ (v -ℤ u)) length.is in
            let other = ap (λ (z : ℤ). z *ℤ (f -ℤ c)) less.is in
            let turned = identity (times (minus (n_of 0) (number (dot d e))) (number (f -ℤ c))) (minus (n_of 0) (times (number (dot d e)) (number (f -ℤ c)))) (omega arith) in
            let split = identity (plus (times (n_of (less.k + length.k)) (number c)) (times (n_of length.k) (minus (number f) (number c)))) (minus (times (n_of (less.k + length.k)) (number f)) (times (n_of less.k) (minus (number f) (number c)))) (omega arith) in
            let at = ap (λ (z : ℤ). pos (less.k + length.k) *ℤ z) same in
            omega (arith, ints, one, other, turned, split, at, is)

        second : IsAtShare next point length.k
        second = record {
          share = omega arith;
          x = on edge.x0 edge.x1 next.x0 next.x1 (ap (λ (p : Point). p.x) joined) (along-x d e none);
          y = on edge.y0 edge.y1 next.y0 next.y1 (ap (λ (p : Point). p.y) joined) (along-y d e none);
        }

        -- they aren't one
        differ : edge ≢ next
        differ same =
            let is = ap (λ (f : Edge). dot (way edge) (way f)) same in
            let more = some_length edge proper in
            omega (arith, ints, is, more, behind)

        by : MeetAtEnds edge next point → ⊥
        by (inl (end, _)) = between-no_end edge point length.k proper first some (omega (arith, some_less)) end
        by (inr (inl same)) = differ same
        by (inr (inr turned)) = differ (same-one edges edge next distinct among next_among (inr turned))
