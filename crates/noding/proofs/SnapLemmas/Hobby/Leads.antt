-- Two pieces that cross: one edge passes an end of the other's piece in its own piece's box, or the edges meet in both
-- boxes.
use Rattle.std.proofs.Common.{ap, arith, inl, inr, negsuc, pos, refl, subst, sym, ℕ, ℤ, ◌*ℤ◌, ◌*◌, ◌+ℤ◌, ◌+◌, ◌-ℤ◌, ◌<ℤ◌, ◌<◌, ◌∙◌, ◌≡◌, ◌≤◌}
use Rattle.std.proofs.Math.Nat.{mul-le-mul_left, mul-pos}
use Rattle.std.proofs.lemmas.Int.{ints}
use borrow.Author.Differences.{down, up}
use Rattle.plane.specs.declared.edge.Edge.{Edge}
use Rattle.plane.specs.Meet.Crosses.{cross}
use Rattle.plane.specs.Meet.Edges.{IsOf, RationalPoint}
use Rattle.noding.specs.Chains.{AreNotParallel, Passes}
use Rattle.noding.specs.Rounding.{RoundsOn, RoundsTo}
use Rattle.plane.specs.Ends.{reversed}
use Rattle.noding.proofs.SnapLemmas.Hobby.Halves.{Cross, common_of}
use Rattle.noding.proofs.SnapLemmas.Hobby.Moved.{MeanRounds, RoundsAll, at_p1, at_p2, at_s1, at_s2, crossing-leads}
use Rattle.noding.proofs.SnapLemmas.Hobby.Turns.{Four, crossing_x, crossing_y, four, term, turn1, turn1_term, turn2, turn2_term, turn3, turn4, turns-same}
use Rattle.noding.proofs.SnapLemmas.Numbers.{n_of, up_is, cross-exchanged}
use Rattle.noding.proofs.SnapLemmas.Pieces.{CrossProperly, CrossesLeft, InBox, IsBetween, Leads, MeetsIn, PassesIn}
use Rattle.noding.proofs.SnapLemmas.Rounding.{RoundsOn-between, RoundsOn-scaled, RoundsOn-some}
use Rattle.plane.proofs.MeetLemmas.Identities.{Term, identity, minus, number, plus, times}

-- A point of the edge, over n, that rounds to (x, y).
record At (edge : Edge) (n : ℕ) (x y : ℤ) : Type 0 where
  px : ℤ
  py : ℤ
  a : ℕ
  share : a ≤ n
  along_x : px ≡ ((pos n *ℤ edge.x0) +ℤ (pos a *ℤ (edge.x1 -ℤ edge.x0)))
  along_y : py ≡ ((pos n *ℤ edge.y0) +ℤ (pos a *ℤ (edge.y1 -ℤ edge.y0)))
  rounds_x : RoundsOn n px x
  rounds_y : RoundsOn n py y

scaled : (k n a : ℕ) (p start way : ℤ) → p ≡ ((pos n *ℤ start) +ℤ (pos a *ℤ way)) → (pos k *ℤ p) ≡ ((pos (k * n) *ℤ start) +ℤ (pos (k * a) *ℤ way))
scaled k n a p start way same =
    ap (λ z. pos k *ℤ z) same
    ∙ identity (times (n_of k) (plus (times (n_of n) (number start)) (times (n_of a) (number way)))) (plus (times (n_of (k * n)) (number start)) (times (n_of (k * a)) (number way))) (omega arith)

-- what an edge passes, over a denominator that is a multiple
at_scale : (edge : Edge) (k n : ℕ) (x y : ℤ) → 0 < k → (passes : Passes edge x y) → k * passes.0.n ≡ n → At edge n x y
at_scale edge k n x y some (point, (a, at), rounds) same =
    let found : At edge (k * point.n) x y = record {
      px = pos k *ℤ point.x;
      py = pos k *ℤ point.y;
      a = k * a;
      share = mul-le-mul_left k at.share;
      along_x = scaled k point.n a point.x edge.x0 (edge.x1 -ℤ edge.x0) at.x;
      along_y = scaled k point.n a point.y edge.y0 (edge.y1 -ℤ edge.y0) at.y;
      rounds_x = RoundsOn-scaled k point.n point.x x some rounds.along_x;
      rounds_y = RoundsOn-scaled k point.n point.y y some rounds.along_y;
    } in
    subst (λ (m : ℕ). At edge m x y) same found

-- a mean of two shares is a share
mean_along : (n b a s1 s2 : ℕ) (p1 p2 start way : ℤ) → p1 ≡ ((pos n *ℤ start) +ℤ (pos s1 *ℤ way)) → p2 ≡ ((pos n *ℤ start) +ℤ (pos s2 *ℤ way)) → ((pos b *ℤ p1) +ℤ (pos a *ℤ p2)) ≡ ((pos ((b + a) * n) *ℤ start) +ℤ (pos (b * s1 + a * s2) *ℤ way))
mean_along n b a s1 s2 p1 p2 start way first second =
    let at : ℕ → ℕ → Term = λ m s. plus (times (n_of m) (number start)) (times (n_of s) (number way)) in
    ap (λ p. (pos b *ℤ p) +ℤ (pos a *ℤ p2)) first
    ∙ ap (λ p. (pos b *ℤ ((pos n *ℤ start) +ℤ (pos s1 *ℤ way))) +ℤ (pos a *ℤ p)) second
    ∙ identity (plus (times (n_of b) (at n s1)) (times (n_of a) (at n s2))) (at ((b + a) * n) (b * s1 + a * s2)) (omega arith)

-- a point over m that is such a mean
mean_of : (edge : Edge) (n m b a : ℕ) (x0 y0 x1 y1 : ℤ) (one : At edge n x0 y0) (other : At edge n x1 y1) (point : RationalPoint) → point.n ≡ (b + a) * n → point.x ≡ ((pos b *ℤ one.px) +ℤ (pos a *ℤ other.px)) → point.y ≡ ((pos b *ℤ one.py) +ℤ (pos a *ℤ other.py)) → IsOf edge point
mean_of edge n m b a x0 y0 x1 y1 one other point same same_x same_y =
    let first = mul-le-mul_left b one.share in
    let second = mul-le-mul_left a other.share in (
      b * one.a + a * other.a,
      record {
        share = omega (arith, first, second, same);
        x = rw same (same_x ∙ mean_along n b a one.a other.a one.px other.px edge.x0 (edge.x1 -ℤ edge.x0) one.along_x other.along_x);
        y = rw same (same_y ∙ mean_along n b a one.a other.a one.py other.py edge.y0 (edge.y1 -ℤ edge.y0) one.along_y other.along_y);
      },
    )

-- a mean that rounds to a whole point: the edge passes it, in the piece's box
passes_in : (edge piece : Edge) (n : ℕ) (x y : ℤ) → 0 < n → (one : At edge n piece.x0 piece.y0) (other : At edge n piece.x1 piece.y1) → MeanRounds n one.px one.py other.px other.py x y → PassesIn edge piece x y
passes_in edge piece n x y many one other mean =
    let point : RationalPoint = record {
      n = (mean.b + mean.a) * n;
      x = (pos mean.b *ℤ one.px) +ℤ (pos mean.a *ℤ other.px);
      y = (pos mean.b *ℤ one.py) +ℤ (pos mean.a *ℤ other.py);
      positive = mul-pos mean.some many;
    } in
    let rounds : RoundsTo point x y = record {
      along_x = mean.along_x;
      along_y = mean.along_y;
    } in record {
      passes = (point, mean_of edge n point.n mean.b mean.a piece.x0 piece.y0 piece.x1 piece.y1 one other point refl refl refl, rounds);
      box = record {
        along_x = RoundsOn-between n mean.b mean.a one.px other.px piece.x0 piece.x1 x mean.some many one.rounds_x other.rounds_x mean.along_x;
        along_y = RoundsOn-between n mean.b mean.a one.py other.py piece.y0 piece.y1 y mean.some many one.rounds_y other.rounds_y mean.along_y;
      };
    }

-- the turns as natural numbers
same_sum : (t1 t2 t3 t4 : ℤ) → pos 0 <ℤ t1 → pos 0 <ℤ t2 → pos 0 <ℤ t3 → pos 0 <ℤ t4 → (t1 +ℤ t2) ≡ (t3 +ℤ t4) → up t4 + up t3 ≡ up t2 + up t1
same_sum (pos t1) (pos t2) (pos t3) (pos t4) one two three four same = omega (arith, ints, same)
same_sum (negsuc t1) t2 t3 t4 one two three four same = absurd (omega (arith, ints, one))
same_sum (pos t1) (negsuc t2) t3 t4 one two three four same = absurd (omega (arith, ints, two))
same_sum (pos t1) (pos t2) (negsuc t3) t4 one two three four same = absurd (omega (arith, ints, three))
same_sum (pos t1) (pos t2) (pos t3) (negsuc t4) one two three four same = absurd (omega (arith, ints, four))

natural : (t : ℤ) → pos 0 <ℤ t → t ≡ pos (up t)
natural t some = sym (up_is t (omega (arith, ints)))

some_up : (t : ℤ) → pos 0 <ℤ t → 0 < up t
some_up (pos n) some = omega (arith, ints, some)
some_up (negsuc n) some = absurd (omega (arith, ints, some))

-- how far two points of an edge are from each other
way_between : (n a1 a2 : ℕ) (p1 p2 start way : ℤ) → p1 ≡ ((pos n *ℤ start) +ℤ (pos a1 *ℤ way)) → p2 ≡ ((pos n *ℤ start) +ℤ (pos a2 *ℤ way)) → (p2 -ℤ p1) ≡ ((pos a2 -ℤ pos a1) *ℤ way)
way_between n a1 a2 p1 p2 start way first second =
    let at : ℕ → Term = λ a. plus (times (n_of n) (number start)) (times (n_of a) (number way)) in
    ap (λ p. p2 -ℤ p) first
    ∙ ap (λ p. p -ℤ ((pos n *ℤ start) +ℤ (pos a1 *ℤ way))) second
    ∙ identity (minus (at a2) (at a1)) (times (minus (n_of a2) (n_of a1)) (number way)) (omega arith)

-- a cross product of parts of two ways
cross_scaled : (s t ux uy vx vy : ℤ) → cross (s *ℤ ux) (s *ℤ uy) (t *ℤ vx) (t *ℤ vy) ≡ ((s *ℤ t) *ℤ cross ux uy vx vy)
cross_scaled s t ux uy vx vy =
    let turn : Term → Term → Term → Term → Term = λ a b c d. minus (times a d) (times b c) in
    identity (turn (times (number s) (number ux)) (times (number s) (number uy)) (times (number t) (number vx)) (times (number t) (number vy)))
    (times (times (number s) (number t)) (turn (number ux) (number uy) (number vx) (number vy)))
    (omega arith)

none_times : (s : ℤ) → (s *ℤ pos 0) ≡ pos 0
none_times s = identity (times (number s) (n_of 0)) (n_of 0) (omega arith)

-- the turns' sum, as a cross product
turns_cross : (x y : Four) → (turn1 x y +ℤ turn2 x y) ≡ cross (x.p2 -ℤ x.p1) (y.p2 -ℤ y.p1) (x.s2 -ℤ x.s1) (y.s2 -ℤ y.s1)
turns_cross x y =
    let a = term x in
    let b = term y in
    let turn : Term → Term → Term → Term → Term = λ a b c d. minus (times a d) (times b c) in
    identity (plus (turn1_term a b) (turn2_term a b)) (turn (minus a.p2 a.p1) (minus b.p2 b.p1) (minus a.s2 a.s1) (minus b.s2 b.s1)) (omega arith)

-- edges with points that cross aren't parallel
apart_by : (edge other : Edge) (n : ℕ) (x0 y0 x1 y1 x2 y2 x3 y3 : ℤ) (p1 : At edge n x0 y0) (p2 : At edge n x1 y1) (s1 : At other n x2 y2) (s2 : At other n x3 y3) → pos 0 <ℤ cross (p2.px -ℤ p1.px) (p2.py -ℤ p1.py) (s2.px -ℤ s1.px) (s2.py -ℤ s1.py) → AreNotParallel edge other
apart_by edge other n x0 y0 x1 y1 x2 y2 x3 y3 p1 p2 s1 s2 some parallel =
    let ux = edge.x1 -ℤ edge.x0 in
    let uy = edge.y1 -ℤ edge.y0 in
    let vx = other.x1 -ℤ other.x0 in
    let vy = other.y1 -ℤ other.y0 in
    let s = pos p2.a -ℤ pos p1.a in
    let t = pos s2.a -ℤ pos s1.a in
    let px = way_between n p1.a p2.a p1.px p2.px edge.x0 ux p1.along_x p2.along_x in
    let py = way_between n p1.a p2.a p1.py p2.py edge.y0 uy p1.along_y p2.along_y in
    let sx = way_between n s1.a s2.a s1.px s2.px other.x0 vx s1.along_x s2.along_x in
    let sy = way_between n s1.a s2.a s1.py s2.py other.y0 vy s1.along_y s2.along_y in
    let none : cross (p2.px -ℤ p1.px) (p2.py -ℤ p1.py) (s2.px -ℤ s1.px) (s2.py -ℤ s1.py) ≡ pos 0 =
    ap (λ z. cross z (p2.py -ℤ p1.py) (s2.px -ℤ s1.px) (s2.py -ℤ s1.py)) px
    ∙ ap (λ z. cross (s *ℤ ux) z (s2.px -ℤ s1.px) (s2.py -ℤ s1.py)) py
    ∙ ap (λ z. cross (s *ℤ ux) (s *ℤ uy) z (s2.py -ℤ s1.py)) sx
    ∙ ap (λ z. cross (s *ℤ ux) (s *ℤ uy) (t *ℤ vx) z) sy
    ∙ cross_scaled s t ux uy vx vy
    ∙ ap (λ z. (s *ℤ t) *ℤ z) parallel
    ∙ none_times (s *ℤ t) in
    omega (arith, ints, some, none)

-- the crossing of the two segments is of both edges, and rounds to a point in both boxes
meets_in : (edge other piece other_piece : Edge) (n t1 t2 t3 t4 : ℕ) → 0 < n → 0 < t4 + t3 → t4 + t3 ≡ t2 + t1 → AreNotParallel edge other → (p1 : At edge n piece.x0 piece.y0) (p2 : At edge n piece.x1 piece.y1) (s1 : At other n other_piece.x0 other_piece.y0) (s2 : At other n other_piece.x1 other_piece.y1) → ((pos t4 *ℤ p1.px) +ℤ (pos t3 *ℤ p2.px)) ≡ ((pos t2 *ℤ s1.px) +ℤ (pos t1 *ℤ s2.px)) → ((pos t4 *ℤ p1.py) +ℤ (pos t3 *ℤ p2.py)) ≡ ((pos t2 *ℤ s1.py) +ℤ (pos t1 *ℤ s2.py)) → MeetsIn edge other piece other_piece
meets_in edge other piece other_piece n t1 t2 t3 t4 many some whole apart p1 p2 s1 s2 same_x same_y =
    let point : RationalPoint = record {
      n = (t4 + t3) * n;
      x = (pos t4 *ℤ p1.px) +ℤ (pos t3 *ℤ p2.px);
      y = (pos t4 *ℤ p1.py) +ℤ (pos t3 *ℤ p2.py);
      positive = mul-pos some many;
    } in
    let there : (t4 + t3) * n ≡ (t2 + t1) * n = ap (λ t. t * n) whole in
    let x = RoundsOn-some point.n point.x point.positive in
    let y = RoundsOn-some point.n point.y point.positive in
    let other_some : 0 < t2 + t1 = omega arith in
    let other_x : RoundsOn ((t2 + t1) * n) ((pos t2 *ℤ s1.px) +ℤ (pos t1 *ℤ s2.px)) x.whole =
    subst (λ (m : ℕ). RoundsOn m ((pos t2 *ℤ s1.px) +ℤ (pos t1 *ℤ s2.px)) x.whole) there (subst (λ (p : ℤ). RoundsOn ((t4 + t3) * n) p x.whole) same_x x.rounds) in
    let other_y : RoundsOn ((t2 + t1) * n) ((pos t2 *ℤ s1.py) +ℤ (pos t1 *ℤ s2.py)) y.whole =
    subst (λ (m : ℕ). RoundsOn m ((pos t2 *ℤ s1.py) +ℤ (pos t1 *ℤ s2.py)) y.whole) there (subst (λ (p : ℤ). RoundsOn ((t4 + t3) * n) p y.whole) same_y y.rounds) in record {
      point = point;
      of_one = mean_of edge n point.n t4 t3 piece.x0 piece.y0 piece.x1 piece.y1 p1 p2 point refl refl refl;
      of_other = mean_of other n point.n t2 t1 other_piece.x0 other_piece.y0 other_piece.x1 other_piece.y1 s1 s2 point there same_x same_y;
      apart = apart;
      x = x.whole;
      y = y.whole;
      rounds = record {
        along_x = x.rounds;
        along_y = y.rounds;
      };
      box = record {
        along_x = RoundsOn-between n t4 t3 p1.px p2.px piece.x0 piece.x1 x.whole some many p1.rounds_x p2.rounds_x x.rounds;
        along_y = RoundsOn-between n t4 t3 p1.py p2.py piece.y0 piece.y1 y.whole some many p1.rounds_y p2.rounds_y y.rounds;
      };
      other_box = record {
        along_x = RoundsOn-between n t2 t1 s1.px s2.px other_piece.x0 other_piece.x1 x.whole other_some many s1.rounds_x s2.rounds_x other_x;
        along_y = RoundsOn-between n t2 t1 s1.py s2.py other_piece.y0 other_piece.y1 y.whole other_some many s1.rounds_y s2.rounds_y other_y;
      };
    }

back_above : (ux uy wx wy : ℤ) → cross ux uy wx wy <ℤ pos 0 → pos 0 <ℤ cross wx wy ux uy
back_above ux uy wx wy below = let back = cross-exchanged ux uy wx wy in omega (arith, ints, back, below)

-- pieces that cross, as four turns
crossing : (one other : Edge) → CrossesLeft one other → Cross (four one.x0 one.x1 other.x0 other.x1) (four one.y0 one.y1 other.y0 other.y1)
crossing one other crosses = record {
  left1 = back_above (one.x1 -ℤ one.x0) (one.y1 -ℤ one.y0) (other.x0 -ℤ one.x0) (other.y0 -ℤ one.y0) crosses.from;
  left2 = crosses.to;
  left3 = crosses.back_from;
  left4 = back_above (other.x1 -ℤ other.x0) (other.y1 -ℤ other.y0) (one.x1 -ℤ other.x0) (one.y1 -ℤ other.y0) crosses.back_to;
}

-- where one crosses the other leftwards, with points over one denominator
leads_at : (edge other piece other_piece : Edge) (n : ℕ) → 0 < n → At edge n piece.x0 piece.y0 → At edge n piece.x1 piece.y1 → At other n other_piece.x0 other_piece.y0 → At other n other_piece.x1 other_piece.y1 → CrossesLeft piece other_piece → Leads edge other piece other_piece
leads_at edge other piece other_piece n many p1 p2 s1 s2 crosses =
    let qx = four p1.px p2.px s1.px s2.px in
    let qy = four p1.py p2.py s1.py s2.py in
    let cx = four piece.x0 piece.x1 other_piece.x0 other_piece.x1 in
    let cy = four piece.y0 piece.y1 other_piece.y0 other_piece.y1 in
    let rx : RoundsAll n qx cx = record {
      p1 = p1.rounds_x;
      p2 = p2.rounds_x;
      s1 = s1.rounds_x;
      s2 = s2.rounds_x;
    } in
    let ry : RoundsAll n qy cy = record {
      p1 = p1.rounds_y;
      p2 = p2.rounds_y;
      s1 = s1.rounds_y;
      s2 = s2.rounds_y;
    } in
    elim (crossing-leads n qx qy cx cy many rx ry (crossing piece other_piece crosses)) [
      | inl (at_s1 mean) ↦ inl (passes_in edge piece n other_piece.x0 other_piece.y0 many p1 p2 mean)
      | inl (at_s2 mean) ↦ inr (inl (passes_in edge piece n other_piece.x1 other_piece.y1 many p1 p2 mean))
      | inl (at_p1 mean) ↦ inr (inr (inl (passes_in other other_piece n piece.x0 piece.y0 many s1 s2 mean)))
      | inl (at_p2 mean) ↦ inr (inr (inr (inl (passes_in other other_piece n piece.x1 piece.y1 many s1 s2 mean))))
      | inr at_start ↦
          let t1 = turn1 qx qy in
          let t2 = turn2 qx qy in
          let t3 = turn3 qx qy in
          let t4 = turn4 qx qy in
          let is1 = natural t1 at_start.left1 in
          let is2 = natural t2 at_start.left2 in
          let is3 = natural t3 at_start.left3 in
          let is4 = natural t4 at_start.left4 in
          let some4 = some_up t4 at_start.left4 in
          let common_x = common_of t1 t2 t3 t4 (pos (up t1)) (pos (up t2)) (pos (up t3)) (pos (up t4)) qx.p1 qx.p2 qx.s1 qx.s2 is1 is2 is3 is4 (crossing_x qx qy) in
          let common_y = common_of t1 t2 t3 t4 (pos (up t1)) (pos (up t2)) (pos (up t3)) (pos (up t4)) qy.p1 qy.p2 qy.s1 qy.s2 is1 is2 is3 is4 (crossing_y qx qy) in
          let whole = same_sum t1 t2 t3 t4 at_start.left1 at_start.left2 at_start.left3 at_start.left4 (turns-same qx qy) in
          let sum : pos 0 <ℤ (t1 +ℤ t2) = above_sum t1 t2 at_start.left1 at_start.left2 in
          let apart = apart_by edge other n piece.x0 piece.y0 piece.x1 piece.y1 other_piece.x0 other_piece.y0 other_piece.x1 other_piece.y1 p1 p2 s1 s2 (subst (λ (z : ℤ). pos 0 <ℤ z) (turns_cross qx qy) sum) in
          inr (inr (inr (inr (meets_in edge other piece other_piece n (up t1) (up t2) (up t3) (up t4) many (positive_sum (up t4) (up t3) some4) whole apart p1 p2 s1 s2 common_x.same common_y.same))))
    ]
  where
    positive_sum : (a b : ℕ) → 0 < a → 0 < a + b
    positive_sum a b some = omega arith

    above_sum : (a b : ℤ) → pos 0 <ℤ a → pos 0 <ℤ b → pos 0 <ℤ (a +ℤ b)
    above_sum a b first second = omega (arith, ints)

-- with points over any
leads_left : (edge other piece other_piece : Edge) → Passes edge piece.x0 piece.y0 → Passes edge piece.x1 piece.y1 → Passes other other_piece.x0 other_piece.y0 → Passes other other_piece.x1 other_piece.y1 → CrossesLeft piece other_piece → Leads edge other piece other_piece
leads_left edge other piece other_piece p1 p2 s1 s2 crosses =
    let n1 = p1.0.n in
    let n2 = p2.0.n in
    let n3 = s1.0.n in
    let n4 = s2.0.n in
    let some1 = p1.0.positive in
    let some2 = p2.0.positive in
    let some3 = s1.0.positive in
    let some4 = s2.0.positive in
    let n = n1 * (n2 * (n3 * n4)) in
    leads_at edge other piece other_piece n (mul-pos some1 (mul-pos some2 (mul-pos some3 some4)))
    (at_scale edge (n2 * (n3 * n4)) n piece.x0 piece.y0 (mul-pos some2 (mul-pos some3 some4)) p1 (omega arith))
    (at_scale edge (n1 * (n3 * n4)) n piece.x1 piece.y1 (mul-pos some1 (mul-pos some3 some4)) p2 (omega arith))
    (at_scale other (n1 * (n2 * n4)) n other_piece.x0 other_piece.y0 (mul-pos some1 (mul-pos some2 some4)) s1 (omega arith))
    (at_scale other (n1 * (n2 * n3)) n other_piece.x1 other_piece.y1 (mul-pos some1 (mul-pos some2 some3)) s2 (omega arith))
    crosses

between_back : (from to z : ℤ) → IsBetween to from z → IsBetween from to z
between_back from to z (inl up) = inr up
between_back from to z (inr down) = inl down

-- the same boxes for a reversed piece
box_back : (edge : Edge) (x y : ℤ) → InBox (reversed edge) x y → InBox edge x y
box_back edge x y box = record {
  along_x = between_back edge.x0 edge.x1 x box.along_x;
  along_y = between_back edge.y0 edge.y1 y box.along_y;
}

passes_back : (edge piece : Edge) (x y : ℤ) → PassesIn edge (reversed piece) x y → PassesIn edge piece x y
passes_back edge piece x y found = record {
  passes = found.passes;
  box = box_back piece x y found.box;
}

-- so a reversed piece leads to the same
flipped : (edge other piece other_piece : Edge) → Leads edge other piece (reversed other_piece) → Leads edge other piece other_piece
flipped edge other piece other_piece (inl first) = inr (inl first)
flipped edge other piece other_piece (inr (inl second)) = inl second
flipped edge other piece other_piece (inr (inr (inl third))) = inr (inr (inl (passes_back other other_piece piece.x0 piece.y0 third)))
flipped edge other piece other_piece (inr (inr (inr (inl fourth)))) = inr (inr (inr (inl (passes_back other other_piece piece.x1 piece.y1 fourth))))
flipped edge other piece other_piece (inr (inr (inr (inr meets)))) =
    inr (inr (inr (inr (record {
      point = meets.point;
      of_one = meets.of_one;
      of_other = meets.of_other;
      apart = meets.apart;
      x = meets.x;
      y = meets.y;
      rounds = meets.rounds;
      box = meets.box;
      other_box = box_back other_piece meets.x meets.y meets.other_box;
    }))))

-- whichever way they cross
pub pieces-lead : (edge other piece other_piece : Edge) → Passes edge piece.x0 piece.y0 → Passes edge piece.x1 piece.y1 → Passes other other_piece.x0 other_piece.y0 → Passes other other_piece.x1 other_piece.y1 → CrossProperly piece other_piece → Leads edge other piece other_piece
pieces-lead edge other piece other_piece p1 p2 s1 s2 (inl left) = leads_left edge other piece other_piece p1 p2 s1 s2 left
pieces-lead edge other piece other_piece p1 p2 s1 s2 (inr right) = flipped edge other piece other_piece (leads_left edge other piece (reversed other_piece) p1 p2 s2 s1 right)
