-- Two segments whose ends round to those of pieces that cross: they cross too, or a mean of one's ends rounds to an end
-- of the other's piece.
use Rattle.std.proofs.Common.{arith, inl, inr, negsuc, pos, subst, ℕ, ℤ, ◌*ℤ◌, ◌*◌, ◌+ℤ◌, ◌+◌, ◌<ℤ◌, ◌<◌, ◌≡◌, ◌≤ℤ◌, ◌⊎◌}
use Rattle.std.proofs.lemmas.Int.{ints}
use Rattle.noding.specs.Rounding.{RoundsOn}
use Rattle.noding.proofs.SnapLemmas.Hobby.Halves.{Cross, half, half_along_y}
use Rattle.noding.proofs.SnapLemmas.Hobby.Touches.{Lies, Touch, by_p1, by_p2, by_s1, by_s2}
use Rattle.noding.proofs.SnapLemmas.Hobby.Turns.{Four, mix}
use Rattle.noding.proofs.SnapLemmas.Rounding.{RoundsOn-scaled, RoundsOn-touch, RoundsOn-mean_once}

-- A mean of two points, over n, rounds to the whole point (x, y).
pub record MeanRounds (n : ℕ) (x1 y1 x2 y2 x y : ℤ) : Type 0 where
  pub b : ℕ
  pub a : ℕ
  pub some : 0 < b + a
  pub along_x : RoundsOn ((b + a) * n) ((pos b *ℤ x1) +ℤ (pos a *ℤ x2)) x
  pub along_y : RoundsOn ((b + a) * n) ((pos b *ℤ y1) +ℤ (pos a *ℤ y2)) y

-- for one of the ends of the pieces c, of the points q over n
pub data EndRounds (n : ℕ) (qx qy cx cy : Four) : Type 0 where
  at_s1 : MeanRounds n qx.p1 qy.p1 qx.p2 qy.p2 cx.s1 cy.s1 → EndRounds n qx qy cx cy
  at_s2 : MeanRounds n qx.p1 qy.p1 qx.p2 qy.p2 cx.s2 cy.s2 → EndRounds n qx qy cx cy
  at_p1 : MeanRounds n qx.s1 qy.s1 qx.s2 qy.s2 cx.p1 cy.p1 → EndRounds n qx qy cx cy
  at_p2 : MeanRounds n qx.s1 qy.s1 qx.s2 qy.s2 cx.p2 cy.p2 → EndRounds n qx qy cx cy

-- The four coordinates round to those of c.
pub record RoundsAll (n : ℕ) (q c : Four) : Type 0 where
  pub p1 : RoundsOn n q.p1 c.p1
  pub p2 : RoundsOn n q.p2 c.p2
  pub s1 : RoundsOn n q.s1 c.s1
  pub s2 : RoundsOn n q.s2 c.s2

-- with natural weights
pub record Mean (x1 y1 x2 y2 x y : ℤ) : Type 0 where
  pub b : ℕ
  pub a : ℕ
  pub some : 0 < b + a
  pub along_x : (pos (b + a) *ℤ x) ≡ ((pos b *ℤ x1) +ℤ (pos a *ℤ x2))
  pub along_y : (pos (b + a) *ℤ y) ≡ ((pos b *ℤ y1) +ℤ (pos a *ℤ y2))

mean_by : (b a x1 y1 x2 y2 x y : ℤ) → pos 0 ≤ℤ b → pos 0 ≤ℤ a → pos 0 <ℤ (b +ℤ a) → ((b +ℤ a) *ℤ x) ≡ ((b *ℤ x1) +ℤ (a *ℤ x2)) → ((b +ℤ a) *ℤ y) ≡ ((b *ℤ y1) +ℤ (a *ℤ y2)) → Mean x1 y1 x2 y2 x y
mean_by (pos b) (pos a) x1 y1 x2 y2 x y from upto some along_x along_y = record {
  b = b;
  a = a;
  some = omega (arith, ints, some);
  along_x = along_x;
  along_y = along_y;
}
mean_by (negsuc b) a x1 y1 x2 y2 x y from upto some along_x along_y = absurd (omega (arith, ints, from))
mean_by (pos b) (negsuc a) x1 y1 x2 y2 x y from upto some along_x along_y = absurd (omega (arith, ints, upto))

-- a mean by whole weights is one by natural weights
pub mean_of : (x1 y1 x2 y2 x y : ℤ) → Lies x1 y1 x2 y2 x y → Mean x1 y1 x2 y2 x y
mean_of x1 y1 x2 y2 x y lies = mean_by lies.b lies.a x1 y1 x2 y2 x y lies.from lies.upto lies.some lies.along_x lies.along_y

-- a point that is a mean as it is
rounds_still : (n b a : ℕ) (q1 q2 r d : ℤ) → 0 < b + a → (pos (b + a) *ℤ r) ≡ ((pos b *ℤ q1) +ℤ (pos a *ℤ q2)) → RoundsOn n r d → RoundsOn ((b + a) * n) ((pos b *ℤ q1) +ℤ (pos a *ℤ q2)) d
rounds_still n b a q1 q2 r d some mean rounds = subst (λ (p : ℤ). RoundsOn ((b + a) * n) p d) mean (RoundsOn-scaled (b + a) n r d some rounds)

-- the first half: x moves
moved_x : (n l k : ℕ) (x1 y1 x2 y2 x y cx1 cx2 cx cy : ℤ) → 0 < n → 0 < l → Lies ((pos l *ℤ x1) +ℤ (pos k *ℤ cx1)) y1 ((pos l *ℤ x2) +ℤ (pos k *ℤ cx2)) y2 ((pos l *ℤ x) +ℤ (pos k *ℤ cx)) y → RoundsOn n x1 cx1 → RoundsOn n x2 cx2 → RoundsOn n x cx → RoundsOn n y cy → MeanRounds n x1 y1 x2 y2 cx cy
moved_x n l k x1 y1 x2 y2 x y cx1 cx2 cx cy many early lies first second third fourth =
    let mean = mean_of ((pos l *ℤ x1) +ℤ (pos k *ℤ cx1)) y1 ((pos l *ℤ x2) +ℤ (pos k *ℤ cx2)) y2 ((pos l *ℤ x) +ℤ (pos k *ℤ cx)) y lies in record {
      b = mean.b;
      a = mean.a;
      some = mean.some;
      along_x = RoundsOn-touch n l k mean.b mean.a x1 x2 x cx1 cx2 cx mean.some many early mean.along_x first second third;
      along_y = rounds_still n mean.b mean.a y1 y2 y cy mean.some mean.along_y fourth;
    }

-- the second half: y moves, and x is whole
moved_y : (n l k : ℕ) (x1 y1 x2 y2 y cx1 cx2 cx cy1 cy2 cy : ℤ) → 0 < n → 0 < l → Lies cx1 ((pos l *ℤ y1) +ℤ (pos k *ℤ cy1)) cx2 ((pos l *ℤ y2) +ℤ (pos k *ℤ cy2)) cx ((pos l *ℤ y) +ℤ (pos k *ℤ cy)) → RoundsOn n x1 cx1 → RoundsOn n x2 cx2 → RoundsOn n y1 cy1 → RoundsOn n y2 cy2 → RoundsOn n y cy → MeanRounds n x1 y1 x2 y2 cx cy
moved_y n l k x1 y1 x2 y2 y cx1 cx2 cx cy1 cy2 cy many early lies first second third fourth fifth =
    let mean = mean_of cx1 ((pos l *ℤ y1) +ℤ (pos k *ℤ cy1)) cx2 ((pos l *ℤ y2) +ℤ (pos k *ℤ cy2)) cx ((pos l *ℤ y) +ℤ (pos k *ℤ cy)) lies in record {
      b = mean.b;
      a = mean.a;
      some = mean.some;
      along_x = RoundsOn-mean_once n mean.b mean.a x1 x2 cx1 cx2 cx mean.some mean.along_x first second;
      along_y = RoundsOn-touch n l k mean.b mean.a y1 y2 y cy1 cy2 cy mean.some many early mean.along_y third fourth fifth;
    }

-- each end, in the first half and in the second
end_x : (n l k : ℕ) (qx qy cx cy : Four) → 0 < n → 0 < l → RoundsAll n qx cx → RoundsAll n qy cy → Touch (mix l k qx cx) qy → EndRounds n qx qy cx cy
end_x n l k qx qy cx cy many early rx ry (by_s1 lies) = at_s1 (moved_x n l k qx.p1 qy.p1 qx.p2 qy.p2 qx.s1 qy.s1 cx.p1 cx.p2 cx.s1 cy.s1 many early lies rx.p1 rx.p2 rx.s1 ry.s1)
end_x n l k qx qy cx cy many early rx ry (by_s2 lies) = at_s2 (moved_x n l k qx.p1 qy.p1 qx.p2 qy.p2 qx.s2 qy.s2 cx.p1 cx.p2 cx.s2 cy.s2 many early lies rx.p1 rx.p2 rx.s2 ry.s2)
end_x n l k qx qy cx cy many early rx ry (by_p1 lies) = at_p1 (moved_x n l k qx.s1 qy.s1 qx.s2 qy.s2 qx.p1 qy.p1 cx.s1 cx.s2 cx.p1 cy.p1 many early lies rx.s1 rx.s2 rx.p1 ry.p1)
end_x n l k qx qy cx cy many early rx ry (by_p2 lies) = at_p2 (moved_x n l k qx.s1 qy.s1 qx.s2 qy.s2 qx.p2 qy.p2 cx.s1 cx.s2 cx.p2 cy.p2 many early lies rx.s1 rx.s2 rx.p2 ry.p2)

end_y : (n l k : ℕ) (qx qy cx cy : Four) → 0 < n → 0 < l → RoundsAll n qx cx → RoundsAll n qy cy → Touch cx (mix l k qy cy) → EndRounds n qx qy cx cy
end_y n l k qx qy cx cy many early rx ry (by_s1 lies) = at_s1 (moved_y n l k qx.p1 qy.p1 qx.p2 qy.p2 qy.s1 cx.p1 cx.p2 cx.s1 cy.p1 cy.p2 cy.s1 many early lies rx.p1 rx.p2 ry.p1 ry.p2 ry.s1)
end_y n l k qx qy cx cy many early rx ry (by_s2 lies) = at_s2 (moved_y n l k qx.p1 qy.p1 qx.p2 qy.p2 qy.s2 cx.p1 cx.p2 cx.s2 cy.p1 cy.p2 cy.s2 many early lies rx.p1 rx.p2 ry.p1 ry.p2 ry.s2)
end_y n l k qx qy cx cy many early rx ry (by_p1 lies) = at_p1 (moved_y n l k qx.s1 qy.s1 qx.s2 qy.s2 qy.p1 cx.s1 cx.s2 cx.p1 cy.s1 cy.s2 cy.p1 many early lies rx.s1 rx.s2 ry.s1 ry.s2 ry.p1)
end_y n l k qx qy cx cy many early rx ry (by_p2 lies) = at_p2 (moved_y n l k qx.s1 qy.s1 qx.s2 qy.s2 qy.p2 cx.s1 cx.s2 cx.p2 cy.s1 cy.s2 cy.p2 many early lies rx.s1 rx.s2 ry.s1 ry.s2 ry.p2)

-- the whole way
pub crossing-leads : (n : ℕ) (qx qy cx cy : Four) → 0 < n → RoundsAll n qx cx → RoundsAll n qy cy → Cross cx cy → EndRounds n qx qy cx cy ⊎ Cross qx qy
crossing-leads n qx qy cx cy many rx ry cross =
    elim (half_along_y cx qy cy cross) [
      | inr found ↦ inl (end_y n found.l found.k qx qy cx cy many found.early rx ry found.touch)
      | inl midway ↦ elim (half qx cx qy midway) [
        | inr found ↦ inl (end_x n found.l found.k qx qy cx cy many found.early rx ry found.touch)
        | inl before ↦ inr before
      ]
    ]
