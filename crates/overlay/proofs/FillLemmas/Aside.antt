-- An edge that meets another one only at common ends keeps off its inside.
use Rattle.std.proofs.Common.{◌≡◌, ◌≢◌, ◌⊎◌, ℕ, ◌*◌, ◌<◌, ◌≤◌, ℤ, pos, ◌+ℤ◌, ◌-ℤ◌, ◌*ℤ◌, ◌≤ℤ◌, ◌<ℤ◌, inl, inr, Bool, arith, ap, refl, sym, subst, ◌∙◌}
use Rattle.std.specs.Int.Signed.{lt_z}
use Rattle.std.proofs.lemmas.Int.{ints, by_lt_z}
use Rattle.std.proofs.Math.Nat.{mul-le-mul_left, mul-pos}
use Rattle.plane.specs.declared.edge.Edge.{Edge}
use Rattle.plane.specs.Meet.Edges.{RationalPoint, IsOf}
use Rattle.plane.specs.SweepLine.Crossings.{Cross}
use Rattle.plane.specs.SweepLine.Heights.{run, height_by_run}
use Rattle.plane.proofs.MeetLemmas.Identities.{number, plus, minus, times, at_most, at_most_of, same_of, identity}
use Rattle.plane.specs.Ends.{reversed}
use Rattle.overlay.proofs.FillLemmas.Level.{MeetOnly, of_at, end_at, whole_x, height_whole}
use Rattle.overlay.proofs.FillLemmas.Tests.{lt_true, lt_false}
use Rattle.overlay.proofs.FillLemmas.Uncrossed.{MeetOnly-reversed, uncrossed}
use Rattle.noding.proofs.SnapLemmas.Numbers.{n_of, natural}
use Rattle.noding.proofs.SnapLemmas.Counted.{height_at}

-- The height y is below g's at x.
abbrev pub is_beneath : Edge → ℤ → ℤ → Bool
is_beneath g x y = lt_z (y *ℤ run g) (height_by_run g x)

-- The point (x, y), strictly between the ends of g along x, isn't on g.
pub record IsOff (g : Edge) (x y : ℤ) : Type 0 where
  pub off : g.x0 <ℤ x → x <ℤ g.x1 → (y *ℤ run g) ≢ height_by_run g x

-- The edge doesn't cross g, has no end inside it, and doesn't go across it if it is vertical.
pub record IsAside (g edge : Edge) : Type 0 where
  pub uncrossed : ¬ (Cross edge g)
  pub from : IsOff g edge.x0 edge.y0
  pub to : IsOff g edge.x1 edge.y1
  pub upright : edge.x0 ≡ edge.x1 → g.x0 <ℤ edge.x0 → edge.x0 <ℤ g.x1
      → is_beneath g edge.x0 edge.y0 ≡ is_beneath g edge.x0 edge.y1

-- ---- the point of g at a whole x strictly inside it isn't of an edge that has an end at this x

module _ (g edge : Edge) (meet : MeetOnly edge g) (x : ℤ) (behind : g.x0 <ℤ x) (before : x <ℤ g.x1) (at : (edge.x0 ≡ x) ⊎ (edge.x1 ≡ x)) (r k : ℕ) (is_run : run g ≡ pos r) (some : 0 < k) where
  -- the point of g at x, over k times its run
  abbrev point_of : RationalPoint
  point_of = record {
    n = k * (r * 1);
    x = pos k *ℤ (pos r *ℤ x);
    y = pos k *ℤ height_at g (whole_x x);
    positive = mul-pos some (omega (arith, ints, is_run, behind, before));
  }

  -- it is of g
  of_g : IsOf g point_of
  of_g = of_at g (whole_x x) r k point_of is_run (record { from = omega (arith, ints, behind); upto = omega (arith, ints, before) }) refl refl refl

  -- it is at x
  upright_of : (pos 1 *ℤ point_of.x) ≡ (pos point_of.n *ℤ x)
  upright_of = identity (times (n_of 1) (times (n_of k) (times (n_of r) (number x)))) (times (n_of (k * (r * 1))) (number x)) (omega arith)

  -- so it isn't of the edge: it would be an end of g, or the edge would be g
  not_of : ¬ (IsOf edge point_of)
  not_of of = elim (meet point_of of of_g) [
    | inl ends ↦ elim (end_at g (whole_x x) point_of upright_of ends.1) [
      | inl is ↦ omega (arith, ints, is, behind)
      | inr is ↦ omega (arith, ints, is, before)
    ]
    | inr (inl same) ↦
        let from = ap (λ (e : Edge). e.x0) same in
        let to = ap (λ (e : Edge). e.x1) same in
        elim at [ inl is ↦ omega (arith, ints, is, from, behind) | inr is ↦ omega (arith, ints, is, to, before) ]
    | inr (inr back) ↦
        let from = ap (λ (e : Edge). e.x0) back in
        let to = ap (λ (e : Edge). e.x1) back in
        elim at [ inl is ↦ omega (arith, ints, is, from, before) | inr is ↦ omega (arith, ints, is, to, behind) ]
  ]

-- ---- ends of edges

-- a start inside g would be the point of g there
start_x : (r : ℕ) (x w : ℤ) → (pos 1 *ℤ (pos r *ℤ x)) ≡ ((pos (1 * (r * 1)) *ℤ x) +ℤ (pos 0 *ℤ w))
start_x r x w = identity (times (n_of 1) (times (n_of r) (number x))) (plus (times (n_of (1 * (r * 1))) (number x)) (times (n_of 0) (number w))) (omega arith)

-- the same along y
start_y : (r : ℕ) (h y w : ℤ) → (y *ℤ pos r) ≡ h → (pos 1 *ℤ h) ≡ ((pos (1 * (r * 1)) *ℤ y) +ℤ (pos 0 *ℤ w))
start_y r h y w is =
    ap (λ z. pos 1 *ℤ z) (sym is)
    ∙ identity (times (n_of 1) (times (number y) (n_of r))) (plus (times (n_of (1 * (r * 1))) (number y)) (times (n_of 0) (number w))) (omega arith)

-- no end of the edge is inside g
off-from : (g edge : Edge) → MeetOnly edge g → IsOff g edge.x0 edge.y0
off-from g edge meet = record { off = λ behind before level. off behind before level }
  where
    off : g.x0 <ℤ edge.x0 → edge.x0 <ℤ g.x1 → (edge.y0 *ℤ run g) ≡ height_by_run g edge.x0 → ⊥
    off behind before level =
        let width = natural (run g) (omega (arith, ints, behind, before)) in
        let r = width.k in
        not_of g edge meet edge.x0 behind before (inl refl) r 1 width.is (omega arith) (
          0,
          record {
            share = omega arith;
            x = start_x r edge.x0 (edge.x1 -ℤ edge.x0);
            y = start_y r (height_at g (whole_x edge.x0)) edge.y0 (edge.y1 -ℤ edge.y0) (ap (λ w. edge.y0 *ℤ w) (sym width.is) ∙ level ∙ sym (height_whole edge.x0 g.x0 g.x1 g.y0 g.y1));
          },
        )

off-to : (g edge : Edge) → MeetOnly edge g → IsOff g edge.x1 edge.y1
off-to g edge meet = off-from g (reversed edge) (MeetOnly-reversed edge g meet)

-- ---- vertical edges

-- what is below h, where the other isn't, is the lower one
lower_first : (a b h : ℤ) (r : ℕ) → (a *ℤ pos r) <ℤ h → h ≤ℤ (b *ℤ pos r) → a <ℤ b
lower_first a b h r first second =
    by_lt_z a b (λ less. less)
    (λ back.
    let more = mul-le-mul_left r (at_most_of (number b) (number a) back) in
    let upto = at_most (times (number b) (n_of r)) (times (number a) (n_of r)) (omega (arith, more)) in
    absurd (omega (arith, ints, upto, first, second)))

-- a share of a vertical edge, along x, along y, and that it is one
climb_x : (r k a : ℕ) (x w : ℤ) → w ≡ pos 0 → (pos k *ℤ (pos r *ℤ x)) ≡ ((pos (k * (r * 1)) *ℤ x) +ℤ (pos a *ℤ w))
climb_x r k a x w none =
    identity (times (n_of k) (times (n_of r) (number x))) (plus (times (n_of (k * (r * 1))) (number x)) (times (n_of a) (n_of 0))) (omega arith)
    ∙ ap (λ z. (pos (k * (r * 1)) *ℤ x) +ℤ (pos a *ℤ z)) (sym none)

climb_y : (r k a : ℕ) (h y0 w : ℤ) → w ≡ pos k → (h -ℤ (y0 *ℤ pos r)) ≡ pos a → (pos k *ℤ h) ≡ ((pos (k * (r * 1)) *ℤ y0) +ℤ (pos a *ℤ w))
climb_y r k a h y0 w is_way is_share =
    let fact = ap (λ z. k * z) (same_of (minus (number h) (times (number y0) (n_of r))) (n_of a) is_share) in
    identity (times (n_of k) (number h)) (plus (times (n_of (k * (r * 1))) (number y0)) (times (n_of a) (n_of k))) (omega (arith, fact))
    ∙ ap (λ z. (pos (k * (r * 1)) *ℤ y0) +ℤ (pos a *ℤ z)) (sym is_way)

climb_share : (r k a : ℕ) (h y0 y1 : ℤ) → (y1 -ℤ y0) ≡ pos k → (h -ℤ (y0 *ℤ pos r)) ≡ pos a → h ≤ℤ (y1 *ℤ pos r) → a ≤ k * (r * 1)
climb_share r k a h y0 y1 is_way is_share upto =
    let one = ap (λ z. r * z) (same_of (minus (number y1) (number y0)) (n_of k) is_way) in
    let two = same_of (minus (number h) (times (number y0) (n_of r))) (n_of a) is_share in
    let three = at_most_of (number h) (times (number y1) (n_of r)) upto in
    omega (arith, one, two, three)

-- a vertical edge that starts below g, inside, doesn't end above it or on it
rises_not : (g edge : Edge) → MeetOnly edge g → edge.x0 ≡ edge.x1 → g.x0 <ℤ edge.x0 → edge.x0 <ℤ g.x1 → (edge.y0 *ℤ run g) <ℤ height_by_run g edge.x0 → height_by_run g edge.x0 ≤ℤ (edge.y1 *ℤ run g) → ⊥
rises_not g edge meet same behind before low high =
    let width = natural (run g) (omega (arith, ints, behind, before)) in
    let r = width.k in
    let h = height_at g (whole_x edge.x0) in
    let whole = height_whole edge.x0 g.x0 g.x1 g.y0 g.y1 in
    let low_there : (edge.y0 *ℤ pos r) <ℤ h = subst (λ (w : ℤ). (edge.y0 *ℤ w) <ℤ h) width.is (subst (λ (z : ℤ). (edge.y0 *ℤ run g) <ℤ z) (sym whole) low) in
    let high_there : h ≤ℤ (edge.y1 *ℤ pos r) = subst (λ (w : ℤ). h ≤ℤ (edge.y1 *ℤ w)) width.is (subst (λ (z : ℤ). z ≤ℤ (edge.y1 *ℤ run g)) (sym whole) high) in
    let some = lower_first edge.y0 edge.y1 h r low_there high_there in
    let way = natural (edge.y1 -ℤ edge.y0) (omega (arith, ints, some)) in
    let way_is = way.is in
    let share = natural (h -ℤ (edge.y0 *ℤ pos r)) (omega (arith, ints, low_there)) in
    not_of g edge meet edge.x0 behind before (inl refl) r way.k width.is (omega (arith, ints, some, way_is)) (
      share.k,
      record {
        share = climb_share r way.k share.k h edge.y0 edge.y1 way.is share.is high_there;
        x = climb_x r way.k share.k edge.x0 (edge.x1 -ℤ edge.x0) (omega (arith, ints, same));
        y = climb_y r way.k share.k h edge.y0 (edge.y1 -ℤ edge.y0) way.is share.is;
      },
    )

-- so both ends of a vertical edge are below g, or none is
upright-aside : (g edge : Edge) → MeetOnly edge g → edge.x0 ≡ edge.x1 → g.x0 <ℤ edge.x0 → edge.x0 <ℤ g.x1 → is_beneath g edge.x0 edge.y0 ≡ is_beneath g edge.x0 edge.y1
upright-aside g edge meet same behind before =
    let h = height_by_run g edge.x0 in
    by_lt_z (edge.y0 *ℤ run g) h
    (λ low. by_lt_z (edge.y1 *ℤ run g) h
    (λ also. lt_true (edge.y0 *ℤ run g) h low ∙ sym (lt_true (edge.y1 *ℤ run g) h also))
    (λ high. absurd (rises_not g edge meet same behind before low high)))
    (λ high. by_lt_z (edge.y1 *ℤ run g) h
    (λ low. absurd (rises_not g (reversed edge) (MeetOnly-reversed edge g meet) (sym same) (omega (arith, ints)) (omega (arith, ints))
    (subst (λ (x : ℤ). (edge.y1 *ℤ run g) <ℤ height_by_run g x) same low) (subst (λ (x : ℤ). height_by_run g x ≤ℤ (edge.y0 *ℤ run g)) same high)))
    (λ also. lt_false (edge.y0 *ℤ run g) h high ∙ sym (lt_false (edge.y1 *ℤ run g) h also)))

-- what keeps off g in each of these ways
pub aside : (g edge : Edge) → MeetOnly edge g → IsAside g edge
aside g edge meet = record {
  uncrossed = uncrossed edge g meet;
  from = off-from g edge meet;
  to = off-to g edge meet;
  upright = upright-aside g edge meet;
}
