-- Ways in the order of their turns, and the best so far of the edges that leave a point.
use Rattle.std.proofs.Common.{◌≡◌, ◌≢◌, inl, inr, ℕ, zero, suc, ◌+◌, ◌<◌, ℤ, pos, ◌+ℤ◌, ◌-ℤ◌, ◌*ℤ◌, ◌≤ℤ◌, ◌<ℤ◌, Bool, true, false, List, Option, Some, None, negsuc, refl, sym, ap, ap₂, ◌∙◌, subst, arith}
use Rattle.std.specs.Option.{MatchOption}
use mathlib.Core.Bool.{beq, not}
use Rattle.std.specs.Int.Signed.{lt_z}
use Rattle.std.specs.Prelude.{MatchBool}
use Rattle.std.proofs.lemmas.Bool.{cases_eq}
use Rattle.std.proofs.lemmas.Int.{by_lt_z, ints}
use Rattle.plane.specs.Meet.Crosses.{cross}
use Rattle.plane.specs.declared.edge.Edge.{Edge}
use Rattle.plane.specs.declared.point.Point.{Point}
use Rattle.plane.proofs.MeetLemmas.Identities.{Term, identity, minus, number, plus, same_of, times}
use Rattle.overlay.specs.Contours.Order.{edge_at}
use Rattle.plane.specs.Ends.{end_of}
use Rattle.overlay.specs.Contours.Turns.{AreAlike, ComesBefore, Direction, IsBetter, IsLeft, IsLeftmost, Leaves, NoneLeaves, TurnsBefore, direction, direction_between, dot}
use Rattle.plane.specs.declared.vectors.Vector.{Vector}
use Rattle.noding.proofs.SnapLemmas.Numbers.{n_of, natural}

-- ---- the order of turns is transitive

abbrev pub across : ℤ → ℤ → ℤ → ℤ → Term
across x y other_x other_y = minus (times (number x) (number other_y)) (times (number y) (number other_x))

abbrev pub along : ℤ → ℤ → ℤ → ℤ → Term
along x y other_x other_y = plus (times (number x) (number other_x)) (times (number y) (number other_y))

-- of four ways, two by two
four : (bx by ux uy vx vy wx wy : ℤ) → (cross bx by vx vy *ℤ cross ux uy wx wy) ≡ ((cross bx by wx wy *ℤ cross ux uy vx vy) +ℤ (cross bx by ux uy *ℤ cross vx vy wx wy))
four bx by ux uy vx vy wx wy =
    identity (times (across bx by vx vy) (across ux uy wx wy)) (plus (times (across bx by wx wy) (across ux uy vx vy)) (times (across bx by ux uy) (across vx vy wx wy))) (omega arith)

-- of two ways and a third one, by what is along it and across it
two : (bx by vx vy wx wy : ℤ) → (cross vx vy wx wy *ℤ dot bx by bx by) ≡ ((cross bx by wx wy *ℤ dot bx by vx vy) -ℤ (cross bx by vx vy *ℤ dot bx by wx wy))
two bx by vx vy wx wy =
    identity (times (across vx vy wx wy) (along bx by bx by)) (minus (times (across bx by wx wy) (along bx by vx vy)) (times (across bx by vx vy) (along bx by wx wy))) (omega arith)

abbrev negative : ℕ → Term
negative n = minus (n_of 0) (n_of n)

-- numbers of which none is above 0, and whose products add up to one that isn't above 0 either
none_left : (b r d p a q : ℕ) → ((pos 0 -ℤ pos b) *ℤ pos r) ≡ (((pos 0 -ℤ pos d) *ℤ (pos 0 -ℤ pos (suc p))) +ℤ ((pos 0 -ℤ pos a) *ℤ (pos 0 -ℤ pos (suc q)))) → (a ≡ 0) × (d ≡ 0)
none_left b r d p a q same =
    let fact = same_of (times (negative b) (n_of r)) (plus (times (negative d) (negative (suc p))) (times (negative a) (negative (suc q)))) same in (
      omega (arith, fact),
      omega (arith, fact),
    )

zeros : (cbv r cbw cuv cbu cvw : ℤ) → (cbv *ℤ r) ≡ ((cbw *ℤ cuv) +ℤ (cbu *ℤ cvw)) → cbv ≤ℤ pos 0 → pos 0 ≤ℤ r → cbw ≤ℤ pos 0 → cuv <ℤ pos 0 → cbu ≤ℤ pos 0 → cvw <ℤ pos 0 → (cbu ≡ pos 0) × (cbw ≡ pos 0)
zeros cbv r cbw cuv cbu cvw same first second third fourth fifth sixth =
    let b = natural (pos 0 -ℤ cbv) (omega (arith, ints, first)) in
    let k = natural r second in
    let d = natural (pos 0 -ℤ cbw) (omega (arith, ints, third)) in
    let p = natural ((pos 0 -ℤ cuv) -ℤ pos 1) (omega (arith, ints, fourth)) in
    let a = natural (pos 0 -ℤ cbu) (omega (arith, ints, fifth)) in
    let q = natural ((pos 0 -ℤ cvw) -ℤ pos 1) (omega (arith, ints, sixth)) in
    let b_is : cbv ≡ (pos 0 -ℤ pos b.k) = (let is = b.is in omega (arith, ints, is)) in
    let d_is : cbw ≡ (pos 0 -ℤ pos d.k) = (let is = d.is in omega (arith, ints, is)) in
    let p_is : cuv ≡ (pos 0 -ℤ pos (suc p.k)) = (let is = p.is in omega (arith, ints, is)) in
    let a_is : cbu ≡ (pos 0 -ℤ pos a.k) = (let is = a.is in omega (arith, ints, is)) in
    let q_is : cvw ≡ (pos 0 -ℤ pos (suc q.k)) = (let is = q.is in omega (arith, ints, is)) in
    let times_same : (m n m' n' : ℤ) → m ≡ m' → n ≡ n' → (m *ℤ n) ≡ (m' *ℤ n') = λ m n m' n' one other. ap₂ (λ (x y : ℤ). x *ℤ y) one other in
    let (none_a, none_d) = none_left b.k k.k d.k p.k a.k q.k (
    sym (times_same cbv r (pos 0 -ℤ pos b.k) (pos k.k) b_is k.is) ∙ same
    ∙ ap₂ (λ (x y : ℤ). x +ℤ y) (times_same cbw cuv (pos 0 -ℤ pos d.k) (pos 0 -ℤ pos (suc p.k)) d_is p_is) (times_same cbu cvw (pos 0 -ℤ pos a.k) (pos 0 -ℤ pos (suc q.k)) a_is q_is)
    ) in (
      omega (arith, ints, a_is, none_a),
      omega (arith, ints, d_is, none_d),
    )

turned : (q n b k : ℕ) (z : ℤ) → ((pos 0 -ℤ pos (suc q)) *ℤ pos (suc n)) ≡ ((pos 0 *ℤ z) -ℤ ((pos 0 -ℤ pos b) *ℤ pos k)) → ⊥
turned q n b k z same =
    let fact = same_of (times (negative (suc q)) (n_of (suc n))) (minus (times (n_of 0) (number z)) (times (negative b) (n_of k))) same in
    omega (arith, fact)

no_turn : (cvw n cbw z cbv dbw : ℤ) → (cvw *ℤ n) ≡ ((cbw *ℤ z) -ℤ (cbv *ℤ dbw)) → cvw <ℤ pos 0 → pos 0 <ℤ n → cbw ≡ pos 0 → cbv ≤ℤ pos 0 → pos 0 ≤ℤ dbw → ⊥
no_turn cvw n cbw z cbv dbw same first second third fourth fifth =
    let q = natural ((pos 0 -ℤ cvw) -ℤ pos 1) (omega (arith, ints, first)) in
    let m = natural (n -ℤ pos 1) (omega (arith, ints, second)) in
    let b = natural (pos 0 -ℤ cbv) (omega (arith, ints, fourth)) in
    let k = natural dbw fifth in
    let q_is : cvw ≡ (pos 0 -ℤ pos (suc q.k)) = (let is = q.is in omega (arith, ints, is)) in
    let m_is : n ≡ pos (suc m.k) = (let is = m.is in omega (arith, ints, is)) in
    let b_is : cbv ≡ (pos 0 -ℤ pos b.k) = (let is = b.is in omega (arith, ints, is)) in
    turned q.k m.k b.k k.k z (
    sym (ap₂ (λ (x y : ℤ). x *ℤ y) q_is m_is) ∙ same
    ∙ ap₂ (λ (x y : ℤ). x -ℤ y) (ap (λ (x : ℤ). x *ℤ z) third) (ap₂ (λ (x y : ℤ). x *ℤ y) b_is k.is)
    )

pub some_square : (x y : ℤ) → ((x ≡ pos 0) × (y ≡ pos 0) → ⊥) → pos 0 <ℤ dot x y x y
some_square (pos zero) (pos zero) some = absurd (some (refl, refl))
some_square (pos zero) (pos (suc n)) some = omega (arith, ints)
some_square (pos zero) (negsuc n) some = omega (arith, ints)
some_square (pos (suc m)) (pos n) some = omega (arith, ints)
some_square (pos (suc m)) (negsuc n) some = omega (arith, ints)
some_square (negsuc m) (pos n) some = omega (arith, ints)
some_square (negsuc m) (negsuc n) some = omega (arith, ints)

-- Within one half turn clockwise from the way back: of three ways, each clockwise from the one before, the third one is so
-- from the first.
within_half : (bx by ux uy vx vy wx wy : ℤ) → ((bx ≡ pos 0) × (by ≡ pos 0) → ⊥) → cross bx by ux uy ≤ℤ pos 0 → cross bx by vx vy ≤ℤ pos 0 → cross bx by wx wy ≤ℤ pos 0
    → (cross bx by wx wy ≡ pos 0 → pos 0 ≤ℤ dot bx by wx wy) → cross ux uy vx vy <ℤ pos 0 → cross vx vy wx wy <ℤ pos 0 → cross ux uy wx wy <ℤ pos 0
within_half bx by ux uy vx vy wx wy some first second third onwards one other = by_lt_z (cross ux uy wx wy) (pos 0) (λ is. is) (λ none.
    (let (none_u, none_w) = zeros (cross bx by vx vy) (cross ux uy wx wy) (cross bx by wx wy) (cross ux uy vx vy) (cross bx by ux uy) (cross vx vy wx wy)
    (four bx by ux uy vx vy wx wy) second none third one first other in
    absurd (no_turn (cross vx vy wx wy) (dot bx by bx by) (cross bx by wx wy) (dot bx by vx vy) (cross bx by vx vy) (dot bx by wx wy)
    (two bx by vx vy wx wy) other (some_square bx by some) none_w second (onwards none_w))))

pub left_signs : (back way : Direction) → IsLeft back way → (cross back.x back.y way.x way.y ≤ℤ pos 0) × (cross back.x back.y way.x way.y ≡ pos 0 → pos 0 ≤ℤ dot back.x back.y way.x way.y)
left_signs back way (inl below) = (omega (arith, ints, below), λ none. absurd (omega (arith, ints, below, none)))
left_signs back way (inr (none, above)) = (omega (arith, ints, none), λ same. omega (arith, ints, above))

pub right_signs : (back way : Direction) → ¬ (IsLeft back way) → (pos 0 ≤ℤ cross back.x back.y way.x way.y) × (cross back.x back.y way.x way.y ≡ pos 0 → dot back.x back.y way.x way.y ≤ℤ pos 0)
right_signs back way right = (
  by_lt_z (cross back.x back.y way.x way.y) (pos 0) (λ below. absurd (right (inl below))) (λ from. from),
  λ none. by_lt_z (pos 0) (dot back.x back.y way.x way.y) (λ above. absurd (right (inr (none, above)))) (λ upto. upto),
)

-- the way that goes against the way back
against_cross : (bx by x y : ℤ) → cross (pos 0 -ℤ bx) (pos 0 -ℤ by) x y ≡ (pos 0 -ℤ cross bx by x y)
against_cross bx by x y =
    identity (minus (times (minus (n_of 0) (number bx)) (number y)) (times (minus (n_of 0) (number by)) (number x))) (minus (n_of 0) (across bx by x y)) (omega arith)

against_dot : (bx by x y : ℤ) → dot (pos 0 -ℤ bx) (pos 0 -ℤ by) x y ≡ (pos 0 -ℤ dot bx by x y)
against_dot bx by x y =
    identity (plus (times (minus (n_of 0) (number bx)) (number x)) (times (minus (n_of 0) (number by)) (number y))) (minus (n_of 0) (along bx by x y)) (omega arith)

-- what comes before what comes before another comes before that, unless the way back goes nowhere
pub ComesBefore-trans : (back u v w : Direction) → ((back.x ≡ pos 0) × (back.y ≡ pos 0) → ⊥) → ComesBefore back u v → ComesBefore back v w → ComesBefore back u w
ComesBefore-trans back u v w some (inl (u_left, v_right)) (inl (v_left, w_right)) = absurd (v_right v_left)
ComesBefore-trans back u v w some (inl (u_left, v_right)) (inr (inl (v_left, w_left), other)) = absurd (v_right v_left)
ComesBefore-trans back u v w some (inl (u_left, v_right)) (inr (inr (v_not, w_right), other)) = inl (u_left, w_right)
ComesBefore-trans back u v w some (inr (inl (u_left, v_left), one)) (inl (v_is, w_right)) = inl (u_left, w_right)
ComesBefore-trans back u v w some (inr (inl (u_left, v_left), one)) (inr (inl (v_is, w_left), other)) = inr (
  inl (u_left, w_left),
  within_half back.x back.y u.x u.y v.x v.y w.x w.y some (left_signs back u u_left).0 (left_signs back v v_left).0 (left_signs back w w_left).0 (left_signs back w w_left).1 one other,
)
ComesBefore-trans back u v w some (inr (inl (u_left, v_left), one)) (inr (inr (v_right, w_right), other)) = absurd (v_right v_left)
ComesBefore-trans back u v w some (inr (inr (u_right, v_right), one)) (inl (v_left, w_right)) = absurd (v_right v_left)
ComesBefore-trans back u v w some (inr (inr (u_right, v_right), one)) (inr (inl (v_left, w_left), other)) = absurd (v_right v_left)
ComesBefore-trans back u v w some (inr (inr (u_right, v_right), one)) (inr (inr (v_not, w_right), other)) =
    let (u_from, u_back) = right_signs back u u_right in
    let (v_from, v_back) = right_signs back v v_right in
    let (w_from, w_back) = right_signs back w w_right in
    let u_is = against_cross back.x back.y u.x u.y in
    let v_is = against_cross back.x back.y v.x v.y in
    let w_is = against_cross back.x back.y w.x w.y in
    let w_dot = against_dot back.x back.y w.x w.y in
    inr (
      inr (u_right, w_right),
      within_half (pos 0 -ℤ back.x) (pos 0 -ℤ back.y) u.x u.y v.x v.y w.x w.y (λ none. some (
        (let x = none.0 in omega (arith, ints, x)),
        (let y = none.1 in omega (arith, ints, y)),
      )) (omega (arith, ints, u_is, u_from)) (omega (arith, ints, v_is, v_from)) (omega (arith, ints, w_is, w_from))
          (λ none. (let upto = w_back (omega (arith, ints, w_is, none)) in omega (arith, ints, w_dot, upto))) one other,
    )

-- nothing comes before itself
pub ComesBefore-itself : (back u : Direction) → ¬ (ComesBefore back u u)
ComesBefore-itself back u (inl (is, isnt)) = isnt is
ComesBefore-itself back u (inr (alike, below)) =
    let none : cross u.x u.y u.x u.y ≡ pos 0 = identity (across u.x u.y u.x u.y) (n_of 0) (omega arith) in
    omega (arith, ints, below, none)

-- ---- the test

-- a direction by its parts
direction-is : (vector : Vector) (from to there : Point) → vector.x ≡ to.x -ℤ from.x → vector.y ≡ to.y -ℤ from.y → to ≡ there → direction vector ≡ direction_between from there
direction-is vector from to there x y same = ap₂ (λ (a b : ℤ). record { x = a; y = b }) x y ∙ ap (λ (point : Point). direction_between from point) same

-- what holds of the order of three vectors holds of the edges whose ends they go to
pub turns-by_vectors : (P : Type 0 → Type 0) (sorted : List Edge) (back at end other_end : Point) (place other : ℕ) (u v w : Vector) → u.x ≡ back.x -ℤ at.x → u.y ≡ back.y -ℤ at.y → v.x ≡ end.x -ℤ at.x → v.y ≡ end.y -ℤ at.y
    → w.x ≡ other_end.x -ℤ at.x → w.y ≡ other_end.y -ℤ at.y → end ≡ end_of (edge_at sorted place) → other_end ≡ end_of (edge_at sorted other) → P (ComesBefore (direction u) (direction v) (direction w)) → P (TurnsBefore sorted back at place other)
turns-by_vectors P sorted back at end other_end place other u v w ux uy vx vy wx wy is other_is holds =
    let there = direction_between at back in
    let one = direction_between at (end_of (edge_at sorted place)) in
    subst (λ (way : Direction). P (ComesBefore there one way)) (direction-is w at other_end (end_of (edge_at sorted other)) wx wy other_is)
    (subst (λ (way : Direction). P (ComesBefore there way (direction w))) (direction-is v at end (end_of (edge_at sorted place)) vx vy is)
    (subst (λ (way : Direction). P (ComesBefore way (direction v) (direction w))) (direction-is u at back back ux uy refl) holds))

-- by the parts of a sum that is above 0
pub ahead : (back way : Direction) (minus_x y : ℤ) → minus_x ≡ (pos 0 -ℤ (back.x *ℤ way.x)) → y ≡ (back.y *ℤ way.y)
    → MatchBool (lt_z minus_x y) (pos 0 <ℤ dot back.x back.y way.x way.y) (¬ (pos 0 <ℤ dot back.x back.y way.x way.y))
ahead back way minus_x y x_is y_is = go (lt_z minus_x y) refl
  where
    go : (t : Bool) → lt_z minus_x y ≡ t → MatchBool t (pos 0 <ℤ dot back.x back.y way.x way.y) (¬ (pos 0 <ℤ dot back.x back.y way.x way.y))
    go true below = omega (arith, ints, below, x_is, y_is)
    go false from = λ above. omega (arith, ints, from, x_is, y_is, above)

-- of two ways of which only one is left the left one comes before
pub before-apart : (back one other : Direction) (one_is other_is : Bool) → MatchBool one_is (IsLeft back one) (¬ (IsLeft back one)) → MatchBool other_is (IsLeft back other) (¬ (IsLeft back other)) → not (beq one_is other_is) ≡ true
    → MatchBool one_is (ComesBefore back one other) (¬ (ComesBefore back one other))
before-apart back one other true true first second apart = absurd cc
before-apart back one other true false first second apart = inl (first, second)
before-apart back one other false true first second apart = go
  where
    go : ¬ (ComesBefore back one other)
    go (inl (is, isnt)) = first is
    go (inr (inl (is, other_too), below)) = first is
    go (inr (inr (isnt, other_not), below)) = other_not second
before-apart back one other false false first second apart = absurd cc

-- of two that lie alike the first one comes before, if the second is clockwise from it
pub before-alike : (back one other : Direction) (one_is other_is : Bool) → MatchBool one_is (IsLeft back one) (¬ (IsLeft back one)) → MatchBool other_is (IsLeft back other) (¬ (IsLeft back other)) → not (beq one_is other_is) ≡ false
    → (z : ℤ) → z ≡ cross one.x one.y other.x other.y → MatchBool (lt_z z (pos 0)) (ComesBefore back one other) (¬ (ComesBefore back one other))
before-alike back one other one_is other_is first second same z is = go (lt_z z (pos 0)) refl
  where
    alike : (one_is other_is : Bool) → MatchBool one_is (IsLeft back one) (¬ (IsLeft back one)) → MatchBool other_is (IsLeft back other) (¬ (IsLeft back other)) → not (beq one_is other_is) ≡ false → AreAlike back one other
    alike true true first second same = inl (first, second)
    alike true false first second same = absurd cc
    alike false true first second same = absurd cc
    alike false false first second same = inr (first, second)

    after : pos 0 ≤ℤ z → ¬ (ComesBefore back one other)
    after from (inr (any, below)) = omega (arith, ints, is, from, below)
    after from (inl (left, right)) = apart (alike one_is other_is first second same)
      where
        apart : AreAlike back one other → ⊥
        apart (inl (both, too)) = right too
        apart (inr (none, neither)) = none left

    go : (t : Bool) → lt_z z (pos 0) ≡ t → MatchBool t (ComesBefore back one other) (¬ (ComesBefore back one other))
    go true below = inr (alike one_is other_is first second same, omega (arith, ints, is, below))
    go false from = after (omega (arith, ints, from))

-- ---- the best so far

module _ (sorted : List Edge) (used : List Bool) (back at : Point) where
  -- Of the places before this one, the best that leaves the point, or none does.
  abbrev pub IsBestBefore : ℕ → Option ℕ → Type 0
  IsBestBefore upto best =
      MatchOption best
      ((k : ℕ) → k < upto → ¬ (Leaves sorted used at k))
      (λ place. Leaves sorted used at place × (back ≢ at → (k : ℕ) → k < upto → Leaves sorted used at k → ¬ (TurnsBefore sorted back at k place)))

  -- the next place, if it doesn't leave the point
  pub best-skip : (upto : ℕ) (best : Option ℕ) → ¬ (Leaves sorted used at upto) → IsBestBefore upto best → IsBestBefore (upto + 1) best
  best-skip upto None none is = λ k within leaves. elim (cases_eq k upto) [
    | inl same ↦ none (subst (λ (n : ℕ). Leaves sorted used at n) same leaves)
    | inr differs ↦ is k (omega (arith, within, differs)) leaves
  ]
  best-skip upto (Some place) none (is, first) = (
    is,
    λ apart k within leaves before. elim (cases_eq k upto) [
      | inl same ↦ none (subst (λ (n : ℕ). Leaves sorted used at n) same leaves)
      | inr differs ↦ first apart k (omega (arith, within, differs)) leaves before
    ],
  )

  nowhere : back ≢ at → (((direction_between at back).x ≡ pos 0) × ((direction_between at back).y ≡ pos 0) → ⊥)
  nowhere apart none =
      let x_none = none.0 in
      let y_none = none.1 in
      let x : back.x ≡ at.x = omega (arith, ints, x_none) in
      let y : back.y ≡ at.y = omega (arith, ints, y_none) in
      apart (ap₂ (λ (a b : ℤ). record { x = a; y = b }) x y)

  abbrev way_to : ℕ → Direction
  way_to place = direction_between at (end_of (edge_at sorted place))

  -- the next place, if it leaves the point: the better one
  pub best-take : (upto : ℕ) (best : Option ℕ) (better : ℕ) → Leaves sorted used at upto → MatchOption best (better ≡ upto) (λ other. IsBetter sorted back at upto other better) → IsBestBefore upto best → IsBestBefore (upto + 1) (Some better)
  best-take upto None better leaves same is = subst (λ (place : ℕ). IsBestBefore (upto + 1) (Some place)) (sym same) (
    leaves,
    λ apart k within other before. elim (cases_eq k upto) [
      | inl here ↦ ComesBefore-itself (direction_between at back) (way_to upto) (subst (λ (n : ℕ). TurnsBefore sorted back at n upto) here before)
      | inr differs ↦ is k (omega (arith, within, differs)) other
    ],
  )
  best-take upto (Some place) better leaves (inl (turns, same)) (is, first) = subst (λ (place : ℕ). IsBestBefore (upto + 1) (Some place)) (sym same) (
    leaves,
    λ apart k within other before. elim (cases_eq k upto) [
      | inl here ↦ ComesBefore-itself (direction_between at back) (way_to upto) (subst (λ (n : ℕ). TurnsBefore sorted back at n upto) here before)
      | inr differs ↦ first apart k (omega (arith, within, differs)) other (ComesBefore-trans (direction_between at back) (way_to k) (way_to upto) (way_to place) (nowhere apart) before turns)
    ],
  )
  best-take upto (Some place) better leaves (inr (stays, same)) (is, first) = subst (λ (place : ℕ). IsBestBefore (upto + 1) (Some place)) (sym same) (
    is,
    λ apart k within other before. elim (cases_eq k upto) [
      | inl here ↦ stays (subst (λ (n : ℕ). TurnsBefore sorted back at n place) here before)
      | inr differs ↦ first apart k (omega (arith, within, differs)) other before
    ],
  )

  -- if none of all leaves the point from here on, the best so far is the best
  pub best-all : (upto : ℕ) (best : Option ℕ) → ((k : ℕ) → Leaves sorted used at k → k < upto) → IsBestBefore upto best
      → MatchOption best (NoneLeaves sorted used at) (λ place. IsLeftmost sorted used back at place)
  best-all upto None all is = λ k leaves. is k (all k leaves) leaves
  best-all upto (Some place) all (is, first) = record {
    leaves = is;
    first = λ apart k leaves before. first apart k (all k leaves) leaves before;
  }
