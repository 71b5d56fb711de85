-- What the tests of `passes` say of whether an edge passes a whole point.
use Rattle.std.proofs.Common.{Bool, MatchBool, arith, false, inl, inr, pos, subst, sym, true, ℕ, ℤ, ◌*ℤ◌, ◌+ℤ◌, ◌-ℤ◌, ◌<ℤ◌, ◌<◌, ◌≡◌, ◌≢◌, ◌≤ℤ◌, ◌≤◌, ◌⊎◌}
use Rattle.std.proofs.lemmas.Bool.{cases_lt}
use Rattle.std.proofs.lemmas.Int.{by_lt_z, ints}
use Rattle.plane.specs.declared.edge.Edge.{Edge}
use Rattle.noding.specs.Chains.{Passes}
use Rattle.noding.specs.Rounding.{RoundsOn}
use Rattle.noding.specs.Tests.{Crosses, IsPassed}
use Rattle.plane.specs.Ends.{reversed}
use Rattle.noding.proofs.SnapLemmas.Along.{Upto-to_end, Upto-from_start}
use Rattle.noding.proofs.SnapLemmas.Reversed.{Passes-reversed}
use Rattle.noding.proofs.SnapLemmas.Slanted.{RoundsDown, RoundsUp, Share, along_axis, corner, corner_on, down_rounds, middle, passes_share, rounds_down, rounds_up, up_rounds}

-- z is between the two
abbrev pub Within : ℤ → ℤ → ℤ → Type 0
Within from to z = (from ≤ℤ z) × (z ≤ℤ to)

-- ---- what an edge passes lies in its box

-- an edge passes nothing beside its box, nor above or below it
pub outside_x : (edge : Edge) (x y : ℤ) → edge.x0 ≤ℤ edge.x1 → ¬ (Within edge.x0 edge.x1 x) → ¬ (Passes edge x y)
outside_x edge x y right none passes = none ((Upto-from_start edge x y passes).along_x.rising right, (Upto-to_end edge x y passes).along_x.rising right)

pub outside_rising : (edge : Edge) (x y : ℤ) → edge.y0 ≤ℤ edge.y1 → ¬ (Within edge.y0 edge.y1 y) → ¬ (Passes edge x y)
outside_rising edge x y up none passes = none ((Upto-from_start edge x y passes).along_y.rising up, (Upto-to_end edge x y passes).along_y.rising up)

pub outside_falling : (edge : Edge) (x y : ℤ) → edge.y1 <ℤ edge.y0 → ¬ (Within edge.y1 edge.y0 y) → ¬ (Passes edge x y)
outside_falling edge x y down none passes =
    none ((Upto-to_end edge x y passes).along_y.falling (omega (arith, ints, down)), (Upto-from_start edge x y passes).along_y.falling (omega (arith, ints, down)))

-- ---- how far an edge goes, and how far a whole point in its box is from its start

-- on one axis, onwards and back
pub record Onwards (from to z : ℤ) (w d : ℕ) : Type 0 where
  pub goes : (to -ℤ from) ≡ pos w
  pub at : z ≡ (from +ℤ pos d)
  pub upto : d ≤ w

pub record Back (from to z : ℤ) (w d : ℕ) : Type 0 where
  pub goes : (to -ℤ from) ≡ (pos 0 -ℤ pos w)
  pub at : z ≡ (from -ℤ pos d)
  pub upto : d ≤ w

pub onwards : (from to z : ℤ) (w d : ℕ) → pos w ≡ (to -ℤ from) → pos d ≡ (z -ℤ from) → Within from to z → Onwards from to z w d
onwards from to z w d wide far within = record {
  goes = sym wide;
  at = omega (arith, ints, far);
  upto = omega (arith, ints, wide, far, within.1);
}

back : (from to z : ℤ) (w d : ℕ) → pos w ≡ (from -ℤ to) → pos d ≡ (from -ℤ z) → Within to from z → Back from to z w d
back from to z w d wide far within = record {
  goes = omega (arith, ints, wide);
  at = omega (arith, ints, far);
  upto = omega (arith, ints, wide, far, within.0);
}

pub record Ways (edge : Edge) (x y : ℤ) (w h dx dy : ℕ) : Type 0 where
  pub along_x : Onwards edge.x0 edge.x1 x w dx
  pub up : edge.y0 ≤ℤ edge.y1 → Onwards edge.y0 edge.y1 y h dy
  pub down : edge.y1 <ℤ edge.y0 → Back edge.y0 edge.y1 y h dy

pub rising : (edge : Edge) (x y : ℤ) (w h dx dy : ℕ) → Onwards edge.x0 edge.x1 x w dx → edge.y0 ≤ℤ edge.y1 → pos h ≡ (edge.y1 -ℤ edge.y0) → pos dy ≡ (y -ℤ edge.y0) → Within edge.y0 edge.y1 y → Ways edge x y w h dx dy
rising edge x y w h dx dy along_x rises tall far within = record {
  along_x = along_x;
  up = λ _. onwards edge.y0 edge.y1 y h dy tall far within;
  down = λ falls. absurd (omega (arith, ints, rises, falls));
}

pub falling : (edge : Edge) (x y : ℤ) (w h dx dy : ℕ) → Onwards edge.x0 edge.x1 x w dx → edge.y1 <ℤ edge.y0 → pos h ≡ (edge.y0 -ℤ edge.y1) → pos dy ≡ (edge.y0 -ℤ y) → Within edge.y1 edge.y0 y → Ways edge x y w h dx dy
falling edge x y w h dx dy along_x falls tall far within = record {
  along_x = along_x;
  up = λ rises. absurd (omega (arith, ints, rises, falls));
  down = λ _. back edge.y0 edge.y1 y h dy tall far within;
}

some : (n : ℕ) → n ≢ 0 → 0 < n
some n isnt = omega (arith, isnt)

module _ (edge : Edge) (x y : ℤ) (w h dx dy : ℕ) (ways : Ways edge x y w h dx dy) where
  along_x : Onwards edge.x0 edge.x1 x w dx
  along_x = ways.along_x

  up : edge.y0 ≤ℤ edge.y1 → Onwards edge.y0 edge.y1 y h dy
  up = ways.up

  down : edge.y1 <ℤ edge.y0 → Back edge.y0 edge.y1 y h dy
  down = ways.down

  -- the edge passes a point to which a share of it rounds
  by_share : {Apart : Type 0} → Share Apart w h dx dy → (edge.y0 ≤ℤ edge.y1 → Apart) → Passes edge x y
  by_share found apart =
      let rounds_x : RoundsOn found.n ((pos found.n *ℤ edge.x0) +ℤ (pos found.a *ℤ (edge.x1 -ℤ edge.x0))) x =
      subst (RoundsOn found.n ((pos found.n *ℤ edge.x0) +ℤ (pos found.a *ℤ (edge.x1 -ℤ edge.x0)))) (sym along_x.at) (up_rounds found.n found.a w dx edge.x0 (edge.x1 -ℤ edge.x0) along_x.goes found.on_x) in
      passes_share edge found.n found.a x y found.some found.share rounds_x
      (by_lt_z edge.y1 edge.y0
      (λ falls. subst (RoundsOn found.n ((pos found.n *ℤ edge.y0) +ℤ (pos found.a *ℤ (edge.y1 -ℤ edge.y0)))) (sym (down falls).at) (down_rounds found.n found.a h dy edge.y0 (edge.y1 -ℤ edge.y0) (down falls).goes found.down_y))
      (λ rises. subst (RoundsOn found.n ((pos found.n *ℤ edge.y0) +ℤ (pos found.a *ℤ (edge.y1 -ℤ edge.y0)))) (sym (up rises).at) (up_rounds found.n found.a h dy edge.y0 (edge.y1 -ℤ edge.y0) (up rises).goes (found.up_y (apart rises)))))

  off_upto : dy ≤ h
  off_upto = by_lt_z edge.y1 edge.y0 (λ falls. (down falls).upto) (λ rises. (up rises).upto)

  -- along an axis it passes all whole points of its box
  level : (w ≡ 0) ⊎ (h ≡ 0) → Passes edge x y
  level none = by_share (along_axis w h dx dy along_x.upto off_upto none) (λ _. tt)

  -- what a share of the edge rounds to on each axis
  x_up : (n a : ℕ) (p : ℤ) → p ≡ ((pos n *ℤ edge.x0) +ℤ (pos a *ℤ (edge.x1 -ℤ edge.x0))) → RoundsOn n p x → RoundsUp n a w dx
  x_up n a p is rounds = rounds_up n a w dx edge.x0 (edge.x1 -ℤ edge.x0) along_x.goes
      (subst (λ (z : ℤ). RoundsOn n z (edge.x0 +ℤ pos dx)) is (subst (RoundsOn n p) along_x.at rounds))

  y_up : (n a : ℕ) (p : ℤ) → edge.y0 ≤ℤ edge.y1 → p ≡ ((pos n *ℤ edge.y0) +ℤ (pos a *ℤ (edge.y1 -ℤ edge.y0))) → RoundsOn n p y → RoundsUp n a h dy
  y_up n a p rises is rounds = rounds_up n a h dy edge.y0 (edge.y1 -ℤ edge.y0) (up rises).goes
      (subst (λ (z : ℤ). RoundsOn n z (edge.y0 +ℤ pos dy)) is (subst (RoundsOn n p) (up rises).at rounds))

  y_down : (n a : ℕ) (p : ℤ) → edge.y1 <ℤ edge.y0 → p ≡ ((pos n *ℤ edge.y0) +ℤ (pos a *ℤ (edge.y1 -ℤ edge.y0))) → RoundsOn n p y → RoundsDown n a h dy
  y_down n a p falls is rounds = rounds_down n a h dy edge.y0 (edge.y1 -ℤ edge.y0) (down falls).goes
      (subst (λ (z : ℤ). RoundsOn n z (edge.y0 -ℤ pos dy)) is (subst (RoundsOn n p) (down falls).at rounds))

  module _ (wide : 0 < w) (high : 0 < h) where
    crosses-Passes : (rises : Bool) → MatchBool rises (edge.y0 ≤ℤ edge.y1) (edge.y1 <ℤ edge.y0) → Crosses rises w h dx dy → Passes edge x y
    crosses-Passes true is test = by_share (middle w h dx dy wide high along_x.upto off_upto (omega (arith, test.low)) test.high) (λ _. omega (arith, test.low))
    crosses-Passes false is test = by_share (middle w h dx dy wide high along_x.upto off_upto (omega (arith, test.low)) test.high) (λ rises. absurd (omega (arith, ints, is, rises)))

    Passes-crosses : (rises : Bool) → MatchBool rises (edge.y0 ≤ℤ edge.y1) (edge.y1 <ℤ edge.y0) → Passes edge x y → Crosses rises w h dx dy
    Passes-crosses true is (point, (a, at), rounds) =
        let on_x = x_up point.n a point.x at.x rounds.along_x in
        let on_y = y_up point.n a point.y is at.y rounds.along_y in
        let low = corner point.n a w h dx dy wide on_x.from on_y.upto in
        record { low = omega (arith, low); high = corner point.n a h w dy dx high on_y.from on_x.upto }
    Passes-crosses false is (point, (a, at), rounds) =
        let on_x = x_up point.n a point.x at.x rounds.along_x in
        let on_y = y_down point.n a point.y is at.y rounds.along_y in
        let low = corner_on point.n a w h dx dy point.positive on_x.from on_y.upto in
        record { low = omega (arith, low); high = corner point.n a h w dy dx high (omega (arith, on_y.from)) on_x.upto }

  -- the edge passes the point exactly where the test says so
  pub passed_tested : (rises r : Bool) → MatchBool rises (edge.y0 ≤ℤ edge.y1) (edge.y1 <ℤ edge.y0) → MatchBool r (IsPassed rises w h dx dy) (¬ (IsPassed rises w h dx dy)) → MatchBool r (Passes edge x y) (¬ (Passes edge x y))
  passed_tested rises true is (inl none) = level none
  passed_tested rises true is (inr test) = elim (cases_lt 0 w) [
    | inl wide ↦ elim (cases_lt 0 h) [ inl high ↦ crosses-Passes wide high rises is test | inr none ↦ level (inr (omega (arith, none))) ]
    | inr none ↦ level (inl (omega (arith, none)))
  ]
  passed_tested rises false is test = λ passes. test (inr (Passes-crosses (some w (λ none. test (inl (inl none)))) (some h (λ none. test (inl (inr none)))) rises is passes))

-- ---- an edge and its reversed one

-- an edge passes what the reversed one passes
pub reversed_tested : (edge turned : Edge) (x y : ℤ) (r : Bool) → turned ≡ reversed edge → MatchBool r (Passes turned x y) (¬ (Passes turned x y)) → MatchBool r (Passes edge x y) (¬ (Passes edge x y))
reversed_tested edge turned x y true is test = Passes-reversed (reversed edge) x y (subst (λ (e : Edge). Passes e x y) is test)
reversed_tested edge turned x y false is test = λ passes. test (subst (λ (e : Edge). Passes e x y) (sym is) (Passes-reversed edge x y passes))
