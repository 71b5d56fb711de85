-- Edges that meet only at common ends don't cross.
use Rattle.std.proofs.Common.{◌≡◌, ℕ, ◌+◌, ◌*◌, ◌<◌, ℤ, pos, ◌+ℤ◌, ◌-ℤ◌, ◌*ℤ◌, ◌≤ℤ◌, ◌<ℤ◌, Bool, true, false, refl, arith, ap, sym, subst, ◌∙◌}
use Rattle.std.specs.Int.Signed.{lt_z}
use Rattle.std.proofs.lemmas.Int.{ints, by_lt_z}
use Rattle.std.proofs.Math.Nat.{mul-le-mul_left}
use Rattle.plane.specs.declared.edge.Edge.{Edge}
use Rattle.plane.specs.Meet.Edges.{RationalPoint}
use Rattle.plane.specs.SweepLine.Crossings.{Cross}
use Rattle.plane.specs.SweepLine.Heights.{rightwards, run, height_by_run, height_by_runs, Spans}
use Rattle.plane.proofs.MeetLemmas.Identities.{Term, number, plus, minus, times, same_of, at_most_of, identity}
use Rattle.plane.proofs.SweepLineLemmas.Gaps.{gap}
use Rattle.plane.proofs.SweepLineLemmas.Rightwards.{rightwards-left, rightwards-right, rightwards-same}
use Rattle.plane.specs.Ends.{reversed}
use Rattle.overlay.proofs.FillLemmas.Level.{MeetOnly, level-same}
use Rattle.noding.proofs.SnapLemmas.Hobby.Ends.{reverse_meet_one, exchange_meet}
use Rattle.noding.proofs.SnapLemmas.Numbers.{n_of, below, below_of, natural}
use Rattle.noding.proofs.SnapLemmas.Reversed.{IsOf-reversed}
use Rattle.noding.proofs.SnapLemmas.Counted.{height_at}

-- ---- from either end

-- the reversed edge meets another one as the edge does
pub MeetOnly-reversed : (one other : Edge) → MeetOnly one other → MeetOnly (reversed one) other
MeetOnly-reversed one other meet point of of_other = reverse_meet_one (reversed one) other point (meet point (IsOf-reversed (reversed one) point of) of_other)

-- two edges meet whichever is named first
pub MeetOnly-exchanged : (one other : Edge) → MeetOnly one other → MeetOnly other one
MeetOnly-exchanged one other meet point of of_other = exchange_meet other one point (meet point of_other of)

-- what holds of an edge and of the reversed one holds of the one that goes rightwards
by_direction : (P : Edge → Type 0) (edge : Edge) → P edge → P (reversed edge) → P (rightwards edge)
by_direction P edge same back = by (lt_z edge.x1 edge.x0) refl
  where
    by : (t : Bool) → lt_z edge.x1 edge.x0 ≡ t → P (rightwards edge)
    by true e = subst P (sym (rightwards-left edge e)) back
    by false e = subst P (sym (rightwards-right edge e)) same

-- so an edge turned rightwards meets another one as the edge does
pub MeetOnly-rightwards : (one other : Edge) → MeetOnly one other → MeetOnly (rightwards one) other
MeetOnly-rightwards one other meet = by_direction (λ edge. MeetOnly edge other) one meet (MeetOnly-reversed one other meet)

-- ---- a mean of two x's

-- h parts of l and g parts of r
abbrev between : (g h : ℕ) → 0 < g → ℤ → ℤ → RationalPoint
between g h some l r = record {
  n = g + h;
  x = (pos h *ℤ l) +ℤ (pos g *ℤ r);
  y = pos 0;
  positive = omega (arith, some);
}

-- the height there is the same mean of the heights
height_between : (g h : ℕ) (l r x0 x1 y0 y1 w : ℤ) → (((y0 *ℤ ((pos (g + h) *ℤ x1) -ℤ ((pos h *ℤ l) +ℤ (pos g *ℤ r)))) +ℤ (y1 *ℤ (((pos h *ℤ l) +ℤ (pos g *ℤ r)) -ℤ (pos (g + h) *ℤ x0)))) *ℤ w)
    ≡ ((pos h *ℤ (((y0 *ℤ (x1 -ℤ l)) +ℤ (y1 *ℤ (l -ℤ x0))) *ℤ w)) +ℤ (pos g *ℤ (((y0 *ℤ (x1 -ℤ r)) +ℤ (y1 *ℤ (r -ℤ x0))) *ℤ w)))
height_between g h l r x0 x1 y0 y1 w =
    let x = plus (times (n_of h) (number l)) (times (n_of g) (number r)) in
    let height : Term → Term = λ z. times (plus (times (number y0) (minus (number x1) z)) (times (number y1) (minus z (number x0)))) (number w) in
    identity (times (plus (times (number y0) (minus (times (n_of (g + h)) (number x1)) x)) (times (number y1) (minus x (times (n_of (g + h)) (number x0))))) (number w))
    (plus (times (n_of h) (height (number l))) (times (n_of g) (height (number r))))
    (omega arith)

-- by these parts what is below by g and what is above by h make up for each other
balance : (g h : ℕ) (al ar bl br : ℤ) → (bl -ℤ al) ≡ pos g → (ar -ℤ br) ≡ pos h → ((pos h *ℤ al) +ℤ (pos g *ℤ ar)) ≡ ((pos h *ℤ bl) +ℤ (pos g *ℤ br))
balance g h al ar bl br below above =
    let one = ap (λ k. h * k) (same_of (minus (number bl) (number al)) (n_of g) below) in
    let two = ap (λ k. g * k) (same_of (minus (number ar) (number br)) (n_of h) above) in
    identity (plus (times (n_of h) (number al)) (times (n_of g) (number ar))) (plus (times (n_of h) (number bl)) (times (n_of g) (number br))) (omega (arith, one, two))

-- it is strictly between what both are between
behind : (g h : ℕ) (l r x : ℤ) → 0 < g → 0 < h → x ≤ℤ l → x ≤ℤ r → ¬ (l ≡ r) → (pos (g + h) *ℤ x) <ℤ ((pos h *ℤ l) +ℤ (pos g *ℤ r))
behind g h l r x some some_too first second differ =
    let weak = mul-le-mul_left h (at_most_of (number x) (number l) first) in
    let weak_too = mul-le-mul_left g (at_most_of (number x) (number r) second) in
    let all = times (n_of (g + h)) (number x) in
    let mean = plus (times (n_of h) (number l)) (times (n_of g) (number r)) in
    by_lt_z l r
    (λ up. let strict = mul-le-mul_left g (below_of (number x) (number r) (omega (arith, ints, first, up))) in below all mean (omega (arith, weak, strict, some)))
    (λ down.
    let less : r <ℤ l = by_lt_z r l (λ is. is) (λ back. absurd (differ (omega (arith, ints, down, back)))) in
    let strict = mul-le-mul_left h (below_of (number x) (number l) (omega (arith, ints, second, less))) in below all mean (omega (arith, weak_too, strict, some_too)))

-- and before what both are before
before : (g h : ℕ) (l r x : ℤ) → 0 < g → 0 < h → l ≤ℤ x → r ≤ℤ x → ¬ (l ≡ r) → ((pos h *ℤ l) +ℤ (pos g *ℤ r)) <ℤ (pos (g + h) *ℤ x)
before g h l r x some some_too first second differ =
    let weak = mul-le-mul_left h (at_most_of (number l) (number x) first) in
    let weak_too = mul-le-mul_left g (at_most_of (number r) (number x) second) in
    let all = times (n_of (g + h)) (number x) in
    let mean = plus (times (n_of h) (number l)) (times (n_of g) (number r)) in
    by_lt_z l r
    (λ up. let strict = mul-le-mul_left h (below_of (number l) (number x) (omega (arith, ints, second, up))) in below mean all (omega (arith, weak_too, strict, some_too)))
    (λ down.
    let less : r <ℤ l = by_lt_z r l (λ is. is) (λ back. absurd (differ (omega (arith, ints, down, back)))) in
    let strict = mul-le-mul_left g (below_of (number r) (number x) (omega (arith, ints, first, less))) in below mean all (omega (arith, weak, strict, some)))

-- ---- edges that go rightwards

-- both of two x's are the edge's
record Both (edge : Edge) (l r : ℤ) : Type 0 where
  -- only an edge that goes rightwards is below or above another
  pub onwards : edge.x0 <ℤ edge.x1
  pub from : edge.x0 ≤ℤ l
  pub from_too : edge.x0 ≤ℤ r
  pub upto : l ≤ℤ edge.x1
  pub upto_too : r ≤ℤ edge.x1

-- the one isn't below the other at one x and above it at another: in between they would be as high
never_opposite : (one other : Edge) (l r : ℤ) → MeetOnly one other → Both one l r → Both other l r → height_by_runs one other l <ℤ height_by_runs other one l → height_by_runs other one r <ℤ height_by_runs one other r → ⊥
never_opposite one other l r meet both both_too below above =
    let low = natural (height_by_runs other one l -ℤ height_by_runs one other l) (omega (arith, ints, below)) in
    let high = natural (height_by_runs one other r -ℤ height_by_runs other one r) (omega (arith, ints, above)) in
    let low_is = low.is in
    let high_is = high.is in
    let g = low.k in
    let h = high.k in
    let some : 0 < g = omega (arith, ints, below, low_is) in
    let some_too : 0 < h = omega (arith, ints, above, high_is) in
    let differ : ¬ (l ≡ r) = λ same.
    (let there : height_by_runs one other r <ℤ height_by_runs other one r = subst (λ (x : ℤ). height_by_runs one other x <ℤ height_by_runs other one x) same below in
    omega (arith, ints, there, above)) in
    let level : (height_at one (between g h some l r) *ℤ run other) ≡ (height_at other (between g h some l r) *ℤ run one) =
    height_between g h l r one.x0 one.x1 one.y0 one.y1 (run other)
    ∙ balance g h (height_by_runs one other l) (height_by_runs one other r) (height_by_runs other one l) (height_by_runs other one r) low_is high_is
    ∙ sym (height_between g h l r other.x0 other.x1 other.y0 other.y1 (run one)) in
    let from = behind g h l r one.x0 some some_too both.from both.from_too differ in
    let upto = before g h l r one.x1 some some_too both.upto both.upto_too differ in
    let same = level-same one other (between g h some l r) meet both.onwards both_too.onwards (record { from = omega (arith, ints, from); upto = omega (arith, ints, upto) })
    (behind g h l r other.x0 some some_too both_too.from both_too.from_too differ) (before g h l r other.x1 some some_too both_too.upto both_too.upto_too differ) level in
    let there : height_by_runs one one l <ℤ height_by_runs one one l = subst (λ (edge : Edge). height_by_runs one edge l <ℤ height_by_runs edge one l) (sym same) below in
    omega (arith, ints, there)

-- ---- any edges

-- a vertical edge or a point is never below or above
flat : (x0 x1 y0 y1 x : ℤ) → x0 ≤ℤ x → x ≤ℤ x1 → x1 ≤ℤ x0 → ((y0 *ℤ (x1 -ℤ x)) +ℤ (y1 *ℤ (x -ℤ x0))) ≡ pos 0
flat x0 x1 y0 y1 x from upto back =
    let right : (x1 -ℤ x) ≡ pos 0 = omega (arith, ints, from, upto, back) in
    let left : (x -ℤ x0) ≡ pos 0 = omega (arith, ints, from, upto, back) in
    ap (λ z. (y0 *ℤ z) +ℤ (y1 *ℤ (x -ℤ x0))) right
    ∙ ap (λ z. (y0 *ℤ pos 0) +ℤ (y1 *ℤ z)) left
    ∙ identity (plus (times (number y0) (n_of 0)) (times (number y1) (n_of 0))) (n_of 0) (omega arith)

-- products by 0
zero_times : (z w : ℤ) → z ≡ pos 0 → (z *ℤ w) ≡ pos 0
zero_times z w is = ap (λ k. k *ℤ w) is ∙ identity (times (n_of 0) (number w)) (n_of 0) (omega arith)

times_zero : (z w : ℤ) → w ≡ pos 0 → (z *ℤ w) ≡ pos 0
times_zero z w is = ap (λ k. z *ℤ k) is ∙ identity (times (number z) (n_of 0)) (n_of 0) (omega arith)

-- so it is as high as any edge, by cross-multiplying
level-flat : (one other : Edge) (x : ℤ) → one.x0 ≤ℤ x → x ≤ℤ one.x1 → one.x1 ≤ℤ one.x0 → height_by_runs one other x ≡ height_by_runs other one x
level-flat one other x from upto back =
    let none : run one ≡ pos 0 = omega (arith, ints, from, upto, back) in
    zero_times (height_by_run one x) (run other) (flat one.x0 one.x1 one.y0 one.y1 x from upto back)
    ∙ sym (times_zero (height_by_run other x) (run one) none)

onwards : (one other : Edge) (x : ℤ) → one.x0 ≤ℤ x → x ≤ℤ one.x1 → ¬ (height_by_runs one other x ≡ height_by_runs other one x) → one.x0 <ℤ one.x1
onwards one other x from upto differ = by_lt_z one.x0 one.x1 (λ some. some) (λ back. absurd (differ (level-flat one other x from upto back)))

-- edges that meet only at common ends don't cross
pub uncrossed : (one other : Edge) → MeetOnly one other → ¬ (Cross one other)
uncrossed one other meet cross =
    let p = rightwards one in
    let q = rightwards other in
    let l = cross.below in
    let r = cross.above in
    let below = cross.is_below in
    let above = cross.is_above in
    let lower : height_by_runs p q l <ℤ height_by_runs q p l = below.lower in
    let higher : height_by_runs q p r <ℤ height_by_runs p q r = above.lower in
    let some = onwards p q l below.spanned.from below.spanned.upto (λ same. omega (arith, ints, same, lower)) in
    let some_too = onwards q p l below.other_spanned.from below.other_spanned.upto (λ same. omega (arith, ints, same, lower)) in
    let turned = MeetOnly-rightwards one other meet in
    never_opposite p q l r (MeetOnly-exchanged q p (MeetOnly-rightwards other p (MeetOnly-exchanged p other turned)))
    (record {
      onwards = some;
      from = below.spanned.from;
      from_too = above.other_spanned.from;
      upto = below.spanned.upto;
      upto_too = above.other_spanned.upto;
    })
    (record {
      onwards = some_too;
      from = below.other_spanned.from;
      from_too = above.spanned.from;
      upto = below.other_spanned.upto;
      upto_too = above.spanned.upto;
    })
    lower higher

-- ---- what not to cross means for heights

-- at no x that both span g is below r, if it is above it at another
abbrev pub Uncrossed : Edge → Edge → Type 0
Uncrossed r g =
    (a b : ℤ) → r.x0 ≤ℤ a → a ≤ℤ r.x1 → g.x0 ≤ℤ a → a ≤ℤ g.x1 → r.x0 ≤ℤ b → b ≤ℤ r.x1 → g.x0 ≤ℤ b → b ≤ℤ g.x1
    → gap r g a <ℤ pos 0 → gap r g b ≤ℤ pos 0

-- an edge that doesn't cross one that goes rightwards, itself turned rightwards
pub uncrossed_from : (edge g : Edge) → g.x0 <ℤ g.x1 → ¬ (Cross edge g) → Uncrossed (rightwards edge) g
uncrossed_from edge g onwards none a b a_from a_upto a_in a_to b_from b_upto b_in b_to less =
    by_lt_z (pos 0) (gap (rightwards edge) g b) (λ above. absurd (none (cross above))) (λ upto. upto)
  where
    same : rightwards g ≡ g
    same = rightwards-same g onwards

    spans : (x : ℤ) → g.x0 ≤ℤ x → x ≤ℤ g.x1 → Spans g x
    spans x after before = record {
      from = subst (λ (t : Edge). t.x0 ≤ℤ x) (sym same) after;
      upto = subst (λ (t : Edge). x ≤ℤ t.x1) (sym same) before;
    }

    cross : pos 0 <ℤ gap (rightwards edge) g b → Cross edge g
    cross above = record {
      below = b;
      above = a;
      is_below = record {
        spanned = record { from = b_from; upto = b_upto };
        other_spanned = spans b b_in b_to;
        lower = subst (λ (t : Edge). height_by_runs (rightwards edge) t b <ℤ height_by_runs t (rightwards edge) b) (sym same) (omega (arith, ints, above));
      };
      is_above = record {
        spanned = spans a a_in a_to;
        other_spanned = record { from = a_from; upto = a_upto };
        lower = subst (λ (t : Edge). height_by_runs t (rightwards edge) a <ℤ height_by_runs (rightwards edge) t a) (sym same) (omega (arith, ints, less));
      };
    }

-- the same of two edges that go rightwards
pub uncrossed_onwards : (one other : Edge) → one.x0 <ℤ one.x1 → other.x0 <ℤ other.x1 → ¬ (Cross one other) → Uncrossed one other
uncrossed_onwards one other some some_too none = subst (λ (r : Edge). Uncrossed r other) (rightwards-same one some) (uncrossed_from one other some_too none)
