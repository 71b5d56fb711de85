-- Comparisons of heights that are worth the same: less a number on both sides, or by a positive factor.
use Rattle.std.proofs.Common.{◌≡◌, ◌≢◌, ℤ, pos, ◌+ℤ◌, ◌-ℤ◌, ◌*ℤ◌, ◌≤ℤ◌, ◌<ℤ◌, arith, refl, ap, sym, ◌∙◌}
use Rattle.std.specs.Cmp.{int_cmp_is, int_cmp_total}
use Rattle.std.specs.Int.{int_min, int_max}
use Rattle.std.specs.Ordering.{MatchOrdering, int_cmp, ordering_reverse}
use Rattle.std.specs.declared.cmp.Ordering.{Ordering}
use Rattle.std.specs.declared.cmp.Ordering.TheVariants.{Less, Equal, Greater}
use Rattle.std.proofs.lemmas.Cmp.{int_ranked}
use Rattle.std.proofs.lemmas.Int.{ints, clamps, by_lt_z}
use Rattle.plane.specs.declared.edge.Edge.{Edge}
use Rattle.plane.specs.declared.point.Point.{Point}
use Rattle.plane.specs.SweepLine.Heights.{run, rise, height_by_run, height_by_runs}
use Rattle.plane.proofs.MeetLemmas.Identities.{number, plus, minus, times, identity}
use Rattle.plane.proofs.SweepLineLemmas.Gaps.{quotient_above}

-- ---- what a comparison says

pub says_less : (a b : ℤ) → a <ℤ b → int_cmp a b ≡ Less
says_less a b below = sym (int_cmp_is a b Less below)

pub says_greater : (a b : ℤ) → b <ℤ a → int_cmp a b ≡ Greater
says_greater a b above = sym (int_cmp_is a b Greater above)

pub not_greater : (a b : ℤ) → int_cmp a b ≢ Greater → a ≤ℤ b
not_greater a b says = by_lt_z b a (λ above. absurd (says (says_greater a b above))) (λ upto. upto)

-- ---- comparisons that are worth the same

ranked : (a b c d : ℤ) (r : Ordering) → (a <ℤ b → c <ℤ d) → (a ≡ b → c ≡ d) → (b <ℤ a → d <ℤ c)
    → MatchOrdering r (a <ℤ b) (a ≡ b) (b <ℤ a) → MatchOrdering r (c <ℤ d) (c ≡ d) (d <ℤ c)
ranked a b c d Less less equal greater holds = less holds
ranked a b c d Equal less equal greater holds = equal holds
ranked a b c d Greater less equal greater holds = greater holds

alike : (a b c d : ℤ) → (a <ℤ b → c <ℤ d) → (a ≡ b → c ≡ d) → (b <ℤ a → d <ℤ c) → int_cmp a b ≡ int_cmp c d
alike a b c d less equal greater = int_cmp_is c d (int_cmp a b) (ranked a b c d (int_cmp a b) less equal greater (int_ranked a b (int_cmp a b) refl))

shifted_below : (c a b : ℤ) → a <ℤ b → (c +ℤ a) <ℤ (c +ℤ b)
shifted_below c a b below = omega (arith, ints, below)

-- two numbers stand to each other as they do with a number added to both
pub shifted_cmp : (c a b : ℤ) → int_cmp a b ≡ int_cmp (c +ℤ a) (c +ℤ b)
shifted_cmp c a b = alike a b (c +ℤ a) (c +ℤ b) (shifted_below c a b) (λ same. ap (λ (z : ℤ). c +ℤ z) same) (shifted_below c b a)

apart : (k a b : ℤ) → (k *ℤ (a -ℤ b)) ≡ ((a *ℤ k) -ℤ (b *ℤ k))
apart k a b = identity (times (number k) (minus (number a) (number b))) (minus (times (number a) (number k)) (times (number b) (number k))) (omega arith)

never : (k a b : ℤ) → pos 0 <ℤ k → a <ℤ b → (b *ℤ k) ≤ℤ (a *ℤ k) → ⊥
never k a b some below upto =
    let wide : pos 0 ≤ℤ ((a *ℤ k) -ℤ (b *ℤ k)) = omega (arith, ints, upto) in
    let from = quotient_above k (a -ℤ b) some (rw (apart k a b) wide) in
    omega (arith, ints, from, below)

times_below : (k a b : ℤ) → pos 0 <ℤ k → a <ℤ b → (a *ℤ k) <ℤ (b *ℤ k)
times_below k a b some below = by_lt_z (a *ℤ k) (b *ℤ k) (λ lower. lower) (λ upto. absurd (never k a b some below upto))

-- and as they do by a positive factor
pub times_cmp : (k a b : ℤ) → pos 0 <ℤ k → int_cmp a b ≡ int_cmp (a *ℤ k) (b *ℤ k)
times_cmp k a b some = alike a b (a *ℤ k) (b *ℤ k) (times_below k a b some) (λ same. ap (λ (z : ℤ). z *ℤ k) same) (times_below k b a some)

-- ---- an edge and a point

height-from_start : (edge : Edge) (x : ℤ) → ((edge.y0 *ℤ run edge) +ℤ (rise edge *ℤ (x -ℤ edge.x0))) ≡ height_by_run edge x
height-from_start edge x =
    identity (plus (times (number edge.y0) (minus (number edge.x1) (number edge.x0))) (times (minus (number edge.y1) (number edge.y0)) (minus (number x) (number edge.x0))))
    (plus (times (number edge.y0) (minus (number edge.x1) (number x))) (times (number edge.y1) (minus (number x) (number edge.x0))))
    (omega arith)

point-from_start : (edge : Edge) (y : ℤ) → ((edge.y0 *ℤ run edge) +ℤ ((y -ℤ edge.y0) *ℤ run edge)) ≡ (y *ℤ run edge)
point-from_start edge y =
    identity (plus (times (number edge.y0) (minus (number edge.x1) (number edge.x0))) (times (minus (number y) (number edge.y0)) (minus (number edge.x1) (number edge.x0))))
    (times (number y) (minus (number edge.x1) (number edge.x0)))
    (omega arith)

-- how an edge's height stands to a point's, by how far both are above the edge's start
pub cmp-from_start : (edge : Edge) (point : Point)
    → int_cmp (rise edge *ℤ (point.x -ℤ edge.x0)) ((point.y -ℤ edge.y0) *ℤ run edge) ≡ int_cmp (height_by_run edge point.x) (point.y *ℤ run edge)
cmp-from_start edge point =
    shifted_cmp (edge.y0 *ℤ run edge) (rise edge *ℤ (point.x -ℤ edge.x0)) ((point.y -ℤ edge.y0) *ℤ run edge)
    ∙ ap (λ (z : ℤ). int_cmp z ((edge.y0 *ℤ run edge) +ℤ ((point.y -ℤ edge.y0) *ℤ run edge))) (height-from_start edge point.x)
    ∙ ap (λ (z : ℤ). int_cmp (height_by_run edge point.x) z) (point-from_start edge point.y)

-- ---- two edges, where one of them begins or ends

-- an edge's height at its ends
pub at_begin : (edge : Edge) → height_by_run edge edge.x0 ≡ (edge.y0 *ℤ run edge)
at_begin edge =
    identity (plus (times (number edge.y0) (minus (number edge.x1) (number edge.x0))) (times (number edge.y1) (minus (number edge.x0) (number edge.x0))))
    (times (number edge.y0) (minus (number edge.x1) (number edge.x0)))
    (omega arith)

at_end : (edge : Edge) → height_by_run edge edge.x1 ≡ (edge.y1 *ℤ run edge)
at_end edge =
    identity (plus (times (number edge.y0) (minus (number edge.x1) (number edge.x1))) (times (number edge.y1) (minus (number edge.x1) (number edge.x0))))
    (times (number edge.y1) (minus (number edge.x1) (number edge.x0)))
    (omega arith)

turned : (y m n : ℤ) → ((y *ℤ m) *ℤ n) ≡ ((y *ℤ n) *ℤ m)
turned y m n = identity (times (times (number y) (number m)) (number n)) (times (times (number y) (number n)) (number m)) (omega arith)

-- how the one's height stands to the other's where the other has a point, if it goes to the right, is told by that point
pub at_point : (one other : Edge) (point : Point) (x y : ℤ) (r : Ordering) → other.x0 <ℤ other.x1 → height_by_run other x ≡ (y *ℤ run other) → point.x ≡ x → point.y ≡ y
    → r ≡ int_cmp (height_by_run one point.x) (point.y *ℤ run one) → r ≡ int_cmp (height_by_runs one other x) (height_by_runs other one x)
at_point one other point x y r onwards height x_is y_is told =
    told
    ∙ ap (λ (z : ℤ). int_cmp (height_by_run one z) (point.y *ℤ run one)) x_is
    ∙ ap (λ (z : ℤ). int_cmp (height_by_run one x) (z *ℤ run one)) y_is
    ∙ times_cmp (run other) (height_by_run one x) (y *ℤ run one) (omega (arith, ints, onwards))
    ∙ ap (λ (z : ℤ). int_cmp (height_by_runs one other x) z) (turned y (run one) (run other) ∙ ap (λ (z : ℤ). z *ℤ run one) (sym height))

-- and the other way round
at_point_back : (one other : Edge) (point : Point) (x y : ℤ) (r : Ordering) → one.x0 <ℤ one.x1 → height_by_run one x ≡ (y *ℤ run one) → point.x ≡ x → point.y ≡ y
    → r ≡ int_cmp (height_by_run other point.x) (point.y *ℤ run other) → ordering_reverse r ≡ int_cmp (height_by_runs one other x) (height_by_runs other one x)
at_point_back one other point x y r onwards height x_is y_is told =
    ap ordering_reverse (at_point other one point x y r onwards height x_is y_is told)
    ∙ sym (int_cmp_total.antisymm (height_by_runs one other x) (height_by_runs other one x))

-- how the heights of two edges stand to each other
abbrev heights : Edge → Edge → ℤ → Ordering
heights one other x = int_cmp (height_by_runs one other x) (height_by_runs other one x)

-- at the first x that both span the later one's start tells it
pub starts-later : (one other : Edge) (point : Point) (r : Ordering) → one.x0 ≤ℤ other.x0 → other.x0 <ℤ other.x1 → point.x ≡ other.x0 → point.y ≡ other.y0
    → r ≡ int_cmp (height_by_run one point.x) (point.y *ℤ run one)
    → r ≡ int_cmp (height_by_runs one other (int_max one.x0 other.x0)) (height_by_runs other one (int_max one.x0 other.x0))
starts-later one other point r later onwards x_is y_is told =
    let is : other.x0 ≡ int_max one.x0 other.x0 = omega (arith, ints, clamps, later) in
    at_point one other point other.x0 other.y0 r onwards (at_begin other) x_is y_is told ∙ ap (heights one other) is

pub starts-earlier : (one other : Edge) (point : Point) (r : Ordering) → other.x0 ≤ℤ one.x0 → one.x0 <ℤ one.x1 → point.x ≡ one.x0 → point.y ≡ one.y0
    → r ≡ int_cmp (height_by_run other point.x) (point.y *ℤ run other)
    → ordering_reverse r ≡ int_cmp (height_by_runs one other (int_max one.x0 other.x0)) (height_by_runs other one (int_max one.x0 other.x0))
starts-earlier one other point r earlier onwards x_is y_is told =
    let is : one.x0 ≡ int_max one.x0 other.x0 = omega (arith, ints, clamps, earlier) in
    at_point_back one other point one.x0 one.y0 r onwards (at_begin one) x_is y_is told ∙ ap (heights one other) is

-- at the last one the end of the one that ends first
pub ends-earlier : (one other : Edge) (point : Point) (r : Ordering) → other.x1 <ℤ one.x1 → other.x0 <ℤ other.x1 → point.x ≡ other.x1 → point.y ≡ other.y1
    → r ≡ int_cmp (height_by_run one point.x) (point.y *ℤ run one)
    → r ≡ int_cmp (height_by_runs one other (int_min one.x1 other.x1)) (height_by_runs other one (int_min one.x1 other.x1))
ends-earlier one other point r earlier onwards x_is y_is told =
    let is : other.x1 ≡ int_min one.x1 other.x1 = omega (arith, ints, clamps, earlier) in
    at_point one other point other.x1 other.y1 r onwards (at_end other) x_is y_is told ∙ ap (heights one other) is

pub ends-later : (one other : Edge) (point : Point) (r : Ordering) → one.x1 ≤ℤ other.x1 → one.x0 <ℤ one.x1 → point.x ≡ one.x1 → point.y ≡ one.y1
    → r ≡ int_cmp (height_by_run other point.x) (point.y *ℤ run other)
    → ordering_reverse r ≡ int_cmp (height_by_runs one other (int_min one.x1 other.x1)) (height_by_runs other one (int_min one.x1 other.x1))
ends-later one other point r later onwards x_is y_is told =
    let is : one.x1 ≡ int_min one.x1 other.x1 = omega (arith, ints, clamps, later) in
    at_point_back one other point one.x1 one.y1 r onwards (at_end one) x_is y_is told ∙ ap (heights one other) is
