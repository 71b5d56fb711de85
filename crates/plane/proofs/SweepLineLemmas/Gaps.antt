-- How far one edge is above another at an x: a linear function of it, so that what holds at the two ends of a stretch
-- holds between them.
use Rattle.std.proofs.Common.{◌≡◌, ℤ, pos, negsuc, ◌+ℤ◌, ◌-ℤ◌, ◌*ℤ◌, ◌≤ℤ◌, ◌<ℤ◌, arith, ap, sym, subst, ◌∙◌}
use Rattle.std.proofs.lemmas.Int.{ints, by_lt_z}
use Rattle.plane.specs.declared.edge.Edge.{Edge}
use Rattle.plane.specs.SweepLine.Heights.{run, rise, height_by_run, height_by_runs}
use Rattle.plane.proofs.MeetLemmas.Identities.{number, plus, minus, times, identity, unscaled}

-- how far the other is above the one, times both runs
abbrev pub gap : Edge → Edge → ℤ → ℤ
gap one other x = height_by_runs other one x -ℤ height_by_runs one other x

-- its height at x 0, times its run
abbrev pub base : Edge → ℤ
base edge = (edge.y0 *ℤ edge.x1) -ℤ (edge.y1 *ℤ edge.x0)

height-linear : (edge : Edge) (x : ℤ) → height_by_run edge x ≡ (rise edge *ℤ x) +ℤ base edge
height-linear edge x =
    identity (plus (times (number edge.y0) (minus (number edge.x1) (number x))) (times (number edge.y1) (minus (number x) (number edge.x0))))
    (plus (times (minus (number edge.y1) (number edge.y0)) (number x)) (minus (times (number edge.y0) (number edge.x1)) (times (number edge.y1) (number edge.x0))))
    (omega arith)

-- the gap as a linear function
abbrev pub slope : Edge → Edge → ℤ
slope one other = (rise other *ℤ run one) -ℤ (rise one *ℤ run other)

abbrev pub start : Edge → Edge → ℤ
start one other = (base other *ℤ run one) -ℤ (base one *ℤ run other)

difference-linear : (a b m c d n x : ℤ) → ((((c *ℤ x) +ℤ d) *ℤ m) -ℤ (((a *ℤ x) +ℤ b) *ℤ n)) ≡ ((((c *ℤ m) -ℤ (a *ℤ n)) *ℤ x) +ℤ ((d *ℤ m) -ℤ (b *ℤ n)))
difference-linear a b m c d n x =
    identity (minus (times (plus (times (number c) (number x)) (number d)) (number m)) (times (plus (times (number a) (number x)) (number b)) (number n)))
    (plus (times (minus (times (number c) (number m)) (times (number a) (number n))) (number x)) (minus (times (number d) (number m)) (times (number b) (number n))))
    (omega arith)

pub gap-linear : (one other : Edge) (x : ℤ) → gap one other x ≡ (slope one other *ℤ x) +ℤ start one other
gap-linear one other x =
    ap (λ h. (h *ℤ run one) -ℤ (height_by_run one x *ℤ run other)) (height-linear other x)
    ∙ ap (λ h. (((rise other *ℤ x) +ℤ base other) *ℤ run one) -ℤ (h *ℤ run other)) (height-linear one x)
    ∙ difference-linear (rise one) (base one) (run one) (rise other) (base other) (run other) x

rising : (p q l r : ℤ) → ((p *ℤ r) +ℤ q) ≡ (((p *ℤ l) +ℤ q) +ℤ (p *ℤ (r -ℤ l)))
rising p q l r =
    identity (plus (times (number p) (number r)) (number q)) (plus (plus (times (number p) (number l)) (number q)) (times (number p) (minus (number r) (number l)))) (omega arith)

-- how far it rises from one x to another
pub gap-rising : (one other : Edge) (l r : ℤ) → gap one other r ≡ (gap one other l +ℤ (slope one other *ℤ (r -ℤ l)))
gap-rising one other l r =
    gap-linear one other r ∙ rising (slope one other) (start one other) l r ∙ ap (λ g. g +ℤ (slope one other *ℤ (r -ℤ l))) (sym (gap-linear one other l))

-- a linear function between two x's is a mean of what it is there
mean : (p q l x r : ℤ) → ((r -ℤ l) *ℤ ((p *ℤ x) +ℤ q)) ≡ (((r -ℤ x) *ℤ ((p *ℤ l) +ℤ q)) +ℤ ((x -ℤ l) *ℤ ((p *ℤ r) +ℤ q)))
mean p q l x r =
    identity (times (minus (number r) (number l)) (plus (times (number p) (number x)) (number q)))
    (plus (times (minus (number r) (number x)) (plus (times (number p) (number l)) (number q))) (times (minus (number x) (number l)) (plus (times (number p) (number r)) (number q))))
    (omega arith)

pub gap-mean : (one other : Edge) (l x r : ℤ) → ((r -ℤ l) *ℤ gap one other x) ≡ (((r -ℤ x) *ℤ gap one other l) +ℤ ((x -ℤ l) *ℤ gap one other r))
gap-mean one other l x r =
    ap (λ g. (r -ℤ l) *ℤ g) (gap-linear one other x)
    ∙ mean (slope one other) (start one other) l x r
    ∙ ap (λ g. ((r -ℤ x) *ℤ g) +ℤ ((x -ℤ l) *ℤ ((slope one other *ℤ r) +ℤ start one other))) (sym (gap-linear one other l))
    ∙ ap (λ g. ((r -ℤ x) *ℤ gap one other l) +ℤ ((x -ℤ l) *ℤ g)) (sym (gap-linear one other r))

-- the product of two numbers that aren't negative isn't
pub product_above : (a b : ℤ) → pos 0 ≤ℤ a → pos 0 ≤ℤ b → pos 0 ≤ℤ (a *ℤ b)
product_above (pos a) (pos b) first second = omega (arith, ints)
product_above (negsuc a) b first second = absurd (omega (arith, ints, first))
product_above (pos a) (negsuc b) first second = absurd (omega (arith, ints, second))

-- a number whose positive multiple isn't negative isn't
pub quotient_above : (k z : ℤ) → pos 0 <ℤ k → pos 0 ≤ℤ (k *ℤ z) → pos 0 ≤ℤ z
quotient_above (pos k) z some above = unscaled k (pos 0) z (omega (arith, ints)) (omega (arith, ints))
quotient_above (negsuc k) z some above = absurd (omega (arith, ints, some))

mean_above : (g gl gr l x r : ℤ) → ((r -ℤ l) *ℤ g) ≡ (((r -ℤ x) *ℤ gl) +ℤ ((x -ℤ l) *ℤ gr)) → l <ℤ r → l ≤ℤ x → x ≤ℤ r → pos 0 ≤ℤ gl → pos 0 ≤ℤ gr → pos 0 ≤ℤ g
mean_above g gl gr l x r same wide after before first last =
    let left = product_above (r -ℤ x) gl (omega (arith, ints)) first in
    let right = product_above (x -ℤ l) gr (omega (arith, ints)) last in
    let sum : pos 0 ≤ℤ (((r -ℤ x) *ℤ gl) +ℤ ((x -ℤ l) *ℤ gr)) = omega (arith, ints, left, right) in
    quotient_above (r -ℤ l) g (omega (arith, ints)) (rw same sum)

-- an edge that isn't above another at both ends of a stretch isn't above it in between
pub upto_between : (one other : Edge) (l x r : ℤ) → l ≤ℤ x → x ≤ℤ r → height_by_runs one other l ≤ℤ height_by_runs other one l → height_by_runs one other r ≤ℤ height_by_runs other one r → height_by_runs one other x ≤ℤ height_by_runs other one x
upto_between one other l x r after before first last =
    by_lt_z l r
    (λ wide.
    let here = mean_above (gap one other x) (gap one other l) (gap one other r) l x r (gap-mean one other l x r) wide after before (omega (arith, ints, first)) (omega (arith, ints, last)) in
    omega (arith, ints, here))
    (λ narrow.
    let same : l ≡ x = omega (arith, ints) in
    subst (λ (z : ℤ). height_by_runs one other z ≤ℤ height_by_runs other one z) same first)
