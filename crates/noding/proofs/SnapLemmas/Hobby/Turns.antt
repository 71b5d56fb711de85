-- The turns of two segments' ends against each other, and how they change where coordinates move.
use Rattle.std.proofs.Common.{arith, pos, ℕ, ℤ, ◌*ℤ◌, ◌+ℤ◌, ◌-ℤ◌, ◌≡◌}
use Rattle.plane.specs.Meet.Crosses.{cross}
use Rattle.noding.proofs.SnapLemmas.Numbers.{n_of}
use Rattle.plane.proofs.MeetLemmas.Identities.{Term, identity, minus, number, plus, times}

-- The coordinates, on one axis, of two segments' ends: from p1 to p2, and from s1 to s2.
pub record Four : Type 0 where
  pub p1 : ℤ
  pub p2 : ℤ
  pub s1 : ℤ
  pub s2 : ℤ

-- Which side each end is on of the other segment. The first two are of s1 and s2, the others of p1 and p2; all four are
-- positive where s1 is on the right of the way from p1 to p2, s2 on its left, and the two cross.
abbrev pub turn1 : Four → Four → ℤ
turn1 x y = cross (x.s1 -ℤ x.p1) (y.s1 -ℤ y.p1) (x.p2 -ℤ x.p1) (y.p2 -ℤ y.p1)

abbrev pub turn2 : Four → Four → ℤ
turn2 x y = cross (x.p2 -ℤ x.p1) (y.p2 -ℤ y.p1) (x.s2 -ℤ x.p1) (y.s2 -ℤ y.p1)

abbrev pub turn3 : Four → Four → ℤ
turn3 x y = cross (x.s2 -ℤ x.s1) (y.s2 -ℤ y.s1) (x.p1 -ℤ x.s1) (y.p1 -ℤ y.s1)

abbrev pub turn4 : Four → Four → ℤ
turn4 x y = cross (x.p2 -ℤ x.s1) (y.p2 -ℤ y.s1) (x.s2 -ℤ x.s1) (y.s2 -ℤ y.s1)

-- as expressions
pub record Terms : Type 0 where
  pub p1 : Term
  pub p2 : Term
  pub s1 : Term
  pub s2 : Term

abbrev pub term : Four → Terms
term x = record {
  p1 = number x.p1;
  p2 = number x.p2;
  s1 = number x.s1;
  s2 = number x.s2;
}

abbrev crossing : Term → Term → Term → Term → Term
crossing x y other_x other_y = minus (times x other_y) (times y other_x)

abbrev pub turn1_term : Terms → Terms → Term
turn1_term x y = crossing (minus x.s1 x.p1) (minus y.s1 y.p1) (minus x.p2 x.p1) (minus y.p2 y.p1)

abbrev pub turn2_term : Terms → Terms → Term
turn2_term x y = crossing (minus x.p2 x.p1) (minus y.p2 y.p1) (minus x.s2 x.p1) (minus y.s2 y.p1)

abbrev pub turn3_term : Terms → Terms → Term
turn3_term x y = crossing (minus x.s2 x.s1) (minus y.s2 y.s1) (minus x.p1 x.s1) (minus y.p1 y.s1)

abbrev pub turn4_term : Terms → Terms → Term
turn4_term x y = crossing (minus x.p2 x.s1) (minus y.p2 y.s1) (minus x.s2 x.s1) (minus y.s2 y.s1)

-- ---- how they hang together

-- the two over one segment add up to the two over the other: both sums are the cross product of the segments' ways
pub turns-same : (x y : Four) → (turn1 x y +ℤ turn2 x y) ≡ (turn3 x y +ℤ turn4 x y)
turns-same x y =
    let a = term x in
    let b = term y in
    identity (plus (turn1_term a b) (turn2_term a b)) (plus (turn3_term a b) (turn4_term a b)) (omega arith)

-- the place where the two lines cross, times that sum
pub crossing_x : (x y : Four) → ((turn4 x y *ℤ x.p1) +ℤ (turn3 x y *ℤ x.p2)) ≡ ((turn2 x y *ℤ x.s1) +ℤ (turn1 x y *ℤ x.s2))
crossing_x x y =
    let a = term x in
    let b = term y in
    identity (plus (times (turn4_term a b) a.p1) (times (turn3_term a b) a.p2)) (plus (times (turn2_term a b) a.s1) (times (turn1_term a b) a.s2)) (omega arith)

pub crossing_y : (x y : Four) → ((turn4 x y *ℤ y.p1) +ℤ (turn3 x y *ℤ y.p2)) ≡ ((turn2 x y *ℤ y.s1) +ℤ (turn1 x y *ℤ y.s2))
crossing_y x y =
    let a = term x in
    let b = term y in
    identity (plus (times (turn4_term a b) b.p1) (times (turn3_term a b) b.p2)) (plus (times (turn2_term a b) b.s1) (times (turn1_term a b) b.s2)) (omega arith)

-- ---- they are linear where one axis moves

abbrev mixed : ℕ → ℕ → ℤ → ℤ → ℤ
mixed l k a b = (pos l *ℤ a) +ℤ (pos k *ℤ b)

-- at k of l + k parts of the way from a to b, times l + k
abbrev pub mix : ℕ → ℕ → Four → Four → Four
mix l k a b = record {
  p1 = mixed l k a.p1 b.p1;
  p2 = mixed l k a.p2 b.p2;
  s1 = mixed l k a.s1 b.s1;
  s2 = mixed l k a.s2 b.s2;
}

abbrev mixed_term : ℕ → ℕ → Term → Term → Term
mixed_term l k a b = plus (times (n_of l) a) (times (n_of k) b)

abbrev mix_term : ℕ → ℕ → Terms → Terms → Terms
mix_term l k a b = record {
  p1 = mixed_term l k a.p1 b.p1;
  p2 = mixed_term l k a.p2 b.p2;
  s1 = mixed_term l k a.s1 b.s1;
  s2 = mixed_term l k a.s2 b.s2;
}

-- each turn there, times l + k, is l times that at a and k times that at b
pub turn1-mix : (l k : ℕ) (a b y : Four) → turn1 (mix l k a b) y ≡ ((pos l *ℤ turn1 a y) +ℤ (pos k *ℤ turn1 b y))
turn1-mix l k a b y =
    identity (turn1_term (mix_term l k (term a) (term b)) (term y)) (mixed_term l k (turn1_term (term a) (term y)) (turn1_term (term b) (term y))) (omega arith)

pub turn2-mix : (l k : ℕ) (a b y : Four) → turn2 (mix l k a b) y ≡ ((pos l *ℤ turn2 a y) +ℤ (pos k *ℤ turn2 b y))
turn2-mix l k a b y =
    identity (turn2_term (mix_term l k (term a) (term b)) (term y)) (mixed_term l k (turn2_term (term a) (term y)) (turn2_term (term b) (term y))) (omega arith)

pub turn3-mix : (l k : ℕ) (a b y : Four) → turn3 (mix l k a b) y ≡ ((pos l *ℤ turn3 a y) +ℤ (pos k *ℤ turn3 b y))
turn3-mix l k a b y =
    identity (turn3_term (mix_term l k (term a) (term b)) (term y)) (mixed_term l k (turn3_term (term a) (term y)) (turn3_term (term b) (term y))) (omega arith)

pub turn4-mix : (l k : ℕ) (a b y : Four) → turn4 (mix l k a b) y ≡ ((pos l *ℤ turn4 a y) +ℤ (pos k *ℤ turn4 b y))
turn4-mix l k a b y =
    identity (turn4_term (mix_term l k (term a) (term b)) (term y)) (mixed_term l k (turn4_term (term a) (term y)) (turn4_term (term b) (term y))) (omega arith)

-- ---- the axes exchanged, and with them the second segment's ends

-- the second segment from its end to its start
abbrev pub mirror : Four → Four
mirror x = record {
  p1 = x.p1;
  p2 = x.p2;
  s1 = x.s2;
  s2 = x.s1;
}

-- with the axes exchanged too, the first two turns change places
pub turn1-mirror : (x y : Four) → turn1 (mirror y) (mirror x) ≡ turn2 x y
turn1-mirror x y = identity (turn1_term (term (mirror y)) (term (mirror x))) (turn2_term (term x) (term y)) (omega arith)

pub turn2-mirror : (x y : Four) → turn2 (mirror y) (mirror x) ≡ turn1 x y
turn2-mirror x y = identity (turn2_term (term (mirror y)) (term (mirror x))) (turn1_term (term x) (term y)) (omega arith)

pub turn3-mirror : (x y : Four) → turn3 (mirror y) (mirror x) ≡ turn3 x y
turn3-mirror x y = identity (turn3_term (term (mirror y)) (term (mirror x))) (turn3_term (term x) (term y)) (omega arith)

pub turn4-mirror : (x y : Four) → turn4 (mirror y) (mirror x) ≡ turn4 x y
turn4-mirror x y = identity (turn4_term (term (mirror y)) (term (mirror x))) (turn4_term (term x) (term y)) (omega arith)

abbrev pub four : ℤ → ℤ → ℤ → ℤ → Four
four p1 p2 s1 s2 = record {
  p1 = p1;
  p2 = p2;
  s1 = s1;
  s2 = s2;
}
