-- The two halves of the way from the points of edges to the whole points that they round to: first all x's move, then
-- all y's. Segments that cross at the end of a half cross at its start too, or they touch in between.
use Rattle.std.proofs.Common.{List, [], ap, arith, inl, inr, pos, sym, ℕ, ℤ, ◌*ℤ◌, ◌+ℤ◌, ◌+◌, ◌<ℤ◌, ◌<◌, ◌∙◌, ◌∷◌, ◌≡◌, ◌≤ℤ◌, ◌⊎◌}
use Rattle.std.proofs.lemmas.Int.{by_lt_z, ints}
use Rattle.noding.proofs.SnapLemmas.Hobby.Lines.{Common, Weights}
use Rattle.noding.proofs.SnapLemmas.Hobby.Roots.{AnyZero, Linear, Root, last_root}
use Rattle.noding.proofs.SnapLemmas.Hobby.Touches.{AllTurns, Flat, Lies, NoTurn, Touch, by_p1, by_p2, by_s1, by_s2, touch_apart, touch_exchanged, touch_line}
use Rattle.noding.proofs.SnapLemmas.Hobby.Turns.{Four, crossing_x, crossing_y, mirror, mix, turn1, turn1-mirror, turn1-mix, turn2, turn2-mirror, turn2-mix, turn3, turn3-mirror, turn3-mix, turn4, turn4-mirror, turn4-mix, turns-same}
use Rattle.noding.proofs.SnapLemmas.Numbers.{n_of}
use Rattle.plane.proofs.MeetLemmas.Identities.{Term, identity, number, plus, same_of, times}

-- All four turns are to the left: the segments cross.
pub record Cross (x y : Four) : Type 0 where
  pub left1 : pos 0 <ℤ turn1 x y
  pub left2 : pos 0 <ℤ turn2 x y
  pub left3 : pos 0 <ℤ turn3 x y
  pub left4 : pos 0 <ℤ turn4 x y

-- the turns while x goes from a to b, as linear functions
abbrev linear : ℤ → ℤ → Linear
linear first last = record {
  first = first;
  last = last;
}

abbrev turns : Four → Four → Four → List Linear
turns a b y = linear (turn1 a y) (turn1 b y) ∷ (linear (turn2 a y) (turn2 b y) ∷ (linear (turn3 a y) (turn3 b y) ∷ (linear (turn4 a y) (turn4 b y) ∷ [])))

-- one step after a time at which a function is 0, it is what it is at the end
step_on : (l k : ℕ) (first last : ℤ) → ((pos l *ℤ first) +ℤ (pos k *ℤ last)) ≡ pos 0 → ((pos l *ℤ first) +ℤ (pos (k + 1) *ℤ last)) ≡ last
step_on l k first last none =
    let time : ℕ → Term = λ j. plus (times (n_of l) (number first)) (times (n_of j) (number last)) in
    let fact = same_of (time k) (n_of 0) none in
    identity (time (k + 1)) (number last) (omega (arith, fact))

-- what holds of means one step later and at the end holds at the time
step_back : (l k : ℕ) (w1 w2 w3 w4 a1 a2 a3 a4 b1 b2 b3 b4 : ℤ) → Common w1 w2 w3 w4 ((pos l *ℤ a1) +ℤ (pos (k + 1) *ℤ b1)) ((pos l *ℤ a2) +ℤ (pos (k + 1) *ℤ b2)) ((pos l *ℤ a3) +ℤ (pos (k + 1) *ℤ b3)) ((pos l *ℤ a4) +ℤ (pos (k + 1) *ℤ b4)) → Common w1 w2 w3 w4 b1 b2 b3 b4 → Common w1 w2 w3 w4 ((pos l *ℤ a1) +ℤ (pos k *ℤ b1)) ((pos l *ℤ a2) +ℤ (pos k *ℤ b2)) ((pos l *ℤ a3) +ℤ (pos k *ℤ b3)) ((pos l *ℤ a4) +ℤ (pos k *ℤ b4))
step_back l k w1 w2 w3 w4 a1 a2 a3 a4 b1 b2 b3 b4 later last =
    let place : ℕ → ℤ → ℤ → Term = λ j a b. plus (times (n_of l) (number a)) (times (n_of j) (number b)) in
    let one : Term → Term → Term = λ s t. plus (times (number w4) s) (times (number w3) t) in
    let other : Term → Term → Term = λ s t. plus (times (number w2) s) (times (number w1) t) in
    let fact = same_of (one (place (k + 1) a1 b1) (place (k + 1) a2 b2)) (other (place (k + 1) a3 b3) (place (k + 1) a4 b4)) later.same in
    let end = same_of (one (number b1) (number b2)) (other (number b3) (number b4)) last.same in
    record { same = identity (one (place k a1 b1) (place k a2 b2)) (other (place k a3 b3) (place k a4 b4)) (omega (arith, fact, end)) }

-- the turns that are known, put in
pub common_of : (t1 t2 t3 t4 w1 w2 w3 w4 p1 p2 s1 s2 : ℤ) → t1 ≡ w1 → t2 ≡ w2 → t3 ≡ w3 → t4 ≡ w4 → ((t4 *ℤ p1) +ℤ (t3 *ℤ p2)) ≡ ((t2 *ℤ s1) +ℤ (t1 *ℤ s2)) → Common w1 w2 w3 w4 p1 p2 s1 s2
common_of t1 t2 t3 t4 w1 w2 w3 w4 p1 p2 s1 s2 one two three four same = record {
  same =
      sym (ap (λ w. (w *ℤ p1) +ℤ (t3 *ℤ p2)) four ∙ ap (λ w. (w4 *ℤ p1) +ℤ (w *ℤ p2)) three)
      ∙ same
      ∙ ap (λ w. (w *ℤ s1) +ℤ (t1 *ℤ s2)) two
      ∙ ap (λ w. (w2 *ℤ s1) +ℤ (w *ℤ s2)) one;
}

-- the turns at a root
turns_there : (a b y : Four) (root : Root (turns a b y)) → AllTurns (mix root.l root.k a b) y
turns_there a b y root = record {
  turns1 = rw (turn1-mix root.l root.k a b y) root.above.0;
  turns2 = rw (turn2-mix root.l root.k a b y) root.above.1.0;
  turns3 = rw (turn3-mix root.l root.k a b y) root.above.1.1.0;
  turns4 = rw (turn4-mix root.l root.k a b y) root.above.1.1.1.0;
}

no_turn : (a b y : Four) (l k : ℕ) → AnyZero l k (turns a b y) → NoTurn (mix l k a b) y
no_turn a b y l k (inl none) = inl (turn1-mix l k a b y ∙ none)
no_turn a b y l k (inr (inl none)) = inr (inl (turn2-mix l k a b y ∙ none))
no_turn a b y l k (inr (inr (inl none))) = inr (inr (inl (turn3-mix l k a b y ∙ none)))
no_turn a b y l k (inr (inr (inr (inl none)))) = inr (inr (inr (inl (turn4-mix l k a b y ∙ none))))
no_turn a b y l k (inr (inr (inr (inr none)))) = absurd none

-- four numbers, none negative, whose sums are 0
flat_sum : (t1 t2 t3 t4 : ℤ) → pos 0 ≤ℤ t1 → pos 0 ≤ℤ t2 → pos 0 ≤ℤ t3 → pos 0 ≤ℤ t4 → (t1 +ℤ t2) ≤ℤ pos 0 → (t1 +ℤ t2) ≡ (t3 +ℤ t4) → (t1 ≡ pos 0) × (t2 ≡ pos 0) × (t3 ≡ pos 0) × (t4 ≡ pos 0)
flat_sum t1 t2 t3 t4 one two three four none whole =
    (omega (arith, ints), omega (arith, ints), omega (arith, ints), omega (arith, ints))

flat_there : (x y : Four) → AllTurns x y → (turn1 x y +ℤ turn2 x y) ≤ℤ pos 0 → Flat x y
flat_there x y all none =
    let found = flat_sum (turn1 x y) (turn2 x y) (turn3 x y) (turn4 x y) all.turns1 all.turns2 all.turns3 all.turns4 none (turns-same x y) in record {
      flat1 = found.0;
      flat2 = found.1;
      flat3 = found.2;
      flat4 = found.3;
    }

-- the turns are weights of the crossing
weights_of : (x y : Four) → Cross x y → Weights (turn1 x y) (turn2 x y) (turn3 x y) (turn4 x y)
weights_of x y cross = record {
  some1 = cross.left1;
  some2 = cross.left2;
  some3 = cross.left3;
  some4 = cross.left4;
  whole = turns-same x y;
}

-- the common point of the end is one of the time at which all turns are 0 too
common_there : (l k : ℕ) (a b y : Four) → Flat (mix l k a b) y → Common (turn1 b y) (turn2 b y) (turn3 b y) (turn4 b y) (mix l k a b).p1 (mix l k a b).p2 (mix l k a b).s1 (mix l k a b).s2
common_there l k a b y flat =
    let next = mix l (k + 1) a b in
    let is1 = turn1-mix l (k + 1) a b y ∙ step_on l k (turn1 a y) (turn1 b y) (sym (turn1-mix l k a b y) ∙ flat.flat1) in
    let is2 = turn2-mix l (k + 1) a b y ∙ step_on l k (turn2 a y) (turn2 b y) (sym (turn2-mix l k a b y) ∙ flat.flat2) in
    let is3 = turn3-mix l (k + 1) a b y ∙ step_on l k (turn3 a y) (turn3 b y) (sym (turn3-mix l k a b y) ∙ flat.flat3) in
    let is4 = turn4-mix l (k + 1) a b y ∙ step_on l k (turn4 a y) (turn4 b y) (sym (turn4-mix l k a b y) ∙ flat.flat4) in
    let later = common_of (turn1 next y) (turn2 next y) (turn3 next y) (turn4 next y) (turn1 b y) (turn2 b y) (turn3 b y) (turn4 b y) next.p1 next.p2 next.s1 next.s2 is1 is2 is3 is4 (crossing_x next y) in
    step_back l k (turn1 b y) (turn2 b y) (turn3 b y) (turn4 b y) a.p1 a.p2 a.s1 a.s2 b.p1 b.p2 b.s1 b.s2 later (record { same = crossing_x b y })

-- at the last root they touch: the turns' sum is 0 there or not
touch_there : (a b y : Four) (root : Root (turns a b y)) → Cross b y → Touch (mix root.l root.k a b) y
touch_there a b y root cross =
    let all = turns_there a b y root in
    let x = mix root.l root.k a b in
    by_lt_z (pos 0) (turn1 x y +ℤ turn2 x y)
    (λ some. touch_apart x y all some (no_turn a b y root.l root.k root.none))
    (λ none.
    let flat = flat_there x y all none in
    touch_line (turn1 b y) (turn2 b y) (turn3 b y) (turn4 b y) x y (weights_of b y cross) (common_there root.l root.k a b y flat) (record { same = crossing_y b y }) flat)

-- A time before the end at which they touch.
pub record Touches (a b y : Four) : Type 0 where
  pub l : ℕ
  pub k : ℕ
  pub early : 0 < l
  pub touch : Touch (mix l k a b) y

-- where they cross at the end, they cross at the start, or touch before the end
pub half : (a b y : Four) → Cross b y → Cross a y ⊎ Touches a b y
half a b y cross =
    elim (last_root (turns a b y) (cross.left1, (cross.left2, (cross.left3, (cross.left4, tt))))) [
      | inl firsts ↦ inl (record {
        left1 = firsts.0;
        left2 = firsts.1.0;
        left3 = firsts.1.1.0;
        left4 = firsts.1.1.1.0;
      })
      | inr root ↦ inr (record {
        l = root.l;
        k = root.k;
        early = root.early;
        touch = touch_there a b y root cross;
      })
    ]

-- ---- the same along y

cross-mirror : (x y : Four) → Cross x y → Cross (mirror y) (mirror x)
cross-mirror x y cross = record {
  left1 = rw (turn1-mirror x y) cross.left2;
  left2 = rw (turn2-mirror x y) cross.left1;
  left3 = rw (turn3-mirror x y) cross.left3;
  left4 = rw (turn4-mirror x y) cross.left4;
}

lies_back : (x1 y1 x2 y2 x y : ℤ) → Lies x2 y2 x1 y1 x y → Lies x1 y1 x2 y2 x y
lies_back x1 y1 x2 y2 x y lies =
    let sum : (lies.a +ℤ lies.b) ≡ (lies.b +ℤ lies.a) = omega (arith, ints) in record {
      b = lies.a;
      a = lies.b;
      from = lies.upto;
      upto = lies.from;
      some = omega (arith, ints, lies.some);
      along_x = ap (λ w. w *ℤ x) sum ∙ lies.along_x ∙ omega (arith, ints);
      along_y = ap (λ w. w *ℤ y) sum ∙ lies.along_y ∙ omega (arith, ints);
    }

touch-mirror : (x y : Four) → Touch (mirror x) (mirror y) → Touch x y
touch-mirror x y (by_s1 lies) = by_s2 lies
touch-mirror x y (by_s2 lies) = by_s1 lies
touch-mirror x y (by_p1 lies) = by_p1 (lies_back x.s1 y.s1 x.s2 y.s2 x.p1 y.p1 lies)
touch-mirror x y (by_p2 lies) = by_p2 (lies_back x.s1 y.s1 x.s2 y.s2 x.p2 y.p2 lies)

-- The same while y goes from a to b.
pub record TouchesAlongY (x a b : Four) : Type 0 where
  pub l : ℕ
  pub k : ℕ
  pub early : 0 < l
  pub touch : Touch x (mix l k a b)

-- by exchanging the axes
pub half_along_y : (x a b : Four) → Cross x b → Cross x a ⊎ TouchesAlongY x a b
half_along_y x a b cross =
    elim (half (mirror a) (mirror b) (mirror x) (cross-mirror x b cross)) [
      | inl before ↦ inl (cross-mirror (mirror a) (mirror x) before)
      | inr found ↦ inr (record {
        l = found.l;
        k = found.k;
        early = found.early;
        touch = touch-mirror x (mix found.l found.k a b) (touch_exchanged (mirror x) (mirror (mix found.l found.k a b)) found.touch);
      })
    ]
