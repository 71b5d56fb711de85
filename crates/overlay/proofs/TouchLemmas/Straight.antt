-- A way that goes straight on does so once it is sheared, too.
use Rattle.std.proofs.Common.{◌≡◌, ◌<◌, ℕ, ℤ, pos, negsuc, ◌+ℤ◌, ◌-ℤ◌, ◌*ℤ◌, ◌<ℤ◌, ap, ap₂, subst, sym, ◌∙◌, arith}
use Rattle.std.proofs.lemmas.Int.{ints}
use Rattle.plane.specs.declared.point.Point.{Point}
use Rattle.plane.specs.Meet.Crosses.{cross}
use Rattle.plane.proofs.MeetLemmas.Identities.{Term, identity, minus, number, plus, times}
use Rattle.noding.proofs.SnapLemmas.Numbers.{n_of, positive_by}
use Rattle.overlay.specs.Contours.Outlines.{IsStraight}
use Rattle.overlay.specs.Contours.Turns.{dot}
use Rattle.overlay.specs.Sides.{sheared}
use Rattle.overlay.proofs.ContourLemmas.Turns.{some_square}
use Rattle.overlay.proofs.UncrossedLemmas.Finer.{times-same}

-- a number is above 0 where its product with one above 0 is a product of such
positive-over : (s z k d : ℤ) → pos 0 <ℤ s → (s *ℤ z) ≡ (k *ℤ d) → pos 0 <ℤ k → pos 0 <ℤ d → pos 0 <ℤ z
positive-over (pos n) z k d some is first second = positive_by n z k d is first second
positive-over (negsuc n) z k d some is first second = absurd (omega (arith, ints, some))

-- ---- vectors

-- how far a vector goes along x once it is sheared
abbrev leant : ℕ → ℤ → ℤ → ℤ
leant n x y = (pos n *ℤ x) +ℤ y

abbrev leaning : ℕ → ℤ → ℤ → Term
leaning n x y = plus (times (n_of n) (number x)) (number y)

-- the cross product grows n times
cross-leant : (n : ℕ) (ux uy vx vy : ℤ) → cross (leant n ux uy) uy (leant n vx vy) vy ≡ (pos n *ℤ cross ux uy vx vy)
cross-leant n ux uy vx vy =
    identity (minus (times (leaning n ux uy) (number vy)) (times (number uy) (leaning n vx vy))) (times (n_of n) (minus (times (number ux) (number vy)) (times (number uy) (number vx)))) (omega arith)

-- how far the other vector goes, by the square of the one's length
level-by : (ux uy vx vy : ℤ) → (dot ux uy ux uy *ℤ vx) ≡ ((dot ux uy vx vy *ℤ ux) -ℤ (cross ux uy vx vy *ℤ uy))
level-by ux uy vx vy =
    identity (times (plus (times (number ux) (number ux)) (times (number uy) (number uy))) (number vx))
    (minus (times (plus (times (number ux) (number vx)) (times (number uy) (number vy))) (number ux)) (times (minus (times (number ux) (number vy)) (times (number uy) (number vx))) (number uy)))
    (omega arith)

upright-by : (ux uy vx vy : ℤ) → (dot ux uy ux uy *ℤ vy) ≡ ((dot ux uy vx vy *ℤ uy) +ℤ (cross ux uy vx vy *ℤ ux))
upright-by ux uy vx vy =
    identity (times (plus (times (number ux) (number ux)) (times (number uy) (number uy))) (number vy))
    (plus (times (plus (times (number ux) (number vx)) (times (number uy) (number vy))) (number uy)) (times (minus (times (number ux) (number vy)) (times (number uy) (number vx))) (number ux)))
    (omega arith)

-- a square times the scalar product with a sheared vector
dot-times : (n : ℕ) (s l uy vx vy : ℤ) → (s *ℤ dot l uy (leant n vx vy) vy) ≡ ((l *ℤ ((pos n *ℤ (s *ℤ vx)) +ℤ (s *ℤ vy))) +ℤ (uy *ℤ (s *ℤ vy)))
dot-times n s l uy vx vy =
    identity (times (number s) (plus (times (number l) (leaning n vx vy)) (times (number uy) (number vy))))
    (plus (times (number l) (plus (times (n_of n) (times (number s) (number vx))) (times (number s) (number vy)))) (times (number uy) (times (number s) (number vy)))) (omega arith)

-- and where that square makes it a multiple of the other vector
dot-multiple : (n : ℕ) (d ux uy : ℤ) → ((leant n ux uy *ℤ ((pos n *ℤ (d *ℤ ux)) +ℤ (d *ℤ uy))) +ℤ (uy *ℤ (d *ℤ uy))) ≡ (d *ℤ dot (leant n ux uy) uy (leant n ux uy) uy)
dot-multiple n d ux uy =
    ap (λ (z : ℤ). (leant n ux uy *ℤ z) +ℤ (uy *ℤ (d *ℤ uy))) (identity (plus (times (n_of n) (times (number d) (number ux))) (times (number d) (number uy))) (times (number d) (leaning n ux uy)) (omega arith))
    ∙ together (leant n ux uy)
  where
    together : (l : ℤ) → ((l *ℤ (d *ℤ l)) +ℤ (uy *ℤ (d *ℤ uy))) ≡ (d *ℤ dot l uy l uy)
    together l =
        identity (plus (times (number l) (times (number d) (number l))) (times (number uy) (times (number d) (number uy)))) (times (number d) (plus (times (number l) (number l)) (times (number uy) (number uy)))) (omega arith)

nothing-times : (z : ℤ) → (pos 0 *ℤ z) ≡ pos 0
nothing-times z = identity (times (n_of 0) (number z)) (n_of 0) (omega arith)

-- a vector that goes along another one isn't 0
goes-somewhere : (ux uy vx vy : ℤ) → pos 0 <ℤ dot ux uy vx vy → (ux ≡ pos 0) × (uy ≡ pos 0) → ⊥
goes-somewhere ux uy vx vy ahead (level, even) =
    let first = ap (λ (z : ℤ). z *ℤ vx) level ∙ nothing-times vx in
    let second = ap (λ (z : ℤ). z *ℤ vy) even ∙ nothing-times vy in
    omega (arith, ints, ahead, first, second)

-- nor is it once it is sheared
leant-somewhere : (n : ℕ) → 0 < n → (ux uy : ℤ) → ((ux ≡ pos 0) × (uy ≡ pos 0) → ⊥) → (leant n ux uy ≡ pos 0) × (uy ≡ pos 0) → ⊥
leant-somewhere n some ux uy goes (level, even) =
    let none = identity (times (n_of n) (n_of 0)) (n_of 0) (omega arith) in
    goes (times-same n ux (pos 0) some (omega (arith, ints, level, even, none)), even)

-- So one that goes straight along another does so once both are sheared.
ahead-leant : (n : ℕ) → 0 < n → (ux uy vx vy : ℤ) → cross ux uy vx vy ≡ pos 0 → pos 0 <ℤ dot ux uy vx vy → pos 0 <ℤ dot (leant n ux uy) uy (leant n vx vy) vy
ahead-leant n some ux uy vx vy along ahead =
    let goes = goes-somewhere ux uy vx vy ahead in
    let d = dot ux uy vx vy in
    let square = dot ux uy ux uy in
    let level : (square *ℤ vx) ≡ (d *ℤ ux) = level-by ux uy vx vy ∙ ap (λ (z : ℤ). (d *ℤ ux) -ℤ (z *ℤ uy)) along ∙ less (d *ℤ ux) (pos 0 *ℤ uy) (nothing-times uy) in
    let upright : (square *ℤ vy) ≡ (d *ℤ uy) = upright-by ux uy vx vy ∙ ap (λ (z : ℤ). (d *ℤ uy) +ℤ (z *ℤ ux)) along ∙ more (d *ℤ uy) (pos 0 *ℤ ux) (nothing-times ux) in
    positive-over square (dot (leant n ux uy) uy (leant n vx vy) vy) d (dot (leant n ux uy) uy (leant n ux uy) uy) (some_square ux uy goes)
    (dot-times n square (leant n ux uy) uy vx vy
    ∙ ap₂ (λ (x y : ℤ). (leant n ux uy *ℤ ((pos n *ℤ x) +ℤ y)) +ℤ (uy *ℤ y)) level upright
    ∙ dot-multiple n d ux uy)
    ahead
    (some_square (leant n ux uy) uy (leant-somewhere n some ux uy goes))
  where
    less : (a z : ℤ) → z ≡ pos 0 → (a -ℤ z) ≡ a
    less a z none = omega (arith, ints, none)

    more : (a z : ℤ) → z ≡ pos 0 → (a +ℤ z) ≡ a
    more a z none = omega (arith, ints, none)

-- ---- points

-- how far it is along x from one sheared point to another
way-leant : (n : ℕ) (from to : Point) → ((sheared n to).x -ℤ (sheared n from).x) ≡ leant n (to.x -ℤ from.x) (to.y -ℤ from.y)
way-leant n from to =
    identity (minus (plus (times (n_of n) (number to.x)) (number to.y)) (plus (times (n_of n) (number from.x)) (number from.y)))
    (plus (times (n_of n) (minus (number to.x) (number from.x))) (minus (number to.y) (number from.y))) (omega arith)

-- From the first point over the second to the third it goes straight on, once all are sheared, too.
pub straight-sheared : (n : ℕ) → 0 < n → (before at after : Point) → IsStraight before at after → IsStraight (sheared n before) (sheared n at) (sheared n after)
straight-sheared n some before at after is =
    let ux = at.x -ℤ before.x in
    let uy = at.y -ℤ before.y in
    let vx = after.x -ℤ at.x in
    let vy = after.y -ℤ at.y in
    let first = way-leant n before at in
    let second = way-leant n at after in record {
      along = ap₂ (λ (x z : ℤ). cross x uy z vy) first second ∙ cross-leant n ux uy vx vy ∙ ap (λ (z : ℤ). pos n *ℤ z) is.along ∙ none;
      ahead = subst (λ (z : ℤ). pos 0 <ℤ z) (sym (ap₂ (λ (x z : ℤ). dot x uy z vy) first second)) (ahead-leant n some ux uy vx vy is.along is.ahead);
    }
  where
    none : (pos n *ℤ pos 0) ≡ pos 0
    none = identity (times (n_of n) (n_of 0)) (n_of 0) (omega arith)
