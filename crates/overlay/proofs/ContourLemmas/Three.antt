-- A ring that turns right back nowhere has three bends.
use Rattle.std.proofs.Common.{◌≡◌, ◌≢◌, inl, inr, ◌≤◌, ℤ, pos, ◌-ℤ◌, List, [], ◌∷◌, length, sym, ◌∙◌, subst, refl, arith}
use Rattle.std.specs.Prelude.{⊤}
use Rattle.std.proofs.lemmas.Int.{ints}
use Rattle.plane.specs.Meet.Crosses.{cross}
use Rattle.plane.specs.declared.point.Point.{Point}
use Rattle.plane.proofs.MeetLemmas.Identities.{identity, minus, number, times}
use Rattle.overlay.specs.Contours.Outlines.{IsStraight, bends, next_or, outline}
use Rattle.overlay.proofs.ContourLemmas.Bends.{Leads, Reaches, bends-either, ends-there, last_from, leads-last, leads-on, outline-is, outline-some, reaches}
use Rattle.overlay.proofs.ContourLemmas.Straight.{straight-home, whole, whole-first}
use Rattle.overlay.proofs.ContourLemmas.Ways.{GoesAlong-sym, crosses-alike}
use Rattle.noding.proofs.SnapLemmas.Numbers.{cross-exchanged, n_of}

-- how far it turns from the way to a point to the way from there on
abbrev pub turn : Point → Point → Point → ℤ
turn before at after = cross (at.x -ℤ before.x) (at.y -ℤ before.y) (after.x -ℤ at.x) (after.y -ℤ at.y)

-- On the way over the points to the one behind them it turns at each, or goes straight on: nowhere it goes right back.
abbrev pub Turns : Point → List Point → Point → Type 0
Turns before [] behind = ⊤
Turns before (at ∷ points) behind = (turn before at (next_or points behind) ≡ pos 0 → IsStraight before at (next_or points behind)) × Turns at points behind

-- it turns at each
abbrev Bent : Point → List Point → Point → Type 0
Bent before [] behind = ⊤
Bent before (at ∷ points) behind = (turn before at (next_or points behind) ≢ pos 0) × Bent at points behind

-- it turns from where it came as from the last point that is kept
turn-from : (kept before at after : Point) → Leads kept before at → turn kept at after ≡ pos 0 → turn before at after ≡ pos 0
turn-from kept before at after (inl same) none = subst (λ (p : Point). turn p at after ≡ pos 0) same none
turn-from kept before at after (inr is) none =
    (crosses-alike (at.x -ℤ before.x) (at.y -ℤ before.y) (at.x -ℤ kept.x) (at.y -ℤ kept.y)
    (GoesAlong-sym (at.x -ℤ kept.x) (at.y -ℤ kept.y) (at.x -ℤ before.x) (at.y -ℤ before.y) (whole kept before at is))
    (after.x -ℤ at.x) (after.y -ℤ at.y)).zero none

-- and to where it goes as to the next one that is kept
turn-to : (before at next end : Point) → Reaches at next end → turn before at end ≡ pos 0 → turn before at next ≡ pos 0
turn-to before at next end (inl same) none = subst (λ (p : Point). turn before at p ≡ pos 0) (sym same) none
turn-to before at next end (inr is) none =
    let ux = next.x -ℤ at.x in
    let uy = next.y -ℤ at.y in
    let vx = end.x -ℤ at.x in
    let vy = end.y -ℤ at.y in
    let wx = at.x -ℤ before.x in
    let wy = at.y -ℤ before.y in
    let back : cross vx vy wx wy ≡ pos 0 = opposite (cross wx wy vx vy) (cross vx vy wx wy) (cross-exchanged wx wy vx vy) none in
    opposite (cross ux uy wx wy) (cross wx wy ux uy) (cross-exchanged ux uy wx wy) ((crosses-alike ux uy vx vy (GoesAlong-sym vx vy ux uy (whole-first at next end is)) wx wy).zero back)
  where
    opposite : (a b : ℤ) → b ≡ (pos 0 -ℤ a) → a ≡ pos 0 → b ≡ pos 0
    opposite a b is none = omega (arith, ints, is, none)

-- so at the points that are kept it turns, from one to the next
bends-turn : (kept before : Point) (points : List Point) (behind : Point) → Leads kept before (next_or points behind) → Turns before points behind → Bent kept (bends before points behind) behind
bends-turn kept before [] behind leads turns = tt
bends-turn kept before (at ∷ points) behind leads (here, turns) =
    bends-either (λ list. Bent kept list behind) before at points behind
    (λ straight. bends-turn kept at points behind (leads-on kept before at (next_or points behind) leads straight) turns)
    (λ bent. (
      λ none. bent (here (turn-from kept before at (next_or points behind) leads
          (turn-to kept at (next_or points behind) (next_or (bends at points behind) behind) (reaches at at points behind behind (ends-there (last_from at points) behind) (inl refl)) none))),
      bends-turn at at points behind (inl refl) turns,
    ))

-- ---- two points are too few

turn-home : (at between : Point) → turn at between at ≡ pos 0
turn-home at between =
    identity (minus (times (minus (number between.x) (number at.x)) (minus (number at.y) (number between.y))) (times (minus (number between.y) (number at.y)) (minus (number at.x) (number between.x)))) (n_of 0) (omega arith)

turn-nowhere : (before at : Point) → turn before at at ≡ pos 0
turn-nowhere before at =
    identity (minus (times (minus (number at.x) (number before.x)) (minus (number at.y) (number at.y))) (times (minus (number at.y) (number before.y)) (minus (number at.x) (number at.x)))) (n_of 0) (omega arith)

-- the three corners of a triangle turn alike
turn-next : (a b c : Point) → turn a b c ≡ turn b c a
turn-next a b c =
    identity (minus (times (minus (number b.x) (number a.x)) (minus (number c.y) (number b.y))) (times (minus (number b.y) (number a.y)) (minus (number c.x) (number b.x))))
    (minus (times (minus (number c.x) (number b.x)) (minus (number a.y) (number c.y))) (times (minus (number c.y) (number b.y)) (minus (number a.x) (number c.x)))) (omega arith)

enough : (last first : Point) (kept : List Point) → kept ≢ [] → Bent last kept first → Reaches (last_from last kept) first (next_or kept first) → 3 ≤ length kept
enough last first [] some bent ends = absurd (some refl)
enough last first (a ∷ []) some (at_a, rest) (inl same) = absurd (at_a (subst (λ (p : Point). turn last a p ≡ pos 0) (sym same) (turn-nowhere last a)))
enough last first (a ∷ []) some (at_a, rest) (inr is) = absurd (straight-home a first is)
enough last first (a ∷ b ∷ []) some (at_a, (at_b, rest)) (inl same) = absurd (at_b (subst (λ (p : Point). turn a b p ≡ pos 0) (sym same) (turn-home a b)))
enough last first (a ∷ b ∷ []) some (at_a, (at_b, rest)) (inr is) = absurd (at_b (turn-next a b first ∙ is.along))
enough last first (a ∷ b ∷ c ∷ kept) some bent ends = omega arith

-- A ring that turns right back nowhere has three bends.
pub three-bends : (first : Point) (others : List Point) → Turns (last_from first others) (first ∷ others) first → 3 ≤ length (outline (first ∷ others))
three-bends first others turns =
    subst (λ (kept : List Point). 3 ≤ length kept) (sym (outline-is first others))
    (enough last first all (subst (λ (kept : List Point). kept ≢ []) (outline-is first others) (outline-some first others)) (bends-turn last last (first ∷ others) first (inl refl) turns)
    (reaches (last_from last all) last (first ∷ others) first first (ends-there last first) (leads-last last last (first ∷ others) first (inl refl))))
  where
    last : Point
    last = last_from first others

    all : List Point
    all = bends last (first ∷ others) first
