-- Corners that go round the origin once: where each side has the origin on its left, and at each corner it turns left, no corner
-- lies right of any side, if once a corner lies right of the way to the first one all behind it do.
use Rattle.std.proofs.Common.{◌≡◌, ◌<◌, ◌≤◌, ◌+◌, ◌-◌, ℕ, zero, suc, ℤ, Bool, true, false, cond, nat_eq, pos, ◌<ℤ◌, ◌≤ℤ◌, ◌+ℤ◌, ◌-ℤ◌, ◌*ℤ◌, List, length, get_or, refl, ap, ap₂, sym, subst, ◌∙◌, arith, ◌⊎◌, inl, inr}
use Rattle.std.specs.Bool.{MatchBool}
use Rattle.std.specs.List.{All}
use Rattle.std.proofs.lemmas.Bool.{cases_eq, cases_lt, eqb-false, eqb-true}
use Rattle.std.proofs.lemmas.List.{get_or_default}
use Rattle.std.proofs.lemmas.Int.{by_lt_z, ints}
use Rattle.plane.specs.declared.edge.Edge.{Edge}
use Rattle.plane.specs.declared.point.Point.{Point}
use Rattle.plane.specs.Ends.{edge_between}
use Rattle.plane.specs.Lines.{height_over}
use Rattle.plane.specs.Meet.Crosses.{cross}
use Rattle.plane.proofs.MeetLemmas.Identities.{Term, identity, minus, number, plus, times}
use Rattle.overlay.specs.Areas.{swept}
use Rattle.offset.specs.Raw.{nowhere}
use Rattle.offset.specs.Shape.{GoesRoundOnce, IsConvexAroundOrigin, neighbours, next_place, sides, turn}
use Rattle.offset.proofs.CoverLemmas.Numbers.{above-factor, above-product, none, positive-factor, positive-product}
use Rattle.offset.proofs.ShapeLemmas.{length-neighbours, length-sides, neighbour-at, next-within, side-at}

-- ---- one corner more

-- two that follow each other, as seen from the first one
abbrev IsGone : List Point → Point → ℕ → Type 0
IsGone corners d index =
    swept (edge_between (get_or corners 0 d) (get_or corners (index - 1) d)) ≤ℤ pos 0 → swept (edge_between (get_or corners 0 d) (get_or corners index d)) ≤ℤ pos 0

pub once-more : (corners : List Point) (upto : ℕ) (e : Point) (before here : ℤ) → upto < length corners
    → before ≡ swept (edge_between (get_or corners 0 e) (get_or corners (upto - 1) e)) → here ≡ swept (edge_between (get_or corners 0 e) (get_or corners upto e))
    → (before ≤ℤ pos 0 → here ≤ℤ pos 0)
    → ((index : ℕ) (d : Point) → 1 < index → index < upto → IsGone corners d index)
    → (index : ℕ) (d : Point) → 1 < index → index < upto + 1 → IsGone corners d index
once-more corners upto e before here inside is_before is_here gone so_far index d after within below = by (cases_eq index upto)
  where
    moved : (n : ℕ) → n < length corners → get_or corners n e ≡ get_or corners n d
    moved n there = get_or_default corners n e d there

    by : (index ≡ upto) ⊎ (index ≡ upto → ⊥) → swept (edge_between (get_or corners 0 d) (get_or corners index d)) ≤ℤ pos 0
    by (inr differ) = so_far index d after (omega (arith, within, differ)) below
    by (inl same) =
        let first = moved 0 (omega (arith, after, same, inside)) in
        let earlier = ap₂ (λ (p q : Point). swept (edge_between p q)) first (moved (upto - 1) (omega (arith, after, same, inside)))
        ∙ ap (λ (n : ℕ). swept (edge_between (get_or corners 0 d) (get_or corners (n - 1) d))) (sym same) in
        let now = ap₂ (λ (p q : Point). swept (edge_between p q)) first (moved upto inside) ∙ ap (λ (n : ℕ). swept (edge_between (get_or corners 0 d) (get_or corners n d))) (sym same) in
        subst (λ (z : ℤ). z ≤ℤ pos 0) (is_here ∙ now) (gone (subst (λ (z : ℤ). z ≤ℤ pos 0) (sym (is_before ∙ earlier)) below))

-- ---- signs of products

turned : (a b : ℤ) → ((pos 0 -ℤ a) *ℤ b) ≡ (pos 0 -ℤ (a *ℤ b))
turned a b = identity (times (minus none (number a)) (number b)) (minus none (times (number a) (number b))) (omega arith)

one-below : (a b : ℤ) → a ≤ℤ pos 0 → pos 0 ≤ℤ b → (a *ℤ b) ≤ℤ pos 0
one-below a b below above =
    let other = above-product (pos 0 -ℤ a) b (omega (arith, ints, below)) above in
    let same = turned a b in
    omega (arith, ints, other, same)

both-below : (a b : ℤ) → a ≤ℤ pos 0 → b ≤ℤ pos 0 → pos 0 ≤ℤ (a *ℤ b)
both-below a b first second =
    let other = above-product (pos 0 -ℤ a) (pos 0 -ℤ b) (omega (arith, ints, first)) (omega (arith, ints, second)) in
    let same = identity (times (minus none (number a)) (minus none (number b))) (times (number a) (number b)) (omega arith) in
    omega (arith, ints, other, same)

-- ---- cross products of corners

-- above 0 where the way from the origin to the one turns left to that to the other
abbrev sweep : Point → Point → ℤ
sweep a b = cross a.x a.y b.x b.y

-- how far a point lies left of a side
abbrev left : Point → Point → Point → ℤ
left c d a = height_over (edge_between c d) a

abbrev sweep_term : Point → Point → Term
sweep_term a b = minus (times (number a.x) (number b.y)) (times (number a.y) (number b.x))

abbrev way_term : ℤ → ℤ → Term
way_term from to = minus (number to) (number from)

abbrev left_term : Point → Point → Point → Term
left_term c d a = minus (times (way_term c.x d.x) (way_term c.y a.y)) (times (way_term c.y d.y) (way_term c.x a.x))

-- Of four vectors.
four : (a b c d : Point) → ((sweep a b *ℤ sweep c d) +ℤ (sweep a d *ℤ sweep b c)) ≡ (sweep a c *ℤ sweep b d)
four a b c d =
    identity (plus (times (sweep_term a b) (sweep_term c d)) (times (sweep_term a d) (sweep_term b c))) (times (sweep_term a c) (sweep_term b d)) (omega arith)

sweep-back : (a b : Point) → sweep b a ≡ (pos 0 -ℤ sweep a b)
sweep-back a b = identity (sweep_term b a) (minus none (sweep_term a b)) (omega arith)

sweep-same : (a : Point) → sweep a a ≡ pos 0
sweep-same a = identity (sweep_term a a) none (omega arith)

left-start : (a b : Point) → left a b a ≡ pos 0
left-start a b = identity (left_term a b a) none (omega arith)

left-stop : (a b : Point) → left a b b ≡ pos 0
left-stop a b = identity (left_term a b b) none (omega arith)

left-sweeps : (c d a : Point) → left c d a ≡ ((sweep c d -ℤ sweep a d) +ℤ sweep a c)
left-sweeps c d a = identity (left_term c d a) (plus (minus (sweep_term c d) (sweep_term a d)) (sweep_term a c)) (omega arith)

left-turn : (a b c : Point) → turn (edge_between a b) (edge_between b c) ≡ left a b c
left-turn a b c =
    identity (minus (times (way_term a.x b.x) (way_term b.y c.y)) (times (way_term a.y b.y) (way_term b.x c.x))) (left_term a b c) (omega arith)

-- the same of six numbers
six : (ab ac ad bc bd cd : ℤ) → ((ab *ℤ cd) +ℤ (ad *ℤ bc)) ≡ (ac *ℤ bd)
    → (bc *ℤ ((cd -ℤ ad) +ℤ ac)) ≡ ((cd *ℤ ((bc -ℤ ac) +ℤ ab)) +ℤ (ac *ℤ ((bc -ℤ bd) +ℤ cd)))
six ab ac ad bc bd cd is =
    let n = λ (z : ℤ). number z in
    let one = identity (times (n bc) (plus (minus (n cd) (n ad)) (n ac))) (plus (minus (times (n bc) (n cd)) (times (n ad) (n bc))) (times (n ac) (n bc))) (omega arith) in
    let other = identity (plus (times (n cd) (plus (minus (n bc) (n ac)) (n ab))) (times (n ac) (plus (minus (n bc) (n bd)) (n cd))))
    (plus (plus (minus (times (n bc) (n cd)) (times (n ac) (n cd))) (times (n ab) (n cd))) (plus (minus (times (n ac) (n bc)) (times (n ac) (n bd))) (times (n ac) (n cd)))) (omega arith) in
    omega (arith, ints, is, one, other)

-- Two sides that follow each other, b to c and c to d, and a point a.
three : (a b c d : Point) → (sweep b c *ℤ left c d a) ≡ ((sweep c d *ℤ left b c a) +ℤ (sweep a c *ℤ left b c d))
three a b c d =
    let first = left-sweeps c d a in
    let second = left-sweeps b c a in
    let third : left b c d ≡ ((sweep b c -ℤ sweep b d) +ℤ sweep c d) =
    identity (left_term b c d) (plus (minus (sweep_term b c) (sweep_term b d)) (sweep_term c d)) (omega arith) in
    ap (λ (z : ℤ). sweep b c *ℤ z) first
    ∙ six (sweep a b) (sweep a c) (sweep a d) (sweep b c) (sweep b d) (sweep c d) (four a b c d)
    ∙ sym (ap₂ (λ (y z : ℤ). (sweep c d *ℤ y) +ℤ (sweep a c *ℤ z)) second third)

-- ---- corners one after the other, round and round

record Rounds (at : ℕ → Point) (count : ℕ) : Type 0 where
  sweeps : (j : ℕ) → pos 0 <ℤ sweep (at j) (at (suc j))
  turns : (j : ℕ) → pos 0 <ℤ left (at j) (at (suc j)) (at (suc (suc j)))
  again : (j : ℕ) → at (count + j) ≡ at j

-- Once a corner lies right of the way to this one, all behind it do, up to this one again.
abbrev Once : (ℕ → Point) → ℕ → ℕ → Type 0
Once at count i = (j : ℕ) → i < j → suc j < count + i → sweep (at i) (at j) ≤ℤ pos 0 → sweep (at i) (at (suc j)) ≤ℤ pos 0

was-left : (at : ℕ → Point) (count i : ℕ) → Once at count i → (j : ℕ) → i < j → suc j < count + i → pos 0 <ℤ sweep (at i) (at (suc j)) → pos 0 <ℤ sweep (at i) (at j)
was-left at count i once j after within is =
    by_lt_z (pos 0) (sweep (at i) (at j)) (λ above. above) (λ below. let gone = once j after within below in absurd (omega (arith, ints, gone, is)))

-- What lies left of the way to a corner lies left of that to the next one, too.
sorted : (at : ℕ → Point) (count : ℕ) → Rounds at count → (i : ℕ) → Once at count i → (j : ℕ) → suc i < j → j < count + i → pos 0 <ℤ sweep (at i) (at j) → pos 0 <ℤ sweep (at (suc i)) (at j)
sorted at count r i once zero after within is = absurd (omega (arith, after))
sorted at count r i once (suc j) after within is =
    by (cases_eq j (suc i)) (λ later before. sorted at count r i once j later (omega (arith, within)) before)
  where
    by : (j ≡ suc i) ⊎ (j ≡ suc i → ⊥) → (suc i < j → pos 0 <ℤ sweep (at i) (at j) → pos 0 <ℤ sweep (at (suc i)) (at j)) → pos 0 <ℤ sweep (at (suc i)) (at (suc j))
    by (inl same) earlier = subst (λ (n : ℕ). pos 0 <ℤ sweep (at (suc i)) (at (suc n))) (sym same) (r.sweeps (suc i))
    by (inr differ) earlier =
        let before = was-left at count i once j (omega (arith, after, differ)) within is in
        let from = earlier (omega (arith, after, differ)) before in
        let one = positive-product (sweep (at i) (at (suc i))) (sweep (at j) (at (suc j))) (r.sweeps i) (r.sweeps j) in
        let other = positive-product (sweep (at i) (at (suc j))) (sweep (at (suc i)) (at j)) is from in
        let same = four (at i) (at (suc i)) (at j) (at (suc j)) in
        positive-factor (sweep (at i) (at j)) (sweep (at (suc i)) (at (suc j))) before (omega (arith, ints, one, other, same))

next-once : (at : ℕ → Point) (count : ℕ) → Rounds at count → (i : ℕ) → Once at count i → Once at count (suc i)
next-once at count r i once j after within below = by (cases_eq (suc j) (count + i))
  where
    by : (suc j ≡ count + i) ⊎ (suc j ≡ count + i → ⊥) → sweep (at (suc i)) (at (suc j)) ≤ℤ pos 0
    by (inl same) =
        let back = ap (λ (p : Point). sweep (at (suc i)) p) (ap at same ∙ r.again i) ∙ sweep-back (at i) (at (suc i)) in
        let on = r.sweeps i in
        omega (arith, ints, back, on)
    by (inr differ) = by_lt_z (pos 0) (sweep (at i) (at j))
        (λ above. let from = sorted at count r i once j after (omega (arith, within, differ)) above in absurd (omega (arith, ints, from, below)))
        (λ gone. by_lt_z (pos 0) (sweep (at (suc i)) (at (suc j)))
        (λ is.
        let after-i : i < j = omega (arith, after) in
        let still = once j after-i (omega (arith, within, differ)) gone in
        let one = positive-product (sweep (at i) (at (suc i))) (sweep (at j) (at (suc j))) (r.sweeps i) (r.sweeps j) in
        let other = both-below (sweep (at i) (at (suc j))) (sweep (at (suc i)) (at j)) still below in
        let less = one-below (sweep (at i) (at j)) (sweep (at (suc i)) (at (suc j))) gone (omega (arith, ints, is)) in
        let same = four (at i) (at (suc i)) (at j) (at (suc j)) in
        absurd (omega (arith, ints, one, other, less, same)))
        (λ is. is))

each-once : (at : ℕ → Point) (count : ℕ) → Rounds at count → Once at count 0 → (i : ℕ) → Once at count i
each-once at count r once zero = once
each-once at count r once (suc i) = next-once at count r i (each-once at count r once i)

-- ---- no corner lies right of a side

-- of the sides behind it, as long as they begin left of the way to it
forward : (at : ℕ → Point) (count : ℕ) → Rounds at count → (i : ℕ) → Once at count i → (j : ℕ) → j < count + i → (j ≡ i) ⊎ ((i < j) × (pos 0 <ℤ sweep (at i) (at j))) → pos 0 ≤ℤ left (at j) (at (suc j)) (at i)
forward at count r i once j within (inl same) =
    let is = ap (λ (p : Point). left p (at (suc j)) (at i)) (ap at same) ∙ left-start (at i) (at (suc j)) in omega (arith, ints, is)
forward at count r i once zero within (inr (after, is)) = absurd (omega (arith, after))
forward at count r i once (suc j) within (inr (after, is)) = by (cases_eq j i) (λ how. forward at count r i once j (omega (arith, within)) how)
  where
    stepped : pos 0 ≤ℤ left (at j) (at (suc j)) (at i) → pos 0 ≤ℤ left (at (suc j)) (at (suc (suc j))) (at i)
    stepped before =
        let one = above-product (sweep (at (suc j)) (at (suc (suc j)))) (left (at j) (at (suc j)) (at i)) (let on = r.sweeps (suc j) in omega (arith, ints, on)) before in
        let other = positive-product (sweep (at i) (at (suc j))) (left (at j) (at (suc j)) (at (suc (suc j)))) is (r.turns j) in
        let same = three (at i) (at j) (at (suc j)) (at (suc (suc j))) in
        above-factor (sweep (at j) (at (suc j))) (left (at (suc j)) (at (suc (suc j))) (at i)) (r.sweeps j) (omega (arith, ints, one, other, same))

    by : (j ≡ i) ⊎ (j ≡ i → ⊥) → ((j ≡ i) ⊎ ((i < j) × (pos 0 <ℤ sweep (at i) (at j))) → pos 0 ≤ℤ left (at j) (at (suc j)) (at i)) → pos 0 ≤ℤ left (at (suc j)) (at (suc (suc j))) (at i)
    by (inl same) earlier = stepped (earlier (inl same))
    by (inr differ) earlier =
        let later : i < j = omega (arith, after, differ) in
        stepped (earlier (inr (later, was-left at count i once j later within is)))

-- of the sides before it, as long as they end right of the way to it
backward : (at : ℕ → Point) (count : ℕ) → Rounds at count → (i : ℕ) → Once at count i → (k j : ℕ) → suc j + k ≡ count + i → i ≤ j → (k ≡ 0) ⊎ (sweep (at i) (at (suc j)) ≤ℤ pos 0) → pos 0 ≤ℤ left (at j) (at (suc j)) (at i)
backward at count r i once zero j all from how =
    let is = ap (λ (p : Point). left (at j) p (at i)) (ap at (let last : suc j ≡ count + i = omega (arith, all) in last) ∙ r.again i) ∙ left-stop (at j) (at i) in omega (arith, ints, is)
backward at count r i once (suc k) j all from (inl isnt) = absurd (omega (arith, isnt))
backward at count r i once (suc k) j all from (inr below) =
    by (cases_eq k 0) (λ how. backward at count r i once k (suc j) (omega (arith, all)) (omega (arith, from)) how)
  where
    stepped : pos 0 ≤ℤ left (at (suc j)) (at (suc (suc j))) (at i) → pos 0 ≤ℤ left (at j) (at (suc j)) (at i)
    stepped after =
        let one = above-product (sweep (at j) (at (suc j))) (left (at (suc j)) (at (suc (suc j))) (at i)) (let on = r.sweeps j in omega (arith, ints, on)) after in
        let other = one-below (sweep (at i) (at (suc j))) (left (at j) (at (suc j)) (at (suc (suc j)))) below (let turns = r.turns j in omega (arith, ints, turns)) in
        let same = three (at i) (at j) (at (suc j)) (at (suc (suc j))) in
        above-factor (sweep (at (suc j)) (at (suc (suc j)))) (left (at j) (at (suc j)) (at i)) (r.sweeps (suc j)) (omega (arith, ints, one, other, same))

    by : (k ≡ 0) ⊎ (k ≡ 0 → ⊥) → ((k ≡ 0) ⊎ (sweep (at i) (at (suc (suc j))) ≤ℤ pos 0) → pos 0 ≤ℤ left (at (suc j)) (at (suc (suc j))) (at i)) → pos 0 ≤ℤ left (at j) (at (suc j)) (at i)
    by (inl same) later = stepped (later (inl same))
    by (inr differ) later = stepped (later (inr (once (suc j) (omega (arith, from)) (omega (arith, all, differ)) below)))

each-left : (at : ℕ → Point) (count : ℕ) → Rounds at count → (i : ℕ) → Once at count i → (j : ℕ) → i ≤ j → j < count + i → pos 0 ≤ℤ left (at j) (at (suc j)) (at i)
each-left at count r i once j from within = by (cases_eq j i) (cases_eq (suc j) (count + i))
  where
    all : suc j + ((count + i) - suc j) ≡ count + i
    all = omega (arith, within)

    by : (j ≡ i) ⊎ (j ≡ i → ⊥) → (suc j ≡ count + i) ⊎ (suc j ≡ count + i → ⊥) → pos 0 ≤ℤ left (at j) (at (suc j)) (at i)
    by (inl same) last = forward at count r i once j within (inl same)
    by (inr differ) (inl last) = backward at count r i once ((count + i) - suc j) j all from (inl (omega (arith, last)))
    by (inr differ) (inr isnt) = by_lt_z (pos 0) (sweep (at i) (at j))
        (λ is. forward at count r i once j within (inr (omega (arith, from, differ), is)))
        (λ gone. backward at count r i once ((count + i) - suc j) j all from (inr (once j (omega (arith, from, differ)) (omega (arith, within, isnt)) gone)))

-- none stands there twice
apart : (at : ℕ → Point) (count : ℕ) → Rounds at count → (i : ℕ) → Once at count i → (j : ℕ) → i < j → j < count + i → at i ≡ at j → ⊥
apart at count r i once j after within same = by (cases_eq (suc j) (count + i))
  where
    on : pos 0 <ℤ sweep (at i) (at (suc j))
    on = subst (λ (p : Point). pos 0 <ℤ sweep p (at (suc j))) (sym same) (r.sweeps j)

    by : (suc j ≡ count + i) ⊎ (suc j ≡ count + i → ⊥) → ⊥
    by (inl last) =
        let is = ap (λ (p : Point). sweep (at i) p) (ap at last ∙ r.again i) ∙ sweep-same (at i) in omega (arith, ints, is, on)
    by (inr isnt) =
        let is = ap (λ (p : Point). sweep (at i) p) (sym same) ∙ sweep-same (at i) in
        let gone = once j after (omega (arith, within, isnt)) (omega (arith, ints, is)) in
        omega (arith, ints, gone, on)

-- ---- the corners of a list, round and round

-- Where the corner of this number stands.
abbrev place : ℕ → ℕ → ℕ
place count zero = 0
place count (suc j) = next_place (place count j) count

abbrev at_of : List Point → Point → ℕ → Point
at_of corners d j = get_or corners (place (length corners) j) d

next-inside : (j count : ℕ) → suc j < count → next_place j count ≡ suc j
next-inside j count inside = by (nat_eq (j + 1) count) refl
  where
    by : (t : Bool) → nat_eq (j + 1) count ≡ t → cond t 0 (j + 1) ≡ suc j
    by true is = absurd (omega (arith, eqb-true (j + 1) count is, inside))
    by false isnt = omega arith

next-last : (j count : ℕ) → suc j ≡ count → next_place j count ≡ 0
next-last j count last = by (nat_eq (j + 1) count) refl
  where
    by : (t : Bool) → nat_eq (j + 1) count ≡ t → cond t 0 (j + 1) ≡ 0
    by true is = refl
    by false isnt = absurd (eqb-false (j + 1) count isnt (omega (arith, last)))

place-within : (count : ℕ) → 0 < count → (j : ℕ) → place count j < count
place-within count some zero = some
place-within count some (suc j) = next-within (place count j) count (place-within count some j)

place-is : (count j : ℕ) → j < count → place count j ≡ j
place-is count zero inside = refl
place-is count (suc j) inside = ap (λ (n : ℕ). next_place n count) (place-is count j (omega (arith, inside))) ∙ next-inside j count inside

place-all : (count : ℕ) → 0 < count → place count count ≡ 0
place-all zero some = refl
place-all (suc k) some = ap (λ (n : ℕ). next_place n (suc k)) (place-is (suc k) k (omega arith)) ∙ next-last k (suc k) refl

place-again : (count : ℕ) → 0 < count → (j : ℕ) → place count (count + j) ≡ place count j
place-again count some zero = ap (λ (n : ℕ). place count n) (let same : count + 0 ≡ count = omega arith in same) ∙ place-all count some
place-again count some (suc j) =
    ap (λ (n : ℕ). place count n) (let same : count + suc j ≡ suc (count + j) = omega arith in same)
    ∙ ap (λ (n : ℕ). next_place n count) (place-again count some j)

-- ---- what is asked for, of the corners one after the other

rounds : (corners : List Point) (d : Point) → 0 < length corners → All (λ side. pos 0 <ℤ swept side) (sides corners) → All (λ two. pos 0 <ℤ turn two.0 two.1) (neighbours (sides corners)) → Rounds (at_of corners d) (length corners)
rounds corners d some around turning =
    let count = length corners in
    let size = length-sides corners in
    let inside = λ (j : ℕ). place-within count some j in
    record {
      sweeps = λ j.
          let is = side-at corners (place count j) d nowhere (inside j) in
          subst (λ (side : Edge). pos 0 <ℤ swept side) is (around (place count j) nowhere (let within = inside j in omega (arith, size, within)));
      turns = λ j.
          let sized = length-neighbours (sides corners) in
          let within = inside j in
          let two = neighbour-at (sides corners) (place count j) nowhere (nowhere, nowhere) (omega (arith, size, within))
          ∙ ap₂ (λ (one other : Edge). (one, other)) (side-at corners (place count j) d nowhere within)
          (ap (λ (n : ℕ). get_or (sides corners) (next_place (place count j) n) nowhere) size ∙ side-at corners (place count (suc j)) d nowhere (inside (suc j))) in
          let is = subst (λ (both : Edge × Edge). pos 0 <ℤ turn both.0 both.1) two (turning (place count j) (nowhere, nowhere) (omega (arith, sized, size, within))) in
          subst (λ (z : ℤ). pos 0 <ℤ z) (left-turn (at_of corners d j) (at_of corners d (suc j)) (at_of corners d (suc (suc j)))) is;
      again = λ j. ap (λ (n : ℕ). get_or corners n d) (place-again count some j);
    }

first-once : (corners : List Point) (d : Point) → GoesRoundOnce corners → Once (at_of corners d) (length corners) 0
first-once corners d once j after within below =
    let count = length corners in
    let one = place-is count j (omega (arith, within)) in
    let other = place-is count (suc j) (omega (arith, within)) in
    let before : suc j - 1 ≡ j = omega arith in
    subst (λ (n : ℕ). sweep (get_or corners 0 d) (get_or corners n d) ≤ℤ pos 0) (sym other)
    (once (suc j) d (omega (arith, after)) (omega (arith, within))
    (subst (λ (n : ℕ). sweep (get_or corners 0 d) (get_or corners n d) ≤ℤ pos 0) (one ∙ sym before) below))

-- the corner lies left of the side, wherever it stands
over : (corners : List Point) (d : Point) → 0 < length corners → Rounds (at_of corners d) (length corners) → (i : ℕ) → Once (at_of corners d) (length corners) i → (j : ℕ) → i < length corners → j < length corners
    → pos 0 ≤ℤ height_over (edge_between (get_or corners j d) (get_or corners (next_place j (length corners)) d)) (get_or corners i d)
over corners d some r i once j inside here = by (cases_lt j i)
  where
    told : (k : ℕ) → place (length corners) k ≡ j → i ≤ k → k < length corners + i → pos 0 ≤ℤ left (get_or corners j d) (get_or corners (next_place j (length corners)) d) (get_or corners i d)
    told k is from within =
        subst (λ (z : ℤ). pos 0 ≤ℤ z)
        (ap₂ (λ (n m : ℕ). left (get_or corners n d) (get_or corners (next_place n (length corners)) d) (get_or corners m d)) is (place-is (length corners) i inside))
        (each-left (at_of corners d) (length corners) r i once k from within)

    by : (j < i) ⊎ (i ≤ j) → pos 0 ≤ℤ left (get_or corners j d) (get_or corners (next_place j (length corners)) d) (get_or corners i d)
    by (inl before) = told (length corners + j) (place-again (length corners) some j ∙ place-is (length corners) j here) (omega (arith, inside)) (omega (arith, before))
    by (inr from) = told j (place-is (length corners) j here) from (omega (arith, here))

-- Corners that go round once so are those of a shape.
pub convex-once : (corners : List Point) → 0 < length corners → All (λ side. pos 0 <ℤ swept side) (sides corners) → All (λ two. pos 0 <ℤ turn two.0 two.1) (neighbours (sides corners)) → GoesRoundOnce corners → IsConvexAroundOrigin corners
convex-once corners some around turning once =
    let count = length corners in
    let r = λ (d : Point). rounds corners d some around turning in
    let each = λ (d : Point) (i : ℕ). each-once (at_of corners d) count (r d) (first-once corners d once) i in
    record {
      ring = record {
        some = λ none. absurd (let size = ap (λ (points : List Point). length points) none in omega (arith, size, some));
        once = λ i j d before within same.
            let one = place-is count i (omega (arith, before, within)) in
            let other = place-is count j within in
            apart (at_of corners d) count (r d) i (each d i) j before (omega (arith, within))
            (ap (λ (n : ℕ). get_or corners n d) one ∙ same ∙ ap (λ (n : ℕ). get_or corners n d) (sym other));
      };
      left = around;
      turns = turning;
      convex = λ j e within i d inside.
          let size = length-sides corners in
          let here : j < count = omega (arith, size, within) in
          let is = get_or_default (sides corners) j e nowhere within ∙ side-at corners j d nowhere here in
          subst (λ (side : Edge). pos 0 ≤ℤ height_over side (get_or corners i d)) (sym is) (over corners d some (r d) i (each d i) j inside here);
    }

-- ---- the other way round: the corners of a shape go round once

left-ways : (u v x : Point) → left u v x ≡ ((sweep u v +ℤ sweep v x) -ℤ sweep u x)
left-ways u v x = identity (left_term u v x) (minus (plus (sweep_term u v) (sweep_term v x)) (sweep_term u x)) (omega arith)

-- the same of ten numbers
ten : (uv va ua vc uc vd ud ac ad cd : ℤ) → ((va *ℤ cd) +ℤ (vd *ℤ ac)) ≡ (vc *ℤ ad) → ((ua *ℤ cd) +ℤ (ud *ℤ ac)) ≡ (uc *ℤ ad)
    → (cd *ℤ ((uv +ℤ va) -ℤ ua)) ≡ (((((cd -ℤ ad) +ℤ ac) *ℤ uv) +ℤ (ad *ℤ ((uv +ℤ vc) -ℤ uc))) -ℤ (ac *ℤ ((uv +ℤ vd) -ℤ ud)))
ten uv va ua vc uc vd ud ac ad cd first second =
    let n = λ (z : ℤ). number z in
    let all = identity (times (n cd) (minus (plus (n uv) (n va)) (n ua))) (minus (plus (times (n cd) (n uv)) (times (n va) (n cd))) (times (n ua) (n cd))) (omega arith) in
    let one = identity (times (plus (minus (n cd) (n ad)) (n ac)) (n uv)) (plus (minus (times (n cd) (n uv)) (times (n ad) (n uv))) (times (n ac) (n uv))) (omega arith) in
    let two = identity (times (n ad) (minus (plus (n uv) (n vc)) (n uc))) (minus (plus (times (n ad) (n uv)) (times (n vc) (n ad))) (times (n uc) (n ad))) (omega arith) in
    let three = identity (times (n ac) (minus (plus (n uv) (n vd)) (n ud))) (minus (plus (times (n ac) (n uv)) (times (n vd) (n ac))) (times (n ud) (n ac))) (omega arith) in
    omega (arith, ints, first, second, all, one, two, three)

-- How far a lies left of the way from u to v, by how far c and d do.
spread : (u v a c d : Point) → (sweep c d *ℤ left u v a) ≡ (((left c d a *ℤ sweep u v) +ℤ (sweep a d *ℤ left u v c)) -ℤ (sweep a c *ℤ left u v d))
spread u v a c d =
    ap (λ (z : ℤ). sweep c d *ℤ z) (left-ways u v a)
    ∙ ten (sweep u v) (sweep v a) (sweep u a) (sweep v c) (sweep u c) (sweep v d) (sweep u d) (sweep a c) (sweep a d) (sweep c d) (four v a c d) (four u a c d)
    ∙ sym (ap₂ (λ (x y : ℤ). x -ℤ y)
    (ap₂ (λ (x y : ℤ). (x *ℤ sweep u v) +ℤ (sweep a d *ℤ y)) (left-sweeps c d a) (left-ways u v c))
    (ap (λ (z : ℤ). sweep a c *ℤ z) (left-ways u v d)))

product-none : (a b : ℤ) → a ≡ pos 0 → (a *ℤ b) ≡ pos 0
product-none a b is = ap (λ (z : ℤ). z *ℤ b) is ∙ identity (times none (number b)) none (omega arith)

none-product : (a b : ℤ) → b ≡ pos 0 → (a *ℤ b) ≡ pos 0
none-product a b is = ap (λ (z : ℤ). a *ℤ z) is ∙ identity (times (number a) none) none (omega arith)

none-factor : (k z : ℤ) → pos 0 <ℤ k → (k *ℤ z) ≡ pos 0 → z ≡ pos 0
none-factor k z some is =
    let from = above-factor k z some (omega (arith, ints, is)) in
    let turn = identity (times (number k) (minus none (number z))) (minus none (times (number k) (number z))) (omega arith) in
    let upto = above-factor k (pos 0 -ℤ z) some (omega (arith, ints, is, turn)) in
    omega (arith, ints, from, upto)

-- A corner a on the way from u to v, and two others left of it, c and d, between which a lies as seen from the origin: c is on
-- that way too.
on-way : (u v a c d : Point) → left u v a ≡ pos 0 → pos 0 <ℤ sweep u v → pos 0 ≤ℤ left c d a → pos 0 ≤ℤ left u v c → pos 0 ≤ℤ left u v d → sweep a c ≤ℤ pos 0 → pos 0 <ℤ sweep a d → left u v c ≡ pos 0
on-way u v a c d is some inside first second right ahead =
    let all = spread u v a c d in
    let whole = none-product (sweep c d) (left u v a) is in
    let one = above-product (left c d a) (sweep u v) inside (omega (arith, ints, some)) in
    let two = one-below (sweep a c) (left u v d) right second in
    let three = above-product (sweep a d) (left u v c) (omega (arith, ints, ahead)) first in
    none-factor (sweep a d) (left u v c) ahead (omega (arith, ints, all, whole, one, two, three))

-- and where two such ways turn at a, it is a
turn_x : (p a n c : Point) → (left p a n *ℤ (c.x -ℤ a.x)) ≡ ((left p a c *ℤ (n.x -ℤ a.x)) -ℤ (left a n c *ℤ (a.x -ℤ p.x)))
turn_x p a n c =
    identity (times (left_term p a n) (way_term a.x c.x)) (minus (times (left_term p a c) (way_term a.x n.x)) (times (left_term a n c) (way_term p.x a.x))) (omega arith)

turn_y : (p a n c : Point) → (left p a n *ℤ (c.y -ℤ a.y)) ≡ ((left p a c *ℤ (n.y -ℤ a.y)) -ℤ (left a n c *ℤ (a.y -ℤ p.y)))
turn_y p a n c =
    identity (times (left_term p a n) (way_term a.y c.y)) (minus (times (left_term p a c) (way_term a.y n.y)) (times (left_term a n c) (way_term p.y a.y))) (omega arith)

at-turn : (p a n c : Point) → pos 0 <ℤ left p a n → left p a c ≡ pos 0 → left a n c ≡ pos 0 → a ≡ c
at-turn p a n c turns first second =
    let by = λ (z w t s : ℤ) (all : (left p a n *ℤ z) ≡ ((left p a c *ℤ w) -ℤ (left a n c *ℤ t))).
    let one = product-none (left p a c) w first in
    let two = product-none (left a n c) t second in
    none-factor (left p a n) z turns (omega (arith, ints, all, one, two)) in
    let x = by (c.x -ℤ a.x) (n.x -ℤ a.x) (a.x -ℤ p.x) (pos 0) (turn_x p a n c) in
    let y = by (c.y -ℤ a.y) (n.y -ℤ a.y) (a.y -ℤ p.y) (pos 0) (turn_y p a n c) in
    ap₂ (λ (x y : ℤ). let point : Point = record { x = x; y = y } in point) (let same : a.x ≡ c.x = omega (arith, ints, x) in same) (let same : a.y ≡ c.y = omega (arith, ints, y) in same)

side-sweeps : (corners : List Point) → IsConvexAroundOrigin corners → (d : Point) (k : ℕ) → k < length corners → pos 0 <ℤ sweep (get_or corners k d) (get_or corners (next_place k (length corners)) d)
side-sweeps corners shape d k inside =
    let size = length-sides corners in
    subst (λ (side : Edge). pos 0 <ℤ swept side) (side-at corners k d nowhere inside) (shape.left k nowhere (omega (arith, size, inside)))

side-left : (corners : List Point) → IsConvexAroundOrigin corners → (d : Point) (k m : ℕ) → k < length corners → m < length corners → pos 0 ≤ℤ left (get_or corners k d) (get_or corners (next_place k (length corners)) d) (get_or corners m d)
side-left corners shape d k m inside within =
    let size = length-sides corners in
    subst (λ (side : Edge). pos 0 ≤ℤ height_over side (get_or corners m d)) (side-at corners k d nowhere inside) (shape.convex k nowhere (omega (arith, size, inside)) m d within)

-- The corners of a shape go round the origin once.
pub once-convex : (corners : List Point) → IsConvexAroundOrigin corners → GoesRoundOnce corners
once-convex corners shape zero d after within below = absurd (omega (arith, after))
once-convex corners shape (suc j) d after within below =
    by_lt_z (pos 0) (sweep (get_or corners 0 d) (get_or corners (suc j) d)) (λ ahead. absurd (back ahead)) (λ is. is)
  where
    back : pos 0 <ℤ sweep (get_or corners 0 d) (get_or corners (suc j) d) → ⊥
    back ahead =
        let count = length corners in
        let last = count - 1 in
        let at = λ (n : ℕ). get_or corners n d in
        let some : 0 < count = omega (arith, within) in
        let final : last < count = omega (arith, within) in
        let here : j < count = omega (arith, within) in
        let r = rounds corners d some shape.left shape.turns in
        let right = subst (λ (n : ℕ). sweep (at 0) (at n) ≤ℤ pos 0) (let before : suc j - 1 ≡ j = omega arith in before) below in
        let one : next_place 0 count ≡ 1 = next-inside 0 count (omega (arith, after, within)) in
        let round : next_place last count ≡ 0 = next-last last count (omega (arith, within)) in
        let next : next_place j count ≡ suc j = next-inside j count within in
        let inside = subst (λ (n : ℕ). pos 0 ≤ℤ left (at j) (at n) (at 0)) next (side-left corners shape d j 0 here some) in
        let beyond = λ (m : ℕ) (is : m < count). subst (λ (n : ℕ). pos 0 ≤ℤ left (at 0) (at n) (at m)) one (side-left corners shape d 0 m some is) in
        let before = λ (m : ℕ) (is : m < count). subst (λ (n : ℕ). pos 0 ≤ℤ left (at last) (at n) (at m)) round (side-left corners shape d last m final is) in
        let first = on-way (at 0) (at 1) (at 0) (at j) (at (suc j)) (left-start (at 0) (at 1))
        (subst (λ (n : ℕ). pos 0 <ℤ sweep (at 0) (at n)) one (side-sweeps corners shape d 0 some)) inside (beyond j here) (beyond (suc j) within) right ahead in
        let second = on-way (at last) (at 0) (at 0) (at j) (at (suc j)) (left-stop (at last) (at 0))
        (subst (λ (n : ℕ). pos 0 <ℤ sweep (at last) (at n)) round (side-sweeps corners shape d last final)) inside (before j here) (before (suc j) within) right ahead in
        let turns = subst (λ (n : ℕ). pos 0 <ℤ left (at last) (at 0) (at n)) one
        (subst (λ (n : ℕ). pos 0 <ℤ left (at last) (at n) (at (next_place n count))) round
        (subst (λ (n : ℕ). pos 0 <ℤ left (at n) (at (next_place n count)) (at (next_place (next_place n count) count))) (place-is count last final) (r.turns last))) in
        shape.ring.once 0 j d (omega (arith, after)) here (at-turn (at last) (at 0) (at 1) (at j) turns second first)

-- So it is told whether they are those of a shape.
pub told-once : (corners : List Point) → 0 < length corners → All (λ side. pos 0 <ℤ swept side) (sides corners) → All (λ two. pos 0 <ℤ turn two.0 two.1) (neighbours (sides corners))
    → (t : Bool) → MatchBool t (GoesRoundOnce corners) (GoesRoundOnce corners → ⊥) → MatchBool t (IsConvexAroundOrigin corners) (IsConvexAroundOrigin corners → ⊥)
told-once corners some around turning true once = convex-once corners some around turning once
told-once corners some around turning false isnt = λ shape. isnt (once-convex corners shape)
