-- Ways, once they are sheared, come in the same order clockwise; so the edge that turns furthest left stays the same one.
use Rattle.std.proofs.Common.{◌≡◌, ◌≢◌, inl, inr, ℕ, ◌<◌, ℤ, pos, ◌+ℤ◌, ◌-ℤ◌, ◌*ℤ◌, ◌≤ℤ◌, ◌<ℤ◌, Bool, List, length, map, ap, ap₂, sym, subst, ◌∙◌, arith}
use Rattle.std.proofs.lemmas.Int.{by_lt_z, ints}
use Rattle.std.proofs.lemmas.List.{get_or-map, length-map}
use Rattle.plane.specs.declared.edge.Edge.{Edge}
use Rattle.plane.specs.declared.point.Point.{Point}
use Rattle.plane.proofs.MeetLemmas.Identities.{Term, identity, minus, number, plus, times}
use Rattle.noding.proofs.SnapLemmas.Numbers.{n_of, product_positive}
use Rattle.plane.specs.Ends.{end_of, start_of}
use Rattle.overlay.specs.Contours.Order.{edge_at, point_at}
use Rattle.overlay.specs.Contours.Turns.{AreAlike, ComesBefore, Direction, IsLeft, IsLeftmost, Leaves, TurnsBefore, direction_between, dot}
use Rattle.overlay.proofs.AreaLemmas.Sheared.{sheared-same}
use Rattle.overlay.specs.Sides.{sheared, sheared_edge}
use Rattle.overlay.proofs.ContourLemmas.Clockwise.{turn}
use Rattle.overlay.proofs.ContourLemmas.Order.{point}
use Rattle.overlay.proofs.ContourLemmas.Turns.{across, along, some_square}

-- The way further along x by how far it goes along y, where x is stretched n times.
abbrev pub sheared_way : ℕ → Direction → Direction
sheared_way n way = record { x = (pos n *ℤ way.x) +ℤ way.y; y = way.y }

made : ℤ → ℤ → Direction
made x y = record { x = x; y = y }

-- what stands where nothing does
abbrev nothing : Edge
nothing = record { x0 = pos 0; y0 = pos 0; x1 = pos 0; y1 = pos 0 }

-- that between two sheared points
pub way-sheared : (n : ℕ) (from to : Point) → direction_between (sheared n from) (sheared n to) ≡ sheared_way n (direction_between from to)
unfolding made
way-sheared n from to =
    ap (λ (x : ℤ). made x (to.y -ℤ from.y))
    (identity (minus (plus (times (n_of n) (number to.x)) (number to.y)) (plus (times (n_of n) (number from.x)) (number from.y)))
    (plus (times (n_of n) (minus (number to.x) (number from.x))) (minus (number to.y) (number from.y))) (omega arith))

-- ---- products

-- what isn't above 0 isn't after it was multiplied by what is
upto_product : (k z : ℤ) → pos 0 <ℤ k → z ≤ℤ pos 0 → (k *ℤ z) ≤ℤ pos 0
upto_product k z above below =
    by_lt_z z (pos 0)
    (λ under.
    let more = product_positive k (pos 0 -ℤ z) above (omega (arith, ints, under)) in
    let is = identity (times (number k) (minus (n_of 0) (number z))) (minus (n_of 0) (times (number k) (number z))) (omega arith) in
    omega (arith, ints, more, is))
    (λ from.
    let zero : z ≡ pos 0 = omega (arith, ints, below, from) in
    let is = ap (λ (y : ℤ). k *ℤ y) zero ∙ identity (times (number k) (n_of 0)) (n_of 0) (omega arith) in
    omega (arith, ints, is))

module _ (n : ℕ) where
  abbrev sheared_x : Direction → Term
  sheared_x way = plus (times (n_of n) (number way.x)) (number way.y)

  -- cross products are n times as large
  turn-sheared : (a b : Direction) → turn (sheared_way n a) (sheared_way n b) ≡ (pos n *ℤ turn a b)
  turn-sheared a b = identity (minus (times (sheared_x a) (number b.y)) (times (number a.y) (sheared_x b))) (times (n_of n) (across a.x a.y b.x b.y)) (omega arith)

  -- scalar products of ways on one line keep their signs
  abbrev scalar : Direction → Direction → ℤ
  scalar a b = dot a.x a.y b.x b.y

  abbrev rest : Direction → ℤ
  rest a = (((pos n *ℤ a.x) +ℤ a.y) *ℤ ((pos n *ℤ (pos 0 -ℤ a.y)) +ℤ a.x)) +ℤ (a.y *ℤ a.x)

  dot-sheared : (a b : Direction) → (scalar a a *ℤ scalar (sheared_way n a) (sheared_way n b)) ≡ ((scalar a b *ℤ scalar (sheared_way n a) (sheared_way n a)) +ℤ (turn a b *ℤ rest a))
  dot-sheared a b =
      whole (scalar a a) (sheared_way n a).x (sheared_way n b).x a.y b.y
      ∙ ap₂ (λ (u v : ℤ). ((sheared_way n a).x *ℤ u) +ℤ (a.y *ℤ v)) across_x across_y
      ∙ parts (scalar a b) (sheared_way n a).x (turn a b) ((pos n *ℤ (pos 0 -ℤ a.y)) +ℤ a.x) a.y a.x
    where
      whole : (d x z y w : ℤ) → (d *ℤ ((x *ℤ z) +ℤ (y *ℤ w))) ≡ ((x *ℤ (d *ℤ z)) +ℤ (y *ℤ (d *ℤ w)))
      whole d x z y w =
          identity (times (number d) (plus (times (number x) (number z)) (times (number y) (number w)))) (plus (times (number x) (times (number d) (number z))) (times (number y) (times (number d) (number w)))) (omega arith)

      parts : (e x t c y w : ℤ) → ((x *ℤ ((e *ℤ x) +ℤ (t *ℤ c))) +ℤ (y *ℤ ((e *ℤ y) +ℤ (t *ℤ w)))) ≡ ((e *ℤ ((x *ℤ x) +ℤ (y *ℤ y))) +ℤ (t *ℤ ((x *ℤ c) +ℤ (y *ℤ w))))
      parts e x t c y w =
          identity (plus (times (number x) (plus (times (number e) (number x)) (times (number t) (number c)))) (times (number y) (plus (times (number e) (number y)) (times (number t) (number w)))))
          (plus (times (number e) (plus (times (number x) (number x)) (times (number y) (number y)))) (times (number t) (plus (times (number x) (number c)) (times (number y) (number w))))) (omega arith)

      -- the other way, by what of it is along the one and across it
      across_x : (scalar a a *ℤ (sheared_way n b).x) ≡ ((scalar a b *ℤ (sheared_way n a).x) +ℤ (turn a b *ℤ ((pos n *ℤ (pos 0 -ℤ a.y)) +ℤ a.x)))
      across_x =
          identity (times (along a.x a.y a.x a.y) (sheared_x b))
          (plus (times (along a.x a.y b.x b.y) (sheared_x a)) (times (across a.x a.y b.x b.y) (plus (times (n_of n) (minus (n_of 0) (number a.y))) (number a.x)))) (omega arith)

      across_y : (scalar a a *ℤ b.y) ≡ ((scalar a b *ℤ a.y) +ℤ (turn a b *ℤ a.x))
      across_y = identity (times (along a.x a.y a.x a.y) (number b.y)) (plus (times (along a.x a.y b.x b.y) (number a.y)) (times (across a.x a.y b.x b.y) (number a.x))) (omega arith)

  module _ (some : 0 < n) where
    -- a multiple has the sign
    less : (z : ℤ) → z <ℤ pos 0 → (pos n *ℤ z) <ℤ pos 0
    less z below =
        let more = product_positive (pos n) (pos 0 -ℤ z) (omega (arith, ints, some)) (omega (arith, ints, below)) in
        let is = identity (times (n_of n) (minus (n_of 0) (number z))) (minus (n_of 0) (times (n_of n) (number z))) (omega arith) in
        omega (arith, ints, more, is)

    none : (z : ℤ) → z ≡ pos 0 → (pos n *ℤ z) ≡ pos 0
    none z is = ap (λ (y : ℤ). pos n *ℤ y) is ∙ identity (times (n_of n) (n_of 0)) (n_of 0) (omega arith)

    -- a way that goes somewhere does so once it is sheared
    steep : (a : Direction) → ((a.x ≡ pos 0) × (a.y ≡ pos 0) → ⊥) → pos 0 <ℤ scalar (sheared_way n a) (sheared_way n a)
    steep a goes = some_square ((pos n *ℤ a.x) +ℤ a.y) a.y still
      where
        still : (((pos n *ℤ a.x) +ℤ a.y) ≡ pos 0) × (a.y ≡ pos 0) → ⊥
        still (first, level) =
            by_lt_z a.x (pos 0)
            (λ below. let is = less a.x below in omega (arith, ints, is, first, level))
            (λ from. by_lt_z (pos 0) a.x
            (λ above. let is = product_positive (pos n) a.x (omega (arith, ints, some)) above in omega (arith, ints, is, first, level))
            (λ upto. goes (omega (arith, ints, from, upto), level)))

    ahead : (a b : Direction) → ((a.x ≡ pos 0) × (a.y ≡ pos 0) → ⊥) → turn a b ≡ pos 0 → pos 0 <ℤ scalar a b → pos 0 <ℤ scalar (sheared_way n a) (sheared_way n b)
    ahead a b goes level on =
        by_lt_z (pos 0) (scalar (sheared_way n a) (sheared_way n b)) (λ is. is)
        (λ upto.
        let whole = dot-sheared a b in
        let one = product_positive (scalar a b) (scalar (sheared_way n a) (sheared_way n a)) on (steep a goes) in
        let nothing = ap (λ (z : ℤ). z *ℤ rest a) level ∙ identity (times (n_of 0) (number (rest a))) (n_of 0) (omega arith) in
        let square = some_square a.x a.y goes in
        let back = upto_product (scalar a a) (scalar (sheared_way n a) (sheared_way n b)) square upto in
        absurd (omega (arith, ints, whole, one, nothing, back)))

    -- and so do those that aren't ahead
    behind : (a b : Direction) → ((a.x ≡ pos 0) × (a.y ≡ pos 0) → ⊥) → turn a b ≡ pos 0 → pos 0 <ℤ scalar (sheared_way n a) (sheared_way n b) → pos 0 <ℤ scalar a b
    behind a b goes level on =
        by_lt_z (pos 0) (scalar a b) (λ is. is)
        (λ upto.
        let whole = dot-sheared a b in
        let one = product_positive (scalar a a) (scalar (sheared_way n a) (sheared_way n b)) (some_square a.x a.y goes) on in
        let nothing = ap (λ (z : ℤ). z *ℤ rest a) level ∙ identity (times (n_of 0) (number (rest a))) (n_of 0) (omega arith) in
        let back = upto_product (scalar (sheared_way n a) (sheared_way n a)) (scalar a b) (steep a goes) upto in
        let turned = identity (times (number (scalar a b)) (number (scalar (sheared_way n a) (sheared_way n a)))) (times (number (scalar (sheared_way n a) (sheared_way n a))) (number (scalar a b))) (omega arith) in
        absurd (omega (arith, ints, whole, one, nothing, back, turned)))

    -- ---- the order

    left-on : (a b : Direction) → ((a.x ≡ pos 0) × (a.y ≡ pos 0) → ⊥) → IsLeft a b → IsLeft (sheared_way n a) (sheared_way n b)
    left-on a b goes (inl below) = inl (let is = turn-sheared a b in let h = less (turn a b) below in omega (arith, ints, is, h))
    left-on a b goes (inr (level, on)) = inr (turn-sheared a b ∙ none (turn a b) level, ahead a b goes level on)

    left-back : (a b : Direction) → ((a.x ≡ pos 0) × (a.y ≡ pos 0) → ⊥) → IsLeft (sheared_way n a) (sheared_way n b) → IsLeft a b
    left-back a b goes is =
        by_lt_z (turn a b) (pos 0) (λ below. inl below)
        (λ from. by_lt_z (pos 0) (turn a b) (λ above. absurd (not_above above is))
        (λ upto. inr (omega (arith, ints, from, upto), on (omega (arith, ints, from, upto)) is)))
      where
        not_above : pos 0 <ℤ turn a b → ¬ (IsLeft (sheared_way n a) (sheared_way n b))
        not_above above (inl below) = let same = turn-sheared a b in let h = product_positive (pos n) (turn a b) (omega (arith, ints, some)) above in omega (arith, ints, below, same, h)
        not_above above (inr (level, on_it)) = let same = turn-sheared a b in let h = product_positive (pos n) (turn a b) (omega (arith, ints, some)) above in omega (arith, ints, level, same, h)

        on : turn a b ≡ pos 0 → IsLeft (sheared_way n a) (sheared_way n b) → pos 0 <ℤ scalar a b
        on level (inl below) = let same = turn-sheared a b in let h = none (turn a b) level in absurd (omega (arith, ints, below, same, h))
        on level (inr (level_too, on_it)) = behind a b goes level on_it

    -- What comes first once it is sheared did so before.
    pub comes-back : (a e b : Direction) → ((a.x ≡ pos 0) × (a.y ≡ pos 0) → ⊥) → ComesBefore (sheared_way n a) (sheared_way n e) (sheared_way n b) → ComesBefore a e b
    comes-back a e b goes (inl (is, isnt)) = inl (left-back a e goes is, λ was. isnt (left-on a b goes was))
    comes-back a e b goes (inr (alike, turned)) = inr (both alike, under)
      where
        both : AreAlike (sheared_way n a) (sheared_way n e) (sheared_way n b) → AreAlike a e b
        both (inl (is, is_too)) = inl (left-back a e goes is, left-back a b goes is_too)
        both (inr (isnt, isnt_too)) = inr (λ was. isnt (left-on a e goes was), λ was. isnt_too (left-on a b goes was))

        under : turn e b <ℤ pos 0
        under =
            by_lt_z (turn e b) (pos 0) (λ is. is)
            (λ from.
            let same = turn-sheared e b in
            let h = upto_product (pos n) (pos 0 -ℤ turn e b) (omega (arith, ints, some)) (omega (arith, ints, from)) in
            let is = identity (times (n_of n) (minus (n_of 0) (number (turn e b)))) (minus (n_of 0) (times (n_of n) (number (turn e b)))) (omega arith) in
            absurd (omega (arith, ints, turned, same, h, is)))

-- ---- the edge that turns furthest left

module _ (n : ℕ) (some : 0 < n) (sorted : List Edge) (used : List Bool) where
  abbrev leant : List Edge
  leant = map (sheared_edge n) sorted

  -- each edge at its place
  edge-leant : (k : ℕ) → k < length sorted → edge_at leant k ≡ sheared_edge n (edge_at sorted k)
  edge-leant k inside = get_or-map (sheared_edge n) sorted k nothing nothing inside

  -- the same ones leave a point
  leaves-back : (at : Point) (k : ℕ) → Leaves leant used (sheared n at) k → Leaves sorted used at k
  leaves-back at k is =
      let inside : k < length sorted = subst (λ (m : ℕ). k < m) (length-map sorted (sheared_edge n)) is.inside in record {
        inside = inside;
        unused = is.unused;
        starts = sheared-same n some (point_at sorted k) at (sym (ap (λ (e : Edge). start_of e) (edge-leant k inside)) ∙ is.starts);
      }

  leaves-on : (at : Point) (k : ℕ) → Leaves sorted used at k → Leaves leant used (sheared n at) k
  leaves-on at k is = record {
    inside = subst (λ (m : ℕ). k < m) (sym (length-map sorted (sheared_edge n))) is.inside;
    unused = is.unused;
    starts = ap (λ (e : Edge). start_of e) (edge-leant k is.inside) ∙ ap (sheared n) is.starts;
  }

  -- It stays the same one.
  pub leftmost-sheared : (back at : Point) (place : ℕ) → IsLeftmost sorted used back at place → IsLeftmost leant used (sheared n back) (sheared n at) place
  leftmost-sheared back at place is = record {
    leaves = leaves-on at place is.leaves;
    first = λ differ other leaves comes. first (λ same. differ (ap (sheared n) same)) other (leaves-back at other leaves) comes;
  }
    where
      way : (k : ℕ) → k < length sorted → direction_between (sheared n at) (end_of (edge_at leant k)) ≡ sheared_way n (direction_between at (end_of (edge_at sorted k)))
      way k inside = ap (λ (e : Edge). direction_between (sheared n at) (end_of e)) (edge-leant k inside) ∙ way-sheared n at (end_of (edge_at sorted k))

      first : back ≢ at → (other : ℕ) → Leaves sorted used at other → ¬ (TurnsBefore leant (sheared n back) (sheared n at) other place)
      first differ other leaves comes =
          is.first differ other leaves
          (comes-back n some (direction_between at back) (direction_between at (end_of (edge_at sorted other))) (direction_between at (end_of (edge_at sorted place))) goes
          (subst (λ (d : Direction). ComesBefore d (sheared_way n (direction_between at (end_of (edge_at sorted other)))) (sheared_way n (direction_between at (end_of (edge_at sorted place))))) (way-sheared n at back)
          (subst (λ (d : Direction). ComesBefore (direction_between (sheared n at) (sheared n back)) d (sheared_way n (direction_between at (end_of (edge_at sorted place))))) (way other leaves.inside)
          (subst (λ (d : Direction). ComesBefore (direction_between (sheared n at) (sheared n back)) (direction_between (sheared n at) (end_of (edge_at leant other))) d) (way place is.leaves.inside) comes))))
        where
          none_left : (a b : ℤ) → (a -ℤ b) ≡ pos 0 → a ≡ b
          none_left a b level = omega (arith, ints, level)

          goes : ((direction_between at back).x ≡ pos 0) × ((direction_between at back).y ≡ pos 0) → ⊥
          goes (level, even) = differ (ap₂ point (none_left back.x at.x level) (none_left back.y at.y even))
