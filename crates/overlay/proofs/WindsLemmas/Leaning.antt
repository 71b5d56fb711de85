-- Edges that wind once around a point or not at all do so too once they are sheared by more than they go up.
use Rattle.std.proofs.Common.{◌≡◌, ◌≢◌, ℕ, suc, ◌+◌, ◌*◌, ◌<◌, ℤ, pos, negsuc, ◌+ℤ◌, ◌-ℤ◌, ◌*ℤ◌, ◌≤ℤ◌, ◌<ℤ◌, Bool, true, false, not, ◌&&◌, List, [], ◌∷◌, map, refl, ap, ap₂, sym, subst, ◌∙◌, arith}
use Rattle.std.specs.Int.Signed.{lt_z}
use Rattle.std.specs.List.{All, Contains}
use Rattle.std.specs.Prelude.{int_le}
use Rattle.std.proofs.lemmas.Int.{by_lt_z, ints}
use Rattle.std.proofs.lemmas.List.{map-id}
use Rattle.std.proofs.lemmas.List.Elements.{All-contains}
use Rattle.plane.specs.declared.edge.Edge.{Edge}
use Rattle.plane.specs.declared.point.Point.{Point}
use Rattle.plane.specs.Ends.{end_of, reversed, start_of}
use Rattle.plane.specs.Meet.Crosses.{IsWithin}
use Rattle.plane.specs.Meet.Edges.{RationalPoint}
use Rattle.plane.specs.SweepLine.Heights.{run}
use Rattle.plane.proofs.MeetLemmas.Identities.{identity, minus, number, plus, scaled, times}
use Rattle.plane.proofs.PairsLemmas.Bags.{Contains-map}
use Rattle.plane.proofs.SweepLineLemmas.Gaps.{product_above}
use Rattle.noding.specs.Windings.{IsClosed, count, is_under, winding}
use Rattle.noding.proofs.SnapLemmas.Counted.{added, counted, height_at, is_low, under}
use Rattle.noding.proofs.SnapLemmas.Numbers.{n_of, product_positive}
use Rattle.noding.proofs.SnapLemmas.Windings.{after, before, under-left, under-right, winding-added, within}
use Rattle.overlay.specs.Fill.Pieces.{total}
use Rattle.overlay.specs.Sides.{AreBorders, IsLow, sheared_edge}
use Rattle.overlay.proofs.AreaLemmas.Sheared.{back}
use Rattle.overlay.proofs.AreaLemmas.Slanted.{slanted-sloped}
use Rattle.overlay.proofs.AreaLemmas.Wide.{further-right}
use Rattle.overlay.proofs.FillLemmas.Balance.{balanced, carried}
use Rattle.overlay.proofs.FillLemmas.Premises.{All-among}
use Rattle.overlay.proofs.FillLemmas.Tests.{lt_false, lt_true}
use Rattle.overlay.proofs.FillLemmas.Totals.{total-moved}
use Rattle.overlay.proofs.WindsLemmas.Moved.{all-within, moved, under-moved, winding-map}
use Rattle.overlay.proofs.WindsLemmas.Paired.{IsOneOrNone}

-- ---- numbers

-- a multiple by a positive number is as strictly less
strictly : (k : ℕ) (a b : ℤ) → 0 < k → a <ℤ b → (pos k *ℤ a) <ℤ (pos k *ℤ b)
strictly k a b some less =
    let more = scaled k (a +ℤ pos 1) b (omega (arith, ints, less)) in
    let sum = identity (times (n_of k) (plus (number a) (n_of 1))) (plus (times (n_of k) (number a)) (n_of k)) (omega arith) in
    omega (arith, ints, more, sum, some)

-- a number has the sign of its multiple
below-none : (n : ℕ) (z w : ℤ) → (pos n *ℤ z) ≡ w → w <ℤ pos 0 → z <ℤ pos 0
below-none n z w is below =
    let none = identity (times (n_of n) (n_of 0)) (n_of 0) (omega arith) in
    by_lt_z z (pos 0) (λ less. less) (λ from. let least = scaled n (pos 0) z from in absurd (omega (arith, ints, is, below, least, none)))

from-none : (n : ℕ) (z w : ℤ) → 0 < n → (pos n *ℤ z) ≡ w → pos 0 ≤ℤ w → pos 0 ≤ℤ z
from-none n z w some is from =
    let none = identity (times (n_of n) (n_of 0)) (n_of 0) (omega arith) in
    by_lt_z z (pos 0) (λ less. let most = strictly n z (pos 0) some less in absurd (omega (arith, ints, is, from, most, none))) (λ upto. upto)

-- ---- the points between the rays that go straight down from a point, before and after it was sheared

-- x is right of the one ray, and l isn't right of the other.
abbrev is_between : ℤ → ℤ → Bool
is_between x l = lt_z (pos 0) x && not (lt_z (pos 0) l)

none-false : (t : Bool) → count (t && false) ≡ pos 0
none-false true = refl
none-false false = refl

between-left : (x l : ℤ) → x ≤ℤ pos 0 → count (is_between x l) ≡ pos 0
between-left x l upto = ap (λ (t : Bool). count (t && not (lt_z (pos 0) l))) (lt_false (pos 0) x upto)

between-right : (x l : ℤ) → pos 0 <ℤ l → count (is_between x l) ≡ pos 0
between-right x l above = ap (λ (t : Bool). count (lt_z (pos 0) x && not t)) (lt_true (pos 0) l above) ∙ none-false (lt_z (pos 0) x)

between-is : (x l : ℤ) → pos 0 <ℤ x → l ≤ℤ pos 0 → count (is_between x l) ≡ pos 1
between-is x l above upto = ap₂ (λ (s t : Bool). count (s && not t)) (lt_true (pos 0) x above) (lt_false (pos 0) l upto)

-- ---- one edge around a point, and another one around another point, which lies as far to its left or right

-- How far the point is above an edge's line, times its run and the point's n.
abbrev side : Edge → RationalPoint → ℤ
side edge point = (point.y *ℤ run edge) -ℤ height_at edge point

-- How far along x a point with this x is behind another.
abbrev ahead : RationalPoint → ℤ → ℤ
ahead point x = (pos point.n *ℤ x) -ℤ point.x

le_true : (a b : ℤ) → a ≤ℤ b → int_le a b ≡ true
le_true a b h = grind (arith, ints)

le_false : (a b : ℤ) → b <ℤ a → int_le a b ≡ false
le_false a b h = grind (arith, ints)

low-is : (edge : Edge) (point : RationalPoint) → pos 0 ≤ℤ side edge point → count (is_low edge point) ≡ pos 1
low-is edge point from = ap count (le_true (height_at edge point) (point.y *ℤ run edge) (omega (arith, ints, from)))

low-not : (edge : Edge) (point : RationalPoint) → side edge point <ℤ pos 0 → count (is_low edge point) ≡ pos 0
low-not edge point below = ap count (le_false (height_at edge point) (point.y *ℤ run edge) (omega (arith, ints, below)))

low-same : (one other : Edge) (p q : RationalPoint) → side other q ≡ side one p → count (is_low other q) ≡ count (is_low one p)
low-same one other p q same =
    by_lt_z (side one p) (pos 0)
    (λ below. low-not other q (omega (arith, ints, same, below)) ∙ sym (low-not one p below))
    (λ from. low-is other q (omega (arith, ints, same, from)) ∙ sym (low-is one p from))

module _ (one other : Edge) (p q : RationalPoint) (n : ℕ) (some : 0 < n) where
  abbrev x0 : ℤ
  x0 = ahead p one.x0

  abbrev x1 : ℤ
  x1 = ahead p one.x1

  abbrev l0 : ℤ
  l0 = ahead q other.x0

  abbrev l1 : ℤ
  l1 = ahead q other.x1

  module _ (is : (pos n *ℤ side one p) ≡ ((x0 *ℤ l1) -ℤ (l0 *ℤ x1))) (same : side other q ≡ side one p) (onwards : x0 ≤ℤ x1) (off : x1 ≤ℤ pos 0 → x0 <ℤ pos 0) (onwards_too : l0 <ℤ l1) where
    minus-first : (a b c d : ℤ) → ((a *ℤ b) -ℤ (c *ℤ d)) ≡ (pos 0 -ℤ (((pos 0 -ℤ a) *ℤ b) +ℤ (c *ℤ d)))
    minus-first a b c d =
        identity (minus (times (number a) (number b)) (times (number c) (number d)))
        (minus (n_of 0) (plus (times (minus (n_of 0) (number a)) (number b)) (times (number c) (number d)))) (omega arith)

    minus-all : (a b c d : ℤ) → ((a *ℤ b) -ℤ (c *ℤ d)) ≡ (pos 0 -ℤ (((pos 0 -ℤ a) *ℤ b) +ℤ ((pos 0 -ℤ c) *ℤ (pos 0 -ℤ d))))
    minus-all a b c d =
        identity (minus (times (number a) (number b)) (times (number c) (number d)))
        (minus (n_of 0) (plus (times (minus (n_of 0) (number a)) (number b)) (times (minus (n_of 0) (number c)) (minus (n_of 0) (number d))))) (omega arith)

    plus-second : (a b c d : ℤ) → ((a *ℤ b) -ℤ (c *ℤ d)) ≡ ((a *ℤ b) +ℤ ((pos 0 -ℤ c) *ℤ d))
    plus-second a b c d =
        identity (minus (times (number a) (number b)) (times (number c) (number d)))
        (plus (times (number a) (number b)) (times (minus (n_of 0) (number c)) (number d))) (omega arith)

    plus-all : (a b c d : ℤ) → ((a *ℤ b) -ℤ (c *ℤ d)) ≡ (((pos 0 -ℤ a) *ℤ (pos 0 -ℤ b)) +ℤ ((pos 0 -ℤ c) *ℤ d))
    plus-all a b c d =
        identity (minus (times (number a) (number b)) (times (number c) (number d)))
        (plus (times (minus (n_of 0) (number a)) (minus (n_of 0) (number b))) (times (minus (n_of 0) (number c)) (number d))) (omega arith)

    -- left of the one ray, and over the other: below the point's line
    left-over : x1 ≤ℤ pos 0 → l0 ≤ℤ pos 0 → pos 0 <ℤ l1 → side one p <ℤ pos 0
    left-over left upto above =
        let first = product_positive (pos 0 -ℤ x0) l1 (let before = off left in omega (arith, ints, before)) above in
        let second = product_above (pos 0 -ℤ l0) (pos 0 -ℤ x1) (omega (arith, ints, upto)) (omega (arith, ints, left)) in
        let sum = minus-all x0 l1 l0 x1 in
        below-none n (side one p) ((x0 *ℤ l1) -ℤ (l0 *ℤ x1)) is (omega (arith, ints, first, second, sum))

    -- over the one, and right of the other
    over-right : x0 ≤ℤ pos 0 → pos 0 <ℤ x1 → pos 0 <ℤ l0 → side one p <ℤ pos 0
    over-right upto above right =
        let first = product_above (pos 0 -ℤ x0) l1 (omega (arith, ints, upto)) (omega (arith, ints, right, onwards_too)) in
        let second = product_positive l0 x1 right above in
        let sum = minus-first x0 l1 l0 x1 in
        below-none n (side one p) ((x0 *ℤ l1) -ℤ (l0 *ℤ x1)) is (omega (arith, ints, first, second, sum))

    -- over the one, and left of the other
    over-left : x0 ≤ℤ pos 0 → pos 0 <ℤ x1 → l1 ≤ℤ pos 0 → pos 0 ≤ℤ side one p
    over-left upto above left =
        let first = product_above (pos 0 -ℤ x0) (pos 0 -ℤ l1) (omega (arith, ints, upto)) (omega (arith, ints, left)) in
        let second = product_above (pos 0 -ℤ l0) x1 (omega (arith, ints, left, onwards_too)) (omega (arith, ints, above)) in
        let sum = plus-all x0 l1 l0 x1 in
        from-none n (side one p) ((x0 *ℤ l1) -ℤ (l0 *ℤ x1)) some is (omega (arith, ints, first, second, sum))

    -- right of the one, and over the other
    right-over : pos 0 <ℤ x0 → l0 ≤ℤ pos 0 → pos 0 <ℤ l1 → pos 0 ≤ℤ side one p
    right-over right upto above =
        let first = product_above x0 l1 (omega (arith, ints, right)) (omega (arith, ints, above)) in
        let second = product_above (pos 0 -ℤ l0) x1 (omega (arith, ints, upto)) (omega (arith, ints, right, onwards)) in
        let sum = plus-second x0 l1 l0 x1 in
        from-none n (side one p) ((x0 *ℤ l1) -ℤ (l0 *ℤ x1)) some is (omega (arith, ints, first, second, sum))

    abbrev Result : Type 0
    Result = (counted one p -ℤ counted other q) ≡ (count (is_between x1 l1) -ℤ count (is_between x0 l0))

    put : (a b c d a' b' c' d' : ℤ) → a ≡ a' → b ≡ b' → c ≡ c' → d ≡ d' → (a' -ℤ b') ≡ (c' -ℤ d') → (a -ℤ b) ≡ (c -ℤ d)
    put a b c d a' b' c' d' first second third fourth whole = omega (arith, ints, first, second, third, fourth, whole)

    abbrev all : (a' b' c' d' : ℤ) → counted one p ≡ a' → counted other q ≡ b' → count (is_between x1 l1) ≡ c' → count (is_between x0 l0) ≡ d' → (a' -ℤ b') ≡ (c' -ℤ d') → Result
    all = put (counted one p) (counted other q) (count (is_between x1 l1)) (count (is_between x0 l0))

    by-other : (first : pos 0 <ℤ l0 → Result) (second : l0 ≤ℤ pos 0 → pos 0 <ℤ l1 → Result) (third : l1 ≤ℤ pos 0 → Result) → Result
    by-other first second third = by_lt_z (pos 0) l0 first (λ upto. by_lt_z (pos 0) l1 (second upto) third)

    other-before : pos 0 <ℤ l0 → counted other q ≡ pos 0
    other-before right = before other q (omega (arith, ints, right))

    other-after : l1 ≤ℤ pos 0 → counted other q ≡ pos 0
    other-after left = after other q (omega (arith, ints, left))

    other-over : l0 ≤ℤ pos 0 → pos 0 <ℤ l1 → counted other q ≡ count (is_low one p)
    other-over upto above = within other q (record { from = omega (arith, ints, upto); before = omega (arith, ints, above) }) ∙ low-same one other p q same

    -- They count alike, but for the ends that lie between the rays.
    crosses : (counted one p -ℤ counted other q) ≡ (count (is_between x1 l1) -ℤ count (is_between x0 l0))
    crosses =
        by_lt_z (pos 0) x0
        (λ right.
        let none = before one p (omega (arith, ints, right)) in
        let right_too : pos 0 <ℤ x1 = omega (arith, ints, right, onwards) in
        by-other
        (λ l_right. all (pos 0) (pos 0) (pos 0) (pos 0) none (other-before l_right) (between-right x1 l1 (omega (arith, ints, l_right, onwards_too))) (between-right x0 l0 l_right) refl)
        (λ l_upto l_above. all (pos 0) (pos 1) (pos 0) (pos 1) none (other-over l_upto l_above ∙ low-is one p (right-over right l_upto l_above)) (between-right x1 l1 l_above) (between-is x0 l0 right l_upto) refl)
        (λ l_left. all (pos 0) (pos 0) (pos 1) (pos 1) none (other-after l_left) (between-is x1 l1 right_too l_left) (between-is x0 l0 right (omega (arith, ints, l_left, onwards_too))) refl))
        (λ upto. by_lt_z (pos 0) x1
        (λ above.
        let over = within one p (record { from = omega (arith, ints, upto); before = omega (arith, ints, above) }) in
        by-other
        (λ l_right. all (pos 0) (pos 0) (pos 0) (pos 0) (over ∙ low-not one p (over-right upto above l_right)) (other-before l_right) (between-right x1 l1 (omega (arith, ints, l_right, onwards_too))) (between-left x0 l0 upto) refl)
        (λ l_upto l_above. all (count (is_low one p)) (count (is_low one p)) (pos 0) (pos 0) over (other-over l_upto l_above) (between-right x1 l1 l_above) (between-left x0 l0 upto) (level (count (is_low one p))))
        (λ l_left. all (pos 1) (pos 0) (pos 1) (pos 0) (over ∙ low-is one p (over-left upto above l_left)) (other-after l_left) (between-is x1 l1 above l_left) (between-left x0 l0 upto) refl))
        (λ left.
        let none = after one p (omega (arith, ints, left)) in
        by-other
        (λ l_right. all (pos 0) (pos 0) (pos 0) (pos 0) none (other-before l_right) (between-left x1 l1 left) (between-left x0 l0 upto) refl)
        (λ l_upto l_above. all (pos 0) (pos 0) (pos 0) (pos 0) none (other-over l_upto l_above ∙ low-not one p (left-over left l_upto l_above)) (between-left x1 l1 left) (between-left x0 l0 upto) refl)
        (λ l_left. all (pos 0) (pos 0) (pos 0) (pos 0) none (other-after l_left) (between-left x1 l1 left) (between-left x0 l0 upto) refl)))
      where
        level : (a : ℤ) → (a -ℤ a) ≡ (pos 0 -ℤ pos 0)
        level a = omega (arith, ints)

-- ---- a sheared edge around a point, and the edge around the point of which that is the sheared one

module _ (n b : ℕ) (wide : b + b < n) (some : 0 < n) (q : RationalPoint) (apart : (z : ℤ) → (pos (back n some q).n *ℤ z) ≢ (back n some q).x) where
  abbrev p : RationalPoint
  p = back n some q

  -- the points between the rays
  abbrev between : Point → Bool
  between at = is_between (ahead p at.x) (ahead q ((pos n *ℤ at.x) +ℤ at.y))

  product-is : (x0 y0 x1 y1 : ℤ)
      → (pos q.n *ℤ ((p.y *ℤ (x1 -ℤ x0)) -ℤ ((y0 *ℤ ((pos p.n *ℤ x1) -ℤ p.x)) +ℤ (y1 *ℤ (p.x -ℤ (pos p.n *ℤ x0))))))
      ≡ ((ahead p x0 *ℤ ahead q ((pos n *ℤ x1) +ℤ y1)) -ℤ (ahead q ((pos n *ℤ x0) +ℤ y0) *ℤ ahead p x1))
  product-is x0 y0 x1 y1 =
      let px = minus (number q.x) (number q.y) in
      let py = times (n_of n) (number q.y) in
      let pn = n_of (q.n * n) in
      let near = minus (times pn (number x0)) px in
      let far = minus (times pn (number x1)) px in
      let near_too = minus (times (n_of q.n) (plus (times (n_of n) (number x0)) (number y0))) (number q.x) in
      let far_too = minus (times (n_of q.n) (plus (times (n_of n) (number x1)) (number y1))) (number q.x) in
      identity
      (times (n_of q.n) (minus (times py (minus (number x1) (number x0))) (plus (times (number y0) (minus (times pn (number x1)) px)) (times (number y1) (minus px (times pn (number x0)))))))
      (minus (times near far_too) (times near_too far)) (omega arith)

  side-same : (edge : Edge) → side (sheared_edge n edge) q ≡ side edge p
  side-same edge =
      let px = minus (number q.x) (number q.y) in
      let py = times (n_of n) (number q.y) in
      let pn = n_of (q.n * n) in
      let left = plus (times (n_of n) (number edge.x0)) (number edge.y0) in
      let right = plus (times (n_of n) (number edge.x1)) (number edge.y1) in
      identity
      (minus (times (number q.y) (minus right left)) (plus (times (number edge.y0) (minus (times (n_of q.n) right) (number q.x))) (times (number edge.y1) (minus (number q.x) (times (n_of q.n) left)))))
      (minus (times py (minus (number edge.x1) (number edge.x0))) (plus (times (number edge.y0) (minus (times pn (number edge.x1)) px)) (times (number edge.y1) (minus px (times pn (number edge.x0))))))
      (omega arith)

  -- one that goes rightwards, once it is sheared
  right : (edge : Edge) → IsLow b edge → (sheared_edge n edge).x0 <ℤ (sheared_edge n edge).x1
      → (edge.x0 ≤ℤ edge.x1) × ((counted edge p -ℤ counted (sheared_edge n edge) q) ≡ (count (between (end_of edge)) -ℤ count (between (start_of edge))))
  right edge low onwards =
      let upto : edge.x0 ≤ℤ edge.x1 = by_lt_z edge.x1 edge.x0 (λ back_it. let less = further-right n b wide edge.x1 edge.y1 edge.x0 edge.y0 low.end low.start back_it in absurd (omega (arith, ints, less, onwards))) (λ is. is) in
      let wider = scaled p.n edge.x0 edge.x1 upto in
      let first = q.positive in
      let more = strictly q.n (sheared_edge n edge).x0 (sheared_edge n edge).x1 first onwards in (
        upto,
        crosses edge (sheared_edge n edge) p q q.n first (product-is edge.x0 edge.y0 edge.x1 edge.y1) (side-same edge) (omega (arith, ints, wider)) (λ left. by_lt_z (ahead p edge.x0) (pos 0) (λ less. less)
            (λ from. absurd (apart edge.x0 (omega (arith, ints, left, from, wider))))) (omega (arith, ints, more)),
      )

  -- either way they count alike, but for the ends between the rays
  pub alike : (edge : Edge) → IsLow b edge → (sheared_edge n edge).x0 ≢ (sheared_edge n edge).x1 → (under edge p -ℤ under (sheared_edge n edge) q) ≡ carried between edge
  alike edge low sloped =
      by_lt_z (sheared_edge n edge).x0 (sheared_edge n edge).x1
      (λ onwards.
      let (upto, is) = right edge low onwards in
      ap₂ (λ u v. u -ℤ v) (under-right edge p upto) (under-right (sheared_edge n edge) q (omega (arith, ints, onwards))) ∙ is)
      (λ from.
      let back_it : (sheared_edge n edge).x1 <ℤ (sheared_edge n edge).x0 = by_lt_z (sheared_edge n edge).x1 (sheared_edge n edge).x0 (λ less. less) (λ upto. absurd (sloped (omega (arith, ints, from, upto)))) in
      let (upto, is) = right (reversed edge) (record { start = low.end; end = low.start }) back_it in
      ap₂ (λ u v. u -ℤ v) (under-left edge p upto) (under-left (sheared_edge n edge) q (omega (arith, ints, back_it)))
      ∙ turned (counted (reversed edge) p) (counted (reversed (sheared_edge n edge)) q) (count (between (end_of edge))) (count (between (start_of edge))) is)
    where
      turned : (u v s t : ℤ) → (u -ℤ v) ≡ (t -ℤ s) → ((pos 0 -ℤ u) -ℤ (pos 0 -ℤ v)) ≡ (s -ℤ t)
      turned u v s t is = omega (arith, ints, is)

-- what edges count, as a sum
added-total : (f : Edge → Edge) (point : RationalPoint) (edges : List Edge) → added (map f edges) point ≡ total (λ edge. under (f edge) point) edges
added-total f point [] = refl
added-total f point (edge ∷ edges) = ap (λ z. under (f edge) point +ℤ z) (added-total f point edges)

-- ---- a point that is moved a little has none of the edges' points straight below or above it, before it was sheared

module _ (n k m : ℕ) (some : 0 < n) (large : 1 < k) (first : 1 < m) (less : m < k) (point : RationalPoint) where
  apart-back : (z : ℤ) → (pos (back n some (moved k m large point)).n *ℤ z) ≢ (back n some (moved k m large point)).x
  apart-back z same = by_lt_z w (pos 0)
      (λ below.
      let most = scaled k w (negsuc 0) (omega (arith, ints, below)) in
      let one = identity (times (n_of k) (number (negsuc 0))) (minus (n_of 0) (n_of k)) (omega arith) in
      omega (arith, ints, is, same, most, one, less))
      (λ from.
      let least = scaled k (pos 0) w from in
      let none = identity (times (n_of k) (n_of 0)) (n_of 0) (omega arith) in
      omega (arith, ints, is, same, least, none, first))
    where
      w : ℤ
      w = ((pos (point.n * n) *ℤ z) -ℤ point.x) +ℤ point.y

      is : (pos k *ℤ w) ≡ (((pos ((point.n * k) * n) *ℤ z) -ℤ (pos k *ℤ point.x)) +ℤ (pos k *ℤ point.y))
      is =
          identity (times (n_of k) (plus (minus (times (n_of (point.n * n)) (number z)) (number point.x)) (number point.y)))
          (plus (minus (times (n_of ((point.n * k) * n)) (number z)) (times (n_of k) (number point.x))) (times (n_of k) (number point.y))) (omega arith)

-- ---- so they wind alike

module _ (edges : List Edge) (are : AreBorders edges) (closed : IsClosed edges) (n b : ℕ) (wide : b + b < n) (low : All (IsLow b) edges) where
  some : 0 < n
  some = omega (arith, wide)

  abbrev slanted : List Edge
  slanted = map (sheared_edge n) edges

  -- around a point off the edges' columns
  there : (q : RationalPoint) → ((z : ℤ) → (pos (back n some q).n *ℤ z) ≢ (back n some q).x) → winding slanted q ≡ winding edges (back n some q)
  there q apart =
      winding-added slanted q
      ∙ added-total (sheared_edge n) q edges
      ∙ sym (total-moved (λ edge. under edge (back n some q)) (λ edge. under (sheared_edge n edge) q) (carried (between n b wide some q apart)) edges
      (balanced edges closed (between n b wide some q apart))
      (All-among (λ edge. (under edge (back n some q) -ℤ under (sheared_edge n edge) q) ≡ carried (between n b wide some q apart) edge) edges
      (λ edge inside. alike n b wide some q apart edge (All-contains (IsLow b) edges edge low inside) (slanted-sloped edges are.two_ends n b wide low (sheared_edge n edge) (Contains-map (sheared_edge n) edges edge inside)))))
      ∙ sym (added-total (λ edge. edge) (back n some q) edges)
      ∙ ap (λ (list : List Edge). added list (back n some q)) (map-id edges)
      ∙ sym (winding-added edges (back n some q))

  module _ (point : RationalPoint) (s : ℕ) (steep : All (λ edge. IsWithin s (edge.y1 -ℤ edge.y0)) slanted) (l : ℕ) (short : All (λ edge. IsWithin l (((edge.x1 -ℤ edge.x0) *ℤ pos (suc (suc s))) -ℤ (edge.y1 -ℤ edge.y0))) slanted) where
    abbrev m : ℕ
    m = suc (suc s)

    abbrev k : ℕ
    k = suc (m + l)

    large : 1 < k
    large = omega arith

    -- each edge is under the moved point where it was under the point
    under-there : (edge : Edge) → Contains slanted edge → is_under edge (moved k m large point) ≡ is_under edge point
    under-there edge among =
        let up = All-contains (λ (e : Edge). IsWithin s (e.y1 -ℤ e.y0)) slanted edge steep among in
        let right = All-contains (λ (e : Edge). IsWithin l (((e.x1 -ℤ e.x0) *ℤ pos m) -ℤ (e.y1 -ℤ e.y0))) slanted edge short among in
        let high = up.upto in
        let most = right.upto in
        under-moved k m large edge (omega (arith, ints, high)) (omega (arith, ints, most)) point

    under-back : (edge : Edge) → Contains slanted edge → is_under (reversed edge) (moved k m large point) ≡ is_under (reversed edge) point
    under-back edge among =
        let up = All-contains (λ (e : Edge). IsWithin s (e.y1 -ℤ e.y0)) slanted edge steep among in
        let right = All-contains (λ (e : Edge). IsWithin l (((e.x1 -ℤ e.x0) *ℤ pos m) -ℤ (e.y1 -ℤ e.y0))) slanted edge short among in
        let least = up.from in
        let most = right.from in
        let turned = identity (minus (times (minus (number edge.x0) (number edge.x1)) (n_of m)) (minus (number edge.y0) (number edge.y1)))
        (minus (n_of 0) (minus (times (minus (number edge.x1) (number edge.x0)) (n_of m)) (minus (number edge.y1) (number edge.y0)))) (omega arith) in
        under-moved k m large (reversed edge) (omega (arith, ints, least)) (omega (arith, ints, most, turned)) point

    once-there : IsOneOrNone (winding slanted point)
    once-there =
        let q = moved k m large point in
        let same : winding slanted q ≡ winding slanted point =
        subst (λ (list : List Edge). winding list q ≡ winding slanted point) (map-id slanted)
        (winding-map (λ edge. edge) point q slanted (All-among (λ edge. is_under edge q ≡ is_under edge point) slanted under-there)
        (All-among (λ edge. is_under (reversed edge) q ≡ is_under (reversed edge) point) slanted under-back)) in
        subst IsOneOrNone (sym (there q (apart-back n k m some large (omega arith) (omega arith) point)) ∙ same) (are.once (back n some q))

  -- Once they are sheared they wind once around each point or not at all, too.
  pub sheared-once : (point : RationalPoint) → IsOneOrNone (winding (map (sheared_edge n) edges) point)
  sheared-once point =
      let (s, steep) = all-within (λ edge. edge.y1 -ℤ edge.y0) slanted in
      let (l, short) = all-within (λ edge. ((edge.x1 -ℤ edge.x0) *ℤ pos (suc (suc s))) -ℤ (edge.y1 -ℤ edge.y0)) slanted in
      once-there point s steep l short
