-- Of edges that start at a point, the one that comes next, clockwise from a vector.
use Rattle.std.proofs.Common.{◌≡◌, ◌≢◌, ◌⊎◌, inl, inr, zero, suc, ℤ, pos, ◌-ℤ◌, ◌<ℤ◌, ◌≤ℤ◌, List, [], ◌∷◌, ap, ap₂, subst, arith}
use Rattle.std.specs.List.{Contains}
use Rattle.std.proofs.lemmas.Int.{by_lt_z, ints}
use Rattle.i_tree.proofs.RootLemmas.Lists.{Contains-here, Contains-there}
use Rattle.plane.specs.declared.edge.Edge.{Edge}
use Rattle.plane.specs.declared.point.Point.{Point}
use Rattle.plane.specs.Ends.{start_of}
use Rattle.plane.proofs.MeetLemmas.Along.{same_or_apart}
use Rattle.plane.proofs.MeetLemmas.Identities.{identity, minus, number, times}
use Rattle.noding.proofs.SnapLemmas.Numbers.{n_of, product_positive}
use Rattle.offset.proofs.CoverLemmas.Numbers.{positive-factor}
use Rattle.offset.proofs.CoverLemmas.Vectors.{crossed, plucker, way}
use Rattle.offset.specs.Shape.{opposite}

-- ---- vectors in a half-plane

pub crossed-opposite : (a b : Point) → crossed a (opposite b) ≡ (pos 0 -ℤ crossed a b)
crossed-opposite a b =
    identity (minus (times (number a.x) (minus (n_of 0) (number b.y))) (times (number a.y) (minus (n_of 0) (number b.x)))) (minus (n_of 0) (minus (times (number a.x) (number b.y)) (times (number a.y) (number b.x)))) (omega arith)

pub crossed-itself : (a : Point) → crossed a a ≡ pos 0
crossed-itself a = identity (minus (times (number a.x) (number a.y)) (times (number a.y) (number a.x))) (n_of 0) (omega arith)

-- of vectors to the right of one what is left of what is left is left
left-left : (a b c x : Point) → pos 0 <ℤ crossed a x → pos 0 <ℤ crossed b x → pos 0 <ℤ crossed c x → pos 0 <ℤ crossed a b → pos 0 <ℤ crossed b c → pos 0 <ℤ crossed a c
left-left a b c x first second third one other =
    let p = product_positive (crossed a b) (crossed c x) one third in
    let q = product_positive (crossed b c) (crossed a x) other first in
    let sum = plucker a b c x in
    let swapped = identity (times (number (crossed a c)) (number (crossed b x))) (times (number (crossed b x)) (number (crossed a c))) (omega arith) in
    positive-factor (crossed b x) (crossed a c) second (omega (arith, ints, p, q, sum, swapped))

-- and of those to its left
left-left_back : (a b c x : Point) → crossed a x <ℤ pos 0 → crossed b x <ℤ pos 0 → crossed c x <ℤ pos 0 → pos 0 <ℤ crossed a b → pos 0 <ℤ crossed b c → pos 0 <ℤ crossed a c
left-left_back a b c x first second third one other =
    let p = crossed-opposite a x in
    let q = crossed-opposite b x in
    let r = crossed-opposite c x in
    left-left a b c (opposite x) (omega (arith, ints, p, first)) (omega (arith, ints, q, second)) (omega (arith, ints, r, third)) one other

-- ---- the next one

-- The edge's way lies within a half turn clockwise from the vector, and none that starts at the point goes between.
pub record IsNextRight (edges : List Edge) (at x : Point) (edge : Edge) : Type 0 where
  pub right : pos 0 <ℤ crossed (way edge) x
  pub none : (other : Edge) → Contains edges other → start_of other ≡ at → pos 0 <ℤ crossed (way edge) (way other) → pos 0 <ℤ crossed (way other) x → ⊥

-- All that start at the point go to the left of the vector, and none further to the left than the edge.
pub record IsLastLeft (edges : List Edge) (at x : Point) (edge : Edge) : Type 0 where
  pub left : (other : Edge) → Contains edges other → start_of other ≡ at → crossed (way other) x <ℤ pos 0
  pub last : (other : Edge) → Contains edges other → start_of other ≡ at → crossed (way edge) (way other) ≤ℤ pos 0

-- Of the edges that start at the point it comes next, clockwise from the vector.
pub record IsNext (edges : List Edge) (at x : Point) : Type 0 where
  pub edge : Edge
  pub among : Contains edges edge
  pub starts : start_of edge ≡ at
  pub side : IsNextRight edges at x edge ⊎ IsLastLeft edges at x edge

abbrev NoneStarts : List Edge → Point → Type 0
NoneStarts edges at = (other : Edge) → Contains edges other → start_of other ≢ at

-- what holds of the first and of those behind it holds of each
each_of : (P : Edge → Type 0) (edge : Edge) (edges : List Edge) → P edge → ((other : Edge) → Contains edges other → P other) → (other : Edge) → Contains (edge ∷ edges) other → P other
each_of P edge edges here there other (zero, within, is) = subst P is here
each_of P edge edges here there other (suc k, within, is) = there other (k, omega (arith, within), is)

-- two points are the same or not
same_point : (one other : Point) → (one ≡ other) ⊎ (one ≢ other)
same_point one other = by (same_or_apart one.x other.x) (same_or_apart one.y other.y)
  where
    by : (one.x ≡ other.x) ⊎ (one.x ≢ other.x) → (one.y ≡ other.y) ⊎ (one.y ≢ other.y) → (one ≡ other) ⊎ (one ≢ other)
    by (inl same_x) (inl same_y) = inl (ap₂ (λ (x y : ℤ). (let p : Point = record { x = x; y = y } in p)) same_x same_y)
    by (inr apart) second = inr (λ same. apart (ap (λ (p : Point). p.x) same))
    by (inl same_x) (inr apart) = inr (λ same. apart (ap (λ (p : Point). p.y) same))

module _ (at x : Point) where
  abbrev Free : Edge → Edge → Type 0
  Free edge other = start_of other ≡ at → pos 0 <ℤ crossed (way edge) (way other) → pos 0 <ℤ crossed (way other) x → ⊥

  abbrev LeftOf : Edge → Type 0
  LeftOf other = start_of other ≡ at → crossed (way other) x <ℤ pos 0

  abbrev Behind : Edge → Edge → Type 0
  Behind edge other = start_of other ≡ at → crossed (way edge) (way other) ≤ℤ pos 0

  module _ (edge : Edge) (edges : List Edge) where
    -- an edge that starts elsewhere changes nothing
    skipped : start_of edge ≢ at → IsNext edges at x → IsNext (edge ∷ edges) at x
    skipped elsewhere next = record { edge = next.edge; among = Contains-there edge edges next.edge next.among; starts = next.starts; side = by next.side }
      where
        by : IsNextRight edges at x next.edge ⊎ IsLastLeft edges at x next.edge → IsNextRight (edge ∷ edges) at x next.edge ⊎ IsLastLeft (edge ∷ edges) at x next.edge
        by (inl is) = inl (record { right = is.right; none = each_of (Free next.edge) edge edges (λ starts. absurd (elsewhere starts)) is.none })
        by (inr is) = inr (record { left = each_of LeftOf edge edges (λ starts. absurd (elsewhere starts)) is.left; last = each_of (Behind next.edge) edge edges (λ starts. absurd (elsewhere starts)) is.last })

    itself : crossed (way edge) (way edge) ≡ pos 0
    itself = crossed-itself (way edge)

    -- it is the one
    right-one : start_of edge ≡ at → pos 0 <ℤ crossed (way edge) x → ((other : Edge) → Contains edges other → Free edge other) → IsNext (edge ∷ edges) at x
    right-one starts right none = record {
      edge = edge;
      among = Contains-here edge edges;
      starts = starts;
      side = inl (record { right = right; none = each_of (Free edge) edge edges (λ here more less. let is = itself in omega (arith, ints, is, more)) none });
    }

    left-one : start_of edge ≡ at → crossed (way edge) x <ℤ pos 0 → ((other : Edge) → Contains edges other → LeftOf other) → ((other : Edge) → Contains edges other → Behind edge other) → IsNext (edge ∷ edges) at x
    left-one starts left all last = record {
      edge = edge;
      among = Contains-here edge edges;
      starts = starts;
      side = inr (record { left = each_of LeftOf edge edges (λ here. left) all; last = each_of (Behind edge) edge edges (λ here. let is = itself in omega (arith, ints, is)) last });
    }

    -- the one before stays
    right-stays : (next : IsNext edges at x) → IsNextRight edges at x next.edge → Free next.edge edge → IsNext (edge ∷ edges) at x
    right-stays next is free = record { edge = next.edge; among = Contains-there edge edges next.edge next.among; starts = next.starts; side = inl (record { right = is.right; none = each_of (Free next.edge) edge edges free is.none }) }

    left-stays : (next : IsNext edges at x) → IsLastLeft edges at x next.edge → crossed (way edge) x <ℤ pos 0 → crossed (way next.edge) (way edge) ≤ℤ pos 0 → IsNext (edge ∷ edges) at x
    left-stays next is left behind = record {
      edge = next.edge;
      among = Contains-there edge edges next.edge next.among;
      starts = next.starts;
      side = inr (record { left = each_of LeftOf edge edges (λ here. left) is.left; last = each_of (Behind next.edge) edge edges (λ here. behind) is.last });
    }

    added_right : start_of edge ≡ at → pos 0 <ℤ crossed (way edge) x → (next : IsNext edges at x) → IsNextRight edges at x next.edge ⊎ IsLastLeft edges at x next.edge → IsNext (edge ∷ edges) at x
    added_right starts right next (inr is) = right-one starts right (λ other among there more less. let left = is.left other among there in omega (arith, ints, left, less))
    added_right starts right next (inl is) =
        by_lt_z (pos 0) (crossed (way next.edge) (way edge))
        (λ further. right-one starts right (λ other among there more less. is.none other among there (left-left (way next.edge) (way edge) (way other) x is.right right less further more) less))
        (λ upto. right-stays next is (λ here more less. omega (arith, ints, upto, more)))

    added_left : start_of edge ≡ at → crossed (way edge) x <ℤ pos 0 → (next : IsNext edges at x) → IsNextRight edges at x next.edge ⊎ IsLastLeft edges at x next.edge → IsNext (edge ∷ edges) at x
    added_left starts left next (inl is) = right-stays next is (λ here more less. omega (arith, ints, left, less))
    added_left starts left next (inr is) =
        by_lt_z (pos 0) (crossed (way next.edge) (way edge))
        (λ further. left-one starts left is.left
        (λ other among there. by_lt_z (pos 0) (crossed (way edge) (way other))
        (λ more.
        let sum = left-left_back (way next.edge) (way edge) (way other) x (is.left next.edge next.among next.starts) left (is.left other among there) further more in
        let behind = is.last other among there in
        absurd (omega (arith, ints, sum, behind)))
        (λ upto. upto)))
        (λ upto. left-stays next is left upto)

  find : (edges : List Edge) → ((edge : Edge) → Contains edges edge → start_of edge ≡ at → crossed (way edge) x ≢ pos 0) → NoneStarts edges at ⊎ IsNext edges at x
  find [] off = inl (λ other (k, within, is) starts. omega (arith, within))
  find (edge ∷ edges) off = by (same_point (start_of edge) at) (find edges (λ other among. off other (Contains-there edge edges other among)))
    where
      apart_from : start_of edge ≡ at → crossed (way edge) x ≢ pos 0
      apart_from starts = off edge (Contains-here edge edges) starts

      by : (start_of edge ≡ at) ⊎ (start_of edge ≢ at) → NoneStarts edges at ⊎ IsNext edges at x → NoneStarts (edge ∷ edges) at ⊎ IsNext (edge ∷ edges) at x
      by (inr elsewhere) (inl none) = inl (each_of (λ other. start_of other ≢ at) edge edges elsewhere none)
      by (inr elsewhere) (inr next) = inr (skipped edge edges elsewhere next)
      by (inl starts) (inl none) =
          by_lt_z (pos 0) (crossed (way edge) x)
          (λ right. inr (right-one edge edges starts right (λ other among there. absurd (none other among there))))
          (λ upto. let differ = apart_from starts in inr (left-one edge edges starts (omega (arith, ints, upto, differ)) (λ other among there. absurd (none other among there)) (λ other among there. absurd (none other among there))))
      by (inl starts) (inr next) =
          by_lt_z (pos 0) (crossed (way edge) x)
          (λ right. inr (added_right edge edges starts right next next.side))
          (λ upto. let differ = apart_from starts in inr (added_left edge edges starts (omega (arith, ints, upto, differ)) next next.side))

-- Of edges of which one starts at the point, and none that does goes along the vector, one comes next.
pub next-right : (edges : List Edge) (at x : Point) → ((edge : Edge) → Contains edges edge → start_of edge ≡ at → crossed (way edge) x ≢ pos 0) → (some : Edge) → Contains edges some → start_of some ≡ at → IsNext edges at x
next-right edges at x off some among starts = by (find at x edges off)
  where
    by : NoneStarts edges at ⊎ IsNext edges at x → IsNext edges at x
    by (inl none) = absurd (none some among starts)
    by (inr next) = next
