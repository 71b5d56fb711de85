-- Closed edges wind around nothing that lies above all of them.
use Rattle.std.proofs.Common.{◌≡◌, ℤ, pos, ◌+ℤ◌, ◌-ℤ◌, ◌*ℤ◌, ◌<ℤ◌, ◌≤ℤ◌, Bool, true, false, not, ◌&&◌, List, [], ◌∷◌, refl, ap, ap₂, arith, ◌∙◌}
use Rattle.std.specs.Int.{int_max}
use Rattle.std.specs.List.{All}
use Rattle.std.specs.Prelude.{int_le, int_lt}
use Rattle.std.proofs.lemmas.Int.{ints, clamps, by_lt_z}
use Rattle.std.proofs.lemmas.List.Elements.{All-nil, All-cons, All-head, All-tail, All-weaker}
use Rattle.plane.specs.declared.edge.Edge.{Edge}
use Rattle.plane.specs.declared.point.Point.{Point}
use Rattle.plane.specs.Meet.Edges.{RationalPoint}
use Rattle.plane.specs.SweepLine.Heights.{run}
use Rattle.plane.proofs.MeetLemmas.Identities.{number, plus, minus, times, identity}
use Rattle.plane.proofs.SweepLineLemmas.Gaps.{product_above}
use Rattle.overlay.specs.Fill.Pieces.{total}
use Rattle.plane.specs.Ends.{reversed}
use Rattle.noding.specs.Windings.{winding, IsClosed, count}
use Rattle.overlay.proofs.FillLemmas.Balance.{carried, balanced}
use Rattle.overlay.proofs.FillLemmas.Under.{le_true, le_is, less_is}
use Rattle.noding.proofs.SnapLemmas.Counted.{added, height_at, is_counted, is_low, under}
use Rattle.noding.proofs.SnapLemmas.Windings.{winding-added}

-- Neither end is above the height.
pub record IsUptoHeight (height : ℤ) (edge : Edge) : Type 0 where
  pub from : edge.y0 ≤ℤ height
  pub to : edge.y1 ≤ℤ height

-- The greatest y of the edges' ends, or 0.
abbrev pub top : List Edge → ℤ
top [] = pos 0
top (edge ∷ edges) = int_max (int_max edge.y0 edge.y1) (top edges)

-- a greatest number is at least each
top_from : (y0 y1 rest : ℤ) → (y0 ≤ℤ int_max (int_max y0 y1) rest) × (y1 ≤ℤ int_max (int_max y0 y1) rest) × (rest ≤ℤ int_max (int_max y0 y1) rest)
top_from y0 y1 rest = (omega (arith, ints, clamps), omega (arith, ints, clamps), omega (arith, ints, clamps))

above_too : (a b c : ℤ) → a ≤ℤ b → b ≤ℤ c → a ≤ℤ c
above_too a b c first second = omega (arith, ints, first, second)

-- what isn't above a height isn't above a higher one
pub upto-higher : (height higher : ℤ) (edges : List Edge) → height ≤ℤ higher → All (IsUptoHeight height) edges → All (IsUptoHeight higher) edges
upto-higher height higher edges more all =
    All-weaker (IsUptoHeight height) (IsUptoHeight higher) (λ edge is. record { from = above_too edge.y0 height higher is.from more; to = above_too edge.y1 height higher is.to more }) edges all

-- no end is above the top
pub upto-top : (edges : List Edge) → All (IsUptoHeight (top edges)) edges
upto-top [] = All-nil (IsUptoHeight (pos 0))
upto-top (edge ∷ edges) =
    let (from, to, rest) = top_from edge.y0 edge.y1 (top edges) in
    All-cons (IsUptoHeight (top (edge ∷ edges))) edge edges (record { from = from; to = to }) (upto-higher (top edges) (top (edge ∷ edges)) edges rest (upto-top edges))

-- ---- one edge

-- how far an edge is below a point, by how far its ends are below a height that the point isn't below
below_by : (y0 y1 b y n p x0 x1 : ℤ) → ((((y -ℤ (n *ℤ b)) *ℤ (x1 -ℤ x0)) +ℤ ((b -ℤ y0) *ℤ ((n *ℤ x1) -ℤ p))) +ℤ ((b -ℤ y1) *ℤ (p -ℤ (n *ℤ x0))))
    ≡ ((y *ℤ (x1 -ℤ x0)) -ℤ ((y0 *ℤ ((n *ℤ x1) -ℤ p)) +ℤ (y1 *ℤ (p -ℤ (n *ℤ x0)))))
below_by y0 y1 b y n p x0 x1 =
    let left = minus (times (number n) (number x1)) (number p) in
    let right = minus (number p) (times (number n) (number x0)) in
    let wide = minus (number x1) (number x0) in
    identity (plus (plus (times (minus (number y) (times (number n) (number b))) wide) (times (minus (number b) (number y0)) left)) (times (minus (number b) (number y1)) right))
    (minus (times (number y) wide) (plus (times (number y0) left) (times (number y1) right)))
    (omega arith)

-- only an edge that doesn't go leftwards covers a point
onwards_by : (n x0 x1 p : ℤ) → pos 0 ≤ℤ n → (n *ℤ x0) ≤ℤ p → p <ℤ (n *ℤ x1) → x0 ≤ℤ x1
onwards_by n x0 x1 p some from before =
    by_lt_z x1 x0
    (λ back.
    let more = product_above n (x0 -ℤ x1) some (omega (arith, ints, back)) in
    let is : (n *ℤ (x0 -ℤ x1)) ≡ ((n *ℤ x0) -ℤ (n *ℤ x1)) = identity (times (number n) (minus (number x0) (number x1))) (minus (times (number n) (number x0)) (times (number n) (number x1))) (omega arith) in
    absurd (omega (arith, ints, more, is, from, before)))
    (λ upto. upto)

module _ (height : ℤ) (point : RationalPoint) (high : (pos point.n *ℤ height) ≤ℤ point.y) where
  -- a point at or above the height has under it each edge that covers it
  covered_low : (edge : Edge) → IsUptoHeight height edge → (pos point.n *ℤ edge.x0) ≤ℤ point.x → point.x <ℤ (pos point.n *ℤ edge.x1) → is_low edge point ≡ true
  covered_low edge is from before =
      let onwards = onwards_by (pos point.n) edge.x0 edge.x1 point.x (omega (arith, ints)) from before in
      let low = is.from in
      let low_too = is.to in
      let one = product_above (point.y -ℤ (pos point.n *ℤ height)) (run edge) (omega (arith, ints, high)) (omega (arith, ints, onwards)) in
      let two = product_above (height -ℤ edge.y0) ((pos point.n *ℤ edge.x1) -ℤ point.x) (omega (arith, ints, low)) (omega (arith, ints, before)) in
      let three = product_above (height -ℤ edge.y1) (point.x -ℤ (pos point.n *ℤ edge.x0)) (omega (arith, ints, low_too)) (omega (arith, ints, from)) in
      let sum = below_by edge.y0 edge.y1 height point.y (pos point.n) point.x edge.x0 edge.x1 in
      le_true (height_at edge point) (point.y *ℤ run edge) (omega (arith, ints, one, two, three, sum))

  -- whole points that aren't to the right of the point
  abbrev pub passed : Point → Bool
  passed whole = int_le (pos point.n *ℤ whole.x) point.x

  -- the test of less is the opposite of at most
  not_less : (a b : ℤ) → int_lt a b ≡ not (int_le b a)
  not_less a b = by (int_lt a b) (int_le b a) refl refl
    where
      by : (s t : Bool) → int_lt a b ≡ s → int_le b a ≡ t → s ≡ not t
      by true false e f = refl
      by false true e f = refl
      by true true e f = absurd (omega (arith, ints, e, f))
      by false false e f = absurd (omega (arith, ints, e, f))

  -- so whether an edge is under the point is whether it covers its x
  under_covers : (edge : Edge) → IsUptoHeight height edge → is_counted edge point ≡ (int_le (pos point.n *ℤ edge.x0) point.x && not (int_le (pos point.n *ℤ edge.x1) point.x))
  under_covers edge is = by (int_le (pos point.n *ℤ edge.x0) point.x) (int_lt point.x (pos point.n *ℤ edge.x1)) refl refl ∙ ap (λ t. int_le (pos point.n *ℤ edge.x0) point.x && t) (not_less point.x (pos point.n *ℤ edge.x1))
    where
      by : (s t : Bool) → int_le (pos point.n *ℤ edge.x0) point.x ≡ s → int_lt point.x (pos point.n *ℤ edge.x1) ≡ t → ((s && t) && is_low edge point) ≡ (s && t)
      by false t e f = refl
      by true false e f = refl
      by true true e f = covered_low edge is (le_is (pos point.n *ℤ edge.x0) point.x e) (less_is point.x (pos point.n *ℤ edge.x1) f)

  -- what is counted at s less what is at t
  apart : (s t : Bool) → (count (s && not t) -ℤ count (t && not s)) ≡ (pos 0 -ℤ (count t -ℤ count s))
  apart true true = refl
  apart true false = refl
  apart false true = refl
  apart false false = refl

  -- so each edge counts what it carries to the right
  high-under : (edge : Edge) → IsUptoHeight height edge → under edge point ≡ (pos 0 -ℤ carried passed edge)
  high-under edge is =
      ap₂ (λ s t. count s -ℤ count t) (under_covers edge is) (under_covers (reversed edge) (record { from = is.to; to = is.from }))
      ∙ apart (int_le (pos point.n *ℤ edge.x0) point.x) (int_le (pos point.n *ℤ edge.x1) point.x)

  -- a sum of what is less each
  less_sum : (a b c d : ℤ) → a ≡ (pos 0 -ℤ c) → b ≡ (pos 0 -ℤ d) → (a +ℤ b) ≡ (pos 0 -ℤ (c +ℤ d))
  less_sum a b c d first second = omega (arith, ints, first, second)

  -- and all edges together count what they carry to the right
  sum : (edges : List Edge) → All (IsUptoHeight height) edges → added edges point ≡ (pos 0 -ℤ total (carried passed) edges)
  sum [] all = refl
  sum (edge ∷ edges) all =
      less_sum (under edge point) (added edges point) (carried passed edge) (total (carried passed) edges)
      (high-under edge (All-head (IsUptoHeight height) edge edges all)) (sum edges (All-tail (IsUptoHeight height) edge edges all))

  -- and closed edges carry nothing
  pub high-none : (edges : List Edge) → IsClosed edges → All (IsUptoHeight height) edges → winding edges point ≡ pos 0
  high-none edges closed all = winding-added edges point ∙ sum edges all ∙ ap (λ z. pos 0 -ℤ z) (balanced edges closed passed)
