-- Where parts of rings lie, and when two of them come to each other. For private contracts.
use Rattle.std.specs.Prelude.{◌≡◌, ◌⊎◌, ◌++◌, ℤ, pos, ◌+ℤ◌, ◌<ℤ◌, ◌≤ℤ◌, cond, IsTrue, List, All, Contains}
use Rattle.std.specs.Int.Signed.{lt_z}
use Rattle.std.specs.List.{AllZip}
use Rattle.plane.specs.declared.pairs.items.Bounds.{Bounds}
use Rattle.plane.specs.declared.point.Point.{Point}
use Rattle.plane.specs.Meet.Boxes.{bounds_of}
use Rattle.plane.specs.Pairs.Bounds.{BoundsMeet}
use Rattle.monotone_chains.specs.Stretches.{IsLong}
use Rattle.monotone_chains.specs.Stretches.Cut.{way}
use Rattle.monotone_chains.specs.declared.stretches.parts.Part.{Part}
use Rattle.monotone_chains.specs.declared.stretches.spans.Heights.{Heights}
use Rattle.monotone_chains.specs.declared.stretches.spans.Span.{Span}

-- The next number, or the last one.
abbrev pub beside : ℤ → ℤ
beside side = cond (lt_z side (pos 2147483647)) (side +ℤ pos 1) side

-- The box, a unit wider and a unit higher.
abbrev pub expanded : Bounds → Bounds
expanded bounds = record { left = bounds.left; right = beside bounds.right; low = bounds.low; high = beside bounds.high }

-- The least box of a span, and that expanded: parts whose expanded boxes don't meet are more than a unit apart.
abbrev pub box_of : Span → Bounds
box_of span = bounds_of (record { x0 = span.left.x; y0 = span.low; x1 = span.right.x; y1 = span.high })

abbrev pub bounds_of_span : Span → Bounds
bounds_of_span span = expanded (box_of span)

-- The points are more than a unit apart along x.
abbrev pub AreFar : Point → Point → Type 0
AreFar one other = ((one.x +ℤ pos 1) <ℤ other.x) ⊎ ((other.x +ℤ pos 1) <ℤ one.x)

-- The one part ends far from its other points where the other part begins far from its own.
pub record LeadsTo (one other : Span) : Type 0 where
  pub closes : IsTrue one.closes
  pub opens : IsTrue other.opens
  pub at : one.right ≡ other.left

-- One of them has several edges.
abbrev pub AreSeveral : Span → Span → Type 0
AreSeveral one other = IsTrue one.several ⊎ IsTrue other.several

-- One of them has, and their boxes share a point.
pub record ComeNear (one other : Span) : Type 0 where
  pub several : AreSeveral one other
  pub boxes : BoundsMeet (bounds_of_span one) (bounds_of_span other)

-- They do, and neither goes on as the other.
pub record SpansMeet (one other : Span) : Type 0 where
  pub near : ComeNear one other
  pub apart : ¬ (LeadsTo one other ⊎ LeadsTo other one)

-- The point lies in the span's box.
pub record IsWithin (span : Span) (point : Point) : Type 0 where
  pub left : span.left.x ≤ℤ point.x
  pub right : point.x ≤ℤ span.right.x
  pub low : span.low ≤ℤ point.y
  pub high : point.y ≤ℤ span.high

-- Its y lies between these.
pub record HasHeights (heights : Heights) (point : Point) : Type 0 where
  pub low : heights.low ≤ℤ point.y
  pub high : point.y ≤ℤ heights.high

-- Where the points of a part lie: in the box, and where that opens or closes none but the one end within a unit of its side.
pub record IsSpan (part : Part) (span : Span) : Type 0 where
  pub left : Contains (way part) span.left
  pub right : Contains (way part) span.right
  pub within : All (IsWithin span) (way part)
  pub leftmost : IsTrue span.opens → All (λ point. (point ≡ span.left) ⊎ ((span.left.x +ℤ pos 1) <ℤ point.x)) (way part)
  pub rightmost : IsTrue span.closes → All (λ point. (point ≡ span.right) ⊎ ((point.x +ℤ pos 1) <ℤ span.right.x)) (way part)
  pub several : IsLong (way part) → IsTrue span.several
  pub fits : (span.left.x ≤ℤ pos 2147483647) × (span.low ≤ℤ pos 2147483647)

-- Behind the spans before stand those of these parts.
abbrev pub AppendsSpans : List Part → List Span → List Span → Type 0
AppendsSpans parts before after = (spans : List Span) × AllZip IsSpan parts spans × (after ≡ before ++ spans)
