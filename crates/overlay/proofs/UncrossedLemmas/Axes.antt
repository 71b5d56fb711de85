-- The points of an edge along an axis: each is of a piece of the edge's chain, or is whole.
use Rattle.std.proofs.Common.{◌≡◌, ◌≢◌, inl, inr, [], ◌∷◌, ℕ, ◌+◌, ◌-◌, ◌≤◌, ℤ, pos, ◌+ℤ◌, ◌-ℤ◌, ◌*ℤ◌, ◌<ℤ◌, ◌≤ℤ◌, ◌⊎◌, List, ap, ap₂, sym, subst, ◌∙◌, arith}
use Rattle.std.specs.Int.{int_max, int_min}
use Rattle.std.specs.List.{Contains}
use Rattle.std.proofs.lemmas.Int.{by_lt_z, clamps, ints}
use Rattle.i_tree.proofs.RootLemmas.Lists.{Contains-here, Contains-there}
use Rattle.plane.specs.declared.edge.Edge.{Edge}
use Rattle.plane.specs.declared.point.Point.{Point}
use Rattle.plane.specs.Ends.{edge_between, end_of, start_of}
use Rattle.plane.specs.Lines.{IsAlongAxis}
use Rattle.plane.specs.Meet.Crosses.{cross}
use Rattle.plane.specs.Meet.Edges.{IsOf, RationalPoint}
use Rattle.plane.proofs.MeetLemmas.Along.{flipped, lies, over as exchanged}
use Rattle.plane.proofs.MeetLemmas.Identities.{identity, minus, number, plus, scaled, times}
use Rattle.noding.specs.Chains.{Passes}
use Rattle.noding.specs.Local.{IsNodeChain}
use Rattle.noding.specs.Windings.{pieces}
use Rattle.noding.proofs.Callers.{node-onwards}
use Rattle.noding.proofs.SnapLemmas.Exact.{passes_level}
use Rattle.noding.proofs.SnapLemmas.Local.{IsPath-noded}
use Rattle.noding.proofs.SnapLemmas.Noded.{ends-among}
use Rattle.noding.proofs.SnapLemmas.Numbers.{n_of}
use Rattle.noding.proofs.SnapLemmas.Paths.{GoesOn, IsPath}
use Rattle.noding.proofs.SnapLemmas.Pieces.{IsBetween}
use Rattle.overlay.proofs.ContourLemmas.Bends.{last_from}
use Rattle.overlay.proofs.UncrossedLemmas.Finer.{AreParallel, HasFinely, IsWhole, finely-flipped, lies-finely, scaled_edge, times-same}

-- ---- numbers between others

-- what is between the first and the last is between the first and the middle or the middle and the last
between-split : (a b c p : ℤ) → IsBetween a c p → IsBetween a b p ⊎ IsBetween b c p
between-split a b c p (inl (from, upto)) = by_lt_z b p (λ more. inr (inl (omega (arith, ints, more), upto))) (λ less. inl (inl (from, less)))
between-split a b c p (inr (from, upto)) = by_lt_z p b (λ less. inr (inr (from, omega (arith, ints, less)))) (λ more. inl (inr (more, upto)))

-- a share of a way lies between its ends
share-between : (n a : ℕ) (p from to : ℤ) → a ≤ n → p ≡ ((pos n *ℤ from) +ℤ (pos a *ℤ (to -ℤ from))) → IsBetween (pos n *ℤ from) (pos n *ℤ to) p
share-between n a p from to share is = subst (λ (m : ℕ). IsBetween (pos m *ℤ from) (pos m *ℤ to) p) parts (by_lt_z from to (λ up. inl (rising up)) (λ down. inr (falling down)))
  where
    b : ℕ
    b = n - a

    parts : a + b ≡ n
    parts = omega (arith, share)

    at : p ≡ ((pos (a + b) *ℤ from) +ℤ (pos a *ℤ (to -ℤ from)))
    at = subst (λ (m : ℕ). p ≡ ((pos m *ℤ from) +ℤ (pos a *ℤ (to -ℤ from)))) (sym parts) is

    p_is : p ≡ ((pos b *ℤ from) +ℤ (pos a *ℤ to))
    p_is = at ∙ identity (plus (times (n_of (a + b)) (number from)) (times (n_of a) (minus (number to) (number from)))) (plus (times (n_of b) (number from)) (times (n_of a) (number to))) (omega arith)

    all : (z : ℤ) → (pos (a + b) *ℤ z) ≡ ((pos b *ℤ z) +ℤ (pos a *ℤ z))
    all z = identity (times (n_of (a + b)) (number z)) (plus (times (n_of b) (number z)) (times (n_of a) (number z))) (omega arith)

    sums : (p c d e f start end : ℤ) → p ≡ (c +ℤ d) → start ≡ (c +ℤ f) → end ≡ (e +ℤ d) → f ≤ℤ d → c ≤ℤ e → (start ≤ℤ p) × (p ≤ℤ end)
    sums p c d e f start end first second third low high = (omega (arith, ints, first, second, low), omega (arith, ints, first, third, high))

    back : (p c d e f start end : ℤ) → p ≡ (c +ℤ d) → start ≡ (c +ℤ f) → end ≡ (e +ℤ d) → d ≤ℤ f → e ≤ℤ c → (end ≤ℤ p) × (p ≤ℤ start)
    back p c d e f start end first second third low high = (omega (arith, ints, first, third, high), omega (arith, ints, first, second, low))

    rising : from <ℤ to → ((pos (a + b) *ℤ from) ≤ℤ p) × (p ≤ℤ (pos (a + b) *ℤ to))
    rising up =
        let upto : from ≤ℤ to = omega (arith, ints, up) in
        sums p (pos b *ℤ from) (pos a *ℤ to) (pos b *ℤ to) (pos a *ℤ from) (pos (a + b) *ℤ from) (pos (a + b) *ℤ to) p_is (all from) (all to) (scaled a from to upto) (scaled b from to upto)

    falling : to ≤ℤ from → ((pos (a + b) *ℤ to) ≤ℤ p) × (p ≤ℤ (pos (a + b) *ℤ from))
    falling down = back p (pos b *ℤ from) (pos a *ℤ to) (pos b *ℤ to) (pos a *ℤ from) (pos (a + b) *ℤ from) (pos (a + b) *ℤ to) p_is (all from) (all to) (scaled a to from down) (scaled b to from down)

-- where a way goes nowhere all points are at its start
share-nowhere : (n a : ℕ) (p from to : ℤ) → to ≡ from → p ≡ ((pos n *ℤ from) +ℤ (pos a *ℤ (to -ℤ from))) → p ≡ (pos n *ℤ from)
share-nowhere n a p from to same is =
    is ∙ ap (λ (z : ℤ). (pos n *ℤ from) +ℤ (pos a *ℤ (z -ℤ from))) same ∙ identity (plus (times (n_of n) (number from)) (times (n_of a) (minus (number from) (number from)))) (times (n_of n) (number from)) (omega arith)

-- ---- edges along one axis

-- what is between two numbers, in either order, is between the lesser and the greater
within-range : (a b p : ℤ) → IsBetween a b p → (int_min a b ≤ℤ p) × (p ≤ℤ int_max a b)
within-range a b p (inl (from, upto)) = (omega (arith, ints, clamps, from, upto), omega (arith, ints, clamps, from, upto))
within-range a b p (inr (from, upto)) = (omega (arith, ints, clamps, from, upto), omega (arith, ints, clamps, from, upto))

-- a point between the ends of a level edge is of it
on-level : (edge : Edge) (point : RationalPoint) → edge.y1 ≡ edge.y0 → edge.x0 ≢ edge.x1 → point.y ≡ (pos point.n *ℤ edge.y0) → IsBetween (pos point.n *ℤ edge.x0) (pos point.n *ℤ edge.x1) point.x → HasFinely edge point
on-level edge point level apart at between =
    let n = point.n in
    let range = within-range (pos n *ℤ edge.x0) (pos n *ℤ edge.x1) point.x between in
    lies-finely edge point
    (lies (scaled_edge n edge) point.x point.y (λ same. apart (times-same n edge.x0 edge.x1 point.positive same)) range.0 range.1
    (flat (point.x -ℤ (pos n *ℤ edge.x0)) (pos n *ℤ edge.y0) (pos n *ℤ edge.y1) point.y ((pos n *ℤ edge.x1) -ℤ (pos n *ℤ edge.x0)) (ap (λ (z : ℤ). pos n *ℤ z) level) at))
  where
    flat : (a b c d e : ℤ) → c ≡ b → d ≡ b → (a *ℤ (c -ℤ b)) ≡ ((d -ℤ b) *ℤ e)
    flat a b c d e first second =
        ap (λ (z : ℤ). a *ℤ (z -ℤ b)) first ∙ identity (times (number a) (minus (number b) (number b))) (times (minus (number b) (number b)) (number e)) (omega arith) ∙ ap (λ (z : ℤ). (z -ℤ b) *ℤ e) (sym second)

-- and one between those of an upright edge
on-upright : (edge : Edge) (point : RationalPoint) → edge.x1 ≡ edge.x0 → edge.y0 ≢ edge.y1 → point.x ≡ (pos point.n *ℤ edge.x0)
    → IsBetween (pos point.n *ℤ edge.y0) (pos point.n *ℤ edge.y1) point.y → HasFinely edge point
on-upright edge point upright apart at between = finely-flipped edge point (on-level (flipped edge) (exchanged point) upright apart at between)

-- a cross product of two ways that go nowhere on one axis
cross_nowhere : (ux uy vx vy : ℤ) → (ux ≡ pos 0) × (vx ≡ pos 0) ⊎ (uy ≡ pos 0) × (vy ≡ pos 0) → cross ux uy vx vy ≡ pos 0
cross_nowhere ux uy vx vy (inl (first, second)) =
    ap (λ z. cross z uy vx vy) first ∙ ap (λ z. cross (pos 0) uy z vy) second
    ∙ identity (minus (times (n_of 0) (number vy)) (times (number uy) (n_of 0))) (n_of 0) (omega arith)
cross_nowhere ux uy vx vy (inr (first, second)) =
    ap (λ z. cross ux z vx vy) first ∙ ap (λ z. cross ux (pos 0) vx z) second
    ∙ identity (minus (times (number ux) (n_of 0)) (times (n_of 0) (number vx))) (n_of 0) (omega arith)

-- the way from a number to itself
no-way : (a b : ℤ) → b ≡ a → (b -ℤ a) ≡ pos 0
no-way a b same = omega (arith, ints, same)

-- two level edges are parallel
pub level-parallel : (one other : Edge) → one.y1 ≡ one.y0 → other.y1 ≡ other.y0 → AreParallel one other
level-parallel one other first second =
    cross_nowhere (one.x1 -ℤ one.x0) (one.y1 -ℤ one.y0) (other.x1 -ℤ other.x0) (other.y1 -ℤ other.y0) (inr (no-way one.y0 one.y1 first, no-way other.y0 other.y1 second))

-- and so are two upright ones
pub upright-parallel : (one other : Edge) → one.x1 ≡ one.x0 → other.x1 ≡ other.x0 → AreParallel one other
upright-parallel one other first second =
    cross_nowhere (one.x1 -ℤ one.x0) (one.y1 -ℤ one.y0) (other.x1 -ℤ other.x0) (other.y1 -ℤ other.y0) (inl (no-way one.x0 one.x1 first, no-way other.x0 other.x1 second))

-- Two edges along the axes are parallel, or their common points are whole.
pub axes-meet : (one other : Edge) (point : RationalPoint) → IsAlongAxis one → IsAlongAxis other → IsOf one point → IsOf other point → IsWhole point ⊎ AreParallel one other
axes-meet one other point (inl first) (inl second) of_one of_other = inr (upright-parallel one other first second)
axes-meet one other point (inr first) (inr second) of_one of_other = inr (level-parallel one other first second)
axes-meet one other point (inl first) (inr second) (a, at) (b, other_at) =
    inl (one.x0, other.y0, record { x_is = share-nowhere point.n a point.x one.x0 one.x1 first at.x; y_is = share-nowhere point.n b point.y other.y0 other.y1 second other_at.y })
axes-meet one other point (inr first) (inl second) (a, at) (b, other_at) =
    inl (other.x0, one.y0, record { x_is = share-nowhere point.n b point.x other.x0 other.x1 second other_at.x; y_is = share-nowhere point.n a point.y one.y0 one.y1 first at.y })

-- ---- the pieces of chains

-- A piece between whose ends a number lies, by what a coordinate makes of them.
abbrev Spans : (ℤ → ℤ → ℤ) → List Point → ℤ → Type 0
Spans f chain p = (piece : Edge) × Contains (pieces chain) piece × IsBetween (f piece.x0 piece.y0) (f piece.x1 piece.y1) p

-- one of the pieces spans what the first point and the last do
spanned : (f : ℤ → ℤ → ℤ) (p : ℤ) (from : Point) (others : List Point) → IsBetween (f from.x from.y) (f (last_from from others).x (last_from from others).y) p → (f from.x from.y ≡ p) ⊎ Spans f (from ∷ others) p
spanned f p from [] (inl (low, high)) = inl (omega (arith, ints, low, high))
spanned f p from [] (inr (low, high)) = inl (omega (arith, ints, low, high))
spanned f p from (to ∷ others) between =
    elim (between-split (f from.x from.y) (f to.x to.y) (f (last_from to others).x (last_from to others).y) p between) [
      | inl here ↦ inr (edge_between from to, Contains-here (edge_between from to) (pieces (to ∷ others)), here)
      | inr there ↦ later (spanned f p to others there)
    ]
  where
    later : (f to.x to.y ≡ p) ⊎ Spans f (to ∷ others) p → (f from.x from.y ≡ p) ⊎ Spans f (from ∷ to ∷ others) p
    later (inl same) = inr (edge_between from to, Contains-here (edge_between from to) (pieces (to ∷ others)), at_end (f from.x from.y) (f to.x to.y) same)
      where
        at_end : (a b : ℤ) → b ≡ p → IsBetween a b p
        at_end a b is = by_lt_z a b (λ up. inl (omega (arith, ints, up, is), omega (arith, ints, is))) (λ down. inr (omega (arith, ints, is), omega (arith, ints, down, is)))
    later (inr (piece, held, spans)) = inr (piece, Contains-there (edge_between from to) (pieces (to ∷ others)) piece held, spans)

-- a path's last point is its edge's end
last-goes : (edge : Edge) (from : Point) (others : List Point) → GoesOn edge from others → ((last_from from others).x ≡ edge.x1) × ((last_from from others).y ≡ edge.y1)
last-goes edge from [] goes = goes
last-goes edge from (to ∷ others) (order, passes, goes) = last-goes edge to others goes

-- of a path the same holds, by its edge's ends
path-spanned : (f : ℤ → ℤ → ℤ) (p : ℤ) (edge : Edge) (chain : List Point) → IsPath edge chain → IsBetween (f edge.x0 edge.y0) (f edge.x1 edge.y1) p → (f edge.x0 edge.y0 ≡ p) ⊎ Spans f chain p
path-spanned f p edge [] none between = absurd none
path-spanned f p edge (from ∷ others) (x, y, passes, goes) between =
    let last = last-goes edge from others goes in
    let start_is : f from.x from.y ≡ f edge.x0 edge.y0 = ap₂ f x y in
    let end_is : f (last_from from others).x (last_from from others).y ≡ f edge.x1 edge.y1 = ap₂ f last.0 last.1 in
    elim (spanned f p from others (subst (λ (a : ℤ). IsBetween a (f (last_from from others).x (last_from from others).y) p) (sym start_is) (subst (λ (b : ℤ). IsBetween (f edge.x0 edge.y0) b p) (sym end_is) between))) [
      | inl same ↦ inl (sym start_is ∙ same)
      | inr found ↦ inr found
    ]

-- A piece of a chain has the point, over some multiple of its denominator, and goes along the edge.
pub record IsOnPiece (edge : Edge) (chain : List Point) (point : RationalPoint) : Type 0 where
  pub piece : Edge
  pub among : Contains (pieces chain) piece
  pub proper : start_of piece ≢ end_of piece
  pub parallel : AreParallel piece edge
  pub has : HasFinely piece point

-- an upright edge passes points of its column alone
passes_upright : (edge : Edge) (x y : ℤ) → edge.x1 ≡ edge.x0 → Passes edge x y → x ≡ edge.x0
passes_upright edge x y upright (point, (a, at), rounds) =
    passes_level (flipped edge) y x upright (record { n = point.n; x = point.y; y = point.x; positive = point.positive }, (a, record { share = at.share; x = at.y; y = at.x }), record { along_x = rounds.along_y; along_y = rounds.along_x })

-- Each point of an edge along an axis is of a piece of its chain, or whole.
pub axis-pieces : (edges : List Edge) (edge : Edge) (chain : List Point) (point : RationalPoint) → Contains edges edge → IsNodeChain edges edge chain
    → IsAlongAxis edge → IsOf edge point → IsWhole point ⊎ IsOnPiece edge chain point
axis-pieces edges edge chain point among along (inr level) (a, at) =
    let n = point.n in
    let height = share-nowhere n a point.y edge.y0 edge.y1 level at.y in
    elim (path-spanned (λ x y. pos n *ℤ x) point.x edge chain (IsPath-noded edges edge chain along among) (share-between n a point.x edge.x0 edge.x1 at.share at.x)) [
      | inl same ↦ inl (edge.x0, edge.y0, record { x_is = sym same; y_is = height })
      | inr (piece, held, spans) ↦
          let (first, second) = ends-among chain piece held in
          let low : piece.y0 ≡ edge.y0 = passes_level edge piece.x0 piece.y0 level ((along.exact (start_of piece)).0 first).1 in
          let high : piece.y1 ≡ edge.y0 = passes_level edge piece.x1 piece.y1 level ((along.exact (end_of piece)).0 second).1 in
          let proper = (node-onwards edges edge chain among along piece held).1 in
          let flat : piece.y1 ≡ piece.y0 = high ∙ sym low in
          inr (record {
            piece = piece;
            among = held;
            proper = proper;
            parallel = level-parallel piece edge flat level;
            has = on-level piece point flat (λ same. proper (ap₂ (λ (x y : ℤ). made x y) same (sym flat))) (height ∙ ap (λ (z : ℤ). pos n *ℤ z) (sym low)) spans;
          })
    ]
  where
    made : ℤ → ℤ → Point
    made x y = record { x = x; y = y }
axis-pieces edges edge chain point among along (inl upright) (a, at) =
    let n = point.n in
    let column = share-nowhere n a point.x edge.x0 edge.x1 upright at.x in
    elim (path-spanned (λ x y. pos n *ℤ y) point.y edge chain (IsPath-noded edges edge chain along among) (share-between n a point.y edge.y0 edge.y1 at.share at.y)) [
      | inl same ↦ inl (edge.x0, edge.y0, record { x_is = column; y_is = sym same })
      | inr (piece, held, spans) ↦
          let (first, second) = ends-among chain piece held in
          let left : piece.x0 ≡ edge.x0 = passes_upright edge piece.x0 piece.y0 upright ((along.exact (start_of piece)).0 first).1 in
          let right : piece.x1 ≡ edge.x0 = passes_upright edge piece.x1 piece.y1 upright ((along.exact (end_of piece)).0 second).1 in
          let proper = (node-onwards edges edge chain among along piece held).1 in
          let straight : piece.x1 ≡ piece.x0 = right ∙ sym left in
          inr (record {
            piece = piece;
            among = held;
            proper = proper;
            parallel = upright-parallel piece edge straight upright;
            has = on-upright piece point straight (λ same. proper (ap₂ (λ (x y : ℤ). made x y) (sym straight) same)) (column ∙ ap (λ (z : ℤ). pos n *ℤ z) (sym left)) spans;
          })
    ]
  where
    made : ℤ → ℤ → Point
    made x y = record { x = x; y = y }
