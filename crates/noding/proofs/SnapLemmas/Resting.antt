-- A chain whose points lie on its edge counts what the edge counts, at each point.
use Rattle.std.proofs.Common.{List, ap, arith, pos, sym, ℕ, ℤ, ◌*ℤ◌, ◌+ℤ◌, ◌-ℤ◌, ◌<◌, ◌∙◌, ◌∷◌, [], ◌≡◌}
use Rattle.std.proofs.lemmas.Int.{ints}
use Rattle.std.specs.List.{Contains}
use Rattle.std.specs.Prelude.{int_le}
use Rattle.plane.specs.declared.edge.Edge.{Edge}
use Rattle.plane.specs.declared.point.Point.{Point}
use Rattle.plane.specs.Meet.Edges.{RationalPoint}
use Rattle.plane.specs.Meet.Kinds.{HasPoint}
use Rattle.plane.specs.SweepLine.Heights.{run}
use Rattle.plane.proofs.MeetLemmas.Identities.{Term, identity, minus, number, plus, same_of, scaled, times, unscaled}
use Rattle.plane.specs.Ends.{end_of, reversed, start_of}
use Rattle.noding.specs.Windings.{pieces, winding}
use Rattle.noding.proofs.SnapLemmas.Clear.{chain-sides}
use Rattle.noding.proofs.SnapLemmas.Counted.{height_at, is_low}
use Rattle.noding.proofs.SnapLemmas.Heights.{Covering, onwards}
use Rattle.noding.proofs.SnapLemmas.Hobby.Ends.{reversed-on}
use Rattle.noding.proofs.SnapLemmas.Noded.{ends-among}
use Rattle.noding.proofs.SnapLemmas.Numbers.{n_of, natural, same_test}
use Rattle.noding.proofs.SnapLemmas.Paths.{IsPath}

-- ---- a whole point of an edge is on its line

way_at : (n s : ℕ) (p c start end : ℤ) → p ≡ (pos n *ℤ c) → p ≡ ((pos n *ℤ start) +ℤ (pos s *ℤ (end -ℤ start))) → (pos n *ℤ (c -ℤ start)) ≡ (pos s *ℤ (end -ℤ start))
way_at n s p c start end at is =
    let fact = same_of (times (n_of n) (number c)) (plus (times (n_of n) (number start)) (times (n_of s) (minus (number end) (number start)))) (sym at ∙ is) in
    identity (times (n_of n) (minus (number c) (number start))) (times (n_of s) (minus (number end) (number start))) (omega (arith, fact))

same_by : (n : ℕ) (a b : ℤ) → 0 < n → (pos n *ℤ a) ≡ (pos n *ℤ b) → a ≡ b
same_by n a b some is =
    let upto = unscaled n a b some (omega (arith, ints, is)) in
    let back = unscaled n b a some (omega (arith, ints, is)) in
    omega (arith, ints, upto, back)

line_by : (n s : ℕ) (w h x y : ℤ) → 0 < n → (pos n *ℤ x) ≡ (pos s *ℤ w) → (pos n *ℤ y) ≡ (pos s *ℤ h) → (w *ℤ y) ≡ (h *ℤ x)
line_by n s w h x y some along_x along_y =
    same_by n (w *ℤ y) (h *ℤ x) some
    (identity (times (n_of n) (times (number w) (number y))) (times (number w) (times (n_of n) (number y))) (omega arith)
    ∙ ap (λ z. w *ℤ z) along_y
    ∙ identity (times (number w) (times (n_of s) (number h))) (times (number h) (times (n_of s) (number w))) (omega arith)
    ∙ ap (λ z. h *ℤ z) (sym along_x)
    ∙ identity (times (number h) (times (n_of n) (number x))) (times (n_of n) (times (number h) (number x))) (omega arith))

on_line : (edge : Edge) (x y : ℤ) → HasPoint edge x y → ((edge.x1 -ℤ edge.x0) *ℤ (y -ℤ edge.y0)) ≡ ((edge.y1 -ℤ edge.y0) *ℤ (x -ℤ edge.x0))
on_line edge x y (point, (s, at), is) =
    line_by point.n s (edge.x1 -ℤ edge.x0) (edge.y1 -ℤ edge.y0) (x -ℤ edge.x0) (y -ℤ edge.y0) point.positive
    (way_at point.n s point.x x edge.x0 edge.x1 is.x_is at.x)
    (way_at point.n s point.y y edge.y0 edge.y1 is.y_is at.y)

-- ---- heights of edges along one line

up_from : (w y y0 k : ℤ) → (w *ℤ (y -ℤ y0)) ≡ k → (w *ℤ y) ≡ ((w *ℤ y0) +ℤ k)
up_from w y y0 k is = identity (times (number w) (number y)) (plus (times (number w) (number y0)) (times (number w) (minus (number y) (number y0)))) (omega arith) ∙ ap (λ z. (w *ℤ y0) +ℤ z) is

-- the one's height times the other's run is the other's times the one's
height_same : (n : ℕ) (p x0 x1 y0 y1 a0 a1 b0 b1 : ℤ) → ((x1 -ℤ x0) *ℤ (b0 -ℤ y0)) ≡ ((y1 -ℤ y0) *ℤ (a0 -ℤ x0)) → ((x1 -ℤ x0) *ℤ (b1 -ℤ y0)) ≡ ((y1 -ℤ y0) *ℤ (a1 -ℤ x0))
    → ((x1 -ℤ x0) *ℤ ((b0 *ℤ ((pos n *ℤ a1) -ℤ p)) +ℤ (b1 *ℤ (p -ℤ (pos n *ℤ a0))))) ≡ ((a1 -ℤ a0) *ℤ ((y0 *ℤ ((pos n *ℤ x1) -ℤ p)) +ℤ (y1 *ℤ (p -ℤ (pos n *ℤ x0)))))
height_same n p x0 x1 y0 y1 a0 a1 b0 b1 first second =
    let w = minus (number x1) (number x0) in
    let h = minus (number y1) (number y0) in
    let right = minus (times (n_of n) (number a1)) (number p) in
    let left = minus (number p) (times (n_of n) (number a0)) in
    let there : ℤ → Term = λ a. plus (times w (number y0)) (times h (minus (number a) (number x0))) in
    identity (times w (plus (times (number b0) right) (times (number b1) left))) (plus (times (times w (number b0)) right) (times (times w (number b1)) left)) (omega arith)
    ∙ ap (λ z. (z *ℤ ((pos n *ℤ a1) -ℤ p)) +ℤ (((x1 -ℤ x0) *ℤ b1) *ℤ (p -ℤ (pos n *ℤ a0)))) (up_from (x1 -ℤ x0) b0 y0 ((y1 -ℤ y0) *ℤ (a0 -ℤ x0)) first)
    ∙ ap (λ z. ((((x1 -ℤ x0) *ℤ y0) +ℤ ((y1 -ℤ y0) *ℤ (a0 -ℤ x0))) *ℤ ((pos n *ℤ a1) -ℤ p)) +ℤ (z *ℤ (p -ℤ (pos n *ℤ a0)))) (up_from (x1 -ℤ x0) b1 y0 ((y1 -ℤ y0) *ℤ (a1 -ℤ x0)) second)
    ∙ identity (plus (times (there a0) right) (times (there a1) left))
    (times (minus (number a1) (number a0)) (plus (times (number y0) (minus (times (n_of n) (number x1)) (number p))) (times (number y1) (minus (number p) (times (n_of n) (number x0)))))) (omega arith)

exchange : (w r : ℕ) (y u v : ℤ) → u ≡ pos w → v ≡ pos r → (pos w *ℤ (y *ℤ v)) ≡ (pos r *ℤ (y *ℤ u))
exchange w r y u v is_w is_r =
    ap (λ z. pos w *ℤ (y *ℤ z)) is_r
    ∙ identity (times (n_of w) (times (number y) (n_of r))) (times (n_of r) (times (number y) (n_of w))) (omega arith)
    ∙ ap (λ z. pos r *ℤ (y *ℤ z)) (sym is_w)

-- so both compare in one way with the point
low_same : (w r : ℕ) (h g y u v : ℤ) → 0 < w → 0 < r → u ≡ pos w → v ≡ pos r → (pos w *ℤ g) ≡ (pos r *ℤ h) → int_le g (y *ℤ v) ≡ int_le h (y *ℤ u)
low_same w r h g y u v some many is_w is_r same =
    let turned = exchange w r y u v is_w is_r in
    same_test g (y *ℤ v) h (y *ℤ u)
    (λ low high.
    let there = scaled w g (y *ℤ v) low in
    let upto = unscaled r h (y *ℤ u) many (omega (arith, ints, there, same, turned)) in
    omega (arith, ints, upto, high))
    (λ low high.
    let there = scaled r h (y *ℤ u) low in
    let upto = unscaled w g (y *ℤ v) some (omega (arith, ints, there, same, turned)) in
    omega (arith, ints, upto, high))

same_height : (edge piece : Edge) (point : RationalPoint) → HasPoint edge piece.x0 piece.y0 → HasPoint edge piece.x1 piece.y1 → Covering edge point → Covering piece point → is_low piece point ≡ is_low edge point
same_height edge piece point from to c d =
    let some = onwards edge point c in
    let many = onwards piece point d in
    let w = natural (run edge) (omega (arith, ints, some)) in
    let r = natural (run piece) (omega (arith, ints, many)) in
    let is_w = w.is in
    let is_r = r.is in
    let same = height_same point.n point.x edge.x0 edge.x1 edge.y0 edge.y1 piece.x0 piece.x1 piece.y0 piece.y1 (on_line edge piece.x0 piece.y0 from) (on_line edge piece.x1 piece.y1 to) in
    low_same w.k r.k (height_at edge point) (height_at piece point) point.y (run edge) (run piece) (omega (arith, ints, some, is_w)) (omega (arith, ints, many, is_r)) is_w is_r
    (ap (λ z. z *ℤ height_at piece point) (sym is_w) ∙ same ∙ ap (λ z. z *ℤ height_at edge point) is_r)

-- ---- a chain

pub chain-rests : (edge : Edge) (chain : List Point) (point : RationalPoint) → IsPath edge chain → ((c : Point) → Contains chain c → HasPoint edge c.x c.y) → winding (pieces chain) point ≡ winding (edge ∷ []) point
chain-rests edge chain point is on =
    chain-sides edge chain point is
    (λ piece held from_passes to_passes. same_height edge piece point (from piece held) (to piece held))
    (λ piece held from_passes to_passes. same_height (reversed edge) (reversed piece) point (back piece.x1 piece.y1 (to piece held)) (back piece.x0 piece.y0 (from piece held)))
  where
    from : (piece : Edge) → Contains (pieces chain) piece → HasPoint edge piece.x0 piece.y0
    from piece held = on (start_of piece) (ends-among chain piece held).0

    to : (piece : Edge) → Contains (pieces chain) piece → HasPoint edge piece.x1 piece.y1
    to piece held = on (end_of piece) (ends-among chain piece held).1

    back : (x y : ℤ) → HasPoint edge x y → HasPoint (reversed edge) x y
    back x y has = reversed-on (reversed edge) x y has
