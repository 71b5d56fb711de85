-- Pieces don't cross, and no hot point is inside one.
use Rattle.std.proofs.Common.{ap, arith, inl, inr, pos, subst, sym, ℕ, ℤ, ◌*ℤ◌, ◌+ℤ◌, ◌+◌, ◌-ℤ◌, ◌-◌, ◌<ℤ◌, ◌<◌, ◌∙◌, ◌≡◌, ◌≢◌, ◌≤ℤ◌, ◌≤◌}
use Rattle.std.proofs.Math.Nat.{mul-le-mul_left}
use Rattle.std.proofs.lemmas.Int.{by_lt_z, ints}
use Rattle.plane.specs.declared.edge.Edge.{Edge}
use Rattle.plane.specs.Meet.Crosses.{cross}
use Rattle.plane.specs.Meet.Kinds.{HasPoint}
use Rattle.noding.specs.Chains.{IsEnd, Passes}
use Rattle.plane.specs.Ends.{reversed}
use Rattle.noding.proofs.SnapLemmas.Hobby.Leads.{pieces-lead}
use Rattle.noding.proofs.SnapLemmas.Means.{Passes-on_piece}
use Rattle.noding.proofs.SnapLemmas.Numbers.{n_of}
use Rattle.noding.proofs.SnapLemmas.Pieces.{CrossProperly, HasCrossings, InBox, IsBetween, IsPiece, Leads, left_of, Share}
use Rattle.noding.proofs.SnapLemmas.Reversed.{left-reversed}
use Rattle.plane.proofs.MeetLemmas.Identities.{Term, at_most, at_most_of, identity, minus, number, plus, same_of, times, unscaled}

left_none_from : (x0 y0 x1 y1 : ℤ) → cross (x1 -ℤ x0) (y1 -ℤ y0) (x0 -ℤ x0) (y0 -ℤ y0) ≡ pos 0
left_none_from x0 y0 x1 y1 =
    let way : ℤ → ℤ → Term = λ a b. minus (number a) (number b) in
    identity (minus (times (way x1 x0) (way y0 y0)) (times (way y1 y0) (way x0 x0))) (n_of 0) (omega arith)

left_none_to : (x0 y0 x1 y1 : ℤ) → cross (x1 -ℤ x0) (y1 -ℤ y0) (x1 -ℤ x0) (y1 -ℤ y0) ≡ pos 0
left_none_to x0 y0 x1 y1 =
    let way : ℤ → ℤ → Term = λ a b. minus (number a) (number b) in
    identity (minus (times (way x1 x0) (way y1 y0)) (times (way y1 y0) (way x1 x0))) (n_of 0) (omega arith)

-- an end of an edge is on no side of it
left-end : (edge : Edge) (x y : ℤ) → IsEnd edge x y → left_of edge x y ≡ pos 0
left-end edge x y (inl (is_x, is_y)) =
    ap (λ z. left_of edge z y) is_x ∙ ap (λ z. left_of edge edge.x0 z) is_y ∙ left_none_from edge.x0 edge.y0 edge.x1 edge.y1
left-end edge x y (inr (is_x, is_y)) =
    ap (λ z. left_of edge z y) is_x ∙ ap (λ z. left_of edge edge.x1 z) is_y ∙ left_none_to edge.x0 edge.y0 edge.x1 edge.y1

-- ends of edges that cross are on a side
pub record Sides (one other : Edge) : Type 0 where
  s1 : left_of one other.x0 other.y0 ≢ pos 0
  s2 : left_of one other.x1 other.y1 ≢ pos 0
  p1 : left_of other one.x0 one.y0 ≢ pos 0
  p2 : left_of other one.x1 one.y1 ≢ pos 0

above_not : (z : ℤ) → pos 0 <ℤ z → z ≢ pos 0
above_not z above same = omega (arith, ints)

below_not : (z : ℤ) → z <ℤ pos 0 → z ≢ pos 0
below_not z below same = omega (arith, ints)

turned_not : (z t : ℤ) → t ≡ (pos 0 -ℤ z) → t ≢ pos 0 → z ≢ pos 0
turned_not z t is apart same = apart (omega (arith, ints, is, same))

-- the ends of edges that cross are on sides
pub sides : (one other : Edge) → CrossProperly one other → Sides one other
sides one other (inl crosses) = record {
  s1 = below_not (left_of one other.x0 other.y0) crosses.from;
  s2 = above_not (left_of one other.x1 other.y1) crosses.to;
  p1 = above_not (left_of other one.x0 one.y0) crosses.back_from;
  p2 = below_not (left_of other one.x1 one.y1) crosses.back_to;
}
sides one other (inr crosses) = record {
  s1 = above_not (left_of one other.x0 other.y0) crosses.to;
  s2 = below_not (left_of one other.x1 other.y1) crosses.from;
  p1 = turned_not (left_of other one.x0 one.y0) (left_of (reversed other) one.x0 one.y0) (left-reversed other one.x0 one.y0) (above_not (left_of (reversed other) one.x0 one.y0) crosses.back_from);
  p2 = turned_not (left_of other one.x1 one.y1) (left_of (reversed other) one.x1 one.y1) (left-reversed other one.x1 one.y1) (below_not (left_of (reversed other) one.x1 one.y1) crosses.back_to);
}

-- a common end
pub common_end : (one other : Edge) (x y : ℤ) → Sides one other → IsEnd one x y → IsEnd other x y → ⊥
common_end one other x y apart first (inl (is_x, is_y)) =
    apart.s1 (ap (λ z. left_of one z other.y0) (sym is_x) ∙ ap (λ z. left_of one x z) (sym is_y) ∙ left-end one x y first)
common_end one other x y apart first (inr (is_x, is_y)) =
    apart.s2 (ap (λ z. left_of one z other.y1) (sym is_x) ∙ ap (λ z. left_of one x z) (sym is_y) ∙ left-end one x y first)

-- so what pieces that cross lead to is absurd
uncrossed : (hot other_hot : ℤ → ℤ → Type 0) (edge other piece other_piece : Edge) → IsPiece hot edge piece → IsPiece other_hot other other_piece → HasCrossings hot edge other → Share hot other_hot edge other → Sides piece other_piece → Leads edge other piece other_piece → ⊥
uncrossed hot other_hot edge other piece other_piece first second crossings share apart (inl found) =
    apart.s1 (left-end piece other_piece.x0 other_piece.y0 (first.next other_piece.x0 other_piece.y0 (share.here other_piece.x0 other_piece.y0 second.from_hot found.passes) found))
uncrossed hot other_hot edge other piece other_piece first second crossings share apart (inr (inl found)) =
    apart.s2 (left-end piece other_piece.x1 other_piece.y1 (first.next other_piece.x1 other_piece.y1 (share.here other_piece.x1 other_piece.y1 second.to_hot found.passes) found))
uncrossed hot other_hot edge other piece other_piece first second crossings share apart (inr (inr (inl found))) =
    apart.p1 (left-end other_piece piece.x0 piece.y0 (second.next piece.x0 piece.y0 (share.there piece.x0 piece.y0 first.from_hot found.passes) found))
uncrossed hot other_hot edge other piece other_piece first second crossings share apart (inr (inr (inr (inl found)))) =
    apart.p2 (left-end other_piece piece.x1 piece.y1 (second.next piece.x1 piece.y1 (share.there piece.x1 piece.y1 first.to_hot found.passes) found))
uncrossed hot other_hot edge other piece other_piece first second crossings share apart (inr (inr (inr (inr meets)))) =
    let is_hot = crossings meets.point meets.x meets.y meets.apart meets.of_one meets.of_other meets.rounds in
    let one_end = first.next meets.x meets.y is_hot (record {
      passes = (meets.point, meets.of_one, meets.rounds);
      box = meets.box;
    }) in
    let other_end = second.next meets.x meets.y (share.there meets.x meets.y is_hot (meets.point, meets.of_other, meets.rounds)) (record {
      passes = (meets.point, meets.of_other, meets.rounds);
      box = meets.other_box;
    }) in
    common_end piece other_piece meets.x meets.y apart one_end other_end

-- two pieces don't cross
pub pieces-uncrossed : (hot other_hot : ℤ → ℤ → Type 0) (edge other piece other_piece : Edge) → IsPiece hot edge piece → IsPiece other_hot other other_piece → HasCrossings hot edge other → Share hot other_hot edge other → CrossProperly piece other_piece → ⊥
pieces-uncrossed hot other_hot edge other piece other_piece first second crossings share crosses =
    uncrossed hot other_hot edge other piece other_piece first second crossings share (sides piece other_piece crosses)
    (pieces-lead edge other piece other_piece first.from_passes first.to_passes second.from_passes second.to_passes crosses)

-- ---- no hot point is inside a piece

share_above : (n a : ℕ) (c start end : ℤ) → 0 < n → a ≤ n → start ≤ℤ end → (pos n *ℤ c) ≡ ((pos n *ℤ start) +ℤ (pos a *ℤ (end -ℤ start))) → (start ≤ℤ c) × (c ≤ℤ end)
share_above n a c start end some upto order is =
    let way = minus (number end) (number start) in
    let fact = same_of (times (n_of n) (number c)) (plus (times (n_of n) (number start)) (times (n_of a) way)) is in
    let order_fact = at_most_of (number start) (number end) order in
    let part = mul-le-mul_left a order_fact in
    let rest = mul-le-mul_left (n - a) order_fact in (
      unscaled n start c some (at_most (times (n_of n) (number start)) (times (n_of n) (number c)) (omega (arith, fact, part))),
      unscaled n c end some (above_rest n a (n - a) c start end (omega arith) order is),
    )
  where
    above_rest : (n a b : ℕ) (c start end : ℤ) → a + b ≡ n → start ≤ℤ end → (pos n *ℤ c) ≡ ((pos n *ℤ start) +ℤ (pos a *ℤ (end -ℤ start))) → (pos n *ℤ c) ≤ℤ (pos n *ℤ end)
    above_rest n a b c start end whole order is =
        let there : (pos (a + b) *ℤ c) ≡ ((pos (a + b) *ℤ start) +ℤ (pos a *ℤ (end -ℤ start))) = rw whole is in
        let fact = same_of (times (n_of (a + b)) (number c)) (plus (times (n_of (a + b)) (number start)) (times (n_of a) (minus (number end) (number start)))) there in
        let rest = mul-le-mul_left b (at_most_of (number start) (number end) order) in
        let found : (pos (a + b) *ℤ c) ≤ℤ (pos (a + b) *ℤ end) = at_most (times (n_of (a + b)) (number c)) (times (n_of (a + b)) (number end)) (omega (arith, fact, rest)) in
        subst (λ (m : ℕ). (pos m *ℤ c) ≤ℤ (pos m *ℤ end)) whole found

-- the same share from the other end
share_back : (n a b : ℕ) (c start end : ℤ) → a + b ≡ n → (pos n *ℤ c) ≡ ((pos n *ℤ start) +ℤ (pos a *ℤ (end -ℤ start))) → (pos n *ℤ c) ≡ ((pos n *ℤ end) +ℤ (pos b *ℤ (start -ℤ end)))
share_back n a b c start end whole is =
    let there : (pos (a + b) *ℤ c) ≡ ((pos (a + b) *ℤ start) +ℤ (pos a *ℤ (end -ℤ start))) = rw whole is in
    let back : (pos (a + b) *ℤ c) ≡ ((pos (a + b) *ℤ end) +ℤ (pos b *ℤ (start -ℤ end))) =
    there ∙ identity (plus (times (n_of (a + b)) (number start)) (times (n_of a) (minus (number end) (number start)))) (plus (times (n_of (a + b)) (number end)) (times (n_of b) (minus (number start) (number end)))) (omega arith) in
    subst (λ (m : ℕ). (pos m *ℤ c) ≡ ((pos m *ℤ end) +ℤ (pos b *ℤ (start -ℤ end)))) whole back

-- a whole point at a share lies between the ends
share_between : (n a : ℕ) (c start end : ℤ) → 0 < n → a ≤ n → (pos n *ℤ c) ≡ ((pos n *ℤ start) +ℤ (pos a *ℤ (end -ℤ start))) → IsBetween start end c
share_between n a c start end some upto is =
    by_lt_z start end
    (λ up. inl (share_above n a c start end some upto (omega (arith, ints)) is))
    (λ down. inr (share_above n (n - a) c end start some (omega arith) down (share_back n a (n - a) c start end (omega arith) is)))

-- a whole point of an edge lies in its box
box-on : (edge : Edge) (x y : ℤ) → HasPoint edge x y → InBox edge x y
box-on edge x y (point, (a, at), is) = record {
  along_x = share_between point.n a x edge.x0 edge.x1 point.positive at.share (sym is.x_is ∙ at.x);
  along_y = share_between point.n a y edge.y0 edge.y1 point.positive at.share (sym is.y_is ∙ at.y);
}

-- so a hot point on a piece is an end of it
pub piece-clear : (hot : ℤ → ℤ → Type 0) (edge piece : Edge) (x y : ℤ) → IsPiece hot edge piece → (Passes edge x y → hot x y) → HasPoint piece x y → IsEnd piece x y
piece-clear hot edge piece x y part is_hot on =
    let passes = Passes-on_piece edge piece x y part.from_passes part.to_passes on in
    part.next x y (is_hot passes) (record {
      passes = passes;
      box = box-on piece x y on;
    })
