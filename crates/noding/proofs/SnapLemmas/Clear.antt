-- A chain and its edge count the same for a point that isn't near the edge.
use Rattle.std.proofs.Common.{List, [], ap, arith, pos, refl, suc, sym, ◌*ℤ◌, ◌-ℤ◌, ◌<ℤ◌, ◌∙◌, ◌∷◌, ◌≡◌, ◌≤ℤ◌}
use Rattle.std.proofs.lemmas.Int.{by_lt_z, ints}
use Rattle.std.specs.List.{Contains}
use Rattle.plane.specs.declared.edge.Edge.{Edge}
use Rattle.plane.specs.declared.point.Point.{Point}
use Rattle.plane.specs.Meet.Edges.{RationalPoint}
use Rattle.noding.specs.Chains.{Passes}
use Rattle.noding.specs.Near.{IsNear}
use Rattle.plane.specs.Ends.{edge_between, reversed}
use Rattle.noding.specs.Windings.{pieces, winding, count}
use Rattle.noding.proofs.SnapLemmas.Counted.{added, is_low, under}
use Rattle.noding.proofs.SnapLemmas.Heights.{Covering, same_side}
use Rattle.noding.proofs.SnapLemmas.Numbers.{both_zero}
use Rattle.noding.proofs.SnapLemmas.Paths.{GoesOn, IsPath}
use Rattle.noding.proofs.SnapLemmas.Reversed.{IsNear-reversed, Passes-reversed}
use Rattle.noding.proofs.SnapLemmas.Windings.{after, before, under-left, under-right, winding-added, within}
use Rattle.plane.proofs.MeetLemmas.Identities.{scaled}

-- Where both cover the point's x, a piece whose ends the edge passes is on the edge's side of the point.
abbrev pub AgreesWith : Edge → RationalPoint → Edge → Type 0
AgreesWith edge point piece = Passes edge piece.x0 piece.y0 → Passes edge piece.x1 piece.y1 → Covering edge point → Covering piece point → is_low piece point ≡ is_low edge point

abbrev pub Agrees : Edge → RationalPoint → Type 0
Agrees edge point = (piece : Edge) → AgreesWith edge point piece

-- So are those of the pieces of a chain, and on the way back.
abbrev pub AgreeAlong : Edge → RationalPoint → List Point → Type 0
AgreeAlong edge point chain = (piece : Edge) → Contains (pieces chain) piece → AgreesWith edge point piece

abbrev pub AgreeBack : Edge → RationalPoint → List Point → Type 0
AgreeBack edge point chain = (piece : Edge) → Contains (pieces chain) piece → AgreesWith (reversed edge) point (reversed piece)

-- ---- an edge that doesn't go leftwards or rightwards

module _ (edge : Edge) (onwards : edge.x0 ≤ℤ edge.x1) where
  -- what is left of a chain goes on to the edge's end
  rises : (from : Point) (others : List Point) → GoesOn edge from others → from.x ≤ℤ edge.x1
  rises from [] (x, y) = omega (arith, ints, x)
  rises from (to ∷ others) (order, passes, rest) =
      let next = order.along_x.rising onwards in
      let upto = rises to others rest in
      omega (arith, ints, next, upto)

  module _ (point : RationalPoint) where
    -- a point before the rest of a chain has none of it under it
    sum_before : (from : Point) (others : List Point) → GoesOn edge from others → point.x <ℤ (pos point.n *ℤ from.x) → added (pieces (from ∷ others)) point ≡ pos 0
    sum_before from [] goes is = refl
    sum_before from (to ∷ others) (order, passes, rest) is =
        let next = order.along_x.rising onwards in
        let further = scaled point.n from.x to.x next in
        both_zero (under (edge_between from to) point) (added (pieces (to ∷ others)) point)
        (under-right (edge_between from to) point next ∙ before (edge_between from to) point is)
        (sum_before to others rest (omega (arith, ints, is, further)))

    -- nor has one behind the edge
    sum_after : (from : Point) (others : List Point) → GoesOn edge from others → (pos point.n *ℤ edge.x1) ≤ℤ point.x → added (pieces (from ∷ others)) point ≡ pos 0
    sum_after from [] goes is = refl
    sum_after from (to ∷ others) (order, passes, rest) is =
        let next = order.along_x.rising onwards in
        let further = scaled point.n to.x edge.x1 (rises to others rest) in
        both_zero (under (edge_between from to) point) (added (pieces (to ∷ others)) point)
        (under-right (edge_between from to) point next ∙ after (edge_between from to) point (omega (arith, ints, is, further)))
        (sum_after to others rest is)

    -- one within has the piece that covers it
    sum_within : Covering edge point → (from : Point) (others : List Point) → AgreeAlong edge point (from ∷ others) → Passes edge from.x from.y → GoesOn edge from others → (pos point.n *ℤ from.x) ≤ℤ point.x → added (pieces (from ∷ others)) point ≡ count (is_low edge point)
    sum_within c from [] agree passed (x, y) is =
        let upto = c.before in
        let over : point.x <ℤ (pos point.n *ℤ from.x) = rw x upto in
        absurd (omega (arith, ints, is, over))
    sum_within c from (to ∷ others) agree passed (order, passes, rest) is =
        let next = order.along_x.rising onwards in
        by_lt_z point.x (pos point.n *ℤ to.x)
        (λ inside.
        let d : Covering (edge_between from to) point = record { from = is; before = inside } in
        let here = under-right (edge_between from to) point next ∙ within (edge_between from to) point d ∙ ap count (agree (edge_between from to) (0, omega arith, refl) passed passes c d) in
        let later = sum_before to others rest inside in
        omega (arith, ints, here, later))
        (λ further.
        let here = under-right (edge_between from to) point next ∙ after (edge_between from to) point further in
        let later = sum_within c to others (λ piece (k, inside, is_at). agree piece (suc k, omega (arith, inside), is_at)) passes rest further in
        omega (arith, ints, here, later))

module _ (edge : Edge) (backwards : edge.x1 ≤ℤ edge.x0) where
  -- the same leftwards
  falls : (from : Point) (others : List Point) → GoesOn edge from others → edge.x1 ≤ℤ from.x
  falls from [] (x, y) = omega (arith, ints, x)
  falls from (to ∷ others) (order, passes, rest) =
      let next = order.along_x.falling backwards in
      let upto = falls to others rest in
      omega (arith, ints, next, upto)

  module _ (point : RationalPoint) where
    sum_right : (from : Point) (others : List Point) → GoesOn edge from others → (pos point.n *ℤ from.x) ≤ℤ point.x → added (pieces (from ∷ others)) point ≡ pos 0
    sum_right from [] goes is = refl
    sum_right from (to ∷ others) (order, passes, rest) is =
        let next = order.along_x.falling backwards in
        let further = scaled point.n to.x from.x next in
        let here = under-left (edge_between from to) point next in
        let none = after (reversed (edge_between from to)) point is in
        both_zero (under (edge_between from to) point) (added (pieces (to ∷ others)) point)
        (omega (arith, ints, here, none))
        (sum_right to others rest (omega (arith, ints, is, further)))

    sum_left : (from : Point) (others : List Point) → GoesOn edge from others → point.x <ℤ (pos point.n *ℤ edge.x1) → added (pieces (from ∷ others)) point ≡ pos 0
    sum_left from [] goes is = refl
    sum_left from (to ∷ others) (order, passes, rest) is =
        let next = order.along_x.falling backwards in
        let further = scaled point.n edge.x1 to.x (falls to others rest) in
        let here = under-left (edge_between from to) point next in
        let none = before (reversed (edge_between from to)) point (omega (arith, ints, is, further)) in
        both_zero (under (edge_between from to) point) (added (pieces (to ∷ others)) point)
        (omega (arith, ints, here, none))
        (sum_left to others rest is)

    sum_across : Covering (reversed edge) point → (from : Point) (others : List Point) → AgreeBack edge point (from ∷ others) → Passes edge from.x from.y → GoesOn edge from others → point.x <ℤ (pos point.n *ℤ from.x) → added (pieces (from ∷ others)) point ≡ (pos 0 -ℤ count (is_low (reversed edge) point))
    sum_across c from [] agree passed (x, y) is =
        let upto = c.from in
        let over : point.x <ℤ (pos point.n *ℤ edge.x1) = rw (sym x) is in
        absurd (omega (arith, ints, upto, over))
    sum_across c from (to ∷ others) agree passed (order, passes, rest) is =
        let next = order.along_x.falling backwards in
        let here = under-left (edge_between from to) point next in
        by_lt_z point.x (pos point.n *ℤ to.x)
        (λ further.
        let none = before (reversed (edge_between from to)) point further in
        let later = sum_across c to others (λ piece (k, inside, is_at). agree piece (suc k, omega (arith, inside), is_at)) passes rest further in
        omega (arith, ints, here, none, later))
        (λ inside.
        let d : Covering (reversed (edge_between from to)) point = record { from = inside; before = is } in
        let same = within (reversed (edge_between from to)) point d ∙ ap count (agree (edge_between from to) (0, omega arith, refl) (Passes-reversed edge to.x to.y passes) (Passes-reversed edge from.x from.y passed) c d) in
        let later = sum_right to others rest inside in
        omega (arith, ints, here, same, later))

-- ---- each edge

-- a chain that doesn't go leftwards, wherever the point is
added-right : (edge : Edge) (point : RationalPoint) (from : Point) (others : List Point) → edge.x0 ≤ℤ edge.x1 → AgreeAlong edge point (from ∷ others) → from.x ≡ edge.x0 → Passes edge from.x from.y → GoesOn edge from others → added (pieces (from ∷ others)) point ≡ under edge point
added-right edge point from others onwards agree is passed goes =
    let total = under-right edge point onwards in
    by_lt_z point.x (pos point.n *ℤ edge.x0)
    (λ early. sum_before edge onwards point from others goes (rw is early) ∙ sym (total ∙ before edge point early))
    (λ late. by_lt_z point.x (pos point.n *ℤ edge.x1)
    (λ inside.
    let c : Covering edge point = record { from = late; before = inside } in
    sum_within edge onwards point c from others agree passed goes (rw is late) ∙ sym (total ∙ within edge point c))
    (λ past. sum_after edge onwards point from others goes past ∙ sym (total ∙ after edge point past)))

-- one that doesn't go rightwards
added-left : (edge : Edge) (point : RationalPoint) (from : Point) (others : List Point) → edge.x1 ≤ℤ edge.x0 → AgreeBack edge point (from ∷ others) → from.x ≡ edge.x0 → Passes edge from.x from.y → GoesOn edge from others → added (pieces (from ∷ others)) point ≡ under edge point
added-left edge point from others backwards agree is passed goes =
    let total = under-left edge point backwards in
    by_lt_z point.x (pos point.n *ℤ edge.x0)
    (λ upto. by_lt_z point.x (pos point.n *ℤ edge.x1)
    (λ past.
    let none = before (reversed edge) point past in
    let sum = sum_left edge backwards point from others goes past in
    omega (arith, ints, total, none, sum))
    (λ inside.
    let c : Covering (reversed edge) point = record { from = inside; before = upto } in
    let some = within (reversed edge) point c in
    let sum = sum_across edge backwards point c from others agree passed goes (rw is upto) in
    omega (arith, ints, total, some, sum)))
    (λ early.
    let none = after (reversed edge) point early in
    let sum = sum_right edge backwards point from others goes (rw is early) in
    omega (arith, ints, total, none, sum))

-- both ways
pub chain-sides : (edge : Edge) (chain : List Point) (point : RationalPoint) → IsPath edge chain → AgreeAlong edge point chain → AgreeBack edge point chain → winding (pieces chain) point ≡ winding (edge ∷ []) point
chain-sides edge [] point none agree back = absurd none
chain-sides edge (from ∷ others) point (x, y, passed, goes) agree back =
    let sum : added (pieces (from ∷ others)) point ≡ under edge point =
    by_lt_z edge.x0 edge.x1
    (λ right. added-right edge point from others (omega (arith, ints, right)) agree x passed goes)
    (λ left. added-left edge point from others left back x passed goes) in
    let chain = winding-added (pieces (from ∷ others)) point in
    let one = winding-added (edge ∷ []) point in
    omega (arith, ints, chain, sum, one)

pub chain-agrees : (edge : Edge) (chain : List Point) (point : RationalPoint) → IsPath edge chain → Agrees edge point → Agrees (reversed edge) point → winding (pieces chain) point ≡ winding (edge ∷ []) point
chain-agrees edge chain point is agrees back = chain-sides edge chain point is (λ piece held. agrees piece) (λ piece held. back (reversed piece))

-- the pieces of a chain count what the edge counts, at a point that isn't near the edge
pub chain-clear : (edge : Edge) (chain : List Point) (point : RationalPoint) → IsPath edge chain → ¬ (IsNear edge point) → winding (pieces chain) point ≡ winding (edge ∷ []) point
chain-clear edge chain point is far =
    chain-agrees edge chain point is
    (λ piece. same_side edge piece point far)
    (λ piece. same_side (reversed edge) piece point (λ near. far (IsNear-reversed edge point near)))
