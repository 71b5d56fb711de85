-- The stops of edges at crossings of two others, told by the pairs that come close.
use Rattle.std.proofs.Common.{◌≡◌, ◌≢◌, ◌⊎◌, ◌↔◌, inl, inr, ℕ, ◌+◌, ◌<◌, ◌≤◌, ℤ, List, [], ◌∷◌, ◌++◌, Some, get_or, length, take, refl, sym, ap, ◌∙◌, subst, subst₂, ⊎_elim, append_assoc, arith}
use Rattle.std.specs.List.{All, AllPairs, Contains, slice_get}
use Rattle.std.proofs.lemmas.Bool.{cases_eq, cases_lt}
use Rattle.std.proofs.lemmas.List.{append-nil, get_or-take, get_or_default, length-take-le}
use Rattle.std.proofs.lemmas.List.Elements.{All-contains, Contains-get_or}
use Rattle.std.proofs.lemmas.Option.{same_Some}
use Rattle.plane.specs.declared.edge.Edge.{Edge}
use Rattle.plane.specs.declared.point.Point.{Point}
use Rattle.plane.specs.Ends.{end_of, reversed, start_of}
use Rattle.plane.specs.Gains.{GainsThese, HaveSame, IsOfSome}
use Rattle.plane.specs.Pairs.Pairs.{ArePairs}
use Rattle.plane.proofs.GainsLemmas.{gains-join, gains-only, gains-same, held-at, place-of}
use Rattle.plane.proofs.PointLemmas.{whole_point}
use Rattle.noding.specs.Beside.{ClosesAt, IsFrom, IsStopAtOther, IsStopBeside, IsStopOver, IsUnclosed, LiesFarAbove, LiesFarBelow, NoneCloses, NonePassed, PassesItsEdge, RisesOver, StandAlong}
use Rattle.noding.specs.Chains.{IsEnd, IsHot, Passes, Upto}
use Rattle.noding.specs.Close.{ComeClose, PassesInside, ShareEnd}
use Rattle.noding.specs.Crossings.{AreCrossed, CrossInside, IsCrossingOf}
use Rattle.noding.specs.Offsets.{between}
use Rattle.noding.specs.Stops.{AreStops, IsBefore, IsStop, IsStopAtCrossing, IsStopOfPair, Split, point_of, stop_of}
use Rattle.noding.specs.declared.crossings.Crossing.{Crossing}
use Rattle.noding.specs.declared.stops.Stop.{Stop}
use Rattle.noding.proofs.ChainLemmas.Close.{ComeClose-exchanged, shared, shared-from}
use Rattle.noding.proofs.ChainLemmas.Copies.{in_run, of_run, run-at, run-place, run-size}
use Rattle.noding.proofs.ChainLemmas.Crossed.{passes-first, passes-second}
use Rattle.noding.proofs.ChainLemmas.Crossings.{CrossAt-end, crossed-at, crossed-pair, hot_cases, pair-crossed}
use Rattle.noding.proofs.ChainLemmas.Ends.{end_or_not}
use Rattle.noding.proofs.ChainLemmas.Stops.{AreStops-told, IsStop-along, end-stop, end_told, point-of_stop, upto-before}
use Rattle.noding.proofs.SnapLemmas.Apart.{near-passed}
use Rattle.noding.proofs.SnapLemmas.Reversed.{Passes-reversed}
use Rattle.noding.proofs.SnapLemmas.Rising.{not-above, not-before, not-behind, not-below}

-- ---- what is gained

-- what a list has already
pub gains-known : {Y : Type 0} (Is : Y → Type 0) (before : List Y) → ((y : Y) → Is y → Contains before y) → GainsThese Is before before
gains-known Is before known y = (inl, ⊎_elim (λ held. held) (λ is. known y is))

-- one item behind two lists
pub gains-behind : {Y : Type 0} (Is : Y → Type 0) (known before after : List Y) (last : Y) → Is last → ((y : Y) → Is y → y ≡ last) → after ≡ before ++ last ∷ [] → GainsThese Is (known ++ before) (known ++ after)
gains-behind Is known before after last is only same =
    gains-only Is (known ++ before) (known ++ after) last is only (ap (λ (list : List _). known ++ list) same ∙ sym (append_assoc known before (last ∷ [])))

-- the stops of the edges at a pair at those of each other, which stand one after another among all
module _ (edges : List Edge) (stops : List Stop) (pair : ℕ × ℕ) (one other : Edge) (first : slice_get edges pair.0 ≡ Some one) (second : slice_get edges pair.1 ≡ Some other) (start end other_start other_end : ℕ)
    (split : Split pair.0 start stops) (last : Split (pair.0 + 1) end stops) (other_split : Split pair.1 other_start stops) (other_last : Split (pair.1 + 1) other_end stops) where
  to_beside : (stop : Stop) → IsOfSome (IsStopAtOther pair.0 one other) (between other_start other_end stops) stop ⊎ IsOfSome (IsStopAtOther pair.1 other one) (between start end stops) stop → IsStopBeside edges stops pair stop
  to_beside stop (inl (at, held, along)) =
      let (has, place) = of_run stops pair.1 other_start other_end other_split other_last at held in
      record { one = one; other = other; first = first; second = second; over = inl (at, has, place, along) }
  to_beside stop (inr (at, held, along)) =
      let (has, place) = of_run stops pair.0 start end split last at held in
      record { one = one; other = other; first = first; second = second; over = inr (at, has, place, along) }

  from_beside : (stop : Stop) → IsStopBeside edges stops pair stop → IsOfSome (IsStopAtOther pair.0 one other) (between other_start other_end stops) stop ⊎ IsOfSome (IsStopAtOther pair.1 other one) (between start end stops) stop
  from_beside stop is =
      go (same_Some _ _ (sym is.first ∙ first)) (same_Some _ _ (sym is.second ∙ second)) is.over
    where
      go : is.one ≡ one → is.other ≡ other → IsStopOver stops pair.0 is.one pair.1 is.other stop ⊎ IsStopOver stops pair.1 is.other pair.0 is.one stop
          → IsOfSome (IsStopAtOther pair.0 one other) (between other_start other_end stops) stop ⊎ IsOfSome (IsStopAtOther pair.1 other one) (between start end stops) stop
      go one_is other_is (inl (at, has, place, along)) =
          inl (at, in_run stops pair.1 other_start other_end other_split other_last at has place, subst (λ (e : Edge). IsStopAtOther pair.0 e other at stop) one_is (subst (λ (e : Edge). IsStopAtOther pair.0 is.one e at stop) other_is along))
      go one_is other_is (inr (at, has, place, along)) =
          inr (at, in_run stops pair.0 start end split last at has place, subst (λ (e : Edge). IsStopAtOther pair.1 other e at stop) one_is (subst (λ (e : Edge). IsStopAtOther pair.1 e is.one at stop) other_is along))

  pub gains-beside : (before now after : List Stop) → GainsThese (IsOfSome (IsStopAtOther pair.0 one other) (between other_start other_end stops)) before now
      → GainsThese (IsOfSome (IsStopAtOther pair.1 other one) (between start end stops)) now after → GainsThese (IsStopBeside edges stops pair) before after
  gains-beside before now after gains more =
      gains-same (λ stop. IsOfSome (IsStopAtOther pair.0 one other) (between other_start other_end stops) stop ⊎ IsOfSome (IsStopAtOther pair.1 other one) (between start end stops) stop) (IsStopBeside edges stops pair) before after to_beside from_beside
      (gains-join (IsOfSome (IsStopAtOther pair.0 one other) (between other_start other_end stops)) (IsOfSome (IsStopAtOther pair.1 other one) (between start end stops)) before now after gains more)

-- ---- what is passed along an edge

-- the run of an edge's stops stands along it
pub along-run : (edges : List Edge) (stops : List Stop) (place start end : ℕ) (edge : Edge) → slice_get edges place ≡ Some edge → Split place start stops → Split (place + 1) end stops → AllPairs IsBefore stops → All (PassesItsEdge edges) stops
    → StandAlong edge (between start end stops)
along-run edges stops place start end edge stands first last in_order passed = record {
  in_order = λ i j d below within.
      let size = run-size stops place start end first last in
      let (one_at, one_upto) = run-at stops place start end first last i d (omega (arith, below, within)) in
      let (other_at, other_upto) = run-at stops place start end first last j d within in
      let inside = last.inside in
      let one_place = run-place stops place start end first last (start + i) d (omega arith) one_upto in
      let other_place = run-place stops place start end first last (start + j) d (omega arith) other_upto in
      subst₂ (λ (one other : Stop). Upto edge (point_of edge one).x (point_of edge one).y (point_of edge other).x (point_of edge other).y) (sym one_at) (sym other_at)
      (upto-before edge (get_or stops (start + i) d) (get_or stops (start + j) d) (one_place ∙ sym other_place) (in_order (start + i) (start + j) d (omega (arith, below)) (omega (arith, other_upto, inside)))
      (passed (start + i) d (omega (arith, one_upto, inside)) edge (ap (slice_get edges) one_place ∙ stands)) (passed (start + j) d (omega (arith, other_upto, inside)) edge (ap (slice_get edges) other_place ∙ stands)));
  passed = λ i d within.
      let (at, upto) = run-at stops place start end first last i d within in
      let inside = last.inside in
      let here = run-place stops place start end first last (start + i) d (omega arith) upto in
      subst (λ (stop : Stop). Passes edge (point_of edge stop).x (point_of edge stop).y) (sym at) (passed (start + i) d (omega (arith, upto, inside)) edge (ap (slice_get edges) here ∙ stands));
}

module _ (line other : Edge) (others : List Stop) (along : StandAlong other others) (rises : RisesOver line other) where
  -- what stands before one that lies far below the line isn't passed, nor is that one
  pub none-before : (l : ℕ) (e : Stop) → l < length others → LiesFarBelow line (point_of other (get_or others l e)) → NonePassed line other 0 (l + 1) others
  none-before l e within below k d from upto =
      let last : (get_or others l e) ≡ get_or others l d = get_or_default others l e d within in
      let there = subst (λ (stop : Stop). LiesFarBelow line (point_of other stop)) last below in
      elim (cases_lt k l) [
        | inl before ↦ not-before line other rises (point_of other (get_or others k d)).x (point_of other (get_or others k d)).y (point_of other (get_or others l d)).x (point_of other (get_or others l d)).y
            (along.passed k d (omega (arith, before, within))) (along.passed l d within) (along.in_order k l d before within) there
        | inr behind ↦
            let at : l ≡ k = omega (arith, upto, behind) in
            not-below line (point_of other (get_or others k d)).x (point_of other (get_or others k d)).y (subst (λ (n : ℕ). LiesFarBelow line (point_of other (get_or others n d))) at there)
      ]

  -- what stands behind one that lies far above it isn't either
  pub none-behind : (k : ℕ) (e : Stop) → k < length others → LiesFarAbove line (point_of other (get_or others k e)) → NonePassed line other k (length others) others
  none-behind k e within above l d from upto =
      let first : (get_or others k e) ≡ get_or others k d = get_or_default others k e d within in
      let there = subst (λ (stop : Stop). LiesFarAbove line (point_of other stop)) first above in
      elim (cases_lt k l) [
        | inl behind ↦ not-behind line other rises (point_of other (get_or others k d)).x (point_of other (get_or others k d)).y (point_of other (get_or others l d)).x (point_of other (get_or others l d)).y
            (along.passed k d within) (along.passed l d upto) (along.in_order k l d behind upto) there
        | inr before ↦
            let at : k ≡ l = omega (arith, from, before) in
            not-above line (point_of other (get_or others l d)).x (point_of other (get_or others l d)).y (subst (λ (n : ℕ). LiesFarAbove line (point_of other (get_or others n d))) at there)
      ]

-- what a line's edge doesn't pass is no stop of it
module _ (place : ℕ) (edge line other : Edge) (is : (line ≡ edge) ⊎ (line ≡ reversed edge)) where
  passed-line : (x y : ℤ) → Passes edge x y → Passes line x y
  passed-line x y passes = ⊎_elim (λ same. subst (λ (e : Edge). Passes e x y) (sym same) passes) (λ same. subst (λ (e : Edge). Passes e x y) (sym same) (Passes-reversed edge x y passes)) is

  pub no-stop : (others : List Stop) (start end k : ℕ) (d : Stop) → NonePassed line other start end others → start ≤ k → k < end → (stop : Stop) → ¬ (IsStopAtOther place edge other (get_or others k d) stop)
  no-stop others start end k d none from upto stop at = none k d from upto (passed-line _ _ at.0.0)

-- items of which none stands for anything, at the front or behind the others
module _ {X Y : Type 0} (Is : X → Y → Type 0) (items : List X) (k : ℕ) (long : k ≤ length items) where
  size : length (take k items) ≡ k
  size = length-take-le k items long

  pub none-first : ((j : ℕ) (d : X) → j < k → (y : Y) → ¬ (Is (get_or items j d) y)) → (y : Y) → ¬ (IsOfSome Is (take k items) y)
  none-first none y (x, (j, within, at), is) =
      let upto : j < k = omega (arith, within, size) in
      none j x upto y (subst (λ (z : X). Is z y) (sym at ∙ get_or-take k items j x upto) is)

  pub gains-rest : (before after : List Y) → ((j : ℕ) (d : X) → k ≤ j → j < length items → (y : Y) → ¬ (Is (get_or items j d) y)) → GainsThese (IsOfSome Is (take k items)) before after → GainsThese (IsOfSome Is items) before after
  gains-rest before after none = gains-same (IsOfSome Is (take k items)) (IsOfSome Is items) before after to from
    where
      to : (y : Y) → IsOfSome Is (take k items) y → IsOfSome Is items y
      to y (x, (j, within, at), is) =
          let upto : j < k = omega (arith, within, size) in
          (x, (j, omega (arith, upto, long), sym (get_or-take k items j x upto) ∙ at), is)

      from : (y : Y) → IsOfSome Is items y → IsOfSome Is (take k items) y
      from y (x, (j, within, at), is) =
          elim (cases_lt j k) [
            | inl upto ↦ (x, (j, omega (arith, upto, size), get_or-take k items j x upto ∙ at), is)
            | inr behind ↦ absurd (none j x behind within y (subst (λ (z : X). Is z y) (sym at) is))
          ]

-- ---- edges that share ends with both of two that cross

share_or_not : (one other : Edge) → ShareEnd one other ⊎ (¬ (ShareEnd one other))
share_or_not one other =
    elim (end_or_not one other.x0 other.y0) [
      | inl start ↦ inl (shared one other (inl start))
      | inr no_start ↦ elim (end_or_not one other.x1 other.y1) [
        | inl end ↦ inl (shared one other (inr end))
        | inr no_end ↦ inr (λ share. ⊎_elim no_start no_end (shared-from one other share))
      ]
    ]

abbrev edge_of : ℤ → ℤ → ℤ → ℤ → Edge
edge_of x0 y0 x1 y1 = record { x0 = x0; y0 = y0; x1 = x1; y1 = y1 }

module _ (x y : ℤ) where
  moved : (a b c d e f g h : ℤ) → a ≡ e → b ≡ f → c ≡ g → d ≡ h → PassesInside (edge_of a b c d) x y → PassesInside (edge_of e f g h) x y
  moved a b c d e f g h first second third fourth passes =
      subst (λ (z : ℤ). PassesInside (edge_of z f g h) x y) first
      (subst (λ (z : ℤ). PassesInside (edge_of a z g h) x y) second
      (subst (λ (z : ℤ). PassesInside (edge_of a b z h) x y) third
      (subst (λ (z : ℤ). PassesInside (edge_of a b c z) x y) fourth passes)))

  -- an edge from an end of the one to an end of the other
  from_ends : (one other : Edge) (a b c d : ℤ) → IsEnd one a b → IsEnd other c d → PassesInside (edge_of a b c d) x y → IsFrom (start_of one) other (whole_point x y) ⊎ IsFrom (end_of one) other (whole_point x y)
  from_ends one other a b c d (inl (p, q)) (inl (r, s)) passes = inl (inl (moved a b c d one.x0 one.y0 other.x0 other.y0 p q r s passes))
  from_ends one other a b c d (inl (p, q)) (inr (r, s)) passes = inl (inr (moved a b c d one.x0 one.y0 other.x1 other.y1 p q r s passes))
  from_ends one other a b c d (inr (p, q)) (inl (r, s)) passes = inr (inl (moved a b c d one.x1 one.y1 other.x0 other.y0 p q r s passes))
  from_ends one other a b c d (inr (p, q)) (inr (r, s)) passes = inr (inr (moved a b c d one.x1 one.y1 other.x1 other.y1 p q r s passes))

  back : (edge : Edge) → PassesInside edge x y → PassesInside (reversed edge) x y
  back edge (passes, inside) = (Passes-reversed edge x y passes, λ end. inside (⊎_elim inr inl end))

  module _ (one other edge : Edge) (cross : CrossInside one other (whole_point x y)) (passes : PassesInside edge x y) where
    -- the two that cross have no common end
    no_common : (a b c d : ℤ) → IsEnd one a b → IsEnd other c d → a ≡ c → b ≡ d → ⊥
    no_common a b c d of_one of_other same_x same_y =
        let share : ShareEnd one other = (c, d, subst (λ (z : ℤ). IsEnd one z d) same_x (subst (λ (z : ℤ). IsEnd one a z) same_y of_one), of_other) in
        cross.1 (inl (CrossAt-end one other x y share cross.0))

    -- so it leads from the one to the other
    closes : ShareEnd edge one → ShareEnd edge other → ClosesAt one other (whole_point x y)
    closes (a, b, at, of_one) (c, d, there, of_other) = (go at there, cross.1)
      where
        go : IsEnd edge a b → IsEnd edge c d → IsFrom (start_of one) other (whole_point x y) ⊎ IsFrom (end_of one) other (whole_point x y)
        go (inl (p, q)) (inl (r, s)) = absurd (no_common a b c d of_one of_other (p ∙ sym r) (q ∙ sym s))
        go (inr (p, q)) (inr (r, s)) = absurd (no_common a b c d of_one of_other (p ∙ sym r) (q ∙ sym s))
        go (inl (p, q)) (inr (r, s)) = from_ends one other a b c d of_one of_other (moved edge.x0 edge.y0 edge.x1 edge.y1 a b c d (sym p) (sym q) (sym r) (sym s) passes)
        go (inr (p, q)) (inl (r, s)) = from_ends one other a b c d of_one of_other (moved edge.x1 edge.y1 edge.x0 edge.y0 a b c d (sym p) (sym q) (sym r) (sym s) (back edge passes))

-- ---- all stops

module _ (edges : List Edge) (pairs : List (ℕ × ℕ)) (crossings : List Crossing) (close : ArePairs ComeClose edges pairs) (crossed : AreCrossed edges pairs crossings) (none : NoneCloses edges crossings)
    (stops : List Stop) (told : (stop : Stop) → Contains stops stop ↔ (IsOfSome (IsStopOfPair edges) pairs stop ⊎ IsOfSome (IsStopAtCrossing edges) crossings stop)) where
  -- those at ends, and those of two edges where they cross, are stops
  first_stop : (stop : Stop) → Contains stops stop → IsStop edges stop
  first_stop stop held =
      ⊎_elim (end-stop edges pairs close stop)
      (λ at_crossing.
      let (crossing, among, at) = at_crossing in
      let (pair, is) = crossed-pair edges pairs crossings crossed crossing among in
      let cross : CrossInside at.one at.other crossing.point = (crossed-at edges crossing at.one at.other at.first at.second is, at.at.0) in
      let hot : IsHot edges crossing.point.x crossing.point.y = inr (at.one, at.other, held-at edges crossing.one at.one at.first, held-at edges crossing.other at.other at.second, cross.0) in
      ⊎_elim
      (λ same. IsStop-along edges crossing.one at.one crossing.point.x crossing.point.y stop at.first hot (passes-first at.one at.other crossing.point cross, same))
      (λ same. IsStop-along edges crossing.other at.other crossing.point.x crossing.point.y stop at.second hot (passes-second at.one at.other crossing.point cross, same))
      at.at.1)
      ((told stop).0 held)

  -- so each is passed by its edge
  pub all-passed : All (PassesItsEdge edges) stops
  all-passed k d within edge stands =
      let stop = first_stop (get_or stops k d) (Contains-get_or stops k d within) in
      let edge_is : stop.edge ≡ edge = same_Some _ _ (sym stop.stands ∙ stands) in
      subst (λ (e : Edge). Passes e (point_of e (get_or stops k d)).x (point_of e (get_or stops k d)).y) edge_is stop.inside.0

  -- and so are those at stops of others
  over_stop : (place i : ℕ) (edge other : Edge) (stop : Stop) → slice_get edges place ≡ Some edge → slice_get edges i ≡ Some other → IsStopOver stops place edge i other stop → IsStop edges stop
  over_stop place i edge other stop first second (at, held, there, along) =
      let of_other = first_stop at held in
      let other_is : of_other.edge ≡ other = same_Some _ _ (sym of_other.stands ∙ ap (slice_get edges) there ∙ second) in
      let hot : IsHot edges (point_of other at).x (point_of other at).y = subst (λ (e : Edge). IsHot edges (point_of e at).x (point_of e at).y) other_is of_other.node.0 in
      IsStop-along edges place edge (point_of other at).x (point_of other at).y stop first hot along

  module _ (all : List Stop) (gains : GainsThese (IsOfSome (IsStopBeside edges stops) pairs) stops all) where
    each_stop : (stop : Stop) → Contains all stop → IsStop edges stop
    each_stop stop held =
        ⊎_elim (first_stop stop)
        (λ beside.
        let (pair, among, is) = beside in
        ⊎_elim (over_stop pair.0 pair.1 is.one is.other stop is.first is.second) (over_stop pair.1 pair.0 is.other is.one stop is.second is.first) is.over)
        ((gains stop).0 held)

    -- an edge that passes a stop of one that it lies near has its stop there
    told_beside : (place i : ℕ) (edge one : Edge) (x y : ℤ) → slice_get edges place ≡ Some edge → slice_get edges i ≡ Some one → place ≢ i → ComeClose edge one → Contains stops (stop_of i one x y) → PassesInside edge x y
        → Contains all (stop_of place edge x y)
    told_beside place i edge one x y stands first apart near stop passes =
        elim (cases_lt place i) [
          | inl below ↦ (gains (stop_of place edge x y)).1 (inr (
            (place, i),
            (close.exact place i).1 (record { one = edge; other = one; rising = below; first = stands; second = first; meet = near }),
            record { one = edge; other = one; first = stands; second = first; over = inl over },
          ))
          | inr upto ↦ (gains (stop_of place edge x y)).1 (inr (
            (i, place),
            (close.exact i place).1 (record { one = one; other = edge; rising = omega (arith, upto, apart); first = first; second = stands; meet = ComeClose-exchanged edge one near }),
            record { one = one; other = edge; first = first; second = stands; over = inr over },
          ))
        ]
      where
        over : IsStopOver stops place edge i one (stop_of place edge x y)
        over = (
          stop_of i one x y,
          stop,
          refl,
          subst (λ (p : Point). PassesInside edge p.x p.y × (stop_of place edge x y ≡ stop_of place edge p.x p.y)) (sym (point-of_stop i one x y)) (passes, refl),
        )

    module _ (place : ℕ) (edge : Edge) (x y : ℤ) (stands : slice_get edges place ≡ Some edge) (passes : PassesInside edge x y) where
      -- the stop of one of the two that cross
      own : (i : ℕ) (one : Edge) → slice_get edges i ≡ Some one → place ≡ i → Contains stops (stop_of i one x y) → Contains all (stop_of place edge x y)
      own i one first same held =
          let edge_is : one ≡ edge = same_Some _ _ (sym first ∙ ap (slice_get edges) (sym same) ∙ stands) in
          (gains (stop_of place edge x y)).1 (inl (subst (λ (e : Edge). Contains stops (stop_of place e x y)) edge_is (subst (λ (n : ℕ). Contains stops (stop_of n one x y)) (sym same) held)))

      crossing_listed : (pair : ℕ × ℕ) → Contains pairs pair → IsCrossingOf edges pair (whole_point x y) → Contains all (stop_of place edge x y)
      crossing_listed pair among is =
          elim (cases_eq place pair.0) [
            | inl same ↦ own pair.0 one is.first same stop_one
            | inr apart ↦ elim (cases_eq place pair.1) [
              | inl same ↦ own pair.1 other is.second same stop_other
              | inr apart_too ↦ elim (share_or_not edge one) [
                | inr unshared ↦ told_beside place pair.0 edge one x y stands is.first apart (inl (unshared, near-passed edge one x y passes.0 (passes-first one other (whole_point x y) is.cross).0)) stop_one passes
                | inl share ↦ elim (share_or_not edge other) [
                  | inr unshared ↦ told_beside place pair.1 edge other x y stands is.second apart_too (inl (unshared, near-passed edge other x y passes.0 (passes-second one other (whole_point x y) is.cross).0)) stop_other passes
                  | inl share_too ↦ absurd (uncloses (closes x y one other edge is.cross passes share share_too))
                ]
              ]
            ]
          ]
        where
          one : Edge
          one = is.one

          other : Edge
          other = is.other

          crossing : Crossing
          crossing = record { one = pair.0; other = pair.1; point = whole_point x y }

          held : Contains crossings crossing
          held = pair-crossed edges pairs crossings crossed pair one other (whole_point x y) among is.first is.second is.cross.0

          uncloses : ¬ (ClosesAt one other (whole_point x y))
          uncloses = All-contains (IsUnclosed edges) crossings crossing none held one other is.first is.second

          stop_one : Contains stops (stop_of pair.0 one x y)
          stop_one = (told (stop_of pair.0 one x y)).1 (inr (crossing, held, record { one = one; other = other; first = is.first; second = is.second; at = (is.cross.1, inl refl) }))

          stop_other : Contains stops (stop_of pair.1 other x y)
          stop_other = (told (stop_of pair.1 other x y)).1 (inr (crossing, held, record { one = one; other = other; first = is.first; second = is.second; at = (is.cross.1, inr refl) }))

      listed : IsHot edges x y → Contains all (stop_of place edge x y)
      listed hot =
          ⊎_elim
          (λ end.
          let (other, of_edges, at) = end in
          let (i, second) = place-of edges other of_edges in
          (gains (stop_of place edge x y)).1 (inl ((told (stop_of place edge x y)).1 (inl (end_told edges pairs close place i edge other x y stands second at passes)))))
          (λ crossing. let (pair, among, is) = crossing in crossing_listed pair among is)
          (hot_cases edges pairs close x y hot)

    -- so, in order and each left once, they are all stops
    pub AreStops-beside : (sorted : List Stop) → HaveSame all sorted → AllPairs IsBefore sorted → AreStops edges sorted
    AreStops-beside sorted = AreStops-told edges all sorted (λ place edge x y stands hot passes. listed place edge x y stands passes hot) each_stop

-- where nothing is found beside, a list has what it had
pub same-none : {Y : Type 0} (stops beside : List Y) → beside ≡ [] → HaveSame (stops ++ beside) stops
same-none stops beside none y =
    let same : stops ++ beside ≡ stops = ap (λ (list : List _). stops ++ list) none ∙ append-nil stops in
    (λ held. subst (λ (list : List _). Contains list y) (sym same) held, λ held. subst (λ (list : List _). Contains list y) same held)
