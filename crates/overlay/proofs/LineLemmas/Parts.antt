-- Which stretches are parts of an edge: those between its start and its end, on its line.
use Rattle.std.proofs.Common.{◌≡◌, ◌≢◌, ◌⊎◌, inl, inr, Bool, true, false, cond, not, ◌&&◌, ◌||◌, ℤ, pos, ◌≤ℤ◌, ◌<ℤ◌, refl, ap, ap₂, sym, subst, ◌∙◌, arith}
use Rattle.std.specs.Prelude.{int_le}
use Rattle.std.specs.Int.Signed.{lt_z}
use Rattle.std.specs.Ordering.{int_eq}
use Rattle.std.proofs.lemmas.Bool.{and_parts}
use Rattle.std.proofs.lemmas.Int.{ints}
use Rattle.plane.specs.declared.edge.Edge.{Edge}
use Rattle.plane.specs.declared.point.Point.{Point}
use Rattle.plane.specs.Ends.{edge_between, end_of, reversed, start_of}
use Rattle.plane.specs.SweepLine.Heights.{rightwards}
use Rattle.plane.proofs.SweepLineLemmas.Rightwards.{rightwards-left, rightwards-right}
use Rattle.noding.specs.Chains.{IsEnd}
use Rattle.overlay.specs.declared.boundary.lines.Place.{Place}
use Rattle.overlay.specs.Joined.{is_level_part, is_same, is_upright_part, onwards}
use Rattle.overlay.specs.Lines.{before, end_place, greatest, is_level, is_upright, least, line_of, point_at, start_place}
use Rattle.overlay.proofs.FillLemmas.Tests.{int_eq-false, int_eq-true, lt_is, lt_true}
use Rattle.overlay.proofs.FillLemmas.Under.{le_is, le_true}
use Rattle.overlay.proofs.LineLemmas.Places.{along-upto, before-along, before-irrefl, before-not, before-upto, line-between, upto-along, upto-before}
use Rattle.overlay.proofs.PieceLemmas.Edges.{equal, unequal}
use Rattle.overlay.proofs.PieceLemmas.Made.{rightwards-onwards}

-- ---- edges that go onwards

abbrev pub IsOnwards : Edge → Type 0
IsOnwards edge = (edge.x0 <ℤ edge.x1) ⊎ (edge.x0 ≡ edge.x1) × (edge.y0 ≤ℤ edge.y1)

pub onwards-is : (edge : Edge) → IsOnwards (onwards edge)
onwards-is edge = by (int_eq edge.x0 edge.x1) (lt_z edge.y1 edge.y0) refl refl
  where
    by : (s t : Bool) → int_eq edge.x0 edge.x1 ≡ s → lt_z edge.y1 edge.y0 ≡ t → IsOnwards (cond s (cond t (reversed edge) edge) (rightwards edge))
    by false t e f = inl (rightwards-onwards edge (unequal edge.x0 edge.x1 e))
    by true true e f = inr (sym (equal edge.x0 edge.x1 e), omega (arith, ints, f))
    by true false e f = inr (equal edge.x0 edge.x1 e, omega (arith, ints, f))

-- it has the ends of the edge
abbrev AreEnds : Edge → Edge → Type 0
AreEnds edge other = IsEnd edge other.x0 other.y0 × IsEnd edge other.x1 other.y1

pub onwards-ends : (edge : Edge) → IsEnd edge (onwards edge).x0 (onwards edge).y0 × IsEnd edge (onwards edge).x1 (onwards edge).y1
onwards-ends edge = by (int_eq edge.x0 edge.x1) (lt_z edge.y1 edge.y0)
  where
    turned : (t : Bool) → lt_z edge.x1 edge.x0 ≡ t → AreEnds edge (rightwards edge)
    turned true e = subst (AreEnds edge) (sym (rightwards-left edge e)) (inr (refl, refl), inl (refl, refl))
    turned false e = subst (AreEnds edge) (sym (rightwards-right edge e)) (inl (refl, refl), inr (refl, refl))

    by : (s t : Bool) → AreEnds edge (cond s (cond t (reversed edge) edge) (rightwards edge))
    by false t = turned (lt_z edge.x1 edge.x0) refl
    by true true = (inr (refl, refl), inl (refl, refl))
    by true false = (inl (refl, refl), inr (refl, refl))

-- ---- tests

and_true : (p q : Bool) → p ≡ true → q ≡ true → (p && q) ≡ true
and_true p q e f = ap₂ (λ (s t : Bool). s && t) e f

or_left : (p q : Bool) → p ≡ true → (p || q) ≡ true
or_left p q e = ap (λ (t : Bool). t || q) e

or_right : (p q : Bool) → q ≡ true → (p || q) ≡ true
or_right true q e = refl
or_right false q e = e

or_cases : (p q : Bool) → (p || q) ≡ true → (p ≡ true) ⊎ (q ≡ true)
or_cases true q e = inl refl
or_cases false q e = inr e

itself : (x : ℤ) → int_eq x x ≡ true
itself x = int_eq-true x x refl

-- ---- the shapes of edges

abbrev ShapeAt : Bool → Bool → Edge → Type 0
ShapeAt level upright edge =
    ((level ≡ true) × (edge.y0 ≡ edge.y1) × (edge.x0 <ℤ edge.x1))
    ⊎ (((level ≡ false) × (upright ≡ true) × (edge.x0 ≡ edge.x1) × (edge.y0 <ℤ edge.y1)) ⊎ ((level ≡ false) × (upright ≡ false)))

shape : (edge : Edge) → IsOnwards edge → ShapeAt (is_level edge) (is_upright edge) edge
shape edge is = by (int_eq edge.y0 edge.y1) (int_eq edge.x0 edge.x1) refl refl is
  where
    rising : edge.y0 ≢ edge.y1 → edge.y0 ≤ℤ edge.y1 → edge.y0 <ℤ edge.y1
    rising differ upto = omega (arith, ints, differ, upto)

    by : (p q : Bool) → int_eq edge.y0 edge.y1 ≡ p → int_eq edge.x0 edge.x1 ≡ q → IsOnwards edge → ShapeAt (p && not q) (q && not p) edge
    by true true e f is = inr (inr (refl, refl))
    by false false e f is = inr (inr (refl, refl))
    by true false e f (inl less) = inl (refl, equal edge.y0 edge.y1 e, less)
    by true false e f (inr (same, upto)) = absurd (unequal edge.x0 edge.x1 f same)
    by false true e f (inl less) = let same = equal edge.x0 edge.x1 f in absurd (omega (arith, ints, same, less))
    by false true e f (inr (same, upto)) = inr (inl (refl, refl, same, rising (unequal edge.y0 edge.y1 e) upto))

abbrev level_line : ℤ → Edge
level_line y = record { x0 = least; y0 = y; x1 = greatest; y1 = y }

abbrev upright_line : ℤ → Edge
upright_line x = record { x0 = x; y0 = least; x1 = x; y1 = greatest }

abbrev at : Edge → ℤ → Place
at line along = record { line = line; along = along }

abbrev start_by : Bool → Bool → Edge → Place
start_by level upright edge =
    at (cond level (level_line edge.y0) (cond upright (upright_line edge.x0) edge)) (cond level edge.x0 (cond upright edge.y0 (pos 0)))

abbrev end_by : Bool → Bool → Edge → Place
end_by level upright edge =
    at (cond level (level_line edge.y0) (cond upright (upright_line edge.x0) edge)) (cond level edge.x1 (cond upright edge.y1 (pos 1)))

start-level : (edge : Edge) → is_level edge ≡ true → start_place edge ≡ at (level_line edge.y0) edge.x0
start-level edge e = ap (λ (t : Bool). start_by t (is_upright edge) edge) e

end-level : (edge : Edge) → is_level edge ≡ true → end_place edge ≡ at (level_line edge.y0) edge.x1
end-level edge e = ap (λ (t : Bool). end_by t (is_upright edge) edge) e

start-upright : (edge : Edge) → is_level edge ≡ false → is_upright edge ≡ true → start_place edge ≡ at (upright_line edge.x0) edge.y0
start-upright edge e f = ap₂ (λ (s t : Bool). start_by s t edge) e f

end-upright : (edge : Edge) → is_level edge ≡ false → is_upright edge ≡ true → end_place edge ≡ at (upright_line edge.x0) edge.y1
end-upright edge e f = ap₂ (λ (s t : Bool). end_by s t edge) e f

start-other : (edge : Edge) → is_level edge ≡ false → is_upright edge ≡ false → start_place edge ≡ at edge (pos 0)
start-other edge e f = ap₂ (λ (s t : Bool). start_by s t edge) e f

end-other : (edge : Edge) → is_level edge ≡ false → is_upright edge ≡ false → end_place edge ≡ at edge (pos 1)
end-other edge e f = ap₂ (λ (s t : Bool). end_by s t edge) e f

-- ---- points at places

level-point : (place : Place) (y : ℤ) → place.line ≡ level_line y → point_at place ≡ record { x = place.along; y = y }
level-point place y same =
    ap (λ (line : Edge). point_at (at line place.along)) same
    ∙ ap (λ (t : Bool). cond (t && true) (record { x = place.along; y = y }) (cond (false && not t) (record { x = least; y = place.along }) (cond (int_eq place.along (pos 0)) (start_of (level_line y)) (end_of (level_line y))))) (itself y)

upright-point : (place : Place) (x : ℤ) → place.line ≡ upright_line x → point_at place ≡ record { x = x; y = place.along }
upright-point place x same =
    ap (λ (line : Edge). point_at (at line place.along)) same
    ∙ ap (λ (t : Bool). cond (t && true) (record { x = x; y = place.along }) (cond (int_eq place.along (pos 0)) (start_of (upright_line x)) (end_of (upright_line x)))) (itself x)

abbrev point_by : Bool → Bool → Bool → Place → Point
point_by level upright first place =
    cond level (record { x = place.along; y = place.line.y0 }) (cond upright (record { x = place.line.x0; y = place.along }) (cond first (start_of place.line) (end_of place.line)))

other-point : (edge : Edge) (along : ℤ) (first : Bool) → is_level edge ≡ false → is_upright edge ≡ false → int_eq along (pos 0) ≡ first → point_at (at edge along) ≡ cond first (start_of edge) (end_of edge)
other-point edge along first e f g =
    ap₂ (λ (s t : Bool). point_by s t (int_eq along (pos 0)) (at edge along)) e f ∙ ap (λ (t : Bool). cond t (start_of edge) (end_of edge)) g

-- where an edge starts and ends
pub point-start : (edge : Edge) → IsOnwards edge → point_at (start_place edge) ≡ start_of edge
point-start edge is = by (shape edge is)
  where
    by : ShapeAt (is_level edge) (is_upright edge) edge → point_at (start_place edge) ≡ start_of edge
    by (inl (e, same, less)) = ap point_at (start-level edge e) ∙ level-point (at (level_line edge.y0) edge.x0) edge.y0 refl
    by (inr (inl (e, f, same, less))) = ap point_at (start-upright edge e f) ∙ upright-point (at (upright_line edge.x0) edge.y0) edge.x0 refl
    by (inr (inr (e, f))) = ap point_at (start-other edge e f) ∙ other-point edge (pos 0) true e f refl

pub point-end : (edge : Edge) → IsOnwards edge → point_at (end_place edge) ≡ end_of edge
point-end edge is = by (shape edge is)
  where
    by : ShapeAt (is_level edge) (is_upright edge) edge → point_at (end_place edge) ≡ end_of edge
    by (inl (e, same, less)) =
        ap point_at (end-level edge e) ∙ level-point (at (level_line edge.y0) edge.x1) edge.y0 refl ∙ ap (λ (y : ℤ). record { x = edge.x1; y = y }) same
    by (inr (inl (e, f, same, less))) =
        ap point_at (end-upright edge e f) ∙ upright-point (at (upright_line edge.x0) edge.y1) edge.x0 refl ∙ ap (λ (x : ℤ). record { x = x; y = edge.y1 }) same
    by (inr (inr (e, f))) = ap point_at (end-other edge e f) ∙ other-point edge (pos 1) false e f refl

-- an edge starts before it ends
pub start-before : (edge : Edge) → IsOnwards edge → before (start_place edge) (end_place edge) ≡ true
start-before edge is = by (before (start_place edge) (end_place edge)) refl
  where
    along : ShapeAt (is_level edge) (is_upright edge) edge → (start_place edge).along <ℤ (end_place edge).along
    along (inl (e, same, less)) = subst (λ (place : Place). place.along <ℤ (end_place edge).along) (sym (start-level edge e)) (subst (λ (place : Place). edge.x0 <ℤ place.along) (sym (end-level edge e)) less)
    along (inr (inl (e, f, same, less))) =
        subst (λ (place : Place). place.along <ℤ (end_place edge).along) (sym (start-upright edge e f)) (subst (λ (place : Place). edge.y0 <ℤ place.along) (sym (end-upright edge e f)) less)
    along (inr (inr (e, f))) =
        subst (λ (place : Place). place.along <ℤ (end_place edge).along) (sym (start-other edge e f)) (subst (λ (place : Place). pos 0 <ℤ place.along) (sym (end-other edge e f)) (omega (arith, ints)))

    contrary : (a b : ℤ) → a <ℤ b → b ≤ℤ a → ⊥
    contrary a b less upto = omega (arith, ints, less, upto)

    by : (t : Bool) → before (start_place edge) (end_place edge) ≡ t → t ≡ true
    by true e = refl
    by false e = absurd (contrary (start_place edge).along (end_place edge).along (along (shape edge is)) (along-upto (end_place edge) (start_place edge) refl e))

-- ---- parts

abbrev pub part_of : Edge → Edge → Bool
part_of edge part = is_same edge part || (is_level_part edge part || is_upright_part edge part)

-- the stretch goes from the one place to the other, and is a part of the edge
pub record IsStretch (edge : Edge) (from to : Place) (stretch : Edge) : Type 0 where
  pub start : start_place stretch ≡ from
  pub end : end_place stretch ≡ to
  pub part : part_of edge stretch ≡ true

abbrev between : Place → Place → Edge
between from to = edge_between (point_at from) (point_at to)

stretch-level : (edge : Edge) (from to : Place) → edge.y0 ≡ edge.y1 → edge.x0 <ℤ edge.x1 → from.line ≡ level_line edge.y0 → to.line ≡ level_line edge.y0
    → edge.x0 ≤ℤ from.along → from.along <ℤ to.along → to.along ≤ℤ edge.x1 → IsStretch edge from to (between from to)
stretch-level edge from to level long first second start less end =
    let a = from.along in
    let b = to.along in
    let y = edge.y0 in
    let part : Edge = record { x0 = a; y0 = y; x1 = b; y1 = y } in
    let is : part ≡ between from to = sym (ap₂ (λ (p q : Point). edge_between p q) (level-point from y first) (level-point to y second)) in
    let flat : is_level part ≡ true = ap₂ (λ (p q : Bool). p && not q) (itself y) (int_eq-false a b (λ same. omega (arith, ints, same, less))) in
    let told : is_level_part edge part ≡ true =
    and_true (lt_z edge.x0 edge.x1 && lt_z a b) ((int_eq edge.y0 edge.y1 && int_eq y y) && (int_eq edge.y0 y && (int_le edge.x0 a && int_le b edge.x1)))
    (and_true (lt_z edge.x0 edge.x1) (lt_z a b) (lt_true edge.x0 edge.x1 long) (lt_true a b less))
    (and_true (int_eq edge.y0 edge.y1 && int_eq y y) (int_eq edge.y0 y && (int_le edge.x0 a && int_le b edge.x1))
    (and_true (int_eq edge.y0 edge.y1) (int_eq y y) (int_eq-true edge.y0 edge.y1 level) (itself y))
    (and_true (int_eq edge.y0 y) (int_le edge.x0 a && int_le b edge.x1) (itself y) (and_true (int_le edge.x0 a) (int_le b edge.x1) (le_true edge.x0 a start) (le_true b edge.x1 end)))) in
    subst (IsStretch edge from to) is (record {
      start = start-level part flat ∙ ap (λ (line : Edge). at line a) (sym first);
      end = end-level part flat ∙ ap (λ (line : Edge). at line b) (sym second);
      part = or_right (is_same edge part) (is_level_part edge part || is_upright_part edge part) (or_left (is_level_part edge part) (is_upright_part edge part) told);
    })

stretch-upright : (edge : Edge) (from to : Place) → edge.x0 ≡ edge.x1 → edge.y0 <ℤ edge.y1 → from.line ≡ upright_line edge.x0 → to.line ≡ upright_line edge.x0
    → edge.y0 ≤ℤ from.along → from.along <ℤ to.along → to.along ≤ℤ edge.y1 → IsStretch edge from to (between from to)
stretch-upright edge from to upright long first second start less end =
    let a = from.along in
    let b = to.along in
    let x = edge.x0 in
    let part : Edge = record { x0 = x; y0 = a; x1 = x; y1 = b } in
    let is : part ≡ between from to = sym (ap₂ (λ (p q : Point). edge_between p q) (upright-point from x first) (upright-point to x second)) in
    let apart = int_eq-false a b (λ same. omega (arith, ints, same, less)) in
    let high : is_level part ≡ false = ap (λ (p : Bool). p && not (int_eq x x)) apart in
    let steep : is_upright part ≡ true = ap₂ (λ (p q : Bool). p && not q) (itself x) apart in
    let told : is_upright_part edge part ≡ true =
    and_true (lt_z edge.y0 edge.y1 && lt_z a b) ((int_eq edge.x0 edge.x1 && int_eq x x) && (int_eq edge.x0 x && (int_le edge.y0 a && int_le b edge.y1)))
    (and_true (lt_z edge.y0 edge.y1) (lt_z a b) (lt_true edge.y0 edge.y1 long) (lt_true a b less))
    (and_true (int_eq edge.x0 edge.x1 && int_eq x x) (int_eq edge.x0 x && (int_le edge.y0 a && int_le b edge.y1))
    (and_true (int_eq edge.x0 edge.x1) (int_eq x x) (int_eq-true edge.x0 edge.x1 upright) (itself x))
    (and_true (int_eq edge.x0 x) (int_le edge.y0 a && int_le b edge.y1) (itself x) (and_true (int_le edge.y0 a) (int_le b edge.y1) (le_true edge.y0 a start) (le_true b edge.y1 end)))) in
    subst (IsStretch edge from to) is (record {
      start = start-upright part high steep ∙ ap (λ (line : Edge). at line a) (sym first);
      end = end-upright part high steep ∙ ap (λ (line : Edge). at line b) (sym second);
      part = or_right (is_same edge part) (is_level_part edge part || is_upright_part edge part) (or_right (is_level_part edge part) (is_upright_part edge part) told);
    })

stretch-other : (edge : Edge) (from to : Place) → is_level edge ≡ false → is_upright edge ≡ false → from.line ≡ edge → to.line ≡ edge
    → pos 0 ≤ℤ from.along → from.along <ℤ to.along → to.along ≤ℤ pos 1 → IsStretch edge from to (between from to)
stretch-other edge from to high slanted first second start less end =
    let none : from.along ≡ pos 0 = omega (arith, ints, start, less, end) in
    let one : to.along ≡ pos 1 = omega (arith, ints, start, less, end) in
    let from_is : from ≡ at edge (pos 0) = ap₂ (λ (line : Edge) (z : ℤ). at line z) first none in
    let to_is : to ≡ at edge (pos 1) = ap₂ (λ (line : Edge) (z : ℤ). at line z) second one in
    let is : edge ≡ between from to =
    sym (ap₂ (λ (p q : Point). edge_between p q) (ap point_at from_is ∙ other-point edge (pos 0) true high slanted refl) (ap point_at to_is ∙ other-point edge (pos 1) false high slanted refl)) in
    subst (IsStretch edge from to) is (record {
      start = start-other edge high slanted ∙ sym from_is;
      end = end-other edge high slanted ∙ sym to_is;
      part = or_left (is_same edge edge) (is_level_part edge edge || is_upright_part edge edge)
          (and_true (int_eq edge.x0 edge.x0 && int_eq edge.y0 edge.y0) (int_eq edge.x1 edge.x1 && int_eq edge.y1 edge.y1)
          (and_true (int_eq edge.x0 edge.x0) (int_eq edge.y0 edge.y0) (itself edge.x0) (itself edge.y0)) (and_true (int_eq edge.x1 edge.x1) (int_eq edge.y1 edge.y1) (itself edge.x1) (itself edge.y1)));
    })

-- what goes from a place that isn't before the edge's start to one that isn't behind its end is a part of it
pub stretch-is : (edge : Edge) → IsOnwards edge → (from to : Place) → before from to ≡ true → before from (start_place edge) ≡ false → before (end_place edge) to ≡ false
    → IsStretch edge from to (between from to)
stretch-is edge is from to less start end = by (shape edge is)
  where
    before_end : before (end_place edge) from ≡ false
    before_end = before-not from (end_place edge) (before-upto from to (end_place edge) less end)

    behind_start : before to (start_place edge) ≡ false
    behind_start = before-not (start_place edge) to (upto-before (start_place edge) from to start less)

    from_line : from.line ≡ line_of edge
    from_line = line-between (start_place edge) from (end_place edge) refl start before_end

    to_line : to.line ≡ line_of edge
    to_line = line-between (start_place edge) to (end_place edge) refl behind_start end

    from_start : (start_place edge).along ≤ℤ from.along
    from_start = along-upto (start_place edge) from (sym from_line) start

    upto_end : to.along ≤ℤ (end_place edge).along
    upto_end = along-upto to (end_place edge) to_line end

    rising : from.along <ℤ to.along
    rising = before-along from to (from_line ∙ sym to_line) less

    by : ShapeAt (is_level edge) (is_upright edge) edge → IsStretch edge from to (between from to)
    by (inl (e, same, long)) =
        let s = start-level edge e in
        let t = end-level edge e in
        let line = ap (λ (place : Place). place.line) s in
        stretch-level edge from to same long (from_line ∙ line) (to_line ∙ line) (subst (λ (place : Place). place.along ≤ℤ from.along) s from_start) rising (subst (λ (place : Place). to.along ≤ℤ place.along) t upto_end)
    by (inr (inl (e, f, same, long))) =
        let s = start-upright edge e f in
        let t = end-upright edge e f in
        let line = ap (λ (place : Place). place.line) s in
        stretch-upright edge from to same long (from_line ∙ line) (to_line ∙ line) (subst (λ (place : Place). place.along ≤ℤ from.along) s from_start) rising (subst (λ (place : Place). to.along ≤ℤ place.along) t upto_end)
    by (inr (inr (e, f))) =
        let s = start-other edge e f in
        let t = end-other edge e f in
        let line = ap (λ (place : Place). place.line) s in
        stretch-other edge from to e f (from_line ∙ line) (to_line ∙ line) (subst (λ (place : Place). place.along ≤ℤ from.along) s from_start) rising (subst (λ (place : Place). to.along ≤ℤ place.along) t upto_end)

-- a part starts nowhere before the edge, and ends nowhere behind it
abbrev IsWithin : Edge → Edge → Type 0
IsWithin edge part = (before (start_place part) (start_place edge) ≡ false) × (before (end_place edge) (end_place part) ≡ false)

by_places : (line : Edge) (a b c d : ℤ) (start end first last : Place) → start ≡ at line a → end ≡ at line b → first ≡ at line c → last ≡ at line d → a ≤ℤ c → d ≤ℤ b
    → (before first start ≡ false) × (before end last ≡ false)
by_places line a b c d start end first last s e f l left right = (
  ap₂ (λ (p q : Place). before p q) f s ∙ upto-along (at line a) (at line c) refl left,
  ap₂ (λ (p q : Place). before p q) e l ∙ upto-along (at line d) (at line b) refl right,
)

within-same : (edge part : Edge) → is_same edge part ≡ true → IsWithin edge part
within-same edge part e =
    let (a, b) = and_parts (int_eq edge.x0 part.x0 && int_eq edge.y0 part.y0) (int_eq edge.x1 part.x1 && int_eq edge.y1 part.y1) e in
    let (x, y) = and_parts (int_eq edge.x0 part.x0) (int_eq edge.y0 part.y0) a in
    let (z, w) = and_parts (int_eq edge.x1 part.x1) (int_eq edge.y1 part.y1) b in
    let is : edge ≡ part =
    ap₂ (λ (p q : ℤ). record { x0 = p; y0 = q; x1 = edge.x1; y1 = edge.y1 }) (equal edge.x0 part.x0 x) (equal edge.y0 part.y0 y)
    ∙ ap₂ (λ (p q : ℤ). record { x0 = part.x0; y0 = part.y0; x1 = p; y1 = q }) (equal edge.x1 part.x1 z) (equal edge.y1 part.y1 w) in
    subst (λ (other : Edge). IsWithin edge other) is (before-irrefl (start_place edge), before-irrefl (end_place edge))

flat_edge : (edge : Edge) → edge.x0 <ℤ edge.x1 → int_eq edge.y0 edge.y1 ≡ true → is_level edge ≡ true
flat_edge edge long level = ap₂ (λ (p q : Bool). p && not q) level (int_eq-false edge.x0 edge.x1 (λ same. omega (arith, ints, same, long)))

within-level : (edge part : Edge) → is_level_part edge part ≡ true → IsWithin edge part
within-level edge part e =
    let (a, b) = and_parts (lt_z edge.x0 edge.x1 && lt_z part.x0 part.x1) ((int_eq edge.y0 edge.y1 && int_eq part.y0 part.y1) && (int_eq edge.y0 part.y0 && (int_le edge.x0 part.x0 && int_le part.x1 edge.x1))) e in
    let (long, short) = and_parts (lt_z edge.x0 edge.x1) (lt_z part.x0 part.x1) a in
    let (c, d) = and_parts (int_eq edge.y0 edge.y1 && int_eq part.y0 part.y1) (int_eq edge.y0 part.y0 && (int_le edge.x0 part.x0 && int_le part.x1 edge.x1)) b in
    let (level, even) = and_parts (int_eq edge.y0 edge.y1) (int_eq part.y0 part.y1) c in
    let (same, f) = and_parts (int_eq edge.y0 part.y0) (int_le edge.x0 part.x0 && int_le part.x1 edge.x1) d in
    let (left, right) = and_parts (int_le edge.x0 part.x0) (int_le part.x1 edge.x1) f in
    let flat = flat_edge edge (lt_is edge.x0 edge.x1 long) level in
    let plain = flat_edge part (lt_is part.x0 part.x1 short) even in
    let line : level_line part.y0 ≡ level_line edge.y0 = ap level_line (sym (equal edge.y0 part.y0 same)) in
    by_places (level_line edge.y0) edge.x0 edge.x1 part.x0 part.x1 (start_place edge) (end_place edge) (start_place part) (end_place part) (start-level edge flat) (end-level edge flat)
    (start-level part plain ∙ ap (λ (l : Edge). at l part.x0) line) (end-level part plain ∙ ap (λ (l : Edge). at l part.x1) line) (le_is edge.x0 part.x0 left) (le_is part.x1 edge.x1 right)

high_edge : (edge : Edge) → edge.y0 <ℤ edge.y1 → is_level edge ≡ false
high_edge edge long = ap (λ (p : Bool). p && not (int_eq edge.x0 edge.x1)) (int_eq-false edge.y0 edge.y1 (λ same. omega (arith, ints, same, long)))

steep_edge : (edge : Edge) → edge.y0 <ℤ edge.y1 → int_eq edge.x0 edge.x1 ≡ true → is_upright edge ≡ true
steep_edge edge long upright = ap₂ (λ (p q : Bool). p && not q) upright (int_eq-false edge.y0 edge.y1 (λ same. omega (arith, ints, same, long)))

within-upright : (edge part : Edge) → is_upright_part edge part ≡ true → IsWithin edge part
within-upright edge part e =
    let (a, b) = and_parts (lt_z edge.y0 edge.y1 && lt_z part.y0 part.y1) ((int_eq edge.x0 edge.x1 && int_eq part.x0 part.x1) && (int_eq edge.x0 part.x0 && (int_le edge.y0 part.y0 && int_le part.y1 edge.y1))) e in
    let (long, short) = and_parts (lt_z edge.y0 edge.y1) (lt_z part.y0 part.y1) a in
    let (c, d) = and_parts (int_eq edge.x0 edge.x1 && int_eq part.x0 part.x1) (int_eq edge.x0 part.x0 && (int_le edge.y0 part.y0 && int_le part.y1 edge.y1)) b in
    let (upright, plumb) = and_parts (int_eq edge.x0 edge.x1) (int_eq part.x0 part.x1) c in
    let (same, f) = and_parts (int_eq edge.x0 part.x0) (int_le edge.y0 part.y0 && int_le part.y1 edge.y1) d in
    let (left, right) = and_parts (int_le edge.y0 part.y0) (int_le part.y1 edge.y1) f in
    let tall = lt_is edge.y0 edge.y1 long in
    let low = lt_is part.y0 part.y1 short in
    let line : upright_line part.x0 ≡ upright_line edge.x0 = ap upright_line (sym (equal edge.x0 part.x0 same)) in
    by_places (upright_line edge.x0) edge.y0 edge.y1 part.y0 part.y1 (start_place edge) (end_place edge) (start_place part) (end_place part) (start-upright edge (high_edge edge tall) (steep_edge edge tall upright))
    (end-upright edge (high_edge edge tall) (steep_edge edge tall upright)) (start-upright part (high_edge part low) (steep_edge part low plumb) ∙ ap (λ (l : Edge). at l part.y0) line)
    (end-upright part (high_edge part low) (steep_edge part low plumb) ∙ ap (λ (l : Edge). at l part.y1) line) (le_is edge.y0 part.y0 left) (le_is part.y1 edge.y1 right)

pub part-within : (edge part : Edge) → part_of edge part ≡ true → (before (start_place part) (start_place edge) ≡ false) × (before (end_place edge) (end_place part) ≡ false)
part-within edge part e = by (or_cases (is_same edge part) (is_level_part edge part || is_upright_part edge part) e)
  where
    more : (is_level_part edge part ≡ true) ⊎ (is_upright_part edge part ≡ true) → IsWithin edge part
    more (inl f) = within-level edge part f
    more (inr f) = within-upright edge part f

    by : (is_same edge part ≡ true) ⊎ ((is_level_part edge part || is_upright_part edge part) ≡ true) → IsWithin edge part
    by (inl f) = within-same edge part f
    by (inr f) = more (or_cases (is_level_part edge part) (is_upright_part edge part) f)
