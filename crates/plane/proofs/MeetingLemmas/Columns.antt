-- Edges that meet have a common end, or a sweep over columns finds them, or one with the axes exchanged does.
use Rattle.std.proofs.Common.{arith, ap, inl, inr, pos, refl, sym, subst, ◌∙◌, ◌⊎◌, ⊎_elim, ℕ, ℤ, Bool, true, false, ◌<◌, ◌≡◌, ◌≢◌, ◌-ℤ◌, ◌*ℤ◌, ◌≤ℤ◌, cond}
use Rattle.std.specs.Int.{int_max, int_min}
use Rattle.std.specs.Ordering.{int_eq}
use Rattle.std.proofs.lemmas.Bool.Decides.{Decides-int_eq}
use Rattle.std.proofs.lemmas.Int.{clamps, ints}
use Rattle.plane.specs.declared.columns.Asked.{Asked}
use Rattle.plane.specs.declared.edge.Edge.{Edge}
use Rattle.plane.specs.declared.point.Point.{Point}
use Rattle.plane.specs.Columns.Asked.{Reaches}
use Rattle.plane.specs.Ends.{end_of, start_of}
use Rattle.plane.specs.Meet.Columns.{HaveCommonEnd, IsEndPoint, ReachesSome, asked_about, asked_first, asked_last, exchanged}
use Rattle.plane.specs.Meet.Crosses.{cross}
use Rattle.plane.specs.Meet.Edges.{IsOf, Meet, RationalPoint}
use Rattle.plane.specs.Meet.Kinds.{HasEndOf, HasPoint, IsAt, IsEnd}
use Rattle.plane.specs.SweepLine.Crossings.{Cross}
use Rattle.plane.proofs.PointLemmas.{whole_point as point_at}
use Rattle.plane.proofs.MeetLemmas.Along.{Along, Lies, along-flipped, along_comm, end_on_line, goes, lies, of-flipped, over, place, same_or_apart, start_on_line, surrounded}
use Rattle.plane.proofs.MeetLemmas.Along.{whole_point as point_of}
use Rattle.plane.proofs.MeetingLemmas.Crossing.{cross-between_ends, end-or_not, mean-nowhere, reaches-between_ends, reaches-inside}
use Rattle.plane.proofs.MeetLemmas.Identities.{identity, minus, number, scaled, times, unscaled}
use Rattle.plane.proofs.MeetLemmas.Kinds.{along-of_meet, has_end-of_point}
use Rattle.plane.proofs.MeetLemmas.Shares.{whole}

-- What a sweep finds of two edges.
abbrev pub Found : Edge → Edge → Type 0
Found one other = Cross one other ⊎ (ReachesSome one other ⊎ ReachesSome other one)

-- The one sweep finds them, or the other one does, or they have a common end.
abbrev pub Told : Edge → Edge → Type 0
Told one other = (Found one other ⊎ Found (exchanged one) (exchanged other)) ⊎ HaveCommonEnd one other

-- ---- an end of the one that is of the other

-- What is asked about the edge at this point of it.
record AskedAt (edge : Edge) (x y : ℤ) : Type 0 where
  asked : Asked
  about : (other : Edge) → Reaches other asked → ReachesSome other edge
  at : asked.x ≡ x
  low : asked.low ≤ℤ y
  high : y ≤ℤ asked.high

first_at : (edge : Edge) (upright : Bool) (asked : Asked) → asked ≡ cond upright (asked_about edge) (record { x = edge.x0; low = edge.y0; high = edge.y0 })
    → (asked.x ≡ edge.x0) × (asked.low ≤ℤ edge.y0) × (edge.y0 ≤ℤ asked.high)
first_at edge true asked is =
    let low : asked.low ≡ int_min edge.y0 edge.y1 = ap (λ (a : Asked). a.low) is in
    let high : asked.high ≡ int_max edge.y0 edge.y1 = ap (λ (a : Asked). a.high) is in
    (ap (λ (a : Asked). a.x) is, omega (arith, ints, clamps, low), omega (arith, ints, clamps, high))
first_at edge false asked is =
    let low : asked.low ≡ edge.y0 = ap (λ (a : Asked). a.low) is in
    let high : asked.high ≡ edge.y0 = ap (λ (a : Asked). a.high) is in
    (ap (λ (a : Asked). a.x) is, omega (arith, ints, low), omega (arith, ints, high))

asked_at : (edge : Edge) (point : Point) → IsEndPoint edge point → AskedAt edge point.x point.y
asked_at edge point (inl start) =
    let (at, low, high) = first_at edge (int_eq edge.x0 edge.x1) (asked_first edge) refl in
    let x : point.x ≡ edge.x0 = ap (λ (p : Point). p.x) start in
    let y : point.y ≡ edge.y0 = ap (λ (p : Point). p.y) start in
    record {
      asked = asked_first edge;
      about = λ other reaches. inl reaches;
      at = at ∙ sym x;
      low = omega (arith, ints, low, y);
      high = omega (arith, ints, high, y);
    }
asked_at edge point (inr end) =
    let x : point.x ≡ edge.x1 = ap (λ (p : Point). p.x) end in
    let y : point.y ≡ edge.y1 = ap (λ (p : Point). p.y) end in
    record {
      asked = asked_last edge;
      about = λ other reaches. inr reaches;
      at = sym x;
      low = omega (arith, ints, y);
      high = omega (arith, ints, y);
    }

-- two numbers whose multiples are the same
same_number : (n : ℕ) (p a b : ℤ) → 0 < n → p ≡ (pos n *ℤ a) → p ≡ (pos n *ℤ b) → a ≡ b
same_number n p a b some first second =
    let upto = unscaled n a b some (omega (arith, ints, first, second)) in
    let from = unscaled n b a some (omega (arith, ints, first, second)) in
    omega (arith, ints, upto, from)

same_at : (point : RationalPoint) (x y : ℤ) (whole_one : Point) → IsAt point whole_one.x whole_one.y → IsAt point x y → whole_one ≡ point_at x y
same_at point x y whole_one at at_too =
    let same_x : whole_one.x ≡ x = same_number point.n point.x whole_one.x x point.positive at.x_is at_too.x_is in
    let same_y : whole_one.y ≡ y = same_number point.n point.y whole_one.y y point.positive at.y_is at_too.y_is in
    ap (λ (a : ℤ). point_at a whole_one.y) same_x ∙ ap (point_at x) same_y

-- a whole point that is an end
end_there : (edge : Edge) (point : RationalPoint) (whole_one : Point) → IsAt point whole_one.x whole_one.y → IsEnd edge point → IsEndPoint edge whole_one
end_there edge point whole_one at (inl start) = inl (same_at point edge.x0 edge.y0 whole_one at start)
end_there edge point whole_one at (inr end) = inr (same_at point edge.x1 edge.y1 whole_one at end)

-- an edge that isn't upright reaches what is asked at a whole point of it, or ends there
reaches-or_ends : (edge other : Edge) (whole_one : Point) → edge.x0 ≢ edge.x1 → IsEndPoint other whole_one → HasPoint edge whole_one.x whole_one.y → ReachesSome edge other ⊎ IsEndPoint edge whole_one
reaches-or_ends edge other whole_one wide ends (point, of, at) =
    elim (end-or_not edge point) [
      | inl end ↦ inr (end_there edge point whole_one at end)
      | inr none ↦
          let asks = asked_at other whole_one ends in
          let low = scaled point.n asks.asked.low whole_one.y asks.low in
          let high = scaled point.n whole_one.y asks.asked.high asks.high in
          let level = at.y_is in
          inl (asks.about edge (reaches-inside edge point asks.asked wide of none (at.x_is ∙ ap (λ z. pos point.n *ℤ z) (sym asks.at)) (omega (arith, ints, low, level)) (omega (arith, ints, high, level))))
    ]

-- the same in a plane whose x and y have changed places
end-turned : (edge : Edge) (point : Point) → IsEndPoint edge point → IsEndPoint (exchanged edge) (point_at point.y point.x)
end-turned edge point (inl start) = inl (ap (λ (p : Point). point_at p.y p.x) start)
end-turned edge point (inr end) = inr (ap (λ (p : Point). point_at p.y p.x) end)

end-turned_back : (edge : Edge) (point : Point) → IsEndPoint (exchanged edge) (point_at point.y point.x) → IsEndPoint edge point
end-turned_back edge point (inl start) = inl (ap (λ (p : Point). point_at p.y p.x) start)
end-turned_back edge point (inr end) = inr (ap (λ (p : Point). point_at p.y p.x) end)

has_point-turned : (edge : Edge) (x y : ℤ) → HasPoint edge x y → HasPoint (exchanged edge) y x
has_point-turned edge x y (point, of, at) = (over point, of-flipped (exchanged edge) point of, record { x_is = at.y_is; y_is = at.x_is })

-- a point has no other points
end-of_point : (edge : Edge) (point : RationalPoint) → edge.x0 ≡ edge.x1 → edge.y0 ≡ edge.y1 → IsOf edge point → IsEnd edge point
end-of_point edge point same level (a, at) = inl (record {
  x_is = at.x ∙ mean-nowhere (pos point.n) (pos a) edge.x0 edge.x1 same;
  y_is = at.y ∙ mean-nowhere (pos point.n) (pos a) edge.y0 edge.y1 level;
})

told-end : (edge other : Edge) (whole_one : Point) → IsEndPoint other whole_one → HasPoint edge whole_one.x whole_one.y → (ReachesSome edge other ⊎ ReachesSome (exchanged edge) (exchanged other)) ⊎ HaveCommonEnd edge other
told-end edge other whole_one ends has =
    elim (goes edge) [
      | inl (inl wide) ↦ ⊎_elim (λ reaches. inl (inl reaches)) (λ end. inr (whole_one, end, ends)) (reaches-or_ends edge other whole_one wide ends has)
      | inl (inr tall) ↦
          ⊎_elim (λ reaches. inl (inr reaches)) (λ end. inr (whole_one, end-turned_back edge whole_one end, ends))
          (reaches-or_ends (exchanged edge) (exchanged other) (point_at whole_one.y whole_one.x) tall (end-turned other whole_one ends) (has_point-turned edge whole_one.x whole_one.y has))
      | inr point ↦ inr (whole_one, end_there edge has.0 whole_one has.2 (end-of_point edge has.0 point.0 point.1 has.1), ends)
    ]

told-has_end : (one other : Edge) → HasEndOf one other → (ReachesSome one other ⊎ ReachesSome (exchanged one) (exchanged other)) ⊎ HaveCommonEnd one other
told-has_end one other (inl has) = told-end one other (start_of other) (inl refl) has
told-has_end one other (inr has) = told-end one other (end_of other) (inr refl) has

told_there : (one other : Edge) → HasEndOf one other → Told one other
told_there one other has = ⊎_elim (λ found. inl (⊎_elim (λ reaches. inl (inr (inl reaches))) (λ reaches. inr (inr (inl reaches))) found)) (λ common. inr common) (told-has_end one other has)

told_back : (one other : Edge) → HasEndOf other one → Told one other
told_back one other has =
    ⊎_elim (λ found. inl (⊎_elim (λ reaches. inl (inr (inr reaches))) (λ reaches. inr (inr (inr reaches))) found)) (λ common. let (point, first, second) = common in inr (point, second, first)) (told-has_end other one has)

-- ---- edges along one line

has_point-lies : (edge : Edge) (x y : ℤ) → Lies edge x y → HasPoint edge x y
has_point-lies edge x y lies = (point_of lies.n lies.some x y, lies.of_edge, record { x_is = refl; y_is = refl })

end_along_x : (one other : Edge) → one.x0 ≢ one.x1 → Along one other → HasEndOf one other ⊎ HasEndOf other one
end_along_x one other apart along =
    let back = along_comm one other along in
    elim (place other.x0 (int_min one.x0 one.x1) (int_max one.x0 one.x1)) [
      | inl within ↦ inl (inl (has_point-lies one other.x0 other.y0 (lies one other.x0 other.y0 apart within.0 within.1 (start_on_line other one back))))
      | inr outside ↦ elim (place other.x1 (int_min one.x0 one.x1) (int_max one.x0 one.x1)) [
        | inl within ↦ inl (inr (has_point-lies one other.x1 other.y1 (lies one other.x1 other.y1 apart within.0 within.1 (end_on_line other one back))))
        | inr other_outside ↦
            let around = surrounded one.x0 one.x1 other.x0 other.x1 outside other_outside along.boxes.x in
            inr (inl (has_point-lies other one.x0 one.y0 (lies other one.x0 one.y0 around.0 around.1 around.2 (start_on_line one other along))))
      ]
    ]

has_end-turned_back : (one other : Edge) → HasEndOf (exchanged one) (exchanged other) → HasEndOf one other
has_end-turned_back one other (inl has) = inl (has_point-turned (exchanged one) other.y0 other.x0 has)
has_end-turned_back one other (inr has) = inr (has_point-turned (exchanged one) other.y1 other.x1 has)

end_along : (one other : Edge) → Meet one other → whole one other ≡ pos 0 → HasEndOf one other ⊎ HasEndOf other one
end_along one other meet parallel =
    let along = along-of_meet one other meet parallel in
    elim (goes one) [
      | inl (inl wide) ↦ end_along_x one other wide along
      | inl (inr tall) ↦ ⊎_elim (λ has. inl (has_end-turned_back one other has)) (λ has. inr (has_end-turned_back other one has)) (end_along_x (exchanged one) (exchanged other) tall (along-flipped one other along))
      | inr point ↦ let (common, of_one, of_other) = meet in inr (has_end-of_point other one common of_other (end-of_point one common point.0 point.1 of_one))
    ]

-- ---- edges that aren't parallel

-- two upright edges are parallel
upright_parallel : (one other : Edge) → one.x0 ≡ one.x1 → other.x0 ≡ other.x1 → whole one other ≡ pos 0
upright_parallel one other same other_same =
    let nowhere : (one.x1 -ℤ one.x0) ≡ pos 0 = omega (arith, ints, same) in
    let other_nowhere : (other.x1 -ℤ other.x0) ≡ pos 0 = omega (arith, ints, other_same) in
    ap (λ w. cross w (one.y1 -ℤ one.y0) (other.x1 -ℤ other.x0) (other.y1 -ℤ other.y0)) nowhere
    ∙ ap (λ w. cross (pos 0) (one.y1 -ℤ one.y0) w (other.y1 -ℤ other.y0)) other_nowhere
    ∙ identity (minus (times (number (pos 0)) (minus (number other.y1) (number other.y0))) (times (minus (number one.y1) (number one.y0)) (number (pos 0)))) (number (pos 0)) (omega arith)

asked_upright : (edge : Edge) → edge.x0 ≡ edge.x1 → asked_about edge ≡ asked_first edge
asked_upright edge same = ap (λ (b : Bool). cond b (asked_about edge) (record { x = edge.x0; low = edge.y0; high = edge.y0 })) (sym ((Decides-int_eq edge.x0 edge.x1).1 same))

reaches_upright : (upright other : Edge) (point : RationalPoint) → upright.x0 ≡ upright.x1 → other.x0 ≢ other.x1 → IsOf upright point → IsOf other point → ¬ (IsEnd other point) → ReachesSome other upright
reaches_upright upright other point same wide of_upright of_other none =
    inl (subst (Reaches other) (asked_upright upright same) (reaches-between_ends upright other point same wide of_upright of_other none))

told_inside : (one other : Edge) (point : RationalPoint) → whole one other ≢ pos 0 → IsOf one point → IsOf other point → ¬ (IsEnd one point) → ¬ (IsEnd other point) → Found one other
told_inside one other point slanted of_one of_other none none_other =
    elim (same_or_apart one.x0 one.x1) [
      | inl same ↦ elim (same_or_apart other.x0 other.x1) [
        | inl other_same ↦ absurd (slanted (upright_parallel one other same other_same))
        | inr other_wide ↦ inr (inr (reaches_upright one other point same other_wide of_one of_other none_other))
      ]
      | inr wide ↦ elim (same_or_apart other.x0 other.x1) [
        | inl other_same ↦ inr (inl (reaches_upright other one point other_same wide of_other of_one none))
        | inr other_wide ↦ inl (cross-between_ends one other point wide other_wide slanted of_one of_other none none_other)
      ]
    ]

-- ---- any edges

pub told-meeting : (one other : Edge) → Meet one other → Told one other
told-meeting one other meet =
    let (point, of_one, of_other) = meet in
    elim (same_or_apart (whole one other) (pos 0)) [
      | inl parallel ↦ ⊎_elim (told_there one other) (told_back one other) (end_along one other meet parallel)
      | inr slanted ↦ elim (end-or_not one point) [
        | inl end ↦ told_back one other (has_end-of_point other one point of_other end)
        | inr none ↦ elim (end-or_not other point) [
          | inl end ↦ told_there one other (has_end-of_point one other point of_one end)
          | inr none_other ↦ inl (inl (told_inside one other point slanted of_one of_other none none_other))
        ]
      ]
    ]
