-- Sections of edges: what an edge passes lies in one of its sections, and the stops at points are told by these.
use Rattle.std.proofs.Common.{◌≡◌, ◌⊎◌, inl, inr, ℕ, zero, suc, ◌+◌, ◌*◌, ◌<◌, ◌≤◌, ℤ, pos, ◌+ℤ◌, ◌-ℤ◌, ◌*ℤ◌, ◌≤ℤ◌, List, [], ◌∷◌, ◌++◌, Some, length, refl, sym, ap, ◌∙◌, subst, arith}
use Rattle.std.specs.Int.{int_min, int_max}
use Rattle.std.specs.List.{Contains, slice_get}
use Rattle.std.proofs.Math.Nat.{mul-le-mul_right}
use Rattle.std.proofs.lemmas.Bool.{cases_eq, cases_lt}
use Rattle.std.proofs.lemmas.Int.{by_lt_z, clamps, ints}
use Rattle.std.proofs.lemmas.List.Elements.{Contains-append_left, Contains-push, Contains-push_cases}
use Rattle.std.proofs.lemmas.Option.{same_Some, slice_get_within}
use Rattle.plane.specs.declared.edge.Edge.{Edge}
use Rattle.plane.specs.declared.point.Point.{Point}
use Rattle.plane.specs.Ends.{edge_between}
use Rattle.plane.specs.Gains.{GainsThese, IsOfSome}
use Rattle.plane.specs.Meet.Edges.{IsAtShare, RationalPoint}
use Rattle.plane.specs.Pairs.Pairs.{ArePairsBetween}
use Rattle.plane.proofs.GainsLemmas.{gains-only, gains-same, held-at, place-of}
use Rattle.noding.specs.Chains.{Passes, Upto, UptoOn}
use Rattle.noding.specs.Close.{InBox, PassesInside}
use Rattle.noding.specs.Rounding.{RoundsTo}
use Rattle.noding.specs.Sections.{AreSections, GainsParts, IsHeld, IsPartOf, IsStopIn, PassesHere}
use Rattle.noding.specs.Stops.{IsStopAmong, stop_of}
use Rattle.noding.specs.declared.sections.Section.{Section}
use Rattle.noding.specs.declared.stops.Stop.{Stop}
use Rattle.noding.proofs.SnapLemmas.Along.{Passes-in_box, Upto-by_shares}

-- ---- the box of a section

between_on : (from to c p d : ℤ) → UptoOn from to c p → UptoOn from to p d → (int_min c d ≤ℤ p) × (p ≤ℤ int_max c d)
between_on from to c p d first second =
    by_lt_z from to
    (λ up.
    let low = first.rising (omega (arith, ints)) in
    let high = second.rising (omega (arith, ints)) in (omega (arith, ints, clamps, low), omega (arith, ints, clamps, high)))
    (λ down.
    let low = second.falling down in
    let high = first.falling down in (omega (arith, ints, clamps, low), omega (arith, ints, clamps, high)))

-- what lies between two points along an edge lies in the box of these
between-in_box : (edge : Edge) (c d : Point) (x y : ℤ) → Upto edge c.x c.y x y → Upto edge x y d.x d.y → InBox (edge_between c d) x y
between-in_box edge c d x y first second =
    let along_x = between_on edge.x0 edge.x1 c.x x d.x first.along_x second.along_x in
    let along_y = between_on edge.y0 edge.y1 c.y y d.y first.along_y second.along_y in record {
      left = along_x.0;
      right = along_x.1;
      low = along_y.0;
      high = along_y.1;
    }

module _ (edge : Edge) (all : ℕ) (some : 0 < all) where
  -- the point that lies so many of all parts of the way along the edge
  abbrev point_at : ℕ → RationalPoint
  point_at part = record {
    n = all;
    x = (pos all *ℤ edge.x0) +ℤ (pos part *ℤ (edge.x1 -ℤ edge.x0));
    y = (pos all *ℤ edge.y0) +ℤ (pos part *ℤ (edge.y1 -ℤ edge.y0));
    positive = some;
  }

  at_share : (part : ℕ) → part ≤ all → IsAtShare edge (point_at part) part
  at_share part within = record { share = within; x = refl; y = refl }

  rounded : (part : ℕ) (c : Point) → IsPartOf edge part all c → RoundsTo (point_at part) c.x c.y
  rounded part c is = record { along_x = is.along_x; along_y = is.along_y }

  -- what the edge passes on this part of the way lies in the part's box
  part-in_box : (part : ℕ) (c d : Point) → part < all → IsPartOf edge part all c → IsPartOf edge (part + 1) all d → (point : RationalPoint) (a : ℕ) (x y : ℤ) → IsAtShare edge point a → RoundsTo point x y
      → part * point.n ≤ a * all → a * all ≤ (part + 1) * point.n → InBox (edge_between c d) x y
  part-in_box part c d within from to point a x y at rounds first second =
      between-in_box edge c d x y
      (Upto-by_shares edge c.x c.y x y (point_at part) point part a (at_share part (omega (arith, within))) at (rounded part c from) rounds first)
      (Upto-by_shares edge x y d.x d.y point (point_at (part + 1)) a (part + 1) at (at_share (part + 1) (omega (arith, within))) rounds (rounded (part + 1) d to) second)

-- ---- the sections of an edge, part by part

pub parts-none : (place : ℕ) (edge : Edge) (all : ℕ) (before : List Section) → GainsParts place edge 0 all before before
parts-none place edge all before = record {
  keeps = λ section held. held;
  of = λ section held. inl held;
  each = λ point a x y at rounds some order. absurd (omega (arith, some));
}

some_part : (part n m : ℕ) → m < part * n → 0 < part
some_part zero n m less = absurd (omega (arith, less))
some_part (suc part) n m less = omega arith

IsHeld-kept : (place : ℕ) (edge : Edge) (x y : ℤ) (now after : List Section) → ((section : Section) → Contains now section → Contains after section) → IsHeld place edge x y now → IsHeld place edge x y after
IsHeld-kept place edge x y now after keeps held = record {
  section = held.section;
  held = keeps held.section held.held;
  at = held.at;
  of = held.of;
  here = held.here;
}

pub parts-more : (place : ℕ) (edge : Edge) (part all : ℕ) (c d : Point) (before now after : List Section) → 0 < all → part < all → IsPartOf edge part all c → IsPartOf edge (part + 1) all d
    → after ≡ now ++ record { place = place; edge = edge; chord = edge_between c d } ∷ [] → GainsParts place edge part all before now → GainsParts place edge (part + 1) all before after
parts-more place edge part all c d before now after some within from to is gained = record {
  keeps = λ section held. kept section (gained.keeps section held);
  of = λ section held. cases section (Contains-push_cases now last section (subst (λ (list : List Section). Contains list section) is held));
  each = λ point a x y at rounds more order. told point a x y at rounds order (cases_lt (a * all) (part * point.n));
}
  where
    last : Section
    last = record { place = place; edge = edge; chord = edge_between c d }

    kept : (section : Section) → Contains now section → Contains after section
    kept section held = subst (λ (list : List Section). Contains list section) (sym is) (Contains-append_left now (last ∷ []) section held)

    cases : (section : Section) → Contains now section ⊎ (last ≡ section) → Contains before section ⊎ (section.place ≡ place) × (section.edge ≡ edge)
    cases section (inl held) = gained.of section held
    cases section (inr same) = inr (ap (λ (s : Section). s.place) (sym same), ap (λ (s : Section). s.edge) (sym same))

    told : (point : RationalPoint) (a : ℕ) (x y : ℤ) → IsAtShare edge point a → RoundsTo point x y → a * all ≤ (part + 1) * point.n → (a * all < part * point.n) ⊎ (part * point.n ≤ a * all) → IsHeld place edge x y after
    told point a x y at rounds order (inl less) = IsHeld-kept place edge x y now after kept (gained.each point a x y at rounds (some_part part point.n (a * all) less) (omega (arith, less)))
    told point a x y at rounds order (inr upto) = record {
      section = last;
      held = subst (λ (list : List Section). Contains list last) (sym is) (Contains-push now last);
      at = refl;
      of = refl;
      here = part-in_box edge all some part c d within from to point a x y at rounds upto order;
    }

-- the whole edge is its one section
pub parts-one : (place : ℕ) (edge : Edge) (all : ℕ) (before after : List Section) → after ≡ before ++ record { place = place; edge = edge; chord = edge } ∷ [] → GainsParts place edge all all before after
parts-one place edge all before after is = record {
  keeps = λ section held. subst (λ (list : List Section). Contains list section) (sym is) (Contains-append_left before (last ∷ []) section held);
  of = λ section held. cases section (Contains-push_cases before last section (subst (λ (list : List Section). Contains list section) is held));
  each = λ point a x y at rounds some order. record {
    section = last;
    held = subst (λ (list : List Section). Contains list last) (sym is) (Contains-push before last);
    at = refl;
    of = refl;
    here = Passes-in_box edge x y (point, (a, at), rounds);
  };
}
  where
    last : Section
    last = record { place = place; edge = edge; chord = edge }

    cases : (section : Section) → Contains before section ⊎ (last ≡ section) → Contains before section ⊎ (section.place ≡ place) × (section.edge ≡ edge)
    cases section (inl held) = inl held
    cases section (inr same) = inr (ap (λ (s : Section). s.place) (sym same), ap (λ (s : Section). s.edge) (sym same))

-- all of them
pub parts-all : (place : ℕ) (edge : Edge) (part all : ℕ) (before after : List Section) → all ≤ part → GainsParts place edge part all before after → GainsParts place edge all all before after
parts-all place edge part all before after upto gained = record {
  keeps = gained.keeps;
  of = gained.of;
  each = λ point a x y at rounds some order. (let wide : all * point.n ≤ part * point.n = mul-le-mul_right point.n upto in gained.each point a x y at rounds (omega (arith, some, upto)) (omega (arith, order, wide)));
}

-- ---- the sections of edges, edge by edge

pub sections-none : (edges : List Edge) → AreSections edges 0 []
sections-none edges = record {
  of = λ section (k, within, is). absurd (omega (arith, within));
  each = λ place edge x y below stands passes. absurd (omega (arith, below));
}

pub sections-more : (edges : List Edge) (k : ℕ) (edge : Edge) (all : ℕ) (now after : List Section) → 0 < all → slice_get edges k ≡ Some edge → AreSections edges k now → GainsParts k edge all all now after → AreSections edges (k + 1) after
sections-more edges k edge all now after some stands are gained = record {
  of = λ section held. cases section (gained.of section held);
  each = λ place other x y below there passes. told place other x y below there passes (cases_eq place k);
}
  where
    cases : (section : Section) → Contains now section ⊎ (section.place ≡ k) × (section.edge ≡ edge) → slice_get edges section.place ≡ Some section.edge
    cases section (inl held) = are.of section held
    cases section (inr (at, of)) = ap (slice_get edges) at ∙ stands ∙ ap Some (sym of)

    told : (place : ℕ) (other : Edge) (x y : ℤ) → place < k + 1 → slice_get edges place ≡ Some other → Passes other x y → (place ≡ k) ⊎ (place ≡ k → ⊥) → IsHeld place other x y after
    told place other x y below there passes (inr apart) = IsHeld-kept place other x y now after gained.keeps (are.each place other x y (omega (arith, below, apart)) there passes)
    told place other x y below there (point, (a, at), rounds) (inl same) =
        let edge_is : edge ≡ other = same_Some _ _ (sym stands ∙ ap (slice_get edges) (sym same) ∙ there) in
        let at_edge : IsAtShare edge point a = subst (λ (e : Edge). IsAtShare e point a) (sym edge_is) at in
        let upto : a * all ≤ point.n * all = mul-le-mul_right all at.share in
        let held : IsHeld k edge x y after = gained.each point a x y at_edge rounds some (omega (arith, upto)) in
        subst (λ (place : ℕ). IsHeld place other x y after) (sym same) (subst (λ (e : Edge). IsHeld k e x y after) edge_is held)

pub sections-all : (edges : List Edge) (k : ℕ) (sections : List Section) → length edges ≤ k → AreSections edges k sections → AreSections edges (length edges) sections
sections-all edges k sections upto are = record {
  of = are.of;
  each = λ place edge x y below stands passes. are.each place edge x y (omega (arith, below, upto)) stands passes;
}

-- ---- stops at points

pub gains-in : (sections : List Section) (points : List Point) (pair : ℕ × ℕ) (section : Section) (point : Point) (before after : List Stop) → slice_get sections pair.0 ≡ Some section → slice_get points pair.1 ≡ Some point
    → after ≡ before ++ stop_of section.place section.edge point.x point.y ∷ [] → GainsThese (IsStopIn sections points pair) before after
gains-in sections points pair section point before after first second =
    gains-only (IsStopIn sections points pair) before after (stop_of section.place section.edge point.x point.y)
    (record { section = section; point = point; first = first; second = second; is = refl })
    (λ stop is.
    let section_is : is.section ≡ section = same_Some _ _ (sym is.first ∙ first) in
    let point_is : is.point ≡ point = same_Some _ _ (sym is.second ∙ second) in
    is.is ∙ ap (λ (s : Section). stop_of s.place s.edge is.point.x is.point.y) section_is ∙ ap (λ (p : Point). stop_of section.place section.edge p.x p.y) point_is)

-- the stops of the pairs of a section and a point in it that its edge passes are the stops at these points
pub gains-here : (edges : List Edge) (sections : List Section) (points : List Point) (passes : List (ℕ × ℕ)) (before after : List Stop) → AreSections edges (length edges) sections → ArePairsBetween PassesHere sections points passes
    → GainsThese (IsOfSome (IsStopIn sections points) passes) before after → GainsThese (IsStopAmong edges points) before after
gains-here edges sections points passes before after are pairs = gains-same (IsOfSome (IsStopIn sections points) passes) (IsStopAmong edges points) before after to from
  where
    to : (stop : Stop) → IsOfSome (IsStopIn sections points) passes stop → IsStopAmong edges points stop
    to stop ((i, j), held, is) =
        let between = (pairs.exact i j).0 held in
        let section_is : between.one ≡ is.section = same_Some _ _ (sym between.first ∙ is.first) in
        let point_is : between.other ≡ is.point = same_Some _ _ (sym between.second ∙ is.second) in
        let passed : PassesInside is.section.edge is.point.x is.point.y =
        subst (λ (s : Section). PassesInside s.edge is.point.x is.point.y) section_is (subst (λ (p : Point). PassesInside between.one.edge p.x p.y) point_is between.meet.1) in
        record {
          place = is.section.place;
          edge = is.section.edge;
          point = is.point;
          stands = are.of is.section (held-at sections i is.section is.first);
          held = held-at points j is.point is.second;
          along = (passed, is.is);
        }

    from : (stop : Stop) → IsStopAmong edges points stop → IsOfSome (IsStopIn sections points) passes stop
    from stop is =
        let held = are.each is.place is.edge is.point.x is.point.y (slice_get_within edges is.place is.edge is.stands) is.stands is.along.0.0 in
        let (i, first) = place-of sections held.section held.held in
        let (j, second) = place-of points is.point is.held in
        let passed : PassesInside held.section.edge is.point.x is.point.y = subst (λ (e : Edge). PassesInside e is.point.x is.point.y) (sym held.of) is.along.0 in (
          (i, j),
          (pairs.exact i j).1 (record { one = held.section; other = is.point; first = first; second = second; meet = (held.here, passed) }),
          record {
            section = held.section;
            point = is.point;
            first = first;
            second = second;
            is = is.along.1 ∙ ap (λ (p : ℕ). stop_of p is.edge is.point.x is.point.y) (sym held.at) ∙ ap (λ (e : Edge). stop_of held.section.place e is.point.x is.point.y) (sym held.of);
          },
        )
