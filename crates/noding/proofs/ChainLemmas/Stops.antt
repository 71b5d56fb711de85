-- The stops of edges at hot points, once they are sorted.
use Rattle.std.proofs.Common.{◌≡◌, ◌≢◌, ◌⊎◌, ◌↔◌, inl, inr, ℕ, ℤ, pos, ◌-ℤ◌, ◌≤ℤ◌, Bool, true, false, cond, List, [], ◌∷◌, ◌++◌, Some, get_or, refl, sym, ap, ap₂, ◌∙◌, subst, ⊎_elim, arith}
use Rattle.std.specs.Int.Signed.{lt_z}
use Rattle.std.specs.List.{AllPairs, Contains, slice_get}
use Rattle.std.proofs.lemmas.Bool.{cases_eq, cases_lt}
use Rattle.std.proofs.lemmas.Int.{ints}
use Rattle.std.proofs.lemmas.List.Elements.{Contains-get_or}
use Rattle.std.proofs.lemmas.Option.{same_Some}
use Rattle.plane.specs.declared.edge.Edge.{Edge}
use Rattle.plane.specs.declared.point.Point.{Point}
use Rattle.plane.specs.Pairs.Pairs.{ArePairs, ArePairsBetween}
use Rattle.noding.specs.Chains.{IsEnd, IsHot, Passes, Upto, UptoOn}
use Rattle.noding.specs.Close.{ComeClose, PassesEnd, PassesInside, PassesPoint}
use Rattle.plane.proofs.PointLemmas.{whole_point}
use Rattle.noding.specs.Crossings.{AreHot}
use Rattle.plane.specs.Gains.{GainsThese, HaveSame, IsOfSome}
use Rattle.noding.specs.Stops.{AreStops, IsBefore, IsStop, IsStopAlong, IsStopAmong, IsStopAt, IsStopAtEnd, IsStopCrossed, IsStopOfPair, point_of, reflected, stop_of}
use Rattle.noding.specs.declared.stops.Stop.{Stop}
use Rattle.noding.proofs.ChainLemmas.Crossings.{crossing-hot, hot_cases}
use Rattle.plane.proofs.GainsLemmas.{gains-join, gains-only, gains-same, held-at, place-of}
use Rattle.noding.proofs.SnapLemmas.Along.{Passes-ordered}

-- ---- along an edge

-- reflected twice a number is itself
pub reflected-twice : (from to number : ℤ) → reflected from to (reflected from to number) ≡ number
reflected-twice from to number = go (lt_z to from)
  where
    go : (down : Bool) → cond down ((pos 0 -ℤ pos 1) -ℤ cond down ((pos 0 -ℤ pos 1) -ℤ number) number) (cond down ((pos 0 -ℤ pos 1) -ℤ number) number) ≡ number
    go true = omega (arith, ints)
    go false = refl

reflected-same : (from to c d : ℤ) → reflected from to c ≡ reflected from to d → c ≡ d
reflected-same from to c d same = sym (reflected-twice from to c) ∙ ap (reflected from to) same ∙ reflected-twice from to d

-- what isn't behind on the way stays so when both are reflected
reflected-upto : (from to c d : ℤ) → UptoOn from to c d → reflected from to c ≤ℤ reflected from to d
reflected-upto from to c d upto = go (lt_z to from) refl
  where
    go : (down : Bool) → lt_z to from ≡ down → cond down ((pos 0 -ℤ pos 1) -ℤ c) c ≤ℤ cond down ((pos 0 -ℤ pos 1) -ℤ d) d
    go true is = let back = upto.falling (omega (arith, ints, is)) in omega (arith, ints, back)
    go false is = upto.rising (omega (arith, ints, is))

-- the point of a stop
pub point-of_stop : (place : ℕ) (edge : Edge) (x y : ℤ) → point_of edge (stop_of place edge x y) ≡ record { x = x; y = y }
point-of_stop place edge x y = let along_x = reflected-twice edge.x0 edge.x1 x in let along_y = reflected-twice edge.y0 edge.y1 y in cc

-- of two stops at one edge the point of the one that comes before isn't behind, along the edge
pub upto-before : (edge : Edge) (one other : Stop) → one.place ≡ other.place → IsBefore one other → Passes edge (point_of edge one).x (point_of edge one).y → Passes edge (point_of edge other).x (point_of edge other).y
    → Upto edge (point_of edge one).x (point_of edge one).y (point_of edge other).x (point_of edge other).y
upto-before edge one other same before passes other_passes =
    go (Passes-ordered edge (point_of edge one).x (point_of edge one).y (point_of edge other).x (point_of edge other).y passes other_passes) before
  where
    there : Upto edge (point_of edge one).x (point_of edge one).y (point_of edge other).x (point_of edge other).y → Upto edge (point_of edge one).x (point_of edge one).y (point_of edge other).x (point_of edge other).y
    there upto = upto

    back_x : Upto edge (point_of edge other).x (point_of edge other).y (point_of edge one).x (point_of edge one).y → other.along_x ≤ℤ one.along_x
    back_x upto =
        let twice = reflected-twice edge.x0 edge.x1 one.along_x in
        let other_twice = reflected-twice edge.x0 edge.x1 other.along_x in
        let reflected_upto = reflected-upto edge.x0 edge.x1 (point_of edge other).x (point_of edge one).x upto.along_x in
        subst (λ (a : ℤ). a ≤ℤ one.along_x) other_twice (subst (λ (b : ℤ). reflected edge.x0 edge.x1 (point_of edge other).x ≤ℤ b) twice reflected_upto)

    back_y : Upto edge (point_of edge other).x (point_of edge other).y (point_of edge one).x (point_of edge one).y → other.along_y ≤ℤ one.along_y
    back_y upto =
        let twice = reflected-twice edge.y0 edge.y1 one.along_y in
        let other_twice = reflected-twice edge.y0 edge.y1 other.along_y in
        let reflected_upto = reflected-upto edge.y0 edge.y1 (point_of edge other).y (point_of edge one).y upto.along_y in
        subst (λ (a : ℤ). a ≤ℤ one.along_y) other_twice (subst (λ (b : ℤ). reflected edge.y0 edge.y1 (point_of edge other).y ≤ℤ b) twice reflected_upto)

    go : Upto edge (point_of edge one).x (point_of edge one).y (point_of edge other).x (point_of edge other).y ⊎ Upto edge (point_of edge other).x (point_of edge other).y (point_of edge one).x (point_of edge one).y → IsBefore one other
        → Upto edge (point_of edge one).x (point_of edge one).y (point_of edge other).x (point_of edge other).y
    go (inl upto) before = upto
    go (inr back) (inl lower) = absurd (omega (arith, same, lower))
    go (inr back) (inr (at, inl less)) = let x = back_x back in absurd (omega (arith, ints, x, less))
    go (inr back) (inr (at, inr (level, less))) = let y = back_y back in absurd (omega (arith, ints, y, less))

-- and it is another point
pub differ-before : (edge : Edge) (one other : Stop) → one.place ≡ other.place → IsBefore one other → point_of edge one ≢ point_of edge other
differ-before edge one other same before is = go before
  where
    along_x : one.along_x ≡ other.along_x
    along_x = reflected-same edge.x0 edge.x1 one.along_x other.along_x (ap (λ (point : Point). point.x) is)

    along_y : one.along_y ≡ other.along_y
    along_y = reflected-same edge.y0 edge.y1 one.along_y other.along_y (ap (λ (point : Point). point.y) is)

    go : ¬ (IsBefore one other)
    go (inl lower) = omega (arith, same, lower)
    go (inr (at, inl less)) = let x = along_x in omega (arith, ints, x, less)
    go (inr (at, inr (level, less))) = let y = along_y in omega (arith, ints, y, less)

-- ---- all stops

-- a point is at an end of an edge where an edge that passes it passes that end
at_end : (edge : Edge) (a b x y : ℤ) → x ≡ a → y ≡ b → PassesInside edge x y → PassesInside edge a b
at_end edge a b x y same_x same_y passes = subst (λ (c : ℤ). PassesInside edge c b) same_x (subst (λ (c : ℤ). PassesInside edge x c) same_y passes)

module _ (edge other : Edge) (x y : ℤ) (passes : PassesInside edge x y) where
  passed_end : IsEnd other x y → PassesEnd edge other
  passed_end (inl (same_x, same_y)) = inl (at_end edge other.x0 other.y0 x y same_x same_y passes)
  passed_end (inr (same_x, same_y)) = inr (at_end edge other.x1 other.y1 x y same_x same_y passes)

  stop_at_end : (place : ℕ) → IsEnd other x y → IsStopAtEnd other place edge (stop_of place edge x y)
  stop_at_end place (inl (same_x, same_y)) = inl (at_end edge other.x0 other.y0 x y same_x same_y passes, ap₂ (stop_of place edge) same_x same_y)
  stop_at_end place (inr (same_x, same_y)) = inr (at_end edge other.x1 other.y1 x y same_x same_y passes, ap₂ (stop_of place edge) same_x same_y)

-- a stop at a hot point
pub IsStop-along : (edges : List Edge) (place : ℕ) (edge : Edge) (x y : ℤ) (stop : Stop) → slice_get edges place ≡ Some edge → IsHot edges x y → IsStopAlong place edge x y stop → IsStop edges stop
IsStop-along edges place edge x y stop stands hot (passes, is) =
    let same_place : stop.place ≡ place = ap (λ (s : Stop). s.place) is in
    let point : point_of edge stop ≡ record { x = x; y = y } = ap (point_of edge) is ∙ point-of_stop place edge x y in
    record {
      edge = edge;
      stands = ap (slice_get edges) same_place ∙ stands;
      node = subst (λ (p : Point). IsHot edges p.x p.y × Passes edge p.x p.y) (sym point) (hot, passes.0);
      inside = subst (λ (p : Point). PassesInside edge p.x p.y) (sym point) passes;
    }

-- one at an end of another edge
IsStop-at_end : (edges : List Edge) (other : Edge) (place : ℕ) (edge : Edge) (stop : Stop) → Contains edges other → slice_get edges place ≡ Some edge → IsStopAtEnd other place edge stop → IsStop edges stop
IsStop-at_end edges other place edge stop held stands (inl along) = IsStop-along edges place edge other.x0 other.y0 stop stands (inl (other, held, inl (refl, refl))) along
IsStop-at_end edges other place edge stop held stands (inr along) = IsStop-along edges place edge other.x1 other.y1 stop stands (inl (other, held, inr (refl, refl))) along

-- stops of which each is one, and that have each one, are the edges' stops once they are in order and each is left once
pub AreStops-told : (edges : List Edge) (stops sorted : List Stop) → ((place : ℕ) (edge : Edge) (x y : ℤ) → slice_get edges place ≡ Some edge → IsHot edges x y → PassesInside edge x y → Contains stops (stop_of place edge x y))
    → ((stop : Stop) → Contains stops stop → IsStop edges stop) → HaveSame stops sorted → AllPairs IsBefore sorted → AreStops edges sorted
AreStops-told edges stops sorted each of same in_order = record {
  each = λ place edge x y stands node passes. (same (stop_of place edge x y)).1 (each place edge x y stands node.0 passes);
  of = λ k d within. of (get_or sorted k d) ((same (get_or sorted k d)).0 (Contains-get_or sorted k d within));
  in_order = in_order;
}

-- so those at all hot points are
pub AreStops-hot : (edges : List Edge) (points : List Point) (stops sorted : List Stop) → AreHot edges points → ((stop : Stop) → Contains stops stop ↔ IsStopAmong edges points stop) → HaveSame stops sorted → AllPairs IsBefore sorted → AreStops edges sorted
AreStops-hot edges points stops sorted hot told =
    AreStops-told edges stops sorted
    (λ place edge x y stands is passes.
    (told (stop_of place edge x y)).1 (record {
      place = place;
      edge = edge;
      point = whole_point x y;
      stands = stands;
      held = (hot (whole_point x y)).1 is;
      along = (passes, refl);
    }))
    (λ stop held. let at = (told stop).0 held in IsStop-along edges at.place at.edge at.point.x at.point.y stop at.stands ((hot at.point).0 at.held) at.along)

module _ (edges : List Edge) (pairs : List (ℕ × ℕ)) (close : ArePairs ComeClose edges pairs) where
  -- where an edge passes an end of another one the two are at a pair that comes close
  pub end_told : (place i : ℕ) (edge other : Edge) (x y : ℤ) → slice_get edges place ≡ Some edge → slice_get edges i ≡ Some other → IsEnd other x y → PassesInside edge x y
      → IsOfSome (IsStopOfPair edges) pairs (stop_of place edge x y)
  end_told place i edge other x y stands second end passes =
      let near : PassesEnd edge other = passed_end edge other x y passes end in
      let stop : IsStopAtEnd other place edge (stop_of place edge x y) = stop_at_end edge other x y passes place end in
      elim (cases_lt place i) [
        | inl below ↦ (
          (place, i),
          (close.exact place i).1 (record { one = edge; other = other; rising = below; first = stands; second = second; meet = inr (inl near) }),
          record { one = edge; other = other; first = stands; second = second; at = inl stop },
        )
        | inr upto ↦ elim (cases_eq place i) [
          | inl same ↦
              let edge_is : edge ≡ other = same_Some _ _ (sym stands ∙ ap (slice_get edges) same ∙ second) in
              absurd (passes.1 (subst (λ (e : Edge). IsEnd e x y) (sym edge_is) end))
          | inr differs ↦ (
            (i, place),
            (close.exact i place).1 (record { one = other; other = edge; rising = omega (arith, upto, differs); first = second; second = stands; meet = inr (inr near) }),
            record { one = other; other = edge; first = second; second = stands; at = inr stop },
          )
        ]
      ]

  pub end-stop : (stop : Stop) → IsOfSome (IsStopOfPair edges) pairs stop → IsStop edges stop
  end-stop stop ((i, j), held, is) =
      elim is.at [
        | inl at ↦ IsStop-at_end edges is.other i is.one stop (held-at edges j is.other is.second) is.first at
        | inr at ↦ IsStop-at_end edges is.one j is.other stop (held-at edges i is.one is.first) is.second at
      ]

  module _ (stops : List Stop) (told : (stop : Stop) → Contains stops stop ↔ (IsOfSome (IsStopOfPair edges) pairs stop ⊎ IsStopCrossed edges pairs stop)) where
    -- each hot point that an edge passes has its stop
    listed : (place : ℕ) (edge : Edge) (x y : ℤ) → slice_get edges place ≡ Some edge → IsHot edges x y → PassesInside edge x y → Contains stops (stop_of place edge x y)
    listed place edge x y stands hot passes =
        (told (stop_of place edge x y)).1
        (⊎_elim
        (λ (other, held, end). let (i, second) = place-of edges other held in inl (end_told place i edge other x y stands second end passes))
        (λ crossing. inr (record {
          place = place;
          edge = edge;
          point = whole_point x y;
          stands = stands;
          crossed = crossing;
          along = (passes, refl);
        }))
        (hot_cases edges pairs close x y hot))

    -- each stop is one
    all_stops : (stop : Stop) → Contains stops stop → IsStop edges stop
    all_stops stop held =
        ⊎_elim (end-stop stop)
        (λ at. IsStop-along edges at.place at.edge at.point.x at.point.y stop at.stands (crossing-hot edges pairs close at.point at.crossed) at.along)
        ((told stop).0 held)

    -- so, once they are in order and each is left once, they are the edges' stops
    pub AreStops-sorted : (sorted : List Stop) → HaveSame stops sorted → AllPairs IsBefore sorted → AreStops edges sorted
    AreStops-sorted sorted = AreStops-told edges stops sorted listed all_stops

-- ---- what is gained

-- the stop of an edge at a point that it passes
pub gains-stop : (place : ℕ) (edge : Edge) (x y : ℤ) (before after : List Stop) → PassesInside edge x y → after ≡ before ++ stop_of place edge x y ∷ [] → GainsThese (IsStopAlong place edge x y) before after
gains-stop place edge x y before after passes =
    gains-only (IsStopAlong place edge x y) before after (stop_of place edge x y) (passes, refl) (λ stop along. along.1)

-- the stops of the edges at a pair at ends of one another
pub gains-of_pair : (edges : List Edge) (pair : ℕ × ℕ) (one other : Edge) (before now after : List Stop) → slice_get edges pair.0 ≡ Some one → slice_get edges pair.1 ≡ Some other
    → GainsThese (IsStopAtEnd other pair.0 one) before now → GainsThese (IsStopAtEnd one pair.1 other) now after → GainsThese (IsStopOfPair edges pair) before after
gains-of_pair edges pair one other before now after first second gains more =
    gains-same (λ stop. IsStopAtEnd other pair.0 one stop ⊎ IsStopAtEnd one pair.1 other stop) (IsStopOfPair edges pair) before after
    (λ stop at. record { one = one; other = other; first = first; second = second; at = at })
    (λ stop is.
    let one_is : is.one ≡ one = same_Some _ _ (sym is.first ∙ first) in
    let other_is : is.other ≡ other = same_Some _ _ (sym is.second ∙ second) in
    subst (λ (e : Edge). IsStopAtEnd other pair.0 e stop ⊎ IsStopAtEnd e pair.1 other stop) one_is
    (subst (λ (e : Edge). IsStopAtEnd e pair.0 is.one stop ⊎ IsStopAtEnd is.one pair.1 e stop) other_is is.at))
    (gains-join (IsStopAtEnd other pair.0 one) (IsStopAtEnd one pair.1 other) before now after gains more)

-- the stop of a pair of an edge and a point
pub gains-at : (edges : List Edge) (points : List Point) (pair : ℕ × ℕ) (edge : Edge) (point : Point) (before after : List Stop) → slice_get edges pair.0 ≡ Some edge → slice_get points pair.1 ≡ Some point
    → after ≡ before ++ stop_of pair.0 edge point.x point.y ∷ [] → GainsThese (IsStopAt edges points pair) before after
gains-at edges points pair edge point before after first second =
    gains-only (IsStopAt edges points pair) before after (stop_of pair.0 edge point.x point.y)
    (record { edge = edge; point = point; first = first; second = second; is = refl })
    (λ stop is.
    let edge_is : is.edge ≡ edge = same_Some _ _ (sym is.first ∙ first) in
    let point_is : is.point ≡ point = same_Some _ _ (sym is.second ∙ second) in
    is.is ∙ ap (λ (e : Edge). stop_of pair.0 e is.point.x is.point.y) edge_is ∙ ap (λ (p : Point). stop_of pair.0 edge p.x p.y) point_is)

-- ---- stops at points

-- the stops of the pairs of an edge and a point that it passes are the stops at these points
pub gains-among : (edges : List Edge) (points : List Point) (passes : List (ℕ × ℕ)) (before after : List Stop) → ArePairsBetween PassesPoint edges points passes
    → GainsThese (IsOfSome (IsStopAt edges points) passes) before after → GainsThese (IsStopAmong edges points) before after
gains-among edges points passes before after pairs = gains-same (IsOfSome (IsStopAt edges points) passes) (IsStopAmong edges points) before after to from
  where
    to : (stop : Stop) → IsOfSome (IsStopAt edges points) passes stop → IsStopAmong edges points stop
    to stop ((i, j), held, is) =
        let between = (pairs.exact i j).0 held in
        let edge_is : between.one ≡ is.edge = same_Some _ _ (sym between.first ∙ is.first) in
        let point_is : between.other ≡ is.point = same_Some _ _ (sym between.second ∙ is.second) in
        let passed : PassesInside is.edge is.point.x is.point.y =
        subst (λ (e : Edge). PassesInside e is.point.x is.point.y) edge_is (subst (λ (p : Point). PassesInside between.one p.x p.y) point_is between.meet) in
        record {
          place = i;
          edge = is.edge;
          point = is.point;
          stands = is.first;
          held = held-at points j is.point is.second;
          along = (passed, is.is);
        }

    from : (stop : Stop) → IsStopAmong edges points stop → IsOfSome (IsStopAt edges points) passes stop
    from stop is =
        let (j, second) = place-of points is.point is.held in (
          (is.place, j),
          (pairs.exact is.place j).1 (record { one = is.edge; other = is.point; first = is.stands; second = second; meet = is.along.0 }),
          record { edge = is.edge; point = is.point; first = is.stands; second = second; is = is.along.1 },
        )
