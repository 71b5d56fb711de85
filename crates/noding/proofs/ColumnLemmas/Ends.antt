-- What a sweep by columns tells of ends that lie on edges, and that these are all nodes where edges cross at ends alone.
use Rattle.std.proofs.Common.{◌≡◌, ◌≢◌, ◌⊎◌, ◌↔◌, ◌∙◌, ap, arith, inl, inr, pos, refl, subst, sym, ⊎_elim, append-nil, Bool, true, false, cond, ℕ, ℤ, ◌<◌, ◌≤◌, ◌+◌, ◌-◌, ◌-ℤ◌, List, [], ◌∷◌, ◌++◌, Some, get_or, length, map, nat_lt, take}
use Rattle.std.specs.Bool.{MatchBool}
use Rattle.std.specs.Int.RustNames.{unsigned_abs}
use Rattle.std.specs.List.{All, AllPairs, Contains, slice_get}
use Rattle.std.proofs.lemmas.Bool.Decides.{Decides-int_eq}
use Rattle.std.proofs.lemmas.Int.{clamps, ints}
use Rattle.std.proofs.lemmas.List.{append_assoc, length-append, length-map, take_all, take_more}
use Rattle.std.proofs.lemmas.List.Elements.{All-contains, All-push, Contains-append_left, Contains-get_or, Contains-push, Contains-push_cases}
use Rattle.std.proofs.lemmas.Option.{same_Some, slice_get-get_or, slice_get_within}
use Rattle.i_tree.proofs.RbLemmas.Slots.Growth.{slice_get-append_kept}
use Rattle.plane.specs.declared.columns.Asked.{Asked}
use Rattle.plane.specs.declared.edge.Edge.{Edge}
use Rattle.plane.specs.declared.point.Point.{Point}
use Rattle.plane.specs.Columns.Asked.{Reaches}
use Rattle.plane.specs.Gains.{GainsThese, HaveSame, IsOfSome}
use Rattle.plane.specs.Meet.Kinds.{HasPoint}
use Rattle.plane.specs.Pairs.Pairs.{ArePairsBetween, PairBetween}
use Rattle.plane.proofs.GainsLemmas.{gained-all, gains-join, gains-same, held-at, place-of}
use Rattle.plane.proofs.MeetLemmas.Along.{same_or_apart}
use Rattle.plane.proofs.MeetingLemmas.ColumnPairs.{slice_get-behind}
use Rattle.plane.proofs.PairsLemmas.Compared.{mapped_at}
use Rattle.plane.proofs.MeetingLemmas.Crossing.{reaches-inside}
use Rattle.plane.proofs.PointLemmas.{whole_point}
use Rattle.noding.specs.Chains.{IsEnd, IsHot, Passes}
use Rattle.noding.specs.Columns.Ends.{AreDealt, AreEnds, Deals, HaveAllOn, HaveAllOnUprights, IsStopHeld, IsStopHeldAt, LiesAtEnd, LiesInside, asked_at, upright_alone}
use Rattle.noding.specs.Columns.Passing.{PassesAs, is_steep, nowhere}
use Rattle.noding.specs.Crossings.{AreAllCrossed, IsEndOf}
use Rattle.noding.specs.Local.{CrossBeside, IsMoved, IsNode, IsPointBeside}
use Rattle.noding.specs.Stops.{AreNodeStops, IsBefore, IsStopOf, point_of, stop_of}
use Rattle.noding.specs.declared.crossings.Crossing.{Crossing}
use Rattle.noding.specs.declared.stops.Stop.{Stop}
use Rattle.noding.proofs.ChainLemmas.Between.{AreFirst-crossed, RoundsTo-at, end-rounded}
use Rattle.noding.proofs.ChainLemmas.Local.{beside_whole}
use Rattle.noding.proofs.ChainLemmas.Stops.{point-of_stop}
use Rattle.noding.proofs.ColumnLemmas.Hot.{from_hot}
use Rattle.noding.proofs.ColumnLemmas.PassingPairs.{mapped-more}
use Rattle.noding.proofs.SnapLemmas.Along.{Passes-in_box}
use Rattle.noding.proofs.SnapLemmas.Local.{none-moved}

abbrev Pair : Type 0
Pair = ℕ × ℕ

-- ---- pairs that are dealt out

same_pair : (pair : Pair) (i j : ℕ) → pair.0 ≡ i → pair.1 ≡ j → pair ≡ (i, j)
same_pair pair i j first second = ap (λ (a : ℕ). (a, pair.1)) first ∙ ap (λ (b : ℕ). (i, b)) second

module _ (count : ℕ) (done about on : List Pair) (pair : Pair) (are : AreDealt count done about on) where
  dealt_about : pair.1 < count → AreDealt count (done ++ pair ∷ []) (about ++ pair ∷ []) on
  dealt_about below = record {
    about_is = λ i j. (
      λ held. ⊎_elim
          (λ earlier. let found = (are.about_is i j).0 earlier in (Contains-append_left done (pair ∷ []) (i, j) found.0, found.1))
          (λ same. (subst (λ (p : Pair). Contains (done ++ pair ∷ []) p) same (Contains-push done pair), subst (λ (p : Pair). p.1 < count) same below))
          (Contains-push_cases about pair (i, j) held),
      λ (held, lower). ⊎_elim
          (λ earlier. Contains-append_left about (pair ∷ []) (i, j) ((are.about_is i j).1 (earlier, lower)))
          (λ same. subst (λ (p : Pair). Contains (about ++ pair ∷ []) p) same (Contains-push about pair))
          (Contains-push_cases done pair (i, j) held),
    );
    on_is = λ i j. (
      λ held. Contains-append_left done (pair ∷ []) (i, count + j) ((are.on_is i j).0 held),
      λ held. ⊎_elim
          (λ earlier. (are.on_is i j).1 earlier)
          (λ same. let at : pair.1 ≡ count + j = ap (λ (p : Pair). p.1) same in absurd (omega (arith, at, below)))
          (Contains-push_cases done pair (i, count + j) held),
    );
  }

  dealt_on : count ≤ pair.1 → AreDealt count (done ++ pair ∷ []) about (on ++ (pair.0, pair.1 - count) ∷ [])
  dealt_on upto = record {
    about_is = λ i j. (
      λ held. (let found = (are.about_is i j).0 held in (Contains-append_left done (pair ∷ []) (i, j) found.0, found.1)),
      λ (held, lower). ⊎_elim
          (λ earlier. (are.about_is i j).1 (earlier, lower))
          (λ same. let at : pair.1 ≡ j = ap (λ (p : Pair). p.1) same in absurd (omega (arith, at, lower, upto)))
          (Contains-push_cases done pair (i, j) held),
    );
    on_is = λ i j. (
      λ held. ⊎_elim
          (λ earlier. Contains-append_left done (pair ∷ []) (i, count + j) ((are.on_is i j).0 earlier))
          (λ same.
          let at : pair.1 - count ≡ j = ap (λ (p : Pair). p.1) same in
          subst (λ (p : Pair). Contains (done ++ pair ∷ []) p) (same_pair pair i (count + j) (ap (λ (p : Pair). p.0) same) (omega (arith, at, upto))) (Contains-push done pair))
          (Contains-push_cases on (pair.0, pair.1 - count) (i, j) held),
      λ held. ⊎_elim
          (λ earlier. Contains-append_left on ((pair.0, pair.1 - count) ∷ []) (i, j) ((are.on_is i j).1 earlier))
          (λ same.
          let at : pair.1 ≡ count + j = ap (λ (p : Pair). p.1) same in
          subst (λ (p : Pair). Contains (on ++ (pair.0, pair.1 - count) ∷ []) p) (same_pair (pair.0, pair.1 - count) i j (ap (λ (p : Pair). p.0) same) (omega (arith, at, upto)))
          (Contains-push on (pair.0, pair.1 - count)))
          (Contains-push_cases done pair (i, count + j) held),
    );
  }

  dealt_one : (new_about new_on : List Pair) → Deals count pair about on new_about new_on → AreDealt count (done ++ pair ∷ []) new_about new_on
  dealt_one new_about new_on (inl (below, gains, same)) = subst (AreDealt count (done ++ pair ∷ []) new_about) (sym same) (subst (λ (list : List Pair). AreDealt count (done ++ pair ∷ []) list on) (sym gains) (dealt_about below))
  dealt_one new_about new_on (inr (upto, same, gains)) = subst (AreDealt count (done ++ pair ∷ []) new_about) (sym gains) (subst (λ (list : List Pair). AreDealt count (done ++ pair ∷ []) list (on ++ (pair.0, pair.1 - count) ∷ [])) (sym same) (dealt_on upto))

pub dealt-none : (count : ℕ) (about on : List Pair) → about ≡ [] → on ≡ [] → AreDealt count [] about on
dealt-none count about on none nothing =
    subst (AreDealt count [] about) (sym nothing)
    (subst (λ (list : List Pair). AreDealt count [] list []) (sym none)
    (record {
      about_is = λ i k. (λ (at, within, is). absurd (omega (arith, within)), λ ((at, within, is), lower). absurd (omega (arith, within)));
      on_is = λ i j. (λ (at, within, is). absurd (omega (arith, within)), λ (at, within, is). absurd (omega (arith, within)));
    }))

module _ (count k : ℕ) (met about on : List Pair) (are : AreDealt count (take k met) about on) where
  pub dealt-more : (new_about new_on : List Pair) → k < length met → Deals count (get_or met k (0, 0)) about on new_about new_on → AreDealt count (take (k + 1) met) new_about new_on
  dealt-more new_about new_on within deals =
      subst (λ (done : List Pair). AreDealt count done new_about new_on) (sym (take_more met k (0, 0) within)) (dealt_one count (take k met) about on (get_or met k (0, 0)) are new_about new_on deals)

  pub dealt-all : length met ≤ k → AreDealt count met about on
  dealt-all all = subst (λ (done : List Pair). AreDealt count done about on) (take_all k met all) are

-- ---- what is asked at points, behind what is asked before

module _ (points : List Point) (before : List Asked) where
  pub asked-first : before ≡ before ++ map asked_at (take 0 points)
  asked-first = sym (append-nil before)

  pub asked-next : (k : ℕ) (d : Point) (now after : List Asked) (last : Asked) → k < length points → now ≡ before ++ map asked_at (take k points) → after ≡ now ++ last ∷ [] → last ≡ asked_at (get_or points k d)
      → after ≡ before ++ map asked_at (take (k + 1) points)
  asked-next k d now after last within same appended is =
      appended ∙ ap (λ (list : List Asked). list ++ last ∷ []) same ∙ append_assoc before (map asked_at (take k points)) (last ∷ [])
      ∙ ap (λ (list : List Asked). before ++ list) (mapped-more asked_at points k d (map asked_at (take k points)) (map asked_at (take k points) ++ last ∷ []) last within refl refl is)

  pub asked-each : (k : ℕ) (now : List Asked) → length points ≤ k → now ≡ before ++ map asked_at (take k points) → now ≡ before ++ map asked_at points
  asked-each k now all same = same ∙ ap (λ (list : List Point). before ++ map asked_at list) (take_all k points all)

-- ---- what the sweep tells

-- an edge that isn't upright reaches what is asked at a point that lies on it between its ends
reaches_at : (edge : Edge) (point : Point) → edge.x0 ≢ edge.x1 → LiesInside edge point → Reaches edge (asked_at point)
reaches_at edge point wide ((there, of, at), none) =
    let level = at.y_is in
    reaches-inside edge there (asked_at point) wide of (λ end. none (end-rounded edge there point.x point.y (RoundsTo-at there point.x point.y at) end)) at.x_is (omega (arith, ints, level)) (omega (arith, ints, level))

module _ (edges : List Edge) (places : List ℕ) (first : List Asked) (points : List Point) (met about on : List Pair) (size : length first ≡ length places) (dealt : AreDealt (length places) met about on) where
  module _ (told : ArePairsBetween Reaches edges (first ++ map asked_at points) met) where
    pub all-about : (i k : ℕ) → PairBetween Reaches edges first i k → Contains about (i, k)
    all-about i k pair =
        let within = slice_get_within first k pair.other pair.second in
        (dealt.about_is i k).1 (
          (told.exact i k).1 (record {
            one = pair.one;
            other = pair.other;
            first = pair.first;
            second = slice_get-append_kept first (map asked_at points) k pair.other pair.second;
            meet = pair.meet;
          }),
          omega (arith, within, size),
        )

    pub all-on : HaveAllOn edges points on
    all-on i j edge point at there wide lies =
        (dealt.on_is i j).1 ((told.exact i (length places + j)).1 (record {
          one = edge;
          other = asked_at point;
          first = at;
          second = slice_get-behind first (map asked_at points) (length places) j (asked_at point) (sym size) (mapped_at asked_at points j point there);
          meet = reaches_at edge point wide lies;
        }))

  module _ (within : All (λ pair. (pair.0 < length edges) × (pair.1 < length (first ++ map asked_at points))) met) where
    met_within : (i k : ℕ) → Contains met (i, k) → (i < length edges) × (k < length (first ++ map asked_at points))
    met_within i k held = All-contains (λ pair. (pair.0 < length edges) × (pair.1 < length (first ++ map asked_at points))) met (i, k) within held

    pub about-within : All (λ pair. (pair.0 < length edges) × (pair.1 < length first)) about
    about-within k d below =
        let pair = get_or about k d in
        let found = (dealt.about_is pair.0 pair.1).0 (Contains-get_or about k d below) in
        let lower = found.1 in
        ((met_within pair.0 pair.1 found.0).0, omega (arith, lower, size))

    pub on-within : All (λ pair. (pair.0 < length edges) × (pair.1 < length points)) on
    on-within k d below =
        let pair = get_or on k d in
        let found = met_within pair.0 (length places + pair.1) ((dealt.on_is pair.0 pair.1).0 (Contains-get_or on k d below)) in
        let inside = found.1 in
        let all = length-append first (map asked_at points) in
        let asked = length-map points asked_at in
        (found.0, omega (arith, inside, all, asked, size))

-- ---- upright edges

alone_upright : (edge : Edge) → edge.x0 ≡ edge.x1 → upright_alone edge ≡ edge
alone_upright edge same = ap (λ (b : Bool). cond b edge nowhere) ((Decides-int_eq edge.x0 edge.x1).1 same)

-- what lies on an edge it passes
pub passes_held : (edge : Edge) (point : Point) → HasPoint edge point.x point.y → Passes edge point.x point.y
passes_held edge point (there, of, at) = (there, of, RoundsTo-at there point.x point.y at)

-- a point has no point but its ends
pub not_level : (edge : Edge) (point : Point) → edge.x0 ≡ edge.x1 → LiesInside edge point → edge.y0 ≢ edge.y1
not_level edge point same (on, none) level =
    let box = Passes-in_box edge point.x point.y (passes_held edge point on) in
    let left = box.left in
    let right = box.right in
    let low = box.low in
    let high = box.high in
    none (inl (omega (arith, ints, clamps, left, right, same), omega (arith, ints, clamps, low, high, level)))

steeper : (across up : ℤ) → across ≡ pos 0 → up ≢ pos 0 → nat_lt (unsigned_abs across) (unsigned_abs up) ≡ true
steeper across up none some = subst (λ (a : ℤ). nat_lt (unsigned_abs a) (unsigned_abs up) ≡ true) (sym none) (grind (arith, ints, some))

upright_steep : (edge : Edge) (point : Point) → edge.x0 ≡ edge.x1 → LiesInside edge point → is_steep edge ≡ true
upright_steep edge point same lies =
    let tall = not_level edge point same lies in
    steeper (edge.x1 -ℤ edge.x0) (edge.y1 -ℤ edge.y0) (omega (arith, ints, same)) (λ level. tall (omega (arith, ints, level)))

module _ (edges : List Edge) (points : List Point) (pairs : List Pair) (told : ArePairsBetween (PassesAs true) (map upright_alone edges) points pairs) where
  pub all-on_uprights : HaveAllOnUprights edges points pairs
  all-on_uprights i j edge point at there same lies =
      (told.exact i j).1 (record {
        one = edge;
        other = point;
        first = mapped_at upright_alone edges i edge at ∙ ap Some (alone_upright edge same);
        second = there;
        meet = (upright_steep edge point same lies, (passes_held edge point lies.0, lies.1));
      })

  pub on_uprights-within : All (λ pair. (pair.0 < length edges) × (pair.1 < length points)) pairs
  on_uprights-within k d below =
      let pair = get_or pairs k d in
      let is = (told.exact pair.0 pair.1).0 (Contains-get_or pairs k d below) in
      let inside = slice_get_within (map upright_alone edges) pair.0 is.one is.first in
      let all = length-map edges upright_alone in
      (omega (arith, inside, all), slice_get_within points pair.1 is.other is.second)

-- without any there is nothing to tell
pub no-uprights : (edges : List Edge) (points : List Point) (pairs : List Pair) → All (λ edge. edge.x0 ≢ edge.x1) edges → HaveAllOnUprights edges points pairs
no-uprights edges points pairs all i j edge point at there same lies = absurd (All-contains (λ (e : Edge). e.x0 ≢ e.x1) edges edge all (held-at edges i edge at) same)

-- ---- where edges cross at ends alone

module _ (edges : List Edge) (crossings : List Crossing) (crossed : AreAllCrossed edges crossings) (at_ends : All (LiesAtEnd edges) crossings) where
  at_end : (crossing : Crossing) → Contains crossings crossing → LiesAtEnd edges crossing
  at_end crossing held = All-contains (LiesAtEnd edges) crossings crossing at_ends held

  -- none cross beside a whole point
  none_of_these : (point : Point) → ¬ (IsOfSome (IsPointBeside edges) crossings point)
  none_of_these point (crossing, held, is) =
      let its = at_end crossing held in
      let one_is : its.one ≡ is.one = same_Some _ _ (sym its.first ∙ is.first) in
      let other_is : its.other ≡ is.other = same_Some _ _ (sym its.second ∙ is.second) in
      beside_whole is.one is.other crossing.point.x crossing.point.y (subst (λ (e : Edge). HasPoint e crossing.point.x crossing.point.y) one_is its.on.0)
      (subst (λ (e : Edge). HasPoint e crossing.point.x crossing.point.y) other_is its.on.1) is.cross

  nothing : (point : Point) → ¬ (Contains [] point)
  nothing point (at, within, is) = absurd (omega (arith, within))

  none_beside : (one other : Edge) (x y : ℤ) → Contains edges one → Contains edges other → ¬ (CrossBeside one other x y)
  none_beside one other x y first second cross =
      let told = AreFirst-crossed edges crossings crossed [] (λ point. (λ held. absurd (nothing point held), λ is. absurd (none_of_these point is))) in
      nothing (whole_point x y) ((told (whole_point x y)).1 (one, other, first, second, cross))

  -- so none is moved
  still : (edge : Edge) → ¬ (IsMoved edges edge)
  still = none-moved edges none_beside

  -- and hot points are ends
  hot_end : (point : Point) → IsHot edges point.x point.y → IsOfSome IsEndOf edges point
  hot_end point hot =
      ⊎_elim (λ end. end)
      (λ (crossing, held, is).
      let its = at_end crossing held in
      subst (λ (p : Point). IsOfSome IsEndOf edges p) (sym is)
      (⊎_elim (λ end. (its.one, held-at edges crossing.one its.one its.first, end)) (λ end. (its.other, held-at edges crossing.other its.other its.second, end)) its.end))
      (from_hot edges crossings crossed point hot)

  module _ (points : List Point) (ends : AreEnds edges points) where
    node_at : (edge : Edge) (point : Point) → Contains points point → LiesInside edge point → IsNode edges edge point.x point.y
    node_at edge point held lies = (inl ((ends point).0 held), passes_held edge point lies.0, inl lies.0)

    stop_at : (pair : Pair) (stop : Stop) → IsStopHeldAt edges points pair stop → IsStopOf (IsNode edges) edges stop
    stop_at pair stop is =
        let edge = is.edge in
        let point = is.point in
        let same : stop ≡ stop_of pair.0 edge point.x point.y = is.held.1 in
        let same_place : stop.place ≡ pair.0 = ap (λ (s : Stop). s.place) same in
        let there : point_of edge stop ≡ record { x = point.x; y = point.y } = ap (point_of edge) same ∙ point-of_stop pair.0 edge point.x point.y in
        let held = held-at points pair.1 point is.second in
        record {
          edge = edge;
          stands = ap (slice_get edges) same_place ∙ is.first;
          node = subst (λ (p : Point). IsNode edges edge p.x p.y) (sym there) (node_at edge point held is.held.0);
          inside = subst (λ (p : Point). Passes edge p.x p.y × (¬ (IsEnd edge p.x p.y))) (sym there) (passes_held edge point is.held.0.0, is.held.0.1);
        }

    module _ (on uprights : List Pair) (all_on : HaveAllOn edges points on) (all_uprights : HaveAllOnUprights edges points uprights)
        (before now found sorted : List Stop) (empty : before ≡ []) (first : GainsThese (IsOfSome (IsStopHeldAt edges points) on) before now) (second : GainsThese (IsOfSome (IsStopHeldAt edges points) uprights) now found)
        (same : HaveSame found sorted) (in_order : AllPairs IsBefore sorted) where
      all : (stop : Stop) → Contains found stop ↔ (IsOfSome (IsStopHeldAt edges points) on stop ⊎ IsOfSome (IsStopHeldAt edges points) uprights stop)
      all =
          gained-all (λ stop. IsOfSome (IsStopHeldAt edges points) on stop ⊎ IsOfSome (IsStopHeldAt edges points) uprights stop) found
          (subst (λ (list : List Stop). GainsThese (λ stop. IsOfSome (IsStopHeldAt edges points) on stop ⊎ IsOfSome (IsStopHeldAt edges points) uprights stop) list found) empty
          (gains-join (IsOfSome (IsStopHeldAt edges points) on) (IsOfSome (IsStopHeldAt edges points) uprights) before now found first second))

      found_at : (place j : ℕ) (edge : Edge) (point : Point) → slice_get edges place ≡ Some edge → slice_get points j ≡ Some point → LiesInside edge point → Contains found (stop_of place edge point.x point.y)
      found_at place j edge point at there lies =
          let is : IsStopHeldAt edges points (place, j) (stop_of place edge point.x point.y) = record { edge = edge; point = point; first = at; second = there; held = (lies, refl) } in
          (all (stop_of place edge point.x point.y)).1
          (⊎_elim (λ upright. inr ((place, j), all_uprights place j edge point at there upright lies, is)) (λ wide. inl ((place, j), all_on place j edge point at there wide lies, is)) (same_or_apart edge.x0 edge.x1))

      -- what lies on an edge has its stop
      told_at : (place : ℕ) (edge : Edge) (x y : ℤ) → slice_get edges place ≡ Some edge → IsNode edges edge x y → ¬ (IsEnd edge x y) → Contains found (stop_of place edge x y)
      told_at place edge x y at (hot, passes, node) none =
          let point = whole_point x y in
          let (j, there) = place-of points point ((ends point).1 (hot_end point hot)) in
          found_at place j edge point at there (⊎_elim (λ on. on) (λ moved. absurd (still edge moved)) node, none)

      pub AreNodeStops-ends : AreNodeStops edges sorted
      AreNodeStops-ends = record {
        each = λ place edge x y at node inside. (same (stop_of place edge x y)).1 (told_at place edge x y at node inside.1);
        of = λ k d within.
            let stop = get_or sorted k d in
            ⊎_elim (λ (pair, held, is). stop_at pair stop is) (λ (pair, held, is). stop_at pair stop is) ((all stop).0 ((same stop).0 (Contains-get_or sorted k d within)));
        in_order = in_order;
      }

-- what a test says of both, where the second holds
pub held_tested : (test : Bool) (A B : Type 0) → B → MatchBool test A (¬ A) → MatchBool test (A × B) (¬ (A × B))
held_tested true A B second first = (first, second)
held_tested false A B second first = λ both. first both.0

-- one more crossing is at an end
pub at_ends-more : (edges : List Edge) (crossings : List Crossing) (k : ℕ) (d : Edge) (e : Crossing) → k < length crossings
    → ((get_or crossings k e).one < length edges) × ((get_or crossings k e).other < length edges) → All (LiesAtEnd edges) (take k crossings)
    → IsEnd (get_or edges (get_or crossings k e).one d) (get_or crossings k e).point.x (get_or crossings k e).point.y ⊎ IsEnd (get_or edges (get_or crossings k e).other d) (get_or crossings k e).point.x (get_or crossings k e).point.y
    → HasPoint (get_or edges (get_or crossings k e).one d) (get_or crossings k e).point.x (get_or crossings k e).point.y × HasPoint (get_or edges (get_or crossings k e).other d) (get_or crossings k e).point.x (get_or crossings k e).point.y
    → All (LiesAtEnd edges) (take (k + 1) crossings)
at_ends-more edges crossings k d e within inside so_far end on =
    let crossing = get_or crossings k e in
    subst (All (LiesAtEnd edges)) (sym (take_more crossings k e within))
    (All-push (LiesAtEnd edges) (take k crossings) crossing so_far
    (record {
      one = get_or edges crossing.one d;
      other = get_or edges crossing.other d;
      first = slice_get-get_or edges crossing.one d inside.0;
      second = slice_get-get_or edges crossing.other d inside.1;
      end = end;
      on = on;
    }))

-- ---- what is gained

-- the ends, once they are in order and each is left once
pub ends-sorted : (edges : List Edge) (before ended sorted : List Point) → before ≡ [] → GainsThese (IsOfSome IsEndOf edges) before ended → HaveSame ended sorted → AreEnds edges sorted
ends-sorted edges before ended sorted empty gains same point =
    let all = gained-all (IsOfSome IsEndOf edges) ended (subst (λ (list : List Point). GainsThese (IsOfSome IsEndOf edges) list ended) empty gains) point in
    (λ held. all.0 ((same point).0 held), λ is. (same point).1 (all.1 is))

-- the stop of a pair of an edge and a point
pub gains-held : (edges : List Edge) (points : List Point) (pair : Pair) (edge : Edge) (point : Point) (before after : List Stop) → slice_get edges pair.0 ≡ Some edge → slice_get points pair.1 ≡ Some point
    → GainsThese (IsStopHeld pair.0 edge point) before after → GainsThese (IsStopHeldAt edges points pair) before after
gains-held edges points pair edge point before after first second =
    gains-same (IsStopHeld pair.0 edge point) (IsStopHeldAt edges points pair) before after
    (λ stop held. record { edge = edge; point = point; first = first; second = second; held = held })
    (λ stop is.
    let edge_is : is.edge ≡ edge = same_Some _ _ (sym is.first ∙ first) in
    let point_is : is.point ≡ point = same_Some _ _ (sym is.second ∙ second) in
    subst (λ (e : Edge). IsStopHeld pair.0 e point stop) edge_is (subst (λ (p : Point). IsStopHeld pair.0 is.edge p stop) point_is is.held))
