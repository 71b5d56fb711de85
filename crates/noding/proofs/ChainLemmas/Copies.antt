-- The stops of distinct edges, copied to all edges that are like them.
use Rattle.std.proofs.Common.{◌≡◌, inl, inr, ℕ, ℤ, pos, ◌<◌, ◌≤◌, ◌+◌, ◌-◌, List, [], ◌∷◌, ◌++◌, Some, get_or, length, map, refl, sym, ap, ◌∙◌, subst, subst₂, ⊎_elim, arith}
use Rattle.std.specs.List.{All, AllPairs, Contains, slice_get}
use Rattle.std.proofs.Math.ListN.{get_or-append}
use Rattle.std.proofs.Math.Seq.{get_or-append_seam}
use Rattle.std.proofs.lemmas.Bool.{cases_lt}
use Rattle.std.proofs.lemmas.List.{get_or-map, length-append, length-map}
use Rattle.std.proofs.lemmas.List.Elements.{All-contains, Contains-append_cases, Contains-append_left, Contains-append_right, Contains-get_or}
use Rattle.std.proofs.lemmas.Option.{same_Some, slice_get-get_or, slice_get_within}
use Rattle.i_tree.proofs.RootLemmas.Joined.{AllPairs-append}
use Rattle.plane.proofs.PairsLemmas.Bags.{Contains-from_map, Contains-map}
use Rattle.plane.specs.declared.edge.Edge.{Edge}
use Rattle.noding.specs.Chains.{IsHot, Passes}
use Rattle.noding.specs.Close.{PassesInside}
use Rattle.noding.specs.Distinct.{AreCopied, AreDistinct, AreStarts, at_place}
use Rattle.noding.specs.Local.{IsNode}
use Rattle.noding.specs.Offsets.{between}
use Rattle.noding.specs.Stops.{AreAt, AreNodeStops, AreStops, AreStopsOf, IsBefore, IsStopOf, Split, point_of, stop_of}
use Rattle.noding.specs.declared.stops.Stop.{Stop}
use Rattle.noding.proofs.ChainLemmas.Runs.{between-at, length-between, Split-none, Split-run}
use Rattle.noding.proofs.SnapLemmas.More.{IsHot-more, IsMoved-more}

-- ---- where stops begin

pub starts-first : (stops : List Stop) → AreStarts 0 stops (0 ∷ [])
starts-first stops = record {
  size = omega arith;
  each = λ place upto. let is : 0 ≡ place = omega (arith, upto) in subst (λ (n : ℕ). Split n (get_or (0 ∷ []) n 0) stops) is (Split-none stops);
}

pub starts-more : (stops : List Stop) (k end : ℕ) (starts : List ℕ) → AllPairs IsBefore stops → AreStarts k stops starts → AreAt k (get_or starts k 0) end stops → AreStarts (k + 1) stops (starts ++ end ∷ [])
starts-more stops k end starts in_order are run = record {
  size = let size = are.size in omega (arith, size, length-append starts (end ∷ []));
  each = each;
}
  where
    each : (place : ℕ) → place ≤ k + 1 → Split place (get_or (starts ++ end ∷ []) place 0) stops
    each place upto =
        let size = are.size in
        elim (cases_lt k place) [
          | inl above ↦
              let is : k + 1 ≡ place = omega (arith, above, upto) in
              let long : length starts ≡ place = omega (arith, size, is) in
              let at : get_or (starts ++ end ∷ []) place 0 ≡ end = ap (λ (n : ℕ). get_or (starts ++ end ∷ []) n 0) (sym long) ∙ get_or-append_seam starts end [] 0 in
              subst (λ (n : ℕ). Split place n stops) (sym at)
              (subst (λ (n : ℕ). Split n end stops) is (Split-run stops in_order k (get_or starts k 0) end (are.each k (omega arith)) run))
          | inr below ↦ subst (λ (n : ℕ). Split place n stops) (sym (get_or-append starts (end ∷ []) 0 place (omega (arith, below, size)))) (are.each place below)
        ]

-- ---- the stops of one distinct edge

module _ (stops : List Stop) (like start end : ℕ) (first : Split like start stops) (last : Split (like + 1) end stops) where
  some_stop : Stop
  some_stop = record { place = 0; along_x = pos 0; along_y = pos 0 }

  pub splits-rising : start ≤ end
  splits-rising = ⊎_elim
      (λ back.
      let within = first.inside in
      let lower = first.before end some_stop back in
      let above = last.behind end some_stop (omega arith) (omega (arith, back, within)) in
      absurd (omega (arith, lower, above)))
      (λ rising. rising) (cases_lt end start)

  abbrev run : List Stop
  run = between start end stops

  pub run-size : length run ≡ end - start
  run-size = length-between start end stops splits-rising last.inside

  pub run-at : (k : ℕ) (d : Stop) → k < length run → (get_or run k d ≡ get_or stops (start + k) d) × (start + k < end)
  run-at k d within =
      let size = run-size in
      let upto : start + k < end = omega (arith, within, size) in
      (between-at start end k stops d upto last.inside, upto)

  pub run-place : (k : ℕ) (d : Stop) → start ≤ k → k < end → (get_or stops k d).place ≡ like
  run-place k d from upto =
      let inside = last.inside in
      let most = last.before k d upto in
      let least = first.behind k d from (omega (arith, upto, inside)) in
      omega (arith, most, least)

  -- stand among all
  pub of_run : (stop : Stop) → Contains run stop → Contains stops stop × (stop.place ≡ like)
  of_run stop (k, within, is) =
      let (at, upto) = run-at k stop within in
      let inside = last.inside in
      let same : get_or stops (start + k) stop ≡ stop = sym at ∙ is in
      ((start + k, omega (arith, upto, inside), same), ap (λ (s : Stop). s.place) (sym same) ∙ run-place (start + k) stop (omega arith) upto)

  -- and no others of it do
  pub in_run : (stop : Stop) → Contains stops stop → stop.place ≡ like → Contains run stop
  in_run stop (k, within, is) at =
      let here : (get_or stops k stop).place ≡ like = ap (λ (s : Stop). s.place) is ∙ at in
      let from : start ≤ k = ⊎_elim (λ below. absurd (let lower = first.before k stop below in omega (arith, lower, here))) (λ above. above) (cases_lt k start) in
      let upto : k < end = ⊎_elim (λ below. below) (λ above. absurd (let more = last.behind k stop above within in omega (arith, more, here))) (cases_lt k end) in
      let there : start + (k - start) ≡ k = omega (arith, from) in
      let size = run-size in (
        k - start,
        omega (arith, size, from, upto),
        between-at start end (k - start) stops stop (omega (arith, there, upto)) last.inside ∙ ap (λ (n : ℕ). get_or stops n stop) there ∙ is,
      )

  -- they are as much in order at another place
  module _ (in_order : AllPairs IsBefore stops) (k : ℕ) where
    abbrev own : List Stop
    own = map (at_place k) run

    own-at : (i : ℕ) (d : Stop) → i < length own → (get_or own i d ≡ at_place k (get_or stops (start + i) d)) × (start + i < end)
    own-at i d within =
        let size = length-map run (at_place k) in
        let short : i < length run = omega (arith, within, size) in
        let (at, upto) = run-at i d short in
        (get_or-map (at_place k) run i d d short ∙ ap (at_place k) at, upto)

    own-in_order : AllPairs IsBefore own
    own-in_order i j d below within =
        let (one_is, one_upto) = own-at i d (omega (arith, below, within)) in
        let (other_is, other_upto) = own-at j d within in
        let inside = last.inside in
        let one = get_or stops (start + i) d in
        let other = get_or stops (start + j) d in
        let same : one.place ≡ other.place = run-place (start + i) d (omega arith) one_upto ∙ sym (run-place (start + j) d (omega arith) other_upto) in
        subst₂ IsBefore (sym one_is) (sym other_is) (moved one other same (in_order (start + i) (start + j) d (omega (arith, below)) (omega (arith, other_upto, inside))))
      where
        moved : (one other : Stop) → one.place ≡ other.place → IsBefore one other → IsBefore (at_place k one) (at_place k other)
        moved one other same (inl lower) = absurd (omega (arith, same, lower))
        moved one other same (inr (at, along)) = inr (refl, along)

    -- one more place has its stops
    module _ (places : List ℕ) (copies : List Stop) (so_far : AreCopied places k stops copies) (is : get_or places k 0 ≡ like) where
      to : (stop : Stop) → Contains (copies ++ own) stop → (stop.place < k + 1) × Contains stops (at_place (get_or places stop.place 0) stop)
      to stop held =
          ⊎_elim
          (λ earlier. let (below, has) = (so_far.exact stop).0 earlier in (omega (arith, below), has))
          (λ among. let (one, one_held, same) = Contains-from_map (at_place k) run stop among in there one stop same (of_run one one_held))
          (Contains-append_cases copies own stop held)
        where
          there : (one stop : Stop) → at_place k one ≡ stop → Contains stops one × (one.place ≡ like) → (stop.place < k + 1) × Contains stops (at_place (get_or places stop.place 0) stop)
          there one stop same (has, at) =
              let back : one ≡ at_place (get_or places k 0) one = ap (λ (n : ℕ). at_place n one) (at ∙ sym is) in
              subst (λ (s : Stop). (s.place < k + 1) × Contains stops (at_place (get_or places s.place 0) s)) same (omega arith, subst (Contains stops) back has)

      from : (stop : Stop) → (stop.place < k + 1) × Contains stops (at_place (get_or places stop.place 0) stop) → Contains (copies ++ own) stop
      from stop (below, has) =
          elim (cases_lt stop.place k) [
            | inl earlier ↦ Contains-append_left copies own stop ((so_far.exact stop).1 (earlier, has))
            | inr upto ↦
                let at : stop.place ≡ k = omega (arith, below, upto) in
                let one = at_place (get_or places stop.place 0) stop in
                let one_at : one.place ≡ like = ap (λ (n : ℕ). get_or places n 0) at ∙ is in
                let same : at_place k one ≡ stop = ap (λ (n : ℕ). at_place n stop) (sym at) in
                Contains-append_right copies own stop (subst (Contains own) same (Contains-map (at_place k) run one (in_run one has one_at)))
          ]

      pub copied-more : AreCopied places (k + 1) stops (copies ++ own)
      copied-more = record {
        exact = λ stop. (to stop, from stop);
        in_order = AllPairs-append IsBefore copies own so_far.in_order own-in_order
            (λ i d within j e inside.
            let (below, has) = (so_far.exact (get_or copies i d)).0 (Contains-get_or copies i d within) in
            let (at, upto) = own-at j e inside in
            let here : (get_or own j e).place ≡ k = ap (λ (s : Stop). s.place) at in
            inl (omega (arith, below, here)));
      }

pub copied-none : (places : List ℕ) (stops : List Stop) → AreCopied places 0 stops []
copied-none places stops = record {
  exact = λ stop. (λ (k, within, is). absurd (omega (arith, within)), λ (below, has). absurd (omega (arith, below)));
  in_order = λ i j d below within. absurd (omega (arith, within));
}

-- by where the stops of each distinct edge begin
module _ (places : List ℕ) (count : ℕ) (stops : List Stop) (starts : List ℕ) (are : AreStarts count stops starts) (likes : All (λ like. like < count) places) (k : ℕ) (within : k < length places) where
  abbrev like_at : ℕ
  like_at = get_or places k 0

  pub like-below : like_at < count
  like-below = likes k 0 within

  first_split : Split like_at (get_or starts like_at 0) stops
  first_split = let below = like-below in are.each like_at (omega (arith, below))

  last_split : Split (like_at + 1) (get_or starts (like_at + 1) 0) stops
  last_split = let below = like-below in are.each (like_at + 1) (omega (arith, below))

  pub like-rising : (get_or starts like_at 0 ≤ get_or starts (like_at + 1) 0) × (get_or starts (like_at + 1) 0 ≤ length stops)
  like-rising = (splits-rising stops like_at (get_or starts like_at 0) (get_or starts (like_at + 1) 0) first_split last_split, last_split.inside)

  pub copied-next : AllPairs IsBefore stops → (copies : List Stop) → AreCopied places k stops copies
      → AreCopied places (k + 1) stops (copies ++ map (at_place k) (between (get_or starts like_at 0) (get_or starts (like_at + 1) 0) stops))
  copied-next in_order copies so_far =
      copied-more stops like_at (get_or starts like_at 0) (get_or starts (like_at + 1) 0) first_split last_split in_order k places copies so_far refl

-- ---- the stops of all edges are those of the distinct ones

module _ (edges distinct : List Edge) (places : List ℕ) (are : AreDistinct edges distinct places) (stops copies : List Stop) (copied : AreCopied places (length places) stops copies) where
  pub AreStopsOf-copied : (Among Now : Edge → ℤ → ℤ → Type 0) → ((edge : Edge) (x y : ℤ) → Among edge x y → Now edge x y) → ((edge : Edge) (x y : ℤ) → Now edge x y → Among edge x y)
      → AreStopsOf Among distinct stops → AreStopsOf Now edges copies
  AreStopsOf-copied Among Now there back told = record { each = each; of = of; in_order = copied.in_order }
    where
      each : (place : ℕ) (edge : Edge) (x y : ℤ) → slice_get edges place ≡ Some edge → Now edge x y → PassesInside edge x y → Contains copies (stop_of place edge x y)
      each place edge x y stands node inside =
          let within = slice_get_within edges place edge stands in
          let size = are.size in
          (copied.exact (stop_of place edge x y)).1 (omega (arith, within, size), told.each (get_or places place 0) edge x y (are.like place edge stands) (back edge x y node) inside)

      of : All (IsStopOf Now edges) copies
      of k d within =
          let stop = get_or copies k d in
          let (below, held) = (copied.exact stop).0 (Contains-get_or copies k d within) in
          let is = All-contains (IsStopOf Among distinct) stops (at_place (get_or places stop.place 0) stop) told.of held in
          let size = are.size in
          let stands : slice_get edges stop.place ≡ Some (get_or edges stop.place is.edge) = slice_get-get_or edges stop.place is.edge (omega (arith, below, size)) in
          let same : get_or edges stop.place is.edge ≡ is.edge = same_Some _ _ (sym (are.like stop.place (get_or edges stop.place is.edge) stands) ∙ is.stands) in record {
            edge = is.edge;
            stands = stands ∙ ap Some same;
            node = there is.edge (point_of is.edge stop).x (point_of is.edge stop).y is.node;
            inside = is.inside;
          }

  to_all : (edge : Edge) → Contains distinct edge → Contains edges edge
  to_all edge = (are.same edge).1

  to_distinct : (edge : Edge) → Contains edges edge → Contains distinct edge
  to_distinct edge = (are.same edge).0

  -- at hot points
  pub AreStops-copied : AreStops distinct stops → AreStops edges copies
  AreStops-copied = AreStopsOf-copied (λ edge x y. IsHot distinct x y × Passes edge x y) (λ edge x y. IsHot edges x y × Passes edge x y)
      (λ edge x y (hot, passes). (IsHot-more distinct edges to_all x y hot, passes))
      (λ edge x y (hot, passes). (IsHot-more edges distinct to_distinct x y hot, passes))

  -- at nodes
  pub AreNodeStops-copied : AreNodeStops distinct stops → AreNodeStops edges copies
  AreNodeStops-copied = AreStopsOf-copied (IsNode distinct) (IsNode edges)
      (λ edge x y (hot, passes, node). (IsHot-more distinct edges to_all x y hot, passes, ⊎_elim inl (λ moved. inr (IsMoved-more distinct edges to_all edge moved)) node))
      (λ edge x y (hot, passes, node). (IsHot-more edges distinct to_distinct x y hot, passes, ⊎_elim inl (λ moved. inr (IsMoved-more edges distinct to_distinct edge moved)) node))

-- ---- where the stops of an edge begin and end, by places

module _ (count : ℕ) (stops : List Stop) (starts : List ℕ) (are : AreStarts count stops starts) (place : ℕ) (below : place < count) where
  pub starts-at : Split place (get_or starts place 0) stops × Split (place + 1) (get_or starts (place + 1) 0) stops
  starts-at = (are.each place (omega (arith, below)), are.each (place + 1) (omega (arith, below)))

  pub starts-rising : (get_or starts place 0 ≤ get_or starts (place + 1) 0) × (get_or starts (place + 1) 0 ≤ length stops)
  starts-rising = (splits-rising stops place (get_or starts place 0) (get_or starts (place + 1) 0) starts-at.0 starts-at.1, starts-at.1.inside)
