-- The stops at hot points that are nodes.
use Rattle.std.proofs.Common.{◌≡◌, ◌⊎◌, ◌↔◌, ◌++◌, ◌∷◌, ◌+◌, ◌<◌, [], ℕ, ℤ, Bool, true, false, List, Some, get_or, inl, inr, length, refl, sym, subst, subst₂, take, ◌∙◌, ⊎_elim, arith}
use Rattle.std.specs.Bool.{MatchBool}
use Rattle.std.specs.List.{All, AllPairs, Contains, slice_get}
use Rattle.std.proofs.lemmas.List.{get_or-take, get_or_default, length-take-le, take_more}
use Rattle.std.proofs.lemmas.List.Elements.{All-contains, All-push, Contains-append_left, Contains-get_or, Contains-push, Contains-push_cases}
use Rattle.std.proofs.lemmas.List.Quantifiers.{all_pairs_push}
use Rattle.std.proofs.lemmas.Option.{same_Some, slice_get-get_or, slice_get_within}
use Rattle.plane.specs.declared.edge.Edge.{Edge}
use Rattle.plane.specs.declared.point.Point.{Point}
use Rattle.plane.specs.Meet.Kinds.{HasPoint}
use Rattle.noding.specs.Close.{PassesInside}
use Rattle.noding.specs.Local.{AreMoved, IsMoved, IsNode}
use Rattle.noding.specs.Stops.{AppendsIfKept, AreKept, AreNodeStops, AreStops, IsBefore, IsKept, IsKeptAmong, IsStop, IsStopOf, LiesOn, LiesOnItsEdge, stop_of}
use Rattle.noding.specs.declared.stops.Stop.{Stop}
use Rattle.noding.proofs.ChainLemmas.Stops.{point-of_stop}
use Rattle.noding.proofs.ChainLemmas.Zips.{AllZip-at}

-- what a test says, or what is false
pub other_fails : (flag test : Bool) (A : Type 0) → flag ≡ false → MatchBool test A (¬ A) → MatchBool test (A ⊎ (flag ≡ true)) (¬ (A ⊎ (flag ≡ true)))
other_fails true test A same is = absurd (cc)
other_fails false true A same is = inl is
other_fails false false A same is = λ kept. ⊎_elim is (λ no. absurd (cc)) kept

-- a place of a stop is one of an edge
pub stops-within : (edges : List Edge) (stops : List Stop) → AreStops edges stops → All (λ stop. stop.place < length edges) stops
stops-within edges stops are k d within = let is = are.of k d within in slice_get_within edges (get_or stops k d).place is.edge is.stands

-- ---- what lies on its edge

module _ (edges : List Edge) (stops : List Stop) (k : ℕ) (d : Edge) (e : Stop) (within : k < length stops) (inside : (get_or stops k e).place < length edges) where
  -- the edge of the stop at this place, and the stop
  abbrev own : Edge
  own = get_or edges (get_or stops k e).place d

  abbrev last : Stop
  last = get_or stops k e

  own_is : (edge : Edge) → slice_get edges last.place ≡ Some edge → own ≡ edge
  own_is edge stands = same_Some _ _ (sym (slice_get-get_or edges last.place d inside) ∙ stands)

  -- all lie so that stand before it, and it does
  pub on-more : All (LiesOnItsEdge edges) (take k stops) → LiesOn own last → All (LiesOnItsEdge edges) (take (k + 1) stops)
  on-more all on =
      subst (All (LiesOnItsEdge edges)) (sym (take_more stops k e within))
      (All-push (LiesOnItsEdge edges) (take k stops) last all (λ edge stands. subst (λ (it : Edge). LiesOn it last) (own_is edge stands) on))

  -- it doesn't
  pub on-fails : ¬ (LiesOn own last) → ¬ (All (LiesOnItsEdge edges) stops)
  on-fails none all = none (all k e within own (slice_get-get_or edges last.place d inside))

  -- ---- what is kept

  module _ (moved : List Bool) (now after : List Stop) (in_order : AllPairs IsBefore stops) (are : AreKept edges moved (take k stops) now) where
    abbrev flag : Bool
    flag = get_or moved last.place false

    before_last : (stop : Stop) → Contains (take k stops) stop → IsBefore stop last
    before_last stop (i, short, is) =
        let lower : i < k = omega (arith, short, within, length-take-le k stops) in
        subst₂ IsBefore (sym (get_or-take k stops i stop lower) ∙ is) (get_or_default stops k stop e within) (in_order i k stop lower within)

    of_own : IsKeptAmong edges moved last → IsKept own flag last
    of_own its = subst (λ (it : Edge). IsKept it flag last) (sym (own_is its.edge its.stands)) its.kept

    kept_last : IsKept own flag last → after ≡ now ++ last ∷ [] → AreKept edges moved (take k stops ++ last ∷ []) after
    kept_last has pushed =
        subst (AreKept edges moved (take k stops ++ last ∷ [])) (sym pushed)
        (record {
          exact = λ stop. (to stop, from stop);
          in_order = all_pairs_push IsBefore now last are.in_order (λ j c short. before_last (get_or now j c) ((are.exact (get_or now j c)).0 (Contains-get_or now j c short)).0);
        })
      where
        its : IsKeptAmong edges moved last
        its = record { edge = own; stands = slice_get-get_or edges last.place d inside; kept = has }

        to : (stop : Stop) → Contains (now ++ last ∷ []) stop → Contains (take k stops ++ last ∷ []) stop × IsKeptAmong edges moved stop
        to stop held =
            ⊎_elim
            (λ earlier. let (among, is) = (are.exact stop).0 earlier in (Contains-append_left (take k stops) (last ∷ []) stop among, is))
            (λ same. subst (λ (s : Stop). Contains (take k stops ++ last ∷ []) s × IsKeptAmong edges moved s) same (Contains-push (take k stops) last, its))
            (Contains-push_cases now last stop held)

        from : (stop : Stop) → Contains (take k stops ++ last ∷ []) stop × IsKeptAmong edges moved stop → Contains (now ++ last ∷ []) stop
        from stop (among, is) =
            ⊎_elim
            (λ earlier. Contains-append_left now (last ∷ []) stop ((are.exact stop).1 (earlier, is)))
            (λ same. subst (λ (s : Stop). Contains (now ++ last ∷ []) s) same (Contains-push now last))
            (Contains-push_cases (take k stops) last stop among)

    left_out : ¬ (IsKept own flag last) → after ≡ now → AreKept edges moved (take k stops ++ last ∷ []) after
    left_out none same =
        subst (AreKept edges moved (take k stops ++ last ∷ [])) (sym same)
        (record {
          exact = λ stop. (
            λ held. let (among, is) = (are.exact stop).0 held in (Contains-append_left (take k stops) (last ∷ []) stop among, is),
            λ (among, is). ⊎_elim
                (λ earlier. (are.exact stop).1 (earlier, is))
                (λ equal. absurd (none (of_own (subst (IsKeptAmong edges moved) (sym equal) is))))
                (Contains-push_cases (take k stops) last stop among),
          );
          in_order = are.in_order;
        })

    -- of the stops before it those are kept that stand there, and of it what is told
    pub kept-more : AppendsIfKept own flag last now after → AreKept edges moved (take (k + 1) stops) after
    kept-more (inl (has, pushed)) = subst (λ (done : List Stop). AreKept edges moved done after) (sym (take_more stops k e within)) (kept_last has pushed)
    kept-more (inr (none, same)) = subst (λ (done : List Stop). AreKept edges moved done after) (sym (take_more stops k e within)) (left_out none same)

pub kept-none : (edges : List Edge) (moved : List Bool) → AreKept edges moved [] []
kept-none edges moved = record {
  exact = λ stop. (λ (k, within, is). absurd (omega (arith, within)), λ held. held.0);
  in_order = λ i j d below within. absurd (omega (arith, within));
}

-- ---- nodes

module _ (edges : List Edge) (moved : List Bool) (told : AreMoved edges moved) where
  -- what is told of the edge at a place
  pub moved-at : (place : ℕ) (edge : Edge) → slice_get edges place ≡ Some edge → (get_or moved place false ≡ true) ↔ IsMoved edges edge
  moved-at place edge stands =
      let within = slice_get_within edges place edge stands in
      let same : get_or edges place edge ≡ edge = same_Some _ _ (sym (slice_get-get_or edges place edge within) ∙ stands) in
      subst (λ (it : Edge). (get_or moved place false ≡ true) ↔ IsMoved edges it) same
      (same_is (get_or moved place false) (AllZip-at (λ edge is_moved. MatchBool is_moved (IsMoved edges edge) (¬ (IsMoved edges edge))) edges moved edge false place told within))
    where
      same_is : {A : Type 0} (flag : Bool) → MatchBool flag A (¬ A) → (flag ≡ true) ↔ A
      same_is true is = (λ same. is, λ a. refl)
      same_is false none = (λ same. absurd (cc), λ a. absurd (none a))

  -- so of stops that have all nodes those that are kept are the nodes
  module _ (stops : List Stop) (have : (place : ℕ) (edge : Edge) (x y : ℤ) → slice_get edges place ≡ Some edge → IsNode edges edge x y → PassesInside edge x y → Contains stops (stop_of place edge x y)) (all : All (IsStop edges) stops) where
    pub AreNodeStops-among : (nodes : List Stop) → AreKept edges moved stops nodes → AreNodeStops edges nodes
    AreNodeStops-among nodes kept = record { each = each; of = of; in_order = kept.in_order }
      where
        each : (place : ℕ) (edge : Edge) (x y : ℤ) → slice_get edges place ≡ Some edge → IsNode edges edge x y → PassesInside edge x y → Contains nodes (stop_of place edge x y)
        each place edge x y stands (hot, passes, node) inside =
            (kept.exact (stop_of place edge x y)).1 (
              have place edge x y stands (hot, passes, node) inside,
              record {
                edge = edge;
                stands = stands;
                kept = ⊎_elim (λ on. inl (subst (λ (p : Point). HasPoint edge p.x p.y) (sym (point-of_stop place edge x y)) on)) (λ is. inr ((moved-at place edge stands).1 is)) node;
              },
            )

        of : All (IsStopOf (IsNode edges) edges) nodes
        of k d within =
            let stop = get_or nodes k d in
            let (held, its) = (kept.exact stop).0 (Contains-get_or nodes k d within) in
            let is = All-contains (IsStop edges) stops stop all held in
            let same : its.edge ≡ is.edge = same_Some _ _ (sym its.stands ∙ is.stands) in
            let why : IsKept is.edge (get_or moved stop.place false) stop = subst (λ (it : Edge). IsKept it (get_or moved stop.place false) stop) same its.kept in record {
              edge = is.edge;
              stands = is.stands;
              node = (is.node.0, is.node.1, ⊎_elim inl (λ flag. inr ((moved-at stop.place is.edge is.stands).0 flag)) why);
              inside = is.inside;
            }

module _ (edges : List Edge) (stops : List Stop) (are : AreStops edges stops) where
  -- stops that all lie on their edges are nodes
  pub AreNodeStops-on : All (LiesOnItsEdge edges) stops → AreNodeStops edges stops
  AreNodeStops-on on = record {
    each = λ place edge x y stands node inside. are.each place edge x y stands (node.0, node.1) inside;
    of = λ k d within. let is = are.of k d within in record {
      edge = is.edge;
      stands = is.stands;
      node = (is.node.0, is.node.1, inl (on k d within is.edge is.stands));
      inside = is.inside;
    };
    in_order = are.in_order;
  }

  -- and so are, of all stops, those that are kept
  pub AreNodeStops-kept : (moved : List Bool) → AreMoved edges moved → (nodes : List Stop) → AreKept edges moved stops nodes → AreNodeStops edges nodes
  AreNodeStops-kept moved told = AreNodeStops-among edges moved told stops (λ place edge x y stands node inside. are.each place edge x y stands (node.0, node.1) inside) are.of
