-- Which edges stops flag that don't lie on them, one stop after the other, and points that are told in the way.
use Rattle.std.proofs.Common.{◌≡◌, ◌⊎◌, ◌∙◌, arith, ap, inl, inr, refl, subst, sym, ⊎_elim, Bool, true, false, ℕ, ◌<◌, ◌+◌, List, [], ◌∷◌, ◌++◌, Some, get_or, length, take}
use Rattle.std.specs.List.{Contains, slice_get}
use Rattle.std.proofs.lemmas.Bool.{cases_eq, false≢true}
use Rattle.std.proofs.lemmas.List.{take_more}
use Rattle.std.proofs.lemmas.List.Elements.{Contains-append_left, Contains-push, Contains-push_cases}
use Rattle.std.proofs.lemmas.Option.{get_or_from_slice_get, same_Some, slice_get-get_or, slice_get_within}
use Rattle.plane.specs.declared.edge.Edge.{Edge}
use Rattle.plane.specs.declared.point.Point.{Point}
use Rattle.plane.specs.Gains.{GainsThese, IsOfSome}
use Rattle.plane.proofs.GainsLemmas.{gains-only}
use Rattle.noding.specs.Columns.Ends.{AreEnds}
use Rattle.noding.specs.Columns.Passing.{nowhere}
use Rattle.noding.specs.Columns.Rounds.{Flags, FlagsIfBeside, IsBesideAt, IsNewEnd, IsNewly, IsPointOfStop, IsSetAt}
use Rattle.noding.specs.Crossings.{AreAllCrossed, AreHot, IsEndOf, IsPointOf}
use Rattle.noding.specs.Stops.{LiesOn, point_of}
use Rattle.noding.specs.declared.crossings.Crossing.{Crossing}
use Rattle.noding.specs.declared.stops.Stop.{Stop}
use Rattle.noding.proofs.ColumnLemmas.Hot.{AreHot-sorted}

-- ---- points that are told

-- the point of a stop
pub gains-point_of : (edges : List Edge) (stop : Stop) (edge : Edge) (before after : List Point) (last : Point) → slice_get edges stop.place ≡ Some edge → last ≡ point_of edge stop → after ≡ before ++ last ∷ []
    → GainsThese (IsPointOfStop edges stop) before after
gains-point_of edges stop edge before after last stands is =
    gains-only (IsPointOfStop edges stop) before after last (record { edge = edge; stands = stands; is = is })
    (λ point at. at.is ∙ ap (λ (e : Edge). point_of e stop) (same_Some _ _ (sym at.stands ∙ stands)) ∙ sym is)

-- the ends of edges, and behind them the points of their crossings, are the hot points
pub AreHot-ended : (edges : List Edge) (crossings : List Crossing) (ended found : List Point) → AreAllCrossed edges crossings → AreEnds edges ended → GainsThese (IsOfSome IsPointOf crossings) ended found → AreHot edges found
AreHot-ended edges crossings ended found crossed ends gains =
    AreHot-sorted edges crossings crossed ended found found (λ point. (λ held. inr ((ends point).0 held), ⊎_elim (λ (at, within, is). absurd (omega (arith, within))) (λ is. (ends point).1 is))) gains (λ point. (λ held. held, λ held. held))

-- ---- one stop more

-- what stands at a place of a list stands there in another one that has it there
slice_get-same : {X : Type 0} (items others : List X) (place : ℕ) (x : X) → length others ≡ length items → ((d : X) → get_or others place d ≡ get_or items place d) → slice_get items place ≡ Some x → slice_get others place ≡ Some x
slice_get-same items others place x size same stands =
    let within = slice_get_within items place x stands in
    slice_get-get_or others place x (omega (arith, within, size)) ∙ ap Some (same x ∙ get_or_from_slice_get items place x x stands)

-- one of the stops is one of those and one more
beside_more : (edges : List Edge) (stops : List Stop) (last : Stop) (place : ℕ) → IsBesideAt edges stops place → IsBesideAt edges (stops ++ last ∷ []) place
beside_more edges stops last place at = record {
  stop = at.stop;
  edge = at.edge;
  held = Contains-append_left stops (last ∷ []) at.stop at.held;
  at = at.at;
  stands = at.stands;
  beside = at.beside;
}

-- or the last one
beside_cases : (edges : List Edge) (stops : List Stop) (last : Stop) (edge : Edge) (place : ℕ) → slice_get edges last.place ≡ Some edge → IsBesideAt edges (stops ++ last ∷ []) place
    → IsBesideAt edges stops place ⊎ ((place ≡ last.place) × (¬ (LiesOn edge last)))
beside_cases edges stops last edge place stands at =
    elim (Contains-push_cases stops last at.stop at.held) [
      | inl earlier ↦ inl (record { stop = at.stop; edge = at.edge; held = earlier; at = at.at; stands = at.stands; beside = at.beside })
      | inr same ↦
          let there : last.place ≡ place = ap (λ (s : Stop). s.place) same ∙ at.at in
          let edge_is : at.edge ≡ edge = same_Some _ _ (sym at.stands ∙ ap (slice_get edges) (sym there) ∙ stands) in
          inr (sym there, subst (λ (e : Edge). ¬ (LiesOn e last)) edge_is (subst (λ (s : Stop). ¬ (LiesOn at.edge s)) (sym same) at.beside))
    ]

module _ (edges : List Edge) (stops : List Stop) (early flags : List Bool) (alone : List Edge) (passed : List Point) (are : Flags edges stops early flags alone passed)
    (last : Stop) (edge : Edge) (stands : slice_get edges last.place ≡ Some edge) where
  -- one that lies on its edge, or is one of an edge that is flagged
  flags_none : LiesOn edge last ⊎ (get_or flags last.place false ≡ true) → Flags edges (stops ++ last ∷ []) early flags alone passed
  flags_none kept = record {
    size = are.size;
    exact = λ place. (
      λ is. ⊎_elim inl (λ at. inr (beside_more edges stops last place at)) ((are.exact place).0 is),
      ⊎_elim (λ was. (are.exact place).1 (inl was)) (λ at. ⊎_elim (λ earlier. (are.exact place).1 (inr earlier)) (λ (there, beside). flagged_there place there beside) (beside_cases edges stops last edge place stands at)),
    );
    alone_size = are.alone_size;
    newly = are.newly;
    others = are.others;
    ends = are.ends;
  }
    where
      flagged_there : (place : ℕ) → place ≡ last.place → ¬ (LiesOn edge last) → get_or flags place false ≡ true
      flagged_there place there beside = ap (λ (n : ℕ). get_or flags n false) there ∙ ⊎_elim (λ on. absurd (beside on)) (λ is. is) kept

  -- one that doesn't, of an edge that isn't flagged
  module _ (beside : ¬ (LiesOn edge last)) (unflagged : get_or flags last.place false ≡ false) (new_flags : List Bool) (new_alone : List Edge) (new_passed : List Point)
      (sets : IsSetAt last.place true flags new_flags) (sets_alone : IsSetAt last.place edge alone new_alone) (gains : GainsThese (IsEndOf edge) passed new_passed) where
    was_not : get_or early last.place false ≡ false
    was_not = go (get_or early last.place false) refl
      where
        go : (flag : Bool) → get_or early last.place false ≡ flag → get_or early last.place false ≡ false
        go true is = absurd (false≢true (sym unflagged ∙ (are.exact last.place).1 (inl is)))
        go false is = is

    newly_last : (place : ℕ) → place ≡ last.place → IsNewly early new_flags place
    newly_last place there = (ap (λ (n : ℕ). get_or early n false) there ∙ was_not, ap (λ (n : ℕ). get_or new_flags n false) there ∙ sets.1 false)

    edge_last : (place : ℕ) (other : Edge) → place ≡ last.place → slice_get edges place ≡ Some other → other ≡ edge
    edge_last place other there at = same_Some _ _ (sym at ∙ ap (slice_get edges) there ∙ stands)

    flags_keep : (place : ℕ) → get_or flags place false ≡ true → get_or new_flags place false ≡ true
    flags_keep place is = ⊎_elim (λ there. ap (λ (n : ℕ). get_or new_flags n false) there ∙ sets.1 false) (λ other. sets.2 place false other ∙ is) (cases_eq place last.place)

    exact_to : (place : ℕ) → get_or new_flags place false ≡ true → (get_or early place false ≡ true) ⊎ IsBesideAt edges (stops ++ last ∷ []) place
    exact_to place is =
        elim (cases_eq place last.place) [
          | inl there ↦ inr (record {
            stop = last;
            edge = edge;
            held = Contains-push stops last;
            at = sym there;
            stands = ap (slice_get edges) there ∙ stands;
            beside = beside;
          })
          | inr other ↦ ⊎_elim inl (λ at. inr (beside_more edges stops last place at)) ((are.exact place).0 (sym (sets.2 place false other) ∙ is))
        ]

    exact_from : (place : ℕ) → (get_or early place false ≡ true) ⊎ IsBesideAt edges (stops ++ last ∷ []) place → get_or new_flags place false ≡ true
    exact_from place (inl was) = flags_keep place ((are.exact place).1 (inl was))
    exact_from place (inr at) =
        ⊎_elim (λ earlier. flags_keep place ((are.exact place).1 (inr earlier))) (λ (there, _). (newly_last place there).1) (beside_cases edges stops last edge place stands at)

    newly_at : (place : ℕ) (other : Edge) → slice_get edges place ≡ Some other → IsNewly early new_flags place → slice_get new_alone place ≡ Some other
    newly_at place other at (was, is) =
        elim (cases_eq place last.place) [
          | inl there ↦
              let within = slice_get_within edges place other at in
              let alone_size = are.alone_size in
              let set_size = sets_alone.0 in
              slice_get-get_or new_alone place edge (omega (arith, within, alone_size, set_size)) ∙ ap Some (ap (λ (n : ℕ). get_or new_alone n edge) there ∙ sets_alone.1 edge ∙ sym (edge_last place other there at))
          | inr differs ↦
              slice_get-same alone new_alone place other sets_alone.0 (λ d. sets_alone.2 place d differs) (are.newly place other at (was, sym (sets.2 place false differs) ∙ is))
        ]

    others_at : (place : ℕ) (other : Edge) → slice_get new_alone place ≡ Some other → (slice_get edges place ≡ Some other) × IsNewly early new_flags place ⊎ (other ≡ nowhere)
    others_at place other at =
        elim (cases_eq place last.place) [
          | inl there ↦
              let is : other ≡ edge = sym (get_or_from_slice_get new_alone place other edge at) ∙ ap (λ (n : ℕ). get_or new_alone n edge) there ∙ sets_alone.1 edge in
              inl (ap (slice_get edges) there ∙ stands ∙ ap Some (sym is), newly_last place there)
          | inr differs ↦
              ⊎_elim (λ (found, newly). inl (found, (newly.0, flags_keep place newly.1))) inr
              (are.others place other (slice_get-same new_alone alone place other (sym sets_alone.0) (λ d. sym (sets_alone.2 place d differs)) at))
        ]

    end_to : (point : Point) → Contains passed point ⊎ IsEndOf edge point → IsNewEnd edges early new_flags point
    end_to point (inl held) = let at = (are.ends point).0 held in record {
      place = at.place;
      edge = at.edge;
      stands = at.stands;
      newly = (at.newly.0, flags_keep at.place at.newly.1);
      end = at.end;
    }
    end_to point (inr end) = record { place = last.place; edge = edge; stands = stands; newly = newly_last last.place refl; end = end }

    end_from : (point : Point) → IsNewEnd edges early new_flags point → Contains passed point ⊎ IsEndOf edge point
    end_from point at =
        elim (cases_eq at.place last.place) [
          | inl there ↦ inr (subst (λ (e : Edge). IsEndOf e point) (edge_last at.place at.edge there at.stands) at.end)
          | inr differs ↦ inl ((are.ends point).1 (record {
            place = at.place;
            edge = at.edge;
            stands = at.stands;
            newly = (at.newly.0, sym (sets.2 at.place false differs) ∙ at.newly.1);
            end = at.end;
          }))
        ]

    flags_one : Flags edges (stops ++ last ∷ []) early new_flags new_alone new_passed
    flags_one = record {
      size = sets.0 ∙ are.size;
      exact = λ place. (exact_to place, exact_from place);
      alone_size = sets_alone.0 ∙ are.alone_size;
      newly = newly_at;
      others = others_at;
      ends = λ point. (λ held. end_to point ((gains point).0 held), λ at. (gains point).1 (end_from point at));
    }

  flags_last : (new_flags : List Bool) (new_alone : List Edge) (new_passed : List Point) → FlagsIfBeside edge last flags alone passed new_flags new_alone new_passed → Flags edges (stops ++ last ∷ []) early new_flags new_alone new_passed
  flags_last new_flags new_alone new_passed (inl (kept, same, same_alone, same_passed)) =
      subst (Flags edges (stops ++ last ∷ []) early new_flags new_alone) (sym same_passed)
      (subst (λ (list : List Edge). Flags edges (stops ++ last ∷ []) early new_flags list passed) (sym same_alone)
      (subst (λ (list : List Bool). Flags edges (stops ++ last ∷ []) early list alone passed) (sym same) (flags_none kept)))
  flags_last new_flags new_alone new_passed (inr (beside, unflagged, sets, sets_alone, gains)) = flags_one beside unflagged new_flags new_alone new_passed sets sets_alone gains

-- ---- all stops

module _ (edges : List Edge) (stops : List Stop) (early flags : List Bool) (alone : List Edge) (passed : List Point) (k : ℕ) (are : Flags edges (take k stops) early flags alone passed) where
  pub flags-more : (d : Edge) (e : Stop) (new_flags : List Bool) (new_alone : List Edge) (new_passed : List Point) → k < length stops → (get_or stops k e).place < length edges
      → FlagsIfBeside (get_or edges (get_or stops k e).place d) (get_or stops k e) flags alone passed new_flags new_alone new_passed → Flags edges (take (k + 1) stops) early new_flags new_alone new_passed
  flags-more d e new_flags new_alone new_passed within inside flags_it =
      let last = get_or stops k e in
      subst (λ (done : List Stop). Flags edges done early new_flags new_alone new_passed) (sym (take_more stops k e within))
      (flags_last edges (take k stops) early flags alone passed are last (get_or edges last.place d) (slice_get-get_or edges last.place d inside) new_flags new_alone new_passed flags_it)
