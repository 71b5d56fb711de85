-- The pairs of places that a sweep by columns tells have all edges that cross between their ends.
use Rattle.std.proofs.Common.{arith, ap, inl, inr, pos, refl, sym, subst, ◌∙◌, ℕ, ℤ, ◌+◌, ◌<◌, ◌≤◌, ◌≡◌, ◌≢◌, ◌⊎◌, ◌-ℤ◌, List, [], ◌∷◌, ◌++◌, Some, get_or, length, ⊎_elim}
use Rattle.std.specs.List.{All, Contains, slice_get}
use Rattle.std.proofs.lemmas.Bool.{cases_lt}
use Rattle.std.proofs.lemmas.Int.{ints}
use Rattle.std.proofs.lemmas.List.{length-append}
use Rattle.std.proofs.lemmas.List.Elements.{All-push, Contains-get_or}
use Rattle.std.proofs.lemmas.Option.{get_or_from_slice_get, same_Some, slice_get-get_or, slice_get_within}
use Rattle.i_tree.proofs.RbLemmas.Slots.Growth.{slice_get-append_end, slice_get-append_kept}
use Rattle.plane.specs.declared.edge.Edge.{Edge}
use Rattle.plane.specs.declared.columns.Asked.{Asked}
use Rattle.plane.specs.Columns.Asked.{Reaches}
use Rattle.plane.specs.Meet.Crosses.{cross}
use Rattle.plane.specs.Pairs.Pairs.{ArePairs, PairBetween}
use Rattle.plane.specs.SweepLine.Crossings.{Cross}
use Rattle.plane.proofs.MeetLemmas.Along.{same_or_apart}
use Rattle.plane.proofs.MeetLemmas.Identities.{identity, minus, number, times}
use Rattle.noding.specs.Chains.{AreNotParallel}
use Rattle.noding.specs.Columns.Uprights.{AppendsIfUpright, AreAsked, IsAskedAbout, IsPairAbout, IsUpright, asked_about}
use Rattle.noding.specs.Crossings.{CrossBetweenEnds, HaveAllCrossed}
use Rattle.plane.specs.Gains.{GainsThese, IsOfSome}
use Rattle.noding.proofs.ChainLemmas.Between.{CrossBetweenEnds-exchanged, at_two_places}
use Rattle.plane.proofs.MeetingLemmas.Crossing.{cross-between_ends, reaches-between_ends}
use Rattle.noding.proofs.SnapLemmas.Numbers.{n_of}

-- two upright edges are parallel
upright_parallel : (one other : Edge) → one.x0 ≡ one.x1 → other.x0 ≡ other.x1 → ¬ (AreNotParallel one other)
upright_parallel one other same other_same slanted =
    let nowhere : (one.x1 -ℤ one.x0) ≡ pos 0 = omega (arith, ints, same) in
    let other_nowhere : (other.x1 -ℤ other.x0) ≡ pos 0 = omega (arith, ints, other_same) in
    slanted
    (ap (λ w. cross w (one.y1 -ℤ one.y0) (other.x1 -ℤ other.x0) (other.y1 -ℤ other.y0)) nowhere
    ∙ ap (λ w. cross (pos 0) (one.y1 -ℤ one.y0) w (other.y1 -ℤ other.y0)) other_nowhere
    ∙ identity (minus (times (n_of 0) (minus (number other.y1) (number other.y0))) (times (minus (number one.y1) (number one.y0)) (n_of 0))) (n_of 0) (omega arith))

-- a point is parallel to each edge
upright_tall : (one other : Edge) → one.x0 ≡ one.x1 → AreNotParallel one other → one.y0 ≢ one.y1
upright_tall one other same slanted level =
    let nowhere : (one.x1 -ℤ one.x0) ≡ pos 0 = omega (arith, ints, same) in
    let no_height : (one.y1 -ℤ one.y0) ≡ pos 0 = omega (arith, ints, level) in
    slanted
    (ap (λ w. cross w (one.y1 -ℤ one.y0) (other.x1 -ℤ other.x0) (other.y1 -ℤ other.y0)) nowhere
    ∙ ap (λ w. cross (pos 0) w (other.x1 -ℤ other.x0) (other.y1 -ℤ other.y0)) no_height
    ∙ identity (minus (times (n_of 0) (minus (number other.y1) (number other.y0))) (times (n_of 0) (minus (number other.x1) (number other.x0)))) (n_of 0) (omega arith))

module _ (edges : List Edge) (places : List ℕ) (asked : List Asked) (crossed met pairs : List (ℕ × ℕ)) (are : AreAsked edges places asked) (gains : GainsThese (IsOfSome (IsPairAbout places) met) crossed pairs) where
  module _ (all_crossed : ArePairs Cross edges crossed) (all_met : (i k : ℕ) → PairBetween Reaches edges asked i k → Contains met (i, k)) where
    -- neither is upright
    told_crossed : (i j : ℕ) (one other : Edge) (x y : ℤ) → one.x0 ≢ one.x1 → other.x0 ≢ other.x1 → i < j → slice_get edges i ≡ Some one → slice_get edges j ≡ Some other → CrossBetweenEnds one other x y → Contains pairs (i, j)
    told_crossed i j one other x y wide other_wide below first second (slanted, (point, of_one, of_other, rounds, none)) =
        (gains (i, j)).1 (inl ((all_crossed.exact i j).1 (record {
          one = one;
          other = other;
          rising = below;
          first = first;
          second = second;
          meet = cross-between_ends one other point wide other_wide slanted of_one of_other (λ end. none (inl end)) (λ end. none (inr end));
        })))

    either_crossed : (i j : ℕ) (one other : Edge) (x y : ℤ) → one.x0 ≢ one.x1 → other.x0 ≢ other.x1 → slice_get edges i ≡ Some one → slice_get edges j ≡ Some other → CrossBetweenEnds one other x y → Contains pairs (i, j) ⊎ Contains pairs (j, i)
    either_crossed i j one other x y wide other_wide first second between =
        elim (cases_lt i j) [
          | inl below ↦ inl (told_crossed i j one other x y wide other_wide below first second between)
          | inr upto ↦
              let apart = at_two_places edges i j one other x y first second between in
              inr (told_crossed j i other one x y other_wide wide (omega (arith, upto, apart)) second first (CrossBetweenEnds-exchanged one other x y between))
        ]

    -- the first one is
    told_met : (i j : ℕ) (one other : Edge) (x y : ℤ) → one.x0 ≡ one.x1 → other.x0 ≢ other.x1 → slice_get edges i ≡ Some one → slice_get edges j ≡ Some other → CrossBetweenEnds one other x y → Contains pairs (j, i)
    told_met i j one other x y same wide first second (slanted, (point, of_one, of_other, rounds, none)) =
        let about = are.all i one first (same, upright_tall one other same slanted) in
        let found : Contains met (j, about.at) =
        all_met j about.at (record {
          one = other;
          other = asked_about one;
          first = second;
          second = about.is;
          meet = reaches-between_ends one other point same wide of_one of_other (λ end. none (inr end));
        }) in
        (gains (j, i)).1 (inr ((j, about.at), found, ap (λ (place : ℕ). (j, place)) (sym (get_or_from_slice_get places about.at i 0 about.stands))))

    pub HaveAllCrossed-columns : HaveAllCrossed edges pairs
    HaveAllCrossed-columns i j one other x y first second between =
        elim (same_or_apart one.x0 one.x1) [
          | inl same ↦ elim (same_or_apart other.x0 other.x1) [
            | inl other_same ↦ absurd (upright_parallel one other same other_same between.0)
            | inr other_wide ↦ inr (told_met i j one other x y same other_wide first second between)
          ]
          | inr wide ↦ elim (same_or_apart other.x0 other.x1) [
            | inl other_same ↦ inl (told_met j i other one x y other_same wide second first (CrossBetweenEnds-exchanged one other x y between))
            | inr other_wide ↦ either_crossed i j one other x y wide other_wide first second between
          ]
        ]

  -- the places are those of edges
  pub pairs-within : All (λ pair. (pair.0 < length edges) × (pair.1 < length edges)) crossed → All (λ pair. (pair.0 < length edges) × (pair.1 < length asked)) met → All (λ pair. (pair.0 < length edges) × (pair.1 < length edges)) pairs
  pairs-within within met_within k d below =
      ⊎_elim (held_within crossed within (get_or pairs k d))
      (λ (found, held, is).
      let at = held_within_asked found held in
      subst (λ (pair : ℕ × ℕ). (pair.0 < length edges) × (pair.1 < length edges)) (sym is) (at.0, are.within found.1 0 (let size = are.size in omega (arith, at.1, size))))
      ((gains (get_or pairs k d)).0 (Contains-get_or pairs k d below))
    where
      held_within : (list : List (ℕ × ℕ)) → All (λ pair. (pair.0 < length edges) × (pair.1 < length edges)) list → (pair : ℕ × ℕ) → Contains list pair → (pair.0 < length edges) × (pair.1 < length edges)
      held_within list all pair (at, inside, is) = subst (λ (p : ℕ × ℕ). (p.0 < length edges) × (p.1 < length edges)) is (all at pair inside)

      held_within_asked : (pair : ℕ × ℕ) → Contains met pair → (pair.0 < length edges) × (pair.1 < length asked)
      held_within_asked pair (at, inside, is) = subst (λ (p : ℕ × ℕ). (p.0 < length edges) × (p.1 < length asked)) is (met_within at pair inside)

-- ---- which upright edges are asked about

-- so are those of the first so many edges
pub record AreAskedUpto (edges : List Edge) (upto : ℕ) (places : List ℕ) (asked : List Asked) : Type 0 where
  pub size : length asked ≡ length places
  pub within : All (λ place. place < length edges) places
  pub all : (place : ℕ) (edge : Edge) → place < upto → slice_get edges place ≡ Some edge → IsUpright edge → IsAskedAbout places asked place edge

pub asked-none : (edges : List Edge) (places : List ℕ) (asked : List Asked) → places ≡ [] → asked ≡ [] → AreAskedUpto edges 0 places asked
asked-none edges places asked none nothing = record {
  size = ap length nothing ∙ sym (ap length none);
  within = subst (All (λ place. place < length edges)) (sym none) (λ k d below. absurd (omega (arith, below)));
  all = λ place edge below. absurd (omega (arith, below));
}

module _ (edges : List Edge) (k : ℕ) (d : Edge) (places : List ℕ) (asked : List Asked) (inside : k < length edges) (so_far : AreAskedUpto edges k places asked) where
  is_next : (place : ℕ) (edge : Edge) → place < k + 1 → ¬ (place < k) → slice_get edges place ≡ Some edge → (place ≡ k) × (get_or edges k d ≡ edge)
  is_next place edge below later stands =
      let same : place ≡ k = omega (arith, below, later) in
      (same, same_Some _ _ (sym (slice_get-get_or edges k d inside) ∙ sym (ap (slice_get edges) same) ∙ stands))

  kept : (place : ℕ) (edge : Edge) → IsAskedAbout places asked place edge → IsAskedAbout (places ++ k ∷ []) (asked ++ asked_about (get_or edges k d) ∷ []) place edge
  kept place edge about = record {
    at = about.at;
    stands = slice_get-append_kept places (k ∷ []) about.at place about.stands;
    is = slice_get-append_kept asked (asked_about (get_or edges k d) ∷ []) about.at (asked_about edge) about.is;
  }

  last : IsAskedAbout (places ++ k ∷ []) (asked ++ asked_about (get_or edges k d) ∷ []) k (get_or edges k d)
  last = let size = so_far.size in record {
    at = length places;
    stands = slice_get-append_end places (length places) k refl;
    is = slice_get-append_end asked (length places) (asked_about (get_or edges k d)) (sym size);
  }

  with_upright : (new_places : List ℕ) (new_asked : List Asked) → new_places ≡ places ++ k ∷ [] → new_asked ≡ asked ++ asked_about (get_or edges k d) ∷ [] → AreAskedUpto edges (k + 1) new_places new_asked
  with_upright new_places new_asked same same_asked =
      subst (λ (list : List ℕ). AreAskedUpto edges (k + 1) list new_asked) (sym same)
      (subst (AreAskedUpto edges (k + 1) (places ++ k ∷ [])) (sym same_asked)
      (record {
        size = (let size = so_far.size in omega (arith, size, length-append places (k ∷ []), length-append asked (asked_about (get_or edges k d) ∷ [])));
        within = All-push (λ place. place < length edges) places k so_far.within inside;
        all = λ place edge below stands upright. elim (cases_lt place k) [
          | inl earlier ↦ kept place edge (so_far.all place edge earlier stands upright)
          | inr upto ↦
              let (at, edge_is) = is_next place edge below (λ earlier. omega (arith, earlier, upto)) stands in
              subst (λ (e : Edge). IsAskedAbout (places ++ k ∷ []) (asked ++ asked_about (get_or edges k d) ∷ []) place e) edge_is
              (subst (λ (p : ℕ). IsAskedAbout (places ++ k ∷ []) (asked ++ asked_about (get_or edges k d) ∷ []) p (get_or edges k d)) (sym at) last)
        ];
      }))

  without : (new_places : List ℕ) (new_asked : List Asked) → ¬ (IsUpright (get_or edges k d)) → new_places ≡ places → new_asked ≡ asked → AreAskedUpto edges (k + 1) new_places new_asked
  without new_places new_asked none same same_asked =
      subst (λ (list : List ℕ). AreAskedUpto edges (k + 1) list new_asked) (sym same)
      (subst (AreAskedUpto edges (k + 1) places) (sym same_asked)
      (record {
        size = so_far.size;
        within = so_far.within;
        all = λ place edge below stands upright. elim (cases_lt place k) [
          | inl earlier ↦ so_far.all place edge earlier stands upright
          | inr upto ↦
              let (at, edge_is) = is_next place edge below (λ earlier. omega (arith, earlier, upto)) stands in
              absurd (none (subst IsUpright (sym edge_is) upright))
        ];
      }))

  -- one more
  pub asked-more : (new_places : List ℕ) (new_asked : List Asked) → AppendsIfUpright k (get_or edges k d) places asked new_places new_asked → AreAskedUpto edges (k + 1) new_places new_asked
  asked-more new_places new_asked (inl (upright, same, same_asked)) = with_upright new_places new_asked same same_asked
  asked-more new_places new_asked (inr (none, same, same_asked)) = without new_places new_asked none same same_asked

-- all of them
pub asked-all : (edges : List Edge) (k : ℕ) (places : List ℕ) (asked : List Asked) → length edges ≤ k → AreAskedUpto edges k places asked → AreAsked edges places asked
asked-all edges k places asked past so_far = record {
  size = so_far.size;
  within = so_far.within;
  all = λ place edge stands upright. (let inside = slice_get_within edges place edge stands in so_far.all place edge (omega (arith, inside, past)) stands upright);
}
