-- Of edges that bound a region some ring runs counterclockwise.
use Rattle.std.proofs.Common.{◌≡◌, ◌≢◌, ◌<◌, ◌++◌, [], ◌∷◌, inl, inr, ℕ, zero, suc, length, get_or, map, Bool, true, false, not, ◌&&◌, cond, ℤ, pos, ◌<ℤ◌, List, Option, Some, None, Ordering, Less, Equal, Greater, refl, ap, sym, subst, ◌∙◌, append_assoc, append-nil, arith}
use Rattle.std.specs.List.{All, Contains, flat_map, position, position_or_len}
use Rattle.std.specs.Prelude.{IfSome, nat_lt}
use Rattle.std.specs.Int.Signed.{lt_z}
use Rattle.std.specs.Ordering.{MatchOrdering, int_cmp, int_eq, is_lt}
use Rattle.std.proofs.lemmas.Cmp.{int_ranked}
use Rattle.std.proofs.lemmas.Bool.{ltb-false}
use Rattle.std.proofs.lemmas.Int.{ints}
use Rattle.std.proofs.lemmas.List.Elements.{All-head, Contains-append_cases, Contains-append_left, Contains-append_right}
use Rattle.std.proofs.lemmas.List.Sums.{fails_before_first}
use Rattle.i_tree.proofs.RootLemmas.Lists.{Contains-here}
use Rattle.plane.specs.declared.edge.Edge.{Edge}
use Rattle.plane.specs.declared.point.Point.{Point}
use Rattle.plane.specs.SweepLine.Heights.{rightwards}
use Rattle.plane.proofs.PairsLemmas.Bags.{Contains-map}
use Rattle.plane.proofs.SweepLineLemmas.Active.{then_cmp-differ}
use Rattle.overlay.specs.declared.fill.pieces.Piece.{Piece}
use Rattle.overlay.specs.Contours.Outlines.{next_or}
use Rattle.overlay.specs.Contours.Rings.{IsRing, ring_edges}
use Rattle.overlay.specs.Fill.Begins.{BeginsUpto}
use Rattle.plane.specs.Ends.{edge_between}
use Rattle.overlay.proofs.KeptLemmas.First.{first-rightwards}
use Rattle.overlay.proofs.PieceLemmas.Begins.{BeginsUpto-trans, not_before, weak_order}
use Rattle.overlay.proofs.PieceLemmas.Edges.{equal, unequal}
use Rattle.overlay.specs.Grouping.{edges_from, sooner}
use Rattle.overlay.specs.Polygons.{BoundsSome, begins_before, first_sloped, is_counterclockwise, runs_rightwards}
use Rattle.overlay.proofs.GroupingLemmas.Bags.{Contains-flat_map, Contains-in_flat_map}
use Rattle.overlay.proofs.GroupingLemmas.Edges.{edges_from-first}

abbrev pub Upto : Edge → Edge → Type 0
Upto one other = BeginsUpto (rightwards one) (rightwards other)

-- an edge that isn't vertical, and begins no later than any other one that isn't
pub record IsFirst (edges : List Edge) (first : Edge) : Type 0 where
  pub among : Contains edges first
  pub sloped : first.x1 ≢ first.x0
  pub begins : (other : Edge) → Contains edges other → other.x1 ≢ other.x0 → Upto first other

-- such an edge, or none where all are vertical
abbrev pub Told : List Edge → Option Edge → Type 0
Told edges None = (other : Edge) → Contains edges other → ¬ (other.x1 ≢ other.x0)
Told edges (Some first) = IsFirst edges first

abbrev pub as_piece : Edge → Piece
as_piece edge = record { edge = rightwards edge; subject = pos 0; clip = pos 0 }

-- ---- an edge that begins further right

not_less : (o : Ordering) (a b : ℤ) → MatchOrdering o (a <ℤ b) (a ≡ b) (b <ℤ a) → b <ℤ a → is_lt o ≡ false
not_less Less a b said further = absurd (omega (arith, ints, said, further))
not_less Equal a b said further = refl
not_less Greater a b said further = refl

pub begins_behind : (edge best : Edge) → (rightwards best).x0 <ℤ (rightwards edge).x0 → begins_before edge (Some best) ≡ false
begins_behind edge best further =
    ap is_lt (sym (then_cmp-differ (rightwards edge).x0 (rightwards best).x0 _ (λ same. omega (arith, ints, same, further))))
    ∙ not_less (int_cmp (rightwards edge).x0 (rightwards best).x0) (rightwards edge).x0 (rightwards best).x0 (int_ranked (rightwards edge).x0 (rightwards best).x0 (int_cmp (rightwards edge).x0 (rightwards best).x0) refl) further

-- ---- one edge more

alone : (edge other : Edge) → Contains (edge ∷ []) other → edge ≡ other
alone edge other (zero, within, is) = is
alone edge other (suc k, within, is) = absurd (omega (arith, within))

module _ (done : List Edge) (edge : Edge) where
  abbrev more : List Edge
  more = done ++ edge ∷ []

  either : (P : Edge → Type 0) → ((other : Edge) → Contains done other → P other) → P edge → (other : Edge) → Contains more other → P other
  either P old new other held = elim (Contains-append_cases done (edge ∷ []) other held) [
    | inl before ↦ old other before
    | inr last ↦ subst P (alone edge other last) new
  ]

  itself : Upto edge edge
  itself = inr (refl, inr (refl, omega (arith, ints)))

  told-vertical : (best : Option Edge) → edge.x0 ≡ edge.x1 → Told done best → Told more best
  told-vertical None vertical told = either (λ (other : Edge). ¬ (other.x1 ≢ other.x0)) told (λ sloped. sloped (sym vertical))
  told-vertical (Some first) vertical told = record {
    among = Contains-append_left done (edge ∷ []) first told.among;
    sloped = told.sloped;
    begins = either (λ (other : Edge). other.x1 ≢ other.x0 → Upto first other) told.begins (λ sloped. absurd (sloped (sym vertical)));
  }

  told-first : (best : Option Edge) → edge.x0 ≢ edge.x1 → begins_before edge best ≡ true → Told done best → Told more (Some edge)
  told-first None sloped before told = record {
    among = Contains-append_right done (edge ∷ []) edge (Contains-here edge []);
    sloped = λ same. sloped (sym same);
    begins = either (λ (other : Edge). other.x1 ≢ other.x0 → Upto edge other) (λ other held is. absurd (told other held is)) (λ is. itself);
  }
  told-first (Some first) sloped before told =
      let upto : Upto edge first = not_before (as_piece first) (as_piece edge) (weak_order.one_way (as_piece edge) (as_piece first) before) in
      record {
        among = Contains-append_right done (edge ∷ []) edge (Contains-here edge []);
        sloped = λ same. sloped (sym same);
        begins = either (λ (other : Edge). other.x1 ≢ other.x0 → Upto edge other) (λ other held is. BeginsUpto-trans (rightwards edge) (rightwards first) (rightwards other) upto (told.begins other held is)) (λ is. itself);
      }

  told-later : (best : Option Edge) → begins_before edge best ≡ false → Told done best → Told more best
  told-later None before told = cc
  told-later (Some first) before told = record {
    among = Contains-append_left done (edge ∷ []) first told.among;
    sloped = told.sloped;
    begins = either (λ (other : Edge). other.x1 ≢ other.x0 → Upto first other) told.begins (λ is. not_before (as_piece edge) (as_piece first) before);
  }

  told-sooner : (best : Option Edge) → Told done best → Told more (sooner best edge)
  told-sooner best told = by (int_eq edge.x0 edge.x1) (begins_before edge best) refl refl
    where
      by : (v b : Bool) → int_eq edge.x0 edge.x1 ≡ v → begins_before edge best ≡ b → Told (done ++ edge ∷ []) (cond (not v && b) (Some edge) best)
      by true b e before = told-vertical best (equal edge.x0 edge.x1 e) told
      by false true e before = told-first best (unequal edge.x0 edge.x1 e) before told
      by false false e before = told-later best before told

told-from : (done edges : List Edge) (best : Option Edge) → Told done best → Told (done ++ edges) (first_sloped best edges)
told-from done [] best told = subst (λ (list : List Edge). Told list best) (sym (append-nil done)) told
told-from done (edge ∷ edges) best told =
    subst (λ (list : List Edge). Told list (first_sloped (sooner best edge) edges)) (append_assoc done (edge ∷ []) edges)
    (told-from (done ++ edge ∷ []) edges (sooner best edge) (told-sooner done edge best told))

pub told-all : (edges : List Edge) → Told edges (first_sloped None edges)
told-all edges = told-from [] edges None (λ other held is. (let (k, within, at) = held in absurd (omega (arith, within))))

-- the one that begins first isn't vertical
pub first-is_sloped : (edges : List Edge) → IfSome (first_sloped None edges) (λ edge. edge.x0 ≢ edge.x1)
first-is_sloped edges = by (first_sloped None edges) (told-all edges)
  where
    by : (best : Option Edge) → Told edges best → IfSome best (λ edge. edge.x0 ≢ edge.x1)
    by None told = tt
    by (Some first) told = λ same. told.sloped (sym same)

-- ---- rings

less-true : (x y : ℤ) → x <ℤ y → lt_z x y ≡ true
less-true x y less = by (lt_z x y) refl
  where
    by : (t : Bool) → lt_z x y ≡ t → lt_z x y ≡ true
    by true e = e
    by false e = absurd (omega (arith, ints, e, less))

module _ (rings : List (List Point)) (bounds : BoundsSome (flat_map ring_edges rings)) where
  abbrev edges : List Edge
  edges = flat_map ring_edges rings

  first-of : (some : Edge) → Contains edges some → some.x0 ≢ some.x1 → (best : Option Edge) → Told edges best → (first : Edge) × IsFirst edges first
  first-of some among sloped None told = absurd (told some among (λ same. sloped (sym same)))
  first-of some among sloped (Some first) told = (first, told)

  rightwards-of : (first : Edge) → IsFirst edges first → (ring : List Point) → Contains rings ring → Contains (ring_edges ring) first → (best : Option Edge) → Told (ring_edges ring) best → runs_rightwards best ≡ true
  rightwards-of first is ring inside held None told = absurd (told first held is.sloped)
  rightwards-of first is ring inside held (Some other) told =
      let less = first-rightwards edges bounds.noded bounds.distinct bounds.once other (Contains-in_flat_map ring_edges rings ring other inside told.among) told.sloped
      (λ one among sloped. BeginsUpto-trans (rightwards other) (rightwards first) (rightwards one) (told.begins first held is.sloped) (is.begins one among sloped)) in
      less-true other.x0 other.x1 less

  -- where an edge isn't vertical, a ring runs counterclockwise
  some-outer : (some : Edge) → Contains edges some → some.x0 ≢ some.x1 → (ring : List Point) × Contains rings ring × (is_counterclockwise ring ≡ true)
  some-outer some among sloped =
      let (first, is) = first-of some among sloped (first_sloped None edges) (told-all edges) in
      let (ring, inside, held) = Contains-flat_map ring_edges rings first is.among in
      (ring, inside, rightwards-of first is ring inside held (first_sloped None (ring_edges ring)) (told-all (ring_edges ring)))

pub has-edge : (ring : List Point) → ring ≢ [] → (edge : Edge) × Contains (ring_edges ring) edge
has-edge [] some = absurd (some refl)
has-edge (point ∷ points) some =
    let first = edge_between point (next_or points point) in
    (first, subst (λ (list : List Edge). Contains list first) (sym (edges_from-first (point ∷ points))) (Contains-here first (edges_from points point)))

none-passes : (xs : List Bool) → position (λ is. is) xs ≡ None → (k : ℕ) (d : Bool) → k < length xs → get_or xs k d ≡ false
none-passes xs none k d within = fails_before_first (λ is. is) xs k d (by (nat_lt place (length xs)) refl none)
  where
    place : ℕ
    place = position_or_len (λ is. is) xs

    by : (t : Bool) → nat_lt (position_or_len (λ is. is) xs) (length xs) ≡ t → cond t (Some (position_or_len (λ is. is) xs)) None ≡ None → k < position_or_len (λ is. is) xs
    by true e is = cc
    by false e is = let upto = ltb-false (position_or_len (λ is. is) xs) (length xs) e in omega (arith, within, upto)

-- where no ring runs counterclockwise, there is none
pub no-rings : (rings : List (List Point)) → All IsRing rings → BoundsSome (flat_map ring_edges rings) → position (λ is. is) (map is_counterclockwise rings) ≡ None → rings ≡ []
no-rings [] each bounds none = refl
no-rings (ring ∷ rings) each bounds none =
    let all = ring ∷ rings in
    let (edge, held) = has-edge ring (All-head IsRing ring rings each).some in
    let among = Contains-in_flat_map ring_edges all ring edge (Contains-here ring rings) held in
    let (some, of, sloped) = bounds.sloped (λ empty. some_edge edge (subst (λ (list : List Edge). Contains list edge) empty among)) in
    let (outer, inside, runs) = some-outer all bounds some of sloped in
    let (k, within, at) = Contains-map is_counterclockwise all outer inside in
    absurd (never (sym runs ∙ sym at ∙ none-passes (map is_counterclockwise all) none k (is_counterclockwise outer) within))
  where
    some_edge : (edge : Edge) → Contains [] edge → ⊥
    some_edge edge (k, within, is) = omega (arith, within)

    never : true ≡ false → ⊥
    never h = cc
