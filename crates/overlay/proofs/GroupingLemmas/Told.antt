-- A walk along rings: which holes an edge passes, and what is found below these.
use Rattle.std.proofs.Common.{◌≡◌, ◌≢◌, ◌⊎◌, inl, inr, ◌<◌, ◌≤◌, ◌+◌, ◌-◌, ◌++◌, [], ◌∷◌, ℕ, zero, suc, ℤ, pos, ◌≤ℤ◌, Bool, true, false, cond, ◌&&◌, List, Some, None, get_or, length, map, max, min, set, take, refl, ap, ap₂, sym, subst, subst₂, ◌∙◌, append-nil, append_assoc, arith}
use Rattle.std.specs.List.{All, Contains, flat_map}
use Rattle.std.proofs.lemmas.Bool.{cases_lt}
use Rattle.std.proofs.lemmas.Int.{by_lt_z, ints}
use Rattle.std.proofs.lemmas.List.{ext_get_or, get_or-map, get_or-set_other, get_or-set_same, get_or-take, get_or_default, length-map, length-set, length-take, take_all, take_more}
use Rattle.std.proofs.lemmas.List.Concat.{flat_map-append}
use Rattle.std.proofs.lemmas.List.Elements.{All-map, All-weaker, Contains-append_cases, Contains-append_left, Contains-append_right}
use Rattle.i_tree.proofs.RootLemmas.Lists.{Contains-here, Contains-there}
use Rattle.plane.specs.Ends.{edge_between}
use Rattle.plane.specs.declared.edge.Edge.{Edge}
use Rattle.plane.specs.declared.point.Point.{Point}
use Rattle.plane.specs.SweepLine.Heights.{rightwards}
use Rattle.plane.proofs.SweepLineLemmas.Rightwards.{rightwards-left, rightwards-right}
use Rattle.noding.specs.Windings.{pieces}
use Rattle.overlay.specs.Contours.Rings.{ring_edges}
use Rattle.overlay.specs.Fill.Counts.{is_lower_on, is_over}
use Rattle.overlay.specs.Fill.Filled.{AreNoded}
use Rattle.overlay.specs.Fill.Turned.{piece_of}
use Rattle.overlay.specs.Grouping.{AreBefore, ArePassed, IsHoleOf, IsSideOf, IsTold, begins_of, firsts_of, is_first_or_above, is_next_below, no_side, with_side}
use Rattle.overlay.specs.declared.fill.pieces.Operand.TheVariants.{Subject}
use Rattle.overlay.specs.declared.grouping.holes.Hole.{Hole}
use Rattle.overlay.specs.declared.grouping.sides.Side.{Side}
use Rattle.overlay.proofs.ContourLemmas.RealEdges.{closing, pieces-closing}
use Rattle.overlay.proofs.FillLemmas.Tests.{lt_false, lt_true, over_early, over_is, over_late, over_true}
use Rattle.overlay.proofs.GroupingLemmas.Highest.{past-told, told-with, with-of}

never : true ≡ false → ⊥
never h = cc

-- a hole in place of none
abbrev pub no_hole : Hole
no_hole = record { first = no_side; below = None }

pub first-at : (holes : List Hole) (k : ℕ) (d : Hole) (e : Side) → k < length holes → get_or (firsts_of holes) k e ≡ (get_or holes k d).first
first-at holes k d e within = get_or-map (λ (hole : Hole). hole.first) holes k d e within

-- ---- one side at all holes

module _ (side : Side) where
  not-over : (hole : Hole) → is_over hole.first.piece.edge.x0 side.piece.edge ≡ false → with_side side hole ≡ hole
  not-over hole past = ap (λ t. cond (t && (is_lower_on hole.first.piece.edge.x0 side.piece.edge hole.first.piece.edge && is_first_or_above hole.first.piece.edge.x0 side hole.below)) (record { first = hole.first; below = Some side }) hole) past

  -- the test of a side that is over the stretch
  pub next-told : (hole : Hole) (t : Bool) → is_over hole.first.piece.edge.x0 side.piece.edge ≡ true
      → t ≡ (is_lower_on hole.first.piece.edge.x0 side.piece.edge hole.first.piece.edge && is_first_or_above hole.first.piece.edge.x0 side hole.below)
      → with_side side hole ≡ cond t (record { first = hole.first; below = Some side }) hole
  next-told hole t over is =
      ap (λ o. cond (o && (is_lower_on hole.first.piece.edge.x0 side.piece.edge hole.first.piece.edge && is_first_or_above hole.first.piece.edge.x0 side hole.below)) (record { first = hole.first; below = Some side }) hole) over
      ∙ ap (λ o. cond o (record { first = hole.first; below = Some side }) hole) (sym is)

  with-first : (hole : Hole) → (with_side side hole).first ≡ hole.first
  with-first hole = by (is_next_below side hole)
    where
      by : (t : Bool) → (cond t (record { first = hole.first; below = Some side }) hole).first ≡ hole.first
      by true = refl
      by false = refl

  pub firsts-with : (holes : List Hole) → firsts_of (map (with_side side) holes) ≡ firsts_of holes
  firsts-with [] = refl
  firsts-with (hole ∷ holes) = ap₂ (λ (first : Side) (firsts : List Side). first ∷ firsts) (with-first hole) (firsts-with holes)

  -- The holes before this place have been compared with the side.
  pub record HasPassed (place : ℕ) (old now : List Hole) : Type 0 where
    pub size : length now ≡ length old
    pub done : (k : ℕ) (d : Hole) → k < place → k < length old → get_or now k d ≡ with_side side (get_or old k d)
    pub rest : (k : ℕ) (d : Hole) → place ≤ k → k < length old → get_or now k d ≡ get_or old k d

  module _ (old : List Hole) (start end : ℕ) (passed : ArePassed side.piece.edge start end (firsts_of old)) where
    past-same : (k : ℕ) (d : Hole) → k < length old → (k < start) ⊎ (end ≤ k) → with_side side (get_or old k d) ≡ get_or old k d
    past-same k d within where_it =
        not-over (get_or old k d)
        (subst (λ (first : Side). is_over first.piece.edge.x0 side.piece.edge ≡ false) (first-at old k d no_side within)
        (passed.past k no_side (let size = length-map old (λ (hole : Hole). hole.first) in omega (arith, size, within)) where_it))

    pub passed-over : (k : ℕ) (d : Hole) → k < length old → start ≤ k → k < end → is_over (get_or old k d).first.piece.edge.x0 side.piece.edge ≡ true
    passed-over k d within from before = subst (λ (first : Side). is_over first.piece.edge.x0 side.piece.edge ≡ true) (first-at old k d no_side within) (passed.over k no_side from before)

    pub passed-none : HasPassed start old old
    passed-none = record {
      size = refl;
      done = λ k d before within. sym (past-same k d within (inl before));
      rest = λ k d from within. refl;
    }

    pub passed-all : (now : List Hole) → HasPassed end old now → now ≡ map (with_side side) old
    passed-all now has =
        ext_get_or no_hole now (map (with_side side) old) (has.size ∙ sym (length-map old (with_side side)))
        (λ k within. (let inside : k < length old = (let size = has.size in omega (arith, size, within)) in elim (cases_lt k end) [
          | inl before ↦ has.done k no_hole before inside ∙ sym (get_or-map (with_side side) old k no_hole no_hole inside)
          | inr from ↦ has.rest k no_hole from inside ∙ sym (past-same k no_hole inside (inr from)) ∙ sym (get_or-map (with_side side) old k no_hole no_hole inside)
        ]))

  -- one hole more
  pub passed-more : (old now : List Hole) (place : ℕ) (next : Hole) (d : Hole) → place < length old → HasPassed place old now → next ≡ with_side side (get_or now place d) → HasPassed (place + 1) old (set now place next)
  passed-more old now place next d within has is = record {
    size = length-set now place next ∙ has.size;
    done = λ k e before inside. (elim (cases_lt k place) [
      | inl less ↦ get_or-set_other now place k next e (λ same. omega (arith, less, same)) ∙ has.done k e less inside
      | inr most ↦ (
          let here : place ≡ k = omega (arith, before, most) in
          subst (λ (n : ℕ). get_or (set now place next) n e ≡ with_side side (get_or old n e)) here
          (get_or-set_same now place next e (let size = has.size in omega (arith, size, within))
          ∙ is ∙ ap (with_side side) (get_or_default now place d e (let size = has.size in omega (arith, size, within)) ∙ has.rest place e (omega arith) within)))
    ]);
    rest = λ k e from inside. get_or-set_other now place k next e (λ same. omega (arith, from, same)) ∙ has.rest k e (omega (arith, from)) inside;
  }

  -- and one that stays
  pub passed-kept : (old now : List Hole) (place : ℕ) (d : Hole) → place < length old → HasPassed place old now → get_or now place d ≡ with_side side (get_or now place d) → HasPassed (place + 1) old now
  passed-kept old now place d within has is = record {
    size = has.size;
    done = λ k e before inside. (elim (cases_lt k place) [
      | inl less ↦ has.done k e less inside
      | inr most ↦ (
          let here : place ≡ k = omega (arith, before, most) in
          subst (λ (n : ℕ). get_or now n e ≡ with_side side (get_or old n e)) here
          (get_or_default now place e d (let size = has.size in omega (arith, size, within)) ∙ is
          ∙ ap (with_side side) (get_or_default now place d e (let size = has.size in omega (arith, size, within)) ∙ has.rest place e (omega arith) within)))
    ]);
    rest = λ k e from inside. has.rest k e (omega (arith, from)) inside;
  }

-- ---- which holes an edge passes

module _ (firsts : List Side) (xs : List ℤ) (are : xs ≡ begins_of firsts) where
  begin-at : (k : ℕ) (d : Side) → k < length firsts → get_or xs k (pos 0) ≡ (get_or firsts k d).piece.edge.x0
  begin-at k d within = ap (λ (list : List ℤ). get_or list k (pos 0)) are ∙ get_or-map (λ (side : Side). side.piece.edge.x0) firsts k d (pos 0) within

  begins-size : length xs ≡ length firsts
  begins-size = ap (λ (list : List ℤ). length list) are ∙ length-map firsts (λ (side : Side). side.piece.edge.x0)

  -- those that begin left of its end, and not left of its start
  pub are-passed : (edge : Edge) (start end : ℕ) → AreBefore xs edge.x0 start → AreBefore xs edge.x1 end → ArePassed edge start end firsts
  are-passed edge start end first last = record {
    over = λ k d from before.
        (let within : k < length firsts = (let upto = last.within in let size = begins-size in omega (arith, upto, size, before)) in
        let at = begin-at k d within in
        let here = first.upto k (pos 0) from (let size = begins-size in omega (arith, size, within)) in
        let there = last.less k (pos 0) before in
        over_true (get_or firsts k d).piece.edge.x0 edge (omega (arith, ints, at, here)) (omega (arith, ints, at, there)));
    past = λ k d within where_it. past-at k d within (begin-at k d within) where_it;
  }
    where
      past-at : (k : ℕ) (d : Side) → k < length firsts → get_or xs k (pos 0) ≡ (get_or firsts k d).piece.edge.x0 → (k < start) ⊎ (end ≤ k) → is_over (get_or firsts k d).piece.edge.x0 edge ≡ false
      past-at k d within at (inl before) =
          let here = first.less k (pos 0) before in
          over_early (get_or firsts k d).piece.edge.x0 edge (omega (arith, ints, at, here))
      past-at k d within at (inr from) =
          let there = last.upto k (pos 0) from (let size = begins-size in omega (arith, size, within)) in
          over_late (get_or firsts k d).piece.edge.x0 edge (omega (arith, ints, at, there))

-- ---- along one ring

-- the edge to a place
piece-at : (last : Point) (points : List Point) (k : ℕ) (d : Point) → k < length points → Contains (pieces (last ∷ points)) (edge_between (get_or (last ∷ points) k d) (get_or points k d))
piece-at last [] k d within = absurd (omega (arith, within))
piece-at last (point ∷ points) zero d within = Contains-here (edge_between last point) (pieces (point ∷ points))
piece-at last (point ∷ points) (suc k) d within =
    Contains-there (edge_between last point) (pieces (point ∷ points)) (edge_between (get_or (point ∷ points) k d) (get_or points k d)) (piece-at point points k d (omega (arith, within)))

before-at : (last : Point) (points : List Point) (k : ℕ) (d : Point) → k ≤ length points → get_or (last ∷ take k points) k d ≡ get_or (last ∷ points) k d
before-at last points zero d within = refl
before-at last points (suc k) d within = get_or-take (suc k) points k d (omega arith)

-- one more
pieces-more : (last : Point) (points : List Point) (k : ℕ) (d : Point) → k < length points
    → pieces (last ∷ take (k + 1) points) ≡ pieces (last ∷ take k points) ++ edge_between (get_or (last ∷ points) k d) (get_or points k d) ∷ []
pieces-more last points k d within =
    ap (λ (some : List Point). pieces (last ∷ some)) (take_more points k d within)
    ∙ pieces-closing last (take k points) (get_or points k d) d
    ∙ ap (λ (from : Point). pieces (last ∷ take k points) ++ edge_between from (get_or points k d) ∷ [])
    (ap (λ (n : ℕ). get_or (last ∷ take k points) n d) (let size = length-take k points in let same : length (take k points) ≡ k = omega (arith, size, within) in same) ∙ before-at last points k d (omega (arith, within)))

module _ (ring : List Point) (last d : Point) (some : ring ≢ []) (is : last ≡ get_or ring (length ring - 1) d) where
  -- an edge of the ring is one of those from its last point on
  pub along-ring : (edge : Edge) → Contains (ring_edges ring) edge → Contains (pieces (last ∷ ring)) edge
  along-ring edge held = by ring (get_or ring 0 d) refl some (closing ring last (get_or ring 0 d) d some is refl) held
    where
      by : (points : List Point) (first : Point) → first ≡ get_or points 0 d → points ≢ [] → ring_edges ring ≡ pieces points ++ edge_between last first ∷ [] → Contains (ring_edges ring) edge → Contains (pieces (last ∷ points)) edge
      by [] first begins not_none all held = absurd (not_none refl)
      by (point ∷ points) first begins not_none all held =
          elim (Contains-append_cases (pieces (point ∷ points)) (edge_between last first ∷ []) edge (subst (λ (edges : List Edge). Contains edges edge) all held)) [
            | inl before ↦ Contains-there (edge_between last point) (pieces (point ∷ points)) edge before
            | inr closes ↦ subst (λ (p : Point). Contains (edge_between last p ∷ pieces (point ∷ points)) edge) begins (front closes)
          ]
        where
          front : Contains (edge_between last first ∷ []) edge → Contains (edge_between last first ∷ pieces (point ∷ points)) edge
          front there = Contains-append_left (edge_between last first ∷ []) (pieces (point ∷ points)) edge there

  pub ring-along : (edge : Edge) → Contains (pieces (last ∷ ring)) edge → Contains (ring_edges ring) edge
  ring-along edge held = subst (λ (edges : List Edge). Contains edges edge) (sym (closing ring last (get_or ring 0 d) d some is refl)) (by ring some refl held)
    where
      by : (points : List Point) → points ≢ [] → points ≡ ring → Contains (pieces (last ∷ points)) edge → Contains (pieces ring ++ edge_between last (get_or ring 0 d) ∷ []) edge
      by [] not_none same held = absurd (not_none refl)
      by (point ∷ points) not_none same held =
          elim (Contains-append_cases (edge_between last point ∷ []) (pieces (point ∷ points)) edge held) [
            | inl closes ↦ Contains-append_right (pieces ring) (edge_between last (get_or ring 0 d) ∷ []) edge
                (subst (λ (p : Point). Contains (edge_between last p ∷ []) edge) (ap (λ (list : List Point). get_or list 0 d) same) closes)
            | inr along ↦ Contains-append_left (pieces ring) (edge_between last (get_or ring 0 d) ∷ []) edge (subst (λ (list : List Point). Contains (pieces list) edge) same along)
          ]

-- what is told of edges is told of some of them
pub told-fewer : (edges some : List Edge) (hole : Hole) → ((edge : Edge) → Contains some edge → Contains edges edge) → IsTold edges hole → IsTold some hole
told-fewer edges some hole among told = λ edge held below. told edge (among edge held) below

-- How far the walk along a ring has come.
pub record HasWalked (rings : List (List Point)) (last : Point) (ring : List Point) (xs : List ℤ) (old : List Hole) (k : ℕ) (from : Point) (count : ℕ) (now : List Hole) : Type 0 where
  pub from_is : (d : Point) → from ≡ get_or (last ∷ ring) k d
  pub before : AreBefore xs from.x count
  pub same : firsts_of now ≡ firsts_of old
  pub of : All (IsHoleOf rings) now
  pub told : (edges : List Edge) → All (IsTold edges) old → All (IsTold (edges ++ pieces (last ∷ take k ring))) now

All-with : (P Q : Hole → Type 0) (side : Side) (holes : List Hole) → ((hole : Hole) → P hole → Q (with_side side hole)) → All P holes → All Q (map (with_side side) holes)
All-with P Q side holes step all = All-map Q (with_side side) holes (All-weaker P (λ hole. Q (with_side side hole)) step holes all)

All-both : (P Q : Hole → Type 0) (holes : List Hole) → All P holes → All Q holes → All (λ hole. P hole × Q hole) holes
All-both P Q holes first second k d inside = (first k d inside, second k d inside)

module _ (rings : List (List Point)) (noded : AreNoded (flat_map ring_edges rings)) (last : Point) (ring : List Point) (xs : List ℤ) (old : List Hole) where
  pub walked-none : (from : Point) (count : ℕ) → from ≡ last → AreBefore xs from.x count → All (IsHoleOf rings) old → HasWalked rings last ring xs old 0 from count old
  walked-none from count is before of = record {
    from_is = λ d. is;
    before = before;
    same = refl;
    of = of;
    told = λ edges told. subst (λ (list : List Edge). All (IsTold list) old) (sym (append-nil edges)) told;
  }

  module _ (k : ℕ) (from : Point) (count : ℕ) (now : List Hole) (within : k < length ring) (d : Point) (walked : HasWalked rings last ring xs old k from count now) where
    abbrev edge : Edge
    edge = edge_between from (get_or ring k d)

    edges-more : (edges : List Edge) → edges ++ pieces (last ∷ take (k + 1) ring) ≡ (edges ++ pieces (last ∷ take k ring)) ++ edge ∷ []
    edges-more edges =
        ap (λ (list : List Edge). edges ++ list) (pieces-more last ring k d within ∙ ap (λ (at : Point). pieces (last ∷ take k ring) ++ edge_between at (get_or ring k d) ∷ []) (sym (walked.from_is d)))
        ∙ sym (append_assoc edges (pieces (last ∷ take k ring)) (edge ∷ []))

    -- the edge is one of the ring's
    pub edge-of : ring ≢ [] → last ≡ get_or ring (length ring - 1) d → Contains (ring_edges ring) edge
    edge-of some is =
        ring-along ring last d some is edge
        (subst (λ (at : Point). Contains (pieces (last ∷ ring)) (edge_between at (get_or ring k d))) (sym (walked.from_is d)) (piece-at last ring k d within))

    -- a side that is compared with the holes that it passes
    pub walked-side : (next : ℕ) (side : Side) → IsSideOf rings side → side.piece.edge ≡ rightwards edge → AreBefore xs (get_or ring k d).x next
        → HasWalked rings last ring xs old (k + 1) (get_or ring k d) next (map (with_side side) now)
    walked-side next side is same before = record {
      from_is = λ e. (subst (λ (n : ℕ). get_or ring k d ≡ get_or (last ∷ ring) n e) (let one : suc k ≡ k + 1 = omega arith in one) (get_or_default ring k d e within));
      before = before;
      same = firsts-with side now ∙ walked.same;
      of = All-with (IsHoleOf rings) (IsHoleOf rings) side now (λ hole of. with-of rings noded side hole is of) walked.of;
      told = λ edges told.
          subst (λ (list : List Edge). All (IsTold list) (map (with_side side) now)) (sym (edges-more edges))
          (All-with (λ hole. IsHoleOf rings hole × IsTold (edges ++ pieces (last ∷ take k ring)) hole) (IsTold ((edges ++ pieces (last ∷ take k ring)) ++ edge ∷ [])) side now (λ hole both. told-with rings noded (edges ++ pieces (last ∷ take k ring)) side edge hole is same both.0 both.1) (All-both (IsHoleOf rings) (IsTold (edges ++ pieces (last ∷ take k ring))) now walked.of (walked.told edges told)));
    }

    -- and one that passes none
    pub walked-past : (next : ℕ) → All (λ hole. is_over hole.first.piece.edge.x0 (rightwards edge) ≡ false) now → AreBefore xs (get_or ring k d).x next
        → HasWalked rings last ring xs old (k + 1) (get_or ring k d) next now
    walked-past next past before = record {
      from_is = λ e. (subst (λ (n : ℕ). get_or ring k d ≡ get_or (last ∷ ring) n e) (let one : suc k ≡ k + 1 = omega arith in one) (get_or_default ring k d e within));
      before = before;
      same = walked.same;
      of = walked.of;
      told = λ edges told.
          subst (λ (list : List Edge). All (IsTold list) now) (sym (edges-more edges))
          (All-weaker (λ (hole : Hole). (is_over hole.first.piece.edge.x0 (rightwards edge) ≡ false) × IsTold (edges ++ pieces (last ∷ take k ring)) hole) (IsTold ((edges ++ pieces (last ∷ take k ring)) ++ edge ∷ []))
          (λ hole both. past-told (edges ++ pieces (last ∷ take k ring)) edge hole (λ below. never (sym below.over ∙ both.0)) both.1) now (All-both (λ (hole : Hole). is_over hole.first.piece.edge.x0 (rightwards edge) ≡ false) (IsTold (edges ++ pieces (last ∷ take k ring))) now past (walked.told edges told)));
    }

  -- all of it
  pub walked-all : (k : ℕ) (from : Point) (count : ℕ) (now : List Hole) (d : Point) → length ring ≤ k → ring ≢ [] → last ≡ get_or ring (length ring - 1) d → HasWalked rings last ring xs old k from count now
      → (edges : List Edge) → All (IsTold edges) old → All (IsTold (edges ++ ring_edges ring)) now
  walked-all k from count now d upto some is walked edges told =
      All-weaker (IsTold (edges ++ pieces (last ∷ take k ring))) (IsTold (edges ++ ring_edges ring))
      (λ hole known. told-fewer (edges ++ pieces (last ∷ take k ring)) (edges ++ ring_edges ring) hole fewer known) now (walked.told edges told)
    where
      fewer : (edge : Edge) → Contains (edges ++ ring_edges ring) edge → Contains (edges ++ pieces (last ∷ take k ring)) edge
      fewer edge held = elim (Contains-append_cases edges (ring_edges ring) edge held) [
        | inl before ↦ Contains-append_left edges (pieces (last ∷ take k ring)) edge before
        | inr here ↦ Contains-append_right edges (pieces (last ∷ take k ring)) edge
            (subst (λ (points : List Point). Contains (pieces (last ∷ points)) edge) (sym (take_all k ring upto)) (along-ring ring last d some is edge here))
      ]

-- ---- from one point to the next

-- of fewer numbers that are less than x no more are less
before-upto : (xs : List ℤ) (x y : ℤ) (m n : ℕ) → AreBefore xs x m → AreBefore xs y n → x ≤ℤ y → m ≤ n
before-upto xs x y m n first last upto = elim (cases_lt n m) [
  | inl less ↦ (
      let here = first.less n (pos 0) less in
      let there = last.upto n (pos 0) (omega arith) (let within = first.within in omega (arith, within, less)) in
      absurd (omega (arith, ints, here, there, upto)))
  | inr most ↦ most
]

module _ (firsts : List Side) (xs : List ℤ) (are : xs ≡ begins_of firsts) (from to : Point) (count next : ℕ) (here : AreBefore xs from.x count) (there : AreBefore xs to.x next) where
  -- the holes that an edge passes
  pub passed-way : ArePassed (rightwards (edge_between from to)) (min count next) (max count next) firsts
  passed-way =
      by_lt_z to.x from.x
      (λ left.
      let upto = before-upto xs to.x from.x next count there here (omega (arith, ints, left)) in
      subst₂ (λ (s e : ℕ). ArePassed (rightwards (edge_between from to)) s e firsts) (let least : next ≡ min count next = omega (arith, upto) in least) (let most : count ≡ max count next = omega (arith, upto) in most)
      (subst (λ (e : Edge). ArePassed e next count firsts) (sym (rightwards-left (edge_between from to) (lt_true to.x from.x left))) (are-passed firsts xs are (edge_between to from) next count there here)))
      (λ right.
      let upto = before-upto xs from.x to.x count next here there right in
      subst₂ (λ (s e : ℕ). ArePassed (rightwards (edge_between from to)) s e firsts) (let least : count ≡ min count next = omega (arith, upto) in least) (let most : next ≡ max count next = omega (arith, upto) in most)
      (subst (λ (e : Edge). ArePassed e count next firsts) (sym (rightwards-right (edge_between from to) (lt_false to.x from.x right))) (are-passed firsts xs are (edge_between from to) count next here there)))

  -- where as many begin before both ends, it passes none
  pub past-way : (now : List Hole) → firsts_of now ≡ firsts → count ≡ next → All (λ hole. is_over hole.first.piece.edge.x0 (rightwards (edge_between from to)) ≡ false) now
  past-way now same level k d within =
      let size = length-map now (λ (hole : Hole). hole.first) in
      let sizes = ap (λ (list : List Side). length list) same in
      subst (λ (first : Side). is_over first.piece.edge.x0 (rightwards (edge_between from to)) ≡ false) (ap (λ (list : List Side). get_or list k no_side) (sym same) ∙ first-at now k d no_side within)
      (passed-way.past k no_side (omega (arith, size, sizes, within)) (side-of (cases_lt k count)))
    where
      side-of : (k < count) ⊎ (count ≤ k) → (k < min count next) ⊎ (max count next ≤ k)
      side-of (inl before) = inl (omega (arith, before, level))
      side-of (inr from_it) = inr (omega (arith, from_it, level))

-- and a vertical one passes none
pub past-vertical : (now : List Hole) (from to : Point) → from.x ≡ to.x → All (λ hole. is_over hole.first.piece.edge.x0 (rightwards (edge_between from to)) ≡ false) now
past-vertical now from to level k d within =
    subst (λ (e : Edge). is_over (get_or now k d).first.piece.edge.x0 e ≡ false) (sym (rightwards-right (edge_between from to) (lt_false to.x from.x (omega (arith, ints, level)))))
    (by (is_over x (edge_between from to)) refl)
  where
    x : ℤ
    x = (get_or now k d).first.piece.edge.x0

    by : (t : Bool) → is_over x (edge_between from to) ≡ t → is_over x (edge_between from to) ≡ false
    by false is = is
    by true is = let span = over_is x (edge_between from to) is in let a = span.0 in let b = span.1 in absurd (omega (arith, ints, a, b, level))

-- ---- ring by ring

-- of no edges nothing is below
pub none-told : (holes : List Hole) → All (IsTold []) holes
none-told holes k d within edge (i, inside, is) below = absurd (omega (arith, inside))

-- the edges of one ring more
pub edges-next : (rings : List (List Point)) (ring : ℕ) → ring < length rings → flat_map ring_edges (take (ring + 1) rings) ≡ flat_map ring_edges (take ring rings) ++ ring_edges (get_or rings ring [])
edges-next rings ring within =
    ap (λ (some : List (List Point)). flat_map ring_edges some) (take_more rings ring [] within)
    ∙ flat_map-append ring_edges (take ring rings) (get_or rings ring [] ∷ [])
    ∙ ap (λ (edges : List Edge). flat_map ring_edges (take ring rings) ++ edges) (append-nil (ring_edges (get_or rings ring [])))

-- an edge of a ring, as a side of it
pub side-is : (rings : List (List Point)) (ring : ℕ) (points : List Point) (side : Side) (edge : Edge) → ring < length rings → points ≡ get_or rings ring [] → side.ring ≡ ring → side.piece ≡ piece_of Subject edge → edge.x0 ≢ edge.x1
    → Contains (ring_edges points) edge → IsSideOf rings side
side-is rings ring points side edge within at number piece sloped among = record {
  edge = edge;
  within = omega (arith, within, number);
  among = subst (λ (n : ℕ). Contains (ring_edges (get_or rings n [])) edge) (sym number) (subst (λ (list : List Point). Contains (ring_edges list) edge) at among);
  sloped = sloped;
  is = piece;
}
