-- What isn't walked yet, and where a walk ends.
use Rattle.std.proofs.Common.{◌≡◌, ◌≢◌, ◌⊎◌, inl, inr, Option, Some, None, append_assoc, ℕ, zero, suc, ◌<◌, Bool, true, false, cond, List, [], ◌∷◌, ◌++◌, IsPermutation, length, get_or, map, set, replicate, refl, sym, ap, ap₂, ◌∙◌, subst, arith}
use Rattle.std.specs.List.{flat_map}
use Rattle.std.specs.Option.{MatchOption}
use Rattle.std.proofs.lemmas.Bool.{cases_lt}
use Rattle.std.proofs.lemmas.List.{get_or-set_same, get_or-set_other, get_or_append_left, get_or_push, length-append, length-set, map-append}
use Rattle.std.proofs.lemmas.List.Sorted.{IsPermutation-append_left, IsPermutation-append_right, IsPermutation-cons, IsPermutation-middle, IsPermutation-refl, IsPermutation-trans, IsPermutation-sym, length_permutation}
use Rattle.std.proofs.lemmas.List.Sums.{sum_by-cons}
use Rattle.std.proofs.lemmas.Option.{same_Some}
use Rattle.plane.specs.declared.edge.Edge.{Edge}
use Rattle.plane.specs.declared.point.Point.{Point}
use Rattle.overlay.specs.Contours.Rings.{ring_edges}
use Rattle.overlay.specs.Contours.Turns.{Leaves, NoneLeaves}
use Rattle.overlay.specs.Contours.Order.{AreInOrder, IsCorner, IsFirstFrom, edge_at, point_at}
use Rattle.overlay.specs.Contours.Walks.{IsMarked, IsOff, Keeps, path, unwalked}
use Rattle.plane.specs.Ends.{edge_between, end_of, start_of}
use Rattle.noding.specs.Windings.{IsClosed, pieces}
use Rattle.overlay.proofs.ContourLemmas.Counts.{along, closed-starts, ends, ends-append, ends-permutation, is_at, is_at-itself, is_at-other, rings-closed, starts, starts-append, starts-permutation, unit}
use Rattle.overlay.proofs.ContourLemmas.Order.{corner-from}
use Rattle.overlay.proofs.ContourLemmas.Rings.{corners-differ, path-more, rings-more}

-- ---- marks

pub Keeps-set : (used : List Bool) (place : ℕ) → Keeps used (set used place true)
Keeps-set [] place k is = refl
Keeps-set (x ∷ used) zero zero is = refl
Keeps-set (x ∷ used) zero (suc k) is = is
Keeps-set (x ∷ used) (suc place) zero is = is
Keeps-set (x ∷ used) (suc place) (suc k) is = Keeps-set used place k is

pub Keeps-trans : (before now after : List Bool) → Keeps before now → Keeps now after → Keeps before after
Keeps-trans before now after first second k is = second k (first k is)

-- ---- unwalked edges

-- at first all are
pub unwalked-all : (edges : List Edge) → unwalked edges (replicate (length edges) false) ≡ edges
unwalked-all [] = refl
unwalked-all (edge ∷ edges) = ap (λ (rest : List Edge). edge ∷ rest) (unwalked-all edges)

-- at last none is
pub unwalked-none : (edges : List Edge) (used : List Bool) → ((k : ℕ) → k < length edges → get_or used k true ≡ true) → unwalked edges used ≡ []
unwalked-none [] used all = refl
unwalked-none (edge ∷ edges) [] all = refl
unwalked-none (edge ∷ edges) (true ∷ used) all = unwalked-none edges used (λ k within. all (suc k) (omega (arith, within)))
unwalked-none (edge ∷ edges) (false ∷ used) all = let first : false ≡ true = all 0 (omega arith) in absurd cc

-- one that is walked is none any more
pub unwalked-set : (edges : List Edge) (used : List Bool) (place : ℕ) (d : Edge) → place < length edges → place < length used → get_or used place true ≡ false
    → IsPermutation (get_or edges place d ∷ unwalked edges (set used place true)) (unwalked edges used)
unwalked-set [] used place d within inside is = absurd (omega (arith, within))
unwalked-set (edge ∷ edges) [] place d within inside is = absurd (omega (arith, inside))
unwalked-set (edge ∷ edges) (true ∷ used) zero d within inside is = absurd cc
unwalked-set (edge ∷ edges) (false ∷ used) zero d within inside is = IsPermutation-refl (edge ∷ unwalked edges used)
unwalked-set (edge ∷ edges) (true ∷ used) (suc place) d within inside is = unwalked-set edges used place d (omega (arith, within)) (omega (arith, inside)) is
unwalked-set (edge ∷ edges) (false ∷ used) (suc place) d within inside is =
    let one = get_or edges place d in
    let rest = unwalked edges (set used place true) in
    IsPermutation-trans (one ∷ edge ∷ rest) (edge ∷ one ∷ rest) (edge ∷ unwalked edges used)
    (IsPermutation-sym (edge ∷ one ∷ rest) (one ∷ edge ∷ rest) (IsPermutation-middle (edge ∷ []) one rest))
    (IsPermutation-cons edge (one ∷ rest) (unwalked edges used) (unwalked-set edges used place d (omega (arith, within)) (omega (arith, inside)) is))

-- fewer are left then
pub unwalked-fewer : (edges : List Edge) (used : List Bool) (place : ℕ) (d : Edge) → place < length edges → place < length used → get_or used place true ≡ false
    → length (unwalked edges (set used place true)) < length (unwalked edges used)
unwalked-fewer edges used place d within inside is =
    let size = length_permutation (get_or edges place d ∷ unwalked edges (set used place true)) (unwalked edges used) (unwalked-set edges used place d within inside is) in
    omega (arith, size)

-- none of them starts where none leaves
module _ (at : Point) where
  none-starts : (edges : List Edge) (used : List Bool) → ((k : ℕ) → k < length edges → get_or used k true ≡ false → point_at edges k ≢ at) → starts (is_at at) (unwalked edges used) ≡ 0
  none-starts [] used none = refl
  none-starts (edge ∷ edges) [] none = refl
  none-starts (edge ∷ edges) (true ∷ used) none = none-starts edges used (λ k within is. none (suc k) (omega (arith, within)) is)
  none-starts (edge ∷ edges) (false ∷ used) none =
      let later = none-starts edges used (λ k within is. none (suc k) (omega (arith, within)) is) in
      let sum = sum_by-cons (λ (e : Edge). unit (is_at at) (start_of e)) edge (unwalked edges used) in
      let here : unit (is_at at) (start_of edge) ≡ 0 = ap (λ (b : Bool). cond b 1 0) (is_at-other at (start_of edge) (none 0 (omega arith) refl)) in
      omega (arith, later, sum, here)

  pub starts-none : (edges : List Edge) (used : List Bool) → NoneLeaves edges used at → starts (is_at at) (unwalked edges used) ≡ 0
  starts-none edges used none = none-starts edges used (λ k within is same. none k (record { inside = within; unused = is; starts = same }))

-- ---- a step of a walk

-- the corner at which the walk is joins it
pub IsMarked-more : (sorted : List Edge) (marks stack : List ℕ) (corner : ℕ) → IsMarked sorted marks stack → IsCorner sorted corner → IsOff stack corner
    → IsMarked sorted (set marks corner (length stack)) (stack ++ corner ∷ [])
IsMarked-more sorted marks stack corner marked is off =
    let size = marked.size in
    let inside = is.inside in
    let long = length-append stack (corner ∷ []) in
    record {
      size = length-set marks corner (length stack) ∙ size;
      corners = λ k within. elim (cases_lt k (length stack)) [
        | inl before ↦ subst (λ (place : ℕ). IsCorner sorted place) (sym (get_or_append_left stack (corner ∷ []) 0 k before)) (marked.corners k before)
        | inr upto ↦ subst (λ (place : ℕ). IsCorner sorted place) (sym (get_or_push stack corner 0 k (omega (arith, upto, within, long)))) is
      ];
      marked = λ k within. elim (cases_lt k (length stack)) [
        | inl before ↦
            ap (λ (place : ℕ). get_or (set marks corner (length stack)) place 0) (get_or_append_left stack (corner ∷ []) 0 k before)
            ∙ get_or-set_other marks corner (get_or stack k 0) (length stack) 0 (off k before)
            ∙ marked.marked k before
        | inr upto ↦
            let last : length stack ≡ k = omega (arith, upto, within, long) in
            ap (λ (place : ℕ). get_or (set marks corner (length stack)) place 0) (get_or_push stack corner 0 k last)
            ∙ get_or-set_same marks corner (length stack) 0 (omega (arith, inside, size))
            ∙ last
      ];
    }

-- an edge joins the walk
pub step-edges : (sorted : List Edge) (used : List Bool) (stack : List ℕ) (corner next place : ℕ) → Leaves sorted used (point_at sorted corner) place → place < length used → point_at sorted next ≡ end_of (edge_at sorted place)
    → IsPermutation (path sorted (stack ++ corner ∷ []) next ++ unwalked sorted (set used place true)) (path sorted stack corner ++ unwalked sorted used)
step-edges sorted used stack corner next place leaves inside ends =
    let P = path sorted stack corner in
    let U = unwalked sorted (set used place true) in
    let edge = edge_at sorted place in
    let one : edge_between (point_at sorted corner) (point_at sorted next) ≡ edge = ap₂ edge_between (sym leaves.starts) ends in
    let all : (path sorted (stack ++ corner ∷ []) next ++ U) ≡ P ++ (edge ∷ U) =
    ap (λ (edges : List Edge). edges ++ U) (path-more sorted stack corner next ∙ ap (λ (e : Edge). P ++ e ∷ []) one) ∙ append_assoc P (edge ∷ []) U in
    subst (λ (edges : List Edge). IsPermutation edges (P ++ unwalked sorted used)) (sym all)
    (IsPermutation-append_right P (edge ∷ U) (unwalked sorted used) (unwalked-set sorted used place _ leaves.inside inside leaves.unused))

-- and what is cut off joins the rings
pub step-rings : (rings others : List (List Point)) (walk longer left rest less all : List Edge)
    → IsPermutation (flat_map ring_edges rings ++ (walk ++ rest)) all → IsPermutation (flat_map ring_edges others ++ left) longer → IsPermutation (longer ++ less) (walk ++ rest)
    → IsPermutation (flat_map ring_edges (rings ++ others) ++ (left ++ less)) all
step-rings rings others walk longer left rest less all done cut step =
    let E = flat_map ring_edges others in
    let first : IsPermutation (E ++ (left ++ less)) (longer ++ less) =
    subst (λ (edges : List Edge). IsPermutation edges (longer ++ less)) (append_assoc E left less) (IsPermutation-append_left less (E ++ left) longer cut) in
    rings-more rings others (left ++ less) (walk ++ rest) all (IsPermutation-trans (E ++ (left ++ less)) (longer ++ less) (walk ++ rest) first step) done

-- What holds of a walk that goes on along the next edge, or ends.
pub record IsWalking (sorted : List Edge) (before used : List Bool) (marks stack : List ℕ) (corner first : ℕ) (next : Option ℕ) : Type 0 where
  pub marked : IsMarked sorted marks stack
  pub corner_is : IsCorner sorted corner
  pub off : IsOff stack corner
  pub keeps : Keeps before used
  pub size : length used ≡ length before
  pub leaves : MatchOption next (NoneLeaves sorted used (point_at sorted corner)) (λ place. Leaves sorted used (point_at sorted corner) place)
  pub begun : (get_or used first true ≡ true) ⊎ (next ≡ Some first)

-- as it begins
pub walking-begins : (sorted : List Edge) (used : List Bool) (marks stack : List ℕ) (corner first : ℕ) → stack ≡ [] → length marks ≡ length sorted → IsCorner sorted corner → Leaves sorted used (point_at sorted corner) first
    → IsWalking sorted used used marks stack corner first (Some first)
walking-begins sorted used marks stack corner first none size is leaves =
    let short = ap (λ (places : List ℕ). length places) none in
    record {
      marked = record {
        size = size;
        corners = λ k within. absurd (omega (arith, within, short));
        marked = λ k within. absurd (omega (arith, within, short));
      };
      corner_is = is;
      off = λ k within. absurd (omega (arith, within, short));
      keeps = λ k was. was;
      size = refl;
      leaves = leaves;
      begun = inr refl;
    }

-- the corner at which an edge ends, among closed edges in order
pub corner-of_end : (sorted : List Edge) → IsClosed sorted → AreInOrder sorted → (place : ℕ) → place < length sorted → (at : Point) → at ≡ end_of (edge_at sorted place) → (first : ℕ) → IsFirstFrom sorted at first
    → (point_at sorted first ≡ at) × IsCorner sorted first
corner-of_end sorted closed order place within at ends first from =
    let (i, inside, starts_there) = closed-starts sorted place _ closed within in
    corner-from sorted order at first from i inside (starts_there _ ∙ sym ends)

-- where a walk has begun it has walked its first edge after the next step
pub begun-more : (used : List Bool) (first place : ℕ) (next : Option ℕ) → place < length used → next ≡ Some place → (get_or used first true ≡ true) ⊎ (next ≡ Some first) → get_or (set used place true) first true ≡ true
begun-more used first place next inside is (inl was) = Keeps-set used place first was
begun-more used first place next inside is (inr same) =
    let one : place ≡ first = same_Some place first (sym is ∙ same) in
    subst (λ (k : ℕ). get_or (set used place true) k true ≡ true) one (get_or-set_same used place true true inside)

-- ---- where a walk ends

-- If no edge goes on from the corner at which a walk is, the walk is back at its first corner, where all of it is cut off.
pub walk-ends : (sorted : List Edge) (used : List Bool) (marks stack : List ℕ) (corner : ℕ) (rings : List (List Point)) (all : List Edge)
    → IsMarked sorted marks stack → IsCorner sorted corner → IsOff stack corner → NoneLeaves sorted used (point_at sorted corner)
    → IsPermutation (flat_map ring_edges rings ++ (path sorted stack corner ++ unwalked sorted used)) all → IsClosed all → stack ≡ []
walk-ends sorted used marks [] corner rings all marked is off none moved closed = refl
walk-ends sorted used marks (first ∷ others) corner rings all marked is off none moved closed =
    let at = point_at sorted corner in
    let test = is_at at in
    let E = flat_map ring_edges rings in
    let P = path sorted (first ∷ others) corner in
    let U = unwalked sorted used in
    let left = starts-none at sorted used none in
    let starts_same = starts-permutation test (E ++ (P ++ U)) all moved in
    let ends_same = ends-permutation test (E ++ (P ++ U)) all moved in
    let same = closed test in
    let starts_rings = rings-closed test rings in
    let starts_all = starts-append test E (P ++ U) in
    let ends_all = ends-append test E (P ++ U) in
    let starts_walk = starts-append test P U in
    let ends_walk = ends-append test P U in
    let f = point_at sorted in
    let whole : P ≡ pieces (f first ∷ (map f others ++ at ∷ [])) = ap (λ (points : List Point). pieces (f first ∷ points)) (map-append f others (corner ∷ [])) in
    let sum = along test (f first) (map f others) at in
    let starts_are = ap (λ (edges : List Edge). starts test edges) whole in
    let ends_are = ap (λ (edges : List Edge). ends test edges) whole in
    let here : unit test at ≡ 1 = ap (λ (b : Bool). cond b 1 0) (is_at-itself at) in
    let elsewhere : unit test (f first) ≡ 0 =
    ap (λ (b : Bool). cond b 1 0) (is_at-other at (f first) (corners-differ sorted first corner (marked.corners 0 (omega arith)) is (off 0 (omega arith)))) in
    absurd (omega (arith, left, starts_same, ends_same, same, starts_rings, starts_all, ends_all, starts_walk, ends_walk, sum, starts_are, ends_are, here, elsewhere))
