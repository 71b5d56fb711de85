-- Flags that are set at some places, and what they tell of edges.
use Rattle.std.proofs.Common.{◌≡◌, ◌≢◌, ◌⊎◌, inl, inr, ◌<◌, ◌+◌, ◌++◌, [], ◌∷◌, ℕ, zero, suc, Bool, true, false, List, MatchBool, Some, map, length, get_or, take, ap, ap₂, refl, sym, subst, subst₂, ◌∙◌, arith}
use Rattle.std.specs.List.{All, AllZip, Contains, between, flat_map, slice_get}
use Rattle.std.specs.Option.{option_map}
use Rattle.std.proofs.Math.ListN.{set, length-set}
use Rattle.std.proofs.lemmas.List.{get_or-set_other, get_or-set_same, length-map, map-append, take_all, take_more}
use Rattle.std.proofs.lemmas.Slice.{between_from_start}
use Rattle.std.proofs.lemmas.List.Elements.{All-head, All-tail, Contains-append_left, Contains-push, Contains-push_cases, Contains-get_or}
use Rattle.std.proofs.lemmas.Bool.{cases_eq, false≢true}
use Rattle.std.proofs.lemmas.Option.{none-some, same_Some, slice_get-get_or, slice_get-map, slice_get_within}
use Rattle.plane.specs.declared.edge.Edge.{Edge}
use Rattle.plane.specs.declared.point.Point.{Point}
use Rattle.plane.specs.Pairs.Pairs.{PairBetween}
use Rattle.overlay.specs.declared.fill.rules.FillRule.{FillRule}
use Rattle.overlay.specs.Contours.Rings.{ring_edges}
use Rattle.plane.specs.Ends.{start_of}
use Rattle.noding.specs.Offsets.{AreJoined, offsets}
use Rattle.overlay.specs.Rings.{AreEnds}
use Rattle.layers.specs.declared.lines.Keep.{Keep}
use Rattle.layers.specs.declared.lines.Keep.TheVariants.{Inside, Outside}
use Rattle.layers.specs.declared.points.Border.TheVariants.{Closed}
use Rattle.layers.specs.Around.{ArePairsIn, LiesIn}
use Rattle.layers.specs.LineParts.{AreMarked, AreTold, IsFirst, IsLoop, IsMarked, mark_of}
use Rattle.layers.specs.Lines.{middle}
use Rattle.layers.specs.Shapes.{lists_of}
use Rattle.layers.proofs.LineLemmas.Lists.{ends-right, lists-back}
use Rattle.layers.proofs.LineLemmas.Paths.{ring_edges-starts}
use Rattle.layers.proofs.ListLemmas.{length-lists_of}

-- one pair more
pub marked-more : (pairs : List (ℕ × ℕ)) (i : ℕ) (default : ℕ × ℕ) (mark : Bool) (count : ℕ) (flags : List Bool) → i < length pairs → (get_or pairs i default).0 < count
    → AreMarked (take i pairs) mark count flags → AreMarked (take (i + 1) pairs) mark count (set flags (get_or pairs i default).0 mark)
marked-more pairs i default mark count flags inside within marked = record {
  count_is = length-set flags pair.0 mark ∙ marked.count_is;
  each = λ place d below. subst (λ (list : List (ℕ × ℕ)). IsMarked list mark place (get_or (set flags pair.0 mark) place d)) (sym (take_more pairs i default inside)) (by place d below (cases_eq place pair.0));
}
  where
    pair : ℕ × ℕ
    pair = get_or pairs i default

    before : List (ℕ × ℕ)
    before = take i pairs

    not_last : (place : ℕ) → place ≢ pair.0 → IsFirst (before ++ pair ∷ []) place → IsFirst before place
    not_last place other (second, among) = elim (Contains-push_cases before pair (place, second) among) [
      | inl earlier ↦ (second, earlier)
      | inr last ↦ absurd (other (ap (λ (both : ℕ × ℕ). both.0) (sym last)))
    ]

    by : (place : ℕ) (d : Bool) → place < count → (place ≡ pair.0) ⊎ (place ≢ pair.0) → IsMarked (before ++ pair ∷ []) mark place (get_or (set flags pair.0 mark) place d)
    by place d below (inl same) =
        inl (
          (pair.1, subst (λ (n : ℕ). Contains (before ++ pair ∷ []) (n, pair.1)) (sym same) (Contains-push before pair)),
          ap (λ (n : ℕ). get_or (set flags pair.0 mark) n d) same ∙ get_or-set_same flags pair.0 mark d (omega (arith, within, marked.count_is)),
        )
    by place d below (inr other) =
        let kept : get_or (set flags pair.0 mark) place d ≡ get_or flags place d = get_or-set_other flags pair.0 place mark d other in
        elim (marked.each place d below) [
          | inl (first, flag) ↦ inl ((first.0, Contains-append_left before (pair ∷ []) (place, first.0) first.1), kept ∙ flag)
          | inr (first, flag) ↦ inr ((λ (found : IsFirst (before ++ pair ∷ []) place). first (not_last place other found)), kept ∙ flag)
        ]

-- ---- what the flags tell of edges

-- what stands in a relation at each place
zip-by : {X Y : Type 0} (R : X → Y → Type 0) (xs : List X) (ys : List Y) → length ys ≡ length xs → ((k : ℕ) (d : X) (e : Y) → k < length xs → R (get_or xs k d) (get_or ys k e)) → AllZip R xs ys
zip-by R [] [] same each = tt
zip-by R (x ∷ xs) (y ∷ ys) same each = (each 0 x y (omega arith), zip-by R xs ys (omega (arith, same)) (λ k d e within. each (suc k) d e (omega (arith, within))))
zip-by R [] (y ∷ ys) same each = absurd (omega (arith, same))
zip-by R (x ∷ xs) [] same each = absurd (omega (arith, same))

module _ (rule : FillRule) (rings edges : List Edge) (pairs : List (ℕ × ℕ)) (are : ArePairsIn rule Closed (map middle edges) (rings ∷ []) pairs) where
  abbrev Lies : Edge → Type 0
  Lies edge = LiesIn rule Closed (middle edge) rings

  middle-at : (k : ℕ) (d : Edge) → k < length edges → slice_get (map middle edges) k ≡ Some (middle (get_or edges k d))
  middle-at k d within = slice_get-map middle edges k ∙ ap (option_map middle) (slice_get-get_or edges k d within)

  -- the first place of a pair is that of an edge whose middle lies in the rings
  first-lies : (k : ℕ) (d : Edge) → k < length edges → IsFirst pairs k → Lies (get_or edges k d)
  first-lies k d within (other, among) = by other ((are.all.exact k other).0 among)
    where
      by : (j : ℕ) → PairBetween (LiesIn rule Closed) (map middle edges) (rings ∷ []) k j → Lies (get_or edges k d)
      by zero found = subst₂ (LiesIn rule Closed) (same_Some found.one (middle (get_or edges k d)) (sym found.first ∙ middle-at k d within)) (same_Some found.other rings (sym found.second)) found.meet
      by (suc j) found = absurd (none-some found.other found.second)

  lies-first : (k : ℕ) (d : Edge) → k < length edges → Lies (get_or edges k d) → IsFirst pairs k
  lies-first k d within lies = (
    0,
    (are.all.exact k 0).1 (record {
      one = middle (get_or edges k d);
      other = rings;
      first = middle-at k d within;
      second = refl;
      meet = lies;
    }),
  )

  told-inside : (flags : List Bool) → AreMarked pairs true (length edges) flags → AreTold rule Inside rings edges flags
  told-inside flags marked = zip-by (λ edge flag. MatchBool flag (Lies edge) (¬ (Lies edge))) edges flags marked.count_is (λ k d e within. by k d (get_or flags k e) within (marked.each k e within))
    where
      by : (k : ℕ) (d : Edge) (flag : Bool) → k < length edges → IsMarked pairs true k flag → MatchBool flag (Lies (get_or edges k d)) (¬ (Lies (get_or edges k d)))
      by k d true within (inl (first, is)) = first-lies k d within first
      by k d false within (inl (first, is)) = absurd (false≢true is)
      by k d true within (inr (first, is)) = absurd (false≢true (sym is))
      by k d false within (inr (first, is)) = λ lies. first (lies-first k d within lies)

  told-outside : (flags : List Bool) → AreMarked pairs false (length edges) flags → AreTold rule Outside rings edges flags
  told-outside flags marked = zip-by (λ edge flag. MatchBool flag (¬ (Lies edge)) (¬ (¬ (Lies edge)))) edges flags marked.count_is (λ k d e within. by k d (get_or flags k e) within (marked.each k e within))
    where
      by : (k : ℕ) (d : Edge) (flag : Bool) → k < length edges → IsMarked pairs false k flag → MatchBool flag (¬ (Lies (get_or edges k d))) (¬ (¬ (Lies (get_or edges k d))))
      by k d false within (inl (first, is)) = λ none. none (first-lies k d within first)
      by k d true within (inl (first, is)) = absurd (false≢true (sym is))
      by k d false within (inr (first, is)) = absurd (false≢true is)
      by k d true within (inr (first, is)) = λ lies. first (lies-first k d within lies)

  pub told : (keep : Keep) (flags : List Bool) → AreMarked pairs (mark_of keep) (length edges) flags → AreTold rule keep rings edges flags
  told Inside flags marked = told-inside flags marked
  told Outside flags marked = told-outside flags marked

  pub firsts-within : All (λ (pair : ℕ × ℕ). pair.0 < length edges) pairs
  firsts-within k d inside =
      let pair = get_or pairs k d in
      let found = (are.all.exact pair.0 pair.1).0 (Contains-get_or pairs k d inside) in
      let within = slice_get_within (map middle edges) pair.0 found.one found.first in
      omega (arith, within, length-map edges middle)

-- ---- rings, by where their edges begin

module _ (rings : List (List Edge)) (edges : List Edge) (ends : List ℕ) (points : List Point) (are : AreJoined rings edges ends) (starts : points ≡ map start_of edges) where
  -- the rings' points, ring by ring
  rings_at : List (List Point)
  rings_at = map (λ ring. map start_of ring) rings

  points-joined : points ≡ flat_map (λ ring. ring) rings_at
  unfolding rings_at
  points-joined = starts ∙ ap (λ (list : List Edge). map start_of list) are.0 ∙ map-flat rings
    where
      map-flat : (some : List (List Edge)) → map start_of (flat_map (λ ring. ring) some) ≡ flat_map (λ ring. ring) (map (λ ring. map start_of ring) some)
      map-flat [] = refl
      map-flat (ring ∷ others) = map-append start_of ring (flat_map (λ r. r) others) ∙ ap (λ (list : List Point). map start_of ring ++ list) (map-flat others)

  ends-joined : ends ≡ offsets 0 rings_at
  unfolding rings_at
  ends-joined = are.1 ∙ same 0 rings
    where
      same : (start : ℕ) (some : List (List Edge)) → offsets start some ≡ offsets start (map (λ ring. map start_of ring) some)
      same start [] = refl
      same start (ring ∷ others) =
          let size = length-map ring start_of in
          ap₂ (λ (n : ℕ) (stops : List ℕ). n ∷ stops) (omega (arith, size)) (same (start + length ring) others ∙ ap (λ (n : ℕ). offsets (start + n) (map (λ r. map start_of r) others)) (sym size))

  pub rings-end : AreEnds 0 ends (length points)
  rings-end =
      subst (λ (stops : List ℕ). AreEnds 0 stops (length points)) (sym ends-joined)
      (ends-right 0 rings_at (length points) (let size = ap (λ (list : List Point). length list) points-joined in omega (arith, size)))

  -- they are one shape with these edges
  pub rings-shape : All IsLoop rings → flat_map ring_edges (between 0 (length ends) (lists_of points 0 ends)) ≡ edges
  unfolding rings_at
  rings-shape loops =
      let back : lists_of points 0 ends ≡ rings_at = ap₂ (λ (list : List Point) (stops : List ℕ). lists_of list 0 stops) points-joined ends-joined ∙ lists-back [] rings_at 0 refl in
      let size = length-lists_of points 0 ends in
      ap (λ (lists : List (List Point)). flat_map ring_edges lists) (between_from_start (lists_of points 0 ends) (length ends) ∙ take_all (length ends) (lists_of points 0 ends) (omega (arith, size)) ∙ back)
      ∙ edges-back rings loops
      ∙ sym are.0
    where
      edges-back : (some : List (List Edge)) → All IsLoop some → flat_map ring_edges (map (λ ring. map start_of ring) some) ≡ flat_map (λ ring. ring) some
      edges-back [] every = refl
      edges-back (ring ∷ others) every =
          ap₂ (λ (list rest : List Edge). list ++ rest) (ring_edges-starts ring (All-head IsLoop ring others every)) (edges-back others (All-tail IsLoop ring others every))
