-- Which polygons go round others, by the pairs of a middle and an outer ring.
use Rattle.std.proofs.Common.{◌≡◌, ◌≢◌, ℕ, zero, suc, ◌+◌, ◌<◌, ◌≤◌, ◌==◌, inl, inr, Bool, true, false, not, ◌&&◌, cond, ltb, List, [], ◌∷◌, ◌++◌, Option, Some, None, length, get_or, map, count_by, refl, sym, ap, ap₂, ◌∙◌, subst, subst₂, arith}
use Rattle.std.specs.List.{All, AllPairs, Contains, range_with_len}
use Rattle.std.proofs.Math.ListN.{get_or-map}
use Rattle.std.proofs.lemmas.Bool.Decides.{nat_tests}
use Rattle.std.proofs.lemmas.List.{length-map}
use Rattle.std.proofs.lemmas.List.Elements.{All-contains, All-contains_itself, All-head, All-tail, All-weaker}
use Rattle.std.proofs.lemmas.List.Sums.{sum_by-cons, sum_by_push}
use Rattle.std.proofs.lemmas.Option.{get_or_from_slice_get, slice_get-get_or, slice_get_within}
use Rattle.i_tree.proofs.RootLemmas.Lists.{AllPairs-head, AllPairs-tail}
use Rattle.overlay.specs.Contours.Rings.{ring_edges}
use Rattle.overlay.specs.Fill.Rules.{is_inside}
use Rattle.noding.specs.Windings.{winding}
use Rattle.overlay.specs.declared.fill.rules.FillRule.TheVariants.{NonZero}
use Rattle.plane.specs.Meet.Edges.{RationalPoint}
use Rattle.plane.specs.Pairs.Pairs.{ArePairsBetween}
use Rattle.plane.specs.declared.edge.Edge.{Edge}
use Rattle.plane.specs.declared.point.Point.{Point}
use Rattle.layers.specs.Around.{LiesIn, halved}
use Rattle.layers.specs.Parents.{AreBest, AreDepths, AreOuters, AreParents, AreWithin, IsBest, IsNoBetter, IsNoNearer, IsParent, depth_of, goes_round, is_of, middle_of, outer_of}
use Rattle.layers.specs.Shapes.{lists_of, shape_edges}
use Rattle.layers.specs.declared.around.half_point.HalfPoint.{HalfPoint}
use Rattle.layers.specs.declared.points.Border.TheVariants.{HalfOpen}
use Rattle.layers.proofs.ParentLemmas.Outers.{outer-edges}

-- ---- counts

is_false : (b : Bool) → (b ≡ true → ⊥) → b ≡ false
is_false true isn't = absurd (isn't refl)
is_false false isn't = refl

module _ {X : Type 0} where
  count-cons : (test : X → Bool) (x : X) (xs : List X) → count_by test (x ∷ xs) ≡ cond (test x) 1 0 + count_by test xs
  count-cons test x xs = sum_by-cons (λ y. cond (test y) 1 0) x xs

  count-is : (test : X → Bool) (x : X) (xs : List X) (b : Bool) (n : ℕ) → test x ≡ b → count_by test xs ≡ n → count_by test (x ∷ xs) ≡ cond b 1 0 + n
  count-is test x xs b n first rest = count-cons test x xs ∙ ap₂ (λ (told : Bool) (others : ℕ). cond told 1 0 + others) first rest

  count-none : (test : X → Bool) (xs : List X) → All (λ x. test x ≡ false) xs → count_by test xs ≡ 0
  count-none test [] none = refl
  count-none test (x ∷ xs) none = count-is test x xs false 0 (All-head (λ (y : X). test y ≡ false) x xs none) (count-none test xs (All-tail (λ (y : X). test y ≡ false) x xs none))

  -- what stands in a list once, and alone passes the test
  count-one : (test : X → Bool) (xs : List X) (x : X) → AllPairs (λ y later. y ≢ later) xs → Contains xs x → test x ≡ true → ((y : X) → test y ≡ true → y ≡ x) → count_by test xs ≡ 1
  count-one test [] x once (k, within, is) passes alone = absurd (omega (arith, within))
  count-one test (y ∷ ys) x once (zero, within, is) passes alone =
      let others : All (λ z. test z ≡ false) ys =
      All-weaker (λ z. y ≢ z) (λ z. test z ≡ false) (λ z differ. is_false (test z) (λ passing. differ (is ∙ sym (alone z passing)))) ys (AllPairs-head (λ z later. z ≢ later) y ys once) in
      count-is test y ys true 0 (ap test is ∙ passes) (count-none test ys others)
  count-one test (y ∷ ys) x once (suc k, within, is) passes alone =
      let inside : Contains ys x = (k, omega (arith, within), is) in
      let differ : y ≢ x = All-contains (λ z. y ≢ z) ys x (AllPairs-head (λ z later. z ≢ later) y ys once) inside in
      count-is test y ys false 1 (is_false (test y) (λ passing. differ (alone y passing))) (count-one test ys x (AllPairs-tail (λ z later. z ≢ later) y ys once) inside passes alone)

  count-split : (test one other : X → Bool) (xs : List X) → ((x : X) → cond (test x) 1 0 ≡ cond (one x) 1 0 + cond (other x) 1 0) → count_by test xs ≡ count_by one xs + count_by other xs
  count-split test one other [] split = refl
  count-split test one other (x ∷ xs) split =
      let here = split x in let rest = count-split test one other xs split in
      let all = count-cons test x xs in let ones = count-cons one x xs in let others = count-cons other x xs in
      omega (arith, here, rest, all, ones, others)

  count-same : (test other : X → Bool) (xs : List X) → All (λ x. test x ≡ other x) xs → count_by test xs ≡ count_by other xs
  count-same test other [] same = refl
  count-same test other (x ∷ xs) same =
      count-is test x xs (other x) (count_by other xs) (All-head (λ (y : X). test y ≡ other y) x xs same) (count-same test other xs (All-tail (λ (y : X). test y ≡ other y) x xs same)) ∙ sym (count-cons other x xs)

range-more : (start count : ℕ) → range_with_len start (suc count) ≡ range_with_len start count ++ (start + count) ∷ []
range-more start zero = ap (λ (n : ℕ). n ∷ []) (let same : start ≡ start + 0 = omega arith in same)
range-more start (suc count) = ap (λ (rest : List ℕ). start ∷ rest) (range-more (start + 1) count ∙ ap (λ (n : ℕ). range_with_len (start + 1) count ++ n ∷ []) (let same : (start + 1) + count ≡ start + suc count = omega arith in same))

count-range : (test : ℕ → Bool) (count : ℕ) → count_by test (range_with_len 0 (suc count)) ≡ count_by test (range_with_len 0 count) + cond (test count) 1 0
count-range test count =
    ap (λ (all : List ℕ). count_by test all) (range-more 0 count ∙ ap (λ (n : ℕ). range_with_len 0 count ++ n ∷ []) (let same : 0 + count ≡ count = omega arith in same))
    ∙ sum_by_push (λ n. cond (test n) 1 0) (range_with_len 0 count) count

-- ---- tests of pairs

split-before : (is : Bool) (n most : ℕ) → cond (is && ltb n (suc most)) 1 0 ≡ cond (is && ltb n most) 1 0 + cond (is && n == most) 1 0
split-before true n most = grind (arith, nat_tests)
split-before false n most = refl

none-before : (is : Bool) (n : ℕ) → (is && ltb n 0) ≡ false
none-before true n = grind (arith, nat_tests)
none-before false n = refl

all-before : (is : Bool) (n most : ℕ) → n < most → is ≡ (is && ltb n most)
all-before true n most below = grind (arith, nat_tests)
all-before false n most below = refl

of_both : (place around : ℕ) → place ≢ around → is_of place (place, around) ≡ true
of_both place around differ = grind (arith, nat_tests)

of_which : (place : ℕ) (pair : ℕ × ℕ) → is_of place pair ≡ true → (pair.0 ≡ place) × (place ≢ pair.1)
of_which place pair is = (grind (arith, nat_tests), λ same. grind (arith, nat_tests))

round_both : (place around : ℕ) (does : Bool) → place ≢ around → does ≡ true → (not (place == around) && does) ≡ true
round_both place around does differ is = grind (arith, nat_tests)

round_which : (place around : ℕ) (does : Bool) → (not (place == around) && does) ≡ true → (place ≢ around) × (does ≡ true)
round_which place around does is = (λ same. grind (arith, nat_tests), grind (arith, nat_tests))

-- the pair at a place
at_both : (is : Bool) (n most : ℕ) → is ≡ true → n ≡ most → (is && n == most) ≡ true
at_both is n most told same = grind (arith, nat_tests)

at_which : (is : Bool) (n most : ℕ) → (is && n == most) ≡ true → (is ≡ true) × (n ≡ most)
at_which true n most told = (refl, grind (arith, nat_tests))
at_which false n most told = absurd (cc)

-- ---- pairs

abbrev pub outers_in : List (List (List Point)) → List (List Edge)
outers_in polygons = map (λ polygon. ring_edges (outer_of polygon)) polygons

abbrev pub middles_in : List (List (List Point)) → List RationalPoint
middles_in polygons = map (λ polygon. middle_of (outer_of polygon)) polygons

-- the outer ring of the second winds around the middle of the first
abbrev winds : List (List (List Point)) → ℕ → ℕ → Bool
winds polygons place around = is_inside NonZero (winding (ring_edges (outer_of (get_or polygons around []))) (middle_of (outer_of (get_or polygons place []))))

-- those of outer rings that stand alone
pub pairs-around : (polygons : List (List (List Point))) (points : List Point) (ring_ends shape_ends : List ℕ) (middles : List HalfPoint) (pairs : List (ℕ × ℕ)) → AreOuters polygons points ring_ends shape_ends middles
    → ArePairsBetween (LiesIn NonZero HalfOpen) (map halved middles) (map shape_edges (lists_of (lists_of points 0 ring_ends) 0 shape_ends)) pairs → ArePairsBetween (LiesIn NonZero HalfOpen) (middles_in polygons) (outers_in polygons) pairs
pairs-around polygons points ring_ends shape_ends middles pairs are all =
    subst₂ (λ (looked_for : List RationalPoint) (shapes : List (List Edge)). ArePairsBetween (LiesIn NonZero HalfOpen) looked_for shapes pairs) are.middles_are (outer-edges polygons points ring_ends shape_ends middles are) all

module _ (polygons : List (List (List Point))) (pairs : List (ℕ × ℕ)) (are : ArePairsBetween (LiesIn NonZero HalfOpen) (middles_in polygons) (outers_in polygons) pairs) where
  pair-winds : (place around : ℕ) → Contains pairs (place, around) → (place < length polygons) × (around < length polygons) × (winds polygons place around ≡ true)
  pair-winds place around stands =
      let told = (are.exact place around).0 stands in
      let middles = middles_in polygons in
      let outers = outers_in polygons in
      let first = slice_get_within middles place told.one told.first in
      let second = slice_get_within outers around told.other told.second in
      let many = length-map polygons (λ (polygon : List (List Point)). middle_of (outer_of polygon)) in
      let as_many = length-map polygons (λ (polygon : List (List Point)). ring_edges (outer_of polygon)) in
      let middle : told.one ≡ middle_of (outer_of (get_or polygons place [])) =
      sym (get_or_from_slice_get middles place told.one (middle_of (outer_of [])) told.first) ∙ get_or-map (λ (polygon : List (List Point)). middle_of (outer_of polygon)) polygons place [] in
      let outer : told.other ≡ ring_edges (outer_of (get_or polygons around [])) =
      sym (get_or_from_slice_get outers around told.other (ring_edges (outer_of [])) told.second) ∙ get_or-map (λ (polygon : List (List Point)). ring_edges (outer_of polygon)) polygons around [] in
      (omega (arith, first, many), omega (arith, second, as_many), ap₂ (λ (edges : List Edge) (point : RationalPoint). is_inside NonZero (winding edges point)) (sym outer) (sym middle) ∙ told.meet)

  winds-pair : (place around : ℕ) → place < length polygons → around < length polygons → winds polygons place around ≡ true → Contains pairs (place, around)
  winds-pair place around within inside does =
      let middles = middles_in polygons in
      let outers = outers_in polygons in
      let many = length-map polygons (λ (polygon : List (List Point)). middle_of (outer_of polygon)) in
      let as_many = length-map polygons (λ (polygon : List (List Point)). ring_edges (outer_of polygon)) in
      (are.exact place around).1 (record {
        one = middle_of (outer_of (get_or polygons place []));
        other = ring_edges (outer_of (get_or polygons around []));
        first = slice_get-get_or middles place (middle_of (outer_of [])) (omega (arith, within, many)) ∙ ap Some (get_or-map (λ (polygon : List (List Point)). middle_of (outer_of polygon)) polygons place []);
        second = slice_get-get_or outers around (ring_edges (outer_of [])) (omega (arith, inside, as_many)) ∙ ap Some (get_or-map (λ (polygon : List (List Point)). ring_edges (outer_of polygon)) polygons around []);
        meet = does;
      })

  pub AreWithin-pairs : AreWithin (length polygons) pairs
  AreWithin-pairs k d within =
      let told = pair-winds (get_or pairs k d).0 (get_or pairs k d).1 (All-contains_itself pairs k d within) in (told.0, told.1)

  -- ---- depths

  module _ (place : ℕ) (within : place < length polygons) where
    -- the pair is of the one at this place and another before this one, or that one
    abbrev before : ℕ → ℕ × ℕ → Bool
    before most pair = is_of place pair && ltb pair.1 most

    abbrev at : ℕ → ℕ × ℕ → Bool
    at around pair = is_of place pair && pair.1 == around

    at-is : (around : ℕ) (pair : ℕ × ℕ) → at around pair ≡ true → (pair ≡ (place, around)) × (place ≢ around)
    at-is around pair told =
        let (is, same) = at_which (is_of place pair) pair.1 around told in
        let (first, differ) = of_which place pair is in
        (ap₂ (λ (one other : ℕ). (one, other)) first same, λ equal. differ (equal ∙ sym same))

    count-at : (around : ℕ) → around < length polygons → (does : Bool) → goes_round polygons place around ≡ does → count_by (at around) pairs ≡ cond does 1 0
    count-at around inside true does =
        let (differ, does_wind) = round_which place around (winds polygons place around) does in
        count-one (at around) pairs (place, around) are.once (winds-pair place around within inside does_wind) (at_both (is_of place (place, around)) around around (of_both place around differ) refl) (λ pair told. (at-is around pair told).0)
    count-at around inside false doesn't =
        count-none (at around) pairs (All-weaker (λ pair. Contains pairs pair) (λ pair. at around pair ≡ false) (λ pair stands. is_false (at around pair) (λ is.
        let (same, differ) = at-is around pair is in
        let told = pair-winds place around (subst (λ (it : ℕ × ℕ). Contains pairs it) same stands) in
        absurd (let does = round_both place around (winds polygons place around) differ told.2 in cc))) pairs (All-contains_itself pairs))

    counted : (most : ℕ) → most ≤ length polygons → count_by (before most) pairs ≡ count_by (goes_round polygons place) (range_with_len 0 most)
    counted zero upto = count-none (before 0) pairs (λ k d inside. none-before (is_of place (get_or pairs k d)) (get_or pairs k d).1)
    counted (suc most) upto =
        count-split (before (suc most)) (before most) (at most) pairs (λ pair. split-before (is_of place pair) pair.1 most)
        ∙ ap₂ (λ (one other : ℕ). one + other) (counted most (omega (arith, upto))) (count-at most (omega (arith, upto)) (goes_round polygons place most) refl)
        ∙ sym (count-range (goes_round polygons place) most)

    pub depth-counted : count_by (is_of place) pairs ≡ depth_of polygons place
    depth-counted =
        count-same (is_of place) (before (length polygons)) pairs (λ k d inside. all-before (is_of place (get_or pairs k d)) (get_or pairs k d).1 (length polygons) (AreWithin-pairs k d inside).1)
        ∙ counted (length polygons) (omega arith)

  -- ---- parents

  module _ (depths : List ℕ) (deep : AreDepths (length polygons) pairs depths) where
    depth-is : (place : ℕ) → place < length polygons → get_or depths place 0 ≡ depth_of polygons place
    depth-is place within = deep.each place within ∙ depth-counted place within

    nearer : (one other : ℕ) → one < length polygons → other < length polygons → IsNoBetter depths one other → IsNoNearer polygons one other
    nearer one other within inside (inl less) = inl (let first = depth-is one within in let second = depth-is other inside in omega (arith, first, second, less))
    nearer one other within inside (inr (same, order)) = inr (sym (depth-is one within) ∙ same ∙ depth-is other inside, order)

    IsParent-best : (place : ℕ) → place < length polygons → (best : Option ℕ) → IsBest depths pairs place best → IsParent polygons place best
    IsParent-best place within None none = λ around inside. is_false (goes_round polygons place around) (λ does.
        let (differ, does_wind) = round_which place around (winds polygons place around) does in
        let stands = winds-pair place around within inside does_wind in
        let away = All-contains (λ pair. is_of place pair ≡ false) pairs (place, around) none stands in
        let told = of_both place around differ in
        absurd (cc))
    IsParent-best place within (Some best) (stands, differ, all) =
        let told = pair-winds place best stands in (
          told.1,
          round_both place best (winds polygons place best) differ told.2,
          λ around inside does.
              let (away, does_wind) = round_which place around (winds polygons place around) does in
              nearer around best inside told.1 (All-contains (λ pair. is_of place pair ≡ true → IsNoBetter depths pair.1 best) pairs (place, around) all (winds-pair place around within inside does_wind) (of_both place around away)),
        )

    pub AreParents-best : (found : List (Option ℕ)) → AreBest depths pairs found → AreParents polygons found
    AreParents-best found best = record {
      size = best.size ∙ deep.size;
      each = λ place within. IsParent-best place within (get_or found place None) (best.each place (let size = deep.size in omega (arith, size, within)));
    }
