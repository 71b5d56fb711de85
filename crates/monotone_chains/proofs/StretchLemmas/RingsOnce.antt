-- Widened rings visit no point twice: inner points of a long stretch are points of no other edge, nor of another stretch.
use Rattle.std.proofs.Common.{◌≡◌, ◌≢◌, ◌⊎◌, inl, inr, ⊎_elim, zero, suc, ◌≤◌, List, [], ◌∷◌, ◌++◌, get_or, length, reverse, refl, sym, ap, ◌∙◌, subst, arith}
use Rattle.std.specs.List.{All, AllPairs, AllZip, Contains, flat_map}
use Rattle.std.proofs.lemmas.Bool.{cases_lt}
use Rattle.std.proofs.lemmas.Int.{ints}
use Rattle.std.proofs.lemmas.List.{length-reverse, length_push}
use Rattle.std.proofs.lemmas.List.Elements.{All-contains, Contains-append_cases, Contains-append_left, Contains-get_or}
use Rattle.std.proofs.lemmas.List.Sorted.{Contains-permutation, IsPermutation-reverse, IsPermutation-sym}
use Rattle.i_tree.proofs.RootLemmas.Joined.{AllPairs-append, AllPairs-front, AllPairs-nil}
use Rattle.i_tree.proofs.RootLemmas.Lists.{AllPairs-head, AllPairs-tail, Contains-here, Contains-there}
use Rattle.plane.proofs.PairsLemmas.Bags.{AllPairs-permutation}
use Rattle.plane.proofs.SweepLineLemmas.Adjacent.{AllPairs-before}
use Rattle.plane.specs.declared.edge.Edge.{Edge}
use Rattle.plane.specs.declared.point.Point.{Point}
use Rattle.overlay.specs.Fill.Filled.{AreDistinct, HaveSameEnds}
use Rattle.noding.specs.Chains.{IsEnd}
use Rattle.plane.specs.Ends.{end_of, reversed, start_of}
use Rattle.monotone_chains.specs.Stretches.{AreClear, GoesAlong, IsLong, IsStretch, but_last, chord}
use Rattle.overlay.proofs.FillLemmas.Kept.{same-exchanged, same-trans}
use Rattle.monotone_chains.proofs.StretchLemmas.Boxes.{ClearIfLong, IsTip, clear-any, long-ways, outmost-tip}
use Rattle.monotone_chains.proofs.StretchLemmas.Reverse.{chord-reverse}
use Rattle.monotone_chains.proofs.StretchLemmas.Ways.{IsWay, but_last-ends, but_last-way, chord-way}

abbrev Differ : Point → Point → Type 0
Differ one other = one ≢ other

-- ---- the points of one stretch

-- no two of a long stretch are one
long-once : (s : List Point) → IsStretch s → IsLong s → AllPairs Differ s
long-once s is long = ⊎_elim
    (λ rises i j d below within same. let less = rises i j d below within in let x = ap (λ (p : Point). p.x) same in omega (arith, ints, less, x))
    (λ falls i j d below within same. let less = falls i j d below within in let x = ap (λ (p : Point). p.x) same in omega (arith, ints, less, x))
    (long-ways s is long)

reverse-once : (points : List Point) → AllPairs Differ (reverse points) → AllPairs Differ points
reverse-once points once = AllPairs-permutation Differ (λ one other differ same. differ (sym same)) (reverse points) points (IsPermutation-sym points (reverse points) (IsPermutation-reverse points)) once

-- a point of two clear stretches is an end of the one's chord
clear-tip : (s t : List Point) → IsStretch s → AreClear s t → (p : Point) → Contains s p → Contains t p → IsTip s p
clear-tip s t is (inl apart) p of of_other = let less = apart.beyond p p of of_other in absurd (omega (arith, ints, less))
clear-tip s t is (inr (inl goes)) p of of_other =
    let here : p ≡ goes.at = ⊎_elim (λ same. same) (λ less. ⊎_elim (λ same. same) (λ more. absurd (omega (arith, ints, less, more))) (goes.right p of_other)) (goes.left p of) in
    subst (IsTip s) (sym here) (outmost-tip s is goes.at goes.of (inl goes.left))
clear-tip s t is (inr (inr goes)) p of of_other =
    let here : p ≡ goes.at = ⊎_elim (λ same. same) (λ less. ⊎_elim (λ same. same) (λ more. absurd (omega (arith, ints, less, more))) (goes.left p of_other)) (goes.right p of) in
    subst (IsTip s) (sym here) (outmost-tip s is goes.at goes.of_others (inr goes.right))

-- ---- the points of one way

-- the point is one of a long stretch whose chord has the ends of the edge, and isn't one of these
record IsInside (all : List (List Point)) (edge : Edge) (p : Point) : Type 0 where
  stretch : List Point
  among : Contains all stretch
  long : IsLong stretch
  of : Contains stretch p
  off : ¬ (IsTip stretch p)
  ends : HaveSameEnds edge (chord stretch)

-- The points are those of a stretch, one way or the other.
record OfStretch (all : List (List Point)) (way : List Point) : Type 0 where
  stretch : List Point
  among : Contains all stretch
  some : 2 ≤ length way
  size : length stretch ≡ length way
  held : (p : Point) → Contains way p → Contains stretch p
  ends : HaveSameEnds (chord way) (chord stretch)
  once : IsLong way → AllPairs Differ way

few-once : (points : List Point) → length points ≤ 1 → AllPairs Differ points
few-once points few i j d below within = absurd (omega (arith, few, below, within))

module _ (all : List (List Point)) (each : All IsStretch all) where
  of_stretch : (way : List Point) → Contains all way ⊎ Contains all (reverse way) → OfStretch all way
  of_stretch way (inl along) =
      let is = All-contains IsStretch all way each along in record {
        stretch = way;
        among = along;
        some = is.some;
        size = refl;
        held = λ p of. of;
        ends = inl refl;
        once = long-once way is;
      }
  of_stretch way (inr back) =
      let is = All-contains IsStretch all (reverse way) each back in
      let some = is.some in
      let size = length-reverse way in record {
        stretch = reverse way;
        among = back;
        some = omega (arith, some, size);
        size = size;
        held = λ p of. Contains-permutation way (reverse way) p (IsPermutation-reverse way) of;
        ends = inr (sym (ap reversed (chord-reverse way (omega (arith, some, size)))));
        once = λ long. reverse-once way (long-once (reverse way) is (omega (arith, long, size)));
      }

  -- its points between its ends
  module _ (way : List Point) (is : IsWay (chord way) way) where
    way-size : length way ≡ suc (suc (length is.inner))
    way-size =
        let long = length_push is.inner (end_of (chord way)) in
        let whole = ap (λ (points : List Point). length points) is.is in
        omega (arith, long, whole)

    inner-inside : OfStretch all way → (p : Point) → Contains is.inner p → IsInside all (chord way) p
    inner-inside source p (k, inside, at) =
        let size = way-size in
        let long : IsLong way = omega (arith, size, inside) in
        let apart = subst (AllPairs Differ) is.is (source.once long) in
        let among = Contains-append_left is.inner (end_of (chord way) ∷ []) p (k, inside, at) in
        let not_start = All-contains (Differ (start_of (chord way))) (is.inner ++ end_of (chord way) ∷ []) p (AllPairs-head Differ (start_of (chord way)) (is.inner ++ end_of (chord way) ∷ []) apart) among in
        let not_end = All-contains (λ q. Differ q (end_of (chord way))) is.inner p
        (AllPairs-before Differ is.inner (end_of (chord way)) [] (AllPairs-tail Differ (start_of (chord way)) (is.inner ++ end_of (chord way) ∷ []) apart)) (k, inside, at) in
        let same = source.size in record {
          stretch = source.stretch;
          among = source.among;
          long = omega (arith, same, long);
          of = source.held p (subst (λ (points : List Point). Contains points p) (sym is.is) (Contains-there (start_of (chord way)) (is.inner ++ end_of (chord way) ∷ []) p among));
          off = off (λ start. not_start (sym start)) not_end source.stretch source.ends;
          ends = source.ends;
        }
      where
        off : p ≢ start_of (chord way) → p ≢ end_of (chord way) → (s : List Point) → HaveSameEnds (chord way) (chord s) → ¬ (IsTip s p)
        off not_start not_end s (inl same) (inl start) = not_start (start ∙ sym (ap start_of same))
        off not_start not_end s (inl same) (inr end) = not_end (end ∙ sym (ap end_of same))
        off not_start not_end s (inr back) (inl start) = not_end (start ∙ sym (ap end_of back))
        off not_start not_end s (inr back) (inr end) = not_start (end ∙ sym (ap start_of back))

  way-point : (edge : Edge) (way : List Point) → GoesAlong all edge way → (p : Point) → Contains (but_last way) p → (p ≡ start_of edge) ⊎ IsInside all edge p
  way-point edge way (inl (is_chord, among)) p of =
      let source = of_stretch way among in
      let is = chord-way way source.some in
      subst (λ (e : Edge). (p ≡ start_of e) ⊎ IsInside all e p) is_chord (go source is (subst (λ (points : List Point). Contains points p) (but_last-way (chord way) way is) of))
    where
      go : OfStretch all way → (is : IsWay (chord way) way) → Contains (start_of (chord way) ∷ is.inner) p → (p ≡ start_of (chord way)) ⊎ IsInside all (chord way) p
      go source is (zero, inside, at) = inl (sym at)
      go source is (suc k, inside, at) = inr (inner-inside way is source p (k, omega (arith, inside), at))
  way-point edge way (inr (straight, none)) p of =
      first (subst (λ (points : List Point). Contains points p) (ap but_last straight ∙ but_last-ends (start_of edge) [] (end_of edge)) of)
    where
      first : Contains (start_of edge ∷ []) p → (p ≡ start_of edge) ⊎ IsInside all edge p
      first (zero, inside, at) = inl (sym at)
      first (suc k, inside, at) = absurd (omega (arith, inside))

  -- no two points of a way are one, but the last may be the first
  way-once : (edge : Edge) (way : List Point) → GoesAlong all edge way → AllPairs Differ (but_last way)
  way-once edge way (inl (is_chord, among)) =
      let source = of_stretch way among in
      let is = chord-way way source.some in
      let size = way-size way is in
      subst (AllPairs Differ) (sym (but_last-way (chord way) way is)) (elim (cases_lt 2 (length way)) [
        | inl long ↦ AllPairs-front Differ (start_of (chord way) ∷ is.inner) (end_of (chord way) ∷ []) (subst (AllPairs Differ) is.is (source.once long))
        | inr few ↦ few-once (start_of (chord way) ∷ is.inner) (omega (arith, size, few))
      ])
  way-once edge way (inr (straight, none)) =
      subst (AllPairs Differ) (sym (ap but_last straight ∙ but_last-ends (start_of edge) [] (end_of edge))) (few-once (start_of edge ∷ []) (omega arith))

  -- ---- the points of many ways

  -- the ends of edges among these that are points of long stretches are ends of their chords
  module _ (clear : AllPairs ClearIfLong all) (edges : List Edge)
      (tips : (edge : Edge) (point : Point) → Contains edges edge → IsEnd edge point.x point.y → (s : List Point) → Contains all s → IsLong s → Contains s point → IsTip s point) where
    start-outside : (edge other : Edge) → Contains edges edge → (p q : Point) → p ≡ start_of edge → IsInside all other q → p ≢ q
    start-outside edge other among p q start is same =
        let at = sym same ∙ start in
        is.off (tips edge q among (inl (ap (λ (r : Point). r.x) at, ap (λ (r : Point). r.y) at)) is.stretch is.among is.long is.of)

    insides-apart : (edge other : Edge) → ¬ (HaveSameEnds edge other) → (p q : Point) → IsInside all edge p → IsInside all other q → p ≢ q
    insides-apart edge other distinct p q one two same =
        let of_other = subst (Contains two.stretch) (sym same) two.of in
        elim (clear-any all clear one.stretch two.stretch one.among two.among) [
          | inl is ↦
              distinct (same-trans edge (chord two.stretch) other (subst (λ (s : List Point). HaveSameEnds edge (chord s)) is one.ends) (same-exchanged other (chord two.stretch) two.ends))
          | inr if_long ↦ one.off (clear-tip one.stretch two.stretch (All-contains IsStretch all one.stretch each one.among) (if_long (inl one.long)) p one.of of_other)
        ]

    ways-apart : (edge other : Edge) (way way' : List Point) → GoesAlong all edge way → GoesAlong all other way' → Contains edges edge → Contains edges other → start_of edge ≢ start_of other → ¬ (HaveSameEnds edge other)
        → (p q : Point) → Contains (but_last way) p → Contains (but_last way') q → p ≢ q
    ways-apart edge other way way' goes goes' among among' starts distinct p q of of' same = go (way-point edge way goes p of) (way-point other way' goes' q of')
      where
        go : (p ≡ start_of edge) ⊎ IsInside all edge p → (q ≡ start_of other) ⊎ IsInside all other q → ⊥
        go (inl start) (inl start') = starts (sym start ∙ same ∙ start')
        go (inl start) (inr is) = start-outside edge other among p q start is same
        go (inr is) (inl start') = start-outside other edge among' q p start' is (sym same)
        go (inr one) (inr two) = insides-apart edge other distinct p q one two same

    -- a point of the ways is one of one of them
    record IsOnWay (some : List Edge) (q : Point) : Type 0 where
      edge : Edge
      way : List Point
      held : Contains some edge
      goes : GoesAlong all edge way
      of : Contains (but_last way) q

    on_way : (some : List Edge) (ways : List (List Point)) → AllZip (GoesAlong all) some ways → (q : Point) → Contains (flat_map but_last ways) q → IsOnWay some q
    on_way [] [] zip q (k, inside, at) = absurd (omega (arith, inside))
    on_way (edge ∷ some) (way ∷ ways) zip q of = elim (Contains-append_cases (but_last way) (flat_map but_last ways) q of) [
      | inl first ↦ record { edge = edge; way = way; held = Contains-here edge some; goes = zip.0; of = first }
      | inr later ↦
          let rest = on_way some ways zip.1 q later in record {
            edge = rest.edge;
            way = rest.way;
            held = Contains-there edge some rest.edge rest.held;
            goes = rest.goes;
            of = rest.of;
          }
    ]
    on_way [] (way ∷ ways) zip q of = absurd zip
    on_way (edge ∷ some) [] zip q of = absurd zip

    -- where no edge of the one list has the ends of one of the other, a point of the ways of both starts an edge of each
    pub ways-share : (some others : List Edge) (ways other_ways : List (List Point)) → ((edge : Edge) → Contains some edge → Contains edges edge) → ((edge : Edge) → Contains others edge → Contains edges edge)
        → ((edge other : Edge) → Contains some edge → Contains others other → ¬ (HaveSameEnds edge other)) → AllZip (GoesAlong all) some ways → AllZip (GoesAlong all) others other_ways
        → (p : Point) → Contains (flat_map but_last ways) p → Contains (flat_map but_last other_ways) p → (edge : Edge) × (other : Edge) × Contains some edge × Contains others other × (p ≡ start_of edge) × (p ≡ start_of other)
    ways-share some others ways other_ways among other_among distinct zip other_zip p of other_of =
        let one = on_way some ways zip p of in
        let two = on_way others other_ways other_zip p other_of in
        elim (way-point one.edge one.way one.goes p one.of) [
          | inl start ↦ elim (way-point two.edge two.way two.goes p two.of) [
            | inl other_start ↦ (one.edge, two.edge, one.held, two.held, start, other_start)
            | inr is ↦ absurd (start-outside one.edge two.edge (among one.edge one.held) p p start is refl)
          ]
          | inr is ↦ elim (way-point two.edge two.way two.goes p two.of) [
            | inl other_start ↦ absurd (start-outside two.edge one.edge (other_among two.edge two.held) p p other_start is refl)
            | inr other_is ↦ absurd (insides-apart one.edge two.edge (distinct one.edge two.edge one.held two.held) p p is other_is refl)
          ]
        ]

    pub ways-once : (some : List Edge) (ways : List (List Point)) → ((edge : Edge) → Contains some edge → Contains edges edge) → AllPairs (λ one other. start_of one ≢ start_of other) some → AreDistinct some
        → AllZip (GoesAlong all) some ways → AllPairs Differ (flat_map but_last ways)
    ways-once [] [] among starts distinct zip = AllPairs-nil Differ
    ways-once (edge ∷ some) (way ∷ ways) among starts distinct zip =
        let Starts : Edge → Edge → Type 0 = λ one other. start_of one ≢ start_of other in
        let Distinct : Edge → Edge → Type 0 = λ one other. ¬ (HaveSameEnds one other) in
        AllPairs-append Differ (but_last way) (flat_map but_last ways)
        (way-once edge way zip.0)
        (ways-once some ways (λ other held. among other (Contains-there edge some other held)) (AllPairs-tail Starts edge some starts) (AllPairs-tail Distinct edge some distinct) zip.1)
        (λ k d inside l e inside'.
        (let other = on_way some ways zip.1 (get_or (flat_map but_last ways) l e) (Contains-get_or (flat_map but_last ways) l e inside') in
        ways-apart edge other.edge way other.way zip.0 other.goes (among edge (Contains-here edge some)) (among other.edge (Contains-there edge some other.edge other.held))
        (All-contains (Starts edge) some other.edge (AllPairs-head Starts edge some starts) other.held)
        (All-contains (Distinct edge) some other.edge (AllPairs-head Distinct edge some distinct) other.held)
        (get_or (but_last way) k d) (get_or (flat_map but_last ways) l e) (Contains-get_or (but_last way) k d inside) other.of))
    ways-once [] (way ∷ ways) among starts distinct zip = absurd zip
    ways-once (edge ∷ some) [] among starts distinct zip = absurd zip
