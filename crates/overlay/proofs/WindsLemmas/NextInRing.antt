-- An outer ring and its holes wind once around a point or not at all. Around a point of a ring, the next of their edges clockwise
-- from the ring's own that starts there is the ring's own that ends there; so closed edges of theirs go along both as often.
use Rattle.std.proofs.Common.{◌≡◌, ◌⊎◌, ◌≢◌, inl, inr, zero, suc, ℕ, ℤ, pos, ◌+ℤ◌, ◌≤ℤ◌, Bool, true, false, List, [], ◌∷◌, refl, ap, sym, subst, ◌∙◌, arith}
use Rattle.std.specs.List.{All, Contains, count_by, flat_map}
use Rattle.std.proofs.lemmas.Int.{ints}
use Rattle.std.proofs.lemmas.List.Elements.{All-contains}
use Rattle.i_tree.proofs.RootLemmas.Joined.{AllPairs-across, AllPairs-behind}
use Rattle.i_tree.proofs.RootLemmas.Lists.{Contains-here, Contains-there}
use Rattle.plane.specs.declared.edge.Edge.{Edge}
use Rattle.plane.specs.declared.point.Point.{Point}
use Rattle.plane.specs.Ends.{end_of, start_of}
use Rattle.plane.specs.Meet.Edges.{RationalPoint}
use Rattle.plane.proofs.PairsLemmas.Bags.{here_or_there}
use Rattle.noding.specs.Windings.{winding}
use Rattle.overlay.specs.Fill.Filled.{AreDistinct, AreNoded, HaveSameEnds}
use Rattle.overlay.specs.Joined.{is_same}
use Rattle.overlay.specs.Sides.{HaveOnLeft, left_of, on_left, right_of}
use Rattle.overlay.proofs.AreaLemmas.Fans.{along-own}
use Rattle.overlay.proofs.AreaLemmas.Nearest.{next-some}
use Rattle.overlay.proofs.AreaLemmas.Wedges.{IsNextAround, right-ending, right-starting, same-between}
use Rattle.overlay.proofs.FillLemmas.Balance.{AreBalanced, balanced}
use Rattle.overlay.proofs.GroupingLemmas.Bags.{Contains-flat_map, Contains-in_flat_map}
use Rattle.overlay.proofs.WindsLemmas.Areas.{left-is}
use Rattle.overlay.proofs.WindsLemmas.Corners.{ends-next, left-once, winds-above}
use Rattle.overlay.proofs.WindsLemmas.Left.{IsUpto, winds-left}
use Rattle.overlay.proofs.WindsLemmas.LeftRight.{left-above, left-append, left-counted, left-nothing, left-own, left-right}
use Rattle.overlay.proofs.WindsLemmas.Paired.{IsOneOrNone}
use Rattle.overlay.proofs.WindsLemmas.Polygons.{holds, holds-is, is-held}

abbrev Differ : Edge → Edge → Type 0
Differ one other = ¬ (HaveSameEnds one other)

never : true ≡ false → ⊥
never h = cc

-- The edge is one of these or it isn't.
pub held-or : (mine : List Edge) (edge : Edge) → Contains mine edge ⊎ (¬ (Contains mine edge))
held-or mine edge = by (holds mine edge) refl
  where
    by : (t : Bool) → holds mine edge ≡ t → Contains mine edge ⊎ (¬ (Contains mine edge))
    by true told = inl (holds-is mine edge told)
    by false told = inr (λ held. never (sym (is-held mine edge held) ∙ told))

abbrev joined : List (List Edge) → List Edge
joined rings = flat_map (λ (ring : List Edge). ring) rings

-- ---- rings of distinct edges

-- none is of two of them
apart-rings : (ring : List Edge) (others : List (List Edge)) → AreDistinct (joined (ring ∷ others)) → (edge : Edge) → Contains ring edge → (other : List Edge) → Contains others other → Contains other edge → ⊥
apart-rings ring others distinct edge held other of held_too =
    All-contains (Differ edge) (joined others) edge
    (All-contains (λ one. All (Differ one) (joined others)) ring edge (AllPairs-across Differ ring (joined others) distinct) held)
    (Contains-in_flat_map (λ (r : List Edge). r) others other edge of held_too) (inl refl)

-- So an edge tells its ring.
pub one-ring : (rings : List (List Edge)) → AreDistinct (joined rings) → (one other : List Edge) → Contains rings one → Contains rings other → (edge : Edge) → Contains one edge → Contains other edge → one ≡ other
one-ring [] distinct one other (k, within, is) second edge held held_too = absurd (omega (arith, within))
one-ring (ring ∷ rings) distinct one other (zero, within, is) (zero, within', is') edge held held_too = sym is ∙ is'
one-ring (ring ∷ rings) distinct one other (zero, within, is) (suc k, within', is') edge held held_too =
    absurd (apart-rings ring rings distinct edge (subst (λ (r : List Edge). Contains r edge) (sym is) held) other (k, omega (arith, within'), is') held_too)
one-ring (ring ∷ rings) distinct one other (suc k, within, is) (zero, within', is') edge held held_too =
    absurd (apart-rings ring rings distinct edge (subst (λ (r : List Edge). Contains r edge) (sym is') held_too) one (k, omega (arith, within), is) held)
one-ring (ring ∷ rings) distinct one other (suc k, within, is) (suc j, within', is') edge held held_too =
    one-ring rings (AllPairs-behind Differ ring (joined rings) distinct) one other (k, omega (arith, within), is) (j, omega (arith, within'), is') edge held held_too

-- ---- an outer ring and holes

module _ (outer : List Edge) (holes : List (List Edge)) (noded : AreNoded (flat_map (λ ring. ring) (outer ∷ holes))) (distinct : AreDistinct (flat_map (λ ring. ring) (outer ∷ holes)))
    (sloped : All (λ edge. edge.x0 ≢ edge.x1) (flat_map (λ ring. ring) (outer ∷ holes))) (once : (point : RationalPoint) → IsOneOrNone (winding (flat_map (λ ring. ring) (outer ∷ holes)) point))
    (outwards : HaveOnLeft (pos 1) outer) (inwards : All (HaveOnLeft (pos 0)) holes) where
  abbrev rings : List (List Edge)
  rings = outer ∷ holes

  abbrev edges : List Edge
  edges = joined rings

  has-slope : (edge : Edge) → Contains edges edge → edge.x0 ≢ edge.x1
  has-slope edge among = All-contains (λ (e : Edge). e.x0 ≢ e.x1) edges edge sloped among

  -- the edges of a ring are among them
  into : (ring : List Edge) → Contains rings ring → (edge : Edge) → Contains ring edge → Contains edges edge
  into ring of edge held = Contains-in_flat_map (λ (r : List Edge). r) rings ring edge of held

  hole-of : (hole : List Edge) → Contains holes hole → HaveOnLeft (pos 0) hole
  hole-of hole of = All-contains (HaveOnLeft (pos 0)) holes hole inwards of

  -- ---- what a ring winds on the left of an edge

  module _ (edge : Edge) (among : Contains edges edge) where
    -- as often as on its own left, or once less
    beside : (z : ℤ) → IsUpto z (pos 0) → (ring : List Edge) → HaveOnLeft z ring → Contains rings ring → IsUpto z (left_of ring edge)
    beside z none ring left of =
        elim (held-or ring edge) [
          | inl held ↦ inl (left-is ring edge (along-own ring edge left.distinct held) ∙ All-contains (λ e. on_left ring e ≡ z) ring edge left.left held)
          | inr off ↦
              let (point, is) = winds-above edges noded distinct sloped once edge among ring (into ring of) in
              subst (IsUpto z) (sym (left-above edges distinct edge among (has-slope edge among) ring (into ring of) off ∙ is))
              (winds-left ring left.closed left.noded left.distinct left.sloped z none left.left point)
        ]

    -- so the outer ring once or not at all, and a hole not at all or once the other way
    by-outer : IsUpto (pos 1) (left_of outer edge)
    by-outer = beside (pos 1) (inr (omega (arith, ints))) outer outwards (Contains-here outer holes)

    by-hole : (hole : List Edge) → Contains holes hole → IsUpto (pos 0) (left_of hole edge)
    by-hole hole of = beside (pos 0) (inl refl) hole (hole-of hole of) (Contains-there outer holes hole of)

    upto-none : (z : ℤ) → IsUpto (pos 0) z → z ≤ℤ pos 0
    upto-none z (inl is) = omega (arith, ints, is)
    upto-none z (inr is) = omega (arith, ints, is)

    -- some holes together at most not at all, and at most as often as each of them
    most : (some : List (List Edge)) → ((hole : List Edge) → Contains some hole → Contains holes hole) → left_of (joined some) edge ≤ℤ pos 0
    most [] among_holes = let nothing = left-nothing edge in omega (arith, ints, nothing)
    most (hole ∷ some) among_holes =
        let sum = left-append hole (joined some) edge in
        let here = upto-none (left_of hole edge) (by-hole hole (among_holes hole (Contains-here hole some))) in
        let rest = most some (λ h held. among_holes h (Contains-there hole some h held)) in
        omega (arith, ints, sum, here, rest)

    least : (some : List (List Edge)) → ((hole : List Edge) → Contains some hole → Contains holes hole) → (one : List Edge) → Contains some one → left_of (joined some) edge ≤ℤ left_of one edge
    least [] among_holes one (k, within, is) = absurd (omega (arith, within))
    least (hole ∷ some) among_holes one (zero, within, is) =
        let sum = left-append hole (joined some) edge in
        let same = ap (λ (h : List Edge). left_of h edge) is in
        let rest = most some (λ h held. among_holes h (Contains-there hole some h held)) in
        omega (arith, ints, sum, same, rest)
    least (hole ∷ some) among_holes one (suc k, within, is) =
        let sum = left-append hole (joined some) edge in
        let here = upto-none (left_of hole edge) (by-hole hole (among_holes hole (Contains-here hole some))) in
        let rest = least some (λ h held. among_holes h (Contains-there hole some h held)) one (k, omega (arith, within), is) in
        omega (arith, ints, sum, here, rest)

    -- All together wind once there. So no hole winds there.
    pub hole-none : (hole : List Edge) → Contains holes hole → left_of hole edge ≡ pos 0
    hole-none hole of =
        by (left_of edges edge) (left_of outer edge) (left_of (joined holes) edge) (left_of hole edge) (left-append outer (joined holes) edge) (left-once edges noded distinct sloped once edge among) by-outer (by-hole hole of)
        (least holes (λ h held. held) hole of)
      where
        by : (a o r h : ℤ) → a ≡ (o +ℤ r) → a ≡ pos 1 → IsUpto (pos 1) o → IsUpto (pos 0) h → r ≤ℤ h → h ≡ pos 0
        by a o r h sum one upto (inl none) less = none
        by a o r h sum one (inl is) (inr below) less = absurd (omega (arith, ints, sum, one, is, below, less))
        by a o r h sum one (inr is) (inr below) less = absurd (omega (arith, ints, sum, one, is, below, less))

    -- and the outer ring winds once there
    pub outer-once : left_of outer edge ≡ pos 1
    outer-once =
        by (left_of edges edge) (left_of outer edge) (left_of (joined holes) edge) (left-append outer (joined holes) edge) (left-once edges noded distinct sloped once edge among) by-outer (most holes (λ h held. held))
      where
        by : (a o r : ℤ) → a ≡ (o +ℤ r) → a ≡ pos 1 → IsUpto (pos 1) o → r ≤ℤ pos 0 → o ≡ pos 1
        by a o r sum one (inl is) less = is
        by a o r sum one (inr is) less = absurd (omega (arith, ints, sum, one, is, less))

  -- ---- around a point of a ring

  module _ (ends : (ring : List Edge) → Contains (outer ∷ holes) ring → (one other : Edge) → Contains ring one → Contains ring other → end_of one ≡ end_of other → one ≡ other) (closed : AreBalanced (flat_map (λ ring. ring) (outer ∷ holes)))
      (ring : List Edge) (of : Contains (outer ∷ holes) ring) (one other : Edge) (held : Contains ring one) (held_too : Contains ring other) (meet : end_of one ≡ start_of other) where
    abbrev at : Point
    at = start_of other

    among : Contains edges other
    among = into ring of other held_too

    slope : other.x0 ≢ other.x1
    slope = has-slope other among

    -- some edge is the next one clockwise from that which starts there
    next : (edge : Edge) × IsNextAround edges at other edge
    next = next-some edges noded distinct sloped at other among (inl refl) closed

    abbrev edge : Edge
    edge = next.0

    among_too : Contains edges edge
    among_too = let is = next.1 in is.among_too

    -- and ends there
    ends_there : end_of edge ≡ at
    ends_there = ends-next edges noded distinct sloped once closed at other edge next.1 refl

    -- some of the edges wind alike on the right of both
    right-alike : (mine : List Edge) → AreBalanced mine → ((e : Edge) → Contains mine e → Contains edges e) → right_of mine other ≡ right_of mine edge
    right-alike mine even within =
        right-starting mine at other slope refl ∙ same-between edges noded distinct sloped mine even within at other edge next.1 ∙ sym (right-ending mine at edge ends_there)

    -- Where a ring winds on the left of neither, and the second alone is an edge of it, it can't wind alike on the right of both.
    apart : (f g : ℤ) (f_right g_right : ℤ) → f ≡ f_right → g ≡ (g_right +ℤ pos 1) → f_right ≡ g_right → f ≡ pos 0 → g ≡ pos 0 → ⊥
    apart f g f_right g_right first second same none none_too = omega (arith, ints, first, second, same, none, none_too)

    -- so the next one is of no other ring: of the two rings one is a hole
    elsewhere : (its : List Edge) → Contains rings its → Contains its edge → ¬ (Contains its other) → ⊥
    elsewhere its its_of its_held off =
        elim (here_or_there outer holes its its_of) [
          | inr hole ↦
              let is = hole-of its hole in
              apart (left_of its other) (left_of its edge) (right_of its other) (right_of its edge) (left-right edges distinct other among slope its (into its its_of) off) (left-own its edge is.distinct its_held (has-slope edge among_too))
              (right-alike its (balanced its is.closed) (into its its_of)) (hole-none other among its hole) (hole-none edge among_too its hole)
          | inl same ↦ elim (here_or_there outer holes ring of) [
            | inl same_too ↦ off (subst (λ (r : List Edge). Contains r other) (sym same_too ∙ same) held_too)
            | inr hole ↦
                let is = hole-of ring hole in
                apart (left_of ring edge) (left_of ring other) (right_of ring edge) (right_of ring other) (left-right edges distinct edge among_too (has-slope edge among_too) ring (into ring of) not_of_ring) (left-own ring other is.distinct held_too slope)
                (sym (right-alike ring (balanced ring is.closed) (into ring of))) (hole-none edge among_too ring hole) (hole-none other among ring hole)
          ]
        ]
      where
        not_of_ring : ¬ (Contains ring edge)
        not_of_ring on = off (subst (λ (r : List Edge). Contains r other) (one-ring rings distinct ring its of its_of edge on its_held) held_too)

    -- The next edge clockwise from the one of the ring that starts there is the ring's own that ends there.
    own-next : edge ≡ one
    own-next =
        let (its, its_of, its_held) = Contains-flat_map (λ (r : List Edge). r) rings edge among_too in
        elim (held-or its other) [
          | inl on ↦ ends ring of edge one (subst (λ (r : List Edge). Contains r edge) (one-ring rings distinct its ring its_of of other on held_too) its_held) held (ends_there ∙ sym meet)
          | inr off ↦ absurd (elsewhere its its_of its_held off)
        ]

    -- So any closed edges of theirs that wind alike on the left of both go along both as often.
    pub as-often : (mine : List Edge) → AreBalanced mine → ((e : Edge) → Contains mine e → Contains (flat_map (λ r. r) (outer ∷ holes)) e) → left_of mine one ≡ left_of mine other → count_by (is_same one) mine ≡ count_by (is_same other) mine
    as-often mine even within left =
        let among_one : Contains edges one = into ring of one held in
        let right : right_of mine other ≡ right_of mine one = right-alike mine even within ∙ ap (λ (e : Edge). right_of mine e) own-next in
        let first = left-counted edges distinct one among_one (has-slope one among_one) mine within in
        let second = left-counted edges distinct other among slope mine within in
        equal (left_of mine one) (left_of mine other) (right_of mine one) (right_of mine other) (count_by (is_same one) mine) (count_by (is_same other) mine) left right first second
      where
        equal : (a b c d : ℤ) (m n : ℕ) → a ≡ b → d ≡ c → a ≡ (c +ℤ pos m) → b ≡ (d +ℤ pos n) → m ≡ n
        equal a b c d m n left right first second = omega (arith, ints, left, right, first, second)
