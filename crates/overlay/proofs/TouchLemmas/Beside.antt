-- Which edges wind on the left of an edge: of lists that wind once around a point or not at all the edge's own alone, and each ring
-- of a polygon as often on the left of all edges of the polygon.
use Rattle.std.proofs.Common.{◌≡◌, ◌≢◌, inl, inr, zero, suc, ℤ, pos, ◌+ℤ◌, ◌≤ℤ◌, Bool, true, false, List, [], ◌∷◌, refl, sym, subst, ◌∙◌, arith}
use Rattle.std.specs.List.{All, Contains, flat_map}
use Rattle.std.proofs.lemmas.Int.{ints}
use Rattle.std.proofs.lemmas.List.Elements.{All-contains}
use Rattle.i_tree.proofs.RootLemmas.Joined.{AllPairs-behind, AllPairs-front}
use Rattle.i_tree.proofs.RootLemmas.Lists.{Contains-here, Contains-there}
use Rattle.plane.specs.declared.edge.Edge.{Edge}
use Rattle.plane.specs.Meet.Edges.{RationalPoint}
use Rattle.plane.proofs.PairsLemmas.Bags.{here_or_there}
use Rattle.noding.specs.Windings.{winding}
use Rattle.overlay.specs.Fill.Filled.{AreDistinct, AreNoded, HaveSameEnds}
use Rattle.overlay.specs.Sides.{HaveOnLeft, left_of}
use Rattle.overlay.proofs.FillLemmas.Premises.{All-among}
use Rattle.overlay.proofs.GroupingLemmas.Bags.{Contains-in_flat_map}
use Rattle.overlay.proofs.WindsLemmas.Corners.{left-once, winds-above}
use Rattle.overlay.proofs.WindsLemmas.LeftRight.{left-above, left-append, left-nothing}
use Rattle.overlay.proofs.WindsLemmas.NextInRing.{hole-none, outer-once}
use Rattle.overlay.proofs.WindsLemmas.Paired.{IsOneOrNone}
use Rattle.overlay.proofs.WindsLemmas.Polygons.{holds, holds-is, is-held}

abbrev Differ : Edge → Edge → Type 0
Differ one other = ¬ (HaveSameEnds one other)

abbrev joined : List (List Edge) → List Edge
joined lists = flat_map (λ (list : List Edge). list) lists

-- ---- sums of what lists wind

-- each of the lists winds at least not at all there
abbrev WindUp : Edge → List (List Edge) → Type 0
WindUp edge lists = (list : List Edge) → Contains lists list → pos 0 ≤ℤ left_of list edge

-- so all together do
least-all : (edge : Edge) (lists : List (List Edge)) → WindUp edge lists → pos 0 ≤ℤ left_of (joined lists) edge
least-all edge [] up = let nothing = left-nothing edge in omega (arith, ints, nothing)
least-all edge (list ∷ lists) up =
    let sum = left-append list (joined lists) edge in
    let here = up list (Contains-here list lists) in
    let rest = least-all edge lists (λ l held. up l (Contains-there list lists l held)) in
    omega (arith, ints, sum, here, rest)

-- and at least as often as each of them
least-one : (edge : Edge) (lists : List (List Edge)) → WindUp edge lists → (one : List Edge) → Contains lists one → left_of one edge ≤ℤ left_of (joined lists) edge
least-one edge [] up one (k, within, is) = absurd (omega (arith, within))
least-one edge (list ∷ lists) up one (zero, within, is) =
    subst (λ (l : List Edge). left_of l edge ≤ℤ left_of (joined (list ∷ lists)) edge) is
    (let sum = left-append list (joined lists) edge in
    let rest = least-all edge lists (λ l held. up l (Contains-there list lists l held)) in
    omega (arith, ints, sum, rest))
least-one edge (list ∷ lists) up one (suc k, within, is) =
    let sum = left-append list (joined lists) edge in
    let here = up list (Contains-here list lists) in
    let rest = least-one edge lists (λ l held. up l (Contains-there list lists l held)) one (k, omega (arith, within), is) in
    omega (arith, ints, sum, here, rest)

-- and as two of them
least-two : (edge : Edge) (lists : List (List Edge)) → WindUp edge lists → (one other : List Edge) → Contains lists one → Contains lists other → one ≢ other → (left_of one edge +ℤ left_of other edge) ≤ℤ left_of (joined lists) edge
least-two edge [] up one other (k, within, is) second apart = absurd (omega (arith, within))
least-two edge (list ∷ lists) up one other (zero, within, is) (zero, within', is') apart = absurd (apart (sym is ∙ is'))
least-two edge (list ∷ lists) up one other (zero, within, is) (suc k, within', is') apart =
    subst (λ (l : List Edge). (left_of l edge +ℤ left_of other edge) ≤ℤ left_of (joined (list ∷ lists)) edge) is
    (let sum = left-append list (joined lists) edge in
    let rest = least-one edge lists (λ l held. up l (Contains-there list lists l held)) other (k, omega (arith, within'), is') in
    omega (arith, ints, sum, rest))
least-two edge (list ∷ lists) up one other (suc k, within, is) (zero, within', is') apart =
    subst (λ (l : List Edge). (left_of one edge +ℤ left_of l edge) ≤ℤ left_of (joined (list ∷ lists)) edge) is'
    (let sum = left-append list (joined lists) edge in
    let rest = least-one edge lists (λ l held. up l (Contains-there list lists l held)) one (k, omega (arith, within), is) in
    omega (arith, ints, sum, rest))
least-two edge (list ∷ lists) up one other (suc k, within, is) (suc j, within', is') apart =
    let sum = left-append list (joined lists) edge in
    let here = up list (Contains-here list lists) in
    let rest = least-two edge lists (λ l held. up l (Contains-there list lists l held)) one other (k, omega (arith, within), is) (j, omega (arith, within'), is') apart in
    omega (arith, ints, sum, here, rest)

-- ---- lists that wind once around a point or not at all

-- the edges of each of the lists are distinct as those of all are
own-distinct : (lists : List (List Edge)) → AreDistinct (joined lists) → (list : List Edge) → Contains lists list → AreDistinct list
own-distinct [] distinct list (k, within, is) = absurd (omega (arith, within))
own-distinct (first ∷ lists) distinct list (zero, within, is) = subst AreDistinct is (AllPairs-front Differ first (joined lists) distinct)
own-distinct (first ∷ lists) distinct list (suc k, within, is) = own-distinct lists (AllPairs-behind Differ first (joined lists) distinct) list (k, omega (arith, within), is)

module _ (lists : List (List Edge)) (noded : AreNoded (flat_map (λ list. list) lists)) (distinct : AreDistinct (flat_map (λ list. list) lists)) (sloped : All (λ edge. edge.x0 ≢ edge.x1) (flat_map (λ list. list) lists))
    (once : (point : RationalPoint) → IsOneOrNone (winding (flat_map (λ list. list) lists) point)) (each : All (λ list. (point : RationalPoint) → IsOneOrNone (winding list point)) lists) where
  abbrev all : List Edge
  all = joined lists

  into : (list : List Edge) → Contains lists list → (edge : Edge) → Contains list edge → Contains all edge
  into list of edge held = Contains-in_flat_map (λ (l : List Edge). l) lists list edge of held

  has-slope : (edge : Edge) → Contains all edge → edge.x0 ≢ edge.x1
  has-slope edge among = All-contains (λ (e : Edge). e.x0 ≢ e.x1) all edge sloped among

  list-once : (list : List Edge) → Contains lists list → (point : RationalPoint) → IsOneOrNone (winding list point)
  list-once list of = All-contains (λ (l : List Edge). (point : RationalPoint) → IsOneOrNone (winding l point)) lists list each of

  -- on the left of its edges each winds once
  own-once : (list : List Edge) → Contains lists list → (edge : Edge) → Contains list edge → left_of list edge ≡ pos 1
  own-once list of edge held =
      left-once list (λ one other point first second. noded one other point (into list of one first) (into list of other second)) (own-distinct lists distinct list of)
      (All-among (λ (e : Edge). e.x0 ≢ e.x1) list (λ e inside. has-slope e (into list of e inside))) (list-once list of) edge held

  -- and on the left of any of the edges once or not at all
  beside : (edge : Edge) → Contains all edge → (list : List Edge) → Contains lists list → IsOneOrNone (left_of list edge)
  beside edge among list of = by (holds list edge) refl
    where
      never : true ≡ false → ⊥
      never h = cc

      by : (t : Bool) → holds list edge ≡ t → IsOneOrNone (left_of list edge)
      by true told = inr (own-once list of edge (holds-is list edge told))
      by false told =
          let (point, is) = winds-above all noded distinct sloped once edge among list (into list of) in
          subst IsOneOrNone (sym (left-above all distinct edge among (has-slope edge among) list (into list of) (λ inside. never (sym (is-held list edge inside) ∙ told)) ∙ is)) (list-once list of point)

  upwards : (z : ℤ) → IsOneOrNone z → pos 0 ≤ℤ z
  upwards z (inl is) = omega (arith, ints, is)
  upwards z (inr is) = omega (arith, ints, is)

  -- On the left of an edge of one of the lists no other one winds.
  pub others-none : (one other : List Edge) → Contains lists one → Contains lists other → (edge : Edge) → Contains one edge → ¬ (Contains other edge) → left_of other edge ≡ pos 0
  others-none one other of of_other edge held off =
      let among = into one of edge held in
      by (left_of one edge) (left_of other edge) (left_of all edge) (own-once one of edge held) (left-once all noded distinct sloped once edge among) (beside edge among other of_other)
      (least-two edge lists (λ list inside. upwards (left_of list edge) (beside edge among list inside)) one other of of_other (λ same. off (subst (λ (l : List Edge). Contains l edge) same held)))
    where
      by : (a b c : ℤ) → a ≡ pos 1 → c ≡ pos 1 → IsOneOrNone b → (a +ℤ b) ≤ℤ c → b ≡ pos 0
      by a b c first sum (inl none) least = none
      by a b c first sum (inr is) least = absurd (omega (arith, ints, first, sum, is, least))

-- ---- the rings of a polygon

module _ (outer : List Edge) (holes : List (List Edge)) (noded : AreNoded (flat_map (λ ring. ring) (outer ∷ holes))) (distinct : AreDistinct (flat_map (λ ring. ring) (outer ∷ holes)))
    (sloped : All (λ edge. edge.x0 ≢ edge.x1) (flat_map (λ ring. ring) (outer ∷ holes))) (once : (point : RationalPoint) → IsOneOrNone (winding (flat_map (λ ring. ring) (outer ∷ holes)) point))
    (outwards : HaveOnLeft (pos 1) outer) (inwards : All (HaveOnLeft (pos 0)) holes) where
  -- Each ring of a polygon winds alike on the left of all edges of the polygon.
  pub ring-alike : (ring : List Edge) → Contains (outer ∷ holes) ring → (one other : Edge) → Contains (flat_map (λ r. r) (outer ∷ holes)) one → Contains (flat_map (λ r. r) (outer ∷ holes)) other → left_of ring one ≡ left_of ring other
  ring-alike ring of one other among among_too =
      elim (here_or_there outer holes ring of) [
        | inl same ↦ subst (λ (r : List Edge). left_of r one ≡ left_of r other) same (outer-left one among ∙ sym (outer-left other among_too))
        | inr hole ↦ hole-left one among hole ∙ sym (hole-left other among_too hole)
      ]
    where
      outer-left : (edge : Edge) → Contains (joined (outer ∷ holes)) edge → left_of outer edge ≡ pos 1
      outer-left edge inside = outer-once outer holes noded distinct sloped once outwards inwards edge inside

      hole-left : (edge : Edge) → Contains (joined (outer ∷ holes)) edge → Contains holes ring → left_of ring edge ≡ pos 0
      hole-left edge inside hole = hole-none outer holes noded distinct sloped once outwards inwards edge inside ring hole
