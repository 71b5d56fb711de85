-- Of edges that bound a region the one that begins first goes rightwards.
use Rattle.std.proofs.Common.{◌≡◌, ◌≢◌, ◌⊎◌, inl, inr, ◌+◌, ◌<◌, ◌∷◌, [], Bool, true, false, cond, ℕ, ℤ, pos, negsuc, ◌+ℤ◌, ◌-ℤ◌, ◌*ℤ◌, ◌≤ℤ◌, ◌<ℤ◌, List, refl, ap, sym, subst, suc, zero, ◌∙◌, arith}
use Rattle.std.specs.List.{Contains}
use Rattle.std.proofs.lemmas.Int.{ints, by_lt_z}
use Rattle.std.proofs.lemmas.List.Elements.{All-contains}
use Rattle.i_tree.proofs.RootLemmas.Lists.{AllPairs-head, AllPairs-tail, Contains-here, Contains-there}
use Rattle.plane.specs.declared.edge.Edge.{Edge}
use Rattle.plane.specs.Meet.Edges.{RationalPoint}
use Rattle.plane.specs.SweepLine.Heights.{rightwards, run, height_by_run, height_by_runs}
use Rattle.plane.proofs.MeetLemmas.Identities.{at_most, identity, minus, number, plus, scaled, times}
use Rattle.plane.proofs.SweepLineLemmas.Rightwards.{rightwards-right}
use Rattle.overlay.specs.Fill.Begins.{BeginsUpto}
use Rattle.overlay.specs.Fill.Filled.{AreDistinct, AreNoded, HaveSameEnds}
use Rattle.overlay.specs.Fill.Pieces.{total, weight}
use Rattle.noding.specs.Windings.{winding}
use Rattle.overlay.proofs.FillLemmas.Kept.{same-exchanged, same-rightwards, same-trans}
use Rattle.overlay.proofs.FillLemmas.Level.{MeetOnly}
use Rattle.overlay.proofs.FillLemmas.Order.{twofold}
use Rattle.overlay.proofs.FillLemmas.Premises.{All-among}
use Rattle.overlay.proofs.FillLemmas.Tests.{lt_false, lt_is, over_is}
use Rattle.overlay.proofs.FillLemmas.Totals.{total-none}
use Rattle.overlay.proofs.FillLemmas.Uncrossed.{MeetOnly-exchanged, MeetOnly-rightwards}
use Rattle.overlay.proofs.FillLemmas.Under.{is_counted-from, under_is, under_over}
use Rattle.overlay.proofs.FillLemmas.Weights.{weight-left}
use Rattle.overlay.proofs.FillLemmas.Wound.{winding-total}
use Rattle.overlay.proofs.PieceLemmas.Made.{begins-lower, rightwards-onwards}
use Rattle.noding.proofs.SnapLemmas.Counted.{height_at, is_counted}
use Rattle.noding.proofs.SnapLemmas.Numbers.{Natural, below, n_of, natural}
use Rattle.noding.proofs.SnapLemmas.Rounding.{Floor}

-- ---- edges of which no two have the same ends

-- where one of them alone counts, the sum is what it counts
pub total-one : (f : Edge → ℤ) (g : Edge) (edges : List Edge) → Contains edges g → AreDistinct edges → ((edge : Edge) → Contains edges edge → ¬ (HaveSameEnds edge g) → f edge ≡ pos 0) → total f edges ≡ f g
total-one f g [] (k, within, is) distinct none = absurd (omega (arith, within))
total-one f g (edge ∷ edges) (zero, within, is) distinct none =
    first_alone (f edge) (f g) (total f edges) (ap f is)
    (total-none f edges (All-among (λ e. f e ≡ pos 0) edges
    (λ e among. none e (Contains-there edge edges e among) (λ same. apart e among (subst (λ (a : Edge). HaveSameEnds a e) (sym is) (same-exchanged e g same))))))
  where
    apart : (e : Edge) → Contains edges e → ¬ (HaveSameEnds edge e)
    apart e among = All-contains (λ (other : Edge). ¬ (HaveSameEnds edge other)) edges e (AllPairs-head (λ (one other : Edge). ¬ (HaveSameEnds one other)) edge edges distinct) among

    first_alone : (a b rest : ℤ) → a ≡ b → rest ≡ pos 0 → (a +ℤ rest) ≡ b
    first_alone a b rest same nothing = omega (arith, ints, same, nothing)
total-one f g (edge ∷ edges) (suc k, within, is) distinct none =
    let among : Contains edges g = (k, omega (arith, within), is) in
    others_alone (f edge) (total f edges) (f g)
    (none edge (Contains-here edge edges) (All-contains (λ (other : Edge). ¬ (HaveSameEnds edge other)) edges g (AllPairs-head (λ (one other : Edge). ¬ (HaveSameEnds one other)) edge edges distinct) among))
    (total-one f g edges among (AllPairs-tail (λ (one other : Edge). ¬ (HaveSameEnds one other)) edge edges distinct) (λ e inside. none e (Contains-there edge edges e inside)))
  where
    others_alone : (a rest b : ℤ) → a ≡ pos 0 → rest ≡ b → (a +ℤ rest) ≡ b
    others_alone a rest b nothing same = omega (arith, ints, nothing, same)

-- ---- edges that meet only at common ends, turned rightwards

-- they meet no more
pub turned-meet : (edges : List Edge) → AreNoded edges → (one other : Edge) → Contains edges one → Contains edges other → MeetOnly (rightwards one) (rightwards other)
turned-meet edges noded one other first second =
    let meet : MeetOnly one other = λ point of_one of_other. noded one other point first second of_one of_other in
    MeetOnly-exchanged (rightwards other) (rightwards one) (MeetOnly-rightwards other (rightwards one) (MeetOnly-exchanged (rightwards one) other (MeetOnly-rightwards one other meet)))

-- edges that are one when turned have the same ends
pub turned-same : (one other : Edge) → rightwards one ≡ rightwards other → HaveSameEnds one other
turned-same one other same =
    same-trans one (rightwards one) other (same-exchanged (rightwards one) one (same-rightwards one)) (subst (λ (e : Edge). HaveSameEnds e other) (sym same) (same-rightwards other))

-- ---- a point of an edge, just behind its start

-- an edge turned rightwards that goes on along x isn't vertical
pub turned-sloped : (edge : Edge) → (rightwards edge).x0 <ℤ (rightwards edge).x1 → edge.x1 ≢ edge.x0
turned-sloped edge some same =
    let still = rightwards-right edge (lt_false edge.x1 edge.x0 (omega (arith, ints, same))) in
    let there : edge.x0 <ℤ edge.x1 = subst (λ (e : Edge). e.x0 <ℤ e.x1) still some in
    omega (arith, ints, there, same)

module _ (r : Edge) (some : r.x0 <ℤ r.x1) (w : ℕ) (width : run r ≡ pos w) (wide : 0 < w) where
  -- half a step behind the start
  abbrev behind : RationalPoint
  behind = record {
    n = w + w;
    x = pos w *ℤ ((r.x0 +ℤ r.x0) +ℤ pos 1);
    y = height_by_run r r.x0 +ℤ height_by_run r (r.x0 +ℤ pos 1);
    positive = omega (arith, wide);
  }

  -- it is over the stretch from the start on
  floor : Floor behind.n behind.x r.x0
  floor =
      let middle = times (n_of w) (plus (plus (number r.x0) (number r.x0)) (n_of 1)) in record {
        from = at_most (times (n_of (w + w)) (number r.x0)) middle (omega arith);
        below = below middle (times (n_of (w + w)) (plus (number r.x0) (n_of 1))) (omega (arith, wide));
      }

  -- heights there
  high_of : (x x0 x1 y0 y1 : ℤ) → ((y0 *ℤ ((pos (w + w) *ℤ x1) -ℤ (pos w *ℤ ((x +ℤ x) +ℤ pos 1)))) +ℤ (y1 *ℤ ((pos w *ℤ ((x +ℤ x) +ℤ pos 1)) -ℤ (pos (w + w) *ℤ x0))))
      ≡ ((((y0 *ℤ (x1 -ℤ x)) +ℤ (y1 *ℤ (x -ℤ x0))) +ℤ ((y0 *ℤ (x1 -ℤ (x +ℤ pos 1))) +ℤ (y1 *ℤ ((x +ℤ pos 1) -ℤ x0)))) *ℤ pos w)
  high_of x x0 x1 y0 y1 =
      let middle = times (n_of w) (plus (plus (number x) (number x)) (n_of 1)) in
      let next = plus (number x) (n_of 1) in
      identity (plus (times (number y0) (minus (times (n_of (w + w)) (number x1)) middle)) (times (number y1) (minus middle (times (n_of (w + w)) (number x0)))))
      (times (plus (plus (times (number y0) (minus (number x1) (number x))) (times (number y1) (minus (number x) (number x0)))) (plus (times (number y0) (minus (number x1) next)) (times (number y1) (minus next (number x0))))) (n_of w))
      (omega arith)

  high_is : (edge : Edge) → height_at edge behind ≡ (height_by_runs edge r r.x0 +ℤ height_by_runs edge r (r.x0 +ℤ pos 1))
  high_is edge =
      high_of r.x0 edge.x0 edge.x1 edge.y0 edge.y1
      ∙ ap (λ z. (height_by_run edge r.x0 +ℤ height_by_run edge (r.x0 +ℤ pos 1)) *ℤ z) (sym width)
      ∙ sym (twofold (height_by_run edge r.x0) (height_by_run edge (r.x0 +ℤ pos 1)) (run r))

  -- the edge is under it
  under-itself : is_counted r behind ≡ true
  under-itself =
      let high = high_is r in
      let same = twofold (height_by_run r r.x0) (height_by_run r (r.x0 +ℤ pos 1)) (run r) in
      let early = floor.below in
      let late = scaled (w + w) (r.x0 +ℤ pos 1) r.x1 (omega (arith, ints, some)) in
      is_counted-from r behind (record {
        from = floor.from;
        before = omega (arith, ints, early, late);
        upto = omega (arith, ints, high, same);
      })

  -- no other one is that begins no earlier
  over-others : (other : Edge) → MeetOnly r other → r ≢ other → other.x0 <ℤ other.x1 → BeginsUpto r other → ¬ (is_counted other behind ≡ true)
  over-others other meet apart some_too begins counted =
      let under = under_is other behind counted in
      let span = over_is r.x0 other (under_over behind r.x0 floor other counted) in
      let upto = under.upto in
      let high = high_is other in
      let same = twofold (height_by_run r r.x0) (height_by_run r (r.x0 +ℤ pos 1)) (run other) in
      let lower = begins-lower r other meet apart some some_too (level span.0 begins) begins in
      let less = lt_is (height_by_runs r other r.x0 +ℤ height_by_runs r other (r.x0 +ℤ pos 1)) (height_by_runs other r r.x0 +ℤ height_by_runs other r (r.x0 +ℤ pos 1)) lower in
      omega (arith, ints, upto, high, same, less)
    where
      level : other.x0 ≤ℤ r.x0 → BeginsUpto r other → r.x0 ≡ other.x0
      level from (inl less) = absurd (omega (arith, ints, from, less))
      level from (inr (same, rest)) = same

-- ---- the first edge

-- what is under a point counts its weight there, and what isn't counts nothing
counts-weight : (t : Bool) (w : ℤ) → t ≡ true → cond t w (pos 0) ≡ w
counts-weight true w is = refl
counts-weight false w is = cc

counts-nothing : (t : Bool) (w : ℤ) → ¬ (t ≡ true) → cond t w (pos 0) ≡ pos 0
counts-nothing true w not_so = absurd (not_so refl)
counts-nothing false w not_so = refl

module _ (edges : List Edge) (noded : AreNoded edges) (distinct : AreDistinct edges) (first : Edge) (among : Contains edges first) (sloped : first.x1 ≢ first.x0)
    (begins : (other : Edge) → Contains edges other → other.x1 ≢ other.x0 → BeginsUpto (rightwards first) (rightwards other)) where
  abbrev r : Edge
  r = rightwards first

  some : r.x0 <ℤ r.x1
  some = rightwards-onwards first (λ same. sloped (sym same))

  width : Natural (run r)
  width = let onwards = some in natural (run r) (omega (arith, ints, onwards))

  wide : 0 < width.k
  wide = let onwards = some in let is = width.is in omega (arith, ints, onwards, is)

  abbrev point : RationalPoint
  point = behind r some width.k width.is wide

  -- no other edge is under the point
  none-other : (edge : Edge) → Contains edges edge → ¬ (HaveSameEnds edge first) → cond (is_counted (rightwards edge) point) (weight edge) (pos 0) ≡ pos 0
  none-other edge inside apart =
      counts-nothing (is_counted (rightwards edge) point) (weight edge)
      (λ counted.
      let span = over_is r.x0 (rightwards edge) (under_over point r.x0 (floor r some width.k width.is wide) (rightwards edge) counted) in
      let onwards : (rightwards edge).x0 <ℤ (rightwards edge).x1 = omega (arith, ints, span.0, span.1) in
      over-others r some width.k width.is wide (rightwards edge) (turned-meet edges noded first edge among inside)
      (λ same. apart (same-exchanged first edge (turned-same first edge same))) onwards (begins edge inside (turned-sloped edge onwards)) counted)

  -- so the edges wind around it as the first one goes
  winding-first : winding edges point ≡ weight first
  winding-first =
      winding-total edges point
      ∙ total-one (λ edge. cond (is_counted (rightwards edge) point) (weight edge) (pos 0)) first edges among distinct none-other
      ∙ counts-weight (is_counted r point) (weight first) (under-itself r some width.k width.is wide)

-- Where they wind once around points or not at all, the first one goes rightwards.
pub first-rightwards : (edges : List Edge) → AreNoded edges → AreDistinct edges → ((point : RationalPoint) → (winding edges point ≡ pos 0) ⊎ (winding edges point ≡ pos 1))
    → (first : Edge) → Contains edges first → first.x1 ≢ first.x0
    → ((other : Edge) → Contains edges other → other.x1 ≢ other.x0 → BeginsUpto (rightwards first) (rightwards other)) → first.x0 <ℤ first.x1
first-rightwards edges noded distinct winds first among sloped begins =
    by_lt_z first.x0 first.x1 (λ less. less)
    (λ upto. by_lt_z first.x1 first.x0
    (λ back.
    let at = point edges noded distinct first among sloped begins in
    absurd (never (winding edges at) (winding-first edges noded distinct first among sloped begins ∙ weight-left first back) (winds at)))
    (λ from. absurd (sloped (omega (arith, ints, upto, from)))))
  where
    never : (z : ℤ) → z ≡ negsuc 0 → (z ≡ pos 0) ⊎ (z ≡ pos 1) → ⊥
    never z is (inl none) = omega (arith, ints, is, none)
    never z is (inr once) = omega (arith, ints, is, once)
