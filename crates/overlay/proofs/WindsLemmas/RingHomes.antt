-- Some of the edges of rings wind once around a point or not at all, where the edges of each ring have them as often on their left,
-- and what is just below a hole's first edge is one of them exactly if the hole's edges are.
use Rattle.std.proofs.Common.{◌≡◌, ◌≢◌, ◌⊎◌, pos, ◌<ℤ◌, ◌<◌, zero, suc, Bool, true, false, cond, List, [], ◌∷◌, Option, Some, None, refl, sym, subst, arith}
use Rattle.std.specs.List.{All, Contains, filter}
use Rattle.std.proofs.lemmas.List.Elements.{All-contains}
use Rattle.i_tree.proofs.RootLemmas.Lists.{Contains-here, Contains-there}
use Rattle.plane.specs.declared.edge.Edge.{Edge}
use Rattle.plane.specs.Meet.Edges.{RationalPoint}
use Rattle.plane.specs.SweepLine.Heights.{rightwards}
use Rattle.noding.specs.Windings.{winding}
use Rattle.overlay.specs.Fill.Filled.{AreDistinct, AreNoded}
use Rattle.overlay.specs.Nesting.{IsNextBelow}
use Rattle.overlay.specs.Polygons.{first_sloped}
use Rattle.overlay.specs.Sides.{left_of}
use Rattle.overlay.proofs.FillLemmas.Balance.{AreBalanced}
use Rattle.overlay.proofs.GroupingLemmas.Begins.{IsFirst, Told, told-all}
use Rattle.overlay.proofs.KeptLemmas.First.{turned-meet}
use Rattle.overlay.proofs.PieceLemmas.Begins.{BeginsUpto-trans}
use Rattle.overlay.proofs.PieceLemmas.Made.{rightwards-onwards}
use Rattle.overlay.proofs.WindsLemmas.Begun.{begun, below-begins, fewer-begun}
use Rattle.overlay.proofs.WindsLemmas.Homes.{AreAtHome, home-once}
use Rattle.overlay.proofs.WindsLemmas.Paired.{IsOneOrNone}
use Rattle.overlay.proofs.WindsLemmas.Polygons.{holds, holds-is, is-held}

-- ---- the ring of an edge

-- the first of the rings that has the edge
abbrev ring_of : List (List Edge) → Edge → List Edge
ring_of [] edge = []
ring_of (ring ∷ rings) edge = cond (holds ring edge) ring (ring_of rings edge)

-- it has the edge, where any does
ring-found : (rings : List (List Edge)) (edge : Edge) (ring : List Edge) → Contains rings ring → Contains ring edge → Contains rings (ring_of rings edge) × Contains (ring_of rings edge) edge
ring-found [] edge ring (k, within, is) held = absurd (omega (arith, within))
ring-found (first ∷ rings) edge ring (zero, within, is) held = by (holds first edge) (is-held first edge (subst (λ (list : List Edge). Contains list edge) (sym is) held))
  where
    by : (t : Bool) → t ≡ true → Contains (first ∷ rings) (cond t first (ring_of rings edge)) × Contains (cond t first (ring_of rings edge)) edge
    by true told = (Contains-here first rings, subst (λ (list : List Edge). Contains list edge) (sym is) held)
    by false told = cc
ring-found (first ∷ rings) edge ring (suc k, within, is) held = by (holds first edge) refl (ring-found rings edge ring (k, omega (arith, within), is) held)
  where
    by : (t : Bool) → holds first edge ≡ t → Contains rings (ring_of rings edge) × Contains (ring_of rings edge) edge
        → Contains (first ∷ rings) (cond t first (ring_of rings edge)) × Contains (cond t first (ring_of rings edge)) edge
    by true told rest = (Contains-here first rings, holds-is first edge told)
    by false told (inside, has) = (Contains-there first rings (ring_of rings edge) inside, has)

-- the edge itself where there is none
abbrev first_or : Edge → Option Edge → Edge
first_or edge None = edge
first_or edge (Some first) = first

-- ---- rings of edges

-- Each of the edges is of a ring, and no others are. Those of one ring have some of the edges as often on their left, and are of
-- these all or none. What is just below the first edge of a ring is of these exactly if the edge is, where the edge goes leftwards.
pub record AreRingsAtHome (edges : List Edge) (own : Edge → Bool) (rings : List (List Edge)) : Type 0 where
  pub covers : (edge : Edge) → Contains edges edge → (ring : List Edge) × Contains rings ring × Contains ring edge
  pub within : (ring : List Edge) → Contains rings ring → (edge : Edge) → Contains ring edge → Contains edges edge
  pub alike : (ring : List Edge) → Contains rings ring → (one other : Edge) → Contains ring one → Contains ring other → left_of (filter own edges) one ≡ left_of (filter own edges) other
  pub same : (ring : List Edge) → Contains rings ring → (one other : Edge) → Contains ring one → Contains ring other → own one ≡ own other
  pub home : (ring : List Edge) → Contains rings ring → (first below : Edge) → IsFirst ring first → IsNextBelow edges (rightwards first).x0 below first → first.x1 <ℤ first.x0 → own below ≡ own first

module _ (edges : List Edge) (noded : AreNoded edges) (distinct : AreDistinct edges) (sloped : All (λ edge. edge.x0 ≢ edge.x1) edges) (once : (point : RationalPoint) → IsOneOrNone (winding edges point)) (closed : AreBalanced edges)
    (own : Edge → Bool) (own_closed : AreBalanced (filter own edges)) (rings : List (List Edge)) (are : AreRingsAtHome edges own rings) where
  abbrev ring : Edge → List Edge
  ring edge = ring_of rings edge

  -- the first edge of the edge's ring
  abbrev first : Edge → Edge
  first edge = first_or edge (first_sloped None (ring_of rings edge))

  has-slope : (edge : Edge) → Contains edges edge → edge.x0 ≢ edge.x1
  has-slope edge among = All-contains (λ (e : Edge). e.x0 ≢ e.x1) edges edge sloped among

  found : (edge : Edge) → Contains edges edge → Contains rings (ring edge) × Contains (ring edge) edge
  found edge among = let (list, inside, held) = are.covers edge among in ring-found rings edge list inside held

  is-first : (edge : Edge) → Contains edges edge → IsFirst (ring edge) (first edge)
  is-first edge among = by (first_sloped None (ring edge)) (told-all (ring edge))
    where
      by : (best : Option Edge) → Told (ring edge) best → IsFirst (ring edge) (first_or edge best)
      by None told = absurd (told edge (found edge among).1 (λ same. has-slope edge among (sym same)))
      by (Some best) told = told

  leads : (edge : Edge) → Contains edges edge → Contains edges (first edge)
  leads edge among = let begins = is-first edge among in are.within (ring edge) (found edge among).0 (first edge) begins.among

  lower : (edge below : Edge) → Contains edges edge → IsNextBelow edges (rightwards (first edge)).x0 below (first edge) → begun edges (first below) < begun edges (first edge)
  lower edge below among is =
      let begins = is-first below is.among in
      let from = leads edge among in
      fewer-begun edges (first below) (first edge) (leads below is.among)
      (λ upto. below-begins (first edge) below (turned-meet edges noded (first edge) below from is.among) (rightwards-onwards (first edge) (has-slope (first edge) from)) is.over is.less
      (BeginsUpto-trans (rightwards (first edge)) (rightwards (first below)) (rightwards below) upto (begins.begins below (found below is.among).1 (λ same. has-slope below is.among (sym same)))))

  at-home : AreAtHome edges own first (λ edge. begun edges (first edge))
  at-home = record {
    leads = leads;
    alike = λ edge among. (let begins = is-first edge among in let (inside, held) = found edge among in are.alike (ring edge) inside edge (first edge) held begins.among);
    same = λ edge among. (let begins = is-first edge among in let (inside, held) = found edge among in are.same (ring edge) inside edge (first edge) held begins.among);
    lower = lower;
    home = λ edge below among is left. are.home (ring edge) (found edge among).0 (first edge) below (is-first edge among) is left;
  }

  -- They wind once around each point, or not at all.
  pub rings-home : (point : RationalPoint) → (winding (filter own edges) point ≡ pos 0) ⊎ (winding (filter own edges) point ≡ pos 1)
  rings-home = home-once edges noded distinct sloped once closed own own_closed first (λ edge. begun edges (first edge)) at-home
