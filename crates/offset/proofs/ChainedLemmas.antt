-- Edges that follow each other are those of rings.
use Rattle.std.proofs.Common.{◌≡◌, ◌∙◌, ◌<◌, ◌≤◌, ◌+◌, ◌-◌, ◌++◌, ◌∷◌, [], ℕ, Bool, cond, List, length, map, take, drop, get_or, refl, ap, ap₂, subst, subst₂, sym, arith}
use Rattle.std.specs.List.{between, flat_map}
use Rattle.std.proofs.lemmas.Grind.{flat_map-append}
use Rattle.std.proofs.lemmas.List.{append-nil, length-append}
use Rattle.std.proofs.lemmas.List.Concat.{flat_map-cons}
use Rattle.std.proofs.lemmas.List.Elements.{filter-append}
use Rattle.plane.specs.declared.edge.Edge.{Edge}
use Rattle.plane.specs.declared.point.Point.{Point}
use Rattle.plane.specs.Ends.{edge_between, end_of, start_of}
use Rattle.noding.specs.Offsets.{AreJoined, offsets}
use Rattle.noding.specs.Windings.{pieces}
use Rattle.noding.proofs.ChainLemmas.Runs.{between-more, offsets-more}
use Rattle.overlay.specs.Contours.Rings.{has_two_ends, ring_edges}
use Rattle.overlay.specs.Rings.{real_edges}
use Rattle.overlay.proofs.Callers.{AreEnds-joined, rings-joined}
use Rattle.monotone_chains.proofs.StretchLemmas.CutLists.{between-joined}
use Rattle.monotone_chains.proofs.StretchLemmas.CutWays.{between-all}
use Rattle.offset.specs.Chained.{AreOfRings, GoesOn, IsRound}

-- ---- one ring

-- From the one point on each edge begins where the one before it ends, and the last one ends at the other point. None is a point.
abbrev pub Lead : Point → List Edge → Point → Type 0
Lead from [] to = from ≡ to
Lead from (edge ∷ edges) to = GoesOn from edge × Lead (end_of edge) edges to

-- One edge more.
pub lead-on : (from : Point) (edges : List Edge) (at : Point) (edge : Edge) → Lead from edges at → GoesOn at edge → Lead from (edges ++ edge ∷ []) (end_of edge)
lead-on from [] at edge is on = (subst (λ (point : Point). GoesOn point edge) (sym is) on, refl)
lead-on from (first ∷ edges) at edge (here, rest) on = (here, lead-on (end_of first) edges at edge rest on)

-- The same of a part of a list.
pub lead-more : (first : Point) (edges : List Edge) (from index : ℕ) (d : Edge) (at next : Point) → from ≤ index → index < length edges → Lead first (between from index edges) at → GoesOn at (get_or edges index d) → next ≡ end_of (get_or edges index d)
    → Lead first (between from (index + 1) edges) next
lead-more first edges from index d at next order within so_far on is =
    subst₂ (λ (part : List Edge) (to : Point). Lead first part to) (sym (between-more from index edges d order within)) (sym is)
    (lead-on first (between from index edges) at (get_or edges index d) so_far on)

-- Of no edges.
pub lead-none : (from : Point) (edges : List Edge) (index : ℕ) → Lead from (between index index edges) from
lead-none from edges index = subst (λ (n : ℕ). Lead from (take n (drop index edges)) from) (let none : 0 ≡ index - index = omega arith in none) refl

-- They are the ways from each point that they begin at to the next.
lead-pieces : (from : Point) (edges : List Edge) (to : Point) → Lead from edges to → pieces (map start_of edges ++ to ∷ []) ≡ edges
lead-pieces from [] to is = refl
lead-pieces from (edge ∷ []) to (_, ends) = ap (λ (point : Point). edge_between (start_of edge) point ∷ []) (sym ends)
lead-pieces from (edge ∷ next ∷ edges) to (_, (on, rest)) =
    ap₂ (λ (point : Point) (others : List Edge). edge_between (start_of edge) point ∷ others) on.0 (lead-pieces (end_of edge) (next ∷ edges) to (on, rest))

lead-real : (from : Point) (edges : List Edge) (to : Point) → Lead from edges to → real_edges edges ≡ edges
lead-real from [] to is = refl
lead-real from (edge ∷ edges) to (on, rest) =
    ap₂ (λ (t : Bool) (others : List Edge). cond t (edge ∷ others) others) on.1 (lead-real (end_of edge) edges to rest)

-- Edges that come back to where they begin are those of a ring.
pub lead-round : (from : Point) (edges : List Edge) → 0 < length edges → Lead from edges from → IsRound edges
lead-round from [] some is = absurd (omega (arith, some))
lead-round from (first ∷ others) some is = record {
  ring = ap (λ (point : Point). pieces (start_of first ∷ (map start_of others ++ point ∷ []))) is.0.0 ∙ lead-pieces from (first ∷ others) from is;
  real = lead-real from (first ∷ others) from is;
}

-- ---- rings one after another

-- The edges before this place are those of rings that are joined so.
pub record AreUpto (edges : List Edge) (points : List Point) (ends : List ℕ) (next : ℕ) : Type 0 where
  pub rings : List (List Point)
  pub joined : AreJoined rings points ends
  pub same : flat_map ring_edges rings ≡ between 0 next edges
  pub real : real_edges (between 0 next edges) ≡ between 0 next edges
  pub within : next ≤ length edges

-- of none of them
pub upto-none : (edges : List Edge) (points : List Point) (ends : List ℕ) → points ≡ [] → ends ≡ [] → AreUpto edges points ends 0
upto-none edges points ends no_points no_ends = record {
  rings = [];
  joined = (no_points, no_ends);
  same = refl;
  real = refl;
  within = omega arith;
}

-- One ring more.
pub upto-more : (edges : List Edge) (points points' : List Point) (ends ends' : List ℕ) (next end : ℕ) → AreUpto edges points ends next → next < end → end ≤ length edges → IsRound (between next end edges)
    → points' ≡ points ++ map start_of (between next end edges) → ends' ≡ ends ++ length points' ∷ [] → AreUpto edges points' ends' end
upto-more edges points points' ends ends' next end so_far some within round points_are ends_are =
    let ring = map start_of (between next end edges) in
    let all = sym (between-joined 0 next end edges (omega arith) (omega (arith, some))) in
    let (points_so, ends_so) = so_far.joined in
    let joined : points' ≡ flat_map (λ (list : List Point). list) (so_far.rings ++ ring ∷ []) =
    points_are ∙ ap (λ (before : List Point). before ++ ring) points_so ∙ sym (flat_more (λ (list : List Point). list) so_far.rings ring) in
    let size : length points' ≡ length (flat_map (λ (list : List Point). list) so_far.rings) + length ring = ap (λ (list : List Point). length list) (points_are ∙ ap (λ (before : List Point). before ++ ring) points_so) ∙ length-append _ ring in record {
      rings = so_far.rings ++ ring ∷ [];
      joined = (
        joined,
        ends_are ∙ ap₂ (λ (before : List ℕ) (n : ℕ). before ++ n ∷ []) ends_so size ∙ sym (offsets-more 0 so_far.rings ring ∙ ap (λ (n : ℕ). offsets 0 so_far.rings ++ n ∷ []) (let none : (0 + length (flat_map (λ (list : List Point). list) so_far.rings)) + length ring ≡ length (flat_map (λ (list : List Point). list) so_far.rings) + length ring = omega arith in none)),
      );
      same = flat_more ring_edges so_far.rings ring ∙ ap₂ (λ (before more : List Edge). before ++ more) so_far.same round.ring ∙ all;
      real =
          ap real_edges (sym all) ∙ filter-append has_two_ends (between 0 next edges) (between next end edges)
          ∙ ap₂ (λ (before more : List Edge). before ++ more) so_far.real round.real ∙ all;
      within = within;
    }
  where
    flat_more : {Y : Type 0} (make : List Point → List Y) (lists : List (List Point)) (last : List Point) → flat_map make (lists ++ last ∷ []) ≡ flat_map make lists ++ make last
    flat_more make lists last =
        flat_map-append make lists (last ∷ []) ∙ ap (λ (more : List _). flat_map make lists ++ more) (flat_map-cons make last [] ∙ append-nil (make last))

-- All of them.
pub upto-all : (edges : List Edge) (points : List Point) (ends : List ℕ) (next : ℕ) → AreUpto edges points ends next → length edges ≤ next → AreOfRings edges points ends
upto-all edges points ends next so_far upto =
    let all = between-all edges next upto in record {
      right = AreEnds-joined so_far.rings points ends so_far.joined;
      all = ap (λ (rings : List (List Point)). real_edges (flat_map ring_edges rings)) (rings-joined so_far.rings points ends so_far.joined) ∙ ap real_edges so_far.same ∙ so_far.real ∙ all;
    }
