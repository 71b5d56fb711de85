-- A closed chain is a cropped ring.
use Rattle.std.proofs.Common.{◌≡◌, ◌≢◌, ◌⊎◌, inl, inr, ℕ, ◌*◌, ◌-◌, ◌≤◌, List, [], ◌∷◌, ◌++◌, length, get_or, refl, ap, sym, ◌∙◌, subst, arith}
use Rattle.std.proofs.lemmas.Int.{ints}
use Rattle.std.proofs.lemmas.List.{get_or_at, length_push}
use Rattle.std.proofs.lemmas.List.Elements.{Contains-append_left, Contains-push_cases}
use Rattle.std.specs.List.{Contains}
use Rattle.plane.specs.declared.edge.Edge.{Edge}
use Rattle.plane.specs.declared.point.Point.{Point}
use Rattle.plane.specs.Ends.{edge_between, end_of, start_of}
use Rattle.plane.specs.Meet.Edges.{RationalPoint}
use Rattle.noding.specs.Windings.{pieces, winding}
use Rattle.noding.proofs.SnapLemmas.Windings.{winding-append}
use Rattle.overlay.specs.Contours.Rings.{ring_edges}
use Rattle.overlay.proofs.ContourLemmas.RealEdges.{closing}
use Rattle.tiles.specs.Crop.{IsCropped}
use Rattle.tiles.specs.Pushing.{HasSides, IsClosedUp}
use Rattle.tiles.specs.Window.{InWindow, widened}
use Rattle.tiles.specs.declared.window.Window.{Window}
use Rattle.tiles.proofs.Beside.{IsAt, inside-widened, joined-aside, joined-kept, joined-nothing}
use Rattle.tiles.proofs.Chains.{AreOwn, IsAside, IsBeyond, Reaches, some-point, winding-one}
use Rattle.tiles.proofs.Far.{aside-far}

-- the edges of a chain that ends where it begins, without its last point
closed-edges : (ring : List Point) (last : Point) → ((default : Point) → get_or (ring ++ last ∷ []) 0 default ≡ last) → ring_edges ring ≡ pieces (ring ++ last ∷ [])
closed-edges [] last is = refl
closed-edges (first ∷ others) last is = ap (λ (p : Point). pieces (first ∷ (others ++ p ∷ []))) (is last)

-- and of one that doesn't
pub open-edges : (front chain : List Point) (last default : Point) → chain ≡ front ++ last ∷ [] → ring_edges chain ≡ pieces chain ++ edge_between last (get_or chain 0 default) ∷ []
open-edges front chain last default is =
    let long = ap (λ (points : List Point). length points) is ∙ length_push front last in
    let place : length front ≡ length chain - 1 = omega (arith, long) in
    let last_at : last ≡ get_or chain (length chain - 1) default =
    sym (ap (λ (points : List Point). get_or points (length chain - 1) default) is ∙ get_or_at front last [] default (length chain - 1) place) in
    closing chain last (get_or chain 0 default) default (λ none. some-point front last [] (sym none ∙ is)) last_at refl

module _ (window : Window) (ring : List Point) (start : Point) (count : ℕ) (last : Point) (chain cropped : List Point)
    (sides : HasSides (widened window)) (at : IsAt (widened window) start last) (reaches : Reaches (widened window) ring start (ring_edges ring) count last chain) (few : count ≤ 2 * length ring) where
  -- what is cropped, by its edges
  by_edges : ((point : RationalPoint) → InWindow window point → winding (ring_edges cropped) point ≡ winding (ring_edges ring) point) → AreOwn (widened window) (ring_edges ring) (ring_edges cropped)
      → ((point : Point) → Contains cropped point → Contains chain point) → length cropped ≤ length chain → IsCropped window ring cropped
  by_edges winds edges among fewer =
      let size = reaches.own.size in record {
        winds = winds;
        near = λ edge point held is near. elim (edges.are edge held) [
          | inl own ↦ own
          | inr aside ↦ absurd (aside-far window (start_of edge) (end_of edge) point aside is near)
        ];
        two_ends = edges.two_ends;
        kept = edges.kept;
        points = λ point held. reaches.own.points point (among point held);
        size = omega (arith, size, fewer, few);
      }

  -- the last point is the first one, and goes
  closed-cropped : (again : Point) → chain ≡ cropped ++ again ∷ [] → ((default : Point) → get_or chain 0 default ≡ again) → IsCropped window ring cropped
  closed-cropped again is first =
      let same : ring_edges cropped ≡ pieces chain =
      closed-edges cropped again (λ default. ap (λ (points : List Point). get_or points 0 default) (sym is) ∙ first default) ∙ ap pieces (sym is) in
      let long = ap (λ (points : List Point). length points) is ∙ length_push cropped again in
      by_edges
      (λ point inside. ap (λ (edges : List Edge). winding edges point) same ∙ reaches.winds point (inside-widened window point inside))
      (subst (λ (edges : List Edge). AreOwn (widened window) (ring_edges ring) edges) (sym same) reaches.edges)
      (λ point held. subst (λ (points : List Point). Contains points point) (sym is) (Contains-append_left cropped (again ∷ []) point held))
      (omega (arith, long))

  -- or it isn't
  open-cropped : ((front : List Point) (last default : Point) → chain ≡ front ++ last ∷ [] → get_or chain 0 default ≢ last) → cropped ≡ chain → IsCropped window ring cropped
  open-cropped differs is =
      let first = get_or chain 0 last in
      let first_at : IsAt (widened window) start first = reaches.own.begins last in
      let differ : last ≢ first = λ same. differs reaches.front last last reaches.is (sym same) in
      let all : ring_edges cropped ≡ pieces chain ++ edge_between last first ∷ [] = ap ring_edges is ∙ open-edges reaches.front chain last last reaches.is in
      let aside = joined-aside (widened window) start last first at first_at differ in
      let cases : (edge : Edge) → Contains (ring_edges cropped) edge → Contains (pieces chain) edge ⊎ (edge_between last first ≡ edge) =
      λ edge held. Contains-push_cases (pieces chain) (edge_between last first) edge (subst (λ (edges : List Edge). Contains edges edge) all held) in
      let long = ap (λ (points : List Point). length points) is in
      by_edges
      (λ point inside.
      let within = inside-widened window point inside in
      let told = ap (λ (edges : List Edge). winding edges point) all in
      let sum = winding-append (pieces chain) (edge_between last first ∷ []) point in
      let one = winding-one (edge_between last first) point in
      let none = joined-nothing (widened window) start last first at first_at point within in
      let so_far = reaches.winds point within in
      omega (arith, ints, told, sum, one, none, so_far))
      (record {
        are = λ edge held. elim (cases edge held) [
          | inl before ↦ reaches.edges.are edge before
          | inr same ↦ subst (λ (e : Edge). Contains (ring_edges ring) e ⊎ IsAside (widened window) e) same (inr aside)
        ];
        two_ends = λ edge held. elim (cases edge held) [
          | inl before ↦ reaches.edges.two_ends edge before
          | inr same ↦ subst (λ (e : Edge). start_of e ≢ end_of e) same differ
        ];
        kept = λ edge held. elim (cases edge held) [
          | inl before ↦ reaches.edges.kept edge before
          | inr same ↦ subst (λ (e : Edge). ¬ (IsBeyond (widened window) e)) same (joined-kept (widened window) start last first sides at first_at differ)
        ];
      })
      (λ point held. subst (λ (points : List Point). Contains points point) is held)
      (omega (arith, long))

  pub closes-cropped : IsClosedUp chain cropped → IsCropped window ring cropped
  closes-cropped (inl (again, is, first)) = closed-cropped again is first
  closes-cropped (inr (differs, is)) = open-cropped differs is
