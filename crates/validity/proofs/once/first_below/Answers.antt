use Rattle.std.proofs.Common.{[], pos, ◌≤ℤ◌, List, ap, subst, sym}
use Rattle.std.specs.List.{flat_map}
use Rattle.std.specs.Option.{MatchOption}
use Rattle.plane.specs.declared.edge.Edge.{Edge}
use Rattle.plane.specs.declared.point.Point.{Point}
use Rattle.plane.specs.Meet.Edges.{RationalPoint}
use Rattle.noding.specs.Windings.{winding}
use Rattle.overlay.specs.declared.fill.rules.FillRule.TheVariants.{Negative}
use Rattle.overlay.specs.declared.fill.rules.Operation.TheVariants.{Union}
use Rattle.overlay.specs.Contours.Rings.{ring_edges}
use Rattle.overlay.specs.Overlay.{IsOverlay}
use Rattle.overlay.proofs.Callers.{rings-joined}
use Rattle.tiles.proofs.InPlace.{HasEnds-joined}
use Rattle.tiles.proofs.JoinWinds.{AreUncrossed}
use Rattle.validity.specs.Validity.{WindOnce, WindOtherwise}
use Rattle.validity.proofs.Framed.{nothing-below, option-weaker, some-below}
use Rattle.validity.proofs.once.first_below.Goals as goal

pub first_inside-requires : goal.first_inside-requires
first_inside-requires g c =
    let (rings, joined) = c.requires.joined in
    (HasEnds-joined rings _ _ c.rings.result c.rings.ensures.points c.rings.ensures.ends joined).0

pub returns-clause-ok : goal.returns-clause-ok
returns-clause-ok g c =
    let (rings, joined) = c.requires.joined in
    let edges = flat_map ring_edges rings in
    let lent = HasEnds-joined rings _ _ c.rings.result c.rings.ensures.points c.rings.ensures.ends joined in
    let (polygons, is, told) = c.in_ok-found.ensures.ok in
    let own = subst (λ (list : List Edge). IsOverlay Negative Union list [] polygons) lent.1 is in
    let same = ap (λ (list : List (List Point)). flat_map ring_edges list) (rings-joined rings _ _ joined) in
    let uncrossed = subst AreUncrossed same c.requires.uncrossed in
    let most = subst (λ (list : List Edge). (point : RationalPoint) → winding list point ≤ℤ pos 1) same c.requires.most in
    subst (λ (list : List Edge). MatchOption c.in_ok-found.found (WindOnce list) (λ _. WindOtherwise list)) (sym same)
    (option-weaker c.in_ok-found.found (λ none. nothing-below edges polygons most none own uncrossed) (λ x any. some-below edges polygons any own uncrossed) told)
