use Rattle.std.proofs.Common.{◌++◌, ◌∷◌, [], ◌∙◌, pos, ◌≤ℤ◌, List, ap, subst, sym}
use Rattle.std.specs.List.{All, flat_map}
use Rattle.std.specs.Option.{MatchOption}
use Rattle.plane.specs.declared.edge.Edge.{Edge}
use Rattle.plane.specs.declared.point.Point.{Point}
use Rattle.plane.specs.Meet.Edges.{RationalPoint}
use Rattle.noding.specs.Windings.{winding}
use Rattle.overlay.specs.declared.fill.rules.FillRule.TheVariants.{Positive}
use Rattle.overlay.specs.declared.fill.rules.Operation.TheVariants.{Union}
use Rattle.overlay.specs.Contours.Rings.{ring_edges}
use Rattle.overlay.specs.Overlay.{IsOverlay}
use Rattle.overlay.proofs.Callers.{rings-joined}
use Rattle.tiles.specs.Tile.{turned_border}
use Rattle.tiles.specs.Window.{IsWithin}
use Rattle.tiles.proofs.InPlace.{HasEnds-joined}
use Rattle.tiles.proofs.JoinWinds.{AreUncrossed}
use Rattle.validity.specs.Validity.{WindOnce, WindOtherwise}
use Rattle.validity.proofs.Framed.{edges-framed, nothing-above, option-weaker, some-above}
use Rattle.validity.proofs.once.first_above.Goals as goal

pub first_inside-requires : goal.first_inside-requires
first_inside-requires g c =
    let (rings, joined) = c.requires.joined in
    (HasEnds-joined (rings ++ turned_border c.window_around-window.result ∷ []) _ _ c.rings.result c.rings.ensures.points c.rings.ensures.ends (c.in_ok-append_border.ensures rings joined)).0

pub returns-clause-ok : goal.returns-clause-ok
returns-clause-ok g c =
    let (rings, joined) = c.requires.joined in
    let window = c.window_around-window.result in
    let lent = HasEnds-joined (rings ++ turned_border window ∷ []) _ _ c.rings.result c.rings.ensures.points c.rings.ensures.ends (c.in_ok-append_border.ensures rings joined) in
    let (polygons, is, told) = c.in_ok-found.ensures.ok in
    let framed = subst (λ (edges : List Edge). IsOverlay Positive Union edges [] polygons) (lent.1 ∙ edges-framed rings (turned_border window)) is in
    let same = ap (λ (list : List (List Point)). flat_map ring_edges list) (rings-joined rings _ _ joined) in
    let uncrossed = subst AreUncrossed same c.requires.uncrossed in
    let least = subst (λ (edges : List Edge). (point : RationalPoint) → pos 0 ≤ℤ winding edges point) same c.requires.least in
    let within = subst (λ (points : List Point). All (IsWithin window) points) (c.deref.ensures.value ∙ joined.0) c.window_around-window.ensures.all in
    subst (λ (edges : List Edge). MatchOption c.in_ok-found.found (WindOnce edges) (λ _. WindOtherwise edges)) (sym same)
    (option-weaker c.in_ok-found.found
    (λ none. nothing-above rings window c.window_around-window.ensures.some within uncrossed least polygons none framed)
    (λ x any. some-above rings window c.window_around-window.ensures.some within uncrossed polygons any framed) told)
