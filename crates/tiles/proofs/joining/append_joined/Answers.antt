use Rattle.std.proofs.Common.{◌++◌, ◌∷◌, [], ◌∙◌, ℕ, List, ap, append-nil, subst, subst₂, sym, take, ◌-◌, arith}
use Rattle.plane.specs.declared.edge.Edge.{Edge}
use Rattle.plane.proofs.PairsLemmas.Extends.{OnErr-always}
use Rattle.overlay.specs.declared.fill.rules.FillRule.TheVariants.{NonZero, Positive}
use Rattle.overlay.specs.declared.fill.rules.Operation.TheVariants.{Intersection, Union}
use Rattle.overlay.specs.Overlay.{IsOverlay}
use Rattle.overlay.specs.Polygons.{rings_of}
use Rattle.tiles.specs.Join.{bordering_of, inner_of, tiles_of}
use Rattle.tiles.specs.Tile.{turned_border}
use Rattle.tiles.proofs.InPlace.{HasEnds-joined}
use Rattle.tiles.proofs.JoinLists.{AreAppended-more}
use Rattle.tiles.proofs.JoinMade.{edges-bordered, first-of, joined-made, last-stops, lent-front, second-of, winds-otherwise}
use Rattle.tiles.proofs.joining.append_joined.Goals as goal

pub overflow_sub-count : goal.overflow_sub-count
overflow_sub-count g c =
    let (whole, some, all, joined) = c.in_ok-near.ensures.ok in
    let more = last-stops (rings_of (bordering_of (tiles_of c.args.tiles))) (turned_border whole) _ _ joined in
    let size = c.len-count.ensures in
    omega (arith, more, size)

pub wind_once-requires-clause-ends : goal.wind_once-requires-clause-ends
wind_once-requires-clause-ends g c =
    let (whole, some, all, joined) = c.in_ok-near.ensures.ok in
    let size = c.len-count.ensures in
    (lent-front (rings_of (bordering_of (tiles_of c.args.tiles))) (turned_border whole) _ _ joined c.deref.result.now (take (c.len-count.result - 1) c.deref-2.result.now) c.len-count.result (omega (arith, size)) c.deref.ensures.value
    (ap (λ (ends : List ℕ). take (c.len-count.result - 1) ends) c.deref-2.ensures.value)).0

pub wind_once-requires-clause-other_ends : goal.wind_once-requires-clause-other_ends
wind_once-requires-clause-other_ends g c =
    let (whole, some, all, joined) = c.in_ok-near.ensures.ok in
    (HasEnds-joined (rings_of (bordering_of (tiles_of c.args.tiles)) ++ turned_border whole ∷ []) _ _ c.rings.result c.rings.ensures.points c.rings.ensures.ends joined).0

pub unite-requires : goal.unite-requires
unite-requires g c =
    let (whole, some, all, joined) = c.in_ok-near.ensures.ok in
    let size = c.len-count.ensures in
    (lent-front (rings_of (bordering_of (tiles_of c.args.tiles))) (turned_border whole) _ _ joined c.deref.result.now (take (c.len-count.result - 1) c.deref-2.result.now) c.len-count.result (omega (arith, size)) c.deref.ensures.value
    (ap (λ (ends : List ℕ). take (c.len-count.result - 1) ends) c.deref-2.ensures.value)).0

pub returns-in_err-unite-clause-err : goal.returns-in_err-unite-clause-err
returns-in_err-unite-clause-err g c =
    let (points, ring_ends, polygon_ends) = c.in_err-unite.ensures.err in
    OnErr-always c.from_residual-in_err-unite.result _ (([], points ∙ sym (append-nil _)), ([], ring_ends ∙ sym (append-nil _)), ([], polygon_ends ∙ sym (append-nil _)))

pub returns-then-not-branch-clause-fault : goal.returns-then-not-branch-clause-fault
returns-then-not-branch-clause-fault g c =
    let tiles = tiles_of c.args.tiles in
    let (whole, some, all, joined) = c.in_ok-near.ensures.ok in
    let (found, tested, once) = c.in_ok-wind_once.ensures.ok in
    let size = c.len-count.ensures in
    let front = lent-front (rings_of (bordering_of tiles)) (turned_border whole) _ _ joined c.deref.result.now (take (c.len-count.result - 1) c.deref-2.result.now) c.len-count.result (omega (arith, size)) c.deref.ensures.value
    (ap (λ (ends : List ℕ). take (c.len-count.result - 1) ends) c.deref-2.ensures.value) in
    let others = HasEnds-joined (rings_of (bordering_of tiles) ++ turned_border whole ∷ []) _ _ c.rings.result c.rings.ensures.points c.rings.ensures.ends joined in (
      c.requires,
      winds-otherwise c.args.tiles c.requires whole some all found (second-of c.in_ok-wind_once.field-0 _ _ c.if-not-branch.true once)
          (subst₂ (λ (edges sides : List Edge). IsOverlay NonZero Intersection edges sides found) front.1 (others.1 ∙ edges-bordered (bordering_of tiles) whole) tested),
    )

pub returns-clause-ok : goal.returns-clause-ok
returns-clause-ok g c =
    let tiles = tiles_of c.args.tiles in
    let (whole, some, all, joined) = c.in_ok-near.ensures.ok in
    let (found, tested, once) = c.in_ok-wind_once.ensures.ok in
    let (united, is, appended) = c.in_ok-unite.ensures.ok in
    let size = c.len-count.ensures in
    let front = lent-front (rings_of (bordering_of tiles)) (turned_border whole) _ _ joined c.deref.result.now (take (c.len-count.result - 1) c.deref-2.result.now) c.len-count.result (omega (arith, size)) c.deref.ensures.value
    (ap (λ (ends : List ℕ). take (c.len-count.result - 1) ends) c.deref-2.ensures.value) in
    let others = HasEnds-joined (rings_of (bordering_of tiles) ++ turned_border whole ∷ []) _ _ c.rings.result c.rings.ensures.points c.rings.ensures.ends joined in (
      united ++ inner_of tiles,
      joined-made c.args.tiles c.requires whole some all found united (first-of c.in_ok-wind_once.field-0 _ _ c.if-not-branch.false once)
          (subst₂ (λ (edges sides : List Edge). IsOverlay NonZero Intersection edges sides found) front.1 (others.1 ∙ edges-bordered (bordering_of tiles) whole) tested)
          (subst (λ (edges : List Edge). IsOverlay Positive Union edges [] united) front.1 is),
      AreAppended-more united (inner_of tiles) _ _ _ _ _ _ _ _ _ appended c.in_ok-append_those.ensures.ok,
    )
