use Rattle.std.proofs.Common.{◌∙◌, [], ℕ, List, ap₂, get_or, subst}
use Rattle.std.specs.Option.{MatchOption}
use Rattle.std.proofs.lemmas.Bool.{MatchBool-at_true}
use Rattle.plane.specs.declared.point.Point.{Point}
use Rattle.overlay.specs.OnePiece.{ComesFree, TouchAlongNoCircle, TouchesIn}
use Rattle.overlay.specs.Rings.{rings_of}
use Rattle.overlay.proofs.Callers.{rings-joined}
use Rattle.tiles.proofs.InPlace.{HasEnds-joined}
use Rattle.validity.specs.Given.{directed, polygons_of}
use Rattle.validity.specs.declared.one_piece.Contact.{Contact}
use Rattle.validity.proofs.Alone.{alone-free}
use Rattle.validity.proofs.validity.circle_in.Goals as goal

pub returns-then-has_one_ring-clause-ok : goal.returns-then-has_one_ring-clause-ok
returns-then-has_one_ring-clause-ok g c =
    alone-free (get_or (polygons_of c.args.set) c.args.polygon []) (MatchBool-at_true _ _ c.if-has_one_ring.true c.has_one_ring.ensures)

pub first_circle-requires : goal.first_circle-requires
first_circle-requires g c = (HasEnds-joined (directed (get_or (polygons_of c.args.set) c.args.polygon [])) _ _ c.rings.result c.rings.ensures.points c.rings.ensures.ends c.in_ok-own.ensures.ok).0

pub returns-clause-ok : goal.returns-clause-ok
returns-clause-ok g c =
    let same = ap₂ (λ (points : List Point) (ends : List ℕ). rings_of points 0 ends) c.rings.ensures.points c.rings.ensures.ends
    ∙ rings-joined (directed (get_or (polygons_of c.args.set) c.args.polygon [])) _ _ c.in_ok-own.ensures.ok in
    subst (λ (rings : List (List Point)). MatchOption c.in_ok-found.found (TouchAlongNoCircle rings) (λ (touch : Contact). TouchesIn rings touch.ring touch.point × (¬ (ComesFree rings touch.ring touch.point)))) same c.in_ok-found.ensures.ok
