use Rattle.std.proofs.Common.{◌≢◌, ◌<◌, ◌∷◌, [], List, get_or, length, map, pos, ap, ap₂, sym, ◌∙◌, arith, append-nil}
use Rattle.std.proofs.lemmas.List.{get_or_default}
use Rattle.std.proofs.lemmas.List.Edits.{between_none}
use Rattle.plane.specs.declared.point.Point.{Point}
use Rattle.plane.specs.Ends.{start_of}
use Rattle.noding.specs.Offsets.{between}
use Rattle.noding.specs.Stops.{point_of}
use Rattle.noding.specs.declared.stops.Stop.{Stop}
use Rattle.overlay.proofs.BoundaryLemmas.Pieces.{turned-end}
use Rattle.overlay.proofs.boundary.pieces.append_pieces_of.Goals.{else-first-stops-via-then-first-stops+else-stops-first, else-first-stops-via-else-first-stops}
use Rattle.overlay.proofs.boundary.pieces.append_pieces_of.Goals as goal

pub returns : goal.returns
returns g c =
    let edge = c.args.edge in
    let stops = c.args.stops.now in
    let first = c.args.first in
    let last : (d : Stop) → first < length stops → (get_or stops first d).place ≢ c.args.place = elim c.else-first-stops.branch [
      | else-first-stops-via-then-first-stops+else-stops-first w ↦
          let none : Stop = record { place = 0; along_x = pos 0; along_y = pos 0 } in
          let differs : (get_or stops first none).place ≢ c.args.place = (let test = w.if-stops-first.false in λ same. omega (arith, test, same)) in
          λ d within same. differs (ap (λ (stop : Stop). stop.place) (get_or_default stops first none d within) ∙ same)
      | else-first-stops-via-else-first-stops w ↦ let past = w.if-first-stops.false in λ d within same. absurd (omega (arith, past, within))
    ] in
    let nothing = between_none stops first in (
      record { rising = omega arith; inside = c.requires; at = λ k d from before. absurd (omega (arith, from, before)); last = last },
      turned-end c.args.operand edge (start_of edge ∷ map (point_of edge) (between first first stops)) [] c.start_of.result c.args.out.now.items c.args.out.now.items c.push_last_piece.new.out.items
          (ap₂ (λ (point : Point) (list : List Stop). point ∷ map (point_of edge) list) (sym c.start_of.ensures) nothing) (sym (append-nil c.args.out.now.items)) c.in_ok-push_last_piece.ensures,
    )
