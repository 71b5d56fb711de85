use Rattle.std.proofs.Common.{◌≡◌, ◌≢◌, ◌<◌, ◌++◌, ◌∷◌, [], inl, inr, ℕ, List, pos, get_or, length, map, sym, ap, ap₂, ◌∙◌, subst, arith}
use Rattle.std.proofs.lemmas.Bool.{cases_lt}
use Rattle.std.proofs.lemmas.List.{get_or_default}
use Rattle.plane.specs.declared.point.Point.{Point}
use Rattle.plane.specs.Ends.{start_of}
use Rattle.noding.specs.Offsets.{between}
use Rattle.noding.specs.Stops.{point_of}
use Rattle.noding.specs.declared.stops.Stop.{Stop}
use Rattle.overlay.proofs.BoundaryLemmas.Pieces.{turned-end, turned-more}
use Rattle.noding.proofs.ChainLemmas.Runs.{made-more}
use Rattle.overlay.proofs.boundary.pieces.append_broken.Goals.{then-loop-next-test+else-stops-next, else-loop-next-test}
use Rattle.overlay.proofs.boundary.pieces.append_broken.Goals as goal

pub loop-next-preserved : goal.loop-next-preserved
loop-next-preserved g c =
    let (rising, inside, at, (front, are, is)) = c.loop-next.invariant in
    let edge = c.args.edge in
    let stops = c.args.stops.now in
    let first = c.args.first in
    let next = c.loop-next.next in
    let from = c.loop-next.from in
    let to = c.point_of-to.result in
    let none : Stop = record { place = 0; along_x = pos 0; along_y = pos 0 } in
    let more : next < length stops = c.loop-next-test.true in
    let here : (get_or stops next none).place ≡ c.args.place = (let test = c.if-stops-next.true in omega (arith, test)) in (
      omega (arith, rising),
      omega (arith, more),
      (λ k d from within. elim (cases_lt k next) [
        | inl before ↦ at k d from before
        | inr upto ↦
            let same : next ≡ k = omega (arith, upto, within) in
            subst (λ (n : ℕ). (get_or stops n d).place ≡ c.args.place) same (ap (λ (stop : Stop). stop.place) (get_or_default stops next d none more) ∙ here)
      ]),
      (
        front ++ from ∷ [],
        sym (ap₂ (λ (list : List Point) (point : Point). list ++ point ∷ []) (sym are) c.point_of-to.ensures ∙ made-more (point_of edge) (start_of edge ∷ []) first next stops none rising more),
        turned-more c.args.operand front from to c.args.out.now.items c.loop-next.out.items c.push_piece.new.out.items is c.in_ok-push_piece.ensures,
      ),
    )

pub returns : goal.returns
returns g c =
    let (rising, inside, at, (front, are, is)) = c.loop-next.invariant in
    let stops = c.args.stops.now in
    let next = c.loop-next.next in
    let last : (d : Stop) → next < length stops → (get_or stops next d).place ≢ c.args.place = elim c.loop-next-test.branch [
      | then-loop-next-test+else-stops-next w ↦
          let none : Stop = record { place = 0; along_x = pos 0; along_y = pos 0 } in
          let differs : (get_or stops next none).place ≢ c.args.place = (let test = w.if-stops-next.false in λ same. omega (arith, test, same)) in
          λ d within same. differs (ap (λ (stop : Stop). stop.place) (get_or_default stops next none d within) ∙ same)
      | else-loop-next-test w ↦ let past = w.loop-next-test.false in λ d within same. absurd (omega (arith, past, within))
    ] in (
      record { rising = rising; inside = inside; at = at; last = last },
      turned-end c.args.operand c.args.edge (start_of c.args.edge ∷ map (point_of c.args.edge) (between c.args.first next stops)) front c.loop-next.from
          c.args.out.now.items c.loop-next.out.items c.push_last_piece.new.out.items are is c.in_ok-push_last_piece.ensures,
    )
