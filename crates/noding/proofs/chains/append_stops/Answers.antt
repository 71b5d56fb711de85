use Rattle.std.proofs.Common.{◌≡◌, ◌<◌, ◌++◌, ◌∷◌, [], inl, inr, ℕ, List, pos, get_or, length, ap, ap₂, ◌∙◌, subst, arith}
use Rattle.std.proofs.lemmas.Bool.{cases_lt}
use Rattle.std.proofs.lemmas.List.{get_or_default}
use Rattle.plane.specs.declared.point.Point.{Point}
use Rattle.noding.specs.Stops.{point_of}
use Rattle.noding.specs.declared.stops.Stop.{Stop}
use Rattle.noding.proofs.ChainLemmas.Runs.{made-more}
use Rattle.noding.proofs.chains.append_stops.Goals as goal

pub loop-next-preserved : goal.loop-next-preserved
loop-next-preserved g c =
    let (rising, inside, at, is) = c.loop-next.invariant in
    let stops = c.args.stops.now in
    let next = c.loop-next.next in
    let none : Stop = record { place = 0; along_x = pos 0; along_y = pos 0 } in
    let more : next < length stops = c.loop-next-test.true in
    let here : (get_or stops next none).place ≡ c.args.place = (let test = c.if-stops-next.true in omega (arith, test)) in (
      omega (arith, rising),
      omega (arith, more),
      (λ k d from within. elim (cases_lt k next) [
        | inl before ↦ at k d from before
        | inr upto ↦
            let same : next ≡ k = omega (arith, upto, within) in
            subst (λ (n : ℕ). (get_or stops n d).place ≡ c.args.place) same (ap (λ (stop : Stop). stop.place) (get_or_default stops next d none more) ∙ here)
      ]),
      c.in_ok-push.ensures.items ∙ ap₂ (λ (list : List Point) (point : Point). list ++ point ∷ []) is c.point_of.ensures ∙ made-more (point_of c.args.edge) c.args.points.now.items c.args.first next stops none rising more,
    )
