use Rattle.std.proofs.Common.{◌≡◌, ◌<◌, inl, inr, ℕ, pos, get_or, length, ap, ◌∙◌, subst, arith}
use Rattle.std.proofs.lemmas.Bool.{cases_lt}
use Rattle.std.proofs.lemmas.List.{get_or_default}
use Rattle.noding.specs.declared.stops.Stop.{Stop}
use Rattle.noding.proofs.distinct.end_of_run.Goals as goal

pub loop-next-preserved : goal.loop-next-preserved
loop-next-preserved c =
    let (rising, inside, at) = c.loop-next.invariant in
    let stops = c.args.stops.now in
    let next = c.loop-next.next in
    let none : Stop = record { place = 0; along_x = pos 0; along_y = pos 0 } in
    let more : next < length stops = c.loop-next-test.true in
    let here : (get_or stops next none).place ≡ c.args.place = (let test = c.if-stops-next.true in omega (arith, test)) in (
      omega (arith, rising),
      omega (arith, more),
      (λ k d from within. elim (cases_lt k next) [
        | inl before ↦ at k d from before
        | inr upto ↦
            let same : next ≡ k = omega (arith, upto, within) in
            subst (λ (n : ℕ). (get_or stops n d).place ≡ c.args.place) same (ap (λ (stop : Stop). stop.place) (get_or_default stops next d none more) ∙ here)
      ]),
    )
