use Rattle.std.proofs.Common.{◌≤◌, ◌+◌, ◌⊎◌, ◌∷◌, [], ap, arith, inl, inr, length, subst, sym}
use Rattle.std.proofs.lemmas.Bool.{cases_lt}
use Rattle.std.proofs.lemmas.List.{length-append}
use Rattle.plane.specs.Pairs.Runs.{AreRunsAt, IsRunAt}
use Rattle.plane.specs.declared.pairs.runs.Run.{Run}
use Rattle.plane.proofs.PairsLemmas.Runs.{around-upto, runs-more}
use Rattle.plane.proofs.pairs.runs.runs_of.Goals as goal

pub loop-from-preserved : goal.loop-from-preserved
loop-from-preserved g c =
    let boxes = c.args.boxes.now in
    let runs = c.loop-from.runs.items in
    let from = c.loop-from.from in
    let around = c.box_around-around.result in
    let at = c.loop-from.invariant.1 in
    let run : Run = record { from = from; to = from + 8; around = around } in
    let least = c.min.ensures in
    let reaches : (from + 8 ≤ c.min.result) ⊎ (length boxes ≤ c.min.result) = elim (cases_lt (length boxes) (from + 8)) [
      | inl less ↦ inr (omega (arith, less, least))
      | inr upto ↦ inl (omega (arith, upto, least))
    ] in
    let is : IsRunAt boxes (length runs) run = record { from = at; to = omega (arith, at); around = around-upto boxes from c.min.result (from + 8) around reaches c.box_around-around.ensures } in
    let many = length-append runs (run ∷ []) in (
      subst (AreRunsAt boxes) (sym c.in_ok-push.ensures.items) (runs-more boxes runs run c.loop-from.invariant.0 is),
      omega (arith, at, many, ap length c.in_ok-push.ensures.items),
    )
