use Rattle.std.proofs.Common.{List, length, ap, sym, rules, IsTrue}
use Rattle.std.proofs.lemmas.Bool.{eqb-false}
use Rattle.plane.specs.declared.point.Point.{Point}
use Rattle.monotone_chains.proofs.StretchLemmas.CutParts.{AppendsParts-ring}
use Rattle.monotone_chains.proofs.stretches.cutting.append_parts.Goals as goal

pub returns : goal.returns
returns g c are_all =
    let all : IsTrue c.in_ok-append_runs.field-0 = search rules in
    AppendsParts-ring c.args.ring.now c.args.parts.now.items c.append_runs.new.parts.items c.append_run.new.parts.items
    (λ empty. eqb-false _ _ (sym c.if-is_empty.ensures) (ap (λ (points : List Point). length points) empty)) (c.in_ok-append_runs.ensures all) c.in_ok-append_run.ensures
