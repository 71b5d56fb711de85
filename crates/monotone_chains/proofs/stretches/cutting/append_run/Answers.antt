use Rattle.std.proofs.Common.{List, OnOk, sym, subst}
use Rattle.plane.specs.declared.edge.Edge.{Edge}
use Rattle.monotone_chains.specs.Stretches.Cut.{AppendsParts}
use Rattle.monotone_chains.proofs.StretchLemmas.CutWays.{real-way}
use Rattle.monotone_chains.proofs.stretches.cutting.append_run.Goals as goal

pub returns : goal.returns
returns g c =
    subst (λ (edges : List Edge). OnOk c.cut_run.result (AppendsParts edges c.args.parts.now.items c.cut_run.new.parts.items))
    (sym (real-way c.args.run c.requires.run c.if-is_point.ensures)) c.cut_run.ensures
