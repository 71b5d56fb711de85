use Rattle.std.proofs.Common.{◌∷◌, []}
use Rattle.plane.specs.Ends.{edge_between}
use Rattle.offset.specs.Faults.{IsRawFault}
use Rattle.offset.specs.Raw.{moved, ways_by}
use Rattle.offset.proofs.RawLemmas.{earlier-fails, ends-outside, handed-on, later-fails, starts-outside}
use Rattle.offset.proofs.raw.append_ways_by.Goals as goal

pub returns-in_err-moved-clause-fault : goal.returns-in_err-moved-clause-fault
returns-in_err-moved-clause-fault g c =
    let at = c.args.at in
    handed-on c.from_residual.result _ (IsRawFault (ways_by c.args.from c.args.to at)) c.from_residual.ensures.1
    (earlier-fails (edge_between (moved c.args.from at) at ∷ []) (edge_between at (moved c.args.to at) ∷ []) _ (starts-outside (edge_between (moved c.args.from at) at) _ c.in_err-moved.ensures.fault))

pub returns-in_err-moved-2-clause-fault : goal.returns-in_err-moved-2-clause-fault
returns-in_err-moved-2-clause-fault g c =
    let at = c.args.at in
    handed-on c.from_residual-in_err-moved-2.result _ (IsRawFault (ways_by c.args.from c.args.to at)) c.from_residual-in_err-moved-2.ensures.1
    (later-fails (edge_between (moved c.args.from at) at ∷ []) (edge_between at (moved c.args.to at) ∷ []) _ (ends-outside (edge_between at (moved c.args.to at)) _ c.in_err-moved-2.ensures.fault))
