use Rattle.std.proofs.Common.{◌∷◌, ◌≡◌, [], ap, subst}
use Rattle.plane.specs.declared.point.Point.{Point}
use Rattle.offset.specs.Faults.{IsRawFault}
use Rattle.offset.specs.Raw.{IsPointIn32Bits, moved, moved_edge}
use Rattle.offset.proofs.RawLemmas.{ends-outside, handed-on}
use Rattle.offset.proofs.raw.push_moved.Goals as goal

pub returns-in_err-to-clause-fault : goal.returns-in_err-to-clause-fault
returns-in_err-to-clause-fault g c =
    let (is, outside) = c.in_err-to.ensures.fault in
    handed-on c.from_residual-in_err-to.result _ (IsRawFault (moved_edge c.args.by c.args.edge ∷ [])) c.from_residual-in_err-to.ensures.1
    (ends-outside (moved_edge c.args.by c.args.edge) c.in_err-to.field-0.0 (is, subst (λ (at : Point). IsPointIn32Bits (moved c.args.by at) → ⊥) c.end_of.ensures outside))
