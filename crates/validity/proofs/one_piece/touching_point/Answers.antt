use Rattle.std.proofs.Common.{◌∙◌, ◌⊎◌, inl, inr, sym, subst}
use Rattle.plane.specs.declared.point.Point.{Point}
use Rattle.plane.specs.Meet.Kinds.{HasPoint}
use Rattle.noding.proofs.SnapLemmas.Local.{ends_on}
use Rattle.validity.proofs.Meetings.{touch-ends}
use Rattle.validity.proofs.one_piece.touching_point.Goals as goal

pub returns-then-is_on-clause-on : goal.returns-then-is_on-clause-on
returns-then-is_on-clause-on c = subst (λ (p : Point). HasPoint c.args.one p.x p.y) (c.start_of.ensures ∙ sym c.start_of-then-is_on.ensures) c.if-is_on.ensures

pub returns-then-is_on-clause-other_on : goal.returns-then-is_on-clause-other_on
returns-then-is_on-clause-other_on c = subst (λ (p : Point). HasPoint c.args.other p.x p.y) (sym c.start_of-then-is_on.ensures) (ends_on c.args.other).0

pub returns-then-is_on-2-clause-on : goal.returns-then-is_on-2-clause-on
returns-then-is_on-2-clause-on c = subst (λ (p : Point). HasPoint c.args.one p.x p.y) (c.end_of.ensures ∙ sym c.end_of-then-is_on-2.ensures) c.if-is_on-2.ensures

pub returns-then-is_on-2-clause-other_on : goal.returns-then-is_on-2-clause-other_on
returns-then-is_on-2-clause-other_on c = subst (λ (p : Point). HasPoint c.args.other p.x p.y) (sym c.end_of-then-is_on-2.ensures) (ends_on c.args.other).1

pub returns-then-is_on-3-clause-on : goal.returns-then-is_on-3-clause-on
returns-then-is_on-3-clause-on c = subst (λ (p : Point). HasPoint c.args.one p.x p.y) (sym c.start_of-then-is_on-3.ensures) (ends_on c.args.one).0

pub returns-then-is_on-3-clause-other_on : goal.returns-then-is_on-3-clause-other_on
returns-then-is_on-3-clause-other_on c = subst (λ (p : Point). HasPoint c.args.other p.x p.y) (c.start_of-2.ensures ∙ sym c.start_of-then-is_on-3.ensures) c.if-is_on-3.ensures

pub returns-clause-on : goal.returns-clause-on
returns-clause-on c = subst (λ (p : Point). HasPoint c.args.one p.x p.y) (sym c.end_of-2.ensures) (ends_on c.args.one).1

pub returns-clause-other_on : goal.returns-clause-other_on
returns-clause-other_on c = subst (λ (p : Point). HasPoint c.args.other p.x p.y) (sym c.end_of-2.ensures) (by (touch-ends c.args.one c.args.other c.requires))
  where
    by : (HasPoint c.args.one c.args.other.x0 c.args.other.y0 ⊎ HasPoint c.args.one c.args.other.x1 c.args.other.y1) ⊎ (HasPoint c.args.other c.args.one.x0 c.args.one.y0 ⊎ HasPoint c.args.other c.args.one.x1 c.args.one.y1)
        → HasPoint c.args.other c.args.one.x1 c.args.one.y1
    by (inl (inl is)) = absurd (c.if-is_on.ensures (subst (λ (p : Point). HasPoint c.args.one p.x p.y) (sym c.start_of.ensures) is))
    by (inl (inr is)) = absurd (c.if-is_on-2.ensures (subst (λ (p : Point). HasPoint c.args.one p.x p.y) (sym c.end_of.ensures) is))
    by (inr (inl is)) = absurd (c.if-is_on-3.ensures (subst (λ (p : Point). HasPoint c.args.other p.x p.y) (sym c.start_of-2.ensures) is))
    by (inr (inr is)) = is
