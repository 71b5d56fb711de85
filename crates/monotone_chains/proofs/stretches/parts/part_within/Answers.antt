use Rattle.std.proofs.Common.{◌-◌, ◌++◌, ◌∷◌, [], ap₂, ◌∙◌}
use Rattle.std.specs.List.{between}
use Rattle.plane.specs.declared.point.Point.{Point}
use Rattle.monotone_chains.proofs.StretchLemmas.CutWays.{way-within}
use Rattle.monotone_chains.proofs.stretches.parts.part_within.Goals as goal

pub returns : goal.returns
returns c =
    ap₂ (λ (first last : Point). first ∷ (between c.args.from (c.args.upto - 1) c.args.part.inner.now ++ last ∷ [])) c.point_at.ensures c.point_at-2.ensures
    ∙ way-within c.args.part c.args.from c.args.upto c.requires.0 c.requires.1
