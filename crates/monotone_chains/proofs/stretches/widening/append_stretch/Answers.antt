use Rattle.std.proofs.Common.{◌++◌, ◌∷◌, [], List, sym, ap, ◌∙◌, append_assoc}
use Rattle.plane.specs.declared.point.Point.{Point}
use Rattle.monotone_chains.proofs.StretchLemmas.Ways.{but_last-ends}
use Rattle.monotone_chains.proofs.stretches.widening.append_stretch.Goals as goal

pub returns-then-part-from-clause-along : goal.returns-then-part-from-clause-along
returns-then-part-from-clause-along g c = λ starts.
    (let part = c.args.part in
    let old = c.args.points.now.items in
    c.in_ok-extend_from_slice.ensures.items
    ∙ ap (λ (list : List Point). list ++ part.inner.now) c.in_ok-push.ensures.items
    ∙ append_assoc old (part.from ∷ []) part.inner.now
    ∙ ap (λ (list : List Point). old ++ list) (sym (but_last-ends part.from part.inner.now part.to)))
