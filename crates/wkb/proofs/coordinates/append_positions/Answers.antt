use Rattle.std.proofs.Common.{List, ◌++◌, ◌∷◌, [], map, ap, sym, ◌∙◌, append_assoc, arith}
use Rattle.std.specs.List.{range_with_len}
use Rattle.std.proofs.lemmas.List.FromFn.{map-range_with_len_more}
use Rattle.grid.specs.declared.position.Position.{Position}
use Rattle.wkb.specs.Coordinates.{position}
use Rattle.wkb.proofs.coordinates.append_positions.Goals as goal

pub loop-index-preserved : goal.loop-index-preserved
loop-index-preserved g c =
    let f = position c.args.bytes.now c.args.ring.now in
    let i = c.loop-index.index in
    let old = c.args.positions.now.items in
    c.in_ok-push.ensures.items
    ∙ ap (λ (ps : List Position). ps ++ c.position.result ∷ []) c.loop-index.invariant
    ∙ ap (λ (p : Position). (old ++ map f (range_with_len 0 i)) ++ p ∷ []) c.position.ensures
    ∙ append_assoc old (map f (range_with_len 0 i)) (f i ∷ [])
    ∙ ap (λ (ps : List Position). old ++ ps) (sym (map-range_with_len_more f 0 i i (omega arith)))
