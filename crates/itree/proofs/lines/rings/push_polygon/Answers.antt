use Rattle.std.proofs.Common.{◌<◌, ◌++◌, ◌==◌, ◌∙◌, [], ℕ, List, length, string_bytes, get_or, sym, ap, append_assoc, arith}
use Rattle.itree.specs.Replies.{polygon_lines, ring_line}
use Rattle.std.specs.List.{between}
use Rattle.noding.proofs.Callers.{length-offsets}
use Rattle.plane.specs.declared.point.Point.{Point}
use Rattle.itree.proofs.Ringed.{ring_lines-more}
use Rattle.itree.proofs.lines.rings.push_polygon.Goals as goal

pub loop-place-preserved : goal.loop-place-preserved
loop-place-preserved g c = λ rings are.
    let first = c.args.first in
    let place = c.loop-place.place in
    let old = string_bytes c.args.text.now in
    let (_, _, _, within) = c.requires in
    let inside : place < length rings = omega (arith, within, c.loop-place-test.true, ap length are.1, length-offsets 0 rings) in
    c.in_ok-push_ring.ensures
    ∙ ap (λ (ring : List Point). string_bytes c.loop-place.text ++ ring_line (place == first) ring) (c.ring_at.ensures rings are)
    ∙ ap (λ (text : List ℕ). text ++ ring_line (place == first) (get_or rings place [])) (c.loop-place.invariant rings are)
    ∙ append_assoc old (polygon_lines (between first place rings)) (ring_line (place == first) (get_or rings place []))
    ∙ ap (λ (lines : List ℕ). old ++ lines) (sym (ring_lines-more rings first place c.loop-place.auto.place inside))
