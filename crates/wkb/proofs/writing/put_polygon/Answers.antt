use Rattle.std.proofs.Common.{◌-◌, map, sym, ap, ◌∙◌, ◌++◌, ℕ}
use Rattle.std.specs.List.{flat_map, range_with_len}
use Rattle.std.proofs.lemmas.List.FromFn.{length-map-range_with_len}
use Rattle.wkb.specs.Spelling.{four, head, ring, ring_of, polygon}
use Rattle.wkb.proofs.Pieces.{three_steps}
use Rattle.wkb.proofs.writing.put_polygon.Goals as goal

pub returns : goal.returns
unfolding polygon
returns g c =
    let count = c.args.end - c.args.start in
    let rings = map (ring_of c.args.positions.now c.args.ring_ends.now) (range_with_len c.args.start count) in
    let steps = three_steps c.args.bytes.now.items (head 3 c.args.srid) (four count) (flat_map ring rings) c.put_head.new.bytes.items c.put_number.new.bytes.items c.put_rings.new.bytes.items c.in_ok-put_head.ensures c.in_ok-put_number.ensures c.in_ok-put_rings.ensures in
    steps ∙ ap (λ (n : ℕ). c.args.bytes.now.items ++ (head 3 c.args.srid ++ four n ++ flat_map ring rings)) (sym (length-map-range_with_len (ring_of c.args.positions.now c.args.ring_ends.now) c.args.start count))
