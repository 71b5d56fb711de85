use Rattle.std.proofs.Common.{length, sym, ap, ◌∙◌, ◌++◌, ℕ}
use Rattle.std.specs.List.{flat_map}
use Rattle.std.proofs.lemmas.List.FromFn.{length-map-range_with_len}
use Rattle.wkb.specs.Spelling.{four, head, polygon, polygon_of, polygons_of, written}
use Rattle.wkb.proofs.Pieces.{three_steps}
use Rattle.wkb.proofs.writing.write_positions.Goals as goal

pub returns-in_ok-put_polygons-in-MultiPolygon : goal.returns-in_ok-put_polygons-in-MultiPolygon
unfolding written polygons_of
returns-in_ok-put_polygons-in-MultiPolygon g c =
    let polygons = polygons_of c.args.positions.now c.args.ring_ends.now c.args.polygon_ends.now in
    let steps = three_steps c.args.bytes.now.items (head 6 c.args.srid) (four (length c.args.polygon_ends.now)) (flat_map (polygon 0) polygons) c.put_head.new.bytes.items c.put_number.new.bytes.items c.put_polygons.new.bytes.items c.in_ok-put_head-in-MultiPolygon.ensures c.in_ok-put_number-in-MultiPolygon.ensures c.in_ok-put_polygons-in-MultiPolygon.ensures in
    rw c.in-MultiPolygon.is (steps ∙ ap (λ (n : ℕ). c.args.bytes.now.items ++ (head 6 c.args.srid ++ four n ++ flat_map (polygon 0) polygons)) (sym (length-map-range_with_len (polygon_of c.args.positions.now c.args.ring_ends.now c.args.polygon_ends.now) 0 (length c.args.polygon_ends.now))))
