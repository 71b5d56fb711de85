use Rattle.std.proofs.Common.{ℕ, ◌≡◌, ◌-◌, ◌++◌, ◌+◌, ap, ◌∙◌, arith, refl, map, length}
use Rattle.std.specs.List.{flat_map, slice_index, range_with_len}
use Rattle.wkb.specs.Spelling.{polygon, polygon_of, polygons_of, ring_of}
use Rattle.wkb.proofs.Pieces.{one_piece_more}
use Rattle.wkb.proofs.writing.put_polygons.Goals as goal

pub loop-index-preserved : goal.loop-index-preserved
unfolding polygon_of
loop-index-preserved g c =
    let i = c.loop-index.index in
    one_piece_more (polygon c.args.srid) (polygon_of c.args.positions.now c.args.ring_ends.now c.args.polygon_ends.now) 0 i i (i + 1) c.args.bytes.now.items c.loop-index.bytes.items c.put_polygon.new.bytes.items
    (omega arith) refl c.loop-index.invariant
    (c.in_ok-put_polygon.ensures ∙ ap (λ (s : ℕ). c.loop-index.bytes.items ++ polygon c.args.srid (map (ring_of c.args.positions.now c.args.ring_ends.now) (range_with_len s (slice_index c.args.polygon_ends.now i - s)))) c.start_of-start.ensures)

pub returns : goal.returns
unfolding polygons_of
returns g c =
    let all : c.loop-index.index ≡ length c.args.polygon_ends.now = omega arith in
    c.loop-index.invariant ∙ ap (λ (n : ℕ). c.args.bytes.now.items ++ flat_map (polygon c.args.srid) (map (polygon_of c.args.positions.now c.args.ring_ends.now c.args.polygon_ends.now) (range_with_len 0 n))) all
