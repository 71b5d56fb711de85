use Rattle.std.proofs.Common.{length, sym, ap, ◌∙◌, ◌+◌, ◌++◌, List, ℕ, get_or}
use Rattle.std.specs.List.{flat_map}
use Rattle.wkb.specs.Spelling.{four, place}
use Rattle.wkb.proofs.Pieces.{three_steps, ring-is}
use Rattle.wkb.proofs.writing.put_ring.Goals as goal

pub returns : goal.returns
returns g c =
    let positions = c.args.positions.now in
    three_steps c.args.bytes.now.items (four (length positions + 1)) (flat_map place positions) (place (get_or positions 0 (record { x = 0; y = 0 }))) c.put_number-2.new.bytes.items c.put_positions.new.bytes.items c.put_position.new.bytes.items c.in_ok-put_number-2.ensures c.in_ok-put_positions.ensures c.in_ok-put_position.ensures
    ∙ ap (λ (bytes : List ℕ). c.args.bytes.now.items ++ bytes) (sym (ring-is positions c.in-len1-up.len_at_least))
