use Rattle.std.proofs.Common.{pos, string_bytes}
use Rattle.itree.specs.declared.lines.crossings.CrossingsLine.{CrossingsLine}
use Rattle.itree.specs.declared.lines.crossings.CrossingsLine.TheVariants as crossings_line
use Rattle.itree.proofs.Crossings.{crossing_lines-next}
use Rattle.itree.proofs.lines.crossings.crossings_text.Goals as goal

-- what is read outside the list
abbrev no_line : CrossingsLine
no_line = crossings_line.Edge (record { x0 = pos 0; y0 = pos 0; x1 = pos 0; y1 = pos 0 })

pub loop-place-preserved : goal.loop-place-preserved
loop-place-preserved g c =
    crossing_lines-next c.args.said.now c.args.replies.now c.loop-place.place no_line c.index-replies-place.result c.word.result.now c.deref.result.now
    (string_bytes c.loop-place.text) (string_bytes c.push_numbers.new.text) (string_bytes c.push_str.new.self)
    c.requires c.loop-place-test.true c.loop-place.invariant c.word.ensures c.deref.ensures.value c.in_ok-push_numbers.ensures c.in_ok-push_str.ensures.bytes
