use Rattle.std.proofs.lemmas.Iterator.Consumers.{map_from_collect}
use Rattle.itree.proofs.Splitting.{YieldsList-from_words}
use Rattle.itree.proofs.lines.line_words.Goals as goal

pub returns : goal.returns
returns g c =
    let all = map_from_collect _ c.collect.ensures.ran (YieldsList-from_words c.split_ascii_whitespace.result) in
    rw c.split_ascii_whitespace.ensures.text at all
