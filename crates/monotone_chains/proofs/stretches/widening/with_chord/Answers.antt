use Rattle.std.proofs.Common.{rules}
use Rattle.monotone_chains.proofs.StretchLemmas.Table.{found-chord, no-chord, searched-by_chord}
use Rattle.monotone_chains.proofs.stretches.widening.with_chord.Goals as goal

pub returns-in-Ok : goal.returns-in-Ok
returns-in-Ok c =
    let table = c.args.table.now in
    let result = c.binary_search_by_key.result in
    let said = searched-by_chord (λ a r q k. search rules) table c.args.chord result c.binary_search_by_key.ensures.position in
    found-chord table c.args.chord result c.in-Ok.place said _ c.in-Ok.is c.binary_search_by_key.ensures.bound

pub returns-in-Err : goal.returns-in-Err
returns-in-Err c =
    let table = c.args.table.now in
    let result = c.binary_search_by_key.result in
    let said = searched-by_chord (λ a r q k. search rules) table c.args.chord result c.binary_search_by_key.ensures.position in
    no-chord table c.args.chord result c.in-Err.field-0 said c.in-Err.is c.requires
