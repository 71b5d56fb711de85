use Rattle.std.proofs.Common.{IsTrue, rules, subst, sym}
use Rattle.std.specs.List.{All}
use Rattle.monotone_chains.specs.Stretches.Cut.{IsPart}
use Rattle.overlay.specs.Rings.{edges_of, real_edges}
use Rattle.monotone_chains.proofs.PartLemmas.{IsPart-both}
use Rattle.monotone_chains.proofs.stretched.stretches_along.Goals as goal

pub stretches_of-requires-clause-parts : goal.stretches_of-requires-clause-parts
stretches_of-requires-clause-parts g c =
    let first : IsTrue c.in_ok-append_rings.field-0 = search rules in
    let second : IsTrue c.in_ok-append_rings-2.field-0 = search rules in
    subst (All IsPart) (sym c.deref.ensures.value)
    (IsPart-both (real_edges (edges_of c.args.subject)) (real_edges (edges_of c.args.clip)) c.new-parts.result.items c.append_rings.new.parts.items c.append_rings-2.new.parts.items
    c.new-parts.ensures.items (c.in_ok-append_rings.ensures first) (c.in_ok-append_rings-2.ensures second))
