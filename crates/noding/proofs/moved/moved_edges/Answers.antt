use Rattle.std.proofs.Common.{List, subst, sym}
use Rattle.plane.specs.declared.point.Point.{Point}
use Rattle.plane.specs.Gains.{GainsThese, IsOfSome}
use Rattle.noding.specs.Local.{AreFirst, IsPointBeside}
use Rattle.noding.proofs.ChainLemmas.Between.{AreFirst-crossed, within-all_crossed}
use Rattle.plane.proofs.GainsLemmas.{gained-all}
use Rattle.noding.proofs.moved.moved_edges.Goals as goal

pub flag_crossed-requires-clause-within : goal.flag_crossed-requires-clause-within
flag_crossed-requires-clause-within g c = within-all_crossed c.args.edges.now c.args.crossings.now c.requires.crossed

pub flag_crossed-requires-clause-each : goal.flag_crossed-requires-clause-each
flag_crossed-requires-clause-each g c = c.requires.crossed.each

pub flag_rest-requires-clause-first : goal.flag_rest-requires-clause-first
flag_rest-requires-clause-first g c =
    let edges = c.args.edges.now in
    let crossings = c.args.crossings.now in
    let crossed = c.flag_crossed.new.crossed.items in
    subst (AreFirst edges) (sym c.deref-2.ensures.value)
    (AreFirst-crossed edges crossings c.requires.crossed crossed
    (gained-all (IsOfSome (IsPointBeside edges) crossings) crossed
    (subst (λ (before : List Point). GainsThese (IsOfSome (IsPointBeside edges) crossings) before crossed) c.new-crossed.ensures.items c.in_ok-flag_crossed.ensures.gains)))
