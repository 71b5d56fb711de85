use Rattle.std.proofs.lemmas.Result.{on_ok_weaker}
use Rattle.plane.proofs.ColumnLemmas.SweepAsk.{AreMet-asked, split_asked}
use Rattle.plane.proofs.columns.sweep.Columns.ask.Goals as goal

pub append_within-requires-clause-split : goal.append_within-requires-clause-split
append_within-requires-clause-split g c =
    let (edges, asked, done, next, stands, sorted) = c.requires.sorted in
    split_asked edges asked done c.args.event next c.requires.task c.args.self.now.status c.args.self.now.exchanges c.args.self.now.crossed.items sorted c.args.what stands

pub returns-clause-met : goal.returns-clause-met
returns-clause-met g c =
    on_ok_weaker c.append_within.result
    (λ (front, within, back, split, gains) edges asked done next stands sorted met.
    AreMet-asked edges asked done c.args.event next c.requires.task c.args.self.now.status c.args.self.now.exchanges c.args.self.now.crossed.items sorted c.args.what stands
    front within back split c.args.met.now.items c.append_within.new.met.items gains met)
    c.append_within.ensures.ok
