use Rattle.std.proofs.Common.{◌≡◌, rules, SFits, w64}
use Rattle.std.proofs.lemmas.Int.{to_z-of_z}
use Rattle.std.proofs.lemmas.Result.{on_ok_weaker}
use Rattle.plane.proofs.ColumnLemmas.SweepEnd.{IsOfLine-ending, IsSwept-ended, can_look_ended}
use Rattle.plane.proofs.columns.sweep.Columns.end.Goals as goal

pub remove-below-requires : goal.remove-below-requires
remove-below-requires g c =
    let (edges, asked, done, next, sorted) = c.requires.sorted in
    IsOfLine-ending edges asked done c.args.event next c.requires.task c.args.self.now.status c.args.self.now.exchanges c.args.self.now.crossed.items sorted

pub look-requires : goal.look-requires
look-requires g c =
    let fits : SFits w64 c.moment_of.result = search rules in
    let (edges, asked, done, next, sorted) = c.requires.sorted in
    simp to_z-of_z
    (rw c.moment_of.ensures
    (can_look_ended edges asked done c.args.event next c.requires.task c.args.self.now.status c.args.self.now.exchanges c.args.self.now.crossed.items sorted
    c.remove-below.new.self c.remove-below.result c.remove-below.ensures.leaves))

pub returns-clause-swept : goal.returns-clause-swept
returns-clause-swept g c =
    let fits : SFits w64 c.moment_of.result = search rules in
    let told : c.look.new.self.crossed.items ≡ c.args.self.now.crossed.items = cc (c.look.ensures.crossed) in
    on_ok_weaker c.look.result
    (λ looks edges asked done next sorted.
    rw (c.look.ensures.status, told)
    (IsSwept-ended edges asked done c.args.event next c.requires.task c.args.self.now.status c.args.self.now.exchanges c.args.self.now.crossed.items sorted
    c.remove-below.new.self c.remove-below.result c.remove-below.ensures.leaves c.look.new.self.exchanges looks c.remove-below.ensures.places))
    (rw c.moment_of.ensures at (simp to_z-of_z at c.look.ensures.looks))

pub returns-clause-crossed : goal.returns-clause-crossed
returns-clause-crossed g c = cc (c.look.ensures.crossed)
