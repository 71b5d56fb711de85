use Rattle.std.proofs.Common.{◌≡◌, length, rules, SFits, w64}
use Rattle.std.proofs.lemmas.Int.{to_z-of_z}
use Rattle.plane.proofs.ColumnLemmas.SweepBegin.{IsSwept-begun, absent, can_look_begun_above, can_look_begun_below, split_line}
use Rattle.plane.proofs.ColumnLemmas.Comparing.{Compares-more}
use Rattle.plane.proofs.columns.sweep.Columns.begin.Goals as goal

pub insert-requires-clause-split : goal.insert-requires-clause-split
insert-requires-clause-split g c =
    let (edges, asked, done, next, one, sorted) = c.requires.sorted in
    split_line edges asked done c.args.event next c.requires.task c.args.self.now.status c.args.self.now.exchanges c.args.self.now.crossed.items sorted c.args.beginning one c.requires.place

pub insert-requires-clause-absent : goal.insert-requires-clause-absent
insert-requires-clause-absent g c =
    let (edges, asked, done, next, one, sorted) = c.requires.sorted in
    absent edges asked done c.args.event next c.requires.task c.args.self.now.status c.args.self.now.exchanges c.args.self.now.crossed.items sorted c.args.beginning one c.requires.place

pub look-requires : goal.look-requires
look-requires g c =
    let fits : SFits w64 c.moment_of-moment.result = search rules in
    let (edges, asked, done, next, one, sorted) = c.requires.sorted in
    simp to_z-of_z
    (rw c.moment_of-moment.ensures
    (can_look_begun_below edges asked done c.args.event next c.requires.task c.args.self.now.status c.args.self.now.exchanges c.args.self.now.crossed.items sorted c.args.beginning one c.requires.place
    c.insert.new.self (c.in_ok-below.below, c.in_ok-below.above) c.in_ok-below.ensures.joins))

pub look-requires-2 : goal.look-requires-2
look-requires-2 g c =
    let fits : SFits w64 c.moment_of-moment.result = search rules in
    let (edges, asked, done, next, one, sorted) = c.requires.sorted in
    simp to_z-of_z
    (rw c.moment_of-moment.ensures
    (can_look_begun_above edges asked done c.args.event next c.requires.task c.args.self.now.status c.args.self.now.exchanges c.args.self.now.crossed.items sorted c.args.beginning one c.requires.place
    c.insert.new.self (c.in_ok-below.below, c.in_ok-below.above) c.in_ok-below.ensures.joins))

pub returns-clause-swept : goal.returns-clause-swept
returns-clause-swept g c =
    let fits : SFits w64 c.moment_of-moment.result = search rules in
    let told : c.look-2.new.self.crossed.items ≡ c.args.self.now.crossed.items = cc (c.in_ok-look-2.ensures.crossed, c.in_ok-look.ensures.crossed) in
    let status : c.look-2.new.self.status ≡ c.insert.new.self = cc (c.in_ok-look-2.ensures.status, c.in_ok-look.ensures.status) in
    let looks = rw c.moment_of-moment.ensures at (simp to_z-of_z at c.in_ok-look.ensures.looks) in
    let looks_too = rw c.moment_of-moment.ensures at (simp to_z-of_z at c.in_ok-look-2.ensures.looks) in
    λ edges asked done next one sorted.
    rw (status, told)
    (IsSwept-begun edges asked done c.args.event next c.requires.task c.args.self.now.status c.args.self.now.exchanges c.args.self.now.crossed.items sorted c.args.beginning one c.requires.place
    c.insert.new.self (c.in_ok-below.below, c.in_ok-below.above) c.in_ok-below.ensures.joins c.look.new.self.exchanges c.look-2.new.self.exchanges looks looks_too c.in_ok-below.ensures.places)

pub returns-clause-steps : goal.returns-clause-steps
returns-clause-steps g c =
    let law = g.met.C.Counter.law in
    let active = length c.args.self.now.status.edges in
    let first = Compares-more law c.args.steps.now c.insert.new.steps c.look.new.steps active 1 0 1 c.insert.ensures.steps c.look.ensures.steps in
    Compares-more law c.args.steps.now c.look.new.steps c.look-2.new.steps active 1 1 1 first c.look-2.ensures.steps

pub returns-clause-crossed : goal.returns-clause-crossed
returns-clause-crossed g c = cc (c.in_ok-look-2.ensures.crossed, c.in_ok-look.ensures.crossed)
