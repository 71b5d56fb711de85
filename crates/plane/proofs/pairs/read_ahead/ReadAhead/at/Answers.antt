use Rattle.std.proofs.Common.{◌≡◌, ◌+◌, ◌-◌, ◌<◌, length, subst, sym, arith, rules}
use Rattle.plane.specs.Pairs.Parts.{AreReadAhead, IsItemOf}
use Rattle.plane.proofs.pairs.read_ahead.ReadAhead.at.Goals as goal

pub returns-then-place-self-clause-value : goal.returns-then-place-self-clause-value
returns-then-place-self-clause-value g c =
    let items = c.args.items.now in
    let parts = c.args.parts.now in
    let from = c.args.self.now.from in
    let read = c.args.place - from in
    let inside : read < length c.args.self.now.items.items = search rules in
    let is : from + read ≡ c.args.place = omega (arith, c.if-self-place.true) in
    subst (λ place. IsItemOf items parts place c.index.result.now) is
    (subst (IsItemOf items parts (from + read)) (sym c.index.ensures) (c.requires.ahead read c.index.result.now inside))

pub returns-clause-value : goal.returns-clause-value
returns-clause-value g c =
    let items = c.args.items.now in
    let parts = c.args.parts.now in
    let (some, from, ahead) = c.in_ok-read.ensures in
    let is : c.args.place + 0 ≡ c.args.place = omega arith in
    subst (λ place. IsItemOf items parts place c.index-2.result.now) is
    (subst (IsItemOf items parts (c.args.place + 0)) (sym c.index-2.ensures) (ahead 0 c.index-2.result.now some))

pub returns-clause-ahead : goal.returns-clause-ahead
returns-clause-ahead g c =
    let (some, from, ahead) = c.in_ok-read.ensures in
    subst (λ place. AreReadAhead c.args.items.now c.args.parts.now place c.read.new.self.items.items) (sym from) ahead
