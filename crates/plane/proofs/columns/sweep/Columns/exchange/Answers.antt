use Rattle.std.proofs.Common.{◌≡◌, ℕ, [], ◌∷◌, ◌++◌, rules, SFits, w64, sym, subst}
use Rattle.std.proofs.lemmas.Int.{to_z-of_z}
use Rattle.std.proofs.lemmas.Result.{on_ok_weaker}
use Rattle.plane.specs.Columns.Status.{Line}
use Rattle.plane.specs.Columns.Sweep.{IsSwept}
use Rattle.plane.specs.Pairs.Sweep.{pair_of}
use Rattle.plane.proofs.ColumnLemmas.SweepExchange.{IsSwept-stale, IsSwept-exchanged, GoesOn-exchanged, can_look_under, can_look_over}
use Rattle.plane.proofs.ColumnLemmas.Comparing.{ExchangesComparing-none, ExchangesComparing-one}
use Rattle.plane.proofs.columns.sweep.Columns.exchange.Goals as goal

pub returns-in_default-clause-swept : goal.returns-in_default-clause-swept
returns-in_default-clause-swept g c edges done swept =
    let is = c.in_default.ensures.exchanged in
    subst (λ (status : Line). IsSwept edges done c.args.exchange.moment status c.args.self.now.exchanges c.args.self.now.crossed.items) (sym is.0)
    (IsSwept-stale edges done c.args.self.now.status c.args.exchange c.args.self.now.exchanges c.args.self.now.crossed.items swept is.1)

pub look-requires : goal.look-requires
look-requires g c =
    let fits : SFits w64 c.args.exchange.moment = search rules in
    let (edges, done, swept) = c.requires in
    simp to_z-of_z
    (can_look_under edges done c.args.self.now.status c.args.exchange c.args.self.now.exchanges c.args.self.now.crossed.items swept c.exchange.new.self c.in-Some.around c.in-Some.ensures.exchanged)

pub look-requires-2 : goal.look-requires-2
look-requires-2 g c =
    let fits : SFits w64 c.args.exchange.moment = search rules in
    let (edges, done, swept) = c.requires in
    simp to_z-of_z
    (can_look_over edges done c.args.self.now.status c.args.exchange c.args.self.now.exchanges c.args.self.now.crossed.items swept c.exchange.new.self c.in-Some.around c.in-Some.ensures.exchanged)

pub returns-clause-swept : goal.returns-clause-swept
returns-clause-swept g c =
    let fits : SFits w64 c.args.exchange.moment = search rules in
    let told = c.args.self.now.crossed.items in
    let pair : (c.min.result, c.max.result) ≡ pair_of c.args.exchange.below c.args.exchange.above = cc (c.min.ensures, c.max.ensures) in
    let told_now : c.look-2.new.self.crossed.items ≡ told ++ pair_of c.args.exchange.below c.args.exchange.above ∷ [] =
    cc (c.look-2.ensures.crossed, c.in_ok-look.ensures.crossed, c.in_ok-push.ensures.items, pair) in
    let status : c.look-2.new.self.status ≡ c.exchange.new.self = cc (c.look-2.ensures.status, c.in_ok-look.ensures.status) in
    let looks = simp to_z-of_z at c.in_ok-look.ensures.looks in
    on_ok_weaker c.look-2.result
    (λ looks_too edges done swept.
    rw (status, told_now)
    (IsSwept-exchanged edges done c.args.self.now.status c.args.exchange c.args.self.now.exchanges told swept c.exchange.new.self c.in-Some.around c.in-Some.ensures.exchanged
    c.look.new.self.exchanges c.look-2.new.self.exchanges looks looks_too c.in-Some.ensures.places))
    (simp to_z-of_z at c.look-2.ensures.looks)

pub returns-clause-goes_on : goal.returns-clause-goes_on
returns-clause-goes_on g c =
    let fits : SFits w64 c.args.exchange.moment = search rules in
    let told = c.args.self.now.crossed.items in
    let pair : (c.min.result, c.max.result) ≡ pair_of c.args.exchange.below c.args.exchange.above = cc (c.min.ensures, c.max.ensures) in
    let told_now : c.look-2.new.self.crossed.items ≡ told ++ pair_of c.args.exchange.below c.args.exchange.above ∷ [] =
    cc (c.look-2.ensures.crossed, c.in_ok-look.ensures.crossed, c.in_ok-push.ensures.items, pair) in
    let looks = simp to_z-of_z at c.in_ok-look.ensures.looks in
    let (edges, done, swept) = c.requires in
    on_ok_weaker c.look-2.result
    (λ looks_too.
    rw told_now
    (GoesOn-exchanged edges done c.args.self.now.status c.args.exchange c.args.self.now.exchanges told swept c.exchange.new.self c.in-Some.around c.in-Some.ensures.exchanged
    c.look.new.self.exchanges c.look-2.new.self.exchanges looks looks_too))
    (simp to_z-of_z at c.look-2.ensures.looks)

pub returns-in_default-clause-steps : goal.returns-in_default-clause-steps
returns-in_default-clause-steps g c = ExchangesComparing-none g.met.C.Counter.law c.args.steps.now c.args.self.now.crossed.items

pub returns-clause-steps : goal.returns-clause-steps
returns-clause-steps g c =
    let told = c.args.self.now.crossed.items in
    let pair : ℕ × ℕ = (c.min.result, c.max.result) in
    let told_now : c.look-2.new.self.crossed.items ≡ told ++ pair ∷ [] = cc (c.look-2.ensures.crossed, c.in_ok-look.ensures.crossed, c.in_ok-push.ensures.items) in
    on_ok_weaker c.look-2.result
    (λ looks. ExchangesComparing-one g.met.C.Counter.law c.args.steps.now c.look.new.steps c.look-2.new.steps told c.look-2.new.self.crossed.items pair told_now c.look.ensures.steps c.look-2.ensures.steps)
    c.look-2.ensures.looks
