use Rattle.std.proofs.Common.{◌≡◌, ◌≤◌, ◌<◌, ◌∙◌, ℕ, Bool, List, get_or, length, pos, subst, sym, arith}
use Rattle.std.proofs.lemmas.Grind.{get_or_default_zero}
use Rattle.std.proofs.lemmas.List.Elements.{Contains-get_or}
use Rattle.std.proofs.lemmas.Option.{slice_get_within}
use Rattle.plane.specs.declared.edge.Edge.{Edge}
use Rattle.plane.specs.declared.point.Point.{Point}
use Rattle.plane.specs.Gains.{GainsThese, IsOfSome}
use Rattle.noding.specs.Moving.{AreSpread, IsMovedAt, chain_of}
use Rattle.noding.proofs.ChainLemmas.Spreading.{AreMoved-found, found-first, found-next, lent-back, same_count}
use Rattle.noding.proofs.ChainLemmas.Visits.{visits-within}
use Rattle.noding.proofs.moved.flag_passed.Goals as goal

pub loop-next-init : goal.loop-next-init
loop-next-init g c =
    let (chains, are, joined) = c.requires.chains in
    let edges = c.args.edges.now in
    let visits = c.args.visits.now in
    let order = c.move_at_all.new.moved.order.items in
    let told = c.in_ok-move_at_all.ensures in
    let spread_size = told.spread.size in
    let made = c.in_ok-spread.ensures.len in
    let size : length c.move_at_all.new.spread ≡ c.in_ok-spread.spread.len = omega (arith, spread_size, made) in (
      told.size ∙ c.requires.found.size,
      subst (λ (flags : List Bool). AreSpread visits flags order) (sym (lent-back c.in_ok-spread.spread.len c.move_at_all.new.spread c.in_ok-spread.spread.items size)) told.spread,
      told.flagged,
      found-first edges c.args.passed.now c.args.passed_ends.now c.args.crossed.now visits c.args.moved.now.flags.items chains are joined c.requires.first c.requires.visits c.args.moved.now.order.items order c.requires.found told.gains,
    )

pub chain_of-chain-requires-clause-within : goal.chain_of-chain-requires-clause-within
chain_of-chain-requires-clause-within g c =
    let (chains, are, joined) = c.requires.chains in
    let edges = c.args.edges.now in
    let order = c.loop-next.moved.order.items in
    let next = c.loop-next.next in
    let test = c.loop-next-test.true in
    let long = c.len.ensures in
    let within : next < length order = omega (arith, test, long) in
    let is : c.index.result.now ≡ get_or order next 0 = c.index.ensures ∙ get_or_default_zero order next c.index.result.now within in
    let own = c.loop-next.invariant.3.sound (get_or order next 0) (Contains-get_or order next 0 within) in
    let inside = slice_get_within edges (get_or order next 0) own.edge own.stands in
    let count = same_count edges c.args.passed.now c.args.passed_ends.now c.args.crossed.now c.args.visits.now c.args.moved.now.flags.items chains are joined c.requires.first c.requires.visits in
    omega (arith, is, inside, count)

pub move_at_all-requires-in-loop-next-clause-within : goal.move_at_all-requires-in-loop-next-clause-within
move_at_all-requires-in-loop-next-clause-within g c =
    let size = c.loop-next.invariant.0 in
    λ k d within. let inside = visits-within c.args.edges.now c.args.visits.now c.requires.visits.of k d within in omega (arith, inside, size)

pub loop-next-preserved : goal.loop-next-preserved
loop-next-preserved g c =
    let (chains, are, joined) = c.requires.chains in
    let edges = c.args.edges.now in
    let visits = c.args.visits.now in
    let points = c.args.passed.now in
    let ends = c.args.passed_ends.now in
    let order = c.loop-next.moved.order.items in
    let after = c.move_at_all-in-loop-next.new.moved.order.items in
    let next = c.loop-next.next in
    let test = c.loop-next-test.true in
    let long = c.len.ensures in
    let within : next < length order = omega (arith, test, long) in
    let is : c.index.result.now ≡ get_or order next 0 = c.index.ensures ∙ get_or_default_zero order next c.index.result.now within in
    let told = c.in_ok-move_at_all-2.ensures in
    let spread_size = told.spread.size in
    let before_size = c.loop-next.invariant.1.size in
    let made = c.loop-next.spread.ok.0 in
    let size : length c.move_at_all-in-loop-next.new.spread ≡ c.loop-next.spread.len = omega (arith, spread_size, before_size, made) in
    let Gained : List Point → Type 0 = λ chain. GainsThese (IsOfSome (IsMovedAt visits) chain) order after in (
      told.size ∙ c.loop-next.invariant.0,
      subst (λ (flags : List Bool). AreSpread visits flags after) (sym (lent-back c.loop-next.spread.len c.move_at_all-in-loop-next.new.spread c.loop-next.spread.items size)) told.spread,
      told.flagged,
      found-next edges points ends c.args.crossed.now visits c.args.moved.now.flags.items chains are joined c.requires.first c.requires.visits order after next c.loop-next.invariant.3 within told.more
          (subst (λ (place : ℕ). Gained (chain_of place points ends)) is (subst Gained c.chain_of-chain.ensures told.gains)),
    )

pub returns : goal.returns
returns g c =
    let (chains, are, joined) = c.requires.chains in
    let none : Edge = record { x0 = pos 0; y0 = pos 0; x1 = pos 0; y1 = pos 0 } in
    let order = c.loop-next.moved.order.items in
    let next = c.loop-next.next in
    let test = c.loop-next-test.false in
    let long = c.len.ensures in
    let all : length order ≤ next = omega (arith, test, long) in
    AreMoved-found c.args.edges.now c.args.passed.now c.args.passed_ends.now c.args.crossed.now c.args.visits.now c.args.moved.now.flags.items chains are joined c.requires.first c.requires.visits order next c.loop-next.invariant.3 all none c.loop-next.moved.flags.items
    c.loop-next.invariant.0 c.loop-next.invariant.2
