use Rattle.std.proofs.Common.{◌≡◌, ℕ, length, sym, subst, arith}
use Rattle.std.proofs.lemmas.List.{get_or_default}
use Rattle.monotone_chains.specs.Stretches.Widening.{HasLong}
use Rattle.monotone_chains.proofs.StretchLemmas.LongOnes.{HasLong-more, HasLong-none}
use Rattle.monotone_chains.proofs.stretches.widening.push_long.Goals as goal

pub loop-place-init : goal.loop-place-init
loop-place-init g c = subst (HasLong c.args.parts.now 0) (sym c.requires.none) (HasLong-none c.args.parts.now)

pub loop-place-preserved : goal.loop-place-preserved
loop-place-preserved g c =
    HasLong-more c.args.parts.now c.loop-place.place c.loop-place.table.items _ c.loop-place-test.true (get_or_default c.args.parts.now c.loop-place.place _ _ c.loop-place-test.true) c.loop-place.invariant
    c.push_if_long.new.table.items c.in_ok-push_if_long.ensures.long c.in_ok-push_if_long.ensures.short

pub returns : goal.returns
returns g c =
    let past = c.loop-place-test.false in
    let upto = c.loop-place.auto.place-end in
    let all : c.loop-place.place ≡ length c.args.parts.now = omega (arith, past, upto) in
    subst (λ (n : ℕ). HasLong c.args.parts.now n c.loop-place.table.items) all c.loop-place.invariant
