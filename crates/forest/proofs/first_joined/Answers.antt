use Rattle.std.proofs.Common.{◌≡◌, ◌<◌, ℕ, length, subst, refl, arith}
use Rattle.forest.specs.Circles.{PartsAmong}
use Rattle.forest.proofs.Joining.{HasJoined-none}
use Rattle.forest.proofs.first_joined.Goals as goal

pub loop-place-init : goal.loop-place-init
loop-place-init c = (refl, c.requires.trees, HasJoined-none c.args.edges.now c.args.parents.now c.requires.alone)

pub returns : goal.returns
returns c =
    let (size, trees, has) = c.loop-place.invariant in
    let past = c.loop-place-test.false in
    let auto = c.loop-place.auto.place-end in
    subst (λ (n : ℕ). (k : ℕ) → k < n → PartsAmong c.args.edges.now n k) (let same : c.loop-place.place ≡ length c.args.edges.now = omega (arith, past, auto) in same) has.parts
