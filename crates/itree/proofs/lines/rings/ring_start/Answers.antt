use Rattle.std.proofs.Common.{◌≡◌, ◌<◌, ◌-◌, ℕ, suc, List, length, get_or, take, ap, ◌∙◌, arith}
use Rattle.noding.proofs.Callers.{joined, length-offsets, offset-at}
use Rattle.itree.proofs.lines.rings.ring_start.Goals as goal

pub returns : goal.returns
returns c = λ rings are.
    let place = c.args.place in
    let some = c.if-place-eq0.false in
    let inside : place - 1 < length rings = omega (arith, c.requires, some, ap length are, length-offsets 0 rings) in
    let next : suc (place - 1) ≡ place = omega (arith, some) in
    let told = offset-at 0 rings (place - 1) 0 inside in
    ap (λ (all : List ℕ). get_or all (place - 1) 0) are ∙ omega (arith, told) ∙ ap (λ (n : ℕ). length (joined (take n rings))) next
