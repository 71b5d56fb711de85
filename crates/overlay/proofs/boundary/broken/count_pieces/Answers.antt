use Rattle.std.proofs.Common.{◌<◌, ◌-◌, ℕ, List, length, get_or, ap, rules, arith}
use Rattle.overlay.proofs.BoundaryLemmas.Broken.{first-pieces}
use Rattle.noding.proofs.ChainLemmas.Standing.{length-offsets}
use Rattle.overlay.proofs.boundary.broken.count_pieces.Goals as goal

pub bounds-ends-chains : goal.bounds-ends-chains
bounds-ends-chains c =
    let (lists, are, some, within) = c.requires in
    let test = c.if-chains-eq0.false in
    omega (arith, test, within, length-offsets 0 lists, ap (λ (ends : List ℕ). length ends) are)

pub offset_bounds-ends-chains : goal.offset_bounds-ends-chains
offset_bounds-ends-chains c =
    let (lists, are, some, within) = c.requires in
    let test = c.if-chains-eq0.false in
    let inside : c.args.chains - 1 < length c.args.ends.now = omega (arith, test, within, length-offsets 0 lists, ap (λ (ends : List ℕ). length ends) are) in
    search rules

pub overflow_sub-result-2 : goal.overflow_sub-result-2
overflow_sub-result-2 c =
    let (lists, are, some, within) = c.requires in
    let test = c.if-chains-eq0.false in
    let first = first-pieces lists c.args.chains 0 some within (omega (arith, test)) in
    omega (arith, first, ap (λ (ends : List ℕ). get_or ends (c.args.chains - 1) 0) are)

pub returns : goal.returns
returns c = λ lists are some within.
    let test = c.if-chains-eq0.false in
    let first = first-pieces lists c.args.chains 0 some within (omega (arith, test)) in
    omega (arith, first, ap (λ (ends : List ℕ). get_or ends (c.args.chains - 1) 0) are)
