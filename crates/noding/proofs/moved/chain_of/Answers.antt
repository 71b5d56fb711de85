use Rattle.std.proofs.Common.{◌≡◌, ◌∷◌, ℕ, get_or, ap, ◌∙◌}
use Rattle.noding.specs.Offsets.{between}
use Rattle.noding.proofs.ChainLemmas.Moving.{begins-first, begins-later, chain-within}
use Rattle.noding.proofs.moved.chain_of.Goals as goal
use Rattle.noding.proofs.moved.chain_of.Goals.{then-place-eq0, else-place-eq0}

pub chain_at-requires : goal.chain_at-requires
chain_at-requires c =
    let (chains, joined) = c.requires.joined in
    let begins : c.if-place-eq0.start ≡ get_or (0 ∷ c.args.ends.now) c.args.place 0 = elim c.if-place-eq0.branch [
      | then-place-eq0 w ↦ begins-first c.args.ends.now c.args.place c.if-place-eq0.start w.if-place-eq0.true w.start-is
      | else-place-eq0 w ↦ begins-later c.args.ends.now c.args.place c.if-place-eq0.start w.if-place-eq0.false w.start-is
    ] in
    chain-within chains c.args.points.now c.args.ends.now c.args.place c.if-place-eq0.start joined c.requires.within begins

pub returns : goal.returns
returns c =
    let begins : c.if-place-eq0.start ≡ get_or (0 ∷ c.args.ends.now) c.args.place 0 = elim c.if-place-eq0.branch [
      | then-place-eq0 w ↦ begins-first c.args.ends.now c.args.place c.if-place-eq0.start w.if-place-eq0.true w.start-is
      | else-place-eq0 w ↦ begins-later c.args.ends.now c.args.place c.if-place-eq0.start w.if-place-eq0.false w.start-is
    ] in
    c.chain_at.ensures ∙ ap (λ (start : ℕ). between start (get_or c.args.ends.now c.args.place 0) c.args.points.now) begins
