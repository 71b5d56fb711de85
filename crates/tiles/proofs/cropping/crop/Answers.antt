use Rattle.std.proofs.Common.{[], append-nil, subst, sym}
use Rattle.tiles.specs.Window.{LiesBeyond}
use Rattle.tiles.specs.declared.window.Window.{Window}
use Rattle.tiles.proofs.Beyond.{beyond-cropped}
use Rattle.tiles.proofs.cropping.crop.Goals as goal

pub returns-then-lies_beyond-clause-ok : goal.returns-then-lies_beyond-clause-ok
returns-then-lies_beyond-clause-ok g c =
    let (wide, can) = c.in_ok-wide.ensures.ok in
    (can, ([], beyond-cropped c.args.window c.args.ring.now (subst (λ (window : Window). LiesBeyond window c.args.ring.now) wide c.if-lies_beyond.ensures), sym (append-nil _)))

pub returns-clause-gone : goal.returns-clause-gone
returns-clause-gone g c = λ beyond.
    let (wide, can) = c.in_ok-wide.ensures.ok in
    absurd (c.if-lies_beyond.ensures (subst (λ (window : Window). LiesBeyond window c.args.ring.now) (sym wide) beyond))
