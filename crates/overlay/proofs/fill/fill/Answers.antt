use Rattle.std.proofs.Common.{arith}
use Rattle.std.proofs.lemmas.Bool.Decides.{nat_tests}
use Rattle.overlay.proofs.PieceLemmas.Made.{AreSloped-both, turned-few, unjoined-turned}
use Rattle.overlay.proofs.fill.fill.Goals as goal

pub fill_pieces-requires : goal.fill_pieces-requires
fill_pieces-requires g c = (
  c.args.subject.now,
  c.args.clip.now,
  unjoined-turned c.args.subject.now c.args.clip.now c.in_ok-pieces.pieces.items c.requires.closed c.requires.clip_closed c.requires.noded c.in_ok-pieces.ensures.turned c.in_ok-pieces.ensures.countable,
  λ all. AreSloped-both c.args.subject.now c.args.clip.now c.in_ok-pieces.pieces.items c.in_ok-pieces.ensures.turned (let size = c.len.ensures in grind (arith, nat_tests, all, size)),
)

pub returns-clause-ok : goal.returns-clause-ok
returns-clause-ok g c = c.fill_pieces.ensures.ok c.args.subject.now c.args.clip.now
    (unjoined-turned c.args.subject.now c.args.clip.now c.in_ok-pieces.pieces.items c.requires.closed c.requires.clip_closed c.requires.noded c.in_ok-pieces.ensures.turned c.in_ok-pieces.ensures.countable)

pub returns-clause-refused : goal.returns-clause-refused
returns-clause-refused g c = λ room. c.fill_pieces.ensures.refused (let few = turned-few c.args.subject.now c.args.clip.now c.in_ok-pieces.pieces.items c.in_ok-pieces.ensures.turned in omega (arith, few, room))

pub returns-clause-handles : goal.returns-clause-handles
returns-clause-handles g c = λ handles. c.fill_pieces.ensures.handles (λ count upto. handles count (let few = turned-few c.args.subject.now c.args.clip.now c.in_ok-pieces.pieces.items c.in_ok-pieces.ensures.turned in omega (arith, few, upto)))
