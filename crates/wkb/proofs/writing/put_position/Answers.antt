use Rattle.wkb.specs.Spelling.{eight, place}
use Rattle.wkb.proofs.Pieces.{two_steps}
use Rattle.wkb.proofs.writing.put_position.Goals as goal

pub returns : goal.returns
unfolding place
returns g c = two_steps c.args.bytes.now.items (eight c.args.position.x) (eight c.args.position.y) c.put_double.new.bytes.items c.put_double-2.new.bytes.items c.in_ok-put_double.ensures c.in_ok-put_double-2.ensures
