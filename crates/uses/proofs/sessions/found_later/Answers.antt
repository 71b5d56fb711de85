-- What was signed in is kept, and so it is found.
use Rattle.uses.proofs.sessions.found_later.Goals as goal

pub returns : goal.returns
returns g c is_new upto = c.name_of.ensures c.args.session.until c.args.name (c.in_ok-is_new.ensures is_new) upto
