use Rattle.std.proofs.lemmas.Option.{slice_get-get_or}
use Rattle.itree.proofs.fault.tell.argument_at.Goals as goal

pub returns : goal.returns
returns c = slice_get-get_or c.args.words.now c.args.place _ c.requires
