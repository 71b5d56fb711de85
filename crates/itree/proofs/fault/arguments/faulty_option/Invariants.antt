use Rattle.std.proofs.Common.{◌-◌, length}
use Rattle.itree.proofs.fault.arguments.faulty_option.Given as goal

-- how many words are left
abbrev pub decreases-options : goal.decreases-options
decreases-options l = length l.words - l.place
