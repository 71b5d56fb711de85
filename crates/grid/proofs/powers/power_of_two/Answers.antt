use Rattle.grid.proofs.PowersLemmas.{powers_of_two-at}
use Rattle.grid.proofs.powers.power_of_two.Goals as goal

pub returns : goal.returns
returns c = powers_of_two-at c.args.exponent c.requires
