-- Faults of calls.
use Rattle.std.specs.Prelude.{ℕ, List, codes}
use Rattle.i_tree.specs.Root.Causes.{refusal_text}
use Rattle.layers.specs.declared.fault.LayerFault.{LayerFault}
use Rattle.layers.specs.declared.fault.LayerFault.TheVariants.{Refused, Lengths, NoShape}

-- what a fault prints
abbrev pub fault_text : LayerFault → List ℕ
fault_text (Refused cause) = refusal_text cause
fault_text Lengths = codes "a ring, a shape, a line or a group stops where it can't"
fault_text NoShape = codes "a group names a shape that there isn't"
