-- Faults of calls.
use Rattle.std.specs.Prelude.{ℕ, List, codes}
use Rattle.i_tree.specs.Root.Causes.{refusal_text}
use Rattle.overlay.specs.declared.fault.OverlayFault.{OverlayFault}
use Rattle.overlay.specs.declared.fault.OverlayFault.TheVariants.{Refused, Lengths}

-- what a fault prints
abbrev pub fault_text : OverlayFault → List ℕ
fault_text (Refused cause) = refusal_text cause
fault_text Lengths = codes "a ring stops before it begins, or behind the points"
