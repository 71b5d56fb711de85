use Rattle.overlay.proofs.call.overlay.Goals as goal

-- a status that grows has handles for any number
pub returns-clause-refused : goal.returns-clause-refused
returns-clause-refused g c = c.overlay_over.ensures.refused (λ count. tt)
