-- What the calls over many shapes tell by a status.
use Rattle.std.proofs.Common.{◌≡◌, ℕ, List, [], ◌++◌, Result, Err, length, ap, ◌∙◌}
use Rattle.std.specs.Prelude.{◌↔◌}
use Rattle.noding.proofs.Callers.{length-offsets}
use Rattle.layers.specs.declared.fault.LayerFault.{LayerFault}
use Rattle.layers.specs.declared.fault.LayerFault.TheVariants.{Lengths, NoShape}
use Rattle.noding.specs.Offsets.{offsets}

-- there is one end for each list
pub length-appended : {X : Type 0} (lists : List (List X)) (before after : List ℕ) (start : ℕ) → before ≡ [] → after ≡ before ++ offsets start lists → length after ≡ length lists
length-appended lists before after start none is = ap (λ (ends : List ℕ). length ends) (is ∙ ap (λ (ends : List ℕ). ends ++ offsets start lists) none) ∙ length-offsets start lists

-- a call that tells neither fault was given what is right
pub not-wrong : {X : Type 0} (result : Result X LayerFault) (Ends Places : Type 0) → (result ≡ Err Lengths) ↔ ¬ Ends → (result ≡ Err NoShape) ↔ (Ends × ¬ Places) → ¬ (result ≡ Err Lengths) → ¬ (result ≡ Err NoShape) → ¬ (¬ (Ends × Places))
not-wrong result Ends Places lengths no_shape ended named wrong = ended (lengths.1 (λ ends. named (no_shape.1 (ends, λ places. wrong (ends, places)))))
