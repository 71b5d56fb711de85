-- Why what grows or shrinks has no answer.
use Rattle.std.proofs.Common.{◌≡◌, ◌⊎◌, inl, inr, refl}
use Rattle.itree.specs.Answers.{fault_of}
use Rattle.itree.specs.declared.fault.Fault.{Fault}
use Rattle.itree.specs.declared.fault.Fault.TheVariants as faults
use Rattle.itree.specs.declared.fault.Unfit.{Unfit}
use Rattle.itree.specs.declared.fault.Unfit.TheVariants.{Shape, Range}
use Rattle.offset.specs.declared.fault.MinkowskiFault.{MinkowskiFault}
use Rattle.offset.specs.declared.fault.MinkowskiFault.TheVariants as minkowski_fault

-- a call's fault that is told as such a reason is that reason
pub unfit-of : (fault : MinkowskiFault) (why : Unfit) → fault_of fault ≡ faults.Unfit why → ((fault ≡ minkowski_fault.Shape) × (why ≡ Shape)) ⊎ ((fault ≡ minkowski_fault.Range) × (why ≡ Range))
unfit-of minkowski_fault.Lengths why told = let same : faults.Memory ≡ faults.Unfit why = told in cc
unfit-of minkowski_fault.Shape Shape told = inl (refl, refl)
unfit-of minkowski_fault.Shape Range told = let same : faults.Unfit Shape ≡ faults.Unfit Range = told in cc
unfit-of minkowski_fault.Range Shape told = let same : faults.Unfit Range ≡ faults.Unfit Shape = told in cc
unfit-of minkowski_fault.Range Range told = inr (refl, refl)
unfit-of minkowski_fault.OutOfMemory why told = let same : faults.Memory ≡ faults.Unfit why = told in cc

-- a call's fault is told as memory that was refused, or as such a reason
pub told-as : (fault : MinkowskiFault) (told : Fault) → told ≡ fault_of fault → (told ≡ faults.Memory) ⊎ ((why : Unfit) × (told ≡ faults.Unfit why))
told-as minkowski_fault.Lengths told is = inl is
told-as minkowski_fault.Shape told is = inr (Shape, is)
told-as minkowski_fault.Range told is = inr (Range, is)
told-as minkowski_fault.OutOfMemory told is = inl is
