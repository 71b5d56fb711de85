-- Points that aren't all points of 32 bits.
use Rattle.std.proofs.Common.{◌≡◌, ◌<◌, ℕ, List, get_or, length, map, subst, sym}
use Rattle.std.specs.List.{All}
use Rattle.std.proofs.lemmas.List.{get_or_default}
use Rattle.std.proofs.lemmas.List.Elements.{All-contains}
use Rattle.plane.specs.declared.point.Point.{Point}
use Rattle.plane.proofs.PairsLemmas.Bags.{Contains-map}
use Rattle.offset.specs.declared.fault.MinkowskiFault.{MinkowskiFault}
use Rattle.offset.specs.declared.fault.MinkowskiFault.TheVariants.{Range}
use Rattle.offset.specs.Faults.{IsPointFault}
use Rattle.offset.specs.Raw.{IsPointIn32Bits}

-- One of the points that are made of others isn't one.
pub point-fails : (make : Point → Point) (points : List Point) (index : ℕ) (d : Point) (fault : MinkowskiFault) → index < length points → (fault ≡ Range) × (¬ (IsPointIn32Bits (make (get_or points index d)))) → IsPointFault (map make points) fault
point-fails make points index d fault inside (is, outside) =
    subst (IsPointFault (map make points)) (sym is)
    (λ (all : All IsPointIn32Bits (map make points)). outside (All-contains IsPointIn32Bits (map make points) (make (get_or points index d)) all
    (Contains-map make points (get_or points index d) (index, inside, get_or_default points index (get_or points index d) d inside))))
