-- Widened rings, ring by ring.
use Rattle.std.proofs.Common.{◌≡◌, ℕ, ◌+◌, ◌<◌, List, [], ◌∷◌, ◌++◌, append_assoc, get_or, length, take, sym, ap, ap₂, ◌∙◌, subst, arith}
use Rattle.std.specs.List.{AllZip}
use Rattle.std.proofs.lemmas.List.{flat_map_more, length-append, take_more}
use Rattle.plane.specs.declared.point.Point.{Point}
use Rattle.noding.specs.Offsets.{offsets}
use Rattle.monotone_chains.specs.Stretches.{IsWidened}
use Rattle.noding.proofs.ChainLemmas.Offsets.{joined}
use Rattle.noding.proofs.ChainLemmas.Runs.{offsets-more}
use Rattle.noding.proofs.ChainLemmas.Zips.{AllZip-more}

-- These are the rings before this place, widened and appended, and where each stops.
pub record AreWidened (stretches rings : List (List Point)) (upto : ℕ) (old points : List Point) (old_ends ends : List ℕ) : Type 0 where
  pub widened : List (List Point)
  pub each : AllZip (IsWidened stretches) (take upto rings) widened
  pub points_are : points ≡ old ++ joined widened
  pub ends_are : ends ≡ old_ends ++ offsets (length old) widened

-- one more
pub AreWidened-more : (stretches rings : List (List Point)) (k : ℕ) (old points points' wide : List Point) (old_ends ends ends' : List ℕ) → k < length rings → AreWidened stretches rings k old points old_ends ends
    → IsWidened stretches (get_or rings k []) wide → points' ≡ points ++ wide → ends' ≡ ends ++ length points' ∷ [] → AreWidened stretches rings (k + 1) old points' old_ends ends'
AreWidened-more stretches rings k old points points' wide old_ends ends ends' within are is now now_ends =
    let told : points' ≡ (old ++ joined are.widened) ++ wide = now ∙ ap (λ (list : List Point). list ++ wide) are.points_are in
    let long = ap (λ (list : List Point). length list) told in
    let sum = length-append (old ++ joined are.widened) wide in
    let inner = length-append old (joined are.widened) in
    let size : length points' ≡ (length old + length (joined are.widened)) + length wide = omega (arith, long, sum, inner) in record {
      widened = are.widened ++ wide ∷ [];
      each = subst (λ (some : List (List Point)). AllZip (IsWidened stretches) some (are.widened ++ wide ∷ [])) (sym (take_more rings k [] within))
          (AllZip-more (IsWidened stretches) (take k rings) are.widened (get_or rings k []) wide are.each is);
      points_are = told ∙ flat_map_more (λ (list : List Point). list) old are.widened wide;
      ends_are = now_ends ∙ ap₂ (λ (list : List ℕ) (n : ℕ). list ++ n ∷ []) are.ends_are size
          ∙ append_assoc old_ends (offsets (length old) are.widened) _
          ∙ ap (λ (list : List ℕ). old_ends ++ list) (sym (offsets-more (length old) are.widened wide));
    }
