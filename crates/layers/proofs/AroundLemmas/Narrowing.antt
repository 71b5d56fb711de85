-- Chains that are kept in the place of those before a place.
use Rattle.std.proofs.Common.{ℕ, ◌+◌, ◌<◌, ◌≤◌, List, [], ◌∷◌, ◌++◌, length, get_or, take, sym, subst, ap, arith}
use Rattle.std.specs.List.{All}
use Rattle.std.proofs.lemmas.List.{get_or_default, take_more}
use Rattle.std.proofs.lemmas.List.Elements.{All-weaker}
use Rattle.layers.specs.Chains.{AreInOrder, AreSameIn, AreUpto}
use Rattle.layers.specs.declared.around.chains.Chain.{Chain}
use Rattle.layers.specs.declared.around.extents.Extent.{Extent}
use Rattle.layers.proofs.AroundLemmas.Narrow.{AreSameIn-push, AreSameIn-trans}

-- They do for those, and are of no shape behind those of the chains from there on.
abbrev pub AreKept : Extent → List Chain → ℕ → List Chain → Type 0
AreKept extent chains place kept =
    AreSameIn extent kept (take place chains) × AreInOrder kept × ((j : ℕ) (d : Chain) → place ≤ j → j < length chains → All (λ chain. chain.shape ≤ (get_or chains j d).shape) kept)

pub AreKept-more : (extent : Extent) (chains kept after : List Chain) (place : ℕ) (d : Chain) → AreInOrder chains → place < length chains → AreKept extent chains place kept
    → AreSameIn extent after (kept ++ get_or chains place d ∷ []) → AreUpto (get_or chains place d).shape after → AreKept extent chains (place + 1) after
AreKept-more extent chains kept after place d order within (same, _, _) now all = (
  subst (λ (some : List Chain). AreSameIn extent after some) (sym (take_more chains place d within))
      (AreSameIn-trans extent after (kept ++ get_or chains place d ∷ []) (take place chains ++ get_or chains place d ∷ []) now
      (AreSameIn-push extent kept (take place chains) (get_or chains place d) same)),
  all.order,
  λ j e from inside. (
      let later = order.sorted place j d (omega (arith, from)) inside in
      let is = ap (λ (c : Chain). c.shape) (get_or_default chains j d e inside) in
      All-weaker (λ (c : Chain). c.shape ≤ (get_or chains place d).shape) (λ (c : Chain). c.shape ≤ (get_or chains j e).shape) (λ c low. omega (arith, low, later, is)) after all.upto
      ),
)
