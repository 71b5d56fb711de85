-- Facts on lists without some items that may go.
use Rattle.std.proofs.Common.{◌≡◌, false, Bool, List, [], ◌∷◌, ◌++◌, refl, ap, if◌then◌else◌}
use Rattle.std.specs.List.{All, AllPairs, filter}
use Rattle.std.proofs.lemmas.List.Elements.{All-cons, All-head, All-tail}
use Rattle.std.proofs.lemmas.List.Kept.{AllPairs-cons}
use Rattle.i_tree.proofs.RootLemmas.Lists.{AllPairs-head, AllPairs-tail}
use Rattle.i_tree.specs.Root.Change.{Without}
use Rattle.i_tree.specs.Root.Change.Without.{none, keeps, loses}
use Rattle.i_tree.specs.Root.Pairs.{IsRising}
use Rattle.std.specs.declared.cmp.Ordering.{Ordering}
use Rattle.std.specs.declared.cmp.Ordering.TheVariants.{Less}

module _ {X : Type 0} {MayGo : X → Type 0} where
  pub Without-refl : (xs : List X) → Without MayGo xs xs
  Without-refl [] = none
  Without-refl (x ∷ xs) = keeps x (Without-refl xs)

  pub Without-trans : {first second third : List X} → Without MayGo first second → Without MayGo second third → Without MayGo first third
  Without-trans none rest = rest
  Without-trans (keeps x more) (keeps y rest) = keeps x (Without-trans more rest)
  Without-trans (keeps x more) (loses y goes rest) = loses x goes (Without-trans more rest)
  Without-trans (loses x goes more) rest = loses x goes (Without-trans more rest)

  pub Without-middle : (front : List X) (x : X) (back : List X) → MayGo x → Without MayGo (front ++ x ∷ back) (front ++ back)
  Without-middle [] x back goes = loses x goes (Without-refl back)
  Without-middle (y ∷ front) x back goes = keeps y (Without-middle front x back goes)

  -- a filter that lets none through of what may go
  pub filter-without : (p : X → Bool) → ((x : X) → MayGo x → p x ≡ false) → {before after : List X} → Without MayGo before after → filter p before ≡ filter p after
  filter-without p fails none = refl
  filter-without p fails (keeps x rest) = ap (λ ys. if p x then x ∷ ys else ys) (filter-without p fails rest)
  filter-without p fails (loses x goes rest) = rw (fails x goes) (filter-without p fails rest)

  pub All-without : (P : X → Type 0) {before after : List X} → Without MayGo before after → All P before → All P after
  All-without P none all = all
  All-without P (keeps {before = before} {after = after} x rest) all =
      All-cons P x after (All-head P x before all) (All-without P rest (All-tail P x before all))
  All-without P (loses {before = before} x goes rest) all = All-without P rest (All-tail P x before all)

  pub AllPairs-without : (R : X → X → Type 0) {before after : List X} → Without MayGo before after → AllPairs R before → AllPairs R after
  AllPairs-without R none pairs = pairs
  AllPairs-without R (keeps {before = before} {after = after} x rest) pairs =
      AllPairs-cons R x after (All-without (R x) rest (AllPairs-head R x before pairs)) (AllPairs-without R rest (AllPairs-tail R x before pairs))
  AllPairs-without R (loses {before = before} x goes rest) pairs = AllPairs-without R rest (AllPairs-tail R x before pairs)

-- keys that rise still do where some are gone
pub IsRising-without : {K V : Type 0} (cmp : K → K → Ordering) {MayGo : K × V → Type 0} {before after : List (K × V)} → Without MayGo before after → IsRising cmp before → IsRising cmp after
IsRising-without cmp kept rising = AllPairs-without (λ earlier later. cmp earlier.0 later.0 ≡ Less) kept rising
