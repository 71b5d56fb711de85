-- Where a descent of a tree of keys that expire ends. For the private contracts of `KeyExpTree`.
use Rattle.std.specs.Prelude.{◌≡◌, ℕ, Bool, true, All, length}
use Rattle.std.specs.declared.cmp.Ordering.{Ordering}
use Rattle.std.specs.declared.cmp.Ordering.TheVariants.{Greater}
use Rattle.i_tree.specs.Expiring.SearchPath.{path_by}
use Rattle.i_tree.specs.Rb.RbTree.{Contents}
use Rattle.i_tree.specs.Rb.Shape.{Shape, entries}
use Rattle.i_tree.specs.Rb.SearchPath.{AnswersAs, EndsBetween, FindsNotAbove}
use Rattle.i_tree.specs.Root.Ends.{FirstFinds}
use Rattle.i_tree.specs.declared.TheConstants.{EMPTY_REF}
use Rattle.i_tree.specs.declared.rb.place.Place.{Place}

-- `is_live` says which keys are live, and `MayAnswer` how a key may be called by what is sought.
module _ {K V : Type 0} (is_live : K → Bool) (MayAnswer : K → Ordering → Type 0) where
  -- the pair's key is live, and may be called so
  abbrev pub MayCall : K × V → Ordering → Type 0
  MayCall pair answer = (is_live pair.0 ≡ true) × MayAnswer pair.0 answer

  -- the handle of a live entry that was called Greater
  abbrev pub FindsAbove : ℕ × (K × V) → ℕ → Type 0
  FindsAbove entry found = MayCall entry.1 Greater × (found ≡ entry.0)

  -- A way has ended behind a live entry that wasn't called Greater, and before a live one that was: `last` and `next` are their
  -- handles, and `said` is what the first was called.
  abbrev pub DescendsBetween : Shape (K × V) → Place → ℕ → Ordering → ℕ → Type 0
  DescendsBetween tree place last said next =
      EndsBetween (FindsNotAbove MayCall) (λ back. FirstFinds FindsAbove EMPTY_REF back next) (EMPTY_REF, Greater) tree place (last, said)

  -- where a test says which keys pass, nothing has gone exactly where all pairs on the search path by the test are live
  pub record FollowsPath (old new : Contents (K × V)) : Type 0 where
    pub all_live : (passes : K → Bool) → AnswersAs MayAnswer passes → length (entries new.shape) ≡ length (entries old.shape) → All (λ pair. is_live pair.0 ≡ true) (path_by passes old.shape)
    pub none_gone : (passes : K → Bool) → AnswersAs MayAnswer passes → All (λ pair. is_live pair.0 ≡ true) (path_by passes old.shape) → new ≡ old
