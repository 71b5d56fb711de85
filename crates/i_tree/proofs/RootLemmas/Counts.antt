-- Lemmas on counts of rotations, over the law of a counter.
use Rattle.std.proofs.Common.{ℕ, ◌+◌, ◌≤◌, Bool, MatchBool, refl, arith}
use Rattle.i_tree.specs.Rb.Removal.{RemovesOne}
use Rattle.i_tree.specs.Root.Steps.{Counts, nothing, one_removal, one_rotation, together, Accumulates, OnlyRotates}

module _ {S : Type 0} {Made : S → S → Counts → Type 0} (law : Accumulates Made) where
  -- where the state is the old one, nothing was rotated
  pub OnlyRotates-none : (state : S) (most : ℕ) → OnlyRotates Made state state most
  OnlyRotates-none state most =
      record { made = nothing; counted = law.none state; comparisons = refl; tests = refl; removals = refl; rotations = omega arith }

  -- the rotations of one subtree and then of the other
  pub OnlyRotates-both : {old mid new : S} {few more : ℕ} (most : ℕ) → few + more ≤ most → OnlyRotates Made old mid few → OnlyRotates Made mid new more → OnlyRotates Made old new most
  OnlyRotates-both {old} {mid} {new} most enough first second =
      record {
        made = together first.made second.made;
        counted = law.both old mid new first.made second.made first.counted second.counted;
        comparisons = omega (arith, first.comparisons, second.comparisons);
        tests = omega (arith, first.tests, second.tests);
        removals = omega (arith, first.removals, second.removals);
        rotations = omega (arith, enough, first.rotations, second.rotations);
      }

  -- the removal itself, then the rebalancing
  pub RemovesOne-rebalanced : {old mid new : S} (most : ℕ) → Made old mid one_removal → OnlyRotates Made mid new most → RemovesOne Made old new most
  RemovesOne-rebalanced {old} {mid} {new} most removed rebalanced =
      record {
        made = together one_removal rebalanced.made;
        counted = law.both old mid new one_removal rebalanced.made removed rebalanced.counted;
        comparisons = omega (arith, rebalanced.comparisons);
        tests = omega (arith, rebalanced.tests);
        removals = omega (arith, rebalanced.removals);
        rotations = omega (arith, rebalanced.rotations);
      }

module _ {S : Type 0} {Made : S → S → Counts → Type 0} {old new : S} where
  -- one rotation alone
  pub OnlyRotates-one : Made old new one_rotation → OnlyRotates Made old new 1
  OnlyRotates-one once =
      record { made = one_rotation; counted = once; comparisons = refl; tests = refl; removals = refl; rotations = omega arith }

  -- fewer where the answer is false
  pub OnlyRotates-either : (most : ℕ) (ended : Bool) → MatchBool ended (OnlyRotates Made old new most) (OnlyRotates Made old new 0) → OnlyRotates Made old new most
  OnlyRotates-either most ended rotations = grind arith
