-- What each command of a counted run counts, and what all of them do together.
use Rattle.std.proofs.Common.{◌≡◌, ◌≢◌, ◌⊎◌, ⊎_elim, inl, inr, ℕ, zero, suc, ◌+◌, ◌-◌, ◌*◌, ◌<◌, ◌≤◌, List, [], ◌∷◌, length, refl, ap, subst, arith}
use Rattle.std.proofs.Math.Nat.{mul-suc}
use Rattle.std.proofs.lemmas.List.{length-map}
use Rattle.std.proofs.lemmas.List.Elements.{All-head, All-tail}
use Rattle.i_tree.specs.Root.Descent.{Descends}
use Rattle.i_tree.specs.Expiring.Tree.{items, slots_for}
use Rattle.i_tree.specs.Rb.RbTree.{Contents, slots, slots_grown}
use Rattle.i_tree.specs.Rb.Shape.{entries}
use Rattle.i_tree.specs.Root.Steps.{Counts, Adds, nothing, together}
use Rattle.i_tree.specs.declared.Refusal.{Refusal}
use Rattle.runs.specs.Counted.{CountsOne, CountsRun}
use Rattle.runs.specs.KeyReplies.{IsReplyTo, RepliesTo}
use Rattle.runs.specs.KeyRoom.{one_if_inserted, KeepsRoom}
use Rattle.runs.specs.Effects.{DoesAll}
use Rattle.runs.specs.declared.keys.KeyCommand.{KeyCommand}
use Rattle.runs.specs.declared.keys.KeyCommand.TheVariants.{Insert, Less, LessOrEqualBy, Clear}
use Rattle.runs.specs.declared.keys.KeyReply.{KeyReply}
use Rattle.runs.specs.declared.keys.KeyReply.TheVariants.{Inserted, Present, Late, Refused, Value, Cleared}

-- slots that grew, or not, are no fewer, where they hold what is stored
slots_no_fewer : (left count stored spare : ℕ) → left ≡ count - stored → stored + spare + 1 ≡ slots_grown left count → count ≤ stored + spare + 1
slots_no_fewer zero count stored spare is grown = omega (arith, is)
slots_no_fewer (suc left) count stored spare is grown = omega (arith, grown)

is_cleared : {V : Type 0} (reply : KeyReply V) → (reply ≡ Cleared) ⊎ (reply ≢ Cleared)
is_cleared Cleared = inl refl
is_cleared Inserted = inr (λ is. absurd (cc (is)))
is_cleared Present = inr (λ is. absurd (cc (is)))
is_cleared Late = inr (λ is. absurd (cc (is)))
is_cleared (Refused cause) = inr (λ is. absurd (cc (is)))
is_cleared (Value value) = inr (λ is. absurd (cc (is)))

module _ {K V : Type 0} where
  pub counts_clear : (steps : Counts) (tree tree' : Contents (K × V)) → length (items tree'.shape) ≡ 0 → slots tree' ≡ slots tree → CountsOne Cleared steps tree steps tree'
  counts_clear steps tree tree' empty same =
      record {
        made = nothing;
        adds = record { comparisons = omega arith; tests = omega arith; removals = omega arith; rotations = omega arith };
        compares = λ levels small. omega arith;
        rotations = omega arith;
        stores = λ other. absurd (other refl);
        clears = λ _. (empty, refl);
        slots_stay = omega (arith, same);
        refused = λ cause is. absurd (cc (is));
      }

  -- an insertion that finds the key new, or present, or is refused
  module _ (old new : Counts) (tree tree' : Contents (K × V)) where
    pub counts_inserted : Descends Adds old new (length (items tree.shape)) (length (items tree'.shape)) 1 → slots tree' ≡ slots_for tree (length (items tree'.shape)) → CountsOne Inserted old tree new tree'
    counts_inserted way grown =
        let of_items = length-map (entries tree'.shape) (λ (entry : ℕ × (K × V)). entry.1) in
        record {
          made = way.made;
          adds = way.counted;
          compares = way.compares;
          rotations = omega (arith, way.rotations);
          stores = λ _. omega (arith, way.stores);
          clears = λ is. absurd (cc (is));
          slots_stay = let no_fewer = slots_no_fewer (slots tree - length (items tree'.shape)) (slots tree) (length (items tree'.shape)) tree'.spare refl (omega (arith, grown, of_items)) in omega (arith, no_fewer, of_items);
          refused = λ cause is. absurd (cc (is));
        }

    pub counts_present : Descends Adds old new (length (items tree.shape)) (length (items tree'.shape)) 0 → slots tree' ≡ slots tree → CountsOne Present old tree new tree'
    counts_present way same =
        record {
          made = way.made;
          adds = way.counted;
          compares = way.compares;
          rotations = omega (arith, way.rotations);
          stores = λ _. omega (arith, way.stores);
          clears = λ is. absurd (cc (is));
          slots_stay = omega (arith, same);
          refused = λ cause is. absurd (cc (is));
        }

    pub counts_refused : (cause : Refusal) → Descends Adds old new (length (items tree.shape)) (length (items tree'.shape)) 0 → tree' ≡ tree → (0 < tree.spare → ⊥) → CountsOne (Refused cause) old tree new tree'
    counts_refused cause way same full =
        record {
          made = way.made;
          adds = way.counted;
          compares = way.compares;
          rotations = omega (arith, way.rotations);
          stores = λ _. omega (arith, way.stores);
          clears = λ is. absurd (cc (is));
          slots_stay = omega (arith, ap slots same);
          refused = λ _ _. by_spare tree.spare full;
        }
      where
        by_spare : (spare : ℕ) → (0 < spare → ⊥) → spare ≡ 0
        by_spare zero full = refl
        by_spare (suc spare) full = absurd (full (omega arith))

  no_more_stored : (reply : KeyReply V) (old : Counts) (tree : Contents (K × V)) (new : Counts) (tree' : Contents (K × V)) → CountsOne reply old tree new tree' → length (items tree'.shape) ≤ length (items tree.shape) + one_if_inserted reply
  no_more_stored reply old tree new tree' one = ⊎_elim (λ is. omega (arith, (one.clears is).0)) (λ other. omega (arith, one.stores other)) (is_cleared reply)

  -- the room is for all slots but the reserved one
  pub counted_room : (reply : KeyReply V) (old : Counts) (tree : Contents (K × V)) (new : Counts) (tree' : Contents (K × V)) → CountsOne reply old tree new tree'
      → KeepsRoom reply (length (items tree.shape) + tree.spare) (length (items tree.shape)) (length (items tree'.shape) + tree'.spare) (length (items tree'.shape))
  counted_room reply old tree new tree' one =
      let of_items = length-map (entries tree.shape) (λ (entry : ℕ × (K × V)). entry.1) in
      let of_items' = length-map (entries tree'.shape) (λ (entry : ℕ × (K × V)). entry.1) in
      record {
        no_less = omega (arith, one.slots_stay, of_items, of_items');
        stores = no_more_stored reply old tree new tree' one;
        refused = λ cause is. let full = one.refused cause is in omega (arith, full);
      }

  -- `Cleared` is the reply to `Clear` alone
  cleared_by_clear : {P E : Type 0} (command : KeyCommand K E V P) (reply : KeyReply V) → IsReplyTo command reply → reply ≡ Cleared → command ≡ Clear
  cleared_by_clear Clear reply each is = refl
  cleared_by_clear {P} {E} (Insert key val time) reply each is = absurd (subst (λ (r : KeyReply V). IsReplyTo {K = K} {E = E} {V = V} {P = P} (Insert key val time) r) is each)
  cleared_by_clear {P} {E} (Less time default key) reply each is = absurd (subst (λ (r : KeyReply V). IsReplyTo {K = K} {E = E} {V = V} {P = P} (Less time default key) r) is each)
  cleared_by_clear {P} {E} (LessOrEqualBy time default probe) reply each is = absurd (subst (λ (r : KeyReply V). IsReplyTo {K = K} {E = E} {V = V} {P = P} (LessOrEqualBy time default probe) r) is each)

  -- All commands of a run.
  module _ {P E : Type 0} where
    pub counts_run : (commands : List (KeyCommand K E V P)) (replies : List (KeyReply V)) (old : Counts) (tree : Contents (K × V)) (new : Counts) (tree' : Contents (K × V)) → RepliesTo commands replies
        → DoesAll CountsOne replies old tree new tree' → CountsRun commands replies old new (length (items tree.shape)) (length (items tree'.shape))
    counts_run [] [] old tree new tree' each done =
        let stored = ap (λ (contents : Contents (K × V)). length (items contents.shape)) done.1 in
        record {
          made = nothing;
          adds = record { comparisons = omega (arith, ap (λ (counts : Counts). counts.comparisons) done.0); tests = omega (arith, ap (λ (counts : Counts). counts.tests) done.0); removals = omega (arith, ap (λ (counts : Counts). counts.removals) done.0); rotations = omega (arith, ap (λ (counts : Counts). counts.rotations) done.0) };
          rotations = omega (arith, stored);
          removes = omega (arith, stored);
          removes_all = λ _. omega (arith, stored);
          compares = λ levels small. omega arith;
        }
    counts_run [] (reply ∷ replies) old tree new tree' each done = absurd each
    counts_run (command ∷ commands) [] old tree new tree' each done = absurd each
    counts_run (command ∷ commands) (reply ∷ replies) old tree new tree' each (mid, tree-mid, one, rest) =
        let more = counts_run commands replies mid tree-mid new tree' each.1 rest in
        let no_more = no_more_stored reply old tree mid tree-mid one in
        record {
          made = together one.made more.made;
          adds = record {
            comparisons = omega (arith, one.adds.comparisons, more.adds.comparisons);
            tests = omega (arith, one.adds.tests, more.adds.tests);
            removals = omega (arith, one.adds.removals, more.adds.removals);
            rotations = omega (arith, one.adds.rotations, more.adds.rotations);
          };
          rotations = ⊎_elim (λ is. omega (arith, one.rotations, more.rotations, (one.clears is).0, (one.clears is).1)) (λ other. omega (arith, one.rotations, more.rotations, one.stores other)) (is_cleared reply);
          removes = ⊎_elim (λ is. omega (arith, more.removes, (one.clears is).0, (one.clears is).1)) (λ other. omega (arith, more.removes, one.stores other)) (is_cleared reply);
          removes_all = λ none.
              let other = one.stores (λ is. All-head (λ (c : KeyCommand K E V P). c ≢ Clear) command commands none (cleared_by_clear command reply each.0 is)) in
              let rest_all = more.removes_all (All-tail (λ (c : KeyCommand K E V P). c ≢ Clear) command commands none) in
              omega (arith, other, rest_all);
          compares = λ levels small.
              let here = one.compares levels (omega (arith, small)) in
              let later = more.compares levels (omega (arith, small, no_more)) in
              omega (arith, here, later, mul-suc (2 * levels) (length commands));
        }
