-- A pair that joins a tree at the place that a descent has come to.
use Rattle.std.proofs.Common.{◌≡◌, ◌≢◌, ℕ, ◌+◌, ◌-◌, ◌<◌, ◌≤◌, zero, suc, Bool, true, false, is_some, Option, None, Some, Result, Ok, Err, List, [], ◌∷◌, ◌++◌, length, refl, sym, ap, ◌∙◌, subst, inl, inr, arith, append_assoc, length-append}
use Rattle.std.specs.Option.{IfSome}
use Rattle.std.specs.Result.{IfOk, IsOk, OnErr}
use Rattle.std.specs.declared.cmp.Ordering.{Ordering}
use Rattle.std.specs.declared.cmp.Ordering.TheVariants.{Less, Equal, Greater}
use Rattle.std.proofs.lemmas.Bool.{false≢true}
use Rattle.i_tree.proofs.ExpiringLemmas.List.{none_spare}
use Rattle.i_tree.proofs.ExpiringLemmas.Search.{ReadsAt}
use Rattle.i_tree.proofs.ExpiringLemmas.SearchPath.{length-items}
use Rattle.i_tree.proofs.RbLemmas.SearchPath.Entries.{values-append}
use Rattle.i_tree.proofs.RbLemmas.SearchPath.Search.{less_left}
use Rattle.i_tree.proofs.RbLemmas.Shape.Contexts.{occurs_among, occurs_among-append, occurs_among-entries}
use Rattle.i_tree.proofs.RootLemmas.Joined.{Any-behind, Any-here}
use Rattle.i_tree.specs.Root.Causes.{RefusedFor}
use Rattle.i_tree.specs.Root.Ends.{EndsIn, FirstFinds, LastFinds, StartsIn}
use Rattle.i_tree.specs.Expiring.Descent.{DescendsBetween, FindsAbove, MayCall}
use Rattle.i_tree.specs.Expiring.Insertion.{AreFoundAt, CallsEqual, HoldNeighbours, IsBetween, IsFoundAt, TellsNeighbours, has_joined}
use Rattle.i_tree.specs.Expiring.Tree.{items, slots_for, TreeDescends}
use Rattle.i_tree.specs.Rb.RbTree.{Contents, slots, slots_grown, slots_with_room}
use Rattle.i_tree.specs.Rb.SearchPath.{FindsNotAbove}
use Rattle.i_tree.specs.Rb.Shape.{Shape, entries, occurs, IsHandle}
use Rattle.i_tree.specs.Root.Steps.{Counts}
use Rattle.i_tree.specs.Set.Pairs.{values}
use Rattle.i_tree.specs.declared.Refusal.{Refusal}
use Rattle.i_tree.specs.declared.Refusal.TheVariants.{OutOfMemory}
use Rattle.i_tree.specs.declared.expiring.insertion.Beside.{Beside}
use Rattle.i_tree.specs.declared.TheConstants.{EMPTY_REF}
use Rattle.i_tree.specs.declared.rb.place.Place.{Place}

-- what holds of what an insertion tells, by whether it tells something, holds of whether its pair has joined
module _ {N : Type 0} where
  pub IfOk-joined : (told : Result (Option N) Refusal) (P : Bool → Type 0) → IfOk told (λ neighbours. P (is_some neighbours)) → IfOk (has_joined told) P
  IfOk-joined (Ok neighbours) P holds = holds
  IfOk-joined (Err cause) P holds = tt

  pub IsOk-joined : (told : Result (Option N) Refusal) → IsOk told → IsOk (has_joined told)
  IsOk-joined (Ok neighbours) ok = ok
  IsOk-joined (Err cause) ok = ok

  pub OnErr-joined : (told : Result (Option N) Refusal) (P : Type 0) → OnErr told P → OnErr (has_joined told) P
  OnErr-joined (Ok neighbours) P holds = tt
  OnErr-joined (Err cause) P holds = holds

  pub RefusedFor-joined : (told : Result (Option N) Refusal) (wanted : Refusal) → RefusedFor wanted (has_joined told) → RefusedFor wanted told
  RefusedFor-joined (Ok neighbours) wanted refused = tt
  RefusedFor-joined (Err cause) wanted refused = refused

-- what a descent has come to
module _ {K V : Type 0} (is_live : K → Bool) (May : K → Ordering → Type 0) (tree : Shape (K × V)) (place : Place) (last : ℕ) (said : Ordering) (next : ℕ)
    (end : DescendsBetween is_live May tree place last said next) where
  pub items_cut : items tree ≡ values end.front ++ values end.back
  items_cut = ap values end.between.cut ∙ values-append end.front end.back

  -- the key that was called Equal
  pub calls_equal : said ≡ Equal → CallsEqual is_live May (items tree)
  calls_equal equal = by_last end.before
    where
      by_last : LastFinds (FindsNotAbove (MayCall is_live May)) (EMPTY_REF, Greater) end.front (last, said) → CallsEqual is_live May (items tree)
      by_last (inl (none, is)) = let greater : said ≡ Greater = ap (λ (at : ℕ × Ordering). at.1) is in absurd (cc (greater, equal))
      by_last (inr (rest, entry, cut, (is, may, passes))) =
          let Called : K × V → Type 0 = λ pair. MayCall is_live May pair Equal in
          let whole = end.between.cut ∙ ap (λ list. list ++ end.back) cut ∙ append_assoc rest (entry ∷ []) end.back in
          rw (ap values whole ∙ values-append rest (entry ∷ end.back))
          (Any-behind Called (values rest) (entry.1 ∷ values end.back) (Any-here Called entry.1 (values end.back) (subst (MayCall is_live May entry.1) equal may)))

  -- where none was called Equal
  pub place_between : said ≢ Equal → IsBetween is_live May (values end.front) (values end.back)
  place_between differs = record { last = by_last end.before; first = by_first end.back end.after }
    where
      by_last : LastFinds (FindsNotAbove (MayCall is_live May)) (EMPTY_REF, Greater) end.front (last, said) → EndsIn (λ pair. MayCall is_live May pair Less) (values end.front)
      by_last (inl (none, is)) = inl (ap values none)
      by_last (inr (rest, entry, cut, (is, may, passes))) =
          inr (values rest, entry.1, ap values cut ∙ values-append rest (entry ∷ []), subst (MayCall is_live May entry.1) (less_left said passes differs) may)

      by_first : (back : List (ℕ × (K × V))) → FirstFinds (FindsAbove is_live May) EMPTY_REF back next → StartsIn (λ pair. MayCall is_live May pair Greater) (values back)
      by_first [] is = tt
      by_first (entry ∷ rest) (called, is) = called

-- a pair that joins between two lists
pub one_more : {X : Type 0} (before after front : List X) (x : X) (back : List X) → before ≡ front ++ back → after ≡ front ++ x ∷ back → length after ≡ length before + 1
one_more before after front x back is joined = omega (arith, ap length joined, ap length is, length-append front (x ∷ back), length-append front back)

-- what stood in a list stands there still where another has joined
still_there : {X : Type 0} (front back : List X) (x : X) (before : List X) (y : X) (after : List X) → front ++ back ≡ before ++ y ∷ after
    → (before_then : List X) × (after_then : List X) × (front ++ x ∷ back ≡ before_then ++ y ∷ after_then)
still_there [] back x before y after is = (x ∷ before, after, ap (λ list. x ∷ list) is)
still_there (z ∷ front) back x [] y after is =
    let first : z ≡ y = cc in
    ([], front ++ x ∷ back, ap (λ one. one ∷ front ++ x ∷ back) first)
still_there (z ∷ front) back x (w ∷ before) y after is =
    let first : z ≡ w = cc in
    let rest : front ++ back ≡ before ++ y ∷ after = cc in
    let (before_then, after_then, same) = still_there front back x before y after rest in
    (w ∷ before_then, after_then, ap (λ one. one ∷ front ++ x ∷ back) first ∙ ap (λ list. w ∷ list) same)

-- the handles of a tree, and what stands at them, are those of the tree that an entry has joined
module _ {T : Type 0} (mid new : Shape T) (front : List (ℕ × T)) (entry : ℕ × T) (back : List (ℕ × T)) (cut : entries mid ≡ front ++ back) (joined : entries new ≡ front ++ entry ∷ back) where
  pub handle_still : (handle : ℕ) → IsHandle mid handle → IsHandle new handle
  handle_still handle live =
      omega (
        arith,
        live,
        occurs_among-entries handle mid,
        occurs_among-entries handle new,
        ap (occurs_among handle) cut,
        ap (occurs_among handle) joined,
        occurs_among-append handle front back,
        occurs_among-append handle front (entry ∷ back),
      )

  pub reads_still : occurs EMPTY_REF mid ≡ 0 → (handle : ℕ) (found : Option T) → IsFoundAt new handle found → ReadsAt (λ item. Some item) None mid handle found
  reads_still empty handle found at =
      record {
        none_empty = empty;
        none = at.none;
        some = λ differs before item after is.
            let (before_then, after_then, same) = still_there front back entry before (handle, item) after (sym cut ∙ is) in
            at.some differs before_then item after_then (joined ∙ same);
      }

-- what is read at handles that hold the neighbours tells them
module _ {K V : Type 0} (May : K → Ordering → Type 0) (pairs : List (K × V)) (tree : Shape (K × V)) where
  pub pairs_told : (told : Option Beside) (found : Option (Option (K × V) × Option (K × V))) → is_some found ≡ is_some told → IfSome told (λ beside. HoldNeighbours May pairs tree beside.last beside.next)
      → IfSome told (λ beside. IfSome found (AreFoundAt tree beside.last beside.next)) → TellsNeighbours May pairs found
  pairs_told told None same hold at = tt
  pairs_told (Some beside) (Some found) same hold at = hold found at
  pairs_told None (Some found) same hold at = absurd (cc)

-- how many slots there are after a pair has joined
pub slots_joined : {T : Type 0} (first mid last : Contents T) → slots mid ≡ slots first → slots last ≡ slots_with_room mid → length (entries last.shape) ≡ length (entries mid.shape) + 1 → slots last ≡ slots_for first (length (items last.shape))
slots_joined first mid last same grown more = grind (arith, length-items)

-- a descent after which no slot is free has removed nothing
pub none_removed : {S T : Type 0} {Made : S → S → Counts → Type 0} (first mid : Contents T) (old new : S) → slots mid ≡ slots first → (0 < mid.spare → false ≡ true) → TreeDescends Made old new first mid false
    → (mid.spare ≡ 0) × (length (entries mid.shape) ≡ length (entries first.shape))
none_removed first mid old new same spare way = grind (arith, none_spare, length-items)

-- there is no less room where there are as many slots as before, or so many as a pair that joined asked for
module _ {T : Type 0} (old new : Contents T) where
  abbrev room_in : Contents T → ℕ
  room_in contents = length (items contents.shape) + contents.spare

  in_slots : (contents : Contents T) → slots contents ≡ room_in contents + 1
  in_slots contents = omega (arith, length-items contents.shape)

  pub room_same : slots new ≡ slots old → room_in old ≤ room_in new
  room_same same = omega (arith, same, in_slots old, in_slots new)

  pub room_grown : slots new ≡ slots_for old (length (items new.shape)) → room_in old ≤ room_in new
  room_grown grown = by_left (slots old - length (items new.shape)) refl grown
    where
      by_left : (left : ℕ) → slots old - length (items new.shape) ≡ left → slots new ≡ slots_grown left (slots old) → room_in old ≤ room_in new
      by_left zero is more = omega (arith, is, more, in_slots old, in_slots new)
      by_left (suc n) is more = omega (arith, more, in_slots old, in_slots new)

  -- Where there are handles for one pair more, an insertion that succeeds where a slot is free is refused for want of memory alone.
  pub refused_memory : {A : Type 0} (result : Result A Refusal) → (0 < old.spare → IsOk result) → (slots old ≢ EMPTY_REF → RefusedFor OutOfMemory result) → length (items old.shape) + 1 < EMPTY_REF
      → RefusedFor OutOfMemory result
  refused_memory (Ok _) with_spare refused few = tt
  refused_memory (Err cause) with_spare refused few = refused (λ full. absurd (false≢true (with_spare (omega (arith, few, full, in_slots old)))))
