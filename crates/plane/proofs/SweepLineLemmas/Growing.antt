-- Of a status that grows: which of the two has the pairs, that all are live when they go over, that each goes behind the others, and
-- what an insertion answers after the live ones have gone back.
use Rattle.std.proofs.Common.{◌≡◌, Bool, true, false, if◌then◌else◌, MatchBool, List, [], ◌∷◌, ◌++◌, All, Option, None, Some, IfSome, ℕ, ◌+◌, ◌<◌, length, drop, take, map, filter, refl, sym, ap, ◌∙◌, subst, arith, append_assoc, length-drop}
use Rattle.std.specs.declared.cmp.Ordering.{Ordering}
use Rattle.std.specs.declared.cmp.Ordering.TheVariants.{Less, Greater}
use Rattle.std.proofs.lemmas.List.Elements.{All-head, filter-append, filter_passes}
use Rattle.std.proofs.lemmas.List.{append-nil, drop-drop, take-append-drop}
use Rattle.i_tree.specs.Rb.Shape.{first_handle}
use Rattle.i_tree.specs.Root.Along.{IsMonotoneAlong}
use Rattle.i_tree.specs.Root.Answer.{AnswersBy}
use Rattle.i_tree.specs.Root.Change.{Joins, Without}
use Rattle.i_tree.specs.Status.Insertion.{IsNew, JoinsAlong, JoinsOrLeaves}
use Rattle.i_tree.proofs.RootLemmas.Joined.{All-behind, All-front}
use Rattle.i_tree.proofs.RootLemmas.Lists.{All-insert, Without-filter, filter_all}
use Rattle.i_tree.proofs.RootLemmas.Withouts.{All-without, Without-trans, filter-without}
use Rattle.plane.specs.SweepLine.Growing.{AreHeldByOne}

-- where nothing may go, nothing goes
pub Without-all : {X : Type 0} (p : X → Bool) {before after : List X} → Without (λ x. p x ≡ false) before after → All (λ x. p x ≡ true) before
    → after ≡ before
Without-all p {before} {after} kept all =
    sym (filter_all p after (All-without (λ x. p x ≡ true) kept all)) ∙ sym (filter-without p (λ x goes. goes) kept) ∙ filter_all p before all

-- which of the two has the pairs
pub held_by_one : {X : Type 0} (are_many : Bool) (few many pairs : List X)
    → AreHeldByOne are_many few many pairs → (if are_many then many else few) ≡ pairs
held_by_one true few many pairs gone = gone.1
held_by_one false few many pairs gone = gone.0

-- what passes has joined what has passed, or nothing has
pub passes_joined : {X : Type 0} (p : X → Bool) (x : X) (before after : List X) (is_new : Bool)
    → MatchBool is_new (Joins x (filter p before) after) (after ≡ filter p before) → p x ≡ true → All (λ y. p y ≡ true) after
passes_joined p x before after true (place, within, is) passes =
    rw is (All-insert (λ y. p y ≡ true) (filter p before) place x (filter_passes p before) passes)
passes_joined p x before after false is passes = rw is (filter_passes p before)

-- `is_live` says which keys are live, and `may_answer` how a key may be called: none but Less.
module _ {K V : Type 0} (is_live : K → Bool) (may_answer : K → Ordering → Type 0)
    (less : (key : K) (answer : Ordering) → may_answer key answer → answer ≡ Less)
    (pair : K × V) (before after : List (K × V)) (all_live : All (λ (other : K × V). is_live other.0 ≡ true) before) where
  says : (pairs : List (K × V)) → AnswersBy may_answer (λ _. Less) pairs
  says pairs = λ k d inside answer may. less _ answer may

  monotone : (pairs : List (K × V)) → IsMonotoneAlong (λ _. Less) pairs
  monotone pairs = λ i j d below within. omega arith

  -- behind it stands nothing live, and so nothing
  none_behind : (back : List (K × V)) → All (λ (other : K × V). is_live other.0 ≡ true) back
      → All (λ (other : K × V). Less ≡ Greater) (filter (λ (other : K × V). is_live other.0) back) → back ≡ []
  none_behind [] lives above = refl
  none_behind (other ∷ back) lives above =
      let all_above = rw (filter_all (λ (it : K × V). is_live it.0) (other ∷ back) lives) at above in
      let both : Less ≡ Greater = All-head (λ (it : K × V). Less ≡ Greater) other back all_above in
      absurd cc

  joined_last : JoinsAlong is_live may_answer pair before after → after ≡ before ++ pair ∷ []
  joined_last joins =
      let same = Without-all (λ (other : K × V). is_live other.0) joins.kept all_live in
      let lives = All-behind (λ (other : K × V). is_live other.0 ≡ true) joins.front joins.back (rw same all_live) in
      let between = joins.between (λ _. Less) (says _) (monotone _) in
      let empty = none_behind joins.back lives between.1 in
      let front : joins.front ≡ before = sym (append-nil joins.front) ∙ ap (λ back. joins.front ++ back) (sym empty) ∙ same in
      joins.place ∙ ap (λ back. joins.front ++ pair ∷ back) empty ∙ ap (λ xs. xs ++ pair ∷ []) front

  pub stands_last : (is_new : Bool) → IsNew may_answer is_new (filter (λ (other : K × V). is_live other.0) before)
      → JoinsOrLeaves is_live may_answer is_new pair before after → after ≡ before ++ pair ∷ []
  stands_last true cases joins = joined_last joins
  stands_last false cases leaves =
      let (k, other, inside, at, equal) = cases (λ _. Less) (says _) (monotone _) in
      absurd cc

-- ---- what an insertion answers, by a closure that calls another

-- where a pair joins by what the one may answer, it joins by what the other may
pub JoinsOrLeaves-as : {K V : Type 0} (may_answer may_too : K → Ordering → Type 0) → ((key : K) (answer : Ordering) → may_answer key answer → may_too key answer)
    → (is_live : K → Bool) (is_new : Bool) (pair : K × V) (before after : List (K × V))
    → JoinsOrLeaves is_live may_answer is_new pair before after → JoinsOrLeaves is_live may_too is_new pair before after
JoinsOrLeaves-as may_answer may_too more is_live true pair before after joins =
    record {
      front = joins.front;
      back = joins.back;
      kept = joins.kept;
      place = joins.place;
      between = λ order answers monotone. joins.between order (λ k d inside answer says. answers k d inside answer (more _ answer says)) monotone;
    }
JoinsOrLeaves-as may_answer may_too more is_live false pair before after leaves = leaves

pub IfSome-weaker : {X : Type 0} (told : Option X) (P Q : X → Type 0) → ((x : X) → P x → Q x) → IfSome told P → IfSome told Q
IfSome-weaker None P Q more tells = tells
IfSome-weaker (Some x) P Q more tells = more x tells

-- ---- the live pairs alone

pub filter-twice : {X : Type 0} (p : X → Bool) (xs : List X) → filter p (filter p xs) ≡ filter p xs
filter-twice p xs = filter_all p (filter p xs) (filter_passes p xs)

-- a pair that has joined the live ones has joined all
pub JoinsOrLeaves-live : {K V : Type 0} (is_live : K → Bool) (may_answer : K → Ordering → Type 0) (is_new : Bool) (pair : K × V) (before after : List (K × V))
    → JoinsOrLeaves is_live may_answer is_new pair (filter (λ other. is_live other.0) before) after → JoinsOrLeaves is_live may_answer is_new pair before after
JoinsOrLeaves-live {K} {V} is_live may_answer true pair before after joins =
    record {
      front = joins.front;
      back = joins.back;
      kept = Without-trans (Without-filter (λ (other : K × V). is_live other.0) before) joins.kept;
      place = joins.place;
      between = rw (filter-twice (λ (other : K × V). is_live other.0) before) at joins.between;
    }
JoinsOrLeaves-live {K} {V} is_live may_answer false pair before after leaves = Without-trans (Without-filter (λ (other : K × V). is_live other.0) before) leaves

-- ---- a walk over the entries of a tree

module _ {T : Type 0} where
  -- where a walk has come to a handle past so many entries, the entry with that handle is next
  pub record IsNextEntry (entries : List (ℕ × T)) (past handle : ℕ) : Type 0 where
    pub item : T
    pub rest : drop past entries ≡ (handle, item) ∷ drop (past + 1) entries
    pub cut : entries ≡ take past entries ++ (handle, item) ∷ drop (past + 1) entries

  pub next_entry : (entries : List (ℕ × T)) (past handle : ℕ) → past < length entries → handle ≡ first_handle (drop past entries) → IsNextEntry entries past handle
  next_entry entries past handle some is = by_rest (drop past entries) refl
    where
      by_rest : (part : List (ℕ × T)) → drop past entries ≡ part → IsNextEntry entries past handle
      by_rest [] at = absurd (omega (arith, some, ap length at, length-drop past entries))
      by_rest (entry ∷ back) at =
          let same : handle ≡ entry.0 = is ∙ ap first_handle at in
          let after : drop (past + 1) entries ≡ back = sym (drop-drop 1 past entries) ∙ ap (drop 1) at in
          let rest : drop past entries ≡ (handle, entry.1) ∷ drop (past + 1) entries =
          at ∙ ap (λ (number : ℕ). (number, entry.1) ∷ back) (sym same) ∙ ap (λ (others : List (ℕ × T)). (handle, entry.1) ∷ others) (sym after) in
          record {
            item = entry.1;
            rest = rest;
            cut = sym (take-append-drop past entries) ∙ ap (λ (part : List (ℕ × T)). take past entries ++ part) rest;
          }

  module _ (p : T → Bool) where
    -- the items that pass and are still to come stand behind those that have been kept
    abbrev pub AreKept : List (ℕ × T) → ℕ → List T → Type 0
    AreKept entries past kept = kept ++ filter p (map (λ entry. entry.1) (drop past entries)) ≡ filter p (map (λ entry. entry.1) entries)

    -- past so many entries the handle is that of the next one, and the items so far that pass have been kept
    pub record HasWalked (entries : List (ℕ × T)) (past handle : ℕ) (kept : List T) : Type 0 where
      pub next : handle ≡ first_handle (drop past entries)
      pub are_kept : AreKept entries past kept

    pub AreKept-pass : (entries : List (ℕ × T)) (past : ℕ) (kept : List T) → AreKept entries past kept → All (λ x. p x ≡ true) kept
    AreKept-pass entries past kept all = All-front (λ x. p x ≡ true) kept _ (subst (All (λ x. p x ≡ true)) (sym all) (filter_passes p (map (λ entry. entry.1) entries)))

    pub AreKept-more : (entries : List (ℕ × T)) (past handle : ℕ) (next : IsNextEntry entries past handle) (kept : List T)
        → AreKept entries past kept → AreKept entries (past + 1) (kept ++ filter p (next.item ∷ []))
    AreKept-more entries past handle next kept all =
        let others = map (λ (entry : ℕ × T). entry.1) (drop (past + 1) entries) in
        append_assoc kept (filter p (next.item ∷ [])) (filter p others)
        ∙ ap (λ xs. kept ++ xs) (sym (filter-append p (next.item ∷ []) others))
        ∙ ap (λ (part : List (ℕ × T)). kept ++ filter p (map (λ entry. entry.1) part)) (sym next.rest) ∙ all
