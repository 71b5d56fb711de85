-- What chunks hold at a later time, and after a walk.
use Rattle.std.proofs.Common.{arith, ◌≡◌, ℕ, ◌+◌, ◌≤◌, Bool, true, false, cond, Option, Some, List, [], ◌∷◌, map, refl, ap, sym, ◌∙◌, subst, IsPermutation}
use Rattle.std.specs.Cmp.{IsTotalOrder}
use Rattle.std.specs.List.{filter}
use Rattle.std.specs.declared.cmp.Ordering.{Ordering}
use Rattle.std.proofs.lemmas.Bool.{cond-true, cond-false, false≢true}
use Rattle.std.proofs.lemmas.List.Elements.{All-filter}
use Rattle.std.proofs.lemmas.List.Sorted.{IsPermutation-trans}
use Rattle.i_tree.specs.Seg.Copies.{chunk_at, copies_at, copy_of, is_at, live_copies, Holds}
use Rattle.i_tree.specs.Seg.Members.{Member, is_live_yet, live_members, NotBefore}
use Rattle.i_tree.specs.Root.Live.{is_live}
use Rattle.i_tree.specs.Seg.Walk.{SameLive}
use Rattle.i_tree.proofs.RootLemmas.Orders.{gt-reversed, at_or_after-reversed, not_after-reversed}
use Rattle.i_tree.proofs.SegLemmas.Bags.{IsPermutation-filter}

module _ {X : Type 0} (p q : X → Bool) where
  -- one of two tests doesn't change what both let through, where whatever passes the other passes it
  filter-implied : ((x : X) → p x ≡ true → q x ≡ true) → (xs : List X) → filter p (filter q xs) ≡ filter p xs
  filter-implied implies [] = refl
  filter-implied implies (x ∷ xs) = told (p x) refl (q x) refl (filter-implied implies xs)
    where
      told : (first : Bool) → p x ≡ first → (second : Bool) → q x ≡ second → filter p (filter q xs) ≡ filter p xs → filter p (cond (q x) (x ∷ filter q xs) (filter q xs)) ≡ cond (p x) (x ∷ filter p xs) (filter p xs)
      told first is true kept rest =
          ap (filter p) (cond-true (q x) (x ∷ filter q xs) (filter q xs) kept) ∙ ap (λ (others : List X). cond (p x) (x ∷ others) others) rest
      told true is false gone rest = absurd (false≢true (sym gone ∙ implies x is))
      told false is false gone rest =
          ap (filter p) (cond-false (q x) (x ∷ filter q xs) (filter q xs) gone) ∙ rest ∙ sym (cond-false (p x) (x ∷ filter p xs) (filter p xs) is)

  -- two tests in either order
  filter-exchanged : (xs : List X) → filter p (filter q xs) ≡ filter q (filter p xs)
  filter-exchanged [] = refl
  filter-exchanged (x ∷ xs) = told (p x) refl (q x) refl (filter-exchanged xs)
    where
      told : (first : Bool) → p x ≡ first → (second : Bool) → q x ≡ second → filter p (filter q xs) ≡ filter q (filter p xs) → filter p (cond second (x ∷ filter q xs) (filter q xs)) ≡ filter q (cond first (x ∷ filter p xs) (filter p xs))
      told true is true also rest =
          cond-true (p x) (x ∷ filter p (filter q xs)) (filter p (filter q xs)) is ∙ ap (λ (others : List X). x ∷ others) rest ∙ sym (cond-true (q x) (x ∷ filter q (filter p xs)) (filter q (filter p xs)) also)
      told true is false also rest = rest ∙ sym (cond-false (q x) (x ∷ filter q (filter p xs)) (filter q (filter p xs)) also)
      told false is true also rest = cond-false (p x) (x ∷ filter p (filter q xs)) (filter p (filter q xs)) is ∙ rest
      told false is false also rest = rest

-- a test of what a function gives
module _ {X Y : Type 0} (test : Y → Bool) (f : X → Y) where
  filter-of_map : (xs : List X) → filter test (map f xs) ≡ map f (filter (λ x. test (f x)) xs)
  filter-of_map [] = refl
  filter-of_map (x ∷ xs) = told (test (f x)) (filter-of_map xs)
    where
      told : (passes : Bool) → filter test (map f xs) ≡ map f (filter (λ x. test (f x)) xs) → cond passes (f x ∷ filter test (map f xs)) (filter test (map f xs)) ≡ map f (cond passes (x ∷ filter (λ x. test (f x)) xs) (filter (λ x. test (f x)) xs))
      told true rest = ap (λ (others : List Y). f x ∷ others) rest
      told false rest = rest

module _ {E V : Type 0} {cmp : E → E → Ordering} (o : IsTotalOrder cmp) (expiration : V → E) where
  -- what is live at a time is live at each earlier one
  pub live-before : (latest : Option E) (time : E) → NotBefore cmp latest time → (value : V) → is_live expiration cmp time value ≡ true → is_live_yet expiration cmp latest value ≡ true
  live-before latest time later value live = grind (arith, not_after-reversed, gt-reversed, at_or_after-reversed, live)

  -- chunks hold at a later time those of the members that are live then
  pub Holds-later : (latest : Option E) (time : E) (count : ℕ) (chunks : List (List (ℕ × V))) (members : List (Member V)) → NotBefore cmp latest time
      → Holds expiration cmp latest count chunks members → Holds expiration cmp (Some time) count chunks (live_members expiration cmp time members)
  Holds-later latest time count chunks members later holds =
      record {
        chunk_for_each = holds.chunk_for_each;
        copies = λ node.
            subst (λ (before : List (ℕ × V)). IsPermutation before (live_copies expiration cmp (Some time) (chunk_at node chunks))) (of_live node)
            (subst (λ (after : List (ℕ × V)). IsPermutation (filter live (copies_at node members)) after) (filter-implied live (λ copy. is_live_yet expiration cmp latest copy.1) (λ copy. live-before latest time later copy.1) (chunk_at node chunks))
            (IsPermutation-filter live (copies_at node members) (live_copies expiration cmp latest (chunk_at node chunks)) (holds.copies node)));
        order = All-filter (λ member. is_live expiration cmp time member.value) (λ member. member.interval.first ≤ member.interval.last) members holds.order;
        within = All-filter (λ member. is_live expiration cmp time member.value) (λ member. 32 + member.interval.last ≤ count) members holds.within;
      }
    where
      live : ℕ × V → Bool
      live copy = is_live expiration cmp time copy.1

      of_live : (node : ℕ) → filter live (copies_at node members) ≡ copies_at node (live_members expiration cmp time members)
      of_live node =
          filter-of_map live copy_of (filter (is_at node) members)
          ∙ ap (map copy_of) (filter-exchanged (λ member. is_live expiration cmp time member.value) (is_at node) members)

-- a walk at the latest time keeps what chunks hold
pub Holds-walked : {E V : Type 0} (expiration : V → E) (cmp : E → E → Ordering) (latest : Option E) (time : E) (count : ℕ) (before after : List (List (ℕ × V))) (members : List (Member V)) → latest ≡ Some time
    → Holds expiration cmp latest count before members → SameLive expiration cmp time before after → Holds expiration cmp latest count after members
Holds-walked {E = E} {V = V} expiration cmp latest time count before after members at held same =
    subst (λ (now : Option E). Holds expiration cmp now count after members) (sym at)
    (walked (subst (λ (now : Option E). Holds expiration cmp now count before members) at held))
  where
    walked : Holds expiration cmp (Some time) count before members → Holds expiration cmp (Some time) count after members
    walked holds =
        record {
          chunk_for_each = same.count ∙ holds.chunk_for_each;
          copies = λ node. IsPermutation-trans _ _ _ (holds.copies node) (same.live node);
          order = holds.order;
          within = holds.within;
        }
