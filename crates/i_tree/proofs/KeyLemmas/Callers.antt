-- What a caller of keys that expire wants of its clauses, in a caller's words: what was inserted is found while it lives.
use Rattle.std.proofs.Common.{◌≡◌, ℕ, zero, suc, ◌≢◌, Bool, true, false, inl, inr, refl, List, [], ◌∷◌, take, drop, sym, ◌∙◌, ap, subst, arith}
use Rattle.std.specs.Bool.{MatchBool}
use Rattle.std.specs.Cmp.{IsTotalOrder, alike_right}
use Rattle.std.specs.List.{Contains, insert}
use Rattle.std.specs.Ordering.{ordering_reverse}
use Rattle.std.specs.declared.cmp.Ordering.{Ordering}
use Rattle.std.specs.declared.cmp.Ordering.TheVariants.{Less, Equal}
use Rattle.std.proofs.lemmas.Bool.{both_ways}
use Rattle.std.proofs.lemmas.List.Elements.{All-contains}
use Rattle.std.proofs.lemmas.List.Kept.{AllPairs-filter}
use Rattle.i_tree.specs.Expiring.Live.{live_pairs, IsExpired}
use Rattle.i_tree.specs.Root.Answer.{AtMost, AtMostBy}
use Rattle.i_tree.specs.Root.Change.{Gains, Without}
use Rattle.i_tree.specs.Root.Change.Without.{none, keeps, loses}
use Rattle.i_tree.specs.Root.Live.{is_live}
use Rattle.i_tree.specs.Root.Pairs.{HasKey, IsRising, NoKey}
use Rattle.i_tree.proofs.RootLemmas.Lists.{AllPairs-head, AllPairs-tail, Contains-filter, Contains-there}
use Rattle.i_tree.proofs.RootLemmas.Joined.{Contains-middle}
use Rattle.i_tree.proofs.RootLemmas.Monotone.{IsMonotone-compare}
use Rattle.i_tree.proofs.RootLemmas.Withouts.{filter-without}
-- What is live at a time is live at each earlier one.
pub use Rattle.i_tree.proofs.ExpiringLemmas.Times.{is_live-before}
-- A key is live up to its expiration, where that is a number: `is_live` at a time is this of the expiration and the time.
pub use Rattle.i_tree.proofs.RootLemmas.Numbers.{ge-upto, int_ge-upto, int_upto-ge}

-- what stands in a list still does where another item has joined
contains-insert : {X : Type 0} (xs : List X) (place : ℕ) (other x : X) → Contains xs x → Contains (insert xs place other) x
contains-insert [] place other x (k, within, is) = absurd (omega arith)
contains-insert (y ∷ ys) zero other x stored = Contains-there other (y ∷ ys) x stored
contains-insert (y ∷ ys) (suc place) other x (zero, within, is) = (0, omega arith, is)
contains-insert (y ∷ ys) (suc place) other x (suc k, within, is) = Contains-there y (insert ys place other) x (contains-insert ys place other x (k, omega arith, is))

-- two pairs of rising keys that compare Equal are one
module _ {K V : Type 0} {cmp : K → K → Ordering} (o : IsTotalOrder cmp) where
  abbrev Rises : K × V → K × V → Type 0
  Rises earlier later = cmp earlier.0 later.0 ≡ Less

  one_pair : (pairs : List (K × V)) → IsRising cmp pairs → (one other : K × V) → Contains pairs one → Contains pairs other → cmp one.0 other.0 ≡ Equal → one ≡ other
  one_pair [] rising one other (k, within, is) there equal = absurd (omega arith)
  one_pair (first ∷ rest) rising one other (zero, _, is) (zero, _, is_too) equal = sym is ∙ is_too
  one_pair (first ∷ rest) rising one other (zero, _, is) (suc k, within, there) equal =
      let below = All-contains (Rises first) rest other (AllPairs-head Rises first rest rising) (k, omega arith, there) in
      let is_below : cmp one.0 other.0 ≡ Less = subst (λ (it : K × V). cmp it.0 other.0 ≡ Less) is below in
      absurd (cc (is_below, equal))
  one_pair (first ∷ rest) rising one other (suc k, within, there) (zero, _, is) equal =
      let below = All-contains (Rises first) rest one (AllPairs-head Rises first rest rising) (k, omega arith, there) in
      let is_below : cmp other.0 one.0 ≡ Less = subst (λ (it : K × V). cmp it.0 one.0 ≡ Less) is below in
      let is_above = o.antisymm one.0 other.0 ∙ ap ordering_reverse is_below in
      absurd (cc (is_above, equal))
  one_pair (first ∷ rest) rising one other (suc k, within, there) (suc j, inside, there_too) equal =
      one_pair rest (AllPairs-tail Rises first rest rising) one other (k, omega arith, there) (j, omega arith, there_too) equal

-- An insertion stores its pair (`ok` of `insert`, and of `insert_new` where that is true).
pub is_stored : {X : Type 0} {MayGo : X → Type 0} (x : X) (before after : List X) → Gains MayGo x before after → Contains after x
is_stored {X = X} x before after (kept, without, joins) =
    let (place, within, is) = joins in
    subst (λ (all : List X). Contains all x) (sym is) (Contains-middle (take place kept) x (drop place kept))

-- `expiration` gives a key's expiration, and `cmp_time` compares expirations.
module _ {K V E : Type 0} (expiration : K → E) (cmp_time : E → E → Ordering) (time : E) (pair : K × V) (live : is_live expiration cmp_time time pair.0 ≡ true) where
  -- A query keeps what is live at its time (`kept`), and so does `insert_new` where it is false (`ok`).
  pub stays_stored : {before after : List (K × V)} → Without (IsExpired expiration cmp_time time) before after → Contains before pair → Contains after pair
  stays_stored none stored = stored
  stays_stored (keeps other rest) (zero, within, is) = (0, omega arith, is)
  stays_stored (keeps {after = after} other rest) (suc k, within, is) = Contains-there other after pair (stays_stored rest (k, omega arith, is))
  stays_stored (loses other expired rest) (zero, within, is) = absurd (both_ways (is_live expiration cmp_time time other.0) expired (ap (λ (it : K × V). is_live expiration cmp_time time it.0) is ∙ live))
  stays_stored (loses other expired rest) (suc k, within, is) = stays_stored rest (k, omega arith, is)

  -- An insertion of another pair keeps what is live at its time (`ok`).
  pub stays_beside : (other : K × V) (before after : List (K × V)) → Gains (IsExpired expiration cmp_time time) other before after → Contains before pair → Contains after pair
  stays_beside other before after (kept, without, joins) stored =
      let (place, within, is) = joins in
      subst (λ (all : List (K × V)). Contains all pair) (sym is) (contains-insert kept place other pair (stays_stored without stored))

  -- `cmp` compares keys.
  module _ {cmp : K → K → Ordering} (o : IsTotalOrder cmp) (key : K) (equal : cmp pair.0 key ≡ Equal) (stored : List (K × V)) (is_there : Contains stored pair) where
    -- `contains_key` says that it is there (`cases`).
    pub is_contained : (answer : Bool) → MatchBool answer (HasKey cmp (live_pairs expiration cmp_time time stored) key) (NoKey cmp (live_pairs expiration cmp_time time stored) key) → answer ≡ true
    is_contained true has = refl
    is_contained false lacks = absurd (All-contains (λ (other : K × V). cmp other.0 key ≢ Equal) lives pair lacks (Contains-filter alive stored pair live is_there) equal)
      where
        alive : K × V → Bool
        alive other = is_live expiration cmp_time time other.0

        lives : List (K × V)
        lives = live_pairs expiration cmp_time time stored

    -- `first_less_or_equal_by` answers its value, where the closure compares with the key (`kept`, `rising` and `value`).
    pub is_answered : (after : List (K × V)) (default value : V) (May : K → Ordering → Type 0) → ((other : K) (answer : Ordering) → May other answer → answer ≡ cmp other key)
        → Without (IsExpired expiration cmp_time time) stored after → IsRising cmp after → AtMostBy cmp May (live_pairs expiration cmp_time time stored) default value → value ≡ pair.1
    is_answered after default value May compares kept rising answers = told (answers (λ other. cmp other key) (λ k d within answer may. compares _ answer may) (IsMonotone-compare o (λ other. other) key lives))
      where
        lives : List (K × V)
        lives = live_pairs expiration cmp_time time stored

        alive : K × V → Bool
        alive other = is_live expiration cmp_time time other.0

        is_there_live : Contains lives pair
        is_there_live = Contains-filter alive stored pair live is_there

        rises : IsRising cmp lives
        rises = subst (IsRising cmp) (sym (filter-without alive (λ other expired. expired) kept)) (AllPairs-filter (λ earlier later. cmp earlier.0 later.0 ≡ Less) alive after rising)

        told : AtMost cmp lives (λ other. cmp other key) default value → value ≡ pair.1
        told (inl (k, other, within, is, both)) =
            let (level, answered) = both in
            answered ∙ ap (λ (it : K × V). it.1) (one_pair o lives rises other pair (k, within, is) is_there_live
            (alike_right o pair.0 key other.0 equal ∙ level))
        told (inr (apart, _)) = absurd (All-contains (λ (other : K × V). cmp other.0 key ≢ Equal) lives pair apart is_there_live equal)
