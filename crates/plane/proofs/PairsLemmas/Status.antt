-- What is stored for a strip once some parts are served, and how one more is.
use Rattle.std.proofs.Common.{◌≡◌, ◌≢◌, ◌⊎◌, inl, inr, ℕ, ℤ, pos, ◌≤ℤ◌, true, Bool, Option, Some, None, List, [], ◌∷◌, ◌++◌, get_or, sym, ap, ◌∙◌, subst, arith}
use Rattle.std.specs.List.{AllPairs, Contains, filter, slice_get}
use Rattle.std.specs.Ordering.{int_cmp}
use Rattle.std.proofs.lemmas.Int.{ints}
use Rattle.std.proofs.lemmas.List.Elements.{Contains-append_left, Contains-push, Contains-push_cases, Contains-get_or}
use Rattle.std.proofs.lemmas.List.Kept.{AllPairs-cons, AllPairs-filter}
use Rattle.std.proofs.lemmas.List.Sorted.{Contains-permutation, IsPermutation-sym}
use Rattle.std.proofs.lemmas.Option.{same_Some}
use Rattle.i_tree.specs.Root.Live.{is_live}
use Rattle.i_tree.specs.Seg.Buckets.{Buckets, Filters, overlap}
use Rattle.i_tree.specs.Seg.Members.{Member, answer, live_members, values_of}
use Rattle.i_tree.specs.Seg.Ranges.{interval_over}
use Rattle.i_tree.proofs.RootLemmas.Joined.{AllPairs-to_map}
use Rattle.i_tree.proofs.RootLemmas.Lists.{Contains-here, Contains-there, Contains-filter}
use Rattle.plane.specs.Pairs.Parts.{part_of}
use Rattle.plane.specs.Pairs.Strips.{range_in}
use Rattle.plane.specs.Pairs.Sweep.{Serves, last_of, member_in}
use Rattle.plane.specs.declared.pairs.parts.Part.{Part}
use Rattle.plane.specs.declared.pairs.strips.Strips.{Strips}
use Rattle.plane.specs.declared.pairs.sweep.Placed.{Placed}
use Rattle.i_tree.proofs.RootLemmas.Members.{Contains-from_filter}
use Rattle.plane.proofs.PairsLemmas.Bags.{AllPairs-permutation, Contains-map, Contains-from_map, here_or_there}
use Rattle.plane.proofs.PairsLemmas.Serving.{is_live-upto, kept-within}
use Rattle.plane.specs.declared.pairs.items.Bounds.{Bounds}
use Rattle.plane.specs.Pairs.Bounds.{MeetInBoxes}

-- an item and its place
abbrev pub placed_at : {X : Type 0} → ℕ → X → Placed X
placed_at place item = record { item = item; place = place }

-- the part of this item in the strip is served
pub record IsServed {X : Type 0} (bounds : X → Bounds) (items : List X) (served : List Part) (strip : ℕ) (placed : Placed X) : Type 0 where
  pub stands : slice_get items placed.place ≡ Some placed.item
  pub part : Contains served (part_of placed.place (bounds placed.item) strip)

-- Members are of parts that are served in the strip. Each of these is there whose item ends not before one of them
-- begins, once. The latest time is where one of them begins.
pub record Holds {X : Type 0} (bounds : X → Bounds) (strips : Strips) (items : List X) (buckets : Buckets) (served : List Part) (strip : ℕ) (latest : Option ℤ) (members : List (Member (Placed X))) : Type 0 where
  pub has : (placed : Placed X) → IsServed bounds items served strip placed → ((other : Placed X) → IsServed bounds items served strip other → (bounds other.item).left ≤ℤ (bounds placed.item).right) → Contains members (member_in bounds strips strip buckets placed)
  pub of : (member : Member (Placed X)) → Contains members member → (placed : Placed X) × IsServed bounds items served strip placed × (member ≡ member_in bounds strips strip buckets placed)
  pub once : AllPairs (λ one later. one.value.place ≢ later.value.place) members
  pub time : (time : ℤ) → latest ≡ Some time → (placed : Placed X) × IsServed bounds items served strip placed × ((bounds placed.item).left ≡ time)

-- nothing is stored where no part in the strip is served
pub Holds-nothing : {X : Type 0} (bounds : X → Bounds) (strips : Strips) (items : List X) (buckets : Buckets) (served : List Part) (strip : ℕ) (latest : Option ℤ) (members : List (Member (Placed X)))
    → ((placed : Placed X) → IsServed bounds items served strip placed → ⊥) → members ≡ [] → latest ≡ None → Holds bounds strips items buckets served strip latest members
Holds-nothing {X} bounds strips items buckets served strip latest members none empty unasked = record {
  has = λ placed is _. absurd (none placed is);
  of = λ member within. absurd (let gone : Contains [] member = subst (λ (all : List (Member (Placed X))). Contains all member) empty within in omega (arith, gone.1));
  once = subst (AllPairs (λ (one later : Member (Placed X)). one.value.place ≢ later.value.place)) (sym empty) (λ i j d below within. absurd (omega (arith, within)));
  time = λ time is. absurd (let no : None ≡ Some time = sym unasked ∙ is in cc);
}

-- An item is served, whose part wasn't. What is served before it in its strip begins at most where it does.
module _ {X : Type 0} {bounds : X → Bounds} {Meeting : X → X → Type 0} (boxed : MeetInBoxes bounds Meeting) (strips : Strips) (items : List X) (buckets : Buckets) (served : List Part) (strip : ℕ) (latest : Option ℤ) (old new : List (Member (Placed X))) (holds : Holds bounds strips items buckets served strip latest old)
    (placed : Placed X) (stands : slice_get items placed.place ≡ Some placed.item) (unserved : Contains served (part_of placed.place (bounds placed.item) strip) → ⊥)
    (behind : (other : Placed X) → IsServed bounds items served strip other → (bounds other.item).left ≤ℤ (bounds placed.item).left)
    (before after : List (ℕ × ℕ)) (serves : Serves bounds Meeting strips strip placed buckets old new before after) where
  abbrev live : List (Member (Placed X))
  live = live_members (last_of bounds) int_cmp (bounds placed.item).left old

  abbrev alive : Member (Placed X) → Bool
  alive member = is_live (last_of bounds) int_cmp (bounds placed.item).left member.value

  abbrev test : Member (Placed X) → Bool
  test member = overlap member.interval (interval_over pos buckets (range_in strips strip (bounds placed.item)))

  abbrev asked : List (Placed X)
  asked = answer (last_of bounds) int_cmp (bounds placed.item).left (interval_over pos buckets (range_in strips strip (bounds placed.item))) old

  abbrev Apart : Member (Placed X) → Member (Placed X) → Type 0
  Apart one later = one.value.place ≢ later.value.place

  -- what is served in the strip, and ends not before it begins, is live
  is_live_member : (other : Placed X) → IsServed bounds items served strip other → (bounds placed.item).left ≤ℤ (bounds other.item).right → Contains live (member_in bounds strips strip buckets other)
  is_live_member other is_served reaches =
      Contains-filter alive old (member_in bounds strips strip buckets other) (is_live-upto bounds (bounds placed.item).left other reaches)
      (holds.has other is_served (λ one before. let order = behind one before in omega (arith, ints, order, reaches)))

  -- it is one of the others to be told
  pub is_other : (other : Placed X) → IsServed bounds items served strip other → (bounds placed.item).left ≤ℤ (bounds other.item).right
      → (Filters buckets → overlap (interval_over pos buckets (range_in strips strip (bounds other.item))) (interval_over pos buckets (range_in strips strip (bounds placed.item))) ≡ true) → Contains serves.asks.others other
  is_other other is_served reaches overlaps = elim serves.asks.answers [
    | inl (same, filters) ↦
        Contains-permutation asked serves.asks.others other same
        (Contains-map (λ (member : Member (Placed X)). member.value) (filter test live) (member_in bounds strips strip buckets other)
        (Contains-filter test live (member_in bounds strips strip buckets other) (overlaps filters) (is_live_member other is_served reaches)))
    | inr same ↦
        Contains-permutation (values_of live) serves.asks.others other same
        (Contains-map (λ (member : Member (Placed X)). member.value) live (member_in bounds strips strip buckets other) (is_live_member other is_served reaches))
  ]

  -- each of the others is served in the strip
  pub of_others : (other : Placed X) → Contains serves.asks.others other → IsServed bounds items served strip other
  of_others other among = elim serves.asks.answers [
    | inl (same, _) ↦
        let (member, found, value) = Contains-from_map (λ (member : Member (Placed X)). member.value) (filter test live) other
        (Contains-permutation serves.asks.others asked other (IsPermutation-sym asked serves.asks.others same) among) in
        of_value member other (Contains-from_filter test live member found).0 value
    | inr same ↦
        let (member, found, value) = Contains-from_map (λ (member : Member (Placed X)). member.value) live other
        (Contains-permutation serves.asks.others (values_of live) other (IsPermutation-sym (values_of live) serves.asks.others same) among) in
        of_value member other found value
  ]
    where
      of_value : (member : Member (Placed X)) (other : Placed X) → Contains live member → member.value ≡ other → IsServed bounds items served strip other
      of_value member other within value =
          let (one, is_served, is) = holds.of member (Contains-from_filter alive old member within).0 in
          subst (IsServed bounds items served strip) (ap (λ (one : Member (Placed X)). one.value) (sym is) ∙ value) is_served

  -- no two of the others are at one place
  pub others_apart : AllPairs (λ one later. one.place ≢ later.place) serves.asks.others
  others_apart = elim serves.asks.answers [
    | inl (same, _) ↦
        AllPairs-permutation (λ (one later : Placed X). one.place ≢ later.place) (λ one later differ same. differ (sym same)) asked serves.asks.others same
        (AllPairs-to_map (λ (one later : Placed X). one.place ≢ later.place) (λ (member : Member (Placed X)). member.value) (filter test live)
        (AllPairs-filter Apart test live (AllPairs-filter Apart alive old holds.once)))
    | inr same ↦
        AllPairs-permutation (λ (one later : Placed X). one.place ≢ later.place) (λ one later differ same. differ (sym same)) (values_of live) serves.asks.others same
        (AllPairs-to_map (λ (one later : Placed X). one.place ≢ later.place) (λ (member : Member (Placed X)). member.value) live (AllPairs-filter Apart alive old holds.once))
  ]

  -- ---- what is stored once it has asked

  mid_has : (member : Member (Placed X)) → Contains live member → Contains serves.mid member
  mid_has member within = Contains-permutation live serves.mid member serves.asks.keeps within

  mid_of : (member : Member (Placed X)) → Contains serves.mid member → Contains old member
  mid_of member within = kept-within bounds (bounds placed.item).left old serves.mid serves.asks.keeps member within

  mid_once : AllPairs Apart serves.mid
  mid_once = AllPairs-permutation Apart (λ one later differ same. differ (sym same)) live serves.mid serves.asks.keeps (AllPairs-filter Apart alive old holds.once)

  -- what is served in the strip is at another place
  pub elsewhere : (other : Placed X) → IsServed bounds items served strip other → placed.place ≢ other.place
  elsewhere other is_served same =
      let one : placed.item ≡ other.item = same_Some placed.item other.item (sym stands ∙ ap (slice_get items) same ∙ is_served.stands) in
      let same_part : part_of other.place (bounds other.item) strip ≡ part_of placed.place (bounds placed.item) strip = cc in
      unserved (subst (Contains served) same_part is_served.part)

  -- it is served then, as are those that were
  pub IsServed-still : (other : Placed X) → IsServed bounds items served strip other → IsServed bounds items (served ++ part_of placed.place (bounds placed.item) strip ∷ []) strip other
  IsServed-still other is_served = record {
    stands = is_served.stands;
    part = Contains-append_left served (part_of placed.place (bounds placed.item) strip ∷ []) (part_of other.place (bounds other.item) strip) is_served.part;
  }

  pub IsServed-now : IsServed bounds items (served ++ part_of placed.place (bounds placed.item) strip ∷ []) strip placed
  IsServed-now = record { stands = stands; part = Contains-push served (part_of placed.place (bounds placed.item) strip) }

  pub IsServed-cases : (other : Placed X) → IsServed bounds items (served ++ part_of placed.place (bounds placed.item) strip ∷ []) strip other → IsServed bounds items served strip other ⊎ (placed ≡ other)
  IsServed-cases other is_served = elim (Contains-push_cases served (part_of placed.place (bounds placed.item) strip) (part_of other.place (bounds other.item) strip) is_served.part) [
    | inl earlier ↦ inl (record { stands = is_served.stands; part = earlier })
    | inr is ↦
        let place : placed.place ≡ other.place = ap (λ (part : Part). part.place) is in
        let one : placed.item ≡ other.item = same_Some placed.item other.item (sym stands ∙ ap (slice_get items) place ∙ is_served.stands) in
        inr (made placed.place other.place placed.item other.item place one)
  ]
    where
      made : (p q : ℕ) (one another : X) → p ≡ q → one ≡ another → placed_at p one ≡ placed_at q another
      made p q one another first second = cc

  -- ---- and once it has joined

  abbrev member : Member (Placed X)
  member = member_in bounds strips strip buckets placed

  new_has : (other : Member (Placed X)) → Contains serves.mid other → Contains new other
  new_has other within = Contains-permutation (member ∷ serves.mid) new other serves.joins (Contains-there member serves.mid other within)

  new_own : Contains new member
  new_own = Contains-permutation (member ∷ serves.mid) new member serves.joins (Contains-here member serves.mid)

  new_of : (one : Member (Placed X)) → Contains new one → (member ≡ one) ⊎ Contains serves.mid one
  new_of one within = here_or_there member serves.mid one (Contains-permutation new (member ∷ serves.mid) one (IsPermutation-sym (member ∷ serves.mid) new serves.joins) within)

  new_once : AllPairs Apart new
  new_once =
      AllPairs-permutation Apart (λ one later differ same. differ (sym same)) (member ∷ serves.mid) new serves.joins
      (AllPairs-cons Apart member serves.mid
      (λ k d within same.
      let (other, is_served, is) = holds.of (get_or serves.mid k d) (mid_of (get_or serves.mid k d) (Contains-get_or serves.mid k d within)) in
      elsewhere other is_served (same ∙ ap (λ (one : Member (Placed X)). one.value.place) is))
      mid_once)

  pub Holds-served : (latest' : Option ℤ) → (latest' ≡ latest) ⊎ (latest' ≡ Some (bounds placed.item).left) → Holds bounds strips items buckets (served ++ part_of placed.place (bounds placed.item) strip ∷ []) strip latest' new
  Holds-served latest' asked = record {
    has = λ other is_served within. elim (IsServed-cases other is_served) [
      | inl before ↦ new_has (member_in bounds strips strip buckets other) (mid_has (member_in bounds strips strip buckets other)
          (is_live_member other before (within placed IsServed-now)))
      | inr is ↦ subst (λ (one : Placed X). Contains new (member_in bounds strips strip buckets one)) is new_own
    ];
    of = λ one within. elim (new_of one within) [
      | inl is ↦ (placed, IsServed-now, sym is)
      | inr there ↦
          let (other, is_served, is) = holds.of one (mid_of one there) in
          (other, IsServed-still other is_served, is)
    ];
    once = new_once;
    time = λ time is. elim asked [
      | inl same ↦
          let (other, is_served, begins) = holds.time time (sym same ∙ is) in
          (other, IsServed-still other is_served, begins)
      | inr now ↦ (placed, IsServed-now, same_Some (bounds placed.item).left time (sym now ∙ is))
    ];
  }
