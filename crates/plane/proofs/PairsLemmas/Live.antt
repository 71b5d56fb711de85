-- What is live in a strip, in a list or in a tree.
use Rattle.std.proofs.Common.{◌≡◌, ℕ, ◌+◌, ◌<◌, ℤ, ◌≤ℤ◌, pos, Bool, true, false, cond, List, [], ◌∷◌, ◌++◌, get_or, length, map, take, Option, Some, None, refl, sym, ap, ap₂, ◌∙◌, subst}
use Rattle.std.specs.List.{filter}
use Rattle.std.specs.List.Sorted.{IsPermutation}
use Rattle.std.specs.Ordering.{int_cmp}
use Rattle.std.proofs.lemmas.Bool.{cond-true}
use Rattle.std.proofs.lemmas.List.{map-append, take_more}
use Rattle.std.proofs.lemmas.List.Sorted.{IsPermutation-push_more, IsPermutation-to_front, IsPermutation-sym}
use Rattle.i_tree.specs.Seg.Buckets.{Buckets}
use Rattle.i_tree.specs.Seg.Members.{Member, Joins, live_members, values_of}
use Rattle.i_tree.specs.Seg.Ranges.{segment_over}
use Rattle.i_tree.specs.Seg.Segments.{Contents}
use Rattle.i_tree.specs.declared.seg.exp.SegRange.{SegRange}
use Rattle.plane.specs.Pairs.Live.{held, live_items, members_in}
use Rattle.plane.specs.Pairs.Strips.{range_in}
use Rattle.plane.specs.Pairs.Sweep.{last_of, member_in}
use Rattle.plane.specs.declared.pairs.items.Bounds.{Bounds}
use Rattle.plane.specs.declared.pairs.live.Live.{Live}
use Rattle.plane.specs.declared.pairs.strips.Strips.{Strips}
use Rattle.plane.specs.declared.pairs.sweep.Placed.{Placed}
use Rattle.plane.specs.Pairs.Bounds.{IsBox}
use Rattle.plane.proofs.PairsLemmas.Serving.{member-joins}

-- a filter of what a map gives
filter-map : {X Y : Type 0} (f : X → Y) (p : Y → Bool) (xs : List X) → filter p (map f xs) ≡ map f (filter (λ x. p (f x)) xs)
filter-map f p [] = refl
filter-map f p (x ∷ xs) = ap (λ (ys : List _). cond (p (f x)) (f x ∷ ys) ys) (filter-map f p xs) ∙ kept (p (f x)) x (filter (λ x. p (f x)) xs)
  where
    kept : (b : Bool) (x : _) (ys : List _) → cond b (f x ∷ map f ys) (map f ys) ≡ map f (cond b (x ∷ ys) ys)
    kept true x ys = refl
    kept false x ys = refl

module _ {X A : Type 0} (bounds : X → Bounds) (strips : Strips) (strip : ℕ) where
  -- where they are few, what is held is the list's
  module _ (live : Live X A) where
    pub members-few : live.is_few ≡ true → (held bounds strips strip live).members ≡ members_in bounds strips strip live.tree.buckets live.few.items
    members-few few = cond-true live.is_few (members_in bounds strips strip live.tree.buckets live.few.items) live.tree.members few

    pub latest-few : live.is_few ≡ true → (held bounds strips strip live).latest ≡ None
    latest-few few = cond-true live.is_few None live.tree.latest few

    -- nothing is held where the list is empty
    pub members-empty : live.is_few ≡ true → live.few.items ≡ [] → (held bounds strips strip live).members ≡ []
    members-empty few empty = members-few few ∙ ap (λ (items : List (Placed X)). members_in bounds strips strip live.tree.buckets items) empty

module _ {X : Type 0} (bounds : X → Bounds) (strips : Strips) (strip : ℕ) (buckets : Buckets) where
  -- the live ones of the members of a list are those of its live items
  pub live_members-of : (time : ℤ) (items : List (Placed X)) → live_members (last_of bounds) int_cmp time (members_in bounds strips strip buckets items) ≡ members_in bounds strips strip buckets (live_items bounds time items)
  live_members-of time items = filter-map (member_in bounds strips strip buckets) _ items

  pub values-of : (items : List (Placed X)) → values_of (members_in bounds strips strip buckets items) ≡ items
  values-of [] = refl
  values-of (item ∷ items) = ap (λ (rest : List (Placed X)). item ∷ rest) (values-of items)

  -- one more item of the list
  pub joins-list : (items : List (Placed X)) (placed : Placed X) → IsPermutation (member_in bounds strips strip buckets placed ∷ members_in bounds strips strip buckets items) (members_in bounds strips strip buckets (items ++ placed ∷ []))
  joins-list items placed =
      let member = member_in bounds strips strip buckets placed in
      let members = members_in bounds strips strip buckets items in
      subst (IsPermutation (member ∷ members)) (sym (map-append (member_in bounds strips strip buckets) items (placed ∷ [])))
      (IsPermutation-sym (members ++ member ∷ []) (member ∷ members) (IsPermutation-to_front members member))

  -- an insertion into a tree of which no query came, of the next item over its range
  pub inserted : (items : List (Placed X)) (k : ℕ) (placed : Placed X) (latest : Option ℤ) (own : Buckets) (range : SegRange ℕ) (now after : List (Member (Placed X))) → k < length items → placed ≡ get_or items k placed → IsBox (bounds placed.item) → latest ≡ None → own ≡ buckets → range ≡ range_in strips strip (bounds placed.item)
      → IsPermutation (members_in bounds strips strip buckets (take k items)) now → Joins (last_of bounds) int_cmp latest (segment_over pos own range placed) now after → IsPermutation (members_in bounds strips strip buckets (take (k + 1) items)) after
  inserted items k placed latest own range now after inside is proper unasked same heights so_far joined =
      let front = members_in bounds strips strip buckets (take k items) in
      let none : (time : ℤ) → latest ≡ Some time → time ≤ℤ (bounds placed.item).left = λ time asked. absurd (let no : None ≡ Some time = sym unasked ∙ asked in cc) in
      let there = member-joins bounds strips strip buckets placed own latest range now after same proper none heights joined in
      let more : take (k + 1) items ≡ take k items ++ placed ∷ [] = take_more items k placed inside ∙ ap (λ (one : Placed X). take k items ++ one ∷ []) (sym is) in
      subst (λ (some : List (Member (Placed X))). IsPermutation some after)
      (sym (ap (members_in bounds strips strip buckets) more ∙ map-append (member_in bounds strips strip buckets) (take k items) (placed ∷ [])))
      (IsPermutation-push_more front now after (member_in bounds strips strip buckets placed) so_far there)

-- What has expired at a time leaves the list: what stays is what is live of what was held.
module _ {X A : Type 0} (bounds : X → Bounds) (strips : Strips) (strip : ℕ) (old new : Live X A) (few : old.is_few ≡ true) (still : new.is_few ≡ old.is_few) (tree : new.tree ≡ old.tree)
    (time begin : ℤ) (begins : time ≡ begin) (dropped : new.few.items ≡ live_items bounds time old.few.items) where
  pub members-dropped : (held bounds strips strip new).members ≡ live_members (last_of bounds) int_cmp begin (held bounds strips strip old).members
  members-dropped =
      members-few bounds strips strip new (still ∙ few)
      ∙ ap₂ (λ (b : Buckets) (items : List (Placed X)). members_in bounds strips strip b items) (ap (λ (t : Contents ℤ (Placed X)). t.buckets) tree) (dropped ∙ ap (λ (t : ℤ). live_items bounds t old.few.items) begins)
      ∙ sym (live_members-of bounds strips strip old.tree.buckets begin old.few.items)
      ∙ ap (live_members (last_of bounds) int_cmp begin) (sym (members-few bounds strips strip old few))

  pub values-dropped : values_of (live_members (last_of bounds) int_cmp begin (held bounds strips strip old).members) ≡ new.few.items
  values-dropped = ap (λ (members : List (Member (Placed X))). values_of members) (sym members-dropped ∙ members-few bounds strips strip new (still ∙ few)) ∙ values-of bounds strips strip new.tree.buckets new.few.items

-- what is held stays where the strip does
pub stays : {X A : Type 0} (bounds : X → Bounds) (strips : Strips) (strip next : ℕ) (old new : Live X A) → next ≡ strip → new ≡ old → held bounds strips next new ≡ held bounds strips strip old
stays {X} {A} bounds strips strip next old new same kept = ap₂ (λ (s : ℕ) (live : Live X A). held bounds strips s live) same kept
