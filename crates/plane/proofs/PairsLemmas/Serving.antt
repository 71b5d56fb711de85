-- An item is served: what comes of the calls that it takes.
use Rattle.std.proofs.Common.{◌≡◌, inl, inr, ℕ, pos, ℤ, ◌≤ℤ◌, true, Option, Some, None, List, [], ◌∷◌, ◌++◌, refl, sym, ap, ◌∙◌, subst, subst₂, arith}
use Rattle.std.specs.List.{Contains}
use Rattle.std.specs.List.Sorted.{IsPermutation}
use Rattle.std.specs.Ordering.{int_cmp}
use Rattle.std.proofs.lemmas.Bool.{cond-true}
use Rattle.std.proofs.lemmas.Int.{ints}
use Rattle.std.proofs.lemmas.List.Sorted.{Contains-permutation, IsPermutation-refl, IsPermutation-sym}
use Rattle.i_tree.proofs.RootLemmas.Numbers.{int_ge-upto}
use Rattle.i_tree.specs.Root.Live.{is_live}
use Rattle.i_tree.specs.Seg.Buckets.{Buckets, Filters}
use Rattle.i_tree.specs.Seg.Members.{Member, Appends, Joins, answer, live_members, values_of}
use Rattle.i_tree.specs.Seg.Ranges.{interval_over, segment_over}
use Rattle.i_tree.specs.declared.seg.exp.SegRange.{SegRange}
use Rattle.plane.specs.Pairs.Strips.{range_in}
use Rattle.plane.specs.Pairs.Sweep.{Asks, GainsPairs, last_of, member_in}
use Rattle.plane.specs.declared.pairs.strips.Strips.{Strips}
use Rattle.plane.specs.declared.pairs.sweep.Placed.{Placed}
use Rattle.plane.specs.declared.pairs.items.Bounds.{Bounds}
use Rattle.plane.specs.Pairs.Bounds.{IsBox}
use Rattle.i_tree.proofs.RootLemmas.Members.{Contains-from_filter}

-- an item is live at each x up to its greater one
pub is_live-upto : {X : Type 0} (bounds : X → Bounds) (time : ℤ) (placed : Placed X) → time ≤ℤ (bounds placed.item).right → is_live (last_of bounds) int_cmp time placed ≡ true
is_live-upto bounds time placed within = int_ge-upto (bounds placed.item).right time within

-- what stays when expired members go was there
pub kept-within : {X : Type 0} (bounds : X → Bounds) (time : ℤ) (old new : List (Member (Placed X))) → IsPermutation (live_members (last_of bounds) int_cmp time old) new → (member : Member (Placed X)) → Contains new member → Contains old member
kept-within {X = X} bounds time old new same member within =
    (Contains-from_filter (λ (one : Member (Placed X)). is_live (last_of bounds) int_cmp time one.value) old member
    (Contains-permutation new (live_members (last_of bounds) int_cmp time old) member (IsPermutation-sym (live_members (last_of bounds) int_cmp time old) new same) within)).0

-- What the calls ensure that a query takes: at the time over the range, from which `near` is appended to an empty list, and
-- which leaves `mid`; and pairs with what it found.
module _ {X : Type 0} {bounds : X → Bounds} {Meeting : X → X → Type 0} (strips : Strips) (strip : ℕ) (placed : Placed X) (buckets : Buckets) (old mid : List (Member (Placed X))) (before after : List (ℕ × ℕ)) where
  pub Asks-called : (cleared near : List (Placed X)) (time : ℤ) (range : SegRange ℕ) → time ≡ (bounds placed.item).left → range ≡ range_in strips strip (bounds placed.item)
      → cleared ≡ [] → Appends (answer (last_of bounds) int_cmp time (interval_over pos buckets range) old) cleared near
      → GainsPairs bounds Meeting strips strip placed near before after → IsPermutation (live_members (last_of bounds) int_cmp time old) mid → Filters buckets
      → Asks bounds Meeting strips strip placed buckets old mid before after
  Asks-called cleared near time range begins heights empty (found, same, appended) gains kept filters =
      let alone : near ≡ found = appended ∙ ap (λ (front : List (Placed X)). front ++ found) empty in
      let begin = (bounds placed.item).left in
      record {
        others = near;
        answers = inl (
          subst (λ (r : SegRange ℕ). IsPermutation (answer (last_of bounds) int_cmp begin (interval_over pos buckets r) old) near) heights
              (subst (λ (t : ℤ). IsPermutation (answer (last_of bounds) int_cmp t (interval_over pos buckets range) old) near) begins
              (subst (λ (list : List (Placed X)). IsPermutation (answer (last_of bounds) int_cmp time (interval_over pos buckets range) old) list) (sym alone) same)),
          filters,
        );
        gains = gains;
        keeps = subst (λ (t : ℤ). IsPermutation (live_members (last_of bounds) int_cmp t old) mid) begins kept;
      }

  -- where all that are live are gone over, and the others went
  pub Asks-all : (others : List (Placed X)) → values_of (live_members (last_of bounds) int_cmp (bounds placed.item).left old) ≡ others → mid ≡ live_members (last_of bounds) int_cmp (bounds placed.item).left old
      → GainsPairs bounds Meeting strips strip placed others before after → Asks bounds Meeting strips strip placed buckets old mid before after
  Asks-all others all kept gains =
      let live = live_members (last_of bounds) int_cmp (bounds placed.item).left old in
      record {
        others = others;
        answers = inr (subst (IsPermutation (values_of live)) all (IsPermutation-refl (values_of live)));
        gains = gains;
        keeps = subst (IsPermutation live) (sym kept) (IsPermutation-refl live);
      }

-- And what an insertion does, where no time came that is behind where the item begins.
pub member-joins : {X : Type 0} (bounds : X → Bounds) (strips : Strips) (strip : ℕ) (buckets : Buckets) (placed : Placed X) (own : Buckets) (latest : Option ℤ) (range : SegRange ℕ) (old new : List (Member (Placed X))) → own ≡ buckets → IsBox (bounds placed.item)
    → ((time : ℤ) → latest ≡ Some time → time ≤ℤ (bounds placed.item).left) → range ≡ range_in strips strip (bounds placed.item)
    → Joins (last_of bounds) int_cmp latest (segment_over pos own range placed) old new → IsPermutation (member_in bounds strips strip buckets placed ∷ old) new
member-joins {X} bounds strips strip buckets placed own latest range old new same proper in_time heights joined =
    joins latest in_time (subst₂ (λ (b : Buckets) (r : SegRange ℕ). Joins (last_of bounds) int_cmp latest (segment_over pos b r placed) old new) same heights joined)
  where
    joins : (latest : Option ℤ) → ((time : ℤ) → latest ≡ Some time → time ≤ℤ (bounds placed.item).left) → Joins (last_of bounds) int_cmp latest (member_in bounds strips strip buckets placed) old new
        → IsPermutation (member_in bounds strips strip buckets placed ∷ old) new
    joins None order joined = joined
    joins (Some time) order joined =
        let first = order time refl in
        let wide = proper.wide in
        subst (λ (all : List (Member (Placed X))). IsPermutation all new)
        (cond-true (is_live (last_of bounds) int_cmp time placed) (member_in bounds strips strip buckets placed ∷ old) old (is_live-upto bounds time placed (omega (arith, ints, first, wide)))) joined
