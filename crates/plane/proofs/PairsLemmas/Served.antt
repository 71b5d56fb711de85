-- The sweep through the parts of all strips: what holds once some are served, and how one more is.
use Rattle.std.proofs.Common.{◌≡◌, ◌≢◌, ◌⊎◌, inl, inr, ℕ, ◌<◌, ◌≤◌, ◌+◌, ℤ, ◌≤ℤ◌, ◌<ℤ◌, false, Option, Some, None, List, [], ◌∷◌, ◌++◌, length, get_or, take, append-nil, append_assoc, length-append, Ordering, Less, Equal, Greater, refl, sym, ap, ◌∙◌, subst, ⊎_elim, arith}
use Rattle.std.specs.List.{All, Contains, slice_get}
use Rattle.std.specs.Ordering.{MatchOrdering, int_cmp, is_lt}
use Rattle.std.proofs.lemmas.Bool.{cases_eq}
use Rattle.std.proofs.lemmas.Cmp.{int_ranked}
use Rattle.std.proofs.lemmas.Int.{ints}
use Rattle.std.proofs.lemmas.List.{length-take-le, get_or-take, take_all, take_more, get_or_default}
use Rattle.std.proofs.lemmas.List.Elements.{Contains-get_or, All-contains, All-push, All-nil, All-weaker}
use Rattle.std.proofs.lemmas.Option.{same_Some, get_or_from_slice_get, slice_get_within}
use Rattle.i_tree.specs.Seg.Buckets.{Buckets}
use Rattle.i_tree.specs.Seg.Members.{Member, NotBefore}
use Rattle.plane.specs.Pairs.Live.{SweepStatus, IsIn}
use Rattle.plane.specs.Pairs.Pairs.{GainsAll}
use Rattle.plane.specs.Pairs.Parts.{AreParts, IsPartOf, NotBehind, part_of}
use Rattle.plane.specs.Pairs.Strips.{Reaches, IsOverStrip}
use Rattle.plane.specs.Pairs.Sweep.{Serves}
use Rattle.plane.specs.declared.pairs.parts.Part.{Part}
use Rattle.plane.specs.declared.pairs.strips.Strips.{Strips}
use Rattle.plane.specs.declared.pairs.sweep.Placed.{Placed}
use Rattle.plane.proofs.PairsLemmas.Bags.{not_before}
use Rattle.plane.proofs.PairsLemmas.Complete.{AreTold, AreTold-none, AreTold-served, ArePairs-told, AreMoreThan-told}
use Rattle.plane.proofs.PairsLemmas.Status.{Holds, Holds-nothing, Holds-served, IsServed, placed_at}
use Rattle.plane.specs.declared.pairs.items.Bounds.{Bounds}
use Rattle.plane.specs.Pairs.Bounds.{MeetInBoxes}

-- Some parts are served, up to those of this strip, and what comes isn't of an earlier one. What the strip needs is
-- stored, and the pairs that are to be told are.
pub record Served {X : Type 0} (bounds : X → Bounds) (Meeting : X → X → Type 0) (strips : Strips) (items : List X) (parts : List Part) (k strip : ℕ) (tree : SweepStatus X) (before now : List (ℕ × ℕ)) : Type 0 where
  pub over : IsOverStrip strips tree.buckets
  pub upto : All (λ part. part.strip ≤ strip) (take k parts)
  pub ahead : (j : ℕ) (d : Part) → k ≤ j → j < length parts → strip ≤ (get_or parts j d).strip
  pub holds : Holds bounds strips items tree.buckets (take k parts) strip tree.latest tree.members
  pub pairs : List (ℕ × ℕ)
  pub gained : now ≡ before ++ pairs
  pub told : AreTold bounds Meeting strips items (take k parts) pairs

module _ {X : Type 0} {bounds : X → Bounds} {Meeting : X → X → Type 0} (boxed : MeetInBoxes bounds Meeting) (strips : Strips) (items : List X) (parts : List Part) where
  -- nothing is served
  pub Served-none : (tree : SweepStatus X) (before : List (ℕ × ℕ)) → IsOverStrip strips tree.buckets → tree.members ≡ [] → tree.latest ≡ None → Served bounds Meeting strips items parts 0 0 tree before before
  Served-none tree before over empty unasked = record {
    over = over;
    upto = All-nil (λ part. part.strip ≤ 0);
    ahead = λ j d from within. omega arith;
    holds = Holds-nothing bounds strips items tree.buckets [] 0 tree.latest tree.members (λ placed is. let at = is.part in omega (arith, at.1)) empty unasked;
    pairs = [];
    gained = sym (append-nil before);
    told = AreTold-none bounds Meeting strips items;
  }

  -- all parts are served
  pub Served-all : (k strip : ℕ) (tree : SweepStatus X) (most : ℕ) (before now : List (ℕ × ℕ)) → length parts ≤ k → All (λ item. strips.base ≤ℤ (bounds item).low) items → AreParts bounds strips items parts
      → Served bounds Meeting strips items parts k strip tree before now → GainsAll Meeting items most before now
  Served-all k strip tree most before now past base are served =
      (served.pairs, served.gained, inl (ArePairs-told boxed strips items parts served.pairs base are (subst (λ (all : List Part). AreTold bounds Meeting strips items all served.pairs) (take_all k parts past) served.told)))

  -- some are, and more than so many pairs are told
  pub Served-enough : (k strip : ℕ) (tree : SweepStatus X) (most : ℕ) (before now : List (ℕ × ℕ)) → length before + most < length now
      → Served bounds Meeting strips items parts k strip tree before now → GainsAll Meeting items most before now
  Served-enough k strip tree most before now longer served =
      let size = ap length served.gained ∙ length-append before served.pairs in
      (served.pairs, served.gained, inr (AreMoreThan-told boxed strips items (take k parts) most served.pairs (omega (arith, size, longer)) served.told))

  -- The part at the place k is served next.
  module _ (base : All (λ item. strips.base ≤ℤ (bounds item).low) items) (are : AreParts bounds strips items parts) (k : ℕ) (d : Part) (inside : k < length parts) where
    abbrev next : Part
    next = get_or parts k d

    abbrev of_next : IsPartOf bounds strips items (get_or parts k d)
    of_next = are.of k d inside

    pub its_place : (get_or parts k d).place < length items
    its_place = slice_get_within items next.place of_next.item of_next.stands

    above_at : (place : ℕ) (item : X) → slice_get items place ≡ Some item → strips.base ≤ℤ (bounds item).low
    above_at place item stands = subst (λ (one : X). strips.base ≤ℤ (bounds one).low) (get_or_from_slice_get items place item item stands) (base place item (slice_get_within items place item stands))

    -- its item, as an index reads it
    its_item : (item : X) → item ≡ get_or items (get_or parts k d).place item → of_next.item ≡ item
    its_item item read = sym (read ∙ get_or_from_slice_get items next.place of_next.item item of_next.stands)

    pub its_base : (item : X) → item ≡ get_or items (get_or parts k d).place item → strips.base ≤ℤ (bounds item).low
    its_base item read = subst (λ (one : X). strips.base ≤ℤ (bounds one).low) (its_item item read) (above_at next.place of_next.item of_next.stands)

    pub its_reach : (item : X) → item ≡ get_or items (get_or parts k d).place item → Reaches strips (bounds item) (get_or parts k d).strip
    its_reach item read = subst (λ (one : X). Reaches strips (bounds one) next.strip) (its_item item read) of_next.reaches

    -- a served part stands before it
    served_at : (part : Part) → Contains (take k parts) part → (i : ℕ) × (i < k) × (get_or parts i part ≡ part)
    served_at part (i, within, is) =
        let size : length (take k parts) ≡ k = length-take-le k parts (omega arith) in
        let below : i < k = omega (arith, within, size) in
        (i, below, sym (get_or-take k parts i part below) ∙ is)

    unserved : Contains (take k parts) (part_of next.place (bounds of_next.item) next.strip) → ⊥
    unserved within = not_before parts k next inside are.once (get_or_default parts k next d inside) (subst (Contains (take k parts)) (sym of_next.is) within)

    -- what is served in its strip begins at most where it does, and reaches the strip
    behind : (other : Placed X) → IsServed bounds items (take k parts) next.strip other → (bounds other.item).left ≤ℤ (bounds of_next.item).left
    behind other is_served =
        let part = part_of other.place (bounds other.item) next.strip in
        let (i, below, is) = served_at part is_served.part in
        let order : NotBehind part next = subst (λ (one : Part). NotBehind one next) is (subst (NotBehind (get_or parts i part)) (get_or_default parts k part d inside) (are.in_order i k part below inside)) in
        subst (λ (x : ℤ). (bounds other.item).left ≤ℤ x) (ap (λ (one : Part). one.left) of_next.is) (by_strip order)
      where
        by_strip : NotBehind (part_of other.place (bounds other.item) next.strip) next → (bounds other.item).left ≤ℤ next.left
        by_strip (inl sooner) = absurd (omega (arith, sooner))
        by_strip (inr (_, inl below)) = omega (arith, ints, below)
        by_strip (inr (_, inr (same, _))) = omega (arith, ints, same)

    reach_of : (other : Placed X) → IsServed bounds items (take k parts) next.strip other → Reaches strips (bounds other.item) next.strip
    reach_of other is_served =
        let part = part_of other.place (bounds other.item) next.strip in
        let (i, below, is) = served_at part is_served.part in
        let of_part : IsPartOf bounds strips items part = subst (IsPartOf bounds strips items) is (are.of i part (omega (arith, below, inside))) in
        let same : of_part.item ≡ other.item = same_Some of_part.item other.item (sym of_part.stands ∙ is_served.stands) in
        subst (λ (one : X). Reaches strips (bounds one) next.strip) same of_part.reaches

    -- What is held then, where it stayed as it was in the same strip and was cleared for another one.
    module _ (strip : ℕ) (tree entered : SweepStatus X) (before now : List (ℕ × ℕ)) (served : Served bounds Meeting strips items parts k strip tree before now)
        (stays : (get_or parts k d).strip ≡ strip → entered ≡ tree) (empty : (get_or parts k d).strip ≢ strip → entered.members ≡ []) (unasked : (get_or parts k d).strip ≢ strip → entered.latest ≡ None) (buckets : entered.buckets ≡ tree.buckets) where
      pub over_entered : IsOverStrip strips entered.buckets
      over_entered = subst (IsOverStrip strips) (sym buckets) served.over

      holds_entered : Holds bounds strips items entered.buckets (take k parts) next.strip entered.latest entered.members
      holds_entered = elim (cases_eq next.strip strip) [
        | inl same ↦
            subst (λ (s : ℕ). Holds bounds strips items entered.buckets (take k parts) s entered.latest entered.members) (sym same)
            (subst (λ (one : SweepStatus X). Holds bounds strips items one.buckets (take k parts) strip one.latest one.members) (sym (stays same)) served.holds)
        | inr differs ↦
            Holds-nothing bounds strips items entered.buckets (take k parts) next.strip entered.latest entered.members
            (λ placed is_served.
            let low : next.strip ≤ strip = All-contains (λ (part : Part). part.strip ≤ strip) (take k parts) (part_of placed.place (bounds placed.item) next.strip) served.upto is_served.part in
            let high : strip ≤ next.strip = served.ahead k d (omega arith) inside in
            differs (omega (arith, low, high)))
            (empty differs) (unasked differs)
      ]

      -- the items of what is held reach the strip
      pub within_entered : All (λ member. IsIn bounds strips next.strip member.value) entered.members
      within_entered i m within =
          let (other, is_served, is) = holds_entered.of (get_or entered.members i m) (Contains-get_or entered.members i m within) in
          subst (λ (member : Member (Placed X)). IsIn bounds strips next.strip member.value) (sym is)
          (record { above = above_at other.place other.item is_served.stands; reaches = reach_of other is_served })

      -- the query is in time
      pub in_time : (item : X) → item ≡ get_or items (get_or parts k d).place item → NotBefore int_cmp entered.latest (bounds item).left
      in_time item read = subst (λ (one : X). NotBefore int_cmp entered.latest (bounds one).left) (its_item item read) (told entered.latest (λ time is. upto time is))
        where
          upto : (time : ℤ) → entered.latest ≡ Some time → time ≤ℤ (bounds of_next.item).left
          upto time is =
              let (other, is_served, begins) = holds_entered.time time is in
              subst (λ (t : ℤ). t ≤ℤ (bounds of_next.item).left) begins (behind other is_served)

          no_less : (x time : ℤ) (o : Ordering) → MatchOrdering o (x <ℤ time) (x ≡ time) (time <ℤ x) → time ≤ℤ x → is_lt o ≡ false
          no_less x time Less below order = absurd (omega (arith, ints))
          no_less x time Equal same order = refl
          no_less x time Greater above order = refl

          told : (latest : Option ℤ) → ((time : ℤ) → latest ≡ Some time → time ≤ℤ (bounds of_next.item).left) → NotBefore int_cmp latest (bounds of_next.item).left
          told None order = refl
          told (Some time) order = no_less (bounds of_next.item).left time (int_cmp (bounds of_next.item).left time) (int_ranked (bounds of_next.item).left time (int_cmp (bounds of_next.item).left time) refl) (order time refl)

      -- it is served
      pub Served-more : (after : SweepStatus X) (item : X) (later : List (ℕ × ℕ)) → item ≡ get_or items (get_or parts k d).place item → after.buckets ≡ entered.buckets → (after.latest ≡ entered.latest) ⊎ (after.latest ≡ Some (bounds item).left)
          → Serves bounds Meeting strips (get_or parts k d).strip (placed_at (get_or parts k d).place item) entered.buckets entered.members after.members now later
          → Served bounds Meeting strips items parts (k + 1) (get_or parts k d).strip after before later
      Served-more after item later read same_buckets asked serves = record {
        over = subst (IsOverStrip strips) (sym same_buckets) over_entered;
        upto = subst (All (λ part. part.strip ≤ next.strip)) (sym (take_more parts k d inside))
            (All-push (λ part. part.strip ≤ next.strip) (take k parts) next
            (All-weaker (λ part. part.strip ≤ strip) (λ part. part.strip ≤ next.strip) (λ part low. let high = served.ahead k d (omega arith) inside in omega (arith, low, high)) (take k parts) served.upto)
            (omega arith));
        ahead = λ j f from within. later_strip j f (omega (arith, from)) within;
        holds = subst (λ (all : List Part). Holds bounds strips items after.buckets all next.strip after.latest after.members) (sym more)
            (subst (λ (b : Buckets). Holds bounds strips items b (take k parts ++ part ∷ []) next.strip after.latest after.members) (sym same_buckets)
            (Holds-served boxed strips items entered.buckets (take k parts) next.strip entered.latest entered.members after.members holds_entered placed of_next.stands unserved behind now later serves'
            after.latest (⊎_elim (λ same. inl same) (λ now. inr (now ∙ ap (λ (one : X). Some (bounds one).left) (sym (its_item item read)))) asked)));
        pairs = served.pairs ++ serves'.asks.gains.0;
        gained = serves'.asks.gains.1 ∙ ap (λ (front : List (ℕ × ℕ)). front ++ serves'.asks.gains.0) served.gained ∙ append_assoc before served.pairs serves'.asks.gains.0;
        told = subst (λ (all : List Part). AreTold bounds Meeting strips items all (served.pairs ++ serves'.asks.gains.0)) (sym more)
            (AreTold-served boxed strips items entered.buckets (take k parts) next.strip entered.latest entered.members after.members holds_entered placed of_next.stands unserved behind now later serves'
            over_entered (above_at next.place of_next.item of_next.stands) of_next.reaches (λ other is_served. above_at other.place other.item is_served.stands) reach_of served.pairs served.told);
      }
        where
          placed : (Placed X)
          placed = placed_at next.place of_next.item

          part : Part
          part = part_of next.place (bounds of_next.item) next.strip

          serves' : Serves bounds Meeting strips next.strip placed entered.buckets entered.members after.members now later
          serves' = subst (λ (one : X). Serves bounds Meeting strips next.strip (placed_at next.place one) entered.buckets entered.members after.members now later) (sym (its_item item read)) serves

          more : take (k + 1) parts ≡ take k parts ++ part ∷ []
          more = take_more parts k d inside ∙ ap (λ (last : Part). take k parts ++ last ∷ []) of_next.is

          later_strip : (j : ℕ) (f : Part) → k < j → j < length parts → next.strip ≤ (get_or parts j f).strip
          later_strip j f below within =
              let order : NotBehind next (get_or parts j f) = subst (λ (one : Part). NotBehind one (get_or parts j f)) (get_or_default parts k f d inside) (are.in_order k j f below within) in
              elim order [
                | inl less ↦ omega (arith, less)
                | inr (same, _) ↦ omega (arith, same)
              ]
