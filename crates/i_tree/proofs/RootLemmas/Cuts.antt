-- A search cuts a list in two, and answers the last pair in front of the cut.
use Rattle.std.proofs.Common.{◌≡◌, ℕ, ◌+◌, ◌-◌, ◌<◌, ◌≤◌, Bool, true, false, not, Some, List, [], ◌∷◌, ◌++◌, length, get_or, slice_get, sym, ap, ◌∙◌, inl, inr, arith, append_assoc, length-append}
use Rattle.std.proofs.Math.Seq.{get_or-append_seam}
use Rattle.std.specs.Cmp.{IsTotalOrder}
use Rattle.std.specs.List.Sorted.{IsPartitionPoint, IsPartitionedBy}
use Rattle.std.specs.Ordering.{is_gt}
use Rattle.std.specs.declared.cmp.Ordering.{Ordering}
use Rattle.std.proofs.lemmas.Bool.{both_ways, false_from_ne_true}
use Rattle.std.proofs.lemmas.Option.{slice_get-get_or}
use Rattle.i_tree.proofs.RootLemmas.RisingKeys.{AtMost-at_count}
use Rattle.i_tree.specs.Root.Answer.{AtMost, IsMonotone}
use Rattle.i_tree.specs.Root.Ends.{LastFinds, StartsIn}
use Rattle.i_tree.specs.Root.Pairs.{IsRising}

module _ {K V : Type 0} where
  -- the pairs that pass stand in front of the cut, and the value is that of the last of them, or the default
  pub record IsCutBy (test : K → Bool) (pairs : List (K × V)) (default value : V) : Type 0 where
    pub count : ℕ
    pub within : count ≤ length pairs
    pub splits : IsPartitionPoint (λ pair. test pair.0 ≡ true) (λ pair. test pair.0 ≡ false) pairs count
    pub none : count ≡ 0 → value ≡ default
    pub last : 0 < count → (pair : K × V) × (slice_get pairs (count - 1) ≡ Some pair) × (value ≡ pair.1)

  -- the value of a pair that passes
  abbrev pub FindsPassing : (K → Bool) → K × V → V → Type 0
  FindsPassing test pair value = (test pair.0 ≡ true) × (value ≡ pair.1)

  module _ (test : K → Bool) (default value : V) (back : List (K × V)) where
    from_cut : (front : List (K × V)) → IsPartitionedBy (λ (pair : K × V). test pair.0) (front ++ back) → StartsIn (λ (pair : K × V). test pair.0 ≡ false) back
        → (k : ℕ) (d : K × V) → length front ≤ k → k < length (front ++ back) → test (get_or (front ++ back) k d).0 ≡ false
    from_cut front parted starts k d from within =
        false_from_ne_true (test (get_or (front ++ back) k d).0) (λ passes. by_back back starts (omega (arith, from, within, length-append front back)) (parted (length front) k d from within passes))
      where
        by_back : (back : List (K × V)) → StartsIn (λ (pair : K × V). test pair.0 ≡ false) back → 0 < length back → test (get_or (front ++ back) (length front) d).0 ≡ true → ⊥
        by_back [] starts some passes = absurd (omega (arith, some))
        by_back (pair ∷ rest) starts some passes = both_ways (test pair.0) starts (ap (λ (p : K × V). test p.0) (sym (get_or-append_seam front pair rest d)) ∙ passes)

    -- the last pair in front of a cut passes, and the first one behind it doesn't
    pub cut_between : (front : List (K × V)) → IsPartitionedBy (λ (pair : K × V). test pair.0) (front ++ back) → LastFinds (FindsPassing test) default front value
        → StartsIn (λ (pair : K × V). test pair.0 ≡ false) back → IsCutBy test (front ++ back) default value
    cut_between front parted (inl (none, is)) starts =
        let empty : length front ≡ 0 = ap length none in
        record {
          count = length front;
          within = omega (arith, length-append front back);
          splits = (λ k d from below. absurd (omega (arith, below, empty)), from_cut front parted starts);
          none = λ _. is;
          last = λ some. absurd (omega (arith, some, empty));
        }
    cut_between front parted (inr (rest, last, cut, (passes, is))) starts =
        let long : length front ≡ length rest + 1 = omega (arith, ap length cut, length-append rest (last ∷ [])) in
        let whole : front ++ back ≡ rest ++ last ∷ back = ap (λ pairs. pairs ++ back) cut ∙ append_assoc rest (last ∷ []) back in
        let read = λ (d : K × V). ap (λ pairs. get_or pairs (length rest) d) whole ∙ get_or-append_seam rest last back d in
        record {
          count = length front;
          within = omega (arith, length-append front back);
          splits = (
            λ k d from below. parted k (length rest) d (omega (arith, below, long)) (omega (arith, long, length-append front back)) (ap (λ (p : K × V). test p.0) (read d) ∙ passes),
            from_cut front parted starts,
          );
          none = λ empty. absurd (omega (arith, empty, long));
          last = λ some. (
            last,
            ap (slice_get (front ++ back)) (omega (arith, long)) ∙ slice_get-get_or (front ++ back) (length rest) last (omega (arith, long, length-append front back)) ∙ ap Some (read last),
            is,
          );
        }

-- what the value of a cut is
module _ {K V : Type 0} {cmp : K → K → Ordering} (o : IsTotalOrder cmp) (pairs : List (K × V)) (default value : V) (rising : IsRising cmp pairs) where
  pub at_most_at_cut : (order : K → Ordering) → IsMonotone cmp order pairs → IsCutBy (λ other. not (is_gt (order other))) pairs default value → AtMost cmp pairs order default value
  at_most_at_cut order monotone cut = AtMost-at_count o pairs order cut.count default value rising monotone cut.splits cut.within cut.none cut.last
