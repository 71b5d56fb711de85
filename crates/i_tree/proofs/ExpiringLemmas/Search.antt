-- What a descent answers: it cuts the live pairs behind those that aren't called Greater, and has the handles of both ends.
use Rattle.std.proofs.Common.{◌≡◌, ◌≢◌, ℕ, Bool, true, false, Option, None, Some, List, [], ◌∷◌, ◌++◌, refl, sym, ap, ◌∙◌, subst, inl, inr, append_assoc, arith}
use Rattle.std.specs.List.{All, AllPairs, filter}
use Rattle.std.specs.Ordering.{is_gt}
use Rattle.std.specs.declared.cmp.Ordering.{Ordering}
use Rattle.std.specs.declared.cmp.Ordering.TheVariants.{Greater}
use Rattle.std.proofs.lemmas.Bool.{both_ways}
use Rattle.std.proofs.lemmas.List.Elements.{All-head, All-weaker, filter-append}
use Rattle.i_tree.proofs.RbLemmas.SearchPath.Entries.{values-append}
use Rattle.i_tree.proofs.RbLemmas.Shape.SubtreeHandles.{live_from_cut}
use Rattle.i_tree.proofs.RootLemmas.Along.{All-above, All-at_most, AtMostAlong-from_last, IsFirst-at_cut, IsLast-at_cut, Rises, first_value, last_value}
use Rattle.i_tree.proofs.RootLemmas.Joined.{All-behind, All-front, AllPairs-behind, AllPairs-front}
use Rattle.i_tree.proofs.RootLemmas.Withouts.{filter-without}
use Rattle.i_tree.specs.Expiring.Descent.{DescendsBetween, FindsAbove, MayCall}
use Rattle.i_tree.specs.Expiring.Tree.{items}
use Rattle.i_tree.specs.Rb.SearchPath.{FindsNotAbove}
use Rattle.i_tree.specs.Rb.Shape.{Shape, entries, occurs, IsHandle}
use Rattle.i_tree.specs.Root.Along.{AboveAlong, AreNeighbours, AtMostAlong, ByEachOrder, IsFirst, IsLast, IsMonotoneAlong}
use Rattle.i_tree.specs.Root.Answer.{AnswersBy}
use Rattle.i_tree.specs.Root.Change.{Without}
use Rattle.i_tree.specs.Root.Ends.{FirstFinds, LastFinds, StartsIn}
use Rattle.i_tree.specs.Set.Pairs.{values}
use Rattle.i_tree.specs.declared.TheConstants.{EMPTY_REF}
use Rattle.i_tree.specs.declared.rb.place.Place.{Place}

-- what is read of the pair at a handle, or nothing where there is none
pub record ReadsAt {T R : Type 0} (of : T → R) (nothing : R) (tree : Shape T) (handle : ℕ) (held : R) : Type 0 where
  pub none_empty : occurs EMPTY_REF tree ≡ 0
  pub none : handle ≡ EMPTY_REF → held ≡ nothing
  pub some : handle ≢ EMPTY_REF → (front : List (ℕ × T)) (item : T) (back : List (ℕ × T)) → entries tree ≡ front ++ (handle, item) ∷ back → held ≡ of item

module _ {K V : Type 0} (is_live : K → Bool) where
  abbrev pub live : List (K × V) → List (K × V)
  live pairs = filter (λ pair. is_live pair.0) pairs

  live-append : (front back : List (ℕ × (K × V))) → live (values (front ++ back)) ≡ live (values front) ++ live (values back)
  live-append front back = ap live (values-append front back) ∙ filter-append (λ (pair : K × V). is_live pair.0) (values front) (values back)

  live-ends : (rest : List (ℕ × (K × V))) (entry : ℕ × (K × V)) → is_live entry.1.0 ≡ true → live (values (rest ++ entry ∷ [])) ≡ live (values rest) ++ entry.1 ∷ []
  live-ends rest entry lives = live-append rest (entry ∷ []) ∙ ap (λ (pairs : List (K × V)). live (values rest) ++ pairs) (rw lives refl)

  live-starts : (entry : ℕ × (K × V)) (rest : List (ℕ × (K × V))) → is_live entry.1.0 ≡ true → live (values (entry ∷ rest)) ≡ entry.1 ∷ live (values rest)
  live-starts entry rest lives = rw lives refl

  module _ (May : K → Ordering → Type 0) (tree : Shape (K × V)) (place : Place) (last : ℕ) (said : Ordering) (next : ℕ) (end : DescendsBetween is_live May tree place last said next) where
    pub live_cut : live (items tree) ≡ live (values end.front) ++ live (values end.back)
    live_cut = ap (λ (entries : List (ℕ × (K × V))). live (values entries)) end.between.cut ∙ live-append end.front end.back

    -- the tree is cut at the last entry in front of the place
    cut_last : (rest : List (ℕ × (K × V))) (entry : ℕ × (K × V)) → end.front ≡ rest ++ entry ∷ [] → last ≡ entry.0 → entries tree ≡ rest ++ (last, entry.1) ∷ end.back
    cut_last rest entry cut is =
        end.between.cut ∙ ap (λ list. list ++ end.back) cut ∙ append_assoc rest (entry ∷ []) end.back ∙ ap (λ handle. rest ++ (handle, entry.1) ∷ end.back) (sym is)

    -- the handles of both ends are handles of the tree
    pub last_found : last ≢ EMPTY_REF → IsHandle tree last
    last_found some = by_last end.before
      where
        by_last : LastFinds (FindsNotAbove (MayCall is_live May)) (EMPTY_REF, Greater) end.front (last, said) → IsHandle tree last
        by_last (inl (none, is)) = absurd (some (ap (λ (at : ℕ × Ordering). at.0) is))
        by_last (inr (rest, entry, cut, (is, may, passes))) = live_from_cut last tree rest entry.1 end.back (cut_last rest entry cut is)

    pub next_found : next ≢ EMPTY_REF → IsHandle tree next
    next_found some = by_back end.back end.between.cut end.after
      where
        by_back : (back : List (ℕ × (K × V))) → entries tree ≡ end.front ++ back → FirstFinds (FindsAbove is_live May) EMPTY_REF back next → IsHandle tree next
        by_back [] cut is = absurd (some is)
        by_back (entry ∷ rest) cut (called, is) = live_from_cut next tree end.front entry.1 rest (cut ∙ ap (λ handle. end.front ++ (handle, entry.1) ∷ rest) (sym is))

    -- what is read at them is that of the last live pair in front of the place, and of the first behind it
    module _ {R : Type 0} (of : K × V → R) (nothing held : R) where
      pub last_read : ReadsAt of nothing tree last held → LastFinds (λ pair is. is ≡ of pair) nothing (live (values end.front)) held
      last_read read = by_last end.before
        where
          by_last : LastFinds (FindsNotAbove (MayCall is_live May)) (EMPTY_REF, Greater) end.front (last, said) → LastFinds (λ pair is. is ≡ of pair) nothing (live (values end.front)) held
          by_last (inl (none, is)) = inl (ap (λ (entries : List (ℕ × (K × V))). live (values entries)) none, read.none (ap (λ (at : ℕ × Ordering). at.0) is))
          by_last (inr (rest, entry, cut, (is, may, passes))) =
              let whole = cut_last rest entry cut is in
              let stands = live_from_cut last tree rest entry.1 end.back whole in
              inr (
                live (values rest),
                entry.1,
                ap (λ (entries : List (ℕ × (K × V))). live (values entries)) cut ∙ live-ends rest entry may.0,
                read.some (λ empty. absurd (omega (arith, stands, read.none_empty, ap (λ handle. occurs handle tree) empty))) rest entry.1 end.back whole,
              )

      pub next_read : ReadsAt of nothing tree next held → FirstFinds (λ pair is. is ≡ of pair) nothing (live (values end.back)) held
      next_read read = by_back end.back end.between.cut end.after
        where
          by_back : (back : List (ℕ × (K × V))) → entries tree ≡ end.front ++ back → FirstFinds (FindsAbove is_live May) EMPTY_REF back next → FirstFinds (λ pair is. is ≡ of pair) nothing (live (values back)) held
          by_back [] cut is = read.none is
          by_back (entry ∷ rest) cut ((lives, may), is) =
              let whole = cut ∙ ap (λ handle. end.front ++ (handle, entry.1) ∷ rest) (sym is) in
              let stands = live_from_cut next tree end.front entry.1 rest whole in
              subst (λ (pairs : List (K × V)). FirstFinds (λ pair is. is ≡ of pair) nothing pairs held) (sym (live-starts entry rest lives))
              (read.some (λ empty. absurd (omega (arith, stands, read.none_empty, ap (λ handle. occurs handle tree) empty))) end.front entry.1 rest whole)

    -- by an order that is monotone along the live pairs, those in front of the place aren't called Greater, and those behind it are
    module _ (order : K → Ordering) (answers : AnswersBy May order (live (items tree))) (monotone : IsMonotoneAlong order (live (items tree))) where
      abbrev Says : K × V → Type 0
      Says pair = (answer : Ordering) → May pair.0 answer → answer ≡ order pair.0

      says : All Says (live (values end.front) ++ live (values end.back))
      says = subst (All Says) live_cut answers

      rises : AllPairs (Rises order) (live (values end.front) ++ live (values end.back))
      rises = subst (AllPairs (Rises order)) live_cut monotone

      pub front_at_most : All (λ pair. order pair.0 ≢ Greater) (live (values end.front))
      front_at_most =
          All-at_most order Greater said (λ pair answer. May pair.0 answer × (is_gt answer ≡ false)) Says (λ pair by_order (may, passes) above. both_ways (is_gt said) passes (ap is_gt (by_order said may ∙ above)))
          (live (values end.front)) (AllPairs-front (Rises order) (live (values end.front)) (live (values end.back)) rises)
          (All-front Says (live (values end.front)) (live (values end.back)) says) (by_last end.before)
        where
          by_last : LastFinds (FindsNotAbove (MayCall is_live May)) (EMPTY_REF, Greater) end.front (last, said) → LastFinds (λ pair answer. May pair.0 answer × (is_gt answer ≡ false)) Greater (live (values end.front)) said
          by_last (inl (none, is)) = inl (ap (λ (entries : List (ℕ × (K × V))). live (values entries)) none, ap (λ (at : ℕ × Ordering). at.1) is)
          by_last (inr (rest, entry, cut, (is, may, passes))) =
              inr (live (values rest), entry.1, ap (λ (entries : List (ℕ × (K × V))). live (values entries)) cut ∙ live-ends rest entry may.0, (may.1, passes))

      pub back_above : All (λ pair. order pair.0 ≡ Greater) (live (values end.back))
      back_above =
          All-above order (live (values end.back)) (AllPairs-behind (Rises order) (live (values end.front)) (live (values end.back)) rises)
          (by_back end.back end.after (All-behind Says (live (values end.front)) (live (values end.back)) says))
        where
          by_back : (back : List (ℕ × (K × V))) → FirstFinds (FindsAbove is_live May) EMPTY_REF back next → All Says (live (values back)) → StartsIn (λ (pair : K × V). order pair.0 ≡ Greater) (live (values back))
          by_back [] is all = tt
          by_back (entry ∷ rest) ((lives, may), is) all =
              let starts = live-starts entry rest lives in
              subst (StartsIn (λ (pair : K × V). order pair.0 ≡ Greater)) (sym starts) (sym (All-head Says entry.1 (live (values rest)) (subst (All Says) starts all) Greater may))

      pub is_last : (found : Option (K × V)) → LastFinds (λ pair is. is ≡ Some pair) None (live (values end.front)) found → IsLast (λ pair. order pair.0 ≢ Greater) (live (items tree)) found
      is_last found ends = grind (arith, live_cut, IsLast-at_cut, front_at_most, All-weaker, back_above)

      pub is_first : (found : Option (K × V)) → FirstFinds (λ pair is. is ≡ Some pair) None (live (values end.back)) found → IsFirst (λ pair. order pair.0 ≡ Greater) (live (items tree)) found
      is_first found starts = grind (arith, live_cut, IsFirst-at_cut, front_at_most, back_above)

    -- so a descent answers, by what was stored before it
    module _ (old : List (K × V)) (kept : Without (λ pair. is_live pair.0 ≡ false) old (items tree)) where
      by_left : (Holds : List (K × V) → (K → Ordering) → Type 0) → ByEachOrder May (live (items tree)) (Holds (live (items tree))) → ByEachOrder May (live old) (Holds (live old))
      by_left Holds holds = subst (λ (pairs : List (K × V)). ByEachOrder May pairs (Holds pairs)) (sym (filter-without (λ (pair : K × V). is_live pair.0) (λ x expired. expired) kept)) holds

      pub answer_at_most : (default value : V) → ReadsAt (λ pair. pair.1) default tree last value → ByEachOrder May (live old) (λ order. AtMostAlong order (live old) default value)
      answer_at_most default value read =
          by_left (λ pairs order. AtMostAlong order pairs default value)
          (λ order answers monotone.
          let (found, ends, is) = last_value default value (live (values end.front)) (last_read (λ pair. pair.1) default value read) in
          AtMostAlong-from_last order (live (items tree)) default value found monotone (is_last order answers monotone found ends) is)

      pub answer_above : (default value : V) → ReadsAt (λ pair. pair.1) default tree next value → ByEachOrder May (live old) (λ order. AboveAlong order (live old) default value)
      answer_above default value read =
          by_left (λ pairs order. AboveAlong order pairs default value)
          (λ order answers monotone.
          let (found, starts, is) = first_value default value (live (values end.back)) (next_read (λ pair. pair.1) default value read) in
          (found, is_first order answers monotone found starts, is))

      pub answer_neighbours : (before after : Option (K × V)) → ReadsAt (λ pair. Some pair) None tree last before → ReadsAt (λ pair. Some pair) None tree next after
          → ByEachOrder May (live old) (λ order. AreNeighbours order (live old) (before, after))
      answer_neighbours before after read_last read_next =
          by_left (λ pairs order. AreNeighbours order pairs (before, after))
          (λ order answers monotone. (
            is_last order answers monotone before (last_read (λ pair. Some pair) None before read_last),
            is_first order answers monotone after (next_read (λ pair. Some pair) None after read_next),
          ))
