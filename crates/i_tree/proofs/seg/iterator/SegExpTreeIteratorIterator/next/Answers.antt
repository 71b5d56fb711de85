use Rattle.std.proofs.Common.{◌≡◌, Option, None, Some, List, [], ◌∷◌, MatchOption, length, refl, ap, ◌∙◌, subst, arith, IsPermutation}
use Rattle.std.specs.Iterator.{at_most, MakesProgress}
use Rattle.std.proofs.lemmas.List.Sorted.{IsPermutation-map, length_permutation}
use Rattle.i_tree.specs.Seg.Iterating.{CanGo, still_to_come}
use Rattle.i_tree.specs.Seg.Members.{Member, values_of}
use Rattle.i_tree.proofs.SegLemmas.Losing.{Cleans-ended}
use Rattle.i_tree.proofs.SegLemmas.NodesWalk.{to_come-ended}
use Rattle.i_tree.proofs.seg.iterator.SegExpTreeIteratorIterator.next.Goals as goal

-- one member was found of those that come: its value is one of theirs
values_found : {V : Type 0} (result : Option V) (come come' : List (Member V)) → (result ≡ None → come' ≡ [])
    → MatchOption result (come ≡ []) (λ value. (member : Member V) × (member.value ≡ value) × IsPermutation come (member ∷ come'))
    → MatchOption result ((values_of come ≡ []) × (values_of come' ≡ [])) (λ value. IsPermutation (values_of come) (value ∷ values_of come'))
values_found None come come' ended found = (ap values_of found, ap values_of (ended refl))
values_found {V = V} (Some value) come come' ended found =
    subst (λ (first : V). IsPermutation (values_of come) (first ∷ values_of come')) found.1 (IsPermutation-map (λ member. member.value) come (found.0 ∷ come') found.2)

-- and fewer are left
one_fewer : {V S : Type 0} (can : S → Type 0) (left : S → List V) (before after : S) (result : Option V) → can after
    → MatchOption result ((left before ≡ []) × (left after ≡ [])) (λ value. IsPermutation (left before) (value ∷ left after))
    → MakesProgress can (λ state. at_most (length (left state))) before result after
one_fewer can left before after None may found = record { on = λ _. tt; keeps = tt; rests = λ _. tt }
one_fewer can left before after (Some value) may found =
    let fewer = length_permutation (left before) (value ∷ left after) found in
    record { on = λ _. (may, tt, omega (arith, fewer)); keeps = may; rests = λ _. tt }

pub returns-clause-steps : goal.returns-clause-steps
returns-clause-steps g c =
    record {
      yields = values_found c.next_found.result _ _
          (λ none. to_come-ended g.V.ExpiredVal.expiration g.E.Ord.cmp c.args.self.now.time c.args.self.now.asked c.next_found.new.cursor.left c.next_found.new.cursor.index c.next_found.new.self.chunks (c.next_found.ensures.walk.ended none))
          c.next_found.ensures.walk.found;
      tree = refl;
      latest = c.next_found.ensures.latest;
      buckets = c.next_found.ensures.buckets;
      asked = refl;
      time = refl;
      members = c.next_found.ensures.members;
      loses = c.next_found.ensures.walk.loses;
      cleans = λ none.
          Cleans-ended g.V.ExpiredVal.expiration g.E.Ord.cmp c.args.self.now.time c.args.self.now.asked c.next_found.new.cursor.left c.next_found.new.cursor.index c.args.self.now.tree.now.chunks c.next_found.new.self.chunks
          (c.next_found.ensures.walk.ended none) c.next_found.ensures.walk.loses c.next_found.ensures.walk.passed;
      can = record {
        few = let few = c.requires.few in let same = c.next_found.ensures.walk.live.count in omega arith;
        within = c.next_found.ensures.walk.within;
        latest = c.next_found.ensures.latest ∙ c.requires.latest;
        passed = c.next_found.ensures.walk.passed;
      };
      copies = let gone = c.next_found.ensures.walk.steps.holds.removals in omega arith;
    }

pub returns-clause-goes : goal.returns-clause-goes
returns-clause-goes g c =
    one_fewer (CanGo g.V.ExpiredVal.expiration g.E.Ord.cmp) (still_to_come g.V.ExpiredVal.expiration g.E.Ord.cmp) _ _ c.next_found.result (returns-clause-steps g c).can (returns-clause-steps g c).yields
