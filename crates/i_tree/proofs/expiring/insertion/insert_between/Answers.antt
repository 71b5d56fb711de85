use Rattle.std.proofs.Common.{◌≡◌, ◌+◌, ◌++◌, ◌∷◌, false, length, refl, sym, subst, ap, ◌∙◌, arith}
use Rattle.i_tree.proofs.ExpiringLemmas.Insertion.{calls_equal, handle_still, items_cut, none_removed, one_more, place_between, reads_still, slots_joined}
use Rattle.i_tree.proofs.ExpiringLemmas.Search.{answer_neighbours}
use Rattle.i_tree.proofs.ExpiringLemmas.SearchPath.{length-items}
use Rattle.i_tree.proofs.RbLemmas.SearchPath.Counts.{counted_join}
use Rattle.i_tree.proofs.RbLemmas.SearchPath.Entries.{values-append}
use Rattle.i_tree.proofs.RbLemmas.SearchPath.Search.{equal_from, not_equal_from}
use Rattle.i_tree.specs.Expiring.Insertion.{HasPlace}
use Rattle.i_tree.specs.Expiring.Tree.{items}
use Rattle.i_tree.specs.Root.Change.{Without}
use Rattle.i_tree.specs.Rb.RbTree.{Contents, slots}
use Rattle.i_tree.specs.Rb.Place.{IsPlaceBetween, place_below}
use Rattle.i_tree.specs.Rb.Shape.{entries}
use Rattle.i_tree.specs.Set.Pairs.{values}
use Rattle.i_tree.proofs.expiring.insertion.insert_between.Goals as goal

-- a live key was called Equal, and nothing joins
pub returns-then-is_eq-clause-pairs : goal.returns-then-is_eq-clause-pairs
returns-then-is_eq-clause-pairs g c =
    let end = c.descend-end.ensures.end in
    record {
      joins = c.descend-end.ensures.kept;
      equal = λ _. calls_equal (g.L.Liveness.live c.args.lives.now) (goal.F-post g c.args.stands.now) c.descend-end.new.core.shape (place_below c.descend-end.result.above c.descend-end.result.on_right) c.descend-end.result.last c.descend-end.result.said c.descend-end.result.next end
          (equal_from c.descend-end.result.said (sym c.is_eq.ensures ∙ c.if-is_eq.true));
      refused = tt;
    }

-- a refusal means that nothing was removed
none_gone : (g : _) (c : goal.In-Err g) → (c.descend-end.new.core.spare ≡ 0) × (length (entries c.descend-end.new.core.shape) ≡ length (entries c.args.core.now.shape))
none_gone g c = none_removed c.args.core.now c.descend-end.new.core c.args.steps.now c.descend-end.new.steps c.descend-end.ensures.slots (c.in-Err.ensures).takes.with_spare c.descend-end.ensures.steps

held : (g : _) (c : goal.In-Err g) → c.descend-end.new.core ≡ c.args.core.now
held g c = c.descend-end.ensures.same (none_gone g c).1

pub returns-in-Err-clause-pairs : goal.returns-in-Err-clause-pairs
returns-in-Err-clause-pairs g c =
    let end = c.descend-end.ensures.end in
    let live = g.L.Liveness.live c.args.lives.now in
    let May = goal.F-post g c.args.stands.now in
    let place = place_below c.descend-end.result.above c.descend-end.result.on_right in
    record {
      joins = tt;
      equal = tt;
      refused = subst (λ (contents : Contents (g.row.K.Denot × g.row.V.Denot)). HasPlace live May (items contents.shape)) (held g c)
          (values end.front, values end.back, items_cut live May _ place _ _ _ end, place_between live May _ place _ _ _ end (not_equal_from _ (sym c.is_eq.ensures ∙ c.if-is_eq.false)));
    }

pub returns-in-Err-clause-inserts : goal.returns-in-Err-clause-inserts
returns-in-Err-clause-inserts g c =
    let takes = (c.in-Err.ensures).takes in
    record {
      core = c.insert_at.ensures.core;
      err = takes.err ∙ held g c;
      with_spare = λ spare. absurd (omega (arith, spare, (none_gone g c).0, ap (λ contents. contents.spare) (held g c)));
      err_way = λ passes answers. c.descend-end.ensures.follows.all_live passes answers (none_gone g c).1;
      full = λ none full passes answers all. tt;
      no_handle = λ full. takes.no_handle (none_gone g c).0 (ap slots (held g c) ∙ full);
      refused = λ more. takes.refused (λ full. more (ap slots (sym (held g c)) ∙ full));
      slots = tt;
    }

-- the pair has joined
joined : (g : _) (c : goal.In_default g) → entries c.insert_at.new.self.shape ≡ c.descend-end.ensures.end.front ++ (c.in_default.field-0, c.args.pair) ∷ c.descend-end.ensures.end.back
joined g c =
    let end = c.descend-end.ensures.end in
    (c.in_default.ensures).joins end.front end.back (subst (IsPlaceBetween c.descend-end.new.core.shape end.front end.back) (sym c.place_below-place.ensures) end.between)

more : (g : _) (c : goal.In_default g) → length (entries c.insert_at.new.self.shape) ≡ length (entries c.descend-end.new.core.shape) + 1
more g c =
    let end = c.descend-end.ensures.end in
    one_more (entries c.descend-end.new.core.shape) (entries c.insert_at.new.self.shape) end.front (c.in_default.field-0, c.args.pair) end.back end.between.cut (joined g c)

pub returns-clause-pairs : goal.returns-clause-pairs
returns-clause-pairs g c =
    let end = c.descend-end.ensures.end in
    let live = g.L.Liveness.live c.args.lives.now in
    let May = goal.F-post g c.args.stands.now in
    let place = place_below c.descend-end.result.above c.descend-end.result.on_right in
    record {
      joins = (
        values end.front,
        values end.back,
        subst (Without (λ (other : g.row.K.Denot × g.row.V.Denot). live other.0 ≡ false) (items c.args.core.now.shape)) (items_cut live May _ place _ _ _ end) c.descend-end.ensures.kept,
        place_between live May _ place _ _ _ end (not_equal_from _ (sym c.is_eq.ensures ∙ c.if-is_eq.false)),
        ap values (joined g c) ∙ values-append end.front ((c.in_default.field-0, c.args.pair) ∷ end.back),
      );
      equal = λ is. absurd (cc is);
      refused = tt;
    }

pub returns-clause-inserts : goal.returns-clause-inserts
returns-clause-inserts g c =
    record {
      core = c.insert_at.ensures.core;
      err = tt;
      with_spare = λ _. refl;
      err_way = tt;
      full = λ none full passes answers all.
          let kept = c.descend-end.ensures.follows.none_gone passes answers all in
          let refused = (c.in_default.ensures).takes.no_handle (ap (λ contents. contents.spare) kept ∙ none) (ap slots kept ∙ full) in
          absurd (refused);
      no_handle = λ _. tt;
      refused = λ _. tt;
      slots = slots_joined c.args.core.now c.descend-end.new.core c.insert_at.new.self c.descend-end.ensures.slots (c.in_default.ensures).takes.slots (more g c);
    }

pub returns-clause-last : goal.returns-clause-last
returns-clause-last g c some =
    let end = c.descend-end.ensures.end in
    handle_still c.descend-end.new.core.shape c.insert_at.new.self.shape end.front (c.in_default.field-0, c.args.pair) end.back end.between.cut (joined g c) _ (c.descend-end.ensures.last some)

pub returns-clause-next : goal.returns-clause-next
returns-clause-next g c some =
    let end = c.descend-end.ensures.end in
    handle_still c.descend-end.new.core.shape c.insert_at.new.self.shape end.front (c.in_default.field-0, c.args.pair) end.back end.between.cut (joined g c) _ (c.descend-end.ensures.next some)

pub returns-clause-neighbours : goal.returns-clause-neighbours
returns-clause-neighbours g c found at =
    let end = c.descend-end.ensures.end in
    let reads = reads_still c.descend-end.new.core.shape c.insert_at.new.self.shape end.front (c.in_default.field-0, c.args.pair) end.back end.between.cut (joined g c) c.descend-end.ensures.core.handles.none_empty in
    answer_neighbours (g.L.Liveness.live c.args.lives.now) (goal.F-post g c.args.stands.now) c.descend-end.new.core.shape (place_below c.descend-end.result.above c.descend-end.result.on_right)
    c.descend-end.result.last c.descend-end.result.said _ end (items c.args.core.now.shape) c.descend-end.ensures.kept
    found.0 found.1 (reads c.descend-end.result.last found.0 at.0) (reads _ found.1 at.1)

pub returns-clause-steps : goal.returns-clause-steps
returns-clause-steps g c =
    counted_join g.met.C.Counter.law c.args.steps.now c.descend-end.new.steps c.insert_at.new.steps _ _ _ c.descend-end.ensures.steps (c.in_default.ensures).steps
    (length-items c.insert_at.new.self.shape ∙ more g c ∙ ap (λ n. n + 1) (sym (length-items c.descend-end.new.core.shape)))
