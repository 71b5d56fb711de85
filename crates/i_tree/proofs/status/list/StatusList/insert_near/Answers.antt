use Rattle.std.proofs.Common.{◌≡◌, None, Some, List, drop, take, sym, subst, ap, ◌∙◌, arith}
use Rattle.std.specs.List.{Any, insert}
use Rattle.std.proofs.lemmas.Bool.{false≢true}
use Rattle.std.proofs.lemmas.Result.{MatchResult-from_err, err_from_is_err_and}
use Rattle.i_tree.proofs.ExpiringLemmas.Insertion.{IfOk-joined, OnErr-joined, RefusedFor-joined}
use Rattle.i_tree.proofs.ExpiringLemmas.List.{all_stayed, had_no_spare, none_spare, none_was_expired}
use Rattle.i_tree.proofs.StatusLemmas.ListInsertion.{IsPlaced, joins_placed, neighbours_placed, none_equal}
use Rattle.i_tree.specs.Expiring.Live.{live_pairs, IsExpired}
use Rattle.i_tree.specs.Root.Ends.{FirstFinds, LastFinds}
use Rattle.i_tree.specs.Root.Live.{is_live}
use Rattle.i_tree.specs.Status.Insertion.{JoinsAlong}
use Rattle.i_tree.specs.declared.Refusal.TheVariants.{OutOfMemory}
use Rattle.i_tree.proofs.status.list.StatusList.insert_near.Goals as goal

-- a live key is called Equal
pub returns-in_default-clause-cases : goal.returns-in_default-clause-cases
returns-in_default-clause-cases g c = rw (← c.self.view_is, ← c.remove_expired.ensures.leaves.keeps_live, ← c.pairs.ensures) c.in_default.ensures.place

pub returns-in_default-clause-ok : goal.returns-in_default-clause-ok
returns-in_default-clause-ok g c = rw (← c.self.view_is) c.remove_expired.ensures.kept

-- a refusal leaves the list that is left as it is, and nothing had gone
full : (g : _) (c : goal.After-from_residual g) → c.remove_expired.new.self.spare ≡ 0
full g c = none_spare c.remove_expired.new.self.spare (c.in_err-put.ensures).with_spare

stays : (g : _) (c : goal.After-from_residual g) → c.put.new.self ≡ c.args.self.now
stays g c =
    (c.in_err-put.ensures).err
    ∙ all_stayed g.K.ExpiredVal.expiration g.E.Ord.cmp c.args.time c.self.inside.held c.remove_expired.new.self c.remove_expired.ensures.leaves (full g c)
    ∙ c.self.view_is

pub returns-in_err-put-clause-err : goal.returns-in_err-put-clause-err
returns-in_err-put-clause-err g c =
    MatchResult-from_err c.from_residual.result _ _ c.from_residual.ensures.0 (λ _. stays g c)

pub returns-in_err-put-clause-with_spare : goal.returns-in_err-put-clause-with_spare
returns-in_err-put-clause-with_spare g c few =
    absurd (omega (arith, few, ap (λ list. list.spare) c.self.view_is, had_no_spare g.K.ExpiredVal.expiration g.E.Ord.cmp c.args.time c.self.inside.held c.remove_expired.new.self c.remove_expired.ensures.leaves (full g c)))

pub returns-in_err-put-clause-err_new : goal.returns-in_err-put-clause-err_new
returns-in_err-put-clause-err_new g c =
    let live = live_pairs g.K.ExpiredVal.expiration g.E.Ord.cmp {V = g.row.V.Denot} c.args.time in
    MatchResult-from_err c.from_residual.result _ _ c.from_residual.ensures.0 (λ _.
    none_equal (is_live g.K.ExpiredVal.expiration g.E.Ord.cmp c.args.time) (goal.F-post g c.args.f) c.args.self.now.pairs c.in-Some.place
    (subst (IsPlaced (is_live g.K.ExpiredVal.expiration g.E.Ord.cmp c.args.time) (goal.F-post g c.args.f) c.args.self.now.pairs c.in-Some.place) (c.pairs.ensures ∙ c.remove_expired.ensures.leaves.keeps_live ∙ ap (λ list. live list.pairs) c.self.view_is)
    (c.in-Some.ensures).place))

pub returns-in_err-put-clause-inserts : goal.returns-in_err-put-clause-inserts
returns-in_err-put-clause-inserts g c =
    record {
      keeps_live = IfOk-joined c.from_residual.result _ (MatchResult-from_err c.from_residual.result _ _ c.from_residual.ensures.0 (λ _. tt));
      err = OnErr-joined c.from_residual.result _ (MatchResult-from_err c.from_residual.result _ _ c.from_residual.ensures.0 (λ _. stays g c));
      refused = let p = err_from_is_err_and c.from_residual.result c.from_residual.ensures.1 in rw p.1 (p.2 ∙ (c.in_err-put.ensures).refused);
      with_spare = λ room.
          absurd (omega (arith, room, ap (λ list. list.spare) c.self.view_is, had_no_spare g.K.ExpiredVal.expiration g.E.Ord.cmp c.args.time c.self.inside.held c.remove_expired.new.self c.remove_expired.ensures.leaves (full g c)));
      with_expired = λ expired.
          absurd (false≢true (none_was_expired g.K.ExpiredVal.expiration g.E.Ord.cmp c.args.time c.self.inside.held c.remove_expired.new.self c.remove_expired.ensures.leaves (full g c)
          (subst (λ list. Any (IsExpired g.K.ExpiredVal.expiration g.E.Ord.cmp {V = g.row.V.Denot} c.args.time) list.pairs) (sym c.self.view_is) expired)));
    }

pub returns-in_err-put-clause-refused : goal.returns-in_err-put-clause-refused
returns-in_err-put-clause-refused g c = RefusedFor-joined c.from_residual.result OutOfMemory (returns-in_err-put-clause-inserts g c).refused

-- what an insertion that has room leaves: the pair has joined the live ones at its place
pub returns-clause-cases : goal.returns-clause-cases
returns-clause-cases g c =
    let live = live_pairs g.K.ExpiredVal.expiration g.E.Ord.cmp {V = g.row.V.Denot} c.args.time in
    none_equal (is_live g.K.ExpiredVal.expiration g.E.Ord.cmp c.args.time) (goal.F-post g c.args.f) c.args.self.now.pairs c.in-Some.place
    (subst (IsPlaced (is_live g.K.ExpiredVal.expiration g.E.Ord.cmp c.args.time) (goal.F-post g c.args.f) c.args.self.now.pairs c.in-Some.place) (c.pairs.ensures ∙ c.remove_expired.ensures.leaves.keeps_live ∙ ap (λ list. live list.pairs) c.self.view_is)
    (c.in-Some.ensures).place)

pub returns-clause-ok : goal.returns-clause-ok
returns-clause-ok g c =
    let live = live_pairs g.K.ExpiredVal.expiration g.E.Ord.cmp {V = g.row.V.Denot} c.args.time in
    let lives = is_live g.K.ExpiredVal.expiration g.E.Ord.cmp c.args.time in
    subst (JoinsAlong lives (goal.F-post g c.args.f) (c.args.key, c.args.val) c.args.self.now.pairs)
    (sym ((c.in_ok-put.ensures).ok ∙ ap (λ pairs. insert pairs c.in-Some.place (c.args.key, c.args.val)) (c.remove_expired.ensures.leaves.keeps_live ∙ ap (λ list. live list.pairs) c.self.view_is)))
    (joins_placed lives (goal.F-post g c.args.f) c.args.self.now.pairs c.in-Some.place
    (subst (IsPlaced lives (goal.F-post g c.args.f) c.args.self.now.pairs c.in-Some.place) (c.pairs.ensures ∙ c.remove_expired.ensures.leaves.keeps_live ∙ ap (λ list. live list.pairs) c.self.view_is) (c.in-Some.ensures).place)
    (c.args.key, c.args.val))

pub returns-clause-neighbours : goal.returns-clause-neighbours
returns-clause-neighbours g c =
    let live = live_pairs g.K.ExpiredVal.expiration g.E.Ord.cmp {V = g.row.V.Denot} c.args.time in
    let lives = is_live g.K.ExpiredVal.expiration g.E.Ord.cmp c.args.time in
    let left = c.remove_expired.ensures.leaves.keeps_live ∙ ap (λ list. live list.pairs) c.self.view_is in
    neighbours_placed lives (goal.F-post g c.args.f) c.args.self.now.pairs c.in-Some.place
    (subst (IsPlaced lives (goal.F-post g c.args.f) c.args.self.now.pairs c.in-Some.place) (c.pairs.ensures ∙ left) (c.in-Some.ensures).place)
    c.beside-neighbours.result
    (subst (λ (pairs : List (g.row.K.Denot × g.row.V.Denot)). LastFinds (λ pair held. held ≡ Some pair) None (take c.in-Some.place pairs) c.beside-neighbours.result.0) (c.pairs-2.ensures ∙ left) c.beside-neighbours.ensures.before)
    (subst (λ (pairs : List (g.row.K.Denot × g.row.V.Denot)). FirstFinds (λ pair held. held ≡ Some pair) None (drop c.in-Some.place pairs) c.beside-neighbours.result.1) (c.pairs-2.ensures ∙ left) c.beside-neighbours.ensures.behind)
