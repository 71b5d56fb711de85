use Rattle.std.proofs.Common.{◌≡◌, true, false, not, is_some, Option, None, Some, Result, Ok, Err, refl, sym, ap}
use Rattle.std.specs.Ordering.{is_gt, is_lt}
use Rattle.i_tree.proofs.ExpiringLemmas.Insertion.{IfOk-joined, OnErr-joined}
use Rattle.i_tree.proofs.KeyLemmas.Insertion.{gains_or_loses, is_new, new_or_present, refused_new, rising_after}
use Rattle.std.proofs.lemmas.Result.{on_err_weaker}
use Rattle.i_tree.proofs.RootLemmas.Results.{IfOk-both}
use Rattle.std.specs.declared.cmp.Ordering.{Ordering}
use Rattle.i_tree.proofs.ExpiringLemmas.SearchPath.{not_gt-lt, path_live}
use Rattle.i_tree.specs.Expiring.Insertion.{InsertsOrLeaves, has_joined}
use Rattle.i_tree.specs.Expiring.Tree.{items, TreeLeaves}
use Rattle.i_tree.specs.Key.KeyExpTree.{KeyTreeInserts}
use Rattle.i_tree.specs.Root.Live.{is_live}
use Rattle.i_tree.specs.Root.Pairs.{IsRising}
use Rattle.i_tree.specs.declared.Refusal.{Refusal}
use Rattle.i_tree.proofs.key.tree.KeyExpTree.insert_new_counted.Goals as goal

pub returns-clause-cases : goal.returns-clause-cases
returns-clause-cases g c =
    rw (c.has_joined.ensures, ← c.self.view_is)
    (IfOk-both (has_joined c.insert_between.result) c.insert_between.ensures.pairs.joins c.insert_between.ensures.pairs.equal
    (λ is_new joins equal. new_or_present g.met.K.Ord.total c.args.key (is_live g.K.ExpiredKey.expiration g.E.Ord.cmp c.args.time) c.args.val (items c.self.inside.core.shape) (items c.insert_between.new.core.shape) c.self.invariant is_new joins equal))

pub returns-clause-ok : goal.returns-clause-ok
returns-clause-ok g c =
    rw (c.has_joined.ensures, ← c.self.view_is)
    (IfOk-both (has_joined c.insert_between.result) c.insert_between.ensures.pairs.joins c.insert_between.ensures.pairs.equal
    (λ is_new joins equal. gains_or_loses g.met.K.Ord.total c.args.key (is_live g.K.ExpiredKey.expiration g.E.Ord.cmp c.args.time) c.args.val (items c.self.inside.core.shape) (items c.insert_between.new.core.shape) c.self.invariant is_new joins))

pub returns-clause-err_new : goal.returns-clause-err_new
returns-clause-err_new g c =
    rw (c.has_joined.ensures, ← c.self.view_is)
    (on_err_weaker (has_joined c.insert_between.result)
    (refused_new g.met.K.Ord.total c.args.key (is_live g.K.ExpiredKey.expiration g.E.Ord.cmp c.args.time) (items c.self.inside.core.shape) c.self.invariant) c.insert_between.ensures.pairs.refused)

rising : (g : _) (c : goal.After-has_joined g) (told : Result (Option _) Refusal) → c.insert_between.result ≡ told → IsRising g.K.Ord.cmp (items c.insert_between.new.core.shape)
rising g c (Ok told) is =
    rising_after g.met.K.Ord.total c.args.key (is_live g.K.ExpiredKey.expiration g.E.Ord.cmp c.args.time) c.args.val (items c.self.inside.core.shape) (items c.insert_between.new.core.shape) c.self.invariant (is_some told)
    (rw is at c.insert_between.ensures.pairs.joins)
rising g c (Err cause) is =
    let same : c.insert_between.new.core ≡ c.self.inside.core = rw is at c.insert_between.ensures.inserts.err in
    rw same c.self.invariant

pub returns-clause-rising : goal.returns-clause-rising
returns-clause-rising g c = rising g c c.insert_between.result refl

pub invariant_of-self : goal.invariant_of-self
invariant_of-self g c = rising g c c.insert_between.result refl

-- a key passes where it isn't greater, which is where it is lower, but for one that compares Equal
adds : (g : _) (c : goal.After-has_joined g) (told : Result (Option _) Refusal) → c.insert_between.result ≡ told
    → InsertsOrLeaves (λ done. KeyTreeInserts g.K.ExpiredKey.expiration g.K.Ord.cmp g.E.Ord.cmp c.args.key c.args.time c.self.inside.core done c.insert_between.new.core) (TreeLeaves c.self.inside.core c.insert_between.new.core) (has_joined told)
adds g c (Ok (Some neighbours)) is =
    let lives = is_live g.K.ExpiredKey.expiration g.E.Ord.cmp c.args.time in
    let old = c.self.inside.core in
    let absent = is_new g.met.K.Ord.total c.args.key lives (items old.shape) c.self.invariant c.args.val (items c.insert_between.new.core.shape) (rw is at c.insert_between.ensures.pairs.joins) in
    record {
      core = c.insert_between.ensures.inserts.core;
      err = tt;
      with_spare = λ _. refl;
      err_way = tt;
      full = λ none full all.
          let refused : true ≡ false = rw is at (c.insert_between.ensures.inserts.full none full (λ other. not (is_gt (g.K.Ord.cmp other c.args.key))) (λ other answer says. ap (λ (r : Ordering). not (is_gt r)) says)
          (path_live g.K.Ord.cmp c.args.key lives (λ other. is_lt (g.K.Ord.cmp other c.args.key)) (λ other. not (is_gt (g.K.Ord.cmp other c.args.key))) (λ other differs. sym (not_gt-lt _ differs)) old.shape absent all)) in
          sym refused;
      no_handle = λ _. tt;
      refused = λ _. tt;
      slots = rw is at c.insert_between.ensures.inserts.slots;
    }
adds g c (Ok None) is = record { core = c.insert_between.ensures.inserts.core; slots = rw is at c.insert_between.ensures.inserts.slots }
adds g c (Err cause) is =
    let lives = is_live g.K.ExpiredKey.expiration g.E.Ord.cmp c.args.time in
    let old = c.self.inside.core in
    let absent = refused_new g.met.K.Ord.total c.args.key lives (items old.shape) c.self.invariant (rw is at c.insert_between.ensures.pairs.refused) in
    record {
      core = c.insert_between.ensures.inserts.core;
      err = rw is at c.insert_between.ensures.inserts.err;
      with_spare = rw is at c.insert_between.ensures.inserts.with_spare;
      err_way =
          path_live g.K.Ord.cmp c.args.key lives (λ other. not (is_gt (g.K.Ord.cmp other c.args.key))) (λ other. is_lt (g.K.Ord.cmp other c.args.key)) (λ other. not_gt-lt _) old.shape absent
          ((rw is at c.insert_between.ensures.inserts.err_way) (λ other. not (is_gt (g.K.Ord.cmp other c.args.key))) (λ other answer says. ap (λ (r : Ordering). not (is_gt r)) says));
      full = λ none full all. refl;
      no_handle = rw is at c.insert_between.ensures.inserts.no_handle;
      refused = rw is at c.insert_between.ensures.inserts.refused;
      slots = tt;
    }

pub returns-clause-inserts : goal.returns-clause-inserts
returns-clause-inserts g c = rw (c.has_joined.ensures, ← c.self.view_is) (adds g c c.insert_between.result refl)

pub returns-clause-steps : goal.returns-clause-steps
returns-clause-steps g c = rw (c.has_joined.ensures, ← c.self.view_is) (IfOk-joined c.insert_between.result _ c.insert_between.ensures.steps)

pub returns-clause-err_steps : goal.returns-clause-err_steps
returns-clause-err_steps g c = rw (c.has_joined.ensures, ← c.self.view_is) (OnErr-joined c.insert_between.result _ c.insert_between.ensures.err_steps)
