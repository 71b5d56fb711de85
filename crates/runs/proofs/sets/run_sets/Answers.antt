use Rattle.std.proofs.Common.{rules, ◌≡◌, ◌≤◌, ◌+◌, ◌++◌, [], ◌∷◌, refl, sym, ap, ◌∙◌, arith, append_assoc, append-nil, length, vec_len, vec_capacity}
use Rattle.std.specs.Vec.Iter.{into_iter_items}
use Rattle.i_tree.specs.Set.Pairs.{values}
use Rattle.runs.proofs.RunLemmas.SetRoom.{keeps_none, keeps-push}
use Rattle.runs.proofs.RunLemmas.Chain.{Chain-push}
use Rattle.runs.specs.SetMachine.{Step}
use Rattle.runs.proofs.sets.run_sets.Goals as goal

pub loop-command-init : goal.loop-command-init
loop-command-init g c =
    let gives = c.into_iter-command-iterator.ensures.into_iter_gives in
    let room : vec_len c.reserve.new.self + c.len.result ≤ vec_capacity c.reserve.new.self = search rules in
    let kept : c.reserve.new.self.items ≡ c.args.out.now.items ++ [] = rw append-nil c.reserve.ensures.items in
    record {
      can_next = tt;
      is_finite = tt;
      in_all = gives.0;
      room = omega (arith, room, c.len.ensures, gives.1);
      in_order = c.requires;
      so_far = ([], kept, keeps_none (g.C.SetCollection.room c.args.c.now) (length (g.C.SetCollection.pairs c.args.c.now)), refl);
    }

pub loop-command-preserved : goal.loop-command-preserved
loop-command-preserved g c =
    let (replies, are, keeps, run) = c.loop-command.invariant.so_far in
    let steps = c.in-Some.ensures.steps in
    let reply = c.serve-reply.result in
    let command = c.in-Some.command in
    let pairs = g.C.SetCollection.pairs in
    let room = g.C.SetCollection.room in
    record {
      can_next = tt;
      is_finite = tt;
      in_all =
          append_assoc c.loop-command.yielded (command ∷ []) (into_iter_items c.next.new.self)
          ∙ ap (λ rest. c.loop-command.yielded ++ rest) (sym steps.0)
          ∙ c.loop-command.invariant.in_all;
      room = omega (arith, c.loop-command.invariant.room, steps.1, c.push_reserved.ensures.len, c.push_reserved.ensures.capacity);
      in_order = c.serve-reply.ensures.in_order;
      so_far = (
        replies ++ reply ∷ [],
        rw (c.push_reserved.ensures.items, are) (append_assoc c.args.out.now.items replies (reply ∷ [])),
        keeps-push replies reply (room c.args.c.now) (length (pairs c.args.c.now)) (room c.loop-command.c) (length (pairs c.loop-command.c)) (room c.serve-reply.new.c) (length (pairs c.serve-reply.new.c)) keeps c.serve-reply.ensures.room,
        Chain-push (Step g.V.KeyValue.key_of g.K.Ord.cmp) (values (pairs c.args.c.now)) (values (pairs c.loop-command.c)) (values (pairs c.serve-reply.new.c)) c.loop-command.yielded replies command reply run c.serve-reply.ensures.step,
      );
    }
