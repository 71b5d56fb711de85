use Rattle.std.proofs.Common.{◌≡◌, ◌<◌, ℕ, zero, suc, refl, subst, arith, rules}
use Rattle.i_tree.specs.Rb.RbTree.{Contents, slots, slots_grown, slots_with_room}
use Rattle.i_tree.proofs.rb.arena.Arena.make_room.Goals as goal

-- where a slot is free there is room
with_spare : {T : Type 0} (contents : Contents T) → 0 < contents.spare → slots contents ≡ slots_with_room contents
with_spare contents = by_spare contents.spare (slots contents)
  where
    by_spare : (spare count : ℕ) → 0 < spare → count ≡ slots_grown spare count
    by_spare zero count some = absurd (omega (arith, some))
    by_spare (suc spare) count some = refl

pub returns-then-self-gt0-clause-takes : goal.returns-then-self-gt0-clause-takes
returns-then-self-gt0-clause-takes g c =
    let some = subst (λ (contents : Contents g.row.T.Denot). 0 < contents.spare) c.self.view_is c.if-self-gt0.true in
    record {
      with_spare = search rules;
      err = search rules;
      handed = search rules;
      no_handle = λ none _. absurd (omega (arith, some, none));
      refused = search rules;
      slots = with_spare c.args.self.now some;
    }
