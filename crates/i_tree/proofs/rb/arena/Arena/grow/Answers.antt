use Rattle.std.proofs.Common.{◌≡◌, ◌*◌, ◌<◌, ℕ, min, max, sym, ap, ◌∙◌, arith}
use Rattle.std.specs.Prelude.{⊤, Result, Ok, Err, IfErr}
use Rattle.std.proofs.lemmas.Result.{on_ok_weaker}
use Rattle.i_tree.specs.Rb.RbTree.{Contents, slots, slots_grown, slots_with_room}
use Rattle.i_tree.specs.declared.TheConstants.{EMPTY_REF}
use Rattle.i_tree.proofs.rb.arena.Arena.grow.Goals as goal
use Rattle.i_tree.proofs.rb.arena.Arena.grow.Goals.{After-reserve}

-- where none is free, so many slots are twice as many
without_spare : {T : Type 0} (contents : Contents T) (count : ℕ) → contents.spare ≡ 0 → slots contents < EMPTY_REF → count ≡ min (2 * slots contents) EMPTY_REF → max (slots contents) count ≡ slots_with_room contents
without_spare contents count none few is = omega (arith, few, is) ∙ ap (λ spare. slots_grown spare (slots contents)) (sym none)

-- there are as many slots as counted
counted : (g : _) (c : After-reserve g) → slots c.args.self.now ≡ c.len-count.result
counted g c = sym (ap (λ (contents : Contents g.row.T.Denot). slots contents) c.self.view_is) ∙ c.self.invariant.total ∙ sym c.self.inside.slots.ok.0 ∙ sym c.len-count.ensures

grown : (g : _) (c : After-reserve g) → max (slots c.args.self.now) c.min.result ≡ slots_with_room c.args.self.now
grown g c =
    without_spare c.args.self.now c.min.result c.requires (rw (counted g c) c.if-count.false) (c.min.ensures ∙ ap (λ count. min (2 * count) EMPTY_REF) (sym (counted g c)))

IfErr-from_none : {R E : Type 0} (result : Result R E) → IfErr result (λ _. ⊤)
IfErr-from_none (Ok _) = tt
IfErr-from_none (Err _) = tt

pub returns-clause-takes : goal.returns-clause-takes
returns-clause-takes g c =
    record {
      with_spare = λ some. absurd (omega (arith, some, c.requires));
      err = c.reserve.ensures.reserves.err;
      handed = IfErr-from_none c.reserve.result;
      no_handle = λ _ full. absurd (omega (arith, counted g c, full));
      refused = λ _. c.reserve.ensures.reserves.refused (omega arith);
      slots = on_ok_weaker c.reserve.result (λ is. is ∙ grown g c) c.reserve.ensures.reserves.slots;
    }
