use Rattle.std.proofs.Common.{◌≡◌, length, ap, ◌∙◌, arith, rules}
use Rattle.std.specs.List.{insert}
use Rattle.std.proofs.lemmas.List.Edits.{length-insert}
use Rattle.i_tree.proofs.SetLemmas.Positions.{AreApart-numbered, AreApart-viewed, same_contents}
use Rattle.i_tree.proofs.set.list.SetList.put.Goals as goal

pub returns-then-len-clause-handles : goal.returns-then-len-clause-handles
returns-then-len-clause-handles g c = AreApart-viewed c.self.view_is c.self.invariant

pub returns-in-Err-clause-inserts : goal.returns-in-Err-clause-inserts
returns-in-Err-clause-inserts g c =
    let e = c.in-Err.ensures in
    record {
      joins = search rules;
      with_spare = search rules;
      err = same_contents (e.items ∙ ap (λ list. list.values) c.self.view_is) (omega (arith, ap (λ list. list.spare) c.self.view_is, e.err, e.full, e.len));
      no_handle = search rules;
      refused = search rules;
      room = search rules;
    }

pub returns-in-Err-clause-handles : goal.returns-in-Err-clause-handles
returns-in-Err-clause-handles g c = AreApart-numbered c.reserve.new.self.items (omega (arith, c.self.invariant, ap length (c.in-Err.ensures).items))

-- what an insertion that has room leaves: the value has joined the others at its place
inserted : (g : _) (c : goal.After-insert_at g) → c.insert_at.new.items.items ≡ insert c.args.self.now.values c.args.place c.args.val
inserted g c =
    c.insert_at.ensures.items ∙ ap (λ values. insert values c.args.place c.args.val) (c.reserve.ensures.items ∙ ap (λ list. list.values) c.self.view_is)

pub returns-clause-handles : goal.returns-clause-handles
returns-clause-handles g c =
    AreApart-numbered c.insert_at.new.items.items
    (omega (arith, c.if-len.false, c.len.ensures, c.self.inside.values.ok.0, ap (λ list. length list.values) c.self.view_is, ap length (inserted g c), length-insert c.args.self.now.values c.args.place c.args.val c.requires.within))

pub returns-clause-inserts : goal.returns-clause-inserts
returns-clause-inserts g c =
    record {
      joins = (c.args.place, c.requires.within, c.requires.place, inserted g c);
      with_spare = search rules;
      err = search rules;
      no_handle = search rules;
      refused = search rules;
      room = search rules;
    }
