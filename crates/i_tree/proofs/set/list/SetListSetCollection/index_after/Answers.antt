use Rattle.std.proofs.Common.{◌≡◌, ◌+◌, length, refl, ap, arith}
use Rattle.i_tree.proofs.SetLemmas.Positions.{AreApart-viewed, HasHandle-inside, first_handle_is, inside_from_HasHandle}
use Rattle.i_tree.proofs.set.list.SetListSetCollection.index_after.Goals as goal

pub overflow_add-next : goal.overflow_add-next
overflow_add-next g c =
    omega (arith, inside_from_HasHandle c.args.self.now.values c.args.index c.requires, c.self.invariant, ap (λ list. length list.values) c.self.view_is)

pub returns-then-next-count-clause-value : goal.returns-then-next-count-clause-value
returns-then-next-count-clause-value g c front value back cut =
    let long : c.len-count.result ≡ length c.args.self.now.values = omega (arith, c.len-count.ensures, c.self.inside.values.ok.0, ap (λ list. length list.values) c.self.view_is) in
    first_handle_is c.args.self.now.values front c.args.index value back (c.args.index + 1) cut (λ last. absurd (omega (arith, last, long, c.if-next-count.true))) (λ later. refl)

pub returns-then-next-count-clause-live : goal.returns-then-next-count-clause-live
returns-then-next-count-clause-live g c some =
    HasHandle-inside c.args.self.now.values (c.args.index + 1) (omega (arith, c.if-next-count.true, c.len-count.ensures, c.self.inside.values.ok.0, ap (λ list. length list.values) c.self.view_is))

pub returns-then-next-count-clause-handles : goal.returns-then-next-count-clause-handles
returns-then-next-count-clause-handles g c = AreApart-viewed c.self.view_is c.self.invariant

pub returns-else-next-count-clause-value : goal.returns-else-next-count-clause-value
returns-else-next-count-clause-value g c front value back cut =
    let long : c.len-count.result ≡ length c.args.self.now.values = omega (arith, c.len-count.ensures, c.self.inside.values.ok.0, ap (λ list. length list.values) c.self.view_is) in
    first_handle_is c.args.self.now.values front c.args.index value back _ cut (λ last. refl) (λ later. absurd (omega (arith, later, long, c.if-next-count.false)))

pub returns-else-next-count-clause-handles : goal.returns-else-next-count-clause-handles
returns-else-next-count-clause-handles g c = AreApart-viewed c.self.view_is c.self.invariant
